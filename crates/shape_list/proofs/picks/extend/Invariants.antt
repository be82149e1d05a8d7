use Rattle.std.proofs.Common.{◌≡◌, ◌++◌, map, drop}
use Rattle.shape_list.proofs.picks.extend.Given as goal

abbrev pub invariant-loop-y : goal.invariant-loop-y
invariant-loop-y l = l.all.items ++ map (λ z. l.x ++ z) (drop l.y-index l.second) ≡ l.fn.all.items ++ map (λ z. l.x ++ z) l.second
