use Rattle.std.proofs.Common.{◌≡◌, drop}
use Rattle.shape_table.specs.Meet as spec
use Rattle.shape_table.proofs.token.tokens_meet.Given as goal

abbrev pub invariant-loop-i : goal.invariant-loop-i
invariant-loop-i l = spec.tokens_meet l.a l.b ≡ spec.all_meet l.a.fields.items l.b.fields.items (drop l.i l.a.template.items) (drop l.i l.b.template.items)
