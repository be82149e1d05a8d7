use Rattle.std.proofs.Common.{subst, ◌≡◌}
use Rattle.c_tree.specs.Resolve.{resolved}
use Rattle.c_tree.specs.Counts.{data_of}
use Rattle.c_tree.proofs.accepted.CProg.data.Goals as goal

-- the cells are data_of by the invariant
pub returns : goal.returns
returns c = subst (λ m. c.self.inside.cells ≡ data_of (resolved m.0) m.1) c.self.view_is c.self.invariant.3
