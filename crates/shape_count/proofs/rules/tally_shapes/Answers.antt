use Rattle.std.proofs.Common.{sym, subst}
use Rattle.shape_count.specs.Tallies.{AreTallies}
use Rattle.shape_count.proofs.Pass.{root_tally}
use Rattle.shape_count.proofs.rules.tally_shapes.Goals as goal

pub returns : goal.returns
returns c = root_tally c.args.names.now c.requires.free c.as_slice.result.now (subst (λ xs. AreTallies c.args.names.now xs) (sym c.as_slice.ensures.value) c.in_ok-tallies.ensures) _ c.in_ok-root.ensures _ c.tally_named.ensures
