use Rattle.std.proofs.Common.{◌∙◌, sym}
use Rattle.shape_count.proofs.Bests.{root_size}
use Rattle.shape_count.proofs.size.greatest_size.Goals as goal

pub returns-in-Some : goal.returns-in-Some
returns-in-Some c = root_size c.args.names.now c.requires.free c.loop.known.entries c.loop.invariant _ c.in_ok-root.ensures _ c.number_of.ensures _ (sym c.look.ensures ∙ c.in-Some.is)
