use Rattle.std.proofs.Common.{map}
use Rattle.std.proofs.Math.Logic.{⊎_elim}
use Rattle.c_tree.specs.Lowered.{arrays_of_functions}
use Rattle.c_pieces.specs.Pushed.{frame_shown}
use Rattle.c_plan.specs.Plan.{routine_shown}
use Rattle.c_lower.proofs.Zipped.{First, Second, no_more, arrays_ended, all_put}
use Rattle.c_lower.proofs.arrays.push_others.Goals as goal

pub returns : goal.returns
returns c = λ nodes.
    let shown = routine_shown nodes in
    let functions = c.loop-one.one-iterator.a.rest.now in
    let frames = c.loop-one.one-iterator.b.rest.now in
    let ended = ⊎_elim (λ p. First (no_more functions p.1.0)) (λ p. Second (no_more frames p.1.0)) c.in-None.ensures.steps in
    all_put c.loop-one.out.items c.args.out.now.items (arrays_of_functions (map shown functions) (map frame_shown frames))
    (arrays_of_functions (map shown c.args.others.now) (map frame_shown c.args.frames.now))
    (arrays_ended shown frame_shown functions frames ended) (c.loop-one.invariant nodes)
