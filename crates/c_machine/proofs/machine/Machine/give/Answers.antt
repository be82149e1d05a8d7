use Rattle.std.proofs.Common.{ap, sym, ◌∙◌, ◌∷◌}
use Rattle.std.specs.Int.{w64}
use Rattle.std.proofs.lemmas.Int.{to_z-of_z}
use Rattle.c_flat.proofs.Chained.{ok_more}
use Rattle.c_frames.specs.Steps.{step_give}
use Rattle.c_machine.specs.Stands.{place_of, state_of, frame_of, frames_of}
use Rattle.c_machine.proofs.Stacks.{frames_pop}
use Rattle.c_machine.proofs.machine.Machine.give.Goals as goal

pub returns-in-Some : goal.returns-in-Some
returns-in-Some c =
    let m = c.args.self.now in
    let n = c.args.code.now.bits in
    let ns = c.args.code.now.nodes.items in
    let same = to_z-of_z w64 c.args.z c.ranges.z in
    let popped = frames_pop ns m.frames.items c.pop.new.self.items c.in-Some.pending c.in-Some.ensures.items in
    ok_more _ _ c.give_behind.result
    (λ r h. λ p out.
    h p out
    ∙ ap (λ y. step_give p n (frame_of ns c.in-Some.pending ∷ frames_of ns c.pop.new.self.items) y (place_of m) (state_of c.args.input.now m out)) same
    ∙ ap (λ k. step_give p n k c.args.z (place_of m) (state_of c.args.input.now m out)) (sym popped))
    c.give_behind.ensures
