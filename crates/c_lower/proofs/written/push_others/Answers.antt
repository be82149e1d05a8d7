use Rattle.std.proofs.Common.{rules, ◌≡◌, ◌<◌, ◌∷◌, [], ◌++◌, length, map, subst}
use Rattle.std.specs.Prelude.{All}
use Rattle.std.proofs.Math.Logic.{⊎_elim}
use Rattle.std.proofs.lemmas.List.Elements.{All-tail}
use Rattle.ir_run.specs.Entry.{entry}
use Rattle.c_pieces.specs.Pushed.{Pushed, layout_shown, frame_shown}
use Rattle.c_plan.specs.Plan.{routine_shown}
use Rattle.c_lower.specs.Steps.{steps_of_others}
use Rattle.c_lower.proofs.Zipped.{First, Second, no_more, steps_ended, all_put, first_steps}
use Rattle.c_lower.proofs.written.push_others.Goals as goal

pub loop-one-preserved : goal.loop-one-preserved
loop-one-preserved c =
    let t = layout_shown c.args.t.now in
    let shown = routine_shown c.args.program.now.nodes.now in
    let one = c.in-Some.one.now in
    let frame = c.in-Some.frame.now in
    let functions = c.next.new.self.a.rest.now in
    let frames = c.next.new.self.b.rest.now in
    let whole = map entry c.args.out.now.items ++ steps_of_others t (map shown c.args.others.now) (map frame_shown c.args.t.now.frames.now) in
    let put : Pushed c.loop-one.out.items c.push_other.new.out.items (steps_of_others t (shown one ∷ []) (frame_shown frame ∷ [])) = search rules in
    let invariant = c.loop-one.invariant in
    let here = subst (λ l. map entry c.loop-one.out.items ++ steps_of_others t (map shown l) (map frame_shown c.loop-one.one-iterator.b.rest.now) ≡ whole) c.in-Some.ensures.steps.0 invariant.0 in
    let there = subst (λ l. map entry c.loop-one.out.items ++ steps_of_others t (map shown (one ∷ functions)) (map frame_shown l) ≡ whole) c.in-Some.ensures.steps.1 here in
    let within = subst (λ l. All (λ r. r.body < length c.args.program.now.nodes.now) l) c.in-Some.ensures.steps.0 invariant.1 in (
      first_steps t (shown one) (frame_shown frame) (map shown functions) (map frame_shown frames) (map entry c.loop-one.out.items) (map entry c.push_other.new.out.items) whole put.is there,
      All-tail (λ r. r.body < length c.args.program.now.nodes.now) one functions within,
    )

pub returns : goal.returns
returns c =
    let t = layout_shown c.args.t.now in
    let shown = routine_shown c.args.program.now.nodes.now in
    let functions = c.loop-one.one-iterator.a.rest.now in
    let frames = c.loop-one.one-iterator.b.rest.now in
    let ended = ⊎_elim (λ p. First (no_more functions p.1.0)) (λ p. Second (no_more frames p.1.0)) c.in-None.ensures.steps in
    record {
      is = all_put (map entry c.loop-one.out.items) (map entry c.args.out.now.items) (steps_of_others t (map shown functions) (map frame_shown frames))
          (steps_of_others t (map shown c.args.others.now) (map frame_shown c.args.t.now.frames.now))
          (steps_ended t shown frame_shown functions frames ended) c.loop-one.invariant.0;
    }
