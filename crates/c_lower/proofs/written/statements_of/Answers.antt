use Rattle.std.proofs.Common.{rules, ◌≡◌, ◌++◌, [], ◌∷◌, map}
use Rattle.std.specs.Prelude.{if◌then◌else◌}
use Rattle.std.specs.List.{list_any}
use Rattle.ir_run.specs.Entry.{Mark, Halt, entry}
use Rattle.c_tree.specs.Code.{Layout}
use Rattle.c_tree.specs.Lowered.{goes_to}
use Rattle.c_pieces.specs.Pushed.{frame_shown}
use Rattle.c_plan.specs.Plan.{plan_shown}
use Rattle.c_lower.specs.Steps.{steps_of_main, steps_of_others}
use Rattle.c_lower.proofs.Steps.{layout_is, entries_are}
use Rattle.c_lower.proofs.written.statements_of.Goals as goal

pub returns : goal.returns
returns c =
    let g = c.args.ground.now in
    let p = plan_shown c.args.plan.now in
    let t : Layout = record { bits = c.args.n; base = g.globals; frames = map frame_shown g.frames.items; trap = g.free.label } in
    let t_is = layout_is p c.args.n g.globals g.free.label (map frame_shown g.frames.items) c.requires.ground.globals_are c.requires.ground.frames_are c.requires.ground.trap in
    let first : map entry c.push_main.new.out.items ≡ steps_of_main t p.main = search rules in
    let second : map entry c.push_others.new.out.items ≡ map entry c.push_main.new.out.items ++ steps_of_others t p.functions t.frames = search rules in
    let whole : map entry c.push_trap.new.out.items ≡ map entry c.push_others.new.out.items ++ (if list_any (goes_to t.trap) (map entry c.push_others.new.out.items) then Mark t.trap ∷ Halt 1 ∷ [] else []) = search rules in
    entries_are p c.args.n t _ _ _ t_is first second whole
