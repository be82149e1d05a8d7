use Rattle.std.proofs.Common.{rules, refl, sym, subst, ◌≡◌, ◌+◌, OnOk, option_map}
use Rattle.c_tree.specs.Program.{sizes}
use Rattle.c_tree.specs.Lowered.{Halts, function_steps}
use Rattle.c_pieces.specs.Pushed.{Pushed, layout_shown}
use Rattle.c_plan.specs.Plan.{routine_shown}
use Rattle.c_lower.specs.Steps.{steps_of_main}
use Rattle.c_lower.proofs.written.push_main.Goals as goal

pub returns-in_ok-first-in-Some : goal.returns-in_ok-first-in-Some
returns-in_ok-first-in-Some c =
    let shown = routine_shown c.args.program.now.nodes.now c.in-Some.one in
    let at : c.in_ok-first-in-Some.first ≡ c.args.t.now.base + sizes c.in-Some.one.variables.items = search rules in
    let e = c.push_function.ensures shown refl refl refl in
    let there = subst (λ k. OnOk c.push_function.result (Pushed c.args.out.now.items c.push_function.new.out.items (function_steps (layout_shown c.args.t.now) Halts shown k 0))) at e in
    subst (λ m. OnOk c.push_function.result (Pushed c.args.out.now.items c.push_function.new.out.items (steps_of_main (layout_shown c.args.t.now) (option_map (routine_shown c.args.program.now.nodes.now) m)))) (sym c.in-Some.is) there
