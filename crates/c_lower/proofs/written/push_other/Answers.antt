use Rattle.std.proofs.Common.{rules, refl, sym, subst, ◌≡◌, ◌+◌, OnOk}
use Rattle.std.proofs.lemmas.List.{append-nil}
use Rattle.c_tree.specs.Program.{sizes}
use Rattle.c_tree.specs.Lowered.{Returns, function_steps}
use Rattle.c_pieces.specs.Pushed.{Pushed, layout_shown}
use Rattle.c_plan.specs.Plan.{routine_shown}
use Rattle.c_lower.specs.Steps.{based}
use Rattle.c_lower.proofs.written.push_other.Goals as goal

pub returns : goal.returns
returns c =
    let shown = routine_shown c.args.program.now.nodes.now c.args.one.now in
    let at : c.in_ok-first.first ≡ c.args.frame.first + sizes c.args.one.now.variables.items = search rules in
    let e = c.push_function.ensures shown refl refl refl in
    let own = based (layout_shown c.args.t.now) c.args.frame.first in
    let there = subst (λ k. OnOk c.push_function.result (Pushed c.args.out.now.items c.push_function.new.out.items (function_steps own (Returns c.args.frame.result c.args.frame.ret) shown k c.args.frame.label))) at e in
    subst (λ es. OnOk c.push_function.result (Pushed c.args.out.now.items c.push_function.new.out.items es)) (sym (append-nil _)) there
