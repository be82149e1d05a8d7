use Rattle.std.proofs.Common.{◌≡◌, ◌+◌, ◌-◌, ◌++◌, [], ap, sym, ◌∙◌, arith, pos, length, map, replicate, reverse, refl, subst, append-nil}
use Rattle.std.specs.List.{flat_map}
use Rattle.c_tree.specs.Items.{item, items}
use Rattle.c_tree.specs.Names.{first_names}
use Rattle.c_tree.specs.Resolve.{resolved, resolved_items, resolved_functions}
use Rattle.c_tree.specs.Meaning.{global_cells, function_cells, main_functions, all_functions, initial_cells}
use Rattle.c_flat.specs.Listing.{body_shown}
use Rattle.c_frames.specs.Steps.{begin}
use Rattle.c_machine.specs.Stands.{IsCode, config_of, work_of}
use Rattle.c_eval.specs.Laid.{cells_of_global, main_of, main_cells, others_cells, task_of, entries_of}
use Rattle.c_machine.specs.declared.code.Code.{Code}
use Rattle.c_eval.proofs.LaidOut.{Same, main_is, main_cells_are, cells_of_globals, base_is, function_count, work_is, begins_so, code_is, first_main}
use Rattle.c_eval.proofs.Accepted.{program_small, starts_small}
use Rattle.c_eval.proofs.start.start.Goals as goal

pub push_globals-requires : goal.push_globals-requires
push_globals-requires c = rw c.as_slice-globals.ensures (starts_small c.p.inside.n (omega (arith, c.p.invariant.2)) (first_names (items c.p.inside.tree)) c.p.inside.tree.globals c.p.invariant.0.faultless)

pub returns-clause-small : goal.returns-clause-small
returns-clause-small c = rw (← c.p.view_is) (program_small c.p.inside.n (omega (arith, c.p.invariant.2)) c.p.inside.tree c.p.invariant.0)

pub returns-clause-code : goal.returns-clause-code
returns-clause-code c =
    let bs = c.in_ok-bodies.bodies.items in
    let globals = c.as_slice-globals.result.now in
    let gs = map item globals in
    let fs = resolved_functions (first_names gs) gs in
    let ns = c.push_bodies.new.nodes.items in
    let code : Code = record { bits = c.p.inside.n; nodes = c.push_bodies.new.nodes; functions = c.in_ok-functions.functions } in
    let same : Same ns bs fs = sym (append-nil (map (body_shown ns) bs)) ∙ c.in_ok-bodies.ensures.are in
    let is : resolved_items gs ≡ resolved c.args.p.now.0 = ap (λ g. resolved_items (map item g)) c.as_slice-globals.ensures ∙ ap (λ t. resolved t.0) c.p.view_is in
    let memory : c.push_globals.new.memory.items ≡ flat_map cells_of_global globals = c.in_ok-push_globals.ensures ∙ ap (λ l. l ++ flat_map cells_of_global globals) c.new-memory.ensures.items in
    let base : c.cells_in-base.result ≡ global_cells (resolved_items gs) = base_is globals c.cells_in-base.result (c.cells_in-base.ensures ∙ ap length (c.as_slice.ensures.value ∙ memory)) in
    let main : c.cells_of_main.result ≡ function_cells (main_functions (resolved_items gs).main) =
    c.cells_of_main.ensures ∙ ap main_cells (c.main_body-main.ensures ∙ ap main_of c.as_slice-2.ensures.value) ∙ main_cells_are ns (main_of bs) (first_main fs) (main_is ns bs fs same) in
    let first : c.in_ok-first.first ≡ global_cells (resolved_items gs) + function_cells (main_functions (resolved_items gs).main) = omega (arith, c.in_ok-first.ensures, base, main) in
    subst (IsCode code) is (code_is code (resolved_items gs) bs fs c.in_ok-first.first same refl first (c.in_ok-functions.ensures.0 ∙ ap (λ b. entries_of c.in_ok-first.first b) c.as_slice-3.ensures.value))

pub returns-clause-begins : goal.returns-clause-begins
returns-clause-begins c = λ n input.
    let bs = c.in_ok-bodies.bodies.items in
    let globals = c.as_slice-globals.result.now in
    let gs = map item globals in
    let fs = resolved_functions (first_names gs) gs in
    let ns = c.push_bodies.new.nodes.items in
    let p = resolved_items gs in
    let same : Same ns bs fs = sym (append-nil (map (body_shown ns) bs)) ∙ c.in_ok-bodies.ensures.are in
    let is : resolved_items gs ≡ resolved c.args.p.now.0 = ap (λ g. resolved_items (map item g)) c.as_slice-globals.ensures ∙ ap (λ t. resolved t.0) c.p.view_is in
    let memory : c.push_globals.new.memory.items ≡ flat_map cells_of_global globals = c.in_ok-push_globals.ensures ∙ ap (λ l. l ++ flat_map cells_of_global globals) c.new-memory.ensures.items in
    let base : c.cells_in-base.result ≡ global_cells p = base_is globals c.cells_in-base.result (c.cells_in-base.ensures ∙ ap length (c.as_slice.ensures.value ∙ memory)) in
    let main : c.main_body-main.result ≡ main_of bs = c.main_body-main.ensures ∙ ap main_of c.as_slice-2.ensures.value in
    let task : c.main_task.result ≡ task_of (main_of bs) = c.main_task.ensures ∙ ap task_of main in
    let cells : c.cells_of_main.result ≡ main_cells (main_of bs) = c.cells_of_main.ensures ∙ ap main_cells main in
    let left : others_cells c.as_slice-3.result.now ≡ others_cells bs = ap others_cells c.as_slice-3.ensures.value in
    let end : c.in_ok-functions.end ≡ c.cells_in-base.result + main_cells (main_of bs) + others_cells bs = omega (arith, c.in_ok-functions.ensures.1, c.in_ok-first.ensures, cells, left) in
    let count = function_count ns bs fs c.cells_in-base.result c.in_ok-functions.end same end in
    let whole : c.push_zeros.new.memory.items ≡ flat_map initial_cells p.globals ++ replicate (function_cells (all_functions p)) (pos 0) =
    c.in_ok-push_zeros.ensures ∙ ap (λ l. l ++ replicate (c.in_ok-functions.end - c.cells_in-base.result) (pos 0)) (memory ∙ cells_of_globals globals) ∙ ap (λ k. flat_map initial_cells p.globals ++ replicate k (pos 0)) count in
    let work = ap (work_of p n ns (reverse c.new-2.result.items)) task ∙ work_is p n ns (reverse c.new-2.result.items) (main_of bs) (first_main fs) (main_is ns bs fs same) in
    let here = begins_so p n ns input (work_of p n ns (reverse c.new-2.result.items) c.main_task.result) c.cells_in-base.result c.args.turns c.new.result.items c.push_zeros.new.memory.items work base c.new.ensures.items whole in
    subst (λ q. config_of q n ns input (record { task = c.main_task.result; base = c.cells_in-base.result; depth = c.args.turns; frames = c.new.result; arguments = c.new-2.result; memory = c.push_zeros.new.memory; taken = 0; turns = c.args.turns }) [] ≡ begin q n input c.args.turns) is here
