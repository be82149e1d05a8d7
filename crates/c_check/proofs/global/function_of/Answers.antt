use Rattle.std.proofs.Common.{◌∙◌, ap, sym, false, ◌++◌}
use Rattle.c_tree.specs.Statement.{body}
use Rattle.c_tree.specs.Names.{Names, inner, parameters, behind_parameters, before_parameters, before_body}
use Rattle.c_tree.specs.Resolve.{body_of}
use Rattle.c_tree.specs.Faults.{declared_faults, params_faults, body_faults, giving}
use Rattle.c_tree.specs.Recursion.{body_callees}
use Rattle.c_tree.proofs.StatementLaws.{block_is}
use Rattle.c_names.specs.Shown.{names, outside}
use Rattle.c_check.specs.Note.{noted}
use Rattle.c_walk.specs.Walk.{behind_body, defined}
use Rattle.c_check.proofs.WalkLaws.{three_found}
use Rattle.c_walk.proofs.Behind.{behind_function}
use Rattle.c_check.proofs.global.function_of.Goals as goal

pub returns-clause-scopes : goal.returns-clause-scopes
returns-clause-scopes c =
    let entered = ap (λ u. behind_parameters u (parameters c.args.function.now.params)) c.in_ok-enter_function.ensures in
    let walked = c.in_ok-parts_of.ensures.scopes ∙ ap (λ u. behind_body u (body c.as_slice.result.now)) (c.in_ok-all_parameters.ensures.scopes ∙ entered) in
    ap {A = Names} (λ u. record u { next = c.declare_function.new.scopes.next }) (c.leave.ensures ∙ ap outside walked)
    ∙ behind_function (names c.declare_function.new.scopes) (parameters c.args.function.now.params) (body c.as_slice.result.now)
    ∙ c.in_ok-declare_function.ensures

pub returns-clause-found : goal.returns-clause-found
returns-clause-found c =
    let s = names c.args.scopes.now in
    let f = defined c.args.function.now in
    let ps = parameters c.args.function.now.params in
    let begun = c.in_ok-enter_function.ensures ∙ ap {A = Names} (λ u. record (inner u) { next = 0 }) c.in_ok-declare_function.ensures in
    let before = c.in_ok-all_parameters.ensures.scopes ∙ ap (λ u. behind_parameters u ps) begun in
    let inside = ap body c.as_slice.ensures ∙ ap body_of (sym (block_is c.args.function.now.body)) in
    let first = ap (λ n. n.found) c.declared.ensures in
    let second = c.in_ok-all_parameters.ensures.found ∙ ap (λ u. noted c.declared.new.notes.found (params_faults u ps)) begun in
    let w = c.all_parameters.new.notes.found in
    let third =
    c.in_ok-parts_of.ensures.found
    ∙ ap (λ g. noted w (body_faults (record { bits = c.args.width.bits; giving = g; looped = false }) (names c.all_parameters.new.scopes) (body c.as_slice.result.now))) c.gives_of.ensures
    ∙ ap (λ u. noted w (body_faults (record { bits = c.args.width.bits; giving = giving f; looped = false }) u (body c.as_slice.result.now))) before
    ∙ ap (λ b. noted w (body_faults (record { bits = c.args.width.bits; giving = giving f; looped = false }) (before_body s f) b)) inside in
    three_found c.args.notes.now.found c.declared.new.notes.found w c.parts_of.new.notes.found (declared_faults s c.args.function.now.name) (params_faults (before_parameters s f) ps) (body_faults (record { bits = c.args.width.bits; giving = giving f; looped = false }) (before_body s f) (body_of f.braces)) first second third

pub returns-clause-calls : goal.returns-clause-calls
returns-clause-calls c =
    let s = names c.args.scopes.now in
    let f = defined c.args.function.now in
    let ps = parameters c.args.function.now.params in
    let begun = c.in_ok-enter_function.ensures ∙ ap {A = Names} (λ u. record (inner u) { next = 0 }) c.in_ok-declare_function.ensures in
    let before = c.in_ok-all_parameters.ensures.scopes ∙ ap (λ u. behind_parameters u ps) begun in
    let inside = ap body c.as_slice.ensures ∙ ap body_of (sym (block_is c.args.function.now.body)) in
    c.in_ok-parts_of.ensures.calls
    ∙ ap (λ v. v.items ++ body_callees (names c.all_parameters.new.scopes) (body c.as_slice.result.now)) (c.in_ok-all_parameters.ensures.calls ∙ ap (λ n. n.calls) c.declared.ensures)
    ∙ ap (λ u. c.args.notes.now.calls.items ++ body_callees u (body c.as_slice.result.now)) before
    ∙ ap (λ b. c.args.notes.now.calls.items ++ body_callees (before_body s f) b) inside
