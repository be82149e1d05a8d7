use Rattle.std.proofs.Common.{◌≡◌, ◌∙◌, ◌++◌, ap, sym, subst, length, replicate, refl, None}
use Rattle.c_tree.specs.Statement.{body}
use Rattle.c_tree.specs.Names.{Names, inner, parameters, behind_parameters, before_body, body_shapes}
use Rattle.c_tree.specs.Program.{sizes}
use Rattle.c_tree.specs.Resolve.{body_of, commands}
use Rattle.c_tree.proofs.StatementLaws.{block_is}
use Rattle.c_names.specs.Shown.{names, outside}
use Rattle.c_walk.specs.Walk.{behind_body, defined}
use Rattle.c_walk.proofs.Behind.{behind_function}
use Rattle.c_flat.specs.Written.{OfCommand, Grew}
use Rattle.c_flat.proofs.AllBodies.{cells_of_body}
use Rattle.c_flat.proofs.function.push_function.Goals as goal

pub returns-clause-scopes : goal.returns-clause-scopes
returns-clause-scopes c =
    let entered = ap (λ u. behind_parameters u (parameters c.args.function.now.params)) c.in_ok-enter_function.ensures in
    let walked = c.in_ok-node.ensures.scopes ∙ ap (λ u. behind_body u (body c.as_slice.result.now)) (c.in_ok-declare_parameters.ensures ∙ entered) in
    ap {A = Names} (λ u. record u { next = c.declare_function.new.scopes.next }) (c.leave.ensures ∙ ap outside walked)
    ∙ behind_function (names c.declare_function.new.scopes) (parameters c.args.function.now.params) (body c.as_slice.result.now)
    ∙ c.in_ok-declare_function.ensures

pub returns-clause-nodes : goal.returns-clause-nodes
returns-clause-nodes c =
    let s = names c.args.scopes.now in
    let f = defined c.args.function.now in
    let ps = parameters c.args.function.now.params in
    let begun = c.in_ok-enter_function.ensures ∙ ap {A = Names} (λ u. record (inner u) { next = 0 }) c.in_ok-declare_function.ensures in
    let before = c.in_ok-declare_parameters.ensures ∙ ap (λ u. behind_parameters u ps) begun in
    let inside = ap body c.as_slice.ensures ∙ ap body_of (sym (block_is c.args.function.now.body)) in
    let is = ap (λ u. commands u (body c.as_slice.result.now)) before ∙ ap (λ b. commands (before_body s f) b) inside in
    subst (λ x. Grew c.args.nodes.now.items c.push_block.new.nodes.items (OfCommand x) c.in_ok-node.node) is c.in_ok-node.ensures.nodes

pub returns-clause-cells : goal.returns-clause-cells
returns-clause-cells c =
    let ps = parameters c.args.function.now.params in
    let begun = c.in_ok-enter_function.ensures in
    let before = c.in_ok-declare_parameters.ensures ∙ ap (λ u. behind_parameters u ps) begun in
    let walked = c.in_ok-node.ensures.scopes ∙ ap (λ u. behind_body u (body c.as_slice.result.now)) before in
    let inside = ap body c.as_slice.ensures ∙ ap body_of (sym (block_is c.args.function.now.body)) in
    ap {A = Names} (λ u. u.next) walked
    ∙ cells_of_body (record (inner (names c.declare_function.new.scopes)) { next = 0 }) ps (body c.as_slice.result.now) refl
    ∙ ap (λ b. sizes (replicate (length ps) None ++ body_shapes b)) inside
