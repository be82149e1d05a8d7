use Rattle.std.proofs.Common.{rules, ap, sym, ◌∙◌, subst, Some, FitsSigned}
use Rattle.std.proofs.lemmas.Int.{to_z-of_z}
use Rattle.std.specs.Int.{w128}
use Rattle.std.specs.Prelude.{option_map}
use Rattle.attr_eval.specs.Alone.{alone}
use Rattle.isg_nodes.specs.Narrow.{IsNarrow}
use Rattle.isg_places.specs.Constant.{constant, within_32}
use Rattle.isg_places.specs.Spots.{index, named}
use Rattle.isg_places.proofs.Named.{named_narrow}
use Rattle.isg_places.proofs.resolve.cell.Goals as goal

pub returns-in_ok-z-in-Other-clause-typed : goal.returns-in_ok-z-in-Other-clause-typed
returns-in_ok-z-in-Other-clause-typed c = λ d x ks typed walk is.
    let whole = named_narrow d x ks c.args.fields.now (named c.args.nodes.now c.args.spot) typed walk is in
    let here = subst (λ a. IsNarrow (alone c.args.fields.now) (index c.args.nodes.now a)) c.in-Other.is whole in
    let fit : FitsSigned w128 c.in_ok-z-in-Other.z = search rules in
    ap (λ k. Some k) c.within_32-in-Other.ensures ∙ ap (λ z. Some (within_32 z)) (to_z-of_z w128 c.in_ok-z-in-Other.z fit) ∙ ap (option_map within_32) (c.in_ok-z-in-Other.ensures.value here) ∙ ap (λ a. option_map within_32 (constant c.args.fields.now (index c.args.nodes.now a))) (sym c.in-Other.is)
