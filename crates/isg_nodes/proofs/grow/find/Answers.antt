use Rattle.std.proofs.Common.{rules, ◌≡◌, refl, ap, sym, ◌∙◌, Some}
use Rattle.std.proofs.lemmas.Option.{slice_get_read}
use Rattle.isg_nodes.specs.Keys.{node_of}
use Rattle.isg_nodes.proofs.grow.find.Goals as goal

pub returns-then-eq : goal.returns-then-eq
returns-then-eq c =
    let same : c.in_ok-found.found ≡ c.args.wanted = search rules in
    slice_get_read _ _ _ _ refl c.in_ok-get.ensures.lookup.3.0 c.in_ok-get.ensures.lookup.1 ∙ ap (λ y. Some y) (sym c.in_ok-found.ensures ∙ ap node_of same)
