use Rattle.std.specs.Int.{w64}
use Rattle.std.proofs.lemmas.Int.{to_z-of_z}
use Rattle.std.proofs.Common.{rules, FitsSigned, length, ◌≡◌, ap, sym, ◌∙◌, ◌∷◌, [], ◌++◌, map, append_assoc}
use Rattle.c_tree.specs.Resolve.{initial}
use Rattle.c_eval.proofs.start.push_array.Goals as goal

pub returns : goal.returns
returns c =
    let fits : FitsSigned w64 c.initial_value.result = search rules in
    let old = c.args.memory.now.items in
    let rest = map (λ (comma, x). initial x) c.args.rest.now in
    let is : c.push_values.new.memory.items ≡ old ++ initial c.args.first ∷ rest =
    c.in_ok-push_values.ensures ∙ ap (λ l. l ++ rest) c.in_ok-push.ensures.items ∙ append_assoc old (_ ∷ []) rest ∙ ap (λ v. old ++ v ∷ rest) (to_z-of_z w64 c.initial_value.result fits ∙ c.initial_value.ensures) in
    c.fit.ensures old (initial c.args.first ∷ rest) is (sym (c.cells_in-from.ensures ∙ ap length c.as_slice.ensures.value))
