use Rattle.std.proofs.Common.{rules, ◌∙◌, ap, subst, map}
use Rattle.std.specs.List.Sorted.{IsPermutation}
use Rattle.std.proofs.lemmas.List.Sorted.{IsNonDecreasingBy-from_sort_by_key}
use Rattle.isg_lists.specs.Masks as spec
use Rattle.isg_lists.proofs.masks.list_of.Goals as goal

pub returns-clause-list : goal.returns-clause-list
returns-clause-list c = record {
  numbers_are = record {
    same = subst (λ xs. IsPermutation xs c.sort_by_key.new.self.items) (c.in_ok-numbers.ensures.items ∙ c.requires) c.in_ok-sort_by_key.ensures.permutation;
    rise = IsNonDecreasingBy-from_sort_by_key (spec.value_at c.args.shapes.now) _ c.in_ok-sort_by_key.ensures.sorted (λ a r q k. search rules);
  };
  values_are = c.in_ok-values.ensures ∙ ap (map (spec.value_at c.args.shapes.now)) c.as_slice.ensures.value;
}
