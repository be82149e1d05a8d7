-- What is counted of all rules, one rule of the order after the other.
use Rattle.std.proofs.Common.{ℕ, zero, suc, ◌≡◌, ◌≤◌, ◌<◌, ◌+◌, refl, sym, ◌∙◌, ap, subst, arith, true, List, [], ◌∷◌, map, length, set, slice_get, slice_index_or, Option, Some, None, option_map, Contains, codes, inl, inr}
use Rattle.std.specs.Prelude.{unwrap_or}
use Rattle.std.proofs.lemmas.Bool.{cases_eq, cases_lt}
use Rattle.std.proofs.lemmas.List.{length-set}
use Rattle.nml_tree.specs.declared.tree.Par.{Par}
use Rattle.nml_tree.specs.declared.tree.Item.{Item}
use Rattle.nml_tree.specs.declared.tree.Item.TheVariants as item
use Rattle.nml_tree.specs.declared.tree.Desc.{Desc}
use Rattle.nml_tree.specs.Formula.{formula}
use Rattle.nml_tree.specs.NameFault as kind
use Rattle.nml_tree.specs.Table.{Text, Rule, Declared, Parameter, declared, table, parameter_of, is_mode_word, rule_of}
use Rattle.nml_tree.specs.Reach.{IsBelow}
use Rattle.nml_tree.specs.Refused.{IsFreeBelow}
use Rattle.nml_names.specs.Below.{below, graph}
use Rattle.graphs.specs.Graphs.{IsOrder, StandsBefore}
use Rattle.nml_names.specs.Naming.{declaration}
use Rattle.nml_names.proofs.Cycles.{RuleAt, declared_here, below_length, length_rows}
use Rattle.nml_names.proofs.RuleNames.{first_item, some_same}
use Rattle.nml_known.specs.Known.{parameter_told}
use Rattle.nml_upward.specs.Upward.{IsRule, HasNumber, IsParameter, AreMade}
use Rattle.nml_upward.proofs.Upward.{are_made, at_number, rule_number, below_is_rule, below_stands}
use Rattle.shape_count.specs.declared.tally.Tally.{Tally}
use Rattle.shape_count.specs.Tally.{IsTally}
use Rattle.shape_count.specs.Tallies.{tally_at, tally_named, parameter_tally, par_tally, item_tally, with_item, with_tally, AreTallies, AreUpTo, AreTallied}
use Rattle.shape_count.proofs.Members.{among_contains, contains_among, ascends_rises}
use Rattle.shape_count.proofs.Counted.{or_tally, and_tally, IsParTally}
use Rattle.shape_count.proofs.RootRule.{root_is_rule}

-- what stands at a rule's number, by its name
named_tally : (d : Desc) (tallies : List Tally) (b : Text) (m : ℕ) → HasNumber d b m → tally_named d tallies b ≡ tally_at tallies m
named_tally d tallies b m h = ap (λ o. tally_at tallies (unwrap_or o 0)) h

-- of the rules before a place of the order
module _ (d : Desc) (made : AreMade (table d)) (order : List ℕ) (is : IsOrder (graph d.items) order) (p : ℕ) (low : p < length order) (tallies : List Tally) (known : AreUpTo d order tallies p) where
  abbrev n : ℕ
  n = slice_index_or order p 0

  below_tally : (a b : Text) → HasNumber d a n → IsRule (table d) a → IsBelow (table d) a b → IsTally (table d) b (tally_named d tallies b)
  below_tally a b h rule lower =
      let e = below_stands d made order is p low a b h rule lower in
      rw (named_tally d tallies b e.0 e.1) (known.right e.0 e.2 b e.1 (below_is_rule (table d) made a b lower))

  par_right : (a : Text) (rule : Rule) → HasNumber d a n → IsRule (table d) a → declared (table d) a ≡ Some (Declared.And rule) → (q : Par) → Contains rule.pars q → IsParTally (table d) (parameter_of (table d) q.ty) (par_tally d tallies q)
  par_right a rule h r here q c = by (parameter_of (table d) q.ty) refl (made.parameters a rule here q c)
    where
      by : (o : Option Parameter) → parameter_of (table d) q.ty ≡ o → IsParameter (table d) o → IsParTally (table d) o (parameter_tally tallies (option_map (parameter_told d) o))
      by None e k = absurd k
      by (Some (Parameter.Field ty)) e k = refl
      by (Some (Parameter.Part b)) e k = below_tally a b h r (IsBelow.Part rule q here c e)

  item_right : (a : Text) (i : Item) → HasNumber d a n → IsRule (table d) a → slice_get d.items n ≡ Some i → IsTally (table d) a (item_tally d tallies i)
  item_right a i h r at = by i (s.stands.first ∙ ap Some (some_same _ _ (sym s.stands.at ∙ at))) (ap kind.is_rule (some_same _ _ (sym at ∙ s.stands.at)) ∙ s.rule)
    where
      s : RuleAt d a n
      s = at_number d a n h r

      by : (i : Item) → first_item d.items a ≡ Some i → kind.is_rule i ≡ true → IsTally (table d) a (item_tally d tallies i)
      by (item.Let at m equals minus z) first k = absurd cc
      by (item.Type at m equals e) first k = absurd cc
      by (item.Storage x) first k = absurd cc
      by (item.Port x) first k = absurd cc
      by (item.OrRule x) first k =
          let here = declared_here d a (item.OrRule x) _ first refl in
          or_tally (table d) a (is_mode_word x.word) x.first.text (map (λ (bar, y). y.text) x.rest) (tally_named d tallies) here (λ b c. below_tally a b h r (IsBelow.Alternative _ _ here c))
      by (item.OpRule x) first k =
          let here = declared_here d a (item.OpRule x) _ first refl in
          and_tally (table d) a (rule_of x.pars None x.attrs) (par_tally d tallies) here (par_right a (rule_of x.pars None x.attrs) h r here)
      by (item.ModeRule x) first k =
          let here = declared_here d a (item.ModeRule x) _ first refl in
          and_tally (table d) a (rule_of x.pars (Some (formula x.value)) x.attrs) (par_tally d tallies) here (par_right a (rule_of x.pars (Some (formula x.value)) x.attrs) h r here)

set_same : (tallies : List Tally) (n : ℕ) (s : Tally) → n < length tallies → tally_at (set tallies n s) n ≡ s
set_same [] n s low = absurd (omega (arith, low))
set_same (x ∷ tallies) zero s low = refl
set_same (x ∷ tallies) (suc n) s low = set_same tallies n s (omega (arith, low))

set_other : (tallies : List Tally) (n m : ℕ) (s : Tally) → (m ≡ n → ⊥) → tally_at (set tallies n s) m ≡ tally_at tallies m
set_other [] n m s other = refl
set_other (x ∷ tallies) zero zero s other = absurd (other refl)
set_other (x ∷ tallies) zero (suc m) s other = refl
set_other (x ∷ tallies) (suc n) zero s other = refl
set_other (x ∷ tallies) (suc n) (suc m) s other = set_other tallies n m s (λ e. other (ap suc e))

stood : (order : List ℕ) (p m : ℕ) → StandsBefore order (p + 1) m → (m ≡ slice_index_or order p 0 → ⊥) → StandsBefore order p m
stood order p m (q, less, here) other = elim (cases_lt q p) [
  | inl under ↦ (q, under, here)
  | inr over ↦ (let e : p ≡ q = omega (arith, less, over) in absurd (other (sym here ∙ ap (λ k. slice_index_or order k 0) (sym e))))
]

-- one place more
next_tally : (d : Desc) → AreMade (table d) → (order : List ℕ) → IsOrder (graph d.items) order → (p : ℕ) → p < length order → (tallies : List Tally) → AreUpTo d order tallies p → (i : Item) → slice_get d.items (slice_index_or order p 0) ≡ Some i
    → AreUpTo d order (set tallies (slice_index_or order p 0) (item_tally d tallies i)) (p + 1)
next_tally d made order is p low tallies known i at = record {
  long = length-set tallies (slice_index_or order p 0) (item_tally d tallies i) ∙ known.long;
  right = λ m st name h rule. elim (cases_eq m (slice_index_or order p 0)) [
    | inl e ↦
        (let within : slice_index_or order p 0 < length tallies = (let l = known.long in let k = below_length d d.items (slice_index_or order p 0) i at in omega (arith, l, k)) in
        let one = item_right d made order is p low tallies known name i (subst (HasNumber d name) e h) rule at in
        rw (e, set_same tallies (slice_index_or order p 0) (item_tally d tallies i) within) one)
    | inr other ↦ rw (set_other tallies (slice_index_or order p 0) m (item_tally d tallies i) other) (known.right m (stood order p m st other) name h rule)
  ];
}

-- a place of no item
no_tally : (d : Desc) (order : List ℕ) (p : ℕ) (tallies : List Tally) → AreUpTo d order tallies p → length d.items ≤ slice_index_or order p 0 → AreUpTo d order tallies (p + 1)
no_tally d order p tallies known far = record {
  long = known.long;
  right = λ m st name h rule. elim (cases_eq m (slice_index_or order p 0)) [
    | inl e ↦ (let s = at_number d name m h rule in let k = below_length d d.items m s.stands.what s.stands.at in absurd (omega (arith, k, e, far)))
    | inr other ↦ known.right m (stood order p m st other) name h rule
  ];
}

none_far : (items : List Item) (n : ℕ) → slice_get items n ≡ None → length items ≤ n
none_far [] n h = omega arith
none_far (x ∷ items) zero h = absurd cc
none_far (x ∷ items) (suc n) h = let l = none_far items n h in omega (arith, l)

-- one place more, whatever stands there
pub next_place : (d : Desc) → IsFreeBelow 12 d → (order : List ℕ) → IsOrder (graph d.items) order → (p : ℕ) → p < length order → (tallies new : List Tally) → AreUpTo d order tallies p → new ≡ with_tally d tallies (slice_index_or order p 0) → AreUpTo d order new (p + 1)
next_place d free order is p low tallies new known set_is = rw set_is (by (slice_get d.items (slice_index_or order p 0)) refl)
  where
    by : (o : Option Item) → slice_get d.items (slice_index_or order p 0) ≡ o → AreUpTo d order (with_item d tallies (slice_index_or order p 0) o) (p + 1)
    by None e = no_tally d order p tallies known (none_far d.items (slice_index_or order p 0) e)
    by (Some i) e = next_tally d (are_made d (λ k less. free k (omega (arith, less)))) order is p low tallies known i e

-- all
pub all_tallies : (d : Desc) (order : List ℕ) (p : ℕ) (tallies : List Tally) → IsOrder (graph d.items) order → length order ≤ p → AreUpTo d order tallies p → AreTallies d tallies
all_tallies d order p tallies is far known = λ n name h rule.
    let s = at_number d name n h rule in
    let low = below_length d d.items n s.stands.what s.stands.at in
    let e = is.every n (rw (length_rows d (below (declaration 0 d.items)) d.items) low) in
    known.right n (e.0, (let l = e.1 in omega (arith, l, far)), e.2) name h rule

-- those of `instruction` are those of the description
pub root_tally : (d : Desc) → IsFreeBelow 12 d → (tallies : List Tally) → AreTallies d tallies → (root : Text) → root ≡ codes "instruction" → (s : Tally) → s ≡ tally_named d tallies root → AreTallied (table d) s.count s.nodes
root_tally d free tallies all root is s here =
    let rule = root_is_rule d free in
    let r = rule_number d (codes "instruction") rule in
    let at : s ≡ tally_at tallies r.0 = here ∙ ap (tally_named d tallies) is ∙ named_tally d tallies (codes "instruction") r.0 r.2 in
    let k : IsTally (table d) (codes "instruction") s = rw at (all r.0 (codes "instruction") r.2 rule) in
    record {
      shapes = k.shapes;
      all = record {
        rises = ascends_rises k.shapes k.listed.ascends;
        each = λ x c. k.listed.each x (contains_among k.shapes x c);
        every = λ x h. among_contains k.shapes _ (k.listed.every x h);
      };
      count_is = k.count_is;
      nodes_are = k.nodes_are;
    }
