-- The widths of all rules, one rule of the order after the other.
use Rattle.std.proofs.Common.{ℕ, zero, suc, ◌≡◌, ◌≤◌, ◌<◌, ◌+◌, refl, sym, ◌∙◌, ap, subst, arith, Bool, true, false, List, [], ◌∷◌, map, length, set, slice_get, slice_index_or, Option, Some, None, option_map, Contains, inl, inr}
use Rattle.std.specs.Prelude.{unwrap_or, ◌&&◌, nat_le}
use Rattle.std.proofs.lemmas.Bool.{cases_eq, cases_lt, leb-true}
use Rattle.std.proofs.lemmas.List.{length-set}
use Rattle.nk_base.specs.declared.number.Ty.{Ty}
use Rattle.nk_base.specs.declared.number.Ty.TheVariants as tys
use Rattle.nk_base.specs.Number.{width_of}
use Rattle.nml_tree.specs.declared.tree.Par.{Par}
use Rattle.nml_tree.specs.declared.tree.Item.{Item}
use Rattle.nml_tree.specs.declared.tree.Item.TheVariants as item
use Rattle.nml_tree.specs.declared.tree.Desc.{Desc}
use Rattle.nml_tree.specs.Formula.{formula}
use Rattle.nml_tree.specs.NameFault as kind
use Rattle.nml_tree.specs.Table.{Text, Rule, Declared, Parameter, declared, table, parameter_of, is_mode_word, rule_of}
use Rattle.nml_tree.specs.Reach.{IsBelow}
use Rattle.nml_tree.specs.Refused.{IsFreeBelow}
use Rattle.nml_tree.specs.Worth.{is_type}
use Rattle.nml_names.specs.Below.{below, graph}
use Rattle.graphs.specs.Graphs.{IsOrder, StandsBefore}
use Rattle.nml_names.specs.Naming.{declaration}
use Rattle.nml_names.proofs.Cycles.{RuleAt, declared_here, below_length, length_rows}
use Rattle.nml_names.proofs.RuleNames.{first_item, some_same}
use Rattle.nml_known.specs.Known.{told, parameter_told}
use Rattle.nml_upward.specs.Upward.{IsRule, HasNumber, IsParameter, AreMade}
use Rattle.nml_upward.proofs.Upward.{are_made, at_number, below_is_rule, below_stands}
use Rattle.nml_words.specs.declared.span.Span.{Span}
use Rattle.nml_words.specs.Span.{span, IsSpan}
use Rattle.nml_words.specs.Words.{span_at, span_named, parameter_span, par_span, item_span, with_item, with_span, AreSpans, AreUpTo}
use Rattle.nml_words.proofs.Spans.{or_span, and_span, IsParSpan}

and_right : (a b : Bool) → (a && b) ≡ true → b ≡ true
and_right true b h = h
and_right false b h = absurd cc

-- of a type nothing is left out
told_width : (ty : Ty) → is_type ty ≡ true → width_of (told ty) ≡ width_of ty
told_width tys.Bool h = refl
told_width (tys.Card n) h = omega (arith, leb-true n 64 (and_right (nat_le 1 n) (nat_le n 64) h))
told_width (tys.Int n) h = omega (arith, leb-true n 64 (and_right (nat_le 1 n) (nat_le n 64) h))

-- what stands at a rule's number, by its name
named_span : (d : Desc) (spans : List Span) (b : Text) (m : ℕ) → HasNumber d b m → span_named d spans b ≡ span_at spans m
named_span d spans b m h = ap (λ o. span_at spans (unwrap_or o 0)) h

-- of the rules before a place of the order
module _ (d : Desc) (made : AreMade (table d)) (order : List ℕ) (is : IsOrder (graph d.items) order) (p : ℕ) (low : p < length order) (spans : List Span) (known : AreUpTo d order spans p) where
  abbrev n : ℕ
  n = slice_index_or order p 0

  below_span : (a b : Text) → HasNumber d a n → IsRule (table d) a → IsBelow (table d) a b → IsSpan (table d) b (span_named d spans b)
  below_span a b h rule lower =
      let e = below_stands d made order is p low a b h rule lower in
      rw (named_span d spans b e.0 e.1) (known.right e.0 e.2 b e.1 (below_is_rule (table d) made a b lower))

  par_right : (a : Text) (rule : Rule) → HasNumber d a n → IsRule (table d) a → declared (table d) a ≡ Some (Declared.And rule) → (q : Par) → Contains rule.pars q → IsParSpan (table d) (parameter_of (table d) q.ty) (par_span d spans q)
  par_right a rule h r here q c = by (parameter_of (table d) q.ty) refl (made.parameters a rule here q c)
    where
      by : (o : Option Parameter) → parameter_of (table d) q.ty ≡ o → IsParameter (table d) o → IsParSpan (table d) o (parameter_span spans (option_map (parameter_told d) o))
      by None e k = absurd k
      by (Some (Parameter.Field ty)) e k = ap (λ w. span w w) (told_width ty k)
      by (Some (Parameter.Part b)) e k = below_span a b h r (IsBelow.Part rule q here c e)

  item_right : (a : Text) (i : Item) → HasNumber d a n → IsRule (table d) a → slice_get d.items n ≡ Some i → IsSpan (table d) a (item_span d spans i)
  item_right a i h r at = by i (s.stands.first ∙ ap Some (some_same _ _ (sym s.stands.at ∙ at))) (ap kind.is_rule (some_same _ _ (sym at ∙ s.stands.at)) ∙ s.rule)
    where
      s : RuleAt d a n
      s = at_number d a n h r

      by : (i : Item) → first_item d.items a ≡ Some i → kind.is_rule i ≡ true → IsSpan (table d) a (item_span d spans i)
      by (item.Let at m equals minus z) first k = absurd cc
      by (item.Type at m equals e) first k = absurd cc
      by (item.Storage x) first k = absurd cc
      by (item.Port x) first k = absurd cc
      by (item.OrRule x) first k =
          let here = declared_here d a (item.OrRule x) _ first refl in
          or_span (table d) a (is_mode_word x.word) x.first.text (map (λ (bar, y). y.text) x.rest) (span_named d spans) here (λ b c. below_span a b h r (IsBelow.Alternative _ _ here c))
      by (item.OpRule x) first k =
          let here = declared_here d a (item.OpRule x) _ first refl in
          and_span (table d) a (rule_of x.pars None x.attrs) (par_span d spans) here (par_right a (rule_of x.pars None x.attrs) h r here)
      by (item.ModeRule x) first k =
          let here = declared_here d a (item.ModeRule x) _ first refl in
          and_span (table d) a (rule_of x.pars (Some (formula x.value)) x.attrs) (par_span d spans) here (par_right a (rule_of x.pars (Some (formula x.value)) x.attrs) h r here)

set_same : (spans : List Span) (n : ℕ) (s : Span) → n < length spans → span_at (set spans n s) n ≡ s
set_same [] n s low = absurd (omega (arith, low))
set_same (x ∷ spans) zero s low = refl
set_same (x ∷ spans) (suc n) s low = set_same spans n s (omega (arith, low))

set_other : (spans : List Span) (n m : ℕ) (s : Span) → (m ≡ n → ⊥) → span_at (set spans n s) m ≡ span_at spans m
set_other [] n m s other = refl
set_other (x ∷ spans) zero zero s other = absurd (other refl)
set_other (x ∷ spans) zero (suc m) s other = refl
set_other (x ∷ spans) (suc n) zero s other = refl
set_other (x ∷ spans) (suc n) (suc m) s other = set_other spans n m s (λ e. other (ap suc e))

stood : (order : List ℕ) (p m : ℕ) → StandsBefore order (p + 1) m → (m ≡ slice_index_or order p 0 → ⊥) → StandsBefore order p m
stood order p m (q, less, here) other = elim (cases_lt q p) [
  | inl under ↦ (q, under, here)
  | inr over ↦ (let e : p ≡ q = omega (arith, less, over) in absurd (other (sym here ∙ ap (λ k. slice_index_or order k 0) (sym e))))
]

-- one place more
pub next_span : (d : Desc) → AreMade (table d) → (order : List ℕ) → IsOrder (graph d.items) order → (p : ℕ) → p < length order → (spans : List Span) → AreUpTo d order spans p → (i : Item) → slice_get d.items (slice_index_or order p 0) ≡ Some i
    → AreUpTo d order (set spans (slice_index_or order p 0) (item_span d spans i)) (p + 1)
next_span d made order is p low spans known i at = record {
  long = length-set spans (slice_index_or order p 0) (item_span d spans i) ∙ known.long;
  right = λ m st name h rule. elim (cases_eq m (slice_index_or order p 0)) [
    | inl e ↦
        (let within : slice_index_or order p 0 < length spans = (let l = known.long in let k = below_length d d.items (slice_index_or order p 0) i at in omega (arith, l, k)) in
        let one = item_right d made order is p low spans known name i (subst (HasNumber d name) e h) rule at in
        rw (e, set_same spans (slice_index_or order p 0) (item_span d spans i) within) one)
    | inr other ↦ rw (set_other spans (slice_index_or order p 0) m (item_span d spans i) other) (known.right m (stood order p m st other) name h rule)
  ];
}

-- a place of no item
pub no_span : (d : Desc) (order : List ℕ) (p : ℕ) (spans : List Span) → AreUpTo d order spans p → length d.items ≤ slice_index_or order p 0 → AreUpTo d order spans (p + 1)
no_span d order p spans known far = record {
  long = known.long;
  right = λ m st name h rule. elim (cases_eq m (slice_index_or order p 0)) [
    | inl e ↦ (let s = at_number d name m h rule in let k = below_length d d.items m s.stands.what s.stands.at in absurd (omega (arith, k, e, far)))
    | inr other ↦ known.right m (stood order p m st other) name h rule
  ];
}

none_far : (items : List Item) (n : ℕ) → slice_get items n ≡ None → length items ≤ n
none_far [] n h = omega arith
none_far (x ∷ items) zero h = absurd cc
none_far (x ∷ items) (suc n) h = let l = none_far items n h in omega (arith, l)

-- one place more, whatever stands there
pub next_place : (d : Desc) → IsFreeBelow 9 d → (order : List ℕ) → IsOrder (graph d.items) order → (p : ℕ) → p < length order → (spans new : List Span) → AreUpTo d order spans p → new ≡ with_span d spans (slice_index_or order p 0) → AreUpTo d order new (p + 1)
next_place d free order is p low spans new known set_is = rw set_is (by (slice_get d.items (slice_index_or order p 0)) refl)
  where
    by : (o : Option Item) → slice_get d.items (slice_index_or order p 0) ≡ o → AreUpTo d order (with_item d spans (slice_index_or order p 0) o) (p + 1)
    by None e = no_span d order p spans known (none_far d.items (slice_index_or order p 0) e)
    by (Some i) e = next_span d (are_made d (λ k less. free k (omega (arith, less)))) order is p low spans known i e

-- none yet
pub first_spans : (d : Desc) (order : List ℕ) (spans : List Span) → length spans ≡ length d.items → AreUpTo d order spans 0
first_spans d order spans long = record { long = long; right = λ n st. absurd (omega (arith, st.1)) }

-- all
pub all_spans : (d : Desc) (order : List ℕ) (p : ℕ) (spans : List Span) → IsOrder (graph d.items) order → length order ≤ p → AreUpTo d order spans p → AreSpans d spans
all_spans d order p spans is far known = λ n name h rule.
    let s = at_number d name n h rule in
    let low = below_length d d.items n s.stands.what s.stands.at in
    let e = is.every n (rw (length_rows d (below (declaration 0 d.items)) d.items) low) in
    known.right n (e.0, (let l = e.1 in omega (arith, l, far)), e.2) name h rule
