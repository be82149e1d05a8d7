-- The first pair, from the next partner of each; labels, and what is fixed in all shapes of a label.
use Rattle.std.proofs.Common.{ℕ, ◌≡◌, ◌≤◌, ◌<◌, ◌+◌, refl, sym, ◌∙◌, ap, subst, arith, List, length, Bool, true, false, cond, bit_and, inl, inr, Option, Some, None, nat_cmp, Ordering, Less, Equal, Greater}
use Rattle.std.specs.Prelude.{slice_index_or, slice_get, unwrap_or}
use Rattle.std.specs.BTreeMap.{is_at}
use Rattle.std.specs.Ordering.{is_eq}
use Rattle.std.specs.Cmp.{eq_by_cmp_equiv}
use Rattle.std.proofs.lemmas.Cmp.{nat_cmp_total}
use Rattle.std.proofs.lemmas.Map.Lookups.{exact_unsigned}
use Rattle.std.proofs.lemmas.Bool.{cases_lt}
use Rattle.std.proofs.lemmas.Option.{same_Some, slice_get_within}
use Rattle.nml_shape.specs.declared.shape.Shape.{Shape}
use Rattle.nml_shape.specs.First.{IsPair, IsFirstPair, HasNoPair}
use Rattle.shape_table.specs.declared.common.Common.{Common}
use Rattle.shape_table.specs.declared.common.Part.{Part}
use Rattle.shape_table.specs.Label.{Each, Have, IsReady, meets, both, meets_at, MeetsNone, IsPartner, AreCommon, fixed_in}
use Rattle.shape_table.proofs.Bitwise.{and_within, and_itself}
use Rattle.shape_table.proofs.Have.{meets_have, have_meets}

-- a pair meets
met : (c : Common) (shapes : List Shape) (k l : ℕ) → Each (IsReady c) shapes → IsPair (Have c) shapes k l → meets_at c shapes k l ≡ true
met c shapes k l ready p = rw (p.first, p.second) (have_meets c p.a p.b (ready k p.a p.first) (ready l p.b p.second) p.have)

both_there : (m : Shape → Shape → Bool) (o e : Option Shape) → both m o e ≡ true → (a : Shape) × (b : Shape) × (o ≡ Some a) × (e ≡ Some b) × (m a b ≡ true)
both_there m (Some a) (Some b) is = (a, b, refl, refl, is)
both_there m None e is = absurd cc
both_there m (Some a) None is = absurd cc

-- those that meet are there
pub there : (c : Common) (shapes : List Shape) (k l : ℕ) → meets_at c shapes k l ≡ true → (a : Shape) × (b : Shape) × (slice_get shapes k ≡ Some a) × (slice_get shapes l ≡ Some b) × (meets c a b ≡ true)
there c shapes k l is = both_there (meets c) (slice_get shapes k) (slice_get shapes l) is

-- and are a pair
pair_from : (c : Common) (shapes : List Shape) (k l : ℕ) → Each (IsReady c) shapes → k < l → meets_at c shapes k l ≡ true → IsPair (Have c) shapes k l
pair_from c shapes k l ready rises is = let t = there c shapes k l is in record {
  rises = rises;
  a = t.0;
  b = t.1;
  first = t.2;
  second = t.3;
  have = meets_have c t.0 t.1 (ready k t.0 t.2) (ready l t.1 t.3) t.4;
}

pub first_from : (c : Common) (shapes : List Shape) (i j : ℕ) → Each (IsReady c) shapes → ((k : ℕ) → k < i → MeetsNone c shapes k (length shapes)) → IsPartner c shapes i (Some j) → IsFirstPair (Have c) shapes i j
first_from c shapes i j ready earlier p = record {
  pair = pair_from c shapes i j ready p.0 p.2;
  first = λ k l q. elim (cases_lt k i) [
    | inl less ↦ absurd (let e = met c shapes k l ready q in let f = earlier k less l q.rises (slice_get_within shapes l q.b q.second) in cc)
    | inr more ↦ elim (cases_lt i k) [
      | inl behind ↦ inl behind
      | inr here ↦ (let same : i ≡ k = omega arith in elim (cases_lt l j) [
        | inl less ↦ absurd (let e = met c shapes k l ready q in let g = q.rises in let f : meets_at c shapes k l ≡ false = subst (λ x. meets_at c shapes x l ≡ false) same (p.3 l (omega (arith, g)) less) in cc)
        | inr least ↦ inr (same, least)
      ])
    ]
  ];
}

pub none_from_all : (c : Common) (shapes : List Shape) (n : ℕ) → Each (IsReady c) shapes → length shapes ≤ n → ((k : ℕ) → k < n → MeetsNone c shapes k (length shapes)) → HasNoPair (Have c) shapes
none_from_all c shapes n ready all earlier k l q =
    let e = met c shapes k l ready q in
    let a = q.rises in let b = slice_get_within shapes l q.b q.second in
    let f = earlier k (omega (arith, a, b)) l a b in cc

-- what a label has fixed, with one shape more
fixed_or_new : (b : Bool) (n : ℕ) (o : Option ℕ) (most : ℕ) (P : ℕ → Type 0) → (b ≡ true → P n) → (b ≡ false → P (unwrap_or o most)) → P (unwrap_or (cond b (Some n) o) most)
fixed_or_new true n o most P f g = f refl
fixed_or_new false n o most P f g = g refl

equal_from : (o : Ordering) → is_eq o ≡ true → o ≡ Equal
equal_from Less is = absurd cc
equal_from Equal is = refl
equal_from Greater is = absurd cc

pub common_step : (p : Part) (shapes : List Shape) (labels : List ℕ) (most i n : ℕ) (shape : Shape) (old new : ℕ → Option ℕ) → AreCommon p shapes labels (λ l. unwrap_or (old l) most) i → slice_get shapes i ≡ Some shape → n ≡ bit_and (unwrap_or (old (slice_index_or labels i 0)) most) (fixed_in p shape) → ((q : ℕ) → new q ≡ cond (is_at (nat_cmp (slice_index_or labels i 0)) q) (Some n) (old q)) → AreCommon p shapes labels (λ l. unwrap_or (new l) most) (i + 1)
common_step p shapes labels most i n shape old new c stands made step = record {
  each = λ k s low at. rw (step (slice_index_or labels k 0)) (fixed_or_new (is_at (nat_cmp (slice_index_or labels i 0)) (slice_index_or labels k 0)) n (old (slice_index_or labels k 0)) most (λ x. bit_and x (fixed_in p s) ≡ x)
      (λ same. let e : slice_index_or labels i 0 ≡ slice_index_or labels k 0 = exact_unsigned (slice_index_or labels i 0) (slice_index_or labels k 0) (equal_from (nat_cmp (slice_index_or labels i 0) (slice_index_or labels k 0)) same) in
      rw made (elim (cases_lt k i) [
        | inl less ↦ and_within (unwrap_or (old (slice_index_or labels i 0)) most) (fixed_in p s) (fixed_in p shape) (rw e (c.each k s less at))
        | inr more ↦ (let f : k ≡ i = omega arith in let g : s ≡ shape = same_Some s shape (sym at ∙ ap (slice_get shapes) f ∙ stands) in rw g (and_itself (unwrap_or (old (slice_index_or labels i 0)) most) (fixed_in p shape)))
      ]))
      (λ other. c.each k s (elim (cases_lt k i) [
        | inl less ↦ less
        | inr more ↦ absurd (let f : k ≡ i = omega arith in let t : is_at (nat_cmp (slice_index_or labels i 0)) (slice_index_or labels k 0) ≡ true = rw f ((eq_by_cmp_equiv nat_cmp_total).refl (slice_index_or labels i 0)) in cc)
      ]) at));
}
