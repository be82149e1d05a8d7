-- The first number from here on with a label.
use Rattle.std.proofs.Common.{ℕ, ◌≡◌, ◌≤◌, ◌<◌, ◌+◌, ◌-◌, refl, sym, ◌∙◌, ap, subst, arith, List, [], ◌∷◌, length, length-drop, get_or, drop, Option, Some, None, Bool, true, false, cond, nat_cmp, Ordering, Less, Equal, Greater, inl, inr}
use Rattle.std.specs.Prelude.{◌≢◌, unwrap_or, slice_index_or, slice_set}
use Rattle.std.specs.BTreeMap.{is_at}
use Rattle.std.specs.Ordering.{is_eq}
use Rattle.std.proofs.lemmas.List.{drop_more, get_or-set_same, get_or-set_other, length-set}
use Rattle.std.proofs.lemmas.Map.Lookups.{exact_unsigned}
use Rattle.std.proofs.lemmas.Cmp.{nat_cmp_total}
use Rattle.std.specs.Cmp.{eq_by_cmp_equiv}
use Rattle.std.proofs.lemmas.Bool.{cases_lt}
use Rattle.shape_table.specs.Label.{AreNext}

abbrev pub latest : List ℕ → ℕ → ℕ → Option ℕ
latest [] i k = None
latest (x ∷ xs) i k = cond (is_at (nat_cmp x) k) (Some i) (latest xs (i + 1) k)

-- r is the first number from i on with the label k, or the length
record Found (labels : List ℕ) (i k r : ℕ) : Type 0 where
  behind : i ≤ r
  within : r ≤ length labels
  same : r < length labels → slice_index_or labels r 0 ≡ k
  none : (l : ℕ) → i ≤ l → l < r → slice_index_or labels l 0 ≡ k → ⊥

equal_from : (o : Ordering) → is_eq o ≡ true → o ≡ Equal
equal_from Less is = absurd cc
equal_from Equal is = refl
equal_from Greater is = absurd cc

here : (labels : List ℕ) (i k x n : ℕ) (o : Option ℕ) (b : Bool) → is_at (nat_cmp x) k ≡ b → i < length labels → slice_index_or labels i 0 ≡ x → Found labels (i + 1) k (unwrap_or o n) → Found labels i k (unwrap_or (cond b (Some i) o) n)
here labels i k x n o true is low at f = record { behind = omega arith; within = omega arith; same = λ h. at ∙ exact_unsigned x k (equal_from (nat_cmp x k) is); none = λ l p q. absurd (omega arith) }
here labels i k x n o false is low at f = record {
  behind = let b = f.behind in omega arith;
  within = f.within;
  same = f.same;
  none = λ l p q e. elim (cases_lt i l) [ inl more ↦ f.none l (omega arith) q e | inr less ↦ (let s : l ≡ i = omega arith in let g : x ≡ k = sym at ∙ ap (λ y. slice_index_or labels y 0) (sym s) ∙ e in let t : is_at (nat_cmp x) k ≡ true = rw g ((eq_by_cmp_equiv nat_cmp_total).refl k) in absurd cc) ];
}

found : (xs labels : List ℕ) (i k : ℕ) → xs ≡ drop i labels → i ≤ length labels → Found labels i k (unwrap_or (latest xs i k) (length labels))
found [] labels i k is low =
    let e = ap length is in let f = length-drop i labels in
    let g : i ≡ length labels = omega (arith, e, f) in
    record { behind = low; within = omega arith; same = λ h. absurd (omega arith); none = λ l p q. absurd (omega arith) }
found (x ∷ xs) labels i k is low =
    let e = ap length is in let f = length-drop i labels in
    let g : i < length labels = omega (arith, e, f) in
    let d : x ∷ xs ≡ get_or labels i 0 ∷ drop (i + 1) labels = is ∙ drop_more labels i 0 g in
    let h : x ≡ get_or labels i 0 = cc in
    let r : xs ≡ drop (i + 1) labels = cc in
    here labels i k x (length labels) (latest xs (i + 1) k) (is_at (nat_cmp x) k) refl g (sym h) (found xs labels (i + 1) k r (omega arith))

-- what is known where numbers from i on were seen
pub record Kept (labels next : List ℕ) (i : ℕ) (last : ℕ → Option ℕ) : Type 0 where
  pub low : i ≤ length labels
  pub long : length next ≡ length labels
  pub last_is : (k : ℕ) → last k ≡ latest (drop i labels) i k
  pub rest : (m : ℕ) → m < i → slice_index_or next m 0 ≡ length labels
  pub each : (m : ℕ) → i ≤ m → m < length labels → slice_index_or next m 0 ≡ unwrap_or (latest (drop (m + 1) labels) (m + 1) (slice_index_or labels m 0)) (length labels)

kept_step : (labels next new : List ℕ) (i : ℕ) (last fresh : ℕ → Option ℕ) → i < length labels → Kept labels next (i + 1) last → ((q : ℕ) → fresh q ≡ cond (is_at (nat_cmp (slice_index_or labels i 0)) q) (Some i) (last q)) → length new ≡ length next → slice_index_or new i 0 ≡ unwrap_or (last (slice_index_or labels i 0)) (length labels) → ((m : ℕ) → m ≢ i → slice_index_or new m 0 ≡ slice_index_or next m 0) → Kept labels new i fresh
kept_step labels next new i last fresh low k step long here_is others = record {
  low = omega arith;
  long = let l = k.long in omega arith;
  last_is = λ q. rw (step q, k.last_is q, drop_more labels i 0 low) refl;
  rest = λ m h. others m (omega arith) ∙ k.rest m (omega arith);
  each = λ m h g. elim (cases_lt i m) [
    | inl more ↦ others m (omega arith) ∙ k.each m (omega arith) g
    | inr less ↦ (let s : m ≡ i = omega arith in rw s (here_is ∙ ap (λ o. unwrap_or o (length labels)) (k.last_is (slice_index_or labels i 0))))
  ];
}

module _ (labels next : List ℕ) (i j : ℕ) (last fresh : ℕ → Option ℕ) (some : 0 < i) (k : Kept labels next i last) (step : (q : ℕ) → fresh q ≡ cond (is_at (nat_cmp (slice_index_or labels (i - 1) 0)) q) (Some (i - 1)) (last q)) where
  one : i ≡ i - 1 + 1
  one = omega arith

  kept_before : Kept labels next (i - 1 + 1) last
  kept_before = subst (λ n. Kept labels next n last) one k

  pub kept_found : Some j ≡ last (slice_index_or labels (i - 1) 0) → Kept labels (slice_set next (i - 1) j) (i - 1) fresh
  kept_found is = let low = k.low in let long = k.long in
      kept_step labels next (slice_set next (i - 1) j) (i - 1) last fresh (omega arith) kept_before step (length-set next (i - 1) j)
      (rw (← is) (get_or-set_same next (i - 1) j 0 (omega arith))) (λ m h. get_or-set_other next (i - 1) m j 0 h)

  pub kept_none : None ≡ last (slice_index_or labels (i - 1) 0) → Kept labels next (i - 1) fresh
  kept_none is = let low = k.low in
      kept_step labels next next (i - 1) last fresh (omega arith) kept_before step refl
      (rw (← is) (k.rest (i - 1) (omega arith))) (λ m h. refl)

pub are_next : (labels next : List ℕ) (i : ℕ) (last : ℕ → Option ℕ) → i ≡ 0 → Kept labels next i last → AreNext labels next
are_next labels next i last none k = record {
  long = k.long;
  each = λ m low. let f = found (drop (m + 1) labels) labels (m + 1) (slice_index_or labels m 0) refl (omega arith) in
      let e = k.each m (omega arith) low in
      rw e (record { behind = let b = f.behind in omega arith; within = f.within; same = f.same; none = λ l p q. f.none l (omega arith) q });
}
