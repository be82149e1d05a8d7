-- Each label is marked once.
use Rattle.std.proofs.Common.{◌≡◌, refl, sym, ◌∙◌, ap, ℕ, zero, suc, ◌+◌, ◌<◌, ◌≤◌, List, [], ◌∷◌, arith, Bool, true, false, Option, Some, None}
use Rattle.std.specs.Prelude.{slice_get, nat_eq, if◌then◌else◌}
use Rattle.std.specs.List.{range_with_len}
use Rattle.std.proofs.lemmas.Bool.{eq-eqb, eqb-true}
use Rattle.ir_run.specs.Entry.{Entry, Set, Store, Out, Branch, JumpCell, Jump, Mark, Halt}
use Rattle.ir_run.specs.Run.{place_from, place_of}
use Rattle.c_tree.specs.Program.{Program}
use Rattle.c_tree.specs.Lowered.{program_entries}
use Rattle.c_promise.proofs.Labels.{marked, labels_in_order}

-- the labels that are marked from a on, each a number greater by 1
pub data Counts (a : ℕ) (x : ℕ) (xs : List ℕ) : Type 0 where
  On : (m : ℕ) → x ≡ a → xs ≡ range_with_len (a + 1) m → Counts a x xs

pub counts : (a m x : ℕ) (xs : List ℕ) → x ∷ xs ≡ range_with_len a m → Counts a x xs
counts a zero x xs is = cc
counts a (suc m) x xs is =
    let first : x ≡ a = cc in
    let rest : xs ≡ range_with_len (a + 1) m = cc in
    On m first rest

abbrev label_or : Option Entry → ℕ → ℕ
label_or (Some (Mark l)) d = l
label_or o d = d

-- a mark in the list is one of the numbers
least : (es : List Entry) (a m k l : ℕ) → marked es ≡ range_with_len a m → slice_get es k ≡ Some (Mark l) → a ≤ l
least [] a m k l is at = cc
least (Mark j ∷ es) a m zero l is at = by (counts a m j (marked es) is) (ap (λ o. label_or o 0) at)
  where
    by : Counts a j (marked es) → j ≡ l → a ≤ l
    by (On n first rest) same = omega (arith, first, same)
least (Mark j ∷ es) a m (suc k) l is at = by (counts a m j (marked es) is) (λ n rest. least es (a + 1) n k l rest at)
  where
    by : Counts a j (marked es) → ((n : ℕ) → marked es ≡ range_with_len (a + 1) n → a + 1 ≤ l) → a ≤ l
    by (On n first rest) h = omega (arith, h n rest)
least (e ∷ es) a m zero l is at = cc
least (Set c t ∷ es) a m (suc k) l is at = least es a m k l is at
least (Store t u ∷ es) a m (suc k) l is at = least es a m k l is at
least (Out t ∷ es) a m (suc k) l is at = least es a m k l is at
least (Branch r t u j ∷ es) a m (suc k) l is at = least es a m k l is at
least (JumpCell c ∷ es) a m (suc k) l is at = least es a m k l is at
least (Jump j ∷ es) a m (suc k) l is at = least es a m k l is at
least (Halt code ∷ es) a m (suc k) l is at = least es a m k l is at

-- so each has one place
once : (es : List Entry) (a m at k l : ℕ) → marked es ≡ range_with_len a m → slice_get es k ≡ Some (Mark l) → place_from at es l ≡ Some (at + k)
once [] a m at k l is there = let none : None ≡ Some (Mark l) = there in cc
once (Mark j ∷ es) a m at zero l is there =
    let same : l ≡ j = sym (ap (λ o. label_or o 0) there) in
    let here : Some at ≡ Some (at + 0) = ap Some (omega arith) in
    ap (λ b. if b then Some at else place_from (at + 1) es l) (eq-eqb l j same) ∙ here
once (Mark j ∷ es) a m at (suc k) l is there = by (counts a m j (marked es) is) (λ n rest. once es (a + 1) n (at + 1) k l rest there)
  where
    further : (b : Bool) → nat_eq l j ≡ b → j < l → place_from (at + 1) es l ≡ Some (at + 1 + k) → (if b then Some at else place_from (at + 1) es l) ≡ Some (at + suc k)
    further true test lt rest = let same = eqb-true l j test in absurd (omega arith)
    further false test lt rest = rest ∙ ap Some (omega arith)

    by : Counts a j (marked es) → ((n : ℕ) → marked es ≡ range_with_len (a + 1) n → place_from (at + 1) es l ≡ Some (at + 1 + k)) → (if nat_eq l j then Some at else place_from (at + 1) es l) ≡ Some (at + suc k)
    by (On n first rest) h = further (nat_eq l j) refl (omega (arith, first, least es (a + 1) n k l rest there)) (h n rest)
once (Set c t ∷ es) a m at zero l is there = let none : Some (Set c t) ≡ Some (Mark l) = there in cc
once (Set c t ∷ es) a m at (suc k) l is there = once es a m (at + 1) k l is there ∙ ap Some (omega arith)
once (Store t u ∷ es) a m at zero l is there = let none : Some (Store t u) ≡ Some (Mark l) = there in cc
once (Store t u ∷ es) a m at (suc k) l is there = once es a m (at + 1) k l is there ∙ ap Some (omega arith)
once (Out t ∷ es) a m at zero l is there = let none : Some (Out t) ≡ Some (Mark l) = there in cc
once (Out t ∷ es) a m at (suc k) l is there = once es a m (at + 1) k l is there ∙ ap Some (omega arith)
once (Branch r t u j ∷ es) a m at zero l is there = let none : Some (Branch r t u j) ≡ Some (Mark l) = there in cc
once (Branch r t u j ∷ es) a m at (suc k) l is there = once es a m (at + 1) k l is there ∙ ap Some (omega arith)
once (JumpCell c ∷ es) a m at zero l is there = let none : Some (JumpCell c) ≡ Some (Mark l) = there in cc
once (JumpCell c ∷ es) a m at (suc k) l is there = once es a m (at + 1) k l is there ∙ ap Some (omega arith)
once (Jump j ∷ es) a m at zero l is there = let none : Some (Jump j) ≡ Some (Mark l) = there in cc
once (Jump j ∷ es) a m at (suc k) l is there = once es a m (at + 1) k l is there ∙ ap Some (omega arith)
once (Halt code ∷ es) a m at zero l is there = let none : Some (Halt code) ≡ Some (Mark l) = there in cc
once (Halt code ∷ es) a m at (suc k) l is there = once es a m (at + 1) k l is there ∙ ap Some (omega arith)

-- each label is marked once
pub label_once : (p : Program) (n k l : ℕ) → slice_get (program_entries p n) k ≡ Some (Mark l) → place_of (program_entries p n) l ≡ Some k
label_once p n k l there =
    let all = labels_in_order p n in
    once (program_entries p n) 0 all.0 0 k l all.1 there ∙ ap Some (omega arith)
