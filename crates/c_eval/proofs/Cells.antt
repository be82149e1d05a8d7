-- What is laid out so far, and an array's cells with its initial values.
use Rattle.std.proofs.Common.{◌≡◌, refl, sym, ap, ◌∙◌, ℕ, zero, suc, ◌+◌, ◌≤◌, arith, ℤ, pos, List, [], ◌∷◌, ◌++◌, length, take, drop, replicate, append_assoc, length-append}
use Rattle.std.proofs.lemmas.List.{length-replicate}
use Rattle.c_flat.specs.declared.function.Body.{Body}
use Rattle.c_machine.specs.declared.code.Entry.{Entry}
use Rattle.c_eval.specs.Laid.{entries_of, others_cells}

-- the functions so far are laid out, and those that are left come behind them
pub record Laying (bodies : List Body) (from : ℕ) (i : ℕ) (entries : List Entry) (at : ℕ) : Type 0 where
  pub entries_are : entries ++ entries_of at (drop i bodies) ≡ entries_of from bodies
  pub cells_are : at + others_cells (drop i bodies) ≡ from + others_cells bodies

take_behind : (a b : List ℤ) (n : ℕ) → take (length a + n) (a ++ b) ≡ a ++ take n b
take_behind [] b n = let e : 0 + n ≡ n = omega arith in rw e refl
take_behind (x ∷ a) b n = let e : length (x ∷ a) + n ≡ suc (length a + n) = omega arith in rw e (ap (λ l. x ∷ l) (take_behind a b n))

take_whole : (l : List ℤ) (n : ℕ) → length l ≤ n → take n l ≡ l
take_whole [] zero h = refl
take_whole [] (suc n) h = refl
take_whole (x ∷ l) zero h = absurd (omega (arith, h))
take_whole (x ∷ l) (suc n) h = ap (λ l. x ∷ l) (take_whole l n (omega (arith, h)))

pub fit_cut : (before init old padded : List ℤ) (count k : ℕ) → old ≡ before ++ init → padded ≡ old ++ replicate k (pos 0) → take (length before + count) padded ≡ before ++ take count (init ++ replicate k (pos 0))
fit_cut before init old padded count k is made =
    ap (take (length before + count)) (made ∙ ap (λ l. l ++ replicate k (pos 0)) is ∙ append_assoc before init (replicate k (pos 0))) ∙ take_behind before (init ++ replicate k (pos 0)) count

pub fit_whole : (before init old padded : List ℤ) (count k : ℕ) → old ≡ before ++ init → padded ≡ old ++ replicate k (pos 0) → length init + k ≤ count → padded ≡ before ++ take count (init ++ replicate k (pos 0))
fit_whole before init old padded count k is made le =
    made ∙ ap (λ l. l ++ replicate k (pos 0)) is ∙ append_assoc before init (replicate k (pos 0))
    ∙ ap (λ l. before ++ l) (sym (take_whole (init ++ replicate k (pos 0)) count (omega (arith, le, length-append init (replicate k (pos 0)), length-replicate k (pos 0)))))
