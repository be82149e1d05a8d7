-- A text whose runs of digits are short has short numbers.
use Rattle.std.proofs.Common.{inl, inr, ℕ, zero, suc, ◌≡◌, ◌≤◌, ◌+◌, Bool, true, false, cond, List, [], ◌∷◌, drop, refl, ap, sym, arith}
use Rattle.std.specs.Char.{is_ascii_digit}
use Rattle.std.specs.List.{prefix_len}
use Rattle.std.proofs.lemmas.Bool.{cases_Bool, and_parts, and_from, leb-true, le-leb}
use Rattle.nml_line.specs.Pushed.{HasShortNumbers}
use Rattle.asm_lines.specs.Line.{has_short_runs}
use Rattle.asm_lines.specs.Seen.{run_with, are_short}

digit_run : (n c : ℕ) → is_ascii_digit c ≡ true → run_with n c ≡ n + 1
digit_run n c d = ap (λ b. cond b (n + 1) 0) d

run_more : (c : ℕ) (cs : List ℕ) → is_ascii_digit c ≡ true → prefix_len is_ascii_digit (c ∷ cs) ≡ 1 + prefix_len is_ascii_digit cs
run_more c cs d = ap (λ b. cond b (1 + prefix_len is_ascii_digit cs) 0) d

run_none : (c : ℕ) (cs : List ℕ) → is_ascii_digit c ≡ false → prefix_len is_ascii_digit (c ∷ cs) ≡ 0
run_none c cs d = ap (λ b. cond b (1 + prefix_len is_ascii_digit cs) 0) d

-- runs that are short behind so many digits
first_short : (n : ℕ) (xs : List ℕ) → n ≤ 38 → are_short n xs ≡ true → n + prefix_len is_ascii_digit xs ≤ 38
first_short n [] few h = omega (arith, few)
first_short n (c ∷ cs) few h =
    let p = and_parts _ _ h in
    elim (cases_Bool (is_ascii_digit c)) [
      | inl d ↦
          let l = leb-true _ _ p.0 in
          let r = first_short (run_with n c) cs l p.1 in
          omega (arith, r, digit_run n c d, run_more c cs d)
      | inr d ↦ omega (arith, few, run_none c cs d)
    ]

all_short : (n : ℕ) (xs : List ℕ) → n ≤ 38 → are_short n xs ≡ true → has_short_runs xs ≡ true
all_short n [] few h = refl
all_short n (c ∷ cs) few h =
    let p = and_parts _ _ h in
    let r = first_short n (c ∷ cs) few h in
    and_from _ _ (le-leb (prefix_len is_ascii_digit (c ∷ cs)) 38 (omega (arith, r))) (all_short (run_with n c) cs (leb-true _ _ p.0) p.1)

front_run : (xs : List ℕ) → has_short_runs xs ≡ true → prefix_len is_ascii_digit xs ≤ 38
front_run [] h = omega arith
front_run (c ∷ cs) h = leb-true _ _ (and_parts _ _ h).0

back_short : (n : ℕ) (xs : List ℕ) → n + prefix_len is_ascii_digit xs ≤ 38 → has_short_runs xs ≡ true → are_short n xs ≡ true
back_short n [] few h = refl
back_short n (c ∷ cs) few h =
    let p = and_parts _ _ h in
    elim (cases_Bool (is_ascii_digit c)) [
      | inl d ↦
          let r = digit_run n c d in let m = run_more c cs d in
          and_from _ _ (le-leb (run_with n c) 38 (omega (arith, few, r, m))) (back_short (run_with n c) cs (omega (arith, few, r, m)) p.1)
      | inr d ↦
          let r : run_with n c ≡ 0 = ap (λ b. cond b (n + 1) 0) d in let m = front_run cs p.1 in
          and_from _ _ (le-leb (run_with n c) 38 (omega (arith, r))) (back_short (run_with n c) cs (omega (arith, r, m)) p.1)
    ]

one_test : (a b : Bool) → (a ≡ true → b ≡ true) → (b ≡ true → a ≡ true) → a ≡ b
one_test true true f g = refl
one_test true false f g = sym (f refl)
one_test false true f g = g refl
one_test false false f g = refl

pub short_is : (xs : List ℕ) → are_short 0 xs ≡ has_short_runs xs
short_is xs = one_test (are_short 0 xs) (has_short_runs xs) (all_short 0 xs (omega arith)) (λ h. let r = front_run xs h in back_short 0 xs (omega (arith, r)) h)

each_short : (xs : List ℕ) (k : ℕ) → has_short_runs xs ≡ true → prefix_len is_ascii_digit (drop k xs) ≤ 38
each_short xs zero h = front_run xs h
each_short [] (suc k) h = omega arith
each_short (c ∷ cs) (suc k) h = each_short cs k (and_parts _ _ h).1

pub short_numbers : (text : List ℕ) → has_short_runs text ≡ true → HasShortNumbers text
short_numbers text h k = each_short text k h
