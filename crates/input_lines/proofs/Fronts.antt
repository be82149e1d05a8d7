-- Fronts of a text: bytes of a kind, digits, and those before a line feed.
use Rattle.std.proofs.Common.{inl, inr, ◌≡◌, ℕ, suc, ◌^◌, ◌+◌, ◌<◌, ◌≤◌, Bool, true, false, ◌&&◌, cond, List, [], ◌∷◌, ◌++◌, length, take, drop, ◌∙◌, sym, refl, ap, arith, append-nil, Bor, Some, None}
use Rattle.std.specs.Prelude.{◌==◌}
use Rattle.std.specs.Char.{digit_value, is_ascii_digit}
use Rattle.std.specs.List.{list_all, prefix_len}
use Rattle.std.specs.Str.Parse.{digits_value, AllDigits}
use Rattle.std.proofs.lemmas.Bool.{cases_Bool, and_parts, eqb-true, not-false}
use Rattle.std.proofs.lemmas.Bool.Decides.{nat_tests}
use Rattle.std.proofs.lemmas.Int.Digits.{digits_value-lt}
use Rattle.std.proofs.Math.Nat.{pow-le-pow_right}
use Rattle.input_lines.specs.Reading.{is_no_feed, IsFirstLine}

-- the first byte passes
abbrev pub begins_with : (ℕ → Bool) → List ℕ → Bool
begins_with test [] = false
begins_with test (c ∷ cs) = test c

-- the bytes are a front that passes, the longest, and a rest
pub record IsFront (test : ℕ → Bool) (bytes front rest : List ℕ) : Type 0 where
  pub joined : bytes ≡ front ++ rest
  pub passes : list_all test front ≡ true
  pub stops : begins_with test rest ≡ false

take_one : (n : ℕ) (x : ℕ) (xs : List ℕ) → take (1 + n) (x ∷ xs) ≡ x ∷ take n xs
take_one n x xs = ap (λ k. take k (x ∷ xs)) (let e : 1 + n ≡ suc n = omega arith in e)

drop_one : (n : ℕ) (x : ℕ) (xs : List ℕ) → drop (1 + n) (x ∷ xs) ≡ drop n xs
drop_one n x xs = ap (λ k. drop k (x ∷ xs)) (let e : 1 + n ≡ suc n = omega arith in e)

cons_front : (test : ℕ → Bool) (x : ℕ) (xs front rest : List ℕ) → test x ≡ true → IsFront test xs front rest → IsFront test (x ∷ xs) (x ∷ front) rest
cons_front test x xs front rest p h = record {
  joined = ap (λ l. x ∷ l) h.joined;
  passes = ap (λ b. b && list_all test front) p ∙ h.passes;
  stops = h.stops;
}

pub longest : (test : ℕ → Bool) (xs : List ℕ) → IsFront test xs (take (prefix_len test xs) xs) (drop (prefix_len test xs) xs)
longest test [] = record { joined = refl; passes = refl; stops = refl }
longest test (x ∷ xs) = elim (cases_Bool (test x)) [
  | inl p ↦
      let n : prefix_len test (x ∷ xs) ≡ 1 + prefix_len test xs = ap (λ b. cond b (1 + prefix_len test xs) 0) p in
      rw (n, take_one (prefix_len test xs) x xs, drop_one (prefix_len test xs) x xs) (cons_front test x xs _ _ p (longest test xs))
  | inr p ↦
      let n : prefix_len test (x ∷ xs) ≡ 0 = ap (λ b. cond b (1 + prefix_len test xs) 0) p in
      rw n (record { joined = refl; passes = refl; stops = p })
]

digit_small : (c : ℕ) → is_ascii_digit c ≡ true → digit_value c < 10
digit_small c d = grind (arith, nat_tests)

all_digits : (ds : List ℕ) → list_all is_ascii_digit ds ≡ true → AllDigits 10 ds
all_digits [] h = tt
all_digits (c ∷ cs) h = (digit_small c (and_parts _ _ h).0, all_digits cs (and_parts _ _ h).1)

pub value_below : (ds : List ℕ) (k : ℕ) → list_all is_ascii_digit ds ≡ true → length ds ≤ k → digits_value 10 ds < 10 ^ k
value_below ds k all h =
    let below = digits_value-lt 10 ds (all_digits ds all) in
    let wide : 10 ^ length ds ≤ 10 ^ k = pow-le-pow_right (omega arith) h in
    omega (arith, below, wide)

pub feed_first : (text front rest : List ℕ) (c : ℕ) (more : Bor (List ℕ)) → IsFront is_no_feed text front rest → rest ≡ c ∷ more.now
    → IsFirstLine text front (Some more)
feed_first text front rest c more f e = record {
  one_line = f.passes;
  rest = f.joined ∙ ap (λ l. front ++ l) e ∙ ap (λ k. front ++ k ∷ more.now) (eqb-true c 10 (not-false (c == 10) (ap (begins_with is_no_feed) (sym e) ∙ f.stops)));
}

pub no_feed_left : (text front rest : List ℕ) → IsFront is_no_feed text front rest → length rest ≡ 0 → IsFirstLine text front None
no_feed_left text front [] f e = record { one_line = f.passes; rest = f.joined ∙ append-nil front }
no_feed_left text front (x ∷ xs) f e = absurd (omega arith)
