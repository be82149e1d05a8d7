-- The first line of a text, and the lines behind it.
use Rattle.std.proofs.Common.{inl, inr, ◌≡◌, ℕ, suc, ◌+◌, ◌≤◌, Bool, true, false, ◌&&◌, cond, List, [], ◌∷◌, ◌++◌, length, take, drop, ◌∙◌, sym, refl, ap, arith, append-nil, length-append, Bor, Option, Some, None}
use Rattle.std.specs.Prelude.{◌==◌}
use Rattle.std.specs.List.{list_all, prefix_len, slice_split, onto_first}
use Rattle.std.proofs.lemmas.Bool.{cases_Bool, and_parts, eqb-true, not-false, not-true}
use Rattle.std.proofs.lemmas.List.Splits.{slice_split-cons_no}
use Rattle.asm_source.specs.FirstLine.{is_no_feed, IsFirstLine}

-- the first byte passes
abbrev begins_with : (ℕ → Bool) → List ℕ → Bool
begins_with test [] = false
begins_with test (c ∷ cs) = test c

-- the bytes are a front that passes, the longest, and a rest
pub record IsFront (test : ℕ → Bool) (bytes front rest : List ℕ) : Type 0 where
  pub joined : bytes ≡ front ++ rest
  pub passes : list_all test front ≡ true
  pub stops : begins_with test rest ≡ false

take_one : (n : ℕ) (x : ℕ) (xs : List ℕ) → take (1 + n) (x ∷ xs) ≡ x ∷ take n xs
take_one n x xs = ap (λ k. take k (x ∷ xs)) (let e : 1 + n ≡ suc n = omega arith in e)

drop_one : (n : ℕ) (x : ℕ) (xs : List ℕ) → drop (1 + n) (x ∷ xs) ≡ drop n xs
drop_one n x xs = ap (λ k. drop k (x ∷ xs)) (let e : 1 + n ≡ suc n = omega arith in e)

cons_front : (test : ℕ → Bool) (x : ℕ) (xs front rest : List ℕ) → test x ≡ true → IsFront test xs front rest → IsFront test (x ∷ xs) (x ∷ front) rest
cons_front test x xs front rest p h = record {
  joined = ap (λ l. x ∷ l) h.joined;
  passes = ap (λ b. b && list_all test front) p ∙ h.passes;
  stops = h.stops;
}

pub longest : (test : ℕ → Bool) (xs : List ℕ) → IsFront test xs (take (prefix_len test xs) xs) (drop (prefix_len test xs) xs)
longest test [] = record { joined = refl; passes = refl; stops = refl }
longest test (x ∷ xs) = elim (cases_Bool (test x)) [
  | inl p ↦
      let n : prefix_len test (x ∷ xs) ≡ 1 + prefix_len test xs = ap (λ b. cond b (1 + prefix_len test xs) 0) p in
      rw (n, take_one (prefix_len test xs) x xs, drop_one (prefix_len test xs) x xs) (cons_front test x xs _ _ p (longest test xs))
  | inr p ↦
      let n : prefix_len test (x ∷ xs) ≡ 0 = ap (λ b. cond b (1 + prefix_len test xs) 0) p in
      rw n (record { joined = refl; passes = refl; stops = p })
]

pub feed_first : (text front rest : List ℕ) (c : ℕ) (more : Bor (List ℕ)) → IsFront is_no_feed text front rest → rest ≡ c ∷ more.now
    → IsFirstLine text front (Some more)
feed_first text front rest c more f e = record {
  one_line = f.passes;
  rest = f.joined ∙ ap (λ l. front ++ l) e ∙ ap (λ k. front ++ k ∷ more.now) (eqb-true c 10 (not-false (c == 10) (ap (begins_with is_no_feed) (sym e) ∙ f.stops)));
}

pub no_feed_left : (text front rest : List ℕ) → IsFront is_no_feed text front rest → length rest ≡ 0 → IsFirstLine text front None
no_feed_left text front [] f e = record { one_line = f.passes; rest = f.joined ∙ append-nil front }
no_feed_left text front (x ∷ xs) f e = absurd (omega arith)

-- the lines of a text
abbrev pub lines : List ℕ → List (List ℕ)
lines text = slice_split (λ c. c == 10) text

-- the lines that are left
abbrev pub lines_left : Option (Bor (List ℕ)) → List (List ℕ)
lines_left None = []
lines_left (Some text) = lines text.now

-- how many bytes are left, and one for the text's end
abbrev pub size_left : Option (Bor (List ℕ)) → ℕ
size_left None = 0
size_left (Some text) = length text.now + 1

no_feed : (c : ℕ) (cs : List ℕ) → list_all is_no_feed (c ∷ cs) ≡ true → (c == 10) ≡ false
no_feed c cs h = not-true (c == 10) (and_parts _ _ h).0

only_line : (line : List ℕ) → list_all is_no_feed line ≡ true → lines line ≡ line ∷ []
only_line [] h = refl
only_line (c ∷ cs) h =
    slice_split-cons_no (λ c. c == 10) c cs (no_feed c cs h) ∙ ap (onto_first c) (only_line cs (and_parts _ _ h).1)

line_more : (line more : List ℕ) → list_all is_no_feed line ≡ true → lines (line ++ 10 ∷ more) ≡ line ∷ lines more
line_more [] more h = refl
line_more (c ∷ cs) more h =
    slice_split-cons_no (λ c. c == 10) c (cs ++ 10 ∷ more) (no_feed c cs h) ∙ ap (onto_first c) (line_more cs more (and_parts _ _ h).1)

pub first_of_lines : (text line : List ℕ) (more : Option (Bor (List ℕ))) → IsFirstLine text line more → lines text ≡ line ∷ lines_left more
first_of_lines text line None h = ap lines h.rest ∙ only_line line h.one_line
first_of_lines text line (Some more) h = ap lines h.rest ∙ line_more line more.now h.one_line

pub size_falls : (text line : List ℕ) (more : Option (Bor (List ℕ))) → IsFirstLine text line more → size_left more + 1 ≤ length text + 1
size_falls text line None h = omega arith
size_falls text line (Some more) h = omega (arith, ap length h.rest, length-append line (10 ∷ more.now))
