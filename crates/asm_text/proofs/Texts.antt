-- Texts each byte of which passes a test: where they are cut, and what stands in front.
use Rattle.std.proofs.Common.{ℕ, zero, suc, ◌+◌, ◌≡◌, refl, sym, ◌∙◌, ap, subst, Bool, true, false, cond, List, [], ◌∷◌, ◌++◌, map, take, drop, append_assoc, arith}
use Rattle.std.specs.Prelude.{◌==◌, not, ◌&&◌, flat_map}
use Rattle.std.specs.List.{list_all, prefix_len, slice_split, onto_first}
use Rattle.std.proofs.lemmas.Bool.{and_parts, and_from, eqb-true, not-true, not_from_false}
use Rattle.nml_tree.specs.Table.{Text}
use Rattle.asm_lines.specs.Line.{front, behind, begins_with}
use Rattle.asm_text.specs.Canonical.{ended}

pub all_both : (test : ℕ → Bool) (xs ys : Text) → list_all test xs ≡ true → list_all test ys ≡ true → list_all test (xs ++ ys) ≡ true
all_both test [] ys h k = k
all_both test (x ∷ xs) ys h k = let p = and_parts (test x) (list_all test xs) h in and_from _ _ p.0 (all_both test xs ys p.1 k)

pub all_weaker : (p q : ℕ → Bool) → ((c : ℕ) → p c ≡ true → q c ≡ true) → (xs : Text) → list_all p xs ≡ true → list_all q xs ≡ true
all_weaker p q f [] h = refl
all_weaker p q f (x ∷ xs) h = let r = and_parts (p x) (list_all p xs) h in and_from _ _ (f x r.0) (all_weaker p q f xs r.1)

pub all_drop : (test : ℕ → Bool) (k : ℕ) (xs : Text) → list_all test xs ≡ true → list_all test (drop k xs) ≡ true
all_drop test zero xs h = h
all_drop test (suc k) [] h = refl
all_drop test (suc k) (x ∷ xs) h = all_drop test k xs (and_parts (test x) (list_all test xs) h).1

-- a byte that passes is none that doesn't
pub other_byte : (test : ℕ → Bool) (n : ℕ) → test n ≡ false → (c : ℕ) → test c ≡ true → (c == n) ≡ false
other_byte test n wrong c right = by (c == n) refl
  where
    by : (b : Bool) → (c == n) ≡ b → (c == n) ≡ false
    by true e = absurd (let same : test n ≡ true = subst (λ k. test k ≡ true) (eqb-true c n e) right in cc)
    by false e = e

pub without_byte : (test : ℕ → Bool) (n : ℕ) → test n ≡ false → (xs : Text) → list_all test xs ≡ true → list_all (λ c. not (c == n)) xs ≡ true
without_byte test n wrong xs h = all_weaker test (λ c. not (c == n)) (λ c right. not_from_false (c == n) (other_byte test n wrong c right)) xs h

pub begins_other : (test : ℕ → Bool) (n : ℕ) → test n ≡ false → (xs : Text) → list_all test xs ≡ true → begins_with (λ c. c == n) xs ≡ false
begins_other test n wrong [] h = refl
begins_other test n wrong (x ∷ xs) h = other_byte test n wrong x (and_parts (test x) (list_all test xs) h).0

pub front_all : (test : ℕ → Bool) (xs : Text) → list_all test xs ≡ true → front test xs ≡ xs
front_all test [] h = refl
front_all test (x ∷ xs) h =
    let p = and_parts (test x) (list_all test xs) h in
    let e : 1 + prefix_len test xs ≡ suc (prefix_len test xs) = omega arith in
    ap (λ b. take (cond b (1 + prefix_len test xs) 0) (x ∷ xs)) p.0 ∙ (ap (λ n. take n (x ∷ xs)) e ∙ ap (λ ys. x ∷ ys) (front_all test xs p.1))

pub split_none : (p : ℕ → Bool) (xs : Text) → list_all (λ c. not (p c)) xs ≡ true → slice_split p xs ≡ xs ∷ []
split_none p [] h = refl
split_none p (x ∷ xs) h =
    let r = and_parts (not (p x)) (list_all (λ c. not (p c)) xs) h in
    ap (λ b. cond b ([] ∷ slice_split p xs) (onto_first x (slice_split p xs))) (not-true (p x) r.0) ∙ ap (onto_first x) (split_none p xs r.1)

pub split_at : (p : ℕ → Bool) (xs : Text) (y : ℕ) (ys : Text) → list_all (λ c. not (p c)) xs ≡ true → p y ≡ true → slice_split p (xs ++ y ∷ ys) ≡ xs ∷ slice_split p ys
split_at p [] y ys h k = ap (λ b. cond b ([] ∷ slice_split p ys) (onto_first y (slice_split p ys))) k
split_at p (x ∷ xs) y ys h k =
    let r = and_parts (not (p x)) (list_all (λ c. not (p c)) xs) h in
    ap (λ b. cond b ([] ∷ slice_split p (xs ++ y ∷ ys)) (onto_first x (slice_split p (xs ++ y ∷ ys)))) (not-true (p x) r.0) ∙ ap (onto_first x) (split_at p xs y ys r.1 k)

-- no line has a line feed
abbrev pub AreWhole : List Text → Type 0
AreWhole [] = Unit {0}
AreWhole (l ∷ ls) = (list_all (λ c. not (c == 10)) l ≡ true) × AreWhole ls

pub whole_both : (xs ys : List Text) → AreWhole xs → AreWhole ys → AreWhole (xs ++ ys)
whole_both [] ys h k = k
whole_both (x ∷ xs) ys h k = (h.0, whole_both xs ys h.1 k)

-- the lines of a text of ended lines; behind the last there is an empty one
pub lines_of : (ls : List Text) → AreWhole ls → slice_split (λ c. c == 10) (ended ls) ≡ ls ++ [] ∷ []
lines_of [] h = refl
lines_of (l ∷ ls) h =
    ap (slice_split (λ c. c == 10)) (append_assoc l (10 ∷ []) (ended ls)) ∙ (split_at (λ c. c == 10) l 10 (ended ls) h.0 refl ∙ ap (λ ms. l ∷ ms) (lines_of ls h.1))
