-- The parts of a text: the first, and those behind it.
use Rattle.std.proofs.Common.{inl, inr, ℕ, suc, ◌≡◌, ◌+◌, Bool, true, false, cond, List, [], ◌∷◌, length, take, drop, refl, sym, ◌∙◌, ap, subst, arith}
use Rattle.std.specs.Prelude.{nat_lt, not, filter, ◌==◌}
use Rattle.std.specs.List.{prefix_len, slice_split, onto_first}
use Rattle.std.proofs.lemmas.Bool.{cases_Bool, lt-ltb, eqb-true}
use Rattle.std.proofs.lemmas.List.Splits.{slice_split-cons_yes, slice_split-cons_no}
use Rattle.nk_base.specs.Byte.{is_blank}
use Rattle.asm_lines.specs.Line.{parts, behind, without_blanks}
use Rattle.asm_lines.specs.Seen.{but_first, others, is_at, is_no_at, is_no_blank, BeginsPart, IsNextPart}

take_one : (n : ℕ) (x : ℕ) (xs : List ℕ) → take (1 + n) (x ∷ xs) ≡ x ∷ take n xs
take_one n x xs = ap (λ k. take k (x ∷ xs)) (let e : 1 + n ≡ suc n = omega arith in e)

drop_one : (n : ℕ) (x : ℕ) (xs : List ℕ) → drop (1 + n) (x ∷ xs) ≡ drop n xs
drop_one n x xs = ap (λ k. drop k (x ∷ xs)) (let e : 1 + n ≡ suc n = omega arith in e)

-- how many bytes stand before the first that separates
abbrev len : (ℕ → Bool) → List ℕ → ℕ
len p xs = prefix_len (λ c. not (p c)) xs

len_yes : (p : ℕ → Bool) (x : ℕ) (xs : List ℕ) → p x ≡ true → len p (x ∷ xs) ≡ 0
len_yes p x xs e = ap (λ b. cond (not b) (1 + len p xs) 0) e

len_no : (p : ℕ → Bool) (x : ℕ) (xs : List ℕ) → p x ≡ false → len p (x ∷ xs) ≡ 1 + len p xs
len_no p x xs e = ap (λ b. cond (not b) (1 + len p xs) 0) e

-- what stands behind the first part is empty, or a byte that separates is in front
split_stops : (p : ℕ → Bool) (xs : List ℕ) → slice_split p (drop (len p xs) xs) ≡ [] ∷ but_first (slice_split p (drop (len p xs) xs))
split_stops p [] = refl
split_stops p (x ∷ xs) = elim (cases_Bool (p x)) [
  | inl e ↦ subst (λ n. slice_split p (drop n (x ∷ xs)) ≡ [] ∷ but_first (slice_split p (drop n (x ∷ xs)))) (sym (len_yes p x xs e)) (rw (slice_split-cons_yes p x xs e) refl)
  | inr e ↦ subst (λ ys. slice_split p ys ≡ [] ∷ but_first (slice_split p ys)) (sym (ap (λ n. drop n (x ∷ xs)) (len_no p x xs e) ∙ drop_one (len p xs) x xs)) (split_stops p xs)
]

-- the first part, and those behind it
pub split_front : (p : ℕ → Bool) (xs : List ℕ) → slice_split p xs ≡ take (len p xs) xs ∷ but_first (slice_split p (drop (len p xs) xs))
split_front p [] = refl
split_front p (x ∷ xs) = elim (cases_Bool (p x)) [
  | inl e ↦
      subst (λ n. slice_split p (x ∷ xs) ≡ take n (x ∷ xs) ∷ but_first (slice_split p (drop n (x ∷ xs)))) (sym (len_yes p x xs e))
      (rw (slice_split-cons_yes p x xs e) refl)
  | inr e ↦
      subst (λ n. slice_split p (x ∷ xs) ≡ take n (x ∷ xs) ∷ but_first (slice_split p (drop n (x ∷ xs)))) (sym (len_no p x xs e))
      (rw (take_one (len p xs) x xs, drop_one (len p xs) x xs) (slice_split-cons_no p x xs e ∙ ap (onto_first x) (split_front p xs)))
]

-- parts between blanks
abbrev is_part : List ℕ → Bool
is_part p = nat_lt 0 (length p)

pub parts_without_blanks : (text : List ℕ) → parts (without_blanks text) ≡ parts text
parts_without_blanks [] = refl
parts_without_blanks (c ∷ cs) = elim (cases_Bool (is_blank c)) [
  | inl e ↦
      let n : prefix_len is_blank (c ∷ cs) ≡ 1 + prefix_len is_blank cs = ap (λ b. cond b (1 + prefix_len is_blank cs) 0) e in
      ap (λ k. parts (drop k (c ∷ cs))) n ∙ (ap parts (drop_one (prefix_len is_blank cs) c cs) ∙ (parts_without_blanks cs ∙ sym (ap (filter is_part) (slice_split-cons_yes is_blank c cs e))))
  | inr e ↦
      let n : prefix_len is_blank (c ∷ cs) ≡ 0 = ap (λ b. cond b (1 + prefix_len is_blank cs) 0) e in
      ap (λ k. parts (drop k (c ∷ cs))) n
]

pub no_parts : (text : List ℕ) → without_blanks text ≡ [] → parts text ≡ []
no_parts text e = sym (parts_without_blanks text) ∙ ap parts e

first_no_blank : (text : List ℕ) (c : ℕ) (cs : List ℕ) → without_blanks text ≡ c ∷ cs → is_blank c ≡ false
first_no_blank [] c cs h = absurd cc
first_no_blank (x ∷ xs) c cs h = elim (cases_Bool (is_blank x)) [
  | inl e ↦
      let n : prefix_len is_blank (x ∷ xs) ≡ 1 + prefix_len is_blank xs = ap (λ b. cond b (1 + prefix_len is_blank xs) 0) e in
      first_no_blank xs c cs (sym (drop_one (prefix_len is_blank xs) x xs) ∙ (sym (ap (λ k. drop k (x ∷ xs)) n) ∙ h))
  | inr e ↦
      let n : prefix_len is_blank (x ∷ xs) ≡ 0 = ap (λ b. cond b (1 + prefix_len is_blank xs) 0) e in
      let same : x ∷ xs ≡ c ∷ cs = sym (ap (λ k. drop k (x ∷ xs)) n) ∙ h in
      let one : x ≡ c = cc in
      subst (λ y. is_blank y ≡ false) one e
]

one_part : (c : ℕ) (cs : List ℕ) → is_blank c ≡ false → parts (c ∷ cs) ≡ take (len is_blank (c ∷ cs)) (c ∷ cs) ∷ parts (drop (len is_blank (c ∷ cs)) (c ∷ cs))
one_part c cs e =
    let kept : is_part (take (len is_blank (c ∷ cs)) (c ∷ cs)) ≡ true = ap is_part (ap (λ k. take k (c ∷ cs)) (len_no is_blank c cs e) ∙ take_one (len is_blank cs) c cs) ∙ lt-ltb 0 (length (c ∷ take (len is_blank cs) cs)) (omega arith) in
    let rest : parts (drop (len is_blank (c ∷ cs)) (c ∷ cs)) ≡ filter is_part (but_first (slice_split is_blank (drop (len is_blank (c ∷ cs)) (c ∷ cs)))) = ap (filter is_part) (split_stops is_blank (c ∷ cs)) in
    ap (filter is_part) (split_front is_blank (c ∷ cs))
    ∙ (ap (λ b. cond b (take (len is_blank (c ∷ cs)) (c ∷ cs) ∷ filter is_part (but_first (slice_split is_blank (drop (len is_blank (c ∷ cs)) (c ∷ cs))))) (filter is_part (but_first (slice_split is_blank (drop (len is_blank (c ∷ cs)) (c ∷ cs)))))) kept
    ∙ ap (λ ps. take (len is_blank (c ∷ cs)) (c ∷ cs) ∷ ps) (sym rest))

pub empty_parts : (text rest : List ℕ) → rest ≡ without_blanks text → true ≡ (length rest == 0) → parts text ≡ []
empty_parts text [] is none = no_parts text (sym is)
empty_parts text (c ∷ cs) is none = let e = eqb-true (length (c ∷ cs)) 0 (sym none) in absurd (omega (arith, e))

pub next_part_is : (text rest part more : List ℕ) (n : ℕ) → rest ≡ without_blanks text → false ≡ (length rest == 0) → n ≡ prefix_len is_no_blank rest → part ≡ take n rest → more ≡ drop n rest → IsNextPart text part more
next_part_is text [] part more n is some long a b = absurd (let e : false ≡ true = some in cc)
next_part_is text (c ∷ cs) part more n is some long a b = record {
  parts_are = sym (parts_without_blanks text) ∙ (ap parts (sym is) ∙ (one_part c cs (first_no_blank text c cs (sym is)) ∙ rw (a, b, long) refl));
}

-- parts behind each `@`
pub begins_behind : (text rest : List ℕ) (n : ℕ) → n ≡ prefix_len is_no_at text → rest ≡ drop n text → BeginsPart rest
begins_behind text rest n long is = subst BeginsPart (sym (is ∙ ap (λ k. drop k text) long)) (stop text)
  where
    stop : (xs : List ℕ) → BeginsPart (drop (len is_at xs) xs)
    stop [] = tt
    stop (x ∷ xs) = elim (cases_Bool (is_at x)) [
      | inl e ↦ subst (λ n. BeginsPart (drop n (x ∷ xs))) (sym (len_yes is_at x xs e)) e
      | inr e ↦ subst BeginsPart (sym (ap (λ n. drop n (x ∷ xs)) (len_no is_at x xs e) ∙ drop_one (len is_at xs) x xs)) (stop xs)
    ]

others_behind : (c : ℕ) (cs : List ℕ) → is_at c ≡ true → others (c ∷ cs) ≡ take (prefix_len is_no_at cs) cs ∷ others (drop (prefix_len is_no_at cs) cs)
others_behind c cs e = ap but_first (slice_split-cons_yes is_at c cs e) ∙ split_front is_at cs

pub next_other : (rest : List ℕ) (c : ℕ) (behind part more : List ℕ) (n : ℕ) → BeginsPart rest → rest ≡ c ∷ behind → n ≡ prefix_len is_no_at behind → part ≡ take n behind → more ≡ drop n behind → others rest ≡ part ∷ others more
next_other rest c behind part more n begins is long a b =
    let at : is_at c ≡ true = subst BeginsPart is begins in ap others is ∙ (others_behind c behind at ∙ rw (a, b, long) refl)
