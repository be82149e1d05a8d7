-- A line's tokens in two parts, before a number that no digit and no `-` touches.
use Rattle.std.proofs.Common.{ℕ, zero, suc, ◌+◌, ◌≤◌, ◌==◌, ◌≡◌, refl, sym, ◌∙◌, ap, Bool, true, false, List, [], ◌∷◌, ◌++◌, append-nil, append_assoc, length, take, arith}
use Rattle.std.specs.Prelude.{◌&&◌, if◌then◌else◌, cond, nat_lt, pos, neg_ℤ, take_while}
use Rattle.std.specs.Char.{is_ascii_digit}
use Rattle.std.specs.List.{prefix_len}
use Rattle.std.specs.Str.Parse.{digits_value}
use Rattle.nk_base.specs.Byte.{is_name_start, is_blank}
use Rattle.nml_tree.specs.LineToken.{Word, Number, Mark, Begun, begun, number_in_front, tokens_behind, line_tokens}

-- the first byte passes
abbrev pub begins : (ℕ → Bool) → List ℕ → Bool
begins test [] = false
begins test (c ∷ cs) = test c

prefix_front : (test : ℕ → Bool) (us ys : List ℕ) → begins test ys ≡ false → prefix_len test (us ++ ys) ≡ prefix_len test us
prefix_front test [] [] h = refl
prefix_front test [] (y ∷ ys) h = ap (λ b. cond b (1 + prefix_len test ys) 0) h
prefix_front test (u ∷ us) ys h = ap (λ k. cond (test u) (1 + k) 0) (prefix_front test us ys h)

prefix_last : (test : ℕ → Bool) (vs : List ℕ) (c : ℕ) (ys : List ℕ) → test c ≡ false → prefix_len test (vs ++ c ∷ [] ++ ys) ≡ prefix_len test (vs ++ c ∷ [])
prefix_last test [] c ys h = ap (λ b. cond b (1 + prefix_len test ys) 0) h ∙ sym (ap (λ b. cond b (1 + prefix_len test []) 0) h)
prefix_last test (v ∷ vs) c ys h = ap (λ k. cond (test v) (1 + k) 0) (prefix_last test vs c ys h)

prefix_most : (test : ℕ → Bool) (us : List ℕ) → prefix_len test us ≤ length us
prefix_most test [] = omega arith
prefix_most test (u ∷ us) = most (test u) (prefix_len test us) (length us) (prefix_most test us)
  where
    most : (b : Bool) (k n : ℕ) → k ≤ n → cond b (1 + k) 0 ≤ suc n
    most true k n h = omega (arith, h)
    most false k n h = omega arith

take_front : (n : ℕ) (us ys : List ℕ) → n ≤ length us → take n (us ++ ys) ≡ take n us
take_front zero us ys h = refl
take_front (suc n) [] ys h = absurd (omega (arith, h))
take_front (suc n) (u ∷ us) ys h = ap (λ xs. u ∷ xs) (take_front n us ys (omega (arith, h)))

while_same : (test : ℕ → Bool) (us ys : List ℕ) → prefix_len test (us ++ ys) ≡ prefix_len test us → take_while test (us ++ ys) ≡ take_while test us
while_same test us ys h = ap (λ k. take k (us ++ ys)) h ∙ take_front (prefix_len test us) us ys (prefix_most test us)

-- what a byte begins, by its kind
abbrev by_kind : (name digit minus blank : Bool) → (c : ℕ) → List ℕ → (k front m number : ℕ) → Begun
by_kind name digit minus blank c w k front m number =
    if name then record { token = Word w ∷ []; more = k }
    else if digit then record { token = Number (pos front) ∷ []; more = m }
    else if minus && nat_lt 0 m then record { token = Number (neg_ℤ (pos number)) ∷ []; more = m }
    else if blank then record { token = []; more = 0 }
    else record { token = Mark c ∷ []; more = 0 }

-- with the kind of this byte
abbrev kind_of : ℕ → List ℕ → (k front m number : ℕ) → Begun
kind_of c w k front m number = by_kind (is_name_start c) (is_ascii_digit c) (c == 45) (is_blank c) c w k front m number

begun_is : (c : ℕ) (text : List ℕ) → begun c text ≡ kind_of c (take_while is_name_start (c ∷ text)) (prefix_len is_name_start text) (number_in_front (c ∷ text)) (prefix_len is_ascii_digit text) (number_in_front text)
begun_is c text = refl

same_kind : (v : ℕ) (w w2 : List ℕ) (k k2 f f2 m m2 n n2 : ℕ) → w ≡ w2 → k ≡ k2 → f ≡ f2 → m ≡ m2 → n ≡ n2 → kind_of v w k f m n ≡ kind_of v w2 k2 f2 m2 n2
same_kind v w w2 k k2 f f2 m m2 n n2 a b c d e = rw (a, b, c, d, e) refl

kept : (v : ℕ) (vs : List ℕ) (c : ℕ) (ys : List ℕ) → is_ascii_digit c ≡ false → begins is_name_start ys ≡ false → begun v (vs ++ c ∷ [] ++ ys) ≡ begun v (vs ++ c ∷ [])
kept v vs c ys d h =
    let us = vs ++ c ∷ [] in
    begun_is v (us ++ ys)
    ∙ (same_kind v _ _ _ _ _ _ _ _ _ _
    (while_same is_name_start (v ∷ us) ys (prefix_front is_name_start (v ∷ us) ys h))
    (prefix_front is_name_start us ys h)
    (ap (digits_value 10) (while_same is_ascii_digit (v ∷ us) ys (prefix_last is_ascii_digit (v ∷ vs) c ys d)))
    (prefix_last is_ascii_digit vs c ys d)
    (ap (digits_value 10) (while_same is_ascii_digit us ys (prefix_last is_ascii_digit vs c ys d)))
    ∙ sym (begun_is v us))

alone_kind : (name digit minus blank : Bool) (c : ℕ) (w w2 : List ℕ) (k f f2 m m2 n n2 : ℕ) → digit ≡ false → minus ≡ false → w ≡ w2 → k ≡ 0
    → (by_kind name digit minus blank c w k f m n ≡ by_kind name digit minus blank c w2 0 f2 m2 n2) × ((by_kind name digit minus blank c w2 0 f2 m2 n2).more ≡ 0)
alone_kind name true minus blank c w w2 k f f2 m m2 n n2 d e a b = absurd cc
alone_kind name false true blank c w w2 k f f2 m m2 n n2 d e a b = absurd cc
alone_kind true false false blank c w w2 k f f2 m m2 n n2 d e a b = (rw (a, b) refl, refl)
alone_kind false false false true c w w2 k f f2 m m2 n n2 d e a b = (refl, refl)
alone_kind false false false false c w w2 k f f2 m m2 n n2 d e a b = (refl, refl)

-- neither a digit nor a `-`: what it begins ends with it
alone : (c : ℕ) (ys : List ℕ) → is_ascii_digit c ≡ false → (c == 45) ≡ false → begins is_name_start ys ≡ false → (begun c ys ≡ begun c []) × ((begun c []).more ≡ 0)
alone c ys d m h =
    alone_kind (is_name_start c) (is_ascii_digit c) (c == 45) (is_blank c) c (take_while is_name_start (c ∷ ys)) (take_while is_name_start (c ∷ []))
    (prefix_len is_name_start ys) (number_in_front (c ∷ ys)) (number_in_front (c ∷ [])) (prefix_len is_ascii_digit ys) 0 (number_in_front ys) (number_in_front []) d m
    (while_same is_name_start (c ∷ []) ys (prefix_front is_name_start (c ∷ []) ys h)) (prefix_front is_name_start [] ys h)

most_kind : (name digit minus blank : Bool) (c : ℕ) (w : List ℕ) (k f m n l : ℕ) → k ≤ l → m ≤ l → (by_kind name digit minus blank c w k f m n).more ≤ l
most_kind true digit minus blank c w k f m n l a b = a
most_kind false true minus blank c w k f m n l a b = b
most_kind false false true blank c w k f m n l a b = by (nat_lt 0 m)
  where
    by : (s : Bool) → (if s then record { token = Number (neg_ℤ (pos n)) ∷ []; more = m } else by_kind false false false blank c w k f m n).more ≤ l
    by true = b
    by false = blanks blank
      where
        blanks : (s : Bool) → (by_kind false false false s c w k f m n).more ≤ l
        blanks true = omega arith
        blanks false = omega arith
most_kind false false false true c w k f m n l a b = omega arith
most_kind false false false false c w k f m n l a b = omega arith

more_most : (v : ℕ) (us : List ℕ) → (begun v us).more ≤ length us
more_most v us = most_kind (is_name_start v) (is_ascii_digit v) (v == 45) (is_blank v) v _ _ _ _ _ (length us) (prefix_most is_name_start us) (prefix_most is_ascii_digit us)

split_behind : (vs : List ℕ) (c : ℕ) (ys : List ℕ) (n : ℕ) → n ≤ length (vs ++ c ∷ []) → is_ascii_digit c ≡ false → (c == 45) ≡ false → begins is_name_start ys ≡ false
    → tokens_behind n (vs ++ c ∷ [] ++ ys) ≡ tokens_behind n (vs ++ c ∷ []) ++ tokens_behind 0 ys
split_behind [] c ys zero low d m h =
    let a = alone c ys d m h in
    ap (λ (b : Begun). b.token ++ tokens_behind b.more ys) a.0
    ∙ (ap (λ k. (begun c []).token ++ tokens_behind k ys) a.1 ∙ ap (λ ts. ts ++ tokens_behind 0 ys) (sym (append-nil (begun c []).token)))
split_behind [] c ys (suc zero) low d m h = refl
split_behind [] c ys (suc (suc n)) low d m h = absurd (omega (arith, low))
split_behind (v ∷ vs) c ys zero low d m h =
    let us = vs ++ c ∷ [] in
    let b = begun v us in
    ap (λ (b : Begun). b.token ++ tokens_behind b.more (us ++ ys)) (kept v vs c ys d h)
    ∙ (ap (λ ts. b.token ++ ts) (split_behind vs c ys b.more (more_most v us) d m h) ∙ sym (append_assoc b.token (tokens_behind b.more us) (tokens_behind 0 ys)))
split_behind (v ∷ vs) c ys (suc n) low d m h = split_behind vs c ys n (omega (arith, low)) d m h

-- the text up to a byte that is neither a digit nor a `-` has its own tokens, where no letter stands behind it
pub split : (vs : List ℕ) (c : ℕ) (ys : List ℕ) → is_ascii_digit c ≡ false → (c == 45) ≡ false → begins is_name_start ys ≡ false
    → line_tokens (vs ++ c ∷ [] ++ ys) ≡ line_tokens (vs ++ c ∷ []) ++ line_tokens ys
split vs c ys d m h = split_behind vs c ys 0 (omega arith) d m h
