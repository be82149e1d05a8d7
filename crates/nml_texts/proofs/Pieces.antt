-- The pieces of a string, from its first character.
use Rattle.std.proofs.Common.{ℕ, zero, suc, ◌+◌, ◌≡◌, refl, ap, sym, ◌∙◌, List, [], ◌∷◌, ◌++◌, Bool, true, false, take, drop, append_assoc, append-nil, length, cond, subst, one-add, arith}
use Rattle.std.specs.Char.{is_ascii_digit}
use Rattle.std.specs.List.{AllPass, list_all, prefix_len}
use Rattle.std.proofs.lemmas.List.Sums.{AllPass-from_list_all}
use Rattle.nml_tree.specs.Attribute.{FormatPiece, Letter, Directive, pieces, directive_behind}

all_digits : (text : List ℕ) → list_all is_ascii_digit (take (prefix_len is_ascii_digit text) text) ≡ true
all_digits [] = refl
all_digits (c ∷ cs) = by (is_ascii_digit c) refl (all_digits cs)
  where
    by : (b : Bool) → is_ascii_digit c ≡ b → list_all is_ascii_digit (take (prefix_len is_ascii_digit cs) cs) ≡ true → list_all is_ascii_digit (take (prefix_len is_ascii_digit (c ∷ cs)) (c ∷ cs)) ≡ true
    by true e h = rw (e, one-add (prefix_len is_ascii_digit cs), e) h
    by false e h = rw e refl

pub are_digits : (text : List ℕ) → AllPass is_ascii_digit (take (prefix_len is_ascii_digit text) text)
are_digits text = AllPass-from_list_all is_ascii_digit (take (prefix_len is_ascii_digit text) text) (all_digits text)

-- digits up to the end
no_letter : (before text : List ℕ) → drop (prefix_len is_ascii_digit text) text ≡ [] → directive_behind before text ≡ Letter 37 ∷ []
no_letter before [] e = refl
no_letter before (c ∷ cs) e = by (is_ascii_digit c) refl e (no_letter (before ++ c ∷ []) cs)
  where
    by : (b : Bool) → is_ascii_digit c ≡ b → drop (prefix_len is_ascii_digit (c ∷ cs)) (c ∷ cs) ≡ []
        → (drop (prefix_len is_ascii_digit cs) cs ≡ [] → directive_behind (before ++ c ∷ []) cs ≡ Letter 37 ∷ []) → directive_behind before (c ∷ cs) ≡ Letter 37 ∷ []
    by true d e h = rw d (h (rw (d, one-add (prefix_len is_ascii_digit cs)) at e))
    by false d e h = absurd (let f : c ∷ cs ≡ [] = rw d at e in cc)

-- digits and a letter
letter_behind : (before text : List ℕ) (letter : ℕ) (rest : List ℕ) → drop (prefix_len is_ascii_digit text) text ≡ letter ∷ rest
    → directive_behind before text ≡ Directive (before ++ take (prefix_len is_ascii_digit text) text) letter ∷ pieces rest
letter_behind before [] letter rest e = absurd cc
letter_behind before (c ∷ cs) letter rest e = by (is_ascii_digit c) refl e (letter_behind (before ++ c ∷ []) cs letter rest)
  where
    by : (b : Bool) → is_ascii_digit c ≡ b → drop (prefix_len is_ascii_digit (c ∷ cs)) (c ∷ cs) ≡ letter ∷ rest
        → (drop (prefix_len is_ascii_digit cs) cs ≡ letter ∷ rest → directive_behind (before ++ c ∷ []) cs ≡ Directive ((before ++ c ∷ []) ++ take (prefix_len is_ascii_digit cs) cs) letter ∷ pieces rest)
        → directive_behind before (c ∷ cs) ≡ Directive (before ++ take (prefix_len is_ascii_digit (c ∷ cs)) (c ∷ cs)) letter ∷ pieces rest
    by true d e h = rw (d, one-add (prefix_len is_ascii_digit cs)) (h (rw (d, one-add (prefix_len is_ascii_digit cs)) at e) ∙ ap (λ ds. Directive ds letter ∷ pieces rest) (append_assoc before (c ∷ []) (take (prefix_len is_ascii_digit cs) cs)))
    by false d e h = let f : c ∷ cs ≡ letter ∷ rest = rw d at e in rw (d, append-nil before) cc

none_left : (xs : List ℕ) → length xs ≡ 0 → xs ≡ []
none_left [] h = refl
none_left (x ∷ xs) h = absurd (omega (arith, h))

pub percent_alone : (text behind : List ℕ) (n : ℕ) → n ≡ prefix_len is_ascii_digit text → behind ≡ drop n text → length behind ≡ 0 → pieces (37 ∷ text) ≡ Letter 37 ∷ pieces behind
percent_alone text behind n e b none =
    let nil : behind ≡ [] = none_left behind none in
    rw nil (no_letter [] text (rw (← e) (sym b ∙ nil)))

pub percent_letter : (text digits behind rest : List ℕ) (letter n : ℕ) → n ≡ prefix_len is_ascii_digit text → digits ≡ take n text → behind ≡ drop n text → behind ≡ letter ∷ rest
    → pieces (37 ∷ text) ≡ Directive digits letter ∷ pieces rest
percent_letter text digits behind rest letter n e d b some = rw (d, e) (letter_behind [] text letter rest (rw (← e) (sym b ∙ some)))
