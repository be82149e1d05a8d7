-- Tokens by their first byte: no token begins as a space does, and the bytes determine a token.
use Rattle.std.proofs.Common.{◌≡◌, ◌∙◌, ap, refl, sym, ℕ, eqb, nat_lt, not, ◌&&◌, ◌||◌, inl, inr, Bool, true, false, List, [], ◌∷◌, ◌++◌, length, take, drop, arith, take_at, drop_at}
use Rattle.std.proofs.lemmas.Bool.{and_parts, and_left, and_right, or_cases, or_from, false_from_ne_true}
use Rattle.std.proofs.lemmas.Bool.Decides.{nat_tests}
use Rattle.std.specs.Char.{is_ascii_digit, is_ascii_hexdigit}
use Rattle.std.specs.Cmp.Lexicographic.{bytes_decides}
use Rattle.std.specs.List.{list_all, list_any}
use Rattle.nk_base.specs.Byte.{is_gap, is_name_start, is_name_byte}
use Rattle.nk_base.specs.Text.{text_eq}
use Rattle.nml_lex.specs.Form.{is_name, is_prefixed, is_decimal, is_hexadecimal, is_binary, is_binary_digit, is_number, is_string, is_closed, is_mark, is_token, marks, longest}
use Rattle.nml_lex.specs.Lexed.{IsWord}
use Rattle.nml_lex.proofs.Spaces.{Same}

-- what holds of each text holds of one that is among them
pub among : (p : List ℕ → Bool) (texts : List (List ℕ)) (text : List ℕ) → list_all p texts ≡ true → list_any (text_eq text) texts ≡ true → p text ≡ true
among p [] text h g = absurd (cc)
among p (t ∷ texts) text h g =
    let both = and_parts (p t) (list_all p texts) h in
    elim (or_cases (text_eq text t) (list_any (text_eq text) texts) g) as (λ _. p text ≡ true) [
      | inl e ↦ ap p ((bytes_decides text t).0 e) ∙ both.0
      | inr e ↦ among p texts text both.1 e
    ]

-- the first byte fails the test
abbrev pub fails_first : (ℕ → Bool) → List ℕ → Bool
fails_first test [] = true
fails_first test (c ∷ t) = not (test c)

-- no mark begins with a byte that passes a test at which each mark fails
pub no_mark : (test : ℕ → Bool) → list_all (fails_first test) marks ≡ true → (c : ℕ) (t : List ℕ) → test c ≡ true → is_mark (c ∷ t) ≡ false
no_mark test fails c t h = false_from_ne_true (is_mark (c ∷ t)) (λ g. let n : not (test c) ≡ true = among (fails_first test) marks (c ∷ t) fails g in let y : not (test c) ≡ false = ap not h in cc)

-- without a 0 in front there is no prefix
pub no_prefix : (letter : ℕ) (digit : ℕ → Bool) (c : ℕ) (t : List ℕ) → eqb c 48 ≡ false → is_prefixed letter digit (c ∷ t) ≡ false
no_prefix letter digit c [] h = refl
no_prefix letter digit c (d ∷ t) h = and_left (eqb c 48 && eqb d letter) _ (and_left (eqb c 48) (eqb d letter) h)

-- which kinds of tokens a first byte rules out
pub no_number : (c : ℕ) (t : List ℕ) → is_ascii_digit c ≡ false → is_number (c ∷ t) ≡ false
no_number c t h =
    let z : eqb c 48 ≡ false = grind (arith, nat_tests) in
    or_from (is_decimal (c ∷ t)) _ (and_right (nat_lt 0 (length (c ∷ t))) _ (and_left (is_ascii_digit c) (list_all is_ascii_digit t) h))
    (or_from (is_hexadecimal (c ∷ t)) (is_binary (c ∷ t)) (no_prefix 120 is_ascii_hexdigit c t z) (no_prefix 98 is_binary_digit c t z))

pub no_name : (c : ℕ) (t : List ℕ) → is_name_start c ≡ false → is_name (c ∷ t) ≡ false
no_name c t h = and_left (is_name_start c) (list_all is_name_byte t) h

pub no_string : (c : ℕ) (t : List ℕ) → eqb c 34 ≡ false → is_string (c ∷ t) ≡ false
no_string c t h = and_left (eqb c 34) (is_closed t) h

-- a byte with which a space begins
abbrev pub is_apart : ℕ → Bool
is_apart c = is_gap c || eqb c 47

-- a byte with which a space begins begins no token
apart_start : (c : ℕ) → is_apart c ≡ true → is_name_start c ≡ false
apart_start c h = grind (arith, nat_tests)

apart_digit : (c : ℕ) → is_apart c ≡ true → is_ascii_digit c ≡ false
apart_digit c h = grind (arith, nat_tests)

apart_quote : (c : ℕ) → is_apart c ≡ true → eqb c 34 ≡ false
apart_quote c h = grind (arith, nat_tests)

pub no_token : (c : ℕ) (t : List ℕ) → is_apart c ≡ true → is_token (c ∷ t) ≡ false
no_token c t h =
    or_from (is_name (c ∷ t)) _ (no_name c t (apart_start c h))
    (or_from (is_number (c ∷ t)) _ (no_number c t (apart_digit c h)) (or_from (is_string (c ∷ t)) (is_mark (c ∷ t)) (no_string c t (apart_quote c h)) (no_mark is_apart refl c t h)))

-- two tokens in front of the same bytes are as long, and so are one
pub same_fronts : (a b r s : List ℕ) → a ++ r ≡ b ++ s → length a ≡ length b → Same a b r s
same_fronts a b r s e h = record {
  front = sym (take_at a r (length b) h) ∙ ap (take (length b)) e ∙ take_at b s (length b) refl;
  rest = sym (drop_at a r (length b) h) ∙ ap (drop (length b)) e ∙ drop_at b s (length b) refl;
}

pub same_word : (a b r s : List ℕ) → a ++ r ≡ b ++ s → IsWord a r → IsWord b s → Same a b r s
same_word a b r s e w v = same_fronts a b r s e (sym w.longest_is ∙ ap longest e ∙ v.longest_is)
