-- A line as its first token and what stands behind it.
use Rattle.std.proofs.Common.{ℕ, zero, suc, ◌+◌, ◌≤◌, ◌<◌, List, [], ◌∷◌, ◌++◌, ◌≡◌, map, length, take, drop, arith, refl, sym, ◌∙◌, ap, subst, append_assoc, true, false, pos, neg_ℤ, ◌^◌, Some, None, to_z}
use Rattle.std.specs.Int.{w128}
use Rattle.std.specs.Prelude.{FitsSigned, Bool, ◌==◌, ◌&&◌, nat_lt, if◌then◌else◌}
use Rattle.std.specs.Char.{is_ascii_digit, digit_value}
use Rattle.std.specs.List.{prefix_len, AllPass}
use Rattle.std.specs.Str.Parse.{digits_value, AllDigits}
use Rattle.std.proofs.lemmas.Bool.{lt-ltb, ne_eqb, eqb-true, eqb-false}
use Rattle.std.proofs.lemmas.Bool.Decides.{nat_tests}
use Rattle.std.proofs.lemmas.Int.{fits_signed_from_abs, to_z_pos}
use Rattle.std.proofs.lemmas.Int.Digits.{digits_value-lt}
use Rattle.std.proofs.lemmas.List.{drop-drop, get_or-take}
use Rattle.std.proofs.lemmas.List.Folds.{length-prefix_len}
use Rattle.std.proofs.lemmas.List.Sums.{prefix_len_passes}
use Rattle.std.proofs.Math.Nat.{pow-le-pow_right}
use Rattle.nk_base.specs.Byte.{is_name_start, is_blank}
use Rattle.nk_base.proofs.DigitsValue.{digit_is_no_name_start}
use Rattle.nml_tree.specs.LineToken as token
use Rattle.nml_tree.specs.LineToken.{LineToken, begun, tokens_behind, line_tokens}
use Rattle.nml_tree.specs.Outline.{Written}
use Rattle.nml_shape.specs.declared.shape.Piece.{Piece}
use Rattle.nml_shape.specs.declared.shape.Piece.TheVariants as piece
use Rattle.nml_shape.specs.Shown.{token_of}
use Rattle.nml_line.specs.Pushed.{HasShortNumbers, IsPushed, marks}

behind_is : (n : ℕ) (text : List ℕ) → tokens_behind n text ≡ line_tokens (drop n text)
behind_is zero [] = refl
behind_is (suc n) [] = refl
behind_is zero (c ∷ text) = refl
behind_is (suc n) (c ∷ text) = behind_is n text

line_is : (c : ℕ) (text : List ℕ) → line_tokens (c ∷ text) ≡ (begun c text).token ++ line_tokens (drop (begun c text).more text)
line_is c text = ap (λ ts. (begun c text).token ++ ts) (behind_is (begun c text).more text)

map_append : {A B : Type 0} (f : A → B) (xs ys : List A) → map f (xs ++ ys) ≡ map f xs ++ map f ys
map_append f [] ys = refl
map_append f (x ∷ xs) ys = ap (λ zs. f x ∷ zs) (map_append f xs ys)

pub short_behind : (j : ℕ) (line : List ℕ) → HasShortNumbers line → HasShortNumbers (drop j line)
short_behind j line h k = subst (λ xs. prefix_len is_ascii_digit xs ≤ 38) (sym (drop-drop k j line)) (h (j + k))

drop_length : (j : ℕ) (xs : List ℕ) → length (drop j xs) ≤ length xs
drop_length zero xs = omega arith
drop_length (suc j) [] = omega arith
drop_length (suc j) (x ∷ xs) = omega (arith, drop_length j xs)

-- the pieces that were pushed are the token that the first byte begins
pub one_pushed : (line : List ℕ) (c : ℕ) (text : List ℕ) (old new : List Piece) (ps : List Piece) (rest : List ℕ) → line ≡ c ∷ text → HasShortNumbers line → new ≡ old ++ ps → map token_of ps ≡ map Written (begun c text).token → rest ≡ drop (begun c text).more text → IsPushed line old new rest
one_pushed line c text old new ps rest is short pushed same left = record {
  same =
      rw (pushed, is, left, map_append token_of old ps, same, line_is c text, map_append Written (begun c text).token (line_tokens (drop (begun c text).more text)))
      (append_assoc (map token_of old) (map Written (begun c text).token) (map Written (line_tokens (drop (begun c text).more text))));
  short = rw left (short_behind (begun c text).more text (short_behind 1 (c ∷ text) (subst HasShortNumbers is short)));
  shorter = let l = ap length is in let m = ap length left in let n = drop_length (begun c text).more text in omega (arith, l, m, n);
}

pub word_pushed : (line : List ℕ) (c : ℕ) (text : List ℕ) (old new : List Piece) (n : ℕ) (w rest : List ℕ) → line ≡ c ∷ text → HasShortNumbers line → is_name_start c ≡ true
    → n ≡ prefix_len is_name_start line → w ≡ take n line → rest ≡ drop n line → new ≡ old ++ piece.Word w ∷ [] → IsPushed line old new rest
word_pushed line c text old new n w rest is short letter many word left pushed =
    let all : n ≡ suc (prefix_len is_name_start text) = many ∙ ap (prefix_len is_name_start) is ∙ (rw letter (omega arith)) in
    one_pushed line c text old new (piece.Word w ∷ []) rest is short pushed
    (rw (letter, word, all, is) (let e : 1 + prefix_len is_name_start text ≡ suc (prefix_len is_name_start text) = omega arith in rw e refl))
    (rw letter (left ∙ ap (λ m. drop m line) all ∙ ap (drop (suc (prefix_len is_name_start text))) is))

pub number_pushed : (line : List ℕ) (c : ℕ) (text : List ℕ) (old new : List Piece) (n : ℕ) (ds rest : List ℕ) → line ≡ c ∷ text → HasShortNumbers line → is_ascii_digit c ≡ true
    → n ≡ prefix_len is_ascii_digit line → ds ≡ take n line → rest ≡ drop n line → new ≡ old ++ piece.Number (pos (digits_value 10 ds)) ∷ [] → IsPushed line old new rest
number_pushed line c text old new n ds rest is short digit many word left pushed =
    let all : n ≡ suc (prefix_len is_ascii_digit text) = many ∙ ap (prefix_len is_ascii_digit) is ∙ (rw digit (omega arith)) in
    let e : 1 + prefix_len is_ascii_digit text ≡ suc (prefix_len is_ascii_digit text) = omega arith in
    one_pushed line c text old new (piece.Number (pos (digits_value 10 ds)) ∷ []) rest is short pushed
    (rw (digit_is_no_name_start c digit, digit, word, all, is, e) refl)
    (rw (digit_is_no_name_start c digit, digit) (left ∙ ap (λ m. drop m line) all ∙ ap (drop (suc (prefix_len is_ascii_digit text))) is))

pub minus_pushed : (line : List ℕ) (c : ℕ) (text : List ℕ) (old new : List Piece) (n : ℕ) (ds rest : List ℕ) → line ≡ c ∷ text → HasShortNumbers line → c ≡ 45
    → n ≡ prefix_len is_ascii_digit text → 0 < n → ds ≡ take n text → rest ≡ drop n text → new ≡ old ++ piece.Number (neg_ℤ (pos (digits_value 10 ds))) ∷ [] → IsPushed line old new rest
minus_pushed line c text old new n ds rest is short minus many some word left pushed =
    one_pushed line c text old new (piece.Number (neg_ℤ (pos (digits_value 10 ds))) ∷ []) rest is short pushed
    (rw (minus, ← many, lt-ltb 0 n some, word) refl)
    (rw (minus, ← many, lt-ltb 0 n some) left)

-- what a byte begins that is no letter, no digit and no sign
abbrev other : ℕ → Bool → token.Begun
other c b = if b then record { token = []; more = 0 } else record { token = token.Mark c ∷ []; more = 0 }

begun_other : (c : ℕ) (text : List ℕ) → is_name_start c ≡ false → is_ascii_digit c ≡ false → ((c == 45) && nat_lt 0 (prefix_len is_ascii_digit text)) ≡ false → begun c text ≡ other c (is_blank c)
begun_other c text letter digit minus = rw (letter, digit, minus) refl

pub mark_pushed : (line : List ℕ) (c : ℕ) (text : List ℕ) (old new : List Piece) → line ≡ c ∷ text → HasShortNumbers line → is_name_start c ≡ false → is_ascii_digit c ≡ false
    → ((c == 45) && nat_lt 0 (prefix_len is_ascii_digit text)) ≡ false → new ≡ old ++ marks c → IsPushed line old new text
mark_pushed line c text old new is short letter digit minus pushed =
    let e = begun_other c text letter digit minus in
    one_pushed line c text old new (marks c) text is short pushed (rw e (same (is_blank c))) (rw e (left (is_blank c)))
  where
    same : (b : Bool) → map token_of (if b then [] else piece.Mark c ∷ []) ≡ map Written (other c b).token
    same true = refl
    same false = refl

    left : (b : Bool) → text ≡ drop (other c b).more text
    left true = refl
    left false = refl

-- the digits in front
pub front_digits : (xs : List ℕ) → AllPass is_ascii_digit (take (prefix_len is_ascii_digit xs) xs)
front_digits xs k d low =
    let n = length-prefix_len is_ascii_digit xs in
    let less : k < prefix_len is_ascii_digit xs = omega (arith, low, n) in
    rw (get_or-take (prefix_len is_ascii_digit xs) xs k d less) (prefix_len_passes is_ascii_digit xs k d less)

pub few_digits : (line : List ℕ) (n : ℕ) (ds : List ℕ) → HasShortNumbers line → n ≡ prefix_len is_ascii_digit line → ds ≡ take n line → length ds ≤ 38
few_digits line n ds short many is = let l = ap length is ∙ ap (λ m. length (take m line)) many ∙ length-prefix_len is_ascii_digit line in let s = short 0 in omega (arith, l, s)

pub are_digits : (line : List ℕ) (n : ℕ) (ds : List ℕ) → n ≡ prefix_len is_ascii_digit line → ds ≡ take n line → AllPass is_ascii_digit ds
are_digits line n ds many is = subst (AllPass is_ascii_digit) (sym (is ∙ ap (λ m. take m line) many)) (front_digits line)

one_digit : (c : ℕ) → is_ascii_digit c ≡ true → digit_value c < 10
one_digit c h = grind (arith, nat_tests)

all_digits : (ds : List ℕ) → AllPass is_ascii_digit ds → AllDigits 10 ds
all_digits [] h = tt
all_digits (c ∷ cs) h = (one_digit c (h 0 0 (omega arith)), all_digits cs (λ k d low. h (suc k) d (omega (arith, low))))

pub small_number : (ds : List ℕ) → AllPass is_ascii_digit ds → length ds ≤ 38 → digits_value 10 ds < 10 ^ 38
small_number ds h few = let a = digits_value-lt 10 ds (all_digits ds h) in let b = pow-le-pow_right {n = 10} (omega arith) {i = length ds} {j = 38} few in omega (arith, a, b)

none_not : (v : ℕ) → v < 10 ^ 38 → None ≡ (if nat_lt v (2 ^ 128) then Some v else None) → ⊥
none_not v small h = let e : None ≡ Some v = rw (lt-ltb v (2 ^ 128) (omega (arith, small))) at h in cc

pub some_is : (n v : ℕ) → v < 10 ^ 38 → Some n ≡ (if nat_lt v (2 ^ 128) then Some v else None) → n ≡ v
some_is n v small h = let e : Some n ≡ Some v = rw (lt-ltb v (2 ^ 128) (omega (arith, small))) at h in cc

pub no_number : (ds : List ℕ) → AllPass is_ascii_digit ds → length ds ≤ 38 → None ≡ (if nat_lt (digits_value 10 ds) (2 ^ 128) then Some (digits_value 10 ds) else None) → ⊥
no_number ds h few e = none_not (digits_value 10 ds) (small_number ds h few) e

pub the_number : (ds : List ℕ) (n : ℕ) → AllPass is_ascii_digit ds → length ds ≤ 38 → Some n ≡ (if nat_lt (digits_value 10 ds) (2 ^ 128) then Some (digits_value 10 ds) else None) → (to_z w128 n ≡ pos (digits_value 10 ds)) × FitsSigned w128 (pos n)
the_number ds n h few e =
    let s = small_number ds h few in
    let a = some_is n (digits_value 10 ds) s e in
    (to_z_pos w128 n (omega (arith, s, a)) ∙ ap pos a, fits_signed_from_abs w128 (pos n) (omega (arith, s, a)))

pub sign_pushed : (line : List ℕ) (text : List ℕ) (old new : List Piece) (ds : List ℕ) (n : ℕ) → line ≡ 45 ∷ text → HasShortNumbers line → n ≡ prefix_len is_ascii_digit text
    → ds ≡ take n text → length ds ≡ 0 → new ≡ old ++ piece.Mark 45 ∷ [] → IsPushed line old new text
sign_pushed line text old new ds n is short many are none pushed =
    let l = ap length are ∙ ap (λ m. length (take m text)) many ∙ length-prefix_len is_ascii_digit text in
    let e : prefix_len is_ascii_digit text ≡ 0 = omega (arith, l, none) in
    mark_pushed line 45 text old new is short refl refl (rw e refl) pushed

pub behind_short : (line : List ℕ) (text : List ℕ) → line ≡ 45 ∷ text → HasShortNumbers line → HasShortNumbers text
behind_short line text is short = short_behind 1 (45 ∷ text) (subst HasShortNumbers is short)

pub other_sign : (c : ℕ) (text : List ℕ) → (c ≡ 45 → ⊥) → ((c == 45) && nat_lt 0 (prefix_len is_ascii_digit text)) ≡ false
other_sign c text h = rw (ne_eqb c 45 h) refl

pub no_digit : (ds : List ℕ) → true ≡ (length ds == 0) → length ds ≡ 0
no_digit ds h = eqb-true (length ds) 0 (sym h)

pub some_digit : (text ds : List ℕ) (n : ℕ) → n ≡ prefix_len is_ascii_digit text → ds ≡ take n text → false ≡ (length ds == 0) → 0 < n
some_digit text ds n many are h =
    by n refl (eqb-false (length ds) 0 (sym h))
  where
    by : (m : ℕ) → m ≡ n → (length ds ≡ 0 → ⊥) → 0 < n
    by zero is not = absurd (not (omega (arith, is, ap length are ∙ ap (λ m. length (take m text)) many ∙ length-prefix_len is_ascii_digit text, many)))
    by (suc m) is not = omega (arith, is)
