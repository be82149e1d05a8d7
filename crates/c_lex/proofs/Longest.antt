-- The longest token in front, in any language.
use Rattle.std.proofs.Common.{◌≡◌, ◌∙◌, ap, refl, sym, ℕ, zero, suc, ◌<◌, ◌≤◌, inl, inr, eqb, ◌&&◌, ◌||◌, Bool, true, false, List, [], ◌∷◌, ◌++◌, length, take, drop, take-append-drop, length-take-le, IsTrue, arith}
use Rattle.std.proofs.lemmas.Bool.{cases_lt, cond-true, cond-false, cond_both, both_ways}
use Rattle.nk_base.specs.Byte.{is_gap}
use Rattle.nml_lex.specs.Form.{is_end, is_space}
use Rattle.nml_lex.proofs.Spaces.{Form, Blank, Line, Block, form_of}
use Rattle.c_lex.specs.Lexing.{Lexicon, begins_comment, longest_of, longest, IsWord}

-- ---- so many bytes

-- so many bytes pass the test together, where they are some, and no more do
pub record IsLongest (test : List ℕ → Bool) (bytes : List ℕ) (k : ℕ) : Type 0 where
  pub reach : k ≤ length bytes
  pub token : 0 < k → IsTrue (test (take k bytes))
  pub no_more : (n : ℕ) → k < n → n ≤ length bytes → test (take n bytes) ≡ false

longest_up_to : (test : List ℕ → Bool) (m : ℕ) (bytes : List ℕ) (k : ℕ) → IsLongest test bytes k → k ≤ m → m ≤ length bytes → longest_of test m bytes ≡ k
longest_up_to test zero bytes k w low high = omega arith
longest_up_to test (suc m) bytes k w low high = elim (cases_lt k (suc m)) as (λ _. longest_of test (suc m) bytes ≡ k) [
  | inl less ↦ cond-false (test (take (suc m) bytes)) (suc m) (longest_of test m bytes) (w.no_more (suc m) less high) ∙ longest_up_to test m bytes k w (omega arith) (omega arith)
  | inr most ↦ longest_here m bytes k w (omega arith)
] where
  longest_here : (m : ℕ) (bytes : List ℕ) (k : ℕ) → IsLongest test bytes k → suc m ≡ k → longest_of test (suc m) bytes ≡ k
  longest_here m bytes k w e = cond-true (test (take (suc m) bytes)) (suc m) (longest_of test m bytes) (ap (λ n. test (take n bytes)) e ∙ w.token (omega arith)) ∙ e

-- where no comment begins
pub longest_is : (l : Lexicon) (bytes : List ℕ) (k : ℕ) → begins_comment bytes ≡ false → IsLongest l.is_token bytes k → longest l bytes ≡ k
longest_is l bytes k h w =
    cond-false (begins_comment bytes) 0 (longest_of l.is_token (length bytes) bytes) h ∙ longest_up_to l.is_token (length bytes) bytes k w w.reach (omega arith)

-- where one begins
pub longest_comment : (l : Lexicon) (bytes : List ℕ) → begins_comment bytes ≡ true → longest l bytes ≡ 0
longest_comment l bytes h = cond-true (begins_comment bytes) 0 (longest_of l.is_token (length bytes) bytes) h

-- ---- it is within the bytes, and it is a token

longest_of_within : (test : List ℕ → Bool) (n : ℕ) (bytes : List ℕ) → longest_of test n bytes ≤ n
longest_of_within test zero bytes = omega arith
longest_of_within test (suc n) bytes =
    cond_both (test (take (suc n) bytes)) (suc n) (longest_of test n bytes) (λ k. k ≤ suc n) (λ e. omega arith) (λ e. omega (arith, longest_of_within test n bytes))

pub longest_within : (l : Lexicon) (bytes : List ℕ) → longest l bytes ≤ length bytes
longest_within l bytes =
    cond_both (begins_comment bytes) 0 (longest_of l.is_token (length bytes) bytes) (λ k. k ≤ length bytes) (λ e. omega arith) (λ e. longest_of_within l.is_token (length bytes) bytes)

longest_of_token : (test : List ℕ → Bool) (n : ℕ) (bytes : List ℕ) → 0 < longest_of test n bytes → test (take (longest_of test n bytes) bytes) ≡ true
longest_of_token test zero bytes = λ h. absurd (omega arith)
longest_of_token test (suc n) bytes =
    cond_both (test (take (suc n) bytes)) (suc n) (longest_of test n bytes) (λ k. 0 < k → test (take k bytes) ≡ true) (λ e some. e) (λ e some. longest_of_token test n bytes some)

longest_passes : (l : Lexicon) (bytes : List ℕ) → 0 < longest l bytes → l.is_token (take (longest l bytes) bytes) ≡ true
longest_passes l bytes =
    cond_both (begins_comment bytes) 0 (longest_of l.is_token (length bytes) bytes) (λ k. 0 < k → l.is_token (take k bytes) ≡ true) (λ e some. absurd (omega arith)) (λ e some. longest_of_token l.is_token (length bytes) bytes some)

pub longest_token : (l : Lexicon) (bytes : List ℕ) (n : ℕ) → n ≡ longest l bytes → 0 < n → l.is_token (take n bytes) ≡ true
longest_token l bytes n e some = ap (λ k. l.is_token (take k bytes)) e ∙ longest_passes l bytes (omega arith)

-- the word in front
pub word_is : (l : Lexicon) (bytes text less : List ℕ) (n : ℕ) → n ≡ longest l bytes → text ≡ take n bytes → less ≡ drop n bytes → 0 < length text → l.is_within text ≡ true → IsWord l text less
word_is l bytes text less n e f g some within =
    let whole : text ++ less ≡ bytes = ap (λ t. t ++ less) f ∙ ap (λ t. take n bytes ++ t) g ∙ take-append-drop n bytes in
    let size_of : length text ≡ n = ap length f ∙ length-take-le n bytes (omega (arith, longest_within l bytes)) in
    record {
      token = ap l.is_token f ∙ longest_token l bytes n e (omega arith);
      longest_is = ap (longest l) whole ∙ sym e ∙ sym size_of;
      within = within;
    }

pub word_front : (bytes text less : List ℕ) (n : ℕ) → text ≡ take n bytes → less ≡ drop n bytes → bytes ≡ text ++ less
word_front bytes text less n f g = sym (take-append-drop n bytes) ∙ ap (λ t. t ++ drop n bytes) (sym f) ∙ ap (λ t. text ++ t) (sym g)

-- ---- no token where a space or an end stands

-- what the laws ask of a language: no token is empty, and none begins with a blank
pub record Apart (l : Lexicon) : Type 0 where
  pub no_empty : l.is_token [] ≡ false
  pub no_gap : (c : ℕ) (t : List ℕ) → is_gap c ≡ true → l.is_token (c ∷ t) ≡ false

-- a token has bytes
pub token_length : (l : Lexicon) (text : List ℕ) → Apart l → IsTrue (l.is_token text) → 0 < length text
token_length l [] a h = absurd (both_ways (l.is_token []) a.no_empty h)
token_length l (c ∷ text) a h = omega arith

-- behind a blank
gap_none : (l : Lexicon) (c : ℕ) (cs : List ℕ) → Apart l → is_gap c ≡ true → (n : ℕ) → longest_of l.is_token n (c ∷ cs) ≡ 0
gap_none l c cs a h zero = refl
gap_none l c cs a h (suc n) = cond-false (l.is_token (c ∷ take n cs)) (suc n) (longest_of l.is_token n (c ∷ cs)) (a.no_gap c (take n cs) h) ∙ gap_none l c cs a h n

longest_gap : (l : Lexicon) (c : ℕ) (cs : List ℕ) → Apart l → is_gap c ≡ true → longest l (c ∷ cs) ≡ 0
longest_gap l c cs a h = cond_both (begins_comment (c ∷ cs)) 0 (longest_of l.is_token (length (c ∷ cs)) (c ∷ cs)) (λ k. k ≡ 0) (λ e. refl) (λ e. gap_none l c cs a h (length (c ∷ cs)))

-- behind a space of any form
longest_form : (l : Lexicon) (text rest : List ℕ) → Apart l → Form text → longest l (text ++ rest) ≡ 0
longest_form l text rest a (Blank c i h) = ap (λ t. longest l (t ++ rest)) i ∙ longest_gap l c rest a h
longest_form l text rest a (Line body i h) = ap (λ t. longest l (t ++ rest)) i ∙ longest_comment l (47 ∷ 47 ∷ (body ++ rest)) refl
longest_form l text rest a (Block body i h) = ap (λ t. longest l (t ++ rest)) i ∙ longest_comment l (47 ∷ 42 ∷ (body ++ rest)) refl

-- so a space and a token never stand at one place
pub no_space_word : (l : Lexicon) (a b r s : List ℕ) → Apart l → a ++ r ≡ b ++ s → IsTrue (is_space a) → IsWord l b s → ⊥
no_space_word l a b r s apart e h w =
    omega (arith, token_length l b apart w.token, w.longest_is, ap (longest l) e, longest_form l a r apart (form_of a h))

-- at an end
ended : (c d : ℕ) (x : Bool) → eqb c 47 && eqb d 47 && x ≡ true → eqb c 47 && (eqb d 47 || eqb d 42) ≡ true
ended c d x h = by (eqb c 47) (eqb d 47) h where
  by : (p q : Bool) → p && q && x ≡ true → p && (q || eqb d 42) ≡ true
  by false q h = absurd (cc)
  by true false h = absurd (cc)
  by true true h = refl

pub longest_end : (l : Lexicon) (bytes : List ℕ) → IsTrue (is_end bytes) → longest l bytes ≡ 0
longest_end l [] h = refl
longest_end l (c ∷ []) h = absurd (cc)
longest_end l (c ∷ d ∷ cs) h = longest_comment l (c ∷ d ∷ cs) (ended c d _ h)
