-- Marks in front of symbols, and the entries of a table of words.
use Rattle.std.proofs.Common.{◌≡◌, ℕ, ◌<◌, ◌≤◌, List, [], ◌∷◌, Option, Some, None, refl, ap, sym, ◌∙◌, subst, arith, Bool, true, false}
use Rattle.std.proofs.lemmas.Bool.Decides.{nat_tests}
use Rattle.std.specs.Prelude.{if◌then◌else◌, nat_le}
use Rattle.std.specs.Cmp.Lexicographic.{bytes_decides}
use Rattle.nk_base.specs.Text.{text_eq}
use Rattle.readings.specs.Symbol.{Symbol}
use Rattle.readings.specs.Reading.{Found, looked_up, behind, found_or_stuck, mark, Stuck}

-- texts that test as the same are
same_text : (a b : List ℕ) → text_eq a b ≡ true → a ≡ b
same_text a b e = (bytes_decides a b).0 e

-- a text tests as the same as itself
text_same : (a : List ℕ) → text_eq a a ≡ true
text_same a = (bytes_decides a a).1 refl

-- a test of two numbers
pub above : {A : Type 0} (k n : ℕ) (a b : A) → n < k → (if nat_le k n then a else b) ≡ b
above k n a b h = grind (arith, nat_tests)

pub within : {A : Type 0} (k n : ℕ) (a b : A) → k ≤ n → (if nat_le k n then a else b) ≡ a
within k n a b h = grind (arith, nat_tests)

-- what is in Some is one thing
pub some_is : {A : Type 0} (a b : A) → Some a ≡ Some b → a ≡ b
some_is a b e = cc

pub none_is_none : {A : Type 0} {P : Type 0} (a : A) → None ≡ Some a → P
none_is_none a e = absurd (cc)

-- a fact of each entry
abbrev pub Each : {A : Type 0} → (List ℕ → A → Type 0) → List (List ℕ × A) → Type 0
Each P [] = Unit {0}
Each P ((word, x) ∷ table) = P word x × Each P table

pub entry : {A : Type 0} (P : List ℕ → A → Type 0) (table : List (List ℕ × A)) (text : List ℕ) (x : A) → Each P table → looked_up table text ≡ Some x → P text x
entry P [] text x h e = none_is_none x e
entry P ((word, y) ∷ table) text x h e = by (text_eq text word) refl (entry P table text x h.1) e
  where
    by : (b : Bool) → text_eq text word ≡ b → (looked_up table text ≡ Some x → P text x) → (if b then Some y else looked_up table text) ≡ Some x → P text x
    by true s others f = subst (λ t. P t x) (sym (same_text text word s)) (subst (λ z. P word z) (some_is y x f) h.0)
    by false s others f = others f

-- a keyword or a mark in front
pub behind_is : (text : List ℕ) (ss : List Symbol) (at : ℕ) (rest : List Symbol) → behind text ss ≡ Some (at, rest) → ss ≡ Symbol.Fixed at text ∷ rest
behind_is text [] at rest e = none_is_none (at, rest) e
behind_is text (Symbol.Fixed p other ∷ ss) at rest e = by (text_eq other text) refl e
  where
    by : (b : Bool) → text_eq other text ≡ b → if◌then◌else◌ {A = Option (ℕ × List Symbol)} b (Some (p, ss)) None ≡ Some (at, rest) → Symbol.Fixed p other ∷ ss ≡ Symbol.Fixed at text ∷ rest
    by true s f =
        let is = some_is (p, ss) (at, rest) f in
        ap (λ t. Symbol.Fixed p t ∷ ss) (same_text other text s) ∙ ap (λ (z : ℕ × List Symbol). Symbol.Fixed z.0 text ∷ z.1) is
    by false s f = none_is_none (at, rest) f
behind_is text (Symbol.Named p other ∷ ss) at rest e = none_is_none (at, rest) e
behind_is text (Symbol.Number p value ∷ ss) at rest e = none_is_none (at, rest) e
behind_is text (Symbol.Quoted p other ∷ ss) at rest e = none_is_none (at, rest) e

pub behind_front : (text : List ℕ) (at : ℕ) (rest : List Symbol) → behind text (Symbol.Fixed at text ∷ rest) ≡ Some (at, rest)
behind_front text at rest = ap (λ b. if b then Some (at, rest) else None) (text_same text)

pub mark_is : (text : List ℕ) (ss : List Symbol) (at : ℕ) (rest : List Symbol) → mark text ss ≡ Found at rest → ss ≡ Symbol.Fixed at text ∷ rest
mark_is text ss at rest e = by (behind text ss) refl e
  where
    by : (o : Option (ℕ × List Symbol)) → behind text ss ≡ o → found_or_stuck ss o ≡ Found at rest → ss ≡ Symbol.Fixed at text ∷ rest
    by None s f = absurd (cc)
    by (Some (p, r)) s f = behind_is text ss p r s ∙ same p r f
      where
        same : (p : ℕ) (r : List Symbol) → Found p r ≡ Found at rest → Symbol.Fixed p text ∷ r ≡ Symbol.Fixed at text ∷ rest
        same p r f = cc

pub mark_front : (text : List ℕ) (at : ℕ) (rest : List Symbol) → mark text (Symbol.Fixed at text ∷ rest) ≡ Found at rest
mark_front text at rest = ap (found_or_stuck (Symbol.Fixed at text ∷ rest)) (behind_front text at rest)

-- a mark
pub mark_stuck : (text : List ℕ) (ss rest : List Symbol) → mark text ss ≡ Stuck rest → ss ≡ rest
mark_stuck text ss rest e = by (behind text ss) e
  where
    by : (o : Option (ℕ × List Symbol)) → found_or_stuck ss o ≡ Stuck rest → ss ≡ rest
    by None f = cc
    by (Some (at, s)) f = absurd (cc)
