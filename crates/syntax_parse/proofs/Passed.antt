-- The shapes that were compared with the tokens, one by one.
use Rattle.std.proofs.Common.{ℕ, ◌≤◌, ◌<◌, ◌+◌, ◌≡◌, sym, ◌∙◌, subst, arith, List, length, Some, ⊎_elim}
use Rattle.std.specs.Prelude.{slice_get}
use Rattle.std.proofs.lemmas.Bool.{cases_lt}
use Rattle.std.proofs.lemmas.Option.{same_Some, slice_get_within}
use Rattle.nml_shape.specs.declared.shape.Piece.{Piece}
use Rattle.nml_shape.specs.declared.shape.Shape.{Shape}
use Rattle.syntax_parse.specs.Search.{HasNone, HasNoneAt, HasNoneOf}

-- none of the first k of these numbers is that of a shape with the tokens
pub record Passed (shapes : List Shape) (numbers : List ℕ) (tokens : List Piece) (k : ℕ) : Type 0 where
  pub none : (j n : ℕ) → j < k → slice_get numbers j ≡ Some n → HasNoneAt shapes tokens n

pub passed_none : (shapes : List Shape) (numbers : List ℕ) (tokens : List Piece) → Passed shapes numbers tokens 0
passed_none shapes numbers tokens = record { none = λ j n low at. absurd (omega (arith, low)) }

pub passed_more : (shapes : List Shape) (numbers : List ℕ) (tokens : List Piece) (k n : ℕ) → slice_get numbers k ≡ Some n → HasNoneAt shapes tokens n → Passed shapes numbers tokens k → Passed shapes numbers tokens (k + 1)
passed_more shapes numbers tokens k n at none p = record {
  none = λ j m low to. ⊎_elim
      (λ (lt : j < k). p.none j m lt to)
      (λ (ge : k ≤ j). let s : j ≡ k = omega (arith, ge, low) in
      let same : n ≡ m = same_Some _ _ (sym at ∙ subst (λ i. slice_get numbers i ≡ Some m) s to) in
      subst (HasNoneAt shapes tokens) same none)
      (cases_lt j k);
}

pub passed_all : (shapes : List Shape) (numbers : List ℕ) (tokens : List Piece) (k : ℕ) → length numbers ≤ k → Passed shapes numbers tokens k → HasNoneOf shapes numbers tokens
passed_all shapes numbers tokens k end p j n at = let low = slice_get_within numbers j n at in p.none j n (omega (arith, low, end)) at

-- none of the first k shapes has the tokens
pub record HasNoneBelow (shapes : List Shape) (tokens : List Piece) (k : ℕ) : Type 0 where
  pub none : (n : ℕ) → n < k → HasNoneAt shapes tokens n

pub below_none : (shapes : List Shape) (tokens : List Piece) → HasNoneBelow shapes tokens 0
below_none shapes tokens = record { none = λ n low. absurd (omega (arith, low)) }

pub below_more : (shapes : List Shape) (tokens : List Piece) (k : ℕ) → HasNoneAt shapes tokens k → HasNoneBelow shapes tokens k → HasNoneBelow shapes tokens (k + 1)
below_more shapes tokens k none p = record {
  none = λ n low. ⊎_elim
      (λ (lt : n < k). p.none n lt)
      (λ (ge : k ≤ n). let s : k ≡ n = omega (arith, ge, low) in subst (HasNoneAt shapes tokens) s none)
      (cases_lt n k);
}

pub below_all : (shapes : List Shape) (tokens : List Piece) (k : ℕ) → length shapes ≤ k → HasNoneBelow shapes tokens k → HasNone shapes tokens
below_all shapes tokens k end p n s at = let low = slice_get_within shapes n s at in p.none n (omega (arith, low, end)) s at
