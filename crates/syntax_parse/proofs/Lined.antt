-- A shape that has the tokens of a line is among those whose tokens are as many and begin alike.
use Rattle.std.proofs.Common.{ℕ, ◌==◌, ◌≡◌, refl, sym, ◌∙◌, ap, subst, arith, true, ℤ, List, [], ◌∷◌, length, map, Option, None, Some}
use Rattle.std.specs.Prelude.{MatchOption, slice_get}
use Rattle.std.proofs.lemmas.Bool.{and_from, eq-eqb}
use Rattle.std.proofs.lemmas.Option.{slice_get_within}
use Rattle.nml_tree.specs.Outline.{Written, with_numbers}
use Rattle.nml_tree.proofs.SameText.{equal_text}
use Rattle.nml_shape.specs.declared.shape.Inst.{Inst}
use Rattle.nml_shape.specs.declared.shape.Piece.{Piece}
use Rattle.nml_shape.specs.declared.shape.Piece.TheVariants as piece
use Rattle.nml_shape.specs.declared.shape.Shape.{Shape}
use Rattle.nml_shape.specs.Shown.{token_of}
use Rattle.isg_lists.specs.Lines.{are_alike, begins, has_line, of_line}
use Rattle.isg_lists.proofs.Places.{has_number, number_has}
use Rattle.syntax_match.specs.Match.{HasTokens}
use Rattle.syntax_parse.specs.Search.{AreNumbers, HasMatch, HasNone, HasNoneOf}

-- a token is alike to the piece that it is, with numbers in the fields
alike : (zs : List ℤ) (t p : Piece) → Written (with_numbers zs (token_of p)) ≡ token_of t → are_alike t p ≡ true
alike zs (piece.Word w) (piece.Word v) e = let f : w ≡ v = cc in equal_text w v f
alike zs (piece.Word w) (piece.Number z) e = absurd cc
alike zs (piece.Word w) (piece.Mark c) e = absurd cc
alike zs (piece.Word w) (piece.Field n) e = absurd cc
alike zs (piece.Number y) (piece.Word v) e = absurd cc
alike zs (piece.Number y) (piece.Number z) e = refl
alike zs (piece.Number y) (piece.Mark c) e = absurd cc
alike zs (piece.Number y) (piece.Field n) e = refl
alike zs (piece.Mark b) (piece.Word v) e = absurd cc
alike zs (piece.Mark b) (piece.Number z) e = absurd cc
alike zs (piece.Mark b) (piece.Mark c) e = let f : b ≡ c = cc in eq-eqb b c f
alike zs (piece.Mark b) (piece.Field n) e = absurd cc
alike zs (piece.Field m) p e = absurd cc

begun : (zs : List ℤ) (ps ts : List Piece) (first : Piece) (count : ℕ) → slice_get ts 0 ≡ Some first → count ≡ length ps → map Written (map (with_numbers zs) (map token_of ps)) ≡ map token_of ts → begins first count ps ≡ true
begun zs [] [] first count at long e = absurd cc
begun zs [] (t ∷ ts) first count at long e = absurd cc
begun zs (p ∷ ps) [] first count at long e = absurd cc
begun zs (p ∷ ps) (t ∷ ts) first count at long e =
    let f : t ≡ first = cc in
    let same : Written (with_numbers zs (token_of p)) ≡ token_of t = cc in
    and_from (are_alike first p) (count == length (p ∷ ps)) (alike zs first p (same ∙ ap token_of f)) (eq-eqb count (length (p ∷ ps)) long)

as_many : (zs : List ℤ) (ps ts : List Piece) → map Written (map (with_numbers zs) (map token_of ps)) ≡ map token_of ts → length ts ≡ length ps
as_many zs [] [] e = refl
as_many zs [] (t ∷ ts) e = absurd cc
as_many zs (p ∷ ps) [] e = absurd cc
as_many zs (p ∷ ps) (t ∷ ts) e = let rest : map Written (map (with_numbers zs) (map token_of ps)) ≡ map token_of ts = cc in let n = as_many zs ps ts rest in omega (arith, n)

lined : (s : Shape) (tokens : List Piece) (zs : List ℤ) (first : Piece) → slice_get tokens 0 ≡ Some first → HasTokens s tokens zs → has_line first (length tokens) s ≡ true
lined s tokens zs first at h = begun zs s.template.items tokens first (length tokens) at (as_many zs s.template.items tokens h.same) h.same

module _ (shapes : List Shape) (tokens : List Piece) (first : Piece) (at : slice_get tokens 0 ≡ Some first) where
  -- where no shape of those has the tokens, none has
  none_lined : HasNoneOf shapes (of_line shapes first (length tokens)) tokens → HasNone shapes tokens
  none_lined none n s stands zs h =
      let c = has_number (has_line first (length tokens)) shapes 0 n n s (omega arith) stands (lined s tokens zs first at h) in
      none c.0 n c.1 s stands zs h

  -- so what is found among those is what is found in all
  pub found_lined : (count : ℕ) (numbers : List ℕ) (found : Option Inst) → count ≡ length tokens → numbers ≡ of_line shapes first count → MatchOption found (HasNoneOf shapes numbers tokens) (λ i. HasMatch shapes tokens i) → MatchOption found (HasNone shapes tokens) (λ i. HasMatch shapes tokens i)
  found_lined count numbers None many same h = none_lined (subst (λ ns. HasNoneOf shapes ns tokens) (same ∙ ap (of_line shapes first) many) h)
  found_lined count numbers (Some i) many same h = h

pub are_numbers : (shapes : List Shape) (first : Piece) (count : ℕ) (numbers : List ℕ) → numbers ≡ of_line shapes first count → AreNumbers shapes numbers
are_numbers shapes first count numbers same k n at =
    let s = number_has (has_line first count) shapes 0 k n (ap (λ ns. slice_get ns k) (sym same) ∙ at) in
    let low = slice_get_within shapes s.0 s.1 s.3 in
    let e = s.2 in
    omega (arith, low, e)
