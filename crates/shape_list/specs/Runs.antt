-- For private contracts: how many digits stand in a row in a syntax.
use Rattle.std.specs.Prelude.{ℕ, List, [], ◌∷◌, ◌++◌}
use Rattle.nml_tree.specs.Edge.{Flat, Letter, Number, Seam}
use Rattle.nml_line.specs.Pushed.{HasShortNumbers}

-- no more than 38 in what stands between two fields, behind these letters
abbrev pub AreShort : List ℕ → List Flat → Type 0
AreShort letters [] = HasShortNumbers letters
AreShort letters (Letter c ∷ fs) = AreShort (letters ++ c ∷ []) fs
AreShort letters (Seam ∷ fs) = AreShort letters fs
AreShort letters (Number n ∷ fs) = HasShortNumbers letters × AreShort [] fs
