-- The words that a description keeps for itself.
use Rattle.std.specs.Prelude.{ℕ, Bool, List, [], ◌∷◌, codes}
use Rattle.std.specs.List.{list_any}
use Rattle.nk_base.specs.Text.{text_eq}

-- the keywords of a description; none is a name
abbrev pub keywords : List (List ℕ)
keywords =
    codes "let" ∷ codes "type" ∷ codes "mem" ∷ codes "reg" ∷ codes "trn" ∷ codes "inp" ∷ codes "out" ∷ codes "op"
    ∷ codes "opn" ∷ codes "mode" ∷ codes "syntax" ∷ codes "image" ∷ codes "action" ∷ codes "format" ∷ codes "if" ∷ codes "then"
    ∷ codes "else" ∷ codes "endif" ∷ codes "bool" ∷ codes "card" ∷ codes "int" ∷ codes "fix" ∷ codes "float" ∷ codes "sat"
    ∷ codes "bits" ∷ codes "halt" ∷ codes "true" ∷ codes "false" ∷ []

abbrev pub is_keyword : List ℕ → Bool
is_keyword word = list_any (text_eq word) keywords
