-- What a text is assembled to: words and initial values.
use Rattle.std.specs.Prelude.{ℕ, ◌≡◌, ◌==◌, nat_lt, ℤ, unsigned_abs, Bool, true, ◌||◌, ◌&&◌, List, [], ◌∷◌, ◌++◌, map, filter, Option, Some, IsTrue}
use Rattle.std.specs.List.{list_any, list_all}
use Rattle.nk_base.specs.Number.{low_bits, width_of}
use Rattle.nml_tree.specs.Table.{Table, Declared, declared}
use Rattle.nml_tree.specs.Derivation.{Derivation}
use Rattle.nml_tree.specs.Image.{word_of}
use Rattle.nml_tree.specs.Legal.{IsLegal}
use Rattle.nml_tree.specs.Machine.{Initial}
use Rattle.nml_tree.specs.Same.{tokens}
use Rattle.nml_tree.specs.Valid.{IsRoot}
use Rattle.asm_lines.specs.Line.{Content, Instruction, Bits, Data, Line}
use Rattle.asm_text.specs.Source.{Labels, labels, resolved}

-- an instruction's line is the legal derivation that has its tokens, a `.bits` line its word
abbrev pub GivesWords : Table → Labels → Content → List ℕ → Type 0
GivesWords t labels (Instruction ts) words =
    (d : Derivation) × IsRoot t d × IsLegal t d × (tokens d ≡ map (resolved labels) ts) × (words ≡ word_of d ∷ [])
GivesWords t labels (Bits w) words = words ≡ w ∷ []
GivesWords t labels _ words = words ≡ []

-- the words of the lines, one after the other
abbrev pub GiveWords : Table → Labels → List Line → List ℕ → Type 0
GiveWords t labels [] words = words ≡ []
GiveWords t labels (l ∷ ls) words =
    (first : List ℕ) × (others : List ℕ) × (words ≡ first ++ others) × GivesWords t labels l.content first × GiveWords t labels ls others

-- what a `.data` line gives: a cell of the storage, and the value modulo 2^n
abbrev pub initial : Option Declared → ℕ → ℤ → List Initial
initial (Some (Declared.Storage n size ty)) cell value = record { storage = n; cell = cell; raw = unsigned_abs (low_bits (width_of ty) value) } ∷ []
initial _ cell value = []

abbrev pub given_by : Table → Content → List Initial
given_by t (Data name cell value) = initial (declared t name) cell value
given_by t _ = []

abbrev pub given : Table → List Line → List Initial
given t [] = []
given t (l ∷ ls) = given_by t l.content ++ given t ls

abbrev pub is_same_cell : Initial → Initial → Bool
is_same_cell a b = (a.storage == b.storage) && (a.cell == b.cell)

abbrev pub is_same : Initial → Initial → Bool
is_same a b = is_same_cell a b && (a.raw == b.raw)

-- in order of storage and cell
abbrev pub is_before : Initial → Initial → Bool
is_before a b = nat_lt a.storage b.storage || ((a.storage == b.storage) && nat_lt a.cell b.cell)

abbrev pub rise : List Initial → Bool
rise [] = true
rise (a ∷ []) = true
rise (a ∷ b ∷ more) = is_before a b && rise (b ∷ more)

-- the same cells with the same values
abbrev pub are_among : List Initial → List Initial → Bool
are_among xs ys = list_all (λ x. list_any (is_same x) ys) xs

-- the initial values that lines give and that aren't 0, in order
abbrev pub are_initial : Table → List Line → List Initial → Bool
are_initial t ls inits =
    let wanted = filter (λ i. nat_lt 0 i.raw) (given t ls) in rise inits && are_among inits wanted && are_among wanted inits

-- the words and the initial values of a text
pub record Assembles (t : Table) (ls : List Line) (words : List ℕ) (inits : List Initial) : Type 0 where
  pub give : GiveWords t (labels ls) ls words
  pub begin : IsTrue (are_initial t ls inits)
