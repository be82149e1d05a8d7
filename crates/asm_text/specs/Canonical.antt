-- The canonical text of words and initial values.
use Rattle.std.specs.Prelude.{ℕ, ◌≡◌, ◌==◌, pos, List, [], ◌∷◌, ◌++◌, map, flat_map, Some, IsTrue, if◌then◌else◌, codes}
use Rattle.std.specs.Fmt.{signed_decimal}
use Rattle.nk_base.specs.Hexadecimal.{hexadecimal, digits_of_word}
use Rattle.nk_base.specs.Number.{wrapped}
use Rattle.nk_base.specs.declared.number.Ty.{Ty}
use Rattle.nml_tree.specs.Table.{Text, Table, Declared, declared}
use Rattle.nml_tree.specs.Derivation.{Derivation}
use Rattle.nml_tree.specs.Syntax.{syntax_of}
use Rattle.nml_tree.specs.Exec.{storage_type}
use Rattle.nml_tree.specs.Machine.{IsInstruction, Initial}
use Rattle.asm_lines.specs.Line.{is_name}

-- the syntax of the legal derivation that has the word, else `.bits` and the word
pub data IsWordLine (t : Table) (width word : ℕ) (line : Text) : Type 0 where
  Read : (d : Derivation) → IsInstruction t word d → line ≡ syntax_of d → IsWordLine t width word line
  Unread : ((d : Derivation) → IsInstruction t word d → ⊥) → line ≡ codes ".bits " ++ hexadecimal (digits_of_word width) word → IsWordLine t width word line

-- a line for each word
abbrev pub AreWordLines : Table → ℕ → List ℕ → List Text → Type 0
AreWordLines t width [] lines = lines ≡ []
AreWordLines t width (w ∷ ws) lines =
    (first : Text) × (others : List Text) × (lines ≡ first ∷ others) × IsWordLine t width w first × AreWordLines t width ws others

-- the name of the storage of this number
abbrev pub storage_name : Table → ℕ → Text
storage_name [] n = []
storage_name ((name, Declared.Storage k size ty) ∷ t) n = if k == n then name else storage_name t n
storage_name ((name, _) ∷ t) n = storage_name t n

-- each storage's name is a name of assembly text, as it is where the description was read from a text
abbrev pub AreNamed : Table → Type 0
AreNamed t = (name : Text) (n size : ℕ) (ty : Ty) → declared t name ≡ Some (Declared.Storage n size ty) → IsTrue (is_name name)

-- `.data NAME c v`
abbrev pub data_line : Table → Initial → Text
data_line t i =
    codes ".data " ++ storage_name t i.storage ++ codes " " ++ signed_decimal (pos i.cell) ++ codes " "
    ++ signed_decimal (wrapped (storage_type t i.storage) (pos i.raw))

-- each line ends with a line feed
abbrev pub ended : List Text → Text
ended lines = flat_map (λ l. l ++ 10 ∷ []) lines

-- a line per word, then one per initial value in order
abbrev pub IsCanonical : Table → ℕ → List ℕ → List Initial → Text → Type 0
IsCanonical t width words inits text =
    (lines : List Text) × AreWordLines t width words lines × (text ≡ ended (lines ++ map (data_line t) inits))
