-- For private contracts: lines that came behind a text.
use Rattle.std.specs.Prelude.{ℕ, ◌≡◌, ◌<◌, ◌^◌, List, [], ◌∷◌, ◌++◌, length}
use Rattle.nk_base.specs.Number.{width_of}
use Rattle.nml_tree.specs.Exec.{storage_type, storages}
use Rattle.nml_tree.specs.Table.{Text, Table}
use Rattle.image_file.specs.File.{Init}
use Rattle.asm_text.specs.Canonical.{AreWordLines, IsWordLine, ended}

-- the line of the word came behind the text
pub record HasWordLine (t : Table) (width word : ℕ) (old new : Text) : Type 0 where
  pub line : Text
  pub is : IsWordLine t width word line
  pub text : new ≡ old ++ (line ++ 10 ∷ [])

-- so the lines of these words
pub record HasWordLines (t : Table) (width : ℕ) (words : List ℕ) (old new : Text) : Type 0 where
  pub lines : List Text
  pub are : AreWordLines t width words lines
  pub text : new ≡ old ++ ended lines

-- there is the storage of the initial value, whose bits are no more than its type's
pub record HasStorage (t : Table) (i : Init) : Type 0 where
  pub within : i.storage < length (storages t)
  pub narrow : i.value < 2 ^ width_of (storage_type t i.storage)
