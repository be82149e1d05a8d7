-- The words of an image, decoded.
use Rattle.std.specs.Prelude.{ℕ, List, Option, MatchOption, slice_get}
use Rattle.nml_tree.specs.Table.{Table, table}
use Rattle.nml_tree.specs.Derivation.{Derivation}
use Rattle.nml_tree.specs.Machine.{Found, IsFound, IsInstruction}
use Rattle.nml_shape.specs.declared.shape.Inst.{Inst}
use Rattle.isg_graph.specs.Graph.{AreFor, Graph}
use Rattle.isg_graph.specs.Instance.{IsInstOf}

-- the word is no instruction, or this one
abbrev pub IsDecoded : Graph → ℕ → Option Inst → Type 0
IsDecoded g w o = MatchOption o ((x : Derivation) → IsInstruction (table g.desc) w x → ⊥) (λ i. (x : Derivation) × IsInstOf g i x × IsInstruction (table g.desc) w x)

-- so each of the words
abbrev pub AreDecoded : Graph → List ℕ → List (Option Inst) → Type 0
AreDecoded g words found = AreFor (IsDecoded g) words found

-- of each place it is known whether a word stands there, and which instruction that is or that it is none
abbrev pub AreDecided : Table → List ℕ → Type 0
AreDecided t words = (n : ℕ) → (f : Found) × IsFound t (slice_get words n) f
