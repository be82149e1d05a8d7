-- What the bytes of a description are: which fault they have, or which tree they are accepted as.
use Rattle.std.specs.Prelude.{◌≡◌, ℕ, List, []}
use Rattle.nml_tree.specs.Floats.{float_places}
use Rattle.nml_tree.specs.Refused.{IsChecked}
use Rattle.nml_tree.specs.declared.tree.Desc.{Desc}
use Rattle.nml_tree.specs.declared.fault.DescFault.{DescFault}
use Rattle.nml_tree.specs.declared.fault.DescFault.TheVariants as faults
use Rattle.nml_lex.specs.Lexed.{IsStuckAt}
use Rattle.nml_grammar.specs.Trees.{IsTree, HasNoTree, IsFloat}
use Rattle.nml_refusals.specs.TreeFault.{IsTreeFault}

-- the bytes spell this tree, which has no type `float`
pub record Spells (bytes : List ℕ) (tree : Desc) : Type 0 where
  pub is : IsTree bytes tree
  pub no_float : float_places tree ≡ []

-- The bytes have this fault, and none that comes before it: they are no tokens, or no tree, or one with a type `float`, or their tree is
-- refused. Want of memory is no fault of theirs.
pub data HasFault (bytes : List ℕ) (f : DescFault) : Type 0 where
  NoTokens : (at : ℕ) → f ≡ faults.Lex at → IsStuckAt bytes at → HasFault bytes f
  NoTree : (at : ℕ) → f ≡ faults.Syntax at → HasNoTree bytes at → HasFault bytes f
  Floating : (at : ℕ) → f ≡ faults.Float at → IsFloat bytes at → HasFault bytes f
  Refused : (tree : Desc) → Spells bytes tree → IsTreeFault tree f → HasFault bytes f

-- the bytes are accepted as this tree: they spell it, and it has no fault
pub record IsAccepted (bytes : List ℕ) (tree : Desc) : Type 0 where
  pub spelled : Spells bytes tree
  pub right : IsChecked tree
