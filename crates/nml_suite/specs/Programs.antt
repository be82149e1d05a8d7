-- What the bytes of a C program are: which fault they have, or which program they are accepted as.
use Rattle.std.specs.Prelude.{◌≡◌, ℕ, List}
use Rattle.c_tree.specs.declared.program.CTree.{CTree}
use Rattle.c_tree.specs.declared.fault.CFault.{CFault}
use Rattle.c_tree.specs.declared.fault.CFault.TheVariants as faults
use Rattle.c_tree.specs.Accepted.{IsAcceptedTree, IsTreeFaultOf}
use Rattle.c_lex.specs.Lexed.{IsStuckAt}
use Rattle.c_grammar.specs.Trees.{IsTree, HasNoTree, IsOutsideAt}

-- The bytes have this fault, and none that comes before it: they are no tokens, or one of their tokens is left out, or they are no program, or
-- their program is refused where its numbers have n bits. Want of memory is no fault of theirs.
pub data HasProgramFault (bytes : List ℕ) (n : ℕ) (f : CFault) : Type 0 where
  NoProgramTokens : (at : ℕ) → f ≡ faults.Lex at → IsStuckAt bytes at → HasProgramFault bytes n f
  LeftOut : (at : ℕ) → f ≡ faults.Outside at → IsOutsideAt bytes at → HasProgramFault bytes n f
  NoProgram : (at : ℕ) → f ≡ faults.Syntax at → HasNoTree bytes at → HasProgramFault bytes n f
  RefusedProgram : (tree : CTree) → IsTree bytes tree → IsTreeFaultOf tree n f → (f ≡ faults.Memory → ⊥) → HasProgramFault bytes n f

-- the bytes are accepted as this program, whose numbers have n bits: they spell it, and it has no fault
pub record IsProgram (bytes : List ℕ) (n : ℕ) (tree : CTree) : Type 0 where
  pub spelled : IsTree bytes tree
  pub accepted : IsAcceptedTree tree n
