-- For private contracts: the words of lines, and why they have none.
use Rattle.std.specs.Prelude.{ℕ, ◌≡◌, false, List, [], ◌∷◌, map}
use Rattle.nml_tree.specs.Derivation.{Derivation}
use Rattle.nml_tree.specs.Legal.{is_legal}
use Rattle.nml_tree.specs.Same as same
use Rattle.nml_tree.specs.Table.{Table}
use Rattle.nml_tree.specs.Valid.{IsRoot}
use Rattle.asm_lines.specs.Line.{Token, Content, Instruction, Line}
use Rattle.asm_text.specs.Assembled.{GivesWords}
use Rattle.asm_text.specs.Refused.{HasNoMatch, HasConflict, IsFirst}
use Rattle.asm_text.specs.Source.{Labels, resolved}
use Rattle.asm_text.specs.declared.fault.AsmFault.{AsmFault}
use Rattle.asm_text.specs.declared.fault.AsmFault.TheVariants as fault
use Rattle.asm_tool.specs.declared.words.LineWord.{LineWord}
use Rattle.asm_tool.specs.declared.words.LineWord.TheVariants as word

-- it is an instruction's line, and no derivation has its tokens
pub record HasNone (t : Table) (labels : Labels) (c : Content) : Type 0 where
  pub tokens : List Token
  pub is : c ≡ Instruction tokens
  pub none : (d : Derivation) → IsRoot t d → same.tokens d ≡ map (resolved labels) tokens → ⊥

-- it is an instruction's line, and a derivation that has its tokens isn't legal
pub record HasIllegal (t : Table) (labels : Labels) (c : Content) : Type 0 where
  pub tokens : List Token
  pub is : c ≡ Instruction tokens
  pub by : Derivation
  pub root : IsRoot t by
  pub has : same.tokens by ≡ map (resolved labels) tokens
  pub illegal : is_legal t by ≡ false

-- what the line gives, or why it gives nothing
abbrev pub IsLineWord : Table → Labels → Content → LineWord → Type 0
IsLineWord t labels c word.Nothing = GivesWords t labels c []
IsLineWord t labels c (word.Word w) = GivesWords t labels c (w ∷ [])
IsLineWord t labels c word.NoMatch = HasNone t labels c
IsLineWord t labels c word.Conflict = HasIllegal t labels c

-- the first line whose tokens no derivation has; where there is none, the first whose derivation isn't legal; or want of memory
abbrev pub IsWordFault : Table → List Line → AsmFault → Type 0
IsWordFault t ls (fault.NoMatch n) = IsFirst (HasNoMatch t ls) n
IsWordFault t ls (fault.Conflict n) = ((k : ℕ) → HasNoMatch t ls k → ⊥) × IsFirst (HasConflict t ls) n
IsWordFault t ls fault.Memory = Unit {0}
IsWordFault t ls _ = ⊥
