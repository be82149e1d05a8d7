-- The instruction of a line's tokens, and why they are none.
use Rattle.std.specs.Prelude.{◌≡◌, List, false}
use Rattle.nml_tree.specs.declared.tree.Desc.{Desc}
use Rattle.nml_tree.specs.Derivation.{Derivation}
use Rattle.nml_tree.specs.Legal.{IsLegal, is_legal}
use Rattle.nml_tree.specs.LineToken.{LineToken}
use Rattle.nml_tree.specs.Same.{tokens}
use Rattle.nml_tree.specs.Table.{table}
use Rattle.nml_tree.specs.Valid.{IsRoot}
use Rattle.nml_shape.specs.declared.shape.Inst.{Inst}
use Rattle.isg_graph.specs.Graph.{Graph}
use Rattle.isg_graph.specs.Instance.{IsInstOf}
use Rattle.syntax_parse.specs.declared.lines.LineFault.{LineFault}
use Rattle.syntax_parse.specs.declared.lines.LineFault.TheVariants as fault

-- the instruction is that of a legal derivation with these tokens
pub record HasLine (g : Graph) (ts : List LineToken) (i : Inst) : Type 0 where
  pub by : Derivation
  pub is : IsInstOf g i by
  pub root : IsRoot (table g.desc) by
  pub legal : IsLegal (table g.desc) by
  pub tokens_are : tokens by ≡ ts

-- a derivation with these tokens isn't legal
pub record HasIllegal (d : Desc) (ts : List LineToken) : Type 0 where
  pub by : Derivation
  pub root : IsRoot (table d) by
  pub tokens_are : tokens by ≡ ts
  pub illegal : is_legal (table d) by ≡ false

-- no derivation has the tokens, or one has them that isn't legal
abbrev pub IsLineFault : Desc → List LineToken → LineFault → Type 0
IsLineFault d ts fault.NoMatch = (x : Derivation) → IsRoot (table d) x → tokens x ≡ ts → ⊥
IsLineFault d ts fault.Conflict = HasIllegal d ts
