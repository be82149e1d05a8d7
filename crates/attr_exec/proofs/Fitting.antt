-- In a description in which all is right what an instruction does suits its places.
use Rattle.std.proofs.Common.{ℕ, List, ℤ, subst, Option}
use Rattle.std.specs.Prelude.{codes}
use Rattle.nml_tree.specs.declared.tree.Desc.{Desc}
use Rattle.nml_tree.specs.Table.{table}
use Rattle.nml_tree.specs.Derivation.{Derivation, fields}
use Rattle.nml_tree.specs.Refused.{IsFreeBelow}
use Rattle.nml_tree.specs.Walk.{IsWalkOf}
use Rattle.nml_tree.specs.Written.{action}
use Rattle.nml_state.specs.Cells.{Shown}
use Rattle.nml_widths.specs.Fitting.{StandAt}
use Rattle.nml_widths.proofs.WidthLaws.{stand_whole}
use Rattle.attr_exec.specs.Does.{IsStateOf}
use Rattle.attr_exec.proofs.Suits.{Suits}
use Rattle.attr_exec.proofs.Placed.{derivation_suits}
use Rattle.attr_exec.proofs.Grounds.{ground, blocks_right}
use Rattle.attr_exec.proofs.Sizes.{sized}
use Rattle.attr_exec.proofs.OutKind.{out_right}

pub suits : (d : Desc) → IsFreeBelow 8 d → (x : Derivation) (ks : List ℕ) (zs : List ℤ) (next : Option ℤ) (s : Shown) → IsStateOf (table d) s → IsWalkOf (table d) (codes "instruction") ks zs x → Suits (table d) zs next s.cells (action (table d) x)
suits d free x ks zs next s state walk =
    let stand : StandAt zs 0 (fields x) = subst (λ ys. StandAt ys 0 (fields x)) walk.fields (stand_whole (fields x)) in
    (derivation_suits (table d) zs next s.cells x (ground d free zs next s.cells (sized d free s state) (blocks_right d free) (out_right d free)) (codes "instruction") 0 walk.derivation stand).0
