-- An action that runs on a state, which takes what it can hold of each write.
use Rattle.std.specs.Prelude.{◌≡◌, ℤ, Bool, false, ◌||◌, if◌then◌else◌, length, List, Option, Some}
use Rattle.nk_base.specs.declared.number.Ty.{Ty}
use Rattle.nk_base.specs.declared.number.Ty.TheVariants as ty
use Rattle.nk_base.specs.Number.{wrapped}
use Rattle.nml_tree.specs.Act as act
use Rattle.nml_tree.specs.Act.{Act, Cell}
use Rattle.nml_tree.specs.Value.{value, takes, is_true}
use Rattle.nml_state.specs.Cells.{Shown}
use Rattle.nml_state.specs.Wrapping.{wraps, offered, given_trn}
use Rattle.attr_exec.specs.declared.give.Done.{Done}
use Rattle.attr_exec.specs.declared.look.Spot.{Spot}
use Rattle.attr_exec.specs.declared.look.Spot.TheVariants as spot
use Rattle.attr_exec.specs.declared.look.Seen.{Seen}
use Rattle.attr_exec.specs.Seen.{view, seen, spot_of}

-- a state, and what is done besides
pub record Scene : Type 0 where
  pub state : Shown
  pub done : Done

abbrev pub scene : Shown → Done → Scene
scene s d = record { state = s; done = d }

-- the input was read besides, or wasn't
abbrev pub looked_at : Bool → Done → Done
looked_at b d = record d { took = d.took || b }

-- an output, where the type can hold it
abbrev pub put_out : Ty → ℤ → Done → Done
put_out ty z d = if wraps ty z then record d { out = Some (wrapped ty z) } else d

-- a halt code
abbrev pub halted_with : ℤ → Done → Done
halted_with z d = record d { halt = Some (wrapped (ty.Card 8) z) }

-- the place is given a value, where the input was read for the place's index or wasn't
abbrev pub given : Ty → Spot → Bool → Seen → Scene → Scene
given out (spot.Cell n i) b w c = record { state = offered c.state n i w.value; done = looked_at (b || w.took) c.done }
given out (spot.Trn n) b w c = record { state = given_trn c.state n w.value; done = looked_at w.took c.done }
given out spot.Out b w c = record { state = c.state; done = looked_at w.took (put_out out w.value c.done) }
given out spot.Nowhere b w c = c

-- the statements in order
abbrev pub ran : Ty → List ℤ → Option ℤ → Act → Scene → Scene
ran out zs next act.Done c = c
ran out zs next (act.SetCell n i e rest) c =
    let v = view zs c.state next in
    ran out zs next rest (given out (spot_of v (Cell n i)) (takes v i) (seen v e) c)
ran out zs next (act.SetTrn n e rest) c =
    let v = view zs c.state next in
    ran out zs next rest (given out (spot.Trn n) false (seen v e) c)
ran out zs next (act.Put e rest) c =
    let v = view zs c.state next in
    ran out zs next rest (given out spot.Out false (seen v e) c)
ran out zs next (act.Halt e rest) c =
    let v = view zs c.state next in
    ran out zs next rest (record c { done = looked_at (takes v e) (halted_with (value v e) c.done) })
ran out zs next (act.When e x y rest) c =
    let v = view zs c.state next in
    let d : Scene = record c { done = looked_at (takes v e) c.done } in
    ran out zs next rest (if is_true (value v e) then ran out zs next x d else ran out zs next y d)

-- the same types and cells, and as many transitories
abbrev pub Same : Shown → Shown → Type 0
Same a b = (b.types ≡ a.types) × (b.trn_types ≡ a.trn_types) × (b.cells ≡ a.cells) × (length b.trns ≡ length a.trns)
