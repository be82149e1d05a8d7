-- The kept writes of a state without how they are stored, and the state that is seen, for private contracts.
use Rattle.std.specs.Prelude.{ℕ, ℤ, List, map, vec_capacity}
use Rattle.std.specs.Global.{Vec}
use Rattle.nml_tree.specs.Value.{Cells}
use Rattle.nml_tree.specs.Exec as exec
use Rattle.nml_state.specs.declared.state.Write.{Write}

abbrev pub seen_writes : List Write → List exec.Write
seen_writes ws = map (λ w. record { storage = w.storage; index = w.index; value = w.value }) ws

abbrev pub seen_cells : List (Vec ℤ) → Cells
seen_cells rows = map (λ row. row.items) rows
