-- That 128 bits hold what an action's expressions are worth.
use Rattle.std.specs.Prelude.{◌≡◌, ℤ, List}
use Rattle.nml_tree.specs.Table.{Table}
use Rattle.nml_tree.specs.Act.{Term, Act, Done, SetCell, SetTrn, Put, Halt, When}
use Rattle.nml_tree.specs.Value.{View}
use Rattle.nml_widths.specs.Fitting.{AreOfTypes}
use Rattle.isg_nodes.specs.Narrow.{IsNarrow}

-- with these fields 128 bits hold what the expression is worth, whatever cells, transitories and input of their types hold
abbrev pub IsAlwaysNarrow : Table → List ℤ → Term → Type 0
IsAlwaysNarrow t zs x = (v : View) → v.fields ≡ zs → AreOfTypes t v → IsNarrow v x

-- so each expression of the action
abbrev pub AreNarrow : Table → List ℤ → Act → Type 0
AreNarrow t zs Done = Unit {0}
AreNarrow t zs (SetCell n i e rest) = IsAlwaysNarrow t zs i × (IsAlwaysNarrow t zs e × AreNarrow t zs rest)
AreNarrow t zs (SetTrn n e rest) = IsAlwaysNarrow t zs e × AreNarrow t zs rest
AreNarrow t zs (Put e rest) = IsAlwaysNarrow t zs e × AreNarrow t zs rest
AreNarrow t zs (Halt e rest) = IsAlwaysNarrow t zs e × AreNarrow t zs rest
AreNarrow t zs (When c x y rest) = IsAlwaysNarrow t zs c × (AreNarrow t zs x × (AreNarrow t zs y × AreNarrow t zs rest))
