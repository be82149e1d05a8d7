-- What an instruction is to have done to a state.
use Rattle.std.specs.Prelude.{ℕ, ◌≡◌, ◌≤◌, ℤ, pos, Bool, true, false, [], map, length, Option, Some, None, option_map, slice_get}
use Rattle.nk_base.specs.declared.number.Ty.{Ty}
use Rattle.nk_base.specs.declared.number.Ty.TheVariants as ty
use Rattle.nk_base.specs.Number.{InRange}
use Rattle.nml_tree.specs.Table.{Text, Table, Declared}
use Rattle.nml_tree.specs.Exec as spec
use Rattle.nml_tree.specs.Exec.{after, out_type, pc, storages, storage_type, trn_types}
use Rattle.nml_state.specs.Cells.{Shown}
use Rattle.nml_state.specs.declared.state.Exec.{Exec}
use Rattle.nml_state.specs.declared.state.Exec.TheVariants as told
use Rattle.attr_exec.specs.declared.give.Done.{Done}

-- a state of the description between two instructions: no write is kept, and each transitory is 0
pub record IsStateOf (t : Table) (s : Shown) : Type 0 where
  pub types_are : s.types ≡ map (λ x. x.1) (storages t)
  pub trn_types_are : s.trn_types ≡ trn_types t
  pub sizes_are : map (λ row. length row) s.cells ≡ map (λ x. x.0) (storages t)
  pub trns_are : s.trns ≡ map (λ u. pos 0) (trn_types t)
  pub kept_are : s.kept ≡ []

-- what is answered, and the state afterwards
abbrev pub DoesExec : Table → spec.Exec → Exec → Shown → Shown → Type 0
DoesExec t (spec.Does e) result old new = (halt : Option ℕ) × (result ≡ told.Done e.out e.took halt) × (e.halt ≡ option_map pos halt) × (new ≡ record old { cells = after t old.cells e })
DoesExec t spec.Wants result old new = (result ≡ told.Wants) × (new ≡ old)

-- an `out` is among what is declared
abbrev pub is_out : Text × Declared → Bool
is_out (name, Declared.Out u) = true
is_out _ = false

-- PC is never negative
pub record HasPc (t : Table) (s : Shown) : Type 0 where
  pub bits : ℕ
  pub some : 1 ≤ bits
  pub few : bits ≤ 64
  pub type_is : slice_get s.types (pc t) ≡ Some (ty.Card bits)
  pub storage_is : storage_type t (pc t) ≡ ty.Card bits

-- an output is of the type of the `out`, a halt code of 8 bits
abbrev pub WithinType : Ty → Option ℤ → Type 0
WithinType u None = Unit {0}
WithinType u (Some z) = InRange u z

pub record IsNarrow (out : Ty) (d : Done) : Type 0 where
  pub out_fits : WithinType out d.out
  pub halt_fits : WithinType (ty.Card 8) d.halt

-- a port has 32 bits at most
abbrev pub IsPort : Ty → Type 0
IsPort ty.Bool = Unit {0}
IsPort (ty.Card n) = n ≤ 32
IsPort (ty.Int n) = n ≤ 32

-- the state keeps its types and sizes, no write is kept, and each transitory is 0
abbrev pub Ends : Shown → Shown → Type 0
Ends a b = (b.types ≡ a.types) × (b.trn_types ≡ a.trn_types) × (map (λ row. length row) b.cells ≡ map (λ row. length row) a.cells) × (b.trns ≡ map (λ z. pos 0) a.trns) × (b.kept ≡ [])
