-- What a state takes where any number may be written anywhere: a number that its place can hold once it is wrapped, in a place that there is.
use Rattle.std.specs.Prelude.{ℕ, ◌<◌, nat_le, nat_lt, ℤ, pos, int_le, Bool, false, not, ◌&&◌, if◌then◌else◌, List, [], ◌∷◌, ◌++◌, length, Option, Some, None, unwrap_or, slice_get, slice_set}
use Rattle.nk_base.specs.declared.number.Ty.{Ty}
use Rattle.nk_base.specs.declared.number.Ty.TheVariants as ty
use Rattle.nk_base.specs.Number.{wrapped}
use Rattle.nml_tree.specs.Value.{Cells}
use Rattle.nml_tree.specs.Exec.{Write, with_write}
use Rattle.nml_state.specs.Cells.{Shown, is_kept}

-- a number that can be wrapped into the type: any, but 0 or 1 into a `bool`
abbrev pub wraps : Ty → ℤ → Bool
wraps ty.Bool z = int_le (pos 0) z && int_le z (pos 1)
wraps (ty.Card n) z = nat_le 1 n && nat_le n 64
wraps (ty.Int n) z = nat_le 1 n && nat_le n 64

-- and into the type of this number, where there is one
abbrev pub wraps_into : Option Ty → ℤ → Bool
wraps_into None z = false
wraps_into (Some ty) z = wraps ty z

-- the type of this number
abbrev pub type_at : List Ty → ℕ → Ty
type_at types n = unwrap_or (slice_get types n) ty.Bool

-- the storage has a cell of this number
abbrev pub has_cell : Cells → ℕ → ℕ → Bool
has_cell cells storage n = nat_lt n (length (unwrap_or (slice_get cells storage) []))

-- the write, its value wrapped
abbrev pub wrapped_write : Shown → ℕ → ℕ → ℤ → Write
wrapped_write s storage n z = record { storage = storage; index = n; value = wrapped (type_at s.types storage) z }

-- one more write is kept, where there is such a cell and no write of it is kept
abbrev pub offered : Shown → ℕ → ℕ → ℤ → Shown
offered s storage n z =
    if wraps_into (slice_get s.types storage) z && (has_cell s.cells storage n && not (is_kept s.kept storage n)) then record s { kept = s.kept ++ wrapped_write s storage n z ∷ [] } else s

-- the transitory of this number is given the number
abbrev pub given_trn : Shown → ℕ → ℤ → Shown
given_trn s n z = if wraps_into (slice_get s.trn_types n) z then record s { trns = slice_set s.trns n (wrapped (type_at s.trn_types n) z) } else s

-- the first cell of the storage is given the number at once
abbrev pub given_cell : Shown → ℕ → ℤ → Shown
given_cell s storage z = if wraps_into (slice_get s.types storage) z && has_cell s.cells storage 0 then record s { cells = with_write s.cells (wrapped_write s storage 0 z) } else s
