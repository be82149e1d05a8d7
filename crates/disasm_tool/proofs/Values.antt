-- The initial values of a valid image are of cells that are there, and of the bits of their types.
use Rattle.std.proofs.Common.{ℕ, zero, suc, ◌^◌, ◌<◌, ◌≡◌, true, arith, List, [], ◌∷◌, map, get_or, length}
use Rattle.std.specs.Prelude.{IsTrue, nat_lt, not, ◌==◌, slice_get, unwrap_or, ◌&&◌}
use Rattle.std.specs.List.{AllByRecursion}
use Rattle.std.proofs.lemmas.Bool.{and_parts, ltb-true}
use Rattle.nk_base.specs.Number.{width_of}
use Rattle.nk_base.specs.declared.number.Ty.{Ty}
use Rattle.nk_base.specs.declared.number.Ty.TheVariants as tys
use Rattle.nml_tree.specs.Exec.{storages}
use Rattle.nml_tree.specs.Table.{Table}
use Rattle.image_file.specs.declared.image.DataCell.{DataCell}
use Rattle.image_file.specs.File.{Init}
use Rattle.image_file.specs.Measured.{measures}
use Rattle.image_file.specs.Seen.{init_of}
use Rattle.image_file.specs.Valid.{is_cell, is_init, is_raw, is_raw_of, is_storage}
use Rattle.disasm_tool.specs.Lines.{HasStorage}

narrow_at : (xs : List (ℕ × Ty)) (n v : ℕ) → is_raw_of (slice_get xs n) v ≡ true → v < 2 ^ width_of (unwrap_or (slice_get (map (λ s. s.1) xs) n) tys.Bool)
narrow_at [] n v h = absurd cc
narrow_at (x ∷ xs) zero v h = ltb-true v (2 ^ width_of x.1) (and_parts (nat_lt 0 v) (nat_lt v (2 ^ width_of x.1)) h).1
narrow_at (x ∷ xs) (suc n) v h = narrow_at xs n v h

has_cell : (t : Table) (width : ℕ) (i : Init) → is_init (measures t width) i ≡ true → HasStorage t i
has_cell t width i h =
    let m = measures t width in
    let p = and_parts (is_storage m i.storage) (is_cell m i.storage i.cell && is_raw m i.storage i.value) h in
    record {
      within = ltb-true i.storage (length (storages t)) (and_parts (nat_lt i.storage (length (storages t))) (not (i.storage == m.pc)) p.0).0;
      narrow = narrow_at (storages t) i.storage i.value (and_parts (is_cell m i.storage i.cell) (is_raw m i.storage i.value) p.1).1;
    }

pub have_cells : (t : Table) (width : ℕ) (is : List Init) → AllByRecursion (λ c. IsTrue (is_init (measures t width) c)) is → AllByRecursion (HasStorage t) is
have_cells t width [] h = tt
have_cells t width (i ∷ is) h = (has_cell t width i h.0, have_cells t width is h.1)

pub cell_at : (t : Table) (cells : List DataCell) (i : ℕ) (d : DataCell) → AllByRecursion (HasStorage t) (map init_of cells) → i < length cells → HasStorage t (init_of (get_or cells i d))
cell_at t [] i d h low = absurd (omega (arith, low))
cell_at t (c ∷ cells) zero d h low = h.0
cell_at t (c ∷ cells) (suc i) d h low = cell_at t cells i d h.1 (omega (arith, low))
