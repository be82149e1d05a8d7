-- The cells as a machine begins.
use Rattle.std.proofs.Common.{ℕ, zero, suc, ◌+◌, ◌<◌, ◌≤◌, ◌≡◌, refl, sym, ◌∙◌, ap, subst, arith, ℤ, pos, List, [], ◌∷◌, drop, get_or, length, map, Some, None, Option, Bool, true, false}
use Rattle.std.proofs.lemmas.Bool.{leb-true}
use Rattle.std.proofs.lemmas.Int.{ints}
use Rattle.std.proofs.lemmas.List.{drop_all, length-replicate}
use Rattle.std.proofs.lemmas.Option.{slice_get_within}
use Rattle.std.specs.List.{AllByRecursion}
use Rattle.std.specs.Prelude.{◌^◌, ◌&&◌, replicate, slice_get, unwrap_or, ◌≤ℤ◌}
use Rattle.nk_base.specs.declared.number.Ty.{Ty}
use Rattle.nk_base.specs.declared.number.Ty.TheVariants as tys
use Rattle.nk_base.specs.Number.{CanWrap, InRange, IsTy, width_of, wrapped}
use Rattle.nml_tree.specs.declared.tree.Desc.{Desc}
use Rattle.nml_tree.specs.Table.{Table, table}
use Rattle.nml_tree.specs.Exec.{storages, storage_type, with_write, with_writes}
use Rattle.nml_tree.specs.Machine.{first_write, zeros}
use Rattle.nml_tree.specs.Refused.{IsFreeBelow}
use Rattle.nml_tree.specs.Value.{Cells}
use Rattle.nml_tree.specs.Worth.{is_type}
use Rattle.nml_state.specs.Cells.{HasCell, IsOf, Shown, opened, sizes}
use Rattle.nml_state.proofs.StateLaws.{sizes_write}
use Rattle.attr_exec.specs.Does.{IsStateOf}
use Rattle.image_file.specs.declared.image.DataCell.{DataCell}
use Rattle.bit_sim.specs.Simulator.{AreInitial, IsInitial, initial_of}
use Rattle.bit_sim.proofs.Types.{storage_right}

and_parts : (a b : Bool) → (a && b) ≡ true → (a ≡ true) × (b ≡ true)
and_parts true b h = (refl, h)
and_parts false b h = absurd cc

is_ty : (ty : Ty) → is_type ty ≡ true → IsTy ty
is_ty tys.Bool h = tt
is_ty (tys.Card n) h = let p = and_parts _ _ h in (leb-true 1 n p.0, leb-true n 64 p.1)
is_ty (tys.Int n) h = let p = and_parts _ _ h in (leb-true 1 n p.0, leb-true n 64 p.1)

sizes_rows : (rows : List (ℕ × Ty)) → map (λ (row : List ℤ). length row) (map (λ (size, ty). replicate size (pos 0)) rows) ≡ map (λ x. x.0) rows
sizes_rows [] = refl
sizes_rows ((n, ty) ∷ rows) = rw (length-replicate n (pos 0), sizes_rows rows) refl

get_mapped : {A B : Type 0} (f : A → B) (xs : List A) (n : ℕ) (x : A) → slice_get xs n ≡ Some x → slice_get (map f xs) n ≡ Some (f x)
get_mapped f [] n x h = absurd cc
get_mapped f (y ∷ xs) zero x h = let e : y ≡ x = cc in ap (λ z. Some (f z)) e
get_mapped f (y ∷ xs) (suc n) x h = get_mapped f xs n x h

mapped_at : {A B : Type 0} (f : A → B) (xs : List A) (n : ℕ) (y : B) → slice_get (map f xs) n ≡ Some y → (x : A) × (slice_get xs n ≡ Some x) × (f x ≡ y)
mapped_at f [] n y h = absurd cc
mapped_at f (x ∷ xs) zero y h = (x, refl, cc)
mapped_at f (x ∷ xs) (suc n) y h = mapped_at f xs n y h

-- a storage of the state, and its type
pub record Place (t : Table) (s : Shown) (n k : ℕ) : Type 0 where
  pub count : ℕ
  pub ty : Ty
  pub stands : slice_get (storages t) n ≡ Some (count, ty)
  pub below : k < count
  pub type_is : slice_get s.types n ≡ Some ty
  pub table_is : storage_type t n ≡ ty

pub place_of : (t : Table) (s : Shown) (n k : ℕ) → IsStateOf t s → HasCell (zeros t) n k → Place t s n k
place_of t s n k is has =
    let r = mapped_at (λ x. x.0) (storages t) n has.0 (subst (λ xs. slice_get xs n ≡ Some has.0) (sizes_rows (storages t)) has.1) in
    let ty = r.0.1 in
    let typed : slice_get (map (λ x. x.1) (storages t)) n ≡ Some ty = get_mapped (λ x. x.1) (storages t) n r.0 r.1 in
    record {
      count = has.0;
      ty = ty;
      stands = r.1 ∙ ap (λ c. Some (c, ty)) r.2;
      below = has.2;
      type_is = subst (λ xs. slice_get xs n ≡ Some ty) (sym is.types_are) typed;
      table_is = ap (λ o. unwrap_or o tys.Bool) typed;
    }

pub has_place : (t : Table) (s : Shown) (n k : ℕ) → IsStateOf t s → HasCell (zeros t) n k → HasCell s.cells n k
has_place t s n k is has = (has.0, subst (λ xs. slice_get xs n ≡ Some has.0) (sizes_rows (storages t) ∙ sym is.sizes_are) has.1, has.2)

pub type_there : (t : Table) (s : Shown) (n k : ℕ) → IsStateOf t s → HasCell (zeros t) n k → n < length s.types
type_there t s n k is has = let p = place_of t s n k is has in slice_get_within s.types n p.ty p.type_is

pub right_type : (d : Desc) (s : Shown) (n k : ℕ) (u : Ty) → IsFreeBelow 8 d → IsStateOf (table d) s → HasCell (zeros (table d)) n k → slice_get s.types n ≡ Some u → (u ≡ storage_type (table d) n) × IsTy u
right_type d s n k u free is has at =
    let p = place_of (table d) s n k is has in
    let e : u ≡ p.ty = cc in
    (e ∙ sym p.table_is, subst IsTy (sym e) (is_ty p.ty (storage_right d free n p.count p.ty p.stands)))

pub can_wrap : (u : Ty) (raw : ℕ) → raw < 2 ^ width_of u → CanWrap u (pos raw)
can_wrap tys.Bool raw low = (omega (arith, ints), omega (arith, ints, low))
can_wrap (tys.Card n) raw low = tt
can_wrap (tys.Int n) raw low = tt

-- a write leaves a state of the description
pub written_state : (t : Table) (s : Shown) (n k : ℕ) (z : ℤ) → IsStateOf t s → IsStateOf t (record s { cells = with_write s.cells (record { storage = n; index = k; value = z }) })
written_state t s n k z is = record { types_are = is.types_are; trn_types_are = is.trn_types_are; sizes_are = sizes_write s.cells n k z ∙ is.sizes_are; trns_are = is.trns_are; kept_are = is.kept_are }

-- the machine as it opens
pub opened_state : (t : Table) → IsStateOf t (opened t)
opened_state t = record { types_are = refl; trn_types_are = refl; sizes_are = sizes_rows (storages t); trns_are = refl; kept_are = refl }

-- some cells have their initial values, and these are left
pub record Begins (t : Table) (rest all : List DataCell) (start now : Shown) : Type 0 where
  pub state : IsStateOf t now
  pub left : AreInitial t rest
  pub cells : with_writes now.cells (map (first_write t) (map initial_of rest)) ≡ with_writes start.cells (map (first_write t) (map initial_of all))

front_suc : (xs : List DataCell) (i : ℕ) (d : DataCell) → i < length xs → drop i xs ≡ get_or xs i d ∷ drop (suc i) xs
front_suc [] i d h = absurd (omega arith)
front_suc (x ∷ xs) zero d h = refl
front_suc (x ∷ xs) (suc i) d h = front_suc xs i d (omega arith)

front : (xs : List DataCell) (i : ℕ) (d : DataCell) → i < length xs → drop i xs ≡ get_or xs i d ∷ drop (i + 1) xs
front xs i d h = let e : i + 1 ≡ suc i = omega arith in subst (λ k. drop i xs ≡ get_or xs i d ∷ drop k xs) (sym e) (front_suc xs i d h)

module _ (t : Table) (all : List DataCell) (start : Shown) where
  pub begin_here : (i : ℕ) (d : DataCell) (now : Shown) → i < length all → Begins t (drop i all) all start now → IsInitial t (get_or all i d)
  begin_here i d now low b = (subst (AreInitial t) (front all i d low) b.left).0

  pub begin_next : (i : ℕ) (d : DataCell) (now then : Shown) → i < length all → Begins t (drop i all) all start now → IsStateOf t then
      → then.cells ≡ with_write now.cells (first_write t (initial_of (get_or all i d))) → Begins t (drop (i + 1) all) all start then
  begin_next i d now then low b is cells =
      let e = front all i d low in
      record {
        state = is;
        left = (subst (AreInitial t) e b.left).1;
        cells = ap (λ cs. with_writes cs (map (first_write t) (map initial_of (drop (i + 1) all)))) cells ∙ (ap (λ xs. with_writes now.cells (map (first_write t) (map initial_of xs))) (sym e) ∙ b.cells);
      }

  pub begin_end : (i : ℕ) (now : Shown) → length all ≤ i → Begins t (drop i all) all start now → now.cells ≡ with_writes start.cells (map (first_write t) (map initial_of all))
  begin_end i now over b = (subst (λ xs. Begins t xs all start now) (drop_all i all over) b).cells
