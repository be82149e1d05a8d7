-- The cell that a line gives.
use Rattle.std.proofs.Common.{ℕ, ◌≡◌, ◌≤◌, ◌<◌, refl, sym, ◌∙◌, ap, Bool, true, false, List, [], ◌∷◌, Option, Some, None, ℤ}
use Rattle.std.specs.Prelude.{◌==◌, nat_lt, not, ◌&&◌, slice_get, unsigned_abs}
use Rattle.std.proofs.lemmas.Bool.{eq-eqb, ne_eqb, lt-ltb, le-ltb}
use Rattle.nk_base.specs.Number.{low_bits, width_of}
use Rattle.nk_base.specs.declared.number.Ty.{Ty}
use Rattle.nk_range.specs.Range.{is_in_range}
use Rattle.nml_tree.specs.Exec.{pc}
use Rattle.nml_tree.specs.Table.{Text, Table, Declared, declared}
use Rattle.asm_text.specs.Assembled.{initial}
use Rattle.asm_text.specs.Refused.{is_cell}
use Rattle.asm_data.specs.Storages.{AreStorages, HasNumbers, number_named}
use Rattle.asm_data.specs.declared.storages.Storages.{Storages}

named : (o : Option Declared) (n : ℕ) → number_named o ≡ Some n → (size : ℕ) × (ty : Ty) × (o ≡ Some (Declared.Storage n size ty))
named None n h = absurd cc
named (Some (Declared.Constant z)) n h = absurd cc
named (Some (Declared.TypeName ty)) n h = absurd cc
named (Some (Declared.Storage k size ty)) n h = let e : k ≡ n = cc in (size, ty, ap (λ m. Some (Declared.Storage m size ty)) e)
named (Some (Declared.Trn k ty)) n h = absurd cc
named (Some (Declared.Inp ty)) n h = absurd cc
named (Some (Declared.Out ty)) n h = absurd cc
named (Some (Declared.Or mode names)) n h = absurd cc
named (Some (Declared.And rule)) n h = absurd cc

same_row : (n : ℕ) (a b : ℕ × Ty) → Some a ≡ Some b → Some (Declared.Storage n a.0 a.1) ≡ Some (Declared.Storage n b.0 b.1)
same_row n a b h = let e : a ≡ b = cc in ap (λ r. Some (Declared.Storage n r.0 r.1)) e

-- the row that was found
pub row_is : (s : Storages) (xs : List (ℕ × Ty)) (n size : ℕ) (ty : Ty) (r : Option (ℕ × Ty)) → xs ≡ s.layout.storages.items → r ≡ slice_get xs n → r ≡ Some (size, ty) → slice_get s.layout.storages.items n ≡ Some (size, ty)
row_is s xs n size ty r same is found = ap (λ rows. slice_get rows n) (sym same) ∙ sym is ∙ found

-- the name whose number and row were found is that storage's
pub stands : (t : Table) (s : Storages) (name : Text) (n size : ℕ) (ty : Ty) (o : Option ℕ) → AreStorages t s → (HasNumbers t s.numbers.entries → o ≡ number_named (declared t name)) → o ≡ Some n
    → slice_get s.layout.storages.items n ≡ Some (size, ty) → declared t name ≡ Some (Declared.Storage n size ty)
stands t s name n size ty o h told is at =
    let f = named (declared t name) n (sym (told h.numbers_are) ∙ is) in
    f.2 ∙ same_row n (f.0, f.1) (size, ty) (sym (h.numbered name n f.0 f.1 f.2) ∙ ap (λ xs. slice_get xs n) (sym h.rows_are) ∙ at)

-- the line is right
pub right_cell : (t : Table) (s : Storages) (o : Option Declared) (n size cell : ℕ) (ty : Ty) (z : ℤ) → AreStorages t s → o ≡ Some (Declared.Storage n size ty)
    → (n ≡ s.layout.pc → ⊥) → cell < size → is_in_range ty z ≡ true → is_cell t o cell z ≡ true
right_cell t s o n size cell ty z h is other low range =
    rw (is, ne_eqb n (pc t) (λ e. other (e ∙ sym h.pc_is)), lt-ltb cell size low, range) refl

-- PC, a cell that the storage hasn't, a value out of range
pub wrong_pc : (t : Table) (s : Storages) (o : Option Declared) (n size cell : ℕ) (ty : Ty) (z : ℤ) → AreStorages t s → o ≡ Some (Declared.Storage n size ty) → n ≡ s.layout.pc → is_cell t o cell z ≡ false
wrong_pc t s o n size cell ty z h is pc_is = rw (is, eq-eqb n (pc t) (pc_is ∙ h.pc_is)) refl

and_false : (b : Bool) → (b && false) ≡ false
and_false true = refl
and_false false = refl

pub wrong_place : (t : Table) (o : Option Declared) (n size cell : ℕ) (ty : Ty) (z : ℤ) → o ≡ Some (Declared.Storage n size ty) → size ≤ cell → is_cell t o cell z ≡ false
wrong_place t o n size cell ty z is high = rw (is, le-ltb cell size high, and_false (not (n == pc t))) refl

pub wrong_value : (t : Table) (o : Option Declared) (n size cell : ℕ) (ty : Ty) (z : ℤ) → o ≡ Some (Declared.Storage n size ty) → is_in_range ty z ≡ false → is_cell t o cell z ≡ false
wrong_value t o n size cell ty z is range = rw (is, range) (and_false (not (n == pc t) && nat_lt cell size))

pub gives : (o : Option Declared) (n size cell raw : ℕ) (ty : Ty) (z : ℤ) → o ≡ Some (Declared.Storage n size ty) → raw ≡ unsigned_abs (low_bits (width_of ty) z)
    → initial o cell z ≡ record { storage = n; cell = cell; raw = raw } ∷ []
gives o n size cell raw ty z is raw_is = rw (is, raw_is) refl
