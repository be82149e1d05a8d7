-- Images: the one that is made of a text, and where a machine begins with one.
use Rattle.std.proofs.Common.{arith, refl, sym, ap, ◌∙◌, subst, ℕ, zero, suc, ◌≡◌, ◌<◌, ◌^◌, List, [], ◌∷◌, ◌++◌, length, map, replicate, Option, Some, None, ℤ, pos, true, false}
use Rattle.std.specs.Prelude.{slice_get, slice_index, unwrap_or, IsTrue, nat_lt, ◌==◌, not, ◌&&◌}
use Rattle.std.specs.Int.{byte_at, bytes_high_first, to_be_bytes, w32}
use Rattle.std.specs.List.{AllByRecursion}
use Rattle.std.proofs.lemmas.Bool.{ltb-true, and_parts}
use Rattle.std.proofs.lemmas.List.{length-replicate}
use Rattle.sha2.specs.Sha256.{digest_bytes, final_hash, initial_hash_256, sha256}
use Rattle.sha2.proofs.Facts256.{length-sha256}
use Rattle.nk_base.specs.Number.{width_of}
use Rattle.nk_base.specs.declared.number.Ty.{Ty}
use Rattle.nk_base.specs.declared.number.Ty.TheVariants as tys
use Rattle.nml_tree.specs.Exec.{pc, storages, storage_type}
use Rattle.nml_tree.specs.Machine.{Initial, zeros}
use Rattle.nml_tree.specs.Table.{Table, table}
use Rattle.nml_tree.specs.Valid.{IsWordWidth}
use Rattle.nml_state.specs.Cells.{HasCell, sizes}
use Rattle.image_file.specs.File.{HasFile, Init, Picture, file}
use Rattle.image_file.specs.Measured.{initial, measures, stored}
use Rattle.image_file.specs.Seen.{init_of, picture_of}
use Rattle.image_file.specs.Valid as valid
use Rattle.image_file.specs.Valid.{IsDigest, IsImageOf, IsValid}
use Rattle.image_file.specs.declared.image.DataCell.{DataCell}
use Rattle.image_file.specs.declared.image.Image.{Image}
use Rattle.image_file.proofs.Limits.{has_file}
use Rattle.image_layout.proofs.Limits.{limited}
use Rattle.isg_graph.specs.Graph.{Graph, IsGraph}
use Rattle.asm_text.proofs.Right.{right}
use Rattle.asm_tool.specs.Made.{IsImageOfText}
use Rattle.bit_sim.specs.Simulator.{AreInitial, IsInitial, initial_of}
use Rattle.nml_suite.specs.Coming.{initials, made, picture}
use Rattle.nml_suite.specs.Work.{Work}

-- a digest is of bytes
IsByte : ℕ → Type 0
IsByte b = b < 256

bytes_append : (xs ys : List ℕ) → AllByRecursion IsByte xs → AllByRecursion IsByte ys → AllByRecursion IsByte (xs ++ ys)
bytes_append [] ys a b = b
bytes_append (x ∷ xs) ys a b = (a.0, bytes_append xs ys a.1 b)

byte_below : (k n : ℕ) → IsByte (byte_at k n)
unfolding IsByte
byte_below zero n = omega arith
byte_below (suc k) n = omega arith

number_bytes : (k n : ℕ) → AllByRecursion IsByte (bytes_high_first k n)
number_bytes zero n = tt
number_bytes (suc k) n = (byte_below k n, number_bytes k n)

hash_bytes : (h : List ℕ) (n : ℕ) → AllByRecursion IsByte (digest_bytes h n)
unfolding digest_bytes
hash_bytes h zero = tt
hash_bytes h (suc n) = bytes_append (digest_bytes h n) (to_be_bytes w32 (slice_index h n)) (hash_bytes h n) (number_bytes 4 (slice_index h n))

pub digest_is_bytes : (m : List ℕ) → AllByRecursion (λ b. b < 256) (sha256 m)
unfolding sha256 IsByte
digest_is_bytes m = hash_bytes (final_hash initial_hash_256 m) 8

-- so it is a digest
pub digest_is : (m : List ℕ) → IsDigest (sha256 m)
digest_is m = record { length_is = length-sha256 m; each = digest_is_bytes m }

-- ---- the image of a text

-- initial values are the same, as an image has them and as a machine begins with them
pub stored_initial : (is : List Init) → map stored (map initial is) ≡ is
stored_initial [] = refl
stored_initial (i ∷ is) = ap (λ more. i ∷ more) (stored_initial is)

pub initial_stored : (is : List Initial) → map initial (map stored is) ≡ is
initial_stored [] = refl
initial_stored (i ∷ is) = ap (λ more. i ∷ more) (initial_stored is)

-- an image of a text is the picture of its words and initial values
pub picture_is : (g : Graph) (bytes text : List ℕ) (i : Picture) → IsImageOfText g (sha256 bytes) text i → picture bytes g.word_bits i.words (initials i) ≡ i
picture_is g bytes text i h = λ j. record { digest = sym h.digest_is j; width = sym h.width_is j; words = i.words; inits = stored_initial i.inits j }

-- it is valid for the description, and has a file
pub text_valid : (g : Graph) (bytes text : List ℕ) (i : Picture) → IsGraph g → IsImageOfText g (sha256 bytes) text i → IsValid (measures (table g.desc) g.word_bits) i
text_valid g bytes text i whole h =
    subst (IsValid (measures (table g.desc) g.word_bits)) (picture_is g bytes text i h)
    (right g.desc g.word_bits text i.words (initials i) whole.checked whole.word_bits_are h.assembles (sha256 bytes))

pub text_file : (g : Graph) (bytes text : List ℕ) (i : Picture) → IsGraph g → IsImageOfText g (sha256 bytes) text i → HasFile i
text_file g bytes text i whole h =
    has_file (measures (table g.desc) g.word_bits) i (limited g.desc g.word_bits whole.checked whole.word_bits_are) (subst IsDigest (sym h.digest_is) (digest_is bytes))
    (text_valid g bytes text i whole h)

-- ---- where a machine begins

get_mapped : {A B : Type 0} (f : A → B) (xs : List A) (n : ℕ) (x : A) → slice_get xs n ≡ Some x → slice_get (map f xs) n ≡ Some (f x)
get_mapped f [] n x h = absurd cc
get_mapped f (y ∷ xs) zero x h = let e : y ≡ x = cc in ap (λ z. Some (f z)) e
get_mapped f (y ∷ xs) (suc n) x h = get_mapped f xs n x h

abbrev rows : List (ℕ × Ty) → List (List ℤ)
rows ss = map (λ (size, ty). replicate size (pos 0)) ss

abbrev size_or : Option (ℕ × Ty) → ℕ
size_or None = 0
size_or (Some s) = s.0

row_at : (ss : List (ℕ × Ty)) (n size : ℕ) (ty : Ty) → slice_get ss n ≡ Some (size, ty) → slice_get (sizes (rows ss)) n ≡ Some size
row_at [] n size ty h = absurd cc
row_at ((k, u) ∷ ss) zero size ty h = let e : k ≡ size = ap size_or h in ap Some (length-replicate k (pos 0) ∙ e)
row_at ((k, u) ∷ ss) (suc n) size ty h = row_at ss n size ty h

in_row : (o : Option (ℕ × Ty)) (cell value : ℕ) → valid.is_cell_of o cell ≡ true → valid.is_raw_of o value ≡ true → (size : ℕ) × (ty : Ty) × (o ≡ Some (size, ty)) × (cell < size) × (value < 2 ^ width_of ty)
in_row None cell value c r = absurd cc
in_row (Some (size, ty)) cell value c r = (size, ty, refl, ltb-true _ _ c, ltb-true _ _ (and_parts (nat_lt 0 value) (nat_lt value (2 ^ width_of ty)) r).1)

-- a valid data cell is of a cell that there is, and has the bits of its type
initial_cell : (t : Table) (width : ℕ) (c : DataCell) → IsTrue (valid.is_init (measures t width) (init_of c)) → IsInitial t c
initial_cell t width c h =
    let m = measures t width in
    let p = and_parts (valid.is_storage m c.storage) (valid.is_cell m c.storage c.cell && valid.is_raw m c.storage c.value) h in
    let q = and_parts (valid.is_cell m c.storage c.cell) (valid.is_raw m c.storage c.value) p.1 in
    let r = in_row (slice_get (storages t) c.storage) c.cell c.value q.0 q.1 in
    let ty = r.1 in
    let typed : storage_type t c.storage ≡ ty = ap (λ o. unwrap_or o tys.Bool) (get_mapped (λ s. s.1) (storages t) c.storage (r.0, ty) r.2) in
    ((r.0, row_at (storages t) c.storage r.0 ty r.2, r.3), subst (λ (u : Ty). c.value < 2 ^ width_of u) (sym typed) r.4)

all_initial : (t : Table) (width : ℕ) (cs : List DataCell) → AllByRecursion (λ c. IsTrue (valid.is_init (measures t width) c)) (map init_of cs) → AreInitial t cs
all_initial t width [] h = tt
all_initial t width (c ∷ cs) h = (initial_cell t width c h.0, all_initial t width cs h.1)

pub valid_begins : (t : Table) (width : ℕ) (i : Image) → IsValid (measures t width) (picture_of i) → AreInitial t i.inits.items
valid_begins t width i v = all_initial t width i.inits.items v.cells

pub same_initials : (cs : List DataCell) → map initial_of cs ≡ map initial (map init_of cs)
same_initials [] = refl
same_initials (c ∷ cs) = ap (λ more. initial_of c ∷ more) (same_initials cs)
