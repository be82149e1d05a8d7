-- For what the bytes of an image file are refused. Of several faults the lowest number is answered, within one number the first place.
use Rattle.std.specs.Prelude.{ℕ, zero, suc, ◌≡◌, ◌≢◌, ◌<◌, ◌+◌, ◌*◌, ◌^◌, ◌==◌, nat_le, nat_lt, not, Bool, true, ◌||◌, ◌&&◌, if◌then◌else◌, List, [], ◌∷◌, ◌++◌, length, take, drop, Option, Some, None, slice_get, codes, Result, Ok, Err}
use Rattle.image_file.specs.File.{Picture, Init, word_bytes}
use Rattle.image_file.specs.Valid.{Measures, IsImageOf, word_limit, is_storage, is_cell, is_raw}
use Rattle.image_file.specs.declared.fault.ImageFault.{ImageFault}
use Rattle.image_file.specs.declared.fault.ImageFault.TheVariants as fault

-- the number of bytes, the highest first, behind one
abbrev pub number_behind : ℕ → List ℕ → ℕ
number_behind n [] = n
number_behind n (b ∷ bs) = number_behind (n * 256 + b) bs

-- the number of so many bytes from this place on
abbrev pub number_at : (at size : ℕ) → List ℕ → ℕ
number_at at size bytes = number_behind 0 (take size (drop at bytes))

-- where the width's byte, the digest, the number of words and the words are
abbrev pub width_at : ℕ
width_at = 5

abbrev pub digest_at : ℕ
digest_at = 6

abbrev pub count_at : ℕ
count_at = 38

abbrev pub words_at : ℕ
words_at = 42

abbrev pub width_in : List ℕ → ℕ
width_in bytes = number_at width_at 1 bytes

abbrev pub digest_in : List ℕ → List ℕ
digest_in bytes = take 32 (drop digest_at bytes)

abbrev pub count_in : List ℕ → ℕ
count_in bytes = number_at count_at 4 bytes

-- where the number of data cells is, behind the words, and where the cells are
abbrev pub cell_count_at : List ℕ → ℕ
cell_count_at bytes = words_at + count_in bytes * word_bytes (width_in bytes)

abbrev pub cell_count_in : List ℕ → ℕ
cell_count_in bytes = number_at (cell_count_at bytes) 4 bytes

abbrev pub cells_at : List ℕ → ℕ
cells_at bytes = cell_count_at bytes + 4

-- how many bytes a file calls for by its own numbers, as far as they stand in it; a data cell has 14 bytes
abbrev pub called_for : List ℕ → ℕ
called_for bytes =
    if nat_lt (length bytes) words_at then words_at
    else if nat_lt (length bytes) (cells_at bytes) then cells_at bytes
    else cells_at bytes + cell_count_in bytes * 14

-- the place, where the condition fails
abbrev pub unless : Bool → ℕ → List ℕ
unless condition at = if condition then [] else at ∷ []

-- the words of so many bits that are too wide, of the so many from this place on
abbrev pub word_places : List ℕ → (width count at : ℕ) → List ℕ
word_places bytes width zero at = []
word_places bytes width (suc more) at =
    unless (nat_lt (number_at at (word_bytes width) bytes) (2 ^ width)) at ++ word_places bytes width more (at + word_bytes width)

-- the data cell at this place
abbrev pub init_at : List ℕ → ℕ → Init
init_at bytes at = record { storage = number_at at 2 bytes; cell = number_at (at + 2) 4 bytes; value = number_at (at + 6) 8 bytes }

-- a storage doesn't fall, and in one storage the cell rises
abbrev pub is_storage_behind : Option Init → Init → Bool
is_storage_behind None i = true
is_storage_behind (Some before) i = nat_le before.storage i.storage

abbrev pub is_cell_behind : Option Init → Init → Bool
is_cell_behind None i = true
is_cell_behind (Some before) i = not (before.storage == i.storage) || nat_lt before.cell i.cell

-- the fields of the data cell at this place that are wrong, behind this one
abbrev pub field_places : Measures → Option Init → Init → ℕ → List ℕ
field_places m before i at =
    unless (is_storage m i.storage && is_storage_behind before i) at
    ++ (unless (is_cell m i.storage i.cell && is_cell_behind before i) (at + 2) ++ unless (is_raw m i.storage i.value) (at + 6))

-- the fields of data cells that are wrong, of the so many from this place on, behind this one
abbrev pub cell_places : Measures → List ℕ → Option Init → (count at : ℕ) → List ℕ
cell_places m bytes before zero at = []
cell_places m bytes before (suc more) at =
    field_places m before (init_at bytes at) at ++ cell_places m bytes (Some (init_at bytes at)) more (at + 14)

-- the fields by which the image isn't valid for the description, in the order of the file
abbrev pub value_places : Measures → List ℕ → List ℕ
value_places m bytes =
    unless (width_in bytes == m.width) width_at
    ++ (unless (nat_le (count_in bytes) (word_limit m)) count_at
    ++ (word_places bytes (width_in bytes) (count_in bytes) words_at ++ cell_places m bytes None (cell_count_in bytes) (cells_at bytes)))

-- the bytes begin with the four letters, and the version is 1 where it is there
abbrev pub HasMagic : List ℕ → Type 0
HasMagic bytes = take 4 bytes ≡ codes "NMLI"

abbrev pub HasVersion : List ℕ → Type 0
HasVersion bytes = (found : ℕ) → slice_get bytes 4 ≡ Some found → found ≡ 1

-- none of the first four faults
pub record IsWhole (bytes : List ℕ) : Type 0 where
  pub magic : HasMagic bytes
  pub version : HasVersion bytes
  pub length_is : length bytes ≡ called_for bytes

-- the fault is the one that the bytes are refused for, where the description has this digest: its condition, and that of no lower number
abbrev pub IsRefused : Measures → (digest bytes : List ℕ) → ImageFault → Type 0
IsRefused m digest bytes fault.Magic = take 4 bytes ≢ codes "NMLI"
IsRefused m digest bytes (fault.Version found) = HasMagic bytes × (slice_get bytes 4 ≡ Some found) × (found ≢ 1)
IsRefused m digest bytes (fault.Short at) = HasMagic bytes × HasVersion bytes × (length bytes < called_for bytes) × (at ≡ length bytes)
IsRefused m digest bytes (fault.Trailing at) = HasMagic bytes × HasVersion bytes × (called_for bytes < length bytes) × (at ≡ called_for bytes)
IsRefused m digest bytes (fault.Digest wanted found) = IsWhole bytes × (digest_in bytes ≢ digest) × (wanted ≡ digest) × (found ≡ digest_in bytes)
IsRefused m digest bytes (fault.Value at) = IsWhole bytes × (digest_in bytes ≡ digest) × (slice_get (value_places m bytes) 0 ≡ Some at)
IsRefused m digest bytes fault.Memory = Unit {0}

-- what the bytes come to, memory aside: the image, or the fault
abbrev pub IsAnswer : Measures → (digest bytes : List ℕ) → Result Picture ImageFault → Type 0
IsAnswer m digest bytes (Ok i) = IsImageOf m digest bytes i
IsAnswer m digest bytes (Err f) = (f ≢ fault.Memory) × IsRefused m digest bytes f
