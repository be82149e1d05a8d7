-- An image that is valid for a description.
use Rattle.std.specs.Prelude.{ℕ, ◌≡◌, ◌^◌, ◌<◌, ◌≤◌, nat_lt, ◌==◌, not, Bool, true, false, ◌||◌, ◌&&◌, IsTrue, List, [], ◌∷◌, length, Option, Some, None, slice_get}
use Rattle.std.specs.List.{AllByRecursion}
use Rattle.nk_base.specs.Number.{width_of}
use Rattle.nk_base.specs.declared.number.Ty.{Ty}
use Rattle.image_file.specs.File.{Picture, Init, file}

-- what of a description its images are measured by: how many bits a word has, how many PC has, the number of PC's storage, and the size and type of each storage
pub record Measures : Type 0 where
  pub width : ℕ
  pub pc_bits : ℕ
  pub pc : ℕ
  pub storages : List (ℕ × Ty)

-- how many words PC can name
abbrev pub word_limit : Measures → ℕ
word_limit m = 2 ^ m.pc_bits

-- a storage other than PC
abbrev pub is_storage : Measures → ℕ → Bool
is_storage m n = nat_lt n (length m.storages) && not (n == m.pc)

abbrev pub is_cell_of : Option (ℕ × Ty) → ℕ → Bool
is_cell_of None cell = false
is_cell_of (Some (size, ty)) cell = nat_lt cell size

-- a cell of the storage of this number
abbrev pub is_cell : Measures → ℕ → ℕ → Bool
is_cell m n cell = is_cell_of (slice_get m.storages n) cell

abbrev pub is_raw_of : Option (ℕ × Ty) → ℕ → Bool
is_raw_of None value = false
is_raw_of (Some (size, ty)) value = nat_lt 0 value && nat_lt value (2 ^ width_of ty)

-- above 0, and of the bits of the storage's type
abbrev pub is_raw : Measures → ℕ → ℕ → Bool
is_raw m n value = is_raw_of (slice_get m.storages n) value

abbrev pub is_init : Measures → Init → Bool
is_init m i = is_storage m i.storage && (is_cell m i.storage i.cell && is_raw m i.storage i.value)

-- in rising order of storage, then cell
abbrev pub is_before : Init → Init → Bool
is_before a b = nat_lt a.storage b.storage || ((a.storage == b.storage) && nat_lt a.cell b.cell)

abbrev pub rise : List Init → Bool
rise [] = true
rise (a ∷ []) = true
rise (a ∷ b ∷ more) = is_before a b && rise (b ∷ more)

-- the image is valid for the description
pub record IsValid (m : Measures) (i : Picture) : Type 0 where
  pub width_is : i.width ≡ m.width
  pub count : length i.words ≤ word_limit m
  pub fit : AllByRecursion (λ w. w < 2 ^ m.width) i.words
  pub cells : AllByRecursion (λ c. IsTrue (is_init m c)) i.inits
  pub order : IsTrue (rise i.inits)

-- it is valid for the description, carries the description's digest, and the bytes are its file
pub record IsImageOf (m : Measures) (digest bytes : List ℕ) (i : Picture) : Type 0 where
  pub valid : IsValid m i
  pub digest_is : i.digest ≡ digest
  pub bytes_are : bytes ≡ file i

-- a size of at most 65,536 cells, and a type of at most 64 bits
abbrev pub IsSmall : ℕ × Ty → Type 0
IsSmall (size, ty) = (size ≤ 65536) × (width_of ty ≤ 64)

-- the limits that every description keeps
pub record IsLimited (m : Measures) : Type 0 where
  pub wide : 8 ≤ m.width
  pub narrow : m.width ≤ 64
  pub few_words : m.pc_bits ≤ 16
  pub pc_is : m.pc < length m.storages
  pub few : length m.storages ≤ 65536
  pub small : AllByRecursion IsSmall m.storages

-- each is a byte
abbrev pub AreBytes : List ℕ → Type 0
AreBytes bytes = AllByRecursion (λ b. b < 256) bytes

-- 32 bytes
pub record IsDigest (digest : List ℕ) : Type 0 where
  pub length_is : length digest ≡ 32
  pub each : AreBytes digest
