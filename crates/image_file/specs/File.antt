-- The image file, version 1: an image as bytes.
use Rattle.std.specs.Prelude.{◌≡◌, ℕ, zero, suc, ◌+◌, ◌/◌, ◌%◌, ◌^◌, ◌<◌, ◌≤◌, List, [], ◌∷◌, ◌++◌, length, flat_map, codes}
use Rattle.std.specs.List.{AllByRecursion}

-- an initial value: a storage's number, a cell of it, and the raw value
pub record Init : Type 0 where
  pub storage : ℕ
  pub cell : ℕ
  pub value : ℕ

-- an image without where it lies in memory
pub record Picture : Type 0 where
  pub digest : List ℕ
  pub width : ℕ
  pub words : List ℕ
  pub inits : List Init

-- so many bytes of the number, the highest first
abbrev pub big_endian : ℕ → ℕ → List ℕ
big_endian zero n = []
big_endian (suc count) n = big_endian count (n / 256) ++ n % 256 ∷ []

-- how many bytes a word of so many bits has
abbrev pub word_bytes : ℕ → ℕ
word_bytes width = (width + 7) / 8

abbrev pub init_bytes : Init → List ℕ
init_bytes c = big_endian 2 c.storage ++ (big_endian 4 c.cell ++ big_endian 8 c.value)

-- four letters, the version, the width, the digest, the number of words and the words, the number of data cells and the cells
abbrev pub file : Picture → List ℕ
file i =
    codes "NMLI"
    ++ (1 ∷ i.width ∷ i.digest
    ++ (big_endian 4 (length i.words)
    ++ (flat_map (big_endian (word_bytes i.width)) i.words ++ (big_endian 4 (length i.inits) ++ flat_map init_bytes i.inits))))

abbrev pub IsInit : Init → Type 0
IsInit c = (c.storage < 2 ^ 16) × (c.cell < 2 ^ 32) × (c.value < 2 ^ 64)

-- what every valid image is, whatever the description: it has one file
pub record HasFile (i : Picture) : Type 0 where
  pub digest_is : length i.digest ≡ 32
  pub digest_bytes : AllByRecursion (λ b. b < 256) i.digest
  pub wide : 8 ≤ i.width
  pub narrow : i.width ≤ 64
  pub words_count : length i.words ≤ 65536
  pub words_fit : AllByRecursion (λ w. w < 2 ^ i.width) i.words
  pub inits_count : length i.inits < 2 ^ 32
  pub inits_fit : AllByRecursion IsInit i.inits
