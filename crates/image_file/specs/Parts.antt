-- What the parts of a file hold, and for what they are refused, for the functions that read them.
use Rattle.std.specs.Prelude.{ℕ, zero, suc, ◌≡◌, ◌≢◌, ◌<◌, ◌+◌, List, [], ◌∷◌, length, Option, Some, option_map, slice_get, take, codes}
use Rattle.image_file.specs.File.{Picture, Init, word_bytes}
use Rattle.image_file.specs.Seen.{init_of}
use Rattle.image_file.specs.Refused.{HasMagic, HasVersion, number_at, init_at, called_for, width_in, count_in, digest_in, words_at, cell_count_in, cells_at}
use Rattle.image_file.specs.declared.image.DataCell.{DataCell}
use Rattle.image_file.specs.declared.fault.ImageFault.{ImageFault}
use Rattle.image_file.specs.declared.fault.ImageFault.TheVariants as fault

-- so many words of so many bytes from this place on
abbrev pub words_from : List ℕ → (size count at : ℕ) → List ℕ
words_from bytes size zero at = []
words_from bytes size (suc more) at = number_at at size bytes ∷ words_from bytes size more (at + size)

-- so many data cells from this place on
abbrev pub inits_from : List ℕ → (count at : ℕ) → List Init
inits_from bytes zero at = []
inits_from bytes (suc more) at = init_at bytes at ∷ inits_from bytes more (at + 14)

-- the image that stands in the bytes
abbrev pub image_in : List ℕ → Picture
image_in bytes = record {
  digest = digest_in bytes;
  width = width_in bytes;
  words = words_from bytes (word_bytes (width_in bytes)) (count_in bytes) words_at;
  inits = inits_from bytes (cell_count_in bytes) (cells_at bytes);
}

abbrev pub option_init : Option DataCell → Option Init
option_init o = option_map init_of o

-- one of the first four faults
abbrev pub IsMisshapen : List ℕ → ImageFault → Type 0
IsMisshapen bytes fault.Magic = take 4 bytes ≢ codes "NMLI"
IsMisshapen bytes (fault.Version found) = HasMagic bytes × (slice_get bytes 4 ≡ Some found) × (found ≢ 1)
IsMisshapen bytes (fault.Short at) = HasMagic bytes × HasVersion bytes × (length bytes < called_for bytes) × (at ≡ length bytes)
IsMisshapen bytes (fault.Trailing at) = HasMagic bytes × HasVersion bytes × (called_for bytes < length bytes) × (at ≡ called_for bytes)
IsMisshapen bytes (fault.Digest wanted found) = ⊥
IsMisshapen bytes (fault.Value at) = ⊥
IsMisshapen bytes fault.Memory = ⊥

-- the first of these places, or want of memory
abbrev pub IsValueFault : List ℕ → ImageFault → Type 0
IsValueFault places fault.Magic = ⊥
IsValueFault places (fault.Version found) = ⊥
IsValueFault places (fault.Short at) = ⊥
IsValueFault places (fault.Trailing at) = ⊥
IsValueFault places (fault.Digest wanted found) = ⊥
IsValueFault places (fault.Value at) = slice_get places 0 ≡ Some at
IsValueFault places fault.Memory = Unit {0}
