-- How a fault of an image file is told: its number and name, and its fields, each after one blank.
use Rattle.std.specs.Prelude.{◌≡◌, refl, ℕ, List, [], ◌++◌, codes, flat_map, replicate, Bool, true, false}
use Rattle.std.specs.Fmt.{decimal, digits}
use Rattle.nk_base.specs.Hexadecimal.{hexadecimal}
use Rattle.image_file.specs.declared.fault.ImageFault.{ImageFault}
use Rattle.image_file.specs.declared.fault.ImageFault.TheVariants as faults

-- memory was wanted, which is no fault of a file
abbrev pub is_image_memory : ImageFault → Bool
is_image_memory faults.Memory = true
is_image_memory _ = false

-- a digest stands in hexadecimal, two digits a byte
abbrev pub digest_text : List ℕ → List ℕ
digest_text digest = flat_map (hexadecimal 2) digest

-- the digest that was wanted stands before the one that was found; want of memory isn't told so
abbrev pub image_fault_text : ImageFault → List ℕ
image_fault_text faults.Magic = codes "I1 Magic"
image_fault_text (faults.Version found) = codes "I2 Version " ++ decimal found
image_fault_text (faults.Short at) = codes "I3 Short " ++ decimal at
image_fault_text (faults.Trailing at) = codes "I4 Trailing " ++ decimal at
image_fault_text (faults.Digest wanted found) = codes "I5 Digest " ++ digest_text wanted ++ codes " " ++ digest_text found
image_fault_text (faults.Value at) = codes "I6 Value " ++ decimal at
image_fault_text faults.Memory = []

-- the file ends behind its 42nd byte
short_line : image_fault_text (faults.Short 42) ≡ codes "I3 Short 42"
unfolding digits
short_line = refl

-- a digest of 32 equal bytes was wanted, and another was found
digest_line :
    image_fault_text (faults.Digest (replicate 32 0x0a) (replicate 32 0xf1))
    ≡ codes "I5 Digest 0a0a0a0a0a0a0a0a0a0a0a0a0a0a0a0a0a0a0a0a0a0a0a0a0a0a0a0a0a0a0a0a f1f1f1f1f1f1f1f1f1f1f1f1f1f1f1f1f1f1f1f1f1f1f1f1f1f1f1f1f1f1f1f1"
digest_line = refl
