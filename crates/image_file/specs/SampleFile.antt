-- The file of three words of 10 bits and of none, cut, drawn out and changed, for a machine with PC of four bits and a register of eight.
use Rattle.std.specs.Prelude.{◌≡◌, refl, ℕ, true, List, [], ◌∷◌, ◌++◌, length, replicate, take, unwrap_or, slice_get, Some}
use Rattle.std.proofs.Common.{ap, sym, ◌∙◌, lit<, lit≤}
use Rattle.nk_base.specs.declared.number.Ty.TheVariants.{Card, Int}
use Rattle.image_file.specs.File.{Init, file}
use Rattle.image_file.specs.Valid.{Measures, IsImageOf, is_init}
use Rattle.image_file.specs.Refused.{HasVersion, IsRefused, called_for, digest_in, value_places}
use Rattle.image_file.specs.declared.fault.ImageFault.TheVariants as fault

abbrev machine : Measures
machine = record { width = 10; pc_bits = 4; pc = 0; storages = (1, Card 4) ∷ (2, Int 8) ∷ [] }

abbrev digest : List ℕ
digest = replicate 32 7

abbrev image_of : List ℕ → List Init → List ℕ
image_of words inits = file (record { digest = digest; width = 10; words = words; inits = inits })

abbrev cell_of : (storage cell value : ℕ) → Init
cell_of storage cell value = record { storage = storage; cell = cell; value = value }

-- 52 bytes, of which all are called for; without the last one as many; with one more as many
abbrev three : List ℕ
three = image_of (0x105 ∷ 0x200 ∷ 0 ∷ []) []

called_for_three :
    (length three ≡ 52)
    × (called_for three ≡ 52)
    × (length (take 51 three) ≡ 51)
    × (called_for (take 51 three) ≡ 52)
    × (length (three ++ 0 ∷ []) ≡ 53)
    × (called_for (three ++ 0 ∷ []) ≡ 52)
called_for_three = (refl, refl, refl, refl, refl, refl)

-- the answers to these: the image, where it ends, where something follows
abbrev first_version : (bytes : List ℕ) → slice_get bytes 4 ≡ Some 1 → HasVersion bytes
first_version bytes e found f = ap (λ o. unwrap_or o 0) (sym f ∙ e)

three_is : IsImageOf machine digest three (record { digest = digest; width = 10; words = 0x105 ∷ 0x200 ∷ 0 ∷ []; inits = [] })
three_is = record {
  valid = record { width_is = refl; count = lit≤ tt; fit = (lit< tt, (lit< tt, (lit< tt, tt))); cells = tt; order = refl };
  digest_is = refl;
  bytes_are = refl;
}

three_short : IsRefused machine digest (take 51 three) (fault.Short 51)
three_short = (refl, first_version (take 51 three) refl, lit< tt, refl)

three_longer : IsRefused machine digest (three ++ 0 ∷ []) (fault.Trailing 52)
three_longer = (refl, first_version (three ++ 0 ∷ []) refl, lit< tt, refl)

-- cut before the number of words, and before the number of data cells
called_for_less :
    (called_for (take 20 three) ≡ 42)
    × (called_for (take 47 three) ≡ 52)
called_for_less = (refl, refl)

-- no words: 46 bytes
called_for_none :
    (length (image_of [] []) ≡ 46)
    × (called_for (image_of [] []) ≡ 46)
    × (digest_in three ≡ digest)
called_for_none = (refl, refl, refl)

-- valid for the machine, with and without data cells
values_right :
    (value_places machine three ≡ [])
    × (value_places machine (image_of (1023 ∷ []) (cell_of 1 0 255 ∷ cell_of 1 1 1 ∷ [])) ≡ [])
    × (is_init machine (cell_of 1 0 255) ≡ true)
values_right = (refl, refl, refl)

-- the width; 17 words, at their number; a word that is too wide
word_values :
    (value_places (record machine { width = 9 }) three ≡ 5 ∷ [])
    × (value_places machine (image_of (replicate 17 0) []) ≡ 38 ∷ [])
    × (value_places machine (image_of (0 ∷ 0x400 ∷ []) []) ≡ 44 ∷ [])
word_values = (refl, refl, refl)

-- a storage that is PC, that is none, and that falls; a cell that is none, and that doesn't rise; a value of 0, and one that is too wide
cell_values :
    (value_places machine (image_of [] (cell_of 0 0 1 ∷ [])) ≡ 46 ∷ [])
    × (take 1 (value_places machine (image_of [] (cell_of 2 0 1 ∷ []))) ≡ 46 ∷ [])
    × (take 1 (value_places machine (image_of [] (cell_of 1 0 1 ∷ cell_of 0 0 1 ∷ []))) ≡ 60 ∷ [])
    × (value_places machine (image_of [] (cell_of 1 2 1 ∷ [])) ≡ 48 ∷ [])
    × (value_places machine (image_of [] (cell_of 1 0 9 ∷ cell_of 1 0 9 ∷ [])) ≡ 62 ∷ [])
    × (value_places machine (image_of [] (cell_of 1 0 0 ∷ [])) ≡ 52 ∷ [])
    × (value_places machine (image_of [] (cell_of 1 0 256 ∷ [])) ≡ 52 ∷ [])
cell_values = (refl, refl, refl, refl, refl, refl, refl)
