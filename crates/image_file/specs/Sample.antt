-- Worked examples of the definitions, each by computation.
use Rattle.std.specs.Prelude.{◌≡◌, ℕ, refl, List, [], ◌∷◌, ◌++◌, length}
use Rattle.image_file.specs.File.{Picture, big_endian, word_bytes, file}

abbrev zeros : List ℕ
zeros =
    0 ∷ 0 ∷ 0 ∷ 0 ∷ 0 ∷ 0 ∷ 0 ∷ 0 ∷ 0 ∷ 0 ∷ 0 ∷ 0 ∷ 0 ∷ 0 ∷ 0 ∷ 0 ∷ 0 ∷ 0 ∷ 0 ∷ 0 ∷ 0 ∷ 0 ∷ 0 ∷ 0 ∷ 0 ∷ 0 ∷ 0 ∷ 0 ∷ 0 ∷ 0 ∷ 0 ∷ 0 ∷ []

-- three words of 10 bits
abbrev three_words : Picture
three_words = record { digest = zeros; width = 10; words = 261 ∷ 512 ∷ 0 ∷ []; inits = [] }

-- 4e4d4c49 01 0a, the digest, 00000003 0105 0200 0000 00000000
three_words_file : file three_words ≡ 78 ∷ 77 ∷ 76 ∷ 73 ∷ 1 ∷ 10 ∷ (zeros ++ 0 ∷ 0 ∷ 0 ∷ 3 ∷ 1 ∷ 5 ∷ 2 ∷ 0 ∷ 0 ∷ 0 ∷ 0 ∷ 0 ∷ 0 ∷ 0 ∷ [])
three_words_file = refl

three_words_length : length (file three_words) ≡ 52
three_words_length = refl

-- a word of 8 bits, and the cell 2 of the storage 1, which begins as 258
one_cell : file (record { digest = zeros; width = 8; words = 255 ∷ []; inits = record { storage = 1; cell = 2; value = 258 } ∷ [] })
    ≡ 78 ∷ 77 ∷ 76 ∷ 73 ∷ 1 ∷ 8 ∷ (zeros ++ 0 ∷ 0 ∷ 0 ∷ 1 ∷ 255 ∷ 0 ∷ 0 ∷ 0 ∷ 1 ∷ 0 ∷ 1 ∷ 0 ∷ 0 ∷ 0 ∷ 2 ∷ 0 ∷ 0 ∷ 0 ∷ 0 ∷ 0 ∷ 0 ∷ 1 ∷ 2 ∷ [])
one_cell = refl

-- a number that doesn't fit loses its highest bytes
cut : big_endian 2 65793 ≡ 1 ∷ 1 ∷ []
cut = refl

-- how many bytes a word has
bytes_8 : word_bytes 8 ≡ 1
bytes_8 = refl

bytes_9 : word_bytes 9 ≡ 2
bytes_9 = refl

bytes_64 : word_bytes 64 ≡ 8
bytes_64 = refl
