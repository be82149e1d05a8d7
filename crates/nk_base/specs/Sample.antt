-- Worked examples of the definitions, each by computation.
use Rattle.std.specs.Prelude.{◌≡◌, refl, pos, negsuc, codes, []}
use Rattle.nk_base.specs.declared.number.Ty.TheVariants.{Bool, Card, Int}
use Rattle.nk_base.specs.Hexadecimal.{hexadecimal, digits_of_word}
use Rattle.nk_base.specs.Number.{wrapped, low_bits, width_of}
use Rattle.nk_base.specs.Text.{GrewByFront}

-- 200 is -56 as a signed number of 8 bits
signed_above : wrapped (Int 8) (pos 200) ≡ negsuc 55
signed_above = refl

-- the least signed number of 8 bits stays, and the one below it is the greatest
signed_least : wrapped (Int 8) (negsuc 127) ≡ negsuc 127
signed_least = refl

signed_below : wrapped (Int 8) (negsuc 128) ≡ pos 127
signed_below = refl

-- a signed number of one bit is 0 or -1
signed_bit : wrapped (Int 1) (pos 3) ≡ negsuc 0
signed_bit = refl

-- -1 and 300 as numbers of 8 bits with no sign
unsigned_below : wrapped (Card 8) (negsuc 0) ≡ pos 255
unsigned_below = refl

unsigned_above : wrapped (Card 8) (pos 300) ≡ pos 44
unsigned_above = refl

-- -1 as a number of 64 bits with no sign
unsigned_wide : wrapped (Card 64) (negsuc 0) ≡ pos 18446744073709551615
unsigned_wide = refl

-- the lowest 8 bits of -1
bits_below : low_bits 8 (negsuc 0) ≡ pos 255
bits_below = refl

-- a truth value has one bit
truth_width : width_of Bool ≡ 1
truth_width = refl

truth : wrapped Bool (pos 1) ≡ pos 1
truth = refl

-- the highest digit first, zeros in front, in lower case
padded : hexadecimal 3 261 ≡ codes "105"
padded = refl

letters : hexadecimal 4 48879 ≡ codes "beef"
letters = refl

-- what is above the lowest digits is left out
cut : hexadecimal 2 4660 ≡ codes "34"
cut = refl

no_digits : hexadecimal 0 7 ≡ []
no_digits = refl

-- a front of the digits behind what was there
grew : GrewByFront (codes "r") (codes "r1") (codes "105")
grew = (codes "1", codes "05", refl, refl)

-- four bits a digit, rounded up
digits_of_1 : digits_of_word 1 ≡ 1
digits_of_1 = refl

digits_of_12 : digits_of_word 12 ≡ 3
digits_of_12 = refl

digits_of_13 : digits_of_word 13 ≡ 4
digits_of_13 = refl

digits_of_64 : digits_of_word 64 ≡ 16
digits_of_64 = refl
