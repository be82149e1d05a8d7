-- Whether a number is one of a type.
use Rattle.std.specs.Prelude.{◌≡◌, refl, ◌-◌, ◌^◌, ℤ, pos, negsuc, neg_ℤ, int_le, int_lt, Bool, true, false, ◌&&◌}
use Rattle.nk_base.specs.declared.number.Ty.{Ty}
use Rattle.nk_base.specs.declared.number.Ty.TheVariants as ty

-- a number of the type
abbrev pub is_in_range : Ty → ℤ → Bool
is_in_range ty.Bool z = int_le (pos 0) z && int_le z (pos 1)
is_in_range (ty.Card n) z = int_le (pos 0) z && int_lt z (pos (2 ^ n))
is_in_range (ty.Int n) z = int_le (neg_ℤ (pos (2 ^ (n - 1)))) z && int_lt z (pos (2 ^ (n - 1)))

-- -128 and 255 are the outermost numbers of 8 bits with a sign and without
int_low : is_in_range (ty.Int 8) (negsuc 127) ≡ true
int_low = refl

int_lower : is_in_range (ty.Int 8) (negsuc 128) ≡ false
int_lower = refl

card_high : is_in_range (ty.Card 8) (pos 255) ≡ true
card_high = refl

card_higher : is_in_range (ty.Card 8) (pos 256) ≡ false
card_higher = refl
