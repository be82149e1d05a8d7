-- Bits that are written one behind another.
use Rattle.std.specs.Prelude.{◌+◌, ◌*◌, ◌%◌, ◌^◌, ◌-◌, min, Bool, if◌then◌else◌, List, [], ◌∷◌}
use Rattle.attr_eval.specs.declared.run.Run.{Run}

-- one bit more, as far as 128 bits hold it
abbrev pub pushed_one : Run → Bool → Run
pushed_one out b = record { width = min (out.width + 1) (2 ^ 32 - 1); value = (out.value * 2 % 2 ^ 128 + (if b then 1 else 0)) % 2 ^ 128 }

abbrev pub pushed : Run → List Bool → Run
pushed out [] = out
pushed out (b ∷ bs) = pushed (pushed_one out b) bs
