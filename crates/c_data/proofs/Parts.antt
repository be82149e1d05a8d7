-- Numbers that are put behind others, one part after the other.
use Rattle.std.proofs.Common.{◌≡◌, ℕ, ℤ, pos, List, ◌++◌, map}
use Rattle.ir_core.specs.Operator.{wrap}

-- the numbers that stand behind the old ones, with those to come, are all numbers
pub record Coming (n : ℕ) (old now : List ℤ) (rest all : List ℕ) : Type 0 where
  pub is : now ++ map (λ z. wrap n (pos z)) rest ≡ old ++ map (λ z. wrap n (pos z)) all
