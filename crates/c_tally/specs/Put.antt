-- For contracts: numbers that were put behind others.
use Rattle.std.specs.Prelude.{◌≡◌, ℕ, ℤ, pos, List, ◌++◌, map}
use Rattle.ir_core.specs.Operator.{wrap}

-- these numbers of a text, wrapped to n bits, stand behind the old ones
pub record Put (n : ℕ) (old new : List ℤ) (zs : List ℕ) : Type 0 where
  pub is : new ≡ old ++ map (λ z. wrap n (pos z)) zs
