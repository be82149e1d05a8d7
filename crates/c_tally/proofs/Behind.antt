-- Numbers that were put behind others, one part after the other.
use Rattle.std.proofs.Common.{◌≡◌, ◌≤◌, ℕ, ℤ, pos, Bool, List, ◌++◌, map}
use Rattle.ir_core.specs.Operator.{wrap}
use Rattle.c_flat.specs.declared.node.Node.{Node}
use Rattle.c_flat.specs.Sorts.{terms_at, command_at}
use Rattle.c_counted.specs.Counted.{arguments_numbers, command_numbers}

-- the numbers that stand behind the old ones, with those of the arguments to come, are those of all arguments
pub record Walks (nodes : List Node) (n xs rest : ℕ) (a b : List ℤ) : Type 0 where
  pub below : rest ≤ xs
  pub is : b ++ map (λ z. wrap n (pos z)) (arguments_numbers (terms_at nodes rest)) ≡ a ++ map (λ z. wrap n (pos z)) (arguments_numbers (terms_at nodes xs))

-- the same of commands
pub record Follows (nodes : List Node) (in_main : Bool) (n c rest : ℕ) (a b : List ℤ) : Type 0 where
  pub below : rest ≤ c
  pub is : b ++ map (λ z. wrap n (pos z)) (command_numbers in_main (command_at nodes rest)) ≡ a ++ map (λ z. wrap n (pos z)) (command_numbers in_main (command_at nodes c))
