-- Numbers of nodes, and a number above all of them.
use Rattle.std.proofs.Common.{ℕ, zero, suc, ◌+◌, ◌*◌, ◌<◌, ◌≤◌, max, List, [], ◌∷◌, length, get_or, Option, Some, None, arith}
use Rattle.isg_legal.specs.declared.key.Key.{Key}
use Rattle.isg_nodes.specs.Written.{AllBelow}

-- the least number above all of these
abbrev pub highest : List ℕ → ℕ
highest [] = 0
highest (x ∷ xs) = max (suc x) (highest xs)

pub below_more : (xs : List ℕ) (n m : ℕ) → n ≤ m → AllBelow xs n → AllBelow xs m
below_more [] n m le b = tt
below_more (x ∷ xs) n m le b = (omega (arith, le, b.0), below_more xs n m le b.1)

pub below_highest : (xs : List ℕ) → AllBelow xs (highest xs)
below_highest [] = tt
below_highest (x ∷ xs) = (omega arith, below_more xs (highest xs) (highest (x ∷ xs)) (omega arith) (below_highest xs))

pub highest_low : (xs : List ℕ) (n : ℕ) → AllBelow xs n → highest xs ≤ n
highest_low [] n b = omega arith
highest_low (x ∷ xs) n b = let h = highest_low xs n b.1 in omega (arith, h, b.0)

pub below_at : (xs : List ℕ) (n i : ℕ) → i < length xs → AllBelow xs n → get_or xs i 0 < n
below_at [] n i h b = absurd (omega (arith, h))
below_at (x ∷ xs) n zero h b = b.0
below_at (x ∷ xs) n (suc i) h b = below_at xs n i (omega (arith, h)) b.1

-- each is below the least number above all
pub under_highest : (xs : List ℕ) (i : ℕ) → i < length xs → get_or xs i 0 < highest xs
under_highest xs i h = below_at xs (highest xs) i h (below_highest xs)

-- what is added to the measure of a walk that asks for walks through the whole
abbrev pub asked : List ℕ → Option Key → ℕ
asked whole None = 2 * highest whole + 2
asked whole (Some first) = 0
