-- Numbers of nodes in a list: the first number above them all.
use Rattle.std.proofs.Common.{◌≡◌, ℕ, zero, suc, ◌+◌, ◌*◌, ◌<◌, ◌≤◌, List, [], ◌∷◌, length, get_or, sym, subst, arith}
use Rattle.std.specs.Prelude.{max}
use Rattle.isg_nodes.specs.declared.node.Node.{Node}
use Rattle.isg_nodes.specs.Written.{AllBelow, Falls}

abbrev pub above : List ℕ → ℕ
above [] = 0
above (x ∷ xs) = max (suc x) (above xs)

pub above_le : (xs : List ℕ) (n : ℕ) → AllBelow xs n → above xs ≤ n
above_le [] n b = omega arith
above_le (x ∷ xs) n b = omega (arith, b.0, above_le xs n b.1)

pub at_above : (xs : List ℕ) (i : ℕ) → i < length xs → get_or xs i 0 < above xs
at_above [] i h = absurd (omega arith)
at_above (x ∷ xs) zero h = omega arith
at_above (x ∷ xs) (suc i) h = omega (arith, at_above xs i (omega arith))

pub at_below : (xs : List ℕ) (i n : ℕ) → i < length xs → AllBelow xs n → get_or xs i 0 < n
at_below [] i n h b = absurd (omega arith)
at_below (x ∷ xs) zero n h b = b.0
at_below (x ∷ xs) (suc i) n h b = at_below xs i n (omega arith) b.1

pub all_more : (xs : List ℕ) (m k : ℕ) → m < k → AllBelow xs m → AllBelow xs k
all_more [] m k le b = tt
all_more (x ∷ xs) m k le b = (omega (arith, b.0), all_more xs m k le b.1)

-- the list in a statement of node n
pub falls_into : (nodes : List Node) (zs xs : List ℕ) (n t : ℕ) → zs ≡ xs → AllBelow xs n → n < length nodes → Falls nodes → 2 * n + 1 ≡ t → (2 * above zs < t) × (Falls nodes × AllBelow zs (length nodes))
falls_into nodes zs xs n t is b h falls e =
    let low : above zs ≤ n = subst (λ us. above us ≤ n) (sym is) (above_le xs n b) in
    (omega (arith, low, e), (falls, subst (λ us. AllBelow us (length nodes)) (sym is) (all_more xs n (length nodes) h b)))

-- a statement in a list
pub falls_at : (nodes : List Node) (xs : List ℕ) (i t : ℕ) → i < length xs → AllBelow xs (length nodes) → Falls nodes → 2 * above xs ≡ t → (2 * get_or xs i 0 + 1 < t) × (Falls nodes × (get_or xs i 0 < length nodes))
falls_at nodes xs i t h b falls e =
    let low = at_above xs i h in
    (omega (arith, low, e), (falls, at_below xs i (length nodes) h b))
