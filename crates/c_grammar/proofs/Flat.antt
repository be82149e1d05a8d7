-- The spelling of an expression before a rest, symbol by symbol and part by part.
use Rattle.std.proofs.Common.{◌≡◌, ℕ, List, [], ◌∷◌, ◌++◌, ap, ◌∙◌, append_assoc, ◌≤◌, lit≤, arith}
use Rattle.std.specs.Prelude.{codes}
use Rattle.c_tree.specs.declared.names.Name.{Name}
use Rattle.c_tree.specs.declared.operator.Bin.{Bin}
use Rattle.readings.specs.Symbol.{Symbol}
use Rattle.c_tree.specs.Formula.{Formula, Further, Numeral, Named, Indexed, Called, CalledWith, Paren, Unary, Binary, More}
use Rattle.c_tree.specs.Depth.{depth}
use Rattle.c_tree.specs.Spell.{formula_spelling, further_spelling, binary_mark}

-- lists one behind the other
pub join4 : (a b c d : List Symbol) → ((a ++ b) ++ c) ++ d ≡ a ++ (b ++ (c ++ d))
join4 a b c d = append_assoc (a ++ b) c d ∙ append_assoc a b (c ++ d)

-- each kind of expression with further ones in it
pub flat-Indexed : (n : Name) (p : ℕ) (i : Formula) (q : ℕ) (s : List Symbol) → formula_spelling (Indexed n p i q) ++ s
    ≡ Symbol.Named n.at n.text ∷ Symbol.Fixed p (codes "[") ∷ (formula_spelling i ++ (Symbol.Fixed q (codes "]") ∷ s))
flat-Indexed n p i q s = ap (λ u. Symbol.Named n.at n.text ∷ Symbol.Fixed p (codes "[") ∷ u) (append_assoc (formula_spelling i) (Symbol.Fixed q (codes "]") ∷ []) s)

pub flat-CalledWith : (n : Name) (p : ℕ) (x : Formula) (xs : Further) (q : ℕ) (s : List Symbol) → formula_spelling (CalledWith n p x xs q) ++ s
    ≡ Symbol.Named n.at n.text ∷ Symbol.Fixed p (codes "(") ∷ (formula_spelling x ++ (further_spelling xs ++ (Symbol.Fixed q (codes ")") ∷ s)))
flat-CalledWith n p x xs q s =
    ap (λ u. Symbol.Named n.at n.text ∷ Symbol.Fixed p (codes "(") ∷ u) (join4 (formula_spelling x) (further_spelling xs) (Symbol.Fixed q (codes ")") ∷ []) s)

pub flat-More : (comma : ℕ) (x : Formula) (xs : Further) (s : List Symbol) → further_spelling (More comma x xs) ++ s
    ≡ Symbol.Fixed comma (codes ",") ∷ (formula_spelling x ++ (further_spelling xs ++ s))
flat-More comma x xs s = ap (λ u. Symbol.Fixed comma (codes ",") ∷ u) (append_assoc (formula_spelling x) (further_spelling xs) s)

pub flat-Paren : (p : ℕ) (x : Formula) (q : ℕ) (s : List Symbol) → formula_spelling (Paren p x q) ++ s
    ≡ Symbol.Fixed p (codes "(") ∷ (formula_spelling x ++ (Symbol.Fixed q (codes ")") ∷ s))
flat-Paren p x q s = ap (λ u. Symbol.Fixed p (codes "(") ∷ u) (append_assoc (formula_spelling x) (Symbol.Fixed q (codes ")") ∷ []) s)

pub flat-Binary : (op : Bin) (x : Formula) (at : ℕ) (y : Formula) (s : List Symbol) → formula_spelling (Binary op x at y) ++ s
    ≡ formula_spelling x ++ (Symbol.Fixed at (binary_mark op) ∷ (formula_spelling y ++ s))
flat-Binary op x at y s = join4 (formula_spelling x) (Symbol.Fixed at (binary_mark op) ∷ []) (formula_spelling y) s

-- every expression has a node
pub one_node : (x : Formula) → 1 ≤ depth x
one_node (Numeral n) = lit≤ tt
one_node (Named n) = lit≤ tt
one_node (Indexed n p i q) = omega arith
one_node (Called n p q) = lit≤ tt
one_node (CalledWith n p x xs q) = omega arith
one_node (Paren p x q) = omega arith
one_node (Unary op at x) = omega arith
one_node (Binary op x at y) = omega arith
