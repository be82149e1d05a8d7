-- The spelling of an expression before a rest, symbol by symbol and part by part.
use Rattle.std.proofs.Common.{◌≡◌, ℕ, List, [], ◌∷◌, ◌++◌, ap, ◌∙◌, append_assoc, ◌≤◌, lit≤, arith}
use Rattle.std.specs.Prelude.{codes}
use Rattle.nml_tree.specs.declared.names.Name.{Name}
use Rattle.nml_tree.specs.declared.operator.Bin.{Bin}
use Rattle.nml_tree.specs.declared.tree.Size.{Size}
use Rattle.readings.specs.Symbol.{Symbol}
use Rattle.nml_tree.specs.Formula.{Formula, Fit, Numeral, Truth, Named, Indexed, Paren, Fitted, Bits, Choose, Unary, Binary}
use Rattle.nml_tree.specs.Depth.{depth}
use Rattle.nml_tree.specs.Spell.{formula_spelling, binary_mark, fit_word, size_spelling}

-- lists one behind the other
pub join4 : (a b c d : List Symbol) → ((a ++ b) ++ c) ++ d ≡ a ++ (b ++ (c ++ d))
join4 a b c d = append_assoc (a ++ b) c d ∙ append_assoc a b (c ++ d)

pub join5 : (a b c d e : List Symbol) → (((a ++ b) ++ c) ++ d) ++ e ≡ a ++ (b ++ (c ++ (d ++ e)))
join5 a b c d e = join4 (a ++ b) c d e ∙ append_assoc a b (c ++ (d ++ e))

pub join6 : (a b c d e f : List Symbol) → ((((a ++ b) ++ c) ++ d) ++ e) ++ f ≡ a ++ (b ++ (c ++ (d ++ (e ++ f))))
join6 a b c d e f = join5 (a ++ b) c d e f ∙ append_assoc a b (c ++ (d ++ (e ++ f)))

pub join7 : (a b c d e f g : List Symbol) → (((((a ++ b) ++ c) ++ d) ++ e) ++ f) ++ g ≡ a ++ (b ++ (c ++ (d ++ (e ++ (f ++ g)))))
join7 a b c d e f g = join6 (a ++ b) c d e f g ∙ append_assoc a b (c ++ (d ++ (e ++ (f ++ g))))

-- each kind of expression with further ones in it
pub flat-Indexed : (n : Name) (p : ℕ) (i : Formula) (q : ℕ) (s : List Symbol) → formula_spelling (Indexed n p i q) ++ s
    ≡ Symbol.Named n.at n.text ∷ Symbol.Fixed p (codes "[") ∷ (formula_spelling i ++ (Symbol.Fixed q (codes "]") ∷ s))
flat-Indexed n p i q s = ap (λ u. Symbol.Named n.at n.text ∷ Symbol.Fixed p (codes "[") ∷ u) (append_assoc (formula_spelling i) (Symbol.Fixed q (codes "]") ∷ []) s)

pub flat-Paren : (p : ℕ) (x : Formula) (q : ℕ) (s : List Symbol) → formula_spelling (Paren p x q) ++ s
    ≡ Symbol.Fixed p (codes "(") ∷ (formula_spelling x ++ (Symbol.Fixed q (codes ")") ∷ s))
flat-Paren p x q s = ap (λ u. Symbol.Fixed p (codes "(") ∷ u) (append_assoc (formula_spelling x) (Symbol.Fixed q (codes ")") ∷ []) s)

pub flat-Fitted : (f : Fit) (at p : ℕ) (n : Size) (c : ℕ) (x : Formula) (q : ℕ) (s : List Symbol) → formula_spelling (Fitted f at p n c x q) ++ s
    ≡ Symbol.Fixed at (fit_word f) ∷ Symbol.Fixed p (codes "(") ∷ (size_spelling n ++ (Symbol.Fixed c (codes ",") ∷ (formula_spelling x ++ (Symbol.Fixed q (codes ")") ∷ s))))
flat-Fitted f at p n c x q s =
    ap (λ u. Symbol.Fixed at (fit_word f) ∷ Symbol.Fixed p (codes "(") ∷ u)
    (join5 (size_spelling n) (Symbol.Fixed c (codes ",") ∷ []) (formula_spelling x) (Symbol.Fixed q (codes ")") ∷ []) s)

pub flat-Bits : (at p : ℕ) (x : Formula) (c : ℕ) (high : Size) (d : ℕ) (low : Size) (q : ℕ) (s : List Symbol) → formula_spelling (Bits at p x c high d low q) ++ s
    ≡ Symbol.Fixed at (codes "bits") ∷ Symbol.Fixed p (codes "(") ∷ (formula_spelling x ++ (Symbol.Fixed c (codes ",") ∷ (size_spelling high
    ++ (Symbol.Fixed d (codes ",") ∷ (size_spelling low ++ (Symbol.Fixed q (codes ")") ∷ s))))))
flat-Bits at p x c high d low q s =
    ap (λ u. Symbol.Fixed at (codes "bits") ∷ Symbol.Fixed p (codes "(") ∷ u)
    (join7 (formula_spelling x) (Symbol.Fixed c (codes ",") ∷ []) (size_spelling high) (Symbol.Fixed d (codes ",") ∷ []) (size_spelling low) (Symbol.Fixed q (codes ")") ∷ []) s)

pub flat-Choose : (at : ℕ) (c : Formula) (t : ℕ) (x : Formula) (f : ℕ) (y : Formula) (end : ℕ) (s : List Symbol) → formula_spelling (Choose at c t x f y end) ++ s
    ≡ Symbol.Fixed at (codes "if") ∷ (formula_spelling c ++ (Symbol.Fixed t (codes "then") ∷ (formula_spelling x ++ (Symbol.Fixed f (codes "else")
    ∷ (formula_spelling y ++ (Symbol.Fixed end (codes "endif") ∷ s))))))
flat-Choose at c t x f y end s =
    ap (λ u. Symbol.Fixed at (codes "if") ∷ u)
    (join7 (formula_spelling c) (Symbol.Fixed t (codes "then") ∷ []) (formula_spelling x) (Symbol.Fixed f (codes "else") ∷ []) (formula_spelling y) (Symbol.Fixed end (codes "endif") ∷ []) s)

pub flat-Binary : (op : Bin) (x : Formula) (at : ℕ) (y : Formula) (s : List Symbol) → formula_spelling (Binary op x at y) ++ s ≡ formula_spelling x ++ (Symbol.Fixed at (binary_mark op) ∷ (formula_spelling y ++ s))
flat-Binary op x at y s = join4 (formula_spelling x) (Symbol.Fixed at (binary_mark op) ∷ []) (formula_spelling y) s

-- every expression has a node
pub one_node : (x : Formula) → 1 ≤ depth x
one_node (Numeral n) = lit≤ tt
one_node (Truth at b) = lit≤ tt
one_node (Named n) = lit≤ tt
one_node (Indexed n p i q) = omega arith
one_node (Paren p x q) = omega arith
one_node (Fitted f at p n c x q) = omega arith
one_node (Bits at p x c high d low q) = omega arith
one_node (Choose at c t x f y end) = omega arith
one_node (Unary op at x) = omega arith
one_node (Binary op x at y) = omega arith
