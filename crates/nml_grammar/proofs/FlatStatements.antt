-- The spelling of statements before a rest, symbol by symbol and part by part.
use Rattle.std.proofs.Common.{◌≡◌, ℕ, List, [], ◌∷◌, ◌++◌, Some, None, ap, ◌∙◌, append_assoc}
use Rattle.std.specs.Prelude.{codes}
use Rattle.nml_tree.specs.declared.names.Name.{Name}
use Rattle.readings.specs.Symbol.{Symbol}
use Rattle.nml_tree.specs.Formula.{Formula}
use Rattle.nml_tree.specs.Block.{Block, Assign, Halt, If, IfElse}
use Rattle.nml_tree.specs.Spell.{formula_spelling, block_spelling}
use Rattle.nml_grammar.proofs.Flat.{join4, join5, join7}

-- more lists one behind the other
join9 : (a b c d e f g h i : List Symbol) → (((((((a ++ b) ++ c) ++ d) ++ e) ++ f) ++ g) ++ h) ++ i ≡ a ++ (b ++ (c ++ (d ++ (e ++ (f ++ (g ++ (h ++ i)))))))
join9 a b c d e f g h i = join7 ((a ++ b) ++ c) d e f g h i ∙ append_assoc (a ++ b) c (d ++ (e ++ (f ++ (g ++ (h ++ i))))) ∙ append_assoc a b (c ++ (d ++ (e ++ (f ++ (g ++ (h ++ i))))))

-- each kind of statement
pub flat-Assign : (n : Name) (at : ℕ) (e : Formula) (semicolon : ℕ) (rest : Block) (s : List Symbol) → block_spelling (Assign n None at e semicolon rest) ++ s
    ≡ Symbol.Named n.at n.text ∷ Symbol.Fixed at (codes "=") ∷ (formula_spelling e ++ (Symbol.Fixed semicolon (codes ";") ∷ (block_spelling rest ++ s)))
flat-Assign n at e semicolon rest s =
    ap (λ u. Symbol.Named n.at n.text ∷ Symbol.Fixed at (codes "=") ∷ u) (join4 (formula_spelling e) (Symbol.Fixed semicolon (codes ";") ∷ []) (block_spelling rest) s)

pub flat-Assign_at : (n : Name) (p : ℕ) (i : Formula) (q at : ℕ) (e : Formula) (semicolon : ℕ) (rest : Block) (s : List Symbol) → block_spelling (Assign n (Some (p, i, q)) at e semicolon rest) ++ s
    ≡ Symbol.Named n.at n.text ∷ Symbol.Fixed p (codes "[") ∷ (formula_spelling i ++ (Symbol.Fixed q (codes "]") ∷ Symbol.Fixed at (codes "=")
    ∷ (formula_spelling e ++ (Symbol.Fixed semicolon (codes ";") ∷ (block_spelling rest ++ s)))))
flat-Assign_at n p i q at e semicolon rest s =
    ap (λ u. Symbol.Named n.at n.text ∷ Symbol.Fixed p (codes "[") ∷ u)
    (join7 (formula_spelling i) (Symbol.Fixed q (codes "]") ∷ []) (Symbol.Fixed at (codes "=") ∷ []) (formula_spelling e) (Symbol.Fixed semicolon (codes ";") ∷ []) (block_spelling rest) s)

pub flat-Halt : (at p : ℕ) (e : Formula) (q semicolon : ℕ) (rest : Block) (s : List Symbol) → block_spelling (Halt at p e q semicolon rest) ++ s
    ≡ Symbol.Fixed at (codes "halt") ∷ Symbol.Fixed p (codes "(") ∷ (formula_spelling e ++ (Symbol.Fixed q (codes ")") ∷ Symbol.Fixed semicolon (codes ";") ∷ (block_spelling rest ++ s)))
flat-Halt at p e q semicolon rest s =
    ap (λ u. Symbol.Fixed at (codes "halt") ∷ Symbol.Fixed p (codes "(") ∷ u)
    (join5 (formula_spelling e) (Symbol.Fixed q (codes ")") ∷ []) (Symbol.Fixed semicolon (codes ";") ∷ []) (block_spelling rest) s)

pub flat-If : (at : ℕ) (c : Formula) (t : ℕ) (xs : Block) (end semicolon : ℕ) (rest : Block) (s : List Symbol) → block_spelling (If at c t xs end semicolon rest) ++ s
    ≡ Symbol.Fixed at (codes "if") ∷ (formula_spelling c ++ (Symbol.Fixed t (codes "then") ∷ (block_spelling xs ++ (Symbol.Fixed end (codes "endif")
    ∷ Symbol.Fixed semicolon (codes ";") ∷ (block_spelling rest ++ s)))))
flat-If at c t xs end semicolon rest s =
    ap (λ u. Symbol.Fixed at (codes "if") ∷ u)
    (join7 (formula_spelling c) (Symbol.Fixed t (codes "then") ∷ []) (block_spelling xs) (Symbol.Fixed end (codes "endif") ∷ []) (Symbol.Fixed semicolon (codes ";") ∷ []) (block_spelling rest) s)

pub flat-IfElse : (at : ℕ) (c : Formula) (t : ℕ) (xs : Block) (f : ℕ) (ys : Block) (end semicolon : ℕ) (rest : Block) (s : List Symbol) → block_spelling (IfElse at c t xs f ys end semicolon rest) ++ s
    ≡ Symbol.Fixed at (codes "if") ∷ (formula_spelling c ++ (Symbol.Fixed t (codes "then") ∷ (block_spelling xs ++ (Symbol.Fixed f (codes "else")
    ∷ (block_spelling ys ++ (Symbol.Fixed end (codes "endif") ∷ Symbol.Fixed semicolon (codes ";") ∷ (block_spelling rest ++ s)))))))
flat-IfElse at c t xs f ys end semicolon rest s =
    ap (λ u. Symbol.Fixed at (codes "if") ∷ u)
    (join9 (formula_spelling c) (Symbol.Fixed t (codes "then") ∷ []) (block_spelling xs) (Symbol.Fixed f (codes "else") ∷ []) (block_spelling ys) (Symbol.Fixed end (codes "endif") ∷ [])
    (Symbol.Fixed semicolon (codes ";") ∷ []) (block_spelling rest) s)
