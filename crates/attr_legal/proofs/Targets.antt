-- A place by the nodes of its expression, and by a name; an index.
use Rattle.std.proofs.Common.{ℕ, max, List, ◌≡◌, ℤ, refl, sym, ◌∙◌, ap, Some, None, Option, Bool, true, false, arith}
use Rattle.std.specs.Prelude.{◌==◌, ◌&&◌, unsigned_abs, if◌then◌else◌}
use Rattle.std.specs.Map.{lookup}
use Rattle.nk_base.specs.Text.{text_eq}
use Rattle.nml_tree.specs.Formula.{Formula}
use Rattle.nml_tree.specs.Act.{Term, Number, Field, Cell, Trn, Inp, Out, Unary, Binary, Choose}
use Rattle.nml_tree.specs.Legal.{is_constant}
use Rattle.nml_tree.specs.Table.{Text, Table, Rule, declared}
use Rattle.nml_tree.specs.Derivation.{Derivation, Arguments, Compose}
use Rattle.nml_tree.specs.Value.{View, value}
use Rattle.nml_tree.specs.Written as written
use Rattle.nml_tree.specs.Written.{Argument, arguments, term, named}
use Rattle.attr_eval.specs.Walks.{WalksAll}
use Rattle.std.proofs.lemmas.Bool.{eqb-true, eq-eqb}
use Rattle.attr_eval.specs.Alone.{alone}
use Rattle.attr_legal.proofs.Tallies.{left, right, same_truth, both_true}
use Rattle.attr_legal.specs.Key.{cell_at}
use Rattle.attr_legal.specs.Tally.{together, reads}
use Rattle.attr_legal.specs.Target.{index_of, number_unless, target}
use Rattle.attr_legal.specs.declared.target.Target.{Target}

-- an expression is constant exactly where no look counts
none_of : (a b : ℕ) → (together a b == 0) ≡ ((a == 0) && (b == 0))
none_of a b =
    same_truth (together a b == 0) ((a == 0) && (b == 0))
    (λ h. let e = eqb-true (together a b) 0 h in both_true (a == 0) (b == 0) (eq-eqb a 0 (omega (arith, e))) (eq-eqb b 0 (omega (arith, e))))
    (λ h. let x = eqb-true a 0 (left (a == 0) (b == 0) h) in let y = eqb-true b 0 (right (a == 0) (b == 0) h) in eq-eqb (together a b) 0 (omega (arith, x, y)))

none_greater : (a b : ℕ) → (max a b == 0) ≡ ((a == 0) && (b == 0))
none_greater a b =
    same_truth (max a b == 0) ((a == 0) && (b == 0))
    (λ h. let e = eqb-true (max a b) 0 h in both_true (a == 0) (b == 0) (eq-eqb a 0 (omega (arith, e))) (eq-eqb b 0 (omega (arith, e))))
    (λ h. let x = eqb-true a 0 (left (a == 0) (b == 0) h) in let y = eqb-true b 0 (right (a == 0) (b == 0) h) in eq-eqb (max a b) 0 (omega (arith, x, y)))

and_assoc : (a b c : Bool) → (a && (b && c)) ≡ ((a && b) && c)
and_assoc true b c = refl
and_assoc false b c = refl

pub constant_reads : (x : Term) → (reads 1 1 x == 0) ≡ is_constant x
constant_reads (Number z) = refl
constant_reads (Field n) = refl
constant_reads (Cell n i) = none_greater 1 (reads 1 1 i)
constant_reads (Trn n) = refl
constant_reads Inp = refl
constant_reads Out = refl
constant_reads (Unary op x) = constant_reads x
constant_reads (Binary op x y) = none_of (reads 1 1 x) (reads 1 1 y) ∙ (rw (constant_reads x, constant_reads y) refl)
constant_reads (Choose c x y) =
    none_of (reads 1 1 c) (max (reads 1 1 x) (reads 1 1 y)) ∙ ap (λ b. (reads 1 1 c == 0) && b) (none_greater (reads 1 1 x) (reads 1 1 y))
    ∙ and_assoc (reads 1 1 c == 0) (reads 1 1 x == 0) (reads 1 1 y == 0) ∙ (rw (constant_reads c, constant_reads x, constant_reads y) refl)

number_is : (v : View) (x : Term) (looks : ℕ) (z : ℤ) → looks ≡ reads 1 1 x → z ≡ value v x → number_unless looks (unsigned_abs z) ≡ cell_at v x
number_is v x looks z l is = ap (λ n. number_unless n (unsigned_abs z)) l ∙ ap (λ b. if b then Some (unsigned_abs z) else None) (constant_reads x) ∙ ap (λ y. if is_constant x then Some (unsigned_abs y) else None) is

pub index_is : (v : View) (input : ℕ) (x : Term) (looks taken : ℕ) (z : ℤ) (o : Option ℕ) → o ≡ number_unless looks (unsigned_abs z) → looks ≡ reads 1 1 x → z ≡ value v x → taken ≡ reads 0 input x → index_of v input x ≡ record { at = o; reads = taken }
index_is v input x looks taken z o is l e r =
    let n : cell_at v x ≡ o = sym (is ∙ number_is v x looks z l e) in
    rw (n, r) refl

-- by a node, and by a name
pub same_target : (t : Table) (scope : written.Scope) (zs : List ℤ) (input : ℕ) (f g : Formula) (r : Option Target) → f ≡ g → r ≡ target (alone zs) input (term t scope g) → r ≡ target (alone zs) input (term t scope f)
same_target t scope zs input f g r is e = e ∙ ap (λ x. target (alone zs) input (term t scope x)) (sym is)

pub argument_target : (t : Table) (scope : written.Scope) (zs : List ℤ) (input : ℕ) (name : Text) (i : Term) (o : Option Argument) (r : Option Target) → lookup (text_eq name) scope ≡ o → r ≡ target (alone zs) input (named o (declared t name) i) → r ≡ target (alone zs) input (written.reference t scope name i)
argument_target t scope zs input name i o r is e = e ∙ ap (λ x. target (alone zs) input (named x (declared t name) i)) (sym is)

pub none_target : (t : Table) (scope : written.Scope) (zs : List ℤ) (input : ℕ) (o : Option Formula) → o ≡ None → None ≡ target (alone zs) input (written.value_of t scope o)
none_target t scope zs input o is = rw is refl

pub some_target : (t : Table) (scope : written.Scope) (zs : List ℤ) (input : ℕ) (o : Option Formula) (f : Formula) (r : Option Target) → o ≡ Some f → r ≡ target (alone zs) input (term t scope f) → r ≡ target (alone zs) input (written.value_of t scope o)
some_target t scope zs input o f r is e = e ∙ ap (λ x. target (alone zs) input (written.value_of t scope x)) (sym is)

pub whole_target : (t : Table) (rule : Rule) (n j : ℕ) (d : Derivation) (ps : List ℕ) (fs : List ℤ) (ks : List ℕ) (ys : List ℤ) (zs : List ℤ) (input : ℕ) (r : Option Target) → (a : (args : Arguments) × (d ≡ Compose rule args) × WalksAll t rule.pars n args ps fs ks ys)
    → r ≡ target (alone zs) input (written.value_of t (arguments t j a.0) rule.value) → r ≡ target (alone zs) input (written.written t j d).value
whole_target t rule n j d ps fs ks ys zs input r a e = e ∙ ap (λ x. target (alone zs) input (written.written t j x).value) (sym a.1)
