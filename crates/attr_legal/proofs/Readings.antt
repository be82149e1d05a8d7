-- What an expression reads, by its nodes and by a name.
use Rattle.std.proofs.Common.{ℕ, zero, suc, max, List, ◌∷◌, ◌≡◌, ℤ, drop, refl, sym, ◌∙◌, ap, Some, None, Option}
use Rattle.std.specs.Prelude.{pos}
use Rattle.std.specs.Map.{lookup}
use Rattle.nk_base.specs.Text.{text_eq}
use Rattle.nml_tree.specs.Formula.{Formula}
use Rattle.nml_tree.specs.Act.{Term}
use Rattle.nml_tree.specs.Table.{Text, Table, Rule, declared}
use Rattle.nml_tree.specs.Derivation.{Derivation, Arguments, Compose}
use Rattle.nml_tree.specs.Written as written
use Rattle.nml_tree.specs.Written.{Argument, arguments, term, named}
use Rattle.attr_eval.specs.Walks.{WalksAll}
use Rattle.attr_legal.specs.Tally.{together, reads}

-- some fields with these from the number n on
pub fields_before : (n : ℕ) (ys : List ℤ) → (zs : List ℤ) × (drop n zs ≡ ys)
fields_before zero ys = (ys, refl)
fields_before (suc n) ys = let r = fields_before n ys in (pos 0 ∷ r.0, r.1)

pub same_reads : (t : Table) (scope : written.Scope) (look input : ℕ) (f g : Formula) (r : ℕ) → f ≡ g → r ≡ reads look input (term t scope g) → r ≡ reads look input (term t scope f)
same_reads t scope look input f g r is e = e ∙ ap (λ x. reads look input (term t scope x)) (sym is)

pub argument_reads : (t : Table) (scope : written.Scope) (look input : ℕ) (name : Text) (i : Term) (o : Option Argument) (r : ℕ) → lookup (text_eq name) scope ≡ o → r ≡ reads look input (named o (declared t name) i) → r ≡ reads look input (written.reference t scope name i)
argument_reads t scope look input name i o r is e = e ∙ ap (λ x. reads look input (named x (declared t name) i)) (sym is)

pub choose_reads : (a b c m r x y z : ℕ) → r ≡ together a m → m ≡ max b c → a ≡ x → b ≡ y → c ≡ z → r ≡ together x (max y z)
choose_reads a b c m r x y z e f g h k = e ∙ ap (together a) f ∙ ap (λ n. together n (max b c)) g ∙ ap (λ n. together x (max n c)) h ∙ ap (λ n. together x (max y n)) k

pub binary_reads : (a b r x y : ℕ) → r ≡ together a b → a ≡ x → b ≡ y → r ≡ together x y
binary_reads a b r x y e f g = e ∙ ap (λ n. together n b) f ∙ ap (together x) g

-- a mode's value
pub none_reads : (t : Table) (scope : written.Scope) (look input : ℕ) (o : Option Formula) → o ≡ None → 0 ≡ reads look input (written.value_of t scope o)
none_reads t scope look input o is = rw is refl

pub some_reads : (t : Table) (scope : written.Scope) (look input : ℕ) (o : Option Formula) (f : Formula) (r : ℕ) → o ≡ Some f → r ≡ reads look input (term t scope f) → r ≡ reads look input (written.value_of t scope o)
some_reads t scope look input o f r is e = e ∙ ap (λ x. reads look input (written.value_of t scope x)) (sym is)

pub whole_reads : (t : Table) (rule : Rule) (n j : ℕ) (d : Derivation) (ps : List ℕ) (fs : List ℤ) (ks : List ℕ) (ys : List ℤ) (look input r : ℕ) → (a : (args : Arguments) × (d ≡ Compose rule args) × WalksAll t rule.pars n args ps fs ks ys)
    → r ≡ reads look input (written.value_of t (arguments t j a.0) rule.value) → r ≡ reads look input (written.written t j d).value
whole_reads t rule n j d ps fs ks ys look input r a e = e ∙ ap (λ x. reads look input (written.written t j x).value) (sym a.1)
