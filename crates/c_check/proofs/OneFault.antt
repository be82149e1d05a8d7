-- A program has one fault at most, want of memory apart, and an accepted program has none.
use Rattle.std.proofs.Common.{ℕ, ◌≡◌, refl, sym, ◌∙◌, ap, subst, arith, List, [], length, Some, inl, inr, flat_map}
use Rattle.std.specs.Prelude.{slice_get}
use Rattle.c_tree.specs.declared.fault.CFault.{CFault}
use Rattle.c_tree.specs.declared.fault.CFault.TheVariants as fault
use Rattle.c_tree.specs.Items.{Item}
use Rattle.c_tree.specs.Names.{functions_in, parameters}
use Rattle.c_tree.specs.Faults.{name_place, kind_place, number_place, shift_place, faults, bad_names, bad_kinds, bad_numbers, bad_shifts}
use Rattle.c_tree.specs.Recursion.{Among, others, IsFirstRecursive}
use Rattle.c_tree.specs.Accepted.{IsLeast, IsAccepted, IsFaultOf}

least_none : (xs : List ℕ) (a : ℕ) → xs ≡ [] → IsLeast xs a → ⊥
least_none xs a is h = subst (λ ys. Among ys a) is h.0

least_one : (xs : List ℕ) (a b : ℕ) → IsLeast xs a → IsLeast xs b → a ≡ b
least_one xs a b h k = let x = h.1 b k.0 in let y = k.1 a h.0 in omega (arith, x, y)

bad_names_none : (gs : List Item) (n : ℕ) → faults gs n ≡ [] → bad_names gs n ≡ []
bad_names_none gs n is = ap (flat_map name_place) is

bad_kinds_none : (gs : List Item) (n : ℕ) → faults gs n ≡ [] → bad_kinds gs n ≡ []
bad_kinds_none gs n is = ap (flat_map kind_place) is

bad_numbers_none : (gs : List Item) (n : ℕ) → faults gs n ≡ [] → bad_numbers gs n ≡ []
bad_numbers_none gs n is = ap (flat_map number_place) is

bad_shifts_none : (gs : List Item) (n : ℕ) → faults gs n ≡ [] → bad_shifts gs n ≡ []
bad_shifts_none gs n is = ap (flat_map shift_place) is

recursive_one : (gs : List Item) (a b : List ℕ) → IsFirstRecursive gs a → IsFirstRecursive gs b → a ≡ b
recursive_one gs a b h k =
    let x = h.first k.number k.recursive in
    let y = k.first h.number h.recursive in
    let same : h.number ≡ k.number = omega (arith, x, y) in
    let found : Some h.function ≡ Some k.function = sym h.is ∙ ap (slice_get (others (functions_in gs))) same ∙ k.is in
    let one : h.function ≡ k.function = cc in
    sym h.named ∙ ap (λ f. f.name.text) one ∙ k.named

pub one_fault : (gs : List Item) (n : ℕ) (f g : CFault) → IsFaultOf gs n f → IsFaultOf gs n g → (f ≡ fault.Memory → ⊥) → (g ≡ fault.Memory → ⊥) → f ≡ g
one_fault gs n (fault.Lex at) g h k x y = absurd h
one_fault gs n (fault.Syntax at) g h k x y = absurd h
one_fault gs n (fault.Outside at) g h k x y = absurd h
one_fault gs n fault.Memory g h k x y = absurd (x refl)
one_fault gs n (fault.Name a) (fault.Lex at) h k x y = absurd k
one_fault gs n (fault.Name a) (fault.Syntax at) h k x y = absurd k
one_fault gs n (fault.Name a) (fault.Outside at) h k x y = absurd k
one_fault gs n (fault.Name a) fault.Memory h k x y = absurd (y refl)
one_fault gs n (fault.Name a) (fault.Name b) h k x y = ap fault.Name (least_one (bad_names gs n) a b h k)
one_fault gs n (fault.Name a) (fault.Kind b) h k x y = absurd (least_none (bad_names gs n) a k.0 h)
one_fault gs n (fault.Name a) (fault.Literal b) h k x y = absurd (least_none (bad_names gs n) a k.0 h)
one_fault gs n (fault.Name a) (fault.Shift b) h k x y = absurd (least_none (bad_names gs n) a k.0 h)
one_fault gs n (fault.Name a) (fault.Recursion b) h k x y = absurd (least_none (bad_names gs n) a (bad_names_none gs n k.0) h)
one_fault gs n (fault.Name a) fault.Main h k x y = absurd (least_none (bad_names gs n) a (bad_names_none gs n k.0) h)
one_fault gs n (fault.Kind a) (fault.Lex at) h k x y = absurd k
one_fault gs n (fault.Kind a) (fault.Syntax at) h k x y = absurd k
one_fault gs n (fault.Kind a) (fault.Outside at) h k x y = absurd k
one_fault gs n (fault.Kind a) fault.Memory h k x y = absurd (y refl)
one_fault gs n (fault.Kind a) (fault.Name b) h k x y = absurd (least_none (bad_names gs n) b h.0 k)
one_fault gs n (fault.Kind a) (fault.Kind b) h k x y = ap fault.Kind (least_one (bad_kinds gs n) a b (h.1) k.1)
one_fault gs n (fault.Kind a) (fault.Literal b) h k x y = absurd (least_none (bad_kinds gs n) a k.1 h.1)
one_fault gs n (fault.Kind a) (fault.Shift b) h k x y = absurd (least_none (bad_kinds gs n) a k.1 h.1)
one_fault gs n (fault.Kind a) (fault.Recursion b) h k x y = absurd (least_none (bad_kinds gs n) a (bad_kinds_none gs n k.0) h.1)
one_fault gs n (fault.Kind a) fault.Main h k x y = absurd (least_none (bad_kinds gs n) a (bad_kinds_none gs n k.0) h.1)
one_fault gs n (fault.Literal a) (fault.Lex at) h k x y = absurd k
one_fault gs n (fault.Literal a) (fault.Syntax at) h k x y = absurd k
one_fault gs n (fault.Literal a) (fault.Outside at) h k x y = absurd k
one_fault gs n (fault.Literal a) fault.Memory h k x y = absurd (y refl)
one_fault gs n (fault.Literal a) (fault.Name b) h k x y = absurd (least_none (bad_names gs n) b h.0 k)
one_fault gs n (fault.Literal a) (fault.Kind b) h k x y = absurd (least_none (bad_kinds gs n) b h.1 k.1)
one_fault gs n (fault.Literal a) (fault.Literal b) h k x y = ap fault.Literal (least_one (bad_numbers gs n) a b (h.2) k.2)
one_fault gs n (fault.Literal a) (fault.Shift b) h k x y = absurd (least_none (bad_numbers gs n) a k.2 h.2)
one_fault gs n (fault.Literal a) (fault.Recursion b) h k x y = absurd (least_none (bad_numbers gs n) a (bad_numbers_none gs n k.0) h.2)
one_fault gs n (fault.Literal a) fault.Main h k x y = absurd (least_none (bad_numbers gs n) a (bad_numbers_none gs n k.0) h.2)
one_fault gs n (fault.Shift a) (fault.Lex at) h k x y = absurd k
one_fault gs n (fault.Shift a) (fault.Syntax at) h k x y = absurd k
one_fault gs n (fault.Shift a) (fault.Outside at) h k x y = absurd k
one_fault gs n (fault.Shift a) fault.Memory h k x y = absurd (y refl)
one_fault gs n (fault.Shift a) (fault.Name b) h k x y = absurd (least_none (bad_names gs n) b h.0 k)
one_fault gs n (fault.Shift a) (fault.Kind b) h k x y = absurd (least_none (bad_kinds gs n) b h.1 k.1)
one_fault gs n (fault.Shift a) (fault.Literal b) h k x y = absurd (least_none (bad_numbers gs n) b h.2 k.2)
one_fault gs n (fault.Shift a) (fault.Shift b) h k x y = ap fault.Shift (least_one (bad_shifts gs n) a b (h.3) k.3)
one_fault gs n (fault.Shift a) (fault.Recursion b) h k x y = absurd (least_none (bad_shifts gs n) a (bad_shifts_none gs n k.0) h.3)
one_fault gs n (fault.Shift a) fault.Main h k x y = absurd (least_none (bad_shifts gs n) a (bad_shifts_none gs n k.0) h.3)
one_fault gs n (fault.Recursion a) (fault.Lex at) h k x y = absurd k
one_fault gs n (fault.Recursion a) (fault.Syntax at) h k x y = absurd k
one_fault gs n (fault.Recursion a) (fault.Outside at) h k x y = absurd k
one_fault gs n (fault.Recursion a) fault.Memory h k x y = absurd (y refl)
one_fault gs n (fault.Recursion a) (fault.Name b) h k x y = absurd (least_none (bad_names gs n) b (bad_names_none gs n h.0) k)
one_fault gs n (fault.Recursion a) (fault.Kind b) h k x y = absurd (least_none (bad_kinds gs n) b (bad_kinds_none gs n h.0) k.1)
one_fault gs n (fault.Recursion a) (fault.Literal b) h k x y = absurd (least_none (bad_numbers gs n) b (bad_numbers_none gs n h.0) k.2)
one_fault gs n (fault.Recursion a) (fault.Shift b) h k x y = absurd (least_none (bad_shifts gs n) b (bad_shifts_none gs n h.0) k.3)
one_fault gs n (fault.Recursion a) (fault.Recursion b) h k x y = ap fault.Recursion (recursive_one gs a b h.1 k.1)
one_fault gs n (fault.Recursion a) fault.Main h k x y = absurd (k.1 h.1.number h.1.recursive)
one_fault gs n fault.Main (fault.Lex at) h k x y = absurd k
one_fault gs n fault.Main (fault.Syntax at) h k x y = absurd k
one_fault gs n fault.Main (fault.Outside at) h k x y = absurd k
one_fault gs n fault.Main fault.Memory h k x y = absurd (y refl)
one_fault gs n fault.Main (fault.Name b) h k x y = absurd (least_none (bad_names gs n) b (bad_names_none gs n h.0) k)
one_fault gs n fault.Main (fault.Kind b) h k x y = absurd (least_none (bad_kinds gs n) b (bad_kinds_none gs n h.0) k.1)
one_fault gs n fault.Main (fault.Literal b) h k x y = absurd (least_none (bad_numbers gs n) b (bad_numbers_none gs n h.0) k.2)
one_fault gs n fault.Main (fault.Shift b) h k x y = absurd (least_none (bad_shifts gs n) b (bad_shifts_none gs n h.0) k.3)
one_fault gs n fault.Main (fault.Recursion b) h k x y = absurd (h.1 k.1.number k.1.recursive)
one_fault gs n fault.Main fault.Main h k x y = refl

pub no_fault : (gs : List Item) (n : ℕ) (f : CFault) → IsAccepted gs n → IsFaultOf gs n f → f ≡ fault.Memory
no_fault gs n (fault.Lex at) m h = absurd h
no_fault gs n (fault.Syntax at) m h = absurd h
no_fault gs n (fault.Outside at) m h = absurd h
no_fault gs n (fault.Name a) m h = absurd (least_none (bad_names gs n) a (bad_names_none gs n m.faultless) h)
no_fault gs n (fault.Kind a) m h = absurd (least_none (bad_kinds gs n) a (bad_kinds_none gs n m.faultless) h.1)
no_fault gs n (fault.Literal a) m h = absurd (least_none (bad_numbers gs n) a (bad_numbers_none gs n m.faultless) h.2)
no_fault gs n (fault.Shift a) m h = absurd (least_none (bad_shifts gs n) a (bad_shifts_none gs n m.faultless) h.3)
no_fault gs n (fault.Recursion a) m h = absurd (m.acyclic h.1.number h.1.recursive)
no_fault gs n fault.Main m h = absurd (elim h.2 [
  | inl none ↦ (let is = m.main.1 in cc)
  | inr taking ↦ (let is = m.main.1 in let zero = m.main.2 in let is' = taking.1 in let some = taking.2 in let same : m.main.0 ≡ taking.0 = cc in let both = subst (λ f. length (parameters f.params) ≡ 0) same zero in omega (arith, both, some))
])
no_fault gs n fault.Memory m h = refl
