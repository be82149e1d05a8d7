-- What is counted of each form of expression, arguments and command, over what is counted of its parts.
use Rattle.std.proofs.Common.{◌≡◌, ℕ, ◌+◌, Bool, true, false, refl, ap, arith}
use Rattle.std.specs.Prelude.{◌||◌, None, Some}
use Rattle.ir_core.specs.declared.operator.Arith.{Arith}
use Rattle.ir_core.specs.declared.relation.Rel.{Rel}
use Rattle.c_tree.specs.declared.meaning.Place.{Place}
use Rattle.c_tree.specs.declared.meaning.Place.TheVariants as places
use Rattle.c_tree.specs.Program.{Term, Terms, Command}
use Rattle.c_tree.specs.Program as program
use Rattle.c_tree.specs.Code.{has_call, have_call, cells}
use Rattle.c_count.specs.declared.size.TermSize.{TermSize}
use Rattle.c_count.specs.Sized.{term_size, terms_size, command_size}
use Rattle.c_count.specs.Over.{before, scalar_over, arithmetic_over, compare_over, not_over, and_over, or_over, more_over, joined, as_value, when_holds, when_fails, own}

-- the two ways in which the cells of what stands left are counted
before_cells : (b valued : Bool) (x : Term) → before b (cells true valued x) (cells false valued x) ≡ cells (false || b) valued x
before_cells true valued x = refl
before_cells false valued x = refl

-- the size of an expression with these numbers
abbrev full : Bool → (c d e f g h i : ℕ) → TermSize
full b c d e f g h i = record { call = b; cells = c; tested = d; later_cells = e; later_tested = f; marks = g; marks_when = h; marks_unless = i }

-- numbers that are equal, one by one
same_term : (b : Bool) (c d e f g h i c' d' e' f' g' h' i' : ℕ) → c ≡ c' → d ≡ d' → e ≡ e' → f ≡ f' → g ≡ g' → h ≡ h' → i ≡ i' → full b c d e f g h i ≡ full b c' d' e' f' g' h' i'
same_term b c d e f g h i c' d' e' f' g' h' i' p q r s t u v = rw (p, q, r, s, t, u, v) refl

-- the same of a command
same_command : (a b a' b' : ℕ) → a ≡ a' → b ≡ b' → own a b ≡ own a' b'
same_command a b a' b' p q = rw (p, q) refl

-- a scalar's value
pub scalar_law : (p : Place) → scalar_over p ≡ term_size (program.Scalar p)
scalar_law (places.Global k) = refl
scalar_law (places.Local k) = refl

-- an operator over two values
pub arithmetic_law : (op : Arith) (x y : Term) → arithmetic_over (term_size x) (term_size y) ≡ term_size (program.Arithmetic op x y)
arithmetic_law op x y =
    let front = before_cells (has_call y) true x in
    let whole : before (has_call y) (cells true true x) (cells false true x) + cells false true y ≡ cells (false || has_call y) true x + cells false true y = ap (λ n. n + cells false true y) front in
    same_term _ _ _ _ _ _ _ _ _ _ _ _ _ _ _ whole whole refl refl refl refl refl

-- a comparison
pub compare_law : (r : Rel) (x y : Term) → compare_over (term_size x) (term_size y) ≡ term_size (program.Compare r x y)
compare_law r x y =
    let front = before_cells (has_call y) true x in
    same_term (has_call x || has_call y) _ _ _ _ _ _ _ _ _ _ _ _ _ _ (omega (arith, front)) (omega (arith, front)) (omega arith) (omega arith) refl (omega arith) (omega arith)

-- `!`
pub not_law : (x : Term) → not_over (term_size x) ≡ term_size (program.Not x)
not_law x = same_term (has_call x) _ _ _ _ _ _ _ _ _ _ _ _ _ _ refl (omega arith) refl (omega arith) refl (omega arith) (omega arith)

-- `&&`
pub and_law : (x y : Term) → and_over (term_size x) (term_size y) ≡ term_size (program.AndAlso x y)
and_law x y =
    let front = before_cells (has_call y) false x in
    same_term (has_call x || has_call y) _ _ _ _ _ _ _ _ _ _ _ _ _ _ (omega (arith, front)) (omega (arith, front)) (omega arith) (omega arith) refl (omega arith) (omega arith)

-- `||`
pub or_law : (x y : Term) → or_over (term_size x) (term_size y) ≡ term_size (program.OrElse x y)
or_law x y =
    let front = before_cells (has_call y) false x in
    same_term (has_call x || has_call y) _ _ _ _ _ _ _ _ _ _ _ _ _ _ (omega (arith, front)) (omega (arith, front)) (omega arith) (omega arith) (omega arith) (omega arith) (omega arith)

-- an argument, and those behind it
pub more_law : (x : Term) (xs : Terms) → more_over (term_size x) (terms_size xs) ≡ terms_size (program.More x xs)
more_law x xs = rw (before_cells (have_call xs) true x) refl

-- one command behind another
pub seq_law : (x y : Command) → joined (command_size x) (command_size y) 0 0 ≡ command_size (program.Seq x y)
seq_law x y = same_command _ _ _ _ (omega arith) (omega arith)

-- an assignment to an element
pub store_law : (p : Place) (n : ℕ) (i e : Term) → joined (as_value (term_size i)) (as_value (term_size e)) 1 0 ≡ command_size (program.Store p n i e)
store_law p n i e = same_command _ _ _ _ (omega arith) (omega arith)

-- an assignment to an element that also reads it
pub change_law : (p : Place) (n : ℕ) (i : Term) (op : Arith) (e : Term) → joined (as_value (term_size i)) (as_value (term_size e)) 2 0 ≡ command_size (program.Change p n i op e)
change_law p n i op e = same_command _ _ _ _ (omega arith) (omega arith)

-- `if`
pub if_law : (e : Term) (x : Command) → joined (when_fails (term_size e)) (command_size x) 0 1 ≡ command_size (program.If e x)
if_law e x = same_command _ _ _ _ (omega arith) (omega arith)

-- `if` with `else`
pub if_else_law : (e : Term) (x y : Command) → joined (when_fails (term_size e)) (joined (command_size x) (command_size y) 0 1) 0 1 ≡ command_size (program.IfElse e x y)
if_else_law e x y = same_command _ _ _ _ (omega arith) (omega arith)

-- `while`
pub while_law : (e : Term) (x : Command) → joined (when_fails (term_size e)) (command_size x) 0 2 ≡ command_size (program.While e x)
while_law e x = same_command _ _ _ _ (omega arith) (omega arith)

-- `do`
pub do_law : (x : Command) (e : Term) → joined (command_size x) (when_holds (term_size e)) 0 3 ≡ command_size (program.Do x e)
do_law x e = same_command _ _ _ _ (omega arith) (omega arith)

-- `for` without a condition
pub forever_law : (step x : Command) → joined (own 0 0) (joined (command_size x) (command_size step) 0 2) 0 1 ≡ command_size (program.For None step x)
forever_law step x = same_command _ _ _ _ (omega arith) (omega arith)

-- `for` with a condition
pub for_law : (e : Term) (step x : Command) → joined (when_fails (term_size e)) (joined (command_size x) (command_size step) 0 2) 0 1 ≡ command_size (program.For (Some e) step x)
for_law e step x = same_command _ _ _ _ (omega arith) (omega arith)
