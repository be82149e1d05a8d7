-- What is counted of each form of expression, arguments and command, over what is counted of its parts.
use Rattle.std.proofs.Common.{◌≡◌, ℕ, Bool, true, false, refl, arith}
use Rattle.std.specs.Prelude.{◌||◌, None, Some}
use Rattle.ir_core.specs.declared.operator.Arith.{Arith}
use Rattle.ir_core.specs.declared.relation.Rel.{Rel}
use Rattle.c_tree.specs.declared.meaning.Place.{Place}
use Rattle.c_tree.specs.declared.meaning.Place.TheVariants as places
use Rattle.c_tree.specs.Program.{Term, Terms, Command}
use Rattle.c_tree.specs.Program as program
use Rattle.c_tree.specs.Code.{has_call, have_call}
use Rattle.c_counted.specs.Counted.{largest}
use Rattle.c_tally.specs.declared.tally.CommandTally.{CommandTally}
use Rattle.c_tally.specs.Tallied.{term_tally, terms_tally, command_tally}
use Rattle.c_tally.specs.Over.{before, scalar_over, arithmetic_over, compare_over, two_over, more_over, joined, tested, returned_over}

-- the two ways in which what stands left is counted
before_largest : (b valued : Bool) (x : Term) → before b (largest true valued x) (largest false valued x) ≡ largest (false || b) valued x
before_largest true valued x = refl
before_largest false valued x = refl

-- the tally of a command with these numbers
abbrev full : (a b c : ℕ) → CommandTally
full a b c = record { in_main = a; elsewhere = b; calls = c }

-- numbers that are equal, one by one
same_command : (a b c a' b' c' : ℕ) → a ≡ a' → b ≡ b' → c ≡ c' → full a b c ≡ full a' b' c'
same_command a b c a' b' c' p q r = rw (p, q, r) refl

-- a scalar's value
pub scalar_law : (p : Place) → scalar_over p ≡ term_tally (program.Scalar p)
scalar_law (places.Global k) = refl
scalar_law (places.Local k) = refl

-- an operator over two values
pub arithmetic_law : (op : Arith) (x y : Term) → arithmetic_over (term_tally x) (term_tally y) ≡ term_tally (program.Arithmetic op x y)
arithmetic_law op x y = rw (before_largest (has_call y) true x) refl

-- a comparison
pub compare_law : (r : Rel) (x y : Term) → compare_over (term_tally x) (term_tally y) ≡ term_tally (program.Compare r x y)
compare_law r x y = rw (before_largest (has_call y) true x) refl

-- `&&`
pub and_law : (x y : Term) → two_over (term_tally x) (term_tally y) ≡ term_tally (program.AndAlso x y)
and_law x y = rw (before_largest (has_call y) false x) refl

-- `||`
pub or_law : (x y : Term) → two_over (term_tally x) (term_tally y) ≡ term_tally (program.OrElse x y)
or_law x y = rw (before_largest (has_call y) false x) refl

-- an argument, and those behind it
pub more_law : (x : Term) (xs : Terms) → more_over (term_tally x) (terms_tally xs) ≡ terms_tally (program.More x xs)
more_law x xs = rw (before_largest (have_call xs) true x) refl

-- `if` with `else`
pub if_else_law : (e : Term) (x y : Command) → joined (tested (term_tally e)) (joined (command_tally x) (command_tally y)) ≡ command_tally (program.IfElse e x y)
if_else_law e x y = same_command _ _ _ _ _ _ refl refl (omega arith)

-- `do`
pub do_law : (x : Command) (e : Term) → joined (tested (term_tally e)) (command_tally x) ≡ command_tally (program.Do x e)
do_law x e = same_command _ _ _ _ _ _ refl refl (omega arith)

-- `for` without a condition
pub forever_law : (step x : Command) → joined (command_tally x) (command_tally step) ≡ command_tally (program.For None step x)
forever_law step x = same_command _ _ _ _ _ _ (omega arith) (omega arith) (omega arith)

-- `for` with a condition
pub for_law : (e : Term) (step x : Command) → joined (tested (term_tally e)) (joined (command_tally x) (command_tally step)) ≡ command_tally (program.For (Some e) step x)
for_law e step x = same_command _ _ _ _ _ _ refl refl (omega arith)

-- `return` with a value
pub return_law : (e : Term) → returned_over (term_tally e) ≡ command_tally (program.Return (Some e))
return_law e = same_command _ _ _ _ _ _ refl (omega arith) refl
