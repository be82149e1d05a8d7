-- Further arguments, read one after the other.
use Rattle.std.proofs.Common.{ℕ, List, [], ◌∷◌, ◌++◌, Some, None, ◌≡◌, refl, sym, ◌∙◌, ap, subst, max, arith, codes, length, ◌≤◌}
use Rattle.readings.specs.Symbol.{Symbol}
use Rattle.readings.specs.Reading.{Read, Found, Stuck, Unread, read_on, behind}
use Rattle.readings.specs.Readings.{Reading}
use Rattle.readings.specs.declared.sign.Sign.{Sign}
use Rattle.readings.specs.declared.stop.Stop.{Stop}
use Rattle.readings.specs.declared.stop.Stop.TheVariants as stops
use Rattle.readings.specs.Seen.{Comes, Fails}
use Rattle.readings.proofs.Saying.{at_once, one_more}
use Rattle.c_tree.specs.declared.expression.Expr.{Expr}
use Rattle.c_tree.specs.Formula.{Formula, Further, NoMore, More, formula}
use Rattle.c_tree.specs.Formula as plain
use Rattle.c_tree.specs.Depth.{depth, further_depth}
use Rattle.c_grammar.specs.Reading.{climb, further, others_from}
use Rattle.c_expression.specs.Seen.{expression_of, formulas, others_of}

-- these arguments before others
abbrev pub before : List (ℕ × Formula) → Further → Further
before [] xs = xs
before ((comma, x) ∷ ys) xs = More comma x (before ys xs)

-- what the reading comes to with these put before those that it finds
abbrev pub with_others : List (ℕ × Formula) → Read Further → Read Further
with_others found a = read_on a (λ xs s. Found (before found xs) s)

-- further arguments that are at most so deep
abbrev pub others_read : ℕ → Reading Further
others_read room n s = further n room s

-- whatever the rest comes to, the whole comes to, with the arguments found so far put before
pub record Gathers (room : ℕ) (ss : List Symbol) (found : List (ℕ × Expr)) (rest : List Symbol) : Type 0 where
  pub goes : (a : Read Further) → Comes (others_read room) rest a → Comes (others_read room) ss (with_others (formulas found) a)

-- at the start
start : (room : ℕ) (ss : List Symbol) (a : Read Further) → Comes (others_read room) ss a → Comes (others_read room) ss (with_others [] a)
start room ss (Found xs s) h = h
start room ss (Stuck s) h = h
start room ss Unread h = h

pub gathers_first : (room : ℕ) (ss : List Symbol) (found : List (ℕ × Expr)) (rest : List Symbol) → found ≡ [] → rest ≡ ss → Gathers room ss found rest
gathers_first room ss found rest is same = rw (is, same) (record { goes = start room ss })

pub not_longer : (rest ss : List Sign) → rest ≡ ss → length rest ≤ length ss
not_longer rest ss is = omega (arith, ap length is)

-- one argument in front of others
front : (room : ℕ) (ss : List Symbol) (at : ℕ) (rest : List Symbol) (x : Formula) (s : List Symbol) (a : Read Further) → behind (codes ",") ss ≡ Some (at, rest)
    → Comes (expression_of room) rest (Found x s) → Comes (others_read room) s a → Comes (others_read room) ss (with_others ((at, x) ∷ []) a)
front room ss at rest x s a e h k =
    one_more (others_read room) ss (with_others ((at, x) ∷ []) a)
    (record {
      calls = max h.calls k.calls;
      is = λ n le. ap (others_from (climb n) (further n) room ss) e
          ∙ ap (λ b. read_on b (λ y u. read_on (further n room u) (λ xs t. Found (More at y xs) t))) (h.is n (omega (arith, le)))
          ∙ ap (λ b. read_on b (λ xs t. Found (More at x xs) t)) (k.is n (omega (arith, le)));
    })

-- one more at the end
before_more : (found : List (ℕ × Formula)) (y : ℕ × Formula) (xs : Further) → before found (before (y ∷ []) xs) ≡ before (found ++ y ∷ []) xs
before_more [] y xs = refl
before_more ((comma, x) ∷ ys) y xs = ap (More comma x) (before_more ys y xs)

joined : (found : List (ℕ × Formula)) (y : ℕ × Formula) (a : Read Further) → with_others found (with_others (y ∷ []) a) ≡ with_others (found ++ y ∷ []) a
joined found y (Found xs s) = ap (λ zs. Found zs s) (before_more found y xs)
joined found y (Stuck s) = refl
joined found y Unread = refl

-- the formulas of one more
formulas_more : (found : List (ℕ × Expr)) (at : ℕ) (x : Expr) → formulas (found ++ (at, x) ∷ []) ≡ formulas found ++ (at, formula x) ∷ []
formulas_more [] at x = refl
formulas_more (y ∷ ys) at x = ap (λ zs. (y.0, formula y.1) ∷ zs) (formulas_more ys at x)

-- one argument more
pub gathers_step : (room : ℕ) (ss : List Symbol) (found others : List (ℕ × Expr)) (here : List Symbol) (at : ℕ) (rest : List Symbol) (x : Expr) (s : List Symbol)
    → others ≡ found ++ (at, x) ∷ [] → Gathers room ss found here → behind (codes ",") here ≡ Some (at, rest) → Comes (expression_of room) rest (Found (formula x) s)
    → Gathers room ss others s
gathers_step room ss found others here at rest x s is g e h =
    record {
      goes = λ a k. subst (λ zs. Comes (others_read room) ss (with_others zs a)) (sym (ap formulas is ∙ formulas_more found at x))
          (subst (Comes (others_read room) ss) (joined (formulas found) (at, formula x) a)
          (g.goes (with_others ((at, formula x) ∷ []) a) (front room here at rest (formula x) s a e h k)));
    }

-- before none
before_none : (found : List (ℕ × Formula)) → before found NoMore ≡ plain.further found
before_none [] = refl
before_none ((comma, x) ∷ ys) = ap (More comma x) (before_none ys)

-- no comma is next
pub gathers_end : (room : ℕ) (ss : List Symbol) (found : List (ℕ × Expr)) (here : List Symbol) → Gathers room ss found here → behind (codes ",") here ≡ None
    → Comes (others_read room) ss (Found (others_of found) here)
gathers_end room ss found here g e =
    subst (λ xs. Comes (others_read room) ss (Found xs here)) (before_none (formulas found))
    (g.goes (Found NoMore here) (one_more (others_read room) here (Found NoMore here) (at_once (λ n. ap (others_from (climb n) (further n) room here) e))))

-- the next argument stops
pub gathers_fails : (stop : Stop) (room : ℕ) (ss : List Symbol) (found : List (ℕ × Expr)) (here : List Symbol) (at : ℕ) (rest : List Symbol) → Gathers room ss found here
    → behind (codes ",") here ≡ Some (at, rest) → Fails stop (expression_of room) rest → Fails stop (others_read room) ss
gathers_fails (stops.Stuck left) room ss found here at rest g e (r, is, h) = (
  r,
  is,
  g.goes (Stuck r) (one_more (others_read room) here (Stuck r) (record {
    calls = h.calls;
    is = λ n le. ap (others_from (climb n) (further n) room here) e
        ∙ ap (λ b. read_on b (λ y u. read_on (further n room u) (λ xs t. Found (More at y xs) t))) (h.is n le);
  })),
)
gathers_fails stops.Memory room ss found here at rest g e t = tt

-- the depth of one more
formulas_depth : (found : List (ℕ × Formula)) (at : ℕ) (x : Formula) → further_depth (plain.further (found ++ (at, x) ∷ [])) ≡ max (further_depth (plain.further found)) (depth x)
formulas_depth [] at x = omega arith
formulas_depth ((comma, y) ∷ ys) at x = omega (arith, formulas_depth ys at x)

pub others_depth : (found others : List (ℕ × Expr)) (at : ℕ) (x : Expr) (d b m : ℕ) → others ≡ found ++ (at, x) ∷ [] → further_depth (others_of found) ≡ d
    → depth (formula x) ≡ b → m ≡ max d b → further_depth (others_of others) ≡ m
others_depth found others at x d b m is od xb mk =
    ap others_depth_of is ∙ ap (λ zs. further_depth (plain.further zs)) (formulas_more found at x) ∙ formulas_depth (formulas found) at (formula x) ∙ omega (arith, od, xb, mk)
  where
    others_depth_of : List (ℕ × Expr) → ℕ
    others_depth_of xs = further_depth (others_of xs)
