-- What names mean behind statements: the cells of all that stands in them are taken, and nothing else is changed.
use Rattle.std.proofs.Common.{◌≡◌, ℕ, ◌+◌, refl, ap, sym, ◌∙◌, arith, List, [], ◌∷◌, ◌++◌, map, Option, Some, None}
use Rattle.c_tree.specs.declared.program.Param.{Param}
use Rattle.c_tree.specs.Formula.{Formula}
use Rattle.c_tree.specs.Statement.{Act, Variable, Opening, Acts, Declares, Statement, Braces, For, Body, Nothing, Declare, Then}
use Rattle.c_tree.specs.Program.{Shape, size, sizes}
use Rattle.c_tree.specs.Names.{Names, inner, shape, declared_variables, behind_variable, behind_variables, behind_opening, behind_statement, behind_parameters, opening_shapes, statement_shapes, body_shapes}
use Rattle.c_names.specs.Shown.{outside}
use Rattle.c_walk.specs.Walk.{behind_body}

pub sizes-append : (vs us : List Shape) → sizes (vs ++ us) ≡ sizes vs + sizes us
sizes-append [] us = omega arith
sizes-append (v ∷ vs) us = let e = sizes-append vs us in omega (arith, e)

-- so many cells more
abbrev taken : Names → ℕ → Names
taken s k = record s { next = s.next + k }

-- what is kept while a block goes on: all but the block itself and the next cell
pub record Kept (s u : Names) (k : ℕ) : Type 0 where
  pub outer : u.outer ≡ s.outer
  pub functions : u.functions ≡ s.functions
  pub next : u.next ≡ s.next + k

kept_by : (s u v : Names) (k l m : ℕ) → Kept s u k → Kept u v l → k + l ≡ m → Kept s v m
kept_by s u v k l m a b is = let c = a.next in let d = b.next in record {
  outer = b.outer ∙ a.outer;
  functions = b.functions ∙ a.functions;
  next = omega (arith, c, d, is);
}

kept_all : (s : Names) (vs : List Variable) → Kept s (behind_variables s vs) (sizes (map shape vs))
kept_all s [] = record { outer = refl; functions = refl; next = omega arith }
kept_all s (v ∷ vs) =
    kept_by s (behind_variable s v) (behind_variables (behind_variable s v) vs) (size (shape v)) (sizes (map shape vs)) (size (shape v) + sizes (map shape vs)) (record { outer = refl; functions = refl; next = refl }) (kept_all (behind_variable s v) vs) refl

pub kept_body : (s : Names) (b : Body) → Kept s (behind_body s b) (sizes (body_shapes b))
kept_body s Nothing = record { outer = refl; functions = refl; next = omega arith }
kept_body s (Declare d rest) =
    kept_by s (behind_variables s (declared_variables d)) (behind_body (behind_variables s (declared_variables d)) rest) _ _ _ (kept_all s (declared_variables d)) (kept_body (behind_variables s (declared_variables d)) rest) (sym (sizes-append (map shape (declared_variables d)) (body_shapes rest)))
kept_body s (Then x rest) =
    kept_by s (behind_statement s x) (behind_body (behind_statement s x) rest) _ _ _ (record { outer = refl; functions = refl; next = refl }) (kept_body (behind_statement s x) rest) (sym (sizes-append (statement_shapes x) (body_shapes rest)))

pub behind_braces : (s : Names) (p : ℕ) (b : Body) (q : ℕ) → outside (behind_body (inner s) b) ≡ behind_statement s (Braces p b q)
behind_braces s p b q = let k = kept_body (inner s) b in rw (k.outer, k.functions, k.next) refl

pub behind_none : (s : Names) → s ≡ taken s 0
behind_none s = let e : s.next ≡ s.next + 0 = omega arith in ap (λ n. record s { next = n }) e

pub behind_both : (s : Names) (vs us : List Shape) → taken (taken s (sizes vs)) (sizes us) ≡ taken s (sizes (vs ++ us))
behind_both s vs us = let a = sizes-append vs us in let e : s.next + sizes vs + sizes us ≡ s.next + sizes (vs ++ us) = omega (arith, a) in ap (λ n. record s { next = n }) e

kept_opening : (s : Names) (first : Option Opening) → Kept (inner s) (behind_opening s first) (sizes (opening_shapes first))
kept_opening s None = record { outer = refl; functions = refl; next = omega arith }
kept_opening s (Some (Acts a)) = record { outer = refl; functions = refl; next = omega arith }
kept_opening s (Some (Declares w v)) = record { outer = refl; functions = refl; next = omega arith }

pub behind_for : (s : Names) (at p : ℕ) (first : Option Opening) (a : ℕ) (c : Option Formula) (b : ℕ) (step : Option Act) (q : ℕ) (x : Statement) → outside (behind_statement (behind_opening s first) x) ≡ behind_statement s (For at p first a c b step q x)
behind_for s at p first a c b step q x =
    let k = kept_opening s first in
    let l : Kept (inner s) (behind_statement (behind_opening s first) x) (sizes (opening_shapes first ++ statement_shapes x)) =
    kept_by (inner s) (behind_opening s first) (behind_statement (behind_opening s first) x) _ _ _ k (record { outer = refl; functions = refl; next = refl }) (sym (sizes-append (opening_shapes first) (statement_shapes x))) in
    rw (l.outer, l.functions, l.next) refl

kept_parameters : (s : Names) (ps : List Param) → Kept s (behind_parameters s ps) (sizes (map (λ p. None) ps))
kept_parameters s [] = record { outer = refl; functions = refl; next = omega arith }
kept_parameters s (p ∷ ps) =
    kept_by s (behind_parameters s (p ∷ [])) (behind_parameters (behind_parameters s (p ∷ [])) ps) 1 (sizes (map (λ p. None) ps)) (1 + sizes (map (λ p. None) ps)) (record { outer = refl; functions = refl; next = refl }) (kept_parameters (behind_parameters s (p ∷ [])) ps) refl

-- behind a function's body, with the cells that were free before it
pub behind_function : (s : Names) (ps : List Param) (b : Body) → record (outside (behind_body (behind_parameters (record (inner s) { next = 0 }) ps) b)) { next = s.next } ≡ s
behind_function s ps b =
    let k = kept_parameters (record (inner s) { next = 0 }) ps in
    let l = kept_body (behind_parameters (record (inner s) { next = 0 }) ps) b in
    rw (l.outer, k.outer, l.functions, k.functions) refl

pub ruleset behind_laws = (behind_none, behind_both, behind_braces, behind_for)
