-- The terms of expressions, over those of their parts.
use Rattle.std.proofs.Common.{◌≡◌, ℕ, ◌<◌, ◌≤◌, ◌+◌, List, length, map, drop, get_or, ap, sym}
use Rattle.c_tree.specs.declared.expression.Expr.{Expr}
use Rattle.c_tree.specs.Formula.{formula, further}
use Rattle.c_tree.specs.Names.{Names}
use Rattle.c_tree.specs.Program.{NoMore}
use Rattle.c_tree.specs.Resolve.{term, terms}
use Rattle.c_flat.specs.declared.chain.Chain.TheVariants as chain
use Rattle.c_flat.specs.Written.{OfTerm, OfTerms}
use Rattle.c_flat.specs.Listing.{link}
use Rattle.c_flat.proofs.Chained.{drop_step, drop_end}

pub further_step : (s : Names) (rest : List (ℕ × Expr)) (i : ℕ) (x : ℕ × Expr) → i < length rest → x ≡ get_or rest i x → link chain.Arguments (OfTerm (term s (formula x.1))) (OfTerms (terms s (further (map (λ (comma, y). (comma, formula y)) (drop (i + 1) rest))))) ≡ OfTerms (terms s (further (map (λ (comma, y). (comma, formula y)) (drop i rest))))
further_step s rest i x lt is = ap (λ ys. OfTerms (terms s (further (map (λ (comma, y). (comma, formula y)) ys)))) (sym (drop_step rest i x lt is))

pub further_end : (s : Names) (rest : List (ℕ × Expr)) (i : ℕ) → length rest ≤ i → OfTerms (terms s (further (map (λ (comma, y). (comma, formula y)) (drop i rest)))) ≡ OfTerms NoMore
further_end s rest i h = ap (λ ys. OfTerms (terms s (further (map (λ (comma, y). (comma, formula y)) ys)))) (drop_end rest i h)
