use Rattle.std.proofs.Common.{map, drop}
use Rattle.c_tree.specs.Formula.{formula, further}
use Rattle.c_tree.specs.Resolve.{terms}
use Rattle.c_names.specs.Shown.{names}
use Rattle.c_flat.specs.declared.chain.Chain.TheVariants as chain
use Rattle.c_flat.specs.Written.{OfTerms}
use Rattle.c_flat.specs.Listing.{Listed}
use Rattle.c_flat.proofs.expression.+expressions.Given as goal

abbrev pub invariant-push_further-loop-one : goal.invariant-push_further-loop-one
invariant-push_further-loop-one l =
    Listed chain.Arguments l.fn.nodes.items l.nodes.items l.numbers.items (OfTerms (terms (names l.scopes) (further (map (λ (comma, y). (comma, formula y)) (drop l.one-index l.rest))))) (OfTerms (terms (names l.scopes) (further (map (λ (comma, y). (comma, formula y)) l.rest))))
