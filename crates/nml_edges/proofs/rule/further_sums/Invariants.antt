use Rattle.std.proofs.Common.{◌≡◌, List, ℕ, drop, map}
use Rattle.std.specs.Map.{lookup}
use Rattle.nk_base.specs.Text.{text_eq}
use Rattle.nml_edges.specs.Passed.{par_sums}
use Rattle.nml_edges.proofs.rule.further_sums.Given as goal

abbrev pub invariant-loop-i : goal.invariant-loop-i
invariant-loop-i l = (name : List ℕ) → lookup (text_eq name) l.sums.entries ≡ lookup (text_eq name) (par_sums l.names l.facts (map (λ (comma, p). p) (drop l.i l.rest)))
