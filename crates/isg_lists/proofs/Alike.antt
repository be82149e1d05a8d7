-- Lines are the same where their first tokens and counts are.
use Rattle.std.proofs.Common.{ℕ, ◌≡◌, refl, ◌∙◌, ap, ◌==◌, ◌&&◌, Option}
use Rattle.std.specs.Global.{Vec}
use Rattle.indexmap.specs.IndexMap.{IndexMap, get}
use Rattle.isg_lists.specs.Numbers.{listed, list_at}
use Rattle.isg_lists.specs.declared.lines.First.{First}
use Rattle.isg_lists.specs.declared.lines.First.TheVariants as first
use Rattle.isg_lists.specs.declared.lines.Line.{Line}
use Rattle.isg_lists.specs.contracts.lines.LinePartialEq.TheImpl as derived
use Rattle.isg_lists.specs.Lines.{same_first, same_line}

parts : (f g : First) (m n : ℕ) → derived.ghosts.eq (record { first = f; count = m }) (record { first = g; count = n }) ≡ same_first f g && (m == n)
parts (first.Word a) (first.Word b) m n = refl
parts (first.Word a) first.Number m n = refl
parts (first.Word a) (first.Mark b) m n = refl
parts first.Number (first.Word b) m n = refl
parts first.Number first.Number m n = refl
parts first.Number (first.Mark b) m n = refl
parts (first.Mark a) (first.Word b) m n = refl
parts (first.Mark a) first.Number m n = refl
parts (first.Mark a) (first.Mark b) m n = refl

pub line_same : (a b : Line) → derived.ghosts.eq a b ≡ same_line a b
line_same a b = parts a.first b.first a.count b.count

-- the test that the map makes is the test of the definitions
pub same_lines : derived.ghosts.eq ≡ same_line
same_lines = λ i a b. line_same a b i

pub kept_list : {S : Type 0} (m : IndexMap Line (Vec ℕ) S) (line : Line) (o : Option (Vec ℕ)) → o ≡ get derived.ghosts.eq m line → listed o ≡ list_at same_line m line
kept_list m line o is = ap listed is ∙ ap (λ f. list_at f m line) same_lines
