-- More calls below one another change nothing that was read of statements.
use Rattle.std.proofs.Common.{ℕ, zero, suc, ◌-◌, ◌≤◌, List, Option, Some, None, refl, arith}
use Rattle.std.specs.Prelude.{codes}
use Rattle.nml_tree.specs.declared.names.Name.{Name}
use Rattle.readings.specs.Symbol.{Symbol}
use Rattle.nml_tree.specs.Formula.{Formula}
use Rattle.nml_tree.specs.Block.{Block, Index}
use Rattle.readings.specs.Reading.{behind, mark}
use Rattle.nml_grammar.specs.Reading.{Reader, climb}
use Rattle.nml_grammar.specs.ReadingStatements.{Start, Naming, Halting, Branching, start, Blocks, assignment, place, naming, halting, branch_end, branching, statement, block_from, statements}
use Rattle.readings.proofs.Keeps.{Keeps, Same, Short, same_after, after_keeps, room_keeps}
use Rattle.nml_grammar.proofs.Keeps.{climb_more}

-- ---- a statement
module _ (f g : Reader) (h : (k room : ℕ) (ss : List Symbol) → Keeps (f k room ss) (g k room ss)) (a b : Blocks) (i : (room : ℕ) (ss : List Symbol) → Keeps (a room ss) (b room ss)) where
  assignment_keeps : (room : ℕ) (n : Name) (x : Index) (ss : List Symbol) → Keeps (assignment f room n x ss) (assignment g room n x ss)
  assignment_keeps room n x ss =
      room_keeps room ss _ _
      (same_after (mark (codes "=") ss) _ _ _ refl (λ at s1. after_keeps (f 0 (room - 1) s1) (g 0 (room - 1) s1) _ _ (h 0 (room - 1) s1) (λ e s2. Same refl)))

  place_keeps : (room : ℕ) (n : Name) (ss : List Symbol) (o : Option (ℕ × List Symbol)) → Keeps (place f room n ss o) (place g room n ss o)
  place_keeps room n ss None = assignment_keeps room n None ss
  place_keeps room n ss (Some (p, rest)) =
      room_keeps (room - 1) ss _ _
      (after_keeps (f 0 (room - 1 - 1) rest) (g 0 (room - 1 - 1) rest) _ _ (h 0 (room - 1 - 1) rest)
      (λ x s1. same_after (mark (codes "]") s1) _ _ _ refl (λ q s2. assignment_keeps room n (Some (p, x, q)) s2)))

  naming_keeps : (room : ℕ) (n : Name) (ss : List Symbol) (o : Option (ℕ × List Symbol)) → Keeps (naming f room n ss o) (naming g room n ss o)
  naming_keeps room n ss None = place_keeps room n ss (behind (codes "[") ss)
  naming_keeps room n ss (Some (dot, rest)) = Same refl

  halting_keeps : (room at : ℕ) (ss : List Symbol) → Keeps (halting f room at ss) (halting g room at ss)
  halting_keeps room at ss =
      same_after (mark (codes "(") ss) _ _ _ refl (λ p s1. after_keeps (f 0 (room - 1) s1) (g 0 (room - 1) s1) _ _ (h 0 (room - 1) s1) (λ e s2. Same refl))

  branch_end_keeps : (room at : ℕ) (c : Formula) (t : ℕ) (xs : Block) (ss : List Symbol) (o : Option (ℕ × List Symbol)) → Keeps (branch_end a room at c t xs ss o) (branch_end b room at c t xs ss o)
  branch_end_keeps room at c t xs ss None = Same refl
  branch_end_keeps room at c t xs ss (Some (f, rest)) = after_keeps (a (room - 1) rest) (b (room - 1) rest) _ _ (i (room - 1) rest) (λ ys s1. Same refl)

  branching_keeps : (room at : ℕ) (ss : List Symbol) → Keeps (branching f a room at ss) (branching g b room at ss)
  branching_keeps room at ss =
      after_keeps (f 0 (room - 1) ss) (g 0 (room - 1) ss) _ _ (h 0 (room - 1) ss) (λ c s1. same_after (mark (codes "then") s1) _ _ _ refl
      (λ t s2. after_keeps (a (room - 1) s2) (b (room - 1) s2) _ _ (i (room - 1) s2) (λ xs s3. branch_end_keeps room at c t xs s3 (behind (codes "else") s3))))

  statement_keeps : (room : ℕ) (here : List Symbol) (x : Start) (ss : List Symbol) → Keeps (statement f a room here x ss) (statement g b room here x ss)
  statement_keeps room here (Naming n) ss = naming_keeps room n ss (behind (codes ".") ss)
  statement_keeps room here (Halting at) ss = room_keeps room here _ _ (halting_keeps room at ss)
  statement_keeps room here (Branching at) ss = room_keeps room here _ _ (branching_keeps room at ss)

  pub block_keeps : (room : ℕ) (here : List Symbol) (o : Option (Start × List Symbol)) → Keeps (block_from f a room here o) (block_from g b room here o)
  block_keeps room here None = Same refl
  block_keeps room here (Some (x, ss)) =
      after_keeps (statement f a room here x ss) (statement g b room here x ss) _ _ (statement_keeps room here x ss)
      (λ put s. after_keeps (a room s) (b room s) _ _ (i room s) (λ z rest. Same refl))

-- ---- statements
pub statements_more : (n m room : ℕ) (ss : List Symbol) → n ≤ m → Keeps (statements n room ss) (statements m room ss)
statements_more zero m room ss le = Short refl
statements_more (suc n) zero room ss le = absurd (omega arith)
statements_more (suc n) (suc m) room ss le =
    block_keeps (climb n) (climb m) (λ k room ss. climb_more n m k room ss (omega arith)) (statements n) (statements m) (λ room ss. statements_more n m room ss (omega arith)) room ss (start ss)
