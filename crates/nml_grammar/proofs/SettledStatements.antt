-- Every reading of statements settles too.
use Rattle.std.proofs.Common.{ℕ, zero, suc, ◌-◌, ◌<◌, ◌≤◌, List, [], ◌∷◌, length, Option, Some, None, ◌≡◌, refl, ap, arith}
use Rattle.std.specs.Prelude.{nat_le, codes}
use Rattle.nml_tree.specs.declared.names.Name.{Name}
use Rattle.readings.specs.Symbol.{Symbol}
use Rattle.nml_tree.specs.Formula.{Formula}
use Rattle.nml_tree.specs.Block.{Block, Index}
use Rattle.readings.specs.Reading.{looked_up, behind, mark}
use Rattle.nml_grammar.specs.Reading.{Reader, climb}
use Rattle.nml_grammar.specs.ReadingStatements.{Start, Naming, Halting, Branching, starts, start_of, start, Blocks, part, assignment, place, naming, halting, branch_end, branching, statement, block_from, statements}
use Rattle.readings.proofs.Symbols.{behind_is}
use Rattle.readings.specs.Lawful.{Settles}
use Rattle.nml_grammar.proofs.KeepsStatements.{statements_more}
use Rattle.readings.proofs.Ending.{Ends, ends_more, told_of, after_ends, if_ends, mark_ends, kept_told}
use Rattle.nml_grammar.proofs.Settled.{climb_ends}

-- ---- one statement
module _ (m : ℕ) (inner : Reader) (inner_ends : (k room : ℕ) (ss : List Symbol) → length ss < m → Ends m (inner k room ss)) (blocks : Blocks)
    (blocks_ends : (room : ℕ) (ss : List Symbol) → length ss < m → Ends m (blocks room ss))
  where
    part_ends : (n : Name) (dot : ℕ) (ss : List Symbol) → length ss < m → Ends m (part n dot ss)
    part_ends n dot ss lt =
        after_ends m (mark (codes "action") ss) _ (mark_ends m (codes "action") ss lt) (λ at s1 l1. after_ends m (mark (codes ";") s1) _ (mark_ends m (codes ";") s1 l1) (λ semicolon s2 l2. l2))

    assignment_ends : (room : ℕ) (n : Name) (i : Index) (ss : List Symbol) → length ss < m → Ends m (assignment inner room n i ss)
    assignment_ends room n i ss lt =
        if_ends m (nat_le room 1) ss _
        (after_ends m (mark (codes "=") ss) _ (mark_ends m (codes "=") ss lt) (λ at s1 l1. after_ends m (inner 0 (room - 1) s1) _ (inner_ends 0 (room - 1) s1 l1)
        (λ e s2 l2. after_ends m (mark (codes ";") s2) _ (mark_ends m (codes ";") s2 l2) (λ semicolon s3 l3. l3))))

    place_ends : (room : ℕ) (n : Name) (ss : List Symbol) → length ss < m → Ends m (place inner room n ss (behind (codes "[") ss))
    place_ends room n ss lt = by (behind (codes "[") ss) refl
      where
        by : (o : Option (ℕ × List Symbol)) → behind (codes "[") ss ≡ o → Ends m (place inner room n ss o)
        by None i = assignment_ends room n None ss lt
        by (Some (p, rest)) i =
            if_ends m (nat_le (room - 1) 1) ss _
            (after_ends m (inner 0 (room - 1 - 1) rest) _ (inner_ends 0 (room - 1 - 1) rest (omega (arith, lt, ap length (behind_is (codes "[") ss p rest i))))
            (λ x s1 l1. after_ends m (mark (codes "]") s1) _ (mark_ends m (codes "]") s1 l1) (λ q s2 l2. assignment_ends room n (Some (p, x, q)) s2 l2)))

    naming_ends : (room : ℕ) (n : Name) (ss : List Symbol) → length ss < m → Ends m (naming inner room n ss (behind (codes ".") ss))
    naming_ends room n ss lt = by (behind (codes ".") ss) refl
      where
        by : (o : Option (ℕ × List Symbol)) → behind (codes ".") ss ≡ o → Ends m (naming inner room n ss o)
        by None i = place_ends room n ss lt
        by (Some (dot, rest)) i = part_ends n dot rest (omega (arith, lt, ap length (behind_is (codes ".") ss dot rest i)))

    halting_ends : (room at : ℕ) (ss : List Symbol) → length ss < m → Ends m (halting inner room at ss)
    halting_ends room at ss lt =
        after_ends m (mark (codes "(") ss) _ (mark_ends m (codes "(") ss lt) (λ p s1 l1. after_ends m (inner 0 (room - 1) s1) _ (inner_ends 0 (room - 1) s1 l1)
        (λ e s2 l2. after_ends m (mark (codes ")") s2) _ (mark_ends m (codes ")") s2 l2) (λ q s3 l3. after_ends m (mark (codes ";") s3) _ (mark_ends m (codes ";") s3 l3)
        (λ semicolon s4 l4. l4))))

    branch_end_ends : (room at : ℕ) (c : Formula) (t : ℕ) (xs : Block) (ss : List Symbol) → length ss < m → Ends m (branch_end blocks room at c t xs ss (behind (codes "else") ss))
    branch_end_ends room at c t xs ss lt = by (behind (codes "else") ss) refl
      where
        by : (o : Option (ℕ × List Symbol)) → behind (codes "else") ss ≡ o → Ends m (branch_end blocks room at c t xs ss o)
        by None i =
            after_ends m (mark (codes "endif") ss) _ (mark_ends m (codes "endif") ss lt)
            (λ end s1 l1. after_ends m (mark (codes ";") s1) _ (mark_ends m (codes ";") s1 l1) (λ semicolon s2 l2. l2))
        by (Some (f, rest)) i =
            after_ends m (blocks (room - 1) rest) _ (blocks_ends (room - 1) rest (omega (arith, lt, ap length (behind_is (codes "else") ss f rest i))))
            (λ ys s1 l1. after_ends m (mark (codes "endif") s1) _ (mark_ends m (codes "endif") s1 l1)
            (λ end s2 l2. after_ends m (mark (codes ";") s2) _ (mark_ends m (codes ";") s2 l2) (λ semicolon s3 l3. l3)))

    branching_ends : (room at : ℕ) (ss : List Symbol) → length ss < m → Ends m (branching inner blocks room at ss)
    branching_ends room at ss lt =
        after_ends m (inner 0 (room - 1) ss) _ (inner_ends 0 (room - 1) ss lt) (λ c s1 l1. after_ends m (mark (codes "then") s1) _ (mark_ends m (codes "then") s1 l1)
        (λ t s2 l2. after_ends m (blocks (room - 1) s2) _ (blocks_ends (room - 1) s2 l2) (λ xs s3 l3. branch_end_ends room at c t xs s3 l3)))

    statement_ends : (room : ℕ) (here : List Symbol) (x : Start) (ss : List Symbol) → length ss < m → Ends m (statement inner blocks room here x ss)
    statement_ends room here (Naming n) ss lt = naming_ends room n ss lt
    statement_ends room here (Halting at) ss lt = if_ends m (nat_le room 1) here _ (halting_ends room at ss lt)
    statement_ends room here (Branching at) ss lt = if_ends m (nat_le room 1) here _ (branching_ends room at ss lt)

    -- a statement, and those behind it
    one_ends : (room : ℕ) (here : List Symbol) (x : Start) (ss : List Symbol) → length ss < m → Ends m (block_from inner blocks room here (Some (x, ss)))
    one_ends room here x ss lt =
        after_ends m (statement inner blocks room here x ss) _ (statement_ends room here x ss lt)
        (λ put s l. after_ends m (blocks room s) _ (blocks_ends room s l) (λ b rest k. k))

    pub block_ends : (room : ℕ) (ss : List Symbol) → length ss ≤ m → Ends (suc m) (block_from inner blocks room ss (start ss))
    block_ends room [] le = omega arith
    block_ends room (Symbol.Fixed at text ∷ ss) le = by (looked_up starts text)
      where
        by : (o : Option (ℕ → Start)) → Ends (suc m) (block_from inner blocks room (Symbol.Fixed at text ∷ ss) (start_of at ss o))
        by None = omega (arith, le)
        by (Some word) = ends_more m (suc m) _ (omega arith) (one_ends room (Symbol.Fixed at text ∷ ss) (word at) ss (omega (arith, le)))
    block_ends room (Symbol.Named at text ∷ ss) le =
        ends_more m (suc m) _ (omega arith) (one_ends room (Symbol.Named at text ∷ ss) (Naming (record { at = at; text = text })) ss (omega (arith, le)))
    block_ends room (Symbol.Number at value ∷ ss) le = omega (arith, le)
    block_ends room (Symbol.Quoted at text ∷ ss) le = omega (arith, le)

-- ---- statements

statements_end : (n room : ℕ) (ss : List Symbol) → length ss < n → Ends (suc (length ss)) (statements n room ss)
statements_end zero room ss lt = absurd (omega arith)
statements_end (suc n) room ss lt =
    block_ends (length ss) (climb n) (λ k space t l. ends_more (length t) (length ss) (climb n k space t) (omega arith) (climb_ends n k space t (omega (arith, lt, l))))
    (statements n) (λ space t l. ends_more (suc (length t)) (length ss) (statements n space t) (omega arith) (statements_end n space t (omega (arith, lt, l)))) room ss (omega arith)

-- with more calls than there are symbols it is told what they are read as
pub statements_settle : (room : ℕ) (ss : List Symbol) → Settles (length ss) (λ n. statements n room ss)
statements_settle room ss =
    let t = told_of (suc (length ss)) (statements (suc (length ss)) room ss) (statements_end (suc (length ss)) room ss (omega arith)) in
    record {
      comes = statements (suc (length ss)) room ss;
      told = t;
      is = λ n lt. kept_told (statements (suc (length ss)) room ss) (statements n room ss) (statements_more (suc (length ss)) n room ss (omega (arith, lt))) t;
    }
