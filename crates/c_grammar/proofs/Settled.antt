-- Every reading settles: with one call below another for each symbol, and one more, it is told where it ends or is stuck.
use Rattle.std.proofs.Common.{◌≡◌, ℕ, zero, suc, ◌-◌, ◌<◌, ◌≤◌, List, [], ◌∷◌, length, Option, Some, None, refl, arith}
use Rattle.std.specs.Prelude.{nat_le, codes}
use Rattle.c_tree.specs.declared.names.Name.{Name}
use Rattle.c_tree.specs.declared.operator.Bin.{Bin}
use Rattle.readings.specs.Symbol.{Symbol}
use Rattle.c_tree.specs.Formula.{Formula, Binary}
use Rattle.c_tree.specs.Spell.{binary_mark}
use Rattle.c_tree.specs.Level.{binary_level, unary_level}
use Rattle.c_tree.specs.Depth.{depth}
use Rattle.readings.specs.Reading.{Read, read_on, looked_up, behind, mark}
use Rattle.c_grammar.specs.Reading.{operator, Beginning, Opening, Operation, beginnings, Reader, Others, others_from, arguments, call_from, call, named, paren, operation, begun, operand, turn, climb, more, further, reading}
use Rattle.readings.proofs.Symbols.{behind_is}
use Rattle.c_grammar.proofs.Symbols.{operator_is}
use Rattle.readings.specs.Lawful.{IsTold, Settles}
use Rattle.c_grammar.proofs.Keeps.{climb_more}
use Rattle.readings.proofs.Ending.{kept_told, Ends, ends_more, told_of, after_ends, if_ends, mark_ends}

-- fewer symbols stand behind a first one
shorter : (t rest : List Symbol) (s : Symbol) → t ≡ s ∷ rest → length rest < length t
shorter t rest s e = rw e (omega arith)

-- ---- operands
module _ (inner : Reader) (m : ℕ) (inner_ends : (k room : ℕ) (ss : List Symbol) → length ss < m → Ends m (inner k room ss)) (others : Others)
    (others_ends : (room : ℕ) (ss : List Symbol) → length ss < m → Ends m (others room ss))
  where
    begun_ends : (room : ℕ) (here : List Symbol) (at : ℕ) (ss : List Symbol) (o : Option Beginning) → length ss < m → Ends m (begun inner room here at ss o)
    begun_ends room here at ss None lt = tt
    begun_ends room here at ss (Some Opening) lt =
        if_ends m (nat_le room 1) here (paren inner room at ss)
        (after_ends m (inner 0 (room - 1) ss) _ (inner_ends 0 (room - 1) ss lt) (λ x r l. after_ends m (mark (codes ")") r) _ (mark_ends m (codes ")") r l) (λ q s l. l)))
    begun_ends room here at ss (Some (Operation op)) lt =
        if_ends m (nat_le room 1) here (operation inner room op at ss) (after_ends m (inner unary_level (room - 1) ss) _ (inner_ends unary_level (room - 1) ss lt) (λ x r l. l))

    call_from_ends : (room : ℕ) (n : Name) (p : ℕ) (ss : List Symbol) (o : Option (ℕ × List Symbol)) → length ss < m → behind (codes ")") ss ≡ o → Ends m (call_from inner others room n p ss o)
    call_from_ends room n p ss None lt i =
        if_ends m (nat_le room 1) ss (arguments inner others room n p ss)
        (after_ends m (inner 0 (room - 1) ss) _ (inner_ends 0 (room - 1) ss lt) (λ x r l. after_ends m (others (room - 1) r) _ (others_ends (room - 1) r l)
        (λ xs t l2. after_ends m (mark (codes ")") t) _ (mark_ends m (codes ")") t l2) (λ q s l3. l3))))
    call_from_ends room n p ss (Some (q, rest)) lt i = let l = shorter ss rest (Symbol.Fixed q (codes ")")) (behind_is (codes ")") ss q rest i) in omega (arith, lt, l)

    call_ends : (room : ℕ) (n : Name) (ss : List Symbol) (o : Option (ℕ × List Symbol)) → length ss < m → behind (codes "(") ss ≡ o → Ends m (call inner others room n ss o)
    call_ends room n ss None lt i = lt
    call_ends room n ss (Some (p, rest)) lt i =
        let l = shorter ss rest (Symbol.Fixed p (codes "(")) (behind_is (codes "(") ss p rest i) in
        call_from_ends room n p rest (behind (codes ")") rest) (omega (arith, lt, l)) refl

    named_ends : (room : ℕ) (n : Name) (ss : List Symbol) (o : Option (ℕ × List Symbol)) → length ss < m → behind (codes "[") ss ≡ o → Ends m (named inner others room n ss o)
    named_ends room n ss None lt i = call_ends room n ss (behind (codes "(") ss) lt refl
    named_ends room n ss (Some (p, rest)) lt i =
        let l = shorter ss rest (Symbol.Fixed p (codes "[")) (behind_is (codes "[") ss p rest i) in
        if_ends m (nat_le room 1) ss _
        (after_ends m (inner 0 (room - 1) rest) _ (inner_ends 0 (room - 1) rest (omega (arith, lt, l))) (λ i r l. after_ends m (mark (codes "]") r) _ (mark_ends m (codes "]") r l) (λ q s l. l)))

    operand_ends : (room : ℕ) (ss : List Symbol) → length ss ≤ m → Ends m (operand inner others room ss)
    operand_ends room [] le = tt
    operand_ends room (Symbol.Fixed at text ∷ ss) le = begun_ends room (Symbol.Fixed at text ∷ ss) at ss (looked_up beginnings text) (omega arith)
    operand_ends room (Symbol.Named at text ∷ ss) le = named_ends room (record { at = at; text = text }) ss (behind (codes "[") ss) (omega arith) refl
    operand_ends room (Symbol.Number at value ∷ ss) le = omega arith
    operand_ends room (Symbol.Quoted at text ∷ ss) le = tt

    others_from_ends : (room : ℕ) (ss : List Symbol) (o : Option (ℕ × List Symbol)) → length ss ≤ m → behind (codes ",") ss ≡ o → Ends (suc m) (others_from inner others room ss o)
    others_from_ends room ss None le i = omega arith
    others_from_ends room ss (Some (comma, rest)) le i =
        let l = shorter ss rest (Symbol.Fixed comma (codes ",")) (behind_is (codes ",") ss comma rest i) in
        ends_more m (suc m) (others_from inner others room ss (Some (comma, rest))) (omega arith)
        (after_ends m (inner 0 room rest) _ (inner_ends 0 room rest (omega (arith, le, l))) (λ x s h. after_ends m (others room s) _ (others_ends room s h) (λ xs t g. g)))

-- a turn of the loop
turn_ends : (inner : Reader) (next : Formula → List Symbol → Read Formula) (k room : ℕ) (left : Formula) (ss : List Symbol) → ((j space : ℕ) (t : List Symbol) → length t < length ss → Ends (length ss) (inner j space t))
    → ((x : Formula) (t : List Symbol) → length t < length ss → Ends (length ss) (next x t)) → (o : Option (Bin × ℕ × List Symbol)) → operator k ss ≡ o → Ends (suc (length ss)) (turn inner next room left ss o)
turn_ends inner next k room left ss right goes None e = omega arith
turn_ends inner next k room left ss right goes (Some (op, at, rest)) e =
    let l = shorter ss rest (Symbol.Fixed at (binary_mark op)) (operator_is k ss op at rest e).spelled in
    let both = after_ends (length ss) (inner (suc (binary_level op)) (room - 1) rest) (λ right s. next (Binary op left at right) s) (right (suc (binary_level op)) (room - 1) rest l) (λ y s h. goes (Binary op left at y) s h) in
    if_ends (suc (length ss)) (nat_le room (depth left)) ss _ (ends_more (length ss) (suc (length ss)) (read_on (inner (suc (binary_level op)) (room - 1) rest) (λ right s. next (Binary op left at right) s)) (omega arith) both)

-- ---- expressions
mutual
  pub climb_ends : (n k room : ℕ) (ss : List Symbol) → length ss < n → Ends (length ss) (climb n k room ss)
  climb_ends zero k room ss lt = absurd (omega arith)
  climb_ends (suc n) k room ss lt =
      after_ends (length ss) (operand (climb n) (further n) room ss) (λ x rest. more n k room x rest)
      (operand_ends (climb n) (length ss) (λ k room t l. ends_more (length t) (length ss) (climb n k room t) (omega arith) (climb_ends n k room t (omega arith)))
      (further n) (λ room t l. ends_more (suc (length t)) (length ss) (further n room t) (omega arith) (further_ends n room t (omega arith))) room ss (omega arith))
      (λ x rest l. ends_more (suc (length rest)) (length ss) (more n k room x rest) (omega arith) (more_ends n k room x rest (omega arith)))

  more_ends : (n k room : ℕ) (left : Formula) (ss : List Symbol) → length ss < n → Ends (suc (length ss)) (more n k room left ss)
  more_ends zero k room left ss lt = absurd (omega arith)
  more_ends (suc n) k room left ss lt =
      turn_ends (climb n) (λ x rest. more n k room x rest) k room left ss
      (λ j space t l. ends_more (length t) (length ss) (climb n j space t) (omega arith) (climb_ends n j space t (omega arith)))
      (λ x t l. ends_more (suc (length t)) (length ss) (more n k room x t) (omega arith) (more_ends n k room x t (omega arith)))
      (operator k ss) refl

  further_ends : (n room : ℕ) (ss : List Symbol) → length ss < n → Ends (suc (length ss)) (further n room ss)
  further_ends zero room ss lt = absurd (omega arith)
  further_ends (suc n) room ss lt =
      others_from_ends (climb n) (length ss) (λ k room t l. ends_more (length t) (length ss) (climb n k room t) (omega arith) (climb_ends n k room t (omega arith)))
      (further n) (λ room t l. ends_more (suc (length t)) (length ss) (further n room t) (omega arith) (further_ends n room t (omega arith))) room ss (behind (codes ",") ss) (omega arith) refl

pub reading_told : (k room : ℕ) (ss : List Symbol) → IsTold (reading k room ss)
reading_told k room ss = told_of (length ss) (climb (suc (length ss)) k room ss) (climb_ends (suc (length ss)) k room ss (omega arith))

-- so it settles, as more calls change nothing
pub climb_settles : (k room : ℕ) (ss : List Symbol) → Settles (length ss) (λ n. climb n k room ss)
climb_settles k room ss = record {
  comes = reading k room ss;
  told = reading_told k room ss;
  is = λ n lt. kept_told (reading k room ss) (climb n k room ss) (climb_more (suc (length ss)) n k room ss (omega (arith, lt))) (reading_told k room ss);
}
