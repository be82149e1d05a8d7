-- Every reading settles: with one call below another for each symbol, and one more, it is told where it ends or is stuck.
use Rattle.std.proofs.Common.{◌≡◌, ℕ, zero, suc, ◌+◌, ◌-◌, ◌<◌, ◌≤◌, List, [], ◌∷◌, ◌++◌, length, Option, Some, None, refl, ap, sym, ◌∙◌, subst, arith, Bool, true, false}
use Rattle.std.specs.Prelude.{if◌then◌else◌, nat_le, codes}
use Rattle.nk_base.specs.Text.{text_eq}
use Rattle.nml_tree.specs.declared.names.Name.{Name}
use Rattle.nml_tree.specs.declared.operator.Bin.{Bin}
use Rattle.readings.specs.Symbol.{Symbol}
use Rattle.nml_tree.specs.Formula.{Formula, Binary}
use Rattle.nml_tree.specs.Spell.{formula_spelling, binary_mark}
use Rattle.nml_tree.specs.Level.{level, binary_level, unary_level, IsLeveled}
use Rattle.nml_tree.specs.Depth.{depth}
use Rattle.readings.specs.Reading.{Read, Found, Stuck, read_on, looked_up, behind, mark}
use Rattle.nml_grammar.specs.Reading.{size, operator, Beginning, Value, Opening, Fitting, Slice, Choice, Operation, beginnings, Reader, index, paren, fitted, slice, choice, operation, begun, operand, turn, climb, more, reading, IsEnd}
use Rattle.nml_grammar.proofs.Symbols.{operator_is}
use Rattle.readings.specs.Lawful.{IsTold, Settles}
use Rattle.nml_grammar.proofs.Keeps.{climb_more}
use Rattle.nml_grammar.proofs.Complete.{complete}
use Rattle.nml_grammar.proofs.Local.{stuck_whatever}
use Rattle.readings.proofs.Ending.{kept_told, Ends, ends_more, told_of, after_ends, if_ends, mark_ends}

-- whatever number of calls tells what a list is read as, it is one thing
pub one_reading : (m n k room : ℕ) (ss : List Symbol) → IsTold (climb m k room ss) → IsTold (climb n k room ss) → climb m k room ss ≡ climb n k room ss
one_reading m n k room ss h i =
    sym (kept_told (climb m k room ss) (climb (m + n) k room ss) (climb_more m (m + n) k room ss (omega arith)) h)
    ∙ kept_told (climb n k room ss) (climb (m + n) k room ss) (climb_more n (m + n) k room ss (omega arith)) i

size_ends : (m : ℕ) (ss : List Symbol) → length ss < m → Ends m (size ss)
size_ends m [] lt = tt
size_ends m (Symbol.Fixed at text ∷ ss) lt = tt
size_ends m (Symbol.Named at text ∷ ss) lt = omega arith
size_ends m (Symbol.Number at value ∷ ss) lt = omega arith
size_ends m (Symbol.Quoted at text ∷ ss) lt = tt

-- ---- operands
module _ (inner : Reader) (m : ℕ) (inner_ends : (k room : ℕ) (ss : List Symbol) → length ss < m → Ends m (inner k room ss)) where
  begun_ends : (room : ℕ) (here : List Symbol) (at : ℕ) (ss : List Symbol) (o : Option Beginning) → length ss < m → Ends m (begun inner room here at ss o)
  begun_ends room here at ss None lt = tt
  begun_ends room here at ss (Some (Value b)) lt = lt
  begun_ends room here at ss (Some Opening) lt =
      if_ends m (nat_le room 1) here (paren inner room at ss)
      (after_ends m (inner 0 (room - 1) ss) _ (inner_ends 0 (room - 1) ss lt) (λ x r l. after_ends m (mark (codes ")") r) _ (mark_ends m (codes ")") r l) (λ q s l. l)))
  begun_ends room here at ss (Some (Fitting fit)) lt =
      if_ends m (nat_le room 1) here (fitted inner room fit at ss)
      (after_ends m (mark (codes "(") ss) _ (mark_ends m (codes "(") ss lt) (λ p s1 l1. after_ends m (size s1) _ (size_ends m s1 l1)
      (λ n s2 l2. after_ends m (mark (codes ",") s2) _ (mark_ends m (codes ",") s2 l2) (λ c s3 l3. after_ends m (inner 0 (room - 1) s3) _ (inner_ends 0 (room - 1) s3 l3)
      (λ x s4 l4. after_ends m (mark (codes ")") s4) _ (mark_ends m (codes ")") s4 l4) (λ q s5 l5. l5))))))
  begun_ends room here at ss (Some Slice) lt =
      if_ends m (nat_le room 1) here (slice inner room at ss)
      (after_ends m (mark (codes "(") ss) _ (mark_ends m (codes "(") ss lt) (λ p s1 l1. after_ends m (inner 0 (room - 1) s1) _ (inner_ends 0 (room - 1) s1 l1)
      (λ x s2 l2. after_ends m (mark (codes ",") s2) _ (mark_ends m (codes ",") s2 l2) (λ c s3 l3. after_ends m (size s3) _ (size_ends m s3 l3)
      (λ high s4 l4. after_ends m (mark (codes ",") s4) _ (mark_ends m (codes ",") s4 l4) (λ d s5 l5. after_ends m (size s5) _ (size_ends m s5 l5)
      (λ low s6 l6. after_ends m (mark (codes ")") s6) _ (mark_ends m (codes ")") s6 l6) (λ q s7 l7. l7))))))))
  begun_ends room here at ss (Some Choice) lt =
      if_ends m (nat_le room 1) here (choice inner room at ss)
      (after_ends m (inner 0 (room - 1) ss) _ (inner_ends 0 (room - 1) ss lt) (λ c s1 l1. after_ends m (mark (codes "then") s1) _ (mark_ends m (codes "then") s1 l1)
      (λ t s2 l2. after_ends m (inner 0 (room - 1) s2) _ (inner_ends 0 (room - 1) s2 l2) (λ x s3 l3. after_ends m (mark (codes "else") s3) _ (mark_ends m (codes "else") s3 l3)
      (λ f s4 l4. after_ends m (inner 0 (room - 1) s4) _ (inner_ends 0 (room - 1) s4 l4) (λ y s5 l5. after_ends m (mark (codes "endif") s5) _ (mark_ends m (codes "endif") s5 l5)
      (λ end s6 l6. l6)))))))
  begun_ends room here at ss (Some (Operation op)) lt =
      if_ends m (nat_le room 1) here (operation inner room op at ss) (after_ends m (inner unary_level (room - 1) ss) _ (inner_ends unary_level (room - 1) ss lt) (λ x r l. l))

  index_ends : (room : ℕ) (n : Name) (ss : List Symbol) → length ss < m → Ends m (index inner room n ss (behind (codes "[") ss))
  index_ends room n [] lt = lt
  index_ends room n (Symbol.Fixed at text ∷ ss) lt = by (text_eq text (codes "["))
    where
      by : (b : Bool) → Ends m (index inner room n (Symbol.Fixed at text ∷ ss) (if◌then◌else◌ {A = Option (ℕ × List Symbol)} b (Some (at, ss)) None))
      by true =
          if_ends m (nat_le room 1) (Symbol.Fixed at text ∷ ss) _
          (after_ends m (inner 0 (room - 1) ss) _ (inner_ends 0 (room - 1) ss (omega arith)) (λ i r l. after_ends m (mark (codes "]") r) _ (mark_ends m (codes "]") r l) (λ q s l. l)))
      by false = lt
  index_ends room n (Symbol.Named at text ∷ ss) lt = lt
  index_ends room n (Symbol.Number at value ∷ ss) lt = lt
  index_ends room n (Symbol.Quoted at text ∷ ss) lt = lt

  operand_ends : (room : ℕ) (ss : List Symbol) → length ss ≤ m → Ends m (operand inner room ss)
  operand_ends room [] le = tt
  operand_ends room (Symbol.Fixed at text ∷ ss) le = begun_ends room (Symbol.Fixed at text ∷ ss) at ss (looked_up beginnings text) (omega arith)
  operand_ends room (Symbol.Named at text ∷ ss) le = index_ends room (record { at = at; text = text }) ss (omega arith)
  operand_ends room (Symbol.Number at value ∷ ss) le = omega arith
  operand_ends room (Symbol.Quoted at text ∷ ss) le = tt

-- a turn of the loop
shorter : (t rest : List Symbol) (s : Symbol) → t ≡ s ∷ rest → length rest < length t
shorter t rest s e = rw e (omega arith)

turn_ends : (inner : Reader) (next : Formula → List Symbol → Read Formula) (k room : ℕ) (left : Formula) (ss : List Symbol) → ((j space : ℕ) (t : List Symbol) → length t < length ss → Ends (length ss) (inner j space t))
    → ((x : Formula) (t : List Symbol) → length t < length ss → Ends (length ss) (next x t)) → (o : Option (Bin × ℕ × List Symbol)) → operator k ss ≡ o → Ends (suc (length ss)) (turn inner next room left ss o)
turn_ends inner next k room left ss right goes None e = omega arith
turn_ends inner next k room left ss right goes (Some (op, at, rest)) e =
    let l = shorter ss rest (Symbol.Fixed at (binary_mark op)) (operator_is k ss op at rest e).spelled in
    let both = after_ends (length ss) (inner (suc (binary_level op)) (room - 1) rest) (λ right s. next (Binary op left at right) s) (right (suc (binary_level op)) (room - 1) rest l) (λ y s h. goes (Binary op left at y) s h) in
    if_ends (suc (length ss)) (nat_le room (depth left)) ss _ (ends_more (length ss) (suc (length ss)) (read_on (inner (suc (binary_level op)) (room - 1) rest) (λ right s. next (Binary op left at right) s)) (omega arith) both)

-- ---- expressions
mutual
  pub climb_ends : (n k room : ℕ) (ss : List Symbol) → length ss < n → Ends (length ss) (climb n k room ss)
  climb_ends zero k room ss lt = absurd (omega arith)
  climb_ends (suc n) k room ss lt =
      after_ends (length ss) (operand (climb n) room ss) (λ x rest. more n k room x rest)
      (operand_ends (climb n) (length ss) (λ k room t l. ends_more (length t) (length ss) (climb n k room t) (omega arith) (climb_ends n k room t (omega arith))) room ss (omega arith))
      (λ x rest l. ends_more (suc (length rest)) (length ss) (more n k room x rest) (omega arith) (more_ends n k room x rest (omega arith)))

  more_ends : (n k room : ℕ) (left : Formula) (ss : List Symbol) → length ss < n → Ends (suc (length ss)) (more n k room left ss)
  more_ends zero k room left ss lt = absurd (omega arith)
  more_ends (suc n) k room left ss lt =
      turn_ends (climb n) (λ x rest. more n k room x rest) k room left ss
      (λ j space t l. ends_more (length t) (length ss) (climb n j space t) (omega arith) (climb_ends n j space t (omega arith)))
      (λ x t l. ends_more (suc (length t)) (length ss) (more n k room x t) (omega arith) (more_ends n k room x t (omega arith)))
      (operator k ss) refl

pub reading_told : (k room : ℕ) (ss : List Symbol) → IsTold (reading k room ss)
reading_told k room ss = told_of (length ss) (climb (suc (length ss)) k room ss) (climb_ends (suc (length ss)) k room ss (omega arith))

-- so it settles, as more calls change nothing
pub climb_settles : (k room : ℕ) (ss : List Symbol) → Settles (length ss) (λ n. climb n k room ss)
climb_settles k room ss = record {
  comes = reading k room ss;
  told = reading_told k room ss;
  is = λ n lt. kept_told (reading k room ss) (climb n k room ss) (climb_more (suc (length ss)) n k room ss (omega (arith, lt))) (reading_told k room ss);
}

-- so the reading is what any number of calls tells
pub reading_is : (n k room : ℕ) (ss : List Symbol) → IsTold (climb n k room ss) → reading k room ss ≡ climb n k room ss
reading_is n k room ss h = one_reading (suc (length ss)) n k room ss (reading_told k room ss) h

-- ---- where a reading is stuck

found_or_stuck_not_both : (m n k room : ℕ) (ss : List Symbol) (x : Formula) (rest here : List Symbol) → climb m k room ss ≡ Found x rest → climb n k room ss ≡ Stuck here → ⊥
found_or_stuck_not_both m n k room ss x rest here e f = let same = one_reading m n k room ss (subst IsTold (sym e) tt) (subst IsTold (sym f) tt) in not_both (sym e ∙ same ∙ f)
  where
    not_both : Found x rest ≡ Stuck here → ⊥
    not_both g = cc

-- where it is stuck, the symbols spell no expression that ends before that symbol or goes on with it, whatever stands behind it
pub none_where_stuck : (n k room : ℕ) (ss : List Symbol) (c : Symbol) (r : List Symbol) → climb n k room ss ≡ Stuck (c ∷ r)
    → (front : List Symbol) × (ss ≡ front ++ (c ∷ r))
    × ((s : List Symbol) (x : Formula) (rest : List Symbol) → IsLeveled x → k ≤ level x → depth x ≤ room → IsEnd k x rest → front ++ (c ∷ s) ≡ formula_spelling x ++ rest → ⊥)
none_where_stuck n k room ss c r e =
    let l = stuck_whatever n k room ss c r e in (
      l.0,
      l.1,
      λ s x rest leveled le deep end same.
          let a = complete x k room rest leveled le deep end in
          found_or_stuck_not_both a.0 n k room (l.0 ++ (c ∷ s)) x rest (c ∷ s) (ap (climb a.0 k room) same ∙ a.1) (l.2 s),
    )
