-- More calls below one another change nothing that was read.
use Rattle.std.proofs.Common.{ℕ, zero, suc, ◌-◌, ◌≤◌, List, [], ◌∷◌, Option, Some, None, refl, arith}
use Rattle.std.specs.Prelude.{nat_le, codes}
use Rattle.nml_tree.specs.declared.names.Name.{Name}
use Rattle.nml_tree.specs.declared.operator.Bin.{Bin}
use Rattle.readings.specs.Symbol.{Symbol}
use Rattle.nml_tree.specs.Formula.{Formula, Binary}
use Rattle.nml_tree.specs.Level.{binary_level, unary_level}
use Rattle.nml_tree.specs.Depth.{depth}
use Rattle.readings.specs.Reading.{Read, looked_up, behind, mark}
use Rattle.nml_grammar.specs.Reading.{size, operator, Beginning, Value, Opening, Fitting, Slice, Choice, Operation, beginnings, Reader, index, begun, operand, turn, climb, more}
use Rattle.readings.proofs.Keeps.{Keeps, Same, Short, same_after, after_keeps, if_keeps, room_keeps}

-- ---- an operand
module _ (f g : Reader) (h : (k room : ℕ) (ss : List Symbol) → Keeps (f k room ss) (g k room ss)) where
  index_keeps : (room : ℕ) (n : Name) (ss : List Symbol) (o : Option (ℕ × List Symbol)) → Keeps (index f room n ss o) (index g room n ss o)
  index_keeps room n ss None = Same refl
  index_keeps room n ss (Some (p, rest)) = room_keeps room ss _ _ (after_keeps (f 0 (room - 1) rest) (g 0 (room - 1) rest) _ _ (h 0 (room - 1) rest) (λ i r. Same refl))

  begun_keeps : (room : ℕ) (here : List Symbol) (at : ℕ) (ss : List Symbol) (o : Option Beginning) → Keeps (begun f room here at ss o) (begun g room here at ss o)
  begun_keeps room here at ss None = Same refl
  begun_keeps room here at ss (Some (Value b)) = Same refl
  begun_keeps room here at ss (Some Opening) = room_keeps room here _ _ (after_keeps (f 0 (room - 1) ss) (g 0 (room - 1) ss) _ _ (h 0 (room - 1) ss) (λ x r. Same refl))
  begun_keeps room here at ss (Some (Fitting fit)) =
      room_keeps room here _ _
      (same_after (mark (codes "(") ss) _ _ _ refl (λ p s1. same_after (size s1) _ _ _ refl (λ n s2. same_after (mark (codes ",") s2) _ _ _ refl
      (λ c s3. after_keeps (f 0 (room - 1) s3) (g 0 (room - 1) s3) _ _ (h 0 (room - 1) s3) (λ x s4. Same refl)))))
  begun_keeps room here at ss (Some Slice) =
      room_keeps room here _ _
      (same_after (mark (codes "(") ss) _ _ _ refl (λ p s1. after_keeps (f 0 (room - 1) s1) (g 0 (room - 1) s1) _ _ (h 0 (room - 1) s1) (λ x s2. Same refl)))
  begun_keeps room here at ss (Some Choice) =
      room_keeps room here _ _
      (after_keeps (f 0 (room - 1) ss) (g 0 (room - 1) ss) _ _ (h 0 (room - 1) ss) (λ c s1. same_after (mark (codes "then") s1) _ _ _ refl
      (λ t s2. after_keeps (f 0 (room - 1) s2) (g 0 (room - 1) s2) _ _ (h 0 (room - 1) s2) (λ x s3. same_after (mark (codes "else") s3) _ _ _ refl
      (λ e s4. after_keeps (f 0 (room - 1) s4) (g 0 (room - 1) s4) _ _ (h 0 (room - 1) s4) (λ y s5. Same refl))))))
  begun_keeps room here at ss (Some (Operation op)) =
      room_keeps room here _ _ (after_keeps (f unary_level (room - 1) ss) (g unary_level (room - 1) ss) _ _ (h unary_level (room - 1) ss) (λ x r. Same refl))

  pub operand_keeps : (room : ℕ) (ss : List Symbol) → Keeps (operand f room ss) (operand g room ss)
  operand_keeps room [] = Same refl
  operand_keeps room (Symbol.Fixed at text ∷ ss) = begun_keeps room (Symbol.Fixed at text ∷ ss) at ss (looked_up beginnings text)
  operand_keeps room (Symbol.Named at text ∷ ss) = index_keeps room (record { at = at; text = text }) ss (behind (codes "[") ss)
  operand_keeps room (Symbol.Number at value ∷ ss) = Same refl
  operand_keeps room (Symbol.Quoted at text ∷ ss) = Same refl

  turn_keeps : (next other : Formula → List Symbol → Read Formula) → ((x : Formula) (rest : List Symbol) → Keeps (next x rest) (other x rest)) → (room : ℕ) (left : Formula) (here : List Symbol) (o : Option (Bin × ℕ × List Symbol))
      → Keeps (turn f next room left here o) (turn g other room left here o)
  turn_keeps next other k room left here None = Same refl
  turn_keeps next other k room left here (Some (op, at, rest)) =
      if_keeps (nat_le room (depth left)) here _ _
      (after_keeps (f (suc (binary_level op)) (room - 1) rest) (g (suc (binary_level op)) (room - 1) rest) _ _ (h (suc (binary_level op)) (room - 1) rest)
      (λ right s. k (Binary op left at right) s))

-- ---- an expression
mutual
  pub climb_more : (n m k room : ℕ) (ss : List Symbol) → n ≤ m → Keeps (climb n k room ss) (climb m k room ss)
  climb_more zero m k room ss le = Short refl
  climb_more (suc n) zero k room ss le = absurd (omega arith)
  climb_more (suc n) (suc m) k room ss le =
      after_keeps (operand (climb n) room ss) (operand (climb m) room ss) _ _
      (operand_keeps (climb n) (climb m) (λ k room ss. climb_more n m k room ss (omega arith)) room ss)
      (λ x rest. more_more n m k room x rest (omega arith))

  pub more_more : (n m k room : ℕ) (left : Formula) (ss : List Symbol) → n ≤ m → Keeps (more n k room left ss) (more m k room left ss)
  more_more zero m k room left ss le = Short refl
  more_more (suc n) zero k room left ss le = absurd (omega arith)
  more_more (suc n) (suc m) k room left ss le =
      turn_keeps (climb n) (climb m) (λ k room ss. climb_more n m k room ss (omega arith)) (λ x rest. more n k room x rest) (λ x rest. more m k room x rest)
      (λ x rest. more_more n m k room x rest (omega arith)) room left ss (operator k ss)
