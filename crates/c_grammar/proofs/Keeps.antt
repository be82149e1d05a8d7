-- More calls below one another change nothing that was read.
use Rattle.std.proofs.Common.{ℕ, zero, suc, ◌-◌, ◌≤◌, List, [], ◌∷◌, Option, Some, None, refl, arith}
use Rattle.std.specs.Prelude.{nat_le, codes}
use Rattle.c_tree.specs.declared.names.Name.{Name}
use Rattle.c_tree.specs.declared.operator.Bin.{Bin}
use Rattle.readings.specs.Symbol.{Symbol}
use Rattle.c_tree.specs.Formula.{Formula, Binary}
use Rattle.c_tree.specs.Level.{binary_level, unary_level}
use Rattle.c_tree.specs.Depth.{depth}
use Rattle.readings.specs.Reading.{Read, looked_up, behind}
use Rattle.c_grammar.specs.Reading.{operator, Beginning, Opening, Operation, beginnings, Reader, Others, others_from, call_from, call, named, begun, operand, turn, climb, more, further}
use Rattle.readings.proofs.Keeps.{Keeps, Same, Short, after_keeps, if_keeps, room_keeps}

-- ---- an operand
module _ (f g : Reader) (h : (k room : ℕ) (ss : List Symbol) → Keeps (f k room ss) (g k room ss)) (a b : Others) (i : (room : ℕ) (ss : List Symbol) → Keeps (a room ss) (b room ss)) where
  pub others_keeps : (room : ℕ) (ss : List Symbol) (o : Option (ℕ × List Symbol)) → Keeps (others_from f a room ss o) (others_from g b room ss o)
  others_keeps room ss None = Same refl
  others_keeps room ss (Some (comma, rest)) =
      after_keeps (f 0 room rest) (g 0 room rest) _ _ (h 0 room rest) (λ x s. after_keeps (a room s) (b room s) _ _ (i room s) (λ xs t. Same refl))

  call_from_keeps : (room : ℕ) (n : Name) (p : ℕ) (ss : List Symbol) (o : Option (ℕ × List Symbol)) → Keeps (call_from f a room n p ss o) (call_from g b room n p ss o)
  call_from_keeps room n p ss None =
      room_keeps room ss _ _
      (after_keeps (f 0 (room - 1) ss) (g 0 (room - 1) ss) _ _ (h 0 (room - 1) ss) (λ x r. after_keeps (a (room - 1) r) (b (room - 1) r) _ _ (i (room - 1) r) (λ xs t. Same refl)))
  call_from_keeps room n p ss (Some (q, rest)) = Same refl

  call_keeps : (room : ℕ) (n : Name) (ss : List Symbol) (o : Option (ℕ × List Symbol)) → Keeps (call f a room n ss o) (call g b room n ss o)
  call_keeps room n ss None = Same refl
  call_keeps room n ss (Some (p, rest)) = call_from_keeps room n p rest (behind (codes ")") rest)

  named_keeps : (room : ℕ) (n : Name) (ss : List Symbol) (o : Option (ℕ × List Symbol)) → Keeps (named f a room n ss o) (named g b room n ss o)
  named_keeps room n ss None = call_keeps room n ss (behind (codes "(") ss)
  named_keeps room n ss (Some (p, rest)) = room_keeps room ss _ _ (after_keeps (f 0 (room - 1) rest) (g 0 (room - 1) rest) _ _ (h 0 (room - 1) rest) (λ i r. Same refl))

  begun_keeps : (room : ℕ) (here : List Symbol) (at : ℕ) (ss : List Symbol) (o : Option Beginning) → Keeps (begun f room here at ss o) (begun g room here at ss o)
  begun_keeps room here at ss None = Same refl
  begun_keeps room here at ss (Some Opening) = room_keeps room here _ _ (after_keeps (f 0 (room - 1) ss) (g 0 (room - 1) ss) _ _ (h 0 (room - 1) ss) (λ x r. Same refl))
  begun_keeps room here at ss (Some (Operation op)) =
      room_keeps room here _ _ (after_keeps (f unary_level (room - 1) ss) (g unary_level (room - 1) ss) _ _ (h unary_level (room - 1) ss) (λ x r. Same refl))

  pub operand_keeps : (room : ℕ) (ss : List Symbol) → Keeps (operand f a room ss) (operand g b room ss)
  operand_keeps room [] = Same refl
  operand_keeps room (Symbol.Fixed at text ∷ ss) = begun_keeps room (Symbol.Fixed at text ∷ ss) at ss (looked_up beginnings text)
  operand_keeps room (Symbol.Named at text ∷ ss) = named_keeps room (record { at = at; text = text }) ss (behind (codes "[") ss)
  operand_keeps room (Symbol.Number at value ∷ ss) = Same refl
  operand_keeps room (Symbol.Quoted at text ∷ ss) = Same refl

  turn_keeps : (next other : Formula → List Symbol → Read Formula) → ((x : Formula) (rest : List Symbol) → Keeps (next x rest) (other x rest)) → (room : ℕ) (left : Formula) (here : List Symbol) (o : Option (Bin × ℕ × List Symbol))
      → Keeps (turn f next room left here o) (turn g other room left here o)
  turn_keeps next other k room left here None = Same refl
  turn_keeps next other k room left here (Some (op, at, rest)) =
      if_keeps (nat_le room (depth left)) here _ _
      (after_keeps (f (suc (binary_level op)) (room - 1) rest) (g (suc (binary_level op)) (room - 1) rest) _ _ (h (suc (binary_level op)) (room - 1) rest)
      (λ right s. k (Binary op left at right) s))

-- ---- an expression
mutual
  pub climb_more : (n m k room : ℕ) (ss : List Symbol) → n ≤ m → Keeps (climb n k room ss) (climb m k room ss)
  climb_more zero m k room ss le = Short refl
  climb_more (suc n) zero k room ss le = absurd (omega arith)
  climb_more (suc n) (suc m) k room ss le =
      after_keeps (operand (climb n) (further n) room ss) (operand (climb m) (further m) room ss) _ _
      (operand_keeps (climb n) (climb m) (λ k room ss. climb_more n m k room ss (omega arith)) (further n) (further m) (λ room ss. further_more n m room ss (omega arith)) room ss)
      (λ x rest. more_more n m k room x rest (omega arith))

  pub more_more : (n m k room : ℕ) (left : Formula) (ss : List Symbol) → n ≤ m → Keeps (more n k room left ss) (more m k room left ss)
  more_more zero m k room left ss le = Short refl
  more_more (suc n) zero k room left ss le = absurd (omega arith)
  more_more (suc n) (suc m) k room left ss le =
      turn_keeps (climb n) (climb m) (λ k room ss. climb_more n m k room ss (omega arith)) (further n) (further m) (λ room ss. further_more n m room ss (omega arith))
      (λ x rest. more n k room x rest) (λ x rest. more m k room x rest)
      (λ x rest. more_more n m k room x rest (omega arith)) room left ss (operator k ss)

  pub further_more : (n m room : ℕ) (ss : List Symbol) → n ≤ m → Keeps (further n room ss) (further m room ss)
  further_more zero m room ss le = Short refl
  further_more (suc n) zero room ss le = absurd (omega arith)
  further_more (suc n) (suc m) room ss le =
      others_keeps (climb n) (climb m) (λ k room ss. climb_more n m k room ss (omega arith)) (further n) (further m) (λ room ss. further_more n m room ss (omega arith)) room ss (behind (codes ",") ss)
