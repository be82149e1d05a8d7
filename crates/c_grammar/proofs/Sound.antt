-- What is read is an expression that is spelled so, is not too deep, and ends there.
use Rattle.std.proofs.Common.{◌≡◌, ℕ, zero, suc, ◌-◌, ◌<◌, ◌≤◌, List, [], ◌∷◌, ◌++◌, Option, Some, None, refl, ap, sym, ◌∙◌, subst, arith, lit≤, ⊎_elim}
use Rattle.std.proofs.lemmas.Bool.{cases_lt}
use Rattle.std.specs.Prelude.{codes}
use Rattle.c_tree.specs.declared.names.Name.{Name}
use Rattle.c_tree.specs.declared.operator.Bin.{Bin}
use Rattle.readings.specs.Symbol.{Symbol}
use Rattle.c_tree.specs.Formula.{Formula, Further, Prefix, Numeral, Named, Indexed, Called, CalledWith, Paren, Unary, Binary, NoMore, More}
use Rattle.c_tree.specs.Spell.{formula_spelling, further_spelling, binary_mark, prefix_mark}
use Rattle.c_tree.specs.Level.{level, binary_level, unary_level, IsLeveled, IsLeveledFurther}
use Rattle.c_tree.specs.Depth.{depth, further_depth}
use Rattle.readings.specs.Reading.{Read, Found, Stuck, read_on, looked_up, behind, mark}
use Rattle.c_grammar.specs.Reading.{operator, Beginning, Opening, Operation, beginnings, Reader, Others, others_from, call_from, call, named, paren, operation, begun, operand, turn, climb, more, further, HasNoOperator, HasNoIndex, IsEnd}
use Rattle.readings.proofs.Symbols.{above, within, behind_is, mark_is}
use Rattle.c_grammar.proofs.Symbols.{stops_more, stops_unary, below_unary, operator_is, beginning_is, beginning_text, tight_of}
use Rattle.c_grammar.proofs.Flat.{one_node, flat-Indexed, flat-CalledWith, flat-More, flat-Paren, flat-Binary}
use Rattle.readings.proofs.After.{other_end, found_is, after_found, stuck_is_not_found, room_found}

-- what is found
pub record Sound (k room : ℕ) (ss : List Symbol) (x : Formula) (rest : List Symbol) : Type 0 where
  pub leveled : IsLeveled x
  pub at_least : k ≤ level x
  pub shallow : depth x ≤ room
  pub spelled : ss ≡ formula_spelling x ++ rest
  pub ends : IsEnd k x rest

-- what is found as an operand
pub record Operand (room : ℕ) (ss : List Symbol) (x : Formula) (rest : List Symbol) : Type 0 where
  pub leveled : IsLeveled x
  pub at_least : unary_level ≤ level x
  pub shallow : depth x ≤ room
  pub spelled : ss ≡ formula_spelling x ++ rest
  pub no_index : HasNoIndex x rest

-- the loop before a rest: what was read, and what is behind it
pub record Ready (k room : ℕ) (x : Formula) (rest : List Symbol) : Type 0 where
  pub leveled : IsLeveled x
  pub at_least : k ≤ level x
  pub shallow : depth x ≤ room
  pub stops : HasNoOperator (suc (level x)) rest
  pub no_index : HasNoIndex x rest

-- an operator and its right part behind the expression left make one that goes on likewise
pub turned : (k room : ℕ) (left : Formula) (here : List Symbol) (op : Bin) (at : ℕ) (behind_op : List Symbol) (right : Formula) (s : List Symbol) → Ready k room left here → depth left < room → operator k here ≡ Some (op, at, behind_op)
    → Sound (suc (binary_level op)) (room - 1) behind_op right s → Ready k room (Binary op left at right) s × (formula_spelling (Binary op left at right) ++ s ≡ formula_spelling left ++ here)
turned k room left here op at behind_op right s r lt i x =
    let front = operator_is k here op at behind_op i in (
      record {
        leveled = (r.leveled, x.leveled, tight_of (level left) op at here behind_op r.stops front.spelled, omega (arith, x.at_least));
        at_least = front.strong;
        shallow = omega (arith, x.shallow);
        stops = x.ends.stops;
        no_index = x.ends.no_index;
      },
      flat-Binary op left at right s ∙ ap (λ u. formula_spelling left ++ (Symbol.Fixed at (binary_mark op) ∷ u)) (sym x.spelled) ∙ ap (λ u. formula_spelling left ++ u) (sym front.spelled),
    )

-- further arguments that are found
pub record SoundFurther (room : ℕ) (ss : List Symbol) (xs : Further) (rest : List Symbol) : Type 0 where
  pub leveled : IsLeveledFurther xs
  pub shallow : further_depth xs ≤ room
  pub spelled : ss ≡ further_spelling xs ++ rest

-- ---- operands

abbrev pub IsSound : Reader → Type 0
IsSound inner = (k room : ℕ) (ss : List Symbol) (x : Formula) (rest : List Symbol) → k ≤ unary_level → 1 ≤ room → inner k room ss ≡ Found x rest → Sound k room ss x rest

abbrev pub AreSound : Others → Type 0
AreSound others = (room : ℕ) (ss : List Symbol) (xs : Further) (rest : List Symbol) → 1 ≤ room → others room ss ≡ Found xs rest → SoundFurther room ss xs rest

module _ (inner : Reader) (sound : IsSound inner) (others : Others) (others_sound : AreSound others) where
  -- further arguments
  pub others_from_sound : (room : ℕ) (ss : List Symbol) (o : Option (ℕ × List Symbol)) (ys : Further) (rest : List Symbol) → 1 ≤ room → behind (codes ",") ss ≡ o
      → others_from inner others room ss o ≡ Found ys rest → SoundFurther room ss ys rest
  others_from_sound room ss None ys rest le i e = found_is (SoundFurther room ss) NoMore ys ss rest e (record { leveled = tt; shallow = omega arith; spelled = refl })
  others_from_sound room ss (Some (comma, inside)) ys rest le i e =
      let a = after_found (inner 0 room inside) _ ys rest e in
      let b = after_found (others room a.1) _ ys rest a.3 in
      let x = sound 0 room inside a.0 a.1 (omega arith) le a.2 in
      let xs = others_sound room a.1 b.0 b.1 le b.2 in
      let same : ss ≡ further_spelling (More comma a.0 b.0) ++ b.1 =
      behind_is (codes ",") ss comma inside i ∙ ap (λ u. Symbol.Fixed comma (codes ",") ∷ u) (x.spelled ∙ ap (λ u. formula_spelling a.0 ++ u) xs.spelled)
      ∙ sym (flat-More comma a.0 b.0 b.1) in
      found_is (SoundFurther room ss) (More comma a.0 b.0) ys b.1 rest b.3
      (record { leveled = (x.leveled, xs.leveled); shallow = omega (arith, x.shallow, xs.shallow); spelled = same })

  -- what stands behind a parenthesis
  call_from_sound : (room : ℕ) (n : Name) (p : ℕ) (ss : List Symbol) (o : Option (ℕ × List Symbol)) (y : Formula) (rest : List Symbol) → 1 ≤ room → behind (codes ")") ss ≡ o
      → call_from inner others room n p ss o ≡ Found y rest → Operand room (Symbol.Named n.at n.text ∷ Symbol.Fixed p (codes "(") ∷ ss) y rest
  call_from_sound room n p ss None y rest le i e =
      let has = room_found room ss _ y rest e in
      let a = after_found (inner 0 (room - 1) ss) _ y rest has.1 in
      let b = after_found (others (room - 1) a.1) _ y rest a.3 in
      let q = after_found (mark (codes ")") b.1) _ y rest b.3 in
      let x = sound 0 (room - 1) ss a.0 a.1 (omega arith) (omega (arith, has.0)) a.2 in
      let xs = others_sound (room - 1) a.1 b.0 b.1 (omega (arith, has.0)) b.2 in
      let same : Symbol.Named n.at n.text ∷ Symbol.Fixed p (codes "(") ∷ ss ≡ formula_spelling (CalledWith n p a.0 b.0 q.0) ++ q.1 =
      ap (λ u. Symbol.Named n.at n.text ∷ Symbol.Fixed p (codes "(") ∷ u)
      (x.spelled ∙ ap (λ u. formula_spelling a.0 ++ u) (xs.spelled ∙ ap (λ u. further_spelling b.0 ++ u) (mark_is (codes ")") b.1 q.0 q.1 q.2)))
      ∙ sym (flat-CalledWith n p a.0 b.0 q.0 q.1) in
      found_is (Operand room (Symbol.Named n.at n.text ∷ Symbol.Fixed p (codes "(") ∷ ss)) (CalledWith n p a.0 b.0 q.0) y q.1 rest q.3
      (record { leveled = (x.leveled, xs.leveled); at_least = lit≤ tt; shallow = omega (arith, has.0, x.shallow, xs.shallow); spelled = same; no_index = other_end })
  call_from_sound room n p ss (Some (q, inside)) y rest le i e =
      found_is (Operand room (Symbol.Named n.at n.text ∷ Symbol.Fixed p (codes "(") ∷ ss)) (Called n p q) y inside rest e
      (record {
        leveled = tt;
        at_least = lit≤ tt;
        shallow = le;
        spelled = ap (λ u. Symbol.Named n.at n.text ∷ Symbol.Fixed p (codes "(") ∷ u) (behind_is (codes ")") ss q inside i);
        no_index = other_end;
      })

  -- a name that no index follows
  call_sound : (room : ℕ) (n : Name) (ss : List Symbol) (o : Option (ℕ × List Symbol)) (y : Formula) (rest : List Symbol) → 1 ≤ room → behind (codes "[") ss ≡ None → behind (codes "(") ss ≡ o
      → call inner others room n ss o ≡ Found y rest → Operand room (Symbol.Named n.at n.text ∷ ss) y rest
  call_sound room n ss None y rest le i j e =
      found_is (Operand room (Symbol.Named n.at n.text ∷ ss)) (Named n) y ss rest e
      (record { leveled = tt; at_least = lit≤ tt; shallow = le; spelled = refl; no_index = λ _. record { bracket = i; parenthesis = j } })
  call_sound room n ss (Some (p, inside)) y rest le i j e =
      subst (λ u. Operand room (Symbol.Named n.at n.text ∷ u) y rest) (sym (behind_is (codes "(") ss p inside j))
      (call_from_sound room n p inside (behind (codes ")") inside) y rest le refl e)

  named_sound : (room : ℕ) (n : Name) (ss : List Symbol) (o : Option (ℕ × List Symbol)) (y : Formula) (rest : List Symbol) → 1 ≤ room → behind (codes "[") ss ≡ o
      → named inner others room n ss o ≡ Found y rest → Operand room (Symbol.Named n.at n.text ∷ ss) y rest
  named_sound room n ss None y rest le i e = call_sound room n ss (behind (codes "(") ss) y rest le i refl e
  named_sound room n ss (Some (p, inside)) y rest le i e =
      let has = room_found room ss _ y rest e in
      let a = after_found (inner 0 (room - 1) inside) _ y rest has.1 in
      let b = after_found (mark (codes "]") a.1) _ y rest a.3 in
      let x = sound 0 (room - 1) inside a.0 a.1 (omega arith) (omega (arith, has.0)) a.2 in
      let same : Symbol.Named n.at n.text ∷ ss ≡ formula_spelling (Indexed n p a.0 b.0) ++ b.1 =
      ap (λ u. Symbol.Named n.at n.text ∷ u) (behind_is (codes "[") ss p inside i)
      ∙ ap (λ u. Symbol.Named n.at n.text ∷ Symbol.Fixed p (codes "[") ∷ u) (x.spelled ∙ ap (λ u. formula_spelling a.0 ++ u) (mark_is (codes "]") a.1 b.0 b.1 b.2))
      ∙ sym (flat-Indexed n p a.0 b.0 b.1) in
      found_is (Operand room (Symbol.Named n.at n.text ∷ ss)) (Indexed n p a.0 b.0) y b.1 rest b.3
      (record { leveled = x.leveled; at_least = lit≤ tt; shallow = omega (arith, has.0, x.shallow); spelled = same; no_index = other_end })

  paren_sound : (room p : ℕ) (ss : List Symbol) (y : Formula) (rest : List Symbol) → 1 < room → paren inner room p ss ≡ Found y rest → Operand room (Symbol.Fixed p (codes "(") ∷ ss) y rest
  paren_sound room p ss y rest lt e =
      let a = after_found (inner 0 (room - 1) ss) _ y rest e in
      let b = after_found (mark (codes ")") a.1) _ y rest a.3 in
      let x = sound 0 (room - 1) ss a.0 a.1 (omega arith) (omega arith) a.2 in
      let same : Symbol.Fixed p (codes "(") ∷ ss ≡ formula_spelling (Paren p a.0 b.0) ++ b.1 =
      ap (λ u. Symbol.Fixed p (codes "(") ∷ u) (x.spelled ∙ ap (λ u. formula_spelling a.0 ++ u) (mark_is (codes ")") a.1 b.0 b.1 b.2))
      ∙ sym (flat-Paren p a.0 b.0 b.1) in
      found_is (Operand room (Symbol.Fixed p (codes "(") ∷ ss)) (Paren p a.0 b.0) y b.1 rest b.3
      (record { leveled = x.leveled; at_least = lit≤ tt; shallow = omega (arith, lt, x.shallow); spelled = same; no_index = other_end })

  operation_sound : (room : ℕ) (op : Prefix) (at : ℕ) (ss : List Symbol) (y : Formula) (rest : List Symbol) → 1 < room → operation inner room op at ss ≡ Found y rest → Operand room (Symbol.Fixed at (prefix_mark op) ∷ ss) y rest
  operation_sound room op at ss y rest lt e =
      let a = after_found (inner unary_level (room - 1) ss) _ y rest e in
      let x = sound unary_level (room - 1) ss a.0 a.1 (omega arith) (omega arith) a.2 in
      found_is (Operand room (Symbol.Fixed at (prefix_mark op) ∷ ss)) (Unary op at a.0) y a.1 rest a.3
      (record { leveled = (x.leveled, x.at_least); at_least = lit≤ tt; shallow = omega (arith, lt, x.shallow); spelled = ap (λ u. Symbol.Fixed at (prefix_mark op) ∷ u) x.spelled; no_index = x.ends.no_index })

  -- what begins with a mark
  begun_sound : (room at : ℕ) (text : List ℕ) (ss : List Symbol) (o : Option Beginning) (y : Formula) (rest : List Symbol) → looked_up beginnings text ≡ o
      → begun inner room (Symbol.Fixed at text ∷ ss) at ss o ≡ Found y rest → Operand room (Symbol.Fixed at text ∷ ss) y rest
  begun_sound room at text ss None y rest i e = stuck_is_not_found (Symbol.Fixed at text ∷ ss) y rest e
  begun_sound room at text ss (Some b) y rest i e = subst (λ t. Operand room (Symbol.Fixed at t ∷ ss) y rest) (sym (beginning_is text b i)) (by b e)
    where
      by : (b : Beginning) → begun inner room (Symbol.Fixed at text ∷ ss) at ss (Some b) ≡ Found y rest → Operand room (Symbol.Fixed at (beginning_text b) ∷ ss) y rest
      by Opening f = let has = room_found room (Symbol.Fixed at text ∷ ss) _ y rest f in paren_sound room at ss y rest has.0 has.1
      by (Operation op) f = let has = room_found room (Symbol.Fixed at text ∷ ss) _ y rest f in operation_sound room op at ss y rest has.0 has.1

  pub operand_sound : (room : ℕ) (ss : List Symbol) (y : Formula) (rest : List Symbol) → 1 ≤ room → operand inner others room ss ≡ Found y rest → Operand room ss y rest
  operand_sound room [] y rest le e = stuck_is_not_found [] y rest e
  operand_sound room (Symbol.Fixed at text ∷ ss) y rest le e = begun_sound room at text ss (looked_up beginnings text) y rest refl e
  operand_sound room (Symbol.Named at text ∷ ss) y rest le e = named_sound room (record { at = at; text = text }) ss (behind (codes "[") ss) y rest le refl e
  operand_sound room (Symbol.Number at value ∷ ss) y rest le e =
      found_is (Operand room (Symbol.Number at value ∷ ss)) (Numeral (record { at = at; value = value })) y ss rest e
      (record { leveled = tt; at_least = lit≤ tt; shallow = le; spelled = refl; no_index = other_end })
  operand_sound room (Symbol.Quoted at text ∷ ss) y rest le e = stuck_is_not_found (Symbol.Quoted at text ∷ ss) y rest e

  -- a turn of the loop
  turn_sound : (next : Formula → List Symbol → Read Formula) (k room : ℕ) (left : Formula) (here : List Symbol) (o : Option (Bin × ℕ × List Symbol)) (y : Formula) (rest : List Symbol) → 1 ≤ room
      → ((x : Formula) (s : List Symbol) → Ready k room x s → next x s ≡ Found y rest → Sound k room (formula_spelling x ++ s) y rest)
      → Ready k room left here → operator k here ≡ o → turn inner next room left here o ≡ Found y rest → Sound k room (formula_spelling left ++ here) y rest
  turn_sound next k room left here None y rest le goes r i e =
      found_is (Sound k room (formula_spelling left ++ here)) left y here rest e
      (record { leveled = r.leveled; at_least = r.at_least; shallow = r.shallow; spelled = refl; ends = record { stops = i; no_index = r.no_index } })
  turn_sound next k room left here (Some (op, at, behind_op)) y rest le goes r i e =
      ⊎_elim
      (λ (lt : depth left < room).
      let inside : Read Formula = inner (suc (binary_level op)) (room - 1) behind_op in
      let a = after_found inside (λ right s. next (Binary op left at right) s) y rest (sym (above room (depth left) (Stuck here) (read_on inside (λ right s. next (Binary op left at right) s)) lt) ∙ e) in
      let x = sound (suc (binary_level op)) (room - 1) behind_op a.0 a.1 (omega (arith, below_unary op)) (omega (arith, one_node left)) a.2 in
      let again = turned k room left here op at behind_op a.0 a.1 r lt i x in
      subst (λ ss. Sound k room ss y rest) again.1 (goes (Binary op left at a.0) a.1 again.0 a.3))
      (λ (deep : room ≤ depth left). stuck_is_not_found here y rest (sym (within room (depth left) (Stuck here) (read_on (inner (suc (binary_level op)) (room - 1) behind_op) (λ right s. next (Binary op left at right) s)) deep) ∙ e))
      (cases_lt (depth left) room)

-- ---- expressions
mutual
  pub climb_sound : (n : ℕ) → IsSound (climb n)
  climb_sound zero k room ss y rest le some e = absurd (cc)
  climb_sound (suc n) k room ss y rest le some e =
      let a = after_found (operand (climb n) (further n) room ss) (λ x s. more n k room x s) y rest e in
      let x = operand_sound (climb n) (climb_sound n) (further n) (further_sound n) room ss a.0 a.1 some a.2 in
      let ready : Ready k room a.0 a.1 = record { leveled = x.leveled; at_least = omega (arith, x.at_least); shallow = x.shallow; stops = stops_more unary_level (suc (level a.0)) a.1 (omega (arith, x.at_least)) (stops_unary a.1); no_index = x.no_index } in
      subst (λ us. Sound k room us y rest) (sym x.spelled) (more_sound n k room a.0 a.1 y rest le some ready a.3)

  more_sound : (n k room : ℕ) (left : Formula) (ss : List Symbol) (y : Formula) (rest : List Symbol) → k ≤ unary_level → 1 ≤ room → Ready k room left ss → more n k room left ss ≡ Found y rest → Sound k room (formula_spelling left ++ ss) y rest
  more_sound zero k room left ss y rest le some r e = absurd (cc)
  more_sound (suc n) k room left ss y rest le some r e =
      turn_sound (climb n) (climb_sound n) (further n) (further_sound n) (λ x s. more n k room x s) k room left ss (operator k ss) y rest some (λ x s ready f. more_sound n k room x s y rest le some ready f) r refl e

  pub further_sound : (n : ℕ) → AreSound (further n)
  further_sound zero room ss ys rest some e = absurd (cc)
  further_sound (suc n) room ss ys rest some e = others_from_sound (climb n) (climb_sound n) (further n) (further_sound n) room ss (behind (codes ",") ss) ys rest some refl e

-- what is found is an expression of level k or more, no deeper than there is room, spelled so, and as long as it goes
pub sound : (n k room : ℕ) (ss : List Symbol) (x : Formula) (rest : List Symbol) → k ≤ unary_level → 1 ≤ room → climb n k room ss ≡ Found x rest → Sound k room ss x rest
sound n = climb_sound n
