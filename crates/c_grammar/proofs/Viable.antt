-- Where a reading is stuck, what stands before can go on to be an expression: so the symbol there is the first that fits nothing.
use Rattle.std.proofs.Common.{◌≡◌, ℕ, zero, suc, ◌-◌, ◌<◌, ◌≤◌, List, [], ◌∷◌, ◌++◌, Option, Some, None, refl, ap, sym, ◌∙◌, subst, arith, lit≤, append_assoc, append-nil, ⊎_elim}
use Rattle.std.proofs.lemmas.Bool.{cases_lt}
use Rattle.std.specs.Prelude.{codes}
use Rattle.c_tree.specs.declared.names.Name.{Name}
use Rattle.c_tree.specs.declared.operator.Bin.{Bin}
use Rattle.readings.specs.Symbol.{Symbol}
use Rattle.c_tree.specs.Formula.{Formula, Further, Prefix, Numeral, Named, Indexed, Called, CalledWith, Paren, Unary, Binary, NoMore, More}
use Rattle.c_tree.specs.Spell.{formula_spelling, further_spelling, binary_mark, prefix_mark}
use Rattle.c_tree.specs.Level.{level, binary_level, unary_level, IsLeveledFurther}
use Rattle.c_tree.specs.Depth.{depth, further_depth}
use Rattle.readings.specs.Reading.{Read, Found, Stuck, read_on, looked_up, behind, mark, with_room}
use Rattle.c_grammar.specs.Reading.{operator, Beginning, Opening, Operation, beginnings, Reader, Others, others_from, arguments, call_from, call, named, paren, operation, begun, operand, turn, climb, more, further, IsGood}
use Rattle.readings.proofs.Symbols.{above, within, behind_is}
use Rattle.c_grammar.proofs.Symbols.{stops_more, stops_unary, below_unary, operator_is, beginning_is, tight_of}
use Rattle.c_grammar.proofs.Flat.{one_node, flat-Indexed, flat-CalledWith, flat-Paren}
use Rattle.c_grammar.proofs.Sound.{Ready, IsSound, AreSound, operand_sound, turned, climb_sound, further_sound}
use Rattle.readings.proofs.After.{stuck_is, after_stuck, room_stuck, found_not_stuck}
use Rattle.readings.proofs.Going.{Goes, Then, after_goes, IsDone, done_goes, glue, Closes, closes, closed_is}

-- what stands before the rest goes on to be such an expression
pub record Viable (k room : ℕ) (ss rest : List Symbol) : Type 0 where
  pub front : List Symbol
  pub further : List Symbol
  pub expression : Formula
  pub left : ss ≡ front ++ rest
  pub good : IsGood k room expression
  pub spelled : front ++ further ≡ formula_spelling expression

-- and to be such further arguments
pub record ViableFurther (room : ℕ) (ss rest : List Symbol) : Type 0 where
  pub front : List Symbol
  pub others : List Symbol
  pub arguments : Further
  pub left : ss ≡ front ++ rest
  pub leveled : IsLeveledFurther arguments
  pub shallow : further_depth arguments ≤ room
  pub spelled : front ++ others ≡ further_spelling arguments

-- an expression that is a part of another
pub record IsPart (k room : ℕ) (x : Formula) (u : List Symbol) : Type 0 where
  pub good : IsGood k room x
  pub spelled : u ≡ formula_spelling x

-- further arguments that are a part of another expression
pub record ArePart (room : ℕ) (xs : Further) (u : List Symbol) : Type 0 where
  pub leveled : IsLeveledFurther xs
  pub shallow : further_depth xs ≤ room
  pub spelled : u ≡ further_spelling xs

-- an operand with this symbol in front of the others
record IsNode (room : ℕ) (first : Symbol) (y : Formula) (w : List Symbol) : Type 0 where
  good : IsGood unary_level room y
  spelled : first ∷ w ≡ formula_spelling y

node_is : (room : ℕ) (first : Symbol) (x y : Formula) (w : List Symbol) → y ≡ x → IsGood unary_level room x → first ∷ w ≡ formula_spelling x → IsNode room first y w
node_is room first x y w e good spelled = subst (λ z. IsNode room first z w) (sym e) (record { good = good; spelled = spelled })

node_viable : (room : ℕ) (first : Symbol) (reads : List Symbol → Read Formula) (L : Formula → List Symbol → Type 0) (ss rest : List Symbol) → Goes reads L → ((y : Formula) (w : List Symbol) → L y w → IsNode room first y w)
    → reads ss ≡ Stuck rest → Viable unary_level room (first ∷ ss) rest
node_viable room first reads L ss rest goes make e =
    let a = goes.stuck ss rest e in
    let node = make a.2 (a.0 ++ a.1) a.4 in
    record { front = first ∷ a.0; further = a.1; expression = a.2; left = ap (λ t. first ∷ t) a.3; good = node.good; spelled = node.spelled }

-- nothing was read yet
viable_here : (k room : ℕ) (ss rest : List Symbol) → k ≤ unary_level → 1 ≤ room → ss ≡ rest → Viable k room ss rest
viable_here k room ss rest le some e =
    record { front = []; further = Symbol.Number 0 0 ∷ []; expression = Numeral (record { at = 0; value = 0 }); left = e; good = record { leveled = tt; at_least = omega arith; shallow = some }; spelled = refl }

-- ---- operands

abbrev pub IsViable : Reader → Type 0
IsViable inner = (k room : ℕ) (ss rest : List Symbol) → k ≤ unary_level → 1 ≤ room → inner k room ss ≡ Stuck rest → Viable k room ss rest

abbrev pub AreViable : Others → Type 0
AreViable others = (room : ℕ) (ss rest : List Symbol) → 1 ≤ room → others room ss ≡ Stuck rest → ViableFurther room ss rest

module _ (inner : Reader) (sound : IsSound inner) (viable : IsViable inner) (others : Others) (others_sound : AreSound others) (others_viable : AreViable others) where
  pub part_goes : (k room : ℕ) → k ≤ unary_level → 1 ≤ room → Goes (inner k room) (IsPart k room)
  part_goes k room le some = record {
    found = λ ss x rest e. let s = sound k room ss x rest le some e in (formula_spelling x, s.spelled, record { good = record { leveled = s.leveled; at_least = s.at_least; shallow = s.shallow }; spelled = refl });
    stuck = λ ss rest e. let v = viable k room ss rest le some e in (v.front, v.further, v.expression, v.left, record { good = v.good; spelled = v.spelled });
    some = (Numeral (record { at = 0; value = 0 }), Symbol.Number 0 0 ∷ [], record { good = record { leveled = tt; at_least = omega arith; shallow = some }; spelled = refl });
  }

  paren_viable : (room at : ℕ) (ss rest : List Symbol) → 1 < room → paren inner room at ss ≡ Stuck rest → Viable unary_level room (Symbol.Fixed at (codes "(") ∷ ss) rest
  paren_viable room at ss rest lt e =
      node_viable room (Symbol.Fixed at (codes "(")) (paren inner room at) (Then (IsPart 0 (room - 1)) (λ x. Closes (codes ")") (Paren at x))) ss rest
      (after_goes (inner 0 (room - 1)) _ (IsPart 0 (room - 1)) (λ x. Closes (codes ")") (Paren at x)) (part_goes 0 (room - 1) (omega arith) (omega arith)) (λ x. closes (codes ")") (Paren at x)))
      (λ y w t.
      let x = t.item in
      let q = t.second.item in
      let last = closed_is (codes ")") (Paren at x) y t.v t.second in
      node_is room (Symbol.Fixed at (codes "(")) (Paren at x q) y w t.second.second.same
      (record { leveled = t.first.good.leveled; at_least = lit≤ tt; shallow = omega (arith, t.first.good.shallow, lt) })
      (ap (λ u. Symbol.Fixed at (codes "(") ∷ u) (glue w t.u t.v (formula_spelling x) (Symbol.Fixed q (codes ")") ∷ []) t.joined t.first.spelled last)
      ∙ sym (flat-Paren at x q []) ∙ append-nil (formula_spelling (Paren at x q))))
      e

  others_goes : (room : ℕ) → 1 ≤ room → Goes (others room) (ArePart room)
  others_goes room some = record {
    found = λ ss xs rest e. let s = others_sound room ss xs rest some e in (further_spelling xs, s.spelled, record { leveled = s.leveled; shallow = s.shallow; spelled = refl });
    stuck = λ ss rest e. let v = others_viable room ss rest some e in (v.front, v.others, v.arguments, v.left, record { leveled = v.leveled; shallow = v.shallow; spelled = v.spelled });
    some = (NoMore, [], record { leveled = tt; shallow = omega arith; spelled = refl });
  }

  -- a further argument is stuck within itself or one behind it is
  others_from_viable : (room : ℕ) (ss rest : List Symbol) (o : Option (ℕ × List Symbol)) → 1 ≤ room → behind (codes ",") ss ≡ o → others_from inner others room ss o ≡ Stuck rest
      → ViableFurther room ss rest
  others_from_viable room ss rest None some i e = found_not_stuck NoMore ss rest e
  others_from_viable room ss rest (Some (comma, inside)) some i e =
      let goes = after_goes (inner 0 room) (λ x s. read_on (others room s) (λ xs t. Found (More comma x xs) t)) (IsPart 0 room) (λ x. Then (ArePart room) (λ xs. IsDone (More comma x xs)))
      (part_goes 0 room (omega arith) some)
      (λ x. after_goes (others room) (λ xs t. Found (More comma x xs) t) (ArePart room) (λ xs. IsDone (More comma x xs)) (others_goes room some) (λ xs. done_goes (More comma x xs))) in
      let a = goes.stuck inside rest e in
      let t = a.4 in
      let x = t.item in
      let t2 = t.second in
      let xs = t2.item in
      let w : List Symbol = a.0 ++ a.1 in
      let e2 = glue t.v t2.u t2.v (further_spelling xs) [] t2.joined t2.first.spelled t2.second.none ∙ append-nil (further_spelling xs) in
      let e1 = glue w t.u t.v (formula_spelling x) (further_spelling xs) t.joined t.first.spelled e2 in
      record {
        front = Symbol.Fixed comma (codes ",") ∷ a.0;
        others = a.1;
        arguments = More comma x xs;
        left = behind_is (codes ",") ss comma inside i ∙ ap (λ u. Symbol.Fixed comma (codes ",") ∷ u) a.3;
        leveled = (t.first.good.leveled, t2.first.leveled);
        shallow = omega (arith, t.first.good.shallow, t2.first.shallow);
        spelled = ap (λ u. Symbol.Fixed comma (codes ",") ∷ u) e1;
      }

  -- what stands behind a parenthesis: the closing one may be next
  call_from_viable : (room : ℕ) (n : Name) (p : ℕ) (ss rest : List Symbol) (o : Option (ℕ × List Symbol)) → 1 ≤ room → behind (codes ")") ss ≡ o
      → call_from inner others room n p ss o ≡ Stuck rest → Viable unary_level room (Symbol.Named n.at n.text ∷ Symbol.Fixed p (codes "(") ∷ ss) rest
  call_from_viable room n p ss rest (Some (q, inside)) some i e = found_not_stuck (Called n p q) inside rest e
  call_from_viable room n p ss rest None some i e =
      ⊎_elim
      (λ h. record {
        front = Symbol.Named n.at n.text ∷ Symbol.Fixed p (codes "(") ∷ [];
        further = Symbol.Fixed 0 (codes ")") ∷ [];
        expression = Called n p 0;
        left = ap (λ t. Symbol.Named n.at n.text ∷ Symbol.Fixed p (codes "(") ∷ t) h;
        good = record { leveled = tt; at_least = lit≤ tt; shallow = some };
        spelled = refl;
      })
      (λ h.
      let goes = after_goes (inner 0 (room - 1)) _ (IsPart 0 (room - 1)) (λ x. Then (ArePart (room - 1)) (λ xs. Closes (codes ")") (CalledWith n p x xs)))
      (part_goes 0 (room - 1) (omega arith) (omega (arith, h.0)))
      (λ x. after_goes (others (room - 1)) _ (ArePart (room - 1)) (λ xs. Closes (codes ")") (CalledWith n p x xs)) (others_goes (room - 1) (omega (arith, h.0)))
      (λ xs. closes (codes ")") (CalledWith n p x xs))) in
      let a = goes.stuck ss rest h.1 in
      let t = a.4 in
      let x = t.item in
      let t2 = t.second in
      let xs = t2.item in
      let t3 = t2.second in
      let q = t3.item in
      let w : List Symbol = a.0 ++ a.1 in
      let close : List Symbol = Symbol.Fixed q (codes ")") ∷ [] in
      let e3 = closed_is (codes ")") (CalledWith n p x xs) a.2 t2.v t3 in
      let e2 = glue t.v t2.u t2.v (further_spelling xs) close t2.joined t2.first.spelled e3 in
      let e1 = glue w t.u t.v (formula_spelling x) (further_spelling xs ++ close) t.joined t.first.spelled e2 in
      record {
        front = Symbol.Named n.at n.text ∷ Symbol.Fixed p (codes "(") ∷ a.0;
        further = a.1;
        expression = CalledWith n p x xs q;
        left = ap (λ u. Symbol.Named n.at n.text ∷ Symbol.Fixed p (codes "(") ∷ u) a.3;
        good = record { leveled = (t.first.good.leveled, t2.first.leveled); at_least = lit≤ tt; shallow = omega (arith, t.first.good.shallow, t2.first.shallow, h.0) };
        spelled = ap (λ u. Symbol.Named n.at n.text ∷ Symbol.Fixed p (codes "(") ∷ u) e1 ∙ sym (flat-CalledWith n p x xs q []) ∙ append-nil (formula_spelling (CalledWith n p x xs q));
      })
      (room_stuck room ss (arguments inner others room n p ss) rest e)

  call_viable : (room : ℕ) (n : Name) (ss rest : List Symbol) (o : Option (ℕ × List Symbol)) → 1 ≤ room → behind (codes "(") ss ≡ o → call inner others room n ss o ≡ Stuck rest
      → Viable unary_level room (Symbol.Named n.at n.text ∷ ss) rest
  call_viable room n ss rest None some i e = found_not_stuck (Named n) ss rest e
  call_viable room n ss rest (Some (p, inside)) some i e =
      subst (λ u. Viable unary_level room (Symbol.Named n.at n.text ∷ u) rest) (sym (behind_is (codes "(") ss p inside i))
      (call_from_viable room n p inside rest (behind (codes ")") inside) some refl e)

  operation_viable : (room : ℕ) (op : Prefix) (at : ℕ) (ss rest : List Symbol) → 1 < room → operation inner room op at ss ≡ Stuck rest → Viable unary_level room (Symbol.Fixed at (prefix_mark op) ∷ ss) rest
  operation_viable room op at ss rest lt e =
      node_viable room (Symbol.Fixed at (prefix_mark op)) (operation inner room op at) (Then (IsPart unary_level (room - 1)) (λ x. IsDone (Unary op at x))) ss rest
      (after_goes (inner unary_level (room - 1)) (λ x s. Found (Unary op at x) s) (IsPart unary_level (room - 1)) (λ x. IsDone (Unary op at x)) (part_goes unary_level (room - 1) (omega arith) (omega arith)) (λ x. done_goes (Unary op at x)))
      (λ y w t.
      let x = t.item in
      node_is room (Symbol.Fixed at (prefix_mark op)) (Unary op at x) y w t.second.same
      (record { leveled = (t.first.good.leveled, t.first.good.at_least); at_least = lit≤ tt; shallow = omega (arith, t.first.good.shallow, lt) })
      (ap (λ u. Symbol.Fixed at (prefix_mark op) ∷ u) (glue w t.u t.v (formula_spelling x) [] t.joined t.first.spelled t.second.none ∙ append-nil (formula_spelling x))))
      e

  -- a name is stuck at its bracket, or within it, or within its arguments
  named_viable : (room : ℕ) (n : Name) (ss rest : List Symbol) (o : Option (ℕ × List Symbol)) → 1 ≤ room → behind (codes "[") ss ≡ o → named inner others room n ss o ≡ Stuck rest → Viable unary_level room (Symbol.Named n.at n.text ∷ ss) rest
  named_viable room n ss rest None some i e = call_viable room n ss rest (behind (codes "(") ss) some refl e
  named_viable room n ss rest (Some (p, inside)) some i e =
      let next : Formula → List Symbol → Read Formula = λ x r. read_on (mark (codes "]") r) (λ q s. Found (Indexed n p x q) s) in
      let reads : List Symbol → Read Formula = λ t. read_on (inner 0 (room - 1) t) next in
      ⊎_elim
      (λ h. record { front = Symbol.Named n.at n.text ∷ []; further = []; expression = Named n; left = ap (λ t. Symbol.Named n.at n.text ∷ t) h; good = record { leveled = tt; at_least = lit≤ tt; shallow = some }; spelled = refl })
      (λ h.
      let goes = after_goes (inner 0 (room - 1)) next (IsPart 0 (room - 1)) (λ x. Closes (codes "]") (Indexed n p x)) (part_goes 0 (room - 1) (omega arith) (omega (arith, h.0))) (λ x. closes (codes "]") (Indexed n p x)) in
      let a = goes.stuck inside rest h.1 in
      let t = a.4 in
      let x = t.item in
      let q = t.second.item in
      let w : List Symbol = a.0 ++ a.1 in
      let e1 = glue w t.u t.v (formula_spelling x) (Symbol.Fixed q (codes "]") ∷ []) t.joined t.first.spelled (closed_is (codes "]") (Indexed n p x) a.2 t.v t.second) in
      record {
        front = Symbol.Named n.at n.text ∷ Symbol.Fixed p (codes "[") ∷ a.0;
        further = a.1;
        expression = Indexed n p x q;
        left = ap (λ u. Symbol.Named n.at n.text ∷ u) (behind_is (codes "[") ss p inside i) ∙ ap (λ u. Symbol.Named n.at n.text ∷ Symbol.Fixed p (codes "[") ∷ u) a.3;
        good = record { leveled = t.first.good.leveled; at_least = lit≤ tt; shallow = omega (arith, t.first.good.shallow, h.0) };
        spelled = ap (λ u. Symbol.Named n.at n.text ∷ Symbol.Fixed p (codes "[") ∷ u) e1 ∙ sym (flat-Indexed n p x q []) ∙ append-nil (formula_spelling (Indexed n p x q));
      })
      (room_stuck room ss (reads inside) rest e)

  -- what begins with a mark
  entered : (room : ℕ) (text : List ℕ) (other : List ℕ) (at : ℕ) (ss rest : List Symbol) (a : Read Formula) → 1 ≤ room → text ≡ other → (1 < room → a ≡ Stuck rest → Viable unary_level room (Symbol.Fixed at other ∷ ss) rest)
      → with_room room (Symbol.Fixed at text ∷ ss) a ≡ Stuck rest → Viable unary_level room (Symbol.Fixed at text ∷ ss) rest
  entered room text other at ss rest a some is inside e =
      ⊎_elim
      (λ h. viable_here unary_level room (Symbol.Fixed at text ∷ ss) rest (omega arith) some h)
      (λ h. subst (λ t. Viable unary_level room (Symbol.Fixed at t ∷ ss) rest) (sym is) (inside h.0 h.1))
      (room_stuck room (Symbol.Fixed at text ∷ ss) a rest e)

  begun_viable : (room at : ℕ) (text : List ℕ) (ss rest : List Symbol) (o : Option Beginning) → 1 ≤ room → looked_up beginnings text ≡ o → begun inner room (Symbol.Fixed at text ∷ ss) at ss o ≡ Stuck rest
      → Viable unary_level room (Symbol.Fixed at text ∷ ss) rest
  begun_viable room at text ss rest None some i e = viable_here unary_level room (Symbol.Fixed at text ∷ ss) rest (omega arith) some (stuck_is (Symbol.Fixed at text ∷ ss) rest e)
  begun_viable room at text ss rest (Some Opening) some i e = entered room text (codes "(") at ss rest (paren inner room at ss) some (beginning_is text Opening i) (λ lt f. paren_viable room at ss rest lt f) e
  begun_viable room at text ss rest (Some (Operation op)) some i e =
      entered room text (prefix_mark op) at ss rest (operation inner room op at ss) some (beginning_is text (Operation op) i) (λ lt f. operation_viable room op at ss rest lt f) e

  operand_viable : (room : ℕ) (ss rest : List Symbol) → 1 ≤ room → operand inner others room ss ≡ Stuck rest → Viable unary_level room ss rest
  operand_viable room [] rest some e = viable_here unary_level room [] rest (omega arith) some (stuck_is [] rest e)
  operand_viable room (Symbol.Fixed at text ∷ ss) rest some e = begun_viable room at text ss rest (looked_up beginnings text) some refl e
  operand_viable room (Symbol.Named at text ∷ ss) rest some e = named_viable room (record { at = at; text = text }) ss rest (behind (codes "[") ss) some refl e
  operand_viable room (Symbol.Number at value ∷ ss) rest some e = found_not_stuck (Numeral (record { at = at; value = value })) ss rest e
  operand_viable room (Symbol.Quoted at text ∷ ss) rest some e = viable_here unary_level room (Symbol.Quoted at text ∷ ss) rest (omega arith) some (stuck_is (Symbol.Quoted at text ∷ ss) rest e)

  -- a turn of the loop
  turn_viable : (next : Formula → List Symbol → Read Formula) (k room : ℕ) (left : Formula) (here rest : List Symbol) (o : Option (Bin × ℕ × List Symbol)) → 1 ≤ room
      → ((x : Formula) (s : List Symbol) → Ready k room x s → next x s ≡ Stuck rest → Viable k room (formula_spelling x ++ s) rest)
      → Ready k room left here → operator k here ≡ o → turn inner next room left here o ≡ Stuck rest → Viable k room (formula_spelling left ++ here) rest
  turn_viable next k room left here rest None some goes r i e = found_not_stuck left here rest e
  turn_viable next k room left here rest (Some (op, at, behind_op)) some goes r i e =
      let inside : Read Formula = inner (suc (binary_level op)) (room - 1) behind_op in
      let on : Formula → List Symbol → Read Formula = λ right s. next (Binary op left at right) s in
      ⊎_elim
      (λ (lt : depth left < room).
      ⊎_elim
      (λ h.
      let v = viable (suc (binary_level op)) (room - 1) behind_op rest (omega (arith, below_unary op)) (omega (arith, one_node left)) h in
      let front = operator_is k here op at behind_op i in
      let tight : binary_level op ≤ level left = tight_of (level left) op at here behind_op r.stops front.spelled in
      let y = v.expression in
      record {
        front = formula_spelling left ++ (Symbol.Fixed at (binary_mark op) ∷ v.front);
        further = v.further;
        expression = Binary op left at y;
        left = ap (λ u. formula_spelling left ++ u) (front.spelled ∙ ap (λ u. Symbol.Fixed at (binary_mark op) ∷ u) v.left) ∙ sym (append_assoc (formula_spelling left) (Symbol.Fixed at (binary_mark op) ∷ v.front) rest);
        good = record { leveled = (r.leveled, v.good.leveled, tight, omega (arith, v.good.at_least)); at_least = front.strong; shallow = omega (arith, v.good.shallow) };
        spelled = append_assoc (formula_spelling left) (Symbol.Fixed at (binary_mark op) ∷ v.front) v.further ∙ ap (λ u. formula_spelling left ++ (Symbol.Fixed at (binary_mark op) ∷ u)) v.spelled
            ∙ sym (append_assoc (formula_spelling left) (Symbol.Fixed at (binary_mark op) ∷ []) (formula_spelling y));
      })
      (λ h.
      let x = sound (suc (binary_level op)) (room - 1) behind_op h.0 h.1 (omega (arith, below_unary op)) (omega (arith, one_node left)) h.2 in
      let again = turned k room left here op at behind_op h.0 h.1 r lt i x in
      subst (λ ss. Viable k room ss rest) again.1 (goes (Binary op left at h.0) h.1 again.0 h.3))
      (after_stuck inside on rest (sym (above room (depth left) (Stuck here) (read_on inside on) lt) ∙ e)))
      (λ (deep : room ≤ depth left).
      let stuck = stuck_is here rest (sym (within room (depth left) (Stuck here) (read_on inside on) deep) ∙ e) in
      record {
        front = formula_spelling left;
        further = [];
        expression = left;
        left = ap (λ u. formula_spelling left ++ u) stuck;
        good = record { leveled = r.leveled; at_least = r.at_least; shallow = r.shallow };
        spelled = append-nil (formula_spelling left);
      })
      (cases_lt (depth left) room)

-- ---- expressions

weaker_viable : (k room : ℕ) (ss rest : List Symbol) → k ≤ unary_level → Viable unary_level room ss rest → Viable k room ss rest
weaker_viable k room ss rest le v =
    record { front = v.front; further = v.further; expression = v.expression; left = v.left; good = record { leveled = v.good.leveled; at_least = omega (arith, v.good.at_least); shallow = v.good.shallow }; spelled = v.spelled }

mutual
  climb_viable : (n : ℕ) → IsViable (climb n)
  climb_viable zero k room ss rest le some e = absurd (cc)
  climb_viable (suc n) k room ss rest le some e =
      ⊎_elim
      (λ h. weaker_viable k room ss rest le (operand_viable (climb n) (climb_sound n) (climb_viable n) (further n) (further_sound n) (further_viable n) room ss rest some h))
      (λ h.
      let x = operand_sound (climb n) (climb_sound n) (further n) (further_sound n) room ss h.0 h.1 some h.2 in
      let ready : Ready k room h.0 h.1 = record { leveled = x.leveled; at_least = omega (arith, x.at_least); shallow = x.shallow; stops = stops_more unary_level (suc (level h.0)) h.1 (omega (arith, x.at_least)) (stops_unary h.1); no_index = x.no_index } in
      subst (λ us. Viable k room us rest) (sym x.spelled) (more_viable n k room h.0 h.1 rest some ready h.3))
      (after_stuck (operand (climb n) (further n) room ss) (λ x s. more n k room x s) rest e)

  more_viable : (n k room : ℕ) (left : Formula) (ss rest : List Symbol) → 1 ≤ room → Ready k room left ss → more n k room left ss ≡ Stuck rest → Viable k room (formula_spelling left ++ ss) rest
  more_viable zero k room left ss rest some r e = absurd (cc)
  more_viable (suc n) k room left ss rest some r e =
      turn_viable (climb n) (climb_sound n) (climb_viable n) (further n) (further_sound n) (further_viable n) (λ x s. more n k room x s) k room left ss rest (operator k ss) some (λ x s ready f. more_viable n k room x s rest some ready f) r refl e

  further_viable : (n : ℕ) → AreViable (further n)
  further_viable zero room ss rest some e = absurd (cc)
  further_viable (suc n) room ss rest some e =
      others_from_viable (climb n) (climb_sound n) (climb_viable n) (further n) (further_sound n) (further_viable n) room ss rest (behind (codes ",") ss) some refl e

-- what stands before the symbol at which the reading is stuck goes on to be an expression of level k or more, no deeper than there is room
pub viable : (n k room : ℕ) (ss rest : List Symbol) → k ≤ unary_level → 1 ≤ room → climb n k room ss ≡ Stuck rest → Viable k room ss rest
viable n = climb_viable n
