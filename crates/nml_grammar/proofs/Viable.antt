-- Where a reading is stuck, what stands before can go on to be an expression: so the symbol there is the first that fits nothing.
use Rattle.std.proofs.Common.{◌≡◌, ℕ, zero, suc, ◌-◌, ◌<◌, ◌≤◌, List, [], ◌∷◌, ◌++◌, Option, Some, None, refl, ap, sym, ◌∙◌, subst, arith, lit≤, append_assoc, append-nil, ⊎_elim}
use Rattle.std.proofs.lemmas.Bool.{cases_lt}
use Rattle.std.specs.Prelude.{codes}
use Rattle.nml_tree.specs.declared.names.Name.{Name}
use Rattle.nml_tree.specs.declared.operator.Bin.{Bin}
use Rattle.nml_tree.specs.declared.tree.Size.{Size}
use Rattle.readings.specs.Symbol.{Symbol}
use Rattle.nml_tree.specs.Formula.{Formula, Prefix, Fit, Numeral, Truth, Named, Indexed, Paren, Fitted, Bits, Choose, Unary, Binary}
use Rattle.nml_tree.specs.Spell.{formula_spelling, binary_mark, prefix_mark, fit_word, size_spelling}
use Rattle.nml_tree.specs.Level.{level, binary_level, unary_level, IsLeveled}
use Rattle.nml_tree.specs.Depth.{depth}
use Rattle.readings.specs.Reading.{Read, Found, Stuck, read_on, looked_up, behind, mark, with_room}
use Rattle.nml_grammar.specs.Reading.{size, operator, Beginning, Value, Opening, Fitting, Slice, Choice, Operation, beginnings, Reader, index, paren, fitted, slice, choice, operation, begun, operand, turn, climb, more}
use Rattle.readings.proofs.Symbols.{above, within, behind_is}
use Rattle.nml_grammar.proofs.Symbols.{stops_more, stops_unary, below_unary, operator_is, size_is, beginning_is, tight_of}
use Rattle.nml_grammar.proofs.Flat.{one_node, flat-Indexed, flat-Paren, flat-Fitted, flat-Bits, flat-Choose}
use Rattle.nml_grammar.proofs.Sound.{Ready, IsSound, operand_sound, turned, climb_sound}
use Rattle.readings.proofs.After.{stuck_is, after_stuck, room_stuck, found_not_stuck}
use Rattle.readings.proofs.Going.{Goes, Then, after_goes, IsMark, mark_goes, IsDone, done_goes, glue, Closes, closes, closed_is}
use Rattle.nml_tree.specs.declared.tree.Size.TheVariants as size_case

-- the expression is one that may be read there
pub record IsGood (k room : ℕ) (x : Formula) : Type 0 where
  pub leveled : IsLeveled x
  pub at_least : k ≤ level x
  pub shallow : depth x ≤ room

-- what stands before the rest goes on to be such an expression
pub record Viable (k room : ℕ) (ss rest : List Symbol) : Type 0 where
  pub front : List Symbol
  pub further : List Symbol
  pub expression : Formula
  pub left : ss ≡ front ++ rest
  pub good : IsGood k room expression
  pub spelled : front ++ further ≡ formula_spelling expression

-- a size
pub size_stuck : (ss rest : List Symbol) → size ss ≡ Stuck rest → ss ≡ rest
size_stuck [] rest e = cc
size_stuck (Symbol.Fixed at text ∷ ss) rest e = cc
size_stuck (Symbol.Named at text ∷ ss) rest e = absurd (cc)
size_stuck (Symbol.Number at value ∷ ss) rest e = absurd (cc)
size_stuck (Symbol.Quoted at text ∷ ss) rest e = cc

abbrev IsSize : Size → List Symbol → Type 0
IsSize n u = u ≡ size_spelling n

abbrev zero_size : Size
zero_size = size_case.Number (record { at = 0; value = 0 })

size_goes : Goes size IsSize
size_goes = record {
  found = λ ss n rest e. (size_spelling n, size_is ss n rest e, refl);
  stuck = λ ss rest e. ([], Symbol.Number 0 0 ∷ [], zero_size, size_stuck ss rest e, refl);
  some = (zero_size, Symbol.Number 0 0 ∷ [], refl);
}

-- an expression that is a part of another
pub record IsPart (k room : ℕ) (x : Formula) (u : List Symbol) : Type 0 where
  pub good : IsGood k room x
  pub spelled : u ≡ formula_spelling x

-- an operand with this symbol in front of the others
record IsNode (room : ℕ) (first : Symbol) (y : Formula) (w : List Symbol) : Type 0 where
  good : IsGood unary_level room y
  spelled : first ∷ w ≡ formula_spelling y

node_is : (room : ℕ) (first : Symbol) (x y : Formula) (w : List Symbol) → y ≡ x → IsGood unary_level room x → first ∷ w ≡ formula_spelling x → IsNode room first y w
node_is room first x y w e good spelled = subst (λ z. IsNode room first z w) (sym e) (record { good = good; spelled = spelled })

node_viable : (room : ℕ) (first : Symbol) (reads : List Symbol → Read Formula) (L : Formula → List Symbol → Type 0) (ss rest : List Symbol) → Goes reads L → ((y : Formula) (w : List Symbol) → L y w → IsNode room first y w)
    → reads ss ≡ Stuck rest → Viable unary_level room (first ∷ ss) rest
node_viable room first reads L ss rest goes make e =
    let a = goes.stuck ss rest e in
    let node = make a.2 (a.0 ++ a.1) a.4 in
    record { front = first ∷ a.0; further = a.1; expression = a.2; left = ap (λ t. first ∷ t) a.3; good = node.good; spelled = node.spelled }

-- nothing was read yet
viable_here : (k room : ℕ) (ss rest : List Symbol) → k ≤ unary_level → 1 ≤ room → ss ≡ rest → Viable k room ss rest
viable_here k room ss rest le some e =
    record { front = []; further = Symbol.Number 0 0 ∷ []; expression = Numeral (record { at = 0; value = 0 }); left = e; good = record { leveled = tt; at_least = omega arith; shallow = some }; spelled = refl }

-- ---- operands

abbrev pub IsViable : Reader → Type 0
IsViable inner = (k room : ℕ) (ss rest : List Symbol) → k ≤ unary_level → 1 ≤ room → inner k room ss ≡ Stuck rest → Viable k room ss rest

module _ (inner : Reader) (sound : IsSound inner) (viable : IsViable inner) where
  pub part_goes : (k room : ℕ) → k ≤ unary_level → 1 ≤ room → Goes (inner k room) (IsPart k room)
  part_goes k room le some = record {
    found = λ ss x rest e. let s = sound k room ss x rest le some e in (formula_spelling x, s.spelled, record { good = record { leveled = s.leveled; at_least = s.at_least; shallow = s.shallow }; spelled = refl });
    stuck = λ ss rest e. let v = viable k room ss rest le some e in (v.front, v.further, v.expression, v.left, record { good = v.good; spelled = v.spelled });
    some = (Numeral (record { at = 0; value = 0 }), Symbol.Number 0 0 ∷ [], record { good = record { leveled = tt; at_least = omega arith; shallow = some }; spelled = refl });
  }

  paren_viable : (room at : ℕ) (ss rest : List Symbol) → 1 < room → paren inner room at ss ≡ Stuck rest → Viable unary_level room (Symbol.Fixed at (codes "(") ∷ ss) rest
  paren_viable room at ss rest lt e =
      node_viable room (Symbol.Fixed at (codes "(")) (paren inner room at) (Then (IsPart 0 (room - 1)) (λ x. Closes (codes ")") (Paren at x))) ss rest
      (after_goes (inner 0 (room - 1)) _ (IsPart 0 (room - 1)) (λ x. Closes (codes ")") (Paren at x)) (part_goes 0 (room - 1) (omega arith) (omega arith)) (λ x. closes (codes ")") (Paren at x)))
      (λ y w t.
      let x = t.item in
      let q = t.second.item in
      let last = closed_is (codes ")") (Paren at x) y t.v t.second in
      node_is room (Symbol.Fixed at (codes "(")) (Paren at x q) y w t.second.second.same
      (record { leveled = t.first.good.leveled; at_least = lit≤ tt; shallow = omega (arith, t.first.good.shallow, lt) })
      (ap (λ u. Symbol.Fixed at (codes "(") ∷ u) (glue w t.u t.v (formula_spelling x) (Symbol.Fixed q (codes ")") ∷ []) t.joined t.first.spelled last)
      ∙ sym (flat-Paren at x q []) ∙ append-nil (formula_spelling (Paren at x q))))
      e

  abbrev FittedRest : ℕ → Fit → ℕ → Formula → List Symbol → Type 0
  FittedRest room fit at = Then (IsMark (codes "(")) (λ p. Then IsSize (λ n. Then (IsMark (codes ",")) (λ c. Then (IsPart 0 (room - 1)) (λ x. Closes (codes ")") (λ q. Fitted fit at p n c x q)))))

  fitted_goes : (room : ℕ) (fit : Fit) (at : ℕ) → 1 < room → Goes (fitted inner room fit at) (FittedRest room fit at)
  fitted_goes room fit at lt =
      after_goes (mark (codes "(")) _ (IsMark (codes "(")) (λ p. Then IsSize (λ n. Then (IsMark (codes ",")) (λ c. Then (IsPart 0 (room - 1)) (λ x. Closes (codes ")") (λ q. Fitted fit at p n c x q))))) (mark_goes (codes "("))
      (λ p. after_goes size _ IsSize (λ n. Then (IsMark (codes ",")) (λ c. Then (IsPart 0 (room - 1)) (λ x. Closes (codes ")") (λ q. Fitted fit at p n c x q)))) size_goes
      (λ n. after_goes (mark (codes ",")) _ (IsMark (codes ",")) (λ c. Then (IsPart 0 (room - 1)) (λ x. Closes (codes ")") (λ q. Fitted fit at p n c x q))) (mark_goes (codes ","))
      (λ c. after_goes (inner 0 (room - 1)) _ (IsPart 0 (room - 1)) (λ x. Closes (codes ")") (λ q. Fitted fit at p n c x q)) (part_goes 0 (room - 1) (omega arith) (omega arith))
      (λ x. closes (codes ")") (λ q. Fitted fit at p n c x q)))))

  fitted_is : (room : ℕ) (fit : Fit) (at : ℕ) → 1 < room → (y : Formula) (w : List Symbol) → FittedRest room fit at y w → IsNode room (Symbol.Fixed at (fit_word fit)) y w
  fitted_is room fit at lt y w t =
      let p = t.item in
      let t2 = t.second in
      let n = t2.item in
      let t3 = t2.second in
      let c = t3.item in
      let t4 = t3.second in
      let x = t4.item in
      let t5 = t4.second in
      let q = t5.item in
      let e5 = closed_is (codes ")") (λ q. Fitted fit at p n c x q) y t4.v t5 in
      let w4 : List Symbol = formula_spelling x ++ (Symbol.Fixed q (codes ")") ∷ []) in
      let e4 = glue t3.v t4.u t4.v (formula_spelling x) (Symbol.Fixed q (codes ")") ∷ []) t4.joined t4.first.spelled e5 in
      let w3 : List Symbol = Symbol.Fixed c (codes ",") ∷ w4 in
      let e3 = glue t2.v t3.u t3.v (Symbol.Fixed c (codes ",") ∷ []) w4 t3.joined t3.first e4 in
      let e2 = glue t.v t2.u t2.v (size_spelling n) w3 t2.joined t2.first e3 in
      let e1 = glue w t.u t.v (Symbol.Fixed p (codes "(") ∷ []) (size_spelling n ++ w3) t.joined t.first e2 in
      node_is room (Symbol.Fixed at (fit_word fit)) (Fitted fit at p n c x q) y w t5.second.same
      (record { leveled = t4.first.good.leveled; at_least = lit≤ tt; shallow = omega (arith, t4.first.good.shallow, lt) })
      (ap (λ u. Symbol.Fixed at (fit_word fit) ∷ u) e1 ∙ sym (flat-Fitted fit at p n c x q []) ∙ append-nil (formula_spelling (Fitted fit at p n c x q)))

  abbrev SliceRest : ℕ → ℕ → Formula → List Symbol → Type 0
  SliceRest room at =
      Then (IsMark (codes "(")) (λ p. Then (IsPart 0 (room - 1)) (λ x. Then (IsMark (codes ",")) (λ c. Then IsSize (λ high. Then (IsMark (codes ",")) (λ d. Then IsSize (λ low. Closes (codes ")") (λ q. Bits at p x c high d low q)))))))

  slice_goes : (room at : ℕ) → 1 < room → Goes (slice inner room at) (SliceRest room at)
  slice_goes room at lt =
      after_goes (mark (codes "(")) _ (IsMark (codes "(")) (λ p. Then (IsPart 0 (room - 1)) (λ x. Then (IsMark (codes ",")) (λ c. Then IsSize (λ high. Then (IsMark (codes ",")) (λ d. Then IsSize (λ low. Closes (codes ")") (λ q. Bits at p x c high d low q))))))) (mark_goes (codes "("))
      (λ p. after_goes (inner 0 (room - 1)) _ (IsPart 0 (room - 1)) (λ x. Then (IsMark (codes ",")) (λ c. Then IsSize (λ high. Then (IsMark (codes ",")) (λ d. Then IsSize (λ low. Closes (codes ")") (λ q. Bits at p x c high d low q)))))) (part_goes 0 (room - 1) (omega arith) (omega arith))
      (λ x. after_goes (mark (codes ",")) _ (IsMark (codes ",")) (λ c. Then IsSize (λ high. Then (IsMark (codes ",")) (λ d. Then IsSize (λ low. Closes (codes ")") (λ q. Bits at p x c high d low q))))) (mark_goes (codes ","))
      (λ c. after_goes size _ IsSize (λ high. Then (IsMark (codes ",")) (λ d. Then IsSize (λ low. Closes (codes ")") (λ q. Bits at p x c high d low q)))) size_goes
      (λ high. after_goes (mark (codes ",")) _ (IsMark (codes ",")) (λ d. Then IsSize (λ low. Closes (codes ")") (λ q. Bits at p x c high d low q))) (mark_goes (codes ","))
      (λ d. after_goes size _ IsSize (λ low. Closes (codes ")") (λ q. Bits at p x c high d low q)) size_goes
      (λ low. closes (codes ")") (λ q. Bits at p x c high d low q)))))))

  slice_is : (room at : ℕ) → 1 < room → (y : Formula) (w : List Symbol) → SliceRest room at y w → IsNode room (Symbol.Fixed at (codes "bits")) y w
  slice_is room at lt y w t =
      let p = t.item in
      let t2 = t.second in
      let x = t2.item in
      let t3 = t2.second in
      let c = t3.item in
      let t4 = t3.second in
      let high = t4.item in
      let t5 = t4.second in
      let d = t5.item in
      let t6 = t5.second in
      let low = t6.item in
      let t7 = t6.second in
      let q = t7.item in
      let w7 : List Symbol = Symbol.Fixed q (codes ")") ∷ [] in
      let e7 = closed_is (codes ")") (λ q. Bits at p x c high d low q) y t6.v t7 in
      let e6 = glue t5.v t6.u t6.v (size_spelling low) w7 t6.joined t6.first e7 in
      let w5 : List Symbol = Symbol.Fixed d (codes ",") ∷ (size_spelling low ++ w7) in
      let e5 = glue t4.v t5.u t5.v (Symbol.Fixed d (codes ",") ∷ []) (size_spelling low ++ w7) t5.joined t5.first e6 in
      let e4 = glue t3.v t4.u t4.v (size_spelling high) w5 t4.joined t4.first e5 in
      let w3 : List Symbol = Symbol.Fixed c (codes ",") ∷ (size_spelling high ++ w5) in
      let e3 = glue t2.v t3.u t3.v (Symbol.Fixed c (codes ",") ∷ []) (size_spelling high ++ w5) t3.joined t3.first e4 in
      let e2 = glue t.v t2.u t2.v (formula_spelling x) w3 t2.joined t2.first.spelled e3 in
      let e1 = glue w t.u t.v (Symbol.Fixed p (codes "(") ∷ []) (formula_spelling x ++ w3) t.joined t.first e2 in
      node_is room (Symbol.Fixed at (codes "bits")) (Bits at p x c high d low q) y w t7.second.same
      (record { leveled = t2.first.good.leveled; at_least = lit≤ tt; shallow = omega (arith, t2.first.good.shallow, lt) })
      (ap (λ u. Symbol.Fixed at (codes "bits") ∷ u) e1 ∙ sym (flat-Bits at p x c high d low q []) ∙ append-nil (formula_spelling (Bits at p x c high d low q)))

  abbrev ChoiceRest : ℕ → ℕ → Formula → List Symbol → Type 0
  ChoiceRest room at =
      Then (IsPart 0 (room - 1)) (λ c. Then (IsMark (codes "then")) (λ t. Then (IsPart 0 (room - 1)) (λ x. Then (IsMark (codes "else")) (λ f. Then (IsPart 0 (room - 1)) (λ y. Closes (codes "endif") (λ end. Choose at c t x f y end))))))

  choice_goes : (room at : ℕ) → 1 < room → Goes (choice inner room at) (ChoiceRest room at)
  choice_goes room at lt =
      after_goes (inner 0 (room - 1)) _ (IsPart 0 (room - 1)) (λ c. Then (IsMark (codes "then")) (λ t. Then (IsPart 0 (room - 1)) (λ x. Then (IsMark (codes "else")) (λ f. Then (IsPart 0 (room - 1)) (λ y. Closes (codes "endif") (λ end. Choose at c t x f y end)))))) (part_goes 0 (room - 1) (omega arith) (omega arith))
      (λ c. after_goes (mark (codes "then")) _ (IsMark (codes "then")) (λ t. Then (IsPart 0 (room - 1)) (λ x. Then (IsMark (codes "else")) (λ f. Then (IsPart 0 (room - 1)) (λ y. Closes (codes "endif") (λ end. Choose at c t x f y end))))) (mark_goes (codes "then"))
      (λ t. after_goes (inner 0 (room - 1)) _ (IsPart 0 (room - 1)) (λ x. Then (IsMark (codes "else")) (λ f. Then (IsPart 0 (room - 1)) (λ y. Closes (codes "endif") (λ end. Choose at c t x f y end)))) (part_goes 0 (room - 1) (omega arith) (omega arith))
      (λ x. after_goes (mark (codes "else")) _ (IsMark (codes "else")) (λ f. Then (IsPart 0 (room - 1)) (λ y. Closes (codes "endif") (λ end. Choose at c t x f y end))) (mark_goes (codes "else"))
      (λ f. after_goes (inner 0 (room - 1)) _ (IsPart 0 (room - 1)) (λ y. Closes (codes "endif") (λ end. Choose at c t x f y end)) (part_goes 0 (room - 1) (omega arith) (omega arith))
      (λ y. closes (codes "endif") (λ end. Choose at c t x f y end))))))

  choice_is : (room at : ℕ) → 1 < room → (z : Formula) (w : List Symbol) → ChoiceRest room at z w → IsNode room (Symbol.Fixed at (codes "if")) z w
  choice_is room at lt z w t =
      let c = t.item in
      let t2 = t.second in
      let m = t2.item in
      let t3 = t2.second in
      let x = t3.item in
      let t4 = t3.second in
      let f = t4.item in
      let t5 = t4.second in
      let y = t5.item in
      let t6 = t5.second in
      let q = t6.item in
      let w6 : List Symbol = Symbol.Fixed q (codes "endif") ∷ [] in
      let e6 = closed_is (codes "endif") (λ end. Choose at c m x f y end) z t5.v t6 in
      let e5 = glue t4.v t5.u t5.v (formula_spelling y) w6 t5.joined t5.first.spelled e6 in
      let w4 : List Symbol = Symbol.Fixed f (codes "else") ∷ (formula_spelling y ++ w6) in
      let e4 = glue t3.v t4.u t4.v (Symbol.Fixed f (codes "else") ∷ []) (formula_spelling y ++ w6) t4.joined t4.first e5 in
      let e3 = glue t2.v t3.u t3.v (formula_spelling x) w4 t3.joined t3.first.spelled e4 in
      let w2 : List Symbol = Symbol.Fixed m (codes "then") ∷ (formula_spelling x ++ w4) in
      let e2 = glue t.v t2.u t2.v (Symbol.Fixed m (codes "then") ∷ []) (formula_spelling x ++ w4) t2.joined t2.first e3 in
      let e1 = glue w t.u t.v (formula_spelling c) w2 t.joined t.first.spelled e2 in
      node_is room (Symbol.Fixed at (codes "if")) (Choose at c m x f y q) z w t6.second.same
      (record { leveled = (t.first.good.leveled, t3.first.good.leveled, t5.first.good.leveled); at_least = lit≤ tt; shallow = omega (arith, t.first.good.shallow, t3.first.good.shallow, t5.first.good.shallow, lt) })
      (ap (λ u. Symbol.Fixed at (codes "if") ∷ u) e1 ∙ sym (flat-Choose at c m x f y q []) ∙ append-nil (formula_spelling (Choose at c m x f y q)))

  operation_viable : (room : ℕ) (op : Prefix) (at : ℕ) (ss rest : List Symbol) → 1 < room → operation inner room op at ss ≡ Stuck rest → Viable unary_level room (Symbol.Fixed at (prefix_mark op) ∷ ss) rest
  operation_viable room op at ss rest lt e =
      node_viable room (Symbol.Fixed at (prefix_mark op)) (operation inner room op at) (Then (IsPart unary_level (room - 1)) (λ x. IsDone (Unary op at x))) ss rest
      (after_goes (inner unary_level (room - 1)) (λ x s. Found (Unary op at x) s) (IsPart unary_level (room - 1)) (λ x. IsDone (Unary op at x)) (part_goes unary_level (room - 1) (omega arith) (omega arith)) (λ x. done_goes (Unary op at x)))
      (λ y w t.
      let x = t.item in
      node_is room (Symbol.Fixed at (prefix_mark op)) (Unary op at x) y w t.second.same
      (record { leveled = (t.first.good.leveled, t.first.good.at_least); at_least = lit≤ tt; shallow = omega (arith, t.first.good.shallow, lt) })
      (ap (λ u. Symbol.Fixed at (prefix_mark op) ∷ u) (glue w t.u t.v (formula_spelling x) [] t.joined t.first.spelled t.second.none ∙ append-nil (formula_spelling x))))
      e

  -- a name is stuck at its bracket, or within it
  index_viable : (room : ℕ) (n : Name) (ss rest : List Symbol) (o : Option (ℕ × List Symbol)) → 1 ≤ room → behind (codes "[") ss ≡ o → index inner room n ss o ≡ Stuck rest → Viable unary_level room (Symbol.Named n.at n.text ∷ ss) rest
  index_viable room n ss rest None some i e = found_not_stuck (Named n) ss rest e
  index_viable room n ss rest (Some (p, inside)) some i e =
      let next : Formula → List Symbol → Read Formula = λ x r. read_on (mark (codes "]") r) (λ q s. Found (Indexed n p x q) s) in
      let reads : List Symbol → Read Formula = λ t. read_on (inner 0 (room - 1) t) next in
      ⊎_elim
      (λ h. record { front = Symbol.Named n.at n.text ∷ []; further = []; expression = Named n; left = ap (λ t. Symbol.Named n.at n.text ∷ t) h; good = record { leveled = tt; at_least = lit≤ tt; shallow = some }; spelled = refl })
      (λ h.
      let goes = after_goes (inner 0 (room - 1)) next (IsPart 0 (room - 1)) (λ x. Closes (codes "]") (Indexed n p x)) (part_goes 0 (room - 1) (omega arith) (omega (arith, h.0))) (λ x. closes (codes "]") (Indexed n p x)) in
      let a = goes.stuck inside rest h.1 in
      let t = a.4 in
      let x = t.item in
      let q = t.second.item in
      let w : List Symbol = a.0 ++ a.1 in
      let e1 = glue w t.u t.v (formula_spelling x) (Symbol.Fixed q (codes "]") ∷ []) t.joined t.first.spelled (closed_is (codes "]") (Indexed n p x) a.2 t.v t.second) in
      record {
        front = Symbol.Named n.at n.text ∷ Symbol.Fixed p (codes "[") ∷ a.0;
        further = a.1;
        expression = Indexed n p x q;
        left = ap (λ u. Symbol.Named n.at n.text ∷ u) (behind_is (codes "[") ss p inside i) ∙ ap (λ u. Symbol.Named n.at n.text ∷ Symbol.Fixed p (codes "[") ∷ u) a.3;
        good = record { leveled = t.first.good.leveled; at_least = lit≤ tt; shallow = omega (arith, t.first.good.shallow, h.0) };
        spelled = ap (λ u. Symbol.Named n.at n.text ∷ Symbol.Fixed p (codes "[") ∷ u) e1 ∙ sym (flat-Indexed n p x q []) ∙ append-nil (formula_spelling (Indexed n p x q));
      })
      (room_stuck room ss (reads inside) rest e)

  -- what begins with a keyword or a mark
  entered : (room : ℕ) (text : List ℕ) (other : List ℕ) (at : ℕ) (ss rest : List Symbol) (a : Read Formula) → 1 ≤ room → text ≡ other → (1 < room → a ≡ Stuck rest → Viable unary_level room (Symbol.Fixed at other ∷ ss) rest)
      → with_room room (Symbol.Fixed at text ∷ ss) a ≡ Stuck rest → Viable unary_level room (Symbol.Fixed at text ∷ ss) rest
  entered room text other at ss rest a some is inside e =
      ⊎_elim
      (λ h. viable_here unary_level room (Symbol.Fixed at text ∷ ss) rest (omega arith) some h)
      (λ h. subst (λ t. Viable unary_level room (Symbol.Fixed at t ∷ ss) rest) (sym is) (inside h.0 h.1))
      (room_stuck room (Symbol.Fixed at text ∷ ss) a rest e)

  begun_viable : (room at : ℕ) (text : List ℕ) (ss rest : List Symbol) (o : Option Beginning) → 1 ≤ room → looked_up beginnings text ≡ o → begun inner room (Symbol.Fixed at text ∷ ss) at ss o ≡ Stuck rest
      → Viable unary_level room (Symbol.Fixed at text ∷ ss) rest
  begun_viable room at text ss rest None some i e = viable_here unary_level room (Symbol.Fixed at text ∷ ss) rest (omega arith) some (stuck_is (Symbol.Fixed at text ∷ ss) rest e)
  begun_viable room at text ss rest (Some (Value b)) some i e = found_not_stuck (Truth at b) ss rest e
  begun_viable room at text ss rest (Some Opening) some i e = entered room text (codes "(") at ss rest (paren inner room at ss) some (beginning_is text Opening i) (λ lt f. paren_viable room at ss rest lt f) e
  begun_viable room at text ss rest (Some (Fitting fit)) some i e =
      entered room text (fit_word fit) at ss rest (fitted inner room fit at ss) some (beginning_is text (Fitting fit) i)
      (λ lt f. node_viable room (Symbol.Fixed at (fit_word fit)) (fitted inner room fit at) (FittedRest room fit at) ss rest (fitted_goes room fit at lt) (fitted_is room fit at lt) f) e
  begun_viable room at text ss rest (Some Slice) some i e =
      entered room text (codes "bits") at ss rest (slice inner room at ss) some (beginning_is text Slice i)
      (λ lt f. node_viable room (Symbol.Fixed at (codes "bits")) (slice inner room at) (SliceRest room at) ss rest (slice_goes room at lt) (slice_is room at lt) f) e
  begun_viable room at text ss rest (Some Choice) some i e =
      entered room text (codes "if") at ss rest (choice inner room at ss) some (beginning_is text Choice i)
      (λ lt f. node_viable room (Symbol.Fixed at (codes "if")) (choice inner room at) (ChoiceRest room at) ss rest (choice_goes room at lt) (choice_is room at lt) f) e
  begun_viable room at text ss rest (Some (Operation op)) some i e =
      entered room text (prefix_mark op) at ss rest (operation inner room op at ss) some (beginning_is text (Operation op) i) (λ lt f. operation_viable room op at ss rest lt f) e

  operand_viable : (room : ℕ) (ss rest : List Symbol) → 1 ≤ room → operand inner room ss ≡ Stuck rest → Viable unary_level room ss rest
  operand_viable room [] rest some e = viable_here unary_level room [] rest (omega arith) some (stuck_is [] rest e)
  operand_viable room (Symbol.Fixed at text ∷ ss) rest some e = begun_viable room at text ss rest (looked_up beginnings text) some refl e
  operand_viable room (Symbol.Named at text ∷ ss) rest some e = index_viable room (record { at = at; text = text }) ss rest (behind (codes "[") ss) some refl e
  operand_viable room (Symbol.Number at value ∷ ss) rest some e = found_not_stuck (Numeral (record { at = at; value = value })) ss rest e
  operand_viable room (Symbol.Quoted at text ∷ ss) rest some e = viable_here unary_level room (Symbol.Quoted at text ∷ ss) rest (omega arith) some (stuck_is (Symbol.Quoted at text ∷ ss) rest e)

  -- a turn of the loop
  turn_viable : (next : Formula → List Symbol → Read Formula) (k room : ℕ) (left : Formula) (here rest : List Symbol) (o : Option (Bin × ℕ × List Symbol)) → 1 ≤ room
      → ((x : Formula) (s : List Symbol) → Ready k room x s → next x s ≡ Stuck rest → Viable k room (formula_spelling x ++ s) rest)
      → Ready k room left here → operator k here ≡ o → turn inner next room left here o ≡ Stuck rest → Viable k room (formula_spelling left ++ here) rest
  turn_viable next k room left here rest None some goes r i e = found_not_stuck left here rest e
  turn_viable next k room left here rest (Some (op, at, behind_op)) some goes r i e =
      let inside : Read Formula = inner (suc (binary_level op)) (room - 1) behind_op in
      let on : Formula → List Symbol → Read Formula = λ right s. next (Binary op left at right) s in
      ⊎_elim
      (λ (lt : depth left < room).
      ⊎_elim
      (λ h.
      let v = viable (suc (binary_level op)) (room - 1) behind_op rest (omega (arith, below_unary op)) (omega (arith, one_node left)) h in
      let front = operator_is k here op at behind_op i in
      let tight : binary_level op ≤ level left = tight_of (level left) op at here behind_op r.stops front.spelled in
      let y = v.expression in
      record {
        front = formula_spelling left ++ (Symbol.Fixed at (binary_mark op) ∷ v.front);
        further = v.further;
        expression = Binary op left at y;
        left = ap (λ u. formula_spelling left ++ u) (front.spelled ∙ ap (λ u. Symbol.Fixed at (binary_mark op) ∷ u) v.left) ∙ sym (append_assoc (formula_spelling left) (Symbol.Fixed at (binary_mark op) ∷ v.front) rest);
        good = record { leveled = (r.leveled, v.good.leveled, tight, omega (arith, v.good.at_least)); at_least = front.strong; shallow = omega (arith, v.good.shallow) };
        spelled = append_assoc (formula_spelling left) (Symbol.Fixed at (binary_mark op) ∷ v.front) v.further ∙ ap (λ u. formula_spelling left ++ (Symbol.Fixed at (binary_mark op) ∷ u)) v.spelled
            ∙ sym (append_assoc (formula_spelling left) (Symbol.Fixed at (binary_mark op) ∷ []) (formula_spelling y));
      })
      (λ h.
      let x = sound (suc (binary_level op)) (room - 1) behind_op h.0 h.1 (omega (arith, below_unary op)) (omega (arith, one_node left)) h.2 in
      let again = turned k room left here op at behind_op h.0 h.1 r lt i x in
      subst (λ ss. Viable k room ss rest) again.1 (goes (Binary op left at h.0) h.1 again.0 h.3))
      (after_stuck inside on rest (sym (above room (depth left) (Stuck here) (read_on inside on) lt) ∙ e)))
      (λ (deep : room ≤ depth left).
      let stuck = stuck_is here rest (sym (within room (depth left) (Stuck here) (read_on inside on) deep) ∙ e) in
      record {
        front = formula_spelling left;
        further = [];
        expression = left;
        left = ap (λ u. formula_spelling left ++ u) stuck;
        good = record { leveled = r.leveled; at_least = r.at_least; shallow = r.shallow };
        spelled = append-nil (formula_spelling left);
      })
      (cases_lt (depth left) room)

-- ---- expressions

weaker_viable : (k room : ℕ) (ss rest : List Symbol) → k ≤ unary_level → Viable unary_level room ss rest → Viable k room ss rest
weaker_viable k room ss rest le v =
    record { front = v.front; further = v.further; expression = v.expression; left = v.left; good = record { leveled = v.good.leveled; at_least = omega (arith, v.good.at_least); shallow = v.good.shallow }; spelled = v.spelled }

mutual
  climb_viable : (n : ℕ) → IsViable (climb n)
  climb_viable zero k room ss rest le some e = absurd (cc)
  climb_viable (suc n) k room ss rest le some e =
      ⊎_elim
      (λ h. weaker_viable k room ss rest le (operand_viable (climb n) (climb_sound n) (climb_viable n) room ss rest some h))
      (λ h.
      let x = operand_sound (climb n) (climb_sound n) room ss h.0 h.1 some h.2 in
      let ready : Ready k room h.0 h.1 = record { leveled = x.leveled; at_least = omega (arith, x.at_least); shallow = x.shallow; stops = stops_more unary_level (suc (level h.0)) h.1 (omega (arith, x.at_least)) (stops_unary h.1); no_index = x.no_index } in
      subst (λ us. Viable k room us rest) (sym x.spelled) (more_viable n k room h.0 h.1 rest some ready h.3))
      (after_stuck (operand (climb n) room ss) (λ x s. more n k room x s) rest e)

  more_viable : (n k room : ℕ) (left : Formula) (ss rest : List Symbol) → 1 ≤ room → Ready k room left ss → more n k room left ss ≡ Stuck rest → Viable k room (formula_spelling left ++ ss) rest
  more_viable zero k room left ss rest some r e = absurd (cc)
  more_viable (suc n) k room left ss rest some r e =
      turn_viable (climb n) (climb_sound n) (climb_viable n) (λ x s. more n k room x s) k room left ss rest (operator k ss) some (λ x s ready f. more_viable n k room x s rest some ready f) r refl e

-- what stands before the symbol at which the reading is stuck goes on to be an expression of level k or more, no deeper than there is room
pub viable : (n k room : ℕ) (ss rest : List Symbol) → k ≤ unary_level → 1 ≤ room → climb n k room ss ≡ Stuck rest → Viable k room ss rest
viable n = climb_viable n
