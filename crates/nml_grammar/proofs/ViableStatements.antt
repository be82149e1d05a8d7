-- Where a reading of statements is stuck, what stands before can go on to be statements: so the symbol there is the first that fits nothing.
use Rattle.std.proofs.Common.{◌≡◌, ℕ, zero, suc, ◌-◌, ◌<◌, ◌≤◌, List, [], ◌∷◌, ◌++◌, Option, Some, None, refl, ap, sym, ◌∙◌, subst, arith, append_assoc, append-nil, ⊎_elim}
use Rattle.std.specs.Prelude.{codes}
use Rattle.nml_tree.specs.declared.names.Name.{Name}
use Rattle.readings.specs.Symbol.{Symbol, Fixed, Named}
use Rattle.nml_tree.specs.Formula.{Formula}
use Rattle.nml_tree.specs.Block.{Block, Index, Done, Assign, Part, Halt, If, IfElse}
use Rattle.nml_tree.specs.Spell.{formula_spelling, block_spelling}
use Rattle.nml_tree.specs.Level.{IsLeveled, IsLeveledBlock}
use Rattle.nml_tree.specs.Depth.{depth, block_depth}
use Rattle.readings.specs.Reading.{Read, Found, Stuck, read_on, behind, mark, with_room}
use Rattle.nml_grammar.specs.Reading.{climb}
use Rattle.nml_grammar.specs.ReadingStatements.{Start, Naming, Halting, Branching, start, Blocks, part, assignment, place, naming, halting, branch_end, branching, statement, block_from, statements}
use Rattle.readings.proofs.Symbols.{behind_is}
use Rattle.nml_grammar.proofs.Flat.{one_node}
use Rattle.nml_grammar.proofs.FlatStatements.{flat-Assign, flat-Assign_at, flat-Halt, flat-If, flat-IfElse}
use Rattle.readings.proofs.After.{room_found, room_stuck, found_not_stuck}
use Rattle.nml_grammar.proofs.Sound.{climb_sound}
use Rattle.nml_grammar.proofs.SoundStatements.{start_symbol, start_is, Fits, sound_block}
use Rattle.readings.proofs.Going.{Goes, GoesAt, at_of, Then, after_at, after_goes, IsMark, mark_goes, IsDone, done_goes, glue, Closes, closes, closed_is}
use Rattle.nml_grammar.proofs.Viable.{IsPart, part_goes, viable}

-- what stands before the rest goes on to be such statements
pub record ViableBlock (room : ℕ) (ss rest : List Symbol) : Type 0 where
  pub front : List Symbol
  pub further : List Symbol
  pub statements : Block
  pub left : ss ≡ front ++ rest
  pub leveled : IsLeveledBlock statements
  pub shallow : block_depth statements ≤ room
  pub spelled : front ++ further ≡ block_spelling statements

-- ---- what may be read there

-- these statements
abbrev IsBlock : ℕ → Block → List Symbol → Type 0
IsBlock room b u = Fits room u b []

-- this statement, which is put before a block
abbrev IsStatement : ℕ → (Block → Block) → List Symbol → Type 0
IsStatement room put u = (b : Block) (v : List Symbol) → IsBlock room b v → IsBlock room (put b) (u ++ v)

-- what equals one is one
statement_is : (room : ℕ) (x y : Block → Block) (u w : List Symbol) → y ≡ x → w ≡ u → IsStatement room x u → IsStatement room y w
statement_is room x y u w e f h = subst (λ z. IsStatement room z w) (sym e) (subst (λ t. IsStatement room x t) (sym f) h)

-- the symbol of a name
abbrev named : Name → Symbol
named n = Named n.at n.text

-- one of each kind: `NAME . action ;`
a_part : (room : ℕ) (n : Name) (dot at semicolon : ℕ) → 1 ≤ room
    → IsStatement room (Part n dot at semicolon) (named n ∷ Fixed dot (codes ".") ∷ Fixed at (codes "action") ∷ Fixed semicolon (codes ";") ∷ [])
a_part room n dot at semicolon some b v h = record {
  leveled = h.leveled;
  shallow = omega (arith, some, h.shallow);
  spelled = ap (λ u. named n ∷ Fixed dot (codes ".") ∷ Fixed at (codes "action") ∷ Fixed semicolon (codes ";") ∷ u) h.spelled;
}

-- `NAME = e ;`
an_assignment : (room : ℕ) (n : Name) (at : ℕ) (e : Formula) (semicolon : ℕ) → IsLeveled e → depth e < room
    → IsStatement room (Assign n None at e semicolon) (named n ∷ Fixed at (codes "=") ∷ (formula_spelling e ++ (Fixed semicolon (codes ";") ∷ [])))
an_assignment room n at e semicolon leveled lt b v h = record {
  leveled = (tt, leveled, h.leveled);
  shallow = omega (arith, lt, h.shallow, one_node e);
  spelled = ap (λ u. named n ∷ Fixed at (codes "=") ∷ u)
      (append_assoc (formula_spelling e) (Fixed semicolon (codes ";") ∷ []) v ∙ ap (λ u. formula_spelling e ++ (Fixed semicolon (codes ";") ∷ u)) h.spelled)
      ∙ sym (flat-Assign n at e semicolon b []);
}

-- `NAME [ e ] = e ;`
an_assignment_at : (room : ℕ) (n : Name) (p : ℕ) (i : Formula) (q at : ℕ) (e : Formula) (semicolon : ℕ) → IsLeveled i → suc (depth i) < room → IsLeveled e
    → depth e < room
    → IsStatement room (Assign n (Some (p, i, q)) at e semicolon) (named n ∷ Fixed p (codes "[") ∷ (formula_spelling i ++ (Fixed q (codes "]")
    ∷ Fixed at (codes "=") ∷ (formula_spelling e ++ (Fixed semicolon (codes ";") ∷ [])))))
an_assignment_at room n p i q at e semicolon index less leveled lt b v h =
    let last : List Symbol = formula_spelling e ++ (Fixed semicolon (codes ";") ∷ []) in
    record {
      leveled = (index, leveled, h.leveled);
      shallow = omega (arith, less, lt, h.shallow);
      spelled = ap (λ u. named n ∷ Fixed p (codes "[") ∷ u)
          (append_assoc (formula_spelling i) (Fixed q (codes "]") ∷ Fixed at (codes "=") ∷ last) v
          ∙ ap (λ u. formula_spelling i ++ (Fixed q (codes "]") ∷ Fixed at (codes "=") ∷ u))
          (append_assoc (formula_spelling e) (Fixed semicolon (codes ";") ∷ []) v ∙ ap (λ u. formula_spelling e ++ (Fixed semicolon (codes ";") ∷ u)) h.spelled))
          ∙ sym (flat-Assign_at n p i q at e semicolon b []);
    }

-- `halt ( e ) ;`
a_halt : (room at p : ℕ) (e : Formula) (q semicolon : ℕ) → IsLeveled e → depth e < room
    → IsStatement room (Halt at p e q semicolon)
    (Fixed at (codes "halt") ∷ Fixed p (codes "(") ∷ (formula_spelling e ++ (Fixed q (codes ")") ∷ Fixed semicolon (codes ";") ∷ [])))
a_halt room at p e q semicolon leveled lt b v h = record {
  leveled = (leveled, h.leveled);
  shallow = omega (arith, lt, h.shallow);
  spelled = ap (λ u. Fixed at (codes "halt") ∷ Fixed p (codes "(") ∷ u)
      (append_assoc (formula_spelling e) (Fixed q (codes ")") ∷ Fixed semicolon (codes ";") ∷ []) v
      ∙ ap (λ u. formula_spelling e ++ (Fixed q (codes ")") ∷ Fixed semicolon (codes ";") ∷ u)) h.spelled)
      ∙ sym (flat-Halt at p e q semicolon b []);
}

-- what stands between `if` and the end of a branch is not too deep
record HasCondition (room : ℕ) (c : Formula) (xs : Block) : Type 0 where
  leveled : IsLeveled c
  shallow : depth c < room
  leveled_then : IsLeveledBlock xs
  shallow_then : block_depth xs < room

-- `if e then stmts endif ;`
a_branch : (room at : ℕ) (c : Formula) (t : ℕ) (xs : Block) (end semicolon : ℕ) → HasCondition room c xs
    → IsStatement room (If at c t xs end semicolon) (Fixed at (codes "if") ∷ (formula_spelling c ++ (Fixed t (codes "then")
    ∷ (block_spelling xs ++ (Fixed end (codes "endif") ∷ Fixed semicolon (codes ";") ∷ [])))))
a_branch room at c t xs end semicolon has b v h =
    let close : List Symbol = Fixed end (codes "endif") ∷ Fixed semicolon (codes ";") ∷ [] in
    record {
      leveled = (has.leveled, has.leveled_then, h.leveled);
      shallow = omega (arith, has.shallow, has.shallow_then, h.shallow);
      spelled = ap (λ u. Fixed at (codes "if") ∷ u)
          (append_assoc (formula_spelling c) (Fixed t (codes "then") ∷ (block_spelling xs ++ close)) v
          ∙ ap (λ u. formula_spelling c ++ (Fixed t (codes "then") ∷ u))
          (append_assoc (block_spelling xs) close v ∙ ap (λ u. block_spelling xs ++ (Fixed end (codes "endif") ∷ Fixed semicolon (codes ";") ∷ u)) h.spelled))
          ∙ sym (flat-If at c t xs end semicolon b []);
    }

-- `if e then stmts else stmts endif ;`
a_branch_else : (room at : ℕ) (c : Formula) (t : ℕ) (xs : Block) (f : ℕ) (ys : Block) (end semicolon : ℕ) → HasCondition room c xs → IsLeveledBlock ys
    → block_depth ys < room
    → IsStatement room (IfElse at c t xs f ys end semicolon) (Fixed at (codes "if") ∷ (formula_spelling c ++ (Fixed t (codes "then")
    ∷ (block_spelling xs ++ (Fixed f (codes "else") ∷ (block_spelling ys ++ (Fixed end (codes "endif") ∷ Fixed semicolon (codes ";") ∷ [])))))))
a_branch_else room at c t xs f ys end semicolon has leveled lt b v h =
    let close : List Symbol = Fixed end (codes "endif") ∷ Fixed semicolon (codes ";") ∷ [] in
    let from_else : List Symbol = Fixed f (codes "else") ∷ (block_spelling ys ++ close) in
    record {
      leveled = (has.leveled, has.leveled_then, leveled, h.leveled);
      shallow = omega (arith, has.shallow, has.shallow_then, lt, h.shallow);
      spelled = ap (λ u. Fixed at (codes "if") ∷ u)
          (append_assoc (formula_spelling c) (Fixed t (codes "then") ∷ (block_spelling xs ++ from_else)) v
          ∙ ap (λ u. formula_spelling c ++ (Fixed t (codes "then") ∷ u))
          (append_assoc (block_spelling xs) from_else v
          ∙ ap (λ u. block_spelling xs ++ (Fixed f (codes "else") ∷ u))
          (append_assoc (block_spelling ys) close v ∙ ap (λ u. block_spelling ys ++ (Fixed end (codes "endif") ∷ Fixed semicolon (codes ";") ∷ u)) h.spelled)))
          ∙ sym (flat-IfElse at c t xs f ys end semicolon b []);
    }

-- ---- readings and what they may read

-- something is of the language
abbrev IsSome : {A : Type 0} → (A → List Symbol → Type 0) → Type 0
IsSome {A = A} L = (x : A) × (u : List Symbol) × L x u

-- a reading goes on if it does on each list
goes_of : {A : Type 0} (reads : List Symbol → Read A) (L : A → List Symbol → Type 0) → IsSome L → ((ss : List Symbol) → GoesAt ss (reads ss) L) → Goes reads L
goes_of reads L some h = record { found = λ ss x rest e. (h ss).found x rest e; stuck = λ ss rest e. (h ss).stuck rest e; some = some }

-- of a wider language
wider : {A : Type 0} (reads : List Symbol → Read A) (L M : A → List Symbol → Type 0) → ((x : A) (u : List Symbol) → L x u → M x u) → Goes reads L → Goes reads M
wider reads L M h g =
    record {
      found = λ ss x rest e. let a = g.found ss x rest e in (a.0, a.1, h x a.0 a.2);
      stuck = λ ss rest e. let a = g.stuck ss rest e in (a.0, a.1, a.2, a.3, h a.2 (a.0 ++ a.1) a.4);
      some = let a = g.some in (a.0, a.1, h a.0 a.1 a.2);
    }

-- behind a symbol
behind_at : {A : Type 0} (first : Symbol) (reads : List Symbol → Read A) (L : A → List Symbol → Type 0) → Goes reads (λ x u. L x (first ∷ u)) → (ss t : List Symbol)
    → ss ≡ first ∷ t → GoesAt ss (reads t) L
behind_at first reads L g ss t is =
    record {
      found = λ x rest e. let a = g.found t x rest e in (first ∷ a.0, is ∙ ap (λ u. first ∷ u) a.1, a.2);
      stuck = λ rest e. let a = g.stuck t rest e in (first ∷ a.0, a.1, a.2, is ∙ ap (λ u. first ∷ u) a.3, a.4);
    }

-- where there is room
room_at : {A : Type 0} (room : ℕ) (ss : List Symbol) (a : Read A) (L : A → List Symbol → Type 0) → IsSome L → (1 < room → GoesAt ss a L)
    → GoesAt ss (with_room room ss a) L
room_at room ss a L some g =
    record {
      found = λ x rest e. let h = room_found room ss a x rest e in (g h.0).found x rest h.1;
      stuck = λ rest e. ⊎_elim (λ h. ([], some.1, some.0, h, some.2)) (λ h. (g h.0).stuck rest h.1) (room_stuck room ss a rest e);
    }

-- ---- each kind of statement

-- one that begins with this symbol
abbrev Puts : ℕ → Symbol → (Block → Block) → List Symbol → Type 0
Puts room first put u = IsStatement room put (first ∷ u)

-- the last mark of one
abbrev Ends : (ℕ → Block → Block) → (Block → Block) → List Symbol → Type 0
Ends make = Closes (codes ";") make

-- it is read or lacks
ends : (make : ℕ → Block → Block) → Goes (λ t. read_on (mark (codes ";") t) (λ q s. Found (make q) s)) (Ends make)
ends make = closes (codes ";") make

-- it stands alone
ends_is : (make : ℕ → Block → Block) (put : Block → Block) (w : List Symbol) (t : Ends make put w) → w ≡ Fixed t.item (codes ";") ∷ []
ends_is make put w t = closed_is (codes ";") make put w t

-- `NAME . action ;`
part_goes_on : (room : ℕ) (n : Name) (dot : ℕ) → 1 ≤ room → Goes (part n dot) (λ put u. Puts room (named n) put (Fixed dot (codes ".") ∷ u))
part_goes_on room n dot some =
    wider (part n dot) (Then (IsMark (codes "action")) (λ at. Ends (Part n dot at))) _
    (λ put w t.
    let at = t.item in
    let q = t.second.item in
    let same = glue w t.u t.v (Fixed at (codes "action") ∷ []) (Fixed q (codes ";") ∷ []) t.joined t.first (ends_is (Part n dot at) put t.v t.second) in
    statement_is room (Part n dot at q) put (named n ∷ Fixed dot (codes ".") ∷ Fixed at (codes "action") ∷ Fixed q (codes ";") ∷ [])
    (named n ∷ Fixed dot (codes ".") ∷ w) t.second.second.same
    (ap (λ u. named n ∷ Fixed dot (codes ".") ∷ u) same) (a_part room n dot at q some))
    (after_goes (mark (codes "action")) _ (IsMark (codes "action")) (λ at. Ends (Part n dot at)) (mark_goes (codes "action")) (λ at. ends (Part n dot at)))

-- the shortest statement of this name
shortest : (room : ℕ) (n : Name) → 1 ≤ room → IsSome (Puts room (named n))
shortest room n some = (Part n 0 0 0, Fixed 0 (codes ".") ∷ Fixed 0 (codes "action") ∷ Fixed 0 (codes ";") ∷ [], a_part room n 0 0 0 some)

-- there is a statement wherever there is room for one
a_statement : (room : ℕ) → 1 ≤ room → IsSome (IsStatement room)
a_statement room some = let a = shortest room (record { at = 0; text = [] }) some in (a.0, Named 0 [] ∷ a.1, a.2)

module _ (m : ℕ) where
  -- an expression
  expression_goes : (room : ℕ) → 1 ≤ room → Goes (climb m 0 room) (IsPart 0 room)
  expression_goes room some = part_goes (climb m) (climb_sound m) (viable m) 0 room (omega arith) some

  -- `= e ;`
  abbrev AssignRest : ℕ → Name → Index → (Block → Block) → List Symbol → Type 0
  AssignRest room n i = Then (IsMark (codes "=")) (λ at. Then (IsPart 0 (room - 1)) (λ e. Ends (Assign n i at e)))

  -- is read so
  assign_rest_goes : (room : ℕ) (n : Name) (i : Index) → 1 < room
      → Goes (λ t. read_on (mark (codes "=") t) (λ at s1. read_on (climb m 0 (room - 1) s1)
      (λ e s2. read_on (mark (codes ";") s2) (λ semicolon s3. Found (Assign n i at e semicolon) s3)))) (AssignRest room n i)
  assign_rest_goes room n i lt =
      after_goes (mark (codes "=")) _ (IsMark (codes "=")) (λ at. Then (IsPart 0 (room - 1)) (λ e. Ends (Assign n i at e))) (mark_goes (codes "="))
      (λ at. after_goes (climb m 0 (room - 1)) _ (IsPart 0 (room - 1)) (λ e. Ends (Assign n i at e)) (expression_goes (room - 1) (omega (arith, lt)))
      (λ e. ends (Assign n i at e)))

  -- its symbols
  assign_rest_is : (room : ℕ) (n : Name) (i : Index) (put : Block → Block) (w : List Symbol) (t : AssignRest room n i put w)
      → w ≡ Fixed t.item (codes "=") ∷ (formula_spelling t.second.item ++ (Fixed t.second.second.item (codes ";") ∷ []))
  assign_rest_is room n i put w t =
      let at = t.item in
      let t2 = t.second in
      let e = t2.item in
      let last : List Symbol = Fixed t2.second.item (codes ";") ∷ [] in
      glue w t.u t.v (Fixed at (codes "=") ∷ []) (formula_spelling e ++ last) t.joined t.first
      (glue t.v t2.u t2.v (formula_spelling e) last t2.joined t2.first.spelled (ends_is (Assign n i at e) put t2.v t2.second))

  -- `NAME = e ;`
  assignment_goes : (room : ℕ) (n : Name) → 1 ≤ room → Goes (assignment (climb m) room n None) (Puts room (named n))
  assignment_goes room n some =
      goes_of (assignment (climb m) room n None) (Puts room (named n)) (shortest room n some)
      (λ ss. room_at room ss _ (Puts room (named n)) (shortest room n some)
      (λ lt. at_of _ (Puts room (named n))
      (wider _ (AssignRest room n None) (Puts room (named n))
      (λ put w t.
      let part = t.second.first in
      statement_is room (Assign n None t.item t.second.item t.second.second.item) put
      (named n ∷ Fixed t.item (codes "=") ∷ (formula_spelling t.second.item ++ (Fixed t.second.second.item (codes ";") ∷ []))) (named n ∷ w) t.second.second.second.same
      (ap (λ u. named n ∷ u) (assign_rest_is room n None put w t))
      (an_assignment room n t.item t.second.item t.second.second.item part.good.leveled (omega (arith, part.good.shallow, lt))))
      (assign_rest_goes room n None lt)) ss))

  -- `NAME [ e ] = e ;`, behind the bracket
  abbrev IndexRest : ℕ → Name → ℕ → (Block → Block) → List Symbol → Type 0
  IndexRest room n p = Then (IsPart 0 (room - 1 - 1)) (λ i. Then (IsMark (codes "]")) (λ q. AssignRest room n (Some (p, i, q))))

  -- the same behind an index, for which there was room
  assignment_at_goes : (room : ℕ) (n : Name) (i : Index) → 1 < room → Goes (assignment (climb m) room n i) (AssignRest room n i)
  assignment_at_goes room n i lt =
      let g = assign_rest_goes room n i lt in
      goes_of (assignment (climb m) room n i) (AssignRest room n i) g.some
      (λ ss. room_at room ss _ (AssignRest room n i) g.some (λ lt. at_of _ (AssignRest room n i) g ss))

  -- is read so
  index_goes : (room : ℕ) (n : Name) (p : ℕ) → 1 < room - 1
      → Goes (λ t. read_on (climb m 0 (room - 1 - 1) t) (λ i s1. read_on (mark (codes "]") s1) (λ q s2. assignment (climb m) room n (Some (p, i, q)) s2)))
      (IndexRest room n p)
  index_goes room n p lt =
      after_goes (climb m 0 (room - 1 - 1)) _ (IsPart 0 (room - 1 - 1)) (λ i. Then (IsMark (codes "]")) (λ q. AssignRest room n (Some (p, i, q))))
      (expression_goes (room - 1 - 1) (omega (arith, lt)))
      (λ i. after_goes (mark (codes "]")) _ (IsMark (codes "]")) (λ q. AssignRest room n (Some (p, i, q))) (mark_goes (codes "]"))
      (λ q. assignment_at_goes room n (Some (p, i, q)) (omega (arith, lt))))

  -- and makes a statement
  index_is : (room : ℕ) (n : Name) (p : ℕ) → 1 < room - 1 → (put : Block → Block) (w : List Symbol) → IndexRest room n p put w
      → Puts room (named n) put (Fixed p (codes "[") ∷ w)
  index_is room n p lt put w t =
      let i = t.item in
      let t2 = t.second in
      let q = t2.item in
      let t3 = t2.second in
      let at = t3.item in
      let e = t3.second.item in
      let semicolon = t3.second.second.item in
      let last : List Symbol = Fixed at (codes "=") ∷ (formula_spelling e ++ (Fixed semicolon (codes ";") ∷ [])) in
      let e3 = assign_rest_is room n (Some (p, i, q)) put t2.v t3 in
      let e2 = glue t.v t2.u t2.v (Fixed q (codes "]") ∷ []) last t2.joined t2.first e3 in
      let e1 = glue w t.u t.v (formula_spelling i) (Fixed q (codes "]") ∷ last) t.joined t.first.spelled e2 in
      statement_is room (Assign n (Some (p, i, q)) at e semicolon) put (named n ∷ Fixed p (codes "[") ∷ (formula_spelling i ++ (Fixed q (codes "]") ∷ last)))
      (named n ∷ Fixed p (codes "[") ∷ w) t3.second.second.second.same (ap (λ u. named n ∷ Fixed p (codes "[") ∷ u) e1)
      (an_assignment_at room n p i q at e semicolon t.first.good.leveled (omega (arith, t.first.good.shallow, lt))
      t3.second.first.good.leveled (omega (arith, t3.second.first.good.shallow, lt)))

  -- what begins with a name, with an index or without
  place_at : (room : ℕ) (n : Name) (ss : List Symbol) (o : Option (ℕ × List Symbol)) → 1 ≤ room → behind (codes "[") ss ≡ o
      → GoesAt ss (place (climb m) room n ss o) (Puts room (named n))
  place_at room n ss None some is = at_of (assignment (climb m) room n None) (Puts room (named n)) (assignment_goes room n some) ss
  place_at room n ss (Some (p, inside)) some is =
      room_at (room - 1) ss _ (Puts room (named n)) (shortest room n some)
      (λ lt. behind_at (Fixed p (codes "[")) _ (Puts room (named n)) (wider _ (IndexRest room n p) _ (index_is room n p lt) (index_goes room n p lt)) ss inside
      (behind_is (codes "[") ss p inside is))

  -- or with a dot behind it
  naming_at : (room : ℕ) (n : Name) (ss : List Symbol) (o : Option (ℕ × List Symbol)) → 1 ≤ room → behind (codes ".") ss ≡ o
      → GoesAt ss (naming (climb m) room n ss o) (Puts room (named n))
  naming_at room n ss None some is = place_at room n ss (behind (codes "[") ss) some refl
  naming_at room n ss (Some (dot, inside)) some is =
      behind_at (Fixed dot (codes ".")) (part n dot) (Puts room (named n)) (part_goes_on room n dot some) ss inside (behind_is (codes ".") ss dot inside is)

  -- the whole of it
  naming_goes : (room : ℕ) (n : Name) → 1 ≤ room → Goes (λ t. naming (climb m) room n t (behind (codes ".") t)) (Puts room (named n))
  naming_goes room n some = goes_of _ (Puts room (named n)) (shortest room n some) (λ ss. naming_at room n ss (behind (codes ".") ss) some refl)

  -- `halt ( e ) ;`
  abbrev HaltRest : ℕ → ℕ → (Block → Block) → List Symbol → Type 0
  HaltRest room at = Then (IsMark (codes "(")) (λ p. Then (IsPart 0 (room - 1)) (λ e. Then (IsMark (codes ")")) (λ q. Ends (Halt at p e q))))

  -- makes a statement
  halt_is : (room at : ℕ) → 1 < room → (put : Block → Block) (w : List Symbol) → HaltRest room at put w → Puts room (Fixed at (codes "halt")) put w
  halt_is room at lt put w t =
      let p = t.item in
      let t2 = t.second in
      let e = t2.item in
      let t3 = t2.second in
      let q = t3.item in
      let semicolon = t3.second.item in
      let last : List Symbol = Fixed q (codes ")") ∷ Fixed semicolon (codes ";") ∷ [] in
      let e3 = glue t2.v t3.u t3.v (Fixed q (codes ")") ∷ []) (Fixed semicolon (codes ";") ∷ []) t3.joined t3.first (ends_is (Halt at p e q) put t3.v t3.second) in
      let e2 = glue t.v t2.u t2.v (formula_spelling e) last t2.joined t2.first.spelled e3 in
      let e1 = glue w t.u t.v (Fixed p (codes "(") ∷ []) (formula_spelling e ++ last) t.joined t.first e2 in
      statement_is room (Halt at p e q semicolon) put (Fixed at (codes "halt") ∷ Fixed p (codes "(") ∷ (formula_spelling e ++ last)) (Fixed at (codes "halt") ∷ w)
      t3.second.second.same
      (ap (λ u. Fixed at (codes "halt") ∷ u) e1) (a_halt room at p e q semicolon t2.first.good.leveled (omega (arith, t2.first.good.shallow, lt)))

  -- and is read so
  halting_goes : (room at : ℕ) → 1 < room → Goes (halting (climb m) room at) (Puts room (Fixed at (codes "halt")))
  halting_goes room at lt =
      wider (halting (climb m) room at) (HaltRest room at) (Puts room (Fixed at (codes "halt"))) (halt_is room at lt)
      (after_goes (mark (codes "(")) _ (IsMark (codes "(")) (λ p. Then (IsPart 0 (room - 1)) (λ e. Then (IsMark (codes ")")) (λ q. Ends (Halt at p e q))))
      (mark_goes (codes "("))
      (λ p. after_goes (climb m 0 (room - 1)) _ (IsPart 0 (room - 1)) (λ e. Then (IsMark (codes ")")) (λ q. Ends (Halt at p e q)))
      (expression_goes (room - 1) (omega (arith, lt)))
      (λ e. after_goes (mark (codes ")")) _ (IsMark (codes ")")) (λ q. Ends (Halt at p e q)) (mark_goes (codes ")")) (λ q. ends (Halt at p e q)))))

-- ---- statements within others

-- where they are stuck, what stands before goes on to be some
abbrev IsViableBlocks : Blocks → Type 0
IsViableBlocks blocks = (room : ℕ) (ss rest : List Symbol) → 1 ≤ room → blocks room ss ≡ Stuck rest → ViableBlock room ss rest

module _ (m : ℕ) where
  -- by so many calls below one another
  abbrev within : Blocks
  within = statements m

  module _ (viable_within : IsViableBlocks within) where
    -- they are read, or go on
    blocks_go : (room : ℕ) → 1 ≤ room → Goes (within room) (IsBlock room)
    blocks_go room some = record {
      found = λ ss b rest e.
          let f = (sound_block m room ss b rest some e).fits in
          (block_spelling b, f.spelled, record { leveled = f.leveled; shallow = f.shallow; spelled = sym (append-nil (block_spelling b)) });
      stuck = λ ss rest e.
          let v = viable_within room ss rest some e in
          let spelled = v.spelled ∙ sym (append-nil (block_spelling v.statements)) in
          (v.front, v.further, v.statements, v.left, record { leveled = v.leveled; shallow = v.shallow; spelled = spelled });
      some = (Done, [], record { leveled = tt; shallow = omega arith; spelled = refl });
    }

    -- `endif ;`, or with `else` before, ends the branch
    abbrev IsBranchEnd : ℕ → ℕ → Formula → ℕ → Block → (Block → Block) → List Symbol → Type 0
    IsBranchEnd room at c t xs put u =
        HasCondition room c xs → Puts room (Fixed at (codes "if")) put (formula_spelling c ++ (Fixed t (codes "then") ∷ (block_spelling xs ++ u)))

    -- one without `else`
    end_goes : (room at : ℕ) (c : Formula) (t : ℕ) (xs : Block) → Goes (λ ss. branch_end within room at c t xs ss None) (IsBranchEnd room at c t xs)
    end_goes room at c t xs =
        wider _ (Then (IsMark (codes "endif")) (λ end. Ends (If at c t xs end))) (IsBranchEnd room at c t xs)
        (λ put w g has.
        let end = g.item in
        let q = g.second.item in
        let close : List Symbol = Fixed end (codes "endif") ∷ Fixed q (codes ";") ∷ [] in
        let same = glue w g.u g.v (Fixed end (codes "endif") ∷ []) (Fixed q (codes ";") ∷ []) g.joined g.first (ends_is (If at c t xs end) put g.v g.second) in
        statement_is room (If at c t xs end q) put (Fixed at (codes "if") ∷ (formula_spelling c ++ (Fixed t (codes "then") ∷ (block_spelling xs ++ close))))
        (Fixed at (codes "if") ∷ (formula_spelling c ++ (Fixed t (codes "then") ∷ (block_spelling xs ++ w)))) g.second.second.same
        (ap (λ u. Fixed at (codes "if") ∷ (formula_spelling c ++ (Fixed t (codes "then") ∷ (block_spelling xs ++ u)))) same) (a_branch room at c t xs end q has))
        (after_goes (mark (codes "endif")) _ (IsMark (codes "endif")) (λ end. Ends (If at c t xs end)) (mark_goes (codes "endif")) (λ end. ends (If at c t xs end)))

    -- behind `else`
    abbrev ElseRest : ℕ → ℕ → Formula → ℕ → Block → ℕ → (Block → Block) → List Symbol → Type 0
    ElseRest room at c t xs f = Then (IsBlock (room - 1)) (λ ys. Then (IsMark (codes "endif")) (λ end. Ends (IfElse at c t xs f ys end)))

    -- makes the end
    else_is : (room at : ℕ) (c : Formula) (t : ℕ) (xs : Block) (f : ℕ) → 1 < room → (put : Block → Block) (w : List Symbol) → ElseRest room at c t xs f put w
        → IsBranchEnd room at c t xs put (Fixed f (codes "else") ∷ w)
    else_is room at c t xs f lt put w g has =
        let ys = g.item in
        let g2 = g.second in
        let end = g2.item in
        let q = g2.second.item in
        let close : List Symbol = Fixed end (codes "endif") ∷ Fixed q (codes ";") ∷ [] in
        let e2 = glue g.v g2.u g2.v (Fixed end (codes "endif") ∷ []) (Fixed q (codes ";") ∷ []) g2.joined g2.first
        (ends_is (IfElse at c t xs f ys end) put g2.v g2.second) in
        let e1 = glue w g.u g.v (block_spelling ys) close g.joined (g.first.spelled ∙ append-nil (block_spelling ys)) e2 in
        statement_is room (IfElse at c t xs f ys end q) put
        (Fixed at (codes "if") ∷ (formula_spelling c ++ (Fixed t (codes "then") ∷ (block_spelling xs ++ (Fixed f (codes "else") ∷ (block_spelling ys ++ close))))))
        (Fixed at (codes "if") ∷ (formula_spelling c ++ (Fixed t (codes "then") ∷ (block_spelling xs ++ (Fixed f (codes "else") ∷ w))))) g2.second.second.same
        (ap (λ u. Fixed at (codes "if") ∷ (formula_spelling c ++ (Fixed t (codes "then") ∷ (block_spelling xs ++ (Fixed f (codes "else") ∷ u))))) e1)
        (a_branch_else room at c t xs f ys end q has g.first.leveled (omega (arith, g.first.shallow, lt)))

    -- and is read so
    else_goes : (room at : ℕ) (c : Formula) (t : ℕ) (xs : Block) (f : ℕ) → 1 < room
        → Goes (λ ss. read_on (within (room - 1) ss) (λ ys s1. read_on (mark (codes "endif") s1)
        (λ end s2. read_on (mark (codes ";") s2) (λ semicolon s3. Found (IfElse at c t xs f ys end semicolon) s3)))) (ElseRest room at c t xs f)
    else_goes room at c t xs f lt =
        after_goes (within (room - 1)) _ (IsBlock (room - 1)) (λ ys. Then (IsMark (codes "endif")) (λ end. Ends (IfElse at c t xs f ys end)))
        (blocks_go (room - 1) (omega (arith, lt)))
        (λ ys. after_goes (mark (codes "endif")) _ (IsMark (codes "endif")) (λ end. Ends (IfElse at c t xs f ys end)) (mark_goes (codes "endif"))
        (λ end. ends (IfElse at c t xs f ys end)))

    -- with `else` or without
    branch_end_at : (room at : ℕ) (c : Formula) (t : ℕ) (xs : Block) (ss : List Symbol) (o : Option (ℕ × List Symbol)) → 1 < room → behind (codes "else") ss ≡ o
        → GoesAt ss (branch_end within room at c t xs ss o) (IsBranchEnd room at c t xs)
    branch_end_at room at c t xs ss None lt is = at_of (λ ss. branch_end within room at c t xs ss None) (IsBranchEnd room at c t xs) (end_goes room at c t xs) ss
    branch_end_at room at c t xs ss (Some (f, inside)) lt is =
        behind_at (Fixed f (codes "else")) _ (IsBranchEnd room at c t xs)
        (wider _ (ElseRest room at c t xs f) _ (else_is room at c t xs f lt) (else_goes room at c t xs f lt)) ss inside
        (behind_is (codes "else") ss f inside is)

    -- the whole of it
    branch_end_goes : (room at : ℕ) (c : Formula) (t : ℕ) (xs : Block) → 1 < room
        → Goes (λ ss. branch_end within room at c t xs ss (behind (codes "else") ss)) (IsBranchEnd room at c t xs)
    branch_end_goes room at c t xs lt =
        goes_of _ (IsBranchEnd room at c t xs) (end_goes room at c t xs).some (λ ss. branch_end_at room at c t xs ss (behind (codes "else") ss) lt refl)

    -- behind `if`
    abbrev BranchRest : ℕ → ℕ → (Block → Block) → List Symbol → Type 0
    BranchRest room at = Then (IsPart 0 (room - 1)) (λ c. Then (IsMark (codes "then")) (λ t. Then (IsBlock (room - 1)) (λ xs. IsBranchEnd room at c t xs)))

    -- makes a statement
    branch_is : (room at : ℕ) → 1 < room → (put : Block → Block) (w : List Symbol) → BranchRest room at put w → Puts room (Fixed at (codes "if")) put w
    branch_is room at lt put w g =
        let c = g.item in
        let g2 = g.second in
        let t = g2.item in
        let g3 = g2.second in
        let xs = g3.item in
        let part = g.first.good in
        let from_then : List Symbol = Fixed t (codes "then") ∷ (block_spelling xs ++ g3.v) in
        let e3 = glue g2.v g3.u g3.v (block_spelling xs) g3.v g3.joined (g3.first.spelled ∙ append-nil (block_spelling xs)) refl in
        let e2 = glue g.v g2.u g2.v (Fixed t (codes "then") ∷ []) (block_spelling xs ++ g3.v) g2.joined g2.first e3 in
        let e1 = glue w g.u g.v (formula_spelling c) from_then g.joined g.first.spelled e2 in
        statement_is room put put (Fixed at (codes "if") ∷ (formula_spelling c ++ from_then)) (Fixed at (codes "if") ∷ w) refl (ap (λ u. Fixed at (codes "if") ∷ u) e1)
        (g3.second (record {
          leveled = part.leveled;
          shallow = omega (arith, part.shallow, lt);
          leveled_then = g3.first.leveled;
          shallow_then = omega (arith, g3.first.shallow, lt);
        }))

    -- and is read so
    branching_goes : (room at : ℕ) → 1 < room → Goes (branching (climb m) within room at) (Puts room (Fixed at (codes "if")))
    branching_goes room at lt =
        wider (branching (climb m) within room at) (BranchRest room at) (Puts room (Fixed at (codes "if"))) (branch_is room at lt)
        (after_goes (climb m 0 (room - 1)) _ (IsPart 0 (room - 1)) (λ c. Then (IsMark (codes "then"))
        (λ t. Then (IsBlock (room - 1)) (λ xs. IsBranchEnd room at c t xs))) (expression_goes m (room - 1) (omega (arith, lt)))
        (λ c. after_goes (mark (codes "then")) _ (IsMark (codes "then")) (λ t. Then (IsBlock (room - 1)) (λ xs. IsBranchEnd room at c t xs)) (mark_goes (codes "then"))
        (λ t. after_goes (within (room - 1)) _ (IsBlock (room - 1)) (λ xs. IsBranchEnd room at c t xs) (blocks_go (room - 1) (omega (arith, lt)))
        (λ xs. branch_end_goes room at c t xs lt))))

    -- ---- the statement in front, and those behind it

    -- whatever it begins with
    statement_at : (room : ℕ) (here : List Symbol) (x : Start) (ss : List Symbol) → 1 ≤ room → here ≡ start_symbol x ∷ ss
        → GoesAt here (statement (climb m) within room here x ss) (IsStatement room)
    statement_at room here (Naming n) ss some is = behind_at (named n) _ (IsStatement room) (naming_goes m room n some) here ss is
    statement_at room here (Halting at) ss some is =
        room_at room here _ (IsStatement room) (a_statement room some)
        (λ lt. behind_at (Fixed at (codes "halt")) _ (IsStatement room) (halting_goes m room at lt) here ss is)
    statement_at room here (Branching at) ss some is =
        room_at room here _ (IsStatement room) (a_statement room some)
        (λ lt. behind_at (Fixed at (codes "if")) _ (IsStatement room) (branching_goes room at lt) here ss is)

    -- a statement and the block behind it
    block_is : (room : ℕ) (b : Block) (w : List Symbol) → Then (IsStatement room) (λ put. Then (IsBlock room) (λ b. IsDone (put b))) b w → IsBlock room b w
    block_is room b w t =
        let t2 = t.second in
        let whole : w ≡ t.u ++ t2.u = t.joined ∙ ap (λ v. t.u ++ v) (t2.joined ∙ ap (λ v. t2.u ++ v) t2.second.none ∙ append-nil t2.u) in
        subst (λ b. IsBlock room b w) (sym t2.second.same) (subst (λ u. IsBlock room (t.item t2.item) u) (sym whole) (t.first t2.item t2.u t2.first))

    -- where they are stuck, what stands before goes on
    block_from_viable : (room : ℕ) (here rest : List Symbol) (o : Option (Start × List Symbol)) → 1 ≤ room → start here ≡ o
        → block_from (climb m) within room here o ≡ Stuck rest → ViableBlock room here rest
    block_from_viable room here rest None some is e = found_not_stuck Done here rest e
    block_from_viable room here rest (Some (x, ss)) some is e =
        let next : (Block → Block) → List Symbol → Read Block = λ put s. read_on (within room s) (λ b rest. Found (put b) rest) in
        let g = after_at here (statement (climb m) within room here x ss) next (IsStatement room) (λ put. Then (IsBlock room) (λ b. IsDone (put b)))
        (statement_at room here x ss some (start_is here x ss is))
        (λ put. after_goes (within room) (λ b rest. Found (put b) rest) (IsBlock room) (λ b. IsDone (put b)) (blocks_go room some) (λ b. done_goes (put b))) in
        let a = g.stuck rest e in
        let f = block_is room a.2 (a.0 ++ a.1) a.4 in
        record {
          front = a.0;
          further = a.1;
          statements = a.2;
          left = a.3;
          leveled = f.leveled;
          shallow = f.shallow;
          spelled = f.spelled ∙ append-nil (block_spelling a.2);
        }

-- what stands before the symbol at which the reading is stuck goes on to be statements none of which is deeper than there is room
pub viable_block : (n room : ℕ) (ss rest : List Symbol) → 1 ≤ room → statements n room ss ≡ Stuck rest → ViableBlock room ss rest
viable_block zero room ss rest some e = absurd (cc)
viable_block (suc n) room ss rest some e = block_from_viable n (viable_block n) room ss rest (start ss) some refl e
