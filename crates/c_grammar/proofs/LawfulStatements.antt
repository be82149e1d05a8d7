-- Statements are read lawfully.
use Rattle.std.proofs.Common.{◌≡◌, ℕ, zero, suc, ◌-◌, ◌<◌, ◌≤◌, List, [], ◌∷◌, ◌++◌, length, length-append, Option, Some, None, option_map, refl, ap, sym, ◌∙◌, subst, arith, append_assoc, append-nil}
use Rattle.std.specs.Prelude.{codes, IsTrue}
use Rattle.c_tree.specs.declared.names.Name.{Name}
use Rattle.readings.specs.Symbol.{Symbol, fixed, beyond}
use Rattle.readings.specs.Reading.{looked_up}
use Rattle.readings.specs.Readings.{Reading, ◌>>>◌, made, sign, optional, worded_from}
use Rattle.readings.specs.Lawful.{IsReading, IsMade, Any, Anywhere, optional_ends}
use Rattle.readings.proofs.Symbols.{some_is, none_is_none, Each}
use Rattle.readings.proofs.After.{other_end}
use Rattle.readings.proofs.Combining.{sign_law, made_law, then_law, then_free, other_law, picked, Behind, Told, told_law}
use Rattle.readings.proofs.CombiningWords.{made_front, Word, OfWord, word_each, single_behind}
use Rattle.c_tree.specs.Formula.{Formula, Numeral, Named, Indexed, Called, CalledWith, Paren, Unary, Binary}
use Rattle.c_tree.specs.Statement.{Act, Assign, Step, Invoke, Opening, Statement, Braces, Empty, Simply, Break, Continue, Return, If, IfElse, While, Do, For, Body}
use Rattle.c_tree.specs.Level.{IsLeveledOpening, IsLeveledOption, IsLeveledLast, ends_open}
use Rattle.c_tree.specs.Depth.{act_depth, opening_depth, optional_depth, last_depth}
use Rattle.c_tree.specs.Spell.{binary_mark, formula_spelling, act_spelling, statement_spelling, opening_spelling, optional_spelling, last_spelling}
use Rattle.c_grammar.specs.Reading.{IsGood}
use Rattle.c_grammar.specs.Until.{ended_spelling, ended_good, tailed_spelling, tailed_good}
use Rattle.c_grammar.specs.Acts.{act_behind, IsGoodAct, IsActEnd}
use Rattle.c_grammar.specs.Statements.{IsWrittenOpening, IsWrittenLast, IsGoodStatement, IsStatementEnd, IsGoodBody, closed_spelling}
use Rattle.c_grammar.specs.ReadingStatements.{Condition, condition, ended_expression, Header, header, StatementStart, Ending, Breaking, Continuing, Returning, Bracing, Branching, Looping, Repeating, Counting, statement_starts, branch, behind_statement, body_read, named_statement, statement_over, statement_read, block_body}
use Rattle.c_grammar.proofs.Flat.{join4, one_node}
use Rattle.c_grammar.proofs.LawfulActs.{OfName, act_behind_law, named_good, named_front, good_named}
use Rattle.c_grammar.proofs.LawfulParts.{condition_spelling, condition_good, condition_law, value_spelling, value_law, first_spelling, IsGoodOpening, header_spelling, header_good, header_law, one_statement, body_law}
use Rattle.c_grammar.proofs.Tailed.{tailed_law}
use Rattle.c_grammar.proofs.Ended.{ends_law, marked_law}

-- a statement's symbols behind the first
abbrev inside : Statement → List Symbol
inside s = beyond (statement_spelling s)

-- ---- how the parts of each kind are written

abbrev tail_spelling : Statement × Option (ℕ × Statement) → List Symbol
tail_spelling = tailed_spelling (codes "else") statement_spelling statement_spelling

abbrev Branch : Type 0
Branch = Condition × (Statement × Option (ℕ × Statement))

branch_same : (at p : ℕ) (c : Formula) (q : ℕ) (x : Statement) (o : Option (ℕ × Statement))
    → inside (branch at ((p, (c, q)), (x, o))) ≡ condition_spelling (p, (c, q)) ++ tail_spelling (x, o)
branch_same at p c q x None =
    ap (λ u. Symbol.Fixed p (codes "(") ∷ ((formula_spelling c ++ fixed q (codes ")")) ++ u)) (sym (append-nil (statement_spelling x)))
branch_same at p c q x (Some (f, y)) =
    ap (λ u. Symbol.Fixed p (codes "(") ∷ u) (join4 (formula_spelling c ++ fixed q (codes ")")) (statement_spelling x) (fixed f (codes "else")) (statement_spelling y))

branch_front : (at p : ℕ) (c : Formula) (q : ℕ) (x : Statement) (o : Option (ℕ × Statement))
    → statement_spelling (branch at ((p, (c, q)), (x, o))) ≡ Symbol.Fixed at (codes "if") ∷ inside (branch at ((p, (c, q)), (x, o)))
branch_front at p c q x None = refl
branch_front at p c q x (Some (f, y)) = refl

branch_end : (at p : ℕ) (c : Formula) (q : ℕ) (x : Statement) (o : Option (ℕ × Statement)) (r : List Symbol)
    → optional_ends (codes "else") IsStatementEnd o r → IsStatementEnd (branch at ((p, (c, q)), (x, o))) r
branch_end at p c q x None r h = λ t. h
branch_end at p c q x (Some (f, y)) r h = h

end_branch : (at p : ℕ) (c : Formula) (q : ℕ) (x : Statement) (o : Option (ℕ × Statement)) (r : List Symbol)
    → IsStatementEnd (branch at ((p, (c, q)), (x, o))) r → optional_ends (codes "else") IsStatementEnd o r
end_branch at p c q x None r h = h refl
end_branch at p c q x (Some (f, y)) r h = h

abbrev Trial : Type 0
Trial = Statement × (ℕ × (Condition × ℕ))

abbrev trial_spelling : Trial → List Symbol
trial_spelling t = statement_spelling t.0 ++ (fixed t.1.0 (codes "while") ++ (condition_spelling t.1.1.0 ++ fixed t.1.1.1 (codes ";")))

abbrev trial : ℕ → Trial → Statement
trial at (x, (w, ((p, (c, q)), z))) = Do at x w p c q z

-- seven lists one behind the other
join_trial : (x w p c q z : List Symbol) → ((((x ++ w) ++ p) ++ c) ++ q) ++ z ≡ x ++ (w ++ ((p ++ (c ++ q)) ++ z))
join_trial x w p c q z =
    ap (λ u. u ++ z) (append_assoc ((x ++ w) ++ p) c q ∙ append_assoc (x ++ w) p (c ++ q)) ∙ append_assoc (x ++ w) (p ++ (c ++ q)) z
    ∙ append_assoc x w ((p ++ (c ++ q)) ++ z)

trial_same : (at : ℕ) (t : Trial) → inside (trial at t) ≡ trial_spelling t
trial_same at (x, (w, ((p, (c, q)), z))) =
    join_trial (statement_spelling x) (fixed w (codes "while")) (fixed p (codes "(")) (formula_spelling c) (fixed q (codes ")")) (fixed z (codes ";"))

abbrev count : ℕ → Header × Statement → Statement
count at ((p, ((f, a), ((c, b), (l, q)))), x) = For at p f a c b l q x

first_same : (f : Option Opening) (a : ℕ) → opening_spelling f ++ fixed a (codes ";") ≡ ended_spelling (codes ";") first_spelling (f, a)
first_same None a = refl
first_same (Some o) a = refl

value_same : (e : Option Formula) (q : ℕ) → optional_spelling e ++ fixed q (codes ";") ≡ value_spelling (e, q)
value_same None q = refl
value_same (Some e) q = refl

last_same : (l : Option Act) (q : ℕ) → last_spelling l ++ fixed q (codes ")") ≡ ended_spelling (codes ")") act_spelling (l, q)
last_same None q = refl
last_same (Some l) q = refl

join_header : (f a c b l q x : List Symbol) → ((((((f ++ a) ++ c) ++ b) ++ l) ++ q) ++ x) ≡ ((f ++ a) ++ ((c ++ b) ++ (l ++ q))) ++ x
join_header f a c b l q x =
    ap (λ u. u ++ x)
    (append_assoc (((f ++ a) ++ c) ++ b) l q ∙ ap (λ u. u ++ (l ++ q)) (append_assoc (f ++ a) c b) ∙ append_assoc (f ++ a) (c ++ b) (l ++ q))

count_same : (at p : ℕ) (f : Option Opening) (a : ℕ) (c : Option Formula) (b : ℕ) (l : Option Act) (q : ℕ) (x : Statement)
    → inside (For at p f a c b l q x) ≡ header_spelling (p, ((f, a), ((c, b), (l, q)))) ++ statement_spelling x
count_same at p f a c b l q x =
    ap (λ u. Symbol.Fixed p (codes "(") ∷ u)
    (join_header (opening_spelling f) (fixed a (codes ";")) (optional_spelling c) (fixed b (codes ";")) (last_spelling l) (fixed q (codes ")")) (statement_spelling x)
    ∙ ap (λ u. (u ++ ((optional_spelling c ++ fixed b (codes ";")) ++ (last_spelling l ++ fixed q (codes ")")))) ++ statement_spelling x) (first_same f a)
    ∙ ap (λ u. (ended_spelling (codes ";") first_spelling (f, a) ++ (u ++ (last_spelling l ++ fixed q (codes ")")))) ++ statement_spelling x) (value_same c b)
    ∙ ap (λ u. (ended_spelling (codes ";") first_spelling (f, a) ++ (value_spelling (c, b) ++ u)) ++ statement_spelling x) (last_same l q))

-- a statement of an expression has a symbol before its semicolon
formula_some : (x : Formula) → 0 < length (formula_spelling x)
formula_some (Numeral n) = omega arith
formula_some (Named n) = omega arith
formula_some (Indexed n p i q) = omega arith
formula_some (Called n p q) = omega arith
formula_some (CalledWith n p x xs q) = omega arith
formula_some (Paren p x q) = omega arith
formula_some (Unary op at x) = omega arith
formula_some (Binary op x at y) =
    omega (arith, formula_some x, length-append (formula_spelling x ++ fixed at (binary_mark op)) (formula_spelling y), length-append (formula_spelling x) (fixed at (binary_mark op)))

beyond_front : (u v : List Symbol) → 0 < length u → beyond (u ++ v) ≡ beyond u ++ v
beyond_front [] v lt = absurd (omega (arith, lt))
beyond_front (s ∷ u) v lt = refl

act_same : (a : Act) (q : ℕ) → inside (Simply a q) ≡ beyond (act_spelling a) ++ fixed q (codes ";")
act_same (Assign n i s e) q = refl
act_same (Step n i c) q = refl
act_same (Invoke x) q = beyond_front (formula_spelling x) (fixed q (codes ";")) (formula_some x)

-- what doesn't end with an `if` ends anywhere
closed_law : {A : Type 0} (make : A → Statement) (spelled : A → List Symbol) (good : A → Type 0) (reads : Reading A) → ((x : A) → IsTrue (ends_open (make x)) → ⊥)
    → IsReading spelled good Anywhere reads → IsReading spelled good (λ x r. IsStatementEnd (make x) r) reads
closed_law make spelled good reads h l = ends_law spelled good Anywhere (λ x r. IsStatementEnd (make x) r) reads (λ x r g e t. absurd (h x t)) (λ x r g e. tt) l

-- ---- what each word begins

module _ (room : ℕ) (inner : Reading Statement) (braced : Reading (Body × ℕ)) where
  abbrev good : Statement → Type 0
  good = IsGoodStatement (suc room)

  abbrev within : Statement → Type 0
  within = IsGoodStatement room

  abbrev branch_good : Branch → Type 0
  branch_good t = condition_good room t.0 × tailed_good ends_open within within t.1

  abbrev loop_good : Condition × Statement → Type 0
  loop_good t = condition_good room t.0 × within t.1

  abbrev trial_good : Trial → Type 0
  trial_good t = within t.0 × condition_good room t.1.1.0

  abbrev count_good : Header × Statement → Type 0
  count_good t = header_good room t.0 × within t.1

  abbrev breaks : ℕ → ℕ → Statement
  breaks at q = Break at q

  abbrev continues : ℕ → ℕ → Statement
  continues at q = Continue at q

  abbrev returns : ℕ → Option Formula × ℕ → Statement
  returns at (e, q) = Return at e q

  abbrev braces : ℕ → Body × ℕ → Statement
  braces at (b, q) = Braces at b q

  abbrev loop : ℕ → Condition × Statement → Statement
  loop at ((p, (c, q)), x) = While at p c q x

  abbrev OfStart : StatementStart → ℕ → Statement → Type 0
  OfStart Ending at y = y ≡ Empty at
  OfStart Breaking at y = IsMade Any (breaks at) y
  OfStart Continuing at y = IsMade Any (continues at) y
  OfStart Returning at y = IsMade (ended_good (IsGood 0 room)) (returns at) y
  OfStart Bracing at y = IsMade (IsGoodBody (room - 1)) (braces at) y
  OfStart Branching at y = IsMade branch_good (branch at) y
  OfStart Looping at y = IsMade loop_good (loop at) y
  OfStart Repeating at y = IsMade trial_good (trial at) y
  OfStart Counting at y = IsMade count_good (count at) y

  abbrev Begins : List ℕ → StatementStart → Type 0
  Begins text k = (at : ℕ) → Behind statement_spelling good IsStatementEnd (OfStart k at) (Symbol.Fixed at text) (behind_statement room inner braced k at)

  -- ---- statements of one node or more

  ending : Begins (codes ";") Ending
  ending at =
      let b = single_behind statement_spelling good (Symbol.Fixed at (codes ";")) (Empty at) refl (record { written = tt; leveled = tt; shallow = omega arith }) in
      record {
        reading = ends_law inside (λ y. y ≡ Empty at) Anywhere IsStatementEnd (behind_statement room inner braced Ending at)
            (λ y r h e. subst (λ u. IsStatementEnd u r) (sym h) (λ t. other_end t)) (λ y r h e. tt) b.reading;
        front = b.front;
        to = b.to;
      }

  breaking : Begins (codes "break") Breaking
  breaking at = record {
    reading = made_law (breaks at) (λ q. fixed q (codes ";")) Any (sign (codes ";")) inside IsStatementEnd (λ q. refl)
        (closed_law (breaks at) (λ q. fixed q (codes ";")) Any (sign (codes ";")) (λ q t. other_end t) (sign_law (codes ";")));
    front = made_front Any (breaks at) statement_spelling (Symbol.Fixed at (codes "break")) (λ q. refl);
    to = λ y h. subst good h.2 (record { written = tt; leveled = tt; shallow = omega arith });
  }

  continuing : Begins (codes "continue") Continuing
  continuing at = record {
    reading = made_law (continues at) (λ q. fixed q (codes ";")) Any (sign (codes ";")) inside IsStatementEnd (λ q. refl)
        (closed_law (continues at) (λ q. fixed q (codes ";")) Any (sign (codes ";")) (λ q t. other_end t) (sign_law (codes ";")));
    front = made_front Any (continues at) statement_spelling (Symbol.Fixed at (codes "continue")) (λ q. refl);
    to = λ y h. subst good h.2 (record { written = tt; leveled = tt; shallow = omega arith });
  }

  return_good : (at : ℕ) (e : Option Formula) (q : ℕ) → ended_good (IsGood 0 room) (e, q) → good (Return at e q)
  return_good at None q g = record { written = tt; leveled = tt; shallow = omega arith }
  return_good at (Some e) q g = record { written = tt; leveled = g.leveled; shallow = omega (arith, g.shallow) }

  returning : Begins (codes "return") Returning
  returning at = record {
    reading = made_law (returns at) value_spelling (ended_good (IsGood 0 room)) (ended_expression room) inside IsStatementEnd (λ y. value_same y.0 y.1)
        (closed_law (returns at) value_spelling (ended_good (IsGood 0 room)) (ended_expression room) (λ y t. other_end t) (value_law room));
    front = made_front (ended_good (IsGood 0 room)) (returns at) statement_spelling (Symbol.Fixed at (codes "return")) (λ y. refl);
    to = λ y h. subst good h.2 (return_good at h.0.0 h.0.1 h.1);
  }

  -- ---- statements with others in them

  module _ (some : 1 ≤ room) (l : IsReading statement_spelling within IsStatementEnd inner) (m : IsReading closed_spelling (IsGoodBody (room - 1)) Anywhere braced) where
    bracing : Begins (codes "{") Bracing
    bracing at = record {
      reading = made_law (braces at) closed_spelling (IsGoodBody (room - 1)) braced inside IsStatementEnd (λ y. refl)
          (closed_law (braces at) closed_spelling (IsGoodBody (room - 1)) braced (λ y t. other_end t) m);
      front = made_front (IsGoodBody (room - 1)) (braces at) statement_spelling (Symbol.Fixed at (codes "{")) (λ y. refl);
      to = λ y h. subst good h.2 (record { written = h.1.written; leveled = h.1.leveled; shallow = omega (arith, h.1.shallow, some) });
    }

    branch_is_good : (at p : ℕ) (c : Formula) (q : ℕ) (x : Statement) (o : Option (ℕ × Statement)) → branch_good ((p, (c, q)), (x, o)) → good (branch at ((p, (c, q)), (x, o)))
    branch_is_good at p c q x None g =
        record { written = g.1.written; leveled = (g.0.leveled, g.1.leveled); shallow = omega (arith, g.0.shallow, g.1.shallow) }
    branch_is_good at p c q x (Some (f, y)) g = record {
      written = (g.1.0.written, g.1.1.written);
      leveled = (g.0.leveled, g.1.0.leveled, g.1.1.leveled, g.1.2);
      shallow = omega (arith, g.0.shallow, g.1.0.shallow, g.1.1.shallow);
    }

    abbrev branch_reads : Reading Branch
    branch_reads = condition room >>> (inner >>> optional (codes "else") inner)

    abbrev branch_spelling : Branch → List Symbol
    branch_spelling t = condition_spelling t.0 ++ tail_spelling t.1

    branching : Begins (codes "if") Branching
    branching at = record {
      reading = made_law (branch at) branch_spelling branch_good branch_reads inside IsStatementEnd (λ t. branch_same at t.0.0 t.0.1.0 t.0.1.1 t.1.0 t.1.1)
          (other_law branch_spelling branch_good branch_good (λ t r. optional_ends (codes "else") IsStatementEnd t.1.1 r) (λ t r. IsStatementEnd (branch at t) r) branch_reads
          (λ t h. h) (λ t h. h) (λ t r h. branch_end at t.0.0 t.0.1.0 t.0.1.1 t.1.0 t.1.1 r h) (λ t r h. end_branch at t.0.0 t.0.1.0 t.0.1.1 t.1.0 t.1.1 r h)
          (then_law condition_spelling (condition_good room) Anywhere (condition room) tail_spelling (tailed_good ends_open within within)
          (λ (p : Statement × Option (ℕ × Statement)) r. optional_ends (codes "else") IsStatementEnd p.1 r) (inner >>> optional (codes "else") inner) (condition_law room some)
          (tailed_law (codes "else") ends_open statement_spelling within inner statement_spelling within IsStatementEnd inner l l) (λ c t r g h e. tt)));
      front = made_front branch_good (branch at) statement_spelling (Symbol.Fixed at (codes "if")) (λ t. branch_front at t.0.0 t.0.1.0 t.0.1.1 t.1.0 t.1.1);
      to = λ y h. subst good h.2 (branch_is_good at h.0.0.0 h.0.0.1.0 h.0.0.1.1 h.0.1.0 h.0.1.1 h.1);
    }

    looping : Begins (codes "while") Looping
    looping at = record {
      reading = made_law (loop at) (λ t. condition_spelling t.0 ++ statement_spelling t.1) loop_good (condition room >>> inner) inside IsStatementEnd (λ t. refl)
          (then_law condition_spelling (condition_good room) Anywhere (condition room) statement_spelling within IsStatementEnd inner (condition_law room some) l (λ c t r g h e. tt));
      front = made_front loop_good (loop at) statement_spelling (Symbol.Fixed at (codes "while")) (λ t. refl);
      to = λ y h. subst good h.2 (record { written = h.1.1.written; leveled = (h.1.0.leveled, h.1.1.leveled); shallow = omega (arith, h.1.0.shallow, h.1.1.shallow) });
    }

    trial_law : IsReading trial_spelling trial_good Anywhere (inner >>> (sign (codes "while") >>> (condition room >>> sign (codes ";"))))
    trial_law =
        then_law statement_spelling within IsStatementEnd inner
        (λ (t : ℕ × (Condition × ℕ)). fixed t.0 (codes "while") ++ (condition_spelling t.1.0 ++ fixed t.1.1 (codes ";"))) (λ (t : ℕ × (Condition × ℕ)). condition_good room t.1.0) Anywhere
        (sign (codes "while") >>> (condition room >>> sign (codes ";"))) l
        (then_free _ _ _ _ _ _ (sign_law (codes "while")) (marked_law (codes ";") condition_spelling (condition_good room) Anywhere (condition room) (condition_law room some) (λ c at r g. tt)))
        (λ x t r g h e i. refl)

    trying : Begins (codes "do") Repeating
    trying at = record {
      reading = made_law (trial at) trial_spelling trial_good (inner >>> (sign (codes "while") >>> (condition room >>> sign (codes ";")))) inside IsStatementEnd (trial_same at)
          (closed_law (trial at) trial_spelling trial_good (inner >>> (sign (codes "while") >>> (condition room >>> sign (codes ";")))) (λ y t. other_end t) trial_law);
      front = made_front trial_good (trial at) statement_spelling (Symbol.Fixed at (codes "do")) (λ t. refl);
      to = λ y h. subst good h.2 (record { written = h.1.0.written; leveled = (h.1.0.leveled, h.1.1.leveled); shallow = omega (arith, h.1.0.shallow, h.1.1.shallow) });
    }

    -- the parts of a header may be absent
    opening_facts : (f : Option Opening) (a : ℕ) → ended_good (IsGoodOpening (room - 1)) (f, a) → IsWrittenOpening f × IsLeveledOpening f × (opening_depth f ≤ room)
    opening_facts None a g = (tt, tt, omega arith)
    opening_facts (Some o) a g = (g.written, g.leveled, omega (arith, g.shallow, some))

    value_facts : (c : Option Formula) (b : ℕ) → ended_good (IsGood 0 room) (c, b) → IsLeveledOption c × (optional_depth c ≤ room)
    value_facts None b g = (tt, omega arith)
    value_facts (Some e) b g = (g.leveled, g.shallow)

    last_facts : (z : Option Act) (q : ℕ) → ended_good (IsGoodAct (room - 1)) (z, q) → IsWrittenLast z × IsLeveledLast z × (last_depth z ≤ room)
    last_facts None q g = (tt, tt, omega arith)
    last_facts (Some a) q g = (g.written, g.leveled, omega (arith, g.shallow, some))

    facts_opening : (f : Option Opening) (a : ℕ) → IsWrittenOpening f → IsLeveledOpening f → opening_depth f ≤ room → ended_good (IsGoodOpening (room - 1)) (f, a)
    facts_opening None a w v d = tt
    facts_opening (Some o) a w v d = record { written = w; leveled = v; shallow = omega (arith, d, some) }

    facts_last : (z : Option Act) (q : ℕ) → IsWrittenLast z → IsLeveledLast z → last_depth z ≤ room → ended_good (IsGoodAct (room - 1)) (z, q)
    facts_last None q w v d = tt
    facts_last (Some a) q w v d = record { written = w; leveled = v; shallow = omega (arith, d, some) }

    count_is_good : (at p : ℕ) (f : Option Opening) (a : ℕ) (c : Option Formula) (b : ℕ) (z : Option Act) (q : ℕ) (x : Statement)
        → header_good room (p, ((f, a), ((c, b), (z, q)))) → within x → good (For at p f a c b z q x)
    count_is_good at p f a c b z q x g h =
        let o = opening_facts f a g.0 in
        let v = value_facts c b g.1.0 in
        let s = last_facts z q g.1.1 in
        record { written = (o.0, s.0, h.written); leveled = (o.1, v.0, s.1, h.leveled); shallow = omega (arith, o.2, v.1, s.2, h.shallow) }

    counting : Begins (codes "for") Counting
    counting at = record {
      reading = made_law (count at) (λ t. header_spelling t.0 ++ statement_spelling t.1) count_good (header room >>> inner) inside IsStatementEnd
          (λ t. count_same at t.0.0 t.0.1.0.0 t.0.1.0.1 t.0.1.1.0.0 t.0.1.1.0.1 t.0.1.1.1.0 t.0.1.1.1.1 t.1)
          (then_law header_spelling (header_good room) Anywhere (header room) statement_spelling within IsStatementEnd inner (header_law room some) l (λ c t r g h e. tt));
      front = made_front count_good (count at) statement_spelling (Symbol.Fixed at (codes "for")) (λ t. refl);
      to = λ y h. subst good h.2 (count_is_good at h.0.0.0 h.0.0.1.0.0 h.0.0.1.0.1 h.0.0.1.1.0.0 h.0.0.1.1.0.1 h.0.0.1.1.1.0 h.0.0.1.1.1.1 h.0.1 h.1.0 h.1.1);
    }

-- all words for which there is room
entries : (room : ℕ) (inner : Reading Statement) (braced : Reading (Body × ℕ)) → (1 ≤ room → IsReading statement_spelling (IsGoodStatement room) IsStatementEnd inner)
    → (1 ≤ room → IsReading closed_spelling (IsGoodBody (room - 1)) Anywhere braced)
    → Each (Word statement_spelling (IsGoodStatement (suc room)) IsStatementEnd (behind_statement room inner braced) (OfStart room inner braced)) (statement_starts room)
entries zero inner braced l m = (ending 0 inner braced, (breaking 0 inner braced, (continuing 0 inner braced, (returning 0 inner braced, tt))))
entries (suc r) inner braced l m =
    let room : ℕ = suc r in
    let some : 1 ≤ room = omega arith in
    let a = l some in
    let b = m some in (
      ending room inner braced,
      (
        breaking room inner braced,
        (
          continuing room inner braced,
          (
            returning room inner braced,
            (
              bracing room inner braced some a b,
              (
                branching room inner braced some a b,
                (looping room inner braced some a b, (trying room inner braced some a b, (counting room inner braced some a b, tt))),
              ),
            ),
          ),
        ),
      ),
    )

-- ---- a simple statement

act_closed : (a : Act) (at : ℕ) (r : List Symbol) → IsActEnd a (Symbol.Fixed at (codes ";") ∷ r)
act_closed (Assign n i s e) at r = record { stops = refl; no_index = λ _. record { bracket = refl; parenthesis = refl } }
act_closed (Step n i c) at r = tt
act_closed (Invoke x) at r = tt

abbrev simply : Act × ℕ → Statement
simply (a, q) = Simply a q

-- one of this name, with at most so many nodes below the simple statement in it
abbrev HasName : ℕ → Name → Act × ℕ → Type 0
HasName room x p = OfName room x p.0

abbrev simple_reads : ℕ → Name → Reading Statement
simple_reads room x = made simply (act_behind room x >>> sign (codes ";"))

simple_law : (room : ℕ) (x : Name) → IsReading inside (IsMade (HasName room x) simply) IsStatementEnd (simple_reads room x)
simple_law room x =
    made_law simply (λ p. beyond (act_spelling p.0) ++ fixed p.1 (codes ";")) (HasName room x) (act_behind room x >>> sign (codes ";")) inside IsStatementEnd
    (λ p. act_same p.0 p.1)
    (closed_law simply (λ p. beyond (act_spelling p.0) ++ fixed p.1 (codes ";")) (HasName room x) (act_behind room x >>> sign (codes ";")) (λ p t. other_end t)
    (marked_law (codes ";") (λ a. beyond (act_spelling a)) (OfName room x) IsActEnd (act_behind room x) (act_behind_law room x) (λ a at r g. act_closed a at r)))

simple_front : (room : ℕ) (x : Name) (y : Statement) → IsMade (HasName room x) simply y → statement_spelling y ≡ Symbol.Named x.at x.text ∷ inside y
simple_front room x y h =
    subst (λ u. statement_spelling u ≡ Symbol.Named x.at x.text ∷ inside u) h.2
    (ap (λ u. u ++ fixed h.0.1 (codes ";")) (named_front room x h.0.0 h.1) ∙ ap (λ u. Symbol.Named x.at x.text ∷ u) (sym (act_same h.0.0 h.0.1)))

simple_good : (room : ℕ) (x : Name) (y : Statement) → IsMade (HasName room x) simply y → IsGoodStatement (suc (suc room)) y
simple_good room x y h =
    let g = named_good room x h.0.0 h.1 in
    subst (IsGoodStatement (suc (suc room))) h.2 (record { written = g.written; leveled = g.leveled; shallow = omega (arith, g.shallow) })

-- ---- statements

-- behind a name, where there is room
abbrev simple_pick : ℕ → Name → Option (Reading Statement)
simple_pick zero x = None
simple_pick (suc room) x = Some (simple_reads room x)

abbrev OfSimple : ℕ → Name → Statement → Type 0
OfSimple zero x y = ⊥
OfSimple (suc room) x y = IsMade (HasName room x) simply y

simple_goes : (room : ℕ) (x : Name) (n : ℕ) (s : Symbol) (ss : List Symbol) → named_statement room x n (s ∷ ss) ss ≡ picked n s ss (simple_pick room x)
simple_goes zero x n s ss = refl
simple_goes (suc room) x n s ss = refl

-- a good one has a name, and there is room for it
one_act : (a : Act) → 1 ≤ act_depth a
one_act (Assign n i s e) = omega arith
one_act (Step n i c) = omega arith
one_act (Invoke x) = one_node x

simple_told : (room : ℕ) (a : Act) (q : ℕ) → IsGoodStatement (suc room) (Simply a q)
    → (x : Name) × (next : Reading Statement) × (simple_pick room x ≡ Some next) × OfSimple room x (Simply a q)
simple_told zero a q g = absurd (omega (arith, g.shallow, one_act a))
simple_told (suc room) a q g =
    let h = good_named room a (record { written = g.written; leveled = g.leveled; shallow = omega (arith, g.shallow) }) in
    (h.0, simple_reads room h.0, refl, ((a, q), h.1, refl))

-- a word is told where there is room for it
flat : (room : ℕ) → (looked_up (statement_starts room) (codes ";") ≡ Some Ending) × (looked_up (statement_starts room) (codes "break") ≡ Some Breaking)
    × (looked_up (statement_starts room) (codes "continue") ≡ Some Continuing) × (looked_up (statement_starts room) (codes "return") ≡ Some Returning)
flat zero = (refl, refl, refl, refl)
flat (suc room) = (refl, refl, refl, refl)

deep : (room : ℕ) → 1 ≤ room → (looked_up (statement_starts room) (codes "{") ≡ Some Bracing) × (looked_up (statement_starts room) (codes "if") ≡ Some Branching)
    × (looked_up (statement_starts room) (codes "while") ≡ Some Looping) × (looked_up (statement_starts room) (codes "do") ≡ Some Repeating) × (looked_up (statement_starts room) (codes "for") ≡ Some Counting)
deep zero some = absurd (omega (arith, some))
deep (suc room) some = (refl, refl, refl, refl, refl)

value_good : (room : ℕ) (e : Option Formula) (q : ℕ) → IsLeveledOption e → optional_depth e ≤ room → ended_good (IsGood 0 room) (e, q)
value_good room None q v d = tt
value_good room (Some e) q v d = record { leveled = v; at_least = omega arith; shallow = d }

module _ (room : ℕ) (inner : Reading Statement) (braced : Reading (Body × ℕ)) (l : 1 ≤ room → IsReading statement_spelling (IsGoodStatement room) IsStatementEnd inner)
    (m : 1 ≤ room → IsReading closed_spelling (IsGoodBody (room - 1)) Anywhere braced)
  where
    abbrev over : Reading Statement
    over = statement_over room inner braced

    abbrev good_here : Statement → Type 0
    good_here = IsGoodStatement (suc room)

    abbrev Of : StatementStart → ℕ → Statement → Type 0
    Of = OfStart room inner braced

    abbrev pick : Symbol → Option (Reading Statement)
    pick (Symbol.Fixed at text) = option_map (λ k. behind_statement room inner braced k at) (looked_up (statement_starts room) text)
    pick (Symbol.Named at text) = simple_pick room (record { at = at; text = text })
    pick (Symbol.Number at value) = None
    pick (Symbol.Quoted at text) = None

    abbrev OfFirst : Symbol → Statement → Type 0
    OfFirst (Symbol.Fixed at text) y = OfWord Of at (looked_up (statement_starts room) text) y
    OfFirst (Symbol.Named at text) y = OfSimple room (record { at = at; text = text }) y
    OfFirst (Symbol.Number at value) y = ⊥
    OfFirst (Symbol.Quoted at text) y = ⊥

    word_goes : (n at : ℕ) (text : List ℕ) (ss : List Symbol) (o : Option StatementStart)
        → worded_from (behind_statement room inner braced) n (Symbol.Fixed at text ∷ ss) at ss o ≡ picked n (Symbol.Fixed at text) ss (option_map (λ k. behind_statement room inner braced k at) o)
    word_goes n at text ss None = refl
    word_goes n at text ss (Some k) = refl

    goes : (n : ℕ) (s : Symbol) (ss : List Symbol) → over n (s ∷ ss) ≡ picked n s ss (pick s)
    goes n (Symbol.Fixed at text) ss = word_goes n at text ss (looked_up (statement_starts room) text)
    goes n (Symbol.Named at text) ss = simple_goes room (record { at = at; text = text }) n (Symbol.Named at text) ss
    goes n (Symbol.Number at value) ss = refl
    goes n (Symbol.Quoted at text) ss = refl

    simple_each : (at : ℕ) (text : List ℕ) (next : Reading Statement) → simple_pick room (record { at = at; text = text }) ≡ Some next
        → Behind statement_spelling good_here IsStatementEnd (OfSimple room (record { at = at; text = text })) (Symbol.Named at text) next
    simple_each at text next e = by room (record { at = at; text = text }) e
      where
        by : (k : ℕ) (x : Name) → simple_pick k x ≡ Some next → Behind statement_spelling (IsGoodStatement (suc k)) IsStatementEnd (OfSimple k x) (Symbol.Named x.at x.text) next
        by zero x e = none_is_none next e
        by (suc k) x e =
            subst (Behind statement_spelling (IsGoodStatement (suc (suc k))) IsStatementEnd (OfSimple (suc k) x) (Symbol.Named x.at x.text)) (some_is (simple_reads k x) next e)
            (record { reading = simple_law k x; front = simple_front k x; to = simple_good k x })

    each : (s : Symbol) (next : Reading Statement) → pick s ≡ Some next → Behind statement_spelling good_here IsStatementEnd (OfFirst s) s next
    each (Symbol.Fixed at text) next e =
        word_each statement_spelling good_here IsStatementEnd (statement_starts room) (behind_statement room inner braced) Of (entries room inner braced l m) at text next e
    each (Symbol.Named at text) next e = simple_each at text next e
    each (Symbol.Number at value) next e = none_is_none next e
    each (Symbol.Quoted at text) next e = none_is_none next e

    word_told : (text : List ℕ) (k : StatementStart) (at : ℕ) (y : Statement) → looked_up (statement_starts room) text ≡ Some k → Of k at y → Told pick OfFirst y
    word_told text k at y e h =
        (Symbol.Fixed at text, behind_statement room inner braced k at, ap (option_map (λ k. behind_statement room inner braced k at)) e, subst (λ o. OfWord Of at o y) (sym e) h)

    -- each good statement is told by its first symbol
    told : (y : Statement) → good_here y → Told pick OfFirst y
    told (Braces p b q) g =
        word_told (codes "{") Bracing p (Braces p b q) (deep room (omega (arith, g.shallow))).0
        ((b, q), record { written = g.written; leveled = g.leveled; shallow = omega (arith, g.shallow) }, refl)
    told (Empty at) g = word_told (codes ";") Ending at (Empty at) (flat room).0 refl
    told (Simply a q) g = let t = simple_told room a q g in (Symbol.Named t.0.at t.0.text, t.1, t.2, t.3)
    told (Break at q) g = word_told (codes "break") Breaking at (Break at q) (flat room).1 (q, tt, refl)
    told (Continue at q) g = word_told (codes "continue") Continuing at (Continue at q) (flat room).2 (q, tt, refl)
    told (Return at e q) g = word_told (codes "return") Returning at (Return at e q) (flat room).3 ((e, q), value_good room e q g.leveled (omega (arith, g.shallow)), refl)
    told (If at p c q x) g =
        word_told (codes "if") Branching at (If at p c q x) (deep room (omega (arith, g.shallow, one_node c))).1 (
          ((p, (c, q)), (x, None)),
          (
            record { leveled = g.leveled.0; at_least = omega arith; shallow = omega (arith, g.shallow) },
            record { written = g.written; leveled = g.leveled.1; shallow = omega (arith, g.shallow) },
          ),
          refl,
        )
    told (IfElse at p c q x f y) g =
        word_told (codes "if") Branching at (IfElse at p c q x f y) (deep room (omega (arith, g.shallow, one_node c))).1 (
          ((p, (c, q)), (x, Some (f, y))),
          (
            record { leveled = g.leveled.0; at_least = omega arith; shallow = omega (arith, g.shallow) },
            (
              record { written = g.written.0; leveled = g.leveled.1; shallow = omega (arith, g.shallow) },
              record { written = g.written.1; leveled = g.leveled.2; shallow = omega (arith, g.shallow) },
              g.leveled.3,
            ),
          ),
          refl,
        )
    told (While at p c q x) g =
        word_told (codes "while") Looping at (While at p c q x) (deep room (omega (arith, g.shallow, one_node c))).2 (
          ((p, (c, q)), x),
          (
            record { leveled = g.leveled.0; at_least = omega arith; shallow = omega (arith, g.shallow) },
            record { written = g.written; leveled = g.leveled.1; shallow = omega (arith, g.shallow) },
          ),
          refl,
        )
    told (Do at x w p c q z) g =
        word_told (codes "do") Repeating at (Do at x w p c q z) (deep room (omega (arith, g.shallow, one_node c))).3 (
          (x, (w, ((p, (c, q)), z))),
          (
            record { written = g.written; leveled = g.leveled.0; shallow = omega (arith, g.shallow) },
            record { leveled = g.leveled.1; at_least = omega arith; shallow = omega (arith, g.shallow) },
          ),
          refl,
        )
    told (For at p f a c b z q x) g =
        let some : 1 ≤ room = omega (arith, g.shallow, one_statement x) in
        word_told (codes "for") Counting at (For at p f a c b z q x) (deep room some).4 (
          ((p, ((f, a), ((c, b), (z, q)))), x),
          (
            (
              facts_opening room inner braced some (l some) (m some) f a g.written.0 g.leveled.0 (omega (arith, g.shallow)),
              (
                value_good room c b g.leveled.1 (omega (arith, g.shallow)),
                facts_last room inner braced some (l some) (m some) z q g.written.1 g.leveled.2 (omega (arith, g.shallow)),
              ),
            ),
            record { written = g.written.2; leveled = g.leveled.3; shallow = omega (arith, g.shallow) },
          ),
          refl,
        )

    -- so statements are read lawfully, if those in them are
    over_law : IsReading statement_spelling good_here IsStatementEnd over
    over_law =
        told_law statement_spelling good_here IsStatementEnd over pick OfFirst (λ n. refl) goes each told (Empty 0) (record { written = tt; leveled = tt; shallow = omega arith })

-- ---- statements within statements

-- a statement by those of one node less, and what stands in a block
pub statement_step : (room : ℕ) → statement_read (suc room) ≡ statement_over room (statement_read room) (block_body room)
unfolding statement_read block_body
statement_step room = refl

pub block_step : (room : ℕ) → block_body (suc room) ≡ body_read room (statement_read room)
unfolding statement_read block_body
block_step room = refl

-- statements no deeper than there is room, and what stands in blocks no deeper
laws : (room : ℕ) → (1 ≤ room → IsReading statement_spelling (IsGoodStatement room) IsStatementEnd (statement_read room))
    × (1 ≤ room → IsReading closed_spelling (IsGoodBody (room - 1)) Anywhere (block_body room))
laws zero = (λ some. absurd (omega (arith, some)), λ some. absurd (omega (arith, some)))
laws (suc room) =
    let within = laws room in
    let less : room ≡ suc room - 1 = omega arith in (
      λ some. subst (IsReading statement_spelling (IsGoodStatement (suc room)) IsStatementEnd) (sym (statement_step room))
          (over_law room (statement_read room) (block_body room) within.0 within.1),
      λ some. subst (λ k. IsReading closed_spelling (IsGoodBody k) Anywhere (block_body (suc room))) less
          (subst (IsReading closed_spelling (IsGoodBody room) Anywhere) (sym (block_step room)) (body_law room (statement_read room) within.0)),
    )

-- so they are read lawfully
pub statement_law : (room : ℕ) → 1 ≤ room → IsReading statement_spelling (IsGoodStatement room) IsStatementEnd (statement_read room)
statement_law room some = (laws room).0 some

pub block_law : (room : ℕ) → 1 ≤ room → IsReading closed_spelling (IsGoodBody (room - 1)) Anywhere (block_body room)
block_law room some = (laws room).1 some
