-- Simple statements are read lawfully.
use Rattle.std.proofs.Common.{◌≡◌, ℕ, zero, suc, ◌-◌, ◌≤◌, List, [], ◌∷◌, ◌++◌, Option, Some, None, refl, ap, sym, ◌∙◌, subst, arith, append_assoc}
use Rattle.std.specs.Prelude.{codes}
use Rattle.c_tree.specs.declared.names.Name.{Name}
use Rattle.c_tree.specs.declared.statement.AssignMark.{AssignMark}
use Rattle.c_tree.specs.declared.statement.AssignMark.TheVariants as store
use Rattle.c_tree.specs.declared.statement.StepMark.{StepMark}
use Rattle.c_tree.specs.declared.statement.StepMark.TheVariants as change
use Rattle.readings.specs.Symbol.{Symbol, fixed, beyond}
use Rattle.readings.specs.Reading.{looked_up}
use Rattle.readings.specs.Readings.{Reading, ◌>>>◌, sign}
use Rattle.readings.specs.Lawful.{IsReading, IsMade, Any, Anywhere}
use Rattle.readings.specs.Whole.{Goods}
use Rattle.readings.proofs.Symbols.{some_is, none_is_none, Each, entry}
use Rattle.readings.proofs.Combining.{sign_law, made_law, made_all, then_law, then_free, other_law, picked, Behind, told_law}
use Rattle.readings.proofs.CombiningWords.{made_front, Word, ToldWord, worded_law, single_behind}
use Rattle.c_tree.specs.Formula.{Formula, Further, Numeral, Named, Indexed, Called, CalledWith, Paren, Unary, Binary, NoMore, More, further}
use Rattle.c_tree.specs.Statement.{Index, Act, Assign, Step, Invoke}
use Rattle.c_tree.specs.Level.{IsLeveledFurther}
use Rattle.c_tree.specs.Depth.{further_depth}
use Rattle.c_tree.specs.Spell.{formula_spelling, store_spelling, change_spelling, act_spelling}
use Rattle.c_grammar.specs.Reading.{IsEnd, IsGood}
use Rattle.c_grammar.specs.Declarations.{expression}
use Rattle.c_grammar.specs.Calls.{Arguments, call_of, called_within, arguments_good, IsCallOf, Alone, With, inside_call}
use Rattle.c_grammar.specs.Acts.{Deed, Stores, Changes, done_to, DeedMark, Storing, Changing, deed_marks, behind_deed, deed, ActMark, Calling, Indexing, Doing, act_marks, behind_mark, act_behind, act_read, IsGoodAct, IsActEnd}
use Rattle.c_grammar.proofs.Flat.{join4, one_node}
use Rattle.c_grammar.proofs.LawfulExpressions.{expression_law}
use Rattle.c_grammar.proofs.LawfulCalls.{called_law}
use Rattle.c_grammar.proofs.Ended.{ends_law}

-- ---- what is done to a target

abbrev deed_spelling : Deed → List Symbol
deed_spelling (Stores s e) = store_spelling s ++ formula_spelling e
deed_spelling (Changes c) = change_spelling c

abbrev deed_good : ℕ → Deed → Type 0
deed_good room (Stores s e) = IsGood 0 room e
deed_good room (Changes c) = Unit {0}

abbrev IsDeedEnd : Deed → List Symbol → Type 0
IsDeedEnd (Stores s e) r = IsEnd 0 e r
IsDeedEnd (Changes c) r = Unit {0}

-- what is read behind each mark
abbrev OfDeed : ℕ → DeedMark → ℕ → Deed → Type 0
OfDeed room (Storing s) at d = IsMade (IsGood 0 room) (λ e. Stores (s at) e) d
OfDeed room (Changing c) at d = d ≡ Changes (c at)

abbrev DeedBehind : ℕ → List ℕ → DeedMark → Type 0
DeedBehind room text m = (at : ℕ) → Behind deed_spelling (deed_good room) IsDeedEnd (OfDeed room m at) (Symbol.Fixed at text) (behind_deed room m at)

module _ (room : ℕ) (some : 1 ≤ room) where
  storing : (text : List ℕ) (s : ℕ → AssignMark) → ((at : ℕ) → store_spelling (s at) ≡ fixed at text) → DeedBehind room text (Storing s)
  storing text s is at = record {
    reading = made_law (λ e. Stores (s at) e) formula_spelling (IsGood 0 room) (expression room) (λ d. beyond (deed_spelling d)) IsDeedEnd
        (λ e. ap (λ u. beyond (u ++ formula_spelling e)) (is at)) (expression_law 0 room (omega arith) some);
    front = made_front (IsGood 0 room) (λ e. Stores (s at) e) deed_spelling (Symbol.Fixed at text)
        (λ e. ap (λ u. u ++ formula_spelling e) (is at) ∙ ap (λ u. Symbol.Fixed at text ∷ beyond (u ++ formula_spelling e)) (sym (is at)));
    to = λ d h. subst (deed_good room) h.2 h.1;
  }

  changing : (text : List ℕ) (c : ℕ → StepMark) → ((at : ℕ) → change_spelling (c at) ≡ fixed at text) → DeedBehind room text (Changing c)
  changing text c is at =
      let b = single_behind deed_spelling (deed_good room) (Symbol.Fixed at text) (Changes (c at)) (is at) tt in
      record {
        reading = ends_law (λ d. beyond (deed_spelling d)) (λ d. d ≡ Changes (c at)) Anywhere IsDeedEnd (behind_deed room (Changing c) at)
            (λ d r h e. subst (λ u. IsDeedEnd u r) (sym h) tt) (λ d r h e. tt) b.reading;
        front = b.front;
        to = b.to;
      }

  set_behind : DeedBehind room (codes "=") (Storing store.Set)
  set_behind = storing (codes "=") store.Set (λ at. refl)

  add_behind : DeedBehind room (codes "+=") (Storing store.Add)
  add_behind = storing (codes "+=") store.Add (λ at. refl)

  sub_behind : DeedBehind room (codes "-=") (Storing store.Sub)
  sub_behind = storing (codes "-=") store.Sub (λ at. refl)

  up_behind : DeedBehind room (codes "++") (Changing change.Up)
  up_behind = changing (codes "++") change.Up (λ at. refl)

  down_behind : DeedBehind room (codes "--") (Changing change.Down)
  down_behind = changing (codes "--") change.Down (λ at. refl)

  deed_from : (d : Deed) → deed_good room d → ToldWord deed_marks (OfDeed room) d
  deed_from (Stores (store.Set at) e) g = (codes "=", Storing store.Set, at, refl, (e, g, refl))
  deed_from (Stores (store.Add at) e) g = (codes "+=", Storing store.Add, at, refl, (e, g, refl))
  deed_from (Stores (store.Sub at) e) g = (codes "-=", Storing store.Sub, at, refl, (e, g, refl))
  deed_from (Changes (change.Up at)) g = (codes "++", Changing change.Up, at, refl, refl)
  deed_from (Changes (change.Down at)) g = (codes "--", Changing change.Down, at, refl, refl)

  deed_law : IsReading deed_spelling (deed_good room) IsDeedEnd (deed room)
  deed_law =
      worded_law deed_spelling (deed_good room) IsDeedEnd deed_marks (behind_deed room) (OfDeed room)
      (set_behind, (add_behind, (sub_behind, (up_behind, (down_behind, tt))))) deed_from (Changes (change.Up 0)) tt

-- ---- calls

-- the arguments of a call, in a list
others : Further → List (ℕ × Formula)
others NoMore = []
others (More comma x xs) = (comma, x) ∷ others xs

others_further : (xs : Further) → further (others xs) ≡ xs
unfolding others
others_further NoMore = refl
others_further (More comma x xs) = ap (λ u. More comma x u) (others_further xs)

abbrev is_argument : ℕ → ℕ × Formula → Type 0
is_argument room p = IsGood 0 room p.1

others_good : (room : ℕ) (xs : Further) → IsLeveledFurther xs → further_depth xs ≤ room → Goods (is_argument room) (others xs)
unfolding others
others_good room NoMore h le = tt
others_good room (More comma x xs) h le = (record { leveled = h.0; at_least = omega arith; shallow = omega (arith, le) }, others_good room xs h.1 (omega (arith, le)))

further_good : (room : ℕ) (xs : List (ℕ × Formula)) → Goods (is_argument room) xs → IsLeveledFurther (further xs) × (further_depth (further xs) ≤ room)
further_good room [] h = (tt, omega arith)
further_good room ((comma, x) ∷ xs) h = let t = further_good room xs h.1 in ((h.0.leveled, t.0), omega (arith, h.0.shallow, t.1))

-- a call is good, and is one
call_good : (room : ℕ) (x : Name) (p : ℕ) (y : Formula) → IsCallOf room x p y → IsGoodAct room (Invoke y)
call_good room x p y (Alone q h) = subst (λ u. IsGoodAct room (Invoke u)) (sym h) (record { written = tt; leveled = tt; shallow = omega arith })
call_good room x p y (With h) = subst (λ u. IsGoodAct room (Invoke u)) h.2 (by h.0 h.1)
  where
    by : (a : Arguments) → arguments_good room a → IsGoodAct room (Invoke (call_of x p a))
    by (e, (xs, q)) g = let t = further_good room xs g.1 in record { written = tt; leveled = (g.0.leveled, t.0); shallow = omega (arith, g.0.shallow, t.1) }

call_front : (room : ℕ) (x : Name) (p : ℕ) (y : Formula) → IsCallOf room x p y → formula_spelling y ≡ Symbol.Named x.at x.text ∷ Symbol.Fixed p (codes "(") ∷ inside_call y
call_front room x p y (Alone q h) = subst (λ u. formula_spelling u ≡ Symbol.Named x.at x.text ∷ Symbol.Fixed p (codes "(") ∷ inside_call u) (sym h) refl
call_front room x p y (With h) = subst (λ u. formula_spelling u ≡ Symbol.Named x.at x.text ∷ Symbol.Fixed p (codes "(") ∷ inside_call u) h.2 (by h.0)
  where
    by : (a : Arguments) → formula_spelling (call_of x p a) ≡ Symbol.Named x.at x.text ∷ Symbol.Fixed p (codes "(") ∷ inside_call (call_of x p a)
    by (e, (xs, q)) = refl

-- with room for arguments or without
called_within_law : (room : ℕ) (x : Name) (p : ℕ) → IsReading inside_call (IsCallOf room x p) Anywhere (called_within room x p)
called_within_law zero x p =
    made_all (λ q. Called x p q) (λ q. fixed q (codes ")")) Any (sign (codes ")")) inside_call (IsCallOf 0 x p) Anywhere (λ q. refl) (λ q h. Alone q refl) from (sign_law (codes ")"))
  where
    from : (y : Formula) → IsCallOf 0 x p y → IsMade Any (λ q. Called x p q) y
    from y (Alone q h) = (q, tt, sym h)
    from y (With h) = absurd (omega (arith, h.1.0.shallow, one_node h.0.0))
called_within_law (suc room) x p = called_law (suc room) (omega arith) x p

-- ---- behind a name

-- what is done to a target, and the statement
done_spelled : (x : Name) (d : Deed) → act_spelling (done_to x None d) ≡ Symbol.Named x.at x.text ∷ deed_spelling d
done_spelled x (Stores s e) = refl
done_spelled x (Changes c) = refl

done_end : (x : Name) (i : Index) (d : Deed) (r : List Symbol) → IsDeedEnd d r → IsActEnd (done_to x i d) r
done_end x i (Stores s e) r h = h
done_end x i (Changes c) r h = h

end_done : (x : Name) (i : Index) (d : Deed) (r : List Symbol) → IsActEnd (done_to x i d) r → IsDeedEnd d r
end_done x i (Stores s e) r h = h
end_done x i (Changes c) r h = h

abbrev Parts : Type 0
Parts = Formula × (ℕ × Deed)

abbrev indexed : Name → ℕ → Parts → Act
indexed x p (i, (q, d)) = done_to x (Some (p, i, q)) d

abbrev parts_good : ℕ → Parts → Type 0
parts_good room a = IsGood 0 (room - 1) a.0 × deed_good room a.1.1

abbrev parts_spelling : Parts → List Symbol
parts_spelling a = formula_spelling a.0 ++ (fixed a.1.0 (codes "]") ++ deed_spelling a.1.1)

indexed_spelled : (x : Name) (p : ℕ) (i : Formula) (q : ℕ) (d : Deed) → act_spelling (done_to x (Some (p, i, q)) d) ≡ Symbol.Named x.at x.text ∷ Symbol.Fixed p (codes "[") ∷ parts_spelling (i, (q, d))
indexed_spelled x p i q (Stores s e) = ap (λ u. Symbol.Named x.at x.text ∷ Symbol.Fixed p (codes "[") ∷ u) (join4 (formula_spelling i) (fixed q (codes "]")) (store_spelling s) (formula_spelling e))
indexed_spelled x p i q (Changes c) = ap (λ u. Symbol.Named x.at x.text ∷ Symbol.Fixed p (codes "[") ∷ u) (append_assoc (formula_spelling i) (fixed q (codes "]")) (change_spelling c))

abbrev inside : Act → List Symbol
inside a = beyond (act_spelling a)

-- what is read behind each mark
abbrev OfAct : ℕ → Name → ActMark → ℕ → Act → Type 0
OfAct room x Calling p a = IsMade (IsCallOf room x p) (λ y. Invoke y) a
OfAct room x Indexing p a = IsMade (parts_good room) (indexed x p) a
OfAct room x (Doing m) at a = IsMade (OfDeed room m at) (λ d. done_to x None d) a

-- a simple statement of this name
abbrev pub OfName : ℕ → Name → Act → Type 0
OfName room x a = ToldWord (act_marks room) (OfAct room x) a

module _ (room : ℕ) (x : Name) where
  abbrev ActBehind : List ℕ → ActMark → Type 0
  ActBehind text m = (at : ℕ) → Behind inside (OfName room x) IsActEnd (OfAct room x m at) (Symbol.Fixed at text) (behind_mark room x m at)

  calling : looked_up (act_marks room) (codes "(") ≡ Some Calling → ActBehind (codes "(") Calling
  calling is p = record {
    reading = made_law (λ y. Invoke y) inside_call (IsCallOf room x p) (called_within room x p) (λ a. beyond (inside a)) IsActEnd (λ y. refl) (called_within_law room x p);
    front = λ a h. subst (λ u. inside u ≡ Symbol.Fixed p (codes "(") ∷ beyond (inside u)) h.2 (ap beyond (call_front room x p h.0 h.1));
    to = λ a h. (codes "(", Calling, p, is, h);
  }

  indexing : 1 ≤ room → 1 ≤ room - 1 → looked_up (act_marks room) (codes "[") ≡ Some Indexing → ActBehind (codes "[") Indexing
  indexing some more is p = record {
    reading = made_law (indexed x p) parts_spelling (parts_good room) (expression (room - 1) >>> (sign (codes "]") >>> deed room)) (λ a. beyond (inside a)) IsActEnd
        (λ a. ap (λ u. beyond (beyond u)) (indexed_spelled x p a.0 a.1.0 a.1.1))
        (other_law parts_spelling (parts_good room) (parts_good room) (λ a r. IsDeedEnd a.1.1 r) (λ a r. IsActEnd (indexed x p a) r) (expression (room - 1) >>> (sign (codes "]") >>> deed room))
        (λ a h. h) (λ a h. h) (λ a r h. done_end x (Some (p, a.0, a.1.0)) a.1.1 r h) (λ a r h. end_done x (Some (p, a.0, a.1.0)) a.1.1 r h)
        (then_law _ _ _ _ _ _ _ _ (expression_law 0 (room - 1) (omega arith) more) (then_free _ _ _ _ _ _ (sign_law (codes "]")) (deed_law room some))
        (λ e a r g h i. record { stops = refl; no_index = λ _. record { bracket = refl; parenthesis = refl } })));
    front = λ a h. subst (λ u. inside u ≡ Symbol.Fixed p (codes "[") ∷ beyond (inside u)) h.2
        (let e = ap beyond (indexed_spelled x p h.0.0 h.0.1.0 h.0.1.1) in e ∙ ap (λ u. Symbol.Fixed p (codes "[") ∷ beyond u) (sym e));
    to = λ a h. (codes "[", Indexing, p, is, h);
  }

  doing : (text : List ℕ) (m : DeedMark) → DeedBehind room text m → looked_up (act_marks room) text ≡ Some (Doing m) → ActBehind text (Doing m)
  doing text m b is at = record {
    reading = made_law (λ d. done_to x None d) (λ d. beyond (deed_spelling d)) (OfDeed room m at) (behind_deed room m at) (λ a. beyond (inside a)) IsActEnd
        (λ d. ap (λ u. beyond (beyond u)) (done_spelled x d))
        (other_law (λ d. beyond (deed_spelling d)) (OfDeed room m at) (OfDeed room m at) IsDeedEnd (λ d r. IsActEnd (done_to x None d) r) (behind_deed room m at)
        (λ d h. h) (λ d h. h) (λ d r h. done_end x None d r h) (λ d r h. end_done x None d r h) (b at).reading);
    front = λ a h. subst (λ u. inside u ≡ Symbol.Fixed at text ∷ beyond (inside u)) h.2
        (let e = ap beyond (done_spelled x h.0) in e ∙ (b at).front h.0 h.1 ∙ ap (λ u. Symbol.Fixed at text ∷ beyond u) (sym e));
    to = λ a h. (text, Doing m, at, is, h);
  }

-- all marks for which there is room
entries : (room : ℕ) (x : Name) → Each (Word inside (OfName room x) IsActEnd (behind_mark room x) (OfAct room x)) (act_marks room)
entries zero x = (calling 0 x refl, tt)
entries (suc zero) x = (
  calling 1 x refl,
  (
    doing 1 x (codes "=") (Storing store.Set) (set_behind 1 (omega arith)) refl,
    (
      doing 1 x (codes "+=") (Storing store.Add) (add_behind 1 (omega arith)) refl,
      (
        doing 1 x (codes "-=") (Storing store.Sub) (sub_behind 1 (omega arith)) refl,
        (doing 1 x (codes "++") (Changing change.Up) (up_behind 1 (omega arith)) refl, (doing 1 x (codes "--") (Changing change.Down) (down_behind 1 (omega arith)) refl, tt)),
      ),
    ),
  ),
)
entries (suc (suc room)) x =
    let k : ℕ = suc (suc room) in
    let some : 1 ≤ k = omega arith in (
      calling k x refl,
      (
        indexing k x some (omega arith) refl,
        (
          doing k x (codes "=") (Storing store.Set) (set_behind k some) refl,
          (
            doing k x (codes "+=") (Storing store.Add) (add_behind k some) refl,
            (
              doing k x (codes "-=") (Storing store.Sub) (sub_behind k some) refl,
              (doing k x (codes "++") (Changing change.Up) (up_behind k some) refl, (doing k x (codes "--") (Changing change.Down) (down_behind k some) refl, tt)),
            ),
          ),
        ),
      ),
    )

-- there always is for a call
calling_at : (room : ℕ) → looked_up (act_marks room) (codes "(") ≡ Some Calling
calling_at zero = refl
calling_at (suc zero) = refl
calling_at (suc (suc room)) = refl

call_alone : (room : ℕ) (x : Name) → OfName room x (Invoke (Called x 0 0))
call_alone room x = (codes "(", Calling, 0, calling_at room, (Called x 0 0, Alone 0 refl, refl))

-- so a simple statement is read lawfully behind its name
pub act_behind_law : (room : ℕ) (x : Name) → IsReading inside (OfName room x) IsActEnd (act_behind room x)
act_behind_law room x =
    worded_law inside (OfName room x) IsActEnd (act_marks room) (behind_mark room x) (OfAct room x) (entries room x) (λ a h. h) (Invoke (Called x 0 0)) (call_alone room x)

-- ---- simple statements

-- the nodes that each mark wants below its statement
abbrev Room : ℕ → ActMark → Type 0
Room room Calling = Unit {0}
Room room Indexing = 2 ≤ room
Room room (Doing m) = 1 ≤ room

rooms : (room : ℕ) → Each (λ text m. Room room m) (act_marks room)
rooms zero = (tt, tt)
rooms (suc zero) = (tt, (omega arith, (omega arith, (omega arith, (omega arith, (omega arith, tt))))))
rooms (suc (suc room)) = (tt, (omega arith, (omega arith, (omega arith, (omega arith, (omega arith, (omega arith, tt)))))))

-- what stands behind a name is good
done_good : (room : ℕ) (x : Name) (d : Deed) → 1 ≤ room → deed_good room d → IsGoodAct room (done_to x None d)
done_good room x (Stores s e) some g = record { written = tt; leveled = (tt, g.leveled); shallow = omega (arith, g.shallow, some) }
done_good room x (Changes c) some g = record { written = tt; leveled = tt; shallow = omega (arith, some) }

indexed_good : (room : ℕ) (x : Name) (p : ℕ) (i : Formula) (q : ℕ) (d : Deed) → 2 ≤ room → parts_good room (i, (q, d)) → IsGoodAct room (done_to x (Some (p, i, q)) d)
indexed_good room x p i q (Stores s e) some g = record { written = tt; leveled = (g.0.leveled, g.1.leveled); shallow = omega (arith, g.0.shallow, g.1.shallow, some) }
indexed_good room x p i q (Changes c) some g = record { written = tt; leveled = g.0.leveled; shallow = omega (arith, g.0.shallow, some) }

deed_is_good : (room at : ℕ) (m : DeedMark) (d : Deed) → OfDeed room m at d → deed_good room d
deed_is_good room at (Storing s) d h = subst (deed_good room) h.2 h.1
deed_is_good room at (Changing c) d h = subst (deed_good room) (sym h) tt

of_good : (room : ℕ) (x : Name) (m : ActMark) (at : ℕ) (a : Act) → Room room m → OfAct room x m at a → IsGoodAct room a
of_good room x Calling p a some h = subst (IsGoodAct room) h.2 (call_good room x p h.0 h.1)
of_good room x Indexing p a some h = subst (IsGoodAct room) h.2 (indexed_good room x p h.0.0 h.0.1.0 h.0.1.1 some h.1)
of_good room x (Doing m) at a some h = subst (IsGoodAct room) h.2 (done_good room x h.0 some (deed_is_good room at m h.0 h.1))

pub named_good : (room : ℕ) (x : Name) (a : Act) → OfName room x a → IsGoodAct room a
named_good room x a h = of_good room x h.1 h.2 a (entry (λ text m. Room room m) (act_marks room) h.0 h.1 (rooms room) h.3) h.4

-- and has its name in front
done_front : (x : Name) (d : Deed) → act_spelling (done_to x None d) ≡ Symbol.Named x.at x.text ∷ inside (done_to x None d)
done_front x (Stores s e) = refl
done_front x (Changes c) = refl

indexed_front : (x : Name) (p : ℕ) (i : Formula) (q : ℕ) (d : Deed) → act_spelling (done_to x (Some (p, i, q)) d) ≡ Symbol.Named x.at x.text ∷ inside (done_to x (Some (p, i, q)) d)
indexed_front x p i q (Stores s e) = refl
indexed_front x p i q (Changes c) = refl

of_front : (room : ℕ) (x : Name) (m : ActMark) (at : ℕ) (a : Act) → OfAct room x m at a → act_spelling a ≡ Symbol.Named x.at x.text ∷ inside a
of_front room x Calling p a h =
    subst (λ u. act_spelling u ≡ Symbol.Named x.at x.text ∷ inside u) h.2
    (let e = call_front room x p h.0 h.1 in e ∙ ap (λ u. Symbol.Named x.at x.text ∷ beyond u) (sym e))
of_front room x Indexing p a h = subst (λ u. act_spelling u ≡ Symbol.Named x.at x.text ∷ inside u) h.2 (indexed_front x p h.0.0 h.0.1.0 h.0.1.1)
of_front room x (Doing m) at a h = subst (λ u. act_spelling u ≡ Symbol.Named x.at x.text ∷ inside u) h.2 (done_front x h.0)

pub named_front : (room : ℕ) (x : Name) (a : Act) → OfName room x a → act_spelling a ≡ Symbol.Named x.at x.text ∷ inside a
named_front room x a h = of_front room x h.1 h.2 a h.4

-- every good one has a name
indexing_at : (room : ℕ) → 2 ≤ room → looked_up (act_marks room) (codes "[") ≡ Some Indexing
indexing_at zero some = absurd (omega (arith, some))
indexing_at (suc zero) some = absurd (omega (arith, some))
indexing_at (suc (suc room)) some = refl

doing_at : (room : ℕ) → 1 ≤ room → Each (λ text m. looked_up (act_marks room) text ≡ Some (Doing m)) deed_marks
doing_at zero some = absurd (omega (arith, some))
doing_at (suc zero) some = (refl, (refl, (refl, (refl, (refl, tt)))))
doing_at (suc (suc room)) some = (refl, (refl, (refl, (refl, (refl, tt)))))

done_told : (room : ℕ) (x : Name) (d : Deed) → 1 ≤ room → deed_good room d → OfName room x (done_to x None d)
done_told room x d some g =
    let t = deed_from room some d g in
    (t.0, Doing t.1, t.2, entry (λ text m. looked_up (act_marks room) text ≡ Some (Doing m)) deed_marks t.0 t.1 (doing_at room some) t.3, (d, t.4, refl))

indexed_told : (room : ℕ) (x : Name) (p : ℕ) (i : Formula) (q : ℕ) (d : Deed) → 2 ≤ room → parts_good room (i, (q, d)) → OfName room x (done_to x (Some (p, i, q)) d)
indexed_told room x p i q d some g = (codes "[", Indexing, p, indexing_at room some, ((i, (q, d)), g, refl))

pub good_named : (room : ℕ) (a : Act) → IsGoodAct room a → (x : Name) × OfName room x a
good_named room (Assign n None s e) g =
    (n, done_told room n (Stores s e) (omega (arith, g.shallow)) (record { leveled = g.leveled.1; at_least = omega arith; shallow = omega (arith, g.shallow) }))
good_named room (Assign n (Some (p, i, q)) s e) g = (
  n,
  indexed_told room n p i q (Stores s e) (omega (arith, g.shallow, one_node i))
      (record { leveled = g.leveled.0; at_least = omega arith; shallow = omega (arith, g.shallow) }, record { leveled = g.leveled.1; at_least = omega arith; shallow = omega (arith, g.shallow) }),
)
good_named room (Step n None c) g = (n, done_told room n (Changes c) (omega (arith, g.shallow)) tt)
good_named room (Step n (Some (p, i, q)) c) g = (
  n,
  indexed_told room n p i q (Changes c) (omega (arith, g.shallow, one_node i))
      (record { leveled = g.leveled; at_least = omega arith; shallow = omega (arith, g.shallow) }, tt),
)
good_named room (Invoke (Called n p q)) g = (n, (codes "(", Calling, p, calling_at room, (Called n p q, Alone q refl, refl)))
good_named room (Invoke (CalledWith n p e xs q)) g = (
  n,
  (
    codes "(",
    Calling,
    p,
    calling_at room,
    (
      CalledWith n p e xs q,
      With (
        (e, (others xs, q)),
        (record { leveled = g.leveled.0; at_least = omega arith; shallow = omega (arith, g.shallow) }, others_good room xs g.leveled.1 (omega (arith, g.shallow))),
        ap (λ u. CalledWith n p e u q) (others_further xs),
      ),
      refl,
    ),
  ),
)
good_named room (Invoke (Numeral n)) g = absurd g.written
good_named room (Invoke (Named n)) g = absurd g.written
good_named room (Invoke (Indexed n p i q)) g = absurd g.written
good_named room (Invoke (Paren p x q)) g = absurd g.written
good_named room (Invoke (Unary op at x)) g = absurd g.written
good_named room (Invoke (Binary op x at y)) g = absurd g.written

module _ (room : ℕ) where
  abbrev act_pick : Symbol → Option (Reading Act)
  act_pick (Symbol.Fixed at text) = None
  act_pick (Symbol.Named at text) = Some (act_behind room (record { at = at; text = text }))
  act_pick (Symbol.Number at value) = None
  act_pick (Symbol.Quoted at text) = None

  abbrev OfFirstName : Symbol → Act → Type 0
  OfFirstName (Symbol.Fixed at text) a = ⊥
  OfFirstName (Symbol.Named at text) a = OfName room (record { at = at; text = text }) a
  OfFirstName (Symbol.Number at value) a = ⊥
  OfFirstName (Symbol.Quoted at text) a = ⊥

  act_goes : (n : ℕ) (s : Symbol) (ss : List Symbol) → act_read room n (s ∷ ss) ≡ picked n s ss (act_pick s)
  act_goes n (Symbol.Fixed at text) ss = refl
  act_goes n (Symbol.Named at text) ss = refl
  act_goes n (Symbol.Number at value) ss = refl
  act_goes n (Symbol.Quoted at text) ss = refl

  act_each : (s : Symbol) (next : Reading Act) → act_pick s ≡ Some next → Behind act_spelling (IsGoodAct room) IsActEnd (OfFirstName s) s next
  act_each (Symbol.Fixed at text) next e = none_is_none next e
  act_each (Symbol.Named at text) next e =
      let x : Name = record { at = at; text = text } in
      subst (Behind act_spelling (IsGoodAct room) IsActEnd (OfName room x) (Symbol.Named at text)) (some_is (act_behind room x) next e)
      (record { reading = act_behind_law room x; front = named_front room x; to = named_good room x })
  act_each (Symbol.Number at value) next e = none_is_none next e
  act_each (Symbol.Quoted at text) next e = none_is_none next e

  abbrev any_name : Name
  any_name = record { at = 0; text = [] }

  -- so simple statements are read lawfully
  pub act_law : IsReading act_spelling (IsGoodAct room) IsActEnd (act_read room)
  act_law =
      told_law act_spelling (IsGoodAct room) IsActEnd (act_read room) act_pick OfFirstName (λ n. refl) act_goes act_each
      (λ a g. let h = good_named room a g in (Symbol.Named h.0.at h.0.text, act_behind room h.0, refl, h.1))
      (Invoke (Called any_name 0 0)) (named_good room any_name (Invoke (Called any_name 0 0)) (call_alone room any_name))
