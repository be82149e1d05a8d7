-- An expression is read from its spelling, whatever stands behind that doesn't make it longer.
use Rattle.std.proofs.Common.{◌≡◌, ℕ, suc, ◌+◌, ◌-◌, ◌<◌, ◌≤◌, List, [], ◌∷◌, ◌++◌, Some, None, refl, ap, sym, ◌∙◌, arith}
use Rattle.std.specs.Prelude.{codes}
use Rattle.c_tree.specs.declared.names.Name.{Name}
use Rattle.c_tree.specs.declared.operator.Bin.{Bin}
use Rattle.readings.specs.Symbol.{Symbol}
use Rattle.c_tree.specs.Formula.{Formula, Further, Prefix, Numeral, Named, Indexed, Called, CalledWith, Paren, Unary, Binary, NoMore, More}
use Rattle.c_tree.specs.Spell.{formula_spelling, further_spelling, binary_mark, prefix_mark}
use Rattle.c_tree.specs.Level.{level, binary_level, unary_level, IsLeveled, IsLeveledFurther}
use Rattle.c_tree.specs.Depth.{depth, further_depth}
use Rattle.readings.specs.Reading.{Read, Found, Stuck, read_on, behind, mark}
use Rattle.c_grammar.specs.Reading.{Beginning, Opening, Operation, Reader, Others, others_from, arguments, call_from, call, named, paren, operation, begun, operand, turn, climb, more, further, HasNoOperator, HasNoSuffix, HasNoIndex, IsEnd}
use Rattle.readings.proofs.Symbols.{above}
use Rattle.c_grammar.proofs.Symbols.{stops_more, stops_unary, operator_front, operator_weak, no_suffix, beginning_of, beginning_text}
use Rattle.c_grammar.proofs.Flat.{one_node, flat-Indexed, flat-CalledWith, flat-More, flat-Paren, flat-Binary}
use Rattle.readings.proofs.Keeps.{kept_found}
use Rattle.c_grammar.proofs.Keeps.{climb_more, more_more, further_more, operand_keeps}
use Rattle.readings.proofs.After.{on, room_is}

-- what goes on from the expression is what is read from its front
abbrev Comes : Formula → Type 0
Comes x = (k room : ℕ) (s : List Symbol) → IsLeveled x → k ≤ level x → depth x ≤ room → HasNoOperator (suc (level x)) s → HasNoIndex x s → (y : Formula) (r : List Symbol) (n : ℕ) → more n k room x s ≡ Found y r
    → (m : ℕ) × (climb m k room (formula_spelling x ++ s) ≡ Found y r)

-- it is read as it stands
abbrev pub Whole : Formula → Type 0
Whole x = (k room : ℕ) (s : List Symbol) → IsLeveled x → k ≤ level x → depth x ≤ room → IsEnd k x s → (m : ℕ) × (climb m k room (formula_spelling x ++ s) ≡ Found x s)

-- it is read as an operand
abbrev Stands : Formula → Type 0
Stands x = (room : ℕ) (s : List Symbol) → IsLeveled x → depth x ≤ room → HasNoIndex x s → (m : ℕ) × (operand (climb m) (further m) room (formula_spelling x ++ s) ≡ Found x s)

-- more calls
pub lift_climb : (m n k room : ℕ) (ss : List Symbol) (x : Formula) (s : List Symbol) → m ≤ n → climb m k room ss ≡ Found x s → climb n k room ss ≡ Found x s
lift_climb m n k room ss x s le e = kept_found (climb m k room ss) (climb n k room ss) x s (climb_more m n k room ss le) e

lift_more : (m n k room : ℕ) (left : Formula) (ss : List Symbol) (x : Formula) (s : List Symbol) → m ≤ n → more m k room left ss ≡ Found x s → more n k room left ss ≡ Found x s
lift_more m n k room left ss x s le e = kept_found (more m k room left ss) (more n k room left ss) x s (more_more m n k room left ss le) e

lift_operand : (m n room : ℕ) (ss : List Symbol) (x : Formula) (s : List Symbol) → m ≤ n → operand (climb m) (further m) room ss ≡ Found x s → operand (climb n) (further n) room ss ≡ Found x s
lift_operand m n room ss x s le e =
    kept_found (operand (climb m) (further m) room ss) (operand (climb n) (further n) room ss) x s (operand_keeps (climb m) (climb n) (λ k room ss. climb_more m n k room ss le) (further m) (further n) (λ room ss. further_more m n room ss le) room ss) e

lift_further : (m n room : ℕ) (ss : List Symbol) (xs : Further) (s : List Symbol) → m ≤ n → further m room ss ≡ Found xs s → further n room ss ≡ Found xs s
lift_further m n room ss xs s le e = kept_found (further m room ss) (further n room ss) xs s (further_more m n room ss le) e

-- where no operator is in front, the expression stays
more_stops : (n k room : ℕ) (x : Formula) (s : List Symbol) → HasNoOperator k s → more (suc n) k room x s ≡ Found x s
more_stops n k room x s h = ap (turn (climb n) (λ y r. more n k room y r) room x s) h

whole_of : (x : Formula) → Comes x → Whole x
whole_of x comes k room s leveled le deep end = comes k room s leveled le deep (stops_more k (suc (level x)) s (omega arith) end.stops) end.no_index x s 1 (more_stops 0 k room x s end.stops)

comes_of : (x : Formula) → Stands x → Comes x
comes_of x stands k room s leveled le deep stops no_index y r n e =
    let o = stands room s leveled deep no_index in
    let M : ℕ = o.0 + n in (
      suc M,
      on (operand (climb M) (further M) room (formula_spelling x ++ s)) x s (λ y r. more M k room y r) (Found y r)
          (lift_operand o.0 M room (formula_spelling x ++ s) x s (omega arith) o.1)
          (lift_more n M k room x s y r (omega arith) e),
    )

-- what is behind a part is a mark
marked : (k : ℕ) (x : Formula) (s : List Symbol) → HasNoOperator 0 s → HasNoSuffix s → IsEnd k x s
marked k x s h i = record { stops = stops_more 0 k s (omega arith) h; no_index = λ _. i }

-- what begins with a mark
begins : (inner : Reader) (others : Others) (room : ℕ) (b : Beginning) (at : ℕ) (ss : List Symbol)
    → operand inner others room (Symbol.Fixed at (beginning_text b) ∷ ss) ≡ begun inner room (Symbol.Fixed at (beginning_text b) ∷ ss) at ss (Some b)
begins inner others room b at ss = ap (begun inner room (Symbol.Fixed at (beginning_text b) ∷ ss) at ss) (beginning_of b)

enter_paren : (inner : Reader) (others : Others) (room at : ℕ) (ss : List Symbol) → 1 < room → operand inner others room (Symbol.Fixed at (codes "(") ∷ ss) ≡ paren inner room at ss
enter_paren inner others room at ss lt = begins inner others room Opening at ss ∙ room_is room (Symbol.Fixed at (codes "(") ∷ ss) (paren inner room at ss) lt

enter_operation : (inner : Reader) (others : Others) (room : ℕ) (op : Prefix) (at : ℕ) (ss : List Symbol) → 1 < room
    → operand inner others room (Symbol.Fixed at (prefix_mark op) ∷ ss) ≡ operation inner room op at ss
enter_operation inner others room op at ss lt = begins inner others room (Operation op) at ss ∙ room_is room (Symbol.Fixed at (prefix_mark op) ∷ ss) (operation inner room op at ss) lt

-- a part of a node is read with one node less, before a mark
pub part : (x : Formula) → Whole x → (room : ℕ) (s : List Symbol) → IsLeveled x → depth x < room → HasNoOperator 0 s → HasNoSuffix s
    → (m : ℕ) × (climb m 0 (room - 1) (formula_spelling x ++ s) ≡ Found x s)
part x whole room s leveled lt stops suffix = whole 0 (room - 1) s leveled (omega arith) (omega arith) (marked 0 x s stops suffix)

-- ---- further arguments

-- what stands behind the last argument is neither a comma nor makes it longer
pub record Closed (s : List Symbol) : Type 0 where
  pub comma : behind (codes ",") s ≡ None
  pub stops : HasNoOperator 0 s
  pub suffix : HasNoSuffix s

-- they are read as they stand
abbrev pub WholeFurther : Further → Type 0
WholeFurther xs = (room : ℕ) (s : List Symbol) → IsLeveledFurther xs → further_depth xs ≤ room → Closed s → (m : ℕ) × (further m room (further_spelling xs ++ s) ≡ Found xs s)

-- a comma or what closes makes no argument longer
comma_stops : (xs : Further) (s : List Symbol) → Closed s → HasNoOperator 0 (further_spelling xs ++ s)
comma_stops NoMore s h = h.stops
comma_stops (More comma x xs) s h = refl

comma_suffix : (xs : Further) (s : List Symbol) → Closed s → HasNoSuffix (further_spelling xs ++ s)
comma_suffix NoMore s h = h.suffix
comma_suffix (More comma x xs) s h = record { bracket = refl; parenthesis = refl }

further_none : WholeFurther NoMore
further_none room s leveled deep h = (1, ap (others_from (climb 0) (further 0) room s) h.comma)

further_one : (comma : ℕ) (x : Formula) (xs : Further) → Whole x → WholeFurther xs → WholeFurther (More comma x xs)
further_one comma x xs whole whole_xs room s leveled deep h =
    let tail : List Symbol = further_spelling xs ++ s in
    let inside : List Symbol = formula_spelling x ++ tail in
    let a = whole 0 room tail leveled.0 (omega arith) (omega arith) (marked 0 x tail (comma_stops xs s h) (comma_suffix xs s h)) in
    let b = whole_xs room s leveled.1 (omega arith) h in
    let M : ℕ = a.0 + b.0 in
    let last : Formula → Further → List Symbol → Read Further = λ x xs t. Found (More comma x xs) t in
    let next : Formula → List Symbol → Read Further = λ x t. read_on (further M room t) (last x) in (
      suc M,
      ap (further (suc M) room) (flat-More comma x xs s)
          ∙ on (climb M 0 room inside) x tail next (Found (More comma x xs) s) (lift_climb a.0 M 0 room inside x tail (omega arith) a.1)
          (on (further M room tail) xs s (last x) (Found (More comma x xs) s) (lift_further b.0 M room tail xs s (omega arith) b.1) refl),
    )

-- an expression doesn't begin with a closing parenthesis
pub not_closing : (x : Formula) (s : List Symbol) → behind (codes ")") (formula_spelling x ++ s) ≡ None
not_closing (Numeral n) s = refl
not_closing (Named n) s = refl
not_closing (Indexed n p i q) s = refl
not_closing (Called n p q) s = refl
not_closing (CalledWith n p x xs q) s = refl
not_closing (Paren p x q) s = refl
not_closing (Unary Prefix.Neg at x) s = refl
not_closing (Unary Prefix.Inv at x) s = refl
not_closing (Unary Prefix.Not at x) s = refl
not_closing (Binary op x at y) s = ap (behind (codes ")")) (flat-Binary op x at y s) ∙ not_closing x (Symbol.Fixed at (binary_mark op) ∷ (formula_spelling y ++ s))

-- ---- each kind of expression

stands-Named : (n : Name) → Stands (Named n)
stands-Named n room s leveled deep no_index =
    (0, ap (named (climb 0) (further 0) room n s) (no_index refl).bracket ∙ ap (call (climb 0) (further 0) room n s) (no_index refl).parenthesis)

stands-Indexed : (n : Name) (p : ℕ) (i : Formula) (q : ℕ) → Whole i → Stands (Indexed n p i q)
stands-Indexed n p i q whole room s leveled deep no_index =
    let close : List Symbol = Symbol.Fixed q (codes "]") ∷ s in
    let inside : List Symbol = formula_spelling i ++ close in
    let a = part i whole room close leveled (omega arith) refl (record { bracket = refl; parenthesis = refl }) in
    let next : Formula → List Symbol → Read Formula = λ i r. read_on (mark (codes "]") r) (λ q s. Found (Indexed n p i q) s) in (
      a.0,
      ap (operand (climb a.0) (further a.0) room) (flat-Indexed n p i q s)
          ∙ room_is room (Symbol.Fixed p (codes "[") ∷ inside) (read_on (climb a.0 0 (room - 1) inside) next) (omega (arith, one_node i))
          ∙ on (climb a.0 0 (room - 1) inside) i close next (Found (Indexed n p i q) s) a.1 refl,
    )

stands-CalledWith : (n : Name) (p : ℕ) (x : Formula) (xs : Further) (q : ℕ) → Whole x → WholeFurther xs → Stands (CalledWith n p x xs q)
stands-CalledWith n p x xs q whole whole_xs room s leveled deep no_index =
    let close : List Symbol = Symbol.Fixed q (codes ")") ∷ s in
    let closed : Closed close = record { comma = refl; stops = refl; suffix = record { bracket = refl; parenthesis = refl } } in
    let tail : List Symbol = further_spelling xs ++ close in
    let inside : List Symbol = formula_spelling x ++ tail in
    let a = part x whole room tail leveled.0 (omega arith) (comma_stops xs close closed) (comma_suffix xs close closed) in
    let b = whole_xs (room - 1) close leveled.1 (omega arith) closed in
    let M : ℕ = a.0 + b.0 in
    let last : Formula → Further → List Symbol → Read Formula = λ x xs t. read_on (mark (codes ")") t) (λ q u. Found (CalledWith n p x xs q) u) in
    let next : Formula → List Symbol → Read Formula = λ x r. read_on (further M (room - 1) r) (last x) in (
      M,
      ap (operand (climb M) (further M) room) (flat-CalledWith n p x xs q s)
          ∙ ap (call_from (climb M) (further M) room n p inside) (not_closing x tail)
          ∙ room_is room inside (arguments (climb M) (further M) room n p inside) (omega (arith, one_node x))
          ∙ on (climb M 0 (room - 1) inside) x tail next (Found (CalledWith n p x xs q) s) (lift_climb a.0 M 0 (room - 1) inside x tail (omega arith) a.1)
          (on (further M (room - 1) tail) xs close (last x) (Found (CalledWith n p x xs q) s) (lift_further b.0 M (room - 1) tail xs close (omega arith) b.1) refl),
    )

stands-Paren : (p : ℕ) (x : Formula) (q : ℕ) → Whole x → Stands (Paren p x q)
stands-Paren p x q whole room s leveled deep no_index =
    let close : List Symbol = Symbol.Fixed q (codes ")") ∷ s in
    let inside : List Symbol = formula_spelling x ++ close in
    let a = part x whole room close leveled (omega arith) refl (record { bracket = refl; parenthesis = refl }) in
    let next : Formula → List Symbol → Read Formula = λ x r. read_on (mark (codes ")") r) (λ q s. Found (Paren p x q) s) in (
      a.0,
      ap (operand (climb a.0) (further a.0) room) (flat-Paren p x q s)
          ∙ enter_paren (climb a.0) (further a.0) room p inside (omega (arith, one_node x))
          ∙ on (climb a.0 0 (room - 1) inside) x close next (Found (Paren p x q) s) a.1 refl,
    )

stands-Unary : (op : Prefix) (at : ℕ) (x : Formula) → Whole x → Stands (Unary op at x)
stands-Unary op at x whole room s leveled deep no_index =
    let inside : List Symbol = formula_spelling x ++ s in
    let a = whole unary_level (room - 1) s leveled.0 leveled.1 (omega arith) (record { stops = stops_unary s; no_index = no_index }) in (
      a.0,
      enter_operation (climb a.0) (further a.0) room op at inside (omega (arith, one_node x))
          ∙ on (climb a.0 unary_level (room - 1) inside) x s (λ x s. Found (Unary op at x) s) (Found (Unary op at x) s) a.1 refl,
    )

comes-Binary : (op : Bin) (x : Formula) (at : ℕ) (y : Formula) → Comes x → Whole y → Comes (Binary op x at y)
comes-Binary op x at y comes_x whole_y k room s leveled le deep stops no_index z r n e =
    let here : List Symbol = Symbol.Fixed at (binary_mark op) ∷ (formula_spelling y ++ s) in
    let right : List Symbol = formula_spelling y ++ s in
    let b = whole_y (suc (binary_level op)) (room - 1) s leveled.1 leveled.3 (omega arith) (record { stops = stops; no_index = no_index }) in
    let M : ℕ = b.0 + n in
    let next : Formula → List Symbol → Read Formula = λ y s. more M k room (Binary op x at y) s in
    let goes = on (climb M (suc (binary_level op)) (room - 1) right) y s next (Found z r)
    (lift_climb b.0 M (suc (binary_level op)) (room - 1) right y s (omega arith) b.1)
    (lift_more n M k room (Binary op x at y) s z r (omega arith) e) in
    let turned : more (suc M) k room x here ≡ Found z r =
    ap (turn (climb M) (λ y r. more M k room y r) room x here) (operator_front k op at right le)
    ∙ above room (depth x) (Stuck here) (read_on (climb M (suc (binary_level op)) (room - 1) right) next) (omega arith)
    ∙ goes in
    let a = comes_x k room here leveled.0 (omega (arith, leveled.2)) (omega arith) (operator_weak (suc (level x)) op at right (omega (arith, leveled.2))) (λ _. no_suffix op at right) z r (suc M) turned in
    (a.0, ap (climb a.0 k room) (flat-Binary op x at y s) ∙ a.1)

-- ---- every expression
mutual
  comes : (x : Formula) → Comes x
  comes (Numeral n) = comes_of (Numeral n) (λ room s leveled deep no_index. (0, refl))
  comes (Named n) = comes_of (Named n) (stands-Named n)
  comes (Indexed n p i q) = comes_of (Indexed n p i q) (stands-Indexed n p i q (whole_of i (comes i)))
  comes (Called n p q) = comes_of (Called n p q) (λ room s leveled deep no_index. (0, refl))
  comes (CalledWith n p x xs q) = comes_of (CalledWith n p x xs q) (stands-CalledWith n p x xs q (whole_of x (comes x)) (complete_further xs))
  comes (Paren p x q) = comes_of (Paren p x q) (stands-Paren p x q (whole_of x (comes x)))
  comes (Unary op at x) = comes_of (Unary op at x) (stands-Unary op at x (whole_of x (comes x)))
  comes (Binary op x at y) = comes-Binary op x at y (comes x) (whole_of y (comes y))

  pub complete_further : (xs : Further) → WholeFurther xs
  complete_further NoMore = further_none
  complete_further (More comma x xs) = further_one comma x xs (whole_of x (comes x)) (complete_further xs)

-- an expression is read from its spelling, before what doesn't make it longer
pub complete : (x : Formula) → Whole x
complete x = whole_of x (comes x)

-- ---- one expression

found_parts : (x y : Formula) (r s : List Symbol) → Found x r ≡ Found y s → (x ≡ y) × (r ≡ s)
found_parts x y r s e = (cc, cc)

-- what is read is one expression and one rest
pub same_found : (m n k room : ℕ) (ss : List Symbol) (x y : Formula) (r s : List Symbol) → climb m k room ss ≡ Found x r → climb n k room ss ≡ Found y s → (x ≡ y) × (r ≡ s)
same_found m n k room ss x y r s p q =
    found_parts x y r s (sym (lift_climb m (m + n) k room ss x r (omega arith) p) ∙ lift_climb n (m + n) k room ss y s (omega arith) q)

-- expressions spelled alike before rests that don't make them longer are one, and so are the rests
pub one_front : (k : ℕ) (x y : Formula) (r s : List Symbol) → IsLeveled x → IsLeveled y → k ≤ level x → k ≤ level y → IsEnd k x r → IsEnd k y s → formula_spelling x ++ r ≡ formula_spelling y ++ s → (x ≡ y) × (r ≡ s)
one_front k x y r s h i le le2 f g e =
    let room : ℕ = depth x + depth y in
    let a = complete x k room r h le (omega arith) f in
    let b = complete y k room s i le2 (omega arith) g in
    same_found a.0 b.0 k room (formula_spelling x ++ r) x y r s a.1 (ap (climb b.0 k room) e ∙ b.1)

pub unique : (x y : Formula) → IsLeveled x → IsLeveled y → formula_spelling x ≡ formula_spelling y → x ≡ y
unique x y h i e =
    let end : (z : Formula) → IsEnd 0 z [] = λ z. record { stops = refl; no_index = λ _. record { bracket = refl; parenthesis = refl } } in
    (one_front 0 x y [] [] h i (omega arith) (omega arith) (end x) (end y) (ap (λ ss. ss ++ []) e)).0
