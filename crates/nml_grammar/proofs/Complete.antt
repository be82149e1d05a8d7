-- An expression is read from its spelling, whatever stands behind that doesn't make it longer.
use Rattle.std.proofs.Common.{◌≡◌, ℕ, suc, ◌+◌, ◌-◌, ◌<◌, ◌≤◌, List, [], ◌∷◌, ◌++◌, Some, None, refl, ap, sym, ◌∙◌, arith, Bool}
use Rattle.std.specs.Prelude.{codes}
use Rattle.nml_tree.specs.declared.names.Name.{Name}
use Rattle.nml_tree.specs.declared.operator.Bin.{Bin}
use Rattle.nml_tree.specs.declared.tree.Size.{Size}
use Rattle.readings.specs.Symbol.{Symbol}
use Rattle.nml_tree.specs.Formula.{Formula, Prefix, Fit, Numeral, Truth, Named, Indexed, Paren, Fitted, Bits, Choose, Unary, Binary}
use Rattle.nml_tree.specs.Spell.{formula_spelling, binary_mark, prefix_mark, fit_word, size_spelling}
use Rattle.nml_tree.specs.Level.{level, binary_level, unary_level, IsLeveled}
use Rattle.nml_tree.specs.Depth.{depth}
use Rattle.readings.specs.Reading.{Read, Found, Stuck, read_on, behind, mark}
use Rattle.nml_grammar.specs.Reading.{size, Beginning, Value, Opening, Fitting, Slice, Choice, Operation, Reader, index, paren, fitted, slice, choice, operation, begun, operand, turn, climb, more, HasNoOperator, HasNoIndex, IsEnd}
use Rattle.readings.proofs.Symbols.{above}
use Rattle.nml_grammar.proofs.Symbols.{stops_more, stops_unary, operator_front, operator_weak, no_bracket, beginning_of, beginning_text}
use Rattle.nml_grammar.proofs.Flat.{one_node, flat-Indexed, flat-Paren, flat-Fitted, flat-Bits, flat-Choose, flat-Binary}
use Rattle.readings.proofs.Keeps.{kept_found}
use Rattle.nml_grammar.proofs.Keeps.{climb_more, more_more, operand_keeps}
use Rattle.readings.proofs.After.{on, room_is}
use Rattle.nml_tree.specs.declared.tree.Size.TheVariants as size_case

-- what goes on from the expression is what is read from its front
abbrev Comes : Formula → Type 0
Comes x = (k room : ℕ) (s : List Symbol) → IsLeveled x → k ≤ level x → depth x ≤ room → HasNoOperator (suc (level x)) s → HasNoIndex x s → (y : Formula) (r : List Symbol) (n : ℕ) → more n k room x s ≡ Found y r
    → (m : ℕ) × (climb m k room (formula_spelling x ++ s) ≡ Found y r)

-- it is read as it stands
abbrev pub Whole : Formula → Type 0
Whole x = (k room : ℕ) (s : List Symbol) → IsLeveled x → k ≤ level x → depth x ≤ room → IsEnd k x s → (m : ℕ) × (climb m k room (formula_spelling x ++ s) ≡ Found x s)

-- it is read as an operand
abbrev Stands : Formula → Type 0
Stands x = (room : ℕ) (s : List Symbol) → IsLeveled x → depth x ≤ room → HasNoIndex x s → (m : ℕ) × (operand (climb m) room (formula_spelling x ++ s) ≡ Found x s)

-- more calls
pub lift_climb : (m n k room : ℕ) (ss : List Symbol) (x : Formula) (s : List Symbol) → m ≤ n → climb m k room ss ≡ Found x s → climb n k room ss ≡ Found x s
lift_climb m n k room ss x s le e = kept_found (climb m k room ss) (climb n k room ss) x s (climb_more m n k room ss le) e

lift_more : (m n k room : ℕ) (left : Formula) (ss : List Symbol) (x : Formula) (s : List Symbol) → m ≤ n → more m k room left ss ≡ Found x s → more n k room left ss ≡ Found x s
lift_more m n k room left ss x s le e = kept_found (more m k room left ss) (more n k room left ss) x s (more_more m n k room left ss le) e

lift_operand : (m n room : ℕ) (ss : List Symbol) (x : Formula) (s : List Symbol) → m ≤ n → operand (climb m) room ss ≡ Found x s → operand (climb n) room ss ≡ Found x s
lift_operand m n room ss x s le e =
    kept_found (operand (climb m) room ss) (operand (climb n) room ss) x s (operand_keeps (climb m) (climb n) (λ k room ss. climb_more m n k room ss le) room ss) e

-- where no operator is in front, the expression stays
more_stops : (n k room : ℕ) (x : Formula) (s : List Symbol) → HasNoOperator k s → more (suc n) k room x s ≡ Found x s
more_stops n k room x s h = ap (turn (climb n) (λ y r. more n k room y r) room x s) h

whole_of : (x : Formula) → Comes x → Whole x
whole_of x comes k room s leveled le deep end = comes k room s leveled le deep (stops_more k (suc (level x)) s (omega arith) end.stops) end.no_index x s 1 (more_stops 0 k room x s end.stops)

comes_of : (x : Formula) → Stands x → Comes x
comes_of x stands k room s leveled le deep stops no_index y r n e =
    let o = stands room s leveled deep no_index in
    let M : ℕ = o.0 + n in (
      suc M,
      on (operand (climb M) room (formula_spelling x ++ s)) x s (λ y r. more M k room y r) (Found y r)
          (lift_operand o.0 M room (formula_spelling x ++ s) x s (omega arith) o.1)
          (lift_more n M k room x s y r (omega arith) e),
    )

-- what is behind a part is a mark
marked : (k : ℕ) (x : Formula) (s : List Symbol) → HasNoOperator 0 s → behind (codes "[") s ≡ None → IsEnd k x s
marked k x s h i = record { stops = stops_more 0 k s (omega arith) h; no_index = λ _. i }

-- what begins with a keyword or a mark
begins : (inner : Reader) (room : ℕ) (b : Beginning) (at : ℕ) (ss : List Symbol) → operand inner room (Symbol.Fixed at (beginning_text b) ∷ ss) ≡ begun inner room (Symbol.Fixed at (beginning_text b) ∷ ss) at ss (Some b)
begins inner room b at ss = ap (begun inner room (Symbol.Fixed at (beginning_text b) ∷ ss) at ss) (beginning_of b)

enter_paren : (inner : Reader) (room at : ℕ) (ss : List Symbol) → 1 < room → operand inner room (Symbol.Fixed at (codes "(") ∷ ss) ≡ paren inner room at ss
enter_paren inner room at ss lt = begins inner room Opening at ss ∙ room_is room (Symbol.Fixed at (codes "(") ∷ ss) (paren inner room at ss) lt

enter_fitted : (inner : Reader) (room : ℕ) (fit : Fit) (at : ℕ) (ss : List Symbol) → 1 < room → operand inner room (Symbol.Fixed at (fit_word fit) ∷ ss) ≡ fitted inner room fit at ss
enter_fitted inner room fit at ss lt = begins inner room (Fitting fit) at ss ∙ room_is room (Symbol.Fixed at (fit_word fit) ∷ ss) (fitted inner room fit at ss) lt

enter_slice : (inner : Reader) (room at : ℕ) (ss : List Symbol) → 1 < room → operand inner room (Symbol.Fixed at (codes "bits") ∷ ss) ≡ slice inner room at ss
enter_slice inner room at ss lt = begins inner room Slice at ss ∙ room_is room (Symbol.Fixed at (codes "bits") ∷ ss) (slice inner room at ss) lt

enter_choice : (inner : Reader) (room at : ℕ) (ss : List Symbol) → 1 < room → operand inner room (Symbol.Fixed at (codes "if") ∷ ss) ≡ choice inner room at ss
enter_choice inner room at ss lt = begins inner room Choice at ss ∙ room_is room (Symbol.Fixed at (codes "if") ∷ ss) (choice inner room at ss) lt

enter_operation : (inner : Reader) (room : ℕ) (op : Prefix) (at : ℕ) (ss : List Symbol) → 1 < room → operand inner room (Symbol.Fixed at (prefix_mark op) ∷ ss) ≡ operation inner room op at ss
enter_operation inner room op at ss lt = begins inner room (Operation op) at ss ∙ room_is room (Symbol.Fixed at (prefix_mark op) ∷ ss) (operation inner room op at ss) lt

-- a part of a node is read with one node less, before a mark
pub part : (x : Formula) → Whole x → (room : ℕ) (s : List Symbol) → IsLeveled x → depth x < room → HasNoOperator 0 s → behind (codes "[") s ≡ None
    → (m : ℕ) × (climb m 0 (room - 1) (formula_spelling x ++ s) ≡ Found x s)
part x whole room s leveled lt stops no_index = whole 0 (room - 1) s leveled (omega arith) (omega arith) (marked 0 x s stops no_index)

-- ---- each kind of expression

stands-Truth : (at : ℕ) (b : Bool) → Stands (Truth at b)
stands-Truth at b room s leveled deep no_index = (0, begins (climb 0) room (Value b) at s)

stands-Named : (n : Name) → Stands (Named n)
stands-Named n room s leveled deep no_index = (0, ap (index (climb 0) room n s) (no_index refl))

stands-Indexed : (n : Name) (p : ℕ) (i : Formula) (q : ℕ) → Whole i → Stands (Indexed n p i q)
stands-Indexed n p i q whole room s leveled deep no_index =
    let close : List Symbol = Symbol.Fixed q (codes "]") ∷ s in
    let inside : List Symbol = formula_spelling i ++ close in
    let a = part i whole room close leveled (omega arith) refl refl in
    let next : Formula → List Symbol → Read Formula = λ i r. read_on (mark (codes "]") r) (λ q s. Found (Indexed n p i q) s) in (
      a.0,
      ap (operand (climb a.0) room) (flat-Indexed n p i q s)
          ∙ room_is room (Symbol.Fixed p (codes "[") ∷ inside) (read_on (climb a.0 0 (room - 1) inside) next) (omega (arith, one_node i))
          ∙ on (climb a.0 0 (room - 1) inside) i close next (Found (Indexed n p i q) s) a.1 refl,
    )

stands-Paren : (p : ℕ) (x : Formula) (q : ℕ) → Whole x → Stands (Paren p x q)
stands-Paren p x q whole room s leveled deep no_index =
    let close : List Symbol = Symbol.Fixed q (codes ")") ∷ s in
    let inside : List Symbol = formula_spelling x ++ close in
    let a = part x whole room close leveled (omega arith) refl refl in
    let next : Formula → List Symbol → Read Formula = λ x r. read_on (mark (codes ")") r) (λ q s. Found (Paren p x q) s) in (
      a.0,
      ap (operand (climb a.0) room) (flat-Paren p x q s)
          ∙ enter_paren (climb a.0) room p inside (omega (arith, one_node x))
          ∙ on (climb a.0 0 (room - 1) inside) x close next (Found (Paren p x q) s) a.1 refl,
    )

-- what stands between `int` and the expression
fitted_front : (inner : Reader) (room : ℕ) (f : Fit) (at p : ℕ) (n : Size) (c : ℕ) (s : List Symbol)
    → fitted inner room f at (Symbol.Fixed p (codes "(") ∷ (size_spelling n ++ (Symbol.Fixed c (codes ",") ∷ s)))
    ≡ read_on (inner 0 (room - 1) s) (λ x s4. read_on (mark (codes ")") s4) (λ q s5. Found (Fitted f at p n c x q) s5))
fitted_front inner room f at p (size_case.Number n) c s = refl
fitted_front inner room f at p (size_case.Name n) c s = refl

stands-Fitted : (f : Fit) (at p : ℕ) (n : Size) (c : ℕ) (x : Formula) (q : ℕ) → Whole x → Stands (Fitted f at p n c x q)
stands-Fitted f at p n c x q whole room s leveled deep no_index =
    let close : List Symbol = Symbol.Fixed q (codes ")") ∷ s in
    let inside : List Symbol = formula_spelling x ++ close in
    let a = part x whole room close leveled (omega arith) refl refl in
    let next : Formula → List Symbol → Read Formula = λ x r. read_on (mark (codes ")") r) (λ q s. Found (Fitted f at p n c x q) s) in (
      a.0,
      ap (operand (climb a.0) room) (flat-Fitted f at p n c x q s)
          ∙ enter_fitted (climb a.0) room f at (Symbol.Fixed p (codes "(") ∷ (size_spelling n ++ (Symbol.Fixed c (codes ",") ∷ inside))) (omega (arith, one_node x))
          ∙ fitted_front (climb a.0) room f at p n c inside
          ∙ on (climb a.0 0 (room - 1) inside) x close next (Found (Fitted f at p n c x q) s) a.1 refl,
    )

-- what stands behind the expression of `bits`
abbrev sizes : (c : ℕ) (high : Size) (d : ℕ) (low : Size) (q : ℕ) → List Symbol → List Symbol
sizes c high d low q s = Symbol.Fixed c (codes ",") ∷ (size_spelling high ++ (Symbol.Fixed d (codes ",") ∷ (size_spelling low ++ (Symbol.Fixed q (codes ")") ∷ s))))

abbrev behind_slice : ℕ → ℕ → Formula → List Symbol → Read Formula
behind_slice at p x s2 =
    read_on (mark (codes ",") s2) (λ c s3. read_on (size s3) (λ high s4. read_on (mark (codes ",") s4) (λ d s5. read_on (size s5)
    (λ low s6. read_on (mark (codes ")") s6) (λ q s7. Found (Bits at p x c high d low q) s7)))))

slice_end : (at p : ℕ) (x : Formula) (c : ℕ) (high : Size) (d : ℕ) (low : Size) (q : ℕ) (s : List Symbol) → behind_slice at p x (sizes c high d low q s) ≡ Found (Bits at p x c high d low q) s
slice_end at p x c (size_case.Number n) d (size_case.Number m) q s = refl
slice_end at p x c (size_case.Number n) d (size_case.Name m) q s = refl
slice_end at p x c (size_case.Name n) d (size_case.Number m) q s = refl
slice_end at p x c (size_case.Name n) d (size_case.Name m) q s = refl

stands-Bits : (at p : ℕ) (x : Formula) (c : ℕ) (high : Size) (d : ℕ) (low : Size) (q : ℕ) → Whole x → Stands (Bits at p x c high d low q)
stands-Bits at p x c high d low q whole room s leveled deep no_index =
    let close : List Symbol = sizes c high d low q s in
    let inside : List Symbol = formula_spelling x ++ close in
    let a = part x whole room close leveled (omega arith) refl refl in (
      a.0,
      ap (operand (climb a.0) room) (flat-Bits at p x c high d low q s)
          ∙ enter_slice (climb a.0) room at (Symbol.Fixed p (codes "(") ∷ inside) (omega (arith, one_node x))
          ∙ on (climb a.0 0 (room - 1) inside) x close (behind_slice at p) (Found (Bits at p x c high d low q) s) a.1 (slice_end at p x c high d low q s),
    )

stands-Choose : (at : ℕ) (c : Formula) (t : ℕ) (x : Formula) (f : ℕ) (y : Formula) (end : ℕ) → Whole c → Whole x → Whole y → Stands (Choose at c t x f y end)
stands-Choose at c t x f y end whole_c whole_x whole_y room s leveled deep no_index =
    let close : List Symbol = Symbol.Fixed end (codes "endif") ∷ s in
    let inside_y : List Symbol = formula_spelling y ++ close in
    let from_else : List Symbol = Symbol.Fixed f (codes "else") ∷ inside_y in
    let inside_x : List Symbol = formula_spelling x ++ from_else in
    let from_then : List Symbol = Symbol.Fixed t (codes "then") ∷ inside_x in
    let inside_c : List Symbol = formula_spelling c ++ from_then in
    let a = part c whole_c room from_then leveled.0 (omega arith) refl refl in
    let b = part x whole_x room from_else leveled.1 (omega arith) refl refl in
    let d = part y whole_y room close leveled.2 (omega arith) refl refl in
    let M : ℕ = a.0 + b.0 + d.0 in
    let third : Formula → ℕ → Formula → ℕ → Formula → List Symbol → Read Formula = λ c t x f y s5. read_on (mark (codes "endif") s5) (λ end s6. Found (Choose at c t x f y end) s6) in
    let second : Formula → ℕ → Formula → List Symbol → Read Formula = λ c t x s3. read_on (mark (codes "else") s3) (λ f s4. read_on (climb M 0 (room - 1) s4) (third c t x f)) in
    let first : Formula → List Symbol → Read Formula = λ c s1. read_on (mark (codes "then") s1) (λ t s2. read_on (climb M 0 (room - 1) s2) (second c t)) in
    let last = on (climb M 0 (room - 1) inside_y) y close (third c t x f) (Found (Choose at c t x f y end) s) (lift_climb d.0 M 0 (room - 1) inside_y y close (omega arith) d.1) refl in
    let middle = on (climb M 0 (room - 1) inside_x) x from_else (second c t) (Found (Choose at c t x f y end) s) (lift_climb b.0 M 0 (room - 1) inside_x x from_else (omega arith) b.1) last in (
      M,
      ap (operand (climb M) room) (flat-Choose at c t x f y end s)
          ∙ enter_choice (climb M) room at inside_c (omega (arith, one_node c))
          ∙ on (climb M 0 (room - 1) inside_c) c from_then first (Found (Choose at c t x f y end) s) (lift_climb a.0 M 0 (room - 1) inside_c c from_then (omega arith) a.1) middle,
    )

stands-Unary : (op : Prefix) (at : ℕ) (x : Formula) → Whole x → Stands (Unary op at x)
stands-Unary op at x whole room s leveled deep no_index =
    let inside : List Symbol = formula_spelling x ++ s in
    let a = whole unary_level (room - 1) s leveled.0 leveled.1 (omega arith) (record { stops = stops_unary s; no_index = no_index }) in (
      a.0,
      enter_operation (climb a.0) room op at inside (omega (arith, one_node x))
          ∙ on (climb a.0 unary_level (room - 1) inside) x s (λ x s. Found (Unary op at x) s) (Found (Unary op at x) s) a.1 refl,
    )

comes-Binary : (op : Bin) (x : Formula) (at : ℕ) (y : Formula) → Comes x → Whole y → Comes (Binary op x at y)
comes-Binary op x at y comes_x whole_y k room s leveled le deep stops no_index z r n e =
    let here : List Symbol = Symbol.Fixed at (binary_mark op) ∷ (formula_spelling y ++ s) in
    let right : List Symbol = formula_spelling y ++ s in
    let b = whole_y (suc (binary_level op)) (room - 1) s leveled.1 leveled.3 (omega arith) (record { stops = stops; no_index = no_index }) in
    let M : ℕ = b.0 + n in
    let next : Formula → List Symbol → Read Formula = λ y s. more M k room (Binary op x at y) s in
    let goes = on (climb M (suc (binary_level op)) (room - 1) right) y s next (Found z r)
    (lift_climb b.0 M (suc (binary_level op)) (room - 1) right y s (omega arith) b.1)
    (lift_more n M k room (Binary op x at y) s z r (omega arith) e) in
    let turned : more (suc M) k room x here ≡ Found z r =
    ap (turn (climb M) (λ y r. more M k room y r) room x here) (operator_front k op at right le)
    ∙ above room (depth x) (Stuck here) (read_on (climb M (suc (binary_level op)) (room - 1) right) next) (omega arith)
    ∙ goes in
    let a = comes_x k room here leveled.0 (omega (arith, leveled.2)) (omega arith) (operator_weak (suc (level x)) op at right (omega (arith, leveled.2))) (λ _. no_bracket op at right) z r (suc M) turned in
    (a.0, ap (climb a.0 k room) (flat-Binary op x at y s) ∙ a.1)

-- ---- every expression

comes : (x : Formula) → Comes x
comes (Numeral n) = comes_of (Numeral n) (λ room s leveled deep no_index. (0, refl))
comes (Truth at b) = comes_of (Truth at b) (stands-Truth at b)
comes (Named n) = comes_of (Named n) (stands-Named n)
comes (Indexed n p i q) = comes_of (Indexed n p i q) (stands-Indexed n p i q (whole_of i (comes i)))
comes (Paren p x q) = comes_of (Paren p x q) (stands-Paren p x q (whole_of x (comes x)))
comes (Fitted f at p n c x q) = comes_of (Fitted f at p n c x q) (stands-Fitted f at p n c x q (whole_of x (comes x)))
comes (Bits at p x c high d low q) = comes_of (Bits at p x c high d low q) (stands-Bits at p x c high d low q (whole_of x (comes x)))
comes (Choose at c t x f y end) = comes_of (Choose at c t x f y end) (stands-Choose at c t x f y end (whole_of c (comes c)) (whole_of x (comes x)) (whole_of y (comes y)))
comes (Unary op at x) = comes_of (Unary op at x) (stands-Unary op at x (whole_of x (comes x)))
comes (Binary op x at y) = comes-Binary op x at y (comes x) (whole_of y (comes y))

-- an expression is read from its spelling, before what doesn't make it longer
pub complete : (x : Formula) → Whole x
complete x = whole_of x (comes x)

-- ---- one expression

found_parts : (x y : Formula) (r s : List Symbol) → Found x r ≡ Found y s → (x ≡ y) × (r ≡ s)
found_parts x y r s e = (cc, cc)

-- what is read is one expression and one rest
pub same_found : (m n k room : ℕ) (ss : List Symbol) (x y : Formula) (r s : List Symbol) → climb m k room ss ≡ Found x r → climb n k room ss ≡ Found y s → (x ≡ y) × (r ≡ s)
same_found m n k room ss x y r s p q =
    found_parts x y r s (sym (lift_climb m (m + n) k room ss x r (omega arith) p) ∙ lift_climb n (m + n) k room ss y s (omega arith) q)

-- expressions spelled alike before rests that don't make them longer are one, and so are the rests
pub one_front : (k : ℕ) (x y : Formula) (r s : List Symbol) → IsLeveled x → IsLeveled y → k ≤ level x → k ≤ level y → IsEnd k x r → IsEnd k y s → formula_spelling x ++ r ≡ formula_spelling y ++ s → (x ≡ y) × (r ≡ s)
one_front k x y r s h i le le2 f g e =
    let room : ℕ = depth x + depth y in
    let a = complete x k room r h le (omega arith) f in
    let b = complete y k room s i le2 (omega arith) g in
    same_found a.0 b.0 k room (formula_spelling x ++ r) x y r s a.1 (ap (climb b.0 k room) e ∙ b.1)

pub unique : (x y : Formula) → IsLeveled x → IsLeveled y → formula_spelling x ≡ formula_spelling y → x ≡ y
unique x y h i e =
    let end : (z : Formula) → IsEnd 0 z [] = λ z. record { stops = refl; no_index = λ _. refl } in
    (one_front 0 x y [] [] h i (omega arith) (omega arith) (end x) (end y) (ap (λ ss. ss ++ []) e)).0
