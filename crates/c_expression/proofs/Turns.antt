-- What is told of an expression, from what is told of its operand and of the operators behind it.
use Rattle.std.proofs.Common.{Bor, refl, ℕ, suc, ◌+◌, ◌-◌, ◌≤◌, ◌<◌, List, ◌∷◌, ◌≡◌, sym, ◌∙◌, ap, subst, map, max, arith, codes}
use Rattle.std.specs.Prelude.{Result, Ok, Err, Option, Some, None, if◌then◌else◌, nat_le}
use Rattle.std.specs.Result.{IsErrAnd}
use Rattle.std.proofs.lemmas.Bool.Decides.{nat_tests}
use Rattle.c_tree.specs.declared.names.Name.{Name}
use Rattle.c_tree.specs.declared.operator.Bin.{Bin}
use Rattle.readings.specs.Symbol.{Symbol}
use Rattle.c_tree.specs.Formula.{Formula, Further, Numeral, Named, Indexed, Called, CalledWith, Binary}
use Rattle.c_tree.specs.Level.{binary_level}
use Rattle.c_tree.specs.Depth.{depth, further_depth}
use Rattle.readings.specs.declared.sign.Sign.{Sign}
use Rattle.readings.specs.declared.stop.Stop.{Stop}
use Rattle.c_expression.specs.declared.beginning.Form.{Form}
use Rattle.readings.specs.Reading.{Read, Found, Stuck, read_on, behind, looked_up, mark}
use Rattle.c_grammar.specs.Reading.{Reader, Beginning, climb, more, further, operand, begun, beginnings, named, call, call_from, arguments, operator, turn}
use Rattle.readings.specs.Readings.{Reading}
use Rattle.readings.specs.Seen.{seen, Comes, Fails, Says}
use Rattle.c_expression.specs.Forms.{form_of, formed}
use Rattle.readings.proofs.Fronts.{says_behind}
use Rattle.readings.proofs.Saying.{alike, at_once, goes_on, fails_now, one_more, says_alike, says_one_more, stops_here}
use Rattle.readings.specs.declared.sign.Sign.TheVariants as lent
use Rattle.readings.specs.declared.stop.Stop.TheVariants as stops
use Rattle.c_expression.specs.declared.beginning.Form.TheVariants as form

-- a test of room that fails
too_few : {A : Type 0} (room n : ℕ) (a b : Read A) → room ≤ n → (if nat_le room n then a else b) ≡ a
too_few room n a b h = grind (arith, nat_tests)

-- a test of room that passes
enough : {A : Type 0} (room n : ℕ) (a b : Read A) → n < room → (if nat_le room n then a else b) ≡ b
enough room n a b h = grind (arith, nat_tests)

-- ---- operands

-- what is found may be written otherwise
pub found_as : {A : Type 0} (x y : A) (ss : List Symbol) → y ≡ x → Comes (λ n s. Found x s) ss (Found y ss)
found_as x y ss is = at_once (λ n. ap (λ z. Found z ss) (sym is))

-- a number
pub numeral : (room : ℕ) (signs rest : List Sign) (at value : ℕ) (x : Formula) → signs ≡ lent.Number at value ∷ rest
    → x ≡ Numeral (record { at = at; value = value }) → Comes (λ n s. operand (climb n) (further n) room s) (map seen signs) (Found x (map seen rest))
numeral room signs rest at value x is e =
    subst (λ (us : List Sign). Comes (λ n s. operand (climb n) (further n) room s) (map seen us) (Found x (map seen rest))) (sym is)
    (at_once (λ n. ap (λ y. Found y (map seen rest)) (sym e)))

-- what begins with a word
pub word_says : {A : Type 0} (found : A → Read Formula) (r : Result A Stop) (room : ℕ) (signs rest : List Sign) (at : ℕ) (text : Bor (List ℕ)) → signs ≡ lent.Fixed at text ∷ rest
    → Says found r (λ n s. begun (climb n) room (map seen signs) at s (looked_up beginnings text.now)) (map seen rest)
    → Says found r (λ n s. operand (climb n) (further n) room s) (map seen signs)
word_says found r room signs rest at text is h =
    says_alike found r (λ n s. begun (climb n) room (map seen signs) at s (looked_up beginnings text.now)) (λ n s. operand (climb n) (further n) room s)
    (map seen rest) (map seen signs)
    (λ n. subst (λ (us : List Sign). operand (climb n) (further n) room (map seen us) ≡ begun (climb n) room (map seen us) at (map seen rest) (looked_up beginnings text.now))
    (sym is) refl) h

-- what begins with a name
pub name_says : {A : Type 0} (found : A → Read Formula) (r : Result A Stop) (room : ℕ) (signs rest : List Sign) (at : ℕ) (text : Bor (List ℕ)) → signs ≡ lent.Named at text ∷ rest
    → Says found r (λ n s. named (climb n) (further n) room (record { at = at; text = text.now }) s (behind (codes "[") s)) (map seen rest)
    → Says found r (λ n s. operand (climb n) (further n) room s) (map seen signs)
name_says found r room signs rest at text is h =
    says_behind found r (λ n s. operand (climb n) (further n) room s) (λ n s. named (climb n) (further n) room (record { at = at; text = text.now }) s (behind (codes "[") s))
    signs rest (lent.Named at text) is (λ n t. refl) h

-- nothing begins with the word
pub begun_none : (room at : ℕ) (here ss : List Symbol) (o : Option Beginning) → None ≡ o → Comes (λ n s. begun (climb n) room here at s o) ss (Stuck here)
begun_none room at here ss o is = at_once (λ n. ap (begun (climb n) room here at ss) (sym is))

-- which is where the reading is stuck
small_form : (inner : Reader) (room at : ℕ) (here ss : List Symbol) (f : Form) → room ≤ 1
    → begun inner room here at ss (Some (form_of f)) ≡ Stuck here
small_form inner room at here ss form.Paren h = too_few room 1 _ _ h
small_form inner room at here ss (form.Operation op) h = too_few room 1 _ _ h

-- there is no room for what the word begins
pub begun_small : (room at : ℕ) (here ss : List Symbol) (o : Option Beginning) (f : Form) → Some (form_of f) ≡ o → room ≤ 1
    → Comes (λ n s. begun (climb n) room here at s o) ss (Stuck here)
begun_small room at here ss o f is h = at_once (λ n. ap (begun (climb n) room here at ss) (sym is) ∙ small_form (climb n) room at here ss f h)

-- where there is room, a form goes on behind its word
form_is : (inner : Reader) (room at : ℕ) (here ss : List Symbol) (f : Form) → 1 < room
    → begun inner room here at ss (Some (form_of f)) ≡ formed inner room f at ss
form_is inner room at here ss form.Paren h = enough room 1 _ _ h
form_is inner room at here ss (form.Operation op) h = enough room 1 _ _ h

-- what the word begins, where there is room
pub begun_form : {A : Type 0} (found : A → Read Formula) (r : Result A Stop) (room at : ℕ) (here ss : List Symbol) (o : Option Beginning)
    (f : Form) → Some (form_of f) ≡ o → 1 < room
    → Says found r (λ n s. formed (climb n) room f at s) ss → Says found r (λ n s. begun (climb n) room here at s o) ss
begun_form found r room at here ss o f is h t =
    says_alike found r (λ n s. formed (climb n) room f at s) (λ n s. begun (climb n) room here at s o) ss ss
    (λ n. ap (begun (climb n) room here at ss) (sym is) ∙ form_is (climb n) room at here ss f h) t

-- no index stands behind the name
pub no_index : {A : Type 0} (found : A → Read Formula) (r : Result A Stop) (room : ℕ) (name : Name) (ss : List Symbol) → None ≡ behind (codes "[") ss
    → Says found r (λ n s. call (climb n) (further n) room name s (behind (codes "(") s)) ss
    → Says found r (λ n s. named (climb n) (further n) room name s (behind (codes "[") s)) ss
no_index found r room name ss is h =
    says_alike found r (λ n s. call (climb n) (further n) room name s (behind (codes "(") s)) (λ n s. named (climb n) (further n) room name s (behind (codes "[") s)) ss ss
    (λ n. ap (named (climb n) (further n) room name ss) (sym is)) h

-- a name alone
pub no_call : (room : ℕ) (name : Name) (ss : List Symbol) (x : Formula) → None ≡ behind (codes "(") ss → x ≡ Named name
    → Comes (λ n s. call (climb n) (further n) room name s (behind (codes "(") s)) ss (Found x ss)
no_call room name ss x is e = at_once (λ n. ap (call (climb n) (further n) room name ss) (sym is) ∙ ap (λ y. Found y ss) (sym e))

-- a call
pub some_call : {A : Type 0} (found : A → Read Formula) (r : Result A Stop) (room : ℕ) (name : Name) (ss : List Symbol) (p : ℕ) (rest : List Symbol)
    → Some (p, rest) ≡ behind (codes "(") ss
    → Says found r (λ n s. call_from (climb n) (further n) room name p s (behind (codes ")") s)) rest
    → Says found r (λ n s. call (climb n) (further n) room name s (behind (codes "(") s)) ss
some_call found r room name ss p rest is h =
    says_alike found r (λ n s. call_from (climb n) (further n) room name p s (behind (codes ")") s)) (λ n s. call (climb n) (further n) room name s (behind (codes "(") s)) rest ss
    (λ n. ap (call (climb n) (further n) room name ss) (sym is)) h

-- a call without arguments
pub no_argument : (room : ℕ) (name : Name) (p : ℕ) (ss : List Symbol) (q : ℕ) (rest : List Symbol) (x : Formula) → Some (q, rest) ≡ behind (codes ")") ss
    → x ≡ Called name p q → Comes (λ n s. call_from (climb n) (further n) room name p s (behind (codes ")") s)) ss (Found x rest)
no_argument room name p ss q rest x is e = at_once (λ n. ap (call_from (climb n) (further n) room name p ss) (sym is) ∙ ap (λ y. Found y rest) (sym e))

-- there is no room for an argument
pub small_call : (room : ℕ) (name : Name) (p : ℕ) (ss : List Symbol) → None ≡ behind (codes ")") ss → room ≤ 1
    → Comes (λ n s. call_from (climb n) (further n) room name p s (behind (codes ")") s)) ss (Stuck ss)
small_call room name p ss is h = at_once (λ n. ap (call_from (climb n) (further n) room name p ss) (sym is) ∙ too_few room 1 _ _ h)

-- a call with arguments
pub some_arguments : {A : Type 0} (found : A → Read Formula) (r : Result A Stop) (room : ℕ) (name : Name) (p : ℕ) (ss : List Symbol) → None ≡ behind (codes ")") ss → 1 < room
    → Says found r (λ n s. arguments (climb n) (further n) room name p s) ss
    → Says found r (λ n s. call_from (climb n) (further n) room name p s (behind (codes ")") s)) ss
some_arguments found r room name p ss is h t =
    says_alike found r (λ n s. arguments (climb n) (further n) room name p s) (λ n s. call_from (climb n) (further n) room name p s (behind (codes ")") s)) ss ss
    (λ n. ap (call_from (climb n) (further n) room name p ss) (sym is) ∙ enough room 1 _ _ h) t

-- the depth of a call
pub call_depth : (whole x : Formula) (xs : Further) (n : Name) (p q a b m : ℕ) → whole ≡ CalledWith n p x xs q → depth x ≡ a → further_depth xs ≡ b
    → m ≡ max a b → depth whole ≡ 1 + m
call_depth whole x xs n p q a b m is xa xb mk = ap depth is ∙ omega (arith, xa, xb, mk)

-- the index behind a name
abbrev pub indexing : ℕ → Name → ℕ → Reading Formula
indexing room name p n s = read_on (climb n 0 (room - 1) s) (λ i r. read_on (mark (codes "]") r) (λ q t. Found (Indexed name p i q) t))

-- where there is room
index_is : (n room : ℕ) (name : Name) (ss : List Symbol) (p : ℕ) (rest : List Symbol) → Some (p, rest) ≡ behind (codes "[") ss → 1 < room
    → named (climb n) (further n) room name ss (behind (codes "[") ss) ≡ indexing room name p n rest
index_is n room name ss p rest is h = ap (named (climb n) (further n) room name ss) (sym is) ∙ enough room 1 _ _ h

-- what a name with its index comes to
pub index_comes : (room : ℕ) (name : Name) (ss : List Symbol) (p : ℕ) (rest : List Symbol) (a : Read Formula)
    → Some (p, rest) ≡ behind (codes "[") ss → 1 < room → Comes (indexing room name p) rest a
    → Comes (λ n s. named (climb n) (further n) room name s (behind (codes "[") s)) ss a
index_comes room name ss p rest a is h t =
    alike (indexing room name p) (λ n s. named (climb n) (further n) room name s (behind (codes "[") s)) rest ss a (λ n. index_is n room name ss p rest is h) t

-- what is said of a name with its index
pub index_says : {A : Type 0} (found : A → Read Formula) (r : Result A Stop) (room : ℕ) (name : Name) (ss : List Symbol) (p : ℕ) (rest : List Symbol)
    → Some (p, rest) ≡ behind (codes "[") ss → 1 < room → Says found r (indexing room name p) rest
    → Says found r (λ n s. named (climb n) (further n) room name s (behind (codes "[") s)) ss
index_says found r room name ss p rest is h t =
    says_alike found r (indexing room name p) (λ n s. named (climb n) (further n) room name s (behind (codes "[") s)) rest ss (λ n. index_is n room name ss p rest is h) t

-- ---- operators behind an expression

-- the operators behind the expression left, and what they are read from the start
abbrev pub behind_left : ℕ → ℕ → Formula → Reading Formula
behind_left k room left n s = more n k room left s

-- no operator of the level is in front
pub no_turn : (k room : ℕ) (left : Formula) (ss : List Symbol) → None ≡ operator k ss → Comes (behind_left k room left) ss (Found left ss)
no_turn k room left ss none =
    one_more (behind_left k room left) ss (Found left ss) (at_once (λ n. ap (turn (climb n) (λ x rest. more n k room x rest) room left ss) (sym none)))

-- there is no room for the operator in front
pub no_room : (k room : ℕ) (left : Formula) (ss : List Symbol) (op : Bin) (at : ℕ) (rest : List Symbol) → Some (op, at, rest) ≡ operator k ss
    → room ≤ depth left → Comes (behind_left k room left) ss (Stuck ss)
no_room k room left ss op at rest is le =
    one_more (behind_left k room left) ss (Stuck ss)
    (at_once (λ n. ap (turn (climb n) (λ x s. more n k room x s) room left ss) (sym is) ∙ too_few room (depth left) _ _ le))

-- the right part of an operator, and what is behind both
abbrev right_part : ℕ → ℕ → Formula → Bin → ℕ → ℕ → Reading Formula
right_part k room left op at lev n s = read_on (climb n lev (room - 1) s) (λ right t. more n k room (Binary op left at right) t)

-- what the operator in front, its right part and what is behind them come to
pub with_turn : (k room : ℕ) (left : Formula) (ss : List Symbol) (op : Bin) (at lev : ℕ) (rest : List Symbol) (a : Read Formula)
    → Some (op, at, rest) ≡ operator k ss → depth left < room → lev ≡ suc (binary_level op)
    → Comes (right_part k room left op at lev) rest a → Comes (behind_left k room left) ss a
with_turn k room left ss op at lev rest a is lt l r =
    one_more (behind_left k room left) ss a
    (alike (right_part k room left op at lev) (λ n s. more (suc n) k room left s) rest ss a
    (λ n. ap (turn (climb n) (λ x s. more n k room x s) room left ss) (sym is) ∙ enough room (depth left) _ _ lt
    ∙ ap (λ v. right_part k room left op at v n rest) (sym l)) r)

-- what goes on behind the two joined
pub turn_comes : (k room : ℕ) (left right joint : Formula) (ss : List Symbol) (op : Bin) (at lev : ℕ) (rest s : List Symbol) (a : Read Formula)
    → Some (op, at, rest) ≡ operator k ss → depth left < room → lev ≡ suc (binary_level op)
    → joint ≡ Binary op left at right → Comes (λ n t. climb n lev (room - 1) t) rest (Found right s) → Comes (behind_left k room joint) s a
    → Comes (behind_left k room left) ss a
turn_comes k room left right joint ss op at lev rest s a is lt l j r t =
    with_turn k room left ss op at lev rest a is lt l
    (goes_on (λ n y z. more n k room (Binary op left at y) z) r (subst (λ x. Comes (behind_left k room x) s a) j t))

-- where the right part stops
fails_turn : (stop : Stop) (reads : Reading Formula) (here : List Symbol) (k room : ℕ) (left : Formula) (ss : List Symbol) (op : Bin) (at lev : ℕ) (rest : List Symbol)
    → ((a : Read Formula) → Comes (behind_left k room left) ss a → Comes reads here a) → Some (op, at, rest) ≡ operator k ss → depth left < room
    → lev ≡ suc (binary_level op) → Fails stop (λ n t. climb n lev (room - 1) t) rest → Fails stop reads here
fails_turn (stops.Stuck far) reads here k room left ss op at lev rest goes is lt l t =
    let f = fails_now (stops.Stuck far) (λ n t. climb n lev (room - 1) t) (λ n y z. more n k room (Binary op left at y) z) rest t in
    (f.0, f.1, goes (Stuck f.0) (with_turn k room left ss op at lev rest (Stuck f.0) is lt l f.2))
fails_turn stops.Memory reads here k room left ss op at lev rest goes is lt l t = tt

-- and the error is handed on
pub turn_stops : {A : Type 0} (found : A → Read Formula) (r : Result A Stop) (stop : Stop) (reads : Reading Formula) (here : List Symbol)
    (k room : ℕ) (left : Formula) (ss : List Symbol) (op : Bin) (at lev : ℕ) (rest : List Symbol)
    → ((a : Read Formula) → Comes (behind_left k room left) ss a → Comes reads here a) → Some (op, at, rest) ≡ operator k ss → depth left < room
    → lev ≡ suc (binary_level op) → IsErrAnd r (λ y. y ≡ stop) → Fails stop (λ n t. climb n lev (room - 1) t) rest → Says found r reads here
turn_stops found (Ok x) stop reads here k room left ss op at lev rest goes is lt l q t = absurd q
turn_stops found (Err y) stop reads here k room left ss op at lev rest goes is lt l q t =
    subst (λ z. Fails z reads here) (sym q) (fails_turn stop reads here k room left ss op at lev rest goes is lt l t)

-- what goes on behind the operand is what is read from the start
pub first_operand : (k room : ℕ) (ss : List Symbol) (x : Formula) (rest : List Symbol) (a : Read Formula)
    → Comes (λ n s. operand (climb n) (further n) room s) ss (Found x rest) → Comes (behind_left k room x) rest a → Comes (λ n s. climb n k room s) ss a
first_operand k room ss x rest a r s = one_more (λ n t. climb n k room t) ss a (goes_on (λ n y t. more n k room y t) r s)

-- what is said where the operand stops
pub operand_stops : {A : Type 0} (found : A → Read Formula) (r : Result A Stop) (stop : Stop) (k room : ℕ) (ss : List Symbol)
    → IsErrAnd r (λ y. y ≡ stop) → Fails stop (λ n s. operand (climb n) (further n) room s) ss → Says found r (λ n s. climb n k room s) ss
operand_stops found r stop k room ss q t =
    says_one_more found r (λ n s. climb n k room s) ss (stops_here found r stop (λ n s. operand (climb n) (further n) room s) ss (λ n y s. more n k room y s) q t)

-- the depth of two joined
pub joint_depth : (joint left right : Formula) (op : Bin) (at d b m : ℕ) → joint ≡ Binary op left at right → depth left ≡ d → depth right ≡ b
    → m ≡ max d b → depth joint ≡ 1 + m
joint_depth joint left right op at d b m is ld rb mk = ap depth is ∙ omega (arith, ld, rb, mk)
