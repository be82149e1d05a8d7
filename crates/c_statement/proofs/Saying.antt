-- What is said of simple statements and declarations.
use Rattle.std.proofs.Common.{ℕ, zero, suc, List, map, length, Some, None, codes, ◌≡◌, ◌<◌, refl, sym, ap, arith}
use Rattle.std.specs.Prelude.{Result}
use Rattle.c_tree.specs.declared.names.Name.{Name}
use Rattle.readings.specs.Symbol.{Symbol}
use Rattle.readings.specs.Reading.{Read, Found, Stuck, Unread, read_on, behind}
use Rattle.readings.specs.Readings.{Reading, ◌>>>◌, made}
use Rattle.readings.specs.declared.sign.Sign.{Sign}
use Rattle.readings.specs.declared.stop.Stop.{Stop}
use Rattle.readings.specs.declared.stop.Stop.TheVariants as stops
use Rattle.readings.specs.Seen.{seen, Comes, Fails, Says}
use Rattle.readings.proofs.Saying.{alike, at_once, comes_later, fails_alike, fails_later, fails_now, says_alike, says_later}
use Rattle.c_tree.specs.Formula.{Called}
use Rattle.c_tree.specs.Statement.{Act, Invoke, Variable, Scalar}
use Rattle.c_grammar.specs.Calls.{called_within, called_from, with_arguments}
use Rattle.c_grammar.specs.Acts.{act_marks}
use Rattle.c_grammar.specs.Declarations.{variable_within, variable_behind, without_initial, initial_from, array_from, initial, array}
use Rattle.c_grammar.specs.Words.{name}
use Rattle.c_statement.proofs.Words.{stuck_here}

-- ---- made into something else twice, and behind something

-- what is made of what is made
pub made_twice : {A B C : Type 0} (make : A → B) (remake : B → C) (reads : Reading A) (n : ℕ) (ss : List Symbol)
    → made remake (made make reads) n ss ≡ made (λ x. remake (make x)) reads n ss
made_twice {A = A} {B = B} {C = C} make remake reads n ss = by (reads n ss)
  where
    by : (a : Read A) → read_on {A = B} {B = C} (read_on a (λ x s. Found (make x) s)) (λ y s. Found (remake y) s) ≡ read_on a (λ x s. Found (remake (make x)) s)
    by (Found x s) = refl
    by (Stuck s) = refl
    by Unread = refl

-- what is made of two, the first of which is read
made_later : {A B C : Type 0} (make : A × B → C) (a : Read A) (second : List Symbol → Read B)
    → read_on {A = A × B} {B = C} (read_on a (λ x s. read_on (second s) (λ y t. Found (x, y) t))) (λ z t. Found (make z) t)
    ≡ read_on a (λ x s. read_on (second s) (λ y t. Found (make (x, y)) t))
made_later {A = A} {B = B} {C = C} make (Found x s) second = by (second s)
  where
    by : (b : Read B) → read_on {A = A × B} {B = C} (read_on b (λ y t. Found (x, y) t)) (λ z t. Found (make z) t) ≡ read_on b (λ y t. Found (make (x, y)) t)
    by (Found y t) = refl
    by (Stuck t) = refl
    by Unread = refl
made_later make (Stuck s) second = refl
made_later make Unread second = refl

-- what is said of what is made of the second and of a first that was read
pub says_made_later : {A B C D : Type 0} (found : D → Read C) (r : Result D Stop) (make : A × B → C) (first : Reading A) (second : Reading B) (ss : List Symbol) (x : A) (s : List Symbol)
    → Comes first ss (Found x s) → Says found r (made (λ y. make (x, y)) second) s → Says found r (made make (first >>> second)) ss
says_made_later found r make first second ss x s h k =
    says_alike found r (λ n t. read_on (first n t) (λ z u. made (λ y. make (z, y)) second n u)) (made make (first >>> second)) ss ss
    (λ n. made_later make (first n ss) (second n))
    (says_later found r first ss x s (λ n z u. made (λ y. make (z, y)) second n u) h k)

-- ---- three, of which the first two were read as one

grouped : {A B C : Type 0} (a : Read A) (second : List Symbol → Read B) (third : List Symbol → Read C)
    → read_on {B = A × (B × C)} a (λ x s. read_on {B = A × (B × C)} (read_on {B = B × C} (second s) (λ y t. read_on (third t) (λ z u. Found (y, z) u))) (λ q u. Found (x, q) u))
    ≡ read_on {A = A × B} {B = A × (B × C)} (read_on {B = A × B} a (λ x s. read_on (second s) (λ y t. Found (x, y) t))) (λ p t. read_on (third t) (λ z u. Found (p.0, (p.1, z)) u))
grouped {A = A} {B = B} {C = C} (Found x s) second third = by (second s)
  where
    last : (y : B) (c : Read C) → read_on {A = B × C} {B = A × (B × C)} (read_on c (λ z u. Found (y, z) u)) (λ q u. Found (x, q) u) ≡ read_on c (λ z u. Found (x, (y, z)) u)
    last y (Found z u) = refl
    last y (Stuck u) = refl
    last y Unread = refl

    by : (b : Read B)
        → read_on {A = B × C} {B = A × (B × C)} (read_on {B = B × C} b (λ y t. read_on (third t) (λ z u. Found (y, z) u))) (λ q u. Found (x, q) u)
        ≡ read_on {A = A × B} {B = A × (B × C)} (read_on {B = A × B} b (λ y t. Found (x, y) t)) (λ p t. read_on (third t) (λ z u. Found (p.0, (p.1, z)) u))
    by (Found y t) = last y (third t)
    by (Stuck t) = refl
    by Unread = refl
grouped (Stuck s) second third = refl
grouped Unread second third = refl

pub trio : {A B C : Type 0} (first : Reading A) (second : Reading B) (third : Reading C) (ss : List Symbol) (x : A) (y : B) (r : List Symbol) (z : C) (s : List Symbol)
    → Comes (first >>> second) ss (Found (x, y) r) → Comes third r (Found z s) → Comes (first >>> (second >>> third)) ss (Found (x, (y, z)) s)
trio first second third ss x y r z s h k =
    alike (λ n t. read_on ((first >>> second) n t) (λ p u. read_on (third n u) (λ w v. Found (p.0, (p.1, w)) v))) (first >>> (second >>> third)) ss ss (Found (x, (y, z)) s)
    (λ n. grouped (first n ss) (second n) (third n))
    (comes_later (first >>> second) (λ n p u. read_on (third n u) (λ w v. Found (p.0, (p.1, w)) v)) ss (x, y) r (Found (x, (y, z)) s) h
    (comes_later third (λ n w v. Found (x, (y, w)) v) r z s (Found (x, (y, z)) s) k (at_once (λ n. refl))))

pub trio_fails : {A B C : Type 0} (stop : Stop) (first : Reading A) (second : Reading B) (third : Reading C) (ss : List Symbol) (x : A) (y : B) (r : List Symbol)
    → Comes (first >>> second) ss (Found (x, y) r) → Fails stop third r → Fails stop (first >>> (second >>> third)) ss
trio_fails stop first second third ss x y r h k =
    fails_alike stop (first >>> (second >>> third)) (λ n t. read_on ((first >>> second) n t) (λ p u. read_on (third n u) (λ w v. Found (p.0, (p.1, w)) v))) ss ss
    (λ n. grouped (first n ss) (second n) (third n))
    (fails_later stop (first >>> second) (λ n p u. read_on (third n u) (λ w v. Found (p.0, (p.1, w)) v)) ss (x, y) r h
    (fails_now stop third (λ n w v. Found (x, (y, w)) v) r k))

-- ---- calls

closed_call : (room : ℕ) (x : Name) (p : ℕ) (n : ℕ) (ss : List Symbol) (q : ℕ) (rest : List Symbol) → behind (codes ")") ss ≡ Some (q, rest)
    → called_within room x p n ss ≡ Found (Called x p q) rest
closed_call zero x p n ss q rest e = rw e refl
closed_call (suc room) x p n ss q rest e = ap (called_from (suc room) x p n ss) e

-- a call without arguments
pub call_alone : (room : ℕ) (x : Name) (p : ℕ) (ss : List Symbol) (q : ℕ) (rest : List Symbol) → Some (q, rest) ≡ behind (codes ")") ss
    → Comes (made Invoke (called_within room x p)) ss (Found (Invoke (Called x p q)) rest)
call_alone room x p ss q rest e = at_once (λ n. ap (λ a. read_on a (λ y s. Found (Invoke y) s)) (closed_call room x p n ss q rest (sym e)))

narrow_call : (room : ℕ) (x : Name) (p : ℕ) (n : ℕ) (ss : List Symbol) → room ≡ 0 → behind (codes ")") ss ≡ None → called_within room x p n ss ≡ Stuck ss
narrow_call zero x p n ss none e = rw e refl
narrow_call (suc room) x p n ss none e = absurd (omega (arith, none))

-- no room for an argument
pub call_narrow : (room : ℕ) (x : Name) (p : ℕ) (ss : List Sign) → room ≡ 0 → None ≡ behind (codes ")") (map seen ss)
    → Fails (stops.Stuck (length ss)) (made Invoke (called_within room x p)) (map seen ss)
call_narrow room x p ss none e =
    stuck_here (made Invoke (called_within room x p)) ss (λ n. ap (λ a. read_on a (λ y s. Found (Invoke y) s)) (narrow_call room x p n (map seen ss) none (sym e)))

wide_call : (room : ℕ) (x : Name) (p : ℕ) (n : ℕ) (ss : List Symbol) → (room ≡ 0 → ⊥) → behind (codes ")") ss ≡ None → called_within room x p n ss ≡ with_arguments room x p n ss
wide_call zero x p n ss some e = absurd (some refl)
wide_call (suc room) x p n ss some e = ap (called_from (suc room) x p n ss) e

-- a call with arguments
pub call_says : {A : Type 0} (found : A → Read Act) (r : Result A Stop) (room : ℕ) (x : Name) (p : ℕ) (ss : List Symbol) → (room ≡ 0 → ⊥) → None ≡ behind (codes ")") ss
    → Says found r (made Invoke (with_arguments room x p)) ss → Says found r (made Invoke (called_within room x p)) ss
call_says found r room x p ss some e h =
    says_alike found r (made Invoke (with_arguments room x p)) (made Invoke (called_within room x p)) ss ss
    (λ n. ap (λ a. read_on a (λ y s. Found (Invoke y) s)) (wide_call room x p n ss some (sym e))) h

-- ---- the marks for which there is room

pub wide_marks : (room : ℕ) → 1 < room → act_marks 2 ≡ act_marks room
wide_marks zero some = absurd (omega (arith, some))
wide_marks (suc zero) some = absurd (omega (arith, some))
wide_marks (suc (suc room)) some = refl

-- ---- declarations

plain_within : (room n : ℕ) (ss : List Symbol) → room ≡ 0 → variable_within room n ss ≡ read_on (name n ss) (λ x s. without_initial x n s)
plain_within zero n ss none = refl
plain_within (suc room) n ss none = absurd (omega (arith, none))

initial_within : (room n : ℕ) (ss : List Symbol) → (room ≡ 0 → ⊥) → variable_within room n ss ≡ read_on (name n ss) (λ x s. variable_behind room x n s)
initial_within zero n ss some = absurd (some refl)
initial_within (suc room) n ss some = refl

-- its name
pub variable_fails : (stop : Stop) (room : ℕ) (ss : List Symbol) → Fails stop name ss → Fails stop (variable_within room) ss
variable_fails stop zero ss h = fails_now stop name (λ n x s. without_initial x n s) ss h
variable_fails stop (suc room) ss h = fails_now stop name (λ n x s. variable_behind (suc room) x n s) ss h

-- where there is no room for an initial value
pub variable_plain : {A : Type 0} (found : A → Read Variable) (r : Result A Stop) (room : ℕ) (ss : List Symbol) (x : Name) (s : List Symbol) → room ≡ 0 → Comes name ss (Found x s)
    → Says found r (without_initial x) s → Says found r (variable_within room) ss
variable_plain found r room ss x s none h k =
    says_alike found r (λ n t. read_on (name n t) (λ y u. without_initial y n u)) (variable_within room) ss ss (λ n. plain_within room n ss none)
    (says_later found r name ss x s (λ n y u. without_initial y n u) h k)

-- where there is room
pub variable_wide : {A : Type 0} (found : A → Read Variable) (r : Result A Stop) (room : ℕ) (ss : List Symbol) (x : Name) (s : List Symbol) → (room ≡ 0 → ⊥) → Comes name ss (Found x s)
    → Says found r (variable_behind room x) s → Says found r (variable_within room) ss
variable_wide found r room ss x s some h k =
    says_alike found r (λ n t. read_on (name n t) (λ y u. variable_behind room y n u)) (variable_within room) ss ss (λ n. initial_within room n ss some)
    (says_later found r name ss x s (λ n y u. variable_behind room y n u) h k)

-- an initial value stands behind the name
pub initial_says : {A : Type 0} (found : A → Read Variable) (r : Result A Stop) (room : ℕ) (x : Name) (ss : List Symbol) (at : ℕ) (rest : List Symbol) → Some (at, rest) ≡ behind (codes "=") ss
    → Says found r (initial room x at) rest → Says found r (variable_behind room x) ss
initial_says found r room x ss at rest e h =
    says_alike found r (initial room x at) (variable_behind room x) rest ss (λ n. ap (initial_from room x n ss) (sym e)) h

-- none does
pub no_initial_says : {A : Type 0} (found : A → Read Variable) (r : Result A Stop) (room : ℕ) (x : Name) (ss : List Symbol) → None ≡ behind (codes "=") ss
    → Says found r (without_initial x) ss → Says found r (variable_behind room x) ss
no_initial_says found r room x ss e h =
    says_alike found r (without_initial x) (variable_behind room x) ss ss (λ n. ap (initial_from room x n ss) (sym e)) h

-- a bracket stands behind the name
pub array_says : {A : Type 0} (found : A → Read Variable) (r : Result A Stop) (x : Name) (ss : List Symbol) (p : ℕ) (rest : List Symbol) → Some (p, rest) ≡ behind (codes "[") ss
    → Says found r (array x p) rest → Says found r (without_initial x) ss
array_says found r x ss p rest e h = says_alike found r (array x p) (without_initial x) rest ss (λ n. ap (array_from x n ss) (sym e)) h

-- neither does
pub scalar_comes : (x : Name) (ss : List Symbol) → None ≡ behind (codes "[") ss → Comes (without_initial x) ss (Found (Scalar x) ss)
scalar_comes x ss e = at_once (λ n. ap (array_from x n ss) (sym e))
