-- What is said of readings put together.
use Rattle.std.proofs.Common.{ℕ, zero, suc, List, ◌∷◌, Option, Some, None, ◌≡◌, refl, ◌∙◌, ap, sym, subst, max, arith, ◌≤◌, ◌<◌, le-leb, Result, Ok, Err}
use Rattle.std.specs.Option.{option_map}
use Rattle.std.specs.Result.{IsErrAnd}
use Rattle.readings.specs.Symbol.{Symbol}
use Rattle.readings.specs.Reading.{Read, Found, Stuck, read_on, looked_up, behind, Unread, with_room}
use Rattle.readings.specs.Readings.{Reading, ◌>>>◌, made, optional, optional_from, worded, worded_from}
use Rattle.readings.specs.declared.stop.Stop.{Stop}
use Rattle.readings.specs.Seen.{Comes, Fails, Says}
use Rattle.readings.specs.declared.stop.Stop.TheVariants as stops
use Rattle.readings.proofs.After.{room_is}

-- ---- what a reading comes to

-- at once
pub at_once : {A : Type 0} {reads : Reading A} {ss : List Symbol} {a : Read A} → ((n : ℕ) → reads n ss ≡ a) → Comes reads ss a
at_once h = record { calls = 0; is = λ n le. h n }

-- what goes on behind what was found
pub goes_on : {A B : Type 0} {reads : Reading A} {ss : List Symbol} {x : A} {rest : List Symbol} {b : Read B} (next : ℕ → A → List Symbol → Read B) → Comes reads ss (Found x rest) → Comes (λ n s. next n x s) rest b
    → Comes (λ n s. read_on (reads n s) (next n)) ss b
goes_on next r s =
    record { calls = max r.calls s.calls; is = λ n le. ap (λ a. read_on a (next n)) (r.is n (omega (arith, le))) ∙ s.is n (omega (arith, le)) }

-- where a reading is stuck nothing goes on
pub ends : {A B : Type 0} {reads : Reading A} {ss : List Symbol} {rest : List Symbol} (next : ℕ → A → List Symbol → Read B) → Comes reads ss (Stuck rest) → Comes (λ n s. read_on (reads n s) (next n)) ss (Stuck rest)
ends next r = record { calls = r.calls; is = λ n le. ap (λ a. read_on a (next n)) (r.is n le) }

-- by another reading, of other symbols
pub alike : {A : Type 0} (reads others : Reading A) (ss ts : List Symbol) (a : Read A) → ((n : ℕ) → others n ts ≡ reads n ss) → Comes reads ss a → Comes others ts a
alike reads others ss ts a h r = record { calls = r.calls; is = λ n le. h n ∙ r.is n le }

pub says_alike : {A B : Type 0} (found : A → Read B) (r : Result A Stop) (reads others : Reading B) (ss ts : List Symbol) → ((n : ℕ) → others n ts ≡ reads n ss) → Says found r reads ss → Says found r others ts
says_alike found (Ok x) reads others ss ts h k = alike reads others ss ts (found x) h k
says_alike found (Err (stops.Stuck left)) reads others ss ts h (rest, is, k) = (rest, is, alike reads others ss ts (Stuck rest) h k)
says_alike found (Err stops.Memory) reads others ss ts h t = tt

-- ---- one behind the other

-- both are found
pub both : {A B : Type 0} (first : Reading A) (second : Reading B) (ss : List Symbol) (x : A) (r : List Symbol) (y : B) (s : List Symbol) → Comes first ss (Found x r) → Comes second r (Found y s) → Comes (first >>> second) ss (Found (x, y) s)
both first second ss x r y s h k =
    goes_on (λ n z t. read_on (second n t) (λ w u. Found (z, w) u)) h (goes_on (λ n w u. Found (x, w) u) k (at_once (λ n. refl)))

-- the first stops
pub fails : {A B : Type 0} (stop : Stop) (first : Reading A) (second : Reading B) (ss : List Symbol) → Fails stop first ss → Fails stop (first >>> second) ss
fails (stops.Stuck left) first second ss (rest, is, h) = (rest, is, ends (λ n z t. read_on (second n t) (λ w u. Found (z, w) u)) h)
fails stops.Memory first second ss t = tt

-- the second stops
pub fails_behind : {A B : Type 0} (stop : Stop) (first : Reading A) (second : Reading B) (ss : List Symbol) (x : A) (r : List Symbol) → Comes first ss (Found x r) → Fails stop second r → Fails stop (first >>> second) ss
fails_behind (stops.Stuck left) first second ss x r h (rest, is, k) =
    (rest, is, goes_on (λ n z t. read_on (second n t) (λ w u. Found (z, w) u)) h (ends (λ n w u. Found (x, w) u) k))
fails_behind stops.Memory first second ss x r h t = tt

-- ---- made into something else

pub makes : {A B : Type 0} (make : A → B) (reads : Reading A) (ss : List Symbol) (x : A) (r : List Symbol) → Comes reads ss (Found x r) → Comes (made make reads) ss (Found (make x) r)
makes make reads ss x r h = goes_on (λ n y s. Found (make y) s) h (at_once (λ n. refl))

pub fails_made : {A B : Type 0} (stop : Stop) (make : A → B) (reads : Reading A) (ss : List Symbol) → Fails stop reads ss → Fails stop (made make reads) ss
fails_made (stops.Stuck left) make reads ss (rest, is, h) = (rest, is, ends (λ n y s. Found (make y) s) h)
fails_made stops.Memory make reads ss t = tt

-- ---- behind one of some words

-- no word of the table is in front
pub none_among : {K A : Type 0} (table : List (List ℕ × K)) (behind_word : K → ℕ → Reading A) (text : List ℕ) → looked_up table text ≡ None → (n at : ℕ) (t : List Symbol) → worded table behind_word n (Symbol.Fixed at text ∷ t) ≡ Stuck (Symbol.Fixed at text ∷ t)
none_among table behind_word text e n at t = ap (worded_from behind_word n (Symbol.Fixed at text ∷ t) at t) e

-- what is said of a reading, said of what it is made into
pub says_made : {A B C : Type 0} (make : A → B) (r : Result C Stop) (thing : C → A) (other : C → B) (rest : C → List Symbol) (reads : Reading A) (ss : List Symbol) → ((x : C) → make (thing x) ≡ other x) → Says (λ x. Found (thing x) (rest x)) r reads ss
    → Says (λ x. Found (other x) (rest x)) r (made make reads) ss
says_made make (Ok x) thing other rest reads ss is h = subst (λ y. Comes (made make reads) ss (Found y (rest x))) (is x) (makes make reads ss (thing x) (rest x) h)
says_made make (Err stop) thing other rest reads ss is h = fails_made stop make reads ss h

-- ---- what stands behind a mark, if that is next

pub absent : {A : Type 0} (text : List ℕ) (reads : Reading A) (ss : List Symbol) → behind text ss ≡ None → Comes (optional text reads) ss (Found None ss)
absent text reads ss e = at_once (λ n. ap (optional_from reads n ss) e)

pub present : {A : Type 0} (text : List ℕ) (reads : Reading A) (ss : List Symbol) (at : ℕ) (rest : List Symbol) (x : A) (s : List Symbol) → behind text ss ≡ Some (at, rest) → Comes reads rest (Found x s) → Comes (optional text reads) ss (Found (Some (at, x)) s)
present text reads ss at rest x s e h =
    record { calls = h.calls; is = λ n le. ap (optional_from reads n ss) e ∙ ap (λ a. read_on a (λ y t. Found (Some (at, y)) t)) (h.is n le) }

pub fails_present : {A : Type 0} (stop : Stop) (text : List ℕ) (reads : Reading A) (ss : List Symbol) (at : ℕ) (rest : List Symbol) → behind text ss ≡ Some (at, rest) → Fails stop reads rest → Fails stop (optional text reads) ss
fails_present (stops.Stuck left) text reads ss at rest e (r, is, h) =
    (r, is, record { calls = h.calls; is = λ n le. ap (optional_from reads n ss) e ∙ ap (λ a. read_on a (λ y t. Found (Some (at, y)) t)) (h.is n le) })
fails_present stops.Memory text reads ss at rest e t = tt

-- nothing was looked up where nothing is made of it
pub nothing : {A B : Type 0} (f : A → B) (o : Option A) → option_map f o ≡ None → o ≡ None
nothing f None e = refl
nothing f (Some x) e = absurd (cc)

-- ---- equal readings

-- where another reading stops
pub fails_alike : {A : Type 0} (stop : Stop) (reads other : Reading A) (ss ts : List Symbol) → ((n : ℕ) → reads n ss ≡ other n ts)
    → Fails stop other ts → Fails stop reads ss
fails_alike (stops.Stuck left) reads other ss ts same (rest, is, h) = (rest, is, alike other reads ts ss (Stuck rest) same h)
fails_alike stops.Memory reads other ss ts same t = tt

-- ---- one behind the other

-- where the first stops
pub fails_now : {A B : Type 0} (stop : Stop) (reads : Reading A) (next : ℕ → A → List Symbol → Read B) (ss : List Symbol) → Fails stop reads ss
    → Fails stop (λ n s. read_on (reads n s) (next n)) ss
fails_now (stops.Stuck left) reads next ss (rest, is, h) = (rest, is, ends next h)
fails_now stops.Memory reads next ss t = tt

-- where what goes on behind the first stops
pub fails_later : {A B : Type 0} (stop : Stop) (reads : Reading A) (next : ℕ → A → List Symbol → Read B) (ss : List Symbol) (x : A)
    (r : List Symbol) → Comes reads ss (Found x r) → Fails stop (λ n s. next n x s) r
    → Fails stop (λ n s. read_on (reads n s) (next n)) ss
fails_later (stops.Stuck left) reads next ss x r h (rest, is, k) = (rest, is, goes_on next h k)
fails_later stops.Memory reads next ss x r h t = tt

-- what goes on behind the first
pub comes_later : {A B : Type 0} (reads : Reading A) (next : ℕ → A → List Symbol → Read B) (ss : List Symbol) (x : A) (r : List Symbol) (b : Read B)
    → Comes reads ss (Found x r) → Comes (λ n s. next n x s) r b
    → Comes (λ n s. read_on (reads n s) (next n)) ss b
comes_later reads next ss x r b h k = goes_on next h k

-- ---- two, of which what goes on behind them knows both

-- the second of two, when the first is known
pub second_alone : {A B C : Type 0} (b : Read B) (x : A) (next : A → B → List Symbol → Read C)
    → read_on b (next x) ≡ read_on {A = A × B} (read_on b (λ y t. Found (x, y) t)) (λ p s. next p.0 p.1 s)
second_alone (Found y t) x next = refl
second_alone (Stuck t) x next = refl
second_alone Unread x next = refl

-- two are read as one
pub both_as_one : {A B C : Type 0} (a : Read A) (second : List Symbol → Read B) (next : A → B → List Symbol → Read C)
    → read_on a (λ x s. read_on (second s) (next x)) ≡ read_on {A = A × B} (read_on {B = A × B} a (λ x s. read_on (second s) (λ y t. Found (x, y) t)))
    (λ p s. next p.0 p.1 s)
both_as_one (Found x s) second next = second_alone (second s) x next
both_as_one (Stuck s) second next = refl
both_as_one Unread second next = refl

-- what goes on behind two
pub comes_both : {A B C : Type 0} (first : Reading A) (second : Reading B) (next : ℕ → A → B → List Symbol → Read C) (ss : List Symbol) (x : A)
    (y : B) (r : List Symbol) (c : Read C)
    → Comes (first >>> second) ss (Found (x, y) r) → Comes (λ n s. next n x y s) r c
    → Comes (λ n s. read_on (first n s) (λ z t. read_on (second n t) (next n z))) ss c
comes_both first second next ss x y r c h k =
    alike (λ n s. read_on ((first >>> second) n s) (λ p t. next n p.0 p.1 t))
    (λ n s. read_on (first n s) (λ z t. read_on (second n t) (next n z))) ss ss c (λ n. both_as_one (first n ss) (second n) (next n))
    (goes_on (λ n p t. next n p.0 p.1 t) h k)

-- where one of two stops
pub fails_both : {A B C : Type 0} (stop : Stop) (first : Reading A) (second : Reading B) (next : ℕ → A → B → List Symbol → Read C)
    (ss : List Symbol) → Fails stop (first >>> second) ss
    → Fails stop (λ n s. read_on (first n s) (λ z t. read_on (second n t) (next n z))) ss
fails_both stop first second next ss h =
    fails_alike stop (λ n s. read_on (first n s) (λ z t. read_on (second n t) (next n z)))
    (λ n s. read_on ((first >>> second) n s) (λ p t. next n p.0 p.1 t)) ss ss (λ n. both_as_one (first n ss) (second n) (next n))
    (fails_now stop (first >>> second) (λ n p t. next n p.0 p.1 t) ss h)

-- where what goes on behind two stops
pub fails_behind_both : {A B C : Type 0} (stop : Stop) (first : Reading A) (second : Reading B) (next : ℕ → A → B → List Symbol → Read C)
    (ss : List Symbol) (x : A) (y : B) (r : List Symbol)
    → Comes (first >>> second) ss (Found (x, y) r) → Fails stop (λ n s. next n x y s) r
    → Fails stop (λ n s. read_on (first n s) (λ z t. read_on (second n t) (next n z))) ss
fails_behind_both stop first second next ss x y r h k =
    fails_alike stop (λ n s. read_on (first n s) (λ z t. read_on (second n t) (next n z)))
    (λ n s. read_on ((first >>> second) n s) (λ p t. next n p.0 p.1 t)) ss ss (λ n. both_as_one (first n ss) (second n) (next n))
    (fails_later stop (first >>> second) (λ n p t. next n p.0 p.1 t) ss (x, y) r h k)

-- what is said of what goes on behind two
pub says_behind_both : {A B C D : Type 0} (found : D → Read C) (result : Result D Stop) (first : Reading A) (second : Reading B)
    (next : ℕ → A → B → List Symbol → Read C) (ss : List Symbol) (x : A) (y : B) (r : List Symbol)
    → Comes (first >>> second) ss (Found (x, y) r) → Says found result (λ n s. next n x y s) r
    → Says found result (λ n s. read_on (first n s) (λ z t. read_on (second n t) (next n z))) ss
says_behind_both found (Ok z) first second next ss x y r h k = comes_both first second next ss x y r (found z) h k
says_behind_both found (Err stop) first second next ss x y r h k = fails_behind_both stop first second next ss x y r h k

-- there is none
pub with_none : {A : Type 0} (room : ℕ) (here : List Symbol) (a : Read A) → room ≤ 1 → with_room room here a ≡ Stuck here
with_none room here a none = rw (le-leb room 1 none) refl

-- what is read then
pub comes_roomy : {A : Type 0} (room : ℕ) (here : List Symbol → List Symbol) (reads : Reading A) (ss : List Symbol) (a : Read A) → 1 < room
    → Comes reads ss a → Comes (λ n s. with_room room (here s) (reads n s)) ss a
comes_roomy room here reads ss a more h =
    alike reads (λ n s. with_room room (here s) (reads n s)) ss ss a (λ n. room_is room (here ss) (reads n ss) more) h

-- where it stops
pub fails_roomy : {A : Type 0} (stop : Stop) (room : ℕ) (here : List Symbol → List Symbol) (reads : Reading A) (ss : List Symbol) → 1 < room
    → Fails stop reads ss → Fails stop (λ n s. with_room room (here s) (reads n s)) ss
fails_roomy stop room here reads ss more h =
    fails_alike stop (λ n s. with_room room (here s) (reads n s)) reads ss ss (λ n. room_is room (here ss) (reads n ss) more) h

-- what is said of it
pub says_roomy : {A B : Type 0} (found : A → Read B) (result : Result A Stop) (room : ℕ) (here : List Symbol → List Symbol) (reads : Reading B)
    (ss : List Symbol) → 1 < room → Says found result reads ss
    → Says found result (λ n s. with_room room (here s) (reads n s)) ss
says_roomy found result room here reads ss more h =
    says_alike found result reads (λ n s. with_room room (here s) (reads n s)) ss ss (λ n. room_is room (here ss) (reads n ss) more) h

-- what is said of it
pub says_later : {A B C : Type 0} (found : A → Read B) (result : Result A Stop) (reads : Reading C) (ss : List Symbol) (x : C) (r : List Symbol)
    (next : ℕ → C → List Symbol → Read B) → Comes reads ss (Found x r) → Says found result (λ n s. next n x s) r
    → Says found result (λ n s. read_on (reads n s) (next n)) ss
says_later found (Ok y) reads ss x r next h k = goes_on next h k
says_later found (Err stop) reads ss x r next h k = fails_later stop reads next ss x r h k

-- where the first stops, and the error is handed on
pub stops_here : {A B C : Type 0} (found : A → Read B) (result : Result A Stop) (stop : Stop) (reads : Reading C) (ss : List Symbol)
    (next : ℕ → C → List Symbol → Read B) → IsErrAnd result (λ y. y ≡ stop) → Fails stop reads ss
    → Says found result (λ n s. read_on (reads n s) (next n)) ss
stops_here found (Ok x) stop reads ss next q h = absurd q
stops_here found (Err y) stop reads ss next q h =
    subst (λ z. Fails z (λ n s. read_on (reads n s) (next n)) ss) (sym q) (fails_now stop reads next ss h)

-- ---- one call more

-- what is read with one call more is read
pub one_more : {A : Type 0} (reads : Reading A) (ss : List Symbol) (a : Read A) → Comes (λ n s. reads (suc n) s) ss a → Comes reads ss a
one_more reads ss a r = record { calls = suc r.calls; is = from }
  where
    from : (n : ℕ) → suc r.calls ≤ n → reads n ss ≡ a
    from zero le = elim le [ ]
    from (suc n) le = r.is n (omega (arith, le))

-- so is what is said
pub says_one_more : {A B : Type 0} (found : A → Read B) (result : Result A Stop) (reads : Reading B) (ss : List Symbol)
    → Says found result (λ n s. reads (suc n) s) ss → Says found result reads ss
says_one_more found (Ok x) reads ss h = one_more reads ss (found x) h
says_one_more found (Err (stops.Stuck left)) reads ss (rest, is, h) = (rest, is, one_more reads ss (Stuck rest) h)
says_one_more found (Err stops.Memory) reads ss h = tt
