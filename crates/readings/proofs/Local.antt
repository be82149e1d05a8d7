-- A reading goes by the symbols up to the first one that it leaves: whatever stands behind that one, it comes to the same.
use Rattle.std.proofs.Common.{◌≡◌, ℕ, List, [], ◌∷◌, ◌++◌, Option, Some, None, refl, ap, sym, ◌∙◌, subst, append_assoc, append-nil, Bool, true, false}
use Rattle.std.specs.Prelude.{if◌then◌else◌}
use Rattle.nk_base.specs.Text.{text_eq}
use Rattle.readings.specs.Symbol.{Symbol}
use Rattle.readings.specs.Reading.{Read, Found, Stuck, Unread, read_on, found_or_stuck, mark}
use Rattle.readings.specs.Lawful.{IsLocal, Locally, rest_of}

pub none_left : {P : Type 0} (c : Symbol) (r : List Symbol) → [] ≡ c ∷ r → P
none_left c r e = absurd (cc)

pub first_is : (c d : Symbol) (r s : List Symbol) → c ∷ r ≡ d ∷ s → c ≡ d
first_is c d r s e = cc

-- ---- one step

pub unread_locally : {A : Type 0} (reads : List Symbol → Read A) (ss : List Symbol) → Locally reads ss Unread
unread_locally reads ss = record { front = ss; whole = sym (append-nil ss); same = λ c r s e. none_left c r e }

pub stuck_empty : {A : Type 0} (reads : List Symbol → Read A) → Locally reads [] (Stuck [])
stuck_empty reads = record { front = []; whole = refl; same = λ c r s e. none_left c r e }

pub found_empty : {A : Type 0} (reads : List Symbol → Read A) (x : A) → Locally reads [] (Found x [])
found_empty reads x = record { front = []; whole = refl; same = λ c r s e. none_left c r e }

pub stuck_at : {A : Type 0} (reads : List Symbol → Read A) (first : Symbol) (ss : List Symbol) → ((t : List Symbol) → reads (first ∷ t) ≡ Stuck (first ∷ t)) → Locally reads (first ∷ ss) (Stuck (first ∷ ss))
stuck_at reads first ss h = record { front = []; whole = refl; same = λ c r s e. subst (λ d. reads (d ∷ s) ≡ Stuck (d ∷ s)) (first_is first c ss r e) (h s) }

pub found_before : {A : Type 0} (reads : List Symbol → Read A) (x : A) (first : Symbol) (ss : List Symbol) → ((t : List Symbol) → reads (first ∷ t) ≡ Found x (first ∷ t)) → Locally reads (first ∷ ss) (Found x (first ∷ ss))
found_before reads x first ss h = record { front = []; whole = refl; same = λ c r s e. subst (λ d. reads (d ∷ s) ≡ Found x (d ∷ s)) (first_is first c ss r e) (h s) }

pub found_local : {A : Type 0} (x : A) → IsLocal (λ s. Found x s)
found_local x ss = record { front = []; whole = refl; same = λ c r s e. refl }

-- the first symbol is taken
pub taken : {A : Type 0} (reads others : List Symbol → Read A) (first : Symbol) (ss : List Symbol) → ((t : List Symbol) → reads (first ∷ t) ≡ others t) → Locally others ss (others ss) → Locally reads (first ∷ ss) (others ss)
taken reads others first ss h l =
    record { front = first ∷ l.front; whole = ap (λ u. first ∷ u) l.whole; same = λ c r s e. h (l.front ++ (c ∷ s)) ∙ l.same c r s e }

-- a test on whether the reading goes on
pub tested : {A : Type 0} (b : Bool) (reads others : List Symbol → Read A) (first : Symbol) (ss : List Symbol) → ((t : List Symbol) → reads (first ∷ t) ≡ (if b then Stuck (first ∷ t) else others t)) → IsLocal others
    → Locally reads (first ∷ ss) (if b then Stuck (first ∷ ss) else others ss)
tested true reads others first ss h l = stuck_at reads first ss h
tested false reads others first ss h l = taken reads others first ss h (l ss)

-- ---- readings one behind the other

-- what was found before a longer rest is found before that rest with another end
pub before_more : {A : Type 0} (reads : List Symbol → Read A) (ss : List Symbol) (x : A) (rest : List Symbol) (l : Locally reads ss (Found x rest)) (front : List Symbol) (c : Symbol) (r s : List Symbol) → rest ≡ front ++ (c ∷ r)
    → reads (l.front ++ (front ++ (c ∷ s))) ≡ Found x (front ++ (c ∷ s))
before_more reads ss x rest l [] c r s e = l.same c r s e
before_more reads ss x rest l (d ∷ front) c r s e = l.same d (front ++ (c ∷ r)) (front ++ (c ∷ s)) e

pub after_locally : {A B : Type 0} (reads : List Symbol → Read A) (next : A → List Symbol → Read B) (ss : List Symbol) (a : Read A) → ((x : A) → IsLocal (next x)) → Locally reads ss a → Locally (λ t. read_on (reads t) next) ss (read_on a next)
after_locally reads next ss Unread h l = unread_locally (λ t. read_on (reads t) next) ss
after_locally reads next ss (Stuck rest) h l = record { front = l.front; whole = l.whole; same = λ c r s e. ap (λ b. read_on b next) (l.same c r s e) }
after_locally reads next ss (Found x rest) h l =
    let m = h x rest in
    record {
      front = l.front ++ m.front;
      whole = l.whole ∙ ap (λ u. l.front ++ u) m.whole ∙ sym (append_assoc l.front m.front (rest_of (next x rest)));
      same = λ c r s e.
          ap (λ u. read_on (reads u) next) (append_assoc l.front m.front (c ∷ s))
          ∙ ap (λ b. read_on b next) (before_more reads ss x rest l m.front c r s (m.whole ∙ ap (λ u. m.front ++ u) e))
          ∙ m.same c r s e;
    }

pub after_local : {A B : Type 0} (reads : List Symbol → Read A) (next : A → List Symbol → Read B) → IsLocal reads → ((x : A) → IsLocal (next x)) → IsLocal (λ t. read_on (reads t) next)
after_local reads next l h ss = after_locally reads next ss (reads ss) h (l ss)

-- ---- single symbols

pub mark_local : (text : List ℕ) → IsLocal (mark text)
mark_local text [] = stuck_empty (mark text)
mark_local text (Symbol.Fixed at other ∷ ss) = by (text_eq other text) refl
  where
    by : (b : Bool) → text_eq other text ≡ b → Locally (mark text) (Symbol.Fixed at other ∷ ss) (found_or_stuck (Symbol.Fixed at other ∷ ss) (if◌then◌else◌ {A = Option (ℕ × List Symbol)} b (Some (at, ss)) None))
    by true e = taken (mark text) (λ t. Found at t) (Symbol.Fixed at other) ss (λ t. ap (λ b. found_or_stuck (Symbol.Fixed at other ∷ t) (if◌then◌else◌ {A = Option (ℕ × List Symbol)} b (Some (at, t)) None)) e) (found_local at ss)
    by false e = stuck_at (mark text) (Symbol.Fixed at other) ss (λ t. ap (λ b. found_or_stuck (Symbol.Fixed at other ∷ t) (if◌then◌else◌ {A = Option (ℕ × List Symbol)} b (Some (at, t)) None)) e)
mark_local text (Symbol.Named at other ∷ ss) = stuck_at (mark text) (Symbol.Named at other) ss (λ t. refl)
mark_local text (Symbol.Number at value ∷ ss) = stuck_at (mark text) (Symbol.Number at value) ss (λ t. refl)
mark_local text (Symbol.Quoted at other ∷ ss) = stuck_at (mark text) (Symbol.Quoted at other) ss (λ t. refl)

-- ---- what a mark in front tells

-- a reading that agrees with another on what begins with a symbol goes by as few symbols
pub agree_local : {A : Type 0} (reads otherwise : List Symbol → Read A) (first : Symbol) (ss : List Symbol) (a : Read A)
    → ((t : List Symbol) → reads (first ∷ t) ≡ otherwise (first ∷ t)) → Locally otherwise (first ∷ ss) a
    → Locally reads (first ∷ ss) a
agree_local reads otherwise first ss a h l = record { front = l.front; whole = l.whole; same = λ c r s e. by l.front l.whole c r s e ∙ l.same c r s e }
  where
    by : (front : List Symbol) → first ∷ ss ≡ front ++ rest_of a → (c : Symbol) (r s : List Symbol) → rest_of a ≡ c ∷ r
        → reads (front ++ (c ∷ s)) ≡ otherwise (front ++ (c ∷ s))
    by [] w c r s e = subst (λ d. reads (d ∷ s) ≡ otherwise (d ∷ s)) (first_is first c ss r (w ∙ e)) (h s)
    by (d ∷ front) w c r s e = subst (λ d. reads (d ∷ (front ++ (c ∷ s))) ≡ otherwise (d ∷ (front ++ (c ∷ s)))) (first_is first d ss (front ++ rest_of a) w)
        (h (front ++ (c ∷ s)))

-- where no symbols are, none are left
pub empty_local : {A : Type 0} (reads otherwise : List Symbol → Read A) (a : Read A) → Locally otherwise [] a → Locally reads [] a
empty_local reads otherwise a l = record { front = l.front; whole = l.whole; same = λ c r s e. none l.front c r (l.whole ∙ ap (λ u. l.front ++ u) e) }
  where
    none : {P : Type 0} (front : List Symbol) (c : Symbol) (r : List Symbol) → [] ≡ front ++ (c ∷ r) → P
    none [] c r e = none_left c r e
    none (d ∷ front) c r e = none_left d (front ++ (c ∷ r)) e
