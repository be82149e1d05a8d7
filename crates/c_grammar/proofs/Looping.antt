-- What is said of things up to a mark, read one after the other as a loop does, and of a thing or none up to a mark.
use Rattle.std.proofs.Common.{ℕ, suc, List, [], ◌∷◌, ◌++◌, append_assoc, append-nil, Option, Some, None, Result, ◌≡◌, refl, sym, ◌∙◌, ap, subst, max, arith}
use Rattle.readings.specs.Symbol.{Symbol}
use Rattle.readings.specs.Reading.{Read, Found, Stuck, Unread, read_on, behind}
use Rattle.readings.specs.Readings.{Reading, ◌>>>◌, made, sign}
use Rattle.readings.specs.declared.stop.Stop.{Stop}
use Rattle.readings.specs.declared.stop.Stop.TheVariants as stops
use Rattle.readings.specs.Seen.{Comes, Fails, Says}
use Rattle.readings.proofs.Saying.{at_once, one_more, says_alike}
use Rattle.c_grammar.specs.Until.{until, until_from, ended, ended_from}

-- ---- up to a mark

-- what the reading comes to with these things put before those that it finds
abbrev pub with_before : {A : Type 0} → List A → Read (List A × ℕ) → Read (List A × ℕ)
with_before found a = read_on a (λ (xs, at) s. Found (found ++ xs, at) s)

-- whatever the rest comes to, the whole comes to, with the things found so far put before
abbrev pub Proceeds : {A : Type 0} → List ℕ → Reading A → List Symbol → List A → List Symbol → Type 0
Proceeds {A = A} text reads ss found rest = (a : Read (List A × ℕ)) → Comes (until text reads) rest a → Comes (until text reads) ss (with_before found a)

-- at the start
pub proceeds_start : {A : Type 0} (text : List ℕ) (reads : Reading A) (ss : List Symbol) → Proceeds text reads ss [] ss
proceeds_start text reads ss (Found xs s) h = h
proceeds_start text reads ss (Stuck s) h = h
proceeds_start text reads ss Unread h = h

-- one thing in front of others
front : {A : Type 0} (text : List ℕ) (reads : Reading A) (ss : List Symbol) (x : A) (s : List Symbol) (a : Read (List A × ℕ)) → behind text ss ≡ None → Comes reads ss (Found x s)
    → Comes (until text reads) s a → Comes (until text reads) ss (with_before (x ∷ []) a)
front text reads ss x s a e h k =
    one_more (until text reads) ss (with_before (x ∷ []) a)
    (record {
      calls = max h.calls k.calls;
      is = λ n le. ap (λ o. until_from reads (λ t. until text reads n t) (suc n) ss o) e
          ∙ ap (λ b. read_on b (λ y u. read_on (until text reads n u) (λ (xs, at) t. Found (y ∷ xs, at) t))) (h.is (suc n) (omega (arith, le)))
          ∙ ap (λ b. read_on b (λ (xs, at) t. Found (x ∷ xs, at) t)) (k.is n (omega (arith, le)));
    })

joined : {A : Type 0} (found : List A) (y : A) (a : Read (List A × ℕ)) → with_before found (with_before (y ∷ []) a) ≡ with_before (found ++ y ∷ []) a
joined found y (Found xs s) = ap (λ zs. Found (zs, xs.1) s) (sym (append_assoc found (y ∷ []) xs.0))
joined found y (Stuck s) = refl
joined found y Unread = refl

-- one thing more
pub proceeds_step : {A : Type 0} (text : List ℕ) (reads : Reading A) (ss : List Symbol) (found : List A) (here : List Symbol) (x : A) (s : List Symbol) → Proceeds text reads ss found here
    → behind text here ≡ None → Comes reads here (Found x s) → Proceeds text reads ss (found ++ x ∷ []) s
proceeds_step text reads ss found here x s g e h a k =
    subst (Comes (until text reads) ss) (joined found x a) (g (with_before (x ∷ []) a) (front text reads here x s a e h k))

-- the mark is in front
pub proceeds_end : {A : Type 0} (text : List ℕ) (reads : Reading A) (ss : List Symbol) (found : List A) (here : List Symbol) (at : ℕ) (rest : List Symbol) → Proceeds text reads ss found here
    → behind text here ≡ Some (at, rest) → Comes (until text reads) ss (Found (found, at) rest)
proceeds_end text reads ss found here at rest g e =
    subst (λ xs. Comes (until text reads) ss (Found (xs, at) rest)) (append-nil found)
    (g (Found ([], at) rest)
    (one_more (until text reads) here (Found ([], at) rest) (at_once (λ n. ap (λ o. until_from reads (λ t. until text reads n t) (suc n) here o) e))))

-- the next thing stops
pub proceeds_fails : {A : Type 0} (stop : Stop) (text : List ℕ) (reads : Reading A) (ss : List Symbol) (found : List A) (here : List Symbol) → Proceeds text reads ss found here
    → behind text here ≡ None → Fails stop reads here → Fails stop (until text reads) ss
proceeds_fails (stops.Stuck left) text reads ss found here g e (r, is, h) = (
  r,
  is,
  g (Stuck r) (one_more (until text reads) here (Stuck r) (record {
    calls = h.calls;
    is = λ n le. ap (λ o. until_from reads (λ t. until text reads n t) (suc n) here o) e
        ∙ ap (λ b. read_on b (λ y u. read_on (until text reads n u) (λ (xs, at) t. Found (y ∷ xs, at) t))) (h.is (suc n) (omega (arith, le)));
  })),
)
proceeds_fails stops.Memory text reads ss found here g e t = tt

-- the things by another name
pub proceeds_with : {A : Type 0} (text : List ℕ) (reads : Reading A) (ss : List Symbol) (found others : List A) (rest : List Symbol) → found ≡ others
    → Proceeds text reads ss found rest → Proceeds text reads ss others rest
proceeds_with text reads ss found others rest is g = subst (λ xs. Proceeds text reads ss xs rest) is g

-- ---- a thing or none

-- there is none
pub ended_absent : {A : Type 0} (text : List ℕ) (reads : Reading A) (ss : List Symbol) (at : ℕ) (rest : List Symbol) → behind text ss ≡ Some (at, rest)
    → Comes (ended text reads) ss (Found (None, at) rest)
ended_absent text reads ss at rest e = at_once (λ n. ap (ended_from text reads n ss) e)

-- there is one, and what is said of it and the mark is said of the whole
pub says_ended : {A B : Type 0} (found : B → Read (Option A × ℕ)) (result : Result B Stop) (text : List ℕ) (reads : Reading A) (ss : List Symbol) → behind text ss ≡ None
    → Says found result (made (λ (x, at). (Some x, at)) (reads >>> sign text)) ss → Says found result (ended text reads) ss
says_ended found result text reads ss e h =
    says_alike found result (made (λ (x, at). (Some x, at)) (reads >>> sign text)) (ended text reads) ss ss (λ n. ap (ended_from text reads n ss) e) h
