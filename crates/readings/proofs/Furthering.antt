-- Things each of which stands behind a mark, read one after the other.
use Rattle.std.proofs.Common.{ℕ, List, [], ◌∷◌, ◌++◌, append_assoc, append-nil, Some, None, ◌≡◌, refl, sym, ◌∙◌, ap, subst, max, arith}
use Rattle.readings.specs.Symbol.{Symbol}
use Rattle.readings.specs.Reading.{Read, Found, Stuck, Unread, read_on, behind}
use Rattle.readings.specs.Readings.{Reading, further, further_from}
use Rattle.readings.specs.declared.stop.Stop.{Stop}
use Rattle.readings.specs.Seen.{Comes, Fails}
use Rattle.readings.proofs.Saying.{at_once, one_more}
use Rattle.readings.specs.declared.stop.Stop.TheVariants as stops

-- what the reading comes to with these things put before those that it finds
abbrev pub with_front : {A : Type 0} → List (ℕ × A) → Read (List (ℕ × A)) → Read (List (ℕ × A))
with_front found a = read_on a (λ xs s. Found (found ++ xs) s)

-- whatever the rest comes to, the whole comes to, with the things found so far put before
abbrev pub Goes : {A : Type 0} → List ℕ → Reading A → List Symbol → List (ℕ × A) → List Symbol → Type 0
Goes {A = A} text reads ss found rest = (a : Read (List (ℕ × A))) → Comes (further text reads) rest a → Comes (further text reads) ss (with_front found a)

-- at the start
pub goes_start : {A : Type 0} (text : List ℕ) (reads : Reading A) (ss : List Symbol) → Goes text reads ss [] ss
goes_start text reads ss (Found xs s) h = h
goes_start text reads ss (Stuck s) h = h
goes_start text reads ss Unread h = h

-- one thing in front of others
front : {A : Type 0} (text : List ℕ) (reads : Reading A) (ss : List Symbol) (at : ℕ) (rest : List Symbol) (x : A) (s : List Symbol) (a : Read (List (ℕ × A))) → behind text ss ≡ Some (at, rest) → Comes reads rest (Found x s)
    → Comes (further text reads) s a → Comes (further text reads) ss (with_front ((at, x) ∷ []) a)
front text reads ss at rest x s a e h k =
    one_more (further text reads) ss (with_front ((at, x) ∷ []) a)
    (record {
      calls = max h.calls k.calls;
      is = λ n le. ap (λ o. further_from reads (λ t. further text reads n t) n ss o) e
          ∙ ap (λ b. read_on b (λ y u. read_on (further text reads n u) (λ xs t. Found ((at, y) ∷ xs) t))) (h.is n (omega (arith, le)))
          ∙ ap (λ b. read_on b (λ xs t. Found ((at, x) ∷ xs) t)) (k.is n (omega (arith, le)));
    })

joined : {A : Type 0} (found : List (ℕ × A)) (y : ℕ × A) (a : Read (List (ℕ × A))) → with_front found (with_front (y ∷ []) a) ≡ with_front (found ++ y ∷ []) a
joined found y (Found xs s) = ap (λ zs. Found zs s) (sym (append_assoc found (y ∷ []) xs))
joined found y (Stuck s) = refl
joined found y Unread = refl

-- one thing more
pub goes_step : {A : Type 0} (text : List ℕ) (reads : Reading A) (ss : List Symbol) (found : List (ℕ × A)) (here : List Symbol) (at : ℕ) (rest : List Symbol) (x : A) (s : List Symbol) → Goes text reads ss found here
    → behind text here ≡ Some (at, rest) → Comes reads rest (Found x s) → Goes text reads ss (found ++ (at, x) ∷ []) s
goes_step text reads ss found here at rest x s g e h a k =
    subst (Comes (further text reads) ss) (joined found (at, x) a) (g (with_front ((at, x) ∷ []) a) (front text reads here at rest x s a e h k))

-- the mark is no more in front
pub goes_end : {A : Type 0} (text : List ℕ) (reads : Reading A) (ss : List Symbol) (found : List (ℕ × A)) (here : List Symbol) → Goes text reads ss found here → behind text here ≡ None → Comes (further text reads) ss (Found found here)
goes_end text reads ss found here g e =
    subst (λ xs. Comes (further text reads) ss (Found xs here)) (append-nil found)
    (g (Found [] here) (one_more (further text reads) here (Found [] here) (at_once (λ n. ap (λ o. further_from reads (λ t. further text reads n t) n here o) e))))

-- the next thing stops
pub goes_fails : {A : Type 0} (stop : Stop) (text : List ℕ) (reads : Reading A) (ss : List Symbol) (found : List (ℕ × A)) (here : List Symbol) (at : ℕ) (rest : List Symbol) → Goes text reads ss found here
    → behind text here ≡ Some (at, rest) → Fails stop reads rest → Fails stop (further text reads) ss
goes_fails (stops.Stuck left) text reads ss found here at rest g e (r, is, h) = (
  r,
  is,
  g (Stuck r) (one_more (further text reads) here (Stuck r) (record {
    calls = h.calls;
    is = λ n le. ap (λ o. further_from reads (λ t. further text reads n t) n here o) e
        ∙ ap (λ b. read_on b (λ y u. read_on (further text reads n u) (λ xs t. Found ((at, y) ∷ xs) t))) (h.is n le);
  })),
)
goes_fails stops.Memory text reads ss found here at rest g e t = tt

-- the things by another name
pub goes_with : {A : Type 0} (text : List ℕ) (reads : Reading A) (ss : List Symbol) (found others : List (ℕ × A)) (rest : List Symbol) → found ≡ others → Goes text reads ss found rest → Goes text reads ss others rest
goes_with text reads ss found others rest is g = subst (λ xs. Goes text reads ss xs rest) is g
