-- Readings put together keep the law: one behind another, made into something else, and what the first symbol tells.
use Rattle.std.proofs.Common.{◌≡◌, ℕ, suc, ◌+◌, List, [], ◌∷◌, ◌++◌, length, Option, Some, None, refl, ap, sym, ◌∙◌, subst, arith, append_assoc, ⊎_elim}
use Rattle.readings.specs.Symbol.{Symbol, fixed, beyond}
use Rattle.readings.specs.Reading.{Read, Found, Stuck, read_on, mark}
use Rattle.readings.specs.Readings.{Reading, ◌>>>◌, made, given, sign}
use Rattle.readings.proofs.Symbols.{mark_is, mark_front, mark_stuck}
use Rattle.readings.proofs.After.{found_not_stuck, on, found_is, after_found, stuck_is_not_found, stuck_is, after_stuck}
use Rattle.readings.specs.Lawful.{Locally, IsLocal, rest_of, Settles, Eventually, Begins, Reads, IsMade, IsReading, Any, Anywhere}
use Rattle.readings.proofs.Local.{none_left, stuck_at, taken, found_local, after_local, mark_local}
use Rattle.readings.proofs.Settling.{settles_at_once, settles_later, settles_alike, settles_behind, no_longer, mark_told}

-- ---- the same reading with other words for what it reads

-- what may be read, and what may stand behind it, said in other words
pub other_law : {A : Type 0} (spelled : A → List Symbol) (good other : A → Type 0) (ends other_ends : A → List Symbol → Type 0) (reads : Reading A)
    → ((x : A) → good x → other x) → ((x : A) → other x → good x)
    → ((x : A) (r : List Symbol) → ends x r → other_ends x r) → ((x : A) (r : List Symbol) → other_ends x r → ends x r) → IsReading spelled good ends reads
    → IsReading spelled other other_ends reads
other_law spelled good other ends other_ends reads to from ends_to ends_from l =
    record {
      law = record {
        sound = λ n ss x rest e.
            let r = l.law.sound n ss x rest e in
            record { fits = to x r.fits; is_end = ends_to x rest r.is_end; whole = r.whole };
        complete = λ x rest g e. l.law.complete x rest (from x g) (ends_from x rest e);
        local = l.law.local;
        viable = λ n ss rest e.
            let b = l.law.viable n ss rest e in
            record { front = b.front; further = b.further; thing = b.thing; left = b.left; fits = to b.thing b.fits; whole = b.whole };
        settled = l.law.settled;
      };
      thing = l.thing;
      fits = to l.thing l.fits;
    }

-- ---- nothing, and a mark

-- nothing is read, and one thing is found
pub given_law : {A : Type 0} (spelled : A → List Symbol) (x : A) → spelled x ≡ [] → IsReading spelled (λ y. y ≡ x) Anywhere (given x)
given_law spelled x none =
    record {
      law = record {
        sound = λ n ss y rest e. found_is (Reads spelled (λ y. y ≡ x) Anywhere ss) x y ss rest e
            (record { fits = refl; is_end = tt; whole = ap (λ u. u ++ ss) (sym none) });
        complete = λ y rest g e. (0, λ n le. ap (λ u. Found x (u ++ rest)) (ap spelled g ∙ none) ∙ ap (λ z. Found z rest) (sym g));
        local = λ n. found_local x;
        viable = λ n ss rest e. found_not_stuck x ss rest e;
        settled = λ ss. settles_at_once (length ss) (λ n. given x n ss) (Found x ss) tt (λ n. refl);
      };
      thing = x;
      fits = refl;
    }

-- a keyword or a mark
pub sign_law : (text : List ℕ) → IsReading (λ at. fixed at text) Any Anywhere (sign text)
sign_law text =
    record {
      law = record {
        sound = λ n ss at rest e. record { fits = tt; is_end = tt; whole = mark_is text ss at rest e };
        complete = λ at rest g e. (0, λ n le. mark_front text at rest);
        local = λ n. mark_local text;
        viable = λ n ss rest e. record { front = []; further = fixed 0 text; thing = 0; left = mark_stuck text ss rest e; fits = tt; whole = refl };
        settled = λ ss. settles_at_once (length ss) (λ n. sign text n ss) (mark text ss) (mark_told text ss) (λ n. refl);
      };
      thing = 0;
      fits = tt;
    }

-- ---- one behind another

-- the second is read from what stands behind the first, which must be an end of the first
pub then_law : {A B : Type 0} (spelled : A → List Symbol) (good : A → Type 0) (ends : A → List Symbol → Type 0) (first : Reading A) (spelled2 : B → List Symbol)
    (good2 : B → Type 0) (ends2 : B → List Symbol → Type 0) (second : Reading B)
    → IsReading spelled good ends first → IsReading spelled2 good2 ends2 second
    → ((x : A) (y : B) (r : List Symbol) → good x → good2 y → ends2 y r → ends x (spelled2 y ++ r))
    → IsReading (λ (p : A × B). spelled p.0 ++ spelled2 p.1) (λ (p : A × B). good p.0 × good2 p.1) (λ (p : A × B) r. ends2 p.1 r) (first >>> second)
then_law {A = A} {B = B} spelled good ends first spelled2 good2 ends2 second l m meets =
    record {
      law = record {
        sound = λ n ss p rest e.
            let a = after_found (first n ss) _ p rest e in
            let b = after_found (second n a.1) _ p rest a.3 in
            let x = l.law.sound n ss a.0 a.1 a.2 in
            let y = m.law.sound n a.1 b.0 b.1 b.2 in
            found_is (Reads (λ (p : A × B). spelled p.0 ++ spelled2 p.1) (λ (p : A × B). good p.0 × good2 p.1) (λ (p : A × B) r. ends2 p.1 r) ss)
            (a.0, b.0) p b.1 rest b.3
            (record {
              fits = (x.fits, y.fits);
              is_end = y.is_end;
              whole = x.whole ∙ ap (λ u. spelled a.0 ++ u) y.whole
                  ∙ sym (append_assoc (spelled a.0) (spelled2 b.0) b.1);
            });
        complete = λ p rest g e.
            let a = l.law.complete p.0 (spelled2 p.1 ++ rest) g.0 (meets p.0 p.1 rest g.0 g.1 e) in
            let b = m.law.complete p.1 rest g.1 e in (
              a.0 + b.0,
              λ n le.
                  ap (λ u. (first >>> second) n u) (append_assoc (spelled p.0) (spelled2 p.1) rest)
                  ∙ on (first n (spelled p.0 ++ (spelled2 p.1 ++ rest))) p.0 (spelled2 p.1 ++ rest) _ _ (a.1 n (omega arith))
                  (on (second n (spelled2 p.1 ++ rest)) p.1 rest _ _ (b.1 n (omega arith)) refl),
            );
        local = λ n. after_local (first n) _ (l.law.local n) (λ x. after_local (second n) _ (m.law.local n) (λ y. found_local (x, y)));
        viable = λ n ss rest e.
            ⊎_elim
            (λ h.
            let b = l.law.viable n ss rest h in
            record {
              front = b.front;
              further = b.further ++ spelled2 m.thing;
              thing = (b.thing, m.thing);
              left = b.left;
              fits = (b.fits, m.fits);
              whole = sym (append_assoc b.front b.further (spelled2 m.thing)) ∙ ap (λ u. u ++ spelled2 m.thing) b.whole;
            })
            (λ h.
            let x = l.law.sound n ss h.0 h.1 h.2 in
            ⊎_elim
            (λ i.
            let b = m.law.viable n h.1 rest i in
            record {
              front = spelled h.0 ++ b.front;
              further = b.further;
              thing = (h.0, b.thing);
              left = x.whole ∙ ap (λ u. spelled h.0 ++ u) b.left ∙ sym (append_assoc (spelled h.0) b.front rest);
              fits = (x.fits, b.fits);
              whole = append_assoc (spelled h.0) b.front b.further ∙ ap (λ u. spelled h.0 ++ u) b.whole;
            })
            (λ i. found_not_stuck (h.0, i.0) i.1 rest i.3)
            (after_stuck (second n h.1) (λ y s. Found (h.0, y) s) rest h.3))
            (after_stuck (first n ss) (λ x s. read_on (second n s) (λ y t. Found (x, y) t)) rest e);
        settled = λ ss.
            settles_behind (length ss) (λ n. first n ss) (λ n x s. read_on (second n s) (λ y t. Found (x, y) t)) (l.law.settled ss)
            (λ x s e.
            settles_later (length s) (length ss) (λ n. read_on (second n s) (λ y t. Found (x, y) t))
            (no_longer ss (spelled x) s (l.law.sound (suc (length ss)) ss x s e).whole)
            (settles_behind (length s) (λ n. second n s) (λ n y t. Found (x, y) t) (m.law.settled s)
            (λ y t i. settles_at_once (length s) (λ n. Found (x, y) t) (Found (x, y) t) tt (λ n. refl))));
      };
      thing = (l.thing, m.thing);
      fits = (l.fits, m.fits);
    }

-- where all of the first may be read
pub then_any : {A B : Type 0} (spelled : A → List Symbol) (ends : A → List Symbol → Type 0) (first : Reading A) (spelled2 : B → List Symbol) (good2 : B → Type 0)
    (ends2 : B → List Symbol → Type 0) (second : Reading B)
    → IsReading spelled Any ends first → IsReading spelled2 good2 ends2 second → ((x : A) (y : B) (r : List Symbol) → ends2 y r → ends x (spelled2 y ++ r))
    → IsReading (λ (p : A × B). spelled p.0 ++ spelled2 p.1) (λ (p : A × B). good2 p.1) (λ (p : A × B) r. ends2 p.1 r) (first >>> second)
then_any {A = A} {B = B} spelled ends first spelled2 good2 ends2 second l m meets =
    other_law (λ (p : A × B). spelled p.0 ++ spelled2 p.1) (λ (p : A × B). Unit {0} × good2 p.1) (λ (p : A × B). good2 p.1) (λ (p : A × B) r. ends2 p.1 r)
    (λ (p : A × B) r. ends2 p.1 r) (first >>> second)
    (λ x h. h.1) (λ x h. (tt, h)) (λ x r h. h) (λ x r h. h) (then_law spelled Any ends first spelled2 good2 ends2 second l m (λ x y r g h e. meets x y r e))

-- and before all symbols
pub then_free : {A B : Type 0} (spelled : A → List Symbol) (first : Reading A) (spelled2 : B → List Symbol) (good2 : B → Type 0) (ends2 : B → List Symbol → Type 0)
    (second : Reading B)
    → IsReading spelled Any Anywhere first → IsReading spelled2 good2 ends2 second
    → IsReading (λ (p : A × B). spelled p.0 ++ spelled2 p.1) (λ (p : A × B). good2 p.1) (λ (p : A × B) r. ends2 p.1 r) (first >>> second)
then_free spelled first spelled2 good2 ends2 second l m = then_any spelled Anywhere first spelled2 good2 ends2 second l m (λ x y r e. tt)

-- what is read is what the parts make
pub made_law : {A B : Type 0} (make : A → B) (spelled : A → List Symbol) (good : A → Type 0) (reads : Reading A) (spelled2 : B → List Symbol)
    (ends2 : B → List Symbol → Type 0)
    → ((x : A) → spelled2 (make x) ≡ spelled x) → IsReading spelled good (λ x r. ends2 (make x) r) reads → IsReading spelled2 (IsMade good make) ends2 (made make reads)
made_law make spelled good reads spelled2 ends2 same l =
    record {
      law = record {
        sound = λ n ss y rest e.
            let a = after_found (reads n ss) _ y rest e in
            let x = l.law.sound n ss a.0 a.1 a.2 in
            found_is (Reads spelled2 (IsMade good make) ends2 ss) (make a.0) y a.1 rest a.3
            (record { fits = (a.0, x.fits, refl); is_end = x.is_end; whole = x.whole ∙ ap (λ u. u ++ a.1) (sym (same a.0)) });
        complete = λ y rest g e.
            let a = l.law.complete g.0 rest g.1 (subst (λ z. ends2 z rest) (sym g.2) e) in (
              a.0,
              λ n le. ap (λ u. made make reads n (u ++ rest)) (ap spelled2 (sym g.2) ∙ same g.0)
                  ∙ on (reads n (spelled g.0 ++ rest)) g.0 rest _ _ (a.1 n le) (ap (λ z. Found z rest) g.2),
            );
        local = λ n. after_local (reads n) _ (l.law.local n) (λ x. found_local (make x));
        viable = λ n ss rest e.
            ⊎_elim
            (λ h.
            let b = l.law.viable n ss rest h in
            record { front = b.front; further = b.further; thing = make b.thing; left = b.left; fits = (b.thing, b.fits, refl); whole = b.whole ∙ sym (same b.thing) })
            (λ h. found_not_stuck (make h.0) h.1 rest h.3)
            (after_stuck (reads n ss) (λ x s. Found (make x) s) rest e);
        settled = λ ss.
            settles_behind (length ss) (λ n. reads n ss) (λ n x s. Found (make x) s) (l.law.settled ss)
            (λ x s e. settles_at_once (length ss) (λ n. Found (make x) s) (Found (make x) s) tt (λ n. refl));
      };
      thing = make l.thing;
      fits = (l.thing, l.fits, refl);
    }

-- all of some kind are made so
pub made_all : {A B : Type 0} (make : A → B) (spelled : A → List Symbol) (good : A → Type 0) (reads : Reading A) (spelled2 : B → List Symbol) (good2 : B → Type 0)
    (ends2 : B → List Symbol → Type 0)
    → ((x : A) → spelled2 (make x) ≡ spelled x) → ((x : A) → good x → good2 (make x)) → ((y : B) → good2 y → IsMade good make y)
    → IsReading spelled good (λ x r. ends2 (make x) r) reads
    → IsReading spelled2 good2 ends2 (made make reads)
made_all make spelled good reads spelled2 good2 ends2 same to from l =
    other_law spelled2 (IsMade good make) good2 ends2 ends2 (made make reads) (λ y h. subst good2 h.2 (to h.0 h.1)) from (λ x r h. h) (λ x r h. h)
    (made_law make spelled good reads spelled2 ends2 same l)

-- ---- what the first symbol tells

-- the reading picked for the first symbol
abbrev pub picked : {A : Type 0} → ℕ → Symbol → List Symbol → Option (Reading A) → Read A
picked n s ss None = Stuck (s ∷ ss)
picked n s ss (Some next) = next n ss

-- what is read behind a symbol, and with the symbol is something good
pub record Behind {A : Type 0} (spelled : A → List Symbol) (good : A → Type 0) (ends : A → List Symbol → Type 0) (Of : A → Type 0) (s : Symbol)
    (next : Reading A) : Type 0 where
  pub reading : IsReading (λ y. beyond (spelled y)) Of ends next
  pub front : (y : A) → Of y → spelled y ≡ s ∷ beyond (spelled y)
  pub to : (y : A) → Of y → good y

-- a thing is told by its first symbol
abbrev pub Told : {A : Type 0} → (Symbol → Option (Reading A)) → (Symbol → A → Type 0) → A → Type 0
Told {A = A} pick Of y = (s : Symbol) × (next : Reading A) × (pick s ≡ Some next) × Of s y

module _ {A : Type 0} (spelled : A → List Symbol) (good : A → Type 0) (ends : A → List Symbol → Type 0) (reads : Reading A) (pick : Symbol → Option (Reading A))
    (Of : Symbol → A → Type 0)
    (empty : (n : ℕ) → reads n [] ≡ Stuck []) (goes : (n : ℕ) (s : Symbol) (ss : List Symbol) → reads n (s ∷ ss) ≡ picked n s ss (pick s))
    (each : (s : Symbol) (next : Reading A) → pick s ≡ Some next → Behind spelled good ends (Of s) s next) (from : (y : A) → good y → Told pick Of y) (thing : A)
    (fits : good thing)
  where
    -- what is found is good and is spelled so
    told_sound : (n : ℕ) (ss : List Symbol) (x : A) (rest : List Symbol) → reads n ss ≡ Found x rest → Reads spelled good ends ss x rest
    told_sound n [] x rest e = stuck_is_not_found [] x rest (sym (empty n) ∙ e)
    told_sound n (s ∷ ss) x rest e = by (pick s) refl (sym (goes n s ss) ∙ e)
      where
        by : (o : Option (Reading A)) → pick s ≡ o → picked n s ss o ≡ Found x rest → Reads spelled good ends (s ∷ ss) x rest
        by None i f = stuck_is_not_found (s ∷ ss) x rest f
        by (Some next) i f =
            let b = each s next i in
            let r = b.reading.law.sound n ss x rest f in
            record { fits = b.to x r.fits; is_end = r.is_end; whole = ap (λ u. s ∷ u) r.whole ∙ ap (λ u. u ++ rest) (sym (b.front x r.fits)) }

    -- what is good is found from its spelling
    told_complete : (y : A) (rest : List Symbol) → good y → ends y rest → Eventually (λ n. reads n (spelled y ++ rest) ≡ Found y rest)
    told_complete y rest g e =
        let f = from y g in
        let b = each f.0 f.1 f.2 in
        let c = b.reading.law.complete y rest f.3 e in (
          c.0,
          λ n le. ap (λ u. reads n (u ++ rest)) (b.front y f.3) ∙ goes n f.0 (beyond (spelled y) ++ rest) ∙ ap (picked n f.0 (beyond (spelled y) ++ rest)) f.2
              ∙ c.1 n le,
        )

    -- the reading goes by no more symbols than the picked one, and by the first
    told_local : (n : ℕ) → IsLocal (reads n)
    told_local n [] = record { front = []; whole = ap rest_of (sym (empty n)); same = λ c r s e. none_left c r (ap rest_of (sym (empty n)) ∙ e) }
    told_local n (s ∷ ss) = subst (λ a. Locally (reads n) (s ∷ ss) a) (sym (goes n s ss)) (by (pick s) refl)
      where
        by : (o : Option (Reading A)) → pick s ≡ o → Locally (reads n) (s ∷ ss) (picked n s ss o)
        by None i = stuck_at (reads n) s ss (λ t. goes n s t ∙ ap (picked n s t) i)
        by (Some next) i = taken (reads n) (next n) s ss (λ t. goes n s t ∙ ap (picked n s t) i) ((each s next i).reading.law.local n ss)

    -- where the reading is stuck, what stands before goes on to be something good
    told_viable : (n : ℕ) (ss rest : List Symbol) → reads n ss ≡ Stuck rest → Begins spelled good ss rest
    told_viable n [] rest e = record { front = []; further = spelled thing; thing = thing; left = stuck_is [] rest (sym (empty n) ∙ e); fits = fits; whole = refl }
    told_viable n (s ∷ ss) rest e = by (pick s) refl (sym (goes n s ss) ∙ e)
      where
        by : (o : Option (Reading A)) → pick s ≡ o → picked n s ss o ≡ Stuck rest → Begins spelled good (s ∷ ss) rest
        by None i f = record { front = []; further = spelled thing; thing = thing; left = stuck_is (s ∷ ss) rest f; fits = fits; whole = refl }
        by (Some next) i f =
            let b = each s next i in
            let v = b.reading.law.viable n ss rest f in
            record {
              front = s ∷ v.front;
              further = v.further;
              thing = v.thing;
              left = ap (λ u. s ∷ u) v.left;
              fits = b.to v.thing v.fits;
              whole = ap (λ u. s ∷ u) v.whole ∙ sym (b.front v.thing v.fits);
            }

    -- the reading settles behind the first symbol, or at once
    told_settled : (ss : List Symbol) → Settles (length ss) (λ n. reads n ss)
    told_settled [] = settles_at_once 0 (λ n. reads n []) (Stuck []) tt empty
    told_settled (s ∷ ss) = by (pick s) refl
      where
        by : (o : Option (Reading A)) → pick s ≡ o → Settles (length (s ∷ ss)) (λ n. reads n (s ∷ ss))
        by None i = settles_at_once (length (s ∷ ss)) (λ n. reads n (s ∷ ss)) (Stuck (s ∷ ss)) tt (λ n. goes n s ss ∙ ap (picked n s ss) i)
        by (Some next) i =
            settles_later (length ss) (length (s ∷ ss)) (λ n. reads n (s ∷ ss)) (omega arith)
            (settles_alike (length ss) (λ n. next n ss) (λ n. reads n (s ∷ ss)) (λ n. goes n s ss ∙ ap (picked n s ss) i) ((each s next i).reading.law.settled ss))

    -- so the reading is lawful, if each that is picked is so
    pub told_law : IsReading spelled good ends reads
    told_law = record { law = record { sound = told_sound; complete = told_complete; local = told_local; viable = told_viable; settled = told_settled }; thing = thing; fits = fits }
