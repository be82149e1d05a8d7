-- Readings that a mark in front tells keep the law, and so do those of what may be absent.
use Rattle.std.proofs.Common.{◌≡◌, ◌⊎◌, inl, inr, ℕ, List, [], ◌∷◌, ◌++◌, length, Option, Some, None, refl, ap, sym, ◌∙◌, subst, arith, ⊎_elim, Bool, true, false}
use Rattle.std.specs.Prelude.{if◌then◌else◌}
use Rattle.nk_base.specs.Text.{text_eq}
use Rattle.readings.specs.Symbol.{Symbol, beyond}
use Rattle.readings.specs.Reading.{Found, Stuck, behind}
use Rattle.readings.specs.Readings.{Reading, made, given, optional, optional_from}
use Rattle.readings.proofs.Symbols.{behind_is, behind_front}
use Rattle.readings.specs.Lawful.{Locally, IsLocal, Settles, Eventually, Begins, Reads, IsReading, Any, Anywhere, IsMade, optional_spelling, optional_good, optional_ends}
use Rattle.readings.proofs.Local.{taken, empty_local, agree_local}
use Rattle.readings.proofs.Settling.{settles_later, settles_alike}
use Rattle.readings.proofs.Combining.{other_law, given_law, made_law, Behind}
use Rattle.readings.proofs.CombiningWords.{made_front}

-- one reading behind a mark, another where the mark is not next
module _ {A : Type 0} (text : List ℕ) (reads otherwise : Reading A) (others : ℕ → Reading A)
    (none : (n : ℕ) (ss : List Symbol) → behind text ss ≡ None → reads n ss ≡ otherwise n ss) (some : (n : ℕ) (ss : List Symbol) (at : ℕ) (rest : List Symbol)
    → behind text ss ≡ Some (at, rest) → reads n ss ≡ others at n rest)
  where
    -- both are local, so the reading is so
    pub by_mark_local : ((n : ℕ) → IsLocal (otherwise n)) → ((at n : ℕ) → IsLocal (others at n)) → (n : ℕ) → IsLocal (reads n)
    by_mark_local l m n [] = subst (λ a. Locally (reads n) [] a) (sym (none n [] refl)) (empty_local (reads n) (otherwise n) (otherwise n []) (l n []))
    by_mark_local l m n (Symbol.Fixed at other ∷ ss) = by (text_eq other text) refl
      where
        by : (b : Bool) → text_eq other text ≡ b → Locally (reads n) (Symbol.Fixed at other ∷ ss) (reads n (Symbol.Fixed at other ∷ ss))
        by true e =
            let h : (t : List Symbol) → reads n (Symbol.Fixed at other ∷ t) ≡ others at n t = λ t. some n (Symbol.Fixed at other ∷ t) at t
            (ap (λ b. if◌then◌else◌ {A = Option (ℕ × List Symbol)} b (Some (at, t)) None) e) in
            subst (λ a. Locally (reads n) (Symbol.Fixed at other ∷ ss) a) (sym (h ss)) (taken (reads n) (others at n) (Symbol.Fixed at other) ss h (m at n ss))
        by false e =
            let h : (t : List Symbol) → reads n (Symbol.Fixed at other ∷ t) ≡ otherwise n (Symbol.Fixed at other ∷ t) = λ t. none n (Symbol.Fixed at other ∷ t)
            (ap (λ b. if◌then◌else◌ {A = Option (ℕ × List Symbol)} b (Some (at, t)) None) e) in
            subst (λ a. Locally (reads n) (Symbol.Fixed at other ∷ ss) a) (sym (h ss))
            (agree_local (reads n) (otherwise n) (Symbol.Fixed at other) ss (otherwise n (Symbol.Fixed at other ∷ ss)) h (l n (Symbol.Fixed at other ∷ ss)))
    by_mark_local l m n (Symbol.Named at other ∷ ss) =
        subst (λ a. Locally (reads n) (Symbol.Named at other ∷ ss) a) (sym (none n (Symbol.Named at other ∷ ss) refl))
        (agree_local (reads n) (otherwise n) (Symbol.Named at other) ss (otherwise n (Symbol.Named at other ∷ ss)) (λ t. none n (Symbol.Named at other ∷ t) refl)
        (l n (Symbol.Named at other ∷ ss)))
    by_mark_local l m n (Symbol.Number at value ∷ ss) =
        subst (λ a. Locally (reads n) (Symbol.Number at value ∷ ss) a) (sym (none n (Symbol.Number at value ∷ ss) refl))
        (agree_local (reads n) (otherwise n) (Symbol.Number at value) ss (otherwise n (Symbol.Number at value ∷ ss)) (λ t. none n (Symbol.Number at value ∷ t) refl)
        (l n (Symbol.Number at value ∷ ss)))
    by_mark_local l m n (Symbol.Quoted at other ∷ ss) =
        subst (λ a. Locally (reads n) (Symbol.Quoted at other ∷ ss) a) (sym (none n (Symbol.Quoted at other ∷ ss) refl))
        (agree_local (reads n) (otherwise n) (Symbol.Quoted at other) ss (otherwise n (Symbol.Quoted at other ∷ ss)) (λ t. none n (Symbol.Quoted at other ∷ t) refl)
        (l n (Symbol.Quoted at other ∷ ss)))

    module _ (spelled : A → List Symbol) (good : A → Type 0) (ends : A → List Symbol → Type 0) (Free : A → Type 0) (free_ends : A → List Symbol → Type 0)
        (Of : ℕ → A → Type 0)
        (l : IsReading spelled Free free_ends otherwise) (m : (at : ℕ) → Behind spelled good ends (Of at) (Symbol.Fixed at text) (others at)) (to : (y : A) → Free y → good y)
        (ends_to : (y : A) (r : List Symbol) → Free y → free_ends y r → behind text (spelled y ++ r) ≡ None → ends y r)
        (sorted : (y : A) → good y → (Free y × ((r : List Symbol) → ends y r → free_ends y r × (behind text (spelled y ++ r) ≡ None))) ⊎ ((at : ℕ) × Of at y))
      where
        -- what is found is good and is spelled so
        by_mark_sound : (n : ℕ) (ss : List Symbol) (x : A) (rest : List Symbol) → reads n ss ≡ Found x rest → Reads spelled good ends ss x rest
        by_mark_sound n ss x rest e = by (behind text ss) refl
          where
            by : (o : Option (ℕ × List Symbol)) → behind text ss ≡ o → Reads spelled good ends ss x rest
            by None i =
                let r = l.law.sound n ss x rest (sym (none n ss i) ∙ e) in
                record { fits = to x r.fits; is_end = ends_to x rest r.fits r.is_end (ap (behind text) (sym r.whole) ∙ i); whole = r.whole }
            by (Some (at, s)) i =
                let b = m at in
                let r = b.reading.law.sound n s x rest (sym (some n ss at s i) ∙ e) in
                record {
                  fits = b.to x r.fits;
                  is_end = r.is_end;
                  whole = behind_is text ss at s i ∙ ap (λ u. Symbol.Fixed at text ∷ u) r.whole ∙ ap (λ u. u ++ rest) (sym (b.front x r.fits));
                }

        -- what is good is found from its spelling
        by_mark_complete : (y : A) (rest : List Symbol) → good y → ends y rest → Eventually (λ n. reads n (spelled y ++ rest) ≡ Found y rest)
        by_mark_complete y rest g e =
            ⊎_elim
            (λ h.
            let f = h.1 rest e in
            let c = l.law.complete y rest h.0 f.0 in
            (c.0, λ n le. none n (spelled y ++ rest) f.1 ∙ c.1 n le))
            (λ h.
            let b = m h.0 in
            let c = b.reading.law.complete y rest h.1 e in (
              c.0,
              λ n le. ap (λ u. reads n (u ++ rest)) (b.front y h.1) ∙ some n (Symbol.Fixed h.0 text ∷ (beyond (spelled y) ++ rest)) h.0 (beyond (spelled y) ++ rest)
                  (behind_front text h.0 (beyond (spelled y) ++ rest)) ∙ c.1 n le,
            ))
            (sorted y g)

        -- where the reading is stuck, what stands before goes on to be something good
        by_mark_viable : (n : ℕ) (ss rest : List Symbol) → reads n ss ≡ Stuck rest → Begins spelled good ss rest
        by_mark_viable n ss rest e = by (behind text ss) refl
          where
            by : (o : Option (ℕ × List Symbol)) → behind text ss ≡ o → Begins spelled good ss rest
            by None i =
                let v = l.law.viable n ss rest (sym (none n ss i) ∙ e) in
                record { front = v.front; further = v.further; thing = v.thing; left = v.left; fits = to v.thing v.fits; whole = v.whole }
            by (Some (at, s)) i =
                let b = m at in
                let v = b.reading.law.viable n s rest (sym (some n ss at s i) ∙ e) in
                record {
                  front = Symbol.Fixed at text ∷ v.front;
                  further = v.further;
                  thing = v.thing;
                  left = behind_is text ss at s i ∙ ap (λ u. Symbol.Fixed at text ∷ u) v.left;
                  fits = b.to v.thing v.fits;
                  whole = ap (λ u. Symbol.Fixed at text ∷ u) v.whole ∙ sym (b.front v.thing v.fits);
                }

        -- the reading settles as the one of the two does
        by_mark_settled : (ss : List Symbol) → Settles (length ss) (λ n. reads n ss)
        by_mark_settled ss = by (behind text ss) refl
          where
            by : (o : Option (ℕ × List Symbol)) → behind text ss ≡ o → Settles (length ss) (λ n. reads n ss)
            by None i = settles_alike (length ss) (λ n. otherwise n ss) (λ n. reads n ss) (λ n. none n ss i) (l.law.settled ss)
            by (Some (at, s)) i =
                settles_later (length s) (length ss) (λ n. reads n ss) (omega (arith, ap length (behind_is text ss at s i)))
                (settles_alike (length s) (λ n. others at n s) (λ n. reads n ss) (λ n. some n ss at s i) ((m at).reading.law.settled s))

        -- so the reading is lawful, if both are so
        pub by_mark_law : IsReading spelled good ends reads
        by_mark_law = record {
          law = record {
            sound = by_mark_sound;
            complete = by_mark_complete;
            local = by_mark_local l.law.local (λ at. (m at).reading.law.local);
            viable = by_mark_viable;
            settled = by_mark_settled;
          };
          thing = l.thing;
          fits = to l.thing l.fits;
        }

-- what may be absent is read lawfully
pub optional_law : {A : Type 0} (text : List ℕ) (spelled : A → List Symbol) (good : A → Type 0) (ends : A → List Symbol → Type 0) (reads : Reading A)
    → IsReading spelled good ends reads
    → IsReading (optional_spelling text spelled) (optional_good good) (optional_ends text ends) (optional text reads)
optional_law {A = A} text spelled good ends reads l =
    by_mark_law text (optional text reads) (given None) (λ at. made (λ x. Some (at, x)) reads) (λ n ss i. by_none n ss (behind text ss) i)
    (λ n ss at rest i. by_some n ss (behind text ss) at rest i)
    (optional_spelling text spelled) (optional_good good) (optional_ends text ends) (λ y. y ≡ None) Anywhere (λ at y. IsMade good (λ x. Some (at, x)) y)
    (given_law (optional_spelling text spelled) None refl)
    (λ at. record {
      reading = made_law (λ x. Some (at, x)) spelled good reads (λ y. beyond (optional_spelling text spelled y)) (optional_ends text ends) (λ x. refl) l;
      front = made_front good (λ x. Some (at, x)) (optional_spelling text spelled) (Symbol.Fixed at text) (λ x. refl);
      to = λ y h. subst (optional_good good) h.2 h.1;
    })
    (λ y h. subst (optional_good good) (sym h) tt)
    (λ y r h i e. subst (λ z. optional_ends text ends z r) (sym h) (ap (λ z. behind text (optional_spelling text spelled z ++ r)) (sym h) ∙ e))
    sorted
  where
    by_none : (n : ℕ) (ss : List Symbol) (o : Option (ℕ × List Symbol)) → o ≡ None → optional_from reads n ss o ≡ Found None ss
    by_none n ss o i = ap (optional_from reads n ss) i

    by_some : (n : ℕ) (ss : List Symbol) (o : Option (ℕ × List Symbol)) (at : ℕ) (rest : List Symbol) → o ≡ Some (at, rest)
        → optional_from reads n ss o ≡ made (λ x. Some (at, x)) reads n rest
    by_some n ss o at rest i = ap (optional_from reads n ss) i

    sorted : (y : Option (ℕ × A)) → optional_good good y
        → ((y ≡ None) × ((r : List Symbol) → optional_ends text ends y r → Unit {0} × (behind text (optional_spelling text spelled y ++ r) ≡ None)))
        ⊎ ((at : ℕ) × IsMade good (λ x. Some (at, x)) y)
    sorted None g = inl (refl, λ r e. (tt, e))
    sorted (Some (at, x)) g = inr (at, (x, g, refl))

-- where all that may be absent is free of conditions
pub optional_free : {A : Type 0} (text : List ℕ) (spelled : A → List Symbol) (ends : A → List Symbol → Type 0) (reads : Reading A) → IsReading spelled Any ends reads
    → IsReading (optional_spelling text spelled) Any (optional_ends text ends) (optional text reads)
optional_free {A = A} text spelled ends reads l =
    other_law (optional_spelling text spelled) (optional_good Any) Any (optional_ends text ends) (optional_ends text ends) (optional text reads) (λ x h. tt) good
    (λ x r h. h) (λ x r h. h) (optional_law text spelled Any ends reads l)
  where
    good : (x : Option (ℕ × A)) → Any x → optional_good Any x
    good None h = tt
    good (Some (at, x)) h = tt
