-- A thing and a tail behind a mark, which belongs to the nearest thing that may have it, are read lawfully.
use Rattle.std.proofs.Common.{◌≡◌, ℕ, suc, ◌+◌, List, ◌∷◌, ◌++◌, length, Option, Some, None, refl, ap, sym, ◌∙◌, arith, append_assoc, append-nil, ⊎_elim, Bool, true, false, IsTrue}
use Rattle.std.specs.Prelude.{IsFalse}
use Rattle.readings.specs.Symbol.{Symbol}
use Rattle.readings.specs.Reading.{Found, Stuck, read_on, behind}
use Rattle.readings.specs.Readings.{Reading, ◌>>>◌, optional, optional_from}
use Rattle.readings.specs.Lawful.{Begins, Reads, IsReading, Settles, Eventually, optional_spelling, optional_good, optional_ends}
use Rattle.readings.proofs.Symbols.{behind_is, behind_front, none_is_none}
use Rattle.readings.proofs.After.{found_not_stuck, on, found_is, after_found, after_stuck}
use Rattle.readings.proofs.Local.{found_local, after_local}
use Rattle.readings.proofs.Settling.{settles_at_once, settles_later, settles_behind, no_longer}
use Rattle.readings.proofs.CombiningMarks.{optional_law}
use Rattle.c_grammar.specs.Until.{OpenEnds, tailed_spelling, tailed_good}

module _ {A B : Type 0} (text : List ℕ) (leaves_open : A → Bool) (spelled : A → List Symbol) (good : A → Type 0) (first : Reading A) (spelled2 : B → List Symbol) (good2 : B → Type 0)
    (ends2 : B → List Symbol → Type 0) (second : Reading B) (l : IsReading spelled good (OpenEnds leaves_open text) first) (k : IsReading spelled2 good2 ends2 second)
  where
    abbrev tail_reads : Reading (Option (ℕ × B))
    tail_reads = optional text second

    m : IsReading (optional_spelling text spelled2) (optional_good good2) (optional_ends text ends2) tail_reads
    m = optional_law text spelled2 good2 ends2 second k

    abbrev Ends : A × Option (ℕ × B) → List Symbol → Type 0
    Ends p r = optional_ends text ends2 p.1 r

    -- what has the mark behind it is not open
    closed : (b : Bool) (s : List Symbol) (at : ℕ) (t : List Symbol) → (IsTrue b → behind text s ≡ None) → s ≡ Symbol.Fixed at text ∷ t → IsFalse b
    closed true s at t h e = none_is_none (at, t) (sym (h refl) ∙ ap (behind text) e ∙ behind_front text at t)
    closed false s at t h e = refl

    both_good : (x : A) (o : Option (ℕ × B)) (s r : List Symbol) → good x → OpenEnds leaves_open text x s → optional_good good2 o → s ≡ optional_spelling text spelled2 o ++ r
        → tailed_good leaves_open good good2 (x, o)
    both_good x None s r g h i e = g
    both_good x (Some (at, y)) s r g h i e = (g, i, closed (leaves_open x) s at (spelled2 y ++ r) h e)

    -- and each tail is an end of what it stands behind
    first_ends : (x : A) (o : Option (ℕ × B)) (r : List Symbol) → tailed_good leaves_open good good2 (x, o) → optional_ends text ends2 o r
        → OpenEnds leaves_open text x (optional_spelling text spelled2 o ++ r)
    first_ends x None r g e h = e
    first_ends x (Some (at, y)) r g e h = absurd (not_both (leaves_open x) h g.2)
      where
        not_both : (b : Bool) → IsTrue b → IsFalse b → ⊥
        not_both true h i = absurd (cc)
        not_both false h i = absurd (cc)

    good_first : (x : A) (o : Option (ℕ × B)) → tailed_good leaves_open good good2 (x, o) → good x
    good_first x None g = g
    good_first x (Some (at, y)) g = g.0

    good_second : (x : A) (o : Option (ℕ × B)) → tailed_good leaves_open good good2 (x, o) → optional_good good2 o
    good_second x None g = tt
    good_second x (Some (at, y)) g = g.1

    tailed_sound : (n : ℕ) (ss : List Symbol) (p : A × Option (ℕ × B)) (rest : List Symbol) → (first >>> tail_reads) n ss ≡ Found p rest
        → Reads (tailed_spelling text spelled spelled2) (tailed_good leaves_open good good2) Ends ss p rest
    tailed_sound n ss p rest e =
        let a = after_found (first n ss) _ p rest e in
        let b = after_found (tail_reads n a.1) _ p rest a.3 in
        let x = l.law.sound n ss a.0 a.1 a.2 in
        let y = m.law.sound n a.1 b.0 b.1 b.2 in
        found_is (Reads (tailed_spelling text spelled spelled2) (tailed_good leaves_open good good2) Ends ss) (a.0, b.0) p b.1 rest b.3
        (record {
          fits = both_good a.0 b.0 a.1 b.1 x.fits x.is_end y.fits y.whole;
          is_end = y.is_end;
          whole = x.whole ∙ ap (λ u. spelled a.0 ++ u) y.whole ∙ sym (append_assoc (spelled a.0) (optional_spelling text spelled2 b.0) b.1);
        })

    tailed_complete : (p : A × Option (ℕ × B)) (rest : List Symbol) → tailed_good leaves_open good good2 p → Ends p rest
        → Eventually (λ n. (first >>> tail_reads) n (tailed_spelling text spelled spelled2 p ++ rest) ≡ Found p rest)
    tailed_complete p rest g e =
        let tail : List Symbol = optional_spelling text spelled2 p.1 ++ rest in
        let a = l.law.complete p.0 tail (good_first p.0 p.1 g) (first_ends p.0 p.1 rest g e) in
        let b = m.law.complete p.1 rest (good_second p.0 p.1 g) e in (
          a.0 + b.0,
          λ n le.
              ap (λ u. (first >>> tail_reads) n u) (append_assoc (spelled p.0) (optional_spelling text spelled2 p.1) rest)
              ∙ on (first n (spelled p.0 ++ tail)) p.0 tail _ _ (a.1 n (omega arith)) (on (tail_reads n tail) p.1 rest _ _ (b.1 n (omega arith)) refl),
        )

    -- a tail is stuck within what stands behind its mark
    tail_viable : (x : A) (n : ℕ) (s rest : List Symbol) (o : Option (ℕ × List Symbol)) → good x → OpenEnds leaves_open text x s → behind text s ≡ o → optional_from second n s o ≡ Stuck rest
        → (front : List Symbol) × (further : List Symbol) × (z : Option (ℕ × B)) × (s ≡ front ++ rest) × tailed_good leaves_open good good2 (x, z) × (front ++ further ≡ optional_spelling text spelled2 z)
    tail_viable x n s rest None g h i e = found_not_stuck None s rest e
    tail_viable x n s rest (Some (at, t)) g h i e =
        let is = behind_is text s at t i in
        ⊎_elim
        (λ f.
        let v = k.law.viable n t rest f in (
          Symbol.Fixed at text ∷ v.front,
          v.further,
          Some (at, v.thing),
          is ∙ ap (λ u. Symbol.Fixed at text ∷ u) v.left,
          (g, v.fits, closed (leaves_open x) s at t h is),
          ap (λ u. Symbol.Fixed at text ∷ u) v.whole,
        ))
        (λ f. found_not_stuck (Some (at, f.0)) f.1 rest f.3)
        (after_stuck (second n t) (λ y r. Found (Some (at, y)) r) rest e)

    tailed_viable : (n : ℕ) (ss rest : List Symbol) → (first >>> tail_reads) n ss ≡ Stuck rest → Begins (tailed_spelling text spelled spelled2) (tailed_good leaves_open good good2) ss rest
    tailed_viable n ss rest e =
        ⊎_elim
        (λ h.
        let b = l.law.viable n ss rest h in
        record { front = b.front; further = b.further; thing = (b.thing, None); left = b.left; fits = b.fits; whole = b.whole ∙ sym (append-nil (spelled b.thing)) })
        (λ h.
        let x = l.law.sound n ss h.0 h.1 h.2 in
        ⊎_elim
        (λ i.
        let v = tail_viable h.0 n h.1 rest (behind text h.1) x.fits x.is_end refl i in
        record {
          front = spelled h.0 ++ v.0;
          further = v.1;
          thing = (h.0, v.2);
          left = x.whole ∙ ap (λ u. spelled h.0 ++ u) v.3 ∙ sym (append_assoc (spelled h.0) v.0 rest);
          fits = v.4;
          whole = append_assoc (spelled h.0) v.0 v.1 ∙ ap (λ u. spelled h.0 ++ u) v.5;
        })
        (λ i. found_not_stuck (h.0, i.0) i.1 rest i.3)
        (after_stuck (tail_reads n h.1) (λ y s. Found (h.0, y) s) rest h.3))
        (after_stuck (first n ss) (λ x s. read_on (tail_reads n s) (λ y t. Found (x, y) t)) rest e)

    tailed_settled : (ss : List Symbol) → Settles (length ss) (λ n. (first >>> tail_reads) n ss)
    tailed_settled ss =
        settles_behind (length ss) (λ n. first n ss) (λ n x s. read_on (tail_reads n s) (λ y t. Found (x, y) t)) (l.law.settled ss)
        (λ x s e.
        settles_later (length s) (length ss) (λ n. read_on (tail_reads n s) (λ y t. Found (x, y) t))
        (no_longer ss (spelled x) s (l.law.sound (suc (length ss)) ss x s e).whole)
        (settles_behind (length s) (λ n. tail_reads n s) (λ n y t. Found (x, y) t) (m.law.settled s)
        (λ y t i. settles_at_once (length s) (λ n. Found (x, y) t) (Found (x, y) t) tt (λ n. refl))))

    -- so they are
    pub tailed_law : IsReading (tailed_spelling text spelled spelled2) (tailed_good leaves_open good good2) Ends (first >>> optional text second)
    tailed_law = record {
      law = record {
        sound = tailed_sound;
        complete = tailed_complete;
        local = λ n. after_local (first n) _ (l.law.local n) (λ x. after_local (tail_reads n) _ (m.law.local n) (λ y. found_local (x, y)));
        viable = tailed_viable;
        settled = tailed_settled;
      };
      thing = (l.thing, None);
      fits = l.fits;
    }
