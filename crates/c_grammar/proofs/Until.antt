-- Things one behind the other up to a mark are read lawfully.
use Rattle.std.proofs.Common.{◌≡◌, ℕ, zero, suc, ◌+◌, ◌<◌, ◌≤◌, List, [], ◌∷◌, ◌++◌, length, length-append, Option, Some, None, refl, ap, sym, ◌∙◌, subst, arith, append_assoc, append-nil, ⊎_elim}
use Rattle.std.specs.Prelude.{flat_map}
use Rattle.readings.specs.Symbol.{Symbol, fixed}
use Rattle.readings.specs.Reading.{Read, Found, Stuck, read_on, behind}
use Rattle.readings.specs.Readings.{Reading}
use Rattle.readings.specs.Lawful.{IsLocal, Settles, Eventually, Begins, Reads, IsLawful, IsReading, Anywhere}
use Rattle.readings.specs.Whole.{Goods}
use Rattle.readings.proofs.Symbols.{behind_is, behind_front}
use Rattle.readings.proofs.After.{found_not_stuck, on, found_is, after_found, after_stuck}
use Rattle.readings.proofs.Local.{unread_locally, found_local, after_local}
use Rattle.readings.proofs.Settling.{settles_at_once, settles_behind}
use Rattle.readings.proofs.CombiningMarks.{by_mark_local}
use Rattle.c_grammar.specs.Until.{until, until_from, until_spelling, until_good}

-- no thing begins with the mark, each has a symbol, and each may stand before another and before the mark
module _ {A : Type 0} (text : List ℕ) (spelled : A → List Symbol) (good : A → Type 0) (ends : A → List Symbol → Type 0) (reads : Reading A)
    (l : IsLawful spelled good ends reads) (unmarked : (x : A) (r : List Symbol) → good x → behind text (spelled x ++ r) ≡ None) (some : (x : A) → good x → 0 < length (spelled x))
    (before : (x y : A) (r : List Symbol) → good x → good y → ends x (spelled y ++ r)) (closed : (x : A) (at : ℕ) (r : List Symbol) → good x → ends x (Symbol.Fixed at text ∷ r))
  where
    abbrev all : List A × ℕ → List Symbol
    all = until_spelling text spelled

    -- the first of them, before the others and a rest
    joined : (x : A) (xs : List A) (at : ℕ) (r : List Symbol) → all (x ∷ xs, at) ++ r ≡ spelled x ++ (all (xs, at) ++ r)
    joined x xs at r = ap (λ u. u ++ r) (append_assoc (spelled x) (flat_map spelled xs) (fixed at text)) ∙ append_assoc (spelled x) (all (xs, at)) r

    until_sound : (n : ℕ) (ss : List Symbol) (p : List A × ℕ) (rest : List Symbol) → until text reads n ss ≡ Found p rest → Reads all (until_good good) Anywhere ss p rest
    until_sound zero ss p rest e = absurd (cc)
    until_sound (suc n) ss p rest e = by (until_sound n) (behind text ss) refl e
      where
        by : ((s : List Symbol) (q : List A × ℕ) (t : List Symbol) → until text reads n s ≡ Found q t → Reads all (until_good good) Anywhere s q t)
            → (o : Option (ℕ × List Symbol)) → behind text ss ≡ o → until_from reads (λ s. until text reads n s) (suc n) ss o ≡ Found p rest → Reads all (until_good good) Anywhere ss p rest
        by others None i f =
            let a = after_found (reads (suc n) ss) _ p rest f in
            let b = after_found (until text reads n a.1) _ p rest a.3 in
            let x = l.sound (suc n) ss a.0 a.1 a.2 in
            let xs = others a.1 b.0 b.1 b.2 in
            found_is (Reads all (until_good good) Anywhere ss) (a.0 ∷ b.0.0, b.0.1) p b.1 rest b.3
            (record { fits = (x.fits, xs.fits); is_end = tt; whole = x.whole ∙ ap (λ u. spelled a.0 ++ u) xs.whole ∙ sym (joined a.0 b.0.0 b.0.1 b.1) })
        by others (Some (at, s)) i f = found_is (Reads all (until_good good) Anywhere ss) ([], at) p s rest f (record { fits = tt; is_end = tt; whole = behind_is text ss at s i })

    -- where a thing is in front, the mark is not
    until_complete : (xs : List A) (at : ℕ) (rest : List Symbol) → Goods good xs → Eventually (λ n. until text reads n (all (xs, at) ++ rest) ≡ Found (xs, at) rest)
    until_complete [] at rest g = (1, by)
      where
        by : (n : ℕ) → 1 ≤ n → until text reads n (Symbol.Fixed at text ∷ rest) ≡ Found ([], at) rest
        by zero le = absurd (omega arith)
        by (suc n) le = ap (until_from reads (λ s. until text reads n s) (suc n) (Symbol.Fixed at text ∷ rest)) (behind_front text at rest)
    until_complete (x ∷ xs) at rest g =
        goes (l.complete x (all (xs, at) ++ rest) g.0 (first_ends xs g.1)) (until_complete xs at rest g.1)
      where
        first_ends : (ys : List A) → Goods good ys → ends x (all (ys, at) ++ rest)
        first_ends [] h = closed x at rest g.0
        first_ends (y ∷ ys) h = subst (ends x) (sym (joined y ys at rest)) (before x y (all (ys, at) ++ rest) g.0 h.0)

        goes : Eventually (λ n. reads n (spelled x ++ (all (xs, at) ++ rest)) ≡ Found x (all (xs, at) ++ rest)) → Eventually (λ n. until text reads n (all (xs, at) ++ rest) ≡ Found (xs, at) rest)
            → Eventually (λ n. until text reads n (all (x ∷ xs, at) ++ rest) ≡ Found (x ∷ xs, at) rest)
        goes a b = (suc (a.0 + b.0), by)
          where
            by : (n : ℕ) → suc (a.0 + b.0) ≤ n → until text reads n (all (x ∷ xs, at) ++ rest) ≡ Found (x ∷ xs, at) rest
            by zero le = absurd (omega arith)
            by (suc n) le =
                ap (until text reads (suc n)) (joined x xs at rest)
                ∙ ap (until_from reads (λ s. until text reads n s) (suc n) (spelled x ++ (all (xs, at) ++ rest))) (unmarked x (all (xs, at) ++ rest) g.0)
                ∙ on (reads (suc n) (spelled x ++ (all (xs, at) ++ rest))) x (all (xs, at) ++ rest) _ _ (a.1 (suc n) (omega arith))
                (on (until text reads n (all (xs, at) ++ rest)) (xs, at) rest _ _ (b.1 n (omega arith)) refl)

    until_local : (n : ℕ) → IsLocal (until text reads n)
    until_local zero ss = unread_locally (until text reads zero) ss
    until_local (suc n) ss =
        by_mark_local text (λ m s. until text reads (suc n) s) (λ m s. read_on (reads (suc n) s) (λ x t. read_on (until text reads n t) (λ (xs, at) u. Found (x ∷ xs, at) u))) (λ at m s. Found ([], at) s)
        (λ m s i. ap (until_from reads (λ t. until text reads n t) (suc n) s) i) (λ m s at rest i. ap (until_from reads (λ t. until text reads n t) (suc n) s) i)
        (λ m. after_local (reads (suc n)) _ (l.local (suc n)) (λ x. after_local (until text reads n) _ (until_local n) (λ q. found_local (x ∷ q.0, q.1))))
        (λ at m. found_local ([], at)) n ss

    until_viable : (n : ℕ) (ss rest : List Symbol) → until text reads n ss ≡ Stuck rest → Begins all (until_good good) ss rest
    until_viable zero ss rest e = absurd (cc)
    until_viable (suc n) ss rest e = by (until_viable n) (behind text ss) e
      where
        by : ((s t : List Symbol) → until text reads n s ≡ Stuck t → Begins all (until_good good) s t)
            → (o : Option (ℕ × List Symbol)) → until_from reads (λ s. until text reads n s) (suc n) ss o ≡ Stuck rest → Begins all (until_good good) ss rest
        by others (Some (at, s)) f = found_not_stuck ([], at) s rest f
        by others None f =
            ⊎_elim
            (λ h.
            let v = l.viable (suc n) ss rest h in
            record {
              front = v.front;
              further = v.further ++ fixed 0 text;
              thing = (v.thing ∷ [], 0);
              left = v.left;
              fits = (v.fits, tt);
              whole = sym (append_assoc v.front v.further (fixed 0 text)) ∙ ap (λ u. u ++ fixed 0 text) (v.whole ∙ sym (append-nil (spelled v.thing)));
            })
            (λ h.
            let x = l.sound (suc n) ss h.0 h.1 h.2 in
            ⊎_elim
            (λ g.
            let v = others h.1 rest g in
            record {
              front = spelled h.0 ++ v.front;
              further = v.further;
              thing = (h.0 ∷ v.thing.0, v.thing.1);
              left = x.whole ∙ ap (λ u. spelled h.0 ++ u) v.left ∙ sym (append_assoc (spelled h.0) v.front rest);
              fits = (x.fits, v.fits);
              whole = append_assoc (spelled h.0) v.front v.further ∙ ap (λ u. spelled h.0 ++ u) v.whole ∙ sym (append_assoc (spelled h.0) (flat_map spelled v.thing.0) (fixed v.thing.1 text));
            })
            (λ g. found_not_stuck (h.0 ∷ g.0.0, g.0.1) g.1 rest g.3)
            (after_stuck (until text reads n h.1) (λ (xs, at) u. Found (h.0 ∷ xs, at) u) rest h.3))
            (after_stuck (reads (suc n) ss) (λ x t. read_on (until text reads n t) (λ (xs, at) u. Found (x ∷ xs, at) u)) rest f)

    -- what stands behind a thing is shorter
    behind_one : (x : A) (s t : List Symbol) → good x → s ≡ spelled x ++ t → length t < length s
    behind_one x s t g e = omega (arith, some x g, ap length e, length-append (spelled x) t)

    -- one call fewer
    abbrev fewer : ℕ → ℕ
    fewer zero = zero
    fewer (suc n) = n

    earlier : {B : Type 0} (k m : ℕ) (f : ℕ → Read B) → k < m → Settles k f → Settles m (λ n. f (fewer n))
    earlier {B = B} k m f lt s = record { comes = s.comes; told = s.told; is = from }
      where
        from : (n : ℕ) → m < n → f (fewer n) ≡ s.comes
        from zero h = absurd (omega (arith, h))
        from (suc n) h = s.is n (omega (arith, lt, h))

    -- one thing in front of others, and none
    abbrev with_one : A → List A × ℕ → List Symbol → Read (List A × ℕ)
    with_one x (xs, at) u = Found (x ∷ xs, at) u

    abbrev none_of : ℕ → List Symbol → Read (List A × ℕ)
    none_of at u = Found ([], at) u

    -- the reading settles where those of fewer symbols do
    settled_one : (ss : List Symbol) (o : Option (ℕ × List Symbol)) → behind text ss ≡ o → ((t : List Symbol) → length t < length ss → Settles (length t) (λ n. until text reads n t))
        → Settles (length ss) (λ n. until text reads n ss)
    settled_one ss (Some (at, s)) i others = record { comes = none_of at s; told = tt; is = from }
      where
        from : (n : ℕ) → length ss < n → until text reads n ss ≡ none_of at s
        from zero lt = absurd (omega (arith, lt))
        from (suc n) lt = ap (until_from reads (λ t. until text reads n t) (suc n) ss) i
    settled_one ss None i others = record { comes = turn.comes; told = turn.told; is = from }
      where
        turn : Settles {A = List A × ℕ} (length ss) (λ n. read_on (reads n ss) (λ x t. read_on (until text reads (fewer n) t) (with_one x)))
        turn =
            settles_behind (length ss) (λ n. reads n ss) (λ n x t. read_on (until text reads (fewer n) t) (with_one x)) (l.settled ss)
            (λ x t e.
            let r = l.sound (suc (length ss)) ss x t e in
            let less = behind_one x ss t r.fits r.whole in
            settles_behind (length ss) (λ n. until text reads (fewer n) t) (λ n. with_one x)
            (earlier (length t) (length ss) (λ n. until text reads n t) less (others t less))
            (λ q u f. settles_at_once (length ss) (λ n. with_one x q u) (with_one x q u) tt (λ n. refl)))

        from : (n : ℕ) → length ss < n → until text reads n ss ≡ turn.comes
        from zero lt = absurd (omega (arith, lt))
        from (suc n) lt = ap (until_from reads (λ t. until text reads n t) (suc n) ss) i ∙ turn.is (suc n) lt

    -- so it always does
    until_settled : (k : ℕ) (ss : List Symbol) → length ss ≤ k → Settles (length ss) (λ n. until text reads n ss)
    until_settled zero ss le = settled_one ss (behind text ss) refl (λ t lt. absurd (omega (arith, le, lt)))
    until_settled (suc k) ss le = settled_one ss (behind text ss) refl (λ t lt. until_settled k t (omega (arith, le, lt)))

    -- so they are
    pub until_law : IsReading all (until_good good) Anywhere (until text reads)
    until_law = record {
      law = record { sound = until_sound; complete = λ p rest g e. until_complete p.0 p.1 rest g; local = until_local; viable = until_viable; settled = λ ss. until_settled (length ss) ss (omega arith) };
      thing = ([], 0);
      fits = tt;
    }
