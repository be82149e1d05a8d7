-- Readings of lists keep the law.
use Rattle.std.proofs.Common.{◌≡◌, ℕ, zero, suc, ◌+◌, ◌<◌, ◌≤◌, List, [], ◌∷◌, ◌++◌, length, Option, Some, None, refl, ap, sym, ◌∙◌, subst, arith, append_assoc, append-nil, ⊎_elim}
use Rattle.std.specs.Prelude.{flat_map}
use Rattle.readings.specs.Symbol.{Symbol}
use Rattle.readings.specs.Reading.{Found, Stuck, read_on, behind}
use Rattle.readings.specs.Readings.{Reading, further, further_from}
use Rattle.readings.proofs.Symbols.{behind_is, behind_front}
use Rattle.readings.proofs.After.{found_not_stuck, on, found_is, after_found, after_stuck}
use Rattle.readings.specs.Lawful.{IsLocal, Settles, Eventually, Begins, Reads, IsReading, Any, Anywhere, list_ends, Last}
use Rattle.readings.proofs.Local.{unread_locally, found_local, after_local}
use Rattle.readings.proofs.Settling.{settles_at_once, settles_later, settles_alike, settles_one_more, settles_behind, no_longer}
use Rattle.readings.proofs.Combining.{other_law}
use Rattle.readings.proofs.CombiningMarks.{by_mark_local}

module _ {A : Type 0} (text : List ℕ) (spelled : A → List Symbol) (ends : A → List Symbol → Type 0) (reads : Reading A) (each : ℕ × A → List Symbol)
    (each_is : (at : ℕ) (x : A) → each (at, x) ≡ Symbol.Fixed at text ∷ spelled x)
    (before : (x : A) (at : ℕ) (r : List Symbol) → ends x (Symbol.Fixed at text ∷ r)) (l : IsReading spelled Any ends reads)
  where
    -- the first of them, before the others and a rest
    joined : (at : ℕ) (x : A) (xs : List (ℕ × A)) (r : List Symbol) → flat_map each ((at, x) ∷ xs) ++ r ≡ Symbol.Fixed at text ∷ (spelled x ++ (flat_map each xs ++ r))
    joined at x xs r = append_assoc (each (at, x)) (flat_map each xs) r ∙ ap (λ u. u ++ (flat_map each xs ++ r)) (each_is at x)

    -- the last of a list with one more in front
    last_of : (at : ℕ) (x : A) (xs : List (ℕ × A)) (s r : List Symbol) → ends x s → s ≡ flat_map each xs ++ r → Last ends xs r → Last ends ((at, x) ∷ xs) r
    last_of at x [] s r e i h = subst (ends x) i e
    last_of at x (y ∷ ys) s r e i h = h

    -- what is found is spelled so, and ends where the mark is not next
    list_sound : (n : ℕ) (ss : List Symbol) (xs : List (ℕ × A)) (rest : List Symbol) → further text reads n ss ≡ Found xs rest
        → Reads (flat_map each) Any (list_ends text ends) ss xs rest
    list_sound zero ss xs rest e = absurd (cc)
    list_sound (suc n) ss xs rest e = by (list_sound n) (behind text ss) refl e
      where
        by : ((s : List Symbol) (ys : List (ℕ × A)) (t : List Symbol) → further text reads n s ≡ Found ys t → Reads (flat_map each) Any (list_ends text ends) s ys t)
            → (o : Option (ℕ × List Symbol)) → behind text ss ≡ o → further_from reads (λ s. further text reads n s) n ss o ≡ Found xs rest
            → Reads (flat_map each) Any (list_ends text ends) ss xs rest
        by others None i f = found_is (Reads (flat_map each) Any (list_ends text ends) ss) [] xs ss rest f (record { fits = tt; is_end = (i, tt); whole = refl })
        by others (Some (at, s)) i f =
            let a = after_found (reads n s) _ xs rest f in
            let b = after_found (further text reads n a.1) _ xs rest a.3 in
            let x = l.law.sound n s a.0 a.1 a.2 in
            let ys = others a.1 b.0 b.1 b.2 in
            found_is (Reads (flat_map each) Any (list_ends text ends) ss) ((at, a.0) ∷ b.0) xs b.1 rest b.3
            (record {
              fits = tt;
              is_end = (ys.is_end.0, last_of at a.0 b.0 a.1 b.1 x.is_end ys.whole ys.is_end.1);
              whole = behind_is text ss at s i ∙ ap (λ u. Symbol.Fixed at text ∷ u) (x.whole ∙ ap (λ u. spelled a.0 ++ u) ys.whole) ∙ sym (joined at a.0 b.0 b.1);
            })

    -- the first ends before the others
    first_ends : (at : ℕ) (x : A) (xs : List (ℕ × A)) (r : List Symbol) → Last ends ((at, x) ∷ xs) r → ends x (flat_map each xs ++ r)
    first_ends at x [] r h = h
    first_ends at x ((p, y) ∷ ys) r h = subst (ends x) (sym (joined p y ys r)) (before x p (spelled y ++ (flat_map each ys ++ r)))

    -- the others end where all end
    others_end : (at : ℕ) (x : A) (xs : List (ℕ × A)) (r : List Symbol) → Last ends ((at, x) ∷ xs) r → Last ends xs r
    others_end at x [] r h = tt
    others_end at x (y ∷ ys) r h = h

    -- a list is found from its spelling
    list_complete : (xs : List (ℕ × A)) (rest : List Symbol) → list_ends text ends xs rest
        → Eventually (λ n. further text reads n (flat_map each xs ++ rest) ≡ Found xs rest)
    list_complete [] rest e = (1, by)
      where
        by : (n : ℕ) → 1 ≤ n → further text reads n rest ≡ Found [] rest
        by zero le = absurd (omega arith)
        by (suc n) le = ap (further_from reads (λ s. further text reads n s) n rest) e.0
    list_complete ((at, x) ∷ xs) rest e = goes (l.law.complete x (flat_map each xs ++ rest) tt (first_ends at x xs rest e.1))
        (list_complete xs rest (e.0, others_end at x xs rest e.1))
      where
        goes : Eventually (λ n. reads n (spelled x ++ (flat_map each xs ++ rest)) ≡ Found x (flat_map each xs ++ rest))
            → Eventually (λ n. further text reads n (flat_map each xs ++ rest) ≡ Found xs rest)
            → Eventually (λ n. further text reads n (flat_map each ((at, x) ∷ xs) ++ rest) ≡ Found ((at, x) ∷ xs) rest)
        goes a b = (suc (a.0 + b.0), by)
          where
            by : (n : ℕ) → suc (a.0 + b.0) ≤ n → further text reads n (flat_map each ((at, x) ∷ xs) ++ rest) ≡ Found ((at, x) ∷ xs) rest
            by zero le = absurd (omega arith)
            by (suc n) le =
                ap (further text reads (suc n)) (joined at x xs rest)
                ∙ ap (further_from reads (λ s. further text reads n s) n (Symbol.Fixed at text ∷ (spelled x ++ (flat_map each xs ++ rest))))
                (behind_front text at (spelled x ++ (flat_map each xs ++ rest)))
                ∙ on (reads n (spelled x ++ (flat_map each xs ++ rest))) x (flat_map each xs ++ rest) _ _ (a.1 n (omega arith))
                (on (further text reads n (flat_map each xs ++ rest)) xs rest _ _ (b.1 n (omega arith)) refl)

    -- the reading goes by no symbol behind the first that it leaves
    list_local : (n : ℕ) → IsLocal (further text reads n)
    list_local zero ss = unread_locally (further text reads zero) ss
    list_local (suc n) ss =
        by_mark_local text (λ m s. further text reads (suc n) s) (λ m s. Found [] s)
        (λ at m s. read_on (reads n s) (λ x t. read_on (further text reads n t) (λ xs u. Found ((at, x) ∷ xs) u)))
        (λ m s i. ap (further_from reads (λ t. further text reads n t) n s) i) (λ m s at rest i. ap (further_from reads (λ t. further text reads n t) n s) i)
        (λ m. found_local [])
        (λ at m. after_local (reads n) _ (l.law.local n) (λ x. after_local (further text reads n) _ (list_local n) (λ xs. found_local ((at, x) ∷ xs)))) n ss

    -- where the reading is stuck, what stands before goes on to be a list
    list_viable : (n : ℕ) (ss rest : List Symbol) → further text reads n ss ≡ Stuck rest → Begins (flat_map each) Any ss rest
    list_viable zero ss rest e = absurd (cc)
    list_viable (suc n) ss rest e = by (list_viable n) (behind text ss) refl e
      where
        by : ((s t : List Symbol) → further text reads n s ≡ Stuck t → Begins (flat_map each) Any s t)
            → (o : Option (ℕ × List Symbol)) → behind text ss ≡ o → further_from reads (λ s. further text reads n s) n ss o ≡ Stuck rest
            → Begins (flat_map each) Any ss rest
        by others None i f = found_not_stuck [] ss rest f
        by others (Some (at, s)) i f =
            ⊎_elim
            (λ h.
            let v = l.law.viable n s rest h in
            record {
              front = Symbol.Fixed at text ∷ v.front;
              further = v.further;
              thing = (at, v.thing) ∷ [];
              left = behind_is text ss at s i ∙ ap (λ u. Symbol.Fixed at text ∷ u) v.left;
              fits = tt;
              whole = ap (λ u. Symbol.Fixed at text ∷ u) v.whole ∙ sym (each_is at v.thing) ∙ sym (append-nil (each (at, v.thing)));
            })
            (λ h.
            let x = l.law.sound n s h.0 h.1 h.2 in
            ⊎_elim
            (λ g.
            let v = others h.1 rest g in
            record {
              front = Symbol.Fixed at text ∷ (spelled h.0 ++ v.front);
              further = v.further;
              thing = (at, h.0) ∷ v.thing;
              left = behind_is text ss at s i ∙ ap (λ u. Symbol.Fixed at text ∷ u) (x.whole ∙ ap (λ u. spelled h.0 ++ u) v.left
                  ∙ sym (append_assoc (spelled h.0) v.front rest));
              fits = tt;
              whole = ap (λ u. Symbol.Fixed at text ∷ u) (append_assoc (spelled h.0) v.front v.further ∙ ap (λ u. spelled h.0 ++ u) v.whole)
                  ∙ ap (λ u. u ++ flat_map each v.thing) (sym (each_is at h.0));
            })
            (λ g. found_not_stuck ((at, h.0) ∷ g.0) g.1 rest g.3)
            (after_stuck (further text reads n h.1) (λ xs u. Found ((at, h.0) ∷ xs) u) rest h.3))
            (after_stuck (reads n s) (λ x t. read_on (further text reads n t) (λ xs u. Found ((at, x) ∷ xs) u)) rest f)

    -- where the mark is not next the reading settles at once
    settled_none : (ss : List Symbol) → behind text ss ≡ None → Settles (length ss) (λ n. further text reads n ss)
    settled_none ss i = record { comes = Found [] ss; told = tt; is = none }
      where
        none : (n : ℕ) → length ss < n → further text reads n ss ≡ Found [] ss
        none zero lt = absurd (omega (arith, lt))
        none (suc n) lt = ap (further_from reads (λ s. further text reads n s) n ss) i

    -- and behind a mark where the reading of fewer symbols does
    settled_some : (ss s : List Symbol) (at : ℕ) → behind text ss ≡ Some (at, s)
        → ((t : List Symbol) → length t ≤ length s → Settles (length t) (λ n. further text reads n t)) → Settles (length ss) (λ n. further text reads n ss)
    settled_some ss s at i others =
        settles_later (suc (length s)) (length ss) (λ n. further text reads n ss) (omega (arith, ap length (behind_is text ss at s i)))
        (settles_one_more (length s) (λ n. further text reads n ss)
        (settles_alike (length s) (λ n. read_on (reads n s) (λ x t. read_on (further text reads n t) (λ xs u. Found ((at, x) ∷ xs) u)))
        (λ n. further text reads (suc n) ss) (λ n. ap (further_from reads (λ t. further text reads n t) n ss) i)
        (settles_behind (length s) (λ n. reads n s) (λ n x t. read_on (further text reads n t) (λ xs u. Found ((at, x) ∷ xs) u)) (l.law.settled s)
        (λ x t e.
        let less = no_longer s (spelled x) t (l.law.sound (suc (length s)) s x t e).whole in
        settles_later (length t) (length s) (λ n. read_on (further text reads n t) (λ xs u. Found ((at, x) ∷ xs) u)) less
        (settles_behind (length t) (λ n. further text reads n t) (λ n xs u. Found ((at, x) ∷ xs) u) (others t less)
        (λ xs u f. settles_at_once (length t) (λ n. Found ((at, x) ∷ xs) u) (Found ((at, x) ∷ xs) u) tt (λ n. refl)))))))

    -- so it always does
    list_settled : (k : ℕ) (ss : List Symbol) → length ss ≤ k → Settles (length ss) (λ n. further text reads n ss)
    list_settled zero ss le = by (behind text ss) refl
      where
        by : (o : Option (ℕ × List Symbol)) → behind text ss ≡ o → Settles (length ss) (λ n. further text reads n ss)
        by None i = settled_none ss i
        by (Some (at, s)) i = absurd (omega (arith, le, ap length (behind_is text ss at s i)))
    list_settled (suc k) ss le = by (list_settled k) (behind text ss) refl
      where
        by : ((t : List Symbol) → length t ≤ k → Settles (length t) (λ n. further text reads n t)) → (o : Option (ℕ × List Symbol)) → behind text ss ≡ o
            → Settles (length ss) (λ n. further text reads n ss)
        by others None i = settled_none ss i
        by others (Some (at, s)) i = settled_some ss s at i (λ t less. others t (omega (arith, le, less, ap length (behind_is text ss at s i))))

    -- so lists are read lawfully
    pub further_law : IsReading (flat_map each) Any (list_ends text ends) (further text reads)
    further_law = record {
      law = record { sound = list_sound; complete = λ xs rest g e. list_complete xs rest e; local = list_local; viable = list_viable; settled = λ ss. list_settled (length ss) ss (omega arith) };
      thing = [];
      fits = tt;
    }

-- where all may end anywhere
abbrev pub no_mark : {A : Type 0} → List ℕ → A → List Symbol → Type 0
no_mark text x r = behind text r ≡ None

-- the last may end where each may
pub last_where : {A : Type 0} (ends : A → List Symbol → Type 0) (xs : List (ℕ × A)) (r : List Symbol) → ((x : A) → ends x r) → Last ends xs r
last_where ends [] r h = tt
last_where ends ((at, x) ∷ []) r h = h x
last_where ends ((at, x) ∷ (y ∷ ys)) r h = last_where ends (y ∷ ys) r h

-- they end wherever the mark is not next
pub further_free : {A : Type 0} (text : List ℕ) (spelled : A → List Symbol) (reads : Reading A) (each : ℕ × A → List Symbol)
    → ((at : ℕ) (x : A) → each (at, x) ≡ Symbol.Fixed at text ∷ spelled x) → IsReading spelled Any Anywhere reads
    → IsReading (flat_map each) Any (no_mark text) (further text reads)
further_free text spelled reads each each_is l =
    other_law (flat_map each) Any Any (list_ends text Anywhere) (no_mark text) (further text reads) (λ xs h. h) (λ xs h. h) (λ xs r e. e.0)
    (λ xs r e. (e, last_where Anywhere xs r (λ x. tt)))
    (further_law text spelled Anywhere reads each each_is (λ x at r. tt) l)
