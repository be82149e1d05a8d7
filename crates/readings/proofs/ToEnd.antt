-- Things read one behind the other to the end: the whole is the tree that the symbols spell, or they stop to begin one; and it is one of the two.
use Rattle.std.proofs.Common.{◌≡◌, ◌⊎◌, inl, inr, ℕ, zero, suc, ◌+◌, ◌<◌, ◌≤◌, List, [], ◌∷◌, ◌++◌, length, length-append, refl, ap, sym, ◌∙◌, subst, arith, append_assoc, append-nil, ⊎_elim}
use Rattle.std.specs.Prelude.{flat_map}
use Rattle.std.proofs.lemmas.List.{append_cancel_right}
use Rattle.readings.specs.Symbol.{Symbol}
use Rattle.readings.specs.Reading.{Read, Found, Stuck, Unread, read_on}
use Rattle.readings.specs.Readings.{Reading, to_end}
use Rattle.readings.specs.Lawful.{IsLocal, rest_of, with_rest, IsTold, Settles, Eventually, IsReading}
use Rattle.readings.specs.Whole.{Goods, BeginsOne, EndsBefore, StopsIn}
use Rattle.readings.proofs.After.{found_not_stuck, on, found_is, after_found, after_stuck}
use Rattle.readings.proofs.Local.{unread_locally, found_empty, found_local, after_local, agree_local}
use Rattle.readings.proofs.Settling.{settles_at_once, settles_later, settles_one_more, settles_behind}

module _ {A : Type 0} (spelled : A → List Symbol) (good : A → Type 0) (ends : A → List Symbol → Type 0) (reads : Reading A) (l : IsReading spelled good ends reads)
    (some : (x : A) → 0 < length (spelled x)) (before : (x : A) (xs : List A) → ends x (flat_map spelled xs))
  where
    -- what is found, to the end
    pub record Whole (ss : List Symbol) (xs : List A) (rest : List Symbol) : Type 0 where
      pub none : rest ≡ []
      pub fits : Goods good xs
      pub whole : ss ≡ flat_map spelled xs

    -- what is found is spelled so, and nothing is left
    pub end_sound : (n : ℕ) (ss : List Symbol) (xs : List A) (rest : List Symbol) → to_end reads n ss ≡ Found xs rest → Whole ss xs rest
    end_sound zero ss xs rest e = absurd (cc)
    end_sound (suc n) [] xs rest e = found_is (Whole []) [] xs [] rest e (record { none = refl; fits = tt; whole = refl })
    end_sound (suc n) (s ∷ ss) xs rest e =
        let a = after_found (reads n (s ∷ ss)) (λ x r. read_on (to_end reads n r) (λ ys t. Found (x ∷ ys) t)) xs rest e in
        let b = after_found (to_end reads n a.1) (λ ys t. Found (a.0 ∷ ys) t) xs rest a.3 in
        let x = l.law.sound n (s ∷ ss) a.0 a.1 a.2 in
        let ys = end_sound n a.1 b.0 b.1 b.2 in
        found_is (Whole (s ∷ ss)) (a.0 ∷ b.0) xs b.1 rest b.3
        (record { none = ys.none; fits = (x.fits, ys.fits); whole = x.whole ∙ ap (λ u. spelled a.0 ++ u) ys.whole })

    -- a thing has a symbol, so fewer are left behind it
    shorter : (n : ℕ) (ss : List Symbol) (x : A) (r : List Symbol) → reads n ss ≡ Found x r → length r < length ss
    shorter n ss x r e = omega (arith, ap length (l.law.sound n ss x r e).whole, length-append (spelled x) r, some x)

    -- so the list goes on with it
    goes_on : (n : ℕ) (ss : List Symbol) (x : A) (r : List Symbol) → 0 < length ss
        → to_end reads (suc n) ss ≡ read_on (reads n ss) (λ x r. read_on (to_end reads n r) (λ xs t. Found (x ∷ xs) t))
    goes_on n [] x r lt = absurd (omega (arith, lt))
    goes_on n (s ∷ ss) x r lt = refl

    -- things are found from their spelling
    pub end_complete : (xs : List A) → Goods good xs → Eventually (λ n. to_end reads n (flat_map spelled xs) ≡ Found xs [])
    end_complete [] g = (1, by)
      where
        by : (n : ℕ) → 1 ≤ n → to_end reads n [] ≡ Found [] []
        by zero le = absurd (omega arith)
        by (suc n) le = refl
    end_complete (x ∷ xs) g = goes (l.law.complete x (flat_map spelled xs) g.0 (before x xs)) (end_complete xs g.1)
      where
        goes : Eventually (λ n. reads n (spelled x ++ flat_map spelled xs) ≡ Found x (flat_map spelled xs)) → Eventually (λ n. to_end reads n (flat_map spelled xs) ≡ Found xs [])
            → Eventually (λ n. to_end reads n (spelled x ++ flat_map spelled xs) ≡ Found (x ∷ xs) [])
        goes a b = (suc (a.0 + b.0), by)
          where
            by : (n : ℕ) → suc (a.0 + b.0) ≤ n → to_end reads n (spelled x ++ flat_map spelled xs) ≡ Found (x ∷ xs) []
            by zero le = absurd (omega arith)
            by (suc n) le =
                goes_on n (spelled x ++ flat_map spelled xs) x (flat_map spelled xs) (omega (arith, length-append (spelled x) (flat_map spelled xs), some x))
                ∙ on (reads n (spelled x ++ flat_map spelled xs)) x (flat_map spelled xs) (λ x r. read_on (to_end reads n r) (λ ys t. Found (x ∷ ys) t))
                (Found (x ∷ xs) []) (a.1 n (omega arith))
                (on (to_end reads n (flat_map spelled xs)) xs [] (λ ys t. Found (x ∷ ys) t) (Found (x ∷ xs) []) (b.1 n (omega arith)) refl)

    -- the reading goes by no symbol behind the first that it leaves
    pub end_local : (n : ℕ) → IsLocal (to_end reads n)
    end_local zero ss = unread_locally (to_end reads zero) ss
    end_local (suc n) [] = found_empty (to_end reads (suc n)) []
    end_local (suc n) (s ∷ ss) =
        let goes : List Symbol → Read (List A) = λ t. read_on (reads n t) (λ x r. read_on (to_end reads n r) (λ xs u. Found (x ∷ xs) u)) in
        agree_local (to_end reads (suc n)) goes s ss (goes (s ∷ ss)) (λ t. refl)
        (after_local (reads n) (λ x r. read_on (to_end reads n r) (λ xs u. Found (x ∷ xs) u)) (l.law.local n)
        (λ x. after_local (to_end reads n) (λ xs u. Found (x ∷ xs) u) (end_local n) (λ xs. found_local (x ∷ xs))) (s ∷ ss))

    -- where it is stuck, the symbols before go on to be things
    record Begun (ss rest : List Symbol) : Type 0 where
      front : List Symbol
      further : List Symbol
      things : List A
      left : ss ≡ front ++ rest
      fits : Goods good things
      whole : front ++ further ≡ flat_map spelled things

    end_viable : (n : ℕ) (ss rest : List Symbol) → to_end reads n ss ≡ Stuck rest → Begun ss rest
    end_viable zero ss rest e = absurd (cc)
    end_viable (suc n) [] rest e = found_not_stuck [] [] rest e
    end_viable (suc n) (s ∷ ss) rest e =
        ⊎_elim
        (λ h.
        let v = l.law.viable n (s ∷ ss) rest h in
        record {
          front = v.front;
          further = v.further;
          things = v.thing ∷ [];
          left = v.left;
          fits = (v.fits, tt);
          whole = v.whole ∙ sym (append-nil (spelled v.thing));
        })
        (λ h.
        let x = l.law.sound n (s ∷ ss) h.0 h.1 h.2 in
        ⊎_elim
        (λ i.
        let v = end_viable n h.1 rest i in
        record {
          front = spelled h.0 ++ v.front;
          further = v.further;
          things = h.0 ∷ v.things;
          left = x.whole ∙ ap (λ u. spelled h.0 ++ u) v.left ∙ sym (append_assoc (spelled h.0) v.front rest);
          fits = (x.fits, v.fits);
          whole = append_assoc (spelled h.0) v.front v.further ∙ ap (λ u. spelled h.0 ++ u) v.whole;
        })
        (λ i. found_not_stuck (h.0 ∷ i.0) i.1 rest i.3)
        (after_stuck (to_end reads n h.1) (λ xs t. Found (h.0 ∷ xs) t) rest h.3))
        (after_stuck (reads n (s ∷ ss)) (λ x r. read_on (to_end reads n r) (λ xs t. Found (x ∷ xs) t)) rest e)

    -- it settles
    settled_of : (k : ℕ) (ss : List Symbol) → length ss ≤ k → Settles (suc (length ss)) (λ n. to_end reads n ss)
    settled_of k [] le = record { comes = Found [] []; told = tt; is = nothing }
      where
        nothing : (n : ℕ) → 1 < n → to_end reads n [] ≡ Found [] []
        nothing zero lt = absurd (omega arith)
        nothing (suc n) lt = refl
    settled_of zero (s ∷ ss) le = absurd (omega arith)
    settled_of (suc k) (s ∷ ss) le =
        settles_one_more (length (s ∷ ss)) (λ n. to_end reads n (s ∷ ss))
        (settles_behind (length (s ∷ ss)) (λ n. reads n (s ∷ ss)) (λ n x r. read_on (to_end reads n r) (λ xs t. Found (x ∷ xs) t)) (l.law.settled (s ∷ ss))
        (λ x r e.
        let less = shorter (suc (length (s ∷ ss))) (s ∷ ss) x r e in
        settles_later (suc (length r)) (length (s ∷ ss)) (λ n. read_on (to_end reads n r) (λ xs t. Found (x ∷ xs) t)) (omega (arith, less))
        (settles_behind (suc (length r)) (λ n. to_end reads n r) (λ n xs t. Found (x ∷ xs) t) (settled_of k r (omega (arith, le, less)))
        (λ xs t f. settles_at_once (suc (length r)) (λ n. Found (x ∷ xs) t) (Found (x ∷ xs) t) tt (λ n. refl)))))

    pub end_settles : (ss : List Symbol) → Settles (suc (length ss)) (λ n. to_end reads n ss)
    end_settles ss = settled_of (length ss) ss (omega arith)

    -- ---- whole trees, each of which is made of a list of things
    module _ {D : Type 0} (Spells : List Symbol → D → Type 0) (make : List A → D) (to : (xs : List A) → Goods good xs → Spells (flat_map spelled xs) (make xs))
        (things : D → List A) (from : (ss : List Symbol) (d : D) → Spells ss d → Goods good (things d) × (ss ≡ flat_map spelled (things d)))
      where
        -- what is found is the tree that the symbols spell
        pub found_whole : (n : ℕ) (ss : List Symbol) (xs : List A) (rest : List Symbol) → to_end reads n ss ≡ Found xs rest → (rest ≡ []) × Spells ss (make xs)
        found_whole n ss xs rest e = let w = end_sound n ss xs rest e in (w.none, subst (λ u. Spells u (make xs)) (sym w.whole) (to xs w.fits))

        -- a tree is found from the symbols that it is spelled with
        pub complete_whole : (ss : List Symbol) (d : D) → Spells ss d → Eventually (λ n. to_end reads n ss ≡ Found (things d) [])
        complete_whole ss d t =
            let f = from ss d t in
            let a = end_complete (things d) f.0 in (a.0, λ n le. ap (to_end reads n) f.1 ∙ a.1 n le)

        -- what is stuck at the end is no tree
        ends_here : (ss : List Symbol) → Eventually (λ n. to_end reads n ss ≡ Stuck []) → (d : D) → Spells ss d → ⊥
        ends_here ss a d t =
            let b = complete_whole ss d t in
            let n : ℕ = a.0 + b.0 in
            found_not_stuck (things d) [] [] (sym (b.1 n (omega arith)) ∙ a.1 n (omega arith))

        -- where it is stuck at a symbol, none begins with that symbol: it would be stuck there whatever stands behind
        ends_at : (ss front : List Symbol) (c : Symbol) (r : List Symbol) → Eventually (λ n. to_end reads n ss ≡ Stuck (c ∷ r)) → ss ≡ front ++ (c ∷ r)
            → BeginsOne Spells (front ++ c ∷ []) → ⊥
        ends_at ss front c r a i b =
            let f = complete_whole ((front ++ c ∷ []) ++ b.further) b.tree b.spells in
            let n : ℕ = a.0 + f.0 in
            let stuck = a.1 n (omega arith) in
            let k = end_local n ss in
            let left : rest_of (to_end reads n ss) ≡ c ∷ r = ap rest_of stuck in
            let same : k.front ≡ front = append_cancel_right k.front front (c ∷ r) (sym (k.whole ∙ ap (λ u. k.front ++ u) left) ∙ i) in
            let again : to_end reads n (front ++ (c ∷ b.further)) ≡ Stuck (c ∷ b.further) =
            ap (λ u. to_end reads n (u ++ (c ∷ b.further))) (sym same) ∙ k.same c r b.further left ∙ ap (λ u. with_rest u (c ∷ b.further)) stuck in
            found_not_stuck (things b.tree) [] (c ∷ b.further) (sym (f.1 n (omega arith)) ∙ ap (to_end reads n) (append_assoc front (c ∷ []) b.further) ∙ again)

        stops_there : (ss rest : List Symbol) → Eventually (λ n. to_end reads n ss ≡ Stuck rest) → (front : List Symbol) → ss ≡ front ++ rest → EndsBefore Spells front rest
        stops_there ss [] a front i = λ d t. ends_here ss a d (subst (λ u. Spells u d) (sym (i ∙ append-nil front)) t)
        stops_there ss (c ∷ r) a front i = ends_at ss front c r a i

        -- where it is stuck, the symbols before begin a tree, and with the next none begins
        pub stuck_whole : (ss rest : List Symbol) → Eventually (λ n. to_end reads n ss ≡ Stuck rest) → StopsIn Spells ss rest
        stuck_whole ss rest a =
            let v = end_viable a.0 ss rest (a.1 a.0 (omega arith)) in
            record {
              front = v.front;
              whole = v.left;
              begins = record { further = v.further; tree = make v.things; spells = subst (λ u. Spells u (make v.things)) (sym v.whole) (to v.things v.fits) };
              stops = stops_there ss rest a v.front v.left;
            }

        -- what a list is read as with calls enough, it is read as with any more
        calls_enough : (ss : List Symbol) (a : Read (List A)) → to_end reads (suc (suc (length ss))) ss ≡ a → (n : ℕ) → suc (length ss) < n → to_end reads n ss ≡ a
        calls_enough ss a e n lt = let s = end_settles ss in s.is n lt ∙ sym (s.is (suc (suc (length ss))) (omega arith)) ∙ e

        -- so one reading tells where they stop
        pub stuck_once : (ss rest : List Symbol) → to_end reads (suc (suc (length ss))) ss ≡ Stuck rest → StopsIn Spells ss rest
        stuck_once ss rest e = stuck_whole ss rest (suc (suc (length ss)), λ n le. calls_enough ss (Stuck rest) e n (omega (arith, le)))

        told : (ss : List Symbol) (a : Read (List A)) → IsTold a → to_end reads (suc (suc (length ss))) ss ≡ a → ((d : D) × Spells ss d) ⊎ ((rest : List Symbol) × StopsIn Spells ss rest)
        told ss (Found xs rest) t e = inl (make xs, (found_whole (suc (suc (length ss))) ss xs rest e).1)
        told ss (Stuck rest) t e = inr (rest, stuck_once ss rest e)
        told ss Unread t e = absurd t

        -- any symbols spell a tree, or stop to begin one
        pub some_whole : (ss : List Symbol) → ((d : D) × Spells ss d) ⊎ ((rest : List Symbol) × StopsIn Spells ss rest)
        some_whole ss = let s = end_settles ss in told ss s.comes s.told (s.is (suc (suc (length ss))) (omega arith))
