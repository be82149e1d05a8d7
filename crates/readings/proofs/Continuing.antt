-- Things read one after the other to the end, as a loop does.
use Rattle.std.proofs.Common.{ℕ, ◌<◌, ◌==◌, Bool, true, false, List, [], ◌∷◌, ◌++◌, append_assoc, append-nil, length, map, ◌≡◌, refl, sym, ◌∙◌, ap, subst, max, arith}
use Rattle.std.proofs.lemmas.Bool.Decides.{nat_tests}
use Rattle.readings.specs.Symbol.{Symbol}
use Rattle.readings.specs.Reading.{Read, Found, Stuck, Unread, read_on}
use Rattle.readings.specs.Readings.{Reading, to_end}
use Rattle.readings.specs.declared.stop.Stop.{Stop}
use Rattle.readings.specs.declared.sign.Sign.{Sign}
use Rattle.readings.specs.Seen.{seen, Comes, Fails}
use Rattle.readings.proofs.Saying.{at_once, one_more}
use Rattle.readings.specs.declared.stop.Stop.TheVariants as stops

-- what the reading comes to with these things put before those that it finds
abbrev pub with_things : {A : Type 0} → List A → Read (List A) → Read (List A)
with_things found a = read_on a (λ xs s. Found (found ++ xs) s)

-- whatever the rest comes to, the whole comes to, with the things found so far put before
abbrev pub Continues : {A : Type 0} → Reading A → List Symbol → List A → List Symbol → Type 0
Continues {A = A} reads ss found rest = (a : Read (List A)) → Comes (to_end reads) rest a → Comes (to_end reads) ss (with_things found a)

-- at the start
pub continues_start : {A : Type 0} (reads : Reading A) (ss : List Symbol) → Continues reads ss [] ss
continues_start reads ss (Found xs s) h = h
continues_start reads ss (Stuck s) h = h
continues_start reads ss Unread h = h

-- a thing in front of others
in_front : {A : Type 0} (reads : Reading A) (c : Symbol) (cs : List Symbol) (x : A) (s : List Symbol) (a : Read (List A)) → Comes reads (c ∷ cs) (Found x s) → Comes (to_end reads) s a
    → Comes (to_end reads) (c ∷ cs) (with_things (x ∷ []) a)
in_front reads c cs x s a h k =
    one_more (to_end reads) (c ∷ cs) (with_things (x ∷ []) a)
    (record {
      calls = max h.calls k.calls;
      is = λ n le. ap (λ b. read_on b (λ y u. read_on (to_end reads n u) (λ xs t. Found (y ∷ xs) t))) (h.is n (omega (arith, le)))
          ∙ ap (λ b. read_on b (λ xs t. Found (x ∷ xs) t)) (k.is n (omega (arith, le)));
    })

joined : {A : Type 0} (found : List A) (y : A) (a : Read (List A)) → with_things found (with_things (y ∷ []) a) ≡ with_things (found ++ y ∷ []) a
joined found y (Found xs s) = ap (λ zs. Found zs s) (sym (append_assoc found (y ∷ []) xs))
joined found y (Stuck s) = refl
joined found y Unread = refl

-- a thing more
pub continues_step : {A : Type 0} (reads : Reading A) (ss : List Symbol) (found others : List A) (here : List Symbol) (x : A) (s : List Symbol) → (here ≡ [] → ⊥) → found ++ x ∷ [] ≡ others
    → Continues reads ss found here → Comes reads here (Found x s) → Continues reads ss others s
continues_step reads ss found others [] x s some more g h a k = absurd (some refl)
continues_step reads ss found others (c ∷ cs) x s some more g h a k =
    subst (λ zs. Comes (to_end reads) ss (with_things zs a)) more (subst (Comes (to_end reads) ss) (joined found x a) (g (with_things (x ∷ []) a) (in_front reads c cs x s a h k)))

-- nothing is left
pub continues_end : {A : Type 0} (reads : Reading A) (ss : List Symbol) (found : List A) (here : List Symbol) → here ≡ [] → Continues reads ss found here
    → Comes (to_end reads) ss (Found found [])
continues_end reads ss found here none g =
    subst (λ xs. Comes (to_end reads) ss (Found xs [])) (append-nil found)
    (g (Found [] []) (subst (λ t. Comes (to_end reads) t (Found [] [])) (sym none) (one_more (to_end reads) [] (Found [] []) (at_once (λ n. refl)))))

-- the next thing stops
pub continues_fails : {A : Type 0} (reads : Reading A) (stop : Stop) (ss : List Symbol) (found : List A) (here : List Symbol) → (here ≡ [] → ⊥) → Continues reads ss found here
    → Fails stop reads here → Fails stop (to_end reads) ss
continues_fails reads (stops.Stuck left) ss found [] some g h = absurd (some refl)
continues_fails reads (stops.Stuck left) ss found (c ∷ cs) some g (rest, n_is, h) = (
  rest,
  n_is,
  g (Stuck rest) (one_more (to_end reads) (c ∷ cs) (Stuck rest)
      (record { calls = h.calls; is = λ n le. ap (λ b. read_on b (λ y u. read_on (to_end reads n u) (λ xs t. Found (y ∷ xs) t))) (h.is n le) })),
)
continues_fails reads stops.Memory ss found here some g t = tt

-- ---- whether symbols are left

zero_test : (n : ℕ) (b : Bool) → 0 < n → b ≡ (n == 0) → b ≡ true → ⊥
zero_test n b some e h = grind (arith, nat_tests)

-- none are
pub none_left : (ss : List Sign) (b : Bool) → b ≡ (length ss == 0) → b ≡ true → map seen ss ≡ []
none_left [] b e h = refl
none_left (s ∷ ss) b e h = absurd (zero_test (length (s ∷ ss)) b (omega arith) e h)

-- some are
pub some_left : (ss : List Sign) (b : Bool) → b ≡ (length ss == 0) → b ≡ false → map seen ss ≡ [] → ⊥
some_left [] b e h is = cc
some_left (s ∷ ss) b e h is = cc
