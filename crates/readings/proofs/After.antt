-- What goes on behind what was found, from what it comes to.
use Rattle.std.proofs.Common.{◌≡◌, ℕ, ◌<◌, ◌≤◌, List, refl, ap, sym, ◌∙◌, subst, false, IsTrue, ⊎_elim, ◌⊎◌, inl, inr}
use Rattle.readings.specs.Symbol.{Symbol}
use Rattle.readings.specs.Reading.{Read, Found, Stuck, read_on, with_room, Unread}
use Rattle.readings.proofs.Symbols.{above, within}
use Rattle.std.proofs.lemmas.Bool.{cases_lt}

-- the reading goes on
pub on : {A B : Type 0} (a : Read A) (x : A) (s : List Symbol) (next : A → List Symbol → Read B) (z : Read B) → a ≡ Found x s → next x s ≡ z → read_on a next ≡ z
on a x s next z e f = ap (λ b. read_on b next) e ∙ f

-- there is room
pub room_is : {A : Type 0} (room : ℕ) (here : List Symbol) (next : Read A) → 1 < room → with_room room here next ≡ next
room_is room here next lt = above room 1 (Stuck here) next lt

-- an expression that ends in something else has no index behind it
pub other_end : {P : Type 0} → IsTrue false → P
other_end h = absurd (cc)

-- ---- readings one behind the other

abbrev pub Holds : {A : Type 0} → (A → List Symbol → Type 0) → Read A → Type 0
Holds P (Found x rest) = P x rest
Holds P (Stuck rest) = ⊥
Holds P Unread = ⊥

-- what is found is one thing
pub found_is : {A : Type 0} (P : A → List Symbol → Type 0) (x y : A) (r s : List Symbol) → Found x r ≡ Found y s → P x r → P y s
found_is P x y r s e h = subst (Holds P) e h

pub after_found : {A B : Type 0} (a : Read A) (next : A → List Symbol → Read B) (y : B) (rest : List Symbol) → read_on a next ≡ Found y rest → (x : A) × (s : List Symbol) × (a ≡ Found x s) × (next x s ≡ Found y rest)
after_found (Found x s) next y rest e = (x, s, refl, e)
after_found (Stuck s) next y rest e = absurd (cc)
after_found Unread next y rest e = absurd (cc)

pub stuck_is_not_found : {A : Type 0} {P : Type 0} (here : List Symbol) (x : A) (rest : List Symbol) → Stuck here ≡ Found x rest → P
stuck_is_not_found here x rest e = absurd (cc)

pub room_found : {A : Type 0} (room : ℕ) (here : List Symbol) (a : Read A) (x : A) (rest : List Symbol) → with_room room here a ≡ Found x rest → (1 < room) × (a ≡ Found x rest)
room_found room here a x rest e =
    ⊎_elim
    (λ (lt : 1 < room). (lt, sym (above room 1 (Stuck here) a lt) ∙ e))
    (λ (le : room ≤ 1). stuck_is_not_found here x rest (sym (within room 1 (Stuck here) a le) ∙ e))
    (cases_lt 1 room)

pub stuck_is : {A : Type 0} (a b : List Symbol) → ◌≡◌ {A = Read A} (Stuck a) (Stuck b) → a ≡ b
stuck_is a b e = cc

pub after_stuck : {A B : Type 0} (a : Read A) (next : A → List Symbol → Read B) (rest : List Symbol) → read_on a next ≡ Stuck rest → (a ≡ Stuck rest) ⊎ ((x : A) × (s : List Symbol) × (a ≡ Found x s) × (next x s ≡ Stuck rest))
after_stuck (Found x s) next rest e = inr (x, s, refl, e)
after_stuck (Stuck s) next rest e = inl (ap (λ t. Stuck t) (stuck_is s rest e))
after_stuck Unread next rest e = absurd (cc)

pub room_stuck : {A : Type 0} (room : ℕ) (here : List Symbol) (a : Read A) (rest : List Symbol) → with_room room here a ≡ Stuck rest → (here ≡ rest) ⊎ ((1 < room) × (a ≡ Stuck rest))
room_stuck room here a rest e =
    ⊎_elim
    (λ (lt : 1 < room). inr (lt, sym (above room 1 (Stuck here) a lt) ∙ e))
    (λ (le : room ≤ 1). inl (stuck_is here rest (sym (within room 1 (Stuck here) a le) ∙ e)))
    (cases_lt 1 room)

pub found_not_stuck : {A : Type 0} {P : Type 0} (x : A) (s rest : List Symbol) → Found x s ≡ Stuck rest → P
found_not_stuck x s rest e = absurd (cc)
