-- More calls below one another change nothing that was read.
use Rattle.std.proofs.Common.{◌≡◌, ℕ, List, refl, ap, sym, ◌∙◌, subst, Bool, true, false}
use Rattle.std.specs.Prelude.{if◌then◌else◌, nat_le}
use Rattle.readings.specs.Symbol.{Symbol}
use Rattle.readings.specs.Reading.{Read, Found, Stuck, Unread, read_on, with_room}

-- the second reading is the first, unless the first is too short
pub data Keeps {A : Type 0} (a b : Read A) : Type 0 where
  Same : b ≡ a → Keeps a b
  Short : a ≡ Unread → Keeps a b

pub kept_found : {A : Type 0} (a b : Read A) (x : A) (rest : List Symbol) → Keeps a b → a ≡ Found x rest → b ≡ Found x rest
kept_found a b x rest (Same s) e = s ∙ e
kept_found a b x rest (Short s) e = absurd (cc)

pub kept_stuck : {A : Type 0} (a b : Read A) (rest : List Symbol) → Keeps a b → a ≡ Stuck rest → b ≡ Stuck rest
kept_stuck a b rest (Same s) e = s ∙ e
kept_stuck a b rest (Short s) e = absurd (cc)

pub same_after : {A B : Type 0} (a b : Read A) (f g : A → List Symbol → Read B) → b ≡ a → ((x : A) (rest : List Symbol) → Keeps (f x rest) (g x rest)) → Keeps (read_on a f) (read_on b g)
same_after (Found x rest) b f g s k = subst (λ c. Keeps (f x rest) (read_on c g)) (sym s) (k x rest)
same_after (Stuck rest) b f g s k = Same (ap (λ c. read_on c g) s)
same_after Unread b f g s k = Short refl

pub after_keeps : {A B : Type 0} (a b : Read A) (f g : A → List Symbol → Read B) → Keeps a b → ((x : A) (rest : List Symbol) → Keeps (f x rest) (g x rest)) → Keeps (read_on a f) (read_on b g)
after_keeps a b f g (Same s) k = same_after a b f g s k
after_keeps a b f g (Short s) k = Short (ap (λ c. read_on c f) s)

pub if_keeps : {A : Type 0} (t : Bool) (here : List Symbol) (a b : Read A) → Keeps a b → Keeps (if t then Stuck here else a) (if t then Stuck here else b)
if_keeps true here a b h = Same refl
if_keeps false here a b h = h

pub room_keeps : {A : Type 0} (room : ℕ) (here : List Symbol) (a b : Read A) → Keeps a b → Keeps (with_room room here a) (with_room room here b)
room_keeps room here a b h = if_keeps (nat_le room 1) here a b h
