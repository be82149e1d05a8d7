-- What was met first is a fault of the program, and where nothing was met there is none.
use Rattle.std.proofs.Common.{ℕ, ◌≡◌, ◌≤◌, refl, sym, ◌∙◌, ap, subst, arith, min, List, [], ◌∷◌, Option, Some, None, inl, inr, flat_map}
use Rattle.std.specs.Prelude.{◌⊎◌}
use Rattle.c_tree.specs.declared.fault.CFault.{CFault}
use Rattle.c_tree.specs.declared.fault.CFault.TheVariants as fault
use Rattle.c_tree.specs.Items.{Item}
use Rattle.c_tree.specs.Faults.{Fault, BadName, BadKind, BadNumber, BadShift, faults, name_place, kind_place, number_place, shift_place}
use Rattle.c_tree.specs.Recursion.{Among}
use Rattle.c_tree.specs.Accepted.{IsLeast, IsFaultOf}
use Rattle.c_check.specs.declared.note.Found.{Found}
use Rattle.c_check.specs.Note.{noted, noted_places, sooner_of, with_fault, nothing}
use Rattle.c_check.specs.First.{IsFirst}

-- each kind's places are noted by themselves
pub names_noted : (w : Found) (fs : List Fault) → (noted w fs).names ≡ noted_places w.names (flat_map name_place fs)
names_noted w [] = refl
names_noted w (BadName at ∷ fs) = names_noted (with_fault w (BadName at)) fs
names_noted w (BadKind at ∷ fs) = names_noted (with_fault w (BadKind at)) fs
names_noted w (BadNumber at ∷ fs) = names_noted (with_fault w (BadNumber at)) fs
names_noted w (BadShift at ∷ fs) = names_noted (with_fault w (BadShift at)) fs

pub kinds_noted : (w : Found) (fs : List Fault) → (noted w fs).kinds ≡ noted_places w.kinds (flat_map kind_place fs)
kinds_noted w [] = refl
kinds_noted w (BadName at ∷ fs) = kinds_noted (with_fault w (BadName at)) fs
kinds_noted w (BadKind at ∷ fs) = kinds_noted (with_fault w (BadKind at)) fs
kinds_noted w (BadNumber at ∷ fs) = kinds_noted (with_fault w (BadNumber at)) fs
kinds_noted w (BadShift at ∷ fs) = kinds_noted (with_fault w (BadShift at)) fs

pub numbers_noted : (w : Found) (fs : List Fault) → (noted w fs).numbers ≡ noted_places w.numbers (flat_map number_place fs)
numbers_noted w [] = refl
numbers_noted w (BadName at ∷ fs) = numbers_noted (with_fault w (BadName at)) fs
numbers_noted w (BadKind at ∷ fs) = numbers_noted (with_fault w (BadKind at)) fs
numbers_noted w (BadNumber at ∷ fs) = numbers_noted (with_fault w (BadNumber at)) fs
numbers_noted w (BadShift at ∷ fs) = numbers_noted (with_fault w (BadShift at)) fs

pub shifts_noted : (w : Found) (fs : List Fault) → (noted w fs).shifts ≡ noted_places w.shifts (flat_map shift_place fs)
shifts_noted w [] = refl
shifts_noted w (BadName at ∷ fs) = shifts_noted (with_fault w (BadName at)) fs
shifts_noted w (BadKind at ∷ fs) = shifts_noted (with_fault w (BadKind at)) fs
shifts_noted w (BadNumber at ∷ fs) = shifts_noted (with_fault w (BadNumber at)) fs
shifts_noted w (BadShift at ∷ fs) = shifts_noted (with_fault w (BadShift at)) fs

-- ---- the least

-- there is one, and it is at most this
abbrev Below : Option ℕ → ℕ → Type 0
Below None b = ⊥
Below (Some a) b = a ≤ b

sooner_below : (found : Option ℕ) (x b : ℕ) → Below found b → Below (sooner_of found x) b
sooner_below None x b h = absurd h
sooner_below (Some a) x b h = omega (arith, h)

sooner_here : (found : Option ℕ) (x b : ℕ) → x ≡ b → Below (sooner_of found x) b
sooner_here None x b h = omega (arith, h)
sooner_here (Some a) x b h = omega (arith, h)

found_below : (xs : List ℕ) (found : Option ℕ) (b : ℕ) → Below found b → Below (noted_places found xs) b
found_below [] found b h = h
found_below (x ∷ xs) found b h = found_below xs (sooner_of found x) b (sooner_below found x b h)

each_below : (xs : List ℕ) (found : Option ℕ) (b : ℕ) → Among xs b → Below (noted_places found xs) b
each_below [] found b h = absurd h
each_below (x ∷ xs) found b (inl h) = found_below xs (sooner_of found x) b (sooner_here found x b h)
each_below (x ∷ xs) found b (inr h) = each_below xs (sooner_of found x) b h

min_either : (a x r : ℕ) → min a x ≡ r → (a ≡ r) ⊎ (x ≡ r)
min_either a x r is = grind arith

sooner_is : (found : Option ℕ) (x a : ℕ) → sooner_of found x ≡ Some a → (found ≡ Some a) ⊎ (x ≡ a)
sooner_is None x a is = inr cc
sooner_is (Some b) x a is = elim (min_either b x a cc) [ inl h ↦ inl cc | inr h ↦ inr h ]

one_of : (xs : List ℕ) (found : Option ℕ) (a : ℕ) → noted_places found xs ≡ Some a → (found ≡ Some a) ⊎ Among xs a
one_of [] found a is = inl is
one_of (x ∷ xs) found a is = elim (one_of xs (sooner_of found x) a is) [ inl h ↦ elim (sooner_is found x a h) [ inl f ↦ inl f | inr f ↦ inr (inl f) ] | inr h ↦ inr (inr h) ]

pub least_of : (xs : List ℕ) (a : ℕ) → noted_places None xs ≡ Some a → IsLeast xs a
least_of xs a is = (elim (one_of xs None a is) [ inl h ↦ absurd cc | inr h ↦ h ], λ b h. subst (λ r. Below r b) is (each_below xs None b h))

pub none_of : (xs : List ℕ) → noted_places None xs ≡ None → xs ≡ []
none_of [] is = refl
none_of (x ∷ xs) is = absurd (subst (λ r. Below r x) is (each_below (x ∷ xs) None x (inl refl)))

-- ---- faults

pub none_left : (fs : List Fault) → flat_map name_place fs ≡ [] → flat_map kind_place fs ≡ [] → flat_map number_place fs ≡ [] → flat_map shift_place fs ≡ [] → fs ≡ []
none_left [] a b c d = refl
none_left (BadName at ∷ fs) a b c d = absurd cc
none_left (BadKind at ∷ fs) a b c d = absurd cc
none_left (BadNumber at ∷ fs) a b c d = absurd cc
none_left (BadShift at ∷ fs) a b c d = absurd cc

pub no_faults : (w : Found) (fs : List Fault) → w ≡ noted nothing fs → w ≡ nothing → fs ≡ []
no_faults w fs is empty =
    none_left fs
    (none_of _ (sym (names_noted nothing fs) ∙ ap (λ v. v.names) (sym is ∙ empty)))
    (none_of _ (sym (kinds_noted nothing fs) ∙ ap (λ v. v.kinds) (sym is ∙ empty)))
    (none_of _ (sym (numbers_noted nothing fs) ∙ ap (λ v. v.numbers) (sym is ∙ empty)))
    (none_of _ (sym (shifts_noted nothing fs) ∙ ap (λ v. v.shifts) (sym is ∙ empty)))

pub first_is : (gs : List Item) (n : ℕ) (w : Found) (f : CFault) → w ≡ noted nothing (faults gs n) → IsFirst w f → IsFaultOf gs n f
first_is gs n w (fault.Lex at) is h = h
first_is gs n w (fault.Syntax at) is h = h
first_is gs n w (fault.Outside at) is h = h
first_is gs n w (fault.Name at) is h = least_of _ at (sym (names_noted nothing (faults gs n)) ∙ ap (λ v. v.names) (sym is) ∙ h)
first_is gs n w (fault.Kind at) is h = (
  none_of _ (sym (names_noted nothing (faults gs n)) ∙ ap (λ v. v.names) (sym is) ∙ h.0),
  least_of _ at (sym (kinds_noted nothing (faults gs n)) ∙ ap (λ v. v.kinds) (sym is) ∙ h.1),
)
first_is gs n w (fault.Literal at) is h = (
  none_of _ (sym (names_noted nothing (faults gs n)) ∙ ap (λ v. v.names) (sym is) ∙ h.0),
  none_of _ (sym (kinds_noted nothing (faults gs n)) ∙ ap (λ v. v.kinds) (sym is) ∙ h.1),
  least_of _ at (sym (numbers_noted nothing (faults gs n)) ∙ ap (λ v. v.numbers) (sym is) ∙ h.2),
)
first_is gs n w (fault.Shift at) is h = (
  none_of _ (sym (names_noted nothing (faults gs n)) ∙ ap (λ v. v.names) (sym is) ∙ h.0),
  none_of _ (sym (kinds_noted nothing (faults gs n)) ∙ ap (λ v. v.kinds) (sym is) ∙ h.1),
  none_of _ (sym (numbers_noted nothing (faults gs n)) ∙ ap (λ v. v.numbers) (sym is) ∙ h.2),
  least_of _ at (sym (shifts_noted nothing (faults gs n)) ∙ ap (λ v. v.shifts) (sym is) ∙ h.3),
)
first_is gs n w (fault.Recursion name) is h = absurd h
first_is gs n w fault.Main is h = absurd h
first_is gs n w fault.Memory is h = tt
