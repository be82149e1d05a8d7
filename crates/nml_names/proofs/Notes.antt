-- The least of places, in parts.
use Rattle.std.proofs.Common.{ℕ, Bool, List, [], ◌∷◌, ◌++◌, ◌≡◌, refl, ap, sym, ◌∙◌, Option, Some, None, arith}
use Rattle.nml_tree.specs.declared.names.Name.{Name}
use Rattle.nml_tree.specs.Table.{Text}
use Rattle.nml_tree.specs.Places.{earlier, least_of, unless}
use Rattle.std.specs.List.{flat_map}
use Rattle.nml_names.specs.Note.{noted}
use Rattle.nml_names.specs.Found.{met}

pub noted_append : (found : Option ℕ) (xs ys : List ℕ) → noted found (xs ++ ys) ≡ noted (noted found xs) ys
noted_append found [] ys = refl
noted_append found (x ∷ xs) ys = noted_append (earlier found (Some x)) xs ys

pub met_append : (known : Text → Bool) (found : Option ℕ) (xs ys : List Name) → met known found (xs ++ ys) ≡ met known (met known found xs) ys
met_append known found [] ys = refl
met_append known found (n ∷ xs) ys = met_append known (noted found (unless (known n.text) n.at)) xs ys

earlier_assoc : (a b c : Option ℕ) → earlier (earlier a b) c ≡ earlier a (earlier b c)
earlier_assoc None b c = refl
earlier_assoc (Some a) None c = refl
earlier_assoc (Some a) (Some b) None = refl
earlier_assoc (Some a) (Some b) (Some c) = ap Some (omega arith)

earlier_swap : (a b c : Option ℕ) → earlier (earlier a b) c ≡ earlier (earlier a c) b
earlier_swap None None None = refl
earlier_swap None None (Some c) = refl
earlier_swap None (Some b) None = refl
earlier_swap None (Some b) (Some c) = ap Some (omega arith)
earlier_swap (Some a) None None = refl
earlier_swap (Some a) None (Some c) = refl
earlier_swap (Some a) (Some b) None = refl
earlier_swap (Some a) (Some b) (Some c) = ap Some (omega arith)

earlier_none : (a : Option ℕ) → earlier a None ≡ a
earlier_none None = refl
earlier_none (Some a) = refl

-- the least of one and of places is the earlier of it and of their least
pub noted_is : (found : Option ℕ) (xs : List ℕ) → noted found xs ≡ earlier found (least_of xs)
noted_is found [] = sym (earlier_none found)
noted_is found (x ∷ xs) = noted_is (earlier found (Some x)) xs ∙ earlier_assoc found (Some x) (least_of xs)

-- places may be looked at in any order
pub noted_swap : (found : Option ℕ) (xs ys : List ℕ) → noted (noted found xs) ys ≡ noted (noted found ys) xs
noted_swap found xs ys = rw (noted_is (noted found xs) ys, noted_is found xs, noted_is (noted found ys) xs, noted_is found ys) (earlier_swap found (least_of xs) (least_of ys))

-- names that are met are their places
pub met_is : (known : Text → Bool) (found : Option ℕ) (ns : List Name) → met known found ns ≡ noted found (flat_map (λ n. unless (known n.text) n.at) ns)
met_is known found [] = refl
met_is known found (n ∷ ns) = met_is known (noted found (unless (known n.text) n.at)) ns ∙ sym (noted_append found (unless (known n.text) n.at) (flat_map (λ n. unless (known n.text) n.at) ns))
