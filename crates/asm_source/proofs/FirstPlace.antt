-- The first of places that rise.
use Rattle.std.proofs.Common.{ℕ, ◌+◌, ◌<◌, ◌≤◌, Bool, true, false, ◌||◌, List, ◌++◌, ◌≡◌, refl, ap, sym, ◌∙◌, Option, Some, None, arith}
use Rattle.std.specs.Prelude.{not, if◌then◌else◌}
use Rattle.nml_tree.specs.Places.{earlier, least_of, when}

-- if there is a place, it is behind this one
abbrev pub IsBehind : ℕ → Option ℕ → Type 0
IsBehind n None = Unit {0}
IsBehind n (Some m) = n < m

pub behind_less : (n k : ℕ) (o : Option ℕ) → n ≤ k → IsBehind k o → IsBehind n o
behind_less n k None low h = tt
behind_less n k (Some m) low h = omega (arith, low, h)

pub both_behind : (n : ℕ) (a b : Option ℕ) → IsBehind n a → IsBehind n b → IsBehind n (earlier a b)
both_behind n None b h g = g
both_behind n (Some x) None h g = h
both_behind n (Some x) (Some y) h g = omega (arith, h, g)

-- a place stays the earlier of it and one behind it, in both orders
pub first_stays : (n : ℕ) (o : Option ℕ) → IsBehind n o → earlier (Some n) o ≡ Some n
first_stays n None h = refl
first_stays n (Some m) h = ap Some (omega (arith, h))

pub second_stays : (n : ℕ) (o : Option ℕ) → IsBehind n o → earlier o (Some n) ≡ Some n
second_stays n None h = refl
second_stays n (Some m) h = ap Some (omega (arith, h))

-- a place, or one that is behind it
pub first_or_behind : (b : Bool) (n : ℕ) (o : Option ℕ) → IsBehind (n + 1) o → IsBehind n (if b then Some (n + 1) else o)
first_or_behind true n o h = omega arith
first_or_behind false n o h = behind_less n (n + 1) o (omega arith) h

-- a place at which one of two things holds, before others of either
pub either_place : (a b : Bool) (n : ℕ) (more : List ℕ) (d u : Option ℕ) → least_of more ≡ earlier d u → IsBehind n d → IsBehind n u
    → least_of (when (a || not b) n ++ more) ≡ earlier (if a then Some n else d) (if b then u else Some n)
either_place true true n more d u is h g = ap (earlier (Some n)) is ∙ first_stays n (earlier d u) (both_behind n d u h g) ∙ sym (first_stays n u g)
either_place true false n more d u is h g = ap (earlier (Some n)) is ∙ first_stays n (earlier d u) (both_behind n d u h g) ∙ ap Some (omega arith)
either_place false true n more d u is h g = is
either_place false false n more d u is h g = ap (earlier (Some n)) is ∙ first_stays n (earlier d u) (both_behind n d u h g) ∙ sym (second_stays n d h)
