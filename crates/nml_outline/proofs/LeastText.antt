-- Two shapes that have a list of tokens in common have one with the least number in each field.
use Rattle.std.proofs.Common.{ℕ, zero, suc, ◌-◌, ◌^◌, ◌≤◌, ◌≡◌, refl, sym, ◌∙◌, ap, subst, ℤ, pos, negsuc, List, [], ◌∷◌, map, Some, arith, ◌⊎◌, inl, inr}
use Rattle.std.specs.Prelude.{◌≤ℤ◌, neg_ℤ, slice_get}
use Rattle.std.proofs.lemmas.Int.{ints}
use Rattle.std.proofs.lemmas.Nat.{pow_pos}
use Rattle.nk_base.specs.Number.{InRange}
use Rattle.nk_base.specs.declared.number.Ty.{Ty}
use Rattle.nk_base.specs.declared.number.Ty.TheVariants as tys
use Rattle.nml_tree.specs.LineToken.{Number}
use Rattle.nml_tree.specs.Outline.{OutlineToken, Written, FieldAt, with_numbers, AreInRange}
use Rattle.nml_tree.specs.Value.{number_at}
use Rattle.nml_shape.specs.declared.shape.Shape.{Shape}
use Rattle.nml_shape.specs.Shown.{token_of, types_of}
use Rattle.nml_shape.specs.Common.{AreSame, AreLeastSame, IsSingle}
use Rattle.nml_outline.proofs.Choice.{NotIn, Single, token_with, Least, CanAgree, AllCanAgree, SameTokens, choose}

-- the range of the field of this number; what is no field is 0
abbrev RangeAt : List Ty → ℕ → ℤ → Type 0
RangeAt [] n z = z ≡ pos 0
RangeAt (t ∷ ts) zero z = InRange t z
RangeAt (t ∷ ts) (suc n) z = RangeAt ts n z

-- the least number of a type
abbrev lowest : Ty → ℤ
lowest tys.Bool = pos 0
lowest (tys.Card n) = pos 0
lowest (tys.Int n) = neg_ℤ (pos (2 ^ (n - 1)))

-- and of the field of this number
abbrev lowest_at : List Ty → ℕ → ℤ
lowest_at [] n = pos 0
lowest_at (t ∷ ts) zero = lowest t
lowest_at (t ∷ ts) (suc n) = lowest_at ts n

lowest_in : (t : Ty) → InRange t (lowest t)
lowest_in tys.Bool = (omega (arith, ints), omega (arith, ints))
lowest_in (tys.Card n) = let p = pow_pos n in (omega (arith, ints), omega (arith, ints, p))
lowest_in (tys.Int n) = let p = pow_pos (n - 1) in (omega (arith, ints), omega (arith, ints, p))

lowest_least : (t : Ty) (z : ℤ) → InRange t z → lowest t ≤ℤ z
lowest_least tys.Bool z h = h.0
lowest_least (tys.Card n) z h = h.0
lowest_least (tys.Int n) z h = h.0

between : (t : Ty) (y z : ℤ) → lowest t ≤ℤ y → y ≤ℤ z → InRange t z → InRange t y
between tys.Bool y z l m h = (l, omega (arith, ints, m, h.1))
between (tys.Card n) y z l m h = (l, omega (arith, ints, m, h.1))
between (tys.Int n) y z l m h = (l, omega (arith, ints, m, h.1))

at_in : (ts : List Ty) (n : ℕ) → RangeAt ts n (lowest_at ts n)
at_in [] n = refl
at_in (t ∷ ts) zero = lowest_in t
at_in (t ∷ ts) (suc n) = at_in ts n

at_least : (ts : List Ty) (n : ℕ) (z : ℤ) → RangeAt ts n z → lowest_at ts n ≤ℤ z
at_least [] n z h = subst (λ x. pos 0 ≤ℤ x) (sym h) (omega (arith, ints))
at_least (t ∷ ts) zero z h = lowest_least t z h
at_least (t ∷ ts) (suc n) z h = at_least ts n z h

at_between : (ts : List Ty) (n : ℕ) (y z : ℤ) → lowest_at ts n ≤ℤ y → y ≤ℤ z → RangeAt ts n z → RangeAt ts n y
at_between [] n y z l m h = let k : y ≤ℤ pos 0 = subst (λ x. y ≤ℤ x) h m in omega (arith, ints, l, k)
at_between (t ∷ ts) zero y z l m h = between t y z l m h
at_between (t ∷ ts) (suc n) y z l m h = at_between ts n y z l m h

or_more : (a b : ℕ) → (a ≤ b) ⊎ (b ≤ a)
or_more zero b = inl (omega arith)
or_more (suc a) zero = inr (omega arith)
or_more (suc a) (suc b) = elim (or_more a b) [ inl h ↦ inl (omega (arith, h)) | inr h ↦ inr (omega (arith, h)) ]

either : (a b : ℤ) → (a ≤ℤ b) ⊎ (b ≤ℤ a)
either (pos a) (pos b) = elim (or_more a b) [ inl h ↦ inl (omega (arith, ints, h)) | inr h ↦ inr (omega (arith, ints, h)) ]
either (pos a) (negsuc b) = inr (omega (arith, ints))
either (negsuc a) (pos b) = inl (omega (arith, ints))
either (negsuc a) (negsuc b) = elim (or_more a b) [ inl h ↦ inr (omega (arith, ints, h)) | inr h ↦ inl (omega (arith, ints, h)) ]

-- two fields that may have one number have a least one
least_both : (ts us : List Ty) (n m : ℕ) (z : ℤ) → RangeAt ts n z → RangeAt us m z → (y : ℤ) × Least (RangeAt ts n) (RangeAt us m) y
least_both ts us n m z h k =
    let a = lowest_at ts n in
    let b = lowest_at us m in
    elim (either a b) [
      | inl l ↦ (b, record { left = at_between ts n b z l (at_least us m z k) h; right = at_in us m; least = λ y p q. at_least us m y q })
      | inr l ↦ (a, record { left = at_in ts n; right = at_between us m a z l (at_least ts n z h) k; least = λ y p q. at_least ts n y p })
    ]

can_one : (ts us : List Ty) (f g : ℕ → ℤ) (x y : OutlineToken) → ((n : ℕ) → RangeAt ts n (f n)) → ((n : ℕ) → RangeAt us n (g n)) → token_with f x ≡ token_with g y → CanAgree (RangeAt ts) (RangeAt us) x y
can_one ts us f g (Written a) (Written b) hf hg e = e
can_one ts us f g (Written a) (FieldAt m) hf hg e = (g m, e, hg m)
can_one ts us f g (FieldAt n) (Written b) hf hg e = (f n, sym e, hf n)
can_one ts us f g (FieldAt n) (FieldAt m) hf hg e = let s : f n ≡ g m = cc in least_both ts us n m (f n) (hf n) (subst (RangeAt us m) (sym s) (hg m))

can_all : (ts us : List Ty) (f g : ℕ → ℤ) (xs ys : List OutlineToken) → ((n : ℕ) → RangeAt ts n (f n)) → ((n : ℕ) → RangeAt us n (g n)) → SameTokens f g xs ys → AllCanAgree (RangeAt ts) (RangeAt us) xs ys
can_all ts us f g [] [] hf hg e = tt
can_all ts us f g [] (y ∷ ys) hf hg e = absurd e
can_all ts us f g (x ∷ xs) [] hf hg e = absurd e
can_all ts us f g (x ∷ xs) (y ∷ ys) hf hg e = (can_one ts us f g x y hf hg e.0, can_all ts us f g xs ys hf hg e.1)

-- the tokens with a list of numbers are those with its numbers
with_same : (zs : List ℤ) (f : ℕ → ℤ) (x : OutlineToken) → ((n : ℕ) → number_at zs n ≡ f n) → with_numbers zs x ≡ token_with f x
with_same zs f (Written t) h = refl
with_same zs f (FieldAt n) h = ap Number (h n)

same_from : (zs us : List ℤ) (f g : ℕ → ℤ) (xs ys : List OutlineToken) → ((n : ℕ) → number_at zs n ≡ f n) → ((n : ℕ) → number_at us n ≡ g n) → map (with_numbers zs) xs ≡ map (with_numbers us) ys → SameTokens f g xs ys
same_from zs us f g [] [] hf hg e = tt
same_from zs us f g [] (y ∷ ys) hf hg e = absurd cc
same_from zs us f g (x ∷ xs) [] hf hg e = absurd cc
same_from zs us f g (x ∷ xs) (y ∷ ys) hf hg e =
    let first : with_numbers zs x ≡ with_numbers us y = cc in
    let rest : map (with_numbers zs) xs ≡ map (with_numbers us) ys = cc in
    (sym (with_same zs f x hf) ∙ (first ∙ with_same us g y hg), same_from zs us f g xs ys hf hg rest)

from_same : (zs us : List ℤ) (f g : ℕ → ℤ) (xs ys : List OutlineToken) → ((n : ℕ) → number_at zs n ≡ f n) → ((n : ℕ) → number_at us n ≡ g n) → SameTokens f g xs ys → map (with_numbers zs) xs ≡ map (with_numbers us) ys
from_same zs us f g [] [] hf hg e = refl
from_same zs us f g [] (y ∷ ys) hf hg e = absurd e
from_same zs us f g (x ∷ xs) [] hf hg e = absurd e
from_same zs us f g (x ∷ xs) (y ∷ ys) hf hg e =
    ap (λ t. t ∷ map (with_numbers zs) xs) (with_same zs f x hf ∙ (e.0 ∙ sym (with_same us g y hg))) ∙ ap (λ ts. with_numbers us y ∷ ts) (from_same zs us f g xs ys hf hg e.1)

range_of : (ts : List Ty) (zs : List ℤ) → AreInRange ts zs → (n : ℕ) → RangeAt ts n (number_at zs n)
range_of [] zs h n = ap (λ ys. number_at ys n) h
range_of (t ∷ ts) zs h zero = subst (λ ys. InRange t (number_at ys 0)) (sym h.2) h.3
range_of (t ∷ ts) zs h (suc n) = subst (λ ys. RangeAt ts n (number_at ys (suc n))) (sym h.2) (range_of ts h.1 h.4 n)

-- a list of numbers in range
abbrev listed : List Ty → (ℕ → ℤ) → List ℤ
listed [] f = []
listed (t ∷ ts) f = f 0 ∷ listed ts (λ n. f (suc n))

listed_in : (ts : List Ty) (f : ℕ → ℤ) → ((n : ℕ) → RangeAt ts n (f n)) → AreInRange ts (listed ts f)
listed_in [] f h = refl
listed_in (t ∷ ts) f h = (f 0, listed ts (λ n. f (suc n)), refl, h 0, listed_in ts (λ n. f (suc n)) (λ n. h (suc n)))

listed_at : (ts : List Ty) (f : ℕ → ℤ) → ((n : ℕ) → RangeAt ts n (f n)) → (n : ℕ) → number_at (listed ts f) n ≡ f n
listed_at [] f h n = sym (h n)
listed_at (t ∷ ts) f h zero = refl
listed_at (t ∷ ts) f h (suc n) = listed_at ts (λ k. f (suc k)) (λ k. h (suc k)) n

not_in : (n : ℕ) (ts : List OutlineToken) → ((i : ℕ) → slice_get ts i ≡ Some (FieldAt n) → ⊥) → NotIn n ts
not_in n [] h = tt
not_in n (Written t ∷ ts) h = not_in n ts (λ i e. h (suc i) e)
not_in n (FieldAt m ∷ ts) h = (λ e. h 0 (ap (λ k. Some (FieldAt k)) (sym e)), not_in n ts (λ i e. h (suc i) e))

single_list : (ts : List OutlineToken) → ((n i j : ℕ) → slice_get ts i ≡ Some (FieldAt n) → slice_get ts j ≡ Some (FieldAt n) → i ≡ j) → Single ts
single_list [] h = tt
single_list (Written t ∷ ts) h = single_list ts (λ n i j e f. let s = h n (suc i) (suc j) e f in omega (arith, s))
single_list (FieldAt m ∷ ts) h = (
  not_in m ts (λ i e. let s = h m 0 (suc i) refl e in omega (arith, s)),
  single_list ts (λ n i j e f. let s = h n (suc i) (suc j) e f in omega (arith, s)),
)

-- numbers in range with which two lists of tokens are one, the least in each field
pub record LeastSame (ts us : List Ty) (xs ws : List OutlineToken) : Type 0 where
  pub first : List ℤ
  pub second : List ℤ
  pub first_in : AreInRange ts first
  pub second_in : AreInRange us second
  pub same : map (with_numbers first) xs ≡ map (with_numbers second) ws
  pub least : (ps qs : List ℤ) → AreInRange ts ps → AreInRange us qs → map (with_numbers ps) xs ≡ map (with_numbers qs) ws
      → ((n : ℕ) → number_at first n ≤ℤ number_at ps n) × ((n : ℕ) → number_at second n ≤ℤ number_at qs n)

-- each field stands at one place of the tokens
abbrev pub StandOnce : List OutlineToken → Type 0
StandOnce ts = (n i j : ℕ) → slice_get ts i ≡ Some (FieldAt n) → slice_get ts j ≡ Some (FieldAt n) → i ≡ j

-- two lists of tokens that some numbers make one, with the least numbers
pub least_lists : (ts us : List Ty) (xs ws : List OutlineToken) (zs ys : List ℤ) → StandOnce xs → StandOnce ws → AreInRange ts zs → AreInRange us ys
    → map (with_numbers zs) xs ≡ map (with_numbers ys) ws → LeastSame ts us xs ws
least_lists ts us xs ws zs ys once_a once_b in_a in_b e =
    let same = same_from zs ys (number_at zs) (number_at ys) xs ws (λ n. refl) (λ n. refl) e in
    let can = can_all ts us (number_at zs) (number_at ys) xs ws (range_of ts zs in_a) (range_of us ys in_b) same in
    let c = choose (RangeAt ts) (RangeAt us) (lowest_at ts) (lowest_at us) (at_in ts) (at_in us) (at_least ts) (at_least us) xs ws (single_list xs once_a) (single_list ws once_b) can in
    let first = listed_at ts c.first c.first_in in
    let second = listed_at us c.second c.second_in in
    record {
      first = listed ts c.first;
      second = listed us c.second;
      first_in = listed_in ts c.first c.first_in;
      second_in = listed_in us c.second c.second_in;
      same = from_same (listed ts c.first) (listed us c.second) c.first c.second xs ws first second c.same;
      least = λ ps qs p q k.
          let l = c.least (number_at ps) (number_at qs) (range_of ts ps p) (range_of us qs q) (same_from ps qs (number_at ps) (number_at qs) xs ws (λ n. refl) (λ n. refl) k) in
          (λ n. subst (λ z. z ≤ℤ number_at ps n) (sym (first n)) (l.0 n), λ n. subst (λ z. z ≤ℤ number_at qs n) (sym (second n)) (l.1 n));
    }

-- the least numbers with which both have one list of tokens
pub least_pair : (a b : Shape) (zs ys : List ℤ) → IsSingle a → IsSingle b → AreSame a b zs ys → (us : List ℤ) × (vs : List ℤ) × AreLeastSame a b us vs
least_pair a b zs ys single_a single_b h =
    let l = least_lists (types_of a.fields.items) (types_of b.fields.items) (map token_of a.template.items) (map token_of b.template.items) zs ys single_a.once single_b.once h.first h.second h.same in
    (l.first, l.second, record { are = record { first = l.first_in; second = l.second_in; same = l.same }; least = λ ps qs k. l.least ps qs k.first k.second k.same })
