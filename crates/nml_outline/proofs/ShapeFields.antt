-- Numbers for the fields of a shape: in range they are those of an instruction.
use Rattle.std.proofs.Common.{ℕ, zero, suc, ◌+◌, ◌≡◌, refl, sym, ◌∙◌, ap, subst, ℤ, List, [], ◌∷◌, ◌++◌, length, arith, inl, inr}
use Rattle.nk_base.specs.Number.{InRange}
use Rattle.nk_base.specs.declared.number.Ty.{Ty}
use Rattle.nml_tree.specs.Table.{Text, Table}
use Rattle.nml_tree.specs.Derivation.{Derivation, Arguments, Pick, Compose, NoMore, Part, Field, IsDerivation, picks, fields, fields_of}
use Rattle.nml_tree.specs.Outline.{types, AreInRange}
use Rattle.nml_tree.specs.Value.{number_at}
use Rattle.nml_outline.proofs.ExactBits.{with_fields, with_args}
use Rattle.nml_outline.proofs.SameShape.{Agrees, fields_long}
use Rattle.nml_outline.proofs.Stands.{TypeAt, type_within, types_long}
use Rattle.nml_outline.proofs.ShapeWords.{refilled, picks_with}
use Rattle.nml_outline.proofs.ShapesMeet.{own_ranged}

pub in_length : (ts : List Ty) (zs : List ℤ) → AreInRange ts zs → length zs ≡ length ts
in_length [] zs h = ap length h
in_length (t ∷ ts) zs h = ap length h.2 ∙ ap suc (in_length ts h.1 h.4)

pub range_at : (ts : List Ty) (zs : List ℤ) (m k : ℕ) (ty : Ty) → AreInRange ts zs → TypeAt ts m (m + k) ty → InRange ty (number_at zs k)
range_at [] zs m k ty h at = absurd at
range_at (t ∷ ts) zs m zero ty h (inl at) = subst (λ u. InRange u (number_at zs 0)) at.1 (subst (λ ys. InRange t (number_at ys 0)) (sym h.2) h.3)
range_at (t ∷ ts) zs m (suc k) ty h (inl at) = let e = at.0 in absurd (omega (arith, e))
range_at (t ∷ ts) zs m zero ty h (inr at) = let low = type_within ts (m + 1) (m + 0) ty at in absurd (omega (arith, low.0))
range_at (t ∷ ts) zs m (suc k) ty h (inr at) =
    let e : m + suc k ≡ m + 1 + k = omega arith in
    subst (λ ys. InRange ty (number_at ys (suc k))) (sym h.2) (range_at ts h.1 (m + 1) k ty h.4 (subst (λ n. TypeAt ts (m + 1) n ty) e at))

pub ranges_from : (ts : List Ty) (zs : List ℤ) (m : ℕ) → length zs ≡ length ts → ((n : ℕ) (ty : Ty) → TypeAt ts m (m + n) ty → InRange ty (number_at zs n)) → AreInRange ts zs
ranges_from [] [] m long h = refl
ranges_from [] (z ∷ zs) m long h = absurd (omega (arith, long))
ranges_from (t ∷ ts) [] m long h = absurd (omega (arith, long))
ranges_from (t ∷ ts) (z ∷ zs) m long h = (
  z,
  zs,
  refl,
  h 0 t (inl (omega arith, refl)),
  ranges_from ts zs (m + 1) (omega (arith, long)) (λ n ty at. let e : m + 1 + n ≡ m + suc n = omega arith in h (suc n) ty (inr (subst (λ k. TypeAt ts (m + 1) k ty) e at))),
)

-- the numbers of a derivation are in range
pub own_range : (x : Derivation) (t : Table) (name : Text) → IsDerivation t name x → AreInRange (types x) (fields x)
own_range x t name h =
    ranges_from (types x) (fields x) 0 (sym (types_long x)) (λ n ty at. let e : 0 + n ≡ n = omega arith in own_ranged x t name n ty h (subst (λ k. TypeAt (types x) 0 k ty) e at))

agrees_both : (xs ys : List ℤ) (f : ℕ → ℤ) (m : ℕ) → Agrees f m xs → Agrees f (m + length xs) ys → Agrees f m (xs ++ ys)
agrees_both [] ys f m h k = let e : m + 0 ≡ m = omega arith in subst (λ n. Agrees f n ys) e k
agrees_both (x ∷ xs) ys f m h k = let e : m + suc (length xs) ≡ m + 1 + length xs = omega arith in (h.0, agrees_both xs ys f (m + 1) h.1 (subst (λ n. Agrees f n ys) e k))

mutual
  agrees_with : (x : Derivation) (f : ℕ → ℤ) (m : ℕ) → Agrees f m (fields (with_fields f m x))
  agrees_with (Pick k x) f m = agrees_with x f m
  agrees_with (Compose rule args) f m = agrees_args args f m

  agrees_args : (a : Arguments) (f : ℕ → ℤ) (m : ℕ) → Agrees f m (fields_of (with_args f m a))
  agrees_args NoMore f m = tt
  agrees_args (Part name x args) f m =
      agrees_both (fields (with_fields f m x)) (fields_of (with_args f (m + length (fields x)) args)) f m (agrees_with x f m)
      (subst (λ k. Agrees f (m + k) (fields_of (with_args f (m + length (fields x)) args))) (sym (fields_long x f m)) (agrees_args args f (m + length (fields x))))
  agrees_args (Field name ty z args) f m = (refl, agrees_args args f (m + 1))

same_list : (ys zs : List ℤ) (f : ℕ → ℤ) (m : ℕ) → Agrees f m ys → ((k : ℕ) → f (m + k) ≡ number_at zs k) → length ys ≡ length zs → ys ≡ zs
same_list [] [] f m h k long = refl
same_list [] (z ∷ zs) f m h k long = absurd (omega (arith, long))
same_list (y ∷ ys) [] f m h k long = absurd (omega (arith, long))
same_list (y ∷ ys) (z ∷ zs) f m h k long =
    let e : m + 0 ≡ m = omega arith in
    let first : y ≡ z = sym h.0 ∙ subst (λ n. f n ≡ z) e (k 0) in
    ap (λ v. v ∷ ys) first ∙ ap (λ vs. z ∷ vs) (same_list ys zs f (m + 1) h.1 (λ n. let s : m + suc n ≡ m + 1 + n = omega arith in subst (λ j. f j ≡ number_at zs n) s (k (suc n))) (omega (arith, long)))

-- numbers in range are those of a derivation with the same picks
pub with_list : (x : Derivation) (t : Table) (name : Text) (zs : List ℤ) → IsDerivation t name x → AreInRange (types x) zs → (y : Derivation) × IsDerivation t name y × (picks y ≡ picks x) × (fields y ≡ zs)
with_list x t name zs h r =
    let f = number_at zs in (
      with_fields f 0 x,
      refilled x t name f 0 h (λ n ty at. let e : n ≡ 0 + n = omega arith in range_at (types x) zs 0 n ty r (subst (λ k. TypeAt (types x) 0 k ty) e at)),
      picks_with x f 0,
      same_list (fields (with_fields f 0 x)) zs f 0 (agrees_with x f 0) (λ k. let e : 0 + k ≡ k = omega arith in ap (number_at zs) e) (fields_long x f 0 ∙ (sym (types_long x) ∙ sym (in_length (types x) zs r))),
    )
