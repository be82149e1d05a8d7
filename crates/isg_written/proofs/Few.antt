-- An instruction of a typed description has at most 64 fields: each has a bit of its own in a word of at most 64.
use Rattle.std.proofs.Common.{ℕ, zero, suc, ◌+◌, ◌≡◌, ◌≤◌, ◌<◌, refl, sym, ◌∙◌, ap, subst, arith, Bool, true, false, List, [], ◌∷◌, ◌++◌, length, ◌⊎◌, inl, inr, cond}
use Rattle.std.specs.Prelude.{◌||◌, eqb, codes}
use Rattle.std.specs.List.{list_any}
use Rattle.std.proofs.lemmas.List.{length-map}
use Rattle.std.proofs.lemmas.Map.Steps.{le-length_from_below}
use Rattle.std.proofs.lemmas.Bool.Decides.{nat_tests}
use Rattle.nk_base.specs.Number.{IsTy, width_of}
use Rattle.nk_base.specs.declared.number.Ty.{Ty}
use Rattle.nk_base.specs.declared.number.Ty.TheVariants as tys
use Rattle.nml_tree.specs.declared.tree.Desc.{Desc}
use Rattle.nml_tree.specs.Derivation.{Derivation, fields}
use Rattle.nml_tree.specs.Image.{image}
use Rattle.nml_tree.specs.Outline.{types}
use Rattle.nml_tree.specs.Refused.{IsTyped}
use Rattle.nml_tree.specs.Table.{table}
use Rattle.nml_tree.specs.Valid.{IsRoot}
use Rattle.nml_tree.specs.Value.{number_at}
use Rattle.nml_outline.proofs.ExactBits.{ExactBit, Given, BitOf, exact, run_below, fill}
use Rattle.nml_outline.proofs.Stands.{Once, TypeAt, type_within, types_long}
use Rattle.nml_outline.proofs.Stood.{stands}
use Rattle.nml_outline.proofs.SameShape.{image_is}
use Rattle.nml_outline.proofs.ShapeWords.{type_get, HasTypes}
use Rattle.nml_outline.proofs.Premises.{linear_images, has_types}
use Rattle.attr_eval.proofs.Whole.{narrow_image}

-- the number of the field that a bit is of
abbrev field_of : ExactBit → ℕ
field_of (Given b) = 0
field_of (BitOf n ty k) = n

abbrev numbers_of : List ExactBit → List ℕ
numbers_of [] = []
numbers_of (x ∷ xs) = field_of x ∷ numbers_of xs

as_long : (xs : List ExactBit) → length (numbers_of xs) ≡ length xs
as_long [] = refl
as_long (x ∷ xs) = ap suc (as_long xs)

any_right : (n m : ℕ) (ms : List ℕ) → list_any (eqb n) ms ≡ true → list_any (eqb n) (m ∷ ms) ≡ true
any_right n m ms h = one (eqb n m)
  where
    one : (b : Bool) → (b || list_any (eqb n) ms) ≡ true
    one true = refl
    one false = h

itself : (n : ℕ) → eqb n n ≡ true
itself n = grind (arith, nat_tests)

any_here : (n : ℕ) (ms : List ℕ) → list_any (eqb n) (n ∷ ms) ≡ true
any_here n ms = rw (itself n) refl

among : (n : ℕ) (before run behind : List ExactBit) → list_any (eqb n) (numbers_of run) ≡ true → list_any (eqb n) (numbers_of (before ++ (run ++ behind))) ≡ true
among n [] run behind h = front run h
  where
    either : (b : Bool) (c d : Bool) → (c ≡ true → d ≡ true) → (b || c) ≡ true → (b || d) ≡ true
    either true c d f h = refl
    either false c d f h = f h

    front : (run : List ExactBit) → list_any (eqb n) (numbers_of run) ≡ true → list_any (eqb n) (numbers_of (run ++ behind)) ≡ true
    front [] h = absurd cc
    front (x ∷ xs) h = either (eqb n (field_of x)) _ _ (front xs) h
among n (x ∷ before) run behind h = any_right n (field_of x) _ (among n before run behind h)

in_run : (n : ℕ) (ty : Ty) (k : ℕ) → 1 ≤ k → list_any (eqb n) (numbers_of (run_below n ty k)) ≡ true
in_run n ty zero low = absurd (omega (arith, low))
in_run n ty (suc k) low = any_here n (numbers_of (run_below n ty k))

some_bits : (ty : Ty) → IsTy ty → 1 ≤ width_of ty
some_bits tys.Bool h = omega arith
some_bits (tys.Card n) h = omega (arith, h.0)
some_bits (tys.Int n) h = omega (arith, h.0)

stands_there : (x : Derivation) (n : ℕ) (ty : Ty) → HasTypes x → TypeAt (types x) 0 n ty → Once n ty (exact 0 x) → list_any (eqb n) (numbers_of (exact 0 x)) ≡ true
stands_there x n ty typed at o = subst (λ xs. list_any (eqb n) (numbers_of xs) ≡ true) (sym o.are) (among n o.before (run_below n ty (width_of ty)) o.behind (in_run n ty (width_of ty) (some_bits ty (typed n ty at))))

each_there : (d : Desc) → IsTyped d → (x : Derivation) → IsRoot (table d) x → (n : ℕ) → n < length (fields x) → list_any (eqb n) (numbers_of (exact 0 x)) ≡ true
each_there d typed x is n low =
    let long = types_long x in
    elim (type_get (types x) 0 n) [
      | inl h ↦ absurd (omega (arith, h))
      | inr (inl h) ↦ absurd (omega (arith, h, low, long))
      | inr (inr h) ↦
          let free = λ (k : ℕ) (less : k < 9). typed k (omega (arith, less)) in
          let types_are = has_types d (λ k less. typed k (omega (arith, less))) (codes "instruction") x is in
          stands_there x n h.0 types_are h.1 (stands x (table d) (codes "instruction") 0 n h.0 (linear_images d free) is h.1)
    ]

pub few_fields : (d : Desc) → IsTyped d → (x : Derivation) → IsRoot (table d) x → length (fields x) ≤ 64
few_fields d typed x is =
    let e : length (image x) ≡ length (exact 0 x) = ap length (image_is x) ∙ length-map (exact 0 x) (fill (number_at (fields x))) in
    let low = narrow_image d typed x is in
    let n = le-length_from_below (numbers_of (exact 0 x)) (length (fields x)) (each_there d typed x is) in
    omega (arith, e, low, n, as_long (exact 0 x))
