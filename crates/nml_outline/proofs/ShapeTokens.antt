-- The tokens of a derivation are its shape's template with its numbers.
use Rattle.std.proofs.Common.{ℕ, zero, suc, ◌-◌, ◌^◌, ◌≡◌, ◌<◌, ◌≤◌, refl, sym, subst, false, ℤ, pos, negsuc, List, [], ◌∷◌, map, length, arith, inl, inr}
use Rattle.std.specs.Fmt.{signed_decimal}
use Rattle.std.proofs.lemmas.Int.{ints}
use Rattle.std.proofs.lemmas.Nat.{pow_below}
use Rattle.nk_base.specs.Number.{IsTy, InRange}
use Rattle.nk_base.specs.declared.number.Ty.{Ty}
use Rattle.nk_base.specs.declared.number.Ty.TheVariants as tys
use Rattle.nml_tree.specs.Table.{Text, Table}
use Rattle.nml_tree.specs.Derivation.{Derivation, IsDerivation, fields}
use Rattle.nml_tree.specs.Value.{number_at}
use Rattle.nml_tree.specs.Edge.{has_touch}
use Rattle.nml_tree.specs.Outline.{template, with_numbers, types}
use Rattle.nml_tree.specs.Same.{tokens}
use Rattle.nml_outline.proofs.Stands.{types_long}
use Rattle.nml_outline.proofs.ShapeWords.{HasTypes, type_get}
use Rattle.nml_outline.proofs.ShapesMeet.{own_ranged}
use Rattle.nml_outline.proofs.Tokens.{AreTexts, tokens_are}
use Rattle.nml_outline.proofs.NumberText.{IsText, pos_text, neg_text}

less : (n : ℕ) → n ≤ 64 → 2 ^ n < 2 ^ 65
less n h = pow_below n 65 (omega (arith, h))

text_in : (ty : Ty) (z : ℤ) → IsTy ty → InRange ty z → IsText z (signed_decimal z)
text_in tys.Bool (pos n) h r = pos_text n (let l : n < 2 = omega (arith, ints, r.1) in let big : 2 < 10 ^ 64 = omega arith in omega (arith, l, big))
text_in (tys.Card w) (pos n) h r = pos_text n (let l : n < 2 ^ w = omega (arith, ints, r.1) in let s = less w h.1 in let big : 2 ^ 65 < 10 ^ 64 = omega arith in omega (arith, l, s, big))
text_in (tys.Int w) (pos n) h r = pos_text n (let l : n < 2 ^ (w - 1) = omega (arith, ints, r.1) in let s = less (w - 1) (omega (arith, h.1)) in let big : 2 ^ 65 < 10 ^ 64 = omega arith in omega (arith, l, s, big))
text_in tys.Bool (negsuc n) h r = absurd (omega (arith, ints, r.0))
text_in (tys.Card w) (negsuc n) h r = absurd (omega (arith, ints, r.0))
text_in (tys.Int w) (negsuc n) h r = neg_text n (let l : n < 2 ^ (w - 1) = omega (arith, ints, r.0) in let s = less (w - 1) (omega (arith, h.1)) in let big : 2 ^ 65 < 10 ^ 64 = omega arith in omega (arith, l, s, big))

none_at : (zs : List ℤ) (n : ℕ) → length zs ≤ n → number_at zs n ≡ pos 0
none_at [] n h = refl
none_at (z ∷ zs) zero h = absurd (omega (arith, h))
none_at (z ∷ zs) (suc n) h = none_at zs n (omega (arith, h))

texts_of : (t : Table) (name : Text) (d : Derivation) → IsDerivation t name d → HasTypes d → AreTexts (fields d)
texts_of t name d h types_are n =
    elim (type_get (types d) 0 n) [
      | inl l ↦ absurd (omega (arith, l))
      | inr r ↦ elim r [
        | inl l ↦
            let long = types_long d in
            subst (λ z. IsText z (signed_decimal z)) (sym (none_at (fields d) n (omega (arith, l, long)))) (pos_text 0 (omega arith))
        | inr g ↦ text_in g.0 (number_at (fields d) n) (types_are n g.0 g.1) (own_ranged d t name n g.0 h g.1)
      ]
    ]

-- the tokens are the template with the numbers
pub tokens_of : (t : Table) (name : Text) (d : Derivation) → IsDerivation t name d → HasTypes d → has_touch d ≡ false → tokens d ≡ map (with_numbers (fields d)) (template d)
tokens_of t name d h types_are apart = tokens_are d apart (texts_of t name d h types_are)
