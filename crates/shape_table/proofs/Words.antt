-- Shapes that meet have a word in common, and the least is the bits of both values.
use Rattle.std.proofs.Common.{ℕ, ◌≡◌, sym, ◌∙◌, ap, bit_or, bit_and, true, false}
use Rattle.std.specs.Prelude.{Some}
use Rattle.std.proofs.lemmas.Bool.{eqb-true, eq-eqb, and_parts, and_from}
use Rattle.nml_shape.specs.declared.shape.Shape.{Shape}
use Rattle.nml_shape.specs.Common.{HasWord, IsLeastWord}
use Rattle.shape_table.specs.Meet.{is_within, words_meet}
use Rattle.shape_table.proofs.Bitwise.{agree, and_itself, least_word, has_first, has_second}

-- a shape that has a word has no bit outside its mask
within_from : (s : Shape) (w : ℕ) → HasWord s w → is_within s ≡ true
within_from s w h = eq-eqb _ _ (ap (λ v. bit_and v s.mask) (sym h) ∙ and_itself w s.mask ∙ h)

pub meets_from : (a b : Shape) (w : ℕ) → HasWord a w → HasWord b w → words_meet a b ≡ true
meets_from a b w p q = and_from _ _ (within_from a w p) (and_from _ _ (within_from b w q) (eq-eqb _ _ (agree w a.mask b.mask a.value b.value p q)))

pub none_from : (a b : Shape) (w : ℕ) → words_meet a b ≡ false → HasWord a w → HasWord b w → ⊥
none_from a b w no_meet p q = let e = meets_from a b w p q in cc

pub least_from : (a b : Shape) → words_meet a b ≡ true → IsLeastWord a b (Some (bit_or a.value b.value))
least_from a b is =
    let m = and_parts _ _ is in let n = and_parts _ _ m.1 in
    let p = eqb-true _ _ m.0 in let q = eqb-true _ _ n.0 in let none = eqb-true _ _ n.1 in
    (has_first a.mask b.mask a.value b.value p q none, has_second a.mask b.mask a.value b.value p q none, λ w h k. least_word w a.mask b.mask a.value b.value h k)
