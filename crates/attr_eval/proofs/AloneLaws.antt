-- In a typed description 128 bits hold the value of each mode, whatever the fields.
use Rattle.std.proofs.Common.{◌≡◌, ℕ, zero, suc, ◌-◌, ◌^◌, ◌<◌, ℤ, pos, List, [], refl, sym, subst, arith}
use Rattle.std.proofs.lemmas.Int.{ints}
use Rattle.std.proofs.Math.Pow.{pow_pos}
use Rattle.nk_base.specs.declared.number.Ty.{Ty}
use Rattle.nk_base.specs.declared.number.Ty.TheVariants as tys
use Rattle.nk_base.specs.Number.{InRange}
use Rattle.nml_tree.specs.declared.tree.Desc.{Desc}
use Rattle.nml_tree.specs.Refused.{IsFreeBelow}
use Rattle.nml_tree.specs.Table.{Declared, table}
use Rattle.nml_tree.specs.Value.{cell, number_at}
use Rattle.nml_widths.specs.Fitting.{IsOfType}
use Rattle.nml_widths.proofs.WidthLaws.{action_sound}
use Rattle.attr_eval.specs.Alone.{Alone, ValuesSound, alone}

zero_fits : (ty : Ty) → InRange ty (pos 0)
zero_fits tys.Bool = (omega (arith, ints), omega (arith, ints))
zero_fits (tys.Card n) = let p : 0 < 2 ^ n = pow_pos n in (omega (arith, ints), omega (arith, ints, p))
zero_fits (tys.Int n) = let p : 0 < 2 ^ (n - 1) = pow_pos (n - 1) in (omega (arith, ints, p), omega (arith, ints, p))

no_number : (n : ℕ) → number_at [] n ≡ pos 0
no_number zero = refl
no_number (suc n) = refl

no_cell : (storage n : ℕ) → cell [] storage n ≡ pos 0
no_cell zero n = no_number n
no_cell (suc storage) n = no_number n

pub each_of : (zs : List ℤ) (d : Declared) → IsOfType (alone zs) d
each_of zs (Declared.Constant z) = tt
each_of zs (Declared.TypeName ty) = tt
each_of zs (Declared.Storage n k ty) = λ i. subst (InRange ty) (sym (no_cell n i)) (zero_fits ty)
each_of zs (Declared.Trn n ty) = subst (InRange ty) (sym (no_number n)) (zero_fits ty)
each_of zs (Declared.Inp ty) = zero_fits ty
each_of zs (Declared.Out ty) = tt
each_of zs (Declared.Or mode names) = tt
each_of zs (Declared.And rule) = tt

pub values_sound : (d : Desc) → IsFreeBelow 8 d → (zs : List ℤ) → ValuesSound (table d) zs
values_sound d free zs name rule args n is stand = (action_sound d free (alone zs) (record { each = λ q x h. each_of zs x }) name rule args n is stand).2

pub alone_whole : (d : Desc) → IsFreeBelow 8 d → (zs : List ℤ) → Alone (table d) 0 zs zs
alone_whole d free zs = record { sound = values_sound d free zs; left_are = refl }
