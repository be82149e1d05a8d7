-- In a description in which types are right the cells of each storage are of a type of 1 to 64 bits.
use Rattle.std.proofs.Common.{ℕ, zero, suc, ◌≡◌, refl, sym, ◌∙◌, ap, subst, arith, List, [], ◌∷◌, ◌++◌, Some, None, Option, Bool, true, false}
use Rattle.std.specs.Prelude.{slice_get}
use Rattle.nk_base.specs.declared.number.Ty.{Ty}
use Rattle.nml_tree.specs.declared.tree.Item.{Item}
use Rattle.nml_tree.specs.declared.tree.Item.TheVariants as item
use Rattle.nml_tree.specs.declared.tree.Desc.{Desc}
use Rattle.nml_tree.specs.declared.tree.PortWord.{PortWord}
use Rattle.nml_tree.specs.declared.tree.PortWord.TheVariants as port
use Rattle.nml_tree.specs.Table.{Table, table, entries, entry, port_of, type_or_none}
use Rattle.nml_tree.specs.Exec.{storages}
use Rattle.nml_tree.specs.Refused.{IsFreeBelow}
use Rattle.nml_tree.specs.Worth.{is_type}
use Rattle.nml_state.specs.RightTypes.{ItemRight, EachRight}
use Rattle.nml_state.proofs.Lookups.{each_right}
use Rattle.nml_state.proofs.StateLaws.{storages_append}

AllRight : List (ℕ × Ty) → Type 0
AllRight rows = (n : ℕ) (r : ℕ × Ty) → slice_get rows n ≡ Some r → is_type r.1 ≡ true

both_right : (xs ys : List (ℕ × Ty)) → AllRight xs → AllRight ys → AllRight (xs ++ ys)
unfolding AllRight
both_right [] ys h k n r at = k n r at
both_right (x ∷ xs) ys h k zero r at = h 0 r at
both_right (x ∷ xs) ys h k (suc n) r at = both_right xs ys (λ m q e. h (suc m) q e) k n r at

none_right : AllRight []
unfolding AllRight
none_right n r at = absurd cc

one_right : (x : ℕ × Ty) → is_type x.1 ≡ true → AllRight (x ∷ [])
unfolding AllRight
one_right x h zero r at = let e : x ≡ r = cc in subst (λ q. is_type q.1 ≡ true) e h
one_right x h (suc n) r at = absurd cc

entry_right : (t : Table) (i : Item) → ItemRight t i → AllRight (storages (entry t i ∷ []))
entry_right t (item.Let at n equals minus z) h = none_right
entry_right t (item.Type at n equals e) h = none_right
entry_right t (item.Storage s) h = one_right _ h
entry_right t (item.Port p) h = by p.word
  where
    by : (w : PortWord) → AllRight (storages ((p.name.text, port_of t w (type_or_none t p.ty)) ∷ []))
    by (port.Trn at) = none_right
    by (port.Inp at) = none_right
    by (port.Out at) = none_right
entry_right t (item.OrRule r) h = none_right
entry_right t (item.OpRule r) h = none_right
entry_right t (item.ModeRule r) h = none_right

all_right : (items : List Item) (t : Table) → EachRight t items → AllRight (storages t) → AllRight (storages (entries t items))
all_right [] t h k = k
all_right (i ∷ items) t h k =
    all_right items (t ++ entry t i ∷ []) h.1 (subst AllRight (sym (storages_append t (entry t i ∷ []))) (both_right (storages t) (storages (entry t i ∷ [])) k (entry_right t i h.0)))

pub storage_right : (d : Desc) → IsFreeBelow 8 d → (n k : ℕ) (ty : Ty) → slice_get (storages (table d)) n ≡ Some (k, ty) → is_type ty ≡ true
unfolding AllRight
storage_right d free n k ty at = all_right d.items [] (each_right d free) none_right n (k, ty) at
