-- In a description in which types are right the cells of each storage are of a type of 1 to 64 bits.
use Rattle.std.proofs.Common.{ℕ, zero, suc, ◌≡◌, sym, subst, arith, List, [], ◌∷◌, ◌++◌, Some, true}
use Rattle.std.specs.Prelude.{slice_get, nat_le}
use Rattle.std.proofs.lemmas.Bool.{and_parts, leb-true}
use Rattle.nk_base.specs.Number.{IsTy}
use Rattle.nk_base.specs.declared.number.Ty.{Ty}
use Rattle.nk_base.specs.declared.number.Ty.TheVariants as tys
use Rattle.nml_tree.specs.declared.tree.Item.{Item}
use Rattle.nml_tree.specs.declared.tree.Item.TheVariants as item
use Rattle.nml_tree.specs.declared.tree.Desc.{Desc}
use Rattle.nml_tree.specs.declared.tree.PortWord.{PortWord}
use Rattle.nml_tree.specs.declared.tree.PortWord.TheVariants as port
use Rattle.nml_tree.specs.Table.{Table, table, entries, entry, port_of, type_or_none}
use Rattle.nml_tree.specs.Exec.{storages}
use Rattle.nml_tree.specs.Refused.{IsTyped}
use Rattle.nml_tree.specs.Worth.{is_type}
use Rattle.nml_state.specs.RightTypes.{ItemRight, EachRight}
use Rattle.nml_state.proofs.Lookups.{each_right}
use Rattle.nml_state.proofs.StateLaws.{storages_append}

AreTyped : List (ℕ × Ty) → Type 0
AreTyped rows = (n : ℕ) (r : ℕ × Ty) → slice_get rows n ≡ Some r → is_type r.1 ≡ true

both_typed : (xs ys : List (ℕ × Ty)) → AreTyped xs → AreTyped ys → AreTyped (xs ++ ys)
unfolding AreTyped
both_typed [] ys h k n r at = k n r at
both_typed (x ∷ xs) ys h k zero r at = h 0 r at
both_typed (x ∷ xs) ys h k (suc n) r at = both_typed xs ys (λ m q e. h (suc m) q e) k n r at

none_typed : AreTyped []
unfolding AreTyped
none_typed n r at = absurd cc

one_typed : (x : ℕ × Ty) → is_type x.1 ≡ true → AreTyped (x ∷ [])
unfolding AreTyped
one_typed x h zero r at = let e : x ≡ r = cc in subst (λ q. is_type q.1 ≡ true) e h
one_typed x h (suc n) r at = absurd cc

entry_typed : (t : Table) (i : Item) → ItemRight t i → AreTyped (storages (entry t i ∷ []))
entry_typed t (item.Let at n equals minus z) h = none_typed
entry_typed t (item.Type at n equals e) h = none_typed
entry_typed t (item.Storage s) h = one_typed _ h
entry_typed t (item.Port p) h = by p.word
  where
    by : (w : PortWord) → AreTyped (storages ((p.name.text, port_of t w (type_or_none t p.ty)) ∷ []))
    by (port.Trn at) = none_typed
    by (port.Inp at) = none_typed
    by (port.Out at) = none_typed
entry_typed t (item.OrRule r) h = none_typed
entry_typed t (item.OpRule r) h = none_typed
entry_typed t (item.ModeRule r) h = none_typed

all_typed : (items : List Item) (t : Table) → EachRight t items → AreTyped (storages t) → AreTyped (storages (entries t items))
all_typed [] t h k = k
all_typed (i ∷ items) t h k =
    all_typed items (t ++ entry t i ∷ []) h.1 (subst AreTyped (sym (storages_append t (entry t i ∷ []))) (both_typed (storages t) (storages (entry t i ∷ [])) k (entry_typed t i h.0)))

type_is : (ty : Ty) → is_type ty ≡ true → IsTy ty
type_is tys.Bool h = tt
type_is (tys.Card n) h = let p = and_parts (nat_le 1 n) (nat_le n 64) h in (leb-true 1 n p.0, leb-true n 64 p.1)
type_is (tys.Int n) h = let p = and_parts (nat_le 1 n) (nat_le n 64) h in (leb-true 1 n p.0, leb-true n 64 p.1)

pub storage_typed : (d : Desc) → IsTyped d → (n size : ℕ) (ty : Ty) → slice_get (storages (table d)) n ≡ Some (size, ty) → IsTy ty
unfolding AreTyped
storage_typed d typed n size ty at = type_is ty (all_typed d.items [] (each_right d (λ k low. typed k (omega (arith, low)))) none_typed n (size, ty) at)
