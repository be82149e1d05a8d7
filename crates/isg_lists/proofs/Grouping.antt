-- The shapes that were grouped by their masks so far.
use Rattle.std.proofs.Common.{ℕ, zero, suc, ◌≡◌, ◌≤◌, ◌+◌, refl, sym, ◌∙◌, ap, Bool, true, false, List, [], ◌∷◌, ◌++◌, length, drop, Some, ◌==◌}
use Rattle.std.specs.Prelude.{slice_get, if◌then◌else◌, nat_eq}
use Rattle.std.specs.Global.{Vec}
use Rattle.std.specs.List.{list_any}
use Rattle.std.proofs.lemmas.List.{at_drop_all}
use Rattle.std.proofs.lemmas.Bool.{eqb-true}
use Rattle.indexmap.specs.IndexMap.{IndexMap, keys}
use Rattle.indexmap.specs.IndexSet.{insert_key}
use Rattle.nml_shape.specs.declared.shape.Shape.{Shape}
use Rattle.isg_lists.specs.Numbers.{numbers_from, numbers_where, list_at}
use Rattle.isg_lists.specs.Masks.{with_mask, masks_behind, masks, has_mask}
use Rattle.isg_lists.proofs.Places.{In, drop_at_get, one_more, all_seen}

by_any : (x m : ℕ) (xs : List ℕ) (b c : Bool) → insert_key nat_eq xs m ≡ with_mask xs m → (m == x) ≡ b → list_any (nat_eq m) xs ≡ c → insert_key nat_eq (x ∷ xs) m ≡ with_mask (x ∷ xs) m
by_any x m xs true c h is any = rw (is) refl
by_any x m xs false true h is any = rw is (rw any (ap (λ ys. x ∷ ys) (rw any at h)))
by_any x m xs false false h is any = rw is (rw any (ap (λ ys. x ∷ ys) (rw any at h)))

with_is : (xs : List ℕ) (m : ℕ) → insert_key nat_eq xs m ≡ with_mask xs m
with_is [] m = refl
with_is (x ∷ xs) m = by_any x m xs (m == x) (list_any (nat_eq m) xs) (with_is xs m) refl refl

-- of shapes from number i on the masks and numbers are still to come
pub record Grouped {S : Type 0} (shapes : List Shape) (i : ℕ) (m : IndexMap ℕ (Vec ℕ) S) : Type 0 where
  pub keys_are : masks_behind (keys m) (drop i shapes) ≡ masks shapes
  pub lists_are : (mask : ℕ) → numbers_where (has_mask mask) shapes ≡ list_at nat_eq m mask ++ numbers_from (has_mask mask) i (drop i shapes)

pub grouped_more : {S : Type 0} (shapes : List Shape) (i n : ℕ) (x : Shape) (old new : IndexMap ℕ (Vec ℕ) S) → slice_get shapes i ≡ Some x → n ≡ i → keys new ≡ insert_key nat_eq (keys old) x.mask
    → ((k : ℕ) → list_at nat_eq new k ≡ (if nat_eq k x.mask then list_at nat_eq old k ++ n ∷ [] else list_at nat_eq old k)) → Grouped shapes i old → Grouped shapes (i + 1) new
grouped_more shapes i n x old new at same keys_is lists_is g = record {
  keys_are = ap (λ z. masks_behind z (drop (i + 1) shapes)) (keys_is ∙ with_is (keys old) x.mask) ∙ sym (ap (masks_behind (keys old)) (drop_at_get shapes i x at)) ∙ g.keys_are;
  lists_are = λ mask. one_more (has_mask mask) shapes i x (list_at nat_eq old mask) (list_at nat_eq new mask) (numbers_where (has_mask mask) shapes) at (g.lists_are mask)
      (lists_is mask ∙ ap (λ z. if nat_eq mask x.mask then list_at nat_eq old mask ++ z ∷ [] else list_at nat_eq old mask) same);
}

pub keys_done : {S : Type 0} (shapes : List Shape) (i : ℕ) (m : IndexMap ℕ (Vec ℕ) S) → length shapes ≤ i → Grouped shapes i m → keys m ≡ masks shapes
keys_done shapes i m end g = sym (at_drop_all (masks_behind (keys m)) shapes i end) ∙ g.keys_are

pub lists_done : {S : Type 0} (shapes : List Shape) (i : ℕ) (m : IndexMap ℕ (Vec ℕ) S) → length shapes ≤ i → Grouped shapes i m → (mask : ℕ) → list_at nat_eq m mask ≡ numbers_where (has_mask mask) shapes
lists_done shapes i m end g mask = all_seen (has_mask mask) shapes i (list_at nat_eq m mask) (numbers_where (has_mask mask) shapes) end (g.lists_are mask)

-- ---- each mask of a shape is among them

new_in : (x m : ℕ) (xs : List ℕ) (b : Bool) → (m == x) ≡ b → In (with_mask xs m) m → In (with_mask (x ∷ xs) m) m
new_in x m xs true is c = let e = eqb-true m x is in (0, ap (λ (b : Bool). slice_get (if b then x ∷ xs else x ∷ with_mask xs m) 0) is ∙ ap Some (sym e))
new_in x m xs false is c = (suc c.0, ap (λ (b : Bool). slice_get (if b then x ∷ xs else x ∷ with_mask xs m) (suc c.0)) is ∙ c.1)

with_in : (xs : List ℕ) (m : ℕ) → In (with_mask xs m) m
with_in [] m = (0, refl)
with_in (x ∷ xs) m = new_in x m xs (m == x) refl (with_in xs m)

old_in : (x m y : ℕ) (xs : List ℕ) (k : ℕ) (b : Bool) → (m == x) ≡ b → slice_get (x ∷ xs) k ≡ Some y → ((j : ℕ) → slice_get xs j ≡ Some y → slice_get (with_mask xs m) j ≡ Some y) → slice_get (with_mask (x ∷ xs) m) k ≡ Some y
old_in x m y xs k true is at rest = ap (λ (b : Bool). slice_get (if b then x ∷ xs else x ∷ with_mask xs m) k) is ∙ at
old_in x m y xs zero false is at rest = ap (λ (b : Bool). slice_get (if b then x ∷ xs else x ∷ with_mask xs m) 0) is ∙ at
old_in x m y xs (suc k) false is at rest = ap (λ (b : Bool). slice_get (if b then x ∷ xs else x ∷ with_mask xs m) (suc k)) is ∙ rest k at

with_keeps : (xs : List ℕ) (m y k : ℕ) → slice_get xs k ≡ Some y → slice_get (with_mask xs m) k ≡ Some y
with_keeps [] m y k at = absurd cc
with_keeps (x ∷ xs) m y k at = old_in x m y xs k (m == x) refl at (with_keeps xs m y)

behind_keeps : (ss : List Shape) (ms : List ℕ) (y k : ℕ) → slice_get ms k ≡ Some y → slice_get (masks_behind ms ss) k ≡ Some y
behind_keeps [] ms y k at = at
behind_keeps (s ∷ ss) ms y k at = behind_keeps ss (with_mask ms s.mask) y k (with_keeps ms s.mask y k at)

behind_in : (ss : List Shape) (ms : List ℕ) (n : ℕ) (s : Shape) → slice_get ss n ≡ Some s → In (masks_behind ms ss) s.mask
behind_in [] ms n s at = absurd cc
behind_in (x ∷ ss) ms zero s at =
    let e : x ≡ s = cc in let c = with_in ms x.mask in
    (c.0, behind_keeps ss (with_mask ms x.mask) s.mask c.0 (c.1 ∙ ap (λ z. Some z.mask) e))
behind_in (x ∷ ss) ms (suc n) s at = behind_in ss (with_mask ms x.mask) n s at

pub mask_in : (shapes : List Shape) (n : ℕ) (s : Shape) → slice_get shapes n ≡ Some s → In (masks shapes) s.mask
mask_in shapes n s at = behind_in shapes [] n s at
