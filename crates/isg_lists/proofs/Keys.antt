-- The keys of a map after an entry was put in.
use Rattle.std.proofs.Common.{◌≡◌, refl, ◌∙◌, ap, Bool, true, false, ◌||◌, List, [], ◌∷◌, ◌++◌, Some, is_some}
use Rattle.std.specs.Prelude.{if◌then◌else◌}
use Rattle.std.specs.List.{list_any}
use Rattle.std.specs.Map.{keys_of}
use Rattle.indexmap.specs.IndexMap.{IndexMap, keys, get, insert_entry}
use Rattle.indexmap.specs.IndexSet.{insert_key}
use Rattle.indexmap.proofs.CallerLemmas.{keys-insert_entry-present}

module _ {K : Type 0} (eq : K → K → Bool) (k : K) where
  -- a new key goes last
  behind : (x : K) (xs : List K) (b : Bool) → list_any (eq k) xs ≡ b → x ∷ (if b then xs else xs ++ k ∷ []) ≡ (if b then x ∷ xs else (x ∷ xs) ++ k ∷ [])
  behind x xs true is = refl
  behind x xs false is = refl

module _ {K V : Type 0} (eq : K → K → Bool) (k : K) where
  by : (e : K × V) (es : List (K × V)) (v : V) (b : Bool) → eq k e.0 ≡ b → keys_of (insert_entry eq es k v) ≡ insert_key eq (keys_of es) k
      → keys_of (if b then (e.0, v) ∷ es else e ∷ insert_entry eq es k v) ≡ (if b || list_any (eq k) (keys_of es) then e.0 ∷ keys_of es else (e.0 ∷ keys_of es) ++ k ∷ [])
  by e es v true is h = refl
  by e es v false is h = ap (λ xs. e.0 ∷ xs) h ∙ behind eq k e.0 (keys_of es) (list_any (eq k) (keys_of es)) refl

  pub keys_inserted : (es : List (K × V)) (v : V) → keys_of (insert_entry eq es k v) ≡ insert_key eq (keys_of es) k
  keys_inserted [] v = refl
  keys_inserted (e ∷ es) v = by e es v (eq k e.0) refl (keys_inserted es v)

-- a key is put in, and then put in again
pub put_twice : {K V S : Type 0} (eq : K → K → Bool) (k : K) (old mid new : IndexMap K V S) (v w : V) → mid.entries ≡ insert_entry eq old.entries k v → get eq mid k ≡ Some v → new.entries ≡ insert_entry eq mid.entries k w → keys new ≡ insert_key eq (keys old) k
put_twice eq k old mid new v w first there second =
    ap keys_of second ∙ keys-insert_entry-present eq mid k w (ap is_some there) ∙ ap keys_of first ∙ keys_inserted eq k old.entries v
