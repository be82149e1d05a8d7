-- The storages and transitories of a table are those among its items.
use Rattle.std.proofs.Common.{◌+◌, List, [], ◌∷◌, ◌++◌, ◌≡◌, refl, ◌∙◌, ap, arith, Bool, true, false, length}
use Rattle.std.specs.Prelude.{filter, if◌then◌else◌}
use Rattle.nml_tree.specs.declared.tree.PortWord.{PortWord}
use Rattle.nml_tree.specs.declared.tree.PortWord.TheVariants as port
use Rattle.nml_tree.specs.declared.tree.Item.{Item}
use Rattle.nml_tree.specs.declared.tree.Item.TheVariants as item
use Rattle.nml_tree.specs.Table.{Text, Table, Declared, entries, entry, is_storage, is_trn, port_of, type_or_none}
use Rattle.attr_legal.specs.Among.{is_trn_word, is_storage_item, is_trn_item, storages_among, transitories_among}

filter_push : (f : Text × Declared → Bool) (t : Table) (e : Text × Declared) → length (filter f (t ++ e ∷ [])) ≡ length (filter f t) + (if f e then 1 else 0)
filter_push f [] e = last (f e)
  where
    last : (b : Bool) → length (if b then e ∷ [] else []) ≡ 0 + (if b then 1 else 0)
    last true = refl
    last false = refl
filter_push f (x ∷ t) e = more (f x) (filter_push f t e)
  where
    more : (b : Bool) → length (filter f (t ++ e ∷ [])) ≡ length (filter f t) + (if f e then 1 else 0) → length (if b then x ∷ filter f (t ++ e ∷ []) else filter f (t ++ e ∷ [])) ≡ length (if b then x ∷ filter f t else filter f t) + (if f e then 1 else 0)
    more true h = omega (arith, h)
    more false h = h

storage_entry : (t : Table) (i : Item) → is_storage (entry t i) ≡ is_storage_item i
storage_entry t (item.Let at n equals minus z) = refl
storage_entry t (item.Type at n equals e) = refl
storage_entry t (item.Storage s) = refl
storage_entry t (item.Port p) = word p.word
  where
    word : (w : PortWord) → is_storage (p.name.text, port_of t w (type_or_none t p.ty)) ≡ false
    word (port.Trn at) = refl
    word (port.Inp at) = refl
    word (port.Out at) = refl
storage_entry t (item.OrRule r) = refl
storage_entry t (item.OpRule r) = refl
storage_entry t (item.ModeRule r) = refl

trn_entry : (t : Table) (i : Item) → is_trn (entry t i) ≡ is_trn_item i
trn_entry t (item.Let at n equals minus z) = refl
trn_entry t (item.Type at n equals e) = refl
trn_entry t (item.Storage s) = refl
trn_entry t (item.Port p) = word p.word
  where
    word : (w : PortWord) → is_trn (p.name.text, port_of t w (type_or_none t p.ty)) ≡ is_trn_word w
    word (port.Trn at) = refl
    word (port.Inp at) = refl
    word (port.Out at) = refl
trn_entry t (item.OrRule r) = refl
trn_entry t (item.OpRule r) = refl
trn_entry t (item.ModeRule r) = refl

storages_from : (items : List Item) (t : Table) → length (filter is_storage (entries t items)) ≡ length (filter is_storage t) + storages_among items
storages_from [] t = omega arith
storages_from (i ∷ items) t =
    let e = storages_from items (t ++ entry t i ∷ []) in
    let f = filter_push is_storage t (entry t i) ∙ ap (λ b. length (filter is_storage t) + (if b then 1 else 0)) (storage_entry t i) in
    omega (arith, e, f)

transitories_from : (items : List Item) (t : Table) → length (filter is_trn (entries t items)) ≡ length (filter is_trn t) + transitories_among items
transitories_from [] t = omega arith
transitories_from (i ∷ items) t =
    let e = transitories_from items (t ++ entry t i ∷ []) in
    let f = filter_push is_trn t (entry t i) ∙ ap (λ b. length (filter is_trn t) + (if b then 1 else 0)) (trn_entry t i) in
    omega (arith, e, f)

pub storages_are : (items : List Item) → storages_among items ≡ length (filter is_storage (entries [] items))
storages_are items = let e = storages_from items [] in omega (arith, e)

pub transitories_are : (items : List Item) → transitories_among items ≡ length (filter is_trn (entries [] items))
transitories_are items = let e = transitories_from items [] in omega (arith, e)
