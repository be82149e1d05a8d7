-- In a description in which all is right there is at most one `inp`.
use Rattle.std.proofs.Common.{ℕ, List, [], ◌∷◌, ◌++◌, ◌≡◌, map, arith, refl, sym, ◌∙◌, ap, Bool, true, false, cond, Option, Some, ◌⊎◌, inl, inr}
use Rattle.std.specs.Prelude.{◌||◌, ◌&&◌, not, codes, flat_map}
use Rattle.std.specs.List.{list_any}
use Rattle.nk_base.specs.Text.{text_eq}
use Rattle.nk_base.specs.declared.number.Ty.{Ty}
use Rattle.nml_tree.specs.declared.tree.Item.{Item}
use Rattle.nml_tree.specs.declared.tree.Item.TheVariants as item
use Rattle.nml_tree.specs.declared.tree.PortWord.{PortWord}
use Rattle.nml_tree.specs.declared.tree.PortWord.TheVariants as port
use Rattle.nml_tree.specs.declared.tree.Desc.{Desc}
use Rattle.nml_tree.specs.Table.{Text, Table, Declared, declared, table, entry, entries, port_of}
use Rattle.nml_tree.specs.Uses.{declares, parameters}
use Rattle.nml_tree.specs.Places.{when}
use Rattle.nml_tree.specs.NameFault.{is_among, is_register, is_rule, is_same_port, are_same_port, unknown_places, declared_places, parameter_places, shared_places, item_name_places, name_places_from, name_places}
use Rattle.nml_tree.specs.Refused.{IsTyped, By_name}
use Rattle.nml_widths.proofs.Fits.{no_left, no_right, when_none}
use Rattle.attr_exec.proofs.Ports.{none_from}
use Rattle.input_port.specs.Port.{input_type, is_inp}
use Rattle.input_port.proofs.First.{has_inp, left_no, right_no, inp_skip, inp_first}

-- behind an `inp` no other stands
abbrev Alone : Table → Type 0
Alone [] = Unit {0}
Alone (e ∷ t) = (is_inp e.1 ≡ true → has_inp t ≡ false) × Alone t

past : (b : Bool) (y x : Declared) (o : Option Declared) → cond b (Some y) o ≡ Some x → (y ≡ x) ⊎ (o ≡ Some x)
past true y x o h = let e : y ≡ x = cc in inl e
past false y x o h = inr h

declared_has : (t : Table) (name : Text) (ty : Ty) → declared t name ≡ Some (Declared.Inp ty) → has_inp t ≡ false → ⊥
declared_has [] name ty h none = cc
declared_has (e ∷ t) name ty h none =
    elim (past (text_eq name e.0) e.1 (Declared.Inp ty) (declared t name) h) [
      | inl here ↦ (let a : is_inp e.1 ≡ true = ap is_inp here in let b = left_no (is_inp e.1) (has_inp t) none in absurd cc)
      | inr later ↦ declared_has t name ty later (right_no (is_inp e.1) (has_inp t) none)
    ]

later_is : (b : Bool) (e : Text × Declared) (t : Table) (name : Text) (ty : Ty) → is_inp e.1 ≡ b → declared t name ≡ Some (Declared.Inp ty) → (is_inp e.1 ≡ true → has_inp t ≡ false) → input_type t ≡ Some ty → input_type (e ∷ t) ≡ Some ty
later_is true e t name ty is h alone more = absurd (declared_has t name ty h (alone is))
later_is false e t name ty is h alone more = inp_skip e t is ∙ more

one_input : (t : Table) (name : Text) (ty : Ty) → Alone t → declared t name ≡ Some (Declared.Inp ty) → input_type t ≡ Some ty
one_input [] name ty alone h = absurd cc
one_input (e ∷ t) name ty alone h =
    elim (past (text_eq name e.0) e.1 (Declared.Inp ty) (declared t name) h) [
      | inl here ↦ inp_first e ty t here
      | inr later ↦ later_is (is_inp e.1) e t name ty refl later alone.0 (one_input t name ty alone.1 later)
    ]

-- an item that is an `inp`
abbrev is_inp_word : PortWord → Bool
is_inp_word (port.Inp at) = true
is_inp_word _ = false

abbrev is_inp_item : Item → Bool
is_inp_item (item.Port p) = is_inp_word p.word
is_inp_item _ = false

same_word : (w v : PortWord) → is_inp_word w ≡ true → is_same_port w v ≡ is_inp_word v
same_word (port.Trn at) v h = absurd cc
same_word (port.Inp at) (port.Trn other) h = refl
same_word (port.Inp at) (port.Inp other) h = refl
same_word (port.Inp at) (port.Out other) h = refl
same_word (port.Out at) v h = absurd cc

same_item : (i j : Item) → is_inp_item i ≡ true → are_same_port i j ≡ is_inp_item j
same_item (item.Let at n equals minus z) j h = absurd cc
same_item (item.Type at n equals e) j h = absurd cc
same_item (item.Storage s) j h = absurd cc
same_item (item.Port p) (item.Let at n equals minus z) h = refl
same_item (item.Port p) (item.Type at n equals e) h = refl
same_item (item.Port p) (item.Storage s) h = refl
same_item (item.Port p) (item.Port q) h = same_word p.word q.word h
same_item (item.Port p) (item.OrRule r) h = refl
same_item (item.Port p) (item.OpRule r) h = refl
same_item (item.Port p) (item.ModeRule r) h = refl
same_item (item.OrRule r) j h = absurd cc
same_item (item.OpRule r) j h = absurd cc
same_item (item.ModeRule r) j h = absurd cc

word_is : (t : Table) (w : PortWord) (ty : Ty) → is_inp (port_of t w ty) ≡ is_inp_word w
word_is t (port.Trn at) ty = refl
word_is t (port.Inp at) ty = refl
word_is t (port.Out at) ty = refl

item_is : (t : Table) (i : Item) → is_inp (entry t i).1 ≡ is_inp_item i
item_is t (item.Let at n equals minus z) = refl
item_is t (item.Type at n equals e) = refl
item_is t (item.Storage s) = refl
item_is t (item.Port p) = word_is t p.word _
item_is t (item.OrRule r) = refl
item_is t (item.OpRule r) = refl
item_is t (item.ModeRule r) = refl

same_any : (i : Item) (earlier : List Item) → is_inp_item i ≡ true → list_any (are_same_port i) earlier ≡ list_any is_inp_item earlier
same_any i [] h = refl
same_any i (j ∷ earlier) h = rw (same_item i j h, same_any i earlier h) refl

any_push : {A : Type 0} (f : A → Bool) (xs : List A) (x : A) → list_any f (xs ++ x ∷ []) ≡ (list_any f xs || f x)
any_push f [] x = or_false (f x)
  where
    or_false : (b : Bool) → (b || false) ≡ b
    or_false true = refl
    or_false false = refl
any_push f (y ∷ xs) x = ap (λ b. f y || b) (any_push f xs x) ∙ or_assoc (f y) (list_any f xs) (f x)
  where
    or_assoc : (a b c : Bool) → (a || (b || c)) ≡ ((a || b) || c)
    or_assoc true b c = refl
    or_assoc false b c = refl

alone_push : (t : Table) (e : Text × Declared) → Alone t → (is_inp e.1 ≡ true → has_inp t ≡ false) → Alone (t ++ e ∷ [])
alone_push [] e h k = (λ is. refl, tt)
alone_push (x ∷ t) e h k = (λ is. still is (is_inp e.1) refl, alone_push t e h.1 (λ is. right_no (is_inp x.1) (has_inp t) (k is)))
  where
    still : is_inp x.1 ≡ true → (b : Bool) → is_inp e.1 ≡ b → has_inp (t ++ e ∷ []) ≡ false
    still is true w = let a = left_no (is_inp x.1) (has_inp t) (k w) in absurd cc
    still is false w = any_push (λ y. is_inp y.1) t e ∙ rw (h.0 is, w) refl

declares_no : (earlier : List Item) (i : Item) → declared_places earlier i ≡ [] → list_any (are_same_port i) earlier ≡ false
declares_no earlier i h =
    let n = declares i in
    let first : List ℕ = when (is_among n.text (map declares earlier)) n.at in
    let second : List ℕ = when (list_any (are_same_port i) earlier) n.at in
    let third : List ℕ = when (text_eq n.text (codes "PC") && not (is_register i)) n.at in
    let fourth : List ℕ = when (text_eq n.text (codes "instruction") && not (is_rule i)) n.at in
    when_none (list_any (are_same_port i) earlier) n.at (no_right first second (no_left (first ++ second) third (no_left (first ++ second ++ third) fourth h)))

alone_here : (whole : Table) (all earlier : List Item) (t : Table) (i : Item) → has_inp t ≡ list_any is_inp_item earlier → item_name_places whole all earlier i ≡ [] → is_inp (entry t i).1 ≡ true → has_inp t ≡ false
alone_here whole all earlier t i is h k =
    let first = no_left (unknown_places whole earlier i ++ declared_places earlier i ++ parameter_places [] (parameters i)) (flat_map (shared_places all) (parameters i)) h in
    let second = no_left (unknown_places whole earlier i ++ declared_places earlier i) (parameter_places [] (parameters i)) first in
    let third : declared_places earlier i ≡ [] = no_right (unknown_places whole earlier i) (declared_places earlier i) second in
    is ∙ sym (same_any i earlier (sym (item_is t i) ∙ k)) ∙ declares_no earlier i third

alone_from : (whole : Table) (all earlier items : List Item) (t : Table) → has_inp t ≡ list_any is_inp_item earlier → Alone t → name_places_from whole all earlier items ≡ [] → Alone (entries t items)
alone_from whole all earlier [] t is alone h = alone
alone_from whole all earlier (i ∷ items) t is alone h =
    alone_from whole all (earlier ++ i ∷ []) items (t ++ entry t i ∷ [])
    (any_push (λ e. is_inp e.1) t (entry t i) ∙ rw (is, item_is t i) (sym (any_push is_inp_item earlier i)))
    (alone_push t (entry t i) alone (alone_here whole all earlier t i is (no_left (item_name_places whole all earlier i) _ h)))
    (no_right (item_name_places whole all earlier i) _ h)

pub declared_input : (d : Desc) → IsTyped d → (name : Text) (ty : Ty) → declared (table d) name ≡ Some (Declared.Inp ty) → input_type (table d) ≡ Some ty
declared_input d typed name ty h =
    let names : name_places d ≡ [] = none_from (name_places d) (λ at c. typed 4 (omega arith) (By_name at c)) in
    one_input (table d) name ty (alone_from (table d) d.items [] d.items [] refl tt names) h
