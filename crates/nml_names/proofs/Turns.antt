-- The items, one after the other.
use Rattle.std.proofs.Common.{◌≡◌, ℕ, ◌+◌, ◌<◌, ◌≤◌, Bool, true, false, ◌||◌, List, [], ◌∷◌, ◌++◌, take, drop, length, get_or, Option, None, refl, ap, sym, ◌∙◌}
use Rattle.std.specs.List.{list_any}
use Rattle.std.specs.Map.{lookup}
use Rattle.std.proofs.lemmas.List.{take_more, drop_all}
use Rattle.std.proofs.lemmas.List.Folds.{list_any-append}
use Rattle.nk_base.specs.Text.{text_eq}
use Rattle.nml_tree.specs.declared.tree.Item.{Item}
use Rattle.nml_tree.specs.declared.tree.Desc.{Desc}
use Rattle.nml_tree.specs.Table.{Text, table}
use Rattle.nml_tree.specs.Places.{least_of}
use Rattle.nml_tree.specs.NameFault.{item_name_places, name_places_from, name_places}
use Rattle.nml_tree.proofs.Drops.{dropped}
use Rattle.nml_names.specs.declared.names.Declaration.{Declaration}
use Rattle.nml_names.specs.Note.{noted}
use Rattle.nml_names.specs.Naming.{declaration}
use Rattle.nml_names.specs.Found.{is_inp, is_out, item_found}
use Rattle.nml_names.proofs.Notes.{noted_append, noted_is}
use Rattle.nml_names.proofs.Items.{item_places_is}

-- of the items before this number: what was found, and which ports were seen
pub record Looked (d : Desc) (k : ℕ) (found : Option ℕ) (inp out : Bool) : Type 0 where
  pub rest : noted found (name_places_from (table d) d.items (take k d.items) (drop k d.items)) ≡ least_of (name_places d)
  pub input : inp ≡ list_any is_inp (take k d.items)
  pub output : out ≡ list_any is_out (take k d.items)

pub looked_none : (d : Desc) → Looked d 0 None false false
looked_none d = record { rest = noted_is None (name_places d); input = refl; output = refl }

or_false : (b : Bool) → (b || false) ≡ b
or_false true = refl
or_false false = refl

one_port : (is : Item → Bool) (items : List Item) (k : ℕ) (i : Item) (before : Bool) → k < length items → i ≡ get_or items k i → before ≡ list_any is (take k items)
    → (before || is i) ≡ list_any is (take (k + 1) items)
one_port is items k i before low at was = rw (was, take_more items k i low, ← at, list_any-append is (take k items) (i ∷ []), or_false (is i)) refl

pub looked_more : (names : List (Text × Declaration)) (d : Desc) (items : List Item) (k : ℕ) (i : Item) (found next : Option ℕ) (inp out moreinp moreout : Bool)
    → Looked d k found inp out → items ≡ d.items → ((q : Text) → lookup (text_eq q) names ≡ declaration 0 items q) → k < length items → i ≡ get_or items k i
    → next ≡ item_found names k inp out i found → moreinp ≡ (inp || is_inp i) → moreout ≡ (out || is_out i) → Looked d (k + 1) next moreinp moreout
looked_more names d items k i found next inp out moreinp moreout l of same low at is mi mo =
    let low' : k < length d.items = rw (← of) low in
    let at' : i ≡ get_or d.items k i = rw (← of) at in
    let found' : next ≡ noted found (item_name_places (table d) d.items (take k d.items) i) =
    is ∙ rw (l.input, l.output) (item_places_is names d k i found (rw (← of) same)) in
    record {
      rest =
          rw (found', take_more d.items k i low', ← at')
          (sym (noted_append found (item_name_places (table d) d.items (take k d.items) i) (name_places_from (table d) d.items (take k d.items ++ i ∷ []) (drop (k + 1) d.items)))
          ∙ ap (λ xs. noted found (name_places_from (table d) d.items (take k d.items) xs)) (sym (dropped d.items k i low' at'))
          ∙ l.rest);
      input = mi ∙ one_port is_inp d.items k i inp low' at' l.input;
      output = mo ∙ one_port is_out d.items k i out low' at' l.output;
    }

pub looked_all : (d : Desc) (items : List Item) (k : ℕ) (found : Option ℕ) (inp out : Bool) → Looked d k found inp out → items ≡ d.items → length items ≤ k → found ≡ least_of (name_places d)
looked_all d items k found inp out l of far =
    let far' : length d.items ≤ k = rw (← of) far in
    ap (λ xs. noted found (name_places_from (table d) d.items (take k d.items) xs)) (sym (drop_all k d.items far')) ∙ l.rest
