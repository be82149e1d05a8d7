-- Items that are spelled alike before rests that don't make them longer are one, and so are the rests. So no symbols spell two
-- descriptions.
use Rattle.std.proofs.Common.{◌≡◌, ℕ, List, [], ◌∷◌, ◌++◌, Option, Some, None, refl, ap, sym, ◌∙◌, arith}
use Rattle.std.specs.Prelude.{codes, flat_map, All}
use Rattle.std.proofs.lemmas.List.Elements.{All-tail, All-head}
use Rattle.nml_tree.specs.declared.names.Name.{Name}
use Rattle.nml_tree.specs.declared.names.Number.{Number}
use Rattle.nml_tree.specs.declared.attributes.Attrs.{Attrs}
use Rattle.nml_tree.specs.declared.tree.StorageWord.{StorageWord}
use Rattle.nml_tree.specs.declared.tree.PortWord.{PortWord}
use Rattle.nml_tree.specs.declared.tree.RuleWord.{RuleWord}
use Rattle.nml_tree.specs.declared.tree.Storage.{Storage}
use Rattle.nml_tree.specs.declared.tree.Port.{Port}
use Rattle.nml_tree.specs.declared.tree.OrRule.{OrRule}
use Rattle.nml_tree.specs.declared.tree.OpRule.{OpRule}
use Rattle.nml_tree.specs.declared.tree.ModeRule.{ModeRule}
use Rattle.nml_tree.specs.declared.tree.Item.{Item}
use Rattle.nml_tree.specs.declared.tree.Desc.{Desc}
use Rattle.readings.specs.Symbol.{Symbol, beyond}
use Rattle.nml_tree.specs.Formula.{Formula, formula}
use Rattle.nml_tree.specs.Level.{IsLeveledItem}
use Rattle.nml_tree.specs.Spell.{name_spelling, type_spelling, formula_spelling}
use Rattle.nml_tree.specs.SpellItems.{attrs_spelling, further_name_spelling, storage_word_spelling, port_word_spelling, rule_word_spelling, item_spelling, spelling}
use Rattle.nml_tree.proofs.Back.{one_expr}
use Rattle.readings.specs.Reading.{Found}
use Rattle.nml_grammar.specs.Reading.{IsEnd}
use Rattle.readings.proofs.Symbols.{none_is_none}
use Rattle.nml_grammar.proofs.Complete.{one_front}
use Rattle.nml_grammar.proofs.OneAttribute.{One, many, word_read, one_word, name_is, number_is, one_size, one_type, one_pars, one_attrs}
use Rattle.nml_grammar.proofs.ItemFront.{storage_tail, port_tail, or_tail, flat-Storage, flat-Port, flat-Or, flat-Op, flat-Mode, kind, kind_of, Next, front}
use Rattle.nml_tree.specs.declared.tree.StorageWord.TheVariants as storage_word
use Rattle.nml_tree.specs.declared.tree.PortWord.TheVariants as port_word
use Rattle.nml_tree.specs.declared.tree.RuleWord.TheVariants as rule_word
use Rattle.nml_tree.specs.declared.tree.Item.TheVariants as item

-- ---- the first words

-- the words of storages, ports and rules
abbrev storage_words : List (List ℕ × (ℕ → StorageWord))
storage_words = (codes "mem", storage_word.Mem) ∷ (codes "reg", storage_word.Reg) ∷ []

abbrev port_words : List (List ℕ × (ℕ → PortWord))
port_words = (codes "trn", port_word.Trn) ∷ (codes "inp", port_word.Inp) ∷ (codes "out", port_word.Out) ∷ []

abbrev rule_words : List (List ℕ × (ℕ → RuleWord))
rule_words = (codes "op", rule_word.Op) ∷ (codes "mode", rule_word.Mode) ∷ []

storage_word_front : (w : StorageWord) (r : List Symbol) → word_read storage_words (storage_word_spelling w ++ r) ≡ Found w r
storage_word_front (storage_word.Mem at) r = refl
storage_word_front (storage_word.Reg at) r = refl

port_word_front : (w : PortWord) (r : List Symbol) → word_read port_words (port_word_spelling w ++ r) ≡ Found w r
port_word_front (port_word.Trn at) r = refl
port_word_front (port_word.Inp at) r = refl
port_word_front (port_word.Out at) r = refl

rule_word_front : (w : RuleWord) (r : List Symbol) → word_read rule_words (rule_word_spelling w ++ r) ≡ Found w r
rule_word_front (rule_word.Op at) r = refl
rule_word_front (rule_word.Mode at) r = refl

one_storage_word : One storage_word_spelling
one_storage_word = one_word storage_word_spelling storage_words storage_word_front

one_port_word : One port_word_spelling
one_port_word = one_word port_word_spelling port_words port_word_front

one_rule_word : One rule_word_spelling
one_rule_word = one_word rule_word_spelling rule_words rule_word_front

-- ---- each kind of item

-- a constant, with a minus or without
one_let : (at : ℕ) (n : Name) (eq : ℕ) (minus : Option ℕ) (z : Number) (at2 : ℕ) (n2 : Name) (eq2 : ℕ) (minus2 : Option ℕ) (z2 : Number) (r s : List Symbol)
    → item_spelling (item.Let at n eq minus z) ++ r ≡ item_spelling (item.Let at2 n2 eq2 minus2 z2) ++ s → (item.Let at n eq minus z ≡ item.Let at2 n2 eq2 minus2 z2) × (r ≡ s)
one_let at n eq None z at2 n2 eq2 None z2 r s e =
    let names = name_is n n2 (cc) (cc) in
    let numbers = number_is z z2 (cc) (cc) in
    (cc, cc)
one_let at n eq (Some m) z at2 n2 eq2 (Some m2) z2 r s e =
    let names = name_is n n2 (cc) (cc) in
    let numbers = number_is z z2 (cc) (cc) in
    (cc, cc)
one_let at n eq None z at2 n2 eq2 (Some m) z2 r s e = absurd (cc)
one_let at n eq (Some m) z at2 n2 eq2 None z2 r s e = absurd (cc)

-- a storage and a port
one_storage : (x y : Storage) (r s : List Symbol) → item_spelling (item.Storage x) ++ r ≡ item_spelling (item.Storage y) ++ s → (x ≡ y) × (r ≡ s)
one_storage x y r s e =
    let w = one_storage_word x.word y.word (storage_tail x r) (storage_tail y s) (sym (flat-Storage x r) ∙ e ∙ flat-Storage y s) in
    let d = w.1 in
    let names = name_is x.name y.name (cc) (cc) in
    let openings : x.opening ≡ y.opening = cc in
    let n = one_size x.size y.size (Symbol.Fixed x.comma (codes ",") ∷ (type_spelling x.ty ++ (Symbol.Fixed x.closing (codes "]") ∷ r))) (Symbol.Fixed y.comma (codes ",") ∷ (type_spelling y.ty ++ (Symbol.Fixed y.closing (codes "]") ∷ s)))
    (ap (λ ss. beyond (beyond ss)) d) in
    let f = n.1 in
    let commas : x.comma ≡ y.comma = cc in
    let t = one_type x.ty y.ty (Symbol.Fixed x.closing (codes "]") ∷ r) (Symbol.Fixed y.closing (codes "]") ∷ s) (ap beyond f) in
    let g = t.1 in
    let closings : x.closing ≡ y.closing = cc in
    (λ i. record { word = w.0 i; name = names i; opening = openings i; size = n.0 i; comma = commas i; ty = t.0 i; closing = closings i }, ap beyond g)

one_port : (x y : Port) (r s : List Symbol) → item_spelling (item.Port x) ++ r ≡ item_spelling (item.Port y) ++ s → (x ≡ y) × (r ≡ s)
one_port x y r s e =
    let w = one_port_word x.word y.word (port_tail x r) (port_tail y s) (sym (flat-Port x r) ∙ e ∙ flat-Port y s) in
    let d = w.1 in
    let names = name_is x.name y.name (cc) (cc) in
    let openings : x.opening ≡ y.opening = cc in
    let t = one_type x.ty y.ty (Symbol.Fixed x.closing (codes "]") ∷ r) (Symbol.Fixed y.closing (codes "]") ∷ s) (ap (λ ss. beyond (beyond ss)) d) in
    let g = t.1 in
    let closings : x.closing ≡ y.closing = cc in
    (λ i. record { word = w.0 i; name = names i; opening = openings i; ty = t.0 i; closing = closings i }, ap beyond g)

-- a further alternative
one_further_name : (x y : ℕ × Name) (r s : List Symbol) → further_name_spelling x ++ r ≡ further_name_spelling y ++ s → (x ≡ y) × (r ≡ s)
one_further_name (c, n) (d, m) r s e =
    let names = name_is n m (cc) (cc) in
    let same : c ≡ d = cc in
    (λ i. (same i, names i), cc)

-- alternatives end where no bar follows
one_or : (x y : OrRule) (r s : List Symbol) → Next r → Next s → item_spelling (item.OrRule x) ++ r ≡ item_spelling (item.OrRule y) ++ s → (x ≡ y) × (r ≡ s)
one_or x y r s h i e =
    let w = one_rule_word x.word y.word (or_tail x r) (or_tail y s) (sym (flat-Or x r) ∙ e ∙ flat-Or y s) in
    let d = w.1 in
    let names = name_is x.name y.name (cc) (cc) in
    let firsts = name_is x.first y.first (cc) (cc) in
    let marks : x.equals ≡ y.equals = cc in
    let f = many further_name_spelling (codes "|") (λ _. Unit {0}) (λ n t. ((n.0, name_spelling n.1 ++ t), refl)) (λ n t. tt) (λ n m t u _ _ g. one_further_name n m t u g)
    x.rest y.rest r s h.1 i.1 tt tt (ap (λ ss. beyond (beyond (beyond ss))) d) in
    (λ j. record { word = w.0 j; name = names j; equals = marks j; first = firsts j; rest = f.0 j }, f.1)

-- a rule without a value
one_op : (x y : OpRule) (r s : List Symbol) → IsLeveledItem (item.OpRule x) → IsLeveledItem (item.OpRule y) → Next r → Next s → item_spelling (item.OpRule x) ++ r ≡ item_spelling (item.OpRule y) ++ s → (x ≡ y) × (r ≡ s)
one_op x y r s l m h i e =
    let words : x.op ≡ y.op = cc in
    let names = name_is x.name y.name (cc) (cc) in
    let openings : x.opening ≡ y.opening = cc in
    let f = one_pars x.pars y.pars x.closing y.closing (attrs_spelling x.attrs ++ r) (attrs_spelling y.attrs ++ s) (sym (flat-Op x r) ∙ ap (λ ss. beyond (beyond (beyond ss))) e ∙ flat-Op y s) in
    let a = one_attrs x.attrs y.attrs r s l m h.0 i.0 f.2 in
    (λ j. record { op = words j; name = names j; opening = openings j; pars = f.0 j; closing = f.1 j; attrs = a.0 j }, a.1)

-- the value of a mode ends before its attributes
ends : (x : Formula) (a : Attrs) (r : List Symbol) → IsEnd 0 x (attrs_spelling a ++ r)
ends x a r = record { stops = refl; no_index = λ _. refl }

-- a rule with a value
one_mode : (x y : ModeRule) (r s : List Symbol) → IsLeveledItem (item.ModeRule x) → IsLeveledItem (item.ModeRule y) → Next r → Next s → item_spelling (item.ModeRule x) ++ r ≡ item_spelling (item.ModeRule y) ++ s → (x ≡ y) × (r ≡ s)
one_mode x y r s l m h i e =
    let words : x.mode ≡ y.mode = cc in
    let names = name_is x.name y.name (cc) (cc) in
    let openings : x.opening ≡ y.opening = cc in
    let v : List Symbol = formula_spelling (formula x.value) ++ (attrs_spelling x.attrs ++ r) in
    let w : List Symbol = formula_spelling (formula y.value) ++ (attrs_spelling y.attrs ++ s) in
    let f = one_pars x.pars y.pars x.closing y.closing (Symbol.Fixed x.equals (codes "=") ∷ v) (Symbol.Fixed y.equals (codes "=") ∷ w) (sym (flat-Mode x r) ∙ ap (λ ss. beyond (beyond (beyond ss))) e ∙ flat-Mode y s) in
    let d = f.2 in
    let marks : x.equals ≡ y.equals = cc in
    let g = one_front 0 (formula x.value) (formula y.value) (attrs_spelling x.attrs ++ r) (attrs_spelling y.attrs ++ s) l.0 m.0 (omega arith) (omega arith)
    (ends (formula x.value) x.attrs r) (ends (formula y.value) y.attrs s) (ap beyond d) in
    let values = one_expr x.value y.value g.0 in
    let a = one_attrs x.attrs y.attrs r s l.1 m.1 h.0 i.0 g.1 in
    (λ j. record { mode = words j; name = names j; opening = openings j; pars = f.0 j; closing = f.1 j; equals = marks j; value = values j; attrs = a.0 j }, a.1)

-- ---- every item

-- items of one kind, spelled alike
alike : (x y : Item) (r s : List Symbol) → IsLeveledItem x → IsLeveledItem y → Next r → Next s → Some (kind_of x) ≡ Some (kind_of y) → item_spelling x ++ r ≡ item_spelling y ++ s → (x ≡ y) × (r ≡ s)
alike (item.Let at n eq minus z) (item.Let at2 n2 eq2 minus2 z2) r s l m h i k e = one_let at n eq minus z at2 n2 eq2 minus2 z2 r s e
alike (item.Type at n eq t) (item.Type at2 n2 eq2 u) r s l m h i k e =
    let names = name_is n n2 (cc) (cc) in
    let f = one_type t u r s (ap (λ ss. beyond (beyond (beyond ss))) e) in
    (cc, f.1)
alike (item.Storage x) (item.Storage y) r s l m h i k e =
    let f = one_storage x y r s e in
    (ap item.Storage f.0, f.1)
alike (item.Port x) (item.Port y) r s l m h i k e =
    let f = one_port x y r s e in
    (ap item.Port f.0, f.1)
alike (item.OrRule x) (item.OrRule y) r s l m h i k e =
    let f = one_or x y r s h i e in
    (ap item.OrRule f.0, f.1)
alike (item.OpRule x) (item.OpRule y) r s l m h i k e =
    let f = one_op x y r s l m h i e in
    (ap item.OpRule f.0, f.1)
alike (item.ModeRule x) (item.ModeRule y) r s l m h i k e =
    let f = one_mode x y r s l m h i e in
    (ap item.ModeRule f.0, f.1)
alike (item.Let at n eq minus z) y r s l m h i k e = absurd (cc)
alike (item.Type at n eq t) y r s l m h i k e = absurd (cc)
alike (item.Storage x) y r s l m h i k e = absurd (cc)
alike (item.Port x) y r s l m h i k e = absurd (cc)
alike (item.OrRule x) y r s l m h i k e = absurd (cc)
alike (item.OpRule x) y r s l m h i k e = absurd (cc)
alike (item.ModeRule x) y r s l m h i k e = absurd (cc)

-- two items before rests that make neither longer are one
pub one_item : (x y : Item) (r s : List Symbol) → IsLeveledItem x → IsLeveledItem y → Next r → Next s → item_spelling x ++ r ≡ item_spelling y ++ s → (x ≡ y) × (r ≡ s)
one_item x y r s l m h i e =
    let a = front x r in
    let b = front y s in
    alike x y r s l m h i (sym a.0 ∙ ap kind e ∙ b.0) e

-- ---- one description

-- an item has an end before further ones, and before nothing
pub next : (xs : List Item) → Next (flat_map item_spelling xs)
next [] = (refl, refl)
next (x ∷ xs) = (front x (flat_map item_spelling xs)).1

-- two lists of items spelled alike are one
items : (xs ys : List Item) → All IsLeveledItem xs → All IsLeveledItem ys → flat_map item_spelling xs ≡ flat_map item_spelling ys → xs ≡ ys
items [] [] l m e = refl
items [] (y ∷ ys) l m e =
    let b = front y (flat_map item_spelling ys) in
    none_is_none (kind_of y) (ap kind e ∙ b.0)
items (x ∷ xs) [] l m e =
    let a = front x (flat_map item_spelling xs) in
    none_is_none (kind_of x) (ap kind (sym e) ∙ a.0)
items (x ∷ xs) (y ∷ ys) l m e =
    let a = one_item x y (flat_map item_spelling xs) (flat_map item_spelling ys) (All-head IsLeveledItem x xs l) (All-head IsLeveledItem y ys m) (next xs) (next ys) e in
    let b = items xs ys (All-tail IsLeveledItem x xs l) (All-tail IsLeveledItem y ys m) a.1 in
    λ i. a.0 i ∷ b i

pub unique_tree : (d e : Desc) → All IsLeveledItem d.items → All IsLeveledItem e.items → spelling d ≡ spelling e → d ≡ e
unique_tree d e l m is = ap (λ (xs : List Item). record { items = xs }) (items d.items e.items l m is)
