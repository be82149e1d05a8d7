-- Where a description was read from a text, its names are such as assembly text may have.
use Rattle.std.proofs.Common.{ℕ, zero, suc, ◌+◌, ◌≡◌, refl, sym, ◌∙◌, ap, subst, Bool, true, false, List, [], ◌∷◌, ◌++◌, map, length, Option, Some, None, Contains, arith, inl, inr, codes}
use Rattle.std.specs.Prelude.{◌&&◌, ◌^◌, nat_le, nat_lt, flat_map, if◌then◌else◌}
use Rattle.std.specs.List.{AllByRecursion, list_all}
use Rattle.std.specs.Cmp.Lexicographic.{bytes_decides}
use Rattle.std.proofs.lemmas.Bool.{and_parts, and_from, or_left}
use Rattle.readings.specs.Symbol.{Symbol, Fixed, Named, Number, Quoted, fixed}
use Rattle.nk_base.specs.Byte.{is_name_start, is_name_byte}
use Rattle.nk_base.specs.declared.number.Ty.{Ty}
use Rattle.nml_tree.specs.declared.tree.PortWord.{PortWord}
use Rattle.nml_tree.specs.declared.tree.PortWord.TheVariants as port
use Rattle.nml_tree.specs.declared.tree.Storage.{Storage}
use Rattle.nml_tree.specs.declared.tree.Item.{Item}
use Rattle.nml_tree.specs.declared.tree.Item.TheVariants as item
use Rattle.nml_tree.specs.declared.tree.Desc.{Desc}
use Rattle.nml_tree.specs.Keyword.{is_keyword}
use Rattle.nml_tree.specs.Spell.{name_spelling, size_spelling, type_spelling}
use Rattle.nml_tree.specs.SpellItems.{storage_word_spelling, item_spelling}
use Rattle.nml_tree.specs.Table.{Text, Table, Declared, declared, table, entry, port_of}
use Rattle.nml_lex.specs.Form as form
use Rattle.nml_lex.specs.Form.{is_within, is_number, is_string, number_worth}
use Rattle.nml_lex.specs.Lexed.{Lexeme, Part, Space, Word, BeginsWith, lexemes}
use Rattle.nml_grammar.specs.Trees.{IsTree, symbol, word_symbol, one_word, unquoted}
use Rattle.attr_exec.proofs.Ports.{placed}
use Rattle.asm_lines.specs.Line.{is_name}
use Rattle.asm_text.specs.Canonical.{AreNamed}

abbrev IsShortName : Text → Type 0
IsShortName text = (form.is_name text ≡ true) × (nat_le (length text) 64 ≡ true)

-- a name among the symbols is one of at most 64 characters
abbrev IsRight : Symbol → Type 0
IsRight (Named at text) = IsShortName text
IsRight _ = Unit {0}

word_right : (at : ℕ) (text : Text) → IsShortName text → IsRight (word_symbol at text)
word_right at text h = by (is_keyword text)
  where
    by : (b : Bool) → IsRight (if b then Fixed at (one_word text) else Named at text)
    by true = tt
    by false = h

other_right : (p : Lexeme) (a b : Bool) → IsRight (if a then Number p.at (number_worth p.text) else if b then Quoted p.at (unquoted p.text) else Fixed p.at p.text)
other_right p true b = tt
other_right p false true = tt
other_right p false false = tt

symbol_right : (p : Lexeme) → is_within p.text ≡ true → IsRight (symbol p)
symbol_right p h = by (form.is_name p.text) refl h
  where
    by : (b : Bool) → form.is_name p.text ≡ b
        → (if b then nat_le (length p.text) 64 else if is_number p.text then nat_lt (number_worth p.text) (2 ^ 64) else if is_string p.text then nat_le (length p.text) 202 else true) ≡ true
        → IsRight (if b then word_symbol p.at p.text else if is_number p.text then Number p.at (number_worth p.text) else if is_string p.text then Quoted p.at (unquoted p.text) else Fixed p.at p.text)
    by true e k = word_right p.at p.text (e, k)
    by false e k = other_right p (is_number p.text) (is_string p.text)

all_right : (parts : List Part) (bytes left : List ℕ) (at : ℕ) → BeginsWith bytes parts left → AllByRecursion IsRight (map symbol (lexemes at parts))
all_right [] bytes left at h = tt
all_right (Space text ∷ parts) bytes left at h = all_right parts h.0 left (at + length text) h.3
all_right (Word text ∷ parts) bytes left at h = (symbol_right (record { at = at; text = text }) h.2.within, all_right parts h.0 left (at + length text) h.3)

all_front : (xs ys : List Symbol) → AllByRecursion IsRight (xs ++ ys) → AllByRecursion IsRight xs
all_front [] ys h = tt
all_front (x ∷ xs) ys h = (h.0, all_front xs ys h.1)

all_back : (xs ys : List Symbol) → AllByRecursion IsRight (xs ++ ys) → AllByRecursion IsRight ys
all_back [] ys h = h
all_back (x ∷ xs) ys h = all_back xs ys h.1

item_right : (items : List Item) (i : Item) → Contains items i → AllByRecursion IsRight (flat_map item_spelling items) → AllByRecursion IsRight (item_spelling i)
item_right [] i c h = absurd (omega (arith, c.1))
item_right (x ∷ items) i (zero, low, is) h = subst (λ (y : Item). AllByRecursion IsRight (item_spelling y)) is (all_front (item_spelling x) (flat_map item_spelling items) h)
item_right (x ∷ items) i (suc k, low, is) h = item_right items i (k, omega (arith, low), is) (all_back (item_spelling x) (flat_map item_spelling items) h)

storage_right : (s : Storage) → AllByRecursion IsRight (item_spelling (item.Storage s)) → IsShortName s.name.text
storage_right s h =
    let word = storage_word_spelling s.word in
    let a = word ++ name_spelling s.name in
    let b = a ++ fixed s.opening (codes "[") in
    let c = b ++ size_spelling s.size in
    let d = c ++ fixed s.comma (codes ",") in
    let e = d ++ type_spelling s.ty in
    (all_back word (name_spelling s.name)
    (all_front a (fixed s.opening (codes "["))
    (all_front b (size_spelling s.size) (all_front c (fixed s.comma (codes ",")) (all_front d (type_spelling s.ty) (all_front e (fixed s.closing (codes "]")) h)))))).0

no_port : (t : Table) (w : PortWord) (ty u : Ty) (n k : ℕ) → port_of t w ty ≡ Declared.Storage n k u → ⊥
no_port t (port.Trn at) ty u n k h = cc
no_port t (port.Inp at) ty u n k h = cc
no_port t (port.Out at) ty u n k h = cc

entry_name : (t : Table) (i : Item) (n k : ℕ) (ty : Ty) → (entry t i).1 ≡ Declared.Storage n k ty → AllByRecursion IsRight (item_spelling i) → IsShortName (entry t i).0
entry_name t (item.Let at m equals minus z) n k ty e h = absurd cc
entry_name t (item.Type at m equals x) n k ty e h = absurd cc
entry_name t (item.Storage s) n k ty e h = storage_right s h
entry_name t (item.Port p) n k ty e h = absurd (no_port t p.word _ ty n k e)
entry_name t (item.OrRule r) n k ty e h = absurd cc
entry_name t (item.OpRule r) n k ty e h = absurd cc
entry_name t (item.ModeRule r) n k ty e h = absurd cc

name_is : (name : Text) → IsShortName name → is_name name ≡ true
name_is [] h = let e = h.0 in absurd cc
name_is (c ∷ cs) h =
    let p = and_parts (is_name_start c) (list_all is_name_byte cs) h.0 in
    and_from (is_name_start c && list_all is_name_byte (c ∷ cs)) _ (and_from (is_name_start c) _ p.0 (and_from (is_name_byte c) (list_all is_name_byte cs) (or_left _ _ p.0) p.1)) h.1

pub storage_names : (d : Desc) (bytes : List ℕ) → IsTree bytes d → AreNamed (table d)
storage_names d bytes tree name n size ty is =
    elim (placed d.items [] name (Declared.Storage n size ty) is) [
      | inl none ↦ absurd cc
      | inr f ↦
          let lexed : AllByRecursion IsRight (map symbol tree.tokens) = subst (λ ps. AllByRecursion IsRight (map symbol ps)) (sym tree.has.is) (all_right tree.has.parts bytes tree.has.left 0 tree.has.begins) in
          let spelled : AllByRecursion IsRight (flat_map item_spelling d.items) = subst (AllByRecursion IsRight) tree.spells.spelled lexed in
          let right = entry_name f.0 f.1 n size ty f.5 (item_right d.items f.1 f.4 spelled) in
          name_is name (subst IsShortName (sym ((bytes_decides name (entry f.0 f.1).0).0 f.6)) right)
    ]
