-- The spelling of an item before a rest, and what its front tells: the item's kind, and that neither an action nor a bar is there.
use Rattle.std.proofs.Common.{◌≡◌, ℕ, List, [], ◌∷◌, ◌++◌, Option, Some, None, refl, sym, ◌∙◌, subst, append_assoc}
use Rattle.std.specs.Prelude.{codes, flat_map}
use Rattle.nml_tree.specs.declared.tree.StorageWord.{StorageWord}
use Rattle.nml_tree.specs.declared.tree.PortWord.{PortWord}
use Rattle.nml_tree.specs.declared.tree.RuleWord.{RuleWord}
use Rattle.nml_tree.specs.declared.tree.Storage.{Storage}
use Rattle.nml_tree.specs.declared.tree.Port.{Port}
use Rattle.nml_tree.specs.declared.tree.OrRule.{OrRule}
use Rattle.nml_tree.specs.declared.tree.OpRule.{OpRule}
use Rattle.nml_tree.specs.declared.tree.ModeRule.{ModeRule}
use Rattle.nml_tree.specs.declared.tree.Item.{Item}
use Rattle.readings.specs.Symbol.{Symbol, fixed, beyond}
use Rattle.nml_tree.specs.Formula.{formula}
use Rattle.nml_tree.specs.Spell.{name_spelling, size_spelling, type_spelling, formula_spelling}
use Rattle.nml_tree.specs.SpellItems.{attrs_spelling, pars_spelling, further_name_spelling, storage_word_spelling, port_word_spelling, rule_word_spelling, item_spelling}
use Rattle.readings.specs.Reading.{behind, looked_up}
use Rattle.nml_grammar.proofs.Flat.{join4, join6, join7}
use Rattle.nml_grammar.proofs.OneAttribute.{NoAction}
use Rattle.nml_tree.specs.declared.tree.StorageWord.TheVariants as storage_word
use Rattle.nml_tree.specs.declared.tree.PortWord.TheVariants as port_word
use Rattle.nml_tree.specs.declared.tree.RuleWord.TheVariants as rule_word
use Rattle.nml_tree.specs.declared.tree.Item.TheVariants as item

-- ---- the spelling of an item before a rest

-- lists one behind the other
join8 : (a b c d e f g h : List Symbol) → ((((((a ++ b) ++ c) ++ d) ++ e) ++ f) ++ g) ++ h ≡ a ++ (b ++ (c ++ (d ++ (e ++ (f ++ (g ++ h))))))
join8 a b c d e f g h = join7 (a ++ b) c d e f g h ∙ append_assoc a b (c ++ (d ++ (e ++ (f ++ (g ++ h)))))

-- what stands behind the first word of a storage, of a port, of alternatives
abbrev pub storage_tail : Storage → List Symbol → List Symbol
storage_tail x r =
    Symbol.Named x.name.at x.name.text ∷ Symbol.Fixed x.opening (codes "[") ∷ (size_spelling x.size ++ (Symbol.Fixed x.comma (codes ",")
    ∷ (type_spelling x.ty ++ (Symbol.Fixed x.closing (codes "]") ∷ r))))

abbrev pub port_tail : Port → List Symbol → List Symbol
port_tail x r = Symbol.Named x.name.at x.name.text ∷ Symbol.Fixed x.opening (codes "[") ∷ (type_spelling x.ty ++ (Symbol.Fixed x.closing (codes "]") ∷ r))

abbrev pub or_tail : OrRule → List Symbol → List Symbol
or_tail x r = Symbol.Named x.name.at x.name.text ∷ Symbol.Fixed x.equals (codes "=") ∷ Symbol.Named x.first.at x.first.text ∷ (flat_map further_name_spelling x.rest ++ r)

-- the first word, and what stands behind it
pub flat-Storage : (x : Storage) (r : List Symbol) → item_spelling (item.Storage x) ++ r ≡ storage_word_spelling x.word ++ storage_tail x r
flat-Storage x r =
    join8 (storage_word_spelling x.word) (name_spelling x.name) (fixed x.opening (codes "[")) (size_spelling x.size) (fixed x.comma (codes ",")) (type_spelling x.ty) (fixed x.closing (codes "]")) r

pub flat-Port : (x : Port) (r : List Symbol) → item_spelling (item.Port x) ++ r ≡ port_word_spelling x.word ++ port_tail x r
flat-Port x r = join6 (port_word_spelling x.word) (name_spelling x.name) (fixed x.opening (codes "[")) (type_spelling x.ty) (fixed x.closing (codes "]")) r

pub flat-Or : (x : OrRule) (r : List Symbol) → item_spelling (item.OrRule x) ++ r ≡ rule_word_spelling x.word ++ or_tail x r
flat-Or x r = join6 (rule_word_spelling x.word) (name_spelling x.name) (fixed x.equals (codes "=")) (name_spelling x.first) (flat_map further_name_spelling x.rest) r

-- what stands behind the opening parenthesis of a rule with parameters
abbrev pub op_tail : OpRule → List Symbol → List Symbol
op_tail x r = pars_spelling x.pars ++ (Symbol.Fixed x.closing (codes ")") ∷ (attrs_spelling x.attrs ++ r))

pub flat-Op : (x : OpRule) (r : List Symbol) → beyond (beyond (beyond (item_spelling (item.OpRule x) ++ r))) ≡ op_tail x r
flat-Op x r = join4 (pars_spelling x.pars) (fixed x.closing (codes ")")) (attrs_spelling x.attrs) r

abbrev pub mode_tail : ModeRule → List Symbol → List Symbol
mode_tail x r =
    pars_spelling x.pars ++ (Symbol.Fixed x.closing (codes ")") ∷ Symbol.Fixed x.equals (codes "=") ∷ (formula_spelling (formula x.value) ++ (attrs_spelling x.attrs ++ r)))

pub flat-Mode : (x : ModeRule) (r : List Symbol) → beyond (beyond (beyond (item_spelling (item.ModeRule x) ++ r))) ≡ mode_tail x r
flat-Mode x r = join6 (pars_spelling x.pars) (fixed x.closing (codes ")")) (fixed x.equals (codes "=")) (formula_spelling (formula x.value)) (attrs_spelling x.attrs) r

-- ---- the kind of an item, which its first symbol and its third tell

pub data Kind : Type 0 where
  Letting : Kind
  Typing : Kind
  Storing : Kind
  Porting : Kind
  Alternatives : Kind
  Operation : Kind
  Mode : Kind

-- the kind of each first word, alternatives aside
abbrev pub kinds : List (List ℕ × Kind)
kinds =
    (codes "let", Letting) ∷ (codes "type", Typing) ∷ (codes "mem", Storing) ∷ (codes "reg", Storing) ∷ (codes "trn", Porting) ∷ (codes "inp", Porting)
    ∷ (codes "out", Porting) ∷ (codes "op", Operation) ∷ (codes "mode", Mode) ∷ []

-- a rule of alternatives has `=` behind its name
abbrev pub rule_kind : Kind → Option (ℕ × List Symbol) → Kind
rule_kind k None = k
rule_kind k (Some z) = Alternatives

-- the kind by the first word's entry and what stands behind that word
abbrev pub kind_behind : List Symbol → Option Kind → Option Kind
kind_behind ss None = None
kind_behind ss (Some Operation) = Some (rule_kind Operation (behind (codes "=") (beyond ss)))
kind_behind ss (Some Mode) = Some (rule_kind Mode (behind (codes "=") (beyond ss)))
kind_behind ss (Some k) = Some k

-- the kind of the item in front
abbrev pub kind : List Symbol → Option Kind
kind [] = None
kind (Symbol.Fixed at text ∷ ss) = kind_behind ss (looked_up kinds text)
kind (Symbol.Named at text ∷ ss) = None
kind (Symbol.Number at value ∷ ss) = None
kind (Symbol.Quoted at text ∷ ss) = None

-- the kind of an item
abbrev pub kind_of : Item → Kind
kind_of (item.Let at n equals minus z) = Letting
kind_of (item.Type at n equals t) = Typing
kind_of (item.Storage x) = Storing
kind_of (item.Port x) = Porting
kind_of (item.OrRule x) = Alternatives
kind_of (item.OpRule x) = Operation
kind_of (item.ModeRule x) = Mode

-- neither an action nor a bar is in front
abbrev pub Next : List Symbol → Type 0
Next ss = NoAction ss × (behind (codes "|") ss ≡ None)

-- what the front of an item's spelling tells
abbrev pub Front : List Symbol → Kind → Type 0
Front ss k = (kind ss ≡ Some k) × Next ss

-- those whose first word is one of several
storage_front : (w : StorageWord) (ss : List Symbol) → Front (storage_word_spelling w ++ ss) Storing
storage_front (storage_word.Mem at) ss = (refl, (refl, refl))
storage_front (storage_word.Reg at) ss = (refl, (refl, refl))

port_front : (w : PortWord) (ss : List Symbol) → Front (port_word_spelling w ++ ss) Porting
port_front (port_word.Trn at) ss = (refl, (refl, refl))
port_front (port_word.Inp at) ss = (refl, (refl, refl))
port_front (port_word.Out at) ss = (refl, (refl, refl))

or_front : (w : RuleWord) (x : OrRule) (r : List Symbol) → Front (rule_word_spelling w ++ or_tail x r) Alternatives
or_front (rule_word.Op at) x r = (refl, (refl, refl))
or_front (rule_word.Mode at) x r = (refl, (refl, refl))

-- every item
pub front : (x : Item) (r : List Symbol) → Front (item_spelling x ++ r) (kind_of x)
front (item.Let at n equals minus z) r = (refl, (refl, refl))
front (item.Type at n equals t) r = (refl, (refl, refl))
front (item.Storage x) r = subst (λ ss. Front ss Storing) (sym (flat-Storage x r)) (storage_front x.word (storage_tail x r))
front (item.Port x) r = subst (λ ss. Front ss Porting) (sym (flat-Port x r)) (port_front x.word (port_tail x r))
front (item.OrRule x) r = subst (λ ss. Front ss Alternatives) (sym (flat-Or x r)) (or_front x.word x r)
front (item.OpRule x) r = (refl, (refl, refl))
front (item.ModeRule x) r = (refl, (refl, refl))
