-- The reading of items keeps the law, and what stands behind an item in a description doesn't make it longer.
use Rattle.std.proofs.Common.{◌≡◌, ◌⊎◌, inl, inr, ℕ, ◌≤◌, List, [], ◌∷◌, ◌++◌, Option, Some, None, refl, subst, arith, lit≤}
use Rattle.std.specs.Prelude.{codes}
use Rattle.nml_tree.specs.declared.names.Name.{Name}
use Rattle.nml_tree.specs.declared.attributes.Arg.{Arg}
use Rattle.nml_tree.specs.declared.attributes.Action.{Action}
use Rattle.nml_tree.specs.declared.attributes.Attrs.{Attrs}
use Rattle.nml_tree.specs.declared.attributes.Template.{Template}
use Rattle.nml_tree.specs.declared.tree.TypeExpr.{TypeExpr}
use Rattle.nml_tree.specs.declared.tree.Par.{Par}
use Rattle.nml_tree.specs.declared.tree.Pars.{Pars}
use Rattle.nml_tree.specs.declared.tree.StorageWord.{StorageWord}
use Rattle.nml_tree.specs.declared.tree.PortWord.{PortWord}
use Rattle.nml_tree.specs.declared.tree.RuleWord.{RuleWord}
use Rattle.nml_tree.specs.declared.tree.Item.{Item}
use Rattle.readings.specs.Symbol.{Symbol}
use Rattle.nml_tree.specs.Level.{IsLeveledItem}
use Rattle.nml_tree.specs.Depth.{args_depth, template_depth, attrs_depth, type_depth, further_pars_depth, pars_depth, item_depth, depth_limit}
use Rattle.nml_tree.specs.SpellItems.{item_spelling}
use Rattle.readings.specs.Reading.{behind}
use Rattle.nml_grammar.specs.ReadingItems.{Opening, Letting, Typing, Storing, Porting, Operation, Moding, openings, behind_opening, op_rule, mode_rule, item}
use Rattle.readings.proofs.Symbols.{Each}
use Rattle.nml_grammar.proofs.ItemFront.{Next}
use Rattle.readings.specs.Lawful.{IsReading, Any, IsMade}
use Rattle.readings.proofs.Combining.{Behind}
use Rattle.readings.proofs.CombiningWords.{Word, ToldWord, made_front, worded_law}
use Rattle.nml_grammar.proofs.LawfulActions.{action_ends, attrs_good}
use Rattle.nml_grammar.proofs.LawfulParts.{item_ends, item_tail, let_of, let_law, type_of, type_item_law, Stored, storage_of, storage_law, Ported, port_of, port_law}
use Rattle.nml_grammar.proofs.LawfulRules.{item_inside, Operated, op_of, op_good, op_law, Moded, mode_of, mode_good, mode_law, Alternatives, or_of, rule_law}
use Rattle.nml_tree.specs.declared.attributes.Template.TheVariants as templates
use Rattle.nml_tree.specs.declared.tree.TypeExpr.TheVariants as types
use Rattle.nml_tree.specs.declared.tree.StorageWord.TheVariants as storage_words
use Rattle.nml_tree.specs.declared.tree.PortWord.TheVariants as port_words
use Rattle.nml_tree.specs.declared.tree.RuleWord.TheVariants as rule_words
use Rattle.nml_tree.specs.declared.tree.Item.TheVariants as items

-- ---- depths that no item exceeds

-- a type
two_types : (t : TypeExpr) → type_depth t ≤ 2
two_types (types.Bool at) = lit≤ tt
two_types (types.Card at p n q) = lit≤ tt
two_types (types.Int at p n q) = lit≤ tt
two_types (types.Fix at p n c m q) = lit≤ tt
two_types (types.Float at p n c m q) = lit≤ tt
two_types (types.Name n) = lit≤ tt

-- the types of further parameters
two_further : (ps : List (ℕ × Par)) → further_pars_depth ps ≤ 2
two_further [] = lit≤ tt
two_further ((comma, p) ∷ ps) = omega (arith, two_types p.ty, two_further ps)

-- parameters
three_pars : (ps : Option Pars) → pars_depth ps ≤ 3
three_pars None = lit≤ tt
three_pars (Some ps) = omega (arith, two_types ps.first.ty, two_further ps.rest)

-- arguments
one_argument : (args : List (ℕ × Arg)) → args_depth args ≤ 1
one_argument [] = lit≤ tt
one_argument (a ∷ args) = lit≤ tt

-- a text
two_texts : (t : Template) → template_depth t ≤ 2
two_texts (templates.Plain q) = lit≤ tt
two_texts (templates.Part n dot a) = lit≤ tt
two_texts (templates.Format at p q args r) = omega (arith, one_argument args)

-- attributes whose action may be read
attrs_within : (a : Attrs) → attrs_good a → attrs_depth a ≤ 199
attrs_within a g = omega (arith, two_texts a.syntax_text, two_texts a.image_text, g.shallow)

-- ---- items that may be read

pub record IsGoodItem (x : Item) : Type 0 where
  pub leveled : IsLeveledItem x
  pub shallow : item_depth x ≤ depth_limit

-- a type under a name may be read
good_type : (at : ℕ) (n : Name) (eq : ℕ) (t : TypeExpr) → IsGoodItem (items.Type at n eq t)
good_type at n eq t = record { leveled = tt; shallow = omega (arith, two_types t) }

-- so may a storage
good_storage : (word : StorageWord) (x : Stored) → IsGoodItem (storage_of word x)
good_storage word x = record { leveled = tt; shallow = omega (arith, two_types x.1.1.1.1.0) }

-- a port
good_port : (word : PortWord) (x : Ported) → IsGoodItem (port_of word x)
good_port word x = record { leveled = tt; shallow = omega (arith, two_types x.1.1.0) }

-- alternatives
good_or : (word : RuleWord) (n : Name) (eq : ℕ) (x : Alternatives) → IsGoodItem (or_of word n eq x)
good_or word n eq x = record { leveled = tt; shallow = lit≤ tt }

-- an operation whose attributes may be read
good_op : (at : ℕ) (n : Name) (x : Operated) → op_good x → IsGoodItem (op_of at n x)
good_op at n x g = record { leveled = g.leveled; shallow = omega (arith, three_pars x.1.0, attrs_within x.1.1.1 g) }

-- a mode whose value and attributes may be read
good_mode : (at : ℕ) (n : Name) (x : Moded) → mode_good x → IsGoodItem (mode_of at n x)
good_mode at n x g = record { leveled = (g.0.leveled, g.1.leveled); shallow = omega (arith, three_pars x.1.0, g.0.shallow, attrs_within x.1.1.1.1.1 g.1) }

-- and only such an operation may
op_is_good : (at : ℕ) (n : Name) (x : Operated) → IsGoodItem (op_of at n x) → op_good x
op_is_good at n x h = record { leveled = h.leveled; shallow = omega (arith, h.shallow) }

-- and only such a mode
mode_is_good : (at : ℕ) (n : Name) (x : Moded) → IsGoodItem (mode_of at n x) → mode_good x
mode_is_good at n x h = (record { leveled = h.leveled.0; shallow = omega (arith, h.shallow) }, record { leveled = h.leveled.1; shallow = omega (arith, h.shallow) })

-- ---- what each word begins

-- a rule of the word `op`
abbrev OfOp : ℕ → Item → Type 0
OfOp at y = (n : Name) × (IsMade op_good (op_of at n) y ⊎ ((eq : ℕ) × IsMade Any (or_of (rule_words.Op at) n eq) y))

-- a rule of the word `mode`
abbrev OfMode : ℕ → Item → Type 0
OfMode at y = (n : Name) × (IsMade mode_good (mode_of at n) y ⊎ ((eq : ℕ) × IsMade Any (or_of (rule_words.Mode at) n eq) y))

-- the items of a word
abbrev OfOpening : Opening → ℕ → Item → Type 0
OfOpening Letting at y = IsMade Any (let_of at) y
OfOpening Typing at y = IsMade Any (type_of at) y
OfOpening (Storing word) at y = IsMade Any (storage_of (word at)) y
OfOpening (Porting word) at y = IsMade Any (port_of (word at)) y
OfOpening Operation at y = OfOp at y
OfOpening Moding at y = OfMode at y

-- an operation and its alternatives begin with their word
op_front : (at : ℕ) (y : Item) → OfOp at y → item_spelling y ≡ Symbol.Fixed at (codes "op") ∷ item_tail y
op_front at y (n, inl h) = made_front op_good (op_of at n) item_spelling (Symbol.Fixed at (codes "op")) (λ x. refl) y h
op_front at y (n, inr (eq, h)) = made_front Any (or_of (rule_words.Op at) n eq) item_spelling (Symbol.Fixed at (codes "op")) (λ x. refl) y h

-- both may be read
op_to : (at : ℕ) (y : Item) → OfOp at y → IsGoodItem y
op_to at y (n, inl h) = subst IsGoodItem h.2 (good_op at n h.0 h.1)
op_to at y (n, inr (eq, h)) = subst IsGoodItem h.2 (good_or (rule_words.Op at) n eq h.0)

-- a mode and its alternatives begin with their word
mode_front : (at : ℕ) (y : Item) → OfMode at y → item_spelling y ≡ Symbol.Fixed at (codes "mode") ∷ item_tail y
mode_front at y (n, inl h) = made_front mode_good (mode_of at n) item_spelling (Symbol.Fixed at (codes "mode")) (λ x. refl) y h
mode_front at y (n, inr (eq, h)) = made_front Any (or_of (rule_words.Mode at) n eq) item_spelling (Symbol.Fixed at (codes "mode")) (λ x. refl) y h

-- both may be read
mode_to : (at : ℕ) (y : Item) → OfMode at y → IsGoodItem y
mode_to at y (n, inl h) = subst IsGoodItem h.2 (good_mode at n h.0 h.1)
mode_to at y (n, inr (eq, h)) = subst IsGoodItem h.2 (good_or (rule_words.Mode at) n eq h.0)

-- an item with what stands behind its word
abbrev ItemBehind : Opening → ℕ → List ℕ → Type 0
ItemBehind k at text = Behind item_spelling IsGoodItem item_ends (OfOpening k at) (Symbol.Fixed at text) (behind_opening k at)

-- a constant
let_behind : (at : ℕ) → ItemBehind Letting at (codes "let")
let_behind at = record {
  reading = let_law at;
  front = made_front Any (let_of at) item_spelling (Symbol.Fixed at (codes "let")) (λ x. refl);
  to = λ y h. subst IsGoodItem h.2 (record { leveled = tt; shallow = lit≤ tt });
}

-- a type
type_behind : (at : ℕ) → ItemBehind Typing at (codes "type")
type_behind at = record {
  reading = type_item_law at;
  front = made_front Any (type_of at) item_spelling (Symbol.Fixed at (codes "type")) (λ x. refl);
  to = λ y h. subst IsGoodItem h.2 (good_type at h.0.0 h.0.1.0 h.0.1.1);
}

-- a storage
storage_behind : (word : ℕ → StorageWord) (at : ℕ) (text : List ℕ)
    → ((x : Stored) → item_spelling (storage_of (word at) x) ≡ Symbol.Fixed at text ∷ item_tail (storage_of (word at) x)) → ItemBehind (Storing word) at text
storage_behind word at text front = record {
  reading = storage_law (word at);
  front = made_front Any (storage_of (word at)) item_spelling (Symbol.Fixed at text) front;
  to = λ y h. subst IsGoodItem h.2 (good_storage (word at) h.0);
}

-- a port
port_behind : (word : ℕ → PortWord) (at : ℕ) (text : List ℕ)
    → ((x : Ported) → item_spelling (port_of (word at) x) ≡ Symbol.Fixed at text ∷ item_tail (port_of (word at) x)) → ItemBehind (Porting word) at text
port_behind word at text front = record {
  reading = port_law (word at);
  front = made_front Any (port_of (word at)) item_spelling (Symbol.Fixed at text) front;
  to = λ y h. subst IsGoodItem h.2 (good_port (word at) h.0);
}

-- an operation, or alternatives
op_behind : (at : ℕ) → ItemBehind Operation at (codes "op")
op_behind at = record {
  reading = rule_law (rule_words.Op at) (op_rule at) (λ n. IsMade op_good (op_of at n)) (op_law at)
      (λ n. made_front op_good (op_of at n) item_tail (Symbol.Named n.at n.text) (λ x. refl))
      (λ n y r h. subst (λ z. behind (codes "=") (item_inside z ++ r) ≡ None) h.2 refl);
  front = op_front at;
  to = op_to at;
}

-- a mode, or alternatives
mode_behind : (at : ℕ) → ItemBehind Moding at (codes "mode")
mode_behind at = record {
  reading = rule_law (rule_words.Mode at) (mode_rule at) (λ n. IsMade mode_good (mode_of at n)) (mode_law at)
      (λ n. made_front mode_good (mode_of at n) item_tail (Symbol.Named n.at n.text) (λ x. refl))
      (λ n y r h. subst (λ z. behind (codes "=") (item_inside z ++ r) ≡ None) h.2 refl);
  front = mode_front at;
  to = mode_to at;
}

-- all words
entries : Each (Word item_spelling IsGoodItem item_ends behind_opening OfOpening) openings
entries = (
  let_behind,
  (
    type_behind,
    (
      λ at. storage_behind storage_words.Mem at (codes "mem") (λ x. refl),
      (
        λ at. storage_behind storage_words.Reg at (codes "reg") (λ x. refl),
        (
          λ at. port_behind port_words.Trn at (codes "trn") (λ x. refl),
          (
            λ at. port_behind port_words.Inp at (codes "inp") (λ x. refl),
            (
              λ at. port_behind port_words.Out at (codes "out") (λ x. refl),
              (
                op_behind,
                (
                  mode_behind,
                  tt,
                ),
              ),
            ),
          ),
        ),
      ),
    ),
  ),
)

-- ---- items

-- a storage is told by its word
from_storage : (word : StorageWord) (x : Stored) → ToldWord openings OfOpening (storage_of word x)
from_storage (storage_words.Mem at) x = (codes "mem", Storing storage_words.Mem, at, refl, (x, tt, refl))
from_storage (storage_words.Reg at) x = (codes "reg", Storing storage_words.Reg, at, refl, (x, tt, refl))

-- so is a port
from_port : (word : PortWord) (x : Ported) → ToldWord openings OfOpening (port_of word x)
from_port (port_words.Trn at) x = (codes "trn", Porting port_words.Trn, at, refl, (x, tt, refl))
from_port (port_words.Inp at) x = (codes "inp", Porting port_words.Inp, at, refl, (x, tt, refl))
from_port (port_words.Out at) x = (codes "out", Porting port_words.Out, at, refl, (x, tt, refl))

-- so are alternatives
from_or : (word : RuleWord) (n : Name) (eq : ℕ) (x : Alternatives) → ToldWord openings OfOpening (or_of word n eq x)
from_or (rule_words.Op at) n eq x = (codes "op", Operation, at, refl, (n, inr (eq, (x, tt, refl))))
from_or (rule_words.Mode at) n eq x = (codes "mode", Moding, at, refl, (n, inr (eq, (x, tt, refl))))

-- so is each item that may be read
from : (y : Item) → IsGoodItem y → ToldWord openings OfOpening y
from (items.Let at n eq m z) g = (codes "let", Letting, at, refl, ((n, (eq, (m, z))), tt, refl))
from (items.Type at n eq t) g = (codes "type", Typing, at, refl, ((n, (eq, t)), tt, refl))
from (items.Storage s) g = from_storage s.word (s.name, (s.opening, (s.size, (s.comma, (s.ty, s.closing)))))
from (items.Port p) g = from_port p.word (p.name, (p.opening, (p.ty, p.closing)))
from (items.OrRule r) g = from_or r.word r.name r.equals (r.first, r.rest)
from (items.OpRule r) g =
    let x : Operated = (r.opening, (r.pars, (r.closing, r.attrs))) in
    (codes "op", Operation, r.op, refl, (r.name, inl (x, op_is_good r.op r.name x g, refl)))
from (items.ModeRule r) g =
    let x : Moded = (r.opening, (r.pars, (r.closing, (r.equals, (r.value, r.attrs))))) in
    (codes "mode", Moding, r.mode, refl, (r.name, inl (x, mode_is_good r.mode r.name x g, refl)))

-- items are read lawfully
pub item_law : IsReading item_spelling IsGoodItem item_ends item
item_law =
    worded_law item_spelling IsGoodItem item_ends openings behind_opening OfOpening entries from (items.Type 0 (record { at = 0; text = [] }) 0 (types.Bool 0))
    (good_type 0 (record { at = 0; text = [] }) 0 (types.Bool 0))

-- an item ends where neither a bar nor an action is next
action_before : (a : Option Action) (r : List Symbol) → Next r → action_ends a r
action_before None r h = h.0
action_before (Some a) r h = tt

-- so each item ends before another and at the end
pub item_before : (x : Item) (r : List Symbol) → Next r → item_ends x r
item_before (items.Let at n eq m z) r h = tt
item_before (items.Type at n eq t) r h = tt
item_before (items.Storage s) r h = tt
item_before (items.Port p) r h = tt
item_before (items.OrRule x) r h = h.1
item_before (items.OpRule x) r h = action_before x.attrs.action r h
item_before (items.ModeRule x) r h = action_before x.attrs.action r h
