-- The reading of constants, types, storages and ports behind their words keeps the law.
use Rattle.std.proofs.Common.{◌≡◌, ◌⊎◌, inl, inr, ℕ, List, [], ◌∷◌, ◌++◌, Option, Some, None, refl, ap, sym, ◌∙◌, subst}
use Rattle.std.specs.Prelude.{codes}
use Rattle.nml_tree.specs.declared.names.Name.{Name}
use Rattle.nml_tree.specs.declared.names.Number.{Number}
use Rattle.nml_tree.specs.declared.tree.Size.{Size}
use Rattle.nml_tree.specs.declared.tree.TypeExpr.{TypeExpr}
use Rattle.nml_tree.specs.declared.tree.StorageWord.{StorageWord}
use Rattle.nml_tree.specs.declared.tree.PortWord.{PortWord}
use Rattle.nml_tree.specs.declared.tree.Item.{Item}
use Rattle.readings.specs.Symbol.{Symbol, fixed, beyond}
use Rattle.nml_tree.specs.Spell.{name_spelling, number_spelling, size_spelling, type_spelling}
use Rattle.nml_tree.specs.SpellItems.{minus_spelling, item_spelling}
use Rattle.readings.specs.Reading.{behind}
use Rattle.readings.specs.Readings.{◌>>>◌, made, given, sign}
use Rattle.nml_grammar.specs.Words.{size, name, number}
use Rattle.nml_grammar.specs.ReadingItems.{type_read, minus_from, minus, let_item, type_item, storage, port}
use Rattle.nml_grammar.proofs.Flat.{join4}
use Rattle.readings.specs.Lawful.{IsReading, Any, Anywhere, IsMade}
use Rattle.readings.proofs.Combining.{other_law, given_law, sign_law, then_any, then_free, made_law}
use Rattle.readings.proofs.CombiningWords.{made_front}
use Rattle.nml_grammar.proofs.LawfulWords.{name_law, number_law, size_law}
use Rattle.readings.proofs.CombiningMarks.{by_mark_law}
use Rattle.nml_grammar.proofs.LawfulTypes.{type_law}
use Rattle.nml_grammar.proofs.LawfulActions.{action_ends}
use Rattle.nml_tree.specs.declared.tree.StorageWord.TheVariants as storage_words
use Rattle.nml_tree.specs.declared.tree.PortWord.TheVariants as port_words
use Rattle.nml_tree.specs.declared.tree.Item.TheVariants as items

-- alternatives end where no bar is next, and rules with parameters where no action is, if they have none
abbrev pub item_ends : Item → List Symbol → Type 0
item_ends (items.Let at n equals minus z) r = Unit {0}
item_ends (items.Type at n equals t) r = Unit {0}
item_ends (items.Storage s) r = Unit {0}
item_ends (items.Port p) r = Unit {0}
item_ends (items.OrRule x) r = behind (codes "|") r ≡ None
item_ends (items.OpRule x) r = action_ends x.attrs.action r
item_ends (items.ModeRule x) r = action_ends x.attrs.action r

-- an item's symbols behind the first
abbrev pub item_tail : Item → List Symbol
item_tail y = beyond (item_spelling y)

-- ---- constants

-- where no minus is written, none is next
abbrev minus_ends : Option ℕ → List Symbol → Type 0
minus_ends None r = behind (codes "-") r ≡ None
minus_ends (Some at) r = Unit {0}

-- nothing is read, of which there is one
unit_law : IsReading (λ (u : Unit {0}). []) Any Anywhere (given tt)
unit_law = other_law (λ (u : Unit {0}). []) (λ u. u ≡ tt) Any Anywhere Anywhere (given tt) (λ u h. tt) (λ u h. refl) (λ u r h. h) (λ u r h. h)
    (given_law (λ (u : Unit {0}). []) tt refl)

-- a minus, or none, is read lawfully
minus_law : IsReading minus_spelling Any minus_ends minus
minus_law =
    by_mark_law (codes "-") minus (given None) (λ at. made (λ (u : Unit {0}). Some at) (given tt)) (λ n ss i. ap (minus_from ss) i)
    (λ n ss at rest i. ap (minus_from ss) i)
    minus_spelling Any minus_ends (λ y. y ≡ None) Anywhere (λ at y. IsMade Any (λ (u : Unit {0}). Some at) y) (given_law minus_spelling None refl)
    (λ at. record {
      reading = made_law (λ (u : Unit {0}). Some at) (λ u. []) Any (given tt) (λ y. beyond (minus_spelling y)) minus_ends (λ u. refl) unit_law;
      front = made_front Any (λ (u : Unit {0}). Some at) minus_spelling (Symbol.Fixed at (codes "-")) (λ u. refl);
      to = λ y h. tt;
    })
    (λ y h. tt) (λ y r h i e. subst (λ z. minus_ends z r) (sym h) (ap (λ z. behind (codes "-") (minus_spelling z ++ r)) (sym h) ∙ e)) sorted
  where
    sorted : (y : Option ℕ) → Any y → ((y ≡ None) × ((r : List Symbol) → minus_ends y r → Unit {0} × (behind (codes "-") (minus_spelling y ++ r) ≡ None)))
        ⊎ ((at : ℕ) × IsMade Any (λ (u : Unit {0}). Some at) y)
    sorted None g = inl (refl, λ r e. (tt, e))
    sorted (Some at) g = inr (at, (tt, tt, refl))

-- what stands behind `let`
abbrev pub Constant : Type 0
Constant = Name × (ℕ × (Option ℕ × Number))

-- the constant that it makes
abbrev pub let_of : ℕ → Constant → Item
let_of at x = items.Let at x.0 x.1.0 x.1.1.0 x.1.1.1

-- it is read lawfully
pub let_law : (at : ℕ) → IsReading item_tail (IsMade Any (let_of at)) item_ends (let_item at)
let_law at =
    made_law (let_of at) (λ x. name_spelling x.0 ++ (fixed x.1.0 (codes "=") ++ (minus_spelling x.1.1.0 ++ number_spelling x.1.1.1))) Any
    (name >>> (sign (codes "=") >>> (minus >>> number))) item_tail item_ends (λ x. refl)
    (then_free _ _ _ _ _ _ name_law (then_free _ _ _ _ _ _ (sign_law (codes "="))
    (then_any minus_spelling minus_ends minus number_spelling Any Anywhere number minus_law number_law meets)))
  where
    meets : (x : Option ℕ) (z : Number) (r : List Symbol) → Anywhere z r → minus_ends x (number_spelling z ++ r)
    meets None z r e = refl
    meets (Some at) z r e = tt

-- ---- types, storages and ports

-- what stands behind `type`
abbrev pub Renamed : Type 0
Renamed = Name × (ℕ × TypeExpr)

-- the type that it makes
abbrev pub type_of : ℕ → Renamed → Item
type_of at x = items.Type at x.0 x.1.0 x.1.1

-- it is read lawfully
pub type_item_law : (at : ℕ) → IsReading item_tail (IsMade Any (type_of at)) item_ends (type_item at)
type_item_law at =
    made_law (type_of at) (λ x. name_spelling x.0 ++ (fixed x.1.0 (codes "=") ++ type_spelling x.1.1)) Any
    (name >>> (sign (codes "=") >>> type_read)) item_tail item_ends (λ x. refl)
    (then_free _ _ _ _ _ _ name_law (then_free _ _ _ _ _ _ (sign_law (codes "=")) type_law))

-- what stands behind `mem` and `reg`
abbrev pub Stored : Type 0
Stored = Name × (ℕ × (Size × (ℕ × (TypeExpr × ℕ))))

-- the storage that it makes
abbrev pub storage_of : StorageWord → Stored → Item
storage_of word x = items.Storage (record { word = word; name = x.0; opening = x.1.0; size = x.1.1.0; comma = x.1.1.1.0; ty = x.1.1.1.1.0; closing = x.1.1.1.1.1 })

-- its symbols
abbrev stored : Stored → List Symbol
stored x = name_spelling x.0 ++ (fixed x.1.0 (codes "[") ++
    (size_spelling x.1.1.0 ++ (fixed x.1.1.1.0 (codes ",") ++ (type_spelling x.1.1.1.1.0 ++ fixed x.1.1.1.1.1 (codes "]")))))

-- those of the storage behind its word
storage_spelled : (word : StorageWord) (x : Stored) → item_tail (storage_of word x) ≡ stored x
storage_spelled (storage_words.Mem at) x =
    ap (λ u. Symbol.Named x.0.at x.0.text ∷ Symbol.Fixed x.1.0 (codes "[") ∷ u)
    (join4 (size_spelling x.1.1.0) (fixed x.1.1.1.0 (codes ",")) (type_spelling x.1.1.1.1.0) (fixed x.1.1.1.1.1 (codes "]")))
storage_spelled (storage_words.Reg at) x =
    ap (λ u. Symbol.Named x.0.at x.0.text ∷ Symbol.Fixed x.1.0 (codes "[") ∷ u)
    (join4 (size_spelling x.1.1.0) (fixed x.1.1.1.0 (codes ",")) (type_spelling x.1.1.1.1.0) (fixed x.1.1.1.1.1 (codes "]")))

-- it is read lawfully
pub storage_law : (word : StorageWord) → IsReading item_tail (IsMade Any (storage_of word)) item_ends (storage word)
storage_law word =
    made_law (storage_of word) stored Any (name >>> (sign (codes "[") >>> (size >>> (sign (codes ",") >>> (type_read >>> sign (codes "]")))))) item_tail item_ends
    (storage_spelled word)
    (then_free _ _ _ _ _ _ name_law (then_free _ _ _ _ _ _ (sign_law (codes "[")) (then_free _ _ _ _ _ _ size_law
    (then_free _ _ _ _ _ _ (sign_law (codes ",")) (then_free _ _ _ _ _ _ type_law (sign_law (codes "]")))))))

-- what stands behind `trn`, `inp` and `out`
abbrev pub Ported : Type 0
Ported = Name × (ℕ × (TypeExpr × ℕ))

-- the port that it makes
abbrev pub port_of : PortWord → Ported → Item
port_of word x = items.Port (record { word = word; name = x.0; opening = x.1.0; ty = x.1.1.0; closing = x.1.1.1 })

-- its symbols
abbrev ported : Ported → List Symbol
ported x = name_spelling x.0 ++ (fixed x.1.0 (codes "[") ++ (type_spelling x.1.1.0 ++ fixed x.1.1.1 (codes "]")))

-- those of the port behind its word
port_spelled : (word : PortWord) (x : Ported) → item_tail (port_of word x) ≡ ported x
port_spelled (port_words.Trn at) x = refl
port_spelled (port_words.Inp at) x = refl
port_spelled (port_words.Out at) x = refl

-- it is read lawfully
pub port_law : (word : PortWord) → IsReading item_tail (IsMade Any (port_of word)) item_ends (port word)
port_law word =
    made_law (port_of word) ported Any (name >>> (sign (codes "[") >>> (type_read >>> sign (codes "]")))) item_tail item_ends (port_spelled word)
    (then_free _ _ _ _ _ _ name_law (then_free _ _ _ _ _ _ (sign_law (codes "[")) (then_free _ _ _ _ _ _ type_law (sign_law (codes "]")))))
