-- Reading all symbols finds the description that they spell, and where it is stuck, those before begin one and with the next begin none.
use Rattle.std.proofs.Common.{◌≡◌, ◌⊎◌, ℕ, ◌<◌, ◌≤◌, List, [], ◌∷◌, ◌++◌, length, Some, suc, refl, arith}
use Rattle.std.specs.Prelude.{flat_map, All}
use Rattle.std.proofs.lemmas.List.Elements.{All-nil, All-cons, All-head, All-tail}
use Rattle.nml_tree.specs.declared.tree.Item.{Item}
use Rattle.nml_tree.specs.declared.tree.Desc.{Desc}
use Rattle.readings.specs.Symbol.{Symbol}
use Rattle.nml_tree.specs.Level.{IsLeveledItem}
use Rattle.nml_tree.specs.Depth.{item_depth, depth_limit}
use Rattle.nml_tree.specs.SpellItems.{item_spelling}
use Rattle.nml_tree.specs.SpellsTree.{SpellsTree}
use Rattle.readings.specs.Reading.{Found, Stuck}
use Rattle.readings.specs.Lawful.{Eventually}
use Rattle.readings.specs.Whole.{Goods, StopsIn}
use Rattle.readings.proofs.ToEnd.{found_whole, stuck_whole, stuck_once, some_whole}
use Rattle.nml_grammar.specs.ReadingItems.{item, item_list}
use Rattle.nml_grammar.proofs.OneItem.{next}
use Rattle.nml_grammar.proofs.ItemFront.{Kind, kind, kind_of, front}
use Rattle.nml_grammar.proofs.LawfulItems.{IsGoodItem, item_law, item_before}
use Rattle.nml_grammar.proofs.LawfulParts.{item_ends}

-- ---- items that may be read

-- an item has a symbol
some_symbol : (u : List Symbol) (k : Kind) → kind (u ++ []) ≡ Some k → 0 < length u
some_symbol [] k e = absurd (cc)
some_symbol (s ∷ u) k e = omega arith

item_symbol : (x : Item) → 0 < length (item_spelling x)
item_symbol x = some_symbol (item_spelling x) (kind_of x) (front x []).0

-- and ends before others
item_meets : (x : Item) (xs : List Item) → item_ends x (flat_map item_spelling xs)
item_meets x xs = item_before x (flat_map item_spelling xs) (next xs)

-- the levels and the depths of good items
leveled : (xs : List Item) → Goods IsGoodItem xs → All IsLeveledItem xs
leveled [] g = All-nil IsLeveledItem
leveled (x ∷ xs) g = All-cons IsLeveledItem x xs g.0.leveled (leveled xs g.1)

shallow : (xs : List Item) → Goods IsGoodItem xs → All (λ i. item_depth i ≤ depth_limit) xs
shallow [] g = All-nil (λ i. item_depth i ≤ depth_limit)
shallow (x ∷ xs) g = All-cons (λ i. item_depth i ≤ depth_limit) x xs g.0.shallow (shallow xs g.1)

-- items of such levels and depths are good
goods : (xs : List Item) → All IsLeveledItem xs → All (λ i. item_depth i ≤ depth_limit) xs → Goods IsGoodItem xs
goods [] l d = tt
goods (x ∷ xs) l d = (
  record { leveled = All-head IsLeveledItem x xs l; shallow = All-head (λ i. item_depth i ≤ depth_limit) x xs d },
  goods xs (All-tail IsLeveledItem x xs l) (All-tail (λ i. item_depth i ≤ depth_limit) x xs d),
)

-- ---- whole descriptions

-- the description of items
abbrev described : List Item → Desc
described xs = record { items = xs }

-- good items are one
to_tree : (xs : List Item) → Goods IsGoodItem xs → SpellsTree (flat_map item_spelling xs) (described xs)
to_tree xs g = record { leveled = leveled xs g; shallow = shallow xs g; spelled = refl }

-- and one has them
from_tree : (ss : List Symbol) (d : Desc) → SpellsTree ss d → Goods IsGoodItem d.items × (ss ≡ flat_map item_spelling d.items)
from_tree ss d t = (goods d.items t.leveled t.shallow, t.spelled)

-- what is found is the description that the symbols spell
pub found_tree : (n : ℕ) (ss : List Symbol) (xs : List Item) (rest : List Symbol) → item_list n ss ≡ Found xs rest → (rest ≡ []) × SpellsTree ss (record { items = xs })
found_tree n ss xs rest e = found_whole item_spelling IsGoodItem item_ends item item_law item_symbol item_meets SpellsTree described to_tree (λ d. d.items) from_tree n ss xs rest e

-- where it is stuck, the symbols before begin a description, and with the next none begins
pub stuck_tree : (ss rest : List Symbol) → Eventually (λ n. item_list n ss ≡ Stuck rest) → StopsIn SpellsTree ss rest
stuck_tree ss rest a = stuck_whole item_spelling IsGoodItem item_ends item item_law item_symbol item_meets SpellsTree described to_tree (λ d. d.items) from_tree ss rest a

-- as one reading with calls enough tells
pub stuck_tree_once : (ss rest : List Symbol) → item_list (suc (suc (length ss))) ss ≡ Stuck rest → StopsIn SpellsTree ss rest
stuck_tree_once ss rest e = stuck_once item_spelling IsGoodItem item_ends item item_law item_symbol item_meets SpellsTree described to_tree (λ d. d.items) from_tree ss rest e

-- any symbols spell a description, or stop to begin one
pub some_symbols : (ss : List Symbol) → ((d : Desc) × SpellsTree ss d) ⊎ ((rest : List Symbol) × StopsIn SpellsTree ss rest)
some_symbols ss = some_whole item_spelling IsGoodItem item_ends item item_law item_symbol item_meets SpellsTree described to_tree (λ d. d.items) from_tree ss
