-- Reading all symbols finds the program that they spell, and where it is stuck, those before begin one and with the next begin none. No symbols
-- spell two programs.
use Rattle.std.proofs.Common.{◌≡◌, ◌⊎◌, ℕ, ◌+◌, ◌<◌, ◌≤◌, max, suc, List, [], ◌∷◌, length, refl, ap, sym, ◌∙◌, subst, arith}
use Rattle.std.specs.Prelude.{flat_map, All}
use Rattle.std.proofs.lemmas.List.Elements.{All-nil, All-cons, All-head, All-tail}
use Rattle.c_tree.specs.declared.names.TypeWord.{TypeWord}
use Rattle.c_tree.specs.declared.names.TypeWord.TheVariants as type_word
use Rattle.c_tree.specs.declared.program.ResultWord.{ResultWord}
use Rattle.c_tree.specs.declared.program.ResultWord.TheVariants as result_word
use Rattle.c_tree.specs.declared.program.Vars.{Vars}
use Rattle.c_tree.specs.declared.program.CTree.{CTree}
use Rattle.readings.specs.Symbol.{Symbol}
use Rattle.readings.specs.Reading.{Found, Stuck}
use Rattle.readings.specs.Readings.{to_end}
use Rattle.readings.specs.Lawful.{Eventually, Anywhere}
use Rattle.readings.specs.Whole.{Goods, StopsIn}
use Rattle.readings.proofs.After.{found_is}
use Rattle.readings.proofs.ToEnd.{end_complete, found_whole, stuck_whole, stuck_once, some_whole}
use Rattle.readings.proofs.OneEnd.{goes_through, one_left}
use Rattle.c_tree.specs.Items.{Definition, Item, Variables, Defines, items}
use Rattle.c_tree.specs.Inverse.{tree_of}
use Rattle.c_tree.specs.Level.{IsLeveledItem}
use Rattle.c_tree.specs.Depth.{item_depth, depth_limit}
use Rattle.c_tree.specs.SpellGlobals.{item_spelling, spelling}
use Rattle.c_tree.specs.SpellsTree.{SpellsItems, SpellsTree}
use Rattle.c_tree.proofs.Back as back
use Rattle.c_grammar.specs.Programs.{item_read, block_room, program_read, IsWrittenItem, IsGoodItem}
use Rattle.c_grammar.proofs.LawfulItems.{item_law}
use Rattle.c_grammar.proofs.Mirrors.{items_forth, items_written}

-- ---- globals that may be read

-- a global has a symbol
item_symbol : (g : Item) → 0 < length (item_spelling g)
item_symbol (Variables v) = by v.word v
  where
    by : (w : TypeWord) (v : Vars) → 0 < length (item_spelling (Variables (record { word = w; first = v.first; rest = v.rest; semicolon = v.semicolon })))
    by (type_word.Int at) v = omega arith
item_symbol (Defines f) = by f.result f
  where
    by : (w : ResultWord) (f : Definition)
        → 0 < length (item_spelling (Defines (record { result = w; name = f.name; opening = f.opening; params = f.params; closing = f.closing; braces = f.braces })))
    by (result_word.Type (type_word.Int at)) f = omega arith
    by (result_word.Void at) f = omega arith

-- the levels and the depths of good ones, and how their statements are written
leveled : (room : ℕ) (gs : List Item) → Goods (IsGoodItem room) gs → All IsLeveledItem gs
leveled room [] h = All-nil IsLeveledItem
leveled room (g ∷ gs) h = All-cons IsLeveledItem g gs h.0.leveled (leveled room gs h.1)

shallow : (gs : List Item) → Goods (IsGoodItem block_room) gs → All (λ g. item_depth g ≤ depth_limit) gs
shallow [] h = All-nil (λ g. item_depth g ≤ depth_limit)
shallow (g ∷ gs) h = All-cons (λ g. item_depth g ≤ depth_limit) g gs h.0.shallow (shallow gs h.1)

written : (room : ℕ) (gs : List Item) → Goods (IsGoodItem room) gs → Goods IsWrittenItem gs
written room [] h = tt
written room (g ∷ gs) h = (h.0.written, written room gs h.1)

-- globals of such levels and depths are good
goods : (gs : List Item) → Goods IsWrittenItem gs → All IsLeveledItem gs → All (λ g. item_depth g ≤ depth_limit) gs → Goods (IsGoodItem block_room) gs
goods [] w l d = tt
goods (g ∷ gs) w l d = (
  record { written = w.0; leveled = All-head IsLeveledItem g gs l; shallow = All-head (λ g. item_depth g ≤ depth_limit) g gs d },
  goods gs w.1 (All-tail IsLeveledItem g gs l) (All-tail (λ g. item_depth g ≤ depth_limit) g gs d),
)

-- ---- whole programs

-- good globals are one
to_tree : (gs : List Item) → Goods (IsGoodItem block_room) gs → SpellsTree (flat_map item_spelling gs) (tree_of gs)
to_tree gs h =
    subst (SpellsItems (flat_map item_spelling gs)) (sym (items_forth gs (written block_room gs h)))
    (record { leveled = leveled block_room gs h; shallow = shallow gs h; spelled = refl })

-- and one has them
from_tree : (ss : List Symbol) (c : CTree) → SpellsTree ss c → Goods (IsGoodItem block_room) (items c) × (ss ≡ flat_map item_spelling (items c))
from_tree ss c t = (goods (items c) (items_written c) t.leveled t.shallow, t.spelled)

-- what is found is the program that the symbols spell
pub found_tree : (n : ℕ) (ss : List Symbol) (gs : List Item) (rest : List Symbol) → program_read n ss ≡ Found gs rest → (rest ≡ []) × SpellsTree ss (tree_of gs)
found_tree n ss gs rest e =
    found_whole item_spelling (IsGoodItem block_room) Anywhere (item_read block_room) (item_law block_room (omega arith)) item_symbol (λ g gs. tt) SpellsTree tree_of to_tree items from_tree
    n ss gs rest e

-- so a program whose globals are found is spelled so
pub found_items : (n : ℕ) (ss : List Symbol) (c : CTree) (rest : List Symbol) → program_read n ss ≡ Found (items c) rest → SpellsTree ss c
found_items n ss c rest e = subst (SpellsTree ss) (back.tree_of-items c) (found_tree n ss (items c) rest e).1

-- where it is stuck, the symbols before begin a program, and with the next none begins
pub stuck_tree : (ss rest : List Symbol) → Eventually (λ n. program_read n ss ≡ Stuck rest) → StopsIn SpellsTree ss rest
stuck_tree ss rest a =
    stuck_whole item_spelling (IsGoodItem block_room) Anywhere (item_read block_room) (item_law block_room (omega arith)) item_symbol (λ g gs. tt) SpellsTree tree_of to_tree items from_tree
    ss rest a

-- as one reading with calls enough tells
pub stuck_tree_once : (ss rest : List Symbol) → program_read (suc (suc (length ss))) ss ≡ Stuck rest → StopsIn SpellsTree ss rest
stuck_tree_once ss rest e =
    stuck_once item_spelling (IsGoodItem block_room) Anywhere (item_read block_room) (item_law block_room (omega arith)) item_symbol (λ g gs. tt) SpellsTree tree_of to_tree items from_tree
    ss rest e

-- any symbols spell a program, or stop to begin one
pub some_tree : (ss : List Symbol) → ((c : CTree) × SpellsTree ss c) ⊎ ((rest : List Symbol) × StopsIn SpellsTree ss rest)
some_tree ss =
    some_whole item_spelling (IsGoodItem block_room) Anywhere (item_read block_room) (item_law block_room (omega arith)) item_symbol (λ g gs. tt) SpellsTree tree_of to_tree items from_tree ss

-- ---- one program

-- the deepest of globals
deepest : List Item → ℕ
deepest [] = 0
deepest (g ∷ gs) = max (item_depth g) (deepest gs)

roomy : (room : ℕ) (gs : List Item) → Goods IsWrittenItem gs → All IsLeveledItem gs → deepest gs ≤ room → Goods (IsGoodItem room) gs
unfolding deepest
roomy room [] w l d = tt
roomy room (g ∷ gs) w l d =
    (record { written = w.0; leveled = All-head IsLeveledItem g gs l; shallow = omega (arith, d) }, roomy room gs w.1 (All-tail IsLeveledItem g gs l) (omega (arith, d)))

-- globals that are read from one spelling are one
one_list : (room : ℕ) (gs hs : List Item) → 2 ≤ room → Goods (IsGoodItem room) gs → Goods (IsGoodItem room) hs → spelling gs ≡ spelling hs → gs ≡ hs
one_list room gs hs some g h e =
    let a = end_complete item_spelling (IsGoodItem room) Anywhere (item_read room) (item_law room some) item_symbol (λ g gs. tt) gs g in
    let b = end_complete item_spelling (IsGoodItem room) Anywhere (item_read room) (item_law room some) item_symbol (λ g gs. tt) hs h in
    let n : ℕ = a.0 + b.0 in
    found_is (λ xs s. gs ≡ xs) gs hs [] [] (sym (a.1 n (omega arith)) ∙ ap (to_end (item_read room) n) e ∙ b.1 n (omega arith)) refl

-- so no two programs, however deep, have one spelling
pub unique_tree : (c d : CTree) → All IsLeveledItem (items c) → All IsLeveledItem (items d) → spelling (items c) ≡ spelling (items d) → c ≡ d
unique_tree c d l m e =
    let room : ℕ = 2 + deepest (items c) + deepest (items d) in
    back.one_tree c d
    (one_list room (items c) (items d) (omega arith) (roomy room (items c) (items_written c) l (omega arith)) (roomy room (items d) (items_written d) m (omega arith)) e)

-- nor do symbols spell two
pub one_program : (ss : List Symbol) (c d : CTree) → SpellsTree ss c → SpellsTree ss d → c ≡ d
one_program ss c d t u = unique_tree c d t.leveled u.leveled (sym t.spelled ∙ u.spelled)

-- symbols that are a program's don't stop to begin one
pub tree_or_none : (ss rest : List Symbol) (c : CTree) → SpellsTree ss c → StopsIn SpellsTree ss rest → ⊥
tree_or_none ss rest c t h = goes_through SpellsTree c ss h.front rest t h.whole h.stops

-- and they stop at one place
pub one_place : (ss rest other : List Symbol) → StopsIn SpellsTree ss rest → StopsIn SpellsTree ss other → rest ≡ other
one_place ss rest other h i = one_left SpellsTree h.front i.front rest other (sym h.whole ∙ i.whole) h.begins i.begins h.stops i.stops
