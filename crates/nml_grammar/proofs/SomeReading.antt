-- Any bytes have a description, or one of the faults: they are stuck, no description has their tokens, or it has a type `float`.
use Rattle.std.proofs.Common.{◌≡◌, ◌⊎◌, inl, inr, ℕ, suc, List, [], ◌∷◌, length, map, refl}
use Rattle.nml_tree.specs.declared.tree.Desc.{Desc}
use Rattle.readings.specs.Symbol.{Symbol, first_place}
use Rattle.nml_tree.specs.Floats.{float_places}
use Rattle.nml_lex.specs.Lexed.{HasLexemes, IsStuckAt, Lexeme}
use Rattle.nml_lex.proofs.Settled.{some}
use Rattle.readings.specs.Reading.{Stuck}
use Rattle.nml_tree.specs.SpellsTree.{SpellsTree}
use Rattle.readings.specs.Whole.{StopsIn}
use Rattle.nml_grammar.specs.ReadingItems.{item_list}
use Rattle.nml_grammar.specs.Trees.{symbol, IsTree, HasNoTree, IsFloat}
use Rattle.nml_grammar.proofs.WholeTrees.{stuck_tree_once, some_symbols}

-- where the symbols stop to begin a description, the bytes have none
pub none_where : (bytes : List ℕ) (ps : List Lexeme) (rest : List Symbol) → HasLexemes bytes ps → StopsIn SpellsTree (map symbol ps) rest
    → HasNoTree bytes (first_place (length bytes) rest)
none_where bytes ps rest h s = record { tokens = ps; has = h; front = s.front; left = rest; whole = s.whole; begins = s.begins; stops = s.stops; is = refl }

-- as one reading tells
pub read_none : (bytes : List ℕ) (ps : List Lexeme) (rest : List Symbol) → HasLexemes bytes ps
    → item_list (suc (suc (length (map symbol ps)))) (map symbol ps) ≡ Stuck rest → HasNoTree bytes (first_place (length bytes) rest)
read_none bytes ps rest h e = none_where bytes ps rest h (stuck_tree_once (map symbol ps) rest e)

-- of tokens
of_lexemes : (bytes : List ℕ) (ps : List Lexeme) → HasLexemes bytes ps → ((d : Desc) × IsTree bytes d) ⊎ ((at : ℕ) × HasNoTree bytes at)
of_lexemes bytes ps h = by (some_symbols (map symbol ps))
  where
    by : ((d : Desc) × SpellsTree (map symbol ps) d) ⊎ ((rest : List Symbol) × StopsIn SpellsTree (map symbol ps) rest) → ((d : Desc) × IsTree bytes d) ⊎ ((at : ℕ) × HasNoTree bytes at)
    by (inl t) = inl (t.0, record { tokens = ps; has = h; spells = t.1 })
    by (inr s) = inr (first_place (length bytes) s.0, none_where bytes ps s.0 h s.1)

-- of bytes
of_lexing : (bytes : List ℕ) → ((ps : List Lexeme) × HasLexemes bytes ps) ⊎ ((at : ℕ) × IsStuckAt bytes at)
    → ((d : Desc) × IsTree bytes d) ⊎ (((at : ℕ) × HasNoTree bytes at) ⊎ ((at : ℕ) × IsStuckAt bytes at))
of_lexing bytes (inl t) = by (of_lexemes bytes t.0 t.1)
  where
    by : ((d : Desc) × IsTree bytes d) ⊎ ((at : ℕ) × HasNoTree bytes at) → ((d : Desc) × IsTree bytes d) ⊎ (((at : ℕ) × HasNoTree bytes at) ⊎ ((at : ℕ) × IsStuckAt bytes at))
    by (inl d) = inl d
    by (inr n) = inr (inl n)
of_lexing bytes (inr s) = inr (inr s)

pub some_tree : (bytes : List ℕ) → ((d : Desc) × IsTree bytes d) ⊎ (((at : ℕ) × HasNoTree bytes at) ⊎ ((at : ℕ) × IsStuckAt bytes at))
some_tree bytes = of_lexing bytes (some bytes)

-- a description has no type `float`, or a first one
pub some_float : (bytes : List ℕ) (d : Desc) → IsTree bytes d → (float_places d ≡ []) ⊎ ((at : ℕ) × IsFloat bytes at)
some_float bytes d t = by (float_places d) refl
  where
    by : (places : List ℕ) → float_places d ≡ places → (float_places d ≡ []) ⊎ ((at : ℕ) × IsFloat bytes at)
    by [] e = inl e
    by (at ∷ others) e = inr (at, record { description = d; tree = t; others = others; first = e })
