-- Any bytes have a program, or one of the faults: they are stuck, one of their tokens is left out, or no program has their tokens.
use Rattle.std.proofs.Common.{◌≡◌, ◌⊎◌, inl, inr, ℕ, suc, List, [], ◌∷◌, length, map, refl}
use Rattle.c_tree.specs.declared.program.CTree.{CTree}
use Rattle.readings.specs.Symbol.{Symbol, first_place}
use Rattle.readings.specs.Reading.{Found, Stuck}
use Rattle.readings.specs.Whole.{StopsIn}
use Rattle.c_tree.specs.Items.{items}
use Rattle.c_tree.specs.SpellsTree.{SpellsTree}
use Rattle.nml_lex.specs.Lexed.{Lexeme}
use Rattle.c_lex.specs.Lexed as tokens
use Rattle.c_lex.specs.Lexed.{HasLexemes, IsStuckAt}
use Rattle.c_lex.proofs.Settled.{some}
use Rattle.c_grammar.specs.Programs.{program_read}
use Rattle.c_grammar.specs.Trees.{symbol, outside_places, IsTree, HasNoTree, IsOutsideAt}
use Rattle.c_grammar.proofs.Programs as symbols

-- where the symbols stop to begin a program, and none of them is left out, the bytes have none
pub none_where : (bytes : List ℕ) (ps : List Lexeme) (rest : List Symbol) → HasLexemes bytes ps → outside_places ps ≡ [] → StopsIn SpellsTree (map symbol ps) rest
    → HasNoTree bytes (first_place (length bytes) rest)
none_where bytes ps rest h i s = record {
  tokens = ps;
  has = h;
  inside = i;
  front = s.front;
  left = rest;
  whole = s.whole;
  begins = s.begins;
  stops = s.stops;
  is = refl;
}

-- what bytes have that aren't stuck
abbrev Told : List ℕ → Type 0
Told bytes = ((c : CTree) × IsTree bytes c) ⊎ (((at : ℕ) × HasNoTree bytes at) ⊎ ((at : ℕ) × IsOutsideAt bytes at))

of_lexemes : (bytes : List ℕ) (ps : List Lexeme) → HasLexemes bytes ps → Told bytes
of_lexemes bytes ps h = by (symbols.some_tree (map symbol ps)) (outside_places ps) refl
  where
    by : ((c : CTree) × SpellsTree (map symbol ps) c) ⊎ ((rest : List Symbol) × StopsIn SpellsTree (map symbol ps) rest) → (places : List ℕ) → outside_places ps ≡ places → Told bytes
    by (inl t) places e = inl (t.0, record { tokens = ps; has = h; spells = t.1 })
    by (inr s) [] e = inr (inl (first_place (length bytes) s.0, none_where bytes ps s.0 h e s.1))
    by (inr s) (at ∷ others) e = inr (inr (at, record { tokens = ps; has = h; others = others; first = e }))

abbrev Answered : List ℕ → Type 0
Answered bytes = ((c : CTree) × IsTree bytes c) ⊎ (((at : ℕ) × HasNoTree bytes at) ⊎ (((at : ℕ) × IsOutsideAt bytes at) ⊎ ((at : ℕ) × IsStuckAt bytes at)))

of_lexing : (bytes : List ℕ) → ((ps : List Lexeme) × HasLexemes bytes ps) ⊎ ((at : ℕ) × IsStuckAt bytes at) → Answered bytes
of_lexing bytes (inl t) = by (of_lexemes bytes t.0 t.1)
  where
    by : Told bytes → Answered bytes
    by (inl c) = inl c
    by (inr (inl n)) = inr (inl n)
    by (inr (inr o)) = inr (inr (inl o))
of_lexing bytes (inr s) = inr (inr (inr s))

pub some_bytes : (bytes : List ℕ)
    → ((c : CTree) × IsTree bytes c) ⊎ (((at : ℕ) × HasNoTree bytes at) ⊎ (((at : ℕ) × IsOutsideAt bytes at) ⊎ ((at : ℕ) × IsStuckAt bytes at)))
some_bytes bytes = of_lexing bytes (some tokens.c bytes)

-- as one reading tells
pub read_none : (bytes : List ℕ) (ps : List Lexeme) (rest : List Symbol) → HasLexemes bytes ps → outside_places ps ≡ []
    → program_read (suc (suc (length (map symbol ps)))) (map symbol ps) ≡ Stuck rest → HasNoTree bytes (first_place (length bytes) rest)
read_none bytes ps rest h i e = none_where bytes ps rest h i (symbols.stuck_tree_once (map symbol ps) rest e)

pub read_found : (bytes : List ℕ) (ps : List Lexeme) (n : ℕ) (c : CTree) (rest : List Symbol) → HasLexemes bytes ps → program_read n (map symbol ps) ≡ Found (items c) rest → IsTree bytes c
read_found bytes ps n c rest h e = record { tokens = ps; has = h; spells = symbols.found_items n (map symbol ps) c rest e }
