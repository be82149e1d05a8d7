-- The program that bytes spell, where their tokens stop to begin one, and the first token that is left out.
use Rattle.std.specs.Prelude.{◌≡◌, ℕ, List, [], ◌∷◌, ◌++◌, length, map, if◌then◌else◌}
use Rattle.c_tree.specs.declared.program.CTree.{CTree}
use Rattle.c_tree.specs.declared.fault.CFault.{CFault}
use Rattle.c_tree.specs.declared.fault.CFault.TheVariants as faults
use Rattle.readings.specs.Symbol.{Symbol, first_place}
use Rattle.readings.specs.Whole.{BeginsOne, EndsBefore}
use Rattle.c_tree.specs.SpellsTree.{SpellsTree}
use Rattle.nml_lex.specs.Form.{is_name}
use Rattle.nml_lex.specs.Lexed.{Lexeme}
use Rattle.c_lex.specs.Form.{is_number, number_worth, is_keyword, is_outside}
use Rattle.c_lex.specs.Lexed.{HasLexemes, IsStuckAt}

-- ---- the symbols of tokens

-- a word: a keyword or a name
abbrev pub word_symbol : ℕ → List ℕ → Symbol
word_symbol at text = if is_keyword text then Symbol.Fixed at text else Symbol.Named at text

-- a word or a mark that no program has, a word, a number by its value, or a mark
abbrev pub symbol : Lexeme → Symbol
symbol p =
    if is_outside p.text then Symbol.Fixed p.at p.text
    else if is_name p.text then word_symbol p.at p.text
    else if is_number p.text then Symbol.Number p.at (number_worth p.text)
    else Symbol.Fixed p.at p.text

-- the places of the words and marks that no program has, in order
abbrev pub outside_places : List Lexeme → List ℕ
outside_places [] = []
outside_places (p ∷ ps) = if is_outside p.text then p.at ∷ outside_places ps else outside_places ps

-- ---- programs

-- the tokens of the bytes are the program's
pub record IsTree (bytes : List ℕ) (c : CTree) : Type 0 where
  pub tokens : List Lexeme
  pub has : HasLexemes bytes tokens
  pub spells : SpellsTree (map symbol tokens) c

-- some program has these symbols and others behind them
abbrev pub BeginsTree : List Symbol → Type 0
BeginsTree symbols = BeginsOne SpellsTree symbols

-- no program has the symbols in front and the first of the others, or the symbols in front alone where there are no others
abbrev pub StopsBefore : List Symbol → List Symbol → Type 0
StopsBefore front left = EndsBefore SpellsTree front left

-- Each token is one that programs have, and no program has the tokens of the bytes: those in front still begin one, and with the token at this place
-- they begin none. The place is the length of the bytes where they end too early.
pub record HasNoTree (bytes : List ℕ) (at : ℕ) : Type 0 where
  pub tokens : List Lexeme
  pub has : HasLexemes bytes tokens
  pub inside : outside_places tokens ≡ []
  pub front : List Symbol
  pub left : List Symbol
  pub whole : map symbol tokens ≡ front ++ left
  pub begins : BeginsTree front
  pub stops : StopsBefore front left
  pub is : at ≡ first_place (length bytes) left

-- the first of the tokens that no program has stands at this place
pub record IsOutsideAt (bytes : List ℕ) (at : ℕ) : Type 0 where
  pub tokens : List Lexeme
  pub has : HasLexemes bytes tokens
  pub others : List ℕ
  pub first : outside_places tokens ≡ at ∷ others

-- a fault of tokens or of syntax that the bytes have; want of memory is free, and no other fault is one
abbrev pub IsReadFault : List ℕ → CFault → Type 0
IsReadFault bytes (faults.Lex at) = IsStuckAt bytes at
IsReadFault bytes (faults.Syntax at) = HasNoTree bytes at
IsReadFault bytes (faults.Outside at) = IsOutsideAt bytes at
IsReadFault bytes faults.Memory = Unit {0}
IsReadFault bytes _ = ⊥
