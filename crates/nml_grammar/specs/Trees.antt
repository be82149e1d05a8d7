-- The description that bytes spell, and where their tokens stop to begin one.
use Rattle.std.specs.Prelude.{◌≡◌, ℕ, ◌-◌, List, [], ◌∷◌, ◌++◌, length, map, take, drop, Option, Some, None, codes, if◌then◌else◌}
use Rattle.nk_base.specs.Text.{text_eq}
use Rattle.nml_tree.specs.declared.tree.Desc.{Desc}
use Rattle.nml_tree.specs.declared.fault.DescFault.{DescFault}
use Rattle.nml_tree.specs.Keyword.{is_keyword}
use Rattle.readings.specs.Whole.{BeginsOne, EndsBefore}
use Rattle.readings.specs.Symbol.{Symbol, first_place}
use Rattle.nml_tree.specs.SpellsTree.{SpellsTree}
use Rattle.nml_tree.specs.Floats.{float_places}
use Rattle.nml_lex.specs.Form.{is_name, is_number, is_string, number_worth}
use Rattle.nml_lex.specs.Lexed.{Lexeme, HasLexemes, IsStuckAt}
use Rattle.nml_tree.specs.declared.fault.DescFault.TheVariants as faults

-- ---- the symbols of tokens

-- `opn` is the same word as `op`
abbrev pub one_word : List ℕ → List ℕ
one_word text = if text_eq text (codes "opn") then codes "op" else text

-- a word: a keyword or a name
abbrev pub word_symbol : ℕ → List ℕ → Symbol
word_symbol at text = if is_keyword text then Symbol.Fixed at (one_word text) else Symbol.Named at text

-- what stands between the quotes
abbrev pub unquoted : List ℕ → List ℕ
unquoted text = take (length text - 2) (drop 1 text)

-- a word, a number by its value, a string, or a mark
abbrev pub symbol : Lexeme → Symbol
symbol p =
    if is_name p.text then word_symbol p.at p.text
    else if is_number p.text then Symbol.Number p.at (number_worth p.text)
    else if is_string p.text then Symbol.Quoted p.at (unquoted p.text)
    else Symbol.Fixed p.at p.text

-- ---- descriptions

-- the tokens of the bytes are the description's
pub record IsTree (bytes : List ℕ) (d : Desc) : Type 0 where
  pub tokens : List Lexeme
  pub has : HasLexemes bytes tokens
  pub spells : SpellsTree (map symbol tokens) d

-- some description has these symbols and others behind them
abbrev pub BeginsTree : List Symbol → Type 0
BeginsTree symbols = BeginsOne SpellsTree symbols

-- no description has the symbols in front and the first of the others, or the symbols in front alone where there are no others
abbrev pub StopsBefore : List Symbol → List Symbol → Type 0
StopsBefore front left = EndsBefore SpellsTree front left

-- No description has the tokens of the bytes: those in front still begin one, and with the token at this place they begin none. The place is
-- the length of the bytes where they end too early.
pub record HasNoTree (bytes : List ℕ) (at : ℕ) : Type 0 where
  pub tokens : List Lexeme
  pub has : HasLexemes bytes tokens
  pub front : List Symbol
  pub left : List Symbol
  pub whole : map symbol tokens ≡ front ++ left
  pub begins : BeginsTree front
  pub stops : StopsBefore front left
  pub is : at ≡ first_place (length bytes) left

-- the first of these places, where there is one
abbrev pub IsFirst : List ℕ → Option ℕ → Type 0
IsFirst places None = places ≡ []
IsFirst places (Some at) = (others : List ℕ) × (places ≡ at ∷ others)

-- the fault is that of a type `float`, the first of the description
abbrev pub HasFloatFault : Desc → DescFault → Type 0
HasFloatFault d (faults.Float at) = IsFirst (float_places d) (Some at)
HasFloatFault d _ = ⊥

-- the tokens are those of a description whose first type `float` stands at this place
pub record IsFloat (bytes : List ℕ) (at : ℕ) : Type 0 where
  pub description : Desc
  pub tree : IsTree bytes description
  pub others : List ℕ
  pub first : float_places description ≡ at ∷ others

-- a fault of tokens, of syntax or of a type `float` that the bytes have; want of memory is free, and no other fault is one
abbrev pub IsReadFault : List ℕ → DescFault → Type 0
IsReadFault bytes (faults.Lex at) = IsStuckAt bytes at
IsReadFault bytes (faults.Syntax at) = HasNoTree bytes at
IsReadFault bytes (faults.Float at) = IsFloat bytes at
IsReadFault bytes faults.Memory = Unit {0}
IsReadFault bytes _ = ⊥
