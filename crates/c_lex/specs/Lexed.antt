-- The tokens of a program's bytes, and where bytes have none.
use Rattle.std.specs.Prelude.{ℕ, List}
use Rattle.nml_lex.specs.Lexed.{Lexeme}
use Rattle.c_lex.specs.Form.{is_token, is_within}
use Rattle.c_lex.specs.Lexing.{Lexicon, HasTokens, IsHaltedAt}
use Rattle.c_lex.specs.Lexing as lexing
use Rattle.c_lex.specs.declared.fault.LexFault.{LexFault}
use Rattle.c_lex.specs.declared.fault.LexFault.TheVariants as faults

-- the tokens of programs
abbrev pub c : Lexicon
c = record { is_token = is_token; is_within = is_within }

-- how many bytes make the longest token in front
abbrev pub longest : List ℕ → ℕ
longest bytes = lexing.longest c bytes

-- the bytes have these tokens, and nothing else but what separates them
abbrev pub HasLexemes : List ℕ → List Lexeme → Type 0
HasLexemes bytes ps = HasTokens c bytes ps

-- behind tokens and what separates them the bytes are stuck, at this place
abbrev pub IsStuckAt : List ℕ → ℕ → Type 0
IsStuckAt bytes at = IsHaltedAt c bytes at

-- a fault of tokens: the bytes are stuck at this place; want of memory is free
abbrev pub IsLexFault : List ℕ → LexFault → Type 0
IsLexFault bytes (faults.Stuck at) = IsStuckAt bytes at
IsLexFault bytes faults.Memory = Unit {0}
