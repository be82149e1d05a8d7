-- The symbols of the reader, without where they lie in memory, and what its functions tell. Private: their contracts cite it.
use Rattle.std.specs.Prelude.{IsTrue}
use Rattle.nml_lex.specs.Form.{is_token, is_within}
use Rattle.nml_lex.specs.Lexed.{Lexeme}

-- the text is a token within its limit
abbrev pub IsSound : Lexeme → Type 0
IsSound p = IsTrue (is_token p.text) × IsTrue (is_within p.text)
