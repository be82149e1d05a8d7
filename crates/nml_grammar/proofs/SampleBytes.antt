-- Bytes that are no description, by computation.
use Rattle.std.specs.Prelude.{List, refl, [], ◌∷◌, codes}
use Rattle.nml_lex.specs.Lexed.{HasLexemes, Lexeme, Space, Word}
use Rattle.nml_grammar.specs.Trees.{HasNoTree}
use Rattle.nml_lex.specs.Sample.{word}
use Rattle.nml_grammar.proofs.SomeReading.{read_none}

-- ---- `op instruction =` is none: it ends too early, so the place is its length

-- its tokens
abbrev tokens : List Lexeme
tokens = record { at = 0; text = codes "op" } ∷ record { at = 3; text = codes "instruction" } ∷ record { at = 15; text = codes "=" } ∷ []

has_tokens : HasLexemes (codes "op instruction =") tokens
has_tokens = record {
  parts = Word (codes "op") ∷ Space (codes " ") ∷ Word (codes "instruction") ∷ Space (codes " ") ∷ Word (codes "=") ∷ [];
  left = [];
  begins = (_, refl, word refl refl refl, (_, refl, refl, (_, refl, word refl refl refl, (_, refl, refl, (_, refl, word refl refl refl, refl)))));
  ends = refl;
  is = refl;
}

-- all of them begin one, as `op instruction = a` shows, and no description has them alone
pub no_alternatives : HasNoTree (codes "op instruction =") 16
no_alternatives = read_none (codes "op instruction =") tokens [] has_tokens refl
