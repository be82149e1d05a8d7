-- The tokens of bytes, in any language, stand in them one behind the other.
use Rattle.std.proofs.Common.{◌≡◌, ◌∙◌, ap, refl, sym, ℕ, ◌+◌, ◌≤◌, List, [], ◌∷◌, ◌++◌, length, take, drop, arith, take_at, drop_at}
use Rattle.std.proofs.lemmas.List.{drop-drop}
use Rattle.nml_lex.specs.Lexed.{Part, Space, Word, Lexeme, lexemes}
use Rattle.c_lex.specs.Lexing.{Lexicon, BeginsWith, HasTokens, StandFrom}
use Rattle.c_lex.proofs.Longest.{Apart, token_length}

-- behind a text that stands at this place
behind : (whole bytes text rest : List ℕ) (at : ℕ) → drop at whole ≡ bytes → bytes ≡ text ++ rest → drop (at + length text) whole ≡ rest
behind whole bytes text rest at e f = sym (drop-drop (length text) at whole) ∙ ap (drop (length text)) (e ∙ f) ∙ drop_at text rest (length text) refl

-- the tokens among the parts that stand at this place
stand : (l : Lexicon) (whole bytes : List ℕ) (parts : List Part) (left : List ℕ) (from at : ℕ) → Apart l → drop at whole ≡ bytes → BeginsWith l bytes parts left → from ≤ at → StandFrom whole from (lexemes at parts)
stand l whole bytes [] left from at apart e b low = tt
stand l whole bytes (Space text ∷ parts) left from at apart e b low = stand l whole b.0 parts left from (at + length text) apart (behind whole bytes text b.0 at e b.1) b.3 (omega arith)
stand l whole bytes (Word text ∷ parts) left from at apart e b low = (
  low,
  token_length l text apart b.2.token,
  ap (take (length text)) (e ∙ b.1) ∙ take_at text b.0 (length text) refl,
  stand l whole b.0 parts left (at + length text) (at + length text) apart (behind whole bytes text b.0 at e b.1) b.3 (omega arith),
)

pub placed : (l : Lexicon) (bytes : List ℕ) (ps : List Lexeme) → Apart l → HasTokens l bytes ps → StandFrom bytes 0 ps
placed l bytes ps apart h = rw h.is (stand l bytes bytes h.parts h.left 0 0 apart refl h.begins (omega arith))
