-- The tokens so far, in any language: parts in front of the bytes, and what is left behind them.
use Rattle.std.proofs.Common.{◌≡◌, ◌∙◌, ap, refl, sym, ℕ, ◌+◌, ◌-◌, List, [], ◌∷◌, ◌++◌, length, map, arith, add-zero, add_assoc, length-append}
use Rattle.std.proofs.lemmas.List.{map-append}
use Rattle.nml_lex.specs.Cut.{Begins}
use Rattle.nml_lex.specs.Form.{is_space}
use Rattle.nml_lex.specs.Lexed.{Part, Space, Word, Lexeme, bytes_of, lexemes, size, lexeme_of}
use Rattle.nml_lex.specs.declared.scan.Token.{Token}
use Rattle.c_lex.specs.Lexing.{Lexicon, IsPart, IsWord, BeginsWith}

-- one part more
begins_more : (l : Lexicon) (bytes : List ℕ) (parts : List Part) (rest less : List ℕ) (p : Part) → BeginsWith l bytes parts rest → rest ≡ bytes_of p ++ less → IsPart l p less → BeginsWith l bytes (parts ++ p ∷ []) less
begins_more l bytes [] rest less p b e i = (less, b ∙ e, i, refl)
begins_more l bytes (q ∷ parts) rest less p b e i = (b.0, b.1, b.2, begins_more l b.0 parts rest less p b.3 e i)

-- the parts and the rest are all the bytes
size_is : (l : Lexicon) (bytes : List ℕ) (parts : List Part) (rest : List ℕ) → BeginsWith l bytes parts rest → length bytes ≡ size parts + length rest
size_is l bytes [] rest b = ap length b ∙ omega arith
size_is l bytes (q ∷ parts) rest b = omega (arith, ap length b.1, length-append (bytes_of q) b.0, size_is l b.0 parts rest b.3)

-- a space adds no token, and a token stands behind those before it
lexemes_space : (at : ℕ) (parts : List Part) (text : List ℕ) → lexemes at (parts ++ Space text ∷ []) ≡ lexemes at parts
lexemes_space at [] text = refl
lexemes_space at (Space t ∷ parts) text = lexemes_space (at + length t) parts text
lexemes_space at (Word t ∷ parts) text = ap (λ ps. record { at = at; text = t } ∷ ps) (lexemes_space (at + length t) parts text)

-- the lexeme behind the parts
abbrev lexeme_behind : ℕ → List Part → List ℕ → Lexeme
lexeme_behind at parts text = record { at = at + size parts; text = text }

abbrev lexeme_of_text : List ℕ → ℕ → Lexeme
lexeme_of_text text n = record { at = n; text = text }

behind_is : (at : ℕ) (q : Part) (parts : List Part) (text : List ℕ) → lexeme_behind (at + length (bytes_of q)) parts text ≡ lexeme_behind at (q ∷ parts) text
behind_is at q parts text = ap (lexeme_of_text text) (add_assoc at (length (bytes_of q)) (size parts))

lexemes_word : (at : ℕ) (parts : List Part) (text : List ℕ) → lexemes at (parts ++ Word text ∷ []) ≡ lexemes at parts ++ lexeme_behind at parts text ∷ []
lexemes_word at [] text = ap (λ n. lexeme_of_text text n ∷ []) (sym (add-zero at))
lexemes_word at (Space t ∷ parts) text = lexemes_word (at + length t) parts text ∙ ap (λ p. lexemes (at + length t) parts ++ p ∷ []) (behind_is at (Space t) parts text)
lexemes_word at (Word t ∷ parts) text =
    ap (λ ps. record { at = at; text = t } ∷ ps) (lexemes_word (at + length t) parts text ∙ ap (λ p. lexemes (at + length t) parts ++ p ∷ []) (behind_is at (Word t) parts text))

-- the parts of these tokens stand in front, and the rest behind them
pub record Begun (l : Lexicon) (bytes : List ℕ) (tokens : List Token) (rest : List ℕ) : Type 0 where
  pub parts : List Part
  pub begins : BeginsWith l bytes parts rest
  pub is : map lexeme_of tokens ≡ lexemes 0 parts
  pub place : length bytes ≡ size parts + length rest

-- a part more, whose tokens are these
begun_more : (l : Lexicon) (bytes : List ℕ) (parts : List Part) (rest less : List ℕ) (p : Part) (tokens : List Token) → BeginsWith l bytes parts rest → rest ≡ bytes_of p ++ less → IsPart l p less
    → map lexeme_of tokens ≡ lexemes 0 (parts ++ p ∷ []) → Begun l bytes tokens less
begun_more l bytes parts rest less p tokens b e i is =
    let more = begins_more l bytes parts rest less p b e i in record { parts = parts ++ p ∷ []; begins = more; is = is; place = size_is l bytes (parts ++ p ∷ []) less more }

-- behind a space, and behind a token
pub at_space : (l : Lexicon) (bytes : List ℕ) (tokens : List Token) (rest less : List ℕ) → Begun l bytes tokens rest → Begins is_space rest less → Begun l bytes tokens less
at_space l bytes tokens rest less b s = begun_more l bytes b.parts rest less (Space s.text) tokens b.begins s.is s.passes (b.is ∙ sym (lexemes_space 0 b.parts s.text))

pub at_word : (l : Lexicon) (bytes : List ℕ) (tokens more : List Token) (rest less : List ℕ) (t : Token) → Begun l bytes tokens rest → rest ≡ t.text.now ++ less → IsWord l t.text.now less → t.at ≡ length bytes - length rest
    → more ≡ tokens ++ t ∷ [] → Begun l bytes more less
at_word l bytes tokens more rest less t b e w at is =
    begun_more l bytes b.parts rest less (Word t.text.now) more b.begins e w
    (ap (map lexeme_of) is ∙ map-append lexeme_of tokens (t ∷ []) ∙ ap (λ ps. ps ++ lexeme_of t ∷ []) b.is ∙ ap (λ p. lexemes 0 b.parts ++ p ∷ []) (same_lexeme t (size b.parts) (let place = b.place in omega arith))
    ∙ sym (lexemes_word 0 b.parts t.text.now)) where
      same_lexeme : (t : Token) (n : ℕ) → t.at ≡ 0 + n → lexeme_of t ≡ record { at = 0 + n; text = t.text.now }
      same_lexeme t n e = ap (lexeme_of_text t.text.now) e
