-- The tokens so far: parts in front of the bytes, and what is left behind them.
use Rattle.std.proofs.Common.{◌≡◌, ◌∙◌, ap, refl, sym, ℕ, ◌+◌, ◌-◌, ◌<◌, ◌≤◌, true, List, [], ◌∷◌, ◌++◌, zero, suc, length, map, take, drop, arith, add-zero, add_assoc, length-append, take-append-drop, length-take-le}
use Rattle.std.proofs.lemmas.Bool.{cond_both}
use Rattle.std.proofs.lemmas.List.{map-append}
use Rattle.nml_lex.specs.Cut.{Begins}
use Rattle.nml_lex.specs.Form.{is_space, is_token, is_within, longest, longest_of}
use Rattle.nml_lex.specs.Lexed.{Part, Space, Word, IsPart, IsWord, BeginsWith, Lexeme, bytes_of, lexemes, size, lexeme_of}
use Rattle.nml_lex.specs.declared.scan.Token.{Token}

-- one part more
begins_more : (bytes : List ℕ) (parts : List Part) (rest less : List ℕ) (p : Part) → BeginsWith bytes parts rest → rest ≡ bytes_of p ++ less → IsPart p less → BeginsWith bytes (parts ++ p ∷ []) less
begins_more bytes [] rest less p b e i = (less, b ∙ e, i, refl)
begins_more bytes (q ∷ parts) rest less p b e i = (b.0, b.1, b.2, begins_more b.0 parts rest less p b.3 e i)

-- the parts and the rest are all the bytes
size_is : (bytes : List ℕ) (parts : List Part) (rest : List ℕ) → BeginsWith bytes parts rest → length bytes ≡ size parts + length rest
size_is bytes [] rest b = ap length b ∙ omega arith
size_is bytes (q ∷ parts) rest b = omega (arith, ap length b.1, length-append (bytes_of q) b.0, size_is b.0 parts rest b.3)

-- a space adds no token, and a token stands behind those before it
lexemes_space : (at : ℕ) (parts : List Part) (text : List ℕ) → lexemes at (parts ++ Space text ∷ []) ≡ lexemes at parts
lexemes_space at [] text = refl
lexemes_space at (Space t ∷ parts) text = lexemes_space (at + length t) parts text
lexemes_space at (Word t ∷ parts) text = ap (λ ps. record { at = at; text = t } ∷ ps) (lexemes_space (at + length t) parts text)

-- the lexeme behind the parts
abbrev lexeme_behind : ℕ → List Part → List ℕ → Lexeme
lexeme_behind at parts text = record { at = at + size parts; text = text }

abbrev lexeme_of_text : List ℕ → ℕ → Lexeme
lexeme_of_text text n = record { at = n; text = text }

behind_is : (at : ℕ) (q : Part) (parts : List Part) (text : List ℕ) → lexeme_behind (at + length (bytes_of q)) parts text ≡ lexeme_behind at (q ∷ parts) text
behind_is at q parts text = ap (lexeme_of_text text) (add_assoc at (length (bytes_of q)) (size parts))

lexemes_word : (at : ℕ) (parts : List Part) (text : List ℕ) → lexemes at (parts ++ Word text ∷ []) ≡ lexemes at parts ++ lexeme_behind at parts text ∷ []
lexemes_word at [] text = ap (λ n. lexeme_of_text text n ∷ []) (sym (add-zero at))
lexemes_word at (Space t ∷ parts) text = lexemes_word (at + length t) parts text ∙ ap (λ p. lexemes (at + length t) parts ++ p ∷ []) (behind_is at (Space t) parts text)
lexemes_word at (Word t ∷ parts) text =
    ap (λ ps. record { at = at; text = t } ∷ ps) (lexemes_word (at + length t) parts text ∙ ap (λ p. lexemes (at + length t) parts ++ p ∷ []) (behind_is at (Word t) parts text))

-- the parts of these tokens stand in front, and the rest behind them
pub record Begun (bytes : List ℕ) (tokens : List Token) (rest : List ℕ) : Type 0 where
  pub parts : List Part
  pub begins : BeginsWith bytes parts rest
  pub is : map lexeme_of tokens ≡ lexemes 0 parts
  pub place : length bytes ≡ size parts + length rest

-- a part more, whose tokens are these
begun_more : (bytes : List ℕ) (parts : List Part) (rest less : List ℕ) (p : Part) (tokens : List Token) → BeginsWith bytes parts rest → rest ≡ bytes_of p ++ less → IsPart p less → map lexeme_of tokens ≡ lexemes 0 (parts ++ p ∷ [])
    → Begun bytes tokens less
begun_more bytes parts rest less p tokens b e i is =
    let more = begins_more bytes parts rest less p b e i in record { parts = parts ++ p ∷ []; begins = more; is = is; place = size_is bytes (parts ++ p ∷ []) less more }

-- behind a space, and behind a token
pub at_space : (bytes : List ℕ) (tokens : List Token) (rest less : List ℕ) → Begun bytes tokens rest → Begins is_space rest less → Begun bytes tokens less
at_space bytes tokens rest less b s = begun_more bytes b.parts rest less (Space s.text) tokens b.begins s.is s.passes (b.is ∙ sym (lexemes_space 0 b.parts s.text))

pub at_word : (bytes : List ℕ) (tokens more : List Token) (rest less : List ℕ) (t : Token) → Begun bytes tokens rest → rest ≡ t.text.now ++ less → IsWord t.text.now less → t.at ≡ length bytes - length rest → more ≡ tokens ++ t ∷ []
    → Begun bytes more less
at_word bytes tokens more rest less t b e w at is =
    begun_more bytes b.parts rest less (Word t.text.now) more b.begins e w
    (ap (map lexeme_of) is ∙ map-append lexeme_of tokens (t ∷ []) ∙ ap (λ ps. ps ++ lexeme_of t ∷ []) b.is ∙ ap (λ p. lexemes 0 b.parts ++ p ∷ []) (same_lexeme t (size b.parts) (let place = b.place in omega arith))
    ∙ sym (lexemes_word 0 b.parts t.text.now)) where
      same_lexeme : (t : Token) (n : ℕ) → t.at ≡ 0 + n → lexeme_of t ≡ record { at = 0 + n; text = t.text.now }
      same_lexeme t n e = ap (lexeme_of_text t.text.now) e

-- ---- the longest token is one of the bytes' fronts

-- it is within the bytes, and it is a token
longest_of_within : (n : ℕ) (bytes : List ℕ) → longest_of n bytes ≤ n
longest_of_within zero bytes = omega arith
longest_of_within (suc n) bytes = cond_both (is_token (take (suc n) bytes)) (suc n) (longest_of n bytes) (λ k. k ≤ suc n) (λ e. omega arith) (λ e. omega (arith, longest_of_within n bytes))

pub longest_within : (bytes : List ℕ) → longest bytes ≤ length bytes
longest_within bytes = longest_of_within (length bytes) bytes

longest_of_token : (n : ℕ) (bytes : List ℕ) → 0 < longest_of n bytes → is_token (take (longest_of n bytes) bytes) ≡ true
longest_of_token zero bytes = λ h. absurd (omega arith)
longest_of_token (suc n) bytes =
    cond_both (is_token (take (suc n) bytes)) (suc n) (longest_of n bytes) (λ k. 0 < k → is_token (take k bytes) ≡ true) (λ e some. e) (λ e some. longest_of_token n bytes some)

pub longest_token : (bytes : List ℕ) (n : ℕ) → n ≡ longest bytes → 0 < n → is_token (take n bytes) ≡ true
longest_token bytes n e some = ap (λ k. is_token (take k bytes)) e ∙ longest_of_token (length bytes) bytes (omega arith)

-- the word in front
pub word_is : (bytes text less : List ℕ) (n : ℕ) → n ≡ longest bytes → text ≡ take n bytes → less ≡ drop n bytes → 0 < length text → is_within text ≡ true → IsWord text less
word_is bytes text less n e f g some within =
    let whole : text ++ less ≡ bytes = ap (λ t. t ++ less) f ∙ ap (λ t. take n bytes ++ t) g ∙ take-append-drop n bytes in
    let size_of : length text ≡ n = ap length f ∙ length-take-le n bytes (omega (arith, longest_within bytes)) in
    record {
      token = ap is_token f ∙ longest_token bytes n e (omega arith);
      longest_is = ap longest whole ∙ sym e ∙ sym size_of;
      within = within;
    }

pub word_front : (bytes text less : List ℕ) (n : ℕ) → text ≡ take n bytes → less ≡ drop n bytes → bytes ≡ text ++ less
word_front bytes text less n f g = sym (take-append-drop n bytes) ∙ ap (λ t. t ++ drop n bytes) (sym f) ∙ ap (λ t. text ++ t) (sym g)
