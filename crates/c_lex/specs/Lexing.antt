-- The tokens of bytes in any language that has the blanks and comments of a description, and where bytes have none.
use Rattle.std.specs.Prelude.{◌≡◌, ℕ, ◌+◌, ◌≤◌, drop, zero, suc, ◌⊎◌, ◌<◌, ◌&&◌, ◌||◌, ◌==◌, Bool, false, List, [], ◌∷◌, ◌++◌, length, take, if◌then◌else◌, IsTrue, IsFalse}
use Rattle.nml_lex.specs.Form.{is_space, is_end}
use Rattle.nml_lex.specs.Lexed.{Lexeme, Part, Space, Word, bytes_of, lexemes, size}

-- what a language's tokens are, and which of them are within their limits
pub record Lexicon : Type 0 where
  pub is_token : List ℕ → Bool
  pub is_within : List ℕ → Bool

-- `//` or `/*`, which begin a comment and no token
abbrev pub begins_comment : List ℕ → Bool
begins_comment [] = false
begins_comment (c ∷ []) = false
begins_comment (c ∷ d ∷ cs) = (c == 47) && ((d == 47) || (d == 42))

-- how many of these bytes, so many at most, pass the test together: the most that do, and 0 where none do
abbrev pub longest_of : (List ℕ → Bool) → ℕ → List ℕ → ℕ
longest_of test zero bytes = 0
longest_of test (suc n) bytes = if test (take (suc n) bytes) then suc n else longest_of test n bytes

-- how many bytes make the longest token in front; 0 where none do, and where a comment begins
abbrev pub longest : Lexicon → List ℕ → ℕ
longest l bytes = if begins_comment bytes then 0 else longest_of l.is_token (length bytes) bytes

-- the bytes in front are the longest that make a token, and within its limit
pub record IsWord (l : Lexicon) (text rest : List ℕ) : Type 0 where
  pub token : IsTrue (l.is_token text)
  pub longest_is : longest l (text ++ rest) ≡ length text
  pub within : IsTrue (l.is_within text)

-- the part stands in front of this rest
abbrev pub IsPart : Lexicon → Part → List ℕ → Type 0
IsPart l (Space text) rest = IsTrue (is_space text)
IsPart l (Word text) rest = IsWord l text rest

-- the bytes begin with these parts, and then this is left
abbrev pub BeginsWith : Lexicon → List ℕ → List Part → List ℕ → Type 0
BeginsWith l bytes [] left = bytes ≡ left
BeginsWith l bytes (part ∷ parts) left = (rest : List ℕ) × (bytes ≡ bytes_of part ++ rest) × IsPart l part rest × BeginsWith l rest parts left

-- the bytes have these tokens, and nothing else but what separates them
pub record HasTokens (l : Lexicon) (bytes : List ℕ) (ps : List Lexeme) : Type 0 where
  pub parts : List Part
  pub left : List ℕ
  pub begins : BeginsWith l bytes parts left
  pub ends : IsTrue (is_end left)
  pub is : ps ≡ lexemes 0 parts

-- The byte in front begins no token and no space, or the longest token in front is over its limit.
pub record IsStuck (l : Lexicon) (bytes : List ℕ) : Type 0 where
  pub no_end : IsFalse (is_end bytes)
  pub no_space : (text rest : List ℕ) → bytes ≡ text ++ rest → IsTrue (is_space text) → ⊥
  pub no_word : (longest l bytes ≡ 0) ⊎ ((0 < longest l bytes) × IsFalse (l.is_within (take (longest l bytes) bytes)))

-- behind tokens and what separates them the bytes are stuck, at this place
pub record IsHaltedAt (l : Lexicon) (bytes : List ℕ) (at : ℕ) : Type 0 where
  pub parts : List Part
  pub left : List ℕ
  pub begins : BeginsWith l bytes parts left
  pub stuck : IsStuck l left
  pub is : at ≡ size parts

-- Each of the tokens has a byte, is what the bytes have at its place, and begins no sooner than the one before it ends; the first begins no
-- sooner than here.
abbrev pub StandFrom : List ℕ → ℕ → List Lexeme → Type 0
StandFrom bytes from [] = Unit {0}
StandFrom bytes from (p ∷ ps) = (from ≤ p.at) × (0 < length p.text) × (take (length p.text) (drop p.at bytes) ≡ p.text) × StandFrom bytes (p.at + length p.text) ps
