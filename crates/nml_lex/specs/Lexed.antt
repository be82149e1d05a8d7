-- The tokens of bytes, and where bytes have none.
use Rattle.std.specs.Prelude.{◌≡◌, ℕ, ◌+◌, ◌⊎◌, ◌<◌, List, [], ◌∷◌, ◌++◌, length, take, IsTrue, IsFalse}
use Rattle.nml_lex.specs.Form.{is_token, is_within, longest, is_space, is_end}
use Rattle.nml_lex.specs.declared.scan.Token.{Token}
use Rattle.nml_tree.specs.declared.fault.DescFault.{DescFault}
use Rattle.nml_tree.specs.declared.fault.DescFault.TheVariants as faults

-- a token's bytes and their place, counted in bytes from 0
pub record Lexeme : Type 0 where
  pub at : ℕ
  pub text : List ℕ

-- one thing after another: what separates tokens, or a token
pub data Part : Type 0 where
  Space : List ℕ → Part
  Word : List ℕ → Part

abbrev pub bytes_of : Part → List ℕ
bytes_of (Space text) = text
bytes_of (Word text) = text

-- the bytes in front are the longest that make a token, and within its limit
pub record IsWord (text rest : List ℕ) : Type 0 where
  pub token : IsTrue (is_token text)
  pub longest_is : longest (text ++ rest) ≡ length text
  pub within : IsTrue (is_within text)

-- the part stands in front of this rest
abbrev pub IsPart : Part → List ℕ → Type 0
IsPart (Space text) rest = IsTrue (is_space text)
IsPart (Word text) rest = IsWord text rest

-- the bytes begin with these parts, and then this is left
abbrev pub BeginsWith : List ℕ → List Part → List ℕ → Type 0
BeginsWith bytes [] left = bytes ≡ left
BeginsWith bytes (part ∷ parts) left = (rest : List ℕ) × (bytes ≡ bytes_of part ++ rest) × IsPart part rest × BeginsWith rest parts left

-- the tokens among the parts, the first part standing at this place
abbrev pub lexemes : ℕ → List Part → List Lexeme
lexemes at [] = []
lexemes at (Space text ∷ parts) = lexemes (at + length text) parts
lexemes at (Word text ∷ parts) = record { at = at; text = text } ∷ lexemes (at + length text) parts

-- how many bytes the parts have
abbrev pub size : List Part → ℕ
size [] = 0
size (part ∷ parts) = length (bytes_of part) + size parts

-- the bytes have these tokens, and nothing else but what separates them
pub record HasLexemes (bytes : List ℕ) (ps : List Lexeme) : Type 0 where
  pub parts : List Part
  pub left : List ℕ
  pub begins : BeginsWith bytes parts left
  pub ends : IsTrue (is_end left)
  pub is : ps ≡ lexemes 0 parts

-- nothing that separates tokens stands in front
abbrev pub HasNoSpace : List ℕ → Type 0
HasNoSpace bytes = (text rest : List ℕ) → bytes ≡ text ++ rest → IsTrue (is_space text) → ⊥

-- The byte in front begins no token and no space, or the longest token in front is over its limit.
pub record IsStuck (bytes : List ℕ) : Type 0 where
  pub no_end : IsFalse (is_end bytes)
  pub no_space : HasNoSpace bytes
  pub no_word : (longest bytes ≡ 0) ⊎ ((0 < longest bytes) × IsFalse (is_within (take (longest bytes) bytes)))

-- behind tokens and what separates them the bytes are stuck, at this place
pub record IsStuckAt (bytes : List ℕ) (at : ℕ) : Type 0 where
  pub parts : List Part
  pub left : List ℕ
  pub begins : BeginsWith bytes parts left
  pub stuck : IsStuck left
  pub is : at ≡ size parts

-- a token without where it lies in memory
abbrev pub lexeme_of : Token → Lexeme
lexeme_of t = record { at = t.at; text = t.text.now }

-- a fault of tokens: the bytes are stuck at this place; want of memory is free, and no other fault is one
abbrev pub IsLexFault : List ℕ → DescFault → Type 0
IsLexFault bytes (faults.Lex at) = IsStuckAt bytes at
IsLexFault bytes faults.Memory = Unit {0}
IsLexFault bytes _ = ⊥
