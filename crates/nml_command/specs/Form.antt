-- The forms of the words: a command's name, and what it is called with; and the files that it names.
use Rattle.std.specs.Prelude.{ℕ, Bool, ◌&&◌, List, [], ◌∷◌, Option, Some, None, codes, if◌then◌else◌, nat_lt, nat_le, length}
use Rattle.std.specs.Char.{is_ascii_digit}
use Rattle.std.specs.List.{list_all}
use Rattle.std.specs.Str.Parse.{digits_value}
use Rattle.nk_base.specs.Text.{text_eq}

pub data Form : Type 0 where
  Check : (description : List ℕ) → Form
  Asm : (description source image : List ℕ) → Form
  Dis : (description image : List ℕ) → Form
  Run : (description image input : List ℕ) (steps : ℕ) → Form
  Cc : (description source image : List ℕ) → Form
  Ceval : (description source input : List ℕ) (turns : ℕ) → Form
  Demo : (size : ℕ) → Form

-- a file's name is any word but the empty one
abbrev pub is_file : List ℕ → Bool
is_file word = nat_lt 0 (length word)

-- one to so many decimal digits, of a value of 1 to `most`
abbrev pub is_count : ℕ → ℕ → List ℕ → Bool
is_count digits most word =
    nat_lt 0 (length word) && nat_le (length word) digits && list_all is_ascii_digit word && nat_le 1 (digits_value 10 word) && nat_le (digits_value 10 word) most

-- steps and turns: up to ten digits, up to 1,000,000,000
abbrev pub is_bound : List ℕ → Bool
is_bound word = is_count 10 1000000000 word

-- the size of a demonstration: up to three digits, up to 200
abbrev pub is_size : List ℕ → Bool
is_size word = is_count 3 200 word

abbrev pub form_of : List (List ℕ) → Option Form
form_of (name ∷ a ∷ []) =
    if text_eq name (codes "check") && is_file a then Some (Check a)
    else if text_eq name (codes "demo") && is_size a then Some (Demo (digits_value 10 a))
    else None
form_of (name ∷ a ∷ b ∷ []) = if text_eq name (codes "dis") && is_file a && is_file b then Some (Dis a b) else None
form_of (name ∷ a ∷ b ∷ c ∷ []) =
    if text_eq name (codes "asm") && is_file a && is_file b && is_file c then Some (Asm a b c)
    else if text_eq name (codes "cc") && is_file a && is_file b && is_file c then Some (Cc a b c)
    else None
form_of (name ∷ a ∷ b ∷ c ∷ n ∷ []) =
    if text_eq name (codes "run") && is_file a && is_file b && is_file c && is_bound n then Some (Run a b c (digits_value 10 n))
    else if text_eq name (codes "ceval") && is_file a && is_file b && is_file c && is_bound n then Some (Ceval a b c (digits_value 10 n))
    else None
form_of _ = None

-- ---- the files that the words name

-- to be read, in this order
abbrev pub files_to_read : Form → List (List ℕ)
files_to_read (Check d) = d ∷ []
files_to_read (Asm d s i) = d ∷ s ∷ []
files_to_read (Dis d i) = d ∷ i ∷ []
files_to_read (Run d i x steps) = d ∷ i ∷ x ∷ []
files_to_read (Cc d c i) = d ∷ c ∷ []
files_to_read (Ceval d c x turns) = d ∷ c ∷ x ∷ []
files_to_read (Demo size) = []

-- to be written
abbrev pub file_to_write : Form → Option (List ℕ)
file_to_write (Check d) = None
file_to_write (Asm d s i) = Some i
file_to_write (Dis d i) = None
file_to_write (Run d i x steps) = None
file_to_write (Cc d c i) = Some i
file_to_write (Ceval d c x turns) = None
file_to_write (Demo size) = None

-- the same of any words: none where they match no form
abbrev pub named_to_read : Option Form → List (List ℕ)
named_to_read None = []
named_to_read (Some form) = files_to_read form

abbrev pub named_to_write : Option Form → Option (List ℕ)
named_to_write None = None
named_to_write (Some form) = file_to_write form
