-- Kinds of bytes, in ASCII.
use Rattle.std.specs.Prelude.{ℕ, Bool, ◌==◌, ◌||◌}
use Rattle.std.specs.Char.{is_ascii_alphabetic, is_ascii_digit}

-- a letter of a name: `_` counts as one
abbrev pub is_name_start : ℕ → Bool
is_name_start c = is_ascii_alphabetic c || (c == 95)

-- a letter, a digit or `_`
abbrev pub is_name_byte : ℕ → Bool
is_name_byte c = is_name_start c || is_ascii_digit c

-- empty space within a line: a blank, a tab or a carriage return
abbrev pub is_blank : ℕ → Bool
is_blank c = (c == 32) || (c == 9) || (c == 13)

-- empty space between tokens, over lines: that within a line, or a line feed
abbrev pub is_gap : ℕ → Bool
is_gap c = is_blank c || (c == 10)
