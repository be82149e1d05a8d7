-- The values that lines give, by their cells.
use Rattle.std.specs.Prelude.{ℕ, ◌≡◌, ◌||◌, nat_lt, not, Bool, true, List, [], ◌++◌, map}
use Rattle.std.specs.List.{list_any}
use Rattle.std.specs.List.Sorted.{IsPermutation}
use Rattle.nml_tree.specs.Machine.{Initial}
use Rattle.nml_tree.specs.Table.{Table}
use Rattle.asm_lines.specs.Line.{Content, Line}
use Rattle.asm_text.specs.Assembled.{given, given_by, is_same_cell}
use Rattle.asm_text.specs.Refused.{data_lines, is_data}
use Rattle.asm_data.specs.Storages.{initial_of}
use Rattle.asm_data.specs.declared.storages.Cell.{Cell}

-- cells with their values, as a machine begins with them
abbrev pub initials : List (Cell × ℕ) → List Initial
initials es = map initial_of es

-- the value isn't 0
abbrev pub is_some_value : Initial → Bool
is_some_value i = nat_lt 0 i.raw

-- the line gives no cell, or a value out of range, or a cell that was given before
abbrev pub is_wrong : Table → List Initial → Content → Bool
is_wrong t before c = not (is_data t c) || list_any (λ i. list_any (is_same_cell i) before) (given_by t c)

-- the line is right, and what it gives came to the values, or it is wrong
pub record IsAdded (t : Table) (c : Content) (before after : List Initial) (right : Bool) : Type 0 where
  pub right_is : right ≡ not (is_wrong t before c)
  pub after_is : right ≡ true → IsPermutation (before ++ given_by t c) after

-- no line is wrong, and these are the values that they give
pub record AreValues (t : Table) (ls : List Line) (es : List (Cell × ℕ)) : Type 0 where
  pub free : data_lines t [] 0 ls ≡ []
  pub same : IsPermutation (given t ls) (initials es)
