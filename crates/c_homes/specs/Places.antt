-- The homes of constants, arrays' first cells and return labels, and what cells hold at the start, over statements alone.
use Rattle.std.specs.Prelude.{ℕ, ◌+◌, ℤ, pos, negsuc, List, ◌∷◌, ◌++◌, map, length, flat_map}
use Rattle.ir_core.specs.Operator.{wrap}
use Rattle.ir_run.specs.Entry.{Entry, Homes}
use Rattle.ir_run.specs.Value.{label_value}
use Rattle.ir_run.specs.Size.{constants_of_all}
use Rattle.ir_run.specs.declared.ir.Homes as kept
use Rattle.c_tree.specs.Lowered.{in_order, returned_label, numbered}

-- -1, 0, 1, each array's length and each number in a tree, wrapped, in rising order, each once
abbrev pub constants_from : (arrays : List (ℕ × ℕ)) → List Entry → (n : ℕ) → List ℤ
constants_from arrays entries n =
    in_order (negsuc 0 ∷ pos 0 ∷ pos 1 ∷ map (λ (cell, length). wrap n (pos length)) arrays ++ constants_of_all entries)

-- the cell of the first array's first cell, behind the constants
abbrev pub base_from : (first : ℕ) → (arrays : List (ℕ × ℕ)) → List Entry → (n : ℕ) → ℕ
base_from first arrays entries n = first + length (constants_from arrays entries n)

-- the cell of the first return label, behind the arrays' first cells
abbrev pub return_from : (first : ℕ) → (arrays : List (ℕ × ℕ)) → List Entry → (n : ℕ) → ℕ
return_from first arrays entries n = base_from first arrays entries n + length arrays

-- the first temporary, behind the return labels
abbrev pub temporary_from : (first : ℕ) → (arrays : List (ℕ × ℕ)) → List Entry → (n : ℕ) → ℕ
temporary_from first arrays entries n = return_from first arrays entries n + length (flat_map returned_label entries)

-- each constant, each array's first cell and each return label in a cell of its own, from the first cell on
abbrev pub homes_from : (first : ℕ) → (arrays : List (ℕ × ℕ)) → List Entry → (n : ℕ) → Homes
homes_from first arrays entries n = record {
  consts = numbered first (constants_from arrays entries n);
  bases = numbered (base_from first arrays entries n) (map (λ (cell, length). cell) arrays);
  labels = numbered (return_from first arrays entries n) (flat_map returned_label entries);
  temps = temporary_from first arrays entries n;
}

-- homes in code as definitions see them
abbrev pub homes_shown : kept.Homes → Homes
homes_shown h = record { consts = h.consts; bases = h.bases; labels = h.labels; temps = h.temps }

-- what cells hold at the start: values, wrapped, constants, arrays' first cells and labels
abbrev pub start_from : (values : List (ℕ × ℤ)) → Homes → (n : ℕ) → List (ℕ × ℤ)
start_from values h n =
    map (λ (k, z). (k, wrap n z)) values ++ h.consts ++ map (λ (k, c). (k, wrap n (pos c))) h.bases ++ map (λ (k, l). (k, label_value l)) h.labels
