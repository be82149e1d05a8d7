-- The blocks of a program: the globals, `main`, and each other function, with the functions' frames.
use Rattle.std.proofs.Common.{◌≡◌, ℕ, zero, suc, ◌+◌, ◌<◌, ◌≤◌, List, [], ◌∷◌, ◌++◌, length, take, Option, Some, None, refl, ap, ◌∙◌, arith}
use Rattle.std.specs.Prelude.{slice_get}
use Rattle.c_tree.specs.Program.{sizes, Function, Program}
use Rattle.c_tree.specs.Meaning.{global_cells, function_cells, main_functions, base_of}
use Rattle.c_tree.specs.Code.{Frame}
use Rattle.c_tree.specs.Lowered.{all_cells, frame, frames, cells_of_all, marks_of_all, function_marks, main_cells, main_marks, program_frames, first_constant}
use Rattle.c_agree.proofs.Places.{Block, total, whole, start, cell, block_at, Room}

-- a block for each function, with the ranks from this one on
abbrev pub function_blocks : (rank : ℕ → ℕ) → List Function → List Block
function_blocks rank [] = []
function_blocks rank (f ∷ fs) = record { variables = sizes f.variables; room = all_cells f; rank = rank 0 } ∷ function_blocks (λ i. rank (suc i)) fs

-- the globals are all of their block
abbrev pub global_block : Program → Block
global_block p = record { variables = global_cells p; room = global_cells p; rank = 0 }

-- `main` has the top rank
abbrev pub main_block : Program → ℕ → Block
main_block p top = record { variables = function_cells (main_functions p.main); room = main_cells p.main; rank = top }

-- the functions have these ranks, and `main` the top one
abbrev pub blocks_of : Program → (rank : ℕ → ℕ) → (top : ℕ) → List Block
blocks_of p rank top = global_block p ∷ main_block p top ∷ function_blocks rank p.functions

main_room : (main : Option Function) → function_cells (main_functions main) ≤ main_cells main
main_room None = omega arith
main_room (Some f) = omega arith

functions_room : (rank : ℕ → ℕ) (fs : List Function) → Room (function_blocks rank fs)
functions_room rank [] = tt
functions_room rank (f ∷ fs) = (omega arith, functions_room (λ i. rank (suc i)) fs)

-- each block has its variables among its cells
pub room_of : (p : Program) (rank : ℕ → ℕ) (top : ℕ) → Room (blocks_of p rank top)
room_of p rank top = (omega arith, (main_room p.main, functions_room rank p.functions))

blocks_length : (rank : ℕ → ℕ) (fs : List Function) → length (function_blocks rank fs) ≡ length fs
blocks_length rank [] = refl
blocks_length rank (f ∷ fs) = ap suc (blocks_length (λ i. rank (suc i)) fs)

none : {X : Type 0} (x : X) → None ≡ Some x → ⊥
none x e = cc

-- a function has a block
pub has_block : (rank : ℕ → ℕ) (fs : List Function) (f : ℕ) (function : Function) → slice_get fs f ≡ Some function → f < length (function_blocks rank fs)
has_block rank [] f function is = absurd (none function is)
has_block rank (g ∷ fs) zero function is = omega arith
has_block rank (g ∷ fs) (suc f) function is = omega (arith, has_block (λ i. rank (suc i)) fs f function is)

-- with its variables, all its cells and its rank
pub block_is : (rank : ℕ → ℕ) (fs : List Function) (f : ℕ) (function : Function) → slice_get fs f ≡ Some function → block_at (function_blocks rank fs) f ≡ record { variables = sizes function.variables; room = all_cells function; rank = rank f }
block_is rank [] f function is = absurd (none function is)
block_is rank (g ∷ fs) zero function is = let e : g ≡ function = cc in ap (λ (g : Function). record { variables = sizes g.variables; room = all_cells g; rank = rank 0 }) e
block_is rank (g ∷ fs) (suc f) function is = block_is (λ i. rank (suc i)) fs f function is

-- where the variables of a function begin in the memory, and where its cells begin
starts : (rank : ℕ → ℕ) (fs : List Function) (f : ℕ) (function : Function) → slice_get fs f ≡ Some function → start (function_blocks rank fs) f ≡ function_cells (take f fs)
starts rank [] f function is = absurd (none function is)
starts rank (g ∷ fs) zero function is = refl
starts rank (g ∷ fs) (suc f) function is = ap (λ n. sizes g.variables + n) (starts (λ i. rank (suc i)) fs f function is)

cell_starts : (rank : ℕ → ℕ) (fs : List Function) (f : ℕ) (function : Function) → slice_get fs f ≡ Some function → cell (function_blocks rank fs) f ≡ cells_of_all (take f fs)
cell_starts rank [] f function is = absurd (none function is)
cell_starts rank (g ∷ fs) zero function is = refl
cell_starts rank (g ∷ fs) (suc f) function is = ap (λ n. all_cells g + n) (cell_starts (λ i. rank (suc i)) fs f function is)

frame_at : (c l : ℕ) (fs : List Function) (f : ℕ) (function : Function) → slice_get fs f ≡ Some function → slice_get (frames c l fs) f ≡ Some (frame (c + cells_of_all (take f fs)) (l + marks_of_all (take f fs)) function)
frame_at c l [] f function is = absurd (none function is)
frame_at c l (g ∷ fs) zero function is =
    let e : g ≡ function = cc in
    let c0 : c ≡ c + 0 = omega arith in
    let l0 : l ≡ l + 0 = omega arith in
    ap (λ g. Some (frame c l g)) e ∙ ap (λ c. Some (frame c l function)) c0 ∙ ap (λ l. Some (frame (c + 0) l function)) l0
frame_at c l (g ∷ fs) (suc f) function is =
    let a : c + all_cells g + cells_of_all (take f fs) ≡ c + (all_cells g + cells_of_all (take f fs)) = omega arith in
    let b : l + function_marks g + marks_of_all (take f fs) ≡ l + (function_marks g + marks_of_all (take f fs)) = omega arith in
    frame_at (c + all_cells g) (l + function_marks g) fs f function is
    ∙ ap (λ c. Some (frame c (l + function_marks g + marks_of_all (take f fs)) function)) a
    ∙ ap (λ l. Some (frame (c + (all_cells g + cells_of_all (take f fs))) l function)) b

module _ (p : Program) (rank : ℕ → ℕ) (top : ℕ) where
  -- the blocks
  abbrev bs : List Block
  bs = blocks_of p rank top

  -- the function's frame, by the first cell of its block
  abbrev pub frame_of_block : ℕ → Function → Frame
  frame_of_block f function = frame (cell bs (suc (suc f))) (main_marks p.main + marks_of_all (take f p.functions)) function

  -- a function's variables in the memory begin where its block does
  pub start_is : (f : ℕ) (function : Function) → slice_get p.functions f ≡ Some function → base_of p f ≡ start bs (suc (suc f))
  start_is f function is = let e = starts rank p.functions f function is in omega (arith, e)

  cell_is : (f : ℕ) (function : Function) → slice_get p.functions f ≡ Some function → global_cells p + main_cells p.main + cells_of_all (take f p.functions) ≡ cell bs (suc (suc f))
  cell_is f function is = let e = cell_starts rank p.functions f function is in omega (arith, e)

  -- a function's frame begins where its block does
  pub frame_is : (f : ℕ) (function : Function) → slice_get p.functions f ≡ Some function → slice_get (program_frames p) f ≡ Some (frame_of_block f function)
  frame_is f function is =
      frame_at (global_cells p + main_cells p.main) (main_marks p.main) p.functions f function is
      ∙ ap (λ c. Some (frame c (main_marks p.main + marks_of_all (take f p.functions)) function)) (cell_is f function is)

whole_functions : (rank : ℕ → ℕ) (fs : List Function) → whole (function_blocks rank fs) ≡ cells_of_all fs
whole_functions rank [] = refl
whole_functions rank (f ∷ fs) = ap (λ n. all_cells f + n) (whole_functions (λ i. rank (suc i)) fs)

total_functions : (rank : ℕ → ℕ) (fs : List Function) → total (function_blocks rank fs) ≡ function_cells fs
total_functions rank [] = refl
total_functions rank (f ∷ fs) = ap (λ n. sizes f.variables + n) (total_functions (λ i. rank (suc i)) fs)

-- the constants' cells come behind all blocks
pub whole_is : (p : Program) (rank : ℕ → ℕ) (top : ℕ) → whole (blocks_of p rank top) ≡ first_constant p
whole_is p rank top = let e = whole_functions rank p.functions in omega (arith, e)

functions_appended : (fs gs : List Function) → function_cells (fs ++ gs) ≡ function_cells fs + function_cells gs
functions_appended [] gs = let e : function_cells gs ≡ 0 + function_cells gs = omega arith in e
functions_appended (f ∷ fs) gs = let e = functions_appended fs gs in omega (arith, e)

-- the memory has the globals and the variables of all functions
pub total_is : (p : Program) (rank : ℕ → ℕ) (top : ℕ) → total (blocks_of p rank top) ≡ global_cells p + function_cells (main_functions p.main ++ p.functions)
total_is p rank top = let e = total_functions rank p.functions in let h = functions_appended (main_functions p.main) p.functions in omega (arith, e, h)
