-- The statements of a sound program begin as the program does.
use Rattle.std.proofs.Common.{◌≡◌, ℕ, ◌+◌, ◌-◌, ◌<◌, ℤ, pos, List, [], ◌∷◌, ◌++◌, length, length-append, map, replicate, Bool, true, false, refl, ap, sym, ◌∙◌, subst, arith}
use Rattle.std.specs.Prelude.{flat_map, nat_lt, All, if◌then◌else◌}
use Rattle.std.proofs.lemmas.Bool.{ltb-false}
use Rattle.std.proofs.lemmas.List.{length-replicate, get_or_past}
use Rattle.std.proofs.lemmas.Option.{slice_get_within, get_or_from_slice_get}
use Rattle.ir_core.specs.Operator.{wrap}
use Rattle.ir_core.specs.Inputs.{IsNumber}
use Rattle.ir_run.specs.Value.{label_value}
use Rattle.ir_run.specs.Run.{filled}
use Rattle.ir_run.specs.Run as statements
use Rattle.c_tree.specs.Program.{Program}
use Rattle.c_tree.specs.Meaning.{initial_cells, global_cells, function_cells, all_functions}
use Rattle.c_tree.specs.Meaning as source
use Rattle.c_tree.specs.Lowered.{numbered, first_constant, first_base, first_return, constants, arrays, return_labels, lowered}
use Rattle.c_lowered.specs.Sound.{Sound}
use Rattle.c_agree.proofs.World.{Fits}
use Rattle.c_agree.proofs.Places.{home, home_below, home_behind}
use Rattle.c_agree.proofs.Blocks.{global_block, main_block, function_blocks, room_of, whole_is, total_is}
use Rattle.c_agree.proofs.Grounds.{bs, ground_of}
use Rattle.c_agree.proofs.Filled.{at, length-filled, filled_append, Lies, lies_wider, filled_before, initially, initially_filled, zeros_at, at_zeros, initial_number, length-initially}

-- values in a row of cells
numbered_lie : (c : ℕ) (zs : List ℤ) → Lies c (c + length zs) (numbered c zs)
numbered_lie c [] = tt
numbered_lie c (z ∷ zs) = (omega arith, omega arith, lies_wider (c + 1) (c + 1 + length zs) c (c + length (z ∷ zs)) (numbered (c + 1) zs) (omega arith) (omega arith) (numbered_lie (c + 1) zs))

mapped_lie : {X : Type 0} (f : X → ℤ) (c : ℕ) (xs : List X) → Lies c (c + length xs) (map (λ (k, x). (k, f x)) (numbered c xs))
mapped_lie f c [] = tt
mapped_lie f c (x ∷ xs) = (omega arith, omega arith, lies_wider (c + 1) (c + 1 + length xs) c (c + length (x ∷ xs)) (map (λ (k, x). (k, f x)) (numbered (c + 1) xs)) (omega arith) (omega arith) (mapped_lie f (c + 1) xs))

-- what is filled behind doesn't show before
unseen : (from to : ℕ) (xs ys : List (ℕ × ℤ)) (cells : List ℤ) (k : ℕ) → Lies from to ys → k < from → at (filled cells (xs ++ ys)) k ≡ at (filled cells xs) k
unseen from to xs ys cells k lies lt = ap (λ l. at l k) (filled_append xs ys cells) ∙ filled_before from to ys (filled cells xs) k lies lt

module _ (p : Program) (n : ℕ) (sound : Sound p n) where
  -- a cell before the constants' at the start
  begun_at : (k : ℕ) → k < first_constant p → at (filled (replicate (lowered p n).cells (pos 0)) (lowered p n).start) k ≡ at (flat_map initial_cells p.globals) k
  begun_at k lt =
      let z : List ℤ = replicate (lowered p n).cells (pos 0) in
      let a : List (ℕ × ℤ) = initially n 0 p.globals in
      let b : List (ℕ × ℤ) = numbered (first_constant p) (constants p n) in
      let c : List (ℕ × ℤ) = map (λ (k, c). (k, wrap n (pos c))) (numbered (first_base p n) (map (λ (cell, length). cell) (arrays p))) in
      let d : List (ℕ × ℤ) = map (λ (k, l). (k, label_value l)) (numbered (first_return p n) (return_labels p n)) in
      let e : 0 + k ≡ k = omega arith in
      unseen (first_return p n) _ (a ++ b ++ c) d z k (mapped_lie label_value (first_return p n) (return_labels p n)) (omega (arith, lt))
      ∙ unseen (first_base p n) _ (a ++ b) c z k (mapped_lie (λ c. wrap n (pos c)) (first_base p n) (map (λ (cell, length). cell) (arrays p))) (omega (arith, lt))
      ∙ unseen (first_constant p) _ a b z k (numbered_lie (first_constant p) (constants p n)) lt
      ∙ ap (at (filled z a)) (sym e)
      ∙ initially_filled n 0 p.globals z sound.globals (let l = length-replicate (lowered p n).cells (pos 0) in omega (arith, l)) (λ k le. zeros_at (lowered p n).cells k) k

  -- the program's memory at the start
  memory_at : (input : List ℤ) (turns k : ℕ) → source.held (source.beginning p input turns) k ≡ at (flat_map initial_cells p.globals) k
  memory_at input turns k = at_zeros (flat_map initial_cells p.globals) (function_cells (all_functions p)) k

  same_at : (x : ℕ) → at (flat_map initial_cells p.globals) (home (bs p n sound) x) ≡ at (flat_map initial_cells p.globals) x
  same_at x = by_test (nat_lt x (global_cells p)) refl
    where
      by_test : (b : Bool) → nat_lt x (global_cells p) ≡ b → at (flat_map initial_cells p.globals) (home (bs p n sound) x) ≡ at (flat_map initial_cells p.globals) x
      by_test true e = ap (λ b. at (flat_map initial_cells p.globals) (if b then x else global_cells p + home (main_block p sound.top ∷ function_blocks sound.rank p.functions) (x - global_cells p))) e
      by_test false e =
          let le = ltb-false x (global_cells p) e in
          let l = length-initially p.globals in
          let far = home_behind (global_block p) (main_block p sound.top ∷ function_blocks sound.rank p.functions) x (omega (arith, le)) in
          get_or_past (flat_map initial_cells p.globals) (home (bs p n sound) x) (pos 0) (omega (arith, l, far))
          ∙ sym (get_or_past (flat_map initial_cells p.globals) x (pos 0) (omega (arith, l, le)))

  -- at the start the machine has the variables and the input of the program
  pub fits_beginning : (input : List ℤ) → All (IsNumber n) input → (turns : ℕ) → Fits (ground_of p n sound) turns (source.beginning p input turns) (statements.beginning (lowered p n) input) 0
  fits_beginning input numbers turns = record {
    place = refl;
    cells = length-filled (lowered p n).start (replicate (lowered p n).cells (pos 0)) ∙ length-replicate (lowered p n).cells (pos 0);
    memory =
        length-append (flat_map initial_cells p.globals) (replicate (function_cells (all_functions p)) (pos 0))
        ∙ ap (λ k. k + length (replicate (function_cells (all_functions p)) (pos 0))) (length-initially p.globals)
        ∙ ap (λ k. global_cells p + k) (length-replicate (function_cells (all_functions p)) (pos 0))
        ∙ sym (total_is p sound.rank sound.top);
    same = λ x lt.
        let below = home_below (bs p n sound) (room_of p sound.rank sound.top) x lt in
        let w = whole_is p sound.rank sound.top in
        begun_at (home (bs p n sound) x) (omega (arith, below, w)) ∙ same_at x ∙ sym (memory_at input turns x);
    numbers = λ x. subst (IsNumber n) (sym (memory_at input turns x)) (initial_number n p.globals sound.globals x);
    input = refl;
    inputs = λ k z is. subst (IsNumber n) (get_or_from_slice_get input k z (pos 0) is) (numbers k (pos 0) (slice_get_within input k z is));
    turns = omega arith;
  }
