-- The statements of a sound program as the ground on which its functions run.
use Rattle.std.proofs.Common.{◌≡◌, ℕ, suc, ◌+◌, ◌-◌, ◌^◌, ◌<◌, ◌≤◌, List, [], ◌∷◌, ◌++◌, length, map, Bool, true, Some, None, refl, ap, sym, ◌∙◌, subst, arith}
use Rattle.std.specs.Prelude.{slice_get, All}
use Rattle.std.proofs.Math.Pow.{pow_mono}
use Rattle.ir_run.specs.Entry.{Mark}
use Rattle.ir_run.specs.Run.{place_of}
use Rattle.ir_run.specs.Strict.{is_inside}
use Rattle.c_tree.specs.declared.meaning.Place.{Place}
use Rattle.c_tree.specs.declared.meaning.Place.TheVariants as places
use Rattle.c_tree.specs.Program.{Shape, size, sizes, Function, Program}
use Rattle.c_tree.specs.Meaning.{global_cells, base_of}
use Rattle.c_tree.specs.Code.{Frame, or_no_frame, one_if}
use Rattle.c_tree.specs.Lowered.{own_cells, all_cells, arrays_among, arrays_of_main, arrays_of_functions, arrays, program_frames, trap_label, program_entries, lowered}
use Rattle.c_tree.specs.Counts.{data_of}
use Rattle.c_lowered.specs.Sound.{IsShape, shape_at, variable_at, IsArray, world, Sound}
use Rattle.c_agree.proofs.World.{Ground, IsOwn, IsFunction, IsGround, Here, IsHere, IsPlaced, IsLocal, cell_at, function_frame, payable}
use Rattle.c_agree.proofs.Places.{Block, total, whole, home, start, cell, block_at, owner, Room, room_at, home_at, owner_at, apart, plain, within, block_end, home_below}
use Rattle.c_agree.proofs.Blocks.{blocks_of, room_of, has_block, block_is, frame_of_block, start_is, frame_is, whole_is}
use Rattle.c_agree.proofs.Shapes.{shape_below, inside_left, inside_among}
use Rattle.c_agree.proofs.Parts.{functions_stand, trap_there}
use Rattle.c_counted.proofs.Cells.{cells_are_data}

-- the turns that bodies pay for at most, without their loops
abbrev pub payable_of_all : List Function → ℕ
payable_of_all [] = 0
payable_of_all (f ∷ fs) = payable f.body + payable_of_all fs

-- each label of the program's statements is marked once
abbrev pub Once : Program → ℕ → Type 0
Once p n = (k l : ℕ) → slice_get (program_entries p n) k ≡ Some (Mark l) → place_of (program_entries p n) l ≡ Some k

module _ (p : Program) (n : ℕ) (sound : Sound p n) where
  -- the blocks, with the ranks that are known
  abbrev pub bs : List Block
  bs = blocks_of p sound.rank sound.top

  -- the statements, and how the program lies in them
  abbrev pub ground_of : Ground
  ground_of = record {
    code = program_entries p n;
    bits = n;
    cells = (lowered p n).cells;
    arrays = arrays p;
    frames = program_frames p;
    trap = trap_label p;
    weight = suc (payable sound.main.body + payable_of_all p.functions);
    functions = p.functions;
    rank = sound.rank;
    owner = owner bs;
    memory = total bs;
    home = home bs;
    source_base = base_of p;
  }

  -- the same by a short name
  abbrev g : Ground
  g = ground_of

  room : Room bs
  room = room_of p sound.rank sound.top

  whole_below : whole bs ≤ g.cells
  whole_below = let e = whole_is p sound.rank sound.top in omega (arith, e)

  -- ---- a block's cells

  -- a variable's, by where the block begins in the memory and among the cells
  placed : (i : ℕ) → i < length bs → (b c : ℕ) → b ≡ start bs i → c ≡ cell bs i → (j : ℕ) → j < (block_at bs i).variables → (b + j < g.memory) × (g.home (b + j) ≡ c + j) × (g.owner (c + j) ≡ (block_at bs i).rank)
  placed i has b c eb ec j lt =
      let fits = room_at bs room i in (
        subst (λ b. b + j < total bs) (sym eb) (within bs i j has lt),
        ap (λ b. home bs (b + j)) eb ∙ home_at bs i j has lt ∙ ap (λ c. c + j) (sym ec),
        ap (λ c. owner bs (c + j)) ec ∙ owner_at bs i j has (omega (arith, fits, lt)),
      )

  -- one behind the variables
  own : (i : ℕ) → i < length bs → (rank : ℕ) → (block_at bs i).rank ≡ rank → (k j : ℕ) → k ≡ cell bs i + j → (block_at bs i).variables ≤ j → j < (block_at bs i).room → IsOwn g rank k
  own i has rank er k j ek from to =
      let e = block_end bs i in
      let w = whole_below in
      record {
        owned = ap (owner bs) ek ∙ owner_at bs i j has to ∙ er;
        plain = λ h. plain bs room i j h.variable from to h.below (h.is ∙ ek);
        inside = omega (arith, e, w, ek);
      }

  -- ---- the ground's facts

  length_sizes : (vs : List Shape) → All IsShape vs → length vs ≤ sizes vs
  length_sizes [] all = omega arith
  length_sizes (v ∷ vs) all =
      let rest = length_sizes vs (λ k d lt. all (suc k) d (omega arith)) in
      let first = size_some v (all 0 v (omega arith)) in
      omega (arith, rest, first)
    where
      size_some : (v : Shape) → IsShape v → 1 ≤ size v
      size_some None h = omega arith
      size_some (Some m) h = h.0

  function_is : (f : ℕ) (function : Function) → slice_get p.functions f ≡ Some function → IsFunction g f function
  function_is f function is =
      let i = suc (suc f) in
      let frame = frame_of_block p sound.rank sound.top f function in
      let at = frame_is p sound.rank sound.top f function is in
      let e : function_frame g f ≡ frame = ap or_no_frame at in
      let stands = functions_stand p n f function frame is at in
      let block = block_is sound.rank p.functions f function is in
      let variables : (block_at bs i).variables ≡ sizes function.variables = ap (λ b. b.variables) block in
      let cells : (block_at bs i).room ≡ all_cells function = ap (λ b. b.room) block in
      let rank : (block_at bs i).rank ≡ sound.rank f = ap (λ b. b.rank) block in
      let has : i < length bs = omega (arith, has_block sound.rank p.functions f function is) in
      let s = sound.sound f function is in
      let enough : function.arity ≤ sizes function.variables = let some = length_sizes function.variables s.shapes in omega (arith, some, s.parameters) in
      let one = λ (j : ℕ) (lt : j < function.arity). placed i has (base_of p f) (cell bs i) (start_is p sound.rank sound.top f function is) refl j (omega (arith, enough, variables)) in
      record {
        place = stands.place;
        mark = subst (λ (x : Frame). slice_get g.code stands.place ≡ Some (Mark x.label)) (sym e) stands.stands.0;
        parameter = λ j lt. (one j lt).0;
        parameter_home = λ j lt. (one j lt).1 ∙ ap (λ (x : Frame). x.first + j) (sym e);
        parameter_owner = λ j lt. ap (owner bs) (one j lt).1 ∙ (one j lt).2 ∙ rank;
        ret = subst (λ (x : Frame). IsOwn g (sound.rank f) x.ret) (sym e) (own i has (sound.rank f) rank frame.ret (own_cells function + one_if function.gives) (omega arith) (omega (arith, variables)) (omega (arith, cells)));
        result = λ gives. subst (λ (x : Frame). IsOwn g (sound.rank f) x.result) (sym e) (own i has (sound.rank f) rank frame.result (own_cells function) refl (omega (arith, variables)) (omega (arith, cells)));
        two = λ gives same. let one : one_if function.gives ≡ 1 = ap one_if gives in let same' : frame.ret ≡ frame.result = ap (λ (x : Frame). x.ret) (sym e) ∙ same ∙ ap (λ (x : Frame). x.result) e in omega (arith, one, same');
      }

  -- what functions that run there ask for
  pub is_ground : data_of p n ≤ 65536 → Once p n → IsGround ground_of
  is_ground small once = record {
    width = sound.width;
    room = let e = cells_are_data p n in let wide : 2 ^ 16 ≤ 2 ^ n = pow_mono {i = 16} {j = n} sound.width.0 in omega (arith, e, small, wide);
    some = omega arith;
    once = once;
    trap = λ k r x y is. trap_there p n k r x y is;
    functions = function_is;
    one = λ x y below_x below_y same. apart bs room x y below_x below_y same;
    homes = λ x below. let w = whole_below in omega (arith, w, home_below bs room x below);
  }

  -- ---- where a function runs

  arrays_of_globals : (k : ℕ) → is_inside (arrays_among 0 (map (λ v. v.shape) p.globals)) k ≡ true → is_inside (arrays p) k ≡ true
  arrays_of_globals k h =
      inside_left (arrays_among 0 (map (λ v. v.shape) p.globals) ++ arrays_of_main (global_cells p) p.main) (arrays_of_functions p.functions (program_frames p)) k
      (inside_left (arrays_among 0 (map (λ v. v.shape) p.globals)) (arrays_of_main (global_cells p) p.main) k h)

  -- a function whose variables begin with b in the memory and with c among the cells
  abbrev pub here_at : (rank : ℕ) (is_main : Bool) (function : Function) (b c ret : ℕ) (returns : Bool) → Here
  here_at rank is_main function b c ret returns = record {
    rank = rank;
    lo = c + sizes function.variables;
    hi = c + own_cells function;
    ret = ret;
    returns = returns;
    source_base = b;
    base = c;
    world = world p n sound.rank rank is_main function;
  }

  -- in the block i, that begins with b in the memory and with c among the cells
  pub is_here_at : (i : ℕ) → i < length bs → (rank : ℕ) (is_main : Bool) (function : Function) (b c ret : ℕ) (returns : Bool) → b ≡ start bs i → c ≡ cell bs i
      → (block_at bs i).variables ≡ sizes function.variables → own_cells function ≤ (block_at bs i).room → (block_at bs i).rank ≡ rank
      → (returns ≡ true → IsOwn g rank ret × (c + own_cells function ≤ ret))
      → ((k : ℕ) → is_inside (arrays_among c function.variables) k ≡ true → is_inside (arrays p) k ≡ true)
      → IsHere g (here_at rank is_main function b c ret returns)
  is_here_at i has rank is_main function b c ret returns eb ec variables cells er leaves inside = record {
    bits = refl;
    functions = refl;
    ranks = λ f. refl;
    rank = refl;
    steps = λ k from to. by_offset k from to;
    top = let w = whole_below in let e = block_end bs i in omega (arith, w, e, ec, cells);
    ret_own = λ e. (leaves e).0;
    ret_apart = λ e from to. let l = (leaves e).1 in omega (arith, l, to);
    placed = λ x v is j lt. placed_at x v is j lt;
    local = λ x v is loc j lt. local_at x v is loc j lt;
    array = λ x m is j lt. array_at x m is j lt;
  }
    where
      by_offset : (k : ℕ) → c + sizes function.variables ≤ k → k < c + own_cells function → IsOwn g rank k
      by_offset k from to = let j = k - c in own i has rank er k j (omega (arith, from, ec)) (omega (arith, from, variables)) (omega (arith, from, to, cells))

      assoc : (a b c : ℕ) → a + (b + c) ≡ a + b + c
      assoc a b c = omega arith

      in_block : (k : ℕ) (v : Shape) → shape_at 0 function.variables k ≡ Some v → (j : ℕ) → j < size v → (b + (k + j) < g.memory) × (g.home (b + (k + j)) ≡ c + (k + j)) × (g.owner (c + (k + j)) ≡ (block_at bs i).rank)
      in_block k v is j lt = let s = shape_below 0 function.variables k v is in placed i has b c eb ec (k + j) (omega (arith, s.1, lt, variables))

      placed_at : (x : Place) (v : Shape) → variable_at (world p n sound.rank rank is_main function) x ≡ Some v → (j : ℕ) → j < size v → IsPlaced g (here_at rank is_main function b c ret returns) x j
      placed_at (places.Global k) v is j lt =
          let s = shape_below 0 (map (λ v. v.shape) p.globals) k v is in
          let e : 0 + (k + j) ≡ k + j = omega arith in
          let one = placed 0 (omega arith) 0 0 refl refl (k + j) (omega (arith, s.1, lt)) in
          record {
            below = subst (λ x. x < total bs) e one.0;
            home = ap (home bs) (sym e) ∙ one.1 ∙ e;
            owned = let o : owner bs (k + j) ≡ 0 = ap (owner bs) (sym e) ∙ one.2 in omega (arith, o);
          }
      placed_at (places.Local k) v is j lt =
          let one = in_block k v is j lt in
          record {
            below = subst (λ x. x < total bs) (assoc b k j) one.0;
            home = ap (home bs) (sym (assoc b k j)) ∙ one.1 ∙ assoc c k j;
            owned = let o : owner bs (c + k + j) ≡ rank = ap (owner bs) (sym (assoc c k j)) ∙ one.2 ∙ er in omega (arith, o);
          }

      local_at : (x : Place) (v : Shape) → variable_at (world p n sound.rank rank is_main function) x ≡ Some v → IsLocal x → (j : ℕ) → j < size v → owner bs (cell_at (here_at rank is_main function b c ret returns) x + j) ≡ rank
      local_at (places.Global k) v is loc j lt = absurd loc
      local_at (places.Local k) v is loc j lt = ap (owner bs) (sym (assoc c k j)) ∙ (in_block k v is j lt).2 ∙ er

      array_at : (x : Place) (m : ℕ) → IsArray (world p n sound.rank rank is_main function) x m → (j : ℕ) → j < m → is_inside (arrays p) (cell_at (here_at rank is_main function b c ret returns) x + j) ≡ true
      array_at (places.Global k) m is j lt =
          let e : 0 + k + j ≡ k + j = omega arith in
          arrays_of_globals (k + j) (subst (λ x. is_inside (arrays_among 0 (map (λ v. v.shape) p.globals)) x ≡ true) e (inside_among 0 0 (map (λ v. v.shape) p.globals) k m j is lt))
      array_at (places.Local k) m is j lt =
          let e : c + 0 ≡ c = omega arith in
          inside (c + k + j) (subst (λ x. is_inside (arrays_among x function.variables) (c + k + j) ≡ true) e (inside_among c 0 function.variables k m j is lt))
