-- The statements of a program fit: the cells that they set lie below the first constant's, and frames and arrays do.
use Rattle.std.proofs.Common.{◌≡◌, refl, sym, ap, subst, ℕ, zero, suc, ◌+◌, ◌<◌, ◌≤◌, List, [], ◌∷◌, arith, Bool, true, false, cond, Option, Some, None, length}
use Rattle.std.specs.Prelude.{slice_get, nat_eq, map, All, if◌then◌else◌}
use Rattle.std.specs.List.{list_any}
use Rattle.std.proofs.lemmas.Bool.{eqb-true}
use Rattle.std.proofs.lemmas.List.Elements.{All-head, All-tail}
use Rattle.ir_run.specs.Entry.{Entry, Mark, Halt}
use Rattle.c_tree.specs.declared.meaning.Place.{Place}
use Rattle.c_tree.specs.declared.meaning.Place.TheVariants as places
use Rattle.c_tree.specs.Program.{Shape, size, sizes, Function, Program}
use Rattle.c_tree.specs.Meaning.{global_cells}
use Rattle.c_tree.specs.Code.{Frame, or_no_frame, cell_of}
use Rattle.c_tree.specs.Lowered.{Halts, Returns, frame, frames, all_cells, cells_of_all, main_cells, main_marks, function_marks, function_steps, program_frames, trap_label, layout, main_steps, other_steps, all_steps, goes_to, program_entries, first_constant}
use Rattle.c_lowered.specs.Sound.{shape_at, IsShape, IsScalar, SoundFunction, world, Sound}
use Rattle.c_promise.proofs.Fit.{AllFit, join}
use Rattle.c_promise.proofs.Pieces.{Fits}
use Rattle.c_promise.proofs.Commands.{function_fit}

abbrev shape_or : Option Shape → Shape → Shape
shape_or (Some x) d = x
shape_or None d = d

-- a variable's cells lie among those of all
pub shape_room : (cell : ℕ) (vs : List Shape) (k : ℕ) (v : Shape) → shape_at cell vs k ≡ Some v → (cell ≤ k) × (k + size v ≤ cell + sizes vs)
shape_room cell [] k v is = let none : None ≡ Some v = is in cc
shape_room cell (u ∷ us) k v is = by (nat_eq cell k) refl is (shape_room (cell + size u) us k v)
  where
    by : (b : Bool) → nat_eq cell k ≡ b → (if b then Some u else shape_at (cell + size u) us k) ≡ Some v
        → (shape_at (cell + size u) us k ≡ Some v → (cell + size u ≤ k) × (k + size v ≤ cell + size u + sizes us)) → (cell ≤ k) × (k + size v ≤ cell + (size u + sizes us))
    by true test found rest =
        let same : u ≡ v = ap (λ o. shape_or o u) found in
        let here = eqb-true cell k test in
        let long = ap size same in
        (omega (arith, here), omega (arith, here, long))
    by false test found rest = let r = rest found in (omega (arith, r.0), omega (arith, r.1))

-- each variable has a cell at least
pub length_sizes : (vs : List Shape) → All IsShape vs → length vs ≤ sizes vs
length_sizes [] h = omega arith
length_sizes (None ∷ vs) h = let rest = length_sizes vs (All-tail IsShape None vs h) in omega (arith, rest)
length_sizes (Some n ∷ vs) h =
    let first = All-head IsShape (Some n) vs h in
    let rest = length_sizes vs (All-tail IsShape (Some n) vs h) in
    omega (arith, first.0, rest)

-- the frame of a function of the list lies among the cells of all
pub data HasFrame (cell : ℕ) (fs : List Function) (f : Function) (o : Option Frame) : Type 0 where
  At : (first label : ℕ) → o ≡ Some (frame first label f) → cell ≤ first → first + all_cells f ≤ cell + cells_of_all fs → HasFrame cell fs f o

abbrev function_or : Option Function → Function → Function
function_or (Some f) d = f
function_or None d = d

pub has_frame : (fs : List Function) (cell label g : ℕ) (f : Function) → slice_get fs g ≡ Some f → HasFrame cell fs f (slice_get (frames cell label fs) g)
has_frame [] cell label g f is = let none : None ≡ Some f = is in cc
has_frame (e ∷ fs) cell label zero f is =
    let same : e ≡ f = ap (λ o. function_or o e) is in
    At cell label (ap (λ x. Some (frame cell label x)) same) (omega arith) (subst (λ x. cell + all_cells x ≤ cell + (all_cells e + cells_of_all fs)) same (omega arith))
has_frame (e ∷ fs) cell label (suc g) f is = by (has_frame fs (cell + all_cells e) (label + function_marks e) g f is)
  where
    by : HasFrame (cell + all_cells e) fs f (slice_get (frames (cell + all_cells e) (label + function_marks e) fs) g) → HasFrame cell (e ∷ fs) f (slice_get (frames (cell + all_cells e) (label + function_marks e) fs) g)
    by (At first l there low high) = At first l there (omega (arith, low)) (omega (arith, high))

module _ (p : Program) (n : ℕ) (s : Sound p n) where
  frame_fits : (g : ℕ) (f : Function) → slice_get p.functions g ≡ Some f → (o : Option Frame) → HasFrame (global_cells p + main_cells p.main) p.functions f o
      → ((or_no_frame o).first + f.arity ≤ first_constant p) × ((or_no_frame o).ret < first_constant p)
  frame_fits g f is o (At first label there low high) =
      let at : (or_no_frame o).first ≡ first = ap (λ x. (or_no_frame x).first) there in
      let back : (or_no_frame o).ret ≡ (frame first label f).ret = ap (λ x. (or_no_frame x).ret) there in
      let sound = s.sound g f is in
      let few = sound.parameters in
      let many = length_sizes f.variables sound.shapes in
      (omega (arith, at, high, few, many), omega (arith, back, high))

  -- what is known of the layout of a function whose variables lie below the first constant
  pub fits : (own : ℕ) (is_main : Bool) (f : Function) (base : ℕ) → base + sizes f.variables ≤ first_constant p → Fits (world p n s.rank own is_main f) (layout p n base) (first_constant p)
  fits own is_main f base room = record {
    bits = refl;
    scalars = scalar;
    parameters = λ g e is. (frame_fits g e is (slice_get (program_frames p) g) (has_frame p.functions (global_cells p + main_cells p.main) (main_marks p.main) g e is)).0;
    returns = λ g e is. (frame_fits g e is (slice_get (program_frames p) g) (has_frame p.functions (global_cells p + main_cells p.main) (main_marks p.main) g e is)).1;
  }
    where
      scalar : (v : Place) → IsScalar (world p n s.rank own is_main f) v → cell_of (layout p n base) v < first_constant p
      scalar (places.Global k) is = let r = (shape_room 0 (map (λ v. v.shape) p.globals) k None is).1 in omega (arith, r)
      scalar (places.Local k) is = let r = (shape_room 0 f.variables k None is).1 in omega (arith, r, room)

  main_fit : AllFit n (first_constant p) (main_steps p n p.main)
  main_fit =
      let base = global_cells p in
      let f = s.main in
      let cells = ap main_cells s.main_is in
      subst (λ m. AllFit n (first_constant p) (main_steps p n m)) (sym s.main_is)
      (function_fit (world p n s.rank s.top true f) (layout p n base) (first_constant p) (fits s.top true f base (omega (arith, cells))) f Halts (base + sizes f.variables) 0 tt s.main_sound.body (omega (arith, cells)))

  others_fit : (fs : List Function) (cell label : ℕ) → ((g : ℕ) (f : Function) → slice_get fs g ≡ Some f → (own : ℕ) × SoundFunction (world p n s.rank own false f) f)
      → cell + cells_of_all fs ≤ first_constant p → AllFit n (first_constant p) (other_steps p n fs (frames cell label fs))
  others_fit [] cell label sound room = tt
  others_fit (f ∷ fs) cell label sound room =
      let g : Frame = frame cell label f in
      let known = sound 0 f refl in
      let k = cell + sizes f.variables in
      join n (first_constant p) (function_steps (layout p n cell) (Returns g.result g.ret) f k label) (other_steps p n fs (frames (cell + all_cells f) (label + function_marks f) fs))
      (function_fit (world p n s.rank known.0 false f) (layout p n cell) (first_constant p) (fits known.0 false f cell (omega (arith, room))) f (Returns g.result g.ret) k label (omega (arith, room)) known.1.body (omega (arith, room)))
      (others_fit fs (cell + all_cells f) (label + function_marks f) (λ g f is. sound (suc g) f is) (omega (arith, room)))

  -- the statements of a program
  pub program_fit : AllFit n (first_constant p) (program_entries p n)
  program_fit =
      join n (first_constant p) (all_steps p n) (trap (list_any (goes_to (trap_label p)) (all_steps p n)))
      (join n (first_constant p) (main_steps p n p.main) (other_steps p n p.functions (program_frames p)) main_fit
      (others_fit p.functions (global_cells p + main_cells p.main) (main_marks p.main) (λ g f is. (s.rank g, s.sound g f is)) (omega arith)))
      (by (list_any (goes_to (trap_label p)) (all_steps p n)))
    where
      trap : Bool → List Entry
      trap b = cond b (Mark (trap_label p) ∷ Halt 1 ∷ []) []

      by : (b : Bool) → AllFit n (first_constant p) (cond b (Mark (trap_label p) ∷ Halt 1 ∷ []) [])
      by true = (tt, (omega arith, tt))
      by false = tt
