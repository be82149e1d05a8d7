-- Where the parts of a program's statements stand.
use Rattle.std.proofs.Common.{◌≡◌, ℕ, zero, suc, ◌+◌, List, [], ◌∷◌, ◌++◌, Bool, true, false, ◌||◌, Some, None, length, append-nil, refl, ap, sym, ◌∙◌, subst}
use Rattle.std.specs.Prelude.{slice_get, ◌==◌, if◌then◌else◌}
use Rattle.std.specs.List.{list_any}
use Rattle.std.proofs.lemmas.Bool.{eq-eqb}
use Rattle.ir_core.specs.declared.relation.Rel.{Rel}
use Rattle.ir_run.specs.Node.{Node}
use Rattle.ir_run.specs.Entry.{Entry, Branch, Mark, Halt}
use Rattle.c_tree.specs.Program.{sizes, Function, Program}
use Rattle.c_tree.specs.Meaning.{global_cells}
use Rattle.c_tree.specs.Code.{Frame}
use Rattle.c_tree.specs.Lowered.{Returns, Halts, layout, function_steps, main_steps, other_steps, all_steps, goes_to, trap_steps, trap_label, program_frames, program_entries}
use Rattle.c_agree.proofs.World.{Stands}
use Rattle.c_agree.proofs.Stands.{split, stands_behind}

-- ---- functions

-- the statements of a function, from its mark on
pub record FunctionAt (p : Program) (n : ℕ) (code : List Entry) (function : Function) (frame : Frame) : Type 0 where
  pub place : ℕ
  pub behind : ℕ
  pub stands : Stands code place (function_steps (layout p n frame.first) (Returns frame.result frame.ret) function (frame.first + sizes function.variables) frame.label) behind

none : {X : Type 0} (x : X) → None ≡ Some x → ⊥
none x e = cc

function_at : (p : Program) (n : ℕ) (code : List Entry) (fs : List Function) (gs : List Frame) (a q : ℕ) → Stands code a (other_steps p n fs gs) q → (f : ℕ) (function : Function) (frame : Frame) → slice_get fs f ≡ Some function → slice_get gs f ≡ Some frame → FunctionAt p n code function frame
function_at p n code [] gs a q h f function frame is at = absurd (none function is)
function_at p n code (x ∷ fs) [] a q h f function frame is at = absurd (none frame at)
function_at p n code (x ∷ fs) (y ∷ gs) a q h zero function frame is at =
    let e : x ≡ function = cc in
    let e' : y ≡ frame = cc in
    let i = split code a q (function_steps (layout p n y.first) (Returns y.result y.ret) x (y.first + sizes x.variables) y.label) (other_steps p n fs gs) h in
    let this : FunctionAt p n code x y = record { place = a; behind = i.0; stands = i.1 } in
    subst (λ y. FunctionAt p n code function y) e' (subst (λ x. FunctionAt p n code x y) e this)
function_at p n code (x ∷ fs) (y ∷ gs) a q h (suc f) function frame is at =
    let i = split code a q (function_steps (layout p n y.first) (Returns y.result y.ret) x (y.first + sizes x.variables) y.label) (other_steps p n fs gs) h in
    function_at p n code fs gs i.0 q i.2 f function frame is at

-- the statements of `main`
pub record MainAt (p : Program) (n : ℕ) (code : List Entry) (main : Function) : Type 0 where
  pub behind : ℕ
  pub stands : Stands code 0 (function_steps (layout p n (global_cells p)) Halts main (global_cells p + sizes main.variables) 0) behind

module _ (p : Program) (n : ℕ) where
  -- the statements
  abbrev code : List Entry
  code = program_entries p n

  all_stand : Stands code 0 code (length code)
  all_stand = stands_behind code []

  -- a program's functions stand in its statements
  pub functions_stand : (f : ℕ) (function : Function) (frame : Frame) → slice_get p.functions f ≡ Some function → slice_get (program_frames p) f ≡ Some frame → FunctionAt p n code function frame
  functions_stand f function frame is at =
      let h = split code 0 (length code) (all_steps p n) (trap_steps p n) all_stand in
      let i = split code 0 h.0 (main_steps p n p.main) (other_steps p n p.functions (program_frames p)) h.1 in
      function_at p n code p.functions (program_frames p) i.0 h.0 i.2 f function frame is at

  -- and so does `main`, from the beginning
  pub main_stands : (main : Function) → p.main ≡ Some main → MainAt p n code main
  main_stands main is =
      let h = split code 0 (length code) (all_steps p n) (trap_steps p n) all_stand in
      let i = split code 0 h.0 (main_steps p n p.main) (other_steps p n p.functions (program_frames p)) h.1 in
      record { behind = i.0; stands = subst (λ m. Stands code 0 (main_steps p n m) i.0) is i.1 }

-- ---- the trap

any_at : (test : Entry → Bool) (es : List Entry) (k : ℕ) (e : Entry) → slice_get es k ≡ Some e → test e ≡ true → list_any test es ≡ true
any_at test [] k e is h = absurd (none e is)
any_at test (x ∷ es) zero e is h = let same : x ≡ e = cc in ap (λ x. test x || list_any test es) same ∙ ap (λ b. b || list_any test es) h
any_at test (x ∷ es) (suc k) e is h = ap (λ b. test x || b) (any_at test es k e is h) ∙ or_true (test x)
  where
    or_true : (b : Bool) → (b || true) ≡ true
    or_true true = refl
    or_true false = refl

-- the statements with the trap or without
abbrev with_trap : List Entry → ℕ → Bool → List Entry
with_trap es label b = es ++ (if b then Mark label ∷ Halt 1 ∷ [] else [])

trap_by : (es : List Entry) (label k : ℕ) (r : Rel) (x y : Node) (b : Bool) → list_any (goes_to label) es ≡ b → slice_get (with_trap es label b) k ≡ Some (Branch r x y label)
    → (p : ℕ) × (slice_get (with_trap es label b) p ≡ Some (Mark label)) × (slice_get (with_trap es label b) (suc p) ≡ Some (Halt 1))
trap_by es label k r x y true any is = let h = stands_behind (Mark label ∷ Halt 1 ∷ []) es in (length es, h.0, h.1.0)
trap_by es label k r x y false any is =
    let here : slice_get es k ≡ Some (Branch r x y label) = ap (λ es. slice_get es k) (sym (append-nil es)) ∙ is in
    let hit : (label == label) ≡ true = eq-eqb label label refl in
    let e : false ≡ true = sym any ∙ any_at (goes_to label) es k (Branch r x y label) here hit in
    absurd cc

-- where a branch goes to the trap, the trap is there
pub trap_there : (p : Program) (n k : ℕ) (r : Rel) (x y : Node) → slice_get (program_entries p n) k ≡ Some (Branch r x y (trap_label p))
    → (q : ℕ) × (slice_get (program_entries p n) q ≡ Some (Mark (trap_label p))) × (slice_get (program_entries p n) (suc q) ≡ Some (Halt 1))
trap_there p n k r x y is = trap_by (all_steps p n) (trap_label p) k r x y (list_any (goes_to (trap_label p)) (all_steps p n)) refl is
