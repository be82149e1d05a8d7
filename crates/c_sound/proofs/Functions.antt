-- A function without faults is sound.
use Rattle.std.proofs.Common.{◌≡◌, refl, sym, ap, subst, ℕ, zero, suc, ◌<◌, ◌≤◌, arith, Bool, true, false, List, [], ◌∷◌, ◌++◌, Option, Some, None, length, take}
use Rattle.std.specs.Prelude.{map, replicate, if◌then◌else◌}
use Rattle.std.specs.List.{AllByRecursion}
use Rattle.std.proofs.lemmas.List.{append-nil}
use Rattle.std.proofs.lemmas.List.Elements.{All-from_recursion}
use Rattle.ir_run.specs.Shifts.{IsCellWidth}
use Rattle.c_tree.specs.declared.program.Param.{Param}
use Rattle.c_tree.specs.declared.meaning.Meaning.{Meaning}
use Rattle.c_tree.specs.declared.meaning.Place.TheVariants as places
use Rattle.c_tree.specs.Items.{Definition, Defines}
use Rattle.c_tree.specs.Names.{Names, meaning_in, with_variable, body_shapes, parameters, gives_value, is_main, own_meaning, behind_name, before_parameters, behind_parameters, before_body}
use Rattle.c_tree.specs.Faults.{GivesValue, GivesNone, GivesEither, giving, declared_faults, params_faults, body_faults, global_faults}
use Rattle.c_tree.specs.Recursion.{body_callees}
use Rattle.c_tree.specs.Resolve.{body_of, function}
use Rattle.c_tree.specs.Program.{Shape, Function, Program}
use Rattle.c_lowered.specs.Sound.{IsShape, World, world, SoundFunction}
use Rattle.c_sound.proofs.Lists.{no_right, each_same, each_of_both}
use Rattle.c_sound.proofs.Meanings.{IsKnown, Means, Knows, names_widened, meaning_known, with_known, Seen, seen_shape}
use Rattle.c_sound.proofs.Commands.{Returns, within, body_sound}
use Rattle.c_sound.proofs.Bodies.{body_fits, body_never_ends}

-- the shapes of a program's globals
abbrev pub shapes_of : Program → List Shape
shapes_of p = map (λ v. v.shape) p.globals

-- what names mean outside of functions
abbrev pub KnowsOutside : Program → Names → Type 0
KnowsOutside p s = Knows (shapes_of p) [] p.functions s

own_known : (gs ls : List Shape) (fs : List Function) (o : Option Meaning) → IsKnown gs ls fs o → Means gs ls fs (own_meaning o)
own_known gs ls fs None h = tt
own_known gs ls fs (Some m) h = h

-- behind a function's name
pub name_known : (p : Program) (s : Names) (f : Definition) → KnowsOutside p s → KnowsOutside p (behind_name s f)
name_known p s f h =
    let m = own_known (shapes_of p) [] p.functions (meaning_in s.functions f.name.text) (meaning_known (shapes_of p) [] p.functions s.functions f.name.text h.2) in
    (with_known (shapes_of p) [] p.functions s.block f.name.text (own_meaning (meaning_in s.functions f.name.text)) h.0 m, h.1, h.2)

seen_parameters : (w : World) (s : Names) (ps : List Param) (rest : List Shape) → Seen w s (replicate (length ps) None ++ rest) → Seen w (behind_parameters s ps) rest
seen_parameters w s [] rest h = h
seen_parameters w s (p ∷ ps) rest h =
    seen_parameters w (with_variable places.Local s p.name.text None) ps rest (seen_shape w s p.name.text None (replicate (length ps) None ++ rest) h)

front_same : (k : ℕ) (x : Shape) (ys : List Shape) → take k (replicate k x ++ ys) ≡ replicate k x
front_same zero x ys = refl
front_same (suc k) x ys = ap (λ t. x ∷ t) (front_same k x ys)

front_fits : (k : ℕ) (x : Shape) (ys : List Shape) → k ≤ length (replicate k x ++ ys)
front_fits zero x ys = omega arith
front_fits (suc k) x ys = let h = front_fits k x ys in omega (arith, h)

returns_fit : (w : World) (gives main : Bool) → w.gives ≡ gives → w.is_main ≡ main → Returns w (if gives then (if main then GivesEither else GivesValue) else GivesNone)
returns_fit w true true g m = m
returns_fit w true false g m = λ is. g
returns_fit w false main g m = λ is. g

-- a function without faults, whose calls are of functions of lower ranks
pub function_sound : (p : Program) (n : ℕ) (rank : ℕ → ℕ) (own : ℕ) (main : Bool) (s : Names) (f : Definition) → IsCellWidth n → KnowsOutside p s → is_main f ≡ main → global_faults n s (Defines f) ≡ []
    → AllByRecursion (λ g. rank g < own) (body_callees (before_body s f) (body_of f.braces)) → SoundFunction (world p n rank own main (function s f)) (function s f)
function_sound p n rank own main s f wide known is fits low =
    let w = world p n rank own main (function s f) in
    let b = body_of f.braces in
    let k = length (parameters f.params) in
    let front = declared_faults s f.name ++ params_faults (before_parameters s f) (parameters f.params) in
    let body_right = no_right front (body_faults (within w (giving f) false) (before_body s f) b) fits in
    let shapes = each_of_both IsShape (replicate k None) (body_shapes b) (each_same IsShape k None tt) (body_fits (within w (giving f) false) (before_body s f) b body_right) in
    let outside = names_widened (shapes_of p) w.locals p.functions (behind_name s f) (name_known p s f known) in
    let at_first : Seen w (before_parameters s f) (replicate k None ++ body_shapes b) =
    record { ahead = λ j v found. found; known = (tt, (outside.0, outside.1), outside.2); small = shapes } in
    let at_body = seen_parameters w (before_parameters s f) (parameters f.params) (body_shapes b) at_first in
    let seen : Seen w (before_body s f) (body_shapes b ++ []) = subst (Seen w (before_body s f)) (sym (append-nil (body_shapes b))) at_body in
    let returns = returns_fit w (gives_value f.result) (is_main f) refl (sym is) in
    record {
      shapes = All-from_recursion IsShape (replicate k None ++ body_shapes b) shapes;
      parameters = front_fits k None (body_shapes b);
      scalars = front_same k None (body_shapes b);
      body = body_sound w wide (giving f) returns false false (before_body s f) b [] seen body_right low;
      ends = λ h. body_never_ends (before_body s f) b h;
    }
