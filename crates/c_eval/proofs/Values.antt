-- One of several things with small initial values.
use Rattle.std.proofs.Common.{◌≡◌, ℕ, zero, suc, ◌+◌, ◌<◌, arith, subst, sym, ◌∙◌, ℤ, List, [], ◌∷◌, ◌++◌, append_assoc, map, drop, drop-cons, add-one, length, get_or}
use Rattle.std.specs.Prelude.{slice_index_or}
use Rattle.c_tree.specs.declared.program.SNum.{SNum}
use Rattle.c_tree.specs.declared.program.GVar.{GVar}
use Rattle.c_tree.specs.declared.program.Vars.{Vars}
use Rattle.c_tree.specs.declared.program.Global.{Global}
use Rattle.c_tree.specs.declared.program.Global.TheVariants as global
use Rattle.c_tree.specs.Names.{gvars}
use Rattle.c_tree.specs.Resolve.{initial}
use Rattle.c_eval.specs.Starts.{IsSmallValue, AreSmallValues, HasSmallValues, HaveSmallValues, BeginSmall}

pub variable_at : (xs : List (ℕ × GVar)) (i : ℕ) (x : ℕ × GVar) → i < length xs → x ≡ get_or xs i x → HaveSmallValues (map (λ (comma, z). z) xs) → HasSmallValues x.1
variable_at [] i x low is h = absurd (omega (arith, low))
variable_at (y ∷ ys) zero x low is h = subst (λ z. HasSmallValues z.1) (sym is) h.0
variable_at (y ∷ ys) (suc i) x low is h = variable_at ys i x (omega (arith, low)) is h.1

behind_global : (g : Global) (gs : List Global) → BeginSmall (g ∷ gs) → BeginSmall gs
behind_global (global.Vars v) gs h = h.1
behind_global (global.Function f) gs h = h

first_global : (g : Global) (gs : List Global) (v : Vars) → g ≡ global.Vars v → BeginSmall (g ∷ gs) → HaveSmallValues (gvars v)
first_global g gs v is h = let k = subst (λ x. BeginSmall (x ∷ gs)) is h in k.0

pub global_at : (gs : List Global) (i : ℕ) (g : Global) (v : Vars) → i < length gs → g ≡ get_or gs i g → g ≡ global.Vars v → BeginSmall gs → HaveSmallValues (gvars v)
global_at [] i g v low is e h = absurd (omega (arith, low))
global_at (y ∷ ys) zero g v low is e h = first_global y ys v (sym is ∙ e) h
global_at (y ∷ ys) (suc i) g v low is e h = global_at ys i g v (omega (arith, low)) is e (behind_global y ys h)

pub value_in : (xs : List (ℕ × SNum)) (i : ℕ) (x : ℕ × SNum) → i < length xs → AreSmallValues (map (λ (comma, z). z) xs) → IsSmallValue (slice_index_or xs i x).1
value_in [] i x low h = absurd (omega (arith, low))
value_in (y ∷ ys) zero x low h = h.0
value_in (y ∷ ys) (suc i) x low h = value_in ys i x (omega (arith, low)) h.1

-- one value more, where what is left comes behind what was put
pub values_more : (xs : List (ℕ × SNum)) (i : ℕ) (x : ℕ × SNum) (before after whole : List ℤ) → i < length xs → before ++ map (λ (comma, z). initial z) (drop i xs) ≡ whole → after ≡ before ++ initial (slice_index_or xs i x).1 ∷ [] → after ++ map (λ (comma, z). initial z) (drop (i + 1) xs) ≡ whole
values_more xs i x before after whole low is more =
    let rest = map (λ (comma, z). initial z) (drop (suc i) xs) in
    let here : before ++ initial (slice_index_or xs i x).1 ∷ rest ≡ whole = subst (λ ys. before ++ map (λ (comma, z). initial z) ys ≡ whole) (drop-cons xs i x low) is in
    rw (more, add-one) (append_assoc before (initial (slice_index_or xs i x).1 ∷ []) rest ∙ here)
