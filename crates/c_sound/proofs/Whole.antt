-- The resolved program of an accepted tree is sound.
use Rattle.std.proofs.Common.{◌≡◌, refl, sym, ap, ◌∙◌, subst, ℕ, zero, suc, ◌+◌, ◌<◌, ◌≤◌, arith, Bool, true, false, List, [], ◌∷◌, ◌++◌, Option, Some, length, inl, inr, cond}
use Rattle.std.specs.Prelude.{map, filter, not, slice_get, if◌then◌else◌}
use Rattle.std.specs.List.{AllByRecursion}
use Rattle.std.proofs.lemmas.List.Elements.{All-from_recursion}
use Rattle.ir_run.specs.Shifts.{IsCellWidth}
use Rattle.c_tree.specs.declared.program.CTree.{CTree}
use Rattle.c_tree.specs.declared.program.GVar.{GVar}
use Rattle.c_tree.specs.declared.meaning.Meaning.TheVariants.{Callee, Main}
use Rattle.c_tree.specs.declared.meaning.Place.TheVariants as places
use Rattle.c_tree.specs.Items.{Definition, Item, Variables, Defines, items}
use Rattle.c_tree.specs.Names.{Names, Meanings, with_meaning, variable_at, gvar_name, gvar_shape, gvars, parameters, gives_value, is_main, functions_in, function_meaning, next_number, function_meanings, main_alone, first_names, behind_gvar, behind_gvars, behind_global, before_body}
use Rattle.c_tree.specs.Faults.{global_faults, globals_faults}
use Rattle.c_tree.specs.Recursion.{Graph, graph, calls_of, row, Among, body_callees, main_of}
use Rattle.c_tree.specs.Resolve.{body_of, function, resolved_functions, named_main, first_of_all, resolved_items, resolved}
use Rattle.c_tree.specs.Program.{Shape, Function, Program}
use Rattle.c_tree.specs.Accepted.{IsAccepted, IsAcceptedTree}
use Rattle.c_lowered.specs.Sound.{IsShape, SoundGlobal, SoundFunction, world, Sound}
use Rattle.c_sound.proofs.Lists.{no_left, no_right}
use Rattle.c_sound.proofs.Ranks.{rank_of, rank_falls, rank_limited}
use Rattle.c_sound.proofs.Meanings.{Means, AreKnown, Ahead, ahead_next, first_here, global_means, with_known}
use Rattle.c_sound.proofs.Globals.{global_shapes, shapes_of_all, globals_sound, global_shapes_fit}
use Rattle.c_sound.proofs.Functions.{shapes_of, KnowsOutside, name_known, function_sound}

-- the functions other than `main`
abbrev pub other_functions : List Function → List Function
other_functions fs = filter (λ f. not (named_main f)) fs

each_among : (P : ℕ → Type 0) (xs : List ℕ) → ((b : ℕ) → Among xs b → P b) → AllByRecursion P xs
each_among P [] h = tt
each_among P (x ∷ xs) h = (h x (inl refl), each_among P xs (λ b m. h b (inr m)))

-- ---- what the names of functions mean

named_means : (gs : List Shape) (fs xs : List Function) (x : Function) (main : Bool) (k arity : ℕ) (gives : Bool) → x.arity ≡ arity → x.gives ≡ gives
    → ((j : ℕ) (f : Function) → slice_get (cond (not main) (x ∷ xs) xs) j ≡ Some f → slice_get fs (k + j) ≡ Some f) → Means gs [] fs (if main then Main else Callee k arity gives)
named_means gs fs xs x true k arity gives a g there = tt
named_means gs fs xs x false k arity gives a g there =
    let e : k + 0 ≡ k = omega arith in record { function = x; is = subst (λ i. slice_get fs i ≡ Some x) e (there 0 x refl); parameters = a; kind = g }

next_there : (fs xs : List Function) (x : Function) (main : Bool) (k : ℕ) → ((j : ℕ) (f : Function) → slice_get (cond (not main) (x ∷ xs) xs) j ≡ Some f → slice_get fs (k + j) ≡ Some f)
    → (j : ℕ) (f : Function) → slice_get xs j ≡ Some f → slice_get fs ((if main then k else k + 1) + j) ≡ Some f
next_there fs xs x true k there j f is = there j f is
next_there fs xs x false k there j f is = let e : k + suc j ≡ k + 1 + j = omega arith in subst (λ i. slice_get fs i ≡ Some f) e (there (suc j) f is)

functions_known : (ts : List Shape) (fs : List Function) (gs : List Item) (s : Names) (ms : Meanings) (k : ℕ) → AreKnown ts [] fs ms
    → ((j : ℕ) (f : Function) → slice_get (other_functions (resolved_functions s gs)) j ≡ Some f → slice_get fs (k + j) ≡ Some f) → AreKnown ts [] fs (function_meanings ms k (functions_in gs))
functions_known ts fs [] s ms k h there = h
functions_known ts fs (Variables v ∷ gs) s ms k h there = functions_known ts fs gs (behind_global s (Variables v)) ms k h there
functions_known ts fs (Defines d ∷ gs) s ms k h there =
    let xs = other_functions (resolved_functions (behind_global s (Defines d)) gs) in
    let m = named_means ts fs xs (function s d) (is_main d) k (length (parameters d.params)) (gives_value d.result) refl refl there in
    functions_known ts fs gs (behind_global s (Defines d)) (with_meaning ms d.name.text (function_meaning k d)) (next_number k d)
    (with_known ts [] fs ms d.name.text (function_meaning k d) h m) (next_there fs xs (function s d) (is_main d) k there)

-- ---- outside of functions

-- where these globals are still to be declared
record SeenOutside (p : Program) (s : Names) (rest : List Shape) : Type 0 where
  pub ahead : Ahead (shapes_of p) s.next rest
  pub known : KnowsOutside p s
  pub small : AllByRecursion IsShape rest

outside_gvar : (p : Program) (s : Names) (v : GVar) (rest : List Shape) → SeenOutside p s (gvar_shape v ∷ rest) → SeenOutside p (behind_gvar s v) rest
outside_gvar p s v rest h =
    let m = global_means (shapes_of p) [] p.functions (gvar_shape v) s.next (h.ahead s.next (gvar_shape v) (first_here s.next (gvar_shape v) rest)) in
    record {
      ahead = ahead_next (shapes_of p) s.next (gvar_shape v) rest h.small.0 h.ahead;
      known = (with_known (shapes_of p) [] p.functions s.block (gvar_name v).text (variable_at (gvar_shape v) (places.Global s.next)) h.known.0 m, h.known.1, h.known.2);
      small = h.small.1;
    }

outside_gvars : (p : Program) (s : Names) (vs : List GVar) (rest : List Shape) → SeenOutside p s (map gvar_shape vs ++ rest) → SeenOutside p (behind_gvars s vs) rest
outside_gvars p s [] rest h = h
outside_gvars p s (v ∷ vs) rest h = outside_gvars p (behind_gvar s v) vs rest (outside_gvar p s v (map gvar_shape vs ++ rest) h)

outside_function : (p : Program) (s : Names) (d : Definition) (rest : List Shape) → SeenOutside p s rest → SeenOutside p (behind_global s (Defines d)) rest
outside_function p s d rest h = record { ahead = h.ahead; known = name_known p s d h.known; small = h.small }

-- ---- functions

module _ (p : Program) (n : ℕ) (rank : ℕ → ℕ) (wide : IsCellWidth n) where
  -- a function other than `main` of a rank
  abbrev Good : ℕ → Function → Type 0
  Good own f = SoundFunction (world p n rank own false f) f

  abbrev AllLower : (ℕ → ℕ) → Graph → Type 0
  AllLower own g = (a b : ℕ) → Among (row g a) b → rank b < own a

  other_step : (main : Bool) (x : Function) (xs : List Function) (r : List ℕ) (rs : Graph) (own : ℕ → ℕ) → AllLower own (if main then rs else r ∷ rs)
      → (main ≡ false → AllByRecursion (λ b. rank b < own 0) r → Good (own 0) x)
      → ((up : ℕ → ℕ) → AllLower up rs → (g : ℕ) (f : Function) → slice_get xs g ≡ Some f → Good (up g) f)
      → (g : ℕ) (f : Function) → slice_get (cond (not main) (x ∷ xs) xs) g ≡ Some f → Good (own g) f
  other_step true x xs r rs own lower here there g f is = there own lower g f is
  other_step false x xs r rs own lower here there zero f is =
      let same : x ≡ f = cc in subst (Good (own 0)) same (here refl (each_among (λ b. rank b < own 0) r (λ b m. lower 0 b m)))
  other_step false x xs r rs own lower here there (suc g) f is = there (λ a. own (suc a)) (λ a b m. lower (suc a) b m) g f is

  others_sound : (gs : List Item) (s : Names) → SeenOutside p s (global_shapes gs) → globals_faults n s gs ≡ [] → (own : ℕ → ℕ) → AllLower own (graph s gs)
      → (g : ℕ) (f : Function) → slice_get (other_functions (resolved_functions s gs)) g ≡ Some f → Good (own g) f
  others_sound [] s h fits own lower g f is = absurd cc
  others_sound (Variables v ∷ gs) s h fits own lower g f is =
      others_sound gs (behind_global s (Variables v)) (outside_gvars p s (gvars v) (global_shapes gs) h) (no_right (global_faults n s (Variables v)) (globals_faults n (behind_global s (Variables v)) gs) fits) own lower g f is
  others_sound (Defines d ∷ gs) s h fits own lower g f is =
      let t = behind_global s (Defines d) in
      let front = no_left (global_faults n s (Defines d)) (globals_faults n t gs) fits in
      let back = no_right (global_faults n s (Defines d)) (globals_faults n t gs) fits in
      other_step (is_main d) (function s d) (other_functions (resolved_functions t gs)) (body_callees (before_body s d) (body_of d.braces)) (graph t gs) own lower
      (λ plain low. function_sound p n rank (own 0) false s d wide h.known plain front low)
      (λ up low. others_sound gs t (outside_function p s d (global_shapes gs) h) back up low) g f is

  -- the first function that is `main`, of the highest rank
  record GoodMain (top : ℕ) (d : Definition) (fs : List Function) : Type 0 where
    pub main : Function
    pub is : first_of_all (filter named_main fs) ≡ Some main
    pub sound : SoundFunction (world p n rank top true main) main
    pub arity : main.arity ≡ length (parameters d.params)

  main_step : (main : Bool) (top : ℕ) (d e : Definition) (s : Names) (fs : List Function) (o : Option Definition) → named_main (function s d) ≡ main
      → (main ≡ true → SoundFunction (world p n rank top true (function s d)) (function s d)) → (o ≡ Some e → GoodMain top e fs) → (if main then Some d else o) ≡ Some e → GoodMain top e (function s d ∷ fs)
  main_step true top d e s fs o named here there is =
      let same : d ≡ e = cc in
      let found : filter named_main (function s d ∷ fs) ≡ function s d ∷ filter named_main fs = ap (λ b. cond b (function s d ∷ filter named_main fs) (filter named_main fs)) named in
      record { main = function s d; is = ap first_of_all found; sound = here refl; arity = ap (λ f. length (parameters f.params)) same }
  main_step false top d e s fs o named here there is =
      let found : filter named_main (function s d ∷ fs) ≡ filter named_main fs = ap (λ b. cond b (function s d ∷ filter named_main fs) (filter named_main fs)) named in
      let r = there is in
      record { main = r.main; is = ap first_of_all found ∙ r.is; sound = r.sound; arity = r.arity }

  main_sound : (gs : List Item) (s : Names) → SeenOutside p s (global_shapes gs) → globals_faults n s gs ≡ [] → (top : ℕ) → ((b : ℕ) → rank b < top) → (e : Definition) → main_of (functions_in gs) ≡ Some e → GoodMain top e (resolved_functions s gs)
  main_sound [] s h fits top lower e is = absurd cc
  main_sound (Variables v ∷ gs) s h fits top lower e is =
      main_sound gs (behind_global s (Variables v)) (outside_gvars p s (gvars v) (global_shapes gs) h) (no_right (global_faults n s (Variables v)) (globals_faults n (behind_global s (Variables v)) gs) fits) top lower e is
  main_sound (Defines d ∷ gs) s h fits top lower e is =
      let t = behind_global s (Defines d) in
      let front = no_left (global_faults n s (Defines d)) (globals_faults n t gs) fits in
      let back = no_right (global_faults n s (Defines d)) (globals_faults n t gs) fits in
      let calls = body_callees (before_body s d) (body_of d.braces) in
      main_step (is_main d) top d e s (resolved_functions t gs) (main_of (functions_in gs)) refl
      (λ named. function_sound p n rank top true s d wide h.known named front (each_among (λ b. rank b < top) calls (λ b m. lower b)))
      (λ found. main_sound gs t (outside_function p s d (global_shapes gs) h) back top lower e found) is

-- ---- the program

first_seen : (gs : List Item) (n : ℕ) → IsCellWidth n → globals_faults n (first_names gs) gs ≡ [] → SeenOutside (resolved_items gs) (first_names gs) (global_shapes gs)
first_seen gs n wide fits =
    let p = resolved_items gs in
    let same : global_shapes gs ≡ shapes_of p = sym (shapes_of_all gs) in
    record {
      ahead = subst (λ vs. Ahead vs 0 (global_shapes gs)) same (λ k v h. h);
      known = (tt, ((tt, (tt, tt)), tt), functions_known (shapes_of p) p.functions gs (first_names gs) main_alone 0 (tt, tt) (λ j f h. let e : j ≡ 0 + j = omega arith in subst (λ i. slice_get p.functions i ≡ Some f) e h));
      small = global_shapes_fit n (first_names gs) gs wide fits;
    }

-- an accepted program is sound
pub items_sound : (gs : List Item) (n : ℕ) → IsAccepted gs n → 16 ≤ n → n ≤ 32 → Sound (resolved_items gs) n
items_sound gs n accepted low high =
    let p = resolved_items gs in
    let wide : IsCellWidth n = (low, high) in
    let g = calls_of gs in
    let rank = rank_of g in
    let top = suc (length g) in
    let limited = rank_limited g accepted.acyclic in
    let seen = first_seen gs n wide accepted.faultless in
    let m = main_sound p n rank wide gs (first_names gs) seen accepted.faultless top limited accepted.main.0 accepted.main.1 in
    record {
      width = wide;
      globals = All-from_recursion (SoundGlobal n) p.globals (globals_sound n (first_names gs) gs wide accepted.faultless);
      rank = rank;
      top = top;
      main = m.main;
      main_is = m.is;
      main_sound = m.sound;
      main_plain = m.arity ∙ accepted.main.2;
      sound = λ k f is. others_sound p n rank wide gs (first_names gs) seen accepted.faultless rank (λ a b e. rank_falls g accepted.acyclic a b e) k f is;
      ranked = λ k f is. limited k;
    }

-- the resolved program of an accepted tree is sound
pub program_sound : (c : CTree) (n : ℕ) → IsAcceptedTree c n → 16 ≤ n → n ≤ 32 → Sound (resolved c) n
program_sound c n accepted low high = items_sound (items c) n accepted low high
