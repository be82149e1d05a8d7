-- What is declared of functions and their bodies, put together.
use Rattle.std.proofs.Common.{◌≡◌, refl, sym, ap, ap₂, ◌∙◌, ℕ, zero, suc, ◌<◌, Bool, true, false, not, List, [], ◌∷◌, append-nil, map, filter, length, Some, option_map, slice_get, arith, if◌then◌else◌}
use Rattle.std.specs.Prelude.{IfSome, All}
use Rattle.std.specs.List.{zip}
use Rattle.c_tree.specs.Items.{Item}
use Rattle.c_tree.specs.Names.{first_names}
use Rattle.c_tree.specs.Program.{Function}
use Rattle.c_tree.specs.Resolve.{resolved_functions, resolved_items, global_variables, named_main, first_of_all}
use Rattle.c_flat.specs.declared.node.Node.{Node}
use Rattle.c_flat.specs.declared.function.Body.{Body}
use Rattle.c_flat.specs.Written.{AreBelow, as_command}
use Rattle.c_flat.specs.Sorts.{command_at}
use Rattle.c_flat.specs.Listing.{Standing, outline, outlines_of, body_shown, body_nodes}
use Rattle.c_shapes.specs.declared.functions.Declared.{Declared}
use Rattle.c_shapes.specs.Shapes.{declared, declared_shown, variable_shown}
use Rattle.c_count.specs.Sized.{AreCounted}
use Rattle.c_plan.specs.declared.routine.Routine.{Routine}
use Rattle.c_plan.specs.declared.plan.Plan.{Plan}
use Rattle.c_plan.specs.Paired.{paired, is_main, is_other}
use Rattle.c_plan.specs.Plan.{unnamed, routine_shown, IsPlan}

-- ---- one function

pair_shown : (nodes : List Node) (d : Declared) (b : Body) (f : Function) → declared_shown d ≡ declared f → body_shown nodes b ≡ outline f → routine_shown nodes (paired (d, b)) ≡ unnamed f
pair_shown nodes d b f is to =
    let gives : d.gives ≡ f.gives = ap (λ o. o.gives) is in
    let returns : d.returns ≡ f.returns = ap (λ o. o.returns) is in
    let variables : d.variables.items ≡ f.variables = ap (λ o. o.variables) is in
    let body : command_at nodes b.node ≡ f.body = ap (λ o. as_command o.1.0) to in
    rw (gives, returns, variables, body) refl

-- ---- all functions

chosen_step : (nodes : List Node) (t u : Bool) → t ≡ u → (p : Declared × Body) (ps : List (Declared × Body)) (f : Function) (fs : List Function) → routine_shown nodes (paired p) ≡ unnamed f → map (routine_shown nodes) (map paired ps) ≡ map unnamed fs → map (routine_shown nodes) (map paired (if t then p ∷ ps else ps)) ≡ map unnamed (if u then f ∷ fs else fs)
chosen_step nodes true true e p ps f fs here behind = ap₂ {A = Function} {B = List Function} (λ g gs. g ∷ gs) here behind
chosen_step nodes true false e p ps f fs here behind = absurd (cc)
chosen_step nodes false true e p ps f fs here behind = absurd (cc)
chosen_step nodes false false e p ps f fs here behind = behind

-- those whose being `main` passes a test
chosen_shown : (nodes : List Node) (test : Bool → Bool) (ds : List Declared) (bs : List Body) (fs : List Function) → map declared_shown ds ≡ map declared fs → map (body_shown nodes) bs ≡ map outline fs → map (routine_shown nodes) (map paired (filter (λ p. test (is_main p)) (zip ds bs))) ≡ map unnamed (filter (λ f. test (named_main f)) fs)
chosen_shown nodes test [] bs [] is to = refl
chosen_shown nodes test [] bs (f ∷ fs) is to = absurd (cc)
chosen_shown nodes test (d ∷ ds) bs [] is to = absurd (cc)
chosen_shown nodes test (d ∷ ds) [] (f ∷ fs) is to = absurd (cc)
chosen_shown nodes test (d ∷ ds) (b ∷ bs) (f ∷ fs) is to =
    let head : declared_shown d ≡ declared f = cc in
    let tail : map declared_shown ds ≡ map declared fs = cc in
    let first : body_shown nodes b ≡ outline f = cc in
    let rest : map (body_shown nodes) bs ≡ map outline fs = cc in
    chosen_step nodes (test b.main) (test (named_main f)) (ap (λ o. test o.0) first) (d, b) (filter (λ p. test (is_main p)) (zip ds bs)) f (filter (λ g. test (named_main g)) fs) (pair_shown nodes d b f head first) (chosen_shown nodes test ds bs fs tail rest)

first_shown : (nodes : List Node) (rs : List Routine) (fs : List Function) → map (routine_shown nodes) rs ≡ map unnamed fs → option_map (routine_shown nodes) (slice_get rs 0) ≡ option_map unnamed (first_of_all fs)
first_shown nodes [] [] is = refl
first_shown nodes [] (f ∷ fs) is = absurd (cc)
first_shown nodes (r ∷ rs) [] is = absurd (cc)
first_shown nodes (r ∷ rs) (f ∷ fs) is = let head : routine_shown nodes r ≡ unnamed f = cc in ap Some head

-- ---- their bodies

below_step : (n : ℕ) (t : Bool) (p : Declared × Body) (ps : List (Declared × Body)) → p.1.node < n → AreBelow (map (λ r. r.body) (map paired ps)) n → AreBelow (map (λ r. r.body) (map paired (if t then p ∷ ps else ps))) n
below_step n true p ps here behind = (here, behind)
below_step n false p ps here behind = behind

chosen_below : (n : ℕ) (test : Declared × Body → Bool) (ds : List Declared) (bs : List Body) → AreBelow (body_nodes bs) n → AreBelow (map (λ r. r.body) (map paired (filter test (zip ds bs)))) n
chosen_below n test [] bs h = tt
chosen_below n test (d ∷ ds) [] h = tt
chosen_below n test (d ∷ ds) (b ∷ bs) h = below_step n (test (d, b)) (d, b) (filter test (zip ds bs)) h.0 (chosen_below n test ds bs h.1)

all_below : (n : ℕ) (rs : List Routine) → AreBelow (map (λ r. r.body) rs) n → All (λ r. r.body < n) rs
all_below n [] h k d lt = absurd (omega arith)
all_below n (r ∷ rs) h zero d lt = h.0
all_below n (r ∷ rs) h (suc k) d lt = all_below n rs h.1 k d (omega arith)

first_below : (n : ℕ) (rs : List Routine) → AreBelow (map (λ r. r.body) rs) n → IfSome (slice_get rs 0) (λ r. r.body < n)
first_below n [] h = tt
first_below n (r ∷ rs) h = h.0

-- ---- the whole

pub plan_is : (plan : Plan) (gs : List Item) (ds : List Declared) (bs : List Body) → Standing [] plan.nodes.items bs [] (outlines_of gs) → AreCounted plan.nodes.items plan.sizes.items → map variable_shown plan.variables.items ≡ global_variables gs → map declared_shown ds ≡ map declared (resolved_functions (first_names gs) gs) → plan.main ≡ slice_get (map paired (filter is_main (zip ds bs))) 0 → plan.others.items ≡ map paired (filter is_other (zip ds bs)) → IsPlan plan (resolved_items gs)
plan_is plan gs ds bs stand counted variables is main others =
    let nodes = plan.nodes.items in
    let fs = resolved_functions (first_names gs) gs in
    let to : map (body_shown nodes) bs ≡ map outline fs = sym (append-nil (map (body_shown nodes) bs)) ∙ stand.are in
    let main_shown : option_map (routine_shown nodes) plan.main ≡ option_map unnamed (first_of_all (filter named_main fs)) =
    ap (λ m. option_map (routine_shown nodes) m) main ∙ first_shown nodes (map paired (filter is_main (zip ds bs))) (filter named_main fs) (chosen_shown nodes (λ b. b) ds bs fs is to) in
    let others_shown : map (routine_shown nodes) plan.others.items ≡ map unnamed (filter (λ f. not (named_main f)) fs) =
    ap (λ rs. map (routine_shown nodes) rs) others ∙ chosen_shown nodes not ds bs fs is to in
    record {
      shown = rw (variables, main_shown, others_shown) refl;
      falls = stand.falls;
      counted = counted;
      main_within = rw main (first_below (length nodes) (map paired (filter is_main (zip ds bs))) (chosen_below (length nodes) is_main ds bs stand.within));
      within = rw others (all_below (length nodes) (map paired (filter is_other (zip ds bs))) (chosen_below (length nodes) is_other ds bs stand.within));
    }
