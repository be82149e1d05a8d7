-- An instruction as a whole.
use Rattle.std.proofs.Common.{ℕ, zero, suc, ◌-◌, ◌^◌, ◌≤◌, ◌<◌, List, [], ◌∷◌, ◌≡◌, ℤ, pos, negsuc, ◌≤ℤ◌, ◌<ℤ◌, ◌+ℤ◌, map, length, arith, refl, sym, ◌∙◌, ap, subst, Some, None, Option, Bool, true, false, FitsSigned, drop}
use Rattle.std.specs.Int.{w64, w128}
use Rattle.std.specs.Prelude.{slice_get, slice_set, if◌then◌else◌, ◌&&◌, unsigned_abs, unwrap_or, is_none, option_map, IfSome, nat_lt, codes}
use Rattle.std.proofs.lemmas.Int.{ints}
use Rattle.std.proofs.lemmas.Bool.{le-leb}
use Rattle.std.proofs.lemmas.Bool.Decides.{nat_tests}
use Rattle.std.proofs.Math.Pow.{pow_mono}
use Rattle.nk_base.specs.declared.number.Ty.{Ty}
use Rattle.nk_base.specs.declared.number.Ty.TheVariants as ty
use Rattle.nk_base.specs.Number.{wrapped, InRange}
use Rattle.nml_tree.specs.declared.tree.Desc.{Desc}
use Rattle.nml_tree.specs.Table.{Table, Declared, table, entries}
use Rattle.nml_tree.specs.Refused.{IsTyped, IsFreeBelow}
use Rattle.nml_tree.specs.Walk.{IsWalkOf}
use Rattle.nml_widths.proofs.WidthLaws.{is_sound}
use Rattle.attr_eval.specs.Walks.{Walks}
use Rattle.attr_eval.proofs.Whole.{walks_whole}
use Rattle.attr_exec.proofs.Lawful.{lawful}
use Rattle.attr_exec.proofs.Running.{of_types}
use Rattle.attr_exec.proofs.Ports.{has_pc}
use Rattle.nml_tree.specs.Derivation.{Derivation, fields}
use Rattle.nml_tree.specs.Act as act
use Rattle.nml_tree.specs.Act.{Act}
use Rattle.nml_tree.specs.Value.{Cells, View, cell, value, is_true, number_at}
use Rattle.nml_tree.specs.Written.{action, written}
use Rattle.nml_tree.specs.Exec as spec
use Rattle.nml_tree.specs.Exec.{Effect, Course, run, begin, wants, exec, after, stepped, with_write, with_writes, out_type, pc, storage_type, trn_types, storages}
use Rattle.nml_tree.specs.Legal.{IsLegal, fields_alone}
use Rattle.nml_state.specs.Cells.{Shown}
use Rattle.nml_state.specs.Wrapping.{wraps, wraps_into, has_cell, given_cell}
use Rattle.nml_state.specs.declared.state.Exec.{Exec}
use Rattle.nml_state.specs.declared.state.Exec.TheVariants as told
use Rattle.nml_state.proofs.StateLaws.{sizes_write, sizes_writes}
use Rattle.attr_eval.specs.Alone.{alone}
use Rattle.attr_eval.specs.Lawful.{act_shape, is_lawful}
use Rattle.attr_eval.proofs.AllPaths.{lawful_legal}
use Rattle.attr_exec.specs.declared.give.Done.{Done}
use Rattle.attr_exec.specs.Seen.{view}
use Rattle.attr_exec.specs.Ran.{Scene, scene, ran, Same, put_out, given}
use Rattle.attr_exec.proofs.Suits.{IsNow, Suits, course_of}
use Rattle.attr_exec.specs.Ready.{IsLawful, Ready, NextFits}
use Rattle.attr_exec.specs.Does.{DoesExec, IsStateOf, HasPc, IsNarrow, WithinType, IsPort, Ends}
use Rattle.attr_exec.proofs.Agrees.{agrees, wrapped_in, AllMiss}

abbrev pub idle : Done
idle = record { out = None; took = false; halt = None }

zeros_same : (xs ys : List ℤ) → length xs ≡ length ys → map (λ z. pos 0) xs ≡ map (λ z. pos 0) ys
zeros_same [] [] h = refl
zeros_same [] (y ∷ ys) h = absurd (omega (arith, h))
zeros_same (x ∷ xs) [] h = absurd (omega (arith, h))
zeros_same (x ∷ xs) (y ∷ ys) h = ap (λ zs. pos 0 ∷ zs) (zeros_same xs ys (omega (arith, h)))

zeros_twice : (us : List Ty) → map (λ z. pos 0) (map (λ u. pos 0) us) ≡ map (λ u. pos 0) us
zeros_twice [] = refl
zeros_twice (u ∷ us) = ap (λ zs. pos 0 ∷ zs) (zeros_twice us)

-- the transitories at the end are those at the beginning
zeros_are : (t : Table) (old s : Shown) → IsStateOf t old → length s.trns ≡ length old.trns → map (λ z. pos 0) s.trns ≡ old.trns
zeros_are t old s is long = zeros_same s.trns old.trns long ∙ ap (map (λ z. pos 0)) is.trns_are ∙ zeros_twice (trn_types t) ∙ sym is.trns_are

-- a state that an instruction ends in
pub ends_state : (t : Table) (old s new : Shown) → IsStateOf t old → Same old s → Ends s new → IsStateOf t new
ends_state t old s new is same ends = record {
  types_are = ends.0 ∙ same.0 ∙ is.types_are;
  trn_types_are = ends.1 ∙ same.1 ∙ is.trn_types_are;
  sizes_are = ends.2 ∙ ap (map (λ row. length row)) same.2 ∙ is.sizes_are;
  trns_are = ends.3 ∙ zeros_are t old s is same.3 ∙ is.trns_are;
  kept_are = ends.4;
}

pub forgot_ends : (s new : Shown) → new ≡ record s { trns = map (λ z. pos 0) s.trns; kept = [] } → Ends s new
forgot_ends s new is = rw is (refl, refl, refl, refl, refl)

-- what is forgotten is as before
pub forgot_is : (t : Table) (old s new : Shown) → IsStateOf t old → Same old s → new ≡ record s { trns = map (λ z. pos 0) s.trns; kept = [] } → new ≡ old
forgot_is t old s new is same new_is = new_is ∙ rw (same.0, same.1, same.2, zeros_are t old s is same.3, sym is.kept_are) refl

-- and what is made is all that is new
pub finished_is : (t : Table) (old s new : Shown) → IsStateOf t old → Same old s → new ≡ record s { cells = stepped t (with_writes s.cells s.kept) s.kept; trns = map (λ z. pos 0) s.trns; kept = [] } → new ≡ record old { cells = stepped t (with_writes s.cells s.kept) s.kept }
finished_is t old s new is same new_is = new_is ∙ rw (same.0, same.1, zeros_are t old s is same.3, sym is.kept_are) refl

-- an action's outputs and halt codes are of their types
narrow_step : (out : Ty) (d : Done) (z : ℤ) → IsNarrow out d → IsNarrow out (put_out out z d)
narrow_step out d z h = one (wraps out z) refl
  where
    one : (b : Bool) → wraps out z ≡ b → IsNarrow out (put_out out z d)
    one true is = rw is (record { out_fits = wrapped_in out z is; halt_fits = h.halt_fits })
    one false is = rw is h

pub narrow_ran : (out : Ty) (zs : List ℤ) (next : Option ℤ) (a : Act) (c : Scene) → IsNarrow out c.done → IsNarrow out (ran out zs next a c).done
narrow_ran out zs next act.Done c h = h
narrow_ran out zs next (act.SetCell n i e a) c h = narrow_ran out zs next a _ (record { out_fits = h.out_fits; halt_fits = h.halt_fits })
narrow_ran out zs next (act.SetTrn n e a) c h = narrow_ran out zs next a _ (record { out_fits = h.out_fits; halt_fits = h.halt_fits })
narrow_ran out zs next (act.Put e a) c h =
    let k = narrow_step out c.done (value (view zs c.state next) e) h in
    narrow_ran out zs next a _ (record { out_fits = k.out_fits; halt_fits = k.halt_fits })
narrow_ran out zs next (act.Halt e a) c h = narrow_ran out zs next a _ (record { out_fits = h.out_fits; halt_fits = wrapped_in (ty.Card 8) (value (view zs c.state next) e) refl })
narrow_ran out zs next (act.When e x y a) c h =
    narrow_ran out zs next a _ (side (is_true (value (view zs c.state next) e)) _ _ (narrow_ran out zs next x _ (record { out_fits = h.out_fits; halt_fits = h.halt_fits })) (narrow_ran out zs next y _ (record { out_fits = h.out_fits; halt_fits = h.halt_fits })))
  where
    side : (b : Bool) (p q : Scene) → IsNarrow out p.done → IsNarrow out q.done → IsNarrow out (if b then p else q).done
    side true p q j k = j
    side false p q j k = k

-- a halt code as a natural number
pub halt_number : (o : Option ℤ) → WithinType (ty.Card 8) o → o ≡ option_map pos (option_map unsigned_abs o)
halt_number None h = refl
halt_number (Some (pos n)) h = refl
halt_number (Some (negsuc n)) h = absurd (omega (arith, ints, h.0))

pub halt_small : (o : Option ℕ) → WithinType (ty.Card 8) (option_map pos o) → IfSome o (λ n. n < 256)
halt_small None h = tt
halt_small (Some n) h = omega (arith, ints, h.1)

port_in : (out : Ty) (z : ℤ) → IsPort out → InRange out z → FitsSigned w64 z
port_in ty.Bool z p h = omega (arith, ints, h.0, h.1)
port_in (ty.Card n) z p h = let m : 2 ^ n ≤ 2 ^ 32 = pow_mono {i = n} {j = 32} p in omega (arith, ints, h.0, h.1, m)
port_in (ty.Int n) z p h = let m : 2 ^ (n - 1) ≤ 2 ^ 32 = pow_mono {i = n - 1} {j = 32} (omega (arith, p)) in omega (arith, ints, h.0, h.1, m)

pub out_small : (out : Ty) (o : Option ℤ) → IsPort out → WithinType out o → IfSome o (λ n. FitsSigned w64 n)
out_small out None p h = tt
out_small out (Some z) p h = port_in out z p h

-- PC counted up
set_none : (xs : List ℤ) (z : ℤ) → nat_lt 0 (length xs) ≡ false → slice_set xs 0 z ≡ xs
set_none [] z h = refl
set_none (x ∷ xs) z h = absurd (grind (arith, nat_tests))

same_row : (cells : Cells) (n : ℕ) → slice_set cells n (unwrap_or (slice_get cells n) []) ≡ cells
same_row [] n = refl
same_row (r ∷ cells) zero = refl
same_row (r ∷ cells) (suc n) = ap (λ rs. r ∷ rs) (same_row cells n)

write_none : (cells : Cells) (n : ℕ) (z : ℤ) → has_cell cells n 0 ≡ false → cells ≡ with_write cells (record { storage = n; index = 0; value = z })
write_none cells n z h = sym (ap (slice_set cells n) (set_none (unwrap_or (slice_get cells n) []) z h) ∙ same_row cells n)

abbrev with_cell : Shown → ℕ → ℤ → Shown
with_cell s n y = record s { cells = with_write s.cells (record { storage = n; index = 0; value = y }) }

abbrev with_rows : Shown → Cells → Shown
with_rows s cells = record s { cells = cells }

card_wraps : (n : ℕ) (z : ℤ) → 1 ≤ n → n ≤ 64 → wraps (ty.Card n) z ≡ true
card_wraps n z low high = let a = le-leb 1 n low in let b = le-leb n 64 high in rw (a, b) refl

pub stepped_is : (t : Table) (s u : Shown) (at : ℕ) (z : ℤ) → HasPc t s → at ≡ pc t → z ≡ cell s.cells (pc t) 0 +ℤ pos 1 → u ≡ given_cell s at z → u ≡ record s { cells = stepped t s.cells [] }
stepped_is t s u at z h same is given = given ∙ ap (λ n. given_cell s n z) same ∙ one (has_cell s.cells (pc t) 0) refl
  where
    fit : wraps_into (slice_get s.types (pc t)) z ≡ true
    fit = ap (λ o. wraps_into o z) h.type_is ∙ card_wraps h.bits z h.some h.few

    value_is : wrapped (unwrap_or (slice_get s.types (pc t)) ty.Bool) z ≡ wrapped (storage_type t (pc t)) (cell s.cells (pc t) 0 +ℤ pos 1)
    value_is = ap (λ o. wrapped (unwrap_or o ty.Bool) z) h.type_is ∙ ap (wrapped (ty.Card h.bits)) is ∙ ap (λ u. wrapped u (cell s.cells (pc t) 0 +ℤ pos 1)) (sym h.storage_is)

    one : (b : Bool) → has_cell s.cells (pc t) 0 ≡ b → given_cell s (pc t) z ≡ record s { cells = stepped t s.cells [] }
    one true here = (rw (fit, here) refl) ∙ ap (with_cell s (pc t)) value_is
    one false here = (rw (fit, here) refl) ∙ ap (with_rows s) (write_none s.cells (pc t) (wrapped (storage_type t (pc t)) (cell s.cells (pc t) 0 +ℤ pos 1)) here)

pub given_sizes : (s u : Shown) (n : ℕ) (z : ℤ) → u ≡ given_cell s n z → (u.types ≡ s.types) × (u.trn_types ≡ s.trn_types) × (map (λ row. length row) u.cells ≡ map (λ row. length row) s.cells) × (u.trns ≡ s.trns) × (u.kept ≡ s.kept)
given_sizes s u n z e = one (wraps_into (slice_get s.types n) z && has_cell s.cells n 0) refl
  where
    one : (b : Bool) → (wraps_into (slice_get s.types n) z && has_cell s.cells n 0) ≡ b → (u.types ≡ s.types) × (u.trn_types ≡ s.trn_types) × (map (λ row. length row) u.cells ≡ map (λ row. length row) s.cells) × (u.trns ≡ s.trns) × (u.kept ≡ s.kept)
    one true is = rw (e, is) (refl, refl, sizes_write s.cells n 0 _, refl, refl)
    one false is = rw (e, is) (refl, refl, refl, refl, refl)

-- the writes made
abbrev pub made : Shown → Shown
made s = record s { cells = with_writes s.cells s.kept; trns = map (λ z. pos 0) s.trns; kept = [] }

pub made_ends : (s u new : Shown) → u ≡ made s → (new.types ≡ u.types) × (new.trn_types ≡ u.trn_types) × (map (λ row. length row) new.cells ≡ map (λ row. length row) u.cells) × (new.trns ≡ u.trns) × (new.kept ≡ u.kept) → Ends s new
made_ends s u new is h = (h.0 ∙ ap (λ q. q.types) is, h.1 ∙ ap (λ q. q.trn_types) is, h.2 ∙ ap (λ q. map (λ row. length row) q.cells) is ∙ sizes_writes s.kept s.cells, h.3 ∙ ap (λ q. q.trns) is, h.4 ∙ ap (λ q. q.kept) is)

pub made_pc : (t : Table) (s u : Shown) → u ≡ made s → HasPc t s → HasPc t u
made_pc t s u is h = record { bits = h.bits; some = h.some; few = h.few; type_is = ap (λ q. slice_get q.types (pc t)) is ∙ h.type_is; storage_is = h.storage_is }

pub made_only : (s u : Shown) → u ≡ made s → Ends s u
made_only s u is = made_ends s u u is (refl, refl, refl, refl, refl)

-- 128 bits hold PC and one more
pub one_more : (t : Table) (s : Shown) (z r : ℤ) → HasPc t s → ((n i : ℕ) (u : Ty) → slice_get s.types n ≡ Some u → InRange u (cell s.cells n i)) → z ≡ cell s.cells (pc t) 0 → (FitsSigned w128 (z +ℤ pos 1) → r ≡ z +ℤ pos 1) → r ≡ cell s.cells (pc t) 0 +ℤ pos 1
one_more t s z r h fits is k =
    let f = fits (pc t) 0 (ty.Card h.bits) h.type_is in
    let m : 2 ^ h.bits ≤ 2 ^ 64 = pow_mono {i = h.bits} {j = 64} h.few in
    k (subst (λ q. FitsSigned w128 (q +ℤ pos 1)) (sym is) (plus (cell s.cells (pc t) 0) (2 ^ h.bits) m f.0 f.1)) ∙ ap (λ q. q +ℤ pos 1) is
  where
    plus : (c : ℤ) (n : ℕ) → n ≤ 2 ^ 64 → pos 0 ≤ℤ c → c <ℤ pos n → FitsSigned w128 (c +ℤ pos 1)
    plus (pos k) n m low high = omega (arith, ints, m, high)
    plus (negsuc k) n m low high = absurd (omega (arith, ints, low))

-- an instruction that ran agrees with its definition
module _ (t : Table) (x : Derivation) (zs : List ℤ) (next : Option ℤ) (old s : Shown) (d : Done) where
  abbrev pub Ran : Type 0
  Ran = course_of (scene s d) ≡ run t (record { fields = fields x; cells = old.cells; trns = []; next = next }) (action t x) (begin t)

  pub ran_is : IsLawful t → IsStateOf t old → IsNow t zs next old.cells old → fields x ≡ zs → IsLegal t x → Suits t zs next old.cells (action t x) → scene s d ≡ ran (out_type t) zs next (action t x) (scene old idle) → Ran
  ran_is lawful is now fields_are legal suits ran_eq =
      let law : is_lawful (fields_alone x) (act_shape (action t x)) ≡ true = lawful_true in
      let law_here : is_lawful (alone zs) (act_shape (action t x)) ≡ true = subst (λ fs. is_lawful (alone fs) (act_shape (action t x)) ≡ true) fields_are law in
      let a = agrees t zs next old.cells lawful (action t x) (scene old idle) now suits (λ n i among. no_writes n i) law_here in
      ap course_of ran_eq ∙ a.is ∙ ap (run t (view_of zs) (action t x)) begins ∙ ap (λ fs. run t (view_of fs) (action t x) (begin t)) (sym fields_are)
    where
      lawful_true : is_lawful (fields_alone x) (act_shape (action t x)) ≡ true
      lawful_true = lawful_legal t x ∙ legal

      view_of : List ℤ → View
      view_of fs = record { fields = fs; cells = old.cells; trns = []; next = next }

      begins : course_of (scene old idle) ≡ begin t
      begins = rw (is.trns_are, is.kept_are) refl

      no_writes : (n : ℕ) (i : act.Term) → AllMiss t zs next old.cells old.kept n i
      no_writes n i = subst (λ ws. AllMiss t zs next old.cells ws n i) (sym is.kept_are) tt

  pub wants_is : Ran → (new : Shown) → new ≡ old → (d.took && is_none next) ≡ true → DoesExec t (exec t x old.cells next) told.Wants old new
  wants_is r new same h =
      let took : (run t (record { fields = fields x; cells = old.cells; trns = []; next = next }) (action t x) (begin t)).effect.took ≡ d.took = ap (λ c. c.effect.took) (sym r) in
      let e : exec t x old.cells next ≡ spec.Wants = rw (took, h) refl in
      subst (λ q. DoesExec t q told.Wants old new) (sym e) (refl, same)

  pub does_is : Ran → (new : Shown) (result : Exec) (halt : Option ℕ) → s.cells ≡ old.cells → d.halt ≡ option_map pos halt → result ≡ told.Done d.out d.took halt
      → new ≡ record old { cells = stepped t (with_writes s.cells s.kept) s.kept } → (d.took && is_none next) ≡ false → DoesExec t (exec t x old.cells next) result old new
  does_is r new result halt cells_are halt_is result_is new_is h =
      let k : Effect = (run t (record { fields = fields x; cells = old.cells; trns = []; next = next }) (action t x) (begin t)).effect in
      let took : k.took ≡ d.took = ap (λ c. c.effect.took) (sym r) in
      let e : exec t x old.cells next ≡ spec.Does k = rw (took, h) refl in
      subst (λ q. DoesExec t q result old new) (sym e) (
        halt,
        result_is ∙ ap (λ o. told.Done o d.took halt) (ap (λ c. c.effect.out) r) ∙ ap (λ b. told.Done k.out b halt) (sym took),
        ap (λ c. c.effect.halt) (sym r) ∙ halt_is,
        new_is ∙ ap (λ cs. with_rows old (stepped t (with_writes cs s.kept) s.kept)) cells_are ∙ ap (λ ws. with_rows old (stepped t (with_writes old.cells ws) ws)) (ap (λ c. c.effect.writes) r),
      )

-- the same of a description, over what the code was proved to do
pub whole : (d : Desc) → IsTyped d → (x : Derivation) (ps : List ℕ) (zs : List ℤ) (next : Option ℤ) (old s : Shown) (done : Done) (out : Ty) → IsStateOf (table d) old → NextFits (table d) next
    → ((n i : ℕ) (u : Ty) → slice_get old.types n ≡ Some u → InRange u (cell old.cells n i)) → ((n : ℕ) (u : Ty) → slice_get old.trn_types n ≡ Some u → InRange u (number_at old.trns n))
    → IsWalkOf (table d) (codes "instruction") ps zs x → IsLegal (table d) x → Suits (table d) zs next old.cells (action (table d) x) → out ≡ out_type (table d)
    → ((y : Derivation) (ks : List ℕ) (ys : List ℤ) (n : ℕ) (fs : List ℤ) → Walks (entries [] d.items) (codes "instruction") (length d.items) y ps zs ks ys → drop n fs ≡ zs → Ready (entries [] d.items) next old → scene s done ≡ ran out fs next (written (entries [] d.items) n y).action (scene old idle))
    → Ran (table d) x zs next old s done
whole d typed x ps zs next old s done out is fits cells trns w legal suits out_is k =
    let law = lawful d (λ j less. typed j (omega (arith, less))) in
    let ready : Ready (table d) next old = record { lawful = law; types_are = is.types_are; trn_types_are = is.trn_types_are; next_fits = fits } in
    let now : IsNow (table d) zs next old.cells old = record { types_are = is.types_are; trn_types_are = is.trn_types_are; cells_are = refl; typed = of_types (table d) zs next old ready cells trns } in
    let e = k x [] [] 0 zs (walks_whole d typed x ps zs w) refl ready in
    ran_is (table d) x zs next old s done law is now w.fields legal suits (e ∙ ap (λ u. ran u zs next (action (table d) x) (scene old idle)) out_is)

pub narrow_whole : (d : Desc) → IsTyped d → (x : Derivation) (ps : List ℕ) (zs : List ℤ) (next : Option ℤ) (old s : Shown) (done : Done) (out : Ty) → IsStateOf (table d) old → NextFits (table d) next
    → IsWalkOf (table d) (codes "instruction") ps zs x → out ≡ out_type (table d)
    → ((y : Derivation) (ks : List ℕ) (ys : List ℤ) (n : ℕ) (fs : List ℤ) → Walks (entries [] d.items) (codes "instruction") (length d.items) y ps zs ks ys → drop n fs ≡ zs → Ready (entries [] d.items) next old → scene s done ≡ ran out fs next (written (entries [] d.items) n y).action (scene old idle))
    → IsNarrow (out_type (table d)) done
narrow_whole d typed x ps zs next old s done out is fits w out_is k =
    let law = lawful d (λ j less. typed j (omega (arith, less))) in
    let ready : Ready (table d) next old = record { lawful = law; types_are = is.types_are; trn_types_are = is.trn_types_are; next_fits = fits } in
    let e = k x [] [] 0 zs (walks_whole d typed x ps zs w) refl ready in
    subst (λ u. IsNarrow u done) out_is (subst (λ (q : Scene). IsNarrow out q.done) (sym e) (narrow_ran out zs next (action (table d) x) (scene old idle) (record { out_fits = tt; halt_fits = tt })))

pub pc_whole : (d : Desc) → IsTyped d → (s : Shown) → s.types ≡ map (λ x. x.1) (storages (table d)) → HasPc (table d) s
pc_whole d typed s types_are =
    let free : IsFreeBelow 8 d = λ j less. typed j (omega (arith, less)) in
    has_pc d typed (lawful d free) (λ name n k u is. (is_sound d free).names name (Declared.Storage n k u) is) s types_are
