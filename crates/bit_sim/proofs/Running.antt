-- A step of a simulator over what the graph does.
use Rattle.std.proofs.Common.{ℕ, zero, suc, ◌<◌, ◌≤◌, ◌≡◌, refl, sym, ◌∙◌, ap, subst, arith, ℤ, pos, negsuc, List, [], ◌∷◌, length, map, Some, None, Option, Bool}
use Rattle.std.proofs.Math.Pow.{pow_mono}
use Rattle.std.proofs.lemmas.Int.{ints}
use Rattle.std.proofs.lemmas.Option.{slice_get_within}
use Rattle.std.specs.Prelude.{◌^◌, ◌≤ℤ◌, ◌<ℤ◌, option_map, slice_get, unsigned_abs}
use Rattle.nk_base.specs.declared.number.Ty.{Ty}
use Rattle.nk_base.specs.declared.number.Ty.TheVariants as tys
use Rattle.nk_base.specs.Number.{InRange}
use Rattle.nml_tree.specs.Legal.{IsLegal}
use Rattle.nml_tree.specs.Table.{Table, table}
use Rattle.nml_tree.specs.Derivation.{Derivation}
use Rattle.nml_tree.specs.Exec as exec
use Rattle.nml_tree.specs.Exec.{Exec, after, storages}
use Rattle.nml_tree.specs.Machine.{Found, Nothing, Bad, Instruction, IsFound, IsInstruction, pc_now}
use Rattle.nml_tree.specs.Value.{Cells, cell}
use Rattle.nml_shape.specs.declared.shape.Inst.{Inst}
use Rattle.nml_state.specs.Cells.{Shown}
use Rattle.nml_state.specs.declared.state.Exec as told_exec
use Rattle.nml_state.specs.declared.state.Exec.TheVariants as told
use Rattle.attr_exec.specs.Does.{DoesExec, IsStateOf}
use Rattle.isg_graph.specs.Graph.{Graph, IsGraph}
use Rattle.isg_graph.specs.Instance.{IsInstOf}
use Rattle.isg_graph.proofs.Gathered.{there}
use Rattle.bit_sim.specs.declared.step.Step.{Step}
use Rattle.bit_sim.specs.declared.step.Step.TheVariants as step
use Rattle.bit_sim.specs.Decoded.{AreDecided, AreDecoded, IsDecoded}
use Rattle.bit_sim.specs.Simulator.{IsStepBy, answered, at}
use Rattle.bit_sim.proofs.Steps.{by_bad, by_done, by_nothing, by_want}

get_mapped : {A B : Type 0} (f : A → B) (xs : List A) (n : ℕ) (x : A) → slice_get xs n ≡ Some x → slice_get (map f xs) n ≡ Some (f x)
get_mapped f [] n x h = absurd cc
get_mapped f (y ∷ xs) zero x h = let e : y ≡ x = cc in ap (λ z. Some (f z)) e
get_mapped f (y ∷ xs) (suc n) x h = get_mapped f xs n x h

abs_below : (z : ℤ) (m n : ℕ) → pos 0 ≤ℤ z → z <ℤ pos m → m ≤ n → unsigned_abs z < n
abs_below (pos k) m n low high le = omega (arith, ints, high, le)
abs_below (negsuc k) m n low high le = absurd (omega (arith, ints, low))

-- PC is below 2^32
pub pc_small : (g : Graph) → IsGraph g → (s : Shown) → IsStateOf (table g.desc) s → ((n i : ℕ) (ty : Ty) → slice_get s.types n ≡ Some ty → InRange ty (cell s.cells n i)) → unsigned_abs (cell s.cells g.pc 0) < 2 ^ 32
pc_small g whole s is fit =
    let typed : slice_get s.types g.pc ≡ Some (tys.Card g.pc_bits) = subst (λ xs. slice_get xs g.pc ≡ Some (tys.Card g.pc_bits)) (sym is.types_are) (get_mapped (λ x. x.1) (storages (table g.desc)) g.pc (1, tys.Card g.pc_bits) whole.pc_bits_are) in
    let r = fit g.pc 0 (tys.Card g.pc_bits) typed in
    let few = whole.pc_most in
    let le : 2 ^ g.pc_bits ≤ 2 ^ 32 = pow_mono {i = g.pc_bits} {j = 32} (omega (arith, few)) in
    abs_below (cell s.cells g.pc 0) (2 ^ g.pc_bits) (2 ^ 32) r.0 r.1 le

-- the word of what was decoded
pub word_of : (g : Graph) (words : List ℕ) (found : List (Option Inst)) (n : ℕ) (o : Option Inst) → AreDecoded g words found → slice_get found n ≡ Some o → (w : ℕ) × (slice_get words n ≡ Some w) × IsDecoded g w o
word_of g words found n o are at =
    let w = there words n (subst (λ k. n < k) are.many (slice_get_within found n o at)) in
    (w.0, w.1, are.each n w.0 o w.1 at)

none_behind : {A B : Type 0} (xs : List A) (ys : List B) (n : ℕ) → length ys ≡ length xs → slice_get ys n ≡ None → slice_get xs n ≡ None
none_behind [] ys n long h = refl
none_behind (x ∷ xs) [] n long h = absurd (omega (arith, long))
none_behind (x ∷ xs) (y ∷ ys) zero long h = absurd cc
none_behind (x ∷ xs) (y ∷ ys) (suc n) long h = none_behind xs ys n (omega (arith, long)) h

-- there is no word where nothing was decoded
pub no_word : (g : Graph) (words : List ℕ) (found : List (Option Inst)) (n : ℕ) → AreDecoded g words found → slice_get found n ≡ None → slice_get words n ≡ None
no_word g words found n are at = none_behind words found n are.many at

-- an instruction that was done, and one that wants input
pub did : (t : Table) (words : List ℕ) (next : Option ℤ) (old new : Cells) (w : ℕ) (x : Derivation) (s r : Shown) (out : Option ℤ) (took : Bool) (halt : Option ℕ) → slice_get words (pc_now t (at old [])) ≡ Some w → IsInstruction t w x
    → DoesExec t (exec.exec t x old next) (told.Done out took halt) s r → s.cells ≡ old → new ≡ r.cells
    → IsStepBy t words next old new (answered out took halt) (Instruction x)
did t words next old new w x s r out took halt stands is does same cells = by (exec.exec t x old next) refl does
  where
    by : (e : Exec) → exec.exec t x old next ≡ e → DoesExec t e (told.Done out took halt) s r → IsStepBy t words next old new (answered out took halt) (Instruction x)
    by exec.Wants e h = absurd cc
    by (exec.Does k) e h =
        let outs : out ≡ k.out = cc in
        let tooks : took ≡ k.took = cc in
        let halts : halt ≡ h.0 = cc in
        let after_is : new ≡ after t old k = cells ∙ (ap (λ (q : Shown). q.cells) h.3 ∙ ap (λ cs. after t cs k) same) in
        rw (outs, tooks, halts) (by_done t words next old new w x k h.0 stands is e h.2 after_is)

pub wanted : (t : Table) (words : List ℕ) (next : Option ℤ) (old new : Cells) (w : ℕ) (x : Derivation) (s r : Shown) → slice_get words (pc_now t (at old [])) ≡ Some w → IsInstruction t w x
    → DoesExec t (exec.exec t x old next) told.Wants s r → s.cells ≡ old → new ≡ r.cells
    → IsStepBy t words next old new step.Wants (Instruction x)
wanted t words next old new w x s r stands is does same cells = by (exec.exec t x old next) refl does
  where
    by : (e : Exec) → exec.exec t x old next ≡ e → DoesExec t e told.Wants s r → IsStepBy t words next old new step.Wants (Instruction x)
    by (exec.Does k) e h = absurd cc
    by exec.Wants e h = by_want t words next old new w x stands is e (cells ∙ (ap (λ (q : Shown). q.cells) h.1 ∙ same))

-- ---- a step over what was decoded, PC being this number

module _ (g : Graph) (words : List ℕ) (found : List (Option Inst)) (next : Option ℤ) (pc : ℕ) (are : AreDecoded g words found) where
  -- a step is that of something found
  abbrev pub Steps : Cells → Cells → Step → Type 0
  Steps old new told = (f : Found) × IsStepBy (table g.desc) words next old new told f

  pub inst_there : (i : Inst) → slice_get found pc ≡ Some (Some i) → i.shape < length g.shapes
  inst_there i here = let w = word_of g words found pc (Some i) are here in slice_get_within g.shapes i.shape w.2.1.of.shape w.2.1.of.stands

  module _ (cells : Cells) (is : pc ≡ pc_now (table g.desc) (at cells [])) where
    pub go_nothing : slice_get found pc ≡ None → Steps cells cells (step.NoWord pc)
    go_nothing here =
        let none = subst (λ p. slice_get words p ≡ None) is (no_word g words found pc are here) in
        (Nothing, subst (λ p. IsStepBy (table g.desc) words next cells cells (step.NoWord p) Nothing) (sym is) (by_nothing (table g.desc) words next cells cells none refl))

    pub go_bad : slice_get found pc ≡ Some None → Steps cells cells (step.BadWord pc)
    go_bad here =
        let w = word_of g words found pc None are here in
        let stands = subst (λ p. slice_get words p ≡ Some w.0) is w.1 in
        (Bad, subst (λ p. IsStepBy (table g.desc) words next cells cells (step.BadWord p) Bad) (sym is) (by_bad (table g.desc) words next cells cells w.0 stands w.2 refl))

  module _ (s r : Shown) (i : Inst) (is : pc ≡ pc_now (table g.desc) (at s.cells [])) (here : slice_get found pc ≡ Some (Some i)) where
    -- what applying the instruction was proved to do
    abbrev pub Applied : told_exec.Exec → Type 0
    Applied result = (x : Derivation) → IsInstOf g i x → IsLegal (table g.desc) x → DoesExec (table g.desc) (exec.exec (table g.desc) x s.cells next) result s r

    pub go_did : (out : Option ℤ) (took : Bool) (halt : Option ℕ) → Applied (told.Done out took halt) → Steps s.cells r.cells (answered out took halt)
    go_did out took halt h =
        let w = word_of g words found pc (Some i) are here in
        let stands = subst (λ p. slice_get words p ≡ Some w.0) is w.1 in
        (Instruction w.2.0, did (table g.desc) words next s.cells r.cells w.0 w.2.0 s r out took halt stands w.2.2 (h w.2.0 w.2.1 w.2.2.legal) refl refl)

    pub go_wants : Applied told.Wants → Steps s.cells r.cells step.Wants
    go_wants h =
        let w = word_of g words found pc (Some i) are here in
        let stands = subst (λ p. slice_get words p ≡ Some w.0) is w.1 in
        (Instruction w.2.0, wanted (table g.desc) words next s.cells r.cells w.0 w.2.0 s r stands w.2.2 (h w.2.0 w.2.1 w.2.2.legal) refl refl)

-- what was decoded decides each word
decided_as : (g : Graph) (words : List ℕ) (n w : ℕ) (o : Option Inst) → slice_get words n ≡ Some w → IsDecoded g w o → (f : Found) × IsFound (table g.desc) (slice_get words n) f
decided_as g words n w None stands none = (Bad, (w, stands, none))
decided_as g words n w (Some i) stands is = (Instruction is.0, (w, stands, is.2))

decided_by : (g : Graph) (words : List ℕ) (found : List (Option Inst)) (n : ℕ) (o : Option (Option Inst)) → AreDecoded g words found → slice_get found n ≡ o
    → (f : Found) × IsFound (table g.desc) (slice_get words n) f
decided_by g words found n None are e = (Nothing, none_behind words found n are.many e)
decided_by g words found n (Some o) are e = let w = word_of g words found n o are e in decided_as g words n w.0 o w.1 w.2

pub decided : (g : Graph) (words : List ℕ) (found : List (Option Inst)) → AreDecoded g words found → AreDecided (table g.desc) words
decided g words found are n = decided_by g words found n (slice_get found n) are refl
