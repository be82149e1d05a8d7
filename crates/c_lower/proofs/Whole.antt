-- The parts of a list of statements make the whole, and what is known of a program's statements.
use Rattle.std.proofs.Common.{◌≡◌, sym, ap, subst, ◌∙◌, ℕ, ◌+◌, ◌≤◌, ℤ, List, Result, IfOk}
use Rattle.std.proofs.lemmas.Result.{IfOk-weaker}
use Rattle.nk_base.specs.declared.memory.Memory.{Memory}
use Rattle.ir_run.specs.declared.ir.Ir.{Ir}
use Rattle.ir_run.specs.Entry.{Entry, Homes, listing}
use Rattle.ir_run.specs.Size.{most_nodes}
use Rattle.ir_run.specs.Shifts.{AllShift}
use Rattle.ir_run.specs.Promise.{Promise}
use Rattle.c_tree.specs.AgreeIr.{AgreeIr}
use Rattle.c_tree.specs.Counts.{data_of}
use Rattle.c_tree.specs.Program.{Program}
use Rattle.c_tree.specs.Lowered.{program_entries, first_constant, first_temporary, temporaries, arrays, homes, initial_among, start, lowered}
use Rattle.c_homes.specs.Places.{homes_from, start_from}
use Rattle.c_homes.proofs.Beside.{homes_are, start_is}
use Rattle.c_lowered.specs.Sound.{Sound}
use Rattle.c_counted.proofs.Cells.{cells_are_data}
use Rattle.c_promise.proofs.Promised.{promised, shifts}
use Rattle.c_agree.proofs.Whole.{agrees, runs_safely}
use Rattle.c_plan.specs.declared.plan.Plan.{Plan}
use Rattle.c_plan.specs.Plan.{IsPlan, plan_shown}
use Rattle.c_plan.proofs.Unnamed.{lowered_unnamed}
use Rattle.c_lower.specs.Ground.{IsLowered}

pub together : (p : Program) (n : ℕ) (entries : List Entry) (first cells nodes : ℕ) (lying : List (ℕ × ℕ)) (h : Homes) (values begins : List (ℕ × ℤ))
    → entries ≡ program_entries p n → first ≡ first_constant p → lying ≡ arrays p → h ≡ homes_from first lying entries n
    → values ≡ initial_among 0 p.globals → begins ≡ start_from values h n → nodes ≡ most_nodes entries → cells ≡ h.temps + (8 + nodes)
    → IsLowered (record { entries = entries; cells = cells; start = begins; arrays = lying; homes = h }) p n
together p n entries first cells nodes lying h values begins entries_is first_is lying_is h_is values_is begins_is nodes_is cells_is =
    let homes_is : h ≡ homes p n =
    h_is ∙ ap (λ k. homes_from k lying entries n) first_is ∙ ap (λ l. homes_from (first_constant p) l entries n) lying_is
    ∙ ap (λ es. homes_from (first_constant p) (arrays p) es n) entries_is ∙ homes_are p n in
    let start_are : begins ≡ start p n =
    begins_is ∙ ap (λ l. start_from l h n) values_is ∙ ap (λ x. start_from (initial_among 0 p.globals) x n) homes_is ∙ start_is p n in
    let cells_are : cells ≡ first_temporary p n + temporaries p n =
    cells_is ∙ ap (λ x. x.temps + (8 + nodes)) homes_is ∙ ap (λ k. first_temporary p n + (8 + k)) (nodes_is ∙ ap most_nodes entries_is) in
    record {
      is = ap (λ es. record { entries = es; cells = cells; start = begins; arrays = lying; homes = h }) entries_is
          ∙ ap (λ k. record { entries = program_entries p n; cells = k; start = begins; arrays = lying; homes = h }) cells_are
          ∙ ap (λ l. record { entries = program_entries p n; cells = first_temporary p n + temporaries p n; start = l; arrays = lying; homes = h }) start_are
          ∙ ap (λ l. record { entries = program_entries p n; cells = first_temporary p n + temporaries p n; start = start p n; arrays = l; homes = h }) lying_is
          ∙ ap (λ x. record { entries = program_entries p n; cells = first_temporary p n + temporaries p n; start = start p n; arrays = arrays p; homes = x }) homes_is;
    }

-- a planned program's statements are the program's
pub lowers : (r : Result Ir Memory) (plan : Plan) (p : Program) (n : ℕ) → IsPlan plan p → IfOk r (λ i. IsLowered (listing i) (plan_shown plan) n)
    → IfOk r (λ i. IsLowered (listing i) p n)
lowers r plan p n is =
    IfOk-weaker r (λ i. IsLowered (listing i) (plan_shown plan) n) (λ i. IsLowered (listing i) p n)
    (λ i same. record { is = same.is ∙ ap (λ q. lowered q n) is.shown ∙ lowered_unnamed p n })

pub is_lowered : (r : Result Ir Memory) (p : Program) (n : ℕ) → IfOk r (λ i. IsLowered (listing i) p n) → IfOk r (λ i. listing i ≡ lowered p n)
is_lowered r p n = IfOk-weaker r (λ i. IsLowered (listing i) p n) (λ i. listing i ≡ lowered p n) (λ i same. same.is)

pub has_cells : (r : Result Ir Memory) (p : Program) (n : ℕ) → IfOk r (λ i. IsLowered (listing i) p n) → IfOk r (λ i. i.cells ≡ data_of p n)
has_cells r p n =
    IfOk-weaker r (λ i. IsLowered (listing i) p n) (λ i. i.cells ≡ data_of p n) (λ i same. ap (λ l. l.cells) same.is ∙ cells_are_data p n)

pub has_shifts : (r : Result Ir Memory) (p : Program) (n : ℕ) → Sound p n → IfOk r (λ i. IsLowered (listing i) p n) → IfOk r (λ i. AllShift n (listing i).entries)
has_shifts r p n sound =
    IfOk-weaker r (λ i. IsLowered (listing i) p n) (λ i. AllShift n (listing i).entries)
    (λ i same. subst (λ l. AllShift n l.entries) (sym same.is) (shifts p n sound))

pub has_agreement : (r : Result Ir Memory) (p : Program) (n : ℕ) → Sound p n → data_of p n ≤ 65536 → IfOk r (λ i. IsLowered (listing i) p n)
    → IfOk r (λ i. AgreeIr (listing i) p n)
has_agreement r p n sound fits =
    IfOk-weaker r (λ i. IsLowered (listing i) p n) (λ i. AgreeIr (listing i) p n)
    (λ i same. subst (λ l. AgreeIr l p n) (sym same.is) (agrees p n sound fits))

pub has_promises : (r : Result Ir Memory) (p : Program) (n : ℕ) → Sound p n → data_of p n ≤ 65536 → IfOk r (λ i. IsLowered (listing i) p n)
    → IfOk r (λ i. Promise 1 (listing i) n)
has_promises r p n sound fits =
    IfOk-weaker r (λ i. IsLowered (listing i) p n) (λ i. Promise 1 (listing i) n)
    (λ i same. subst (λ l. Promise 1 l n) (sym same.is) (record { statements = promised p n sound; runs = runs_safely p n sound fits }))
