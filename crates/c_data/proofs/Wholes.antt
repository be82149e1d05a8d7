-- What is counted of an accepted program's plan is how many cells its statements have.
use Rattle.std.proofs.Common.{◌≡◌, ap, ◌∙◌, ℕ, ◌≤◌, Result, Ok, Err}
use Rattle.std.specs.Prelude.{IfOk}
use Rattle.c_tree.specs.declared.program.CTree.{CTree}
use Rattle.c_tree.specs.Accepted.{IsAcceptedTree}
use Rattle.c_tree.specs.Resolve.{resolved}
use Rattle.c_tree.specs.Counts.{data_of}
use Rattle.c_sound.proofs.Whole.{program_sound}
use Rattle.c_counted.specs.Total.{counted}
use Rattle.c_counted.proofs.Same.{counted_is}
use Rattle.c_plan.specs.declared.plan.Plan.{Plan}
use Rattle.c_plan.specs.Plan.{IsPlan, plan_shown}
use Rattle.c_plan.proofs.Unnamed.{counted_unnamed}

-- what is counted of a plan is what the statements have
plan_is : (plan : Plan) (t : CTree) (n k : ℕ) → IsPlan plan (resolved t) → IsAcceptedTree t n → 16 ≤ n → n ≤ 32 → k ≡ counted (plan_shown plan) n → k ≡ data_of (resolved t) n
plan_is plan t n k is accepted low high h =
    h ∙ ap (λ p. counted p n) is.shown ∙ counted_unnamed (resolved t) n ∙ counted_is (resolved t) n (program_sound t n accepted low high)

-- the same of an answer
pub data_is : {E : Type 0} (plan : Plan) (t : CTree) (n : ℕ) (r : Result ℕ E) → IsPlan plan (resolved t) → IsAcceptedTree t n → 16 ≤ n → n ≤ 32 → IfOk r (λ k. k ≡ counted (plan_shown plan) n) → IfOk r (λ k. k ≡ data_of (resolved t) n)
data_is plan t n (Ok k) is accepted low high h = plan_is plan t n k is accepted low high h
data_is plan t n (Err e) is accepted low high h = tt
