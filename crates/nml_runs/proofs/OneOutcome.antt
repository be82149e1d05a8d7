-- On a checked description a run has one outcome, since a word is one instruction at most.
use Rattle.std.proofs.Common.{ℕ, ◌≡◌, List}
use Rattle.nml_tree.specs.declared.tree.Desc.{Desc}
use Rattle.nml_tree.specs.Table.{table}
use Rattle.nml_tree.specs.Machine.{Now, RunOutcome, Runs}
use Rattle.nml_tree.specs.Refused.{IsChecked}
use Rattle.nml_laws.proofs.OneWord.{one_instruction}
use Rattle.nml_laws.proofs.OneRun.{one_run}

pub one_outcome : (d : Desc) (words : List ℕ) (n : ℕ) (s : Now) (o p : RunOutcome) → IsChecked d → Runs (table d) words n s o → Runs (table d) words n s p → o ≡ p
one_outcome d words n s o p checked h k = one_run (table d) (one_instruction d checked) words n s o p h k
