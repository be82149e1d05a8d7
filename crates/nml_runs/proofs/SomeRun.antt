-- It can't be that a run has no outcome: something is found at each place, a turn follows from it, and the turns come to an outcome.
use Rattle.std.proofs.Common.{ℕ, zero, suc, refl, List, [], Option, Some, None}
use Rattle.std.specs.Prelude.{slice_get}
use Rattle.nml_tree.specs.Table.{Table}
use Rattle.nml_tree.specs.Machine.{Now, Running, Turn, Goes, Ends, Found, Nothing, Bad, Instruction, IsFound, IsTurn, pc_now, found_turn, RunOutcome, put_before, Follows, Runs}

pub some_found : (t : Table) (word : Option ℕ) → ((f : Found) → IsFound t word f → ⊥) → ⊥
some_found t None none = none Nothing refl
some_found t (Some w) none = none Bad (w, refl, λ d is. none (Instruction d) (w, refl, is))

pub some_turn : (t : Table) (words : List ℕ) (s : Now) → ((x : Turn) → IsTurn t words s x → ⊥) → ⊥
some_turn t words s none = some_found t (slice_get words (pc_now t s)) (λ f found. none (found_turn t s f) (f, found, refl))

some_follows : (P : Now → RunOutcome → Type 0) → ((s : Now) → ((o : RunOutcome) → P s o → ⊥) → ⊥) → (x : Turn) → ((o : RunOutcome) → Follows P x o → ⊥) → ⊥
some_follows P some (Goes out s) none = some s (λ p h. none (put_before out p) (p, h, refl))
some_follows P some (Ends out stop) none = none (record { out = out; stop = stop }) refl

pub some_run : (t : Table) (words : List ℕ) (n : ℕ) (s : Now) → ((o : RunOutcome) → Runs t words n s o → ⊥) → ⊥
some_run t words zero s none = none (record { out = []; stop = Running }) refl
some_run t words (suc n) s none = some_turn t words s (λ x turn. some_follows (Runs t words n) (some_run t words n) x (λ o h. none o (x, turn, h)))
