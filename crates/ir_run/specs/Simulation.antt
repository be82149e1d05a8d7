-- How one machine follows another step by step, where a step may stand for several of the other, or for none.
use Rattle.std.specs.Prelude.{◌≡◌, ℕ, ◌+◌, ◌*◌, ◌<◌, ◌≤◌, ◌⊎◌, ℤ, List, [], ◌++◌}
use Rattle.nk_outside.specs.Outcome.{Outcome}
use Rattle.ir_run.specs.Runs.{Turn, Goes, Ends, put_before, run}

-- From t, behind the outputs that were put, the machine g comes to the outcome o, which a run with n turns left has. It takes (n - c) / w steps or
-- more: each step of g pays for w turns, and c turns are paid for beforehand.
pub record Meets {T : Type 0} (g : T → Turn T) (w c : ℕ) (out : List ℤ) (t : T) (n : ℕ) (o : Outcome) : Type 0 where
  pub steps : ℕ
  pub enough : n ≤ w * steps + c
  pub same : put_before out (run g steps t) ≡ o

module _ {S T : Type 0} (f : S → Turn S) (g : T → Turn T) (R : S → T → Type 0) (left : S → ℕ) (w : ℕ) where
  -- One or more steps of g, which may put out. From any outcome behind them one comes to the same from before them.
  pub record Leads (t : T) (more : List ℤ) (next : T) : Type 0 where
    pub by : (c n : ℕ) (out : List ℤ) (o : Outcome) → Meets g w (c + w) (out ++ more) next n o → Meets g w c out t n o

  -- a step of f is at least one step of g
  pub record Moves (t : T) (more : List ℤ) (next : S) : Type 0 where
    pub to : T
    pub related : R next to
    pub leads : Leads t more to

  -- or none: then it puts out nothing, and fewer such steps are left
  pub record Stays (s : S) (t : T) (more : List ℤ) (next : S) : Type 0 where
    pub silent : more ≡ []
    pub related : R next t
    pub fewer : left next < left s

  abbrev pub Matches : S → T → Turn S → Type 0
  Matches s t (Goes more next) = Moves t more next ⊎ Stays s t more next
  Matches s t (Ends stop) = (c n : ℕ) (out : List ℤ) → Meets g w c out t n (record { out = out; stop = stop })
