-- Counts that never fall, and stay at 2^64-1, the last value that can be kept.
use Rattle.std.specs.Prelude.{ℕ, ◌+◌, ◌-◌, ◌^◌, ◌≤◌, min, max}

-- one more, except at the end
abbrev pub counted : ℕ → ℕ
counted n = max n (min (n + 1) (2 ^ 64 - 1))

-- it is greater than before, or it stands at the end
abbrev pub Rose : ℕ → ℕ → Type 0
Rose before now = min (before + 1) (2 ^ 64 - 1) ≤ now

-- a count of faults doesn't fall, and it rose where the fault is told
pub record CountsFault (before now : ℕ) (is_told : Type 0) : Type 0 where
  pub later : before ≤ now
  pub rose : is_told → Rose before now

-- what files count: calls, faults of reads and of writes, and reads of absent names
pub record Counts : Type 0 where
  pub calls : ℕ
  pub read_faults : ℕ
  pub write_faults : ℕ
  pub absents : ℕ
