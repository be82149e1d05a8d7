-- The symbols of a reader, without where they lie in memory, and what its functions answer of a reading.
use Rattle.std.specs.Prelude.{◌≡◌, ◌≤◌, ℕ, List, length, Result, Ok, Err}
use Rattle.readings.specs.Symbol.{Symbol}
use Rattle.readings.specs.Reading.{Read, Stuck}
use Rattle.readings.specs.Readings.{Reading}
use Rattle.readings.specs.declared.sign.Sign.{Sign}
use Rattle.readings.specs.declared.stop.Stop.{Stop}
use Rattle.readings.specs.declared.sign.Sign.TheVariants as lent
use Rattle.readings.specs.declared.stop.Stop.TheVariants as stops

-- the symbol that a function has
abbrev pub seen : Sign → Symbol
seen (lent.Fixed at text) = Symbol.Fixed at text.now
seen (lent.Named at text) = Symbol.Named at text.now
seen (lent.Number at value) = Symbol.Number at value
seen (lent.Quoted at text) = Symbol.Quoted at text.now

-- from some number of calls on the reading of these symbols comes to this
pub record Comes {A : Type 0} (reads : Reading A) (ss : List Symbol) (a : Read A) : Type 0 where
  pub calls : ℕ
  pub is : (n : ℕ) → calls ≤ n → reads n ss ≡ a

-- it is stuck before so many symbols; want of memory is free
abbrev pub Fails : {A : Type 0} → Stop → Reading A → List Symbol → Type 0
Fails (stops.Stuck left) reads ss = (rest : List Symbol) × (length rest ≡ left) × Comes reads ss (Stuck rest)
Fails stops.Memory reads ss = Unit {0}

-- what was answered is what the reading of these symbols comes to
abbrev pub Says : {A B : Type 0} → (A → Read B) → Result A Stop → Reading B → List Symbol → Type 0
Says found (Ok x) reads ss = Comes reads ss (found x)
Says found (Err stop) reads ss = Fails stop reads ss
