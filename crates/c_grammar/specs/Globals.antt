-- Reading global variables from the front of a list of symbols.
use Rattle.std.specs.Prelude.{ℕ, ◌≡◌, List, Option, Some, None, codes}
use Rattle.c_tree.specs.declared.names.Name.{Name}
use Rattle.c_tree.specs.declared.program.SNum.{SNum}
use Rattle.c_tree.specs.declared.program.GVar.{GVar}
use Rattle.c_tree.specs.declared.program.GVar.TheVariants as gvars
use Rattle.readings.specs.Symbol.{Symbol}
use Rattle.readings.specs.Reading.{Read, read_on, behind}
use Rattle.readings.specs.Readings.{Reading, ◌>>>◌, made, sign, optional}
use Rattle.c_grammar.specs.Words.{name, number}
use Rattle.c_grammar.specs.Until.{until}

-- a number with a minus before it or without: the last is what stands behind the minus, if that is next
abbrev pub snum_from : ℕ → List Symbol → Option (ℕ × List Symbol) → Read SNum
snum_from n ss None = made (λ z. record { minus = None; number = z }) number n ss
snum_from n ss (Some (at, rest)) = made (λ z. record { minus = Some at; number = z }) number n rest

-- an initial value
abbrev pub snum : Reading SNum
snum n ss = snum_from n ss (behind (codes "-") ss)

-- `{n, n}`
abbrev pub listed : Reading (ℕ × (SNum × (List (ℕ × SNum) × ℕ)))
listed = sign (codes "{") >>> (snum >>> until (codes "}") (sign (codes ",") >>> snum))

-- the same in one row, as a tree has it
abbrev pub row : Option (ℕ × (ℕ × (SNum × (List (ℕ × SNum) × ℕ)))) → Option (ℕ × ℕ × SNum × List (ℕ × SNum) × ℕ)
row None = None
row (Some i) = Some (i.0, i.1.0, i.1.1.0, i.1.1.1.0, i.1.1.1.1)

-- `n]`, and `= {n, n}` or nothing, behind `NAME [`
abbrev pub global_array : Name → ℕ → Reading GVar
global_array x p = made (λ (z, (q, i)). gvars.Array x p z q (row i)) (number >>> (sign (codes "]") >>> optional (codes "=") listed))

-- `= n`, or nothing, behind a name
abbrev pub global_scalar : Name → Reading GVar
global_scalar x = made (λ i. gvars.Scalar x i) (optional (codes "=") snum)

-- what stands behind a name: the last is what stands behind a bracket, if that is next
abbrev pub global_from : Name → ℕ → List Symbol → Option (ℕ × List Symbol) → Read GVar
global_from x n ss None = global_scalar x n ss
global_from x n ss (Some (p, rest)) = global_array x p n rest

abbrev pub global_behind : Name → Reading GVar
global_behind x n ss = global_from x n ss (behind (codes "[") ss)

-- a global variable: `NAME`, `NAME = n`, `NAME[n]` or `NAME[n] = {n, n}`
abbrev pub global_variable : Reading GVar
global_variable n ss = read_on (name n ss) (λ x s. global_behind x n s)

-- further ones behind commas, and the semicolon
abbrev pub further_globals : Reading (List (ℕ × GVar) × ℕ)
further_globals = until (codes ";") (sign (codes ",") >>> global_variable)

-- what would make a variable longer isn't next
abbrev pub IsGlobalEnd : GVar → List Symbol → Type 0
IsGlobalEnd (gvars.Scalar x None) r = (behind (codes "=") r ≡ None) × (behind (codes "[") r ≡ None)
IsGlobalEnd (gvars.Scalar x (Some i)) r = Unit {0}
IsGlobalEnd (gvars.Array x p z q None) r = behind (codes "=") r ≡ None
IsGlobalEnd (gvars.Array x p z q (Some i)) r = Unit {0}
