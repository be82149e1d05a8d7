-- What a walk through a program knows of its names, part by part.
use Rattle.std.specs.Prelude.{ℕ, List, map, flat_map}
use Rattle.c_tree.specs.declared.program.SNum.{SNum}
use Rattle.c_tree.specs.declared.program.GVar.{GVar}
use Rattle.c_tree.specs.declared.program.Param.{Param}
use Rattle.c_tree.specs.declared.statement.LVar.{LVar}
use Rattle.c_tree.specs.declared.program.Function.{Function}
use Rattle.c_tree.specs.Items.{Definition}
use Rattle.c_tree.specs.Resolve.{body_of}
use Rattle.c_tree.specs.Recursion.{body_callees}
use Rattle.c_tree.specs.Statement.{Variable, variable, block, Body, Nothing, Declare, Then}
use Rattle.c_tree.specs.Names.{Names, before_body, declared_variables, behind_variables, behind_statement}
use Rattle.c_tree.specs.Faults.{Fault, initial_faults}

-- further variables, without their commas
abbrev pub listed : List (ℕ × LVar) → List Variable
listed xs = map (λ (comma, v). v) (map (λ (comma, v). (comma, variable v)) xs)

-- what further initial values may not be
abbrev pub starts_of : ℕ → List (ℕ × SNum) → List Fault
starts_of n zs = flat_map (initial_faults n) (map (λ (comma, v). v) zs)

abbrev pub further_gvars : List (ℕ × GVar) → List GVar
further_gvars xs = map (λ (comma, x). x) xs

abbrev pub further_params : List (ℕ × Param) → List Param
further_params xs = map (λ (comma, x). x) xs

-- behind what stands in a block, and still in that block
abbrev pub behind_body : Names → Body → Names
behind_body s Nothing = s
behind_body s (Declare d rest) = behind_body (behind_variables s (declared_variables d)) rest
behind_body s (Then x rest) = behind_body (behind_statement s x) rest

-- a function as definitions see it
abbrev pub defined : Function → Definition
defined f = record { result = f.result; name = f.name; opening = f.opening; params = f.params; closing = f.closing; braces = block f.body }

-- the numbers of the functions that it calls
abbrev pub row_of : Names → Definition → List ℕ
row_of s f = body_callees (before_body s f) (body_of f.braces)
