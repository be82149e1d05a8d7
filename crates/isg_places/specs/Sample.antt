-- Worked examples of the definitions, each by computation.
use Rattle.std.specs.Prelude.{◌≡◌, refl, pos, [], ◌∷◌, Some, None}
use Rattle.nml_tree.specs.declared.operator.Bin.TheVariants as bin
use Rattle.nml_tree.specs.Act.{Term, Done, Number, Field, Cell, Binary, Choose, SetCell, When}
use Rattle.nml_tree.specs.SampleMachines.{m2, two_moves}
use Rattle.nml_tree.specs.Written.{action}
use Rattle.isg_places.specs.Constant.{constant}
use Rattle.isg_places.specs.Places.{reads_in, act_reads, act_writes, jump_field}

-- `R[d] = R[s];` twice, with fields 0 to 3; R is storage 1
reads : act_reads (action m2 two_moves) ≡ (1, Field 1) ∷ (1, Field 3) ∷ []
reads = refl

writes : act_writes (action m2 two_moves) ≡ (1, Field 0) ∷ (1, Field 2) ∷ []
writes = refl

-- `M[R[a]]`, M being storage 2
nested : reads_in (Cell 2 (Cell 1 (Field 0))) ≡ (2, Cell 1 (Field 0)) ∷ (1, Field 0) ∷ []
nested = refl

-- `PC + 1`, PC being storage 0, and `if R[a] then n else PC + 1 endif`
abbrev next : Term
next = Binary bin.Add (Cell 0 (Number (pos 0))) (Number (pos 1))

abbrev branch : Term
branch = Choose (Cell 1 (Field 0)) (Field 1) next

-- `PC = if R[a] then n else PC + 1 endif;`
jump : jump_field 0 (SetCell 0 (Number (pos 0)) branch Done) ≡ Some 1
jump = refl

-- `if R[a] then PC = n; else PC = m; endif;`
two_jumps : jump_field 0 (When (Cell 1 (Field 0)) (SetCell 0 (Number (pos 0)) (Field 1) Done) (SetCell 0 (Number (pos 0)) (Field 2) Done) Done) ≡ None
two_jumps = refl

-- `n + 1`, where the field 1 is 6
constant_sum : constant (pos 2 ∷ pos 6 ∷ []) (Binary bin.Add (Field 1) (Number (pos 1))) ≡ Some (pos 7)
constant_sum = refl
