use Rattle.std.proofs.Common.{◌≡◌, drop}
use Rattle.shape_table.specs.Least as spec
use Rattle.shape_table.proofs.same.least_numbers.Given as goal

abbrev pub invariant-loop-i : goal.invariant-loop-i
invariant-loop-i l = spec.least_numbers l.a l.b ≡ spec.leasts l.a.fields.items l.b.fields.items (drop l.i l.a.template.items) (drop l.i l.b.template.items) l.numbers.items
