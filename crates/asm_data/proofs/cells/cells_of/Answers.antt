use Rattle.std.proofs.Common.{◌≡◌, map, filter, rules, ap, ◌∙◌}
use Rattle.std.specs.List.Sorted.{IsStrictlySortedBy}
use Rattle.std.specs.Map.{keys_of}
use Rattle.asm_text.specs.Assembled.{rise}
use Rattle.asm_data.specs.Given.{begun}
use Rattle.asm_data.specs.Values.{initials, is_some_value}
use Rattle.asm_data.proofs.Ordered.{cell_cmp, rising}
use Rattle.asm_data.proofs.cells.cells_of.Goals as goal

pub returns-clause-rise : goal.returns-clause-rise
returns-clause-rise c =
    let are : map begun c.loop-cell.cells.items ≡ filter is_some_value (initials c.args.values.now.entries) = search rules in
    let ordered : IsStrictlySortedBy cell_cmp (keys_of c.args.values.now.entries) = search rules in
    ap rise are ∙ rising c.args.values.now.entries ordered
