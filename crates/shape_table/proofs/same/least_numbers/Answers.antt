use Rattle.std.proofs.Common.{◌≤◌, ◌∙◌, ap, arith, length, min, sym}
use Rattle.shape_table.proofs.Places.{none_left}
use Rattle.shape_table.proofs.same.least_numbers.Goals as goal

pub returns : goal.returns
returns c =
    let p = ap length c.as_slice-ps.ensures.value in let q = ap length c.as_slice-qs.ensures.value in
    let least = c.min-i-end.ensures in let past = c.loop-i-test.false in
    let all : min (length c.args.a.now.template.items) (length c.args.b.now.template.items) ≤ c.loop-i.i = omega (arith, p, q, least, past) in
    sym (c.loop-i.invariant ∙ none_left c.args.a.now.fields.items c.args.b.now.fields.items c.args.a.now.template.items c.args.b.now.template.items c.loop-i.i c.loop-i.numbers.items all)
