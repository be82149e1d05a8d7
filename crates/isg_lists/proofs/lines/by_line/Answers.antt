use Rattle.std.proofs.Common.{rules, ◌≡◌, ◌≤◌, length}
use Rattle.isg_lists.proofs.Lined.{lined_more, lined_all}
use Rattle.isg_lists.proofs.lines.by_line.Goals as goal

pub loop-i-preserved : goal.loop-i-preserved
loop-i-preserved c =
    let same : c.in-Ok.n ≡ c.loop-i.i = search rules in
    lined_more c.args.words.now.keys c.args.shapes.now _ _ _ _ _ _ _ c.shape_at.ensures same c.as_slice.ensures.value c.line_of-line.ensures c.in_ok-add_line.ensures c.loop-i.invariant

pub returns : goal.returns
returns c =
    let end : length c.args.shapes.now ≤ c.loop-i.i = search rules in
    lined_all c.args.words.now.keys c.args.shapes.now _ _ end c.loop-i.invariant
