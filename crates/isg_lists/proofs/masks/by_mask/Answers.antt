use Rattle.std.proofs.Common.{rules, ◌≡◌, ◌≤◌, length}
use Rattle.isg_lists.proofs.Grouping.{grouped_more, keys_done, lists_done}
use Rattle.isg_lists.proofs.masks.by_mask.Goals as goal

pub returns-clause-keys : goal.returns-clause-keys
returns-clause-keys c = let end : length c.args.shapes.now ≤ c.loop-i.i = search rules in keys_done _ _ _ end c.loop-i.invariant

pub returns-clause-lists : goal.returns-clause-lists
returns-clause-lists c = let end : length c.args.shapes.now ≤ c.loop-i.i = search rules in lists_done _ _ _ end c.loop-i.invariant

pub loop-i-preserved : goal.loop-i-preserved
loop-i-preserved c =
    let same : c.in-Ok.n ≡ c.loop-i.i = search rules in
    grouped_more _ _ _ _ _ _ c.shape_at.ensures same c.in_ok-add.ensures.keys c.in_ok-add.ensures.lists c.loop-i.invariant
