use Rattle.std.proofs.Common.{rules, ◌≡◌, ◌≤◌, length, Some}
use Rattle.std.specs.Prelude.{slice_get}
use Rattle.isg_lists.proofs.Search.{made_more, made_all}
use Rattle.isg_lists.proofs.masks.kept.Goals as goal

pub loop-mask-preserved : goal.loop-mask-preserved
loop-mask-preserved c =
    let at : slice_get c.args.groups.now.entries c.loop-mask.k ≡ Some (c.in-Some.mask.now, c.in-Some.numbers.now) = search rules in
    rw (c.in_ok-push-2.ensures.items, c.in_ok-push.ensures.items)
    (made_more c.args.shapes.now c.args.groups.now.entries c.loop-mask.k c.in-Some.mask.now c.in-Some.numbers.now c.loop-mask.masks.items c.loop-mask.lists.items c.in_ok-list_of.field-0 at c.in_ok-list_of.ensures.mask c.in_ok-list_of.ensures.list c.loop-mask.invariant)

pub returns : goal.returns
returns c =
    let end : length c.args.groups.now.entries ≤ c.loop-mask.k = search rules in
    made_all _ c.args.groups.now.entries c.loop-mask.k _ end c.requires.keys c.loop-mask.invariant
