use Rattle.std.proofs.Common.{rules, ◌≡◌, ◌<◌, ◌≤◌, length, get_or, refl}
use Rattle.std.proofs.lemmas.Option.{slice_get_read}
use Rattle.isg_lists.proofs.Search.{found_at, passed_more, passed_all}
use Rattle.isg_lists.proofs.masks.Masks.shape_of.Goals as goal

pub returns-in-Some : goal.returns-in-Some
returns-in-Some c =
    let low : c.loop-list.list-index < length c.args.self.now.lists.items = search rules in
    let same : c.list-item.result ≡ get_or c.args.self.now.lists.items c.loop-list.list-index c.list-item.result = search rules in
    found_at c.args.self.now c.args.word c.loop-list.list-index c.in-Some.n c.list-item.result (slice_get_read _ _ _ _ refl low same) c.in-Some.ensures

pub loop-list-preserved : goal.loop-list-preserved
loop-list-preserved c =
    let low : c.loop-list.list-index < length c.args.self.now.lists.items = search rules in
    let same : c.list-item.result ≡ get_or c.args.self.now.lists.items c.loop-list.list-index c.list-item.result = search rules in
    passed_more c.args.self.now c.args.word c.loop-list.list-index c.list-item.result (slice_get_read _ _ _ _ refl low same) c.in_default.ensures c.loop-list.invariant

pub returns : goal.returns
returns c =
    let end : length c.args.self.now.lists.items ≤ c.loop-list.list-index = search rules in
    passed_all c.args.self.now c.args.word c.loop-list.list-index end c.loop-list.invariant
