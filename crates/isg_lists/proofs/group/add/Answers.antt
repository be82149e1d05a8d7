use Rattle.isg_lists.proofs.Keys.{put_twice}
use Rattle.isg_lists.proofs.group.add.Goals as goal

pub returns-clause-keys : goal.returns-clause-keys
returns-clause-keys g c =
    put_twice g.K.PartialEq.eq c.args.key c.args.lists.now c.insert.new.self c.insert-2.new.self c.new-empty.result c.push.new.self c.in_ok-insert.ensures.entries c.in_ok-insert.ensures.updates.1 c.in_ok-insert-2.ensures.entries
