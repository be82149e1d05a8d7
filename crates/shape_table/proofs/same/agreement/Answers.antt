use Rattle.std.proofs.Common.{sym}
use Rattle.shape_table.proofs.Tokens.{least_same, none_same}
use Rattle.shape_table.proofs.same.agreement.Goals as goal

pub returns-then-not-tokens_meet : goal.returns-then-not-tokens_meet
returns-then-not-tokens_meet c = none_same c.args.a.now c.args.b.now c.requires.first c.requires.second c.requires.first_types c.requires.second_types c.if-not-tokens_meet.ensures

pub returns : goal.returns
returns c = rw (c.in_ok-first.ensures, c.in_ok-second.ensures)
    (least_same c.args.a.now c.args.b.now c.requires.first c.requires.second c.requires.first_types c.requires.second_types (sym c.if-not-tokens_meet.ensures))
