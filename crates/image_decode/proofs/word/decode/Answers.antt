use Rattle.std.proofs.Common.{rules, ◌≤◌, ◌^◌}
use Rattle.image_decode.proofs.Decoding.{none_found, none_high}
use Rattle.image_decode.proofs.word.decode.Goals as goal

pub returns-then-not-is_below : goal.returns-then-not-is_below
returns-then-not-is_below c =
    let high : 2 ^ c.args.g.now.word_bits ≤ c.args.word = search rules in
    none_high c.args.g.now c.is_whole.ensures c.args.word high

pub returns-in-None : goal.returns-in-None
returns-in-None c = none_found c.args.g.now c.is_whole.ensures c.args.word c.in-None.ensures
