use Rattle.std.proofs.Common.{◌≡◌, ◌+◌, ◌-◌, ◌*◌, ◌++◌}
use Rattle.image_file.specs.File.{word_bytes}
use Rattle.image_file.specs.Refused.{word_places}
use Rattle.image_file.specs.Parts.{words_from}
use Rattle.image_file.proofs.reader.words_of.Given as goal

-- no word so far is too wide, and the words so far and those that are left are all
abbrev pub invariant-loop-turn : goal.invariant-loop-turn
invariant-loop-turn l = record {
  at_is : l.at + (l.count - l.turn) * word_bytes l.width ≡ 42 + l.count * word_bytes l.width;
  places : word_places l.bytes l.width (l.count - l.turn) l.at ≡ word_places l.bytes l.width l.count 42;
  words : l.words.items ++ words_from l.bytes (word_bytes l.width) (l.count - l.turn) l.at ≡ words_from l.bytes (word_bytes l.width) l.count 42;
}
