use Rattle.std.proofs.Common.{◌≡◌, ◌+◌, ◌-◌, ◌*◌, ◌++◌, None}
use Rattle.std.specs.Prelude.{map}
use Rattle.image_file.specs.Seen.{init_of, measures_of}
use Rattle.image_file.specs.Refused.{cell_places}
use Rattle.image_file.specs.Parts.{inits_from, option_init}
use Rattle.image_file.proofs.reader.inits_of.Given as goal

-- no field so far is wrong, and the cells so far and those that are left are all
abbrev pub invariant-loop-turn : goal.invariant-loop-turn
invariant-loop-turn l = record {
  at_is : l.at + (l.count - l.turn) * 14 ≡ l.from + l.count * 14;
  places : cell_places (measures_of l.layout) l.bytes (option_init l.before) (l.count - l.turn) l.at ≡ cell_places (measures_of l.layout) l.bytes None l.count l.from;
  inits : map init_of l.inits.items ++ inits_from l.bytes (l.count - l.turn) l.at ≡ inits_from l.bytes l.count l.from;
}
