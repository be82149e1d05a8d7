use Rattle.std.proofs.Common.{◌≡◌, ◌^◌, ◌<◌, take}
use Rattle.image_file.specs.Refused.{number_behind}
use Rattle.image_file.proofs.reader.number_of.Given as goal

abbrev pub invariant-loop-byte : goal.invariant-loop-byte
invariant-loop-byte l = record { exact : l.n ≡ number_behind 0 (take l.byte-index l.bytes); below : l.n < 256 ^ l.byte-index }
