use Rattle.std.proofs.Common.{◌≡◌, ◌++◌, take}
use Rattle.std.specs.Prelude.{flat_map, map}
use Rattle.image_file.specs.File.{init_bytes}
use Rattle.image_file.specs.Seen.{init_of}
use Rattle.image_file.proofs.writer.push_inits.Given as goal

abbrev pub invariant-loop-cell : goal.invariant-loop-cell
invariant-loop-cell l = l.bytes.items ≡ l.fn.bytes.items ++ flat_map init_bytes (map init_of (take l.cell-index l.inits))
