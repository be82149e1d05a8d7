use Rattle.std.proofs.Common.{◌≡◌, ◌++◌, take}
use Rattle.std.specs.Prelude.{flat_map}
use Rattle.nk_base.specs.Hexadecimal.{hexadecimal}
use Rattle.fault_texts.proofs.image.push_hexadecimal_bytes.Given as goal

abbrev pub invariant-loop-byte : goal.invariant-loop-byte
invariant-loop-byte l = l.line ≡ l.fn.line ++ flat_map (hexadecimal 2) (take l.byte-index l.bytes)
