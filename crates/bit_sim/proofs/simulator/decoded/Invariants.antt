use Rattle.std.proofs.Common.{take}
use Rattle.bit_sim.specs.Decoded.{AreDecoded}
use Rattle.bit_sim.proofs.simulator.decoded.Given as goal

abbrev pub invariant-loop-word : goal.invariant-loop-word
invariant-loop-word l = AreDecoded l.g (take l.word-index l.words) l.found.items
