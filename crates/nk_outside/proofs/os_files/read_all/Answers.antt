use Rattle.std.proofs.Common.{◌++◌, take, arith}
use Rattle.std.proofs.KnownBytes.{Consumes-trans}
use Rattle.nk_outside.specs.Held.{file_limit}
use Rattle.nk_outside.proofs.Handing.{longer}
use Rattle.nk_outside.proofs.os_files.read_all.Goals as goal

pub returns-then-count-len-clause-too_long : goal.returns-then-count-len-clause-too_long
returns-then-count-len-clause-too_long g c =
    λ _. (c.loop.bytes.items ++ take c.in-Ok.count c.read.new.buf, Consumes-trans _ _ _ _ _ c.loop.invariant.1 c.in-Ok.ensures.bytes.0, longer c.loop.bytes.items c.read.new.buf c.in-Ok.count file_limit (omega (arith, c.in-Ok.ensures.bound)) (omega arith))
