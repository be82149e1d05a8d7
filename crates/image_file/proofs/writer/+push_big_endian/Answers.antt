use Rattle.std.proofs.Common.{◌≡◌, ◌++◌, ◌%◌, ◌∷◌, [], arith, rules}
use Rattle.image_file.proofs.Bytes.{pushed}
use Rattle.image_file.proofs.writer.+push_big_endian.Goals as goal

pub returns : goal.returns
returns t c =
    let h : c.push.new.self.items ≡ c.push_big_endian.new.bytes.items ++ c.args.n % 256 ∷ [] = search rules in
    pushed c.args.bytes.now.items _ c.push.new.self.items c.args.count c.args.n (omega arith) c.in_ok-push_big_endian.ensures h
