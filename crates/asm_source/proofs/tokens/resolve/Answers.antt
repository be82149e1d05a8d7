use Rattle.std.proofs.Common.{◌≤◌, length, rules}
use Rattle.asm_source.proofs.Resolving.{tokens_are}
use Rattle.asm_source.proofs.tokens.resolve.Goals as goal

pub returns : goal.returns
returns c =
    let end : length c.args.tokens.now.references.items ≤ c.loop-reference.reference-index = search rules in
    tokens_are c.args.labels.now c.args.tokens.now _ _ end c.loop-reference.invariant
