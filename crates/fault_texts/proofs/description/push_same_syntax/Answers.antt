use Rattle.std.proofs.Common.{◌++◌, codes}
use Rattle.fault_texts.specs.FaultText.{quoted, word_text}
use Rattle.fault_texts.proofs.Behind.{on_ok, behind}
use Rattle.fault_texts.proofs.description.push_same_syntax.Goals as goal

pub returns : goal.returns
returns c =
    let first = codes "N14 SameSyntax " ++ word_text c.args.a.now in
    let second = (first ++ codes " ") ++ word_text c.args.b.now in
    on_ok _ _ c.push_quoted.result
    (λ e. behind c.args.line.now second (codes " ") (quoted c.args.text.now) _ _
    (behind c.args.line.now first (codes " ") (word_text c.args.b.now) _ _ c.in_ok-push_word.ensures c.in_ok-push_word-2.ensures) e)
    c.push_quoted.ensures
