use Rattle.std.proofs.Common.{◌∙◌, ◌++◌, ap}
use Rattle.std.specs.Prelude.{codes}
use Rattle.nk_base.specs.Hexadecimal.{digits_of_word, hexadecimal}
use Rattle.nml_tree.specs.Table.{table}
use Rattle.disasm_tool.proofs.LineSteps.{inst_within, on_ok, read_line, unread_line}
use Rattle.disasm_tool.proofs.words.push_word.Goals as goal
use Rattle.disasm_tool.proofs.words.push_word.Goals.{in-None+in_ok-push_bits-in-None, in-Some+in_ok-push_instruction-in-Some}

pub push_instruction-requires-clause-exists : goal.push_instruction-requires-clause-exists
push_instruction-requires-clause-exists c = let d = c.in-Some.ensures.1 in inst_within c.args.g.now c.in-Some.i d.0 d.1

pub returns : goal.returns
returns c =
    let t = table c.args.g.now.desc in
    let width = c.args.g.now.word_bits in
    let old = c.args.out.now in
    elim c.match-decode.branch [
      | in-None+in_ok-push_bits-in-None w ↦
          let is = w.out-is ∙ (w.in_ok-push_bits-in-None.ensures ∙ ap (λ n. old ++ (codes ".bits " ++ hexadecimal (digits_of_word n) c.args.word)) w.word_bits.ensures) in
          on_ok _ _ (λ end. unread_line t width c.args.word old c.match-decode.out c.push.new.self w.in-None.ensures is end) c.push.result c.push.ensures.ok
      | in-Some+in_ok-push_instruction-in-Some w ↦
          let d = w.in-Some.ensures.1 in
          let is = w.out-is ∙ w.in_ok-push_instruction-in-Some.ensures d.0 d.1 in
          on_ok _ _ (λ end. read_line t width c.args.word d.0 old c.match-decode.out c.push.new.self d.2 is end) c.push.result c.push.ensures.ok
    ]
