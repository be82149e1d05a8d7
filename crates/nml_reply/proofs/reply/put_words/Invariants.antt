use Rattle.std.proofs.Common.{◌≡◌, take}
use Rattle.nk_outside.specs.Taken.{Took}
use Rattle.nml_reply.specs.Reply.{word_lines}
use Rattle.nml_reply.proofs.reply.put_words.Given as goal

abbrev pub invariant-loop-word : goal.invariant-loop-word
invariant-loop-word g l = record {
  took : Took (g.S.Sink.taken l.fn.sink) (g.S.Sink.taken l.sink) (word_lines l.width (take l.word-index l.words));
  same : g.S.Sink.faults l.sink ≡ g.S.Sink.faults l.fn.sink;
}
