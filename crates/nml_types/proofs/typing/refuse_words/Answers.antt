use Rattle.nml_types.proofs.Free.{words_free}
use Rattle.nml_types.proofs.typing.refuse_words.Goals as goal

pub returns-in-None : goal.returns-in-None
returns-in-None c = let none = rw c.in-None.is at c.in_ok-first_word_fault.ensures in words_free c.args.names.now c.requires.free none
