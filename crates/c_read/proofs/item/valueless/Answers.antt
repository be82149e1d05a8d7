-- The name, the parenthesis, and the function behind them.
use Rattle.std.proofs.Common.{codes}
use Rattle.readings.specs.Readings.{◌>>>◌, sign}
use Rattle.c_tree.specs.declared.program.ResultWord.TheVariants as result_word
use Rattle.c_grammar.specs.Words.{name}
use Rattle.c_grammar.specs.Programs.{block_room, defined, signed}
use Rattle.c_statement.proofs.Saying.{says_made_later}
use Rattle.c_read.proofs.item.valueless.Goals as goal

pub returns-clause-says : goal.returns-clause-says
returns-clause-says c =
    says_made_later _ _ (λ (x, (p, s)). defined (result_word.Void c.args.at) x p s) name (sign (codes "(") >>> signed block_room) _ _ _ c.in_ok-name.ensures.says
    (says_made_later _ _ (λ (p, s). defined (result_word.Void c.args.at) c.in_ok-name.name p s) (sign (codes "(")) (signed block_room) _ _ _ c.in_ok-opening.ensures.says
    c.function.ensures.says)
