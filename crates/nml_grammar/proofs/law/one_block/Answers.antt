-- Statements are read from their spelling, so no others have it.
use Rattle.nml_grammar.proofs.CompleteStatements.{unique_block}
use Rattle.nml_grammar.proofs.law.one_block.Goals as goal

pub returns : goal.returns
returns c = unique_block
