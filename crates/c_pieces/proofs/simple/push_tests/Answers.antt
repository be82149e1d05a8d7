use Rattle.c_pieces.proofs.Parts.{three_ok}
use Rattle.c_pieces.proofs.simple.push_tests.Goals as goal

pub returns : goal.returns
returns c = three_ok c.args.out.now.items _ _ _ _ _ _ c.push_length_test.result c.in_ok-push_set.ensures c.in_ok-push_negative.ensures c.push_length_test.ensures
