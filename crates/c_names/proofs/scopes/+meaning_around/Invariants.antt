use Rattle.std.proofs.Common.{length}
use Rattle.c_names.proofs.scopes.+meaning_around.Given as goal

abbrev pub decreases-meaning_around : goal.decreases-meaning_around
decreases-meaning_around l = length l.blocks.now
