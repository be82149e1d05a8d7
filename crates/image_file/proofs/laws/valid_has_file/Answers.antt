use Rattle.image_file.proofs.Limits.{has_file}
use Rattle.image_file.proofs.laws.valid_has_file.Goals as goal

pub returns : goal.returns
returns c = has_file
