use Rattle.image_file.proofs.OneFile.{one}
use Rattle.image_file.proofs.writer.one_file.Goals as goal

pub returns : goal.returns
returns c = one
