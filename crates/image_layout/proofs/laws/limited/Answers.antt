use Rattle.image_layout.proofs.Limits as law
use Rattle.image_layout.proofs.laws.limited.Goals as goal

pub returns : goal.returns
returns c = law.limited
