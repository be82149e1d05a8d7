use Rattle.asm_text.proofs.ReadNames.{storage_names}
use Rattle.asm_text.proofs.laws.storage_names.Goals as goal

pub returns : goal.returns
returns c = storage_names
