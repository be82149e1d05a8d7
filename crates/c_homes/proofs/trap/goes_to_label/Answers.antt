use Rattle.std.proofs.Common.{rules, tests, sym, ◌∙◌}
use Rattle.std.proofs.lemmas.Iterator.{YieldsList-from_slice}
use Rattle.std.proofs.lemmas.Iterator.Search.{any_from_yields_List}
use Rattle.ir_run.specs.Entry.{entry}
use Rattle.c_tree.specs.Lowered.{goes_to}
use Rattle.c_homes.proofs.Tests.{any_mapped}
use Rattle.c_homes.proofs.trap.goes_to_label.Goals as goal

pub returns : goal.returns
returns c =
    let found = any_from_yields_List (λ s. goes_to c.args.label (entry s)) _ _ c.any.result c.any.ensures.ran (YieldsList-from_slice c.args.statements.now cc) (λ x b q k. search (rules, tests)) in
    found ∙ sym (any_mapped (goes_to c.args.label) entry c.args.statements.now)
