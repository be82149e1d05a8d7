use Rattle.std.proofs.Common.{◌∙◌, ap, refl}
use Rattle.nml_tree.specs.Formula.{formula}
use Rattle.nml_tree.proofs.FormulaLaws.{formula-Number, formula-Bits}
use Rattle.attr_eval.proofs.shape.top.Goals as goal

pub returns-in-Number-clause-is : goal.returns-in-Number-clause-is
returns-in-Number-clause-is c = (c.in-Number.n.at, ap formula c.in-Number.is ∙ formula-Number c.in-Number.n)

pub returns-in-Bits-clause-is : goal.returns-in-Bits-clause-is
returns-in-Bits-clause-is c = (c.in-Bits.field-0, c.in-Bits.field-1, c.in-Bits.field-3, c.in-Bits.field-5, c.in-Bits.field-7, ap formula c.in-Bits.is ∙ formula-Bits _ _ _ _ _ _ _ _ ∙ (rw c.get-in-Bits.ensures refl))
