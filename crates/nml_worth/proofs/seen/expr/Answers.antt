use Rattle.nml_worth.proofs.seen.expr.Goals as goal

pub returns-clause-worth : goal.returns-clause-worth
returns-clause-worth c = c.look.ensures.worth

pub returns-clause-start : goal.returns-clause-start
returns-clause-start c = c.look.ensures.start

pub returns-clause-kinds : goal.returns-clause-kinds
returns-clause-kinds c = c.look.ensures.kinds

pub returns-clause-widths : goal.returns-clause-widths
returns-clause-widths c = c.look.ensures.widths
