use Rattle.std.proofs.Common.{◌∙◌, ap, unwrap_or}
use Rattle.nml_tree.specs.Table.{pars_of}
use Rattle.nml_edges.specs.Summary.{still}
use Rattle.nml_edges.specs.Passed.{listed, par_sums, slots}
use Rattle.nml_edges.proofs.Slots.{along_same}
use Rattle.nml_edges.proofs.rule.of_rule.Goals as goal

pub returns : goal.returns
returns c =
    c.of_text.ensures
    ∙ along_same (listed c.in_ok-sums.sums.entries) (listed (par_sums c.args.names.now c.args.facts.now (pars_of c.args.pars.now))) (λ n. ap (λ o. unwrap_or o still) (c.in_ok-sums.ensures n)) still (slots c.args.attrs.now.syntax_text)
