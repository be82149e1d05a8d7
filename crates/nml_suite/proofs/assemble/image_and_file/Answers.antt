use Rattle.std.proofs.lemmas.Result.{err_from_is_err_and}
use Rattle.nml_suite.proofs.Describing.{with_its_file}
use Rattle.nml_suite.proofs.Images.{text_file}
use Rattle.nml_suite.proofs.assemble.image_and_file.Goals as goal

pub returns-in_err-image : goal.returns-in_err-image
returns-in_err-image c =
    let p = err_from_is_err_and c.from_residual.result c.from_residual.ensures.1 in
    rw (p.1, p.2) c.in_err-image.ensures

pub with_file-requires : goal.with_file-requires
with_file-requires c = text_file c.args.graph.now c.args.bytes.now c.args.text.now _ c.is_whole.ensures c.in_ok-image.ensures

pub returns : goal.returns
returns c = with_its_file c.args.bytes.now c.args.graph.now c.args.name.now c.args.text.now c.in_ok-image.image c.with_file.result c.in_ok-image.ensures c.with_file.ensures
