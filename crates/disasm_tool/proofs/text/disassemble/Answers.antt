use Rattle.std.proofs.Common.{◌∙◌, map, subst, sym}
use Rattle.std.specs.List.{AllByRecursion}
use Rattle.image_file.specs.Seen.{init_of}
use Rattle.nml_tree.specs.Table.{table}
use Rattle.disasm_tool.specs.Lines.{HasStorage}
use Rattle.disasm_tool.proofs.Values.{have_cells}
use Rattle.disasm_tool.proofs.text.disassemble.Goals as goal

pub push_cells-requires : goal.push_cells-requires
push_cells-requires c =
    subst (λ cells. AllByRecursion (HasStorage (table c.in_ok-storages.storages)) (map init_of cells)) (sym c.as_slice-3.ensures.value)
    (subst (λ d. AllByRecursion (HasStorage (table d)) (map init_of c.args.i.now.inits.items)) (sym (c.in_ok-storages.ensures ∙ c.checked-3.ensures))
    (have_cells (table c.args.g.now.desc) c.args.g.now.word_bits (map init_of c.args.i.now.inits.items) c.requires.valid.cells))
