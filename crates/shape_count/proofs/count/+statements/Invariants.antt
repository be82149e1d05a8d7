use Rattle.std.proofs.Common.{◌≡◌, drop}
use Rattle.nml_tree.specs.Block.{block}
use Rattle.shape_count.specs.Sizes.{finds, with_block, block_mentioned, acted}
use Rattle.shape_count.proofs.count.+statements.Given as goal

abbrev pub invariant-statements-loop-one : goal.invariant-statements-loop-one
invariant-statements-loop-one l = record {
  own : with_block (finds l.s.names.now l.s.places.now.entries) (block (drop l.one-index l.stmts)) l.total ≡ with_block (finds l.s.names.now l.s.places.now.entries) (block l.stmts) l.fn.total;
  counts : block_mentioned (finds l.s.names.now l.s.places.now.entries) (block (drop l.one-index l.stmts)) l.counts.items ≡ block_mentioned (finds l.s.names.now l.s.places.now.entries) (block l.stmts) l.fn.counts.items;
  actions : acted (finds l.s.names.now l.s.places.now.entries) (block (drop l.one-index l.stmts)) l.actions.items ≡ acted (finds l.s.names.now l.s.places.now.entries) (block l.stmts) l.fn.actions.items;
}
