use Rattle.std.proofs.Common.{refl, ap, sym, ◌∙◌, pos, nat_lt, ◌-◌, ◌^◌}
use Rattle.ir_core.specs.declared.relation.Rel.TheVariants as rel
use Rattle.ir_run.specs.Node.{Cell, Const}
use Rattle.ir_run.specs.Entry.{Branch}
use Rattle.c_pieces.proofs.Parts.{test_one, test_other, is_below}
use Rattle.c_pieces.proofs.simple.push_length_test.Goals as goal

pub short_length-requires : goal.short_length-requires
short_length-requires c = is_below c.args.length c.args.t.now.bits c.requires.1 (sym c.is_short.ensures ∙ c.if-is_short.true)

pub returns-then-is_short : goal.returns-then-is_short
returns-then-is_short c =
    test_one c.args.out.now.items _ (nat_lt c.args.length (2 ^ (c.args.t.now.bits - 1))) (Branch rel.Ge (Cell c.args.cell) (Const (pos c.args.length)) c.args.t.now.trap) (Branch rel.Lt (Cell c.args.cell) (Const (pos 0)) c.args.t.now.trap) _ c.push_past.result (sym c.is_short.ensures ∙ c.if-is_short.true) (ap (λ n. Branch rel.Ge (Cell c.args.cell) (Const (pos n)) c.args.t.now.trap) c.short_length.ensures) c.push_past.ensures

pub returns : goal.returns
returns c =
    test_other c.args.out.now.items _ (nat_lt c.args.length (2 ^ (c.args.t.now.bits - 1))) (Branch rel.Ge (Cell c.args.cell) (Const (pos c.args.length)) c.args.t.now.trap) (Branch rel.Lt (Cell c.args.cell) (Const (pos 0)) c.args.t.now.trap) _ c.push_negative.result (sym c.is_short.ensures ∙ c.if-is_short.false) refl c.push_negative.ensures
