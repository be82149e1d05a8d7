use Rattle.std.proofs.Common.{◌∙◌, ap, sym, length}
use Rattle.shape_table.proofs.Places.{other_length}
use Rattle.shape_table.proofs.token.tokens_meet.Goals as goal

pub returns-then-ps-qs : goal.returns-then-ps-qs
returns-then-ps-qs c = other_length c.args.a.now.fields.items c.args.b.now.fields.items c.args.a.now.template.items c.args.b.now.template.items
    (λ same. c.if-ps-qs.true (ap length c.as_slice-ps.ensures.value ∙ same ∙ sym (ap length c.as_slice-qs.ensures.value)))
