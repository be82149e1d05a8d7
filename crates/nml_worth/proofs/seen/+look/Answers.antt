use Rattle.std.proofs.Common.{◌∙◌, ap, refl, sym, subst, option_map}
use Rattle.nml_known.specs.Known.{known}
use Rattle.nml_tree.specs.Formula.{formula}
use Rattle.nml_tree.specs.Table.{declared, table}
use Rattle.nml_worth.specs.Around.{around}
use Rattle.nml_worth.specs.Bound.{IsBound}
use Rattle.nml_worth.specs.Seen.{IsSeen}
use Rattle.nml_worth.proofs.seen.+look.Goals as goal

pub returns-in-Named : goal.returns-in-Named
returns-in-Named t c =
    subst (λ f. IsSeen (around c.args.s.now) f c.args.kinds c.args.widths c.named.result) (sym c.in-Named.ensures.is)
    (c.named.ensures (around c.args.s.now) c.in-Named.n.now refl (record { known_is = c.declared-known.ensures ∙ ap (λ d. option_map known (declared (table d) c.in-Named.n.now.text)) c.names.ensures; worth_is = c.name.ensures }))

pub returns-in-Indexed : goal.returns-in-Indexed
returns-in-Indexed t c =
    subst (λ f. IsSeen (around c.args.s.now) f c.args.kinds c.args.widths c.indexed.result) (sym c.in-Indexed.ensures.is)
    (c.indexed.ensures (around c.args.s.now) c.in-Indexed.n.now c.in-Indexed.field-1 c.in-Indexed.field-3 (formula c.in-Indexed.i.now) c.args.kinds c.args.widths refl
    (record { known_is = c.declared-known-in-Indexed.ensures ∙ ap (λ d. option_map known (declared (table d) c.in-Indexed.n.now.text)) c.names-in-Indexed.ensures; worth_is = c.name-in-Indexed.ensures }) c.look-i.ensures)

pub returns-in-Paren : goal.returns-in-Paren
returns-in-Paren t c =
    subst (λ f. IsSeen (around c.args.s.now) f c.args.kinds c.args.widths c.parenthesized.result) (sym c.in-Paren.ensures.is)
    (c.parenthesized.ensures (around c.args.s.now) c.in-Paren.field-2 (formula c.in-Paren.x.now) c.args.kinds c.args.widths c.look.ensures)

pub returns-in-Fitted : goal.returns-in-Fitted
returns-in-Fitted t c =
    subst (λ f. IsSeen (around c.args.s.now) f c.args.kinds c.args.widths c.fitting.result) (sym c.in-Fitted.ensures.is)
    (c.fitting.ensures (around c.args.s.now) c.in-Fitted.n.now c.in-Fitted.field-2 c.in-Fitted.field-4 c.in-Fitted.field-6 (formula c.in-Fitted.x.now) c.args.kinds c.args.widths
    (subst (λ d. IsBound (table d) c.in-Fitted.n.now c.bound_of.result) c.names-in-Fitted.ensures c.bound_of.ensures) c.look-x.ensures)

pub returns-in-Bits : goal.returns-in-Bits
returns-in-Bits t c =
    subst (λ f. IsSeen (around c.args.s.now) f c.args.kinds c.args.widths c.run.result) (sym c.in-Bits.ensures.is)
    (c.run.ensures (around c.args.s.now) c.in-Bits.high.now c.in-Bits.low.now c.in-Bits.field-1 c.in-Bits.field-3 c.in-Bits.field-5 c.in-Bits.field-7 (formula c.in-Bits.x.now) c.args.kinds c.args.widths
    (subst (λ d. IsBound (table d) c.in-Bits.high.now c.bound_of-in-Bits.result) c.names-in-Bits.ensures c.bound_of-in-Bits.ensures)
    (subst (λ d. IsBound (table d) c.in-Bits.low.now c.bound_of-in-Bits-2.result) c.names-in-Bits-2.ensures c.bound_of-in-Bits-2.ensures) c.look-x-in-Bits.ensures)

pub returns-in-Choose : goal.returns-in-Choose
returns-in-Choose t c =
    subst (λ f. IsSeen (around c.args.s.now) f c.args.kinds c.args.widths c.choice.result) (sym c.in-Choose.ensures.is)
    (c.choice.ensures (around c.args.s.now) (formula c.in-Choose.c.now) (formula c.in-Choose.x.now) (formula c.in-Choose.y.now) c.in-Choose.field-2 c.in-Choose.field-4 c.in-Choose.field-6 c.args.kinds c.args.widths
    c.look-c.ensures c.look-x-in-Choose.ensures c.look-y.ensures)

pub returns-in-Unary : goal.returns-in-Unary
returns-in-Unary t c =
    subst (λ f. IsSeen (around c.args.s.now) f c.args.kinds c.args.widths c.prefixed.result) (sym c.in-Unary.ensures.is)
    (c.prefixed.ensures (around c.args.s.now) (formula c.in-Unary.x.now) c.args.kinds c.args.widths c.look-in-Unary.ensures)

pub returns-in-Binary : goal.returns-in-Binary
returns-in-Binary t c =
    subst (λ f. IsSeen (around c.args.s.now) f c.args.kinds c.args.widths c.joined.result) (sym c.in-Binary.ensures.is)
    (c.joined.ensures (around c.args.s.now) (formula c.in-Binary.x.now) (formula c.in-Binary.y.now) c.in-Binary.field-2 c.args.kinds c.args.widths c.look-x-in-Binary.ensures c.look-y-in-Binary.ensures)
