use Rattle.std.proofs.Common.{sym, subst}
use Rattle.asm_data.specs.Values.{IsAdded, initials}
use Rattle.asm_lines.specs.Seen.{seen_content}
use Rattle.asm_data.proofs.Adding.{added}
use Rattle.asm_data.proofs.values.add.Goals as goal

pub returns-in_ok-insert-in-Some : goal.returns-in_ok-insert-in-Some
returns-in_ok-insert-in-Some c = λ t h.
    let g = c.in-Some.ensures t h in
    subst (λ x. IsAdded t (seen_content x) (initials c.args.values.now.entries) (initials c.insert.new.self.entries) c.is_none.result) (sym c.in-Data.is)
    (added t _ c.args.values.now.entries c.insert.new.self.entries c.in-Some.cell c.in-Some.value c.in_ok-insert-in-Some.field-0 c.is_none.result g.0 g.1 c.in_ok-insert-in-Some.ensures.old
    c.in_ok-insert-in-Some.ensures.entries c.is_none.ensures)
