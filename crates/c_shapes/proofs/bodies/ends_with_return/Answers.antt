use Rattle.std.proofs.Common.{◌-◌, ◌∙◌, length, sym, take}
use Rattle.c_shapes.proofs.Returns.{last_apart, ends_declaring, ends_stating}
use Rattle.c_shapes.proofs.bodies.ends_with_return.Goals as goal

pub returns-in-Decl : goal.returns-in-Decl
returns-in-Decl c =
    let told = c.in-Some.ensures.item in
    let parts = c.args.parts.now in
    sym (ends_declaring parts (take (length parts - 1) parts) c.in-Some.last.now c.in-Decl.field-0 (last_apart parts c.in-Some.last.now told.3.0 told.1) c.in-Decl.is)

pub returns-in-Stmt : goal.returns-in-Stmt
returns-in-Stmt c =
    let told = c.in-Some.ensures.item in
    let parts = c.args.parts.now in
    c.is_return.ensures ∙ sym (ends_stating parts (take (length parts - 1) parts) c.in-Some.last.now c.in-Stmt.stmt (last_apart parts c.in-Some.last.now told.3.0 told.1) c.in-Stmt.is)
