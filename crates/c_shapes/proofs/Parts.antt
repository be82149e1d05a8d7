-- The variables of a block, one part after the other.
use Rattle.std.proofs.Common.{◌≡◌, ◌<◌, ◌+◌, ℕ, ap, sym, ◌∙◌, List, ◌++◌, append_assoc, drop, get_or, length, map}
use Rattle.c_tree.specs.declared.statement.Decl.{Decl}
use Rattle.c_tree.specs.declared.statement.Part.{Part}
use Rattle.c_tree.specs.declared.statement.Part.TheVariants as p
use Rattle.c_tree.specs.declared.statement.Stmt.{Stmt}
use Rattle.c_tree.specs.Names.{body_shapes, declared_variables, shape, statement_shapes}
use Rattle.c_tree.specs.Program.{Shape}
use Rattle.c_tree.specs.Statement.{Body, body, declaration, part, statement}
use Rattle.c_tree.proofs.StatementLaws.{part-Decl, part-Stmt}
use Rattle.c_walk.proofs.Loops.{loop_any}

-- the variables of one part more
pub part_more : (now new added whole : List Shape) (parts : List Part) (i : ℕ) (one : Part) → i < length parts → one ≡ get_or parts i one → ((rest : Body) → body_shapes (part one rest) ≡ added ++ body_shapes rest) → new ≡ now ++ added → now ++ body_shapes (body (drop i parts)) ≡ whole → new ++ body_shapes (body (drop (i + 1) parts)) ≡ whole
part_more now new added whole parts i one lt is told to before =
    loop_any (λ ys. now ++ body_shapes (body ys)) (λ ys. new ++ body_shapes (body ys)) parts i one whole (λ ys.
    ap (λ vs. now ++ vs) (told (body ys)) ∙ sym (append_assoc now added (body_shapes (body ys))) ∙ ap (λ vs. vs ++ body_shapes (body ys)) (sym to)) lt is before

-- what a declaration brings
pub decl_more : (d : Decl) (one : Part) → one ≡ p.Decl d → (rest : Body) → body_shapes (part one rest) ≡ map shape (declared_variables (declaration d)) ++ body_shapes rest
decl_more d one is rest = ap (λ o. body_shapes (part o rest)) is ∙ ap body_shapes (part-Decl d rest)

-- what a statement brings
pub stmt_more : (x : Stmt) (one : Part) → one ≡ p.Stmt x → (rest : Body) → body_shapes (part one rest) ≡ statement_shapes (statement x) ++ body_shapes rest
stmt_more x one is rest = ap (λ o. body_shapes (part o rest)) is ∙ ap body_shapes (part-Stmt x rest)
