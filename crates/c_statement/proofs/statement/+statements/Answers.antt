-- Each part of a statement stands behind the one before it, and each part of a block behind those so far.
use Rattle.std.proofs.Common.{codes, map, arith}
use Rattle.std.proofs.lemmas.Result.{err_from_is_err_and}
use Rattle.readings.specs.Readings.{◌>>>◌, optional, sign}
use Rattle.readings.specs.Seen.{seen}
use Rattle.readings.proofs.Saying.{both, fails, fails_behind, fails_made, makes}
use Rattle.c_tree.proofs.StatementLaws.{statement-While, statement-Do}
use Rattle.c_grammar.specs.ReadingStatements.{branch, condition, header, statement_read}
use Rattle.c_statement.proofs.Gathering.{gathers_step}
use Rattle.c_statement.proofs.SayingParts.{block_narrow, block_narrow_fails, block_wide, branch_made, braces_made, node_narrow, node_unknown, one_above, part_declares, part_declares_fails, parts_end, parts_fail, some_below, statement_name, statement_word, states, two_above}
use Rattle.c_statement.proofs.statement.+statements.Goals as goal

pub begun-returns-then-room-eq0-clause-says : goal.begun-returns-then-room-eq0-clause-says
begun-returns-then-room-eq0-clause-says t c =
    node_narrow c.args.room c.args.here.now c.args.at c.args.text.now (map seen c.args.signs.now) c.if-room-eq0.true c.in_default.ensures

pub begun-returns-in-None-clause-says : goal.begun-returns-in-None-clause-says
begun-returns-in-None-clause-says t c =
    node_unknown c.args.room c.args.here.now c.args.at c.args.text.now (map seen c.args.signs.now) c.if-room-eq0.false c.in_default.ensures c.in-None.ensures

pub block-returns-in_err-closing-clause-says : goal.block-returns-in_err-closing-clause-says
block-returns-in_err-closing-clause-says t c =
    let p = err_from_is_err_and c.from_residual.result c.from_residual.ensures.1 in
    rw (p.1, p.2) (block_narrow_fails _ _ _ c.if-room-eq1.true c.in_err-closing.ensures.says)

pub block-returns-then-room-eq1-clause-says : goal.block-returns-then-room-eq1-clause-says
block-returns-then-room-eq1-clause-says t c =
    block_narrow _ _ _ _ _ c.if-room-eq1.true c.new.ensures c.in_ok-closing.ensures.says

pub block-returns-clause-says : goal.block-returns-clause-says
block-returns-clause-says t c =
    block_wide _ _ _ _ _ (one_above c.args.room c.requires.some) (some_below c.args.room c.requires.some c.if-room-eq1.false) c.parts.ensures.says

pub bracing-returns-clause-says : goal.bracing-returns-clause-says
bracing-returns-clause-says t c =
    rw (braces_made c.args.at c.in_ok-parts.parts c.in_ok-parts.closing) (makes _ _ _ _ _ c.in_ok-parts.ensures.says)

pub branches-returns-in_err-other-clause-says : goal.branches-returns-in_err-other-clause-says
branches-returns-in_err-other-clause-says t c =
    let p = err_from_is_err_and c.from_residual-in_err-other.result c.from_residual-in_err-other.ensures.1 in
    rw (p.1, p.2) (fails_behind _ (statement_read c.args.room) (optional (codes "else") (statement_read c.args.room)) _ _ _ c.in_ok-then.ensures.says c.in_err-other.ensures.says)

pub branches-returns-clause-says : goal.branches-returns-clause-says
branches-returns-clause-says t c =
    both (statement_read c.args.room) (optional (codes "else") (statement_read c.args.room)) _ _ _ _ _ c.in_ok-then.ensures.says c.in_ok-other.ensures.says

pub branching-returns-in_err-opening-clause-says : goal.branching-returns-in_err-opening-clause-says
branching-returns-in_err-opening-clause-says t c =
    let p = err_from_is_err_and c.from_residual.result c.from_residual.ensures.1 in
    rw (p.1, p.2) (fails_made _ (branch c.args.at) _ _ (fails _ (condition c.args.room) (statement_read c.args.room >>> optional (codes "else") (statement_read c.args.room)) _ c.in_err-opening.ensures.says))

pub branching-returns-in_err-c-clause-says : goal.branching-returns-in_err-c-clause-says
branching-returns-in_err-c-clause-says t c =
    let p = err_from_is_err_and c.from_residual-in_err-c.result c.from_residual-in_err-c.ensures.1 in
    let stop = rw c.in_err-c.ensures at c.branches.ensures.says in
    rw (p.1, p.2) (fails_made _ (branch c.args.at) _ _ (fails_behind _ (condition c.args.room) (statement_read c.args.room >>> optional (codes "else") (statement_read c.args.room)) _ _ _ c.in_ok-opening.ensures.says stop))

pub branching-returns-clause-says : goal.branching-returns-clause-says
branching-returns-clause-says t c =
    let others = rw c.in_ok-c.ensures.1 at c.branches.ensures.says in
    rw (c.in_ok-c.ensures.0, branch_made c.args.at c.in_ok-opening.opening c.in_ok-opening.c c.in_ok-opening.closing c.in_ok-c.then c.in_ok-c.other)
    (makes (branch c.args.at) _ _ _ _ (both (condition c.args.room) (statement_read c.args.room >>> optional (codes "else") (statement_read c.args.room)) _ _ _ _ _ c.in_ok-opening.ensures.says others))

pub counting-returns-in_err-header-clause-says : goal.counting-returns-in_err-header-clause-says
counting-returns-in_err-header-clause-says t c =
    let p = err_from_is_err_and c.from_residual.result c.from_residual.ensures.1 in
    rw (p.1, p.2) (fails_made _ _ _ _ (fails _ (header c.args.room) (statement_read c.args.room) _ c.in_err-header.ensures.says))

pub counting-returns-in_err-header-2-clause-says : goal.counting-returns-in_err-header-2-clause-says
counting-returns-in_err-header-2-clause-says t c =
    let p = err_from_is_err_and c.from_residual-in_err-header-2.result c.from_residual-in_err-header-2.ensures.1 in
    let stop = rw c.in_err-header-2.ensures at c.inner.ensures.says in
    rw (p.1, p.2) (fails_made _ _ _ _ (fails_behind _ (header c.args.room) (statement_read c.args.room) _ _ _ c.in_ok-header.ensures.says stop))

pub counting-returns-clause-says : goal.counting-returns-clause-says
counting-returns-clause-says t c =
    let other = rw c.in_ok-header-2.ensures.1 at c.inner.ensures.says in
    rw (c.counted.ensures, c.in_ok-header-2.ensures.0)
    (makes _ _ _ _ _ (both (header c.args.room) (statement_read c.args.room) _ _ _ _ _ c.in_ok-header.ensures.says other))

pub looping-returns-in_err-opening-clause-says : goal.looping-returns-in_err-opening-clause-says
looping-returns-in_err-opening-clause-says t c =
    let p = err_from_is_err_and c.from_residual.result c.from_residual.ensures.1 in
    rw (p.1, p.2) (fails_made _ _ _ _ (fails _ (condition c.args.room) (statement_read c.args.room) _ c.in_err-opening.ensures.says))

pub looping-returns-in_err-c-clause-says : goal.looping-returns-in_err-c-clause-says
looping-returns-in_err-c-clause-says t c =
    let p = err_from_is_err_and c.from_residual-in_err-c.result c.from_residual-in_err-c.ensures.1 in
    let stop = rw c.in_err-c.ensures at c.inner.ensures.says in
    rw (p.1, p.2) (fails_made _ _ _ _ (fails_behind _ (condition c.args.room) (statement_read c.args.room) _ _ _ c.in_ok-opening.ensures.says stop))

pub looping-returns-clause-says : goal.looping-returns-clause-says
looping-returns-clause-says t c =
    let other = rw c.in_ok-c.ensures.1 at c.inner.ensures.says in
    rw (c.in_ok-c.ensures.0, statement-While c.args.at c.in_ok-opening.opening c.in_ok-opening.c c.in_ok-opening.closing c.in_ok-c.inner)
    (makes _ _ _ _ _ (both (condition c.args.room) (statement_read c.args.room) _ _ _ _ _ c.in_ok-opening.ensures.says other))

pub part-returns-in_err-decl-in-Some-clause-says : goal.part-returns-in_err-decl-in-Some-clause-says
part-returns-in_err-decl-in-Some-clause-says t c =
    let p = err_from_is_err_and c.from_residual.result c.from_residual.ensures.1 in
    rw (p.1, p.2) (part_declares_fails _ _ _ _ _ _ (two_above c.args.room c.requires.some c.if-room-eq1.false) c.in-Some.ensures.behind c.in_err-decl-in-Some.ensures.says)

pub part-returns-in_ok-decl-in-Some-clause-says : goal.part-returns-in_ok-decl-in-Some-clause-says
part-returns-in_ok-decl-in-Some-clause-says t c =
    part_declares _ _ _ _ _ _ _ (two_above c.args.room c.requires.some c.if-room-eq1.false) c.in-Some.ensures.behind c.in_ok-decl-in-Some.ensures.says

pub parts-returns-in-Some-clause-says : goal.parts-returns-in-Some-clause-says
parts-returns-in-Some-clause-says t c =
    parts_end _ _ _ _ _ _ c.loop-closing.invariant.0 c.in-Some.ensures.behind

pub parts-returns-in_err-part-clause-says : goal.parts-returns-in_err-part-clause-says
parts-returns-in_err-part-clause-says t c =
    let p = err_from_is_err_and c.from_residual.result c.from_residual.ensures.1 in
    rw (p.1, p.2) (parts_fail _ _ _ _ _ c.loop-closing.invariant.0 c.in_default.ensures.behind c.in_err-part.ensures.says)

pub parts-loop-closing-preserved : goal.parts-loop-closing-preserved
parts-loop-closing-preserved t c = (
  gathers_step _ _ _ _ _ _ _ _ _ c.in_ok-push.ensures.ok c.loop-closing.invariant.0 c.in_default.ensures.behind c.in_ok-part.ensures.says,
  omega (arith, c.loop-closing.invariant.1, c.in_ok-part.ensures.shorter),
)

pub repeating-returns-in_err-while_at-clause-says : goal.repeating-returns-in_err-while_at-clause-says
repeating-returns-in_err-while_at-clause-says t c =
    let p = err_from_is_err_and c.from_residual-in_err-while_at.result c.from_residual-in_err-while_at.ensures.1 in
    rw (p.1, p.2) (fails_made _ _ _ _ (fails_behind _ (statement_read c.args.room) (sign (codes "while") >>> (condition c.args.room >>> sign (codes ";"))) _ _ _ c.in_ok-inner.ensures.says c.in_err-while_at.ensures.says))

pub repeating-returns-clause-says : goal.repeating-returns-clause-says
repeating-returns-clause-says t c =
    rw (statement-Do c.args.at c.in_ok-inner.inner c.in_ok-while_at.while_at c.in_ok-while_at.opening c.in_ok-while_at.c c.in_ok-while_at.closing c.in_ok-while_at.semicolon)
    (makes _ _ _ _ _ (both (statement_read c.args.room) (sign (codes "while") >>> (condition c.args.room >>> sign (codes ";"))) _ _ _ _ _ c.in_ok-inner.ensures.says c.in_ok-while_at.ensures.says))

pub statement-returns-in-Some-clause-says : goal.statement-returns-in-Some-clause-says
statement-returns-in-Some-clause-says t c =
    statement_word _ _ _ _ _ _ _ _ (one_above c.args.room c.requires.some) c.in-Some.ensures.front c.begun.ensures.says

pub statement-returns-in-None-clause-says : goal.statement-returns-in-None-clause-says
statement-returns-in-None-clause-says t c =
    statement_name _ _ _ _ _ (one_above c.args.room c.requires.some) c.in-None.ensures.front c.named.ensures.says

pub stating-returns-clause-says : goal.stating-returns-clause-says
stating-returns-clause-says t c =
    states _ _ _ _ c.in_ok-stmt.ensures.says
