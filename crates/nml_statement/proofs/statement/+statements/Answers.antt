-- Each part of a branch stands behind the one before it, and each statement behind those so far.
use Rattle.std.proofs.Common.{◌-◌, codes, map, sym, ◌∷◌, [], arith}
use Rattle.std.proofs.lemmas.List.{length-map, map-append}
use Rattle.std.proofs.lemmas.Result.{err_from_is_err_and}
use Rattle.nml_tree.specs.Block.{stmt}
use Rattle.nml_tree.specs.Formula.{formula}
use Rattle.readings.specs.Readings.{◌>>>◌, optional, sign}
use Rattle.nml_statement.specs.Seen.{block_of, expression_of}
use Rattle.readings.specs.Seen.{seen}
use Rattle.nml_statement.specs.SeenStatements.{branches, ending, start_seen}
use Rattle.readings.proofs.Saying.{alike, both, fails, fails_behind, fails_made, makes, comes_both, fails_alike, fails_behind_both}
use Rattle.nml_statement.proofs.SayingStatements.{branched, branches_are, comes_narrow, goes_end, goes_fails, goes_further, put-If}
use Rattle.nml_statement.proofs.statement.+statements.Goals as goal

pub branches-returns-in_err-other-clause-says : goal.branches-returns-in_err-other-clause-says
branches-returns-in_err-other-clause-says t c =
    let p = err_from_is_err_and c.from_residual-in_err-other.result c.from_residual-in_err-other.ensures.1 in
    let other = optional (codes "else") (block_of c.args.room) in
    rw (p.1, p.2) (fails_behind _ (block_of c.args.room) (other >>> ending) _ _ _ c.in_ok-stmts.ensures.says
    (fails _ other ending _ c.in_err-other.ensures.says))

pub branches-returns-in_err-end-clause-says : goal.branches-returns-in_err-end-clause-says
branches-returns-in_err-end-clause-says t c =
    let p = err_from_is_err_and c.from_residual-in_err-end.result c.from_residual-in_err-end.ensures.1 in
    let other = optional (codes "else") (block_of c.args.room) in
    rw (p.1, p.2)
    (fails_behind _ (block_of c.args.room) (other >>> ending) _ _ _ c.in_ok-stmts.ensures.says
    (fails_behind _ other ending _ _ _ c.in_ok-other.ensures.says c.in_err-end.ensures.says))

pub branches-returns-clause-says : goal.branches-returns-clause-says
branches-returns-clause-says t c =
    let other = optional (codes "else") (block_of c.args.room) in
    both (block_of c.args.room) (other >>> ending) _ _ _ _ _ c.in_ok-stmts.ensures.says
    (both other ending _ _ _ _ _ c.in_ok-other.ensures.says c.in_ok-end.ensures.says)

pub branching-returns-in_err-c-2-clause-says : goal.branching-returns-in_err-c-2-clause-says
branching-returns-in_err-c-2-clause-says t c =
    let p = err_from_is_err_and c.from_residual-in_err-c-2.result c.from_residual-in_err-c-2.ensures.1 in
    let parts = rw c.in_err-c-2.ensures at c.branches.ensures.says in
    let rest = map seen c.in_ok-c.rest.now in
    let x = formula c.in_ok-c.c in
    rw (p.1, p.2)
    (fails_behind_both _ (expression_of (c.args.room - 1)) (sign (codes "then")) _ _ _ _ _ c.in_ok-c.ensures.says
    (fails_alike _ _ _ _ rest (λ n. branches_are c.args.room c.args.at x c.in_ok-c.then_at n rest)
    (fails_made _ (branched c.args.at x c.in_ok-c.then_at) (branches (c.args.room - 1)) _ parts)))

pub branching-returns-clause-says : goal.branching-returns-clause-says
branching-returns-clause-says t c =
    let parts = rw c.in_ok-c-2.ensures.1 at c.branches.ensures.says in
    let rest = map seen c.in_ok-c.rest.now in
    let x = formula c.in_ok-c.c in
    rw (
      c.in_ok-c-2.ensures.0,
      put-If c.args.at c.in_ok-c.c c.in_ok-c.then_at c.in_ok-c-2.stmts c.in_ok-c-2.other c.in_ok-c-2.end
          c.in_ok-c-2.semicolon,
    )
    (comes_both (expression_of (c.args.room - 1)) (sign (codes "then")) _ _ _ _ _ _ c.in_ok-c.ensures.says
    (alike _ _ rest _ _ (λ n. branches_are c.args.room c.args.at x c.in_ok-c.then_at n rest)
    (makes (branched c.args.at x c.in_ok-c.then_at) (branches (c.args.room - 1)) _ _ _ parts)))

pub statement-returns-then-room-le1-clause-says : goal.statement-returns-then-room-le1-clause-says
statement-returns-then-room-le1-clause-says t c = (
  map seen c.args.here.now,
  length-map c.args.here.now seen,
  rw c.in-Halting.is
      (comes_narrow _ (λ ss. map seen c.args.here.now) _ _ c.if-room-le1.true),
)

pub statement-returns-then-room-le1-2-clause-says : goal.statement-returns-then-room-le1-2-clause-says
statement-returns-then-room-le1-2-clause-says t c = (
  map seen c.args.here.now,
  length-map c.args.here.now seen,
  rw c.in-Branching.is
      (comes_narrow _ (λ ss. map seen c.args.here.now) _ _ c.if-room-le1-2.true),
)

pub statements-returns-in_err-one-clause-says : goal.statements-returns-in_err-one-clause-says
statements-returns-in_err-one-clause-says t c =
    let p = err_from_is_err_and c.from_residual.result c.from_residual.ensures.1 in
    rw (p.1, p.2)
    (goes_fails _ c.args.room (map seen c.args.signs.now) (map stmt c.loop-start.found) (map seen c.loop-start.rest.now)
    (start_seen c.in-Some.start) (map seen c.in-Some.behind.now)
    c.loop-start.invariant.0 (sym c.in-Some.ensures.starts) c.in_err-one.ensures.says)

pub statements-loop-start-preserved : goal.statements-loop-start-preserved
statements-loop-start-preserved t c = (
  rw (c.in_ok-push.ensures.ok, map-append stmt c.loop-start.found (c.in_ok-one.one ∷ []))
      (goes_further c.args.room (map seen c.args.signs.now) (map stmt c.loop-start.found) (map seen c.loop-start.rest.now)
      (start_seen c.in-Some.start) (map seen c.in-Some.behind.now) (stmt c.in_ok-one.one)
      (map seen c.in_ok-one.after.now) c.loop-start.invariant.0 (sym c.in-Some.ensures.starts) c.in_ok-one.ensures.says),
  omega (arith, c.loop-start.invariant.1, c.in-Some.ensures.shorter, c.in_ok-one.ensures.shorter),
)

pub statements-returns-clause-says : goal.statements-returns-clause-says
statements-returns-clause-says t c =
    goes_end c.args.room (map seen c.args.signs.now) c.loop-start.found (map seen c.loop-start.rest.now) c.loop-start.invariant.0
    (sym c.in_default.ensures.starts)
