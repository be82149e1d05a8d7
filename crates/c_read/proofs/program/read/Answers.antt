-- The symbols are a program's, or of none.
use Rattle.std.proofs.Common.{◌≡◌, ◌∙◌, ◌-◌, ap, sym, subst, length, map, drop}
use Rattle.std.proofs.lemmas.List.{length-map}
use Rattle.readings.specs.Seen.{seen, Fails}
use Rattle.readings.specs.Symbol.{first_place}
use Rattle.c_grammar.specs.Programs.{program_read}
use Rattle.c_read.proofs.ReadBytes.{is_tree, has_no_tree}
use Rattle.c_read.proofs.program.read.Goals as goal

pub returns-in-Ok : goal.returns-in-Ok
returns-in-Ok c =
    let a = c.in_ok-signs.ensures in
    is_tree c.args.bytes.now a.tokens (map seen c.deref.result.now) c.in-Ok.globals a.has (ap (map seen) c.deref.ensures.value ∙ a.are) c.in-Ok.ensures

pub returns-in-Err-Stuck : goal.returns-in-Err-Stuck
returns-in-Err-Stuck c =
    let a = c.in_ok-signs.ensures in
    let same : c.deref-in-Err-Stuck.result.now ≡ c.deref.result.now = c.deref-in-Err-Stuck.ensures.value ∙ sym c.deref.ensures.value in
    has_no_tree c.args.bytes.now a.tokens (map seen c.deref.result.now) c.in-Err-Stuck.left c.place_before-at.result a.has a.inside
    (ap (map seen) c.deref.ensures.value ∙ a.are)
    (subst (λ e. Fails e program_read (map seen c.deref.result.now)) c.in-Err-Stuck.field-0-is c.in-Err-Stuck.ensures)
    (c.place_before-at.ensures
    ∙ ap (λ xs. first_place (length c.args.bytes.now) (drop (length xs - c.in-Err-Stuck.left) (map seen xs))) same
    ∙ ap (λ n. first_place (length c.args.bytes.now) (drop (n - c.in-Err-Stuck.left) (map seen c.deref.result.now))) (sym (length-map c.deref.result.now seen)))
