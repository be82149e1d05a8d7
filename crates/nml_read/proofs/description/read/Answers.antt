-- The bytes have tokens, and those a description or none.
use Rattle.std.proofs.Common.{◌≡◌, ◌∙◌, ◌-◌, ap, sym, subst, length, map, drop}
use Rattle.std.proofs.lemmas.List.{length-map}
use Rattle.nml_lex.specs.Lexed.{HasLexemes, lexeme_of}
use Rattle.nml_grammar.specs.ReadingItems.{item_list}
use Rattle.readings.specs.Seen.{seen, Fails}
use Rattle.readings.specs.Symbol.{first_place}
use Rattle.nml_read.proofs.ReadBytes.{sound_tokens, is_tree, without_float, has_no_tree}
use Rattle.nml_read.specs.Trees.{HasNoTree}
use Rattle.nml_read.proofs.description.read.Goals as goal

pub signs-requires : goal.signs-requires
signs-requires c = sound_tokens c.args.bytes.now c.deref.result.now (subst (λ ts. HasLexemes c.args.bytes.now (map lexeme_of ts)) (sym c.deref.ensures.value) c.in_ok-tokens.ensures)

pub returns-in-Ok : goal.returns-in-Ok
returns-in-Ok c =
    let has : HasLexemes c.args.bytes.now (map lexeme_of c.deref.result.now) = subst (λ ts. HasLexemes c.args.bytes.now (map lexeme_of ts)) (sym c.deref.ensures.value) c.in_ok-tokens.ensures in
    without_float c.args.bytes.now (record { items = c.in-Ok.items }) c.without_float.result
    (is_tree c.args.bytes.now (map lexeme_of c.deref.result.now) (map seen c.deref-2.result.now) c.in-Ok.items has (ap (map seen) c.deref-2.ensures.value ∙ c.in_ok-signs.ensures) c.in-Ok.ensures) c.without_float.ensures

pub returns-in-Err-Stuck : goal.returns-in-Err-Stuck
returns-in-Err-Stuck c =
    let has : HasLexemes c.args.bytes.now (map lexeme_of c.deref.result.now) = subst (λ ts. HasLexemes c.args.bytes.now (map lexeme_of ts)) (sym c.deref.ensures.value) c.in_ok-tokens.ensures in
    let same : c.deref-in-Err-Stuck.result.now ≡ c.deref-2.result.now = c.deref-in-Err-Stuck.ensures.value ∙ sym c.deref-2.ensures.value in
    subst (HasNoTree c.args.bytes.now) (sym c.from.ensures)
    (has_no_tree c.args.bytes.now (map lexeme_of c.deref.result.now) (map seen c.deref-2.result.now) c.in-Err-Stuck.left c.place_before-at.result has (ap (map seen) c.deref-2.ensures.value ∙ c.in_ok-signs.ensures)
    (subst (λ e. Fails e item_list (map seen c.deref-2.result.now)) c.in-Err-Stuck.field-0-is c.in-Err-Stuck.ensures)
    (c.place_before-at.ensures
    ∙ ap (λ xs. first_place (length c.args.bytes.now) (drop (length xs - c.in-Err-Stuck.left) (map seen xs))) same
    ∙ ap (λ n. first_place (length c.args.bytes.now) (drop (n - c.in-Err-Stuck.left) (map seen c.deref-2.result.now))) (sym (length-map c.deref-2.result.now seen))))
