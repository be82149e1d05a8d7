use Rattle.std.proofs.Common.{◌≡◌, ℕ, ◌+◌, ◌-◌, ◌<◌, List, ◌++◌, ◌∷◌, [], Some, None, sym, ap, subst, ◌∙◌, arith}
use Rattle.std.specs.Prelude.{map, slice_get}
use Rattle.std.proofs.lemmas.List.{map_push}
use Rattle.image_file.specs.File.{Init}
use Rattle.image_file.specs.Seen.{init_of, measures_of}
use Rattle.image_file.specs.Refused.{field_places, cell_places}
use Rattle.image_file.specs.Parts.{inits_from, option_init}
use Rattle.image_file.specs.declared.image.DataCell.{DataCell}
use Rattle.image_file.proofs.Steps.{field_wrong, fields_right, init_more}
use Rattle.image_file.proofs.reader.inits_of.Goals as goal

pub returns-in-Some : goal.returns-in-Some
returns-in-Some c =
    let m = measures_of c.args.layout.now in
    let w : Some c.in-Some.wrong ≡ slice_get (field_places m (option_init c.loop-turn.before) (init_of c.cell_at-cell.result) c.loop-turn.at) 0 = c.in-Some.ensures in
    subst (λ (t : List ℕ). slice_get t 0 ≡ Some c.in-Some.wrong) c.loop-turn.invariant.places
    (field_wrong m c.args.bytes.now (option_init c.loop-turn.before) (c.args.count - c.loop-turn.turn) c.loop-turn.at (init_of c.cell_at-cell.result) c.in-Some.wrong (omega arith) c.cell_at-cell.ensures w)

pub loop-turn-preserved : goal.loop-turn-preserved
loop-turn-preserved c =
    let m = measures_of c.args.layout.now in
    let bytes = c.args.bytes.now in
    let at = c.loop-turn.at in
    let left = c.args.count - c.loop-turn.turn in
    let i = init_of c.cell_at-cell.result in
    let before = option_init c.loop-turn.before in
    let some : 0 < left = omega arith in
    let one : left - 1 ≡ c.args.count - (c.loop-turn.turn + 1) = omega arith in
    let right : None ≡ slice_get (field_places m before i at) 0 = sym c.in_default.is ∙ c.wrong_field.ensures in
    let pushed : c.push.new.self.items ≡ c.loop-turn.inits.items ++ c.cell_at-cell.result ∷ [] = c.in_ok-push.ensures.items in
    record {
      at_is = omega (arith, c.loop-turn.invariant.at_is);
      places =
          ap (λ (n : ℕ). cell_places m bytes (Some i) n (at + 14)) (sym one) ∙ sym (fields_right m bytes before left at i some c.cell_at-cell.ensures right)
          ∙ c.loop-turn.invariant.places;
      inits =
          ap (λ (l : List DataCell). map init_of l ++ inits_from bytes (c.args.count - (c.loop-turn.turn + 1)) (at + 14)) pushed
          ∙ ap (λ (l : List Init). l ++ inits_from bytes (c.args.count - (c.loop-turn.turn + 1)) (at + 14)) (map_push init_of c.loop-turn.inits.items c.cell_at-cell.result)
          ∙ ap (λ (n : ℕ). (map init_of c.loop-turn.inits.items ++ i ∷ []) ++ inits_from bytes n (at + 14)) (sym one)
          ∙ init_more bytes (map init_of c.loop-turn.inits.items) left at i some c.cell_at-cell.ensures
          ∙ c.loop-turn.invariant.inits;
    }
