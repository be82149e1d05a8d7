use Rattle.std.proofs.Common.{◌≡◌, ℕ, ◌+◌, ◌-◌, ◌*◌, ◌^◌, ◌<◌, ◌≤◌, List, length, ◌++◌, ◌∷◌, [], Some, sym, ap, subst, ◌∙◌, arith}
use Rattle.std.specs.Prelude.{slice_get}
use Rattle.image_file.specs.File.{word_bytes}
use Rattle.image_file.specs.Refused.{number_at, word_places}
use Rattle.image_file.specs.Parts.{words_from}
use Rattle.image_file.proofs.Steps.{part_within, next_part, word_wide, word_fits, word_more, limit_is}
use Rattle.image_file.proofs.reader.words_of.Goals as goal

pub number_at-requires-clause-within : goal.number_at-requires-clause-within
number_at-requires-clause-within c =
    part_within c.loop-turn.at (c.args.count - c.loop-turn.turn) (word_bytes c.args.width) _ (length c.args.bytes.now) (omega arith) c.loop-turn.invariant.at_is c.requires.within

pub returns-then-word-width : goal.returns-then-word-width
returns-then-word-width c =
    let word : c.from-word.result ≡ number_at c.loop-turn.at (word_bytes c.args.width) c.args.bytes.now = c.from-word.ensures ∙ c.number_at.ensures.exact in
    let wide : 2 ^ c.args.width ≤ number_at c.loop-turn.at (word_bytes c.args.width) c.args.bytes.now =
    omega (arith, c.if-word-width.true, limit_is c.args.width c.requires.narrow, word) in
    subst (λ (t : List ℕ). slice_get t 0 ≡ Some c.loop-turn.at) c.loop-turn.invariant.places (word_wide c.args.bytes.now c.args.width (c.args.count - c.loop-turn.turn) c.loop-turn.at (omega arith) wide)

pub loop-turn-preserved : goal.loop-turn-preserved
loop-turn-preserved c =
    let bytes = c.args.bytes.now in
    let size = word_bytes c.args.width in
    let at = c.loop-turn.at in
    let left = c.args.count - c.loop-turn.turn in
    let some : 0 < left = omega arith in
    let one : left - 1 ≡ c.args.count - (c.loop-turn.turn + 1) = omega arith in
    let word : c.from-word.result ≡ number_at at size bytes = c.from-word.ensures ∙ c.number_at.ensures.exact in
    let fits : number_at at size bytes < 2 ^ c.args.width = omega (arith, c.if-word-width.false, limit_is c.args.width c.requires.narrow, word) in
    let pushed : c.push.new.self.items ≡ c.loop-turn.words.items ++ c.from-word.result ∷ [] = c.in_ok-push.ensures.items in
    record {
      at_is = subst (λ (n : ℕ). at + size + n * size ≡ 42 + c.args.count * size) one (next_part at left size (42 + c.args.count * size) some c.loop-turn.invariant.at_is);
      places =
          ap (λ (n : ℕ). word_places bytes c.args.width n (at + size)) (sym one) ∙ sym (word_fits bytes c.args.width left at some fits)
          ∙ c.loop-turn.invariant.places;
      words =
          ap (λ (l : List ℕ). l ++ words_from bytes size (c.args.count - (c.loop-turn.turn + 1)) (at + size)) pushed
          ∙ ap (λ (n : ℕ). (c.loop-turn.words.items ++ c.from-word.result ∷ []) ++ words_from bytes size n (at + size)) (sym one)
          ∙ word_more bytes c.loop-turn.words.items size left at c.from-word.result some word
          ∙ c.loop-turn.invariant.words;
    }
