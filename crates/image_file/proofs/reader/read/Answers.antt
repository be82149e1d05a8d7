use Rattle.std.proofs.Common.{◌≡◌, ℕ, ◌+◌, ◌∙◌, None, sym, ap, arith}
use Rattle.std.specs.Prelude.{map}
use Rattle.std.proofs.lemmas.Result.{err_from_is_err_and}
use Rattle.std.proofs.lemmas.Bool.{not-false}
use lib.Pointwise.{bytes_decides}
use Rattle.image_file.specs.Refused.{number_at, word_places, cell_places}
use Rattle.image_file.specs.Seen.{init_of, measures_of}
use Rattle.image_file.proofs.Refusing.{wrong_value, word_first, cell_first, read_is, limit_is}
use Rattle.image_file.proofs.reader.read.Goals as goal

pub returns-in_err-words : goal.returns-in_err-words
returns-in_err-words c =
    let p = err_from_is_err_and c.from_residual-in_err-words.result c.from_residual-in_err-words.ensures.1 in
    let m = measures_of c.args.layout.now in
    let same : c.digest_of-found.result ≡ c.args.digest.now = (bytes_decides c.digest_of-found.result c.args.digest.now).0 (not-false _ (sym c.if-ne.ensures)) in
    rw (p.1, p.2) (
    wrong_value m c.args.digest.now c.args.bytes.now (word_places c.args.bytes.now m.width c.number_at-count.result 42) c.in_err-words.field-0.0 c.in_ok-check_whole.ensures (sym c.digest_of-found.ensures ∙ same)
    (λ at e. word_first m c.args.bytes.now c.number_at-count.result at
    (record {
      width_is = sym c.number_at.ensures.exact ∙ c.if-number_at-from.false ∙ c.from.ensures;
      few = omega (arith, c.if-count-layout.false, limit_is c.args.layout.now.pc_bits c.requires.pc);
      count_is = c.number_at-count.ensures.exact;
    }) e)
    c.in_err-words.ensures)

pub returns-in_err-inits : goal.returns-in_err-inits
returns-in_err-inits c =
    let p = err_from_is_err_and c.from_residual-in_err-inits.result c.from_residual-in_err-inits.ensures.1 in
    let m = measures_of c.args.layout.now in
    let same : c.digest_of-found.result ≡ c.args.digest.now = (bytes_decides c.digest_of-found.result c.args.digest.now).0 (not-false _ (sym c.if-ne.ensures)) in
    rw (p.1, p.2) (
    wrong_value m c.args.digest.now c.args.bytes.now (cell_places m c.args.bytes.now None c.number_at-2.result (c.cell_count_at-at.result + 4)) c.in_err-inits.field-0.0 c.in_ok-check_whole.ensures (sym c.digest_of-found.ensures ∙ same)
    (λ at e. cell_first m c.args.bytes.now c.number_at-count.result c.number_at-2.result (c.cell_count_at-at.result + 4) at
    (record {
      counts = record {
        width_is = sym c.number_at.ensures.exact ∙ c.if-number_at-from.false ∙ c.from.ensures;
        few = omega (arith, c.if-count-layout.false, limit_is c.args.layout.now.pc_bits c.requires.pc);
        count_is = c.number_at-count.ensures.exact;
      };
      words = c.in_ok-words.ensures.0;
      cells_are = c.number_at-2.ensures.exact ∙ ap (λ (n : ℕ). number_at n 4 c.args.bytes.now) c.cell_count_at-at.ensures.exact;
      from_is = ap (λ (n : ℕ). n + 4) c.cell_count_at-at.ensures.exact;
    }) e)
    c.in_err-inits.ensures)

pub returns : goal.returns
returns c =
    let m = measures_of c.args.layout.now in
    let same : c.digest_of-found.result ≡ c.args.digest.now = (bytes_decides c.digest_of-found.result c.args.digest.now).0 (not-false _ (sym c.if-ne.ensures)) in
    read_is m c.args.digest.now c.args.bytes.now c.digest_of-found.result c.in_ok-words.words.items (map init_of c.in_ok-inits.inits.items) c.number_at-count.result c.number_at-2.result (c.cell_count_at-at.result + 4)
    (λ i. omega (arith, c.type_inv.bytes i)) c.in_ok-check_whole.ensures c.digest_of-found.ensures same
    (record {
      counts = record {
        width_is = sym c.number_at.ensures.exact ∙ c.if-number_at-from.false ∙ c.from.ensures;
        few = omega (arith, c.if-count-layout.false, limit_is c.args.layout.now.pc_bits c.requires.pc);
        count_is = c.number_at-count.ensures.exact;
      };
      words = c.in_ok-words.ensures.0;
      cells_are = c.number_at-2.ensures.exact ∙ ap (λ (n : ℕ). number_at n 4 c.args.bytes.now) c.cell_count_at-at.ensures.exact;
      from_is = ap (λ (n : ℕ). n + 4) c.cell_count_at-at.ensures.exact;
    })
    c.in_ok-words.ensures.1 c.in_ok-inits.ensures.0 c.in_ok-inits.ensures.1
