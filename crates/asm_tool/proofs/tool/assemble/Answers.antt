use Rattle.std.proofs.Common.{◌≤◌, ◌<◌, subst, refl, map, arith}
use Rattle.std.proofs.lemmas.Result.{err_from_is_err_and}
use Rattle.nml_tree.specs.Table.{table}
use Rattle.asm_lines.specs.Seen.{seen}
use Rattle.asm_text.specs.Refused.{word_limit}
use Rattle.asm_data.specs.Given.{GiveData, IsDataFault}
use Rattle.asm_tool.proofs.Assembling.{formed_free, form_refused, labels_free, label_refused, words_free, words_refused, count_free, count_refused, data_refused, assembled}
use Rattle.asm_tool.proofs.tool.assemble.Goals as goal

pub returns-in_err-lines : goal.returns-in_err-lines
returns-in_err-lines c =
    let p = err_from_is_err_and c.from_residual.result c.from_residual.ensures.1 in
    rw (p.1, p.2) (form_refused (table c.args.g.now.desc) c.args.g.now.word_bits c.args.text.now c.word_bits-width.result c.in_err-lines.field-0.0 c.word_bits-width.ensures c.in_err-lines.ensures)

pub returns-in_err-labels : goal.returns-in_err-labels
returns-in_err-labels c =
    let t = table c.args.g.now.desc in
    let width = c.args.g.now.word_bits in
    let text = c.args.text.now in
    let formed = formed_free t width text c.word_bits-width.result c.in_ok-lines.lines.items c.as_slice-lines.result.now c.word_bits-width.ensures c.as_slice-lines.ensures.value c.in_ok-lines.ensures in
    let p = err_from_is_err_and c.from_residual-in_err-labels.result c.from_residual-in_err-labels.ensures.1 in
    rw (p.1, p.2) (label_refused t width text formed c.in_err-labels.field-0.0 c.in_err-labels.ensures)

pub returns-in_err-words : goal.returns-in_err-words
returns-in_err-words c =
    let t = table c.args.g.now.desc in
    let width = c.args.g.now.word_bits in
    let text = c.args.text.now in
    let formed = formed_free t width text c.word_bits-width.result c.in_ok-lines.lines.items c.as_slice-lines.result.now c.word_bits-width.ensures c.as_slice-lines.ensures.value c.in_ok-lines.ensures in
    let labeled = labels_free t width text formed c.in_ok-labels.ensures.free in
    let p = err_from_is_err_and c.from_residual-in_err-words.result c.from_residual-in_err-words.ensures.1 in
    rw (p.1, p.2) (words_refused t width text labeled c.in_err-words.field-0.0 c.in_err-words.ensures)

pub returns-then-count-word_limit : goal.returns-then-count-word_limit
returns-then-count-word_limit c =
    let t = table c.args.g.now.desc in
    let width = c.args.g.now.word_bits in
    let text = c.args.text.now in
    let formed = formed_free t width text c.word_bits-width.result c.in_ok-lines.lines.items c.as_slice-lines.result.now c.word_bits-width.ensures c.as_slice-lines.ensures.value c.in_ok-lines.ensures in
    let labeled = labels_free t width text formed c.in_ok-labels.ensures.free in
    let worded = words_free t width text c.is_whole.ensures.checked.by_tokens labeled c.in_ok-words.words.items c.in_ok-words.ensures in
    count_refused t width text worded c.word_count-count.result c.word_count-count.ensures (subst (λ n. n < c.word_count-count.result) c.word_limit.ensures c.if-count-word_limit.true)

pub returns-in_err-inits : goal.returns-in_err-inits
returns-in_err-inits c =
    let t = table c.args.g.now.desc in
    let width = c.args.g.now.word_bits in
    let text = c.args.text.now in
    let formed = formed_free t width text c.word_bits-width.result c.in_ok-lines.lines.items c.as_slice-lines.result.now c.word_bits-width.ensures c.as_slice-lines.ensures.value c.in_ok-lines.ensures in
    let labeled = labels_free t width text formed c.in_ok-labels.ensures.free in
    let worded = words_free t width text c.is_whole.ensures.checked.by_tokens labeled c.in_ok-words.words.items c.in_ok-words.ensures in
    let few : c.word_count-count.result ≤ word_limit t = subst (λ n. c.word_count-count.result ≤ n) c.word_limit.ensures (let low = c.if-count-word_limit.false in omega (arith, low)) in
    let counted = count_free t width text worded c.word_count-count.result c.word_count-count.ensures few in
    let p = err_from_is_err_and c.from_residual-in_err-inits.result c.from_residual-in_err-inits.ensures.1 in
    let f = c.in_err-inits.field-0.0 in
    rw (p.1, p.2) (data_refused t width text counted f (subst (λ d. IsDataFault (table d) (map seen c.as_slice-lines.result.now) f) c.checked.ensures c.in_err-inits.ensures))

pub returns : goal.returns
returns c =
    let t = table c.args.g.now.desc in
    let width = c.args.g.now.word_bits in
    let text = c.args.text.now in
    let formed = formed_free t width text c.word_bits-width.result c.in_ok-lines.lines.items c.as_slice-lines.result.now c.word_bits-width.ensures c.as_slice-lines.ensures.value c.in_ok-lines.ensures in
    let labeled = labels_free t width text formed c.in_ok-labels.ensures.free in
    let worded = words_free t width text c.is_whole.ensures.checked.by_tokens labeled c.in_ok-words.words.items c.in_ok-words.ensures in
    let few : c.word_count-count.result ≤ word_limit t = subst (λ n. c.word_count-count.result ≤ n) c.word_limit.ensures (let low = c.if-count-word_limit.false in omega (arith, low)) in
    let counted = count_free t width text worded c.word_count-count.result c.word_count-count.ensures few in
    let cells = c.in_ok-inits.inits.items in
    record {
      digest_is = refl;
      width_is = c.word_bits-width.ensures;
      assembles =
          assembled t width text counted c.in_ok-words.words.items cells c.in_ok-words.ensures
          (subst (λ d. GiveData (table d) (map seen c.as_slice-lines.result.now) cells) c.checked.ensures c.in_ok-inits.ensures);
    }
