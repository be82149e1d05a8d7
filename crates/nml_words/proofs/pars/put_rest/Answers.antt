use Rattle.std.proofs.Common.{◌≡◌, ◌+◌, ◌-◌, ◌<◌, ◌∷◌, ℕ, List, length, sym, subst, arith}
use Rattle.nml_tree.specs.declared.tree.Par.{Par}
use Rattle.nml_words.specs.declared.span.Span.{Span}
use Rattle.nml_words.specs.Span.{AreGiven}
use Rattle.nml_words.specs.Words.{par_span}
use Rattle.nml_words.proofs.Maps.{next_given}
use Rattle.nml_words.proofs.pars.put_rest.Goals as goal

pub loop-i-preserved : goal.loop-i-preserved
loop-i-preserved c =
    let i = c.loop-i.i - 1 in
    let next : c.loop-i.i ≡ i + 1 = omega (arith, c.loop-i-test.true) in
    let within : i < length c.args.rest.now = omega (arith, c.loop-i-test.true, c.loop-i.auto.i) in
    next_given (par_span c.args.names.now c.args.spans.now) c.args.rest.now c.loop-i.i i c.index-rest-i.result c.loop-i.given.entries c.put.new.given.entries next within c.index-rest-i.is c.loop-i.invariant
    (subst (λ (z : ℕ × Par). (more : List (List ℕ × Span)) → AreGiven c.loop-i.given.entries more → AreGiven c.put.new.given.entries ((z.1.name.text, par_span c.args.names.now c.args.spans.now z.1) ∷ more)) (sym c.index-rest-i.is) c.in_ok-put.ensures)
