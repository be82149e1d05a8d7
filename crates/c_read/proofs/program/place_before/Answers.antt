-- The symbol there is the first of those that are left.
use Rattle.std.proofs.Common.{◌∙◌, ap, sym, drop, length, map}
use Rattle.std.proofs.lemmas.Bool.{ltb-true}
use Rattle.readings.specs.Seen.{seen}
use Rattle.readings.specs.Symbol.{place, first_place}
use Rattle.readings.proofs.Fronts.{place_at}
use Rattle.c_read.proofs.program.place_before.Goals as goal

pub returns-in-Some : goal.returns-in-Some
returns-in-Some c =
    let at = c.in-Some.ensures.lookup in
    c.place_of.ensures ∙ ap (λ s. place (seen s)) at.1 ∙ place_at c.args.end c.args.signs.now c.saturating_sub.result c.in-Some.sign.now (ltb-true c.saturating_sub.result (length c.args.signs.now) (sym at.0))
    ∙ ap (λ n. first_place c.args.end (drop n (map seen c.args.signs.now))) c.saturating_sub.ensures
