use Rattle.std.proofs.Common.{◌≡◌, ◌+◌, ◌-◌, ◌<◌, ◌∷◌, ℕ, List, length, sym, subst, arith}
use Rattle.nml_tree.specs.declared.tree.Par.{Par}
use Rattle.shape_count.specs.Weights.{AreGiven}
use Rattle.shape_count.proofs.Places.{next_given}
use Rattle.shape_count.proofs.summary.put_rest.Goals as goal

pub loop-i-preserved : goal.loop-i-preserved
loop-i-preserved c =
    let i = c.loop-i.i - 1 in
    let next : c.loop-i.i ≡ i + 1 = omega (arith, c.loop-i-test.true) in
    let within : i < length c.args.rest.now = omega (arith, c.loop-i-test.true, c.loop-i.auto.i) in
    next_given c.args.rest.now c.loop-i.i i c.index-rest-i.result c.loop-i.places.entries c.put.new.places.entries next within c.index-rest-i.is c.loop-i.invariant
    (subst (λ (z : ℕ × Par). (more : List (List ℕ × ℕ)) → AreGiven c.loop-i.places.entries more → AreGiven c.put.new.places.entries ((z.1.name.text, i + 1) ∷ more)) (sym c.index-rest-i.is) c.in_ok-put.ensures)
