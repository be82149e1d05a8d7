use Rattle.std.proofs.Common.{ap, ◌∷◌, map}
use Rattle.c_tree.specs.Faults.{declared_faults, length_faults, initials_faults}
use Rattle.c_names.specs.Shown.{names}
use Rattle.c_check.proofs.WalkLaws.{three_found}
use Rattle.c_walk.proofs.Loops.{ok_of}
use Rattle.c_check.proofs.declaration.global.Goals as goal

pub returns-in-Some-initials-clause-found : goal.returns-in-Some-initials-clause-found
returns-in-Some-initials-clause-found c = ok_of c.declare_global-in-Some-initials.result _ (rw (c.in-Array.is, c.in-Some-initials.is) (three_found c.args.notes.now.found c.declared-in-Some-initials.new.notes.found c.length-in-Some-initials.new.self.found c.initial_values.new.notes.found (declared_faults (names c.args.scopes.now) c.in-Array.name) (length_faults c.in-Array.length) (initials_faults c.args.width.bits c.in-Array.length.value (c.in-Some-initials.z ∷ map (λ (comma, v). v) c.in-Some-initials.rest)) (ap (λ n. n.found) c.declared-in-Some-initials.ensures) (ap (λ n. n.found) c.length-in-Some-initials.ensures) c.initial_values.ensures.found))
