use Rattle.nml_names.proofs.Cycles.{no_cycle_found, first_found, item_below}
use Rattle.nml_names.proofs.cycle.first_cycle.Goals as goal

pub name_of-requires : goal.name_of-requires
name_of-requires c = let least = rw c.in-Some.is at c.in_ok-cycle_number.ensures in item_below c.args.d.now c.in-Some.number least.0

pub returns-in-None : goal.returns-in-None
returns-in-None c = let none = rw c.in-None.is at c.in_ok-cycle_number.ensures in no_cycle_found c.args.d.now none

pub returns-in_ok-name_of-in-Some : goal.returns-in_ok-name_of-in-Some
returns-in_ok-name_of-in-Some c =
    let least = rw c.in-Some.is at c.in_ok-cycle_number.ensures in
    let name = c.in_ok-name_of-in-Some.ensures in
    first_found c.args.d.now c.in-Some.number name.0 _ least.0 least.1 name.1 name.2
