-- What is counted of an expression and of two commands, by computation.
use Rattle.std.specs.Prelude.{◌≡◌, refl, true, false, None, Some}
use Rattle.ir_core.specs.declared.operator.Arith.TheVariants as arith
use Rattle.ir_core.specs.declared.relation.Rel.TheVariants as rel
use Rattle.c_tree.specs.declared.meaning.Place.TheVariants as places
use Rattle.c_tree.specs.Program.{Number, Scalar, Element, Call, Arithmetic, Compare, NoMore, More, Skip, Set, For}
use Rattle.c_count.specs.Sized.{term_size, command_size}

-- g + f(l): the global g is saved, and the argument and the result have a cell each
saved : term_size (Arithmetic arith.Add (Scalar (places.Global 0)) (Call 0 (More (Scalar (places.Local 0)) NoMore)))
    ≡ record { call = true; cells = 3; tested = 3; later_cells = 3; later_tested = 3; marks = 1; marks_when = 1; marks_unless = 1 }
saved = refl

-- l < 3: as a value it has a cell and a label
less : term_size (Compare rel.Lt (Scalar (places.Local 0)) (Number 3))
    ≡ record { call = false; cells = 1; tested = 0; later_cells = 1; later_tested = 0; marks = 1; marks_when = 0; marks_unless = 0 }
less = refl

-- for (; l < 3; l = a[l]) {}: the index has a cell; a turn begins, goes on and ends at a label
turns : command_size (For (Some (Compare rel.Lt (Scalar (places.Local 0)) (Number 3))) (Set (places.Local 0) (Element (places.Global 0) 4 (Scalar (places.Local 0)))) Skip)
    ≡ record { cells = 1; marks = 3 }
turns = refl

-- for (;;) {}
endless : command_size (For None Skip Skip) ≡ record { cells = 0; marks = 3 }
endless = refl
