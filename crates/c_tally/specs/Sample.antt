-- What is counted of expressions and of commands, and their numbers, by computation.
use Rattle.std.specs.Prelude.{◌≡◌, refl, true, false, Some, [], ◌∷◌}
use Rattle.ir_core.specs.declared.operator.Arith.TheVariants as arith
use Rattle.ir_core.specs.declared.operator.Shift.TheVariants as shift
use Rattle.ir_core.specs.declared.relation.Rel.TheVariants as rel
use Rattle.c_tree.specs.declared.meaning.Place.TheVariants as places
use Rattle.c_tree.specs.Program.{Number, Scalar, Call, Shifted, Arithmetic, Compare, NoMore, More, Skip, Seq, Set, Store, For, Return}
use Rattle.c_counted.specs.Counted.{command_numbers}
use Rattle.c_tally.specs.Tallied.{term_tally, command_tally}

-- g + f(l): the global g is saved, and a sum of two cells is left
saved : term_tally (Arithmetic arith.Add (Scalar (places.Global 0)) (Call 0 (More (Scalar (places.Local 0)) NoMore)))
    ≡ record { call = true; left = 3; largest = 1; tested = 4; later_largest = 1; later_tested = 4; calls = 1 }
saved = refl

-- (l + 1) << 2 < 3: a cell is left
less : term_tally (Compare rel.Lt (Shifted shift.Shl (Arithmetic arith.Add (Scalar (places.Local 0)) (Number 1)) 2) (Number 3))
    ≡ record { call = false; left = 1; largest = 5; tested = 5; later_largest = 5; later_tested = 5; calls = 0 }
less = refl

-- a shift by 0 has no node
not_shifted : term_tally (Shifted shift.Shl (Scalar (places.Local 0)) 0)
    ≡ record { call = false; left = 1; largest = 0; tested = 2; later_largest = 0; later_tested = 2; calls = 0 }
not_shifted = refl

-- a[l] = f(): the address, whose nodes are three, and the cell of the result
stored : command_tally (Store (places.Global 0) 4 (Scalar (places.Local 0)) (Call 0 NoMore)) ≡ record { in_main = 4; elsewhere = 4; calls = 1 }
stored = refl

-- return l + 7: in `main` the sum is dropped
returned : command_tally (Return (Some (Arithmetic arith.Add (Scalar (places.Local 0)) (Number 7)))) ≡ record { in_main = 0; elsewhere = 3; calls = 0 }
returned = refl

-- for (; l < 3; l = 4) l = 5; return 6: the step stands behind the body
in_order : command_numbers false (Seq (For (Some (Compare rel.Lt (Scalar (places.Local 0)) (Number 3))) (Set (places.Local 0) (Number 4)) (Set (places.Local 0) (Number 5))) (Return (Some (Number 6))))
    ≡ 3 ∷ 5 ∷ 4 ∷ 6 ∷ []
in_order = refl

-- the same in `main`
dropped : command_numbers true (Seq Skip (Return (Some (Number 6)))) ≡ []
dropped = refl
