-- Nodes that write out a command, by computation.
use Rattle.std.specs.Prelude.{◌≡◌, refl, [], ◌∷◌, Some, None, length}
use Rattle.ir_core.specs.declared.operator.Arith.TheVariants as arith
use Rattle.ir_core.specs.declared.operator.Shift.TheVariants as shift
use Rattle.c_tree.specs.declared.operator.Bin.TheVariants as bin
use Rattle.c_tree.specs.Formula.{Binary, Numeral}
use Rattle.c_tree.specs.Texts.{echo}
use Rattle.c_tree.specs.declared.meaning.Place.TheVariants as places
use Rattle.c_tree.specs.Program as program
use Rattle.c_flat.specs.declared.node.Node.TheVariants as node
use Rattle.c_flat.specs.Written.{OfTerm, OfTerms, OfCommand, written}
use Rattle.c_flat.specs.declared.chain.Chain.TheVariants as chain
use Rattle.c_flat.specs.Listing.{ahead, end_of, over, condition_of, outlines_of}

-- x = x + 1
counts : written (node.Scalar (places.Local 0) ∷ node.Number 1 ∷ node.Arithmetic arith.Add 0 1 ∷ node.Set (places.Local 0) 2 ∷ []) 3
    ≡ OfCommand (program.Set (places.Local 0) (program.Arithmetic arith.Add (program.Scalar (places.Local 0)) (program.Number 1)))
unfolding written
counts = refl

-- in(); out(1); in this order
in_order : ahead chain.Commands (OfCommand program.Take ∷ OfCommand (program.Print (program.Number 1)) ∷ []) (end_of chain.Commands)
    ≡ OfCommand (program.Seq program.Take (program.Seq (program.Print (program.Number 1)) program.Skip))
in_order = refl

-- f(1, 2): the first argument stands outermost
arguments : ahead chain.Arguments (OfTerm (program.Number 1) ∷ OfTerm (program.Number 2) ∷ []) (end_of chain.Arguments)
    ≡ OfTerms (program.More (program.Number 1) (program.More (program.Number 2) program.NoMore))
arguments = refl

-- in() << 3
shifted : over (Binary bin.Shl (Numeral (record { at = 0; value = 2 })) 2 (Numeral (record { at = 5; value = 3 }))) program.Input (program.Number 3)
    ≡ program.Shifted shift.Shl program.Input 3
shifted = refl

-- of a `for` with and without a condition
with_condition : condition_of (written (node.Number 1 ∷ [])) (Some 0) ≡ Some (program.Number 1)
unfolding written
with_condition = refl

without_condition : condition_of (written (node.Number 1 ∷ [])) None ≡ None
without_condition = refl

-- a program with one function
one_outline : length (outlines_of echo) ≡ 1
one_outline = refl
