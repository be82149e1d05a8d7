-- What can clash by the written numbers alone: an index that isn't one may be any cell.
use Rattle.std.specs.Prelude.{◌≡◌, true}
use Rattle.attr_eval.specs.Lawful.{Shape, Nothing, Once, Then, Either, act_shape, is_lawful}
use Rattle.nml_tree.specs.Act.{Term, Act, Number, Inp}
use Rattle.nml_tree.specs.Legal.{Event, WritesCell}
use Rattle.nml_tree.specs.Value.{View}

-- a written number, or else an index that is no constant
abbrev pub coarse_index : Term → Term
coarse_index (Number z) = Number z
coarse_index _ = Inp

-- an event by its written numbers alone
abbrev pub coarse_event : Event → Event
coarse_event (WritesCell n i) = WritesCell n (coarse_index i)
coarse_event e = e

-- and so each event that may happen
abbrev pub coarse : Shape → Shape
coarse Nothing = Nothing
coarse (Once e) = Once (coarse_event e)
coarse (Then a b) = Then (coarse a) (coarse b)
coarse (Either a b) = Either (coarse a) (coarse b)

-- no two events of the action that meet clash, whatever the fields are
abbrev pub NeverClashes : Act → Type 0
NeverClashes a = (v : View) → is_lawful v (act_shape a) ≡ true
