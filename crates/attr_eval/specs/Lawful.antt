-- Legality with no list of paths: what happens on the two sides of an `if` doesn't meet, and all else does.
use Rattle.std.specs.Prelude.{Bool, true, not, ◌&&◌, List, [], ◌∷◌, ◌++◌}
use Rattle.nml_tree.specs.Act.{Term, Act, Cell, Inp, Unary, Binary, Choose, Done, SetCell, SetTrn, Put, Halt, When}
use Rattle.nml_tree.specs.Legal.{Event, WritesCell, WritesTrn, Puts, Halts, Reads, both, clash}
use Rattle.nml_tree.specs.Value.{View}

-- what may happen once, in order, and on which sides
pub data Shape : Type 0 where
  Nothing : Shape
  Once : Event → Shape
  Then : Shape → Shape → Shape
  Either : Shape → Shape → Shape

-- of an expression
abbrev pub term_shape : Term → Shape
term_shape Inp = Once Reads
term_shape (Cell n i) = term_shape i
term_shape (Unary op x) = term_shape x
term_shape (Binary op x y) = Then (term_shape x) (term_shape y)
term_shape (Choose c x y) = Then (term_shape c) (Either (term_shape x) (term_shape y))
term_shape _ = Nothing

-- of statements
abbrev pub act_shape : Act → Shape
act_shape Done = Nothing
act_shape (SetCell n i e rest) = Then (Then (Then (term_shape i) (term_shape e)) (Once (WritesCell n i))) (act_shape rest)
act_shape (SetTrn n e rest) = Then (Then (term_shape e) (Once (WritesTrn n))) (act_shape rest)
act_shape (Put e rest) = Then (Then (term_shape e) (Once Puts)) (act_shape rest)
act_shape (Halt e rest) = Then (Then (term_shape e) (Once Halts)) (act_shape rest)
act_shape (When c x y rest) = Then (Then (term_shape c) (Either (act_shape x) (act_shape y))) (act_shape rest)

-- the ways through
abbrev pub ways_of : Shape → List (List Event)
ways_of Nothing = [] ∷ []
ways_of (Once e) = (e ∷ []) ∷ []
ways_of (Then a b) = both (ways_of a) (ways_of b)
ways_of (Either a b) = ways_of a ++ ways_of b

-- all that may happen, on whatever way
abbrev pub events : Shape → List Event
events Nothing = []
events (Once e) = e ∷ []
events (Then a b) = events a ++ events b
events (Either a b) = events a ++ events b

-- it clashes with none of these
abbrev pub apart : View → Event → List Event → Bool
apart v e [] = true
apart v e (x ∷ xs) = not (clash v e x) && apart v e xs

-- none of the one clashes with one of the other
abbrev pub all_apart : View → List Event → List Event → Bool
all_apart v [] ys = true
all_apart v (x ∷ xs) ys = apart v x ys && all_apart v xs ys

-- no two that meet clash
abbrev pub is_lawful : View → Shape → Bool
is_lawful v Nothing = true
is_lawful v (Once e) = true
is_lawful v (Then a b) = (is_lawful v a && all_apart v (events a) (events b)) && is_lawful v b
is_lawful v (Either a b) = is_lawful v a && is_lawful v b
