-- How often something happens on a path, at most: 2 stands for all above it.
use Rattle.std.specs.Prelude.{ℕ, ◌+◌, min, max, nat_le, if◌then◌else◌}
use Rattle.attr_eval.specs.Lawful.{Shape, Nothing, Once, Then, Either}
use Rattle.attr_legal.specs.Key.{key_of, meets}
use Rattle.attr_legal.specs.declared.key.Key.{Key}
use Rattle.nml_tree.specs.Act.{Term, Number, Field, Cell, Trn, Inp, Out, Unary, Binary, Choose}
use Rattle.nml_tree.specs.Legal.{Event}
use Rattle.nml_tree.specs.Value.{View}

-- the one and then the other
abbrev pub together : ℕ → ℕ → ℕ
together a b = min 2 (a + b)

-- where each event counts so much
abbrev pub tally : (Event → ℕ) → Shape → ℕ
tally w Nothing = 0
tally w (Once e) = w e
tally w (Then a b) = together (tally w a) (tally w b)
tally w (Either a b) = max (tally w a) (tally w b)

-- what an expression reads, where a look at a cell, a transitory or the `out` counts so much, and one at the input so much
abbrev pub reads : (look input : ℕ) → Term → ℕ
reads look input (Number z) = 0
reads look input (Field n) = 0
reads look input (Cell n i) = max look (reads look input i)
reads look input (Trn n) = look
reads look input Inp = input
reads look input Out = look
reads look input (Unary op x) = reads look input x
reads look input (Binary op x y) = together (reads look input x) (reads look input y)
reads look input (Choose c x y) = together (reads look input c) (max (reads look input x) (reads look input y))

-- 1 where the second may be the same as the first
abbrev pub hit : Key → Key → ℕ
hit a b = if meets a b then 1 else 0

-- how often this is met counts
abbrev pub hits : View → Key → Event → ℕ
hits v k e = hit k (key_of v e)

-- 1 of what is more than once
abbrev pub excess : ℕ → ℕ
excess n = if nat_le n 1 then 0 else 1

-- each event counts that is met twice on a path through the whole
abbrev pub checks : View → Shape → Event → ℕ
checks v whole e = excess (tally (hits v (key_of v e)) whole)
