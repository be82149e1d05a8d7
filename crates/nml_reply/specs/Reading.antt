-- What the read of a file answered.
use Rattle.std.specs.Prelude.{ℕ, List}

-- Memory was wanted where a file stays unread.
pub data Reading : Type 0 where
  Got : List ℕ → Reading
  Absent : Reading
  Failed : Reading
  TooLong : Reading
  Unread : Reading
