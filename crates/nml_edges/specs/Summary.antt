-- What texts may do, from each of the things that may stand before them.
use Rattle.std.specs.Prelude.{◌≡◌, ◌||◌, Bool, true, false, List, Option, Some, None, if◌then◌else◌}
use Rattle.nml_edges.specs.declared.glyph.Glyph.{Glyph}
use Rattle.nml_edges.specs.declared.glyph.Glyph.TheVariants as glyph
use Rattle.nml_edges.specs.declared.glyph.Last.{Last}
use Rattle.nml_edges.specs.declared.glyph.Last.TheVariants as last
use Rattle.nml_edges.specs.declared.summary.Way.{Way}
use Rattle.nml_edges.specs.declared.summary.Summary.{Summary}
use Rattle.nml_edges.specs.Glyph.{last_behind, touches, end, touching}

-- there is no text
abbrev pub nowhere : Way
nowhere = record { nothing = false; plain = false; number = false; digit = false; digit_seam = false; minus = false; minus_seam = false; touch = false }

-- nothing but this stands last; whether something touches
abbrev pub only : Last → Bool → Way
only last.Nothing touch = record nowhere { nothing = true; touch = touch }
only last.Plain touch = record nowhere { plain = true; touch = touch }
only last.Number touch = record nowhere { number = true; touch = touch }
only last.Digit touch = record nowhere { digit = true; touch = touch }
only last.DigitSeam touch = record nowhere { digit_seam = true; touch = touch }
only last.Minus touch = record nowhere { minus = true; touch = touch }
only last.MinusSeam touch = record nowhere { minus_seam = true; touch = touch }

-- what the one or the other may do
abbrev pub either : Way → Way → Way
either a b = record {
  nothing = a.nothing || b.nothing;
  plain = a.plain || b.plain;
  number = a.number || b.number;
  digit = a.digit || b.digit;
  digit_seam = a.digit_seam || b.digit_seam;
  minus = a.minus || b.minus;
  minus_seam = a.minus_seam || b.minus_seam;
  touch = a.touch || b.touch;
}

-- the way, where it may be gone
abbrev pub where_may : Bool → Way → Way
where_may may w = if may then w else nowhere

-- the way, and behind it what these texts may do
abbrev pub through : Way → Summary → Way
through w m =
    either (either (either (either (either (either (either (record nowhere { touch = w.touch })
    (where_may w.nothing m.nothing)) (where_may w.plain m.plain)) (where_may w.number m.number)) (where_may w.digit m.digit))
    (where_may w.digit_seam m.digit_seam)) (where_may w.minus m.minus)) (where_may w.minus_seam m.minus_seam)

-- of no text
abbrev pub none : Summary
none = record { nothing = nowhere; plain = nowhere; number = nowhere; digit = nowhere; digit_seam = nowhere; minus = nowhere; minus_seam = nowhere }

-- of the empty text
abbrev pub still : Summary
still = record {
  nothing = only last.Nothing false;
  plain = only last.Plain false;
  number = only last.Number false;
  digit = only last.Digit false;
  digit_seam = only last.DigitSeam false;
  minus = only last.Minus false;
  minus_seam = only last.MinusSeam false;
}

-- what one glyph does from there
abbrev pub step : Last → Glyph → Way
step l g = only (last_behind l g) (touches l g)

-- of one glyph
abbrev pub one : Glyph → Summary
one g = record {
  nothing = step last.Nothing g;
  plain = step last.Plain g;
  number = step last.Number g;
  digit = step last.Digit g;
  digit_seam = step last.DigitSeam g;
  minus = step last.Minus g;
  minus_seam = step last.MinusSeam g;
}

-- of the texts that are one of these and behind it one of those
abbrev pub followed : Summary → Summary → Summary
followed a b = record {
  nothing = through a.nothing b;
  plain = through a.plain b;
  number = through a.number b;
  digit = through a.digit b;
  digit_seam = through a.digit_seam b;
  minus = through a.minus b;
  minus_seam = through a.minus_seam b;
}

-- of these texts and those
abbrev pub both : Summary → Summary → Summary
both a b = record {
  nothing = either a.nothing b.nothing;
  plain = either a.plain b.plain;
  number = either a.number b.number;
  digit = either a.digit b.digit;
  digit_seam = either a.digit_seam b.digit_seam;
  minus = either a.minus b.minus;
  minus_seam = either a.minus_seam b.minus_seam;
}

-- of a part's texts, with a seam before and behind each
abbrev pub seamed : Summary → Summary
seamed m = followed (one glyph.Seam) (followed m (one glyph.Seam))

-- what is said of the texts that stand behind this
abbrev pub way : Summary → Last → Way
way m last.Nothing = m.nothing
way m last.Plain = m.plain
way m last.Number = m.number
way m last.Digit = m.digit
way m last.DigitSeam = m.digit_seam
way m last.Minus = m.minus
way m last.MinusSeam = m.minus_seam

-- it says that this may stand last, or, where nothing is named, that something may touch
abbrev pub says : Option Last → Way → Bool
says None w = w.touch
says (Some last.Nothing) w = w.nothing
says (Some last.Plain) w = w.plain
says (Some last.Number) w = w.number
says (Some last.Digit) w = w.digit
says (Some last.DigitSeam) w = w.digit_seam
says (Some last.Minus) w = w.minus
says (Some last.MinusSeam) w = w.minus_seam

-- the text ends so, or, where nothing is named, something touches
abbrev pub Does : Option Last → Last → List Glyph → Type 0
Does None l gs = touching l gs ≡ true
Does (Some e) l gs = end l gs ≡ e

-- it says of these texts exactly what one of them does
pub record IsSummary (Texts : List Glyph → Type 0) (m : Summary) : Type 0 where
  pub found : (l : Last) (what : Option Last) → says what (way m l) ≡ true → (gs : List Glyph) × Texts gs × Does what l gs
  pub told : (l : Last) (what : Option Last) (gs : List Glyph) → Texts gs → Does what l gs → says what (way m l) ≡ true
