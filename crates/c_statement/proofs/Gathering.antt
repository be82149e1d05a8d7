-- Things up to a mark, as a loop keeps them, and a thing or none up to a mark.
use Rattle.std.proofs.Common.{ℕ, List, [], ◌∷◌, ◌++◌, length, map, Option, Some, None, ◌≡◌, ◌≤◌, sym, ◌∙◌, ap, subst, arith}
use Rattle.std.proofs.lemmas.List.{map-append}
use Rattle.readings.specs.Symbol.{Symbol}
use Rattle.readings.specs.Reading.{Found, behind}
use Rattle.readings.specs.Readings.{Reading, ◌>>>◌, made, sign}
use Rattle.readings.specs.declared.sign.Sign.{Sign}
use Rattle.readings.specs.declared.stop.Stop.{Stop}
use Rattle.readings.specs.Seen.{Comes, Fails}
use Rattle.readings.proofs.Saying.{alike, makes, fails_alike, fails_made}
use Rattle.c_grammar.specs.Until.{until, ended, ended_from}
use Rattle.c_grammar.proofs.Looping.{Proceeds, proceeds_start, proceeds_step, proceeds_end, proceeds_fails, ended_absent}

-- ---- up to a mark

-- whatever the rest comes to, the whole comes to, with what stands for the things found so far put before
pub record Gathers {A B : Type 0} (text : List ℕ) (reads : Reading A) (shown : B → A) (ss : List Symbol) (found : List B) (rest : List Symbol) : Type 0 where
  pub goes : Proceeds text reads ss (map shown found) rest

-- at the start
pub gathers_first : {A B : Type 0} (text : List ℕ) (reads : Reading A) (shown : B → A) (ss : List Symbol) (found : List B) (rest : List Symbol) → found ≡ [] → rest ≡ ss
    → Gathers text reads shown ss found rest
gathers_first text reads shown ss found rest is same = rw (is, same) (record { goes = proceeds_start text reads ss })

pub not_longer : (rest ss : List Sign) → rest ≡ ss → length rest ≤ length ss
not_longer rest ss is = omega (arith, ap length is)

-- a thing more
pub gathers_step : {A B : Type 0} (text : List ℕ) (reads : Reading A) (shown : B → A) (ss : List Symbol) (found others : List B) (here : List Symbol) (x : B) (s : List Symbol)
    → others ≡ found ++ x ∷ [] → Gathers text reads shown ss found here → None ≡ behind text here → Comes reads here (Found (shown x) s)
    → Gathers text reads shown ss others s
gathers_step text reads shown ss found others here x s is g e h =
    record {
      goes = subst (λ zs. Proceeds text reads ss zs s) (sym (ap (map shown) is ∙ map-append shown found (x ∷ [])))
          (proceeds_step text reads ss (map shown found) here (shown x) s g.goes (sym e) h);
    }

-- the mark is in front
pub gathers_end : {A B : Type 0} (text : List ℕ) (reads : Reading A) (shown : B → A) (ss : List Symbol) (found : List B) (here : List Symbol) (at : ℕ) (rest : List Symbol)
    → Gathers text reads shown ss found here → Some (at, rest) ≡ behind text here → Comes (until text reads) ss (Found (map shown found, at) rest)
gathers_end text reads shown ss found here at rest g e = proceeds_end text reads ss (map shown found) here at rest g.goes (sym e)

-- the next thing stops
pub gathers_fails : {A B : Type 0} (stop : Stop) (text : List ℕ) (reads : Reading A) (shown : B → A) (ss : List Symbol) (found : List B) (here : List Symbol)
    → Gathers text reads shown ss found here → None ≡ behind text here → Fails stop reads here → Fails stop (until text reads) ss
gathers_fails stop text reads shown ss found here g e h = proceeds_fails stop text reads ss (map shown found) here g.goes (sym e) h

-- ---- a thing or none

pub absent_ended : {A : Type 0} (text : List ℕ) (reads : Reading A) (ss : List Symbol) (at : ℕ) (rest : List Symbol) → Some (at, rest) ≡ behind text ss
    → Comes (ended text reads) ss (Found (None, at) rest)
absent_ended text reads ss at rest e = ended_absent text reads ss at rest (sym e)

-- there is one
abbrev with_end : {A : Type 0} → A × ℕ → Option A × ℕ
with_end (x, at) = (Some x, at)

pub present_ended : {A : Type 0} (text : List ℕ) (reads : Reading A) (ss : List Symbol) (x : A) (at : ℕ) (r : List Symbol) → None ≡ behind text ss
    → Comes (reads >>> sign text) ss (Found (x, at) r) → Comes (ended text reads) ss (Found (Some x, at) r)
present_ended text reads ss x at r e h =
    alike (made (λ (x, at). (Some x, at)) (reads >>> sign text)) (ended text reads) ss ss (Found (Some x, at) r) (λ n. ap (ended_from text reads n ss) (sym e))
    (makes (λ (x, at). (Some x, at)) (reads >>> sign text) ss (x, at) r h)

pub ended_fails : {A : Type 0} (stop : Stop) (text : List ℕ) (reads : Reading A) (ss : List Symbol) → None ≡ behind text ss → Fails stop (reads >>> sign text) ss
    → Fails stop (ended text reads) ss
ended_fails stop text reads ss e h =
    fails_alike stop (ended text reads) (made (λ (x, at). (Some x, at)) (reads >>> sign text)) ss ss (λ n. ap (ended_from text reads n ss) (sym e))
    (fails_made stop (λ (x, at). (Some x, at)) (reads >>> sign text) ss h)
