-- The types of the code as definitions see them. `term` gives the expression of a node of the graph.
use Rattle.std.specs.Prelude.{ℕ, ◌≡◌, List, [], ◌∷◌, map, length, All, IfSome, option_map}
use Rattle.nml_tree.specs.Act.{Term}
use Rattle.isg_places.specs.declared.place.Place.{Place}
use Rattle.isg_places.specs.declared.place.At as at
use Rattle.isg_places.specs.declared.place.At.TheVariants as at_is
use Rattle.isg_places.specs.declared.place.Spot as spot
use Rattle.pat_core.specs.declared.pattern.Form as form
use Rattle.pat_core.specs.declared.pattern.Form.TheVariants as form_is
use Rattle.pat_core.specs.declared.pattern.Pattern as pattern
use Rattle.pat_core.specs.declared.pattern.Patterns as patterns
use Rattle.pat_core.specs.declared.closure.Route as route
use Rattle.pat_core.specs.declared.closure.Cert as cert
use Rattle.pat_core.specs.declared.closure.Closure as closure
use Rattle.pat_core.specs.Spot.{Spot, At, Cell, Field, Other}
use Rattle.pat_core.specs.Tile.{Form, Write, Store, Out, Branch, JumpCell, Jump, Halt, tile}
use Rattle.pat_core.specs.Patterns.{Pattern}
use Rattle.pat_core.specs.Route.{Route}
use Rattle.pat_core.specs.Cert.{Cert}
use Rattle.pat_core.specs.Closure.{Closure}

-- how a spot names its cell
abbrev pub at_of : (ℕ → Term) → at.At → At
at_of term (at_is.Cell c) = Cell c
at_of term (at_is.Field j) = Field j
at_of term (at_is.Other n) = Other (term n)

-- a spot
abbrev pub spot_of : (ℕ → Term) → spot.Spot → Spot
spot_of term s = record { storage = s.storage; at = at_of term s.at }

-- a form
abbrev pub form_of : (ℕ → Term) → form.Form → Form ℕ
form_of term (form_is.Write s t) = Write (spot_of term s) (tile t)
form_of term (form_is.Store t u) = Store (tile t) (tile u)
form_of term (form_is.Out t) = Out (tile t)
form_of term (form_is.Branch r t u j) = Branch r (tile t) (tile u) j
form_of term (form_is.JumpCell t) = JumpCell (tile t)
form_of term (form_is.Jump j) = Jump j
form_of term (form_is.Halt c) = Halt c

-- a pattern
abbrev pub pattern_of : (ℕ → Term) → pattern.Pattern → Pattern
pattern_of term p = record {
  shape = p.shape;
  form = form_of term p.form;
  operands = map (spot_of term) p.operands;
  tied = p.tied;
  clobbers = map (spot_of term) p.clobbers;
  bits = p.bits;
}

-- the patterns in their order
abbrev pub patterns_of : (ℕ → Term) → patterns.Patterns → List Pattern
patterns_of term ps = map (pattern_of term) ps.list

-- the patterns and the places side by side
abbrev pub steps : List ℕ → List Place → Route
steps (k ∷ ks) (p ∷ places) = (k, p) ∷ steps ks places
steps _ _ = []

-- a route
abbrev pub route_of : route.Route → Route
route_of r = steps r.patterns r.places

-- it has as many places as patterns, so that nothing of it is left out above
abbrev pub IsEven : route.Route → Type 0
IsEven r = length r.patterns ≡ length r.places

-- a Cert
abbrev pub cert_of : cert.Cert → Cert
cert_of c = record { first = route_of c.first; second = route_of c.second; pattern = c.pattern; last = route_of c.last }

-- a closure
abbrev pub closure_of : closure.Closure → Closure
closure_of c = record { bits = c.bits; certs = map (option_map cert_of) c.certs }

-- each route of a Cert has as many places as patterns
abbrev pub AreEven : cert.Cert → Type 0
AreEven c = IsEven c.first × IsEven c.second × IsEven c.last

-- and so has each route of a closure
abbrev pub AreAllEven : closure.Closure → Type 0
AreAllEven c = All (λ entry. IfSome entry AreEven) c.certs
