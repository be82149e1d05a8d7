-- The places that the actions of shapes name.
use Rattle.std.proofs.Common.{ℕ, ◌<◌, ◌≡◌, sym, ◌∙◌, ap, subst, List, length, map, Some}
use Rattle.std.proofs.lemmas.Option.{slice_get_within}
use Rattle.std.specs.Prelude.{slice_get}
use Rattle.nml_tree.specs.Table.{table}
use Rattle.nml_tree.specs.Derivation.{Derivation}
use Rattle.nml_tree.specs.Written as written
use Rattle.isg_places.specs.Places.{act_reads, act_writes}
use Rattle.isg_places.specs.Spots.{AreSpots, named}
use Rattle.isg_places.specs.declared.place.Spot.{Spot}
use Rattle.isg_graph.specs.Graph.{AreFor, Graph, IsGraph}
use Rattle.isg_graph.specs.Instance.{IsOfShape}
use Rattle.isg_graph.specs.Kept.{AreReads, AreWrites}
use Rattle.isg_graph.proofs.Gathered.{there}
use Rattle.isg_graph.proofs.Instances.{effect_is}

module _ (g : Graph) (whole : IsGraph g) (all : List (List Spot)) (n : ℕ) (spots : List Spot) where
  effect_at : n < length g.shapes → (e : List ℕ) × (slice_get g.effects n ≡ Some e)
  effect_at low = there g.effects n (subst (λ k. n < k) (sym whole.effects_are.many) low)

  pub reads_spots : AreFor (AreReads g.nodes) g.effects all → n < length g.shapes → slice_get all n ≡ Some spots → AreSpots g.nodes spots
  reads_spots are low at = let e = effect_at low in (are.each n e.0 spots e.1 at).0

  pub reads_names : AreFor (AreReads g.nodes) g.effects all → slice_get all n ≡ Some spots → (x : Derivation) → IsOfShape g n x → map (named g.nodes) spots ≡ act_reads (written.action (table g.desc) x)
  reads_names are at x of =
      let e = effect_at (slice_get_within g.shapes n of.shape of.stands) in
      (are.each n e.0 spots e.1 at).1 ∙ ap act_reads (effect_is g whole n e.0 x e.1 of)

  pub writes_spots : AreFor (AreWrites g.nodes) g.effects all → n < length g.shapes → slice_get all n ≡ Some spots → AreSpots g.nodes spots
  writes_spots are low at = let e = effect_at low in (are.each n e.0 spots e.1 at).0

  pub writes_names : AreFor (AreWrites g.nodes) g.effects all → slice_get all n ≡ Some spots → (x : Derivation) → IsOfShape g n x → map (named g.nodes) spots ≡ act_writes (written.action (table g.desc) x)
  writes_names are at x of =
      let e = effect_at (slice_get_within g.shapes n of.shape of.stands) in
      (are.each n e.0 spots e.1 at).1 ∙ ap act_writes (effect_is g whole n e.0 x e.1 of)
