-- Spots are added.
use Rattle.std.proofs.Common.{◌≡◌, ℕ, List, [], ◌∷◌, ◌++◌, map, append-nil, append_assoc, ap, sym, ◌∙◌, subst, Result, Ok, Err}
use Rattle.std.proofs.lemmas.List.{map-append}
use Rattle.std.proofs.lemmas.List.Elements.{All-nil, All-push}
use Rattle.std.specs.Prelude.{OnOk}
use Rattle.nml_tree.specs.Act.{Term}
use Rattle.isg_nodes.specs.declared.node.Node.{Node}
use Rattle.isg_places.specs.declared.place.Spot.{Spot}
use Rattle.isg_places.specs.Spots.{Adds, AreSpots, IsAt, index, named}

module _ (nodes : List Node) where
  pub adds_none : (a : List Spot) → Adds nodes a a []
  adds_none a = record { spots = λ h. h; names = sym (append-nil (map (named nodes) a)) }

  adds_then : (a b c : List Spot) (p q : List (ℕ × Term)) → Adds nodes a b p → Adds nodes b c q → Adds nodes a c (p ++ q)
  adds_then a b c p q x y = record {
    spots = λ h. y.spots (x.spots h);
    names = y.names ∙ ap (λ l. l ++ q) x.names ∙ append_assoc (map (named nodes) a) p q;
  }

  pub adds_as : (a b : List Spot) (p q : List (ℕ × Term)) → p ≡ q → Adds nodes a b p → Adds nodes a b q
  adds_as a b p q is x = subst (Adds nodes a b) is x

  -- the one after the other
  pub adds_both : (a b c : List Spot) (p q r : List (ℕ × Term)) → p ++ q ≡ r → Adds nodes a b p → Adds nodes b c q → Adds nodes a c r
  adds_both a b c p q r is x y = adds_as a c (p ++ q) r is (adds_then a b c p q x y)

  pub adds_one : (a : List Spot) (s : Spot) (t : Term) → IsAt nodes s.at → index nodes s.at ≡ t → Adds nodes a (a ++ s ∷ []) ((s.storage, t) ∷ [])
  adds_one a s t h is = record {
    spots = λ all. All-push (λ x. IsAt nodes x.at) a s all h;
    names = map-append (named nodes) a (s ∷ []) ∙ ap (λ u. map (named nodes) a ++ (s.storage, u) ∷ []) is;
  }

-- what comes of an answer that is Ok
pub on_ok : {T E : Type 0} {P Q : Type 0} (r : Result T E) → (P → Q) → OnOk r P → OnOk r Q
on_ok (Ok x) f h = f h
on_ok (Err e) f h = tt

-- spots that were added to none
pub all_spots : (nodes : List Node) (b : List Spot) (p : List (ℕ × Term)) → Adds nodes [] b p → AreSpots nodes b
all_spots nodes b p x = x.spots (All-nil (λ s. IsAt nodes s.at))

pub all_names : (nodes : List Node) (b : List Spot) (p : List (ℕ × Term)) → Adds nodes [] b p → map (named nodes) b ≡ p
all_names nodes b p x = x.names
