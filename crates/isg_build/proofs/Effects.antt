-- What is kept of effects.
use Rattle.std.proofs.Common.{ℕ, zero, suc, ◌+◌, ◌<◌, ◌≤◌, ◌≡◌, refl, sym, ◌∙◌, ap, subst, arith, List, [], ◌∷◌, ◌++◌, take, drop, get_or, length, length-append, Some, None, Option, Bool}
use Rattle.std.proofs.lemmas.Option.{slice_get_within}
use Rattle.std.specs.Prelude.{slice_get}
use Rattle.nml_tree.specs.declared.tree.Desc.{Desc}
use Rattle.nml_tree.specs.Table.{Table, table}
use Rattle.nml_tree.specs.Act.{Act}
use Rattle.nml_tree.specs.Derivation.{Derivation, picks}
use Rattle.nml_tree.specs.Valid.{IsRoot}
use Rattle.nml_tree.specs.Legal.{IsLegal}
use Rattle.nml_tree.specs.Written as written
use Rattle.nml_shape.specs.declared.shape.Shape.{Shape}
use Rattle.isg_legal.specs.Coarse.{NeverClashes}
use Rattle.isg_nodes.specs.declared.node.Node.{Node}
use Rattle.isg_nodes.specs.Grow.{Extends, Listed}
use Rattle.isg_nodes.specs.Written.{AllBelow, Falls, action, in_order, statement}
use Rattle.isg_nodes.proofs.Growing.{listed_kept}
use Rattle.isg_graph.specs.Graph.{AreFor, IsEffect, IsOf, IsQuiet}
use Rattle.isg_graph.proofs.Gathered.{for_through, there}
use Rattle.isg_build.specs.Kept.{AreWithin, NoneClashes}

-- ---- effects

all_below : (xs : List ℕ) (m n : ℕ) → m ≤ n → AllBelow xs m → AllBelow xs n
all_below [] m n le h = tt
all_below (x ∷ xs) m n le h = (omega (arith, le, h.0), all_below xs m n le h.1)

-- the effect of a shape
pub effect_made : (d : Desc) (nodes : List Node) (s : Shape) (e : List ℕ) → AllBelow e (length nodes) → ((x : Derivation) → IsRoot (table d) x → picks x ≡ s.picks.items → action nodes e ≡ written.action (table d) x) → IsEffect d nodes s e
effect_made d nodes s e below is = record { below = below; is = λ x of. is x of.0 of.1 }

-- more nodes leave an effect
pub effect_kept : (d : Desc) (old new : List Node) (s : Shape) (e : List ℕ) → Extends old new → IsEffect d old s e → IsEffect d new s e
effect_kept d old new s e x is =
    let same = listed_kept old new e (λ rest. in_order (statement old) e rest) x (record { below = is.below; is = λ rest. refl }) in
    record { below = same.below; is = λ y of. same.is _ ∙ is.is y of }

pub effects_within : (d : Desc) (nodes : List Node) (shapes : List Shape) (effects : List (List ℕ)) → AreFor (IsEffect d nodes) shapes effects → AreWithin nodes effects
effects_within d nodes shapes effects are n e at =
    let low = slice_get_within effects n e at in
    let s = there shapes n (subst (λ m. n < m) are.many low) in
    (are.each n s.0 e s.1 at).below

-- the instructions of a shape whose effect can't clash are legal
pub quiet_are : (d : Desc) (nodes : List Node) (shapes : List Shape) (effects : List (List ℕ)) (quiet : List Bool) → ((t : Table) (x : Derivation) (a : Act) → a ≡ written.action t x → NeverClashes a → IsLegal t x)
    → AreFor (IsEffect d nodes) shapes effects → AreFor (NoneClashes nodes) effects quiet → AreFor (IsQuiet d) shapes quiet
quiet_are d nodes shapes effects quiet law are more =
    for_through (IsEffect d nodes) (NoneClashes nodes) (IsQuiet d) shapes effects quiet (λ s e q is none told x of. law (table d) x (action nodes e) (is.is x of) (none told)) are more
