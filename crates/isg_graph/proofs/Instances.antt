-- Instructions of the shapes of a graph: what their shapes' statements write out, and their fields.
use Rattle.std.proofs.Common.{ℕ, zero, suc, ◌<◌, ◌≡◌, refl, sym, ◌∙◌, ap, subst, arith, ℤ, List, [], ◌∷◌, length, Some, Option, Bool, true, false}
use Rattle.std.proofs.lemmas.List.{length-map}
use Rattle.std.specs.Prelude.{slice_get, codes, not}
use Rattle.nml_tree.specs.Table.{table}
use Rattle.nml_tree.specs.Derivation.{Derivation, picks, fields}
use Rattle.nml_tree.specs.Legal.{is_legal}
use Rattle.nml_tree.specs.Refused.{IsFreeBelow}
use Rattle.nml_tree.specs.Value.{number_at}
use Rattle.nml_tree.specs.Walk.{IsWalkOf}
use Rattle.nml_tree.specs.Written as written
use Rattle.nml_shape.specs.declared.shape.Inst.{Inst}
use Rattle.nml_shape.specs.declared.shape.Shape.{Shape}
use Rattle.nml_shape.specs.Shown.{number_in, numbers_in}
use Rattle.nml_outline.proofs.Listed.{contains_at}
use Rattle.nml_outline.proofs.ShapeWord.{root_is_word}
use Rattle.isg_nodes.specs.Fields.{AreTyped}
use Rattle.isg_nodes.specs.Written.{AllBelow, action}
use Rattle.isg_graph.specs.Graph.{AreFor, Graph, IsGraph, IsQuiet}
use Rattle.isg_graph.specs.Instance.{HasField, IsInstOf, IsOfShape}
use Rattle.isg_graph.proofs.Gathered.{there}

same_at : {A : Type 0} (o : Option A) (x y : A) → o ≡ Some x → o ≡ Some y → x ≡ y
same_at o x y h k = cc

got : (zs : List ℤ) (n : ℕ) (z : ℤ) → n < length zs → z ≡ number_at zs n → slice_get zs n ≡ Some z
got [] n z low is = absurd (omega (arith, low))
got (y ∷ zs) zero z low is = ap Some (sym is)
got (y ∷ zs) (suc n) z low is = got zs n z (omega (arith, low)) is

module _ (g : Graph) (whole : IsGraph g) where
  pub free : IsFreeBelow 12 g.desc
  free k low = whole.checked.free k (omega (arith, low))

  pub effect_below : (n : ℕ) (e : List ℕ) → n < length g.shapes → slice_get g.effects n ≡ Some e → AllBelow e (length g.nodes)
  effect_below n e low at = let s = there g.shapes n low in (whole.effects_are.each n s.0 e s.1 at).below

  pub effect_is : (n : ℕ) (e : List ℕ) (x : Derivation) → slice_get g.effects n ≡ Some e → IsOfShape g n x → action g.nodes e ≡ written.action (table g.desc) x
  effect_is n e x at of = (whole.effects_are.each n of.shape e of.stands at).is x of.is

  pub fields_are : (i : Inst) (s : Shape) (x : Derivation) → slice_get g.shapes i.shape ≡ Some s → IsInstOf g i x → fields x ≡ numbers_in i.word s.fields.items
  fields_are i s x at is =
      let e : is.of.shape ≡ s = same_at _ _ _ is.of.stands at in
      let f = (root_is_word g.desc free g.shapes whole.shapes_are is.of.shape x (contains_at g.shapes i.shape is.of.shape is.of.stands) is.of.is.0 is.of.is.1).1 in
      f ∙ (ap (λ w. numbers_in w is.of.shape.fields.items) is.word_is ∙ ap (λ (q : Shape). numbers_in i.word q.fields.items) e)

  pub walk : (i : Inst) (x : Derivation) (zs : List ℤ) → IsInstOf g i x → fields x ≡ zs → IsWalkOf (table g.desc) (codes "instruction") (picks x) zs x
  walk i x zs is f = record { derivation = is.of.is.0; picks = refl; fields = f }

  pub field_is : (i : Inst) (x : Derivation) (zs : List ℤ) (j : ℕ) (z : ℤ) → IsInstOf g i x → fields x ≡ zs → HasField g i.shape j → z ≡ number_at zs j → slice_get (fields x) j ≡ Some z
  field_is i x zs j z is f has value =
      let e = fields_are i has.shape x has.stands is in
      let long : length (fields x) ≡ length has.shape.fields.items = ap length e ∙ length-map has.shape.fields.items (number_in i.word) in
      got (fields x) j z (subst (λ n. j < n) (sym long) has.field) (value ∙ ap (λ ys. number_at ys j) (sym f))

  -- a shape none of whose instructions can clash
  pub quiet_is : (quiet : List Bool) → AreFor (IsQuiet g.desc) g.shapes quiet → (i : Inst) (x : Derivation) (b : Bool) → slice_get quiet i.shape ≡ Some b → b ≡ true → IsInstOf g i x → false ≡ not (is_legal (table g.desc) x)
  quiet_is quiet are i x b at is of =
      let e : is_legal (table g.desc) x ≡ true = are.each i.shape of.of.shape b of.of.stands at is x of.of.is in
      rw e refl
