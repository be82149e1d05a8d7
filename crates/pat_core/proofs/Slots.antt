-- The shapes of a description are one list.
use Rattle.std.proofs.Common.{◌≡◌, ℕ, ◌<◌, refl, sym, subst, ◌∙◌}
use Rattle.std.proofs.lemmas.List.{same_lists}
use Rattle.std.proofs.lemmas.Option.{slice_get-get_or, get_or_from_slice_get}
use Rattle.std.specs.Prelude.{Bool, true, false, IsTrue, ◌↔◌, List, [], ◌∷◌, length, get_or}
use Rattle.nml_tree.specs.declared.tree.Par.{Par}
use Rattle.nml_tree.specs.Table.{Table}
use Rattle.nml_tree.specs.Derivation.{Derivation, Arguments, Pick, Compose, NoMore, Part, Field}
use Rattle.nml_tree.specs.Shapes.{AreShapes}
use Rattle.nml_tree.specs.Table.{table}
use Rattle.nml_tree.specs.declared.tree.Desc.{Desc}
use Rattle.nml_shape.proofs.OneList.{one_list_of_shapes}
use Rattle.pat_core.specs.Isa.{Isa}
use Rattle.pat_core.specs.Whole.{IsIsa}
use Rattle.pat_core.specs.Patterns.{patterns}
use Rattle.pat_core.specs.Shape.{Shape}
use Rattle.pat_core.specs.Slots.{AreSlots, AreRootSlots, IsShape, AreShapesOf}

-- two answers to one question are the same
same : {P : Type 0} → (b c : Bool) → (IsTrue b ↔ P) → (IsTrue c ↔ P) → b ≡ c
same true true p q = refl
same true false p q = sym (q.1 (p.0 refl))
same false true p q = p.1 (q.0 refl)
same false false p q = refl

slots_one : (t : Table) (pars : List Par) (args : Arguments) (bs cs : List Bool) → AreSlots t pars args bs → AreSlots t pars args cs → bs ≡ cs
slots_one t pars NoMore [] [] p q = refl
slots_one t pars NoMore [] (c ∷ cs) p q = elim q [ ]
slots_one t pars NoMore (b ∷ bs) cs p q = elim p [ ]
slots_one t [] (Part name d args) bs cs p q = elim p [ ]
slots_one t (par ∷ pars) (Part name d args) [] cs p q = elim p [ ]
slots_one t (par ∷ pars) (Part name d args) (b ∷ bs) [] p q = elim q [ ]
slots_one t (par ∷ pars) (Part name d args) (b ∷ bs) (c ∷ cs) p q = rw (same b c p.0 q.0, slots_one t pars args bs cs p.1 q.1) refl
slots_one t [] (Field name ty z args) bs cs p q = elim p [ ]
slots_one t (par ∷ pars) (Field name ty z args) [] cs p q = elim p [ ]
slots_one t (par ∷ pars) (Field name ty z args) (b ∷ bs) [] p q = elim q [ ]
slots_one t (par ∷ pars) (Field name ty z args) (b ∷ bs) (c ∷ cs) p q = rw (p.0, q.0, slots_one t pars args bs cs p.1 q.1) refl

root_slots_one : (t : Table) (d : Derivation) (bs cs : List Bool) → AreRootSlots t d bs → AreRootSlots t d cs → bs ≡ cs
root_slots_one t (Pick n d) bs cs p q = root_slots_one t d bs cs p q
root_slots_one t (Compose rule args) bs cs p q = slots_one t rule.pars args bs cs p q

shape_one : (t : Table) (d : Derivation) (r s : Shape) → IsShape t d r → IsShape t d s → r ≡ s
shape_one t d r s p q =
    let fields : r.fields ≡ s.fields = p.fields ∙ sym q.fields in
    let neutral : r.neutral ≡ s.neutral = root_slots_one t d r.neutral s.neutral p.neutral q.neutral in
    let action : r.action ≡ s.action = p.action ∙ sym q.action in
    let gives : r.gives ≡ s.gives = p.gives ∙ sym q.gives in
    λ i. record { fields = fields i; neutral = neutral i; action = action i; gives = gives i }

-- the list of picks at this place is that of a derivation, whose shape is the one at this place
pub shapes_one : (t : Table) (lists : List (List ℕ)) → AreShapes t lists → (rs ss : List Shape) → AreShapesOf t lists rs → AreShapesOf t lists ss → rs ≡ ss
shapes_one t lists a rs ss p q = same_lists rs ss (p.many ∙ sym q.many) (λ k other within. shape_at k other within)
  where
    shape_at : (k : ℕ) (other : Shape) → k < length rs → get_or rs k other ≡ get_or ss k other
    shape_at k other within =
        let below : k < length lists = subst (λ n. k < n) p.many within in
        let also : k < length ss = subst (λ n. k < n) (sym q.many) below in
        let stands = slice_get-get_or lists k [] below in
        let d = a.each (get_or lists k []) (k, below, get_or_from_slice_get lists k (get_or lists k []) (get_or lists k []) stands) in
        shape_one t d.0 (get_or rs k other) (get_or ss k other)
        (p.each k (get_or lists k []) (get_or rs k other) stands (slice_get-get_or rs k other within) d.0 d.1 d.2)
        (q.each k (get_or lists k []) (get_or ss k other) stands (slice_get-get_or ss k other also) d.0 d.1 d.2)

-- ---- of a description

isa_by : (a b : Isa) → a.machine ≡ b.machine → a.shapes ≡ b.shapes → a.patterns ≡ b.patterns → a ≡ b
isa_by a b e f g = λ i. record { machine = e i; shapes = f i; patterns = g i }

pub isa_one : (d : Desc) (a b : Isa) → IsIsa d a → IsIsa d b → a ≡ b
isa_one d a b p q =
    let lists = one_list_of_shapes (table d) p.lists q.lists p.all q.all in
    let machines : a.machine ≡ b.machine = p.machine_is ∙ sym q.machine_is in
    let shapes : a.shapes ≡ b.shapes = shapes_one (table d) p.lists p.all a.shapes b.shapes p.shapes_are (subst (λ l. AreShapesOf (table d) l b.shapes) (sym lists) q.shapes_are) in
    isa_by a b machines shapes (p.patterns_are ∙ (λ i. patterns (machines i) 0 (shapes i)) ∙ sym q.patterns_are)
