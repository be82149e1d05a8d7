-- A derivation, by its rule; arguments, by a parameter.
use Rattle.std.proofs.Common.{ℕ, zero, suc, ◌+◌, ◌-◌, ◌≤◌, ◌<◌, List, [], ◌∷◌, ◌++◌, ◌≡◌, length, length-append, min, arith, refl, sym, ◌∙◌, ap, subst, Some, None, append_assoc}
use Rattle.std.specs.Prelude.{slice_get, ◌^◌}
use Rattle.nml_tree.specs.declared.tree.Par.{Par}
use Rattle.nml_tree.specs.Table.{Text, Table, Rule, Declared, Parameter, declared, alternative, parameter_of}
use Rattle.nml_tree.specs.Derivation.{Derivation, Arguments, Pick, Compose, NoMore, Part, Field, IsDerivation, Fill, picks, picks_of, fields, fields_of}
use Rattle.attr_eval.specs.Walks.{from}
use Rattle.attr_eval.proofs.Steps.{PartAt, part_at, FieldAt, from_past}
use Rattle.isg_written.specs.Stands.{Stands, StandsAll, before}

and_no_alternative : (t : Table) (name : Text) (rule : Rule) (k : ℕ) (c : Text) → declared t name ≡ Some (Declared.And rule) → alternative t name k ≡ Some c → ⊥
and_no_alternative t name rule k c is h = let e : alternative t name k ≡ None = rw is refl in cc

-- the first turn
module _ (t : Table) (name : Text) (limit n : ℕ) (ps ks : List ℕ) where
  pub no_limit : (d : Derivation) → limit ≡ 0 → Stands t name limit d n ps ks → ⊥
  no_limit (Pick k d) none w = omega (arith, w.low, none)
  no_limit (Compose rule args) none w = omega (arith, w.low, none)

  pub next_picked : (d : Derivation) (chosen : Text) (rest : List ℕ) → (k : ℕ) × (ps ≡ k ∷ rest) × (alternative t name k ≡ Some chosen) → Stands t name limit d n ps ks → (k : ℕ) × (below : Derivation) × (d ≡ Pick k below) × Stands t chosen (limit - 1) below n rest ks
  next_picked (Pick j d) chosen rest h w =
      let f = w.picks_are in let p = h.1 in let g = w.is.1 in let q = h.2 in
      let same : j ≡ h.0 = cc in
      let e : alternative t name j ≡ Some chosen = ap (alternative t name) same ∙ q in
      let one : w.is.0 ≡ chosen = cc in
      (j, d, refl, record { is = subst (λ x. IsDerivation t x d) one w.is.2; low = omega (arith, w.low); few = w.few; picks_are = cc })
  next_picked (Compose rule args) chosen rest h w = absurd (and_no_alternative t name rule h.0 chosen w.is.0 h.2)

  pub next_made : (rule : Rule) → declared t name ≡ Some (Declared.And rule) → (d : Derivation) → Stands t name limit d n ps ks → (args : Arguments) × (d ≡ Compose rule args) × StandsAll t rule.pars (limit - 1) args n ps ks
  next_made rule is (Pick k d) w = absurd (and_no_alternative t name rule k w.is.0 is w.is.1)
  next_made rule is (Compose other args) w =
      let f = w.is.0 in
      let one : other ≡ rule = cc in
      (args, ap (λ r. Compose r args) one, record { fill = subst (λ (x : Rule). Fill t x.pars args) one w.is.1; low = omega (arith, w.low); few = w.few; picks_are = w.picks_are })

-- the fields before and from an argument on
pub before_from : (k : ℕ) (args : Arguments) → before k args + length (fields_of (from k args)) ≡ length (fields_of args)
before_from zero args = omega arith
before_from (suc k) NoMore = refl
before_from (suc k) (Part name d args) = omega (arith, before_from k args, length-append (fields d) (fields_of args))
before_from (suc k) (Field name ty z args) = omega (arith, before_from k args)

before_part : (k : ℕ) (args : Arguments) (name : Text) (d : Derivation) → from k args ≡ Part name d (from (suc k) args) → before (suc k) args ≡ before k args + length (fields d)
before_part k args name d is =
    let a = before_from k args in
    let b = before_from (suc k) args in
    let c : length (fields_of (from k args)) ≡ length (fields d) + length (fields_of (from (suc k) args)) = ap (λ x. length (fields_of x)) is ∙ length-append (fields d) (fields_of (from (suc k) args)) in
    omega (arith, a, b, c)

-- the part at this place stands where the picks are left
pub stands_at : (t : Table) (pars : List Par) (limit : ℕ) (args : Arguments) (n : ℕ) (ps ks : List ℕ) (i : ℕ) (rule : Text) (x : Par) (ps2 : List ℕ) (n2 : ℕ) → StandsAll t pars limit args n ps ks → slice_get pars i ≡ Some x → parameter_of t x.ty ≡ Some (Parameter.Part rule)
    → ps2 ≡ picks_of (from i args) ++ ks → n2 ≡ n + before i args → (p : PartAt t rule i args x.name.text) × Stands t rule limit p.of n2 ps2 (picks_of (from (suc i) args) ++ ks)
stands_at t pars limit args n ps ks i rule x ps2 n2 w at is ps_are n_is =
    let p = part_at args t pars i rule x w.fill at is in
    let b = before_part i args x.name.text p.of p.at in
    let c = before_from (suc i) args in (
      p,
      record {
        is = p.is;
        low = omega (arith, p.low, w.low);
        few = omega (arith, w.few, n_is, b, c);
        picks_are = ps_are ∙ ap (λ a. picks_of a ++ ks) p.at ∙ append_assoc (picks p.of) (picks_of (from (suc i) args)) ks;
      },
    )

-- what is left behind the arguments so far
abbrev pub Left : Arguments → ℕ → List ℕ → ℕ → List ℕ → ℕ → Type 0
Left args n ks i ps2 n2 = (ps2 ≡ picks_of (from i args) ++ ks) × (n2 ≡ n + before i args)

pub left_past : (t : Table) (pars : List Par) (limit : ℕ) (args : Arguments) (n : ℕ) (ps ks : List ℕ) (i : ℕ) (ps2 : List ℕ) (n2 : ℕ) → StandsAll t pars limit args n ps ks → length pars ≤ i → Left args n ks i ps2 n2 → Left args n ks (suc i) ps2 n2
left_past t pars limit args n ps ks i ps2 n2 w low h =
    let e : from i args ≡ from (suc i) args = from_past args t pars i w.fill low ∙ sym (from_past args t pars (suc i) w.fill (omega (arith, low))) in
    let a = before_from i args in
    let b = before_from (suc i) args in
    let c = ap (λ x. length (fields_of x)) e in
    (h.0 ∙ ap (λ a. picks_of a ++ ks) e, omega (arith, h.1, a, b, c))

pub left_part : (t : Table) (pars : List Par) (limit : ℕ) (args : Arguments) (n : ℕ) (ps ks : List ℕ) (i : ℕ) (rule : Text) (x : Par) (ps2 : List ℕ) (n2 : ℕ) (ps3 : List ℕ) (n3 : ℕ) → StandsAll t pars limit args n ps ks → slice_get pars i ≡ Some x → parameter_of t x.ty ≡ Some (Parameter.Part rule)
    → Left args n ks i ps2 n2 → ((d : Derivation) (ks : List ℕ) → Stands t rule limit d n2 ps2 ks → (ps3 ≡ ks) × (n3 ≡ n2 + length (fields d))) → Left args n ks (suc i) ps3 n3
left_part t pars limit args n ps ks i rule x ps2 n2 ps3 n3 w at is h k =
    let s = stands_at t pars limit args n ps ks i rule x ps2 n2 w at is h.0 h.1 in
    let g = k s.0.of _ s.1 in
    let b = before_part i args x.name.text s.0.of s.0.at in
    (g.0, omega (arith, g.1, h.1, b))

-- a field at this place
pub field_number : (t : Table) (pars : List Par) (limit : ℕ) (args : Arguments) (n : ℕ) (ps ks : List ℕ) (i : ℕ) (x : Par) (n2 : ℕ) → StandsAll t pars limit args n ps ks → FieldAt t i args x → n2 ≡ n + before i args → (n2 < 64) × (n2 + 1 ≡ n + before (suc i) args)
field_number t pars limit args n ps ks i x n2 w f is =
    let a = before_from i args in
    let b = before_from (suc i) args in
    let c : length (fields_of (from i args)) ≡ suc (length (fields_of (from (suc i) args))) = ap (λ x. length (fields_of x)) f.at in
    (omega (arith, w.few, is, a, c), omega (arith, is, a, b, c))

pub left_field : (t : Table) (pars : List Par) (limit : ℕ) (args : Arguments) (n : ℕ) (ps ks : List ℕ) (i : ℕ) (x : Par) (ps2 : List ℕ) (n2 n3 : ℕ) → StandsAll t pars limit args n ps ks → FieldAt t i args x → n3 ≡ min (n2 + 1) (2 ^ 32 - 1) → Left args n ks i ps2 n2 → Left args n ks (suc i) ps2 n3
left_field t pars limit args n ps ks i x ps2 n2 n3 w f is h =
    let g = field_number t pars limit args n ps ks i x n2 w f h.1 in
    (h.0 ∙ ap (λ a. picks_of a ++ ks) f.at, omega (arith, is, g.0, g.1))

-- what is behind all arguments is behind the derivation
pub behind_all : (t : Table) (pars : List Par) (limit l : ℕ) (args : Arguments) (n : ℕ) (ps ks ps2 : List ℕ) (n2 : ℕ) → l ≡ length pars → StandsAll t pars limit args n ps ks → Left args n ks l ps2 n2 → (ps2 ≡ ks) × (n2 ≡ n + length (fields_of args))
behind_all t pars limit l args n ps ks ps2 n2 len w r =
    let none : from l args ≡ NoMore = from_past args t pars l w.fill (omega (arith, len)) in
    let a = before_from l args in
    let c = ap (λ x. length (fields_of x)) none in
    (r.0 ∙ ap (λ a. picks_of a ++ ks) none, omega (arith, r.1, a, c))
