-- A derivation, by its rule; arguments, by a parameter.
use Rattle.std.proofs.Common.{ℕ, zero, suc, ◌+◌, ◌-◌, ◌≤◌, ◌<◌, List, [], ◌∷◌, ◌++◌, ◌≡◌, ℤ, length, map, arith, refl, sym, ◌∙◌, ap, subst, Some, None, Option, append_assoc, Bool}
use Rattle.std.specs.Prelude.{slice_get, option_and_then}
use Rattle.nk_base.specs.declared.number.Ty.{Ty}
use Rattle.nml_tree.specs.declared.names.Name.{Name}
use Rattle.nml_tree.specs.declared.tree.PortWord.{PortWord}
use Rattle.nml_tree.specs.declared.tree.PortWord.TheVariants as port
use Rattle.nml_tree.specs.declared.tree.Par.{Par}
use Rattle.nml_tree.specs.Table.{Text, Table, Rule, Declared, Parameter, declared, alternative, alternative_in, parameter_of, port_of}
use Rattle.nml_tree.specs.Derivation.{Derivation, Arguments, Pick, Compose, NoMore, Part, Field, IsDerivation, Fill, picks, picks_of, fields, fields_of}
use Rattle.attr_eval.specs.Walks.{Walks, WalksAll, height, height_of, from}

-- where a name is that of no rule, it has no derivation
abbrev pub IsNoRule : Option Declared → Type 0
IsNoRule (Some (Declared.Or mode names)) = ⊥
IsNoRule (Some (Declared.And rule)) = ⊥
IsNoRule _ = Unit {0}

no_or : (o : Option Declared) (k : ℕ) (c : Text) → IsNoRule o → option_and_then (alternative_in k) o ≡ Some c → ⊥
no_or None k c h e = cc
no_or (Some (Declared.Constant z)) k c h e = cc
no_or (Some (Declared.TypeName ty)) k c h e = cc
no_or (Some (Declared.Storage n m ty)) k c h e = cc
no_or (Some (Declared.Trn n ty)) k c h e = cc
no_or (Some (Declared.Inp ty)) k c h e = cc
no_or (Some (Declared.Out ty)) k c h e = cc
no_or (Some (Declared.Or mode names)) k c h e = h
no_or (Some (Declared.And rule)) k c h e = h

no_and : (o : Option Declared) (rule : Rule) → IsNoRule o → o ≡ Some (Declared.And rule) → ⊥
no_and o rule h e = subst IsNoRule e h

pub no_rule : (t : Table) (name : Text) (o : Option Declared) (d : Derivation) → declared t name ≡ o → IsNoRule o → IsDerivation t name d → ⊥
no_rule t name o (Pick k d) is none h = no_or o k h.0 none (ap (option_and_then (alternative_in k)) (sym is) ∙ h.1)
no_rule t name o (Compose rule args) is none h = no_and o rule none (sym is ∙ h.0)

alternative_is : (t : Table) (name : Text) (mode : Bool) (names : List Text) (k : ℕ) → declared t name ≡ Some (Declared.Or mode names) → alternative t name k ≡ slice_get names k
alternative_is t name mode names k is = rw is refl

pub no_picks : (t : Table) (name : Text) (mode : Bool) (names : List Text) (ps ks : List ℕ) (d : Derivation) → declared t name ≡ Some (Declared.Or mode names) → length ps ≡ 0 → IsDerivation t name d → ps ≡ picks d ++ ks → ⊥
no_picks t name mode names ps ks (Pick k d) is none h p = let f = ap length p in omega (arith, f, none)
no_picks t name mode names ps ks (Compose rule args) is none h p = let f = h.0 in cc

past_names : (names : List Text) (k : ℕ) → length names ≤ k → slice_get names k ≡ None
past_names [] zero low = refl
past_names [] (suc k) low = refl
past_names (x ∷ names) zero low = absurd (omega (arith, low))
past_names (x ∷ names) (suc k) low = past_names names k (omega (arith, low))

pub no_alternative : (t : Table) (name : Text) (mode : Bool) (names : List Text) (ps ks : List ℕ) (d : Derivation) (k : ℕ) (rest : List ℕ) → declared t name ≡ Some (Declared.Or mode names) → ps ≡ k ∷ rest → length names ≤ k → IsDerivation t name d → ps ≡ picks d ++ ks → ⊥
no_alternative t name mode names ps ks (Pick j d) k rest is are low h p =
    let same : j ≡ k = cc in
    let e : slice_get names j ≡ Some h.0 = sym (alternative_is t name mode names j is) ∙ h.1 in
    let g : slice_get names j ≡ None = ap (slice_get names) same ∙ past_names names k low in cc
no_alternative t name mode names ps ks (Compose rule args) k rest is are low h p = let f = h.0 in cc

pub picked_one : (t : Table) (name : Text) (mode : Bool) (names : List Text) (k : ℕ) (chosen : Text) → declared t name ≡ Some (Declared.Or mode names) → slice_get names k ≡ Some chosen → alternative t name k ≡ Some chosen
picked_one t name mode names k chosen is named = alternative_is t name mode names k is ∙ named

and_no_alternative : (t : Table) (name : Text) (rule : Rule) (k : ℕ) (c : Text) → declared t name ≡ Some (Declared.And rule) → alternative t name k ≡ Some c → ⊥
and_no_alternative t name rule k c is h = let e : alternative t name k ≡ None = rw is refl in cc

-- the first turn of a walk
module _ (t : Table) (name : Text) (n : ℕ) (ps : List ℕ) (zs : List ℤ) (ks : List ℕ) (ys : List ℤ) where
  pub no_limit : (d : Derivation) → n ≡ 0 → Walks t name n d ps zs ks ys → ⊥
  no_limit (Pick k d) none w = omega (arith, w.low, none)
  no_limit (Compose rule args) none w = omega (arith, w.low, none)

  pub next_picked : (d : Derivation) (chosen : Text) (rest : List ℕ) → (k : ℕ) × (ps ≡ k ∷ rest) × (alternative t name k ≡ Some chosen) → Walks t name n d ps zs ks ys → (k : ℕ) × (below : Derivation) × (d ≡ Pick k below) × Walks t chosen (n - 1) below rest zs ks ys
  next_picked (Pick j d) chosen rest h w =
      let f = w.picks_are in let p = h.1 in let g = w.is.1 in let q = h.2 in
      let same : j ≡ h.0 = cc in
      let e : alternative t name j ≡ Some chosen = ap (alternative t name) same ∙ q in
      let one : w.is.0 ≡ chosen = cc in
      (j, d, refl, record { right = w.right; is = subst (λ x. IsDerivation t x d) one w.is.2; low = omega (arith, w.low); picks_are = cc; fields_are = w.fields_are })
  next_picked (Compose rule args) chosen rest h w = absurd (and_no_alternative t name rule h.0 chosen w.is.0 h.2)

  pub next_made : (rule : Rule) → declared t name ≡ Some (Declared.And rule) → (d : Derivation) → Walks t name n d ps zs ks ys → (args : Arguments) × (d ≡ Compose rule args) × WalksAll t rule.pars (n - 1) args ps zs ks ys
  next_made rule is (Pick k d) w = absurd (and_no_alternative t name rule k w.is.0 is w.is.1)
  next_made rule is (Compose other args) w =
      let f = w.is.0 in
      let one : other ≡ rule = cc in
      (args, ap (λ r. Compose r args) one, record { right = w.right; here = w.right name rule is; fill = subst (λ (x : Rule). Fill t x.pars args) one w.is.1; low = omega (arith, w.low); picks_are = w.picks_are; fields_are = w.fields_are })

-- a part's derivation among the arguments
pub record PartAt (t : Table) (rule : Text) (i : ℕ) (args : Arguments) (name : Text) : Type 0 where
  pub of : Derivation
  pub at : from i args ≡ Part name of (from (suc i) args)
  pub is : IsDerivation t rule of
  pub low : height of ≤ height_of args

first_par : (pars others : List Par) (p x : Par) → pars ≡ p ∷ others → slice_get pars 0 ≡ Some x → p ≡ x
first_par pars others p x is h = let e : slice_get pars 0 ≡ Some p = rw is refl in cc

next_par : (pars others : List Par) (p x : Par) (i : ℕ) → pars ≡ p ∷ others → slice_get pars (suc i) ≡ Some x → slice_get others i ≡ Some x
next_par pars others p x i is h = let e : slice_get pars (suc i) ≡ slice_get others i = rw is refl in sym e ∙ h

pub part_at : (args : Arguments) (t : Table) (pars : List Par) (i : ℕ) (rule : Text) (x : Par) → Fill t pars args → slice_get pars i ≡ Some x → parameter_of t x.ty ≡ Some (Parameter.Part rule) → PartAt t rule i args x.name.text
part_at NoMore t pars i rule x h at is = let e : slice_get pars i ≡ None = rw h refl in absurd cc
part_at (Part name d args) t pars zero rule x h at is =
    let p = first_par pars h.1 h.0 x h.3 at in
    let named : name ≡ x.name.text = sym h.4 ∙ ap (λ q. q.name.text) p in
    let f : parameter_of t x.ty ≡ Some (Parameter.Part h.2) = ap (λ q. parameter_of t q.ty) (sym p) ∙ h.5 in
    let same : h.2 ≡ rule = cc in
    record { of = d; at = ap (λ m. Part m d args) named; is = subst (λ r. IsDerivation t r d) same h.6; low = omega arith }
part_at (Part name d args) t pars (suc i) rule x h at is =
    let p = part_at args t h.1 i rule x h.7 (next_par pars h.1 h.0 x i h.3 at) is in
    record { of = p.of; at = p.at; is = p.is; low = omega (arith, p.low) }
part_at (Field name ty z args) t pars zero rule x h at is =
    let p = first_par pars h.1 h.0 x h.2 at in
    let f : parameter_of t x.ty ≡ Some (Parameter.Field ty) = ap (λ q. parameter_of t q.ty) (sym p) ∙ h.4 in absurd cc
part_at (Field name ty z args) t pars (suc i) rule x h at is =
    let p = part_at args t h.1 i rule x h.6 (next_par pars h.1 h.0 x i h.2 at) is in
    record { of = p.of; at = p.at; is = p.is; low = p.low }

-- a field's number among the arguments
pub record FieldAt (t : Table) (i : ℕ) (args : Arguments) (x : Par) : Type 0 where
  pub ty : Ty
  pub z : ℤ
  pub at : from i args ≡ Field x.name.text ty z (from (suc i) args)
  pub is : parameter_of t x.ty ≡ Some (Parameter.Field ty)

pub field_at : (args : Arguments) (t : Table) (pars : List Par) (i : ℕ) (x : Par) → Fill t pars args → slice_get pars i ≡ Some x → ((rule : Text) → parameter_of t x.ty ≡ Some (Parameter.Part rule) → ⊥) → FieldAt t i args x
field_at NoMore t pars i x h at none = let e : slice_get pars i ≡ None = rw h refl in absurd cc
field_at (Part name d args) t pars zero x h at none =
    let p = first_par pars h.1 h.0 x h.3 at in
    absurd (none h.2 (ap (λ q. parameter_of t q.ty) (sym p) ∙ h.5))
field_at (Part name d args) t pars (suc i) x h at none =
    let f = field_at args t h.1 i x h.7 (next_par pars h.1 h.0 x i h.3 at) none in record { ty = f.ty; z = f.z; at = f.at; is = f.is }
field_at (Field name ty z args) t pars zero x h at none =
    let p = first_par pars h.1 h.0 x h.2 at in
    let named : name ≡ x.name.text = sym h.3 ∙ ap (λ q. q.name.text) p in
    record { ty = ty; z = z; at = ap (λ m. Field m ty z args) named; is = ap (λ q. parameter_of t q.ty) (sym p) ∙ h.4 }
field_at (Field name ty z args) t pars (suc i) x h at none =
    let f = field_at args t h.1 i x h.6 (next_par pars h.1 h.0 x i h.2 at) none in record { ty = f.ty; z = f.z; at = f.at; is = f.is }

-- behind the last parameter there is no argument
pub from_past : (args : Arguments) (t : Table) (pars : List Par) (i : ℕ) → Fill t pars args → length pars ≤ i → from i args ≡ NoMore
from_past NoMore t pars zero h low = refl
from_past NoMore t pars (suc i) h low = refl
from_past (Part name d args) t pars zero h low = let l = ap length h.3 in absurd (omega (arith, l, low))
from_past (Part name d args) t pars (suc i) h low = let l = ap length h.3 in from_past args t h.1 i h.7 (omega (arith, l, low))
from_past (Field name ty z args) t pars zero h low = let l = ap length h.2 in absurd (omega (arith, l, low))
from_past (Field name ty z args) t pars (suc i) h low = let l = ap length h.2 in from_past args t h.1 i h.6 (omega (arith, l, low))

-- the part at this place walks from the lists that are left
pub walks_at : (t : Table) (pars : List Par) (n : ℕ) (args : Arguments) (ps : List ℕ) (zs : List ℤ) (ks : List ℕ) (ys : List ℤ) (i : ℕ) (rule : Text) (x : Par) (ps2 : List ℕ) (zs2 : List ℤ) → WalksAll t pars n args ps zs ks ys → slice_get pars i ≡ Some x → parameter_of t x.ty ≡ Some (Parameter.Part rule)
    → ps2 ≡ picks_of (from i args) ++ ks → zs2 ≡ fields_of (from i args) ++ ys → (p : PartAt t rule i args x.name.text) × Walks t rule n p.of ps2 zs2 (picks_of (from (suc i) args) ++ ks) (fields_of (from (suc i) args) ++ ys)
walks_at t pars n args ps zs ks ys i rule x ps2 zs2 w at is ps_are zs_are =
    let p = part_at args t pars i rule x w.fill at is in (
      p,
      record {
        right = w.right;
        is = p.is;
        low = omega (arith, p.low, w.low);
        picks_are = ps_are ∙ ap (λ a. picks_of a ++ ks) p.at ∙ append_assoc (picks p.of) (picks_of (from (suc i) args)) ks;
        fields_are = zs_are ∙ ap (λ a. fields_of a ++ ys) p.at ∙ append_assoc (fields p.of) (fields_of (from (suc i) args)) ys;
      },
    )

pub left_past : (t : Table) (pars : List Par) (n : ℕ) (args : Arguments) (ps : List ℕ) (zs : List ℤ) (ks : List ℕ) (ys : List ℤ) (i : ℕ) (ps2 : List ℕ) (zs2 : List ℤ) → WalksAll t pars n args ps zs ks ys → length pars ≤ i → (ps2 ≡ picks_of (from i args) ++ ks) × (zs2 ≡ fields_of (from i args) ++ ys) → (ps2 ≡ picks_of (from (i + 1) args) ++ ks) × (zs2 ≡ fields_of (from (i + 1) args) ++ ys)
left_past t pars n args ps zs ks ys i ps2 zs2 w low h =
    let e : from i args ≡ from (i + 1) args = from_past args t pars i w.fill low ∙ sym (from_past args t pars (i + 1) w.fill (omega (arith, low))) in
    (h.0 ∙ ap (λ a. picks_of a ++ ks) e, h.1 ∙ ap (λ a. fields_of a ++ ys) e)

-- what is behind all arguments is behind the derivation
pub behind_all : (t : Table) (pars : List Par) (n l : ℕ) (args : Arguments) (ps : List ℕ) (zs : List ℤ) (ks : List ℕ) (ys : List ℤ) (ps2 : List ℕ) (zs2 : List ℤ) → l ≡ length pars → WalksAll t pars n args ps zs ks ys → (ps2 ≡ picks_of (from l args) ++ ks) × (zs2 ≡ fields_of (from l args) ++ ys) → (ps2 ≡ ks) × (zs2 ≡ ys)
behind_all t pars n l args ps zs ks ys ps2 zs2 len w r =
    let none : from l args ≡ NoMore = from_past args t pars l w.fill (omega (arith, len)) in
    (r.0 ∙ ap (λ a. picks_of a ++ ks) none, r.1 ∙ ap (λ a. fields_of a ++ ys) none)

pub later_name : (first : Text) (rest : List (ℕ × Name)) (k : ℕ) (x : ℕ × Name) → 0 < k → slice_get rest (k - 1) ≡ Some x → slice_get (first ∷ map (λ (bar, n). n.text) rest) k ≡ Some x.1.text
later_name first rest zero x some h = absurd (omega (arith, some))
later_name first rest (suc k) x some h = let e : suc k - 1 ≡ k = omega arith in mapped rest k x (ap (slice_get rest) (sym e) ∙ h)
  where
    mapped : (rest : List (ℕ × Name)) (k : ℕ) (x : ℕ × Name) → slice_get rest k ≡ Some x → slice_get (map (λ (bar, n). n.text) rest) k ≡ Some x.1.text
    mapped [] k x h = absurd cc
    mapped (y ∷ rest) zero x h = let e : y ≡ x = cc in ap (λ p. Some p.1.text) e
    mapped (y ∷ rest) (suc k) x h = mapped rest k x h

pub port_no_rule : (t : Table) (w : PortWord) (ty : Ty) → IsNoRule (Some (port_of t w ty))
port_no_rule t (port.Trn at) ty = tt
port_no_rule t (port.Inp at) ty = tt
port_no_rule t (port.Out at) ty = tt
