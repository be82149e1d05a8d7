-- What a rule is made of stands before it in the order, so what holds of a rule where it holds of those can be shown from one rule to the next.
use Rattle.std.proofs.Common.{ℕ, suc, ◌≡◌, ◌<◌, pos, refl, sym, ◌∙◌, ap, subst, arith, Bool, true, List, [], ◌∷◌, length, slice_index_or, Option, Some, None, option_map, option_and_then, Contains}
use Rattle.nml_tree.specs.declared.tree.Par.{Par}
use Rattle.nml_tree.specs.declared.tree.Item.{Item}
use Rattle.nml_tree.specs.declared.tree.Desc.{Desc}
use Rattle.nml_tree.specs.Table.{Text, Table, Declared, Parameter, declared, table, parameter_of}
use Rattle.nml_tree.specs.Derivation.{Derivation, Arguments, Pick, Compose, NoMore, Part, Field, IsDerivation, Fill}
use Rattle.nml_tree.specs.NameFault as item
use Rattle.nml_tree.specs.Reach.{IsBelow}
use Rattle.nml_tree.specs.Refused.{IsFreeBelow}
use Rattle.nml_tree.specs.TypeFault.{is_rule_of}
use Rattle.nml_tree.specs.Worth.{is_rule}
use Rattle.nml_names.specs.declared.names.Declaration.{Declaration}
use Rattle.nml_names.specs.Naming.{declaration}
use Rattle.nml_names.specs.Below.{below, graph}
use Rattle.graphs.specs.Graphs.{Grounded, grounded, Edge, IsOrder, StandsBefore}
use Rattle.nml_names.proofs.RuleNames.{Stands, first_item, only_rule, declared_rule}
use Rattle.nml_names.proofs.Cycles.{RuleAt, rule_at, step_forth, part_is_rule, some_item, below_length, length_rows}
use Rattle.nml_widths.proofs.ModeFits.{ParRight, zero_in}
use Rattle.nml_widths.proofs.Settled.{part_rule}
use Rattle.nml_widths.proofs.WidthLaws.{is_sound, alternatives_of}
use Rattle.nml_upward.specs.Upward.{IsRule, HasNumber, IsParameter, AreMade}

rule_of_mode : (mode : Bool) (o : Option Declared) → is_rule_of mode o ≡ true → is_rule o ≡ true
rule_of_mode mode None h = absurd cc
rule_of_mode mode (Some (Declared.Constant z)) h = absurd cc
rule_of_mode mode (Some (Declared.TypeName ty)) h = absurd cc
rule_of_mode mode (Some (Declared.Storage n k ty)) h = absurd cc
rule_of_mode mode (Some (Declared.Trn n ty)) h = absurd cc
rule_of_mode mode (Some (Declared.Inp ty)) h = absurd cc
rule_of_mode mode (Some (Declared.Out ty)) h = absurd cc
rule_of_mode mode (Some (Declared.Or m names)) h = refl
rule_of_mode mode (Some (Declared.And rule)) h = refl

parameter_is : (t : Table) (p : Par) (o : Option Parameter) → parameter_of t p.ty ≡ o → ParRight o → IsParameter t o
parameter_is t p None is h = h
parameter_is t p (Some (Parameter.Field ty)) is h = h
parameter_is t p (Some (Parameter.Part b)) is h = part_rule t p.ty b is

-- a description in which names, cycles, types and widths are right
pub are_made : (d : Desc) → IsFreeBelow 8 d → AreMade (table d)
are_made d free = record {
  some = λ name mode names h. (is_sound d free).names name (Declared.Or mode names) h;
  alternatives = λ name mode names h chosen c. rule_of_mode mode (declared (table d) chosen) (alternatives_of d free name mode names h chosen c);
  parameters = λ name rule h p c. parameter_is (table d) p (parameter_of (table d) p.ty) refl (((is_sound d free).rules name rule h).fields p c);
}

-- what is below a rule is a rule
pub below_is_rule : (t : Table) → AreMade t → (a b : Text) → IsBelow t a b → IsRule t b
below_is_rule t made a b (IsBelow.Alternative mode names is c) = made.alternatives a mode names is b c
below_is_rule t made a b (IsBelow.Part rule p is c part) = subst (IsParameter t) part (made.parameters a rule is p c)

-- a rule's name has an item, which is a rule
item_of : (d : Desc) (a : Text) (o : Option Declared) → declared (table d) a ≡ o → is_rule o ≡ true → (i : Item) × (first_item d.items a ≡ Some i) × (item.is_rule i ≡ true)
item_of d a None is h = absurd cc
item_of d a (Some (Declared.Constant z)) is h = absurd cc
item_of d a (Some (Declared.TypeName ty)) is h = absurd cc
item_of d a (Some (Declared.Storage n k ty)) is h = absurd cc
item_of d a (Some (Declared.Trn n ty)) is h = absurd cc
item_of d a (Some (Declared.Inp ty)) is h = absurd cc
item_of d a (Some (Declared.Out ty)) is h = absurd cc
item_of d a (Some (Declared.Or mode names)) is h =
    let s = some_item d a (Declared.Or mode names) (sym (declared_rule d a) ∙ ap (option_and_then only_rule) is) in (s.0, s.1, part_is_rule d s.0 _ s.2)
item_of d a (Some (Declared.And rule)) is h =
    let s = some_item d a (Declared.And rule) (sym (declared_rule d a) ∙ ap (option_and_then only_rule) is) in (s.0, s.1, part_is_rule d s.0 _ s.2)

stands_number : (d : Desc) (a : Text) (n : ℕ) → Stands d.items 0 a n → HasNumber d a n
stands_number d a n s = let l = s.number in let e : s.known.first ≡ n = omega (arith, l) in ap (λ o. option_map (λ (k : Declaration). k.first) o) s.is ∙ ap Some e

-- a rule has a number, and stands there
pub rule_number : (d : Desc) (a : Text) → IsRule (table d) a → (n : ℕ) × RuleAt d a n × HasNumber d a n
rule_number d a h = let r = rule_at d a (item_of d a (declared (table d) a) refl h) in (r.0, r.1, stands_number d a r.0 r.1.stands)

same_number : (m n : ℕ) → Some m ≡ Some n → m ≡ n
same_number m n h = cc

pub number_once : (d : Desc) (a : Text) (m n : ℕ) → HasNumber d a m → HasNumber d a n → m ≡ n
number_once d a m n h k = same_number m n (sym h ∙ k)

-- a rule stands at its number
pub at_number : (d : Desc) (a : Text) (n : ℕ) → HasNumber d a n → IsRule (table d) a → RuleAt d a n
at_number d a n h rule = let r = rule_number d a rule in subst (RuleAt d a) (number_once d a r.0 n r.2 h) r.1

-- what is below a rule has a number that the rule's number names
pub below_edge : (d : Desc) → AreMade (table d) → (a b : Text) (n : ℕ) → HasNumber d a n → IsRule (table d) a → IsBelow (table d) a b → (m : ℕ) × HasNumber d b m × Edge (graph d.items) n m
below_edge d made a b n h rule below =
    let r = rule_number d b (below_is_rule (table d) made a b below) in
    (r.0, r.2, step_forth d a b n r.0 below (at_number d a n h rule) r.1)

-- so it stands before the rule in the order
pub below_stands : (d : Desc) → AreMade (table d) → (order : List ℕ) → IsOrder (graph d.items) order → (p : ℕ) → p < length order → (a b : Text) → HasNumber d a (slice_index_or order p 0) → IsRule (table d) a → IsBelow (table d) a b
    → (m : ℕ) × HasNumber d b m × StandsBefore order p m
below_stands d made order is p low a b h rule below =
    let e = below_edge d made a b (slice_index_or order p 0) h rule below in
    (e.0, e.1, is.behind p e.0 low e.2)

-- a derivation
abbrev pub HasOne : Table → Text → Type 0
HasOne t a = (x : Derivation) × IsDerivation t a x

pub behind : (p : Par) (pars : List Par) (q : Par) → Contains pars q → Contains (p ∷ pars) q
behind p pars q c = (suc c.0, omega (arith, c.1), c.2)

-- arguments for parameters, where each part has a derivation
pub has_arguments : (t : Table) (pars : List Par) → ((p : Par) → Contains pars p → IsParameter t (parameter_of t p.ty)) → ((p : Par) (b : Text) → Contains pars p → parameter_of t p.ty ≡ Some (Parameter.Part b) → HasOne t b) → (args : Arguments) × Fill t pars args
has_arguments t [] right parts = (NoMore, refl)
has_arguments t (p ∷ pars) right parts =
    by (parameter_of t p.ty) refl (right p (0, omega arith, refl)) (has_arguments t pars (λ q c. right q (behind p pars q c)) (λ q b c. parts q b (behind p pars q c)))
  where
    by : (o : Option Parameter) → parameter_of t p.ty ≡ o → IsParameter t o → ((args : Arguments) × Fill t pars args) → (args : Arguments) × Fill t (p ∷ pars) args
    by None is h more = absurd h
    by (Some (Parameter.Field ty)) is h more = (Field p.name.text ty (pos 0) more.0, (p, pars, refl, refl, is, zero_in ty, more.1))
    by (Some (Parameter.Part b)) is h more = let x = parts p b (0, omega arith, refl) is in (Part p.name.text x.0 more.0, (p, pars, b, refl, refl, is, x.1, more.1))

-- a rule has a derivation where all below it have one
pub has_one : (t : Table) → AreMade t → (a : Text) (o : Option Declared) → declared t a ≡ o → is_rule o ≡ true → ((b : Text) → IsBelow t a b → HasOne t b) → HasOne t a
has_one t made a None is h below = absurd cc
has_one t made a (Some (Declared.Constant z)) is h below = absurd cc
has_one t made a (Some (Declared.TypeName ty)) is h below = absurd cc
has_one t made a (Some (Declared.Storage n k ty)) is h below = absurd cc
has_one t made a (Some (Declared.Trn n ty)) is h below = absurd cc
has_one t made a (Some (Declared.Inp ty)) is h below = absurd cc
has_one t made a (Some (Declared.Out ty)) is h below = absurd cc
has_one t made a (Some (Declared.Or mode [])) is h below = absurd (omega (arith, made.some a mode [] is))
has_one t made a (Some (Declared.Or mode (x ∷ names))) is h below =
    let one = below x (IsBelow.Alternative mode (x ∷ names) is (0, omega arith, refl)) in
    (Pick 0 one.0, (x, rw is refl, one.1))
has_one t made a (Some (Declared.And rule)) is h below =
    let args = has_arguments t rule.pars (made.parameters a rule is) (λ p b c part. below b (IsBelow.Part rule p is c part)) in
    (Compose rule args.0, (is, args.1))

derives : (d : Desc) → AreMade (table d) → (n : ℕ) → Grounded (graph d.items) n → (a : Text) → HasNumber d a n → IsRule (table d) a → HasOne (table d) a
derives d made n (grounded f) a h rule = has_one (table d) made a (declared (table d) a) refl rule (λ b below. let e = below_edge d made a b n h rule below in derives d made e.0 (f e.0 e.2) b e.1 (below_is_rule (table d) made a b below))

pub has_derivation : (d : Desc) (order : List ℕ) (a : Text) → IsFreeBelow 8 d → IsOrder (graph d.items) order → IsRule (table d) a → HasOne (table d) a
has_derivation d order a free is rule =
    let made = are_made d free in
    let r = rule_number d a rule in
    let low : r.0 < length d.items = below_length d d.items r.0 r.1.stands.what r.1.stands.at in
    derives d made r.0 (is.grounded r.0 (rw (length_rows d (below (declaration 0 d.items)) d.items) low)) a r.2 rule
