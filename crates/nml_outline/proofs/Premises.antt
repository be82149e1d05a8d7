-- What a typed description gives its derivations: images and syntaxes that name each parameter once, types of 1 to 64 bits, and that nothing touches.
use Rattle.std.proofs.Common.{ℕ, zero, suc, ◌+◌, ◌≡◌, refl, sym, ap, subst, Bool, true, false, List, [], ◌∷◌, ◌++◌, map, length, Option, Some, None, Contains, arith, ◌⊎◌, inl, inr}
use Rattle.std.specs.Prelude.{cond, flat_map, ◌||◌, codes}
use Rattle.std.specs.Map.{lookup}
use Rattle.std.proofs.lemmas.Bool.{and_parts, leb-true}
use Rattle.std.proofs.lemmas.List.Elements.{Contains-append_left, Contains-push}
use Rattle.nk_base.specs.Number.{IsTy}
use Rattle.nk_base.specs.Text.{text_eq}
use Rattle.nk_base.specs.declared.number.Ty.{Ty}
use Rattle.nk_base.specs.declared.number.Ty.TheVariants as tys
use Rattle.nml_tree.specs.declared.names.Name.{Name}
use Rattle.nml_tree.specs.declared.tree.PortWord.{PortWord}
use Rattle.nml_tree.specs.declared.tree.PortWord.TheVariants as port
use Rattle.nml_tree.specs.declared.tree.Item.{Item}
use Rattle.nml_tree.specs.declared.tree.Item.TheVariants as item
use Rattle.nml_tree.specs.declared.tree.Desc.{Desc}
use Rattle.nml_tree.specs.declared.tree.Par.{Par}
use Rattle.nml_tree.specs.Table.{Text, Table, Rule, Declared, declared, table, entry, entries, port_of, Parameter, parameter_of}
use Rattle.nml_tree.specs.Derivation.{Derivation, Arguments, Pick, Compose, NoMore, Part, Field, IsDerivation, Fill}
use Rattle.nml_tree.specs.Directives.{Syntax, Image, text_place}
use Rattle.nml_tree.specs.Edge.{has_touch}
use Rattle.nml_tree.specs.Image.{image}
use Rattle.nml_tree.specs.NameFault.{is_among, item_name_places, name_places_from, name_places, unknown_places, declared_places, shared_places}
use Rattle.nml_tree.specs.NameFault as name_fault
use Rattle.nml_tree.specs.Outline.{types, types_of}
use Rattle.nml_tree.specs.Refused.{IsFreeBelow, By_name, By_type, By_mention, By_word, By_edge}
use Rattle.nml_tree.specs.TypeFault.{rule_places, item_places, type_fault_places}
use Rattle.nml_tree.specs.Uses.{parameters}
use Rattle.nml_tree.specs.Valid.{IsRoot, WordFault, EdgeFault}
use Rattle.nml_tree.specs.Worth.{is_type, rule_scope}
use Rattle.nml_widths.proofs.Fits.{unless_none, when_none, no_left, no_right}
use Rattle.nml_widths.proofs.ModeFits.{ParRight}
use Rattle.nml_widths.proofs.WidthLaws.{is_sound}
use Rattle.nml_outline.proofs.Stands.{TypeAt, type_either}
use Rattle.nml_outline.proofs.Stood.{NotAmong, AreApart, HasLinearImages, HasLinearTexts}
use Rattle.nml_outline.proofs.Linear.{images_once, texts_once}
use Rattle.nml_outline.proofs.Filled.{right_filled}
use Rattle.nml_outline.proofs.ShapeWords.{HasTypes}

none_from : (xs : List ℕ) → ((at : ℕ) → Contains xs at → ⊥) → xs ≡ []
none_from [] h = refl
none_from (x ∷ xs) h = absurd (h x (0, omega arith, refl))

flat_none : (f : Item → List ℕ) (xs : List Item) (i : Item) → Contains xs i → flat_map f xs ≡ [] → f i ≡ []
flat_none f [] i c h = absurd (omega (arith, c.1))
flat_none f (x ∷ xs) i (zero, low, is) h = subst (λ y. f y ≡ []) is (no_left _ _ h)
flat_none f (x ∷ xs) i (suc k, low, is) h = flat_none f xs i (k, omega (arith, low), is) (no_right (f x) _ h)

last_here : (b : Bool) (y x : Declared) → cond b (Some y) None ≡ Some x → y ≡ x
last_here true y x h = cc
last_here false y x h = absurd cc

last_step : (b : Bool) (y x : Declared) (o p : Option Declared) (Q : Type 0) → (p ≡ Some x → (o ≡ Some x) ⊎ Q) → cond b (Some y) p ≡ Some x → (cond b (Some y) o ≡ Some x) ⊎ Q
last_step true y x o p Q f h = inl h
last_step false y x o p Q f h = f h

lookup_last : (t : Table) (e : Text × Declared) (name : Text) (x : Declared) → lookup (text_eq name) (t ++ e ∷ []) ≡ Some x → (lookup (text_eq name) t ≡ Some x) ⊎ (e.1 ≡ x)
lookup_last [] e name x h = inr (last_here (text_eq name e.0) e.1 x h)
lookup_last (a ∷ t) e name x h = last_step (text_eq name a.0) a.1 x (lookup (text_eq name) t) (lookup (text_eq name) (t ++ e ∷ [])) _ (lookup_last t e name x) h

-- what is declared is declared by an item
abbrev Found : List Item → Declared → Type 0
Found items x = (t : Table) × (i : Item) × Contains items i × ((entry t i).1 ≡ x)

found : (items : List Item) (t : Table) (name : Text) (x : Declared) → declared (entries t items) name ≡ Some x → (declared t name ≡ Some x) ⊎ Found items x
found [] t name x h = inl h
found (i ∷ items) t name x h =
    elim (found items (t ++ entry t i ∷ []) name x h) [
      | inl k ↦ elim (lookup_last t (entry t i) name x k) [ inl m ↦ inl m | inr e ↦ inr (t, i, (0, omega arith, refl), e) ]
      | inr f ↦ inr (f.0, f.1, (suc f.2.0, omega (arith, f.2.1), f.2.2), f.3)
    ]

found_in : (d : Desc) (name : Text) (x : Declared) → declared (table d) name ≡ Some x → Found d.items x
found_in d name x h = elim (found d.items [] name x h) [ inl k ↦ absurd cc | inr f ↦ f ]

named_item : (whole : Table) (all earlier items : List Item) (i : Item) → Contains items i → name_places_from whole all earlier items ≡ [] → (before : List Item) × (item_name_places whole all before i ≡ [])
named_item whole all earlier [] i c h = absurd (omega (arith, c.1))
named_item whole all earlier (x ∷ items) i (zero, low, is) h = (earlier, subst (λ y. item_name_places whole all earlier y ≡ []) is (no_left _ _ h))
named_item whole all earlier (x ∷ items) i (suc k, low, is) h = named_item whole all (earlier ++ x ∷ []) items i (k, omega (arith, low), is) (no_right (item_name_places whole all earlier x) _ h)

-- what N4 and N6 say of an and-rule where they fail
record IsClear (t : Table) (rule : Rule) : Type 0 where
  right : rule_places t rule ≡ []
  named : name_fault.parameter_places [] (map (λ p. p.name) rule.pars) ≡ []

and_same : (a b : Rule) → Declared.And a ≡ Declared.And b → a ≡ b
and_same a b h = cc

no_port_rule : (t : Table) (w : PortWord) (ty : Ty) (rule : Rule) → port_of t w ty ≡ Declared.And rule → ⊥
no_port_rule t (port.Trn at) ty rule h = cc
no_port_rule t (port.Inp at) ty rule h = cc
no_port_rule t (port.Out at) ty rule h = cc

rule_item : (whole t : Table) (i : Item) (rule : Rule) → (entry t i).1 ≡ Declared.And rule → item_places whole i ≡ [] → name_fault.parameter_places [] (parameters i) ≡ [] → IsClear whole rule
rule_item whole t (item.Let at n equals minus z) rule e h w = absurd cc
rule_item whole t (item.Type at n equals x) rule e h w = absurd cc
rule_item whole t (item.Storage s) rule e h w = absurd cc
rule_item whole t (item.Port p) rule e h w = absurd (no_port_rule t p.word _ rule e)
rule_item whole t (item.OrRule r) rule e h w = absurd cc
rule_item whole t (item.OpRule r) rule e h w = subst (IsClear whole) (and_same _ rule e) (record { right = h; named = w })
rule_item whole t (item.ModeRule r) rule e h w = subst (IsClear whole) (and_same _ rule e) (record { right = h; named = w })

clear : (d : Desc) → IsFreeBelow 7 d → (name : Text) (rule : Rule) → declared (table d) name ≡ Some (Declared.And rule) → IsClear (table d) rule
clear d free name rule h =
    let f = found_in d name (Declared.And rule) h in
    let names : name_places d ≡ [] = none_from (name_places d) (λ at c. free 4 (omega arith) (By_name at c)) in
    let places : type_fault_places d ≡ [] = none_from (type_fault_places d) (λ at c. free 6 (omega arith) (By_type at c)) in
    let here = named_item (table d) d.items [] d.items f.1 f.2 names in
    let first = no_left (unknown_places (table d) here.0 f.1 ++ declared_places here.0 f.1 ++ name_fault.parameter_places [] (parameters f.1)) (flat_map (shared_places d.items) (parameters f.1)) here.1 in
    rule_item (table d) f.0 f.1 rule f.3 (flat_none (item_places (table d)) d.items f.1 f.2 places)
    (no_right (unknown_places (table d) here.0 f.1 ++ declared_places here.0 f.1) (name_fault.parameter_places [] (parameters f.1)) first)

first_false : (a b c : Bool) → (a || b || c) ≡ false → a ≡ false
first_false true b c h = absurd cc
first_false false b c h = refl

any_false : (q : Text) (before : List Name) (x : Name) → is_among q before ≡ false → Contains before x → text_eq q x.text ≡ false
any_false q [] x h c = absurd (omega (arith, c.1))
any_false q (y ∷ before) x h (zero, low, is) = subst (λ (z : Name). text_eq q z.text ≡ false) is (left (text_eq q y.text) (is_among q before) h)
  where
    left : (a b : Bool) → (a || b) ≡ false → a ≡ false
    left true b h = absurd cc
    left false b h = refl
any_false q (y ∷ before) x h (suc k, low, is) = any_false q before x (right (text_eq q y.text) (is_among q before) h) (k, omega (arith, low), is)
  where
    right : (a b : Bool) → (a || b) ≡ false → b ≡ false
    right true b h = absurd cc
    right false b h = h

not_among : (x : Name) (before : List Name) (pars : List Par) → Contains before x → name_fault.parameter_places before (map (λ p. p.name) pars) ≡ [] → NotAmong x.text pars
not_among x before [] c h = tt
not_among x before (p ∷ pars) c h = (
  any_false p.name.text before x (first_false _ (text_eq p.name.text (codes "PC")) (text_eq p.name.text (codes "instruction")) (when_none _ p.name.at (no_left _ _ h))) c,
  not_among x (before ++ p.name ∷ []) pars (Contains-append_left before (p.name ∷ []) x c) (no_right _ _ h),
)

-- no two parameters have one name
apart_from : (before : List Name) (pars : List Par) → name_fault.parameter_places before (map (λ p. p.name) pars) ≡ [] → AreApart pars
apart_from before [] h = tt
apart_from before (p ∷ pars) h = (
  not_among p.name (before ++ p.name ∷ []) pars (Contains-push before p.name) (no_right _ _ h),
  apart_from (before ++ p.name ∷ []) pars (no_right _ _ h),
)

pub linear_images : (d : Desc) → IsFreeBelow 9 d → HasLinearImages (table d)
linear_images d free name rule is =
    let c = clear d (λ k low. free k (omega (arith, low))) name rule is in
    record {
      apart = apart_from [] rule.pars c.named;
      once = images_once (table d) name rule is (λ p f. free 8 (omega arith) (By_mention name p f));
      filled = right_filled Image (rule_scope (table d) rule).pars rule.image (unless_none _ (text_place rule.image) (no_right _ _ (no_left _ _ (no_left _ _ c.right))));
    }

pub linear_texts : (d : Desc) → IsFreeBelow 9 d → HasLinearTexts (table d)
linear_texts d free name rule is =
    let c = clear d (λ k low. free k (omega (arith, low))) name rule is in
    record {
      apart = apart_from [] rule.pars c.named;
      once = texts_once (table d) name rule is (λ p f. free 8 (omega arith) (By_mention name p f));
      filled = right_filled Syntax (rule_scope (table d) rule).pars rule.syntax (unless_none _ (text_place rule.syntax) (no_right _ _ (no_left _ _ (no_left _ _ (no_left _ _ c.right)))));
    }

is_ty : (ty : Ty) → is_type ty ≡ true → IsTy ty
is_ty tys.Bool h = tt
is_ty (tys.Card n) h = let p = and_parts _ _ h in (leb-true 1 n p.0, leb-true n 64 p.1)
is_ty (tys.Int n) h = let p = and_parts _ _ h in (leb-true 1 n p.0, leb-true n 64 p.1)

-- each parameter of a list is a part, or a field of a type
abbrev AreRight : Table → List Par → Type 0
AreRight t pars = (p : Par) → Contains pars p → ParRight (parameter_of t p.ty)

behind : (t : Table) (pars : List Par) (p : Par) (others : List Par) → pars ≡ p ∷ others → AreRight t pars → AreRight t others
behind t pars p others is h q c = h q (subst (λ ps. Contains ps q) (sym is) (suc c.0, omega (arith, c.1), c.2))

field_here : (t : Table) (pars : List Par) (p : Par) (others : List Par) (ty : Ty) → pars ≡ p ∷ others → parameter_of t p.ty ≡ Some (Parameter.Field ty) → AreRight t pars → IsTy ty
field_here t pars p others ty is e h = is_ty ty (subst ParRight e (h p (subst (λ ps. Contains ps p) (sym is) (0, omega arith, refl))))

mutual
  types_right : (x : Derivation) (t : Table) → ((name : Text) (rule : Rule) → declared t name ≡ Some (Declared.And rule) → AreRight t rule.pars) → (name : Text) → IsDerivation t name x
      → (m n : ℕ) (ty : Ty) → TypeAt (types x) m n ty → IsTy ty
  types_right (Pick k x) t right name h m n ty at = types_right x t right h.0 h.2 m n ty at
  types_right (Compose rule args) t right name h m n ty at = types_right_of args t right rule.pars (right name rule h.0) h.1 m n ty at

  types_right_of : (a : Arguments) (t : Table) → ((name : Text) (rule : Rule) → declared t name ≡ Some (Declared.And rule) → AreRight t rule.pars) → (pars : List Par) → AreRight t pars → Fill t pars a
      → (m n : ℕ) (ty : Ty) → TypeAt (types_of a) m n ty → IsTy ty
  types_right_of NoMore t right pars each h m n ty at = absurd at
  types_right_of (Part name x args) t right pars each h m n ty at =
      elim (type_either (types x) (types_of args) m n ty at) [
        | inl here ↦ types_right x t right h.2 h.6 m n ty here
        | inr there ↦ types_right_of args t right h.1 (behind t pars h.0 h.1 h.3 each) h.7 (m + length (types x)) n ty there
      ]
  types_right_of (Field name u z args) t right pars each h m n ty (inl at) = subst IsTy at.1 (field_here t pars h.0 h.1 u h.2 h.4 each)
  types_right_of (Field name u z args) t right pars each h m n ty (inr at) = types_right_of args t right h.1 (behind t pars h.0 h.1 h.2 each) h.6 (m + 1) n ty at

-- each field of a derivation has a type of 1 to 64 bits
pub has_types : (d : Desc) → IsFreeBelow 8 d → (name : Text) (x : Derivation) → IsDerivation (table d) name x → HasTypes x
has_types d free name x h n ty at = types_right x (table d) (λ q rule is. ((is_sound d free).rules q rule is).fields) name h 0 n ty at

-- nothing touches in the flattened syntax of a derivation
pub no_touch : (d : Desc) → IsFreeBelow 11 d → (x : Derivation) (name : Text) → IsDerivation (table d) name x → has_touch x ≡ false
no_touch d free (Pick k x) name h = no_touch d free x h.0 h.2
no_touch d free (Compose rule args) name h = by (has_touch (Compose rule args)) refl
  where
    by : (b : Bool) → has_touch (Compose rule args) ≡ b → has_touch (Compose rule args) ≡ false
    by true e = absurd (free 10 (omega arith) (By_edge name (EdgeFault.Touching rule args h e)))
    by false e = e

either : (m n : ℕ) → (m ≡ n) ⊎ (m ≡ n → ⊥)
either zero zero = inl refl
either zero (suc n) = inr (λ e. omega (arith, e))
either (suc m) zero = inr (λ e. omega (arith, e))
either (suc m) (suc n) = elim (either m n) [ inl e ↦ inl (ap suc e) | inr h ↦ inr (λ e. h (omega (arith, e))) ]

-- all instructions have images of one width
pub one_width : (d : Desc) → IsFreeBelow 10 d → (x y : Derivation) → IsRoot (table d) x → IsRoot (table d) y → length (image x) ≡ length (image y)
one_width d free x y h k =
    elim (either (length (image x)) (length (image y))) [
      | inl e ↦ e
      | inr n ↦ absurd (free 9 (omega arith) (By_word (codes "instruction") (WordFault.RootDiffers x y refl h k n)))
    ]
