-- In each string of a syntax no more than 18 digits stand in a row, and nothing touches.
use Rattle.std.proofs.Common.{◌≡◌, ℕ, ◌+◌, ◌<◌, Bool, true, false, List, [], ◌∷◌, ◌++◌, append_assoc, map, length, refl, ap, sym, subst, ◌∙◌, arith, cond, Option, Some, None, Contains, codes}
use Rattle.std.specs.Prelude.{◌&&◌, ◌==◌, nat_le, option_and_then, unwrap_or, if◌then◌else◌, flat_map}
use Rattle.std.specs.Char.{is_ascii_digit}
use Rattle.std.specs.Map.{lookup}
use Rattle.std.proofs.lemmas.Bool.{leb-true}
use Rattle.nk_base.specs.Text.{text_eq}
use Rattle.nml_tree.specs.declared.attributes.Arg.{Arg}
use Rattle.nml_tree.specs.declared.attributes.Attribute.{Attribute}
use Rattle.nml_tree.specs.declared.attributes.Template.{Template}
use Rattle.nml_tree.specs.declared.attributes.Template.TheVariants as template
use Rattle.nml_tree.specs.declared.tree.Par.{Par}
use Rattle.nml_tree.specs.declared.tree.Item.{Item}
use Rattle.nml_tree.specs.declared.tree.Item.TheVariants as item
use Rattle.nml_tree.specs.declared.tree.Desc.{Desc}
use Rattle.nml_tree.specs.Attribute.{FormatPiece, Letter, Directive, pieces, directive_behind}
use Rattle.nml_tree.specs.Derivation.{Derivation, Arguments, Pick, Compose, NoMore, Part, Field, IsDerivation, Fill, fields}
use Rattle.nml_tree.specs.Directives.{Syntax, Pars, parameter, is_part, is_same, takes, are_taken, are_allowed, are_short, are_right, is_right}
use Rattle.nml_tree.specs.Edge as edge
use Rattle.nml_tree.specs.Edge.{Flat, flat, flats, has_touch}
use Rattle.nml_tree.specs.Formula.{formula}
use Rattle.nml_tree.specs.Refused.{IsFreeBelow, By_type, By_edge}
use Rattle.nml_tree.specs.Table.{Text, Table, Rule, Declared, declared, table, rule_of, Parameter, parameter_of}
use Rattle.nml_tree.specs.Template.{given, put_in, text_of}
use Rattle.nml_tree.specs.TypeFault.{item_places, rule_places, type_fault_places}
use Rattle.nml_tree.specs.Uses.{declares}
use Rattle.nml_tree.specs.Valid.{IsRoot, EdgeFault}
use Rattle.nml_names.proofs.RuleNames.{first_item, rule_part, only_rule, declared_rule}
use Rattle.nml_widths.proofs.Fits.{no_left, no_right, unless_none}
use Rattle.shape_list.specs.Runs.{AreShort}
use Rattle.shape_list.proofs.Runs.{Own, own_front, are_short_runs}

-- what a parameter gives: its digits are its own
abbrev Good : List Flat → Type 0
Good gs = (k : ℕ) (rest : List Flat) → Own 0 rest → Own k (gs ++ rest)

-- a text, behind which a string ends
abbrev Ends : List Flat → Type 0
Ends gs = (rest : List Flat) → Own 0 rest → Own 0 (gs ++ edge.Seam ∷ rest)

good_part : (gs : List Flat) → Ends gs → Good (edge.Seam ∷ (gs ++ edge.Seam ∷ []))
good_part gs e k rest h = subst (Own 0) (sym (append_assoc gs (edge.Seam ∷ []) rest)) (e rest h)

abbrev AllGood : Pars → List (Text × List Flat) → Type 0
AllGood pars gs = (name : Text) (o : Parameter) → parameter pars name ≡ Some o → Good (given gs name)

and_left : (a b : Bool) → (a && b) ≡ true → a ≡ true
and_left true b h = refl
and_left false b h = absurd cc

and_right : (a b : Bool) → (a && b) ≡ true → b ≡ true
and_right true b h = h
and_right false b h = absurd cc

taken_some : (ds : List ℕ) (k : ℕ) (o : Option Parameter) (a : Option (ℕ × Attribute)) → takes Syntax ds k o a ≡ true → (p : Parameter) × (o ≡ Some p)
taken_some ds k None a h = absurd cc
taken_some ds k (Some p) a h = (p, refl)

part_some : (o : Option Parameter) → is_part o ≡ true → (p : Parameter) × (o ≡ Some p)
part_some None h = absurd cc
part_some (Some p) h = (p, refl)

short_digit : (n c : ℕ) (qs : List FormatPiece) → is_ascii_digit c ≡ true → are_short n (Letter c ∷ qs) ≡ true → (n < 18) × (are_short (n + 1) qs ≡ true)
short_digit n c qs d h =
    let g : (nat_le (n + 1) 18 && are_short (n + 1) qs) ≡ true = rw d at h in
    (omega (arith, leb-true (n + 1) 18 (and_left (nat_le (n + 1) 18) (are_short (n + 1) qs) g)), and_right (nat_le (n + 1) 18) (are_short (n + 1) qs) g)

short_other : (n c : ℕ) (qs : List FormatPiece) → is_ascii_digit c ≡ false → are_short n (Letter c ∷ qs) ≡ true → are_short 0 qs ≡ true
short_other n c qs d h = rw d at h

own_pieces : (pars : Pars) (gs : List (Text × List Flat)) → AllGood pars gs → (qs : List FormatPiece) (args : List (ℕ × Arg)) (n : ℕ) → are_taken Syntax pars qs args ≡ true → are_short n qs ≡ true → (rest : List Flat) → Own 0 rest
    → Own n (put_in edge.Letter qs (map (λ (comma, a). given gs a.name.text) args) ++ edge.Seam ∷ rest)
own_pieces pars gs good [] args n t s rest h = h
own_pieces pars gs good (Letter c ∷ qs) args n t s rest h = (
  λ e. let g = short_digit n c qs e s in (g.0, own_pieces pars gs good qs args (n + 1) t g.1 rest h),
  λ e. own_pieces pars gs good qs args 0 t (short_other n c qs e s) rest h,
)
own_pieces pars gs good (Directive ds k ∷ qs) [] n t s rest h = absurd cc
own_pieces pars gs good (Directive ds k ∷ qs) ((comma, a) ∷ args) n t s rest h =
    let some = taken_some ds k (parameter pars a.name.text) a.attribute (and_left (takes Syntax ds k (parameter pars a.name.text) a.attribute) (are_taken Syntax pars qs args) t) in
    let more = put_in edge.Letter qs (map (λ (comma, a). given gs a.name.text) args) in
    subst (Own n) (sym (append_assoc (given gs a.name.text) more (edge.Seam ∷ rest)))
    (good a.name.text some.0 some.1 n (more ++ edge.Seam ∷ rest)
    (own_pieces pars gs good qs args 0 (and_right (takes Syntax ds k (parameter pars a.name.text) a.attribute) (are_taken Syntax pars qs args) t) s rest h))

no_directive : (cs ds : List ℕ) (pars : Pars) → are_taken Syntax pars (directive_behind ds cs) [] ≡ true → are_allowed Syntax (directive_behind ds cs) ≡ true → ⊥
no_directive [] ds pars t a = cc
no_directive (c ∷ cs) ds pars t a = by (is_ascii_digit c) t a (no_directive cs (ds ++ c ∷ []) pars)
  where
    by : (b : Bool) → are_taken Syntax pars (if b then directive_behind (ds ++ c ∷ []) cs else Directive ds c ∷ pieces cs) [] ≡ true → are_allowed Syntax (if b then directive_behind (ds ++ c ∷ []) cs else Directive ds c ∷ pieces cs) ≡ true
        → (are_taken Syntax pars (directive_behind (ds ++ c ∷ []) cs) [] ≡ true → are_allowed Syntax (directive_behind (ds ++ c ∷ []) cs) ≡ true → ⊥) → ⊥
    by true t a rest = rest t a
    by false t a rest = cc

plain_pieces : (text : List ℕ) (pars : Pars) → are_taken Syntax pars (pieces text) [] ≡ true → are_allowed Syntax (pieces text) ≡ true → put_in edge.Letter (pieces text) [] ≡ map edge.Letter text
plain_pieces [] pars t a = refl
plain_pieces (c ∷ cs) pars t a = by (c == 37) t a (plain_pieces cs pars)
  where
    by : (b : Bool) → are_taken Syntax pars (if b then directive_behind [] cs else Letter c ∷ pieces cs) [] ≡ true → are_allowed Syntax (if b then directive_behind [] cs else Letter c ∷ pieces cs) ≡ true
        → (are_taken Syntax pars (pieces cs) [] ≡ true → are_allowed Syntax (pieces cs) ≡ true → put_in edge.Letter (pieces cs) [] ≡ map edge.Letter cs)
        → put_in edge.Letter (if b then directive_behind [] cs else Letter c ∷ pieces cs) [] ≡ edge.Letter c ∷ map edge.Letter cs
    by true t a rest = absurd (no_directive cs [] pars t a)
    by false t a rest = ap (λ fs. edge.Letter c ∷ fs) (rest t (and_right _ (are_allowed Syntax (pieces cs)) a))

record Right (pars : Pars) (qs : List FormatPiece) (args : List (ℕ × Arg)) : Type 0 where
  taken : are_taken Syntax pars qs args ≡ true
  allowed : are_allowed Syntax qs ≡ true
  short : are_short 0 qs ≡ true

all_right : (pars : Pars) (qs : List FormatPiece) (args : List (ℕ × Arg)) → are_right Syntax pars qs args ≡ true → Right pars qs args
all_right pars qs args h = by (are_taken Syntax pars qs args) (are_allowed Syntax qs) (are_short 0 qs) refl refl refl h
  where
    by : (x y z : Bool) → are_taken Syntax pars qs args ≡ x → are_allowed Syntax qs ≡ y → are_short 0 qs ≡ z → (x && y && z) ≡ true → Right pars qs args
    by true true true a b c h = record { taken = a; allowed = b; short = c }
    by true true false a b c h = absurd cc
    by true false z a b c h = absurd cc
    by false y z a b c h = absurd cc

ends_text : (pars : Pars) (gs : List (Text × List Flat)) → AllGood pars gs → (t : Template) → is_right Syntax pars t ≡ true → Ends (text_of edge.Letter gs t)
ends_text pars gs good (template.Plain q) right rest h =
    let r = all_right pars (pieces q.text) [] right in
    subst (λ fs. Own 0 (fs ++ edge.Seam ∷ rest)) (plain_pieces q.text pars r.taken r.allowed) (own_pieces pars gs good (pieces q.text) [] 0 r.taken r.short rest h)
ends_text pars gs good (template.Part n dot a) right rest h =
    let p = part_some (parameter pars n.text) (and_right (is_same Syntax a) (is_part (parameter pars n.text)) right) in
    good n.text p.0 p.1 0 (edge.Seam ∷ rest) h
ends_text pars gs good (template.Format at p q args r) right rest h =
    let w = all_right pars (pieces q.text) args right in own_pieces pars gs good (pieces q.text) args 0 w.taken w.short rest h

-- the parameters of a rule by their names
abbrev named_pars : Table → List Par → Pars
named_pars t pars = map (λ p. (p.name.text, parameter_of t p.ty)) pars

abbrev AllRight : Table → Type 0
AllRight t = (name : Text) (rule : Rule) → declared t name ≡ Some (Declared.And rule) → is_right Syntax (named_pars t rule.pars) rule.syntax ≡ true

first_good : (t : Table) (p : Par) (pars others : List Par) (nm name : Text) (o : Parameter) (fs : List Flat) (more : List (Text × List Flat)) → pars ≡ p ∷ others → p.name.text ≡ nm → Good fs
    → (parameter (named_pars t others) name ≡ Some o → Good (given more name)) → parameter (named_pars t pars) name ≡ Some o → Good (given ((nm, fs) ∷ more) name)
first_good t p pars others nm name o fs more is called good rest h =
    by (text_eq name nm) rest (ap (λ n. option_and_then (λ x. x) (cond (text_eq name n) (Some (parameter_of t p.ty)) (lookup (text_eq name) (named_pars t others)))) (sym called) ∙ ap (λ ps. parameter (named_pars t ps) name) (sym is) ∙ h)
  where
    by : (b : Bool) → (parameter (named_pars t others) name ≡ Some o → Good (given more name))
        → option_and_then (λ x. x) (cond b (Some (parameter_of t p.ty)) (lookup (text_eq name) (named_pars t others))) ≡ Some o → Good (unwrap_or (cond b (Some fs) (lookup (text_eq name) more)) [])
    by true rest h = good
    by false rest h = rest h

mutual
  ends_of : (d : Derivation) (t : Table) (name : Text) (n : ℕ) → AllRight t → IsDerivation t name d → Ends (flat n d)
  ends_of (Pick k d) t name n right h = ends_of d t h.0 n right h.2
  ends_of (Compose rule args) t name n right h = ends_text (named_pars t rule.pars) (flats n args) (good_of args t rule.pars n right h.1) rule.syntax (right name rule h.0)

  good_of : (a : Arguments) (t : Table) (pars : List Par) (n : ℕ) → AllRight t → Fill t pars a → AllGood (named_pars t pars) (flats n a)
  good_of NoMore t pars n right h name o e = let f : parameter (named_pars t []) name ≡ Some o = subst (λ ps. parameter (named_pars t ps) name ≡ Some o) h e in absurd cc
  good_of (Part nm d args) t pars n right h name o e =
      first_good t h.0 pars h.1 nm name o (edge.Seam ∷ (flat n d ++ edge.Seam ∷ [])) (flats (n + length (fields d)) args) h.3 h.4
      (good_part (flat n d) (ends_of d t h.2 n right h.6)) (good_of args t h.1 (n + length (fields d)) right h.7 name o) e
  good_of (Field nm u z args) t pars n right h name o e =
      first_good t h.0 pars h.1 nm name o (edge.Number n ∷ []) (flats (n + 1) args) h.2 h.3 (λ k rest g. g) (good_of args t h.1 (n + 1) right h.6 name o) e

-- a description in which types are right
nothing_in : (xs : List ℕ) → ((x : ℕ) → Contains xs x → ⊥) → xs ≡ []
nothing_in [] h = refl
nothing_in (x ∷ xs) h = absurd (h x (0, omega arith, refl))

of_item : (f : Item → List ℕ) (items : List Item) (a : Text) (i : Item) → flat_map f items ≡ [] → first_item items a ≡ Some i → f i ≡ []
of_item f [] a i none h = absurd cc
of_item f (x ∷ items) a i none h = by (text_eq a (declares x).text) h (of_item f items a i (no_right (f x) (flat_map f items) none))
  where
    by : (b : Bool) → (if b then Some x else first_item items a) ≡ Some i → (first_item items a ≡ Some i → f i ≡ []) → f i ≡ []
    by true h rest = let e : x ≡ i = cc in subst (λ y. f y ≡ []) e (no_left (f x) (flat_map f items) none)
    by false h rest = rest h

item_rule : (t : Table) (i : Item) (rule : Rule) → rule_part i ≡ Some (Declared.And rule) → item_places t i ≡ [] → rule_places t rule ≡ []
item_rule t (item.Let at n equals minus z) rule h none = absurd cc
item_rule t (item.Type at n equals e) rule h none = absurd cc
item_rule t (item.Storage s) rule h none = absurd cc
item_rule t (item.Port p) rule h none = absurd cc
item_rule t (item.OrRule r) rule h none = absurd cc
item_rule t (item.OpRule r) rule h none = let e : rule_of r.pars None r.attrs ≡ rule = cc in subst (λ (x : Rule). rule_places t x ≡ []) e none
item_rule t (item.ModeRule r) rule h none = let e : rule_of r.pars (Some (formula r.value)) r.attrs ≡ rule = cc in subst (λ (x : Rule). rule_places t x ≡ []) e none

rule_clear : (d : Desc) → IsFreeBelow 12 d → (name : Text) (rule : Rule) → declared (table d) name ≡ Some (Declared.And rule) → rule_places (table d) rule ≡ []
rule_clear d free name rule is = by (first_item d.items name) refl (sym (declared_rule d name) ∙ ap (option_and_then only_rule) is)
  where
    none : flat_map (item_places (table d)) d.items ≡ []
    none = nothing_in (type_fault_places d) (λ x c. free 6 (omega arith) (By_type x c))

    by : (o : Option Item) → first_item d.items name ≡ o → option_and_then rule_part o ≡ Some (Declared.And rule) → rule_places (table d) rule ≡ []
    by None e h = absurd cc
    by (Some i) e h = item_rule (table d) i rule h (of_item (item_places (table d)) d.items name i none e)

texts_right : (d : Desc) → IsFreeBelow 12 d → AllRight (table d)
texts_right d free name rule is = unless_none _ _ (no_right _ _ (no_left _ _ (no_left _ _ (no_left _ _ (rule_clear d free name rule is)))))

not_true : (b : Bool) → (b ≡ true → ⊥) → b ≡ false
not_true true h = absurd (h refl)
not_true false h = refl

no_touch : (x : Derivation) (d : Desc) (name : Text) → IsFreeBelow 12 d → IsDerivation (table d) name x → has_touch x ≡ false
no_touch (Pick k x) d name free h = no_touch x d h.0 free h.2
no_touch (Compose rule args) d name free h = not_true (has_touch (Compose rule args)) (λ e. free 10 (omega arith) (By_edge name (EdgeFault.Touching rule args h e)))

-- no more than 38 digits stand in a row in the syntax of an instruction
pub syntax_short : (d : Desc) (x : Derivation) → IsFreeBelow 12 d → IsRoot (table d) x → AreShort [] (flat 0 x)
syntax_short d x free root =
    are_short_runs (flat 0 x) (no_touch x d (codes "instruction") free root) (own_front (flat 0 x) (edge.Seam ∷ []) 0 (ends_of x (table d) (codes "instruction") 0 (texts_right d free) root [] tt))
