-- The bits of an argument by its name; bits behind one another; a whole image.
use Rattle.std.proofs.Common.{ℕ, zero, suc, ◌+◌, ◌≤◌, ◌<◌, List, [], ◌∷◌, ◌++◌, ◌≡◌, ℤ, length, map, drop, get_or, arith, refl, sym, ◌∙◌, ap, subst, Some, None, Option, Bool, true, false, cond, Contains}
use Rattle.std.specs.Prelude.{slice_get, option_map, unwrap_or, option_and_then, ◌&&◌, nat_le}
use Rattle.std.proofs.Common.{◌⊎◌, inl, inr, lit≤}
use Rattle.std.proofs.lemmas.Bool.{leb-true}
use Rattle.std.proofs.lemmas.List.{drop_more, drop_all}
use Rattle.nk_base.specs.Text.{text_eq}
use Rattle.nk_base.specs.declared.number.Ty.{Ty}
use Rattle.nk_base.specs.declared.number.Ty.TheVariants as tys
use Rattle.nk_base.specs.Number.{width_of}
use Rattle.nml_tree.specs.declared.attributes.Arg.{Arg}
use Rattle.nml_tree.specs.declared.tree.Par.{Par}
use Rattle.nml_tree.specs.declared.tree.TypeExpr.{TypeExpr}
use Rattle.nml_tree.specs.declared.tree.TypeExpr.TheVariants as type_expr
use Rattle.nml_tree.specs.Attribute.{FormatPiece, Letter, Directive, bits_of, pieces}
use Rattle.nml_tree.specs.Table.{Text, Table, Rule, Declared, Parameter, declared, parameter_of, parameter_named, type_of, type_or_none, type_named}
use Rattle.nml_tree.specs.Derivation.{Derivation, Arguments, Compose, NoMore, Part, Field, Fill}
use Rattle.nml_tree.specs.Image.{image, images, bit}
use Rattle.nml_tree.specs.Template.{given, put_in}
use Rattle.nml_tree.specs.Worth.{is_type}
use Rattle.attr_eval.specs.declared.run.Run.{Run}
use Rattle.attr_eval.specs.Found.{Other, IsFirst, bits_given}
use Rattle.attr_eval.specs.Run.{pushed, pushed_one}
use Rattle.attr_eval.specs.Walks.{WalksAll, from}

pub pushed_append : (out : Run) (xs ys : List Bool) → pushed out (xs ++ ys) ≡ pushed (pushed out xs) ys
pushed_append out [] ys = refl
pushed_append out (x ∷ xs) ys = pushed_append (pushed_one out x) xs ys

-- what the first parameter of a name gives
here : {A : Type 0} (b : Bool) (x y : A) (o : Option A) (d : A) → b ≡ true → x ≡ y → unwrap_or (cond b (Some x) o) d ≡ y
here b x y o d is e = rw is e

later : {A : Type 0} (b : Bool) (x y : A) (o : Option A) (d : A) → b ≡ false → unwrap_or o d ≡ y → unwrap_or (cond b (Some x) o) d ≡ y
later b x y o d is e = rw is e

first_other : (name : Text) (pars others : List Par) (p : Par) (k : ℕ) → pars ≡ p ∷ others → Other name pars (suc k) → text_eq name p.name.text ≡ false
first_other name pars others p k is h = let e : slice_get pars 0 ≡ Some p = rw is refl in h 0 p (omega arith) e

next_other : (name : Text) (pars others : List Par) (p : Par) (k : ℕ) → pars ≡ p ∷ others → Other name pars (suc k) → Other name others k
next_other name pars others p k is h i q low at = let e : slice_get pars (suc i) ≡ slice_get others i = rw is refl in h (suc i) q (omega (arith, low)) (e ∙ at)

next_stands : (pars others : List Par) (p x : Par) (k : ℕ) → pars ≡ p ∷ others → slice_get pars (suc k) ≡ Some x → slice_get others k ≡ Some x
next_stands pars others p x k is at = let e : slice_get pars (suc k) ≡ slice_get others k = rw is refl in sym e ∙ at

first_is : (pars others : List Par) (p x : Par) → pars ≡ p ∷ others → slice_get pars 0 ≡ Some x → p ≡ x
first_is pars others p x is at = let e : slice_get pars 0 ≡ Some p = rw is refl in cc

pub part_bits : (args : Arguments) (t : Table) (pars : List Par) (name : Text) (k : ℕ) (x : Par) (m : Text) (d : Derivation) (rest : Arguments) → Fill t pars args → IsFirst name pars k x → from k args ≡ Part m d rest → given (images args) name ≡ image d
part_bits NoMore t pars name zero x m d rest h f is = absurd cc
part_bits NoMore t pars name (suc k) x m d rest h f is = absurd cc
part_bits (Part n e args) t pars name zero x m d rest h f is =
    let p = first_is pars h.1 h.0 x h.3 f.stands in
    let b : text_eq name n ≡ true = ap (text_eq name) (sym h.4 ∙ ap (λ q. q.name.text) p) ∙ f.named in
    let s : e ≡ d = cc in
    here (text_eq name n) (image e) (image d) _ [] b (ap image s)
part_bits (Part n e args) t pars name (suc k) x m d rest h f is =
    let b : text_eq name n ≡ false = ap (text_eq name) (sym h.4) ∙ first_other name pars h.1 h.0 k h.3 f.before in
    later (text_eq name n) (image e) (image d) _ [] b
    (part_bits args t h.1 name k x m d rest h.7 (record { stands = next_stands pars h.1 h.0 x k h.3 f.stands; named = f.named; before = next_other name pars h.1 h.0 k h.3 f.before }) is)
part_bits (Field n ty z args) t pars name zero x m d rest h f is = absurd cc
part_bits (Field n ty z args) t pars name (suc k) x m d rest h f is =
    let b : text_eq name n ≡ false = ap (text_eq name) (sym h.3) ∙ first_other name pars h.1 h.0 k h.2 f.before in
    later (text_eq name n) (bits_of ty z) (image d) _ [] b
    (part_bits args t h.1 name k x m d rest h.6 (record { stands = next_stands pars h.1 h.0 x k h.2 f.stands; named = f.named; before = next_other name pars h.1 h.0 k h.2 f.before }) is)

pub field_bits : (args : Arguments) (t : Table) (pars : List Par) (name : Text) (k : ℕ) (x : Par) (m : Text) (ty : Ty) (z : ℤ) (rest : Arguments) → Fill t pars args → IsFirst name pars k x → from k args ≡ Field m ty z rest → given (images args) name ≡ bits_of ty z
field_bits NoMore t pars name zero x m ty z rest h f is = absurd cc
field_bits NoMore t pars name (suc k) x m ty z rest h f is = absurd cc
field_bits (Part n e args) t pars name zero x m ty z rest h f is = absurd cc
field_bits (Part n e args) t pars name (suc k) x m ty z rest h f is =
    let b : text_eq name n ≡ false = ap (text_eq name) (sym h.4) ∙ first_other name pars h.1 h.0 k h.3 f.before in
    later (text_eq name n) (image e) (bits_of ty z) _ [] b
    (field_bits args t h.1 name k x m ty z rest h.7 (record { stands = next_stands pars h.1 h.0 x k h.3 f.stands; named = f.named; before = next_other name pars h.1 h.0 k h.3 f.before }) is)
field_bits (Field n u y args) t pars name zero x m ty z rest h f is =
    let p = first_is pars h.1 h.0 x h.2 f.stands in
    let b : text_eq name n ≡ true = ap (text_eq name) (sym h.3 ∙ ap (λ q. q.name.text) p) ∙ f.named in
    let s : u ≡ ty = cc in
    let r : y ≡ z = cc in
    here (text_eq name n) (bits_of u y) (bits_of ty z) _ [] b (ap (λ w. bits_of w y) s ∙ ap (bits_of ty) r)
field_bits (Field n u y args) t pars name (suc k) x m ty z rest h f is =
    let b : text_eq name n ≡ false = ap (text_eq name) (sym h.3) ∙ first_other name pars h.1 h.0 k h.2 f.before in
    later (text_eq name n) (bits_of u y) (bits_of ty z) _ [] b
    (field_bits args t h.1 name k x m ty z rest h.6 (record { stands = next_stands pars h.1 h.0 x k h.2 f.stands; named = f.named; before = next_other name pars h.1 h.0 k h.2 f.before }) is)

all_other : (args : Arguments) (t : Table) (pars : List Par) (name : Text) → Fill t pars args → ((i : ℕ) (p : Par) → slice_get pars i ≡ Some p → text_eq name p.name.text ≡ false) → given (images args) name ≡ []
all_other NoMore t pars name h f = refl
all_other (Part n e args) t pars name h f =
    let a : slice_get pars 0 ≡ Some h.0 = rw h.3 refl in
    let b : text_eq name n ≡ false = ap (text_eq name) (sym h.4) ∙ f 0 h.0 a in
    later (text_eq name n) (image e) [] _ [] b (all_other args t h.1 name h.7 (λ i p at. let g : slice_get pars (suc i) ≡ slice_get h.1 i = rw h.3 refl in f (suc i) p (g ∙ at)))
all_other (Field n ty z args) t pars name h f =
    let a : slice_get pars 0 ≡ Some h.0 = rw h.2 refl in
    let b : text_eq name n ≡ false = ap (text_eq name) (sym h.3) ∙ f 0 h.0 a in
    later (text_eq name n) (bits_of ty z) [] _ [] b (all_other args t h.1 name h.6 (λ i p at. let g : slice_get pars (suc i) ≡ slice_get h.1 i = rw h.2 refl in f (suc i) p (g ∙ at)))

within : (pars : List Par) (i : ℕ) (p : Par) → slice_get pars i ≡ Some p → i < length pars
within [] i p h = absurd cc
within (x ∷ pars) zero p h = omega arith
within (x ∷ pars) (suc i) p h = omega (arith, within pars i p h)

pub none_bits : (args : Arguments) (t : Table) (pars : List Par) (name : Text) → Fill t pars args → Other name pars (length pars) → given (images args) name ≡ []
none_bits args t pars name h f = all_other args t pars name h (λ i p at. f i p (within pars i p at) at)

-- the type of a field
pub field_type : (t : Table) (e : TypeExpr) (ty : Ty) → parameter_of t e ≡ Some (Parameter.Field ty) → type_or_none t e ≡ ty
field_type t (type_expr.Bool at) ty h = cc
field_type t (type_expr.Card at p n q) ty h = told (type_of t (type_expr.Card at p n q)) ty h
  where
    told : (o : Option Ty) (ty : Ty) → option_map Parameter.Field o ≡ Some (Parameter.Field ty) → unwrap_or o (tys.Card 0) ≡ ty
    told None ty h = absurd cc
    told (Some u) ty h = cc
field_type t (type_expr.Int at p n q) ty h = told (type_of t (type_expr.Int at p n q)) ty h
  where
    told : (o : Option Ty) (ty : Ty) → option_map Parameter.Field o ≡ Some (Parameter.Field ty) → unwrap_or o (tys.Card 0) ≡ ty
    told None ty h = absurd cc
    told (Some u) ty h = cc
field_type t (type_expr.Fix at p n c m q) ty h = told (type_of t (type_expr.Fix at p n c m q)) ty h
  where
    told : (o : Option Ty) (ty : Ty) → option_map Parameter.Field o ≡ Some (Parameter.Field ty) → unwrap_or o (tys.Card 0) ≡ ty
    told None ty h = absurd cc
    told (Some u) ty h = cc
field_type t (type_expr.Float at p n c m q) ty h = absurd cc
field_type t (type_expr.Name n) ty h = named n.text (declared t n.text) ty h
  where
    named : (name : Text) (o : Option Declared) (ty : Ty) → parameter_named name o ≡ Some (Parameter.Field ty) → unwrap_or (option_and_then type_named o) (tys.Card 0) ≡ ty
    named name None ty h = absurd cc
    named name (Some (Declared.Constant z)) ty h = absurd cc
    named name (Some (Declared.TypeName u)) ty h = cc
    named name (Some (Declared.Storage n k u)) ty h = absurd cc
    named name (Some (Declared.Trn n u)) ty h = absurd cc
    named name (Some (Declared.Inp u)) ty h = absurd cc
    named name (Some (Declared.Out u)) ty h = absurd cc
    named name (Some (Declared.Or mode names)) ty h = absurd cc
    named name (Some (Declared.And rule)) ty h = absurd cc

pub among : (pars : List Par) (k : ℕ) (p : Par) → slice_get pars k ≡ Some p → Contains pars p
among [] k p h = absurd cc
among (x ∷ pars) zero p h = (0, omega arith, cc)
among (x ∷ pars) (suc k) p h = let c = among pars k p h in (suc c.0, omega (arith, c.1), c.2)

-- character by character, piece by piece
pub next_letter : (out new : Run) (text : List ℕ) (i : ℕ) (c : ℕ) → i < length text → new ≡ pushed_one out (bit (get_or text i c)) → pushed new (map bit (drop (i + 1) text)) ≡ pushed out (map bit (drop i text))
next_letter out new text i c low is = rw (drop_more text i c low, is) refl

pub no_letter : (out : Run) (text : List ℕ) (i : ℕ) → length text ≤ i → pushed out (map bit (drop i text)) ≡ out
no_letter out text i low = rw (drop_all i text low) refl

pub next_par_other : (name : Text) (pars : List Par) (k : ℕ) (p : Par) → Other name pars k → slice_get pars k ≡ Some p → text_eq name p.name.text ≡ false → Other name pars (k + 1)
next_par_other name pars k p h at is i q low stands = elim (le_or_is i k (omega (arith, low))) [ inl less ↦ h i q less stands | inr same ↦ (let e : slice_get pars k ≡ Some q = ap (slice_get pars) (sym same) ∙ stands in let one : p ≡ q = cc in subst (λ r. text_eq name r.name.text ≡ false) one is) ]
  where
    le_or_is : (i k : ℕ) → i ≤ k → (i < k) ⊎ (i ≡ k)
    le_or_is zero zero low = inr refl
    le_or_is zero (suc k) low = inl (omega arith)
    le_or_is (suc i) zero low = absurd (omega (arith, low))
    le_or_is (suc i) (suc k) low = elim (le_or_is i k (omega (arith, low))) [ inl a ↦ inl (omega (arith, a)) | inr b ↦ inr (ap suc b) ]

pub to_all : (name : Text) (pars : List Par) (k : ℕ) → Other name pars k → length pars ≤ k → Other name pars (length pars)
to_all name pars k h low i p less at = h i p (omega (arith, low, less)) at

pub whole_image : (t : Table) (rule : Rule) (n : ℕ) (d : Derivation) (ps : List ℕ) (zs : List ℤ) (ks : List ℕ) (ys : List ℤ) (out new : Run) → (a : (args : Arguments) × (d ≡ Compose rule args) × WalksAll t rule.pars n args ps zs ks ys) → new ≡ pushed out (image (Compose rule a.0)) → new ≡ pushed out (image d)
whole_image t rule n d ps zs ks ys out new a is = is ∙ ap (λ x. pushed out (image x)) (sym a.1)

pub next_text : (out new : Run) (args : Arguments) (text behind : List ℕ) (list left : List (ℕ × Arg)) (q : FormatPiece) → pieces text ≡ q ∷ pieces behind → pushed new (put_in bit (pieces behind) (bits_given args left)) ≡ pushed out (put_in bit (q ∷ pieces behind) (bits_given args list)) → pushed new (put_in bit (pieces behind) (bits_given args left)) ≡ pushed out (put_in bit (pieces text) (bits_given args list))
next_text out new args text behind list left q is h = h ∙ ap (λ ps. pushed out (put_in bit ps (bits_given args list))) (sym is)

pub end_text : (out : Run) (args : Arguments) (text : List ℕ) (list : List (ℕ × Arg)) → text ≡ [] → pushed out (put_in bit (pieces text) (bits_given args list)) ≡ out
end_text out args text list is = rw is refl

pub letter_piece : (out new : Run) (args : Arguments) (list : List (ℕ × Arg)) (c : ℕ) (q : FormatPiece) (more : List FormatPiece) → q ≡ Letter c → new ≡ pushed_one out (bit c) → pushed new (put_in bit more (bits_given args list)) ≡ pushed out (put_in bit (q ∷ more) (bits_given args list))
letter_piece out new args list c q more is h = rw (is, h) refl

pub no_argument : (out : Run) (args : Arguments) (list : List (ℕ × Arg)) (q : FormatPiece) (more : List FormatPiece) → (digits : List ℕ) × (letter : ℕ) × (q ≡ Directive digits letter) → length list ≡ 0 → pushed out (put_in bit more (bits_given args list)) ≡ pushed out (put_in bit (q ∷ more) (bits_given args list))
no_argument out args [] q more h none = rw h.2 refl
no_argument out args (a ∷ list) q more h none = absurd (omega (arith, none))

pub next_argument : (out new : Run) (args : Arguments) (list left : List (ℕ × Arg)) (a : ℕ × Arg) (q : FormatPiece) (more : List FormatPiece) → (digits : List ℕ) × (letter : ℕ) × (q ≡ Directive digits letter) → list ≡ a ∷ left → new ≡ pushed out (given (images args) a.1.name.text) → pushed new (put_in bit more (bits_given args left)) ≡ pushed out (put_in bit (q ∷ more) (bits_given args list))
next_argument out new args list left a q more h is e =
    rw (h.2, is, pushed_append out (given (images args) a.1.name.text) (put_in bit more (bits_given args left)), e) refl

pub narrow_type : (ty : Ty) → is_type ty ≡ true → width_of ty ≤ 64
narrow_type tys.Bool h = lit≤ tt
narrow_type (tys.Card n) h = omega (arith, leb-true n 64 (and_right (nat_le 1 n) (nat_le n 64) h))
  where
    and_right : (a b : Bool) → (a && b) ≡ true → b ≡ true
    and_right true b h = h
    and_right false b h = absurd cc
narrow_type (tys.Int n) h = omega (arith, leb-true n 64 (and_right (nat_le 1 n) (nat_le n 64) h))
  where
    and_right : (a b : Bool) → (a && b) ≡ true → b ≡ true
    and_right true b h = h
    and_right false b h = absurd cc

-- a field's bits, by the type that the code finds
pub push_case : (out new : Run) (t : Table) (e : TypeExpr) (ty found : Ty) (z y : ℤ) → parameter_of t e ≡ Some (Parameter.Field ty) → is_type ty ≡ true → (is_type (type_or_none t e) ≡ true → found ≡ type_or_none t e)
    → (width_of found ≤ 64 → new ≡ pushed out (bits_of found y)) → y ≡ z → new ≡ pushed out (bits_of ty z)
push_case out new t e ty found z y is right found_is new_is same =
    let a = field_type t e ty is in
    let c : found ≡ ty = found_is (subst (λ u. is_type u ≡ true) (sym a) right) ∙ a in
    new_is (subst (λ u. width_of u ≤ 64) (sym c) (narrow_type ty right)) ∙ ap (λ u. pushed out (bits_of u y)) c ∙ ap (λ v. pushed out (bits_of ty v)) same
