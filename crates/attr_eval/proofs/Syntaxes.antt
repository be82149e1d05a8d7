-- The text of an argument by its name, piece by piece; a whole syntax.
use Rattle.std.specs.Fmt.{signed_decimal}
use Rattle.std.proofs.Common.{append-nil, append_assoc}
use Rattle.std.proofs.Common.{ℕ, zero, suc, ◌<◌, List, [], ◌∷◌, ◌++◌, ◌≡◌, ℤ, length, map, arith, refl, sym, ◌∙◌, ap, Some, Option, Bool, true, false, cond}
use Rattle.std.specs.Prelude.{slice_get, unwrap_or}
use Rattle.nk_base.specs.Text.{text_eq}
use Rattle.nk_base.specs.declared.number.Ty.{Ty}
use Rattle.nml_tree.specs.declared.attributes.Arg.{Arg}
use Rattle.nml_tree.specs.declared.tree.Par.{Par}
use Rattle.nml_tree.specs.Attribute.{FormatPiece, Letter, Directive, pieces}
use Rattle.nml_tree.specs.Table.{Text, Table, Rule}
use Rattle.nml_tree.specs.Derivation.{Derivation, Arguments, Compose, NoMore, Part, Field, Fill}
use Rattle.nml_tree.specs.Syntax.{syntax_of, syntaxes}
use Rattle.nml_tree.specs.Template.{given, put_in}
use Rattle.attr_eval.specs.Found.{Other, IsFirst, text_given}
use Rattle.attr_eval.specs.Walks.{WalksAll, from}

-- what the first parameter of a name gives
here : {A : Type 0} (b : Bool) (x y : A) (o : Option A) (d : A) → b ≡ true → x ≡ y → unwrap_or (cond b (Some x) o) d ≡ y
here b x y o d is e = rw is e

later : {A : Type 0} (b : Bool) (x y : A) (o : Option A) (d : A) → b ≡ false → unwrap_or o d ≡ y → unwrap_or (cond b (Some x) o) d ≡ y
later b x y o d is e = rw is e

first_other : (name : Text) (pars others : List Par) (p : Par) (k : ℕ) → pars ≡ p ∷ others → Other name pars (suc k) → text_eq name p.name.text ≡ false
first_other name pars others p k is h = let e : slice_get pars 0 ≡ Some p = rw is refl in h 0 p (omega arith) e

next_other : (name : Text) (pars others : List Par) (p : Par) (k : ℕ) → pars ≡ p ∷ others → Other name pars (suc k) → Other name others k
next_other name pars others p k is h i q low at = let e : slice_get pars (suc i) ≡ slice_get others i = rw is refl in h (suc i) q (omega (arith, low)) (e ∙ at)

next_stands : (pars others : List Par) (p x : Par) (k : ℕ) → pars ≡ p ∷ others → slice_get pars (suc k) ≡ Some x → slice_get others k ≡ Some x
next_stands pars others p x k is at = let e : slice_get pars (suc k) ≡ slice_get others k = rw is refl in sym e ∙ at

first_is : (pars others : List Par) (p x : Par) → pars ≡ p ∷ others → slice_get pars 0 ≡ Some x → p ≡ x
first_is pars others p x is at = let e : slice_get pars 0 ≡ Some p = rw is refl in cc

pub part_text : (args : Arguments) (t : Table) (pars : List Par) (name : Text) (k : ℕ) (x : Par) (m : Text) (d : Derivation) (rest : Arguments) → Fill t pars args → IsFirst name pars k x → from k args ≡ Part m d rest → given (syntaxes args) name ≡ syntax_of d
part_text NoMore t pars name zero x m d rest h f is = absurd cc
part_text NoMore t pars name (suc k) x m d rest h f is = absurd cc
part_text (Part n e args) t pars name zero x m d rest h f is =
    let p = first_is pars h.1 h.0 x h.3 f.stands in
    let b : text_eq name n ≡ true = ap (text_eq name) (sym h.4 ∙ ap (λ q. q.name.text) p) ∙ f.named in
    let s : e ≡ d = cc in
    here (text_eq name n) (syntax_of e) (syntax_of d) _ [] b (ap syntax_of s)
part_text (Part n e args) t pars name (suc k) x m d rest h f is =
    let b : text_eq name n ≡ false = ap (text_eq name) (sym h.4) ∙ first_other name pars h.1 h.0 k h.3 f.before in
    later (text_eq name n) (syntax_of e) (syntax_of d) _ [] b
    (part_text args t h.1 name k x m d rest h.7 (record { stands = next_stands pars h.1 h.0 x k h.3 f.stands; named = f.named; before = next_other name pars h.1 h.0 k h.3 f.before }) is)
part_text (Field n ty z args) t pars name zero x m d rest h f is = absurd cc
part_text (Field n ty z args) t pars name (suc k) x m d rest h f is =
    let b : text_eq name n ≡ false = ap (text_eq name) (sym h.3) ∙ first_other name pars h.1 h.0 k h.2 f.before in
    later (text_eq name n) (signed_decimal z) (syntax_of d) _ [] b
    (part_text args t h.1 name k x m d rest h.6 (record { stands = next_stands pars h.1 h.0 x k h.2 f.stands; named = f.named; before = next_other name pars h.1 h.0 k h.2 f.before }) is)

pub field_text : (args : Arguments) (t : Table) (pars : List Par) (name : Text) (k : ℕ) (x : Par) (m : Text) (ty : Ty) (z : ℤ) (rest : Arguments) → Fill t pars args → IsFirst name pars k x → from k args ≡ Field m ty z rest → given (syntaxes args) name ≡ signed_decimal z
field_text NoMore t pars name zero x m ty z rest h f is = absurd cc
field_text NoMore t pars name (suc k) x m ty z rest h f is = absurd cc
field_text (Part n e args) t pars name zero x m ty z rest h f is = absurd cc
field_text (Part n e args) t pars name (suc k) x m ty z rest h f is =
    let b : text_eq name n ≡ false = ap (text_eq name) (sym h.4) ∙ first_other name pars h.1 h.0 k h.3 f.before in
    later (text_eq name n) (syntax_of e) (signed_decimal z) _ [] b
    (field_text args t h.1 name k x m ty z rest h.7 (record { stands = next_stands pars h.1 h.0 x k h.3 f.stands; named = f.named; before = next_other name pars h.1 h.0 k h.3 f.before }) is)
field_text (Field n u y args) t pars name zero x m ty z rest h f is =
    let p = first_is pars h.1 h.0 x h.2 f.stands in
    let b : text_eq name n ≡ true = ap (text_eq name) (sym h.3 ∙ ap (λ q. q.name.text) p) ∙ f.named in
    let s : u ≡ ty = cc in
    let r : y ≡ z = cc in
    here (text_eq name n) (signed_decimal y) (signed_decimal z) _ [] b (ap signed_decimal r)
field_text (Field n u y args) t pars name (suc k) x m ty z rest h f is =
    let b : text_eq name n ≡ false = ap (text_eq name) (sym h.3) ∙ first_other name pars h.1 h.0 k h.2 f.before in
    later (text_eq name n) (signed_decimal y) (signed_decimal z) _ [] b
    (field_text args t h.1 name k x m ty z rest h.6 (record { stands = next_stands pars h.1 h.0 x k h.2 f.stands; named = f.named; before = next_other name pars h.1 h.0 k h.2 f.before }) is)

all_other : (args : Arguments) (t : Table) (pars : List Par) (name : Text) → Fill t pars args → ((i : ℕ) (p : Par) → slice_get pars i ≡ Some p → text_eq name p.name.text ≡ false) → given (syntaxes args) name ≡ []
all_other NoMore t pars name h f = refl
all_other (Part n e args) t pars name h f =
    let a : slice_get pars 0 ≡ Some h.0 = rw h.3 refl in
    let b : text_eq name n ≡ false = ap (text_eq name) (sym h.4) ∙ f 0 h.0 a in
    later (text_eq name n) (syntax_of e) [] _ [] b (all_other args t h.1 name h.7 (λ i p at. let g : slice_get pars (suc i) ≡ slice_get h.1 i = rw h.3 refl in f (suc i) p (g ∙ at)))
all_other (Field n ty z args) t pars name h f =
    let a : slice_get pars 0 ≡ Some h.0 = rw h.2 refl in
    let b : text_eq name n ≡ false = ap (text_eq name) (sym h.3) ∙ f 0 h.0 a in
    later (text_eq name n) (signed_decimal z) [] _ [] b (all_other args t h.1 name h.6 (λ i p at. let g : slice_get pars (suc i) ≡ slice_get h.1 i = rw h.2 refl in f (suc i) p (g ∙ at)))

within : (pars : List Par) (i : ℕ) (p : Par) → slice_get pars i ≡ Some p → i < length pars
within [] i p h = absurd cc
within (x ∷ pars) zero p h = omega arith
within (x ∷ pars) (suc i) p h = omega (arith, within pars i p h)

pub none_text : (args : Arguments) (t : Table) (pars : List Par) (name : Text) → Fill t pars args → Other name pars (length pars) → given (syntaxes args) name ≡ []
none_text args t pars name h f = all_other args t pars name h (λ i p at. f i p (within pars i p at) at)

pub whole_syntax : (t : Table) (rule : Rule) (n : ℕ) (d : Derivation) (ps : List ℕ) (zs : List ℤ) (ks : List ℕ) (ys : List ℤ) (out new : List ℕ) → (a : (args : Arguments) × (d ≡ Compose rule args) × WalksAll t rule.pars n args ps zs ks ys) → new ≡ out ++ syntax_of (Compose rule a.0) → new ≡ out ++ syntax_of d
whole_syntax t rule n d ps zs ks ys out new a is = is ∙ ap (λ x. out ++ syntax_of x) (sym a.1)

pub map_same : (xs : List ℕ) → map (λ c. c) xs ≡ xs
map_same [] = refl
map_same (x ∷ xs) = ap (λ ys. x ∷ ys) (map_same xs)

pub next_text : (out new : List ℕ) (args : Arguments) (text behind : List ℕ) (list left : List (ℕ × Arg)) (q : FormatPiece) → pieces text ≡ q ∷ pieces behind → new ++ put_in (λ c. c) (pieces behind) (text_given args left) ≡ out ++ put_in (λ c. c) (q ∷ pieces behind) (text_given args list) → new ++ put_in (λ c. c) (pieces behind) (text_given args left) ≡ out ++ put_in (λ c. c) (pieces text) (text_given args list)
next_text out new args text behind list left q is h = h ∙ ap (λ ps. out ++ put_in (λ c. c) ps (text_given args list)) (sym is)

pub end_text : (out : List ℕ) (args : Arguments) (text : List ℕ) (list : List (ℕ × Arg)) → text ≡ [] → out ++ put_in (λ c. c) (pieces text) (text_given args list) ≡ out
end_text out args text list is = ap (λ ps. out ++ put_in (λ c. c) (pieces ps) (text_given args list)) is ∙ append-nil out

pub letter_piece : (out new : List ℕ) (args : Arguments) (list : List (ℕ × Arg)) (c : ℕ) (q : FormatPiece) (more : List FormatPiece) → q ≡ Letter c → new ≡ out ++ c ∷ [] → new ++ put_in (λ c. c) more (text_given args list) ≡ out ++ put_in (λ c. c) (q ∷ more) (text_given args list)
letter_piece out new args list c q more is h =
    ap (λ xs. xs ++ put_in (λ c. c) more (text_given args list)) h ∙ append_assoc out (c ∷ []) (put_in (λ c. c) more (text_given args list)) ∙ ap (λ p. out ++ put_in (λ c. c) (p ∷ more) (text_given args list)) (sym is)

pub no_argument : (out : List ℕ) (args : Arguments) (list : List (ℕ × Arg)) (q : FormatPiece) (more : List FormatPiece) → (digits : List ℕ) × (letter : ℕ) × (q ≡ Directive digits letter) → length list ≡ 0 → out ++ put_in (λ c. c) more (text_given args list) ≡ out ++ put_in (λ c. c) (q ∷ more) (text_given args list)
no_argument out args [] q more h none = rw h.2 refl
no_argument out args (a ∷ list) q more h none = absurd (omega (arith, none))

pub next_argument : (out new : List ℕ) (args : Arguments) (list left : List (ℕ × Arg)) (a : ℕ × Arg) (q : FormatPiece) (more : List FormatPiece) → (digits : List ℕ) × (letter : ℕ) × (q ≡ Directive digits letter) → list ≡ a ∷ left → new ≡ out ++ given (syntaxes args) a.1.name.text → new ++ put_in (λ c. c) more (text_given args left) ≡ out ++ put_in (λ c. c) (q ∷ more) (text_given args list)
next_argument out new args list left a q more h is e =
    ap (λ xs. xs ++ put_in (λ c. c) more (text_given args left)) e ∙ append_assoc out (given (syntaxes args) a.1.name.text) (put_in (λ c. c) more (text_given args left)) ∙ sym (rw (h.2, is) refl)
