-- What stands for the first parameter of a name, and which number its fields have.
use Rattle.std.proofs.Common.{ℕ, zero, suc, ◌+◌, ◌<◌, List, [], ◌∷◌, ◌≡◌, length, arith, refl, sym, ◌∙◌, ap, Some, None, Option, Bool, true, false, cond, ℤ}
use Rattle.std.specs.Prelude.{slice_get}
use Rattle.std.specs.Map.{lookup}
use Rattle.nk_base.specs.Text.{text_eq}
use Rattle.nk_base.specs.declared.number.Ty.{Ty}
use Rattle.nml_tree.specs.declared.tree.Par.{Par}
use Rattle.nml_tree.specs.Table.{Text, Table, Declared, Parameter, parameter_named}
use Rattle.nml_tree.specs.Worth.{is_rule}
use Rattle.nml_tree.specs.Derivation.{Derivation, Arguments, NoMore, Part, Field, Fill, fields}
use Rattle.nml_tree.specs.Written as written
use Rattle.nml_tree.specs.Written.{Argument, arguments}
use Rattle.attr_eval.specs.Found.{Other, IsFirst}
use Rattle.attr_eval.specs.Walks.{from}
use Rattle.isg_written.specs.Stands.{before}

first_other : (name : Text) (pars others : List Par) (p : Par) (k : ℕ) → pars ≡ p ∷ others → Other name pars (suc k) → text_eq name p.name.text ≡ false
first_other name pars others p k is h = let e : slice_get pars 0 ≡ Some p = rw is refl in h 0 p (omega arith) e

next_first : (name : Text) (pars others : List Par) (p x : Par) (k : ℕ) → pars ≡ p ∷ others → IsFirst name pars (suc k) x → IsFirst name others k x
next_first name pars others p x k is f = record {
  stands = behind k ∙ f.stands;
  named = f.named;
  before = λ i q low at. f.before (suc i) q (omega (arith, low)) (sym (behind i) ∙ at);
}
  where
    behind : (i : ℕ) → slice_get others i ≡ slice_get pars (suc i)
    behind i = rw is refl

first_is : (pars others : List Par) (p x : Par) → pars ≡ p ∷ others → slice_get pars 0 ≡ Some x → p ≡ x
first_is pars others p x is at = let e : slice_get pars 0 ≡ Some p = rw is refl in cc

here : (b : Bool) (x : Argument) (o : Option Argument) → b ≡ true → cond b (Some x) o ≡ Some x
here b x o is = rw is refl

there : (b : Bool) (x y : Argument) (o : Option Argument) → b ≡ false → o ≡ Some y → cond b (Some x) o ≡ Some y
there b x y o is e = rw is e

-- the parameter is the first
named_here : (name q : Text) (pars others : List Par) (p x : Par) → pars ≡ p ∷ others → p.name.text ≡ q → IsFirst name pars 0 x → text_eq name q ≡ true
named_here name q pars others p x is named f = ap (text_eq name) (sym named ∙ ap (λ q. q.name.text) (first_is pars others p x is f.stands)) ∙ f.named

pub part_named : (args : Arguments) (t : Table) (pars : List Par) (name : Text) (k : ℕ) (x : Par) (m : Text) (d : Derivation) (rest : Arguments) (n : ℕ) → Fill t pars args → IsFirst name pars k x → from k args ≡ Part m d rest
    → lookup (text_eq name) (arguments t n args) ≡ Some (Argument.Part (written.written t (n + before k args) d))
part_named NoMore t pars name zero x m d rest n h f is = absurd cc
part_named NoMore t pars name (suc k) x m d rest n h f is = absurd cc
part_named (Part q e args) t pars name zero x m d rest n h f is =
    let b = named_here name q pars h.1 h.0 x h.3 h.4 f in
    let s : e ≡ d = cc in
    let z : n ≡ n + 0 = omega arith in
    here (text_eq name q) (Argument.Part (written.written t n e)) _ b ∙ ap (λ y. Some (Argument.Part (written.written t n y))) s ∙ ap (λ j. Some (Argument.Part (written.written t j d))) z
part_named (Part q e args) t pars name (suc k) x m d rest n h f is =
    let b : text_eq name q ≡ false = ap (text_eq name) (sym h.4) ∙ first_other name pars h.1 h.0 k h.3 f.before in
    let z : n + length (fields e) + before k args ≡ n + (length (fields e) + before k args) = omega arith in
    there (text_eq name q) (Argument.Part (written.written t n e)) _ _ b (part_named args t h.1 name k x m d rest (n + length (fields e)) h.7 (next_first name pars h.1 h.0 x k h.3 f) is) ∙ ap (λ j. Some (Argument.Part (written.written t j d))) z
part_named (Field q ty z args) t pars name zero x m d rest n h f is = absurd cc
part_named (Field q ty z args) t pars name (suc k) x m d rest n h f is =
    let b : text_eq name q ≡ false = ap (text_eq name) (sym h.3) ∙ first_other name pars h.1 h.0 k h.2 f.before in
    let z : n + 1 + before k args ≡ n + (1 + before k args) = omega arith in
    there (text_eq name q) (Argument.FieldAt n) _ _ b (part_named args t h.1 name k x m d rest (n + 1) h.6 (next_first name pars h.1 h.0 x k h.2 f) is) ∙ ap (λ j. Some (Argument.Part (written.written t j d))) z

pub field_named : (args : Arguments) (t : Table) (pars : List Par) (name : Text) (k : ℕ) (x : Par) (m : Text) (ty : Ty) (z : ℤ) (rest : Arguments) (n : ℕ) → Fill t pars args → IsFirst name pars k x → from k args ≡ Field m ty z rest
    → lookup (text_eq name) (arguments t n args) ≡ Some (Argument.FieldAt (n + before k args))
field_named NoMore t pars name zero x m ty z rest n h f is = absurd cc
field_named NoMore t pars name (suc k) x m ty z rest n h f is = absurd cc
field_named (Part q e args) t pars name zero x m ty z rest n h f is = absurd cc
field_named (Part q e args) t pars name (suc k) x m ty z rest n h f is =
    let b : text_eq name q ≡ false = ap (text_eq name) (sym h.4) ∙ first_other name pars h.1 h.0 k h.3 f.before in
    let j : n + length (fields e) + before k args ≡ n + (length (fields e) + before k args) = omega arith in
    there (text_eq name q) (Argument.Part (written.written t n e)) _ _ b (field_named args t h.1 name k x m ty z rest (n + length (fields e)) h.7 (next_first name pars h.1 h.0 x k h.3 f) is) ∙ ap (λ i. Some (Argument.FieldAt i)) j
field_named (Field q u y args) t pars name zero x m ty z rest n h f is =
    let b = named_here name q pars h.1 h.0 x h.2 h.3 f in
    let j : n ≡ n + 0 = omega arith in
    here (text_eq name q) (Argument.FieldAt n) _ b ∙ ap (λ i. Some (Argument.FieldAt i)) j
field_named (Field q u y args) t pars name (suc k) x m ty z rest n h f is =
    let b : text_eq name q ≡ false = ap (text_eq name) (sym h.3) ∙ first_other name pars h.1 h.0 k h.2 f.before in
    let j : n + 1 + before k args ≡ n + (1 + before k args) = omega arith in
    there (text_eq name q) (Argument.FieldAt n) _ _ b (field_named args t h.1 name k x m ty z rest (n + 1) h.6 (next_first name pars h.1 h.0 x k h.2 f) is) ∙ ap (λ i. Some (Argument.FieldAt i)) j

-- a name that is that of no rule makes no part
pub no_part : (name : Text) (o : Option Declared) (rule : Text) → is_rule o ≡ false → parameter_named name o ≡ Some (Parameter.Part rule) → ⊥
no_part name None rule h e = cc
no_part name (Some (Declared.Constant z)) rule h e = cc
no_part name (Some (Declared.TypeName t)) rule h e = cc
no_part name (Some (Declared.Storage n k t)) rule h e = cc
no_part name (Some (Declared.Trn n t)) rule h e = cc
no_part name (Some (Declared.Inp t)) rule h e = cc
no_part name (Some (Declared.Out t)) rule h e = cc
no_part name (Some (Declared.Or mode names)) rule h e = cc
no_part name (Some (Declared.And r)) rule h e = cc
