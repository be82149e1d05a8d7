-- What is told of parameters, with one more.
use Rattle.std.proofs.Common.{◌≡◌, ℕ, zero, suc, ◌+◌, ◌≤◌, ◌<◌, take, length, get_or, append_assoc, arith, Bool, true, false, cond, List, [], ◌∷◌, ◌++◌, map, Option, Some, None, option_map, is_some, refl, ap, sym, ◌∙◌, if◌then◌else◌}
use Rattle.std.proofs.lemmas.List.{take_all}
use Rattle.std.specs.Map.{lookup}
use Rattle.std.specs.Option.{option_or}
use Rattle.nk_base.specs.Text.{text_eq}
use Rattle.nml_tree.specs.declared.tree.Par.{Par}
use Rattle.nml_tree.specs.declared.tree.Desc.{Desc}
use Rattle.nml_tree.specs.Directives.{Pars}
use Rattle.nml_tree.specs.Table.{Text, Parameter, parameter_of, table}
use Rattle.nml_tree.proofs.SameText.{same_text, equal_text, turned}
use Rattle.nml_texts.specs.declared.directive.Given.{Given}
use Rattle.nml_texts.specs.Around.{further, what_are}
use Rattle.nml_texts.specs.Given.{AreGiven, given}

-- the parameters with one more
behind : (name : Text) (d : Desc) (ps : List Par) (p : Par) → lookup (text_eq name) (what_are d (ps ++ p ∷ [])) ≡ option_or (lookup (text_eq name) (what_are d ps)) (if text_eq name p.name.text then Some (parameter_of (table d) p.ty) else None)
behind name d [] p = refl
behind name d (x ∷ ps) p = by (text_eq name x.name.text) (behind name d ps p)
  where
    by : (b : Bool) → lookup (text_eq name) (what_are d (ps ++ p ∷ [])) ≡ option_or (lookup (text_eq name) (what_are d ps)) (if text_eq name p.name.text then Some (parameter_of (table d) p.ty) else None)
        → cond b (Some (parameter_of (table d) x.ty)) (lookup (text_eq name) (what_are d (ps ++ p ∷ []))) ≡ option_or (cond b (Some (parameter_of (table d) x.ty)) (lookup (text_eq name) (what_are d ps))) (if text_eq name p.name.text then Some (parameter_of (table d) p.ty) else None)
    by true h = refl
    by false h = h

or_none : (o : Option (Option Parameter)) → option_or o None ≡ o
or_none None = refl
or_none (Some p) = refl

same_or : (o : Option (Option Parameter)) (x : Option (Option Parameter)) → is_some (option_map given o) ≡ true → option_map given o ≡ option_map given (option_or o x)
same_or None x h = absurd cc
same_or (Some p) x h = refl

other_or : (o : Option (Option Parameter)) (p : Option Parameter) → is_some (option_map given o) ≡ false → Some (given p) ≡ option_map given (option_or o (Some p))
other_or None p h = refl
other_or (Some q) p h = absurd cc

-- a name that is told of stays so
pub given_old : (d : Desc) (es : List (Text × Given)) (ps : List Par) (p : Par) → AreGiven es (what_are d ps) → is_some (lookup (text_eq p.name.text) es) ≡ true → AreGiven es (what_are d (ps ++ p ∷ []))
given_old d es ps p are has = λ name. are name ∙ by name (text_eq name p.name.text) refl ∙ ap (option_map given) (sym (behind name d ps p))
  where
    by : (name : Text) (b : Bool) → text_eq name p.name.text ≡ b
        → option_map given (lookup (text_eq name) (what_are d ps)) ≡ option_map given (option_or (lookup (text_eq name) (what_are d ps)) (if text_eq name p.name.text then Some (parameter_of (table d) p.ty) else None))
    by name true e =
        let same : name ≡ p.name.text = same_text name p.name.text e in
        same_or (lookup (text_eq name) (what_are d ps)) (if text_eq name p.name.text then Some (parameter_of (table d) p.ty) else None) (ap is_some (sym (are name)) ∙ ap (λ n. is_some (lookup (text_eq n) es)) same ∙ has)
    by name false e = rw (e, or_none (lookup (text_eq name) (what_are d ps))) refl

-- and one that isn't gets what is told of the parameter
pub given_new : (d : Desc) (es new : List (Text × Given)) (ps : List Par) (p : Par) (key : Text) (g : Given) → AreGiven es (what_are d ps) → is_some (lookup (text_eq p.name.text) es) ≡ false
    → key ≡ p.name.text → g ≡ given (parameter_of (table d) p.ty) → ((name : Text) → lookup (text_eq name) new ≡ cond (text_eq key name) (Some g) (lookup (text_eq name) es)) → AreGiven new (what_are d (ps ++ p ∷ []))
given_new d es new ps p key g are lacks named told updated = λ name.
    updated name ∙ rw (named, told, turned p.name.text name) (by name (text_eq name p.name.text) refl) ∙ ap (option_map given) (sym (behind name d ps p))
  where
    by : (name : Text) (b : Bool) → text_eq name p.name.text ≡ b
        → cond (text_eq name p.name.text) (Some (given (parameter_of (table d) p.ty))) (lookup (text_eq name) es)
        ≡ option_map given (option_or (lookup (text_eq name) (what_are d ps)) (if text_eq name p.name.text then Some (parameter_of (table d) p.ty) else None))
    by name true e =
        let same : name ≡ p.name.text = same_text name p.name.text e in
        rw e (other_or (lookup (text_eq name) (what_are d ps)) (parameter_of (table d) p.ty) (ap is_some (sym (are name)) ∙ ap (λ n. is_some (lookup (text_eq n) es)) same ∙ lacks))
    by name false e = rw (e, or_none (lookup (text_eq name) (what_are d ps))) (are name)

taken_more : (rest : List (ℕ × Par)) (i : ℕ) (x : ℕ × Par) → i < length rest → x ≡ get_or rest i x → further (take (suc i) rest) ≡ further (take i rest) ++ x.1 ∷ []
taken_more [] i x low is = absurd (omega (arith, low))
taken_more (r ∷ rest) zero x low is = rw is refl
taken_more (r ∷ rest) (suc i) x low is = ap (λ ps. r.1 ∷ ps) (taken_more rest i x (omega (arith, low)) is)

pub one_further : (rest : List (ℕ × Par)) (i : ℕ) (x : ℕ × Par) (ps : List Par) → i < length rest → x ≡ get_or rest i x → (ps ++ further (take i rest)) ++ x.1 ∷ [] ≡ ps ++ further (take (i + 1) rest)
one_further rest i x ps low is =
    let n : i + 1 ≡ suc i = omega arith in
    rw (n, taken_more rest i x low is) (append_assoc ps (further (take i rest)) (x.1 ∷ []))

pub all_further : (rest : List (ℕ × Par)) (i : ℕ) (ps : List Par) → length rest ≤ i → ps ++ further (take i rest) ≡ ps ++ further rest
all_further rest i ps far = ap (λ r. ps ++ further r) (take_all i rest far)
