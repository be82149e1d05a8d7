-- In a table whose images name each parameter once, each field of a derivation stands once in its image.
use Rattle.std.proofs.Common.{ℕ, ◌+◌, ◌≡◌, ◌≢◌, refl, sym, ap, subst, Bool, true, false, List, [], ◌∷◌, append-nil, length, Some, arith, inl, inr}
use Rattle.std.specs.Cmp.Lexicographic.{bytes_decides}
use Rattle.std.specs.Prelude.{cond, unwrap_or}
use Rattle.std.specs.Map.{lookup}
use Rattle.nk_base.specs.Number.{width_of}
use Rattle.nk_base.specs.declared.number.Ty.{Ty}
use Rattle.nk_base.specs.Text.{text_eq}
use Rattle.nml_tree.specs.declared.attributes.Template.{Template}
use Rattle.nml_tree.specs.declared.tree.Par.{Par}
use Rattle.nml_tree.specs.Table.{Text, Table, Rule, Declared, declared}
use Rattle.nml_tree.specs.Mentions.{mentions}
use Rattle.nml_tree.specs.Derivation.{Derivation, Arguments, Pick, Compose, NoMore, Part, Field, IsDerivation, Fill, fields}
use Rattle.nml_tree.specs.Template.{given}
use Rattle.nml_tree.specs.Image.{bit}
use Rattle.nml_tree.specs.Outline.{types, types_of}
use Rattle.nml_outline.proofs.ExactBits.{Given, exact, exacts, run_below}
use Rattle.nml_outline.proofs.Stands.{Each, each_given, NotOf, OnceIn, Once, IsFilled, Others, once_text, TypeAt, type_either, type_within, types_long, without, withouts, run_without}

-- no parameter has this name
abbrev pub NotAmong : Text → List Par → Type 0
NotAmong x [] = Unit {0}
NotAmong x (p ∷ ps) = (text_eq p.name.text x ≡ false) × NotAmong x ps

-- no two parameters have one name
abbrev pub AreApart : List Par → Type 0
AreApart [] = Unit {0}
AreApart (p ∷ ps) = NotAmong p.name.text ps × AreApart ps

-- the text names each of them once
abbrev pub EachOnce : Template → List Par → Type 0
EachOnce text [] = Unit {0}
EachOnce text (p ∷ ps) = (mentions p.name.text text ≡ 1) × EachOnce text ps

-- what N4, N6 and N8 say of an image
pub record IsLinear (pars : List Par) (text : Template) : Type 0 where
  pub apart : AreApart pars
  pub once : EachOnce text pars
  pub filled : IsFilled text

-- so is the image of each and-rule
abbrev pub HasLinearImages : Table → Type 0
HasLinearImages t = (name : Text) (rule : Rule) → declared t name ≡ Some (Declared.And rule) → IsLinear rule.pars rule.image

-- and its syntax
abbrev pub HasLinearTexts : Table → Type 0
HasLinearTexts t = (name : Text) (rule : Rule) → declared t name ≡ Some (Declared.And rule) → IsLinear rule.pars rule.syntax

pub itself_eq : (q : Text) → text_eq q q ≡ true
itself_eq q = (bytes_decides q q).1 refl

flip_from : (q r : Text) (b : Bool) → text_eq r q ≡ b → text_eq q r ≡ false → text_eq r q ≡ false
flip_from q r false e h = e
flip_from q r true e h = let k : text_eq q r ≡ true = (bytes_decides q r).1 (sym ((bytes_decides r q).0 e)) in absurd cc

pub flip_eq : (q r : Text) → text_eq q r ≡ false → text_eq r q ≡ false
flip_eq q r h = flip_from q r (text_eq r q) refl h

pub given_first : {A : Type 0} (q : Text) (x : List A) (xs : List (Text × List A)) → given ((q, x) ∷ xs) q ≡ x
given_first q x xs = ap (λ b. unwrap_or (cond b (Some x) (lookup (text_eq q) xs)) []) (itself_eq q)

pub given_rest : {A : Type 0} (q r : Text) (x : List A) (xs : List (Text × List A)) → text_eq r q ≡ false → given ((q, x) ∷ xs) r ≡ given xs r
given_rest q r x xs h = ap (λ b. unwrap_or (cond b (Some x) (lookup (text_eq r) xs)) []) h

-- the parameter in which the run stands
pub record Holder {A : Type 0} (pars : List Par) (P : A → Type 0) (run : List A) (xs : List (Text × List A)) : Type 0 where
  pub name : Text
  pub apart : (x : Text) → NotAmong x pars → text_eq name x ≡ false
  pub mentioned : (text : Template) → EachOnce text pars → mentions name text ≡ 1
  pub once : OnceIn P run (given xs name)
  pub others : Others P name xs

run_once : (n m : ℕ) (ty u : Ty) → n ≡ m → u ≡ ty → Once n ty (run_below m u (width_of u))
run_once n m ty u e f =
    let whole : Once m u (run_below m u (width_of u)) = record { before = []; behind = []; are = sym (append-nil (run_below m u (width_of u))); none_before = tt; none_behind = tt } in
    subst (λ k. Once k ty (run_below m u (width_of u))) (sym e) (subst (λ v. Once m v (run_below m u (width_of u))) f whole)

-- it stands in the first
pub holder_first : {A : Type 0} (P : A → Type 0) (run : List A) (p : Par) (pars : List Par) (name : Text) (x : List A) (xs : List (Text × List A)) → p.name.text ≡ name → OnceIn P run x → ((r : Text) → Each P (given xs r))
    → Holder (p ∷ pars) P run ((name, x) ∷ xs)
holder_first P run p pars name x xs is o k =
    record {
      name = name;
      apart = λ y h. subst (λ z. text_eq z y ≡ false) is h.0;
      mentioned = λ text h. subst (λ z. mentions z text ≡ 1) is h.0;
      once = subst (OnceIn P run) (sym (given_first name x xs)) o;
      others = λ r h. subst (Each P) (sym (given_rest name r x xs (flip_eq name r h))) (k r);
    }

pub holder_rest : {A : Type 0} (P : A → Type 0) (run : List A) (p : Par) (pars : List Par) (name : Text) (x : List A) (xs : List (Text × List A)) → p.name.text ≡ name → NotAmong p.name.text pars → Each P x → Holder pars P run xs
    → Holder (p ∷ pars) P run ((name, x) ∷ xs)
holder_rest P run p pars name x xs is not k h =
    let differs : text_eq h.name name ≡ false = subst (λ z. text_eq h.name z ≡ false) is (h.apart p.name.text not) in
    record {
      name = h.name;
      apart = λ y l. h.apart y l.1;
      mentioned = λ text l. h.mentioned text l.1;
      once = subst (OnceIn P run) (sym (given_rest name h.name x xs differs)) h.once;
      others = λ r l. each_given P (name, x) xs r k (h.others r l);
    }

mutual
  pub stands : (d : Derivation) (t : Table) (name : Text) (m n : ℕ) (ty : Ty) → HasLinearImages t → IsDerivation t name d → TypeAt (types d) m n ty → Once n ty (exact m d)
  stands (Pick k d) t name m n ty lin h at = stands d t h.0 m n ty lin h.2 at
  stands (Compose rule args) t name m n ty lin h at =
      let one = lin name rule h.0 in
      let p = stands_args args t rule.pars m n ty lin h.1 one.apart at in
      once_text (NotOf n) (run_below n ty (width_of ty)) (λ c. Given (bit c)) rule.image (exacts m args) p.name (λ c. tt) (p.mentioned rule.image one.once) one.filled p.others p.once

  stands_args : (a : Arguments) (t : Table) (pars : List Par) (m n : ℕ) (ty : Ty) → HasLinearImages t → Fill t pars a → AreApart pars → TypeAt (types_of a) m n ty → Holder pars (NotOf n) (run_below n ty (width_of ty)) (exacts m a)
  stands_args NoMore t pars m n ty lin h apart at = absurd at
  stands_args (Part name d args) t pars m n ty lin h apart at =
      let two : AreApart (h.0 ∷ h.1) = subst AreApart h.3 apart in
      let long = types_long d in
      rw h.3 (elim (type_either (types d) (types_of args) m n ty at) [
        | inl here ↦
            let low = type_within (types d) m n ty here in
            holder_first (NotOf n) (run_below n ty (width_of ty)) h.0 h.1 name (exact m d) (exacts (m + length (fields d)) args) h.4 (stands d t h.2 m n ty lin h.6 here)
            (λ r. withouts args (m + length (fields d)) n r (inl (omega (arith, low, long))))
        | inr there ↦
            let further : TypeAt (types_of args) (m + length (fields d)) n ty = subst (λ k. TypeAt (types_of args) (m + k) n ty) long there in
            let low = type_within (types_of args) (m + length (fields d)) n ty further in
            holder_rest (NotOf n) (run_below n ty (width_of ty)) h.0 h.1 name (exact m d) (exacts (m + length (fields d)) args) h.4 two.0 (without d m n (inr (omega (arith, low.0))))
            (stands_args args t h.1 (m + length (fields d)) n ty lin h.7 two.1 further)
      ])
  stands_args (Field name u z args) t pars m n ty lin h apart (inl at) =
      let e = at.0 in
      rw h.2 (holder_first (NotOf n) (run_below n ty (width_of ty)) h.0 h.1 name (run_below m u (width_of u)) (exacts (m + 1) args) h.3 (run_once n m ty u at.0 at.1) (λ r. withouts args (m + 1) n r (inl (omega (arith, e)))))
  stands_args (Field name u z args) t pars m n ty lin h apart (inr at) =
      let two : AreApart (h.0 ∷ h.1) = subst AreApart h.2 apart in
      let low = type_within (types_of args) (m + 1) n ty at in
      let other : n ≢ m = λ e. omega (arith, e, low.0) in
      rw h.2 (holder_rest (NotOf n) (run_below n ty (width_of ty)) h.0 h.1 name (run_below m u (width_of u)) (exacts (m + 1) args) h.3 two.0 (run_without n m u (width_of u) other)
      (stands_args args t h.1 (m + 1) n ty lin h.6 two.1 at))
