-- A value by the nodes of its expression, and by a name.
use Rattle.std.proofs.Common.{ℕ, zero, suc, ◌+◌, ◌-◌, ◌*◌, ◌≤◌, ◌<◌, max, List, [], ◌∷◌, ◌++◌, ◌≡◌, ℤ, length, drop, arith, refl, sym, ◌∙◌, ap, subst, Some, None, Option, Bool, true, false, cond, suc-mul, append_assoc, FitsSigned}
use Rattle.std.specs.Int.{w128}
use Rattle.std.specs.Prelude.{slice_get, unwrap_or, option_and_then, int_le, unsigned_abs, ◌-ℤ◌, pos, negsuc, ◌&&◌, nat_le, if◌then◌else◌}
use Rattle.std.specs.Map.{lookup}
use Rattle.std.proofs.lemmas.Bool.{leb-true}
use Rattle.nk_base.specs.Text.{text_eq}
use Rattle.nk_base.specs.Number.{IsWidth}
use Rattle.nk_base.specs.declared.number.Ty.{Ty}
use Rattle.nk_base.specs.declared.number.Ty.TheVariants as tys
use Rattle.std.proofs.lemmas.Int.{ints}
use Rattle.nml_tree.specs.declared.tree.Size.{Size}
use Rattle.nml_tree.specs.declared.tree.Par.{Par}
use Rattle.nml_tree.specs.declared.operator.Bin.{Bin}
use Rattle.nml_tree.specs.declared.operator.Un.TheVariants as Un
use Rattle.nml_tree.specs.Formula as formula
use Rattle.nml_tree.specs.Formula.{Formula, Prefix, Fit}
use Rattle.nml_tree.specs.Act.{Term}
use Rattle.nml_tree.specs.Table.{Text, Table, Rule, Declared, declared, natural, size_number, size_or_none}
use Rattle.nml_tree.specs.Derivation.{Derivation, Arguments, Compose, NoMore, Part, Field, IsDerivation, Fill, fields, fields_of}
use Rattle.nml_tree.specs.Value.{value, unary, binary, is_zero, is_true, number_at}
use Rattle.nml_tree.specs.Worth.{Worth, Untold, rule_scope, as_number, unknown, number, of_run, of_bits, are_bits, of_ty, is_type}
use Rattle.nml_tree.specs.Written as written
use Rattle.nml_tree.specs.Written.{Argument, arguments, term, named, source, prefix}
use Rattle.nml_widths.specs.Fitting.{EachValue, Everywhere, Sound, StandAt, Within}
use Rattle.attr_eval.specs.Alone.{alone, Alone, value_depth, deepest}
use Rattle.attr_eval.specs.Found.{Other, IsFirst}
use Rattle.attr_eval.specs.Walks.{Walks, WalksAll, from}

-- a mode's value is no deeper than the deepest
not_deeper : (b : Bool) (y x : Declared) (r : Rule) (o : Option Declared) (most least : ℕ) → x ≡ Declared.And r → (y ≡ Declared.And r → value_depth r.value ≤ least) → most ≤ least → (o ≡ Some x → value_depth r.value ≤ most) → cond b (Some y) o ≡ Some x → value_depth r.value ≤ least
not_deeper true y x r o most least is first low f h = let s : y ≡ x = cc in first (s ∙ is)
not_deeper false y x r o most least is first low f h = omega (arith, f h, low)

pub within_deepest : (t : Table) (name : Text) (r : Rule) → declared t name ≡ Some (Declared.And r) → value_depth r.value ≤ deepest t
within_deepest [] name r is = absurd cc
within_deepest ((q, Declared.And x) ∷ t) name r is = not_deeper (text_eq name q) (Declared.And x) (Declared.And r) r (declared t name) (deepest t) (max (value_depth x.value) (deepest t)) refl (λ e. (let s : x ≡ r = cc in rw (← s) (omega arith))) (omega arith) (within_deepest t name r) is
within_deepest ((q, Declared.Constant z) ∷ t) name r is = not_deeper (text_eq name q) (Declared.Constant z) (Declared.And r) r (declared t name) (deepest t) (deepest t) refl (λ e. absurd cc) (omega arith) (within_deepest t name r) is
within_deepest ((q, Declared.TypeName ty) ∷ t) name r is = not_deeper (text_eq name q) (Declared.TypeName ty) (Declared.And r) r (declared t name) (deepest t) (deepest t) refl (λ e. absurd cc) (omega arith) (within_deepest t name r) is
within_deepest ((q, Declared.Storage n k ty) ∷ t) name r is = not_deeper (text_eq name q) (Declared.Storage n k ty) (Declared.And r) r (declared t name) (deepest t) (deepest t) refl (λ e. absurd cc) (omega arith) (within_deepest t name r) is
within_deepest ((q, Declared.Trn n ty) ∷ t) name r is = not_deeper (text_eq name q) (Declared.Trn n ty) (Declared.And r) r (declared t name) (deepest t) (deepest t) refl (λ e. absurd cc) (omega arith) (within_deepest t name r) is
within_deepest ((q, Declared.Inp ty) ∷ t) name r is = not_deeper (text_eq name q) (Declared.Inp ty) (Declared.And r) r (declared t name) (deepest t) (deepest t) refl (λ e. absurd cc) (omega arith) (within_deepest t name r) is
within_deepest ((q, Declared.Out ty) ∷ t) name r is = not_deeper (text_eq name q) (Declared.Out ty) (Declared.And r) r (declared t name) (deepest t) (deepest t) refl (λ e. absurd cc) (omega arith) (within_deepest t name r) is
within_deepest ((q, Declared.Or mode names) ∷ t) name r is = not_deeper (text_eq name q) (Declared.Or mode names) (Declared.And r) r (declared t name) (deepest t) (deepest t) refl (λ e. absurd cc) (omega arith) (within_deepest t name r) is

-- a rule's expression is less than one more rule
pub less_deep : (limit d most : ℕ) → 0 < limit → d ≤ most → (limit - 1) * (most + 3) + d + 1 < limit * (most + 3)
less_deep zero d most some low = absurd (omega arith)
less_deep (suc n) d most some low = let e : suc n - 1 ≡ n = omega arith in let f : suc n * (most + 3) ≡ n * (most + 3) + (most + 3) = suc-mul n (most + 3) in rw e (omega (arith, f))

-- what the first parameter of a name is
first_other : (name : Text) (pars others : List Par) (p : Par) (k : ℕ) → pars ≡ p ∷ others → Other name pars (suc k) → text_eq name p.name.text ≡ false
first_other name pars others p k is h = let e : slice_get pars 0 ≡ Some p = rw is refl in h 0 p (omega arith) e

next_other : (name : Text) (pars others : List Par) (p : Par) (k : ℕ) → pars ≡ p ∷ others → Other name pars (suc k) → Other name others k
next_other name pars others p k is h i q low at = let e : slice_get pars (suc i) ≡ slice_get others i = rw is refl in h (suc i) q (omega (arith, low)) (e ∙ at)

next_first : (name : Text) (pars others : List Par) (p x : Par) (k : ℕ) → pars ≡ p ∷ others → IsFirst name pars (suc k) x → IsFirst name others k x
next_first name pars others p x k is f =
    let e : slice_get pars (suc k) ≡ slice_get others k = rw is refl in
    record { stands = sym e ∙ f.stands; named = f.named; before = next_other name pars others p k is f.before }

first_is : (pars others : List Par) (p x : Par) → pars ≡ p ∷ others → slice_get pars 0 ≡ Some x → p ≡ x
first_is pars others p x is at = let e : slice_get pars 0 ≡ Some p = rw is refl in cc

-- further behind in the fields
drop_plus : (n : ℕ) (zs xs ys : List ℤ) → drop n zs ≡ xs ++ ys → drop (n + length xs) zs ≡ ys
drop_plus n zs [] ys h = let e : n + 0 ≡ n = omega arith in ap (λ k. drop k zs) e ∙ h
drop_plus n zs (x ∷ xs) ys h =
    let e : n + suc (length xs) ≡ suc n + length xs = omega arith in
    ap (λ k. drop k zs) e ∙ drop_plus (suc n) zs xs ys (drop_one n zs x (xs ++ ys) h)
  where
    drop_one : (n : ℕ) (zs : List ℤ) (x : ℤ) (rest : List ℤ) → drop n zs ≡ x ∷ rest → drop (suc n) zs ≡ rest
    drop_one zero [] x rest h = absurd cc
    drop_one zero (z ∷ zs) x rest h = cc
    drop_one (suc n) [] x rest h = absurd cc
    drop_one (suc n) (z ∷ zs) x rest h = drop_one n zs x rest h

number_front : (n : ℕ) (zs : List ℤ) (x : ℤ) (rest : List ℤ) → drop n zs ≡ x ∷ rest → number_at zs n ≡ x
number_front zero [] x rest h = absurd cc
number_front zero (z ∷ zs) x rest h = cc
number_front (suc n) [] x rest h = absurd cc
number_front (suc n) (z ∷ zs) x rest h = number_front n zs x rest h

pub stand_drop : (xs zs ys : List ℤ) (n : ℕ) → drop n zs ≡ xs ++ ys → StandAt zs n xs
stand_drop [] zs ys n h k low = absurd (omega (arith, low))
stand_drop (x ∷ xs) zs ys n h zero low = let e : n + 0 ≡ n = omega arith in ap (number_at zs) e ∙ number_front n zs x (xs ++ ys) h
stand_drop (x ∷ xs) zs ys n h (suc k) low =
    let e : n + suc k ≡ n + 1 + k = omega arith in
    ap (number_at zs) e ∙ stand_drop xs zs ys (n + 1) (drop_plus n zs (x ∷ []) (xs ++ ys) h) k (omega (arith, low))

here : {A : Type 0} (b : Bool) (x : A) (o : Option A) → b ≡ true → cond b (Some x) o ≡ Some x
here b x o is = rw is refl

there : {A : Type 0} (b : Bool) (x : A) (o p : Option A) → b ≡ false → o ≡ p → cond b (Some x) o ≡ p
there b x o p is e = rw is e

pub part_named : (args : Arguments) (t : Table) (pars : List Par) (name : Text) (k : ℕ) (x : Par) (m : Text) (d : Derivation) (rest : Arguments) (n : ℕ) (zs ys : List ℤ) → Fill t pars args → IsFirst name pars k x → from k args ≡ Part m d rest → drop n zs ≡ fields_of args ++ ys
    → (j : ℕ) × (lookup (text_eq name) (arguments t n args) ≡ Some (Argument.Part (written.written t j d))) × (drop j zs ≡ fields_of (from k args) ++ ys)
part_named NoMore t pars name zero x m d rest n zs ys h f is left = absurd cc
part_named NoMore t pars name (suc k) x m d rest n zs ys h f is left = absurd cc
part_named (Part q e args) t pars name zero x m d rest n zs ys h f is left =
    let p = first_is pars h.1 h.0 x h.3 f.stands in
    let b : text_eq name q ≡ true = ap (text_eq name) (sym h.4 ∙ ap (λ q. q.name.text) p) ∙ f.named in
    let s : e ≡ d = cc in
    (n, here (text_eq name q) (Argument.Part (written.written t n e)) _ b ∙ ap (λ y. Some (Argument.Part (written.written t n y))) s, left)
part_named (Part q e args) t pars name (suc k) x m d rest n zs ys h f is left =
    let b : text_eq name q ≡ false = ap (text_eq name) (sym h.4) ∙ first_other name pars h.1 h.0 k h.3 f.before in
    let r = part_named args t h.1 name k x m d rest (n + length (fields e)) zs ys h.7 (next_first name pars h.1 h.0 x k h.3 f) is (drop_plus n zs (fields e) (fields_of args ++ ys) (left ∙ append_assoc (fields e) (fields_of args) ys)) in
    (r.0, there (text_eq name q) (Argument.Part (written.written t n e)) _ _ b r.1, r.2)
part_named (Field q ty z args) t pars name zero x m d rest n zs ys h f is left = absurd cc
part_named (Field q ty z args) t pars name (suc k) x m d rest n zs ys h f is left =
    let b : text_eq name q ≡ false = ap (text_eq name) (sym h.3) ∙ first_other name pars h.1 h.0 k h.2 f.before in
    let r = part_named args t h.1 name k x m d rest (n + 1) zs ys h.6 (next_first name pars h.1 h.0 x k h.2 f) is (drop_plus n zs (z ∷ []) (fields_of args ++ ys) left) in
    (r.0, there (text_eq name q) (Argument.FieldAt n) _ _ b r.1, r.2)

pub field_named : (args : Arguments) (t : Table) (pars : List Par) (name : Text) (k : ℕ) (x : Par) (m : Text) (ty : Ty) (z : ℤ) (rest : Arguments) (n : ℕ) (zs ys : List ℤ) → Fill t pars args → IsFirst name pars k x → from k args ≡ Field m ty z rest → drop n zs ≡ fields_of args ++ ys
    → (j : ℕ) × (lookup (text_eq name) (arguments t n args) ≡ Some (Argument.FieldAt j)) × (number_at zs j ≡ z)
field_named NoMore t pars name zero x m ty z rest n zs ys h f is left = absurd cc
field_named NoMore t pars name (suc k) x m ty z rest n zs ys h f is left = absurd cc
field_named (Part q e args) t pars name zero x m ty z rest n zs ys h f is left = absurd cc
field_named (Part q e args) t pars name (suc k) x m ty z rest n zs ys h f is left =
    let b : text_eq name q ≡ false = ap (text_eq name) (sym h.4) ∙ first_other name pars h.1 h.0 k h.3 f.before in
    let r = field_named args t h.1 name k x m ty z rest (n + length (fields e)) zs ys h.7 (next_first name pars h.1 h.0 x k h.3 f) is (drop_plus n zs (fields e) (fields_of args ++ ys) (left ∙ append_assoc (fields e) (fields_of args) ys)) in
    (r.0, there (text_eq name q) (Argument.Part (written.written t n e)) _ _ b r.1, r.2)
field_named (Field q u y args) t pars name zero x m ty z rest n zs ys h f is left =
    let p = first_is pars h.1 h.0 x h.2 f.stands in
    let b : text_eq name q ≡ true = ap (text_eq name) (sym h.3 ∙ ap (λ q. q.name.text) p) ∙ f.named in
    let s : y ≡ z = cc in
    (n, here (text_eq name q) (Argument.FieldAt n) _ b, number_front n zs y (fields_of args ++ ys) left ∙ s)
field_named (Field q u y args) t pars name (suc k) x m ty z rest n zs ys h f is left =
    let b : text_eq name q ≡ false = ap (text_eq name) (sym h.3) ∙ first_other name pars h.1 h.0 k h.2 f.before in
    let r = field_named args t h.1 name k x m ty z rest (n + 1) zs ys h.6 (next_first name pars h.1 h.0 x k h.2 f) is (drop_plus n zs (y ∷ []) (fields_of args ++ ys) left) in
    (r.0, there (text_eq name q) (Argument.FieldAt n) _ _ b r.1, r.2)

within : (pars : List Par) (i : ℕ) (p : Par) → slice_get pars i ≡ Some p → i < length pars
within [] i p h = absurd cc
within (x ∷ pars) zero p h = omega arith
within (x ∷ pars) (suc i) p h = omega (arith, within pars i p h)

all_other : (args : Arguments) (t : Table) (pars : List Par) (name : Text) (n : ℕ) → Fill t pars args → ((i : ℕ) (p : Par) → slice_get pars i ≡ Some p → text_eq name p.name.text ≡ false) → lookup (text_eq name) (arguments t n args) ≡ None
all_other NoMore t pars name n h f = refl
all_other (Part q e args) t pars name n h f =
    let a : slice_get pars 0 ≡ Some h.0 = rw h.3 refl in
    let b : text_eq name q ≡ false = ap (text_eq name) (sym h.4) ∙ f 0 h.0 a in
    there (text_eq name q) (Argument.Part (written.written t n e)) _ _ b (all_other args t h.1 name (n + length (fields e)) h.7 (λ i p at. let g : slice_get pars (suc i) ≡ slice_get h.1 i = rw h.3 refl in f (suc i) p (g ∙ at)))
all_other (Field q ty z args) t pars name n h f =
    let a : slice_get pars 0 ≡ Some h.0 = rw h.2 refl in
    let b : text_eq name q ≡ false = ap (text_eq name) (sym h.3) ∙ f 0 h.0 a in
    there (text_eq name q) (Argument.FieldAt n) _ _ b (all_other args t h.1 name (n + 1) h.6 (λ i p at. let g : slice_get pars (suc i) ≡ slice_get h.1 i = rw h.2 refl in f (suc i) p (g ∙ at)))

pub none_named : (args : Arguments) (t : Table) (pars : List Par) (name : Text) (n : ℕ) → Fill t pars args → Other name pars (length pars) → lookup (text_eq name) (arguments t n args) ≡ None
none_named args t pars name n h f = all_other args t pars name n h (λ i p at. f i p (within pars i p at) at)

-- the argument that the name is
pub argument_is : (t : Table) (scope : written.Scope) (zs : List ℤ) (name : Text) (i : Term) (o : Option Argument) (r : ℤ) → lookup (text_eq name) scope ≡ o → r ≡ value (alone zs) (named o (declared t name) i) → r ≡ value (alone zs) (written.reference t scope name i)
argument_is t scope zs name i o r is e = e ∙ ap (λ x. value (alone zs) (named x (declared t name) i)) (sym is)

-- widths and runs of bits
pub told : (b : Bool) (w : Worth) (z : ℤ) → Within (as_number (if b then w else unknown)).cap z → b ≡ true
told true w z h = refl
told false w z h = absurd h

both_left : (a b : Bool) → (a && b) ≡ true → a ≡ true
both_left true b h = refl
both_left false b h = absurd cc

both_right : (a b : Bool) → (a && b) ≡ true → b ≡ true
both_right true b h = h
both_right false b h = absurd cc

pub width_is : (n : ℕ) → (nat_le 1 n && nat_le n 64) ≡ true → IsWidth n
width_is n h = (omega (arith, leb-true 1 n (both_left (nat_le 1 n) (nat_le n 64) h)), omega (arith, leb-true n 64 (both_right (nat_le 1 n) (nat_le n 64) h)))

told_bits : (b : Bool) (n : ℕ) (z : ℤ) → Within (if b then of_run n else number 0 Untold).cap z → b ≡ true
told_bits true n z h = refl
told_bits false n z h = absurd h

bits_are : (hi lo : ℤ) → are_bits hi lo ≡ true → (unwrap_or (natural lo) 0 ≤ unwrap_or (natural hi) 0) × (unwrap_or (natural hi) 0 ≤ 126) × (unwrap_or (natural hi) 0 - unwrap_or (natural lo) 0 ≤ 63)
bits_are hi lo h =
    let first : (int_le lo hi && int_le hi (pos 126)) ≡ true = both_left (int_le lo hi && int_le hi (pos 126)) (int_le (hi -ℤ lo) (pos 63)) h in
    each hi lo (both_left (int_le lo hi) (int_le hi (pos 126)) first) (both_right (int_le lo hi) (int_le hi (pos 126)) first) (both_right (int_le lo hi && int_le hi (pos 126)) (int_le (hi -ℤ lo) (pos 63)) h)
  where
    each : (hi lo : ℤ) → int_le lo hi ≡ true → int_le hi (pos 126) ≡ true → int_le (hi -ℤ lo) (pos 63) ≡ true → (unwrap_or (natural lo) 0 ≤ unwrap_or (natural hi) 0) × (unwrap_or (natural hi) 0 ≤ 126) × (unwrap_or (natural hi) 0 - unwrap_or (natural lo) 0 ≤ 63)
    each (pos a) (pos b) h i j = (omega (arith, ints, h), omega (arith, ints, i), omega (arith, ints, j, h))
    each (pos a) (negsuc b) h i j = (omega (arith, ints, h), omega (arith, ints, i), omega (arith, ints, j, h))
    each (negsuc a) (pos b) h i j = absurd (omega (arith, ints, h))
    each (negsuc a) (negsuc b) h i j = (omega arith, omega arith, omega arith)

pub bits_may : (o p : Option ℤ) (z : ℤ) → Within (of_bits o p).cap z → (unwrap_or (option_and_then natural p) 0 ≤ unwrap_or (option_and_then natural o) 0) × (unwrap_or (option_and_then natural o) 0 ≤ 126) × (unwrap_or (option_and_then natural o) 0 - unwrap_or (option_and_then natural p) 0 ≤ 63)
bits_may None p z h = absurd h
bits_may (Some hi) None z h = absurd h
bits_may (Some hi) (Some lo) z h = bits_are hi lo (told_bits (are_bits hi lo) (unsigned_abs (hi -ℤ lo)) z h)

-- node by node
module _ (t : Table) (rule : Rule) (scope : written.Scope) (zs : List ℤ) where
  abbrev P : Formula → Type 0
  P = Everywhere (Sound (rule_scope t rule) scope (alone zs))

  abbrev V : Formula → ℤ
  V x = value (alone zs) (term t scope x)

  pub paren_node : (f x : Formula) (r : ℤ) → (p : ℕ) × (q : ℕ) × (f ≡ formula.Paren p x q) → P f → (P x → r ≡ V x) → r ≡ V f
  paren_node f x r h s k = let e = subst P h.2 s in k e.1 ∙ ap V (sym h.2)

  pub choose_node : (f c x y : Formula) (a r : ℤ) (b : Bool) → (at : ℕ) × (m : ℕ) × (n : ℕ) × (end : ℕ) × (f ≡ formula.Choose at c m x n y end) → P f → (P c → a ≡ V c) → is_zero a ≡ b → (P x → b ≡ false → r ≡ V x) → (P y → b ≡ true → r ≡ V y) → r ≡ V f
  choose_node f c x y a r b h s ka is kx ky =
      let e = subst P h.4 s in
      let z : is_zero (V c) ≡ b = ap is_zero (sym (ka e.1)) ∙ is in
      side b z (kx e.2) (ky e.3) ∙ ap V (sym h.4)
    where
      side : (b : Bool) → is_zero (V c) ≡ b → (b ≡ false → r ≡ V x) → (b ≡ true → r ≡ V y) → r ≡ (if is_true (V c) then V x else V y)
      side true z kx ky = rw z (ky refl)
      side false z kx ky = rw z (kx refl)

  pub binary_node : (f x y : Formula) (op : Bin) (a b r : ℤ) → (at : ℕ) × (f ≡ formula.Binary op x at y) → P f → (P x → a ≡ V x) → (P y → b ≡ V y) → (FitsSigned w128 (binary op a b) → r ≡ binary op a b) → r ≡ V f
  binary_node f x y op a b r h s ka kb k =
      let e = subst P h.1 s in
      let m : binary op a b ≡ binary op (V x) (V y) = ap (λ z. binary op z b) (ka e.1) ∙ ap (binary op (V x)) (kb e.2) in
      k (subst (FitsSigned w128) (sym m) e.0.narrow) ∙ m ∙ ap V (sym h.1)

  pub inverse_node : (f x : Formula) (a r : ℤ) → (at : ℕ) × (f ≡ formula.Unary Prefix.Inv at x) → P f → (P x → a ≡ V x) → (Unit {0} → r ≡ unary Un.Inv a) → r ≡ V f
  inverse_node f x a r h s ka k = let e = subst P h.1 s in k tt ∙ ap (unary Un.Inv) (ka e.1) ∙ ap V (sym h.1)

  pub not_node : (f x : Formula) (a r : ℤ) → (at : ℕ) × (f ≡ formula.Unary Prefix.Not at x) → P f → (P x → a ≡ V x) → (Unit {0} → r ≡ unary Un.Not a) → r ≡ V f
  not_node f x a r h s ka k = let e = subst P h.1 s in k tt ∙ ap (unary Un.Not) (ka e.1) ∙ ap V (sym h.1)

  pub negative_node : (f x : Formula) (a r : ℤ) → (at : ℕ) × (f ≡ formula.Unary Prefix.Neg at x) → P f → (P x → a ≡ V x) → (FitsSigned w128 (unary Un.Neg a) → r ≡ unary Un.Neg a) → r ≡ V f
  negative_node f x a r h s ka k =
      let e = subst P h.1 s in
      let m : unary Un.Neg a ≡ unary Un.Neg (V x) = ap (unary Un.Neg) (ka e.1) in
      k (subst (FitsSigned w128) (sym m) e.0.narrow) ∙ m ∙ ap V (sym h.1)

  pub int_node : (f x : Formula) (size : Size) (k : ℕ) (a r : ℤ) → (at : ℕ) × (p : ℕ) × (c : ℕ) × (q : ℕ) × (f ≡ formula.Fitted Fit.Int at p size c x q) → P f → (P x → a ≡ V x) → (size_or_none t size ≤ 126 → k ≡ size_or_none t size) → (IsWidth k → r ≡ unary (Un.Int k) a) → r ≡ V f
  int_node f x size k a r h s ka kk kr =
      let e = subst P h.4 s in
      let w = width_is (size_or_none t size) (told (is_type (tys.Int (size_or_none t size))) (of_ty (tys.Int (size_or_none t size))) _ e.0.fits.within) in
      let same = kk (omega (arith, w.1)) in
      kr (subst IsWidth (sym same) w) ∙ ap (λ j. unary (Un.Int j) a) same ∙ ap (unary (Un.Int (size_or_none t size))) (ka e.1) ∙ ap V (sym h.4)

  pub card_node : (f x : Formula) (size : Size) (k : ℕ) (a r : ℤ) → (at : ℕ) × (p : ℕ) × (c : ℕ) × (q : ℕ) × (f ≡ formula.Fitted Fit.Card at p size c x q) → P f → (P x → a ≡ V x) → (size_or_none t size ≤ 126 → k ≡ size_or_none t size) → (IsWidth k → r ≡ unary (Un.Card k) a) → r ≡ V f
  card_node f x size k a r h s ka kk kr =
      let e = subst P h.4 s in
      let w = width_is (size_or_none t size) (told (is_type (tys.Card (size_or_none t size))) (of_ty (tys.Card (size_or_none t size))) _ e.0.fits.within) in
      let same = kk (omega (arith, w.1)) in
      kr (subst IsWidth (sym same) w) ∙ ap (λ j. unary (Un.Card j) a) same ∙ ap (unary (Un.Card (size_or_none t size))) (ka e.1) ∙ ap V (sym h.4)

  pub sat_node : (f x : Formula) (size : Size) (k : ℕ) (a r : ℤ) → (at : ℕ) × (p : ℕ) × (c : ℕ) × (q : ℕ) × (f ≡ formula.Fitted Fit.Sat at p size c x q) → P f → (P x → a ≡ V x) → (size_or_none t size ≤ 126 → k ≡ size_or_none t size) → (IsWidth k → r ≡ unary (Un.Sat k) a) → r ≡ V f
  sat_node f x size k a r h s ka kk kr =
      let e = subst P h.4 s in
      let w = width_is (size_or_none t size) (told (is_type (tys.Int (size_or_none t size))) (of_ty (tys.Int (size_or_none t size))) _ e.0.fits.within) in
      let same = kk (omega (arith, w.1)) in
      kr (subst IsWidth (sym same) w) ∙ ap (λ j. unary (Un.Sat j) a) same ∙ ap (unary (Un.Sat (size_or_none t size))) (ka e.1) ∙ ap V (sym h.4)

  pub bits_node : (f x : Formula) (high low : Size) (j k : ℕ) (a r : ℤ) → (at : ℕ) × (p : ℕ) × (c : ℕ) × (m : ℕ) × (q : ℕ) × (f ≡ formula.Bits at p x c high m low q) → P f → (P x → a ≡ V x)
      → (size_or_none t high ≤ 126 → j ≡ size_or_none t high) → (size_or_none t low ≤ 126 → k ≡ size_or_none t low) → ((k ≤ j) × (j ≤ 126) × (j - k ≤ 63) → r ≡ unary (Un.Bits j k) a) → r ≡ V f
  bits_node f x high low j k a r h s ka kj kk kr =
      let e = subst P h.5 s in
      let w = bits_may (size_number t high) (size_number t low) _ e.0.fits.within in
      let same : j ≡ size_or_none t high = kj w.1 in
      let also : k ≡ size_or_none t low = kk (omega (arith, w.0, w.1)) in
      kr (omega (arith, same, also, w.0), omega (arith, same, w.1), omega (arith, same, also, w.2)) ∙ ap (λ n. unary (Un.Bits n k) a) same ∙ ap (λ n. unary (Un.Bits (size_or_none t high) n) a) also ∙ ap (unary (Un.Bits (size_or_none t high) (size_or_none t low))) (ka e.1) ∙ ap V (sym h.5)

-- a mode's value, written out
pub none_value : (t : Table) (scope : written.Scope) (zs : List ℤ) (o : Option Formula) → o ≡ None → pos 0 ≡ value (alone zs) (written.value_of t scope o)
none_value t scope zs o is = rw is refl

pub some_value : (t : Table) (scope : written.Scope) (zs : List ℤ) (o : Option Formula) (f : Formula) (r : ℤ) → o ≡ Some f → r ≡ value (alone zs) (term t scope f) → r ≡ value (alone zs) (written.value_of t scope o)
some_value t scope zs o f r is e = e ∙ ap (λ x. value (alone zs) (written.value_of t scope x)) (sym is)

pub whole_value : (t : Table) (rule : Rule) (n j : ℕ) (d : Derivation) (ps : List ℕ) (fs : List ℤ) (ks : List ℕ) (ys zs : List ℤ) (r : ℤ) → (a : (args : Arguments) × (d ≡ Compose rule args) × WalksAll t rule.pars n args ps fs ks ys)
    → r ≡ value (alone zs) (written.value_of t (arguments t j a.0) rule.value) → r ≡ value (alone zs) (written.written t j d).value
whole_value t rule n j d ps fs ks ys zs r a e = e ∙ ap (λ x. value (alone zs) (written.written t j x).value) (sym a.1)

-- the value is sound where the derivation stands in front
pub sound_value : (t : Table) (name : Text) (rule : Rule) (n limit j : ℕ) (d : Derivation) (ps : List ℕ) (fs : List ℤ) (ks : List ℕ) (ys zs : List ℤ) (f : Formula) → Walks t name limit d ps fs ks ys → (a : (args : Arguments) × (d ≡ Compose rule args) × WalksAll t rule.pars n args ps fs ks ys)
    → Alone t j zs fs → rule.value ≡ Some f → Everywhere (Sound (rule_scope t rule) (arguments t j a.0) (alone zs)) f
sound_value t name rule n limit j d ps fs ks ys zs f w a s is =
    subst (EachValue (Everywhere (Sound (rule_scope t rule) (arguments t j a.0) (alone zs)))) is
    (s.sound name rule a.0 j (subst (IsDerivation t name) a.1 w.is) (stand_drop (fields_of a.0) zs ys j (s.left_are ∙ a.2.fields_are)))
