-- How long the action and the value of an and-rule's derivation are, from how long those of its parts are.
use Rattle.std.proofs.Common.{ℕ, zero, suc, ◌≡◌, ◌+◌, ◌*◌, refl, sym, ◌∙◌, ap, subst, arith, Bool, true, false, cond, List, [], ◌∷◌, map, length, slice_get, Option, Some, None}
use Rattle.std.specs.Prelude.{◌==◌, if◌then◌else◌}
use Rattle.std.proofs.lemmas.List.{length-map, length-replicate}
use Rattle.std.proofs.Math.Nat.{zero-mul}
use Rattle.std.specs.Map.{lookup}
use Rattle.nk_base.specs.Text.{text_eq}
use Rattle.nk_base.specs.declared.number.Ty.{Ty}
use Rattle.nml_tree.specs.declared.tree.Par.{Par}
use Rattle.nml_tree.specs.declared.tree.Desc.{Desc}
use Rattle.nml_tree.specs.Table.{Text, Table, Rule, Declared, declared, table}
use Rattle.nml_tree.specs.Derivation.{Derivation, Arguments, Pick, Compose, NoMore, Part, Field, IsDerivation, Fill, fields}
use Rattle.nml_tree.specs.Refused.{IsFreeBelow}
use Rattle.nml_tree.specs.Act.{Term, Cell}
use Rattle.nml_tree.specs.Written.{Scope, Argument, FieldAt, written, source, named, action_of, arguments}
use Rattle.nml_tree.specs.Exec.{storages}
use Rattle.nml_tree.specs.Shapes.{term_size, act_size, has_one_cell, counted}
use Rattle.attr_exec.proofs.Lawful.{all_numbered}
use Rattle.shape_count.specs.declared.scope.Found.{Found}
use Rattle.shape_count.specs.declared.scope.Found.TheVariants as found_as
use Rattle.shape_count.specs.Sizes.{found_at, found_declared, own_value, value_mentioned, with_block, block_mentioned, acted}
use Rattle.shape_count.specs.Weights.{numbered, par_names, zeros, rule_finds}
use Rattle.shape_count.proofs.Greatest.{counted_product}
use Rattle.shape_count.proofs.Written.{dot, Means, Acts, Known, size_of_value, size_of_block}
use Rattle.shape_count.proofs.Targets.{rule_targets}

-- what stands for a parameter where it is named
abbrev value_for : Argument → Term
value_for (FieldAt n) = Term.Field n
value_for (Argument.Part w) = w.value

module _ (st : List (ℕ × Ty)) where
  -- how large the values of the arguments are, and how long their actions
  abbrev scope_values : Scope → List ℕ
  scope_values scope = map (λ e. term_size st (value_for e.1)) scope

  abbrev scope_acts : Scope → List ℕ
  scope_acts scope = map (λ e. act_size st (action_of (Some e.1))) scope

  -- the place of a name, and what stands for it
  abbrev StandsAt : ℕ → (zs ys : List ℕ) → Option ℕ → Option Argument → Type 0
  StandsAt k zs ys None None = Unit {0}
  StandsAt k zs ys (Some i) (Some a) = (j : ℕ) × (i ≡ k + j) × (slice_get zs j ≡ Some (term_size st (value_for a))) × (slice_get ys j ≡ Some (act_size st (action_of (Some a))))
  StandsAt k zs ys _ _ = ⊥

  stands_first : (b : Bool) (k : ℕ) (a : Argument) (zs ys : List ℕ) (o : Option ℕ) (x : Option Argument) → StandsAt (k + 1) zs ys o x → StandsAt k (term_size st (value_for a) ∷ zs) (act_size st (action_of (Some a)) ∷ ys) (cond b (Some k) o) (cond b (Some a) x)
  stands_first true k a zs ys o x h = (0, omega arith, refl, refl)
  stands_first false k a zs ys None None h = tt
  stands_first false k a zs ys (Some i) (Some y) h = let e = h.1 in (suc h.0, omega (arith, e), h.2, h.3)
  stands_first false k a zs ys None (Some y) h = absurd h
  stands_first false k a zs ys (Some i) None h = absurd h

  stands_at : (scope : Scope) (k : ℕ) (name : Text) → StandsAt k (scope_values scope) (scope_acts scope) (lookup (text_eq name) (numbered k (map (λ e. e.0) scope))) (lookup (text_eq name) scope)
  stands_at [] k name = tt
  stands_at (e ∷ scope) k name = stands_first (text_eq name e.0) k e.1 (scope_values scope) (scope_acts scope) _ _ (stands_at scope (k + 1) name)

named_size : (st : List (ℕ × Ty)) (a : Argument) (d : Option Declared) (x : Term) → term_size st (named (Some a) d x) ≡ term_size st (value_for a)
named_size st (FieldAt n) d x = refl
named_size st (Argument.Part w) d x = refl

-- a storage of one cell, or of several
one_cell : (st : List (ℕ × Ty)) (n k : ℕ) (ty : Ty) → slice_get st n ≡ Some (k, ty) → has_one_cell st n ≡ (k == 1)
one_cell st n k ty h = rw h refl

module _ (t : Table) (zs ys : List ℕ) (scope : Scope) (numbers : (name : Text) (n k : ℕ) (ty : Ty) → declared t name ≡ Some (Declared.Storage n k ty) → slice_get (storages t) n ≡ Some (k, ty)) where
  cells_mean : (f : Text → Found) (b : Bool) (n : ℕ) → has_one_cell (storages t) n ≡ b → Means t (storages t) scope f zs ys (if b then found_as.Leaf else found_as.Wide) (λ x. term_size (storages t) (Cell n x))
  cells_mean f true n h = λ x. rw h refl
  cells_mean f false n h = λ x. rw h refl

  source_means : (f : Text → Found) (name : Text) (o : Option Declared) → declared t name ≡ o → Means t (storages t) scope f zs ys (found_declared o) (λ x. term_size (storages t) (source o x))
  source_means f name None is = λ x. refl
  source_means f name (Some (Declared.Constant z)) is = λ x. refl
  source_means f name (Some (Declared.TypeName ty)) is = λ x. refl
  source_means f name (Some (Declared.Storage n k ty)) is = cells_mean f (k == 1) n (one_cell (storages t) n k ty (numbers name n k ty is))
  source_means f name (Some (Declared.Trn n ty)) is = λ x. refl
  source_means f name (Some (Declared.Inp ty)) is = λ x. refl
  source_means f name (Some (Declared.Out ty)) is = λ x. refl
  source_means f name (Some (Declared.Or mode names)) is = λ x. refl
  source_means f name (Some (Declared.And rule)) is = λ x. refl

  name_means : (f : Text → Found) (name : Text) (o : Option ℕ) (a : Option Argument) → StandsAt (storages t) 0 zs ys o a → Means t (storages t) scope f zs ys (found_at o (declared t name)) (λ x. term_size (storages t) (named a (declared t name) x))
  name_means f name None None h = source_means f name (declared t name) refl
  name_means f name (Some i) (Some a) h =
      let e : h.0 ≡ i = (let g = h.1 in omega (arith, g)) in
      (term_size (storages t) (value_for a), subst (λ j. slice_get zs j ≡ Some (term_size (storages t) (value_for a))) e h.2, λ x. named_size (storages t) a (declared t name) x)
  name_means f name None (Some a) h = absurd h
  name_means f name (Some i) None h = absurd h

  none_acts : (f : Text → Found) (o : Option Declared) → Acts t (storages t) scope f zs ys (found_declared o) None
  none_acts f None = refl
  none_acts f (Some (Declared.Constant z)) = refl
  none_acts f (Some (Declared.TypeName ty)) = refl
  none_acts f (Some (Declared.Storage n k ty)) = by (k == 1)
    where
      by : (b : Bool) → Acts t (storages t) scope f zs ys (if b then found_as.Leaf else found_as.Wide) None
      by true = refl
      by false = refl
  none_acts f (Some (Declared.Trn n ty)) = refl
  none_acts f (Some (Declared.Inp ty)) = refl
  none_acts f (Some (Declared.Out ty)) = refl
  none_acts f (Some (Declared.Or mode names)) = refl
  none_acts f (Some (Declared.And rule)) = refl

  name_acts : (f : Text → Found) (name : Text) (o : Option ℕ) (a : Option Argument) → StandsAt (storages t) 0 zs ys o a → Acts t (storages t) scope f zs ys (found_at o (declared t name)) a
  name_acts f name None None h = none_acts f (declared t name)
  name_acts f name (Some i) (Some a) h =
      let e : h.0 ≡ i = (let g = h.1 in omega (arith, g)) in
      (act_size (storages t) (action_of (Some a)), subst (λ j. slice_get ys j ≡ Some (act_size (storages t) (action_of (Some a)))) e h.3, refl)
  name_acts f name None (Some a) h = absurd h
  name_acts f name (Some i) None h = absurd h

-- the names of arguments are those of the parameters
names_filled : (t : Table) (args : Arguments) (pars : List Par) (n : ℕ) → Fill t pars args → map (λ e. e.0) (arguments t n args) ≡ par_names pars
names_filled t NoMore pars n h = rw h refl
names_filled t (Part name x args) pars n h = rw h.3 (let e = names_filled t args h.1 (n + length (fields x)) h.7 in rw (e, h.4) refl)
names_filled t (Field name ty z args) pars n h = rw h.2 (let e = names_filled t args h.1 (n + 1) h.6 in rw (e, h.3) refl)

-- what names are in a rule
known : (d : Desc) (rule : Rule) (args : Arguments) (n : ℕ) → Fill (table d) rule.pars args → Known (table d) (storages (table d)) (arguments (table d) n args) (rule_finds d rule) (scope_values (storages (table d)) (arguments (table d) n args)) (scope_acts (storages (table d)) (arguments (table d) n args))
known d rule args n fill =
    let t = table d in
    let scope = arguments t n args in
    let at : (name : Text) → StandsAt (storages t) 0 (scope_values (storages t) scope) (scope_acts (storages t) scope) (lookup (text_eq name) (numbered 0 (par_names rule.pars))) (lookup (text_eq name) scope) = (λ name.
    subst (λ ns. StandsAt (storages t) 0 (scope_values (storages t) scope) (scope_acts (storages t) scope) (lookup (text_eq name) (numbered 0 ns)) (lookup (text_eq name) scope)) (names_filled t args rule.pars n fill) (stands_at (storages t) scope 0 name)) in
    record {
      means = λ name. name_means t (scope_values (storages t) scope) (scope_acts (storages t) scope) scope (all_numbered d).0 (rule_finds d rule) name _ _ (at name);
      acts = λ name. name_acts t (scope_values (storages t) scope) (scope_acts (storages t) scope) scope (all_numbered d).0 (rule_finds d rule) name _ _ (at name);
    }

-- the same numbers, as far as is counted
abbrev pub Same : List ℕ → List ℕ → Type 0
Same [] [] = Unit {0}
Same (x ∷ xs) (y ∷ ys) = (counted x ≡ counted y) × Same xs ys
Same _ _ = ⊥

dot_same : (cs xs ys : List ℕ) → Same xs ys → counted (dot cs xs) ≡ counted (dot cs ys)
dot_same [] xs ys h = refl
dot_same (c ∷ cs) [] [] h = refl
dot_same (c ∷ cs) [] (y ∷ ys) h = absurd h
dot_same (c ∷ cs) (x ∷ xs) [] h = absurd h
dot_same (c ∷ cs) (x ∷ xs) (y ∷ ys) h =
    let a = counted_product c x c y refl h.0 in
    let b = dot_same cs xs ys h.1 in omega (arith, a, b)

-- how large the values of the arguments are, and how long their actions, each by itself
abbrev pub values : Table → Arguments → List ℕ
values t NoMore = []
values t (Part name x args) = term_size (storages t) (written t 0 x).value ∷ values t args
values t (Field name ty z args) = 1 ∷ values t args

abbrev pub actions_of : Table → Arguments → List ℕ
actions_of t NoMore = []
actions_of t (Part name x args) = act_size (storages t) (written t 0 x).action ∷ actions_of t args
actions_of t (Field name ty z args) = 0 ∷ actions_of t args

-- how long the action of a rule is, and how large its value, by those of the arguments
abbrev pub rule_act : Desc → Rule → Arguments → ℕ
rule_act d rule args =
    with_block (rule_finds d rule) rule.action 0
    + dot (block_mentioned (rule_finds d rule) rule.action (zeros (length rule.pars))) (values (table d) args)
    + dot (acted (rule_finds d rule) rule.action (zeros (length rule.pars))) (actions_of (table d) args)

abbrev pub rule_value : Desc → Rule → Arguments → ℕ
rule_value d rule args =
    own_value (rule_finds d rule) rule.value + dot (value_mentioned (rule_finds d rule) rule.value (zeros (length rule.pars))) (values (table d) args)

zeros_dot : (n : ℕ) (zs : List ℕ) → dot (zeros n) zs ≡ 0
zeros_dot zero zs = refl
zeros_dot (suc n) [] = refl
zeros_dot (suc n) (z ∷ zs) = let e : 0 * z ≡ 0 = zero-mul z in let m = zeros_dot n zs in omega (arith, e, m)

long_names : (t : Table) (args : Arguments) (pars : List Par) (n : ℕ) → Fill t pars args → length (arguments t n args) ≡ length pars
long_names t args pars n h =
    sym (length-map (arguments t n args) (λ e. e.0)) ∙ ap length (names_filled t args pars n h) ∙ length-map pars (λ p. p.name.text)

-- a derivation written out from a field's number on is as long as one by itself
record SameSize (t : Table) (x : Derivation) (n : ℕ) : Type 0 where
  value : counted (term_size (storages t) (written t n x).value) ≡ counted (term_size (storages t) (written t 0 x).value)
  action : counted (act_size (storages t) (written t n x).action) ≡ counted (act_size (storages t) (written t 0 x).action)

-- of a rule
pub record Composed (d : Desc) (rule : Rule) (args : Arguments) (n : ℕ) : Type 0 where
  pub value : counted (term_size (storages (table d)) (written (table d) n (Compose rule args)).value) ≡ counted (rule_value d rule args)
  pub action : counted (act_size (storages (table d)) (written (table d) n (Compose rule args)).action) ≡ counted (rule_act d rule args)

composed_by : (d : Desc) → IsFreeBelow 8 d → (name : Text) (rule : Rule) (args : Arguments) (n : ℕ) → declared (table d) name ≡ Some (Declared.And rule) → Fill (table d) rule.pars args
    → Same (scope_values (storages (table d)) (arguments (table d) n args)) (values (table d) args) → Same (scope_acts (storages (table d)) (arguments (table d) n args)) (actions_of (table d) args) → Composed d rule args n
composed_by d free name rule args n is fill same_values same_acts =
    let t = table d in
    let scope = arguments t n args in
    let zs = scope_values (storages t) scope in
    let ys = scope_acts (storages t) scope in
    let f = rule_finds d rule in
    let k = known d rule args n fill in
    let none = zeros (length rule.pars) in
    let long : length none ≡ length zs = length-replicate (length rule.pars) 0 ∙ sym (length-map scope (λ e. term_size (storages t) (value_for e.1)) ∙ long_names t args rule.pars n fill) in
    let acts_long : length none ≡ length ys = length-replicate (length rule.pars) 0 ∙ sym (length-map scope (λ e. act_size (storages t) (action_of (Some e.1))) ∙ long_names t args rule.pars n fill) in
    record {
      value =
          let a = size_of_value t (storages t) scope f zs ys k rule.value none long in
          let z = zeros_dot (length rule.pars) zs in
          let s = dot_same (value_mentioned f rule.value none) zs (values t args) same_values in
          omega (arith, a, z, s);
      action =
          let a = size_of_block t (storages t) scope f zs ys k rule.action 0 none none (rule_targets d free name rule args n is fill) long acts_long in
          let z = zeros_dot (length rule.pars) zs in
          let y = zeros_dot (length rule.pars) ys in
          let s = dot_same (block_mentioned f rule.action none) zs (values t args) same_values in
          let r = dot_same (acted f rule.action none) ys (actions_of t args) same_acts in
          omega (arith, a, z, y, s, r);
    }

module _ (d : Desc) (free : IsFreeBelow 8 d) where
  mutual
    same_size : (x : Derivation) (name : Text) → IsDerivation (table d) name x → (n : ℕ) → SameSize (table d) x n
    same_size (Pick k x) name h n = let s = same_size x h.0 h.2 n in record { value = s.value; action = s.action }
    same_size (Compose rule args) name h n =
        let s = same_args args rule.pars h.1 n in
        let r = same_args args rule.pars h.1 0 in
        let a = composed_by d free name rule args n h.0 h.1 s.0 s.1 in
        let b = composed_by d free name rule args 0 h.0 h.1 r.0 r.1 in
        record { value = a.value ∙ sym b.value; action = a.action ∙ sym b.action }

    same_args : (args : Arguments) (pars : List Par) → Fill (table d) pars args → (n : ℕ)
        → Same (scope_values (storages (table d)) (arguments (table d) n args)) (values (table d) args) × Same (scope_acts (storages (table d)) (arguments (table d) n args)) (actions_of (table d) args)
    same_args NoMore pars h n = (tt, tt)
    same_args (Part name x args) pars h n =
        let s = same_size x h.2 h.6 n in
        let m = same_args args h.1 h.7 (n + length (fields x)) in
        ((s.value, m.0), (s.action, m.1))
    same_args (Field name ty z args) pars h n =
        let m = same_args args h.1 h.6 (n + 1) in
        ((refl, m.0), (refl, m.1))

  -- the action and the value of a rule's derivation
  pub composed : (name : Text) (rule : Rule) (args : Arguments) → declared (table d) name ≡ Some (Declared.And rule) → Fill (table d) rule.pars args → Composed d rule args 0
  composed name rule args is fill = let s = same_args args rule.pars fill 0 in composed_by d free name rule args 0 is fill s.0 s.1
