-- What the code finds of a key is the greatest of what its rule's derivations come to.
use Rattle.std.proofs.Common.{ℕ, zero, suc, ◌≡◌, ◌≤◌, ◌+◌, ◌*◌, max, refl, sym, ◌∙◌, ap, subst, arith, Bool, true, false, cond, List, [], ◌∷◌, map, length, slice_get, Option, Some, None, option_map, Contains, codes, inl, inr, true≢false, IfOk, Result, Ok, Err, ◌<◌, ◌++◌, get_or, length-append, ◌⊎◌}
use Rattle.std.specs.Prelude.{unwrap_or, ◌==◌, ◌&&◌, IfSome, if◌then◌else◌}
use Rattle.std.specs.List.{AllByRecursion}
use Rattle.std.proofs.lemmas.Bool.Decides.{Decides-eqb}
use Rattle.std.proofs.Math.Nat.{mul_assoc, add-mul, mul-add, mul-le-mul_left}
use Rattle.indexmap.specs.IndexMap.{insert_entry}
use Rattle.nml_tree.specs.declared.tree.Par.{Par}
use Rattle.nml_tree.specs.declared.tree.Item.{Item}
use Rattle.nml_tree.specs.declared.tree.Item.TheVariants as item
use Rattle.nml_tree.specs.declared.tree.Desc.{Desc}
use Rattle.nml_tree.specs.declared.tree.OrRule.{OrRule}
use Rattle.nml_tree.specs.declared.tree.OpRule.{OpRule}
use Rattle.nml_tree.specs.declared.tree.ModeRule.{ModeRule}
use Rattle.nml_tree.specs.NameFault as kind
use Rattle.nml_tree.specs.Table.{Text, Table, Rule, Declared, Parameter, declared, table, parameter_of, is_mode_word, pars_of}
use Rattle.nml_tree.specs.Derivation.{Derivation, Arguments, Compose, NoMore, Part, Field, IsDerivation, Fill}
use Rattle.nml_tree.specs.Exec.{storages}
use Rattle.nml_tree.specs.Refused.{IsFreeBelow}
use Rattle.nml_tree.specs.Shapes.{term_size, act_size, counted, size_of_action, IsGreatest}
use Rattle.nml_tree.specs.Valid.{IsRoot}
use Rattle.nml_tree.specs.Written.{written}
use Rattle.nml_names.proofs.Cycles.{declared_here, below_length}
use Rattle.nml_names.proofs.RuleNames.{first_item, some_same}
use Rattle.nml_known.specs.Known.{item_number, parameter_told}
use Rattle.nml_upward.specs.Upward.{IsRule, HasNumber, IsParameter, AreMade}
use Rattle.nml_upward.proofs.Upward.{are_made, at_number, rule_number}
use Rattle.shape_count.specs.declared.key.Key.{Key}
use Rattle.shape_count.specs.declared.summary.Summary.{Summary}
use Rattle.shape_count.specs.Sizes.{plus, times}
use Rattle.shape_count.specs.Weights.{AreSummaries, IsItemSummary, weighed, IsBest, IsSummary, count_at, value_weight, action_weight, own_weight, sum_best, max_best, key_eq, known_best, scaled_best, number_best, name_best, with_names, part_best, par_best, with_pars, and_best, AreRight, op_rule, mode_rule}
use Rattle.shape_count.proofs.Greatest.{counted_product, most_of, most_is, or_greatest, Weigh, arg_sum, best_sum, IsParGreatest, AreParGreatest, and_greatest}
use Rattle.shape_count.proofs.RootRule.{root_is_rule}
use Rattle.shape_count.proofs.Written.{dot}
use Rattle.shape_count.proofs.Own.{values, actions_of, rule_act, rule_value, composed}

both : (a b : Bool) → (a && b) ≡ true → (a ≡ true) × (b ≡ true)
both true b h = (refl, h)
both false b h = absurd cc

same_key : (a b : Key) → key_eq a b ≡ true → a ≡ b
same_key a b h =
    let p = both (a.number == b.number) ((a.action == b.action) && (a.value == b.value)) h in
    let q = both (a.action == b.action) (a.value == b.value) p.1 in
    let n : a.number ≡ b.number = (Decides-eqb a.number b.number).0 p.0 in
    let m : a.action ≡ b.action = (Decides-eqb a.action b.action).0 q.0 in
    let v : a.value ≡ b.value = (Decides-eqb a.value b.value).0 q.1 in
    λ j. record { number = n j; action = m j; value = v j }

-- what is found is right
right_from : (d : Desc) (known : List (Key × ℕ)) → AllByRecursion (λ e. IsBest d e.0 e.1) known → (k : Key) (b : ℕ) → known_best known k ≡ Some b → IsBest d k b
right_from d [] all k b h = absurd cc
right_from d (e ∷ known) all k b h = by (right_from d known all.1 k b) (key_eq k e.0) refl h
  where
    by : (known_best known k ≡ Some b → IsBest d k b) → (x : Bool) → key_eq k e.0 ≡ x → cond x (Some e.1) (known_best known k) ≡ Some b → IsBest d k b
    by more true is g =
        let v : e.1 ≡ b = some_same _ _ g in
        subst (λ n. IsBest d k n) v (subst (λ q. IsBest d q e.1) (sym (same_key k e.0 is)) all.0)
    by more false is g = more g

all_put : (d : Desc) (k : Key) (b : ℕ) → IsBest d k b → (es : List (Key × ℕ)) → AllByRecursion (λ e. IsBest d e.0 e.1) es → AllByRecursion (λ e. IsBest d e.0 e.1) (insert_entry key_eq es k b)
all_put d k b one [] h = (one, tt)
all_put d k b one (e ∷ es) h = by (all_put d k b one es h.1) (key_eq k e.0) refl
  where
    put : Bool → List (Key × ℕ)
    put x = cond x ((e.0, b) ∷ es) (e ∷ insert_entry key_eq es k b)

    by : AllByRecursion (λ e. IsBest d e.0 e.1) (insert_entry key_eq es k b) → (x : Bool) → key_eq k e.0 ≡ x → AllByRecursion (λ e. IsBest d e.0 e.1) (put x)
    by more true is = (subst (λ q. IsBest d q b) (same_key k e.0 is) one, h.1)
    by more false is = (h.0, more)

pub put_right : (d : Desc) (known : List (Key × ℕ)) (k : Key) (b : ℕ) → AreRight d known → IsBest d k b → AreRight d (insert_entry key_eq known k b)
put_right d known k b right one = record { best = all_put d k b one known right.best }

-- an item that is no rule
pub no_rule : (d : Desc) (k : Key) (i : Item) (b : ℕ) → slice_get d.items k.number ≡ Some i → kind.is_rule i ≡ false → IsBest d k b
no_rule d k i b at none = λ name h rule.
    let s = at_number d name k.number h rule in
    let e : kind.is_rule i ≡ true = ap kind.is_rule (some_same _ _ (sym at ∙ s.stands.at)) ∙ s.rule in
    absurd (true≢false (sym e ∙ none))

pub no_item : (d : Desc) (items : List Item) (k : Key) (b : ℕ) → items ≡ d.items → length items ≤ k.number → IsBest d k b
no_item d items k b of far = λ name h rule.
    let s = at_number d name k.number h rule in
    let low = below_length d d.items k.number s.stands.what s.stands.at in
    let e = ap length of in absurd (omega (arith, far, low, e))

-- what is known of some and of all
pub some_from : {E : Type 0} (r : Result (Option ℕ) E) (o : Option ℕ) (P : ℕ → Type 0) → ((b : ℕ) → o ≡ Some b → P b) → IfOk r (λ x. x ≡ o) → IfOk r (λ x. IfSome x P)
some_from (Ok None) o P f h = tt
some_from (Ok (Some b)) o P f h = f b (sym h)
some_from (Err e) o P f h = tt

none_names : (ask : Text → Option ℕ) (ns : List Text) → with_names ask None ns ≡ None
none_names ask [] = refl
none_names ask (n ∷ ns) = none_names ask ns

abbrev or_zero : Option ℕ → ℕ
or_zero o = unwrap_or o 0

record AllNames (ask : Text → Option ℕ) (m : ℕ) (ns : List Text) (r : ℕ) : Type 0 where
  each : (b : Text) → Contains ns b → ask b ≡ Some (or_zero (ask b))
  most : r ≡ most_of (λ b. or_zero (ask b)) m ns

names_known : (ask : Text → Option ℕ) (m : ℕ) (ns : List Text) (r : ℕ) → with_names ask (Some m) ns ≡ Some r → AllNames ask m ns r
names_known ask m [] r h = record { each = λ b c. (let l = c.1 in absurd (omega (arith, l))); most = sym (some_same _ _ h) }
names_known ask m (n ∷ ns) r h = by (λ x. names_known ask (max m x) ns r) (ask n) refl h
  where
    by : ((x : ℕ) → with_names ask (Some (max m x)) ns ≡ Some r → AllNames ask (max m x) ns r) → (o : Option ℕ) → ask n ≡ o → with_names ask (max_best (Some m) o) ns ≡ Some r → AllNames ask m (n ∷ ns) r
    by known None is g = let e = sym (none_names ask ns) ∙ g in absurd cc
    by known (Some x) is g =
        let more = known x g in
        record {
          each = each more;
          most = more.most ∙ ap (λ y. most_of (λ b. or_zero (ask b)) (max m y) ns) (sym (ap or_zero is));
        }
      where
        each : AllNames ask (max m x) ns r → (b : Text) → Contains (n ∷ ns) b → ask b ≡ Some (or_zero (ask b))
        each more b (zero, low, same) = subst (λ c. ask c ≡ Some (or_zero (ask c))) same (is ∙ ap Some (sym (ap or_zero is)))
        each more b (suc k, low, same) = more.each b (k, omega (arith, low), same)

first_known : (ask : Text → Option ℕ) (n : Text) (ns : List Text) (r : ℕ) → with_names ask (ask n) ns ≡ Some r → (ask n ≡ Some (or_zero (ask n))) × AllNames ask (or_zero (ask n)) ns r
first_known ask n ns r h = by (ask n) refl h
  where
    by : (o : Option ℕ) → ask n ≡ o → with_names ask o ns ≡ Some r → (ask n ≡ Some (or_zero (ask n))) × AllNames ask (or_zero (ask n)) ns r
    by None is g = let e = sym (none_names ask ns) ∙ g in absurd cc
    by (Some x) is g = (is ∙ ap Some (sym (ap or_zero is)), subst (λ y. AllNames ask y ns r) (sym (ap or_zero is)) (names_known ask x ns r g))

small : {A : Type 0} (P : A → Type 0) (f : A → ℕ) (n : ℕ) → IsGreatest P f n → n ≤ 1000000
small P f n g = let e = g.reached.2 in omega (arith, e)

-- so many times the greatest value
scaled_some : (v : ℕ) (o : Option ℕ) (r : ℕ) → scaled_best v o ≡ Some r → (b : ℕ) × (o ≡ Some b) × (times v b ≡ r)
scaled_some v None r h = absurd cc
scaled_some v (Some b) r h = (b, refl, some_same _ _ h)

scaled_greatest : (t : Table) (P : Derivation → Type 0) (v b : ℕ) → IsGreatest P (weighed t 0 1) b → IsGreatest P (weighed t 0 v) (times v b)
scaled_greatest t P v b g = record {
  bound = λ x p.
      let l = g.bound x p in
      let z = term_size (storages t) (written t 0 x).value in
      let low : counted z ≤ b = omega (arith, l) in
      let e : counted (v * z) ≡ counted (v * counted z) = counted_product v z v (counted z) refl (omega arith) in
      let m : v * counted z ≤ v * b = mul-le-mul_left v low in
      let n : 0 * act_size (storages t) (written t 0 x).action ≡ 0 = omega arith in
      omega (arith, e, m, n);
  reached =
      let r = g.reached in
      let z = term_size (storages t) (written t 0 r.0).value in
      let is : counted z ≡ b = (let q = r.2 in omega (arith, q)) in
      let e : counted (v * z) ≡ counted (v * counted z) = counted_product v z v (counted z) refl (omega arith) in
      let m : v * counted z ≡ v * b = ap (λ n. v * n) is in
      let n : 0 * act_size (storages t) (written t 0 r.0).action ≡ 0 = omega arith in
      (r.0, r.1, omega (arith, e, m, n));
}

module _ (d : Desc) (made : AreMade (table d)) (known : List (Key × ℕ)) (right : AreRight d known) where
  -- of a rule by its name
  name_right : (k : Key) (b : Text) → IsRule (table d) b → (v : ℕ) → name_best d known k b ≡ Some v → IsGreatest (IsDerivation (table d) b) (weighed (table d) k.action k.value) v
  name_right k b rule v h =
      let r = rule_number d b rule in
      let e : r.0 ≡ unwrap_or (item_number d b) 0 = sym (ap (λ o. unwrap_or o 0) r.2) in
      right_from d known right.best _ v h b (subst (HasNumber d b) e r.2) rule

  -- of a part, so often
  part_right : (b : Text) → IsRule (table d) b → (a v r : ℕ) → number_best known (unwrap_or (item_number d b) 0) a v ≡ Some r → IsGreatest (IsDerivation (table d) b) (weighed (table d) a v) r
  part_right b rule a v r h = by (a == 0) refl h
    where
      n : ℕ
      n = unwrap_or (item_number d b) 0

      by : (x : Bool) → (a == 0) ≡ x → (if x then scaled_best v (known_best known (record { number = n; action = 0; value = 1 })) else known_best known (record { number = n; action = a; value = v })) ≡ Some r
          → IsGreatest (IsDerivation (table d) b) (weighed (table d) a v) r
      by true is g =
          let o = scaled_some v (known_best known (record { number = n; action = 0; value = 1 })) r g in
          let none : a ≡ 0 = (Decides-eqb a 0).0 is in
          let most = name_right (record { number = 0; action = 0; value = 1 }) b rule o.0 o.1 in
          subst (λ m. IsGreatest (IsDerivation (table d) b) (weighed (table d) m v) r) (sym none)
          (subst (λ m. IsGreatest (IsDerivation (table d) b) (weighed (table d) 0 v) m) o.2 (scaled_greatest (table d) (IsDerivation (table d) b) v o.0 most))
      by false is g = name_right (record { number = 0; action = a; value = v }) b rule r g

  pub or_right : (k : Key) (a : Text) (mode : Bool) (n : Text) (ns : List Text) (r : ℕ) → declared (table d) a ≡ Some (Declared.Or mode (n ∷ ns)) → with_names (name_best d known k) (name_best d known k n) ns ≡ Some r
      → IsGreatest (IsDerivation (table d) a) (weighed (table d) k.action k.value) r
  or_right k a mode n ns r is h =
      let f = weighed (table d) k.action k.value in
      let v : Text → ℕ = (λ b. or_zero (name_best d known k b)) in
      let all = first_known (name_best d known k) n ns r h in
      let each : (b : Text) → Contains (n ∷ ns) b → IsGreatest (IsDerivation (table d) b) f (v b) = (λ b c. name_right k b (made.alternatives a mode (n ∷ ns) is b c) (v b) (each_known all.0 all.1 b c)) in
      let g = or_greatest (table d) a mode n ns f f 0 v is (λ i x. omega arith) each in
      let most : most_of v (v n) ns ≤ 1000000 = elim (most_is v (v n) ns) [
        | inl e ↦ (let l = small _ f (v n) (each n (0, omega arith, refl)) in omega (arith, e, l))
        | inr o ↦ (let c = o.1 in let l = small _ f (v o.0) (each o.0 (suc c.0, omega (arith, c.1), c.2)) in let e = o.2 in omega (arith, e, l))
      ] in
      let e : counted (most_of v (v n) ns + 0) ≡ r = (let m = all.1.most in omega (arith, most, m)) in
      subst (λ m. IsGreatest (IsDerivation (table d) a) f m) e g
    where
      each_known : name_best d known k n ≡ Some (or_zero (name_best d known k n)) → AllNames (name_best d known k) (or_zero (name_best d known k n)) ns r → (b : Text) → Contains (n ∷ ns) b → name_best d known k b ≡ Some (or_zero (name_best d known k b))
      each_known first all b (zero, low, same) = subst (λ c. name_best d known k c ≡ Some (or_zero (name_best d known k c))) same first
      each_known first all b (suc i, low, same) = all.each b (i, omega (arith, low), same)

-- what is known of parameters
none_pars : (ask : ℕ → Par → Option ℕ) (i : ℕ) (ps : List Par) → with_pars ask i None ps ≡ None
none_pars ask i [] = refl
none_pars ask i (p ∷ ps) = none_pars ask (i + 1) ps

abbrev AllPars : (ℕ → Par → Option ℕ) → ℕ → List Par → Type 0
AllPars ask i [] = Unit {0}
AllPars ask i (p ∷ ps) = (ask i p ≡ Some (or_zero (ask i p))) × AllPars ask (i + 1) ps

abbrev pars_sum : (ℕ → Par → Option ℕ) → ℕ → List Par → ℕ
pars_sum ask i [] = 0
pars_sum ask i (p ∷ ps) = or_zero (ask i p) + pars_sum ask (i + 1) ps

record AllKnown (ask : ℕ → Par → Option ℕ) (i m : ℕ) (ps : List Par) (r : ℕ) : Type 0 where
  each : AllPars ask i ps
  sum : counted r ≡ counted (m + pars_sum ask i ps)
  low : m ≤ 1000000 → r ≤ 1000000

pars_known : (ask : ℕ → Par → Option ℕ) (i m : ℕ) (ps : List Par) (r : ℕ) → with_pars ask i (Some m) ps ≡ Some r → AllKnown ask i m ps r
pars_known ask i m [] r h =
    let e : m ≡ r = some_same _ _ h in
    record { each = tt; sum = omega (arith, e); low = λ l. omega (arith, e, l) }
pars_known ask i m (p ∷ ps) r h = by (λ x. pars_known ask (i + 1) (plus m x) ps r) (ask i p) refl h
  where
    by : ((x : ℕ) → with_pars ask (i + 1) (Some (plus m x)) ps ≡ Some r → AllKnown ask (i + 1) (plus m x) ps r) → (o : Option ℕ) → ask i p ≡ o → with_pars ask (i + 1) (sum_best (Some m) o) ps ≡ Some r → AllKnown ask i m (p ∷ ps) r
    by known None is g = let e = sym (none_pars ask (i + 1) ps) ∙ g in absurd cc
    by known (Some x) is g =
        let more = known x g in
        let e : or_zero (ask i p) ≡ x = ap or_zero is in
        let s = more.sum in
        record {
          each = (is ∙ ap Some (sym e), more.each);
          sum = omega (arith, s, e);
          low = λ l. more.low (omega arith);
        }

-- how often each counts, and the most that it comes to
abbrev weighs : Table → (ℕ → Par → Option ℕ) → Summary → Key → ℕ → List Par → List Weigh
weighs t ask s k i [] = []
weighs t ask s k i (p ∷ ps) = record { part = weighed t (action_weight s k i) (value_weight s k i); field = value_weight s k i; best = or_zero (ask i p) } ∷ weighs t ask s k (i + 1) ps

weighs_sum : (t : Table) (ask : ℕ → Par → Option ℕ) (s : Summary) (k : Key) (i : ℕ) (ps : List Par) → best_sum (weighs t ask s k i ps) ≡ pars_sum ask i ps
weighs_sum t ask s k i [] = refl
weighs_sum t ask s k i (p ∷ ps) = ap (λ n. or_zero (ask i p) + n) (weighs_sum t ask s k (i + 1) ps)

module _ (d : Desc) (made : AreMade (table d)) (known : List (Key × ℕ)) (right : AreRight d known) (s : Summary) (k : Key) where
  par_most : (i : ℕ) (p : Par) (o : Option Parameter) → parameter_of (table d) p.ty ≡ o → IsParameter (table d) o → par_best d known s k i p ≡ Some (or_zero (par_best d known s k i p))
      → IsParGreatest (table d) o (record { part = weighed (table d) (action_weight s k i) (value_weight s k i); field = value_weight s k i; best = or_zero (par_best d known s k i p) })
  par_most i p None is h e = absurd h
  par_most i p (Some (Parameter.Field ty)) is h e =
      let b : or_zero (par_best d known s k i p) ≡ value_weight s k i = ap (λ o. or_zero (part_best known s k i (option_map (parameter_told d) o))) is in
      let c : counted (value_weight s k i) ≡ value_weight s k i = omega arith in c ∙ sym b
  par_most i p (Some (Parameter.Part b)) is h e =
      let f : par_best d known s k i p ≡ number_best known (unwrap_or (item_number d b) 0) (action_weight s k i) (value_weight s k i) = ap (λ o. part_best known s k i (option_map (parameter_told d) o)) is in
      part_right d made known right b h (action_weight s k i) (value_weight s k i) (or_zero (par_best d known s k i p)) (sym f ∙ e)

  pars_most : (i : ℕ) (ps : List Par) → ((p : Par) → Contains ps p → IsParameter (table d) (parameter_of (table d) p.ty)) → AllPars (par_best d known s k) i ps → AreParGreatest (table d) ps (weighs (table d) (par_best d known s k) s k i ps)
  pars_most i [] params all = tt
  pars_most i (p ∷ ps) params all = (par_most i p (parameter_of (table d) p.ty) refl (params p (0, omega arith, refl)) all.0, pars_most (i + 1) ps (λ q c. params q (suc c.0, (let l = c.1 in omega (arith, l)), c.2)) all.1)

-- counts with what they count, from a place on
abbrev dot_from : List ℕ → ℕ → List ℕ → ℕ
dot_from cs i [] = 0
dot_from cs i (z ∷ zs) = count_at cs i * z + dot_from cs (i + 1) zs

dot_behind : (c : ℕ) (cs : List ℕ) (i : ℕ) (zs : List ℕ) → dot_from (c ∷ cs) (suc i) zs ≡ dot_from cs i zs
dot_behind c cs i [] = refl
dot_behind c cs i (z ∷ zs) =
    let e : suc i + 1 ≡ suc (i + 1) = omega arith in
    ap (λ n. count_at cs i * z + n) (ap (λ n. dot_from (c ∷ cs) n zs) e ∙ dot_behind c cs (i + 1) zs)

dot_none : (i : ℕ) (zs : List ℕ) → dot_from [] i zs ≡ 0
dot_none i [] = refl
dot_none i (z ∷ zs) = let m = dot_none (i + 1) zs in let e : 0 * z ≡ 0 = omega arith in omega (arith, m, e)

dot_is : (cs zs : List ℕ) → dot_from cs 0 zs ≡ dot cs zs
dot_is [] zs = dot_none 0 zs
dot_is (c ∷ cs) [] = refl
dot_is (c ∷ cs) (z ∷ zs) =
    let e : 0 + 1 ≡ 1 = omega arith in
    ap (λ n. c * z + n) (ap (λ n. dot_from (c ∷ cs) n zs) e ∙ dot_behind c cs 0 zs ∙ dot_is cs zs)

part_step : (a m ca cm cv x v ra rm rv rest : ℕ) → counted rest ≡ counted (a * ra + a * rm + m * rv) → counted (times a ca * x + plus (times a cm) (times m cv) * v + rest) ≡ counted (a * (ca * x + ra) + a * (cm * v + rm) + m * (cv * v + rv))
part_step a m ca cm cv x v ra rm rv rest h =
    let p : counted (times a ca * x) ≡ counted (a * ca * x) = counted_product (times a ca) x (a * ca) x (omega arith) refl in
    let q : counted (plus (times a cm) (times m cv) * v) ≡ counted ((a * cm + m * cv) * v) = counted_product (plus (times a cm) (times m cv)) v (a * cm + m * cv) v (omega arith) refl in
    let e1 : a * ca * x ≡ a * (ca * x) = mul_assoc a ca x in
    let e2 : (a * cm + m * cv) * v ≡ a * cm * v + m * cv * v = add-mul (a * cm) (m * cv) v in
    let e3 : a * cm * v ≡ a * (cm * v) = mul_assoc a cm v in
    let e4 : m * cv * v ≡ m * (cv * v) = mul_assoc m cv v in
    let e5 : a * (ca * x + ra) ≡ a * (ca * x) + a * ra = mul-add a (ca * x) ra in
    let e6 : a * (cm * v + rm) ≡ a * (cm * v) + a * rm = mul-add a (cm * v) rm in
    let e7 : m * (cv * v + rv) ≡ m * (cv * v) + m * rv = mul-add m (cv * v) rv in
    omega (arith, h, p, q, e1, e2, e3, e4, e5, e6, e7)

-- the arguments
args_weighed : (args : Arguments) (t : Table) (ask : ℕ → Par → Option ℕ) (s : Summary) (k : Key) (pars : List Par) (i : ℕ) → Fill t pars args
    → counted (arg_sum (weighs t ask s k i pars) args) ≡ counted (k.action * dot_from s.acts.actions.items i (actions_of t args) + k.action * dot_from s.acts.counts.items i (values t args) + k.value * dot_from s.value_counts.items i (values t args))
args_weighed NoMore t ask s k [] i h = omega arith
args_weighed NoMore t ask s k (p ∷ pars) i h = absurd cc
args_weighed (Part name x args) t ask s k [] i h = let e = h.3 in absurd cc
args_weighed (Part name x args) t ask s k (p ∷ pars) i h =
    let all : p ∷ pars ≡ h.0 ∷ h.1 = h.3 in
    let others : pars ≡ h.1 = cc in
    part_step k.action k.value (count_at s.acts.actions.items i) (count_at s.acts.counts.items i) (count_at s.value_counts.items i) (act_size (storages t) (written t 0 x).action) (term_size (storages t) (written t 0 x).value) _ _ _ _
    (args_weighed args t ask s k pars (i + 1) (subst (λ ps. Fill t ps args) (sym others) h.7))
args_weighed (Field name ty z args) t ask s k [] i h = let e = h.2 in absurd cc
args_weighed (Field name ty z args) t ask s k (p ∷ pars) i h =
    let all : p ∷ pars ≡ h.0 ∷ h.1 = h.2 in
    let others : pars ≡ h.1 = cc in
    let m = part_step k.action k.value (count_at s.acts.actions.items i) (count_at s.acts.counts.items i) (count_at s.value_counts.items i) 0 1 (dot_from s.acts.actions.items (i + 1) (actions_of t args)) (dot_from s.acts.counts.items (i + 1) (values t args)) (dot_from s.value_counts.items (i + 1) (values t args)) (arg_sum (weighs t ask s k (i + 1) pars) args)
    (args_weighed args t ask s k pars (i + 1) (subst (λ ps. Fill t ps args) (sym others) h.6)) in
    let e : value_weight s k i + arg_sum (weighs t ask s k (i + 1) pars) args ≡ action_weight s k i * 0 + value_weight s k i * 1 + arg_sum (weighs t ask s k (i + 1) pars) args = omega arith in
    ap counted e ∙ m

-- a rule with these arguments
rule_weighed : (d : Desc) → IsFreeBelow 8 d → (name : Text) (rule : Rule) (s : Summary) → IsSummary d rule s → (ask : ℕ → Par → Option ℕ) (k : Key) → declared (table d) name ≡ Some (Declared.And rule) → (args : Arguments) → Fill (table d) rule.pars args
    → counted (weighed (table d) k.action k.value (Compose rule args)) ≡ counted (own_weight s k + arg_sum (weighs (table d) ask s k 0 rule.pars) args)
rule_weighed d free name rule s sum ask k is args fill =
    let t = table d in
    let c = composed d free name rule args is fill in
    let a = k.action in
    let m = k.value in
    let x = act_size (storages t) (written t 0 (Compose rule args)).action in
    let y = term_size (storages t) (written t 0 (Compose rule args)).value in
    let da = dot s.acts.actions.items (actions_of t args) in
    let dc = dot s.acts.counts.items (values t args) in
    let dv = dot s.value_counts.items (values t args) in
    let ex : rule_act d rule args ≡ s.acts.own + dc + da = rw (sum.acts.own, sum.acts.counts, sum.acts.actions) refl in
    let ey : rule_value d rule args ≡ s.value + dv = rw (sum.value, sum.value_counts) refl in
    let px : counted (a * x) ≡ counted (a * (s.acts.own + dc + da)) = counted_product a x a (s.acts.own + dc + da) refl (c.action ∙ ap counted ex) in
    let py : counted (m * y) ≡ counted (m * (s.value + dv)) = counted_product m y m (s.value + dv) refl (c.value ∙ ap counted ey) in
    let e1 : a * (s.acts.own + dc + da) ≡ a * (s.acts.own + dc) + a * da = mul-add a (s.acts.own + dc) da in
    let e2 : a * (s.acts.own + dc) ≡ a * s.acts.own + a * dc = mul-add a s.acts.own dc in
    let e3 : m * (s.value + dv) ≡ m * s.value + m * dv = mul-add m s.value dv in
    let w = args_weighed args t ask s k rule.pars 0 fill in
    let w1 : a * dot_from s.acts.actions.items 0 (actions_of t args) ≡ a * da = ap (λ n. a * n) (dot_is s.acts.actions.items (actions_of t args)) in
    let w2 : a * dot_from s.acts.counts.items 0 (values t args) ≡ a * dc = ap (λ n. a * n) (dot_is s.acts.counts.items (values t args)) in
    let w3 : m * dot_from s.value_counts.items 0 (values t args) ≡ m * dv = ap (λ n. m * n) (dot_is s.value_counts.items (values t args)) in
    omega (arith, px, py, e1, e2, e3, w, w1, w2, w3)

and_right : (d : Desc) → IsFreeBelow 8 d → (known : List (Key × ℕ)) → AreRight d known → (name : Text) (rule : Rule) (s : Summary) → IsSummary d rule s → (k : Key) (r : ℕ) → declared (table d) name ≡ Some (Declared.And rule) → and_best d known s k rule.pars ≡ Some r
    → IsGreatest (IsDerivation (table d) name) (weighed (table d) k.action k.value) r
and_right d free known right name rule s sum k r is h =
    let t = table d in
    let made = are_made d free in
    let ask = par_best d known s k in
    let all = pars_known ask 0 (own_weight s k) rule.pars r h in
    let most = pars_most d made known right s k 0 rule.pars (made.parameters name rule is) all.each in
    let g = and_greatest t name rule (weighed t k.action k.value) (own_weight s k) (weighs t ask s k 0 rule.pars) is most (λ args fill. rule_weighed d free name rule s sum ask k is args fill) in
    let e : counted (own_weight s k + best_sum (weighs t ask s k 0 rule.pars)) ≡ r = (let b = weighs_sum t ask s k 0 rule.pars in let m = all.sum in let low = all.low (omega arith) in omega (arith, b, m, low)) in
    subst (λ n. IsGreatest (IsDerivation t name) (weighed t k.action k.value) n) e g

-- of an item
module _ (d : Desc) (free : IsFreeBelow 12 d) (known : List (Key × ℕ)) (right : AreRight d known) (k : Key) (i : Item) (at : slice_get d.items k.number ≡ Some i) where
  free_8 : IsFreeBelow 8 d
  free_8 = λ n less. free n (omega (arith, less))

  first_is : (a : Text) → HasNumber d a k.number → IsRule (table d) a → first_item d.items a ≡ Some i
  first_is a h rule = let s = at_number d a k.number h rule in s.stands.first ∙ ap Some (some_same _ _ (sym s.stands.at ∙ at))

  pub or_item : (x : OrRule) (b : ℕ) → i ≡ item.OrRule x → with_names (name_best d known k) (name_best d known k x.first.text) (map (λ (bar, y). y.text) x.rest) ≡ Some b → IsBest d k b
  or_item x b is h = λ a number rule.
      let here = declared_here d a (item.OrRule x) _ (first_is a number rule ∙ ap Some is) refl in
      or_right d (are_made d free_8) known right k a (is_mode_word x.word) x.first.text (map (λ (bar, y). y.text) x.rest) b here h

  pub op_item : (x : OpRule) (s : Summary) (b : ℕ) → i ≡ item.OpRule x → IsSummary d (op_rule x) s → and_best d known s k (pars_of x.pars) ≡ Some b → IsBest d k b
  op_item x s b is sum h = λ a number rule.
      let here = declared_here d a (item.OpRule x) _ (first_is a number rule ∙ ap Some is) refl in
      and_right d free_8 known right a (op_rule x) s sum k b here h

  pub mode_item : (x : ModeRule) (s : Summary) (b : ℕ) → i ≡ item.ModeRule x → IsSummary d (mode_rule x) s → and_best d known s k (pars_of x.pars) ≡ Some b → IsBest d k b
  mode_item x s b is sum h = λ a number rule.
      let here = declared_here d a (item.ModeRule x) _ (first_is a number rule ∙ ap Some is) refl in
      and_right d free_8 known right a (mode_rule x) s sum k b here h

-- the same numbers
same_greatest : {A : Type 0} (P : A → Type 0) (f g : A → ℕ) (n : ℕ) → ((x : A) → f x ≡ g x) → IsGreatest P f n → IsGreatest P g n
same_greatest P f g n e h = record {
  bound = λ x p. (let b = h.bound x p in let q = e x in omega (arith, b, q));
  reached = (let r = h.reached in (r.0, r.1, (let b = r.2 in let q = e r.0 in omega (arith, b, q))));
}

-- of the whole
pub root_size : (d : Desc) → IsFreeBelow 12 d → (known : List (Key × ℕ)) → AreRight d known → (root : Text) → root ≡ codes "instruction" → (number : ℕ) → number ≡ unwrap_or (item_number d root) 0 → (b : ℕ) → known_best known (record { number = number; action = 1; value = 0 }) ≡ Some b
    → IsGreatest (IsRoot (table d)) (size_of_action (table d)) b
root_size d free known right root is number here b h =
    let rule = root_is_rule d free in
    let r = rule_number d (codes "instruction") rule in
    let e : r.0 ≡ number = sym (here ∙ ap (λ a. unwrap_or (item_number d a) 0) is ∙ ap (λ o. unwrap_or o 0) r.2) in
    let g = right_from d known right.best (record { number = number; action = 1; value = 0 }) b h (codes "instruction") (subst (HasNumber d (codes "instruction")) e r.2) rule in
    same_greatest (IsRoot (table d)) (weighed (table d) 1 0) (size_of_action (table d)) b (λ x. omega arith) g

-- what is counted of one item more
last_one : (ss : List Summary) (one : Summary) (k : ℕ) (s : Summary) → slice_get (ss ++ one ∷ []) k ≡ Some s → (slice_get ss k ≡ Some s) ⊎ ((k ≡ length ss) × (one ≡ s))
last_one [] one zero s h = inr (refl, some_same _ _ h)
last_one [] one (suc k) s h = absurd cc
last_one (x ∷ ss) one zero s h = inl h
last_one (x ∷ ss) one (suc k) s h = elim (last_one ss one k s h) [ inl l ↦ inl l | inr e ↦ (let f = e.0 in inr (omega (arith, f), e.1)) ]

at_slot : (items : List Item) (k : ℕ) (i : Item) → k < length items → i ≡ get_or items k i → slice_get items k ≡ Some i
at_slot [] k i low is = absurd (omega (arith, low))
at_slot (x ∷ items) zero i low is = ap Some (sym is)
at_slot (x ∷ items) (suc k) i low is = at_slot items k i (omega (arith, low)) is

pub one_more : (d : Desc) (items : List Item) (n : ℕ) (ss new : List Summary) (i : Item) (s : Summary) → items ≡ d.items → AreSummaries d n ss → n < length items → i ≡ get_or items n i → IsItemSummary d i s → new ≡ ss ++ s ∷ [] → AreSummaries d (n + 1) new
one_more d items n ss new i s of all low is sum made =
    let at : slice_get d.items n ≡ Some i = subst (λ xs. slice_get xs n ≡ Some i) of (at_slot items n i low is) in
    subst (AreSummaries d (n + 1)) (sym made) (record {
      long = (let e = length-append ss (s ∷ []) in let l = all.long in omega (arith, e, l));
      each = λ k j x here got. elim (last_one ss s k x got) [
        | inl old ↦ all.each k j x here old
        | inr e ↦
            (let same : k ≡ n = e.0 ∙ all.long in
            let item_same : i ≡ j = some_same _ _ (sym at ∙ subst (λ m. slice_get d.items m ≡ Some j) same here) in
            subst (λ y. IsItemSummary d j y) e.1 (subst (λ y. IsItemSummary d y s) item_same sum))
      ];
    })
