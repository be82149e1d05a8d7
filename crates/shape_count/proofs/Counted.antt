-- How many shapes a rule has, and the most nodes, from those of the rules that it names.
use Rattle.std.proofs.Common.{ℕ, zero, suc, ◌≡◌, ◌≤◌, ◌+◌, ◌*◌, pos, refl, sym, ◌∙◌, ap, subst, arith, List, [], ◌∷◌, ◌++◌, map, length, length-append, slice_get, Option, Some, None, Contains, inl, inr, Bool}
use Rattle.std.proofs.lemmas.List.{length-map}
use Rattle.std.proofs.Math.Nat.{mul_assoc}
use Rattle.std.specs.Prelude.{IsTrue}
use Rattle.nk_base.specs.declared.number.Ty.{Ty}
use Rattle.nml_tree.specs.declared.tree.Par.{Par}
use Rattle.nml_tree.specs.Table.{Text, Table, Rule, Declared, Parameter, declared, parameter_of}
use Rattle.nml_tree.specs.Derivation.{Derivation, Arguments, Pick, Compose, NoMore, Part, Field, IsDerivation, Fill, picks, picks_of}
use Rattle.nml_tree.specs.Shapes.{counted, nodes, nodes_of, IsGreatest}
use Rattle.nml_tree.proofs.Height.{picked}
use Rattle.nml_widths.proofs.ModeFits.{zero_in}
use Rattle.nml_upward.proofs.Upward.{behind}
use Rattle.shape_count.specs.declared.tally.Tally.{Tally}
use Rattle.shape_count.specs.Tally.{tally, either, both, above, with_alternatives, with_parameters, Among, stands_before, AreListed, Tallied, IsTally}
use Rattle.shape_count.proofs.Members.{Lists, among_left, among_right, among_either, among_map, among_mapped, crossed, among_crossed, uncrossed, length_crossed, smaller_before, ascends_append, ascends_map, ascends_crossed}
use Rattle.shape_count.proofs.Greatest.{counted_product, most_of, or_greatest, Weigh, arg_sum, best_sum, IsParGreatest, AreParGreatest, and_greatest}

-- a list of one set for another with the same lists of picks
same_listed : {A B : Type 0} (P : A → Type 0) (Q : B → Type 0) (f : A → List ℕ) (g : B → List ℕ) (shapes : Lists) → ((x : A) → P x → (y : B) × Q y × (g y ≡ f x)) → ((y : B) → Q y → (x : A) × P x × (f x ≡ g y)) → AreListed P f shapes → AreListed Q g shapes
same_listed P Q f g shapes forth back h = record {
  ascends = h.ascends;
  each = λ z c. let a = h.each z c in let b = forth a.0 a.1 in (b.0, b.1, b.2 ∙ a.2);
  every = λ y q. let x = back y q in subst (Among shapes) x.2 (h.every x.0 x.1);
}

-- an alternative of this number, and a derivation of it
abbrev Choice : Type 0
Choice = ℕ × Derivation

abbrev IsChoice : Table → List Text → Choice → Type 0
IsChoice t names x = (b : Text) × (slice_get names x.0 ≡ Some b) × IsDerivation t b x.1

-- its picks, the first alternative having this number
abbrev choice_picks : ℕ → Choice → List ℕ
choice_picks k x = (k + x.0) ∷ picks x.1

-- how many all have
abbrev sum_of : (Text → Tally) → List Text → ℕ
sum_of given [] = 0
sum_of given (n ∷ ns) = (given n).count + sum_of given ns

record Alternatives (t : Table) (given : Text → Tally) (names : List Text) (k : ℕ) : Type 0 where
  shapes : Lists
  listed : AreListed (IsChoice t names) (choice_picks k) shapes
  count_is : counted (sum_of given names) ≡ counted (length shapes)

no_alternatives : (t : Table) (given : Text → Tally) (k : ℕ) → Alternatives t given [] k
no_alternatives t given k = record {
  shapes = [];
  listed = record { ascends = tt; each = λ x c. absurd c; every = λ a q. let e = q.1 in absurd cc };
  count_is = refl;
}

module _ (t : Table) (given : Text → Tally) (n : Text) (ns : List Text) (k : ℕ) (s : Tallied (IsDerivation t n) picks nodes (given n)) (more : Alternatives t given ns (suc k)) where
  abbrev first : Lists
  first = map (λ z. k ∷ z) s.shapes

  alternatives_each : (z : List ℕ) → Among (first ++ more.shapes) z → (x : Choice) × IsChoice t (n ∷ ns) x × (choice_picks k x ≡ z)
  alternatives_each z c = elim (among_either first more.shapes z c) [
    | inl m ↦
        (let r = among_mapped (λ z. k ∷ z) s.shapes z m in
        let d = s.listed.each r.0 r.1 in
        let e : k + 0 ≡ k = omega arith in
        ((0, d.0), (n, refl, d.1), ap (λ j. j ∷ picks d.0) e ∙ ap (λ z. k ∷ z) d.2 ∙ r.2))
    | inr m ↦
        (let q = more.listed.each z m in
        let e : k + suc q.0.0 ≡ suc k + q.0.0 = omega arith in
        ((suc q.0.0, q.0.1), q.1, ap (λ j. j ∷ picks q.0.1) e ∙ q.2))
  ]

  alternatives_every : (x : Choice) → IsChoice t (n ∷ ns) x → Among (first ++ more.shapes) (choice_picks k x)
  alternatives_every (zero, d) q =
      let same : n ≡ q.0 = (let e = q.1 in cc) in
      let here : IsDerivation t n d = subst (λ b. IsDerivation t b d) (sym same) q.2 in
      let e : k ≡ k + 0 = omega arith in
      subst (λ j. Among (first ++ more.shapes) (j ∷ picks d)) e (among_left first more.shapes (k ∷ picks d) (among_map (λ z. k ∷ z) s.shapes (picks d) (s.listed.every d here)))
  alternatives_every (suc i, d) q =
      let e : suc k + i ≡ k + suc i = omega arith in
      subst (λ j. Among (first ++ more.shapes) (j ∷ picks d)) e (among_right first more.shapes ((suc k + i) ∷ picks d) (more.listed.every (i, d) q))

  more_alternatives : Alternatives t given (n ∷ ns) k
  more_alternatives = record {
    shapes = first ++ more.shapes;
    listed = record {
      ascends = ascends_append first more.shapes (ascends_map (k ∷ []) s.shapes s.listed.ascends) more.listed.ascends (λ a b h m.
          let p = among_mapped (λ z. k ∷ z) s.shapes a h in
          let q = more.listed.each b m in
          subst (λ w. IsTrue (stands_before w b)) p.2 (subst (λ w. IsTrue (stands_before (k ∷ p.0) w)) q.2 (smaller_before k (suc k + q.0.0) p.0 (picks q.0.1) (omega arith))));
      each = alternatives_each;
      every = alternatives_every;
    };
    count_is =
        let a = length-append first more.shapes in
        let b = length-map s.shapes (λ z. k ∷ z) in
        let c = s.count_is in
        let d = more.count_is in omega (arith, a, b, c, d);
  }

alternatives : (t : Table) (given : Text → Tally) (names : List Text) (k : ℕ) → ((b : Text) → Contains names b → IsTally t b (given b)) → Alternatives t given names k
alternatives t given [] k each = no_alternatives t given k
alternatives t given (n ∷ ns) k each = more_alternatives t given n ns k (each n (0, omega arith, refl)) (alternatives t given ns (suc k) (λ b c. each b (suc c.0, (let l = c.1 in omega (arith, l)), c.2)))

-- what the code adds up
sum_is : (given : Text → Tally) (s : Tally) (ns : List Text) → counted (with_alternatives given s ns).count ≡ counted (s.count + sum_of given ns)
sum_is given s [] = omega arith
sum_is given s (n ∷ ns) = let e = sum_is given (either s (given n)) ns in omega (arith, e)

sum_small : (given : Text → Tally) (s : Tally) (ns : List Text) → s.count ≤ 1000000 → (with_alternatives given s ns).count ≤ 1000000
sum_small given s [] h = h
sum_small given s (n ∷ ns) h = sum_small given (either s (given n)) ns (omega arith)

most_is_most : (given : Text → Tally) (s : Tally) (ns : List Text) → (with_alternatives given s ns).nodes ≡ most_of (λ b. (given b).nodes) s.nodes ns
most_is_most given s [] = refl
most_is_most given s (n ∷ ns) = most_is_most given (either s (given n)) ns

-- of an or-rule
module _ (t : Table) (a : Text) (mode : Bool) (n : Text) (ns : List Text) (given : Text → Tally) (is : declared t a ≡ Some (Declared.Or mode (n ∷ ns))) (each : (b : Text) → Contains (n ∷ ns) b → IsTally t b (given b)) where
  chosen_forth : (x : Choice) → IsChoice t (n ∷ ns) x → (y : Derivation) × IsDerivation t a y × (picks y ≡ choice_picks 0 x)
  chosen_forth x q = let e : x.0 ≡ 0 + x.0 = omega arith in (Pick x.0 x.1, (q.0, rw is q.1, q.2), ap (λ j. j ∷ picks x.1) e)

  chosen_back : (y : Derivation) → IsDerivation t a y → (x : Choice) × IsChoice t (n ∷ ns) x × (choice_picks 0 x ≡ picks y)
  chosen_back (Pick i d) h = let e : 0 + i ≡ i = omega arith in ((i, d), (h.0, picked mode (n ∷ ns) t a i h.0 is h.1, h.2), ap (λ j. j ∷ picks d) e)
  chosen_back (Compose rule args) h = absurd cc

  pub or_tally : IsTally t a (above (with_alternatives given (given n) ns))
  or_tally =
      let all = alternatives t given (n ∷ ns) 0 each in
      record {
        shapes = all.shapes;
        listed = same_listed (IsChoice t (n ∷ ns)) (IsDerivation t a) (choice_picks 0) picks all.shapes chosen_forth chosen_back all.listed;
        count_is =
            let s = each n (0, omega arith, refl) in
            let c = s.count_is in
            let small = sum_small given (given n) ns (omega (arith, c)) in
            let e = sum_is given (given n) ns in
            let f = all.count_is in omega (arith, small, e, f);
        nodes_are = rw (most_is_most given (given n) ns)
            (or_greatest t a mode n ns nodes nodes 1 (λ b. (given b).nodes) is (λ i x. omega arith) (λ b c. (each b c).nodes_are));
      }

-- a parameter has so many shapes, and at most so many nodes
abbrev pub IsParTally : Table → Option Parameter → Tally → Type 0
IsParTally t None s = ⊥
IsParTally t (Some (Parameter.Field ty)) s = s ≡ tally 1 1
IsParTally t (Some (Parameter.Part b)) s = IsTally t b s

-- how many all have
abbrev product_of : (Par → Tally) → List Par → ℕ
product_of given [] = 1
product_of given (p ∷ ps) = (given p).count * product_of given ps

record Together (t : Table) (given : Par → Tally) (pars : List Par) : Type 0 where
  shapes : Lists
  listed : AreListed (Fill t pars) picks_of shapes
  count_is : counted (product_of given pars) ≡ counted (length shapes)

none_filled : (t : Table) (args : Arguments) → Fill t [] args → Among ([] ∷ []) (picks_of args)
none_filled t NoMore h = inl refl
none_filled t (Part name d args) h = let e = h.3 in absurd cc
none_filled t (Field name ty z args) h = let e = h.2 in absurd cc

no_parameters : (t : Table) (given : Par → Tally) → Together t given []
no_parameters t given = record {
  shapes = [] ∷ [];
  listed = record { ascends = (tt, tt); each = λ x c. elim c [ inl e ↦ (NoMore, refl, e) | inr e ↦ absurd e ]; every = none_filled t };
  count_is = refl;
}

-- a field before others
module _ (t : Table) (given : Par → Tally) (p : Par) (pars : List Par) (more : Together t given pars) where
  field_every : (ty : Ty) → parameter_of t p.ty ≡ Some (Parameter.Field ty) → (args : Arguments) → Fill t (p ∷ pars) args → Among more.shapes (picks_of args)
  field_every ty is NoMore h = absurd cc
  field_every ty is (Part name d args) h =
      let all : p ∷ pars ≡ h.0 ∷ h.1 = h.3 in
      let first : p ≡ h.0 = cc in
      let e : Some (Parameter.Field ty) ≡ Some (Parameter.Part h.2) = sym is ∙ ap (λ (q : Par). parameter_of t q.ty) first ∙ h.5 in absurd cc
  field_every ty is (Field name other z args) h =
      let all : p ∷ pars ≡ h.0 ∷ h.1 = h.2 in
      let others : pars ≡ h.1 = cc in
      more.listed.every args (subst (λ ps. Fill t ps args) (sym others) h.6)

  with_field : (ty : Ty) → parameter_of t p.ty ≡ Some (Parameter.Field ty) → given p ≡ tally 1 1 → Together t given (p ∷ pars)
  with_field ty is one = record {
    shapes = more.shapes;
    listed = record {
      ascends = more.listed.ascends;
      each = λ x c. let a = more.listed.each x c in (Field p.name.text ty (pos 0) a.0, (p, pars, refl, refl, is, zero_in ty, a.1), a.2);
      every = field_every ty is;
    };
    count_is = let e : (given p).count * product_of given pars ≡ product_of given pars = rw one (omega arith) in ap counted e ∙ more.count_is;
  }

  -- a part before others
  part_every : (b : Text) (s : Tally) (k : IsTally t b s) → parameter_of t p.ty ≡ Some (Parameter.Part b) → (args : Arguments) → Fill t (p ∷ pars) args → Among (crossed k.shapes more.shapes) (picks_of args)
  part_every b s k is NoMore h = absurd cc
  part_every b s k is (Part name d args) h =
      let all : p ∷ pars ≡ h.0 ∷ h.1 = h.3 in
      let first : p ≡ h.0 = cc in
      let others : pars ≡ h.1 = cc in
      let e : Some (Parameter.Part b) ≡ Some (Parameter.Part h.2) = sym is ∙ ap (λ (q : Par). parameter_of t q.ty) first ∙ h.5 in
      let same : b ≡ h.2 = cc in
      among_crossed k.shapes more.shapes (picks d) (picks_of args) (k.listed.every d (subst (λ r. IsDerivation t r d) (sym same) h.6)) (more.listed.every args (subst (λ ps. Fill t ps args) (sym others) h.7))
  part_every b s k is (Field name other z args) h =
      let all : p ∷ pars ≡ h.0 ∷ h.1 = h.2 in
      let first : p ≡ h.0 = cc in
      let e : Some (Parameter.Part b) ≡ Some (Parameter.Field other) = sym is ∙ ap (λ (q : Par). parameter_of t q.ty) first ∙ h.4 in absurd cc

  with_part : (b : Text) (k : IsTally t b (given p)) → parameter_of t p.ty ≡ Some (Parameter.Part b) → Together t given (p ∷ pars)
  with_part b k is = record {
    shapes = crossed k.shapes more.shapes;
    listed = record {
      ascends = ascends_crossed k.shapes more.shapes k.listed.ascends more.listed.ascends;
      each = λ z c.
          let q = uncrossed k.shapes more.shapes z c in
          let d = k.listed.each q.x q.in_first in
          let a = more.listed.each q.y q.in_second in
          (Part p.name.text d.0 a.0, (p, pars, b, refl, refl, is, d.1, a.1), rw (d.2, a.2) q.joined);
      every = part_every b (given p) k is;
    };
    count_is =
        let c : counted (given p).count ≡ counted (length k.shapes) = (let e = k.count_is in omega (arith, e)) in
        counted_product (given p).count (product_of given pars) (length k.shapes) (length more.shapes) c more.count_is ∙ ap counted (sym (length_crossed k.shapes more.shapes));
  }

together : (t : Table) (given : Par → Tally) (pars : List Par) → ((p : Par) → Contains pars p → IsParTally t (parameter_of t p.ty) (given p)) → Together t given pars
together t given [] each = no_parameters t given
together t given (p ∷ pars) each = by (parameter_of t p.ty) refl (each p (0, omega arith, refl)) (together t given pars (λ q c. each q (behind p pars q c)))
  where
    by : (o : Option Parameter) → parameter_of t p.ty ≡ o → IsParTally t o (given p) → Together t given pars → Together t given (p ∷ pars)
    by None is h more = absurd h
    by (Some (Parameter.Field ty)) is h more = with_field t given p pars more ty is h
    by (Some (Parameter.Part b)) is h more = with_part t given p pars more b h is

-- what the code multiplies
product_is : (given : Par → Tally) (s : Tally) (ps : List Par) → counted (with_parameters given s ps).count ≡ counted (s.count * product_of given ps)
product_is given s [] = let e : s.count * 1 ≡ s.count = omega arith in ap counted (sym e)
product_is given s (p ∷ ps) =
    product_is given (both s (given p)) ps
    ∙ counted_product (counted (s.count * (given p).count)) (product_of given ps) (s.count * (given p).count) (product_of given ps) (omega arith) refl
    ∙ ap counted (mul_assoc s.count (given p).count (product_of given ps))

product_small : (given : Par → Tally) (s : Tally) (ps : List Par) → s.count ≤ 1000000 → (with_parameters given s ps).count ≤ 1000000
product_small given s [] h = h
product_small given s (p ∷ ps) h = product_small given (both s (given p)) ps (omega arith)

-- and adds up
abbrev weights : (Par → Tally) → List Par → List Weigh
weights given pars = map (λ p. record { part = nodes; field = 1; best = (given p).nodes }) pars

nodes_sum : (given : Par → Tally) (s : Tally) (ps : List Par) → counted (with_parameters given s ps).nodes ≡ counted (s.nodes + best_sum (weights given ps))
nodes_sum given s [] = omega arith
nodes_sum given s (p ∷ ps) = let e = nodes_sum given (both s (given p)) ps in omega (arith, e)

nodes_small : (given : Par → Tally) (s : Tally) (ps : List Par) → s.nodes ≤ 1000000 → (with_parameters given s ps).nodes ≤ 1000000
nodes_small given s [] h = h
nodes_small given s (p ∷ ps) h = nodes_small given (both s (given p)) ps (omega arith)

nodes_comes : (given : Par → Tally) (t : Table) (pars : List Par) (args : Arguments) → Fill t pars args → nodes_of args ≡ arg_sum (weights given pars) args
nodes_comes given t [] NoMore h = refl
nodes_comes given t (p ∷ pars) NoMore h = absurd cc
nodes_comes given t [] (Part name d args) h = let e = h.3 in absurd cc
nodes_comes given t (p ∷ pars) (Part name d args) h =
    let all : p ∷ pars ≡ h.0 ∷ h.1 = h.3 in
    let others : pars ≡ h.1 = cc in
    let e = nodes_comes given t pars args (subst (λ ps. Fill t ps args) (sym others) h.7) in omega (arith, e)
nodes_comes given t [] (Field name ty z args) h = let e = h.2 in absurd cc
nodes_comes given t (p ∷ pars) (Field name ty z args) h =
    let all : p ∷ pars ≡ h.0 ∷ h.1 = h.2 in
    let others : pars ≡ h.1 = cc in
    let e = nodes_comes given t pars args (subst (λ ps. Fill t ps args) (sym others) h.6) in omega (arith, e)

par_most : (t : Table) (o : Option Parameter) (s : Tally) → IsParTally t o s → IsParGreatest t o (record { part = nodes; field = 1; best = s.nodes })
par_most t None s h = h
par_most t (Some (Parameter.Field ty)) s h = ap (λ (x : Tally). x.nodes) (sym h)
par_most t (Some (Parameter.Part b)) s h = h.nodes_are

pars_most : (t : Table) (given : Par → Tally) (pars : List Par) → ((p : Par) → Contains pars p → IsParTally t (parameter_of t p.ty) (given p)) → AreParGreatest t pars (weights given pars)
pars_most t given [] each = tt
pars_most t given (p ∷ pars) each = (par_most t (parameter_of t p.ty) (given p) (each p (0, omega arith, refl)), pars_most t given pars (λ q c. each q (behind p pars q c)))

-- of an and-rule
module _ (t : Table) (a : Text) (rule : Rule) (given : Par → Tally) (is : declared t a ≡ Some (Declared.And rule)) (each : (p : Par) → Contains rule.pars p → IsParTally t (parameter_of t p.ty) (given p)) where
  composed_back : (y : Derivation) → IsDerivation t a y → (x : Arguments) × Fill t rule.pars x × (picks_of x ≡ picks y)
  composed_back (Pick i d) h = absurd cc
  composed_back (Compose other args) h =
      let e : Some (Declared.And other) ≡ Some (Declared.And rule) = sym h.0 ∙ is in
      let same : other ≡ rule = cc in
      (args, subst (λ r. Fill t r.pars args) same h.1, refl)

  pub and_tally : IsTally t a (with_parameters given (tally 1 1) rule.pars)
  and_tally =
      let all = together t given rule.pars each in
      record {
        shapes = all.shapes;
        listed = same_listed (Fill t rule.pars) (IsDerivation t a) picks_of picks all.shapes (λ x q. (Compose rule x, (is, q), refl)) composed_back all.listed;
        count_is =
            let small = product_small given (tally 1 1) rule.pars (omega arith) in
            let e = product_is given (tally 1 1) rule.pars in
            let f : 1 * product_of given rule.pars ≡ product_of given rule.pars = omega arith in
            let g = all.count_is in omega (arith, small, e, f, g);
        nodes_are =
            let small = nodes_small given (tally 1 1) rule.pars (omega arith) in
            let e = nodes_sum given (tally 1 1) rule.pars in
            let f : counted (1 + best_sum (weights given rule.pars)) ≡ (with_parameters given (tally 1 1) rule.pars).nodes = omega (arith, small, e) in
            subst (λ n. IsGreatest (IsDerivation t a) nodes n) f
            (and_greatest t a rule nodes 1 (weights given rule.pars) is (pars_most t given rule.pars each) (λ args h. ap (λ n. counted (1 + n)) (nodes_comes given t rule.pars args h)));
      }
