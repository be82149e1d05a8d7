-- What expressions are written out as, node by node.
use Rattle.std.proofs.Common.{ℕ, ◌-◌, ◌<◌, ◌≡◌, ◌≤◌, arith, refl, sym, ◌∙◌, ap, subst, List, ◌∷◌, ◌++◌, length, Option, Some, None, pos, Bool}
use Rattle.std.specs.Prelude.{Result, IfOk}
use Rattle.std.proofs.lemmas.Result.{IfOk-weaker}
use Rattle.nml_tree.specs.declared.names.Name.{Name}
use Rattle.nml_tree.specs.declared.tree.Size.{Size}
use Rattle.nml_tree.specs.declared.operator.Bin.{Bin}
use Rattle.nml_tree.specs.declared.operator.Un.{Un}
use Rattle.nml_tree.specs.declared.operator.Un.TheVariants as un
use Rattle.nml_tree.specs.Formula as formula
use Rattle.nml_tree.specs.Formula.{Formula, Prefix, Fit}
use Rattle.nml_tree.specs.Act.{Term, Out, Number, Unary, Binary, Choose, Cell}
use Rattle.nml_tree.specs.declared.tree.Par.{Par}
use Rattle.nml_tree.specs.Derivation.{Arguments, Derivation, IsDerivation, picks}
use Rattle.nml_tree.specs.Refused.{IsTyped}
use Rattle.nml_tree.specs.Table.{Text, Table, Rule, Declared, declared, table, alternative, pars_of, size_or_none}
use Rattle.nml_tree.specs.Written as written
use Rattle.nml_tree.specs.Written.{Scope, arguments, term, reference, prefix, fit}
use Rattle.nml_widths.specs.Fitting.{Everywhere, EachValue}
use Rattle.isg_nodes.specs.declared.node.Node.{Node}
use Rattle.isg_nodes.specs.declared.node.Node.TheVariants as node
use Rattle.isg_nodes.specs.Written as nodes
use Rattle.isg_nodes.specs.Grow.{Extends, Grown}
use Rattle.isg_nodes.proofs.Growing.{extends_refl, extends_trans}
use Rattle.isg_nodes.specs.Written.{Falls}
use Rattle.isg_written.specs.declared.found.Found.{Found}
use Rattle.isg_written.specs.declared.found.Found.TheVariants as found
use Rattle.isg_written.specs.declared.front.Front.{Front}
use Rattle.isg_written.specs.Apt.{Apt, IsRead, IsSmall}
use Rattle.isg_written.specs.Stands.{Stands, StandsAll}
use Rattle.isg_written.proofs.Steps.{next_picked, next_made}
use Rattle.isg_written.proofs.Quiet.{rule_read}
use Rattle.isg_written.specs.Found.{Values, Grows, IsWithin, Is, IsTerm, IsIndex, IsIndexWithin, here, scope, Holds, Gives, Writes, Reads, Refers}

pub grows_refl : (a : List Node) → Falls a → Grows a a
grows_refl a falls = record { extends = extends_refl a; falls = falls }

pub grows_trans : (a b c : List Node) → Grows a b → Grows b c → Grows a c
grows_trans a b c p q = record { extends = extends_trans a b c p.extends q.extends; falls = q.falls }

pub is_more : (old new : List Node) (x : Found) (u : Term) → Extends old new → IsWithin x (length old) → Is old x u → Is new x u
is_more old new (found.At n) u e h is = e.values n h ∙ is
is_more old new found.Out u e h is = is

module _ (f : Front) where
  abbrev T : Formula → Scope → Term
  T g s = term (here f) s g

  abbrev W : Formula → Scope → Type 0
  W g s = Everywhere (Apt (here f) s) g

  abbrev R : Formula → Scope → Type 0
  R g s = IsRead (here f) s g

  pub named_node : (old new : List Node) (g : Formula) (n : Name) {E : Type 0} (r : Result Found E) → g ≡ formula.Named n → IfOk r (λ x. Refers f old new x n.text None) → IfOk r (λ x. Writes f new x g)
  named_node old new g n r is h = IfOk-weaker r _ _ (λ x p. record { within = p.within; is = λ args ks holds w. subst (Is new x) (ap (λ e. T e (scope f args)) (sym is)) (p.is args ks (Number (pos 0)) holds refl) }) h

  pub indexed_node : (new : List Node) (g i : Formula) (n : Name) {E : Type 0} (r : Result Found E) → (p : ℕ) × (q : ℕ) × (g ≡ formula.Indexed n p i q) → IfOk r (λ x. Gives f (R i) new x (λ s. reference (here f) s n.text (T i s))) → IfOk r (λ x. Writes f new x g)
  indexed_node new g i n r is h = IfOk-weaker r _ _ (λ x p. record { within = p.within; is = λ args ks holds w. (let e = subst (λ y. W y (scope f args)) is.2 w in subst (Is new x) (ap (λ e. T e (scope f args)) (sym is.2)) (p.is args ks holds (e.0, e.1))) }) h

  pub paren_node : (new : List Node) (g y : Formula) {E : Type 0} (r : Result Found E) → (p : ℕ) × (q : ℕ) × (g ≡ formula.Paren p y q) → IfOk r (λ x. Writes f new x y) → IfOk r (λ x. Writes f new x g)
  paren_node new g y r is h = IfOk-weaker r _ _ (λ x p. record { within = p.within; is = λ args ks holds w. (let e = subst (λ y. W y (scope f args)) is.2 w in subst (Is new x) (ap (λ e. T e (scope f args)) (sym is.2)) (p.is args ks holds e.1)) }) h

  pub fitted_node : (new : List Node) (k : Fit) (g y : Formula) (size : Size) (n : ℕ) {E : Type 0} (r : Result Found E) → (at : ℕ) × (p : ℕ) × (c : ℕ) × (q : ℕ) × (g ≡ formula.Fitted k at p size c y q) → (IsSmall (here f) size → n ≡ size_or_none (here f) size)
      → IfOk r (λ x. Gives f (R y) new x (λ s. Unary (fit k n) (T y s))) → IfOk r (λ x. Writes f new x g)
  fitted_node new k g y size n r is small h = IfOk-weaker r _ _ (λ x p. record { within = p.within; is = λ args ks holds w. (let e = subst (λ y. W y (scope f args)) is.4 w in subst (Is new x) (ap (λ j. Unary (fit k j) (T y (scope f args))) (small e.0.0) ∙ ap (λ e. T e (scope f args)) (sym is.4)) (p.is args ks holds (e.0.1, e.1))) }) h

  pub bits_node : (new : List Node) (g y : Formula) (high low : Size) (n m : ℕ) {E : Type 0} (r : Result Found E) → (at : ℕ) × (p : ℕ) × (c : ℕ) × (j : ℕ) × (q : ℕ) × (g ≡ formula.Bits at p y c high j low q) → (IsSmall (here f) high → n ≡ size_or_none (here f) high) → (IsSmall (here f) low → m ≡ size_or_none (here f) low)
      → IfOk r (λ x. Gives f (R y) new x (λ s. Unary (un.Bits n m) (T y s))) → IfOk r (λ x. Writes f new x g)
  bits_node new g y high low n m r is small also h = IfOk-weaker r _ _ (λ x p. record { within = p.within; is = λ args ks holds w. (let e = subst (λ y. W y (scope f args)) is.5 w in subst (Is new x) (ap (λ j. Unary (un.Bits j m) (T y (scope f args))) (small e.0.0) ∙ ap (λ j. Unary (un.Bits (size_or_none (here f) high) j) (T y (scope f args))) (also e.0.1) ∙ ap (λ e. T e (scope f args)) (sym is.5)) (p.is args ks holds (e.0.2, e.1))) }) h

  pub choose_node : (new : List Node) (g c y z : Formula) {E : Type 0} (r : Result Found E) → (at : ℕ) × (a : ℕ) × (b : ℕ) × (end : ℕ) × (g ≡ formula.Choose at c a y b z end) → IfOk r (λ x. Gives f (λ s. R c s × R y s × R z s) new x (λ s. Choose (T c s) (T y s) (T z s))) → IfOk r (λ x. Writes f new x g)
  choose_node new g c y z r is h = IfOk-weaker r _ _ (λ x p. record { within = p.within; is = λ args ks holds w. (let e = subst (λ y. W y (scope f args)) is.4 w in subst (Is new x) (ap (λ e. T e (scope f args)) (sym is.4)) (p.is args ks holds ((e.0.0, e.1), (e.0.1, e.2), (e.0.2, e.3)))) }) h

  pub unary_node : (new : List Node) (op : Prefix) (g y : Formula) {E : Type 0} (r : Result Found E) → (at : ℕ) × (g ≡ formula.Unary op at y) → IfOk r (λ x. Gives f (R y) new x (λ s. Unary (prefix op) (T y s))) → IfOk r (λ x. Writes f new x g)
  unary_node new op g y r is h = IfOk-weaker r _ _ (λ x p. record { within = p.within; is = λ args ks holds w. (let e = subst (λ y. W y (scope f args)) is.1 w in subst (Is new x) (ap (λ e. T e (scope f args)) (sym is.1)) (p.is args ks holds (e.0, e.1))) }) h

  pub binary_node : (new : List Node) (op : Bin) (g y z : Formula) {E : Type 0} (r : Result Found E) → (at : ℕ) × (g ≡ formula.Binary op y at z) → IfOk r (λ x. Gives f (λ s. R y s × R z s) new x (λ s. Binary op (T y s) (T z s))) → IfOk r (λ x. Writes f new x g)
  binary_node new op g y z r is h = IfOk-weaker r _ _ (λ x p. record { within = p.within; is = λ args ks holds w. (let e = subst (λ y. W y (scope f args)) is.1 w in subst (Is new x) (ap (λ e. T e (scope f args)) (sym is.1)) (p.is args ks holds ((e.0.0, e.1), (e.0.1, e.2)))) }) h

-- the value of a mode
pub no_value : (t : Table) (name : Text) (n : ℕ) (ps : List ℕ) (new : List Node) {E : Type 0} (r : Result Found E) → ((d : Derivation) (ks : List ℕ) → Stands t name 0 d n ps ks → ⊥) → IfOk r (λ x. IsTerm new x (Number (pos 0))) → (limit : ℕ) → limit ≡ 0 → IfOk r (λ x. Values t name limit n ps new x)
no_value t name n ps new r none h limit is = IfOk-weaker r _ _ (λ x p. record { within = p.within; is = λ d ks w. absurd (none d ks (subst (λ l. Stands t name l d n ps ks) is w)) }) h

pub no_mode : (t : Table) (name : Text) (limit n : ℕ) (ps : List ℕ) (new : List Node) {E : Type 0} (r : Result Found E) → ((d : Derivation) (ks : List ℕ) → IsDerivation t name d → ps ≡ picks d ++ ks → ⊥) → IfOk r (λ x. IsTerm new x (Number (pos 0))) → IfOk r (λ x. Values t name limit n ps new x)
no_mode t name limit n ps new r none h = IfOk-weaker r _ _ (λ x p. record { within = p.within; is = λ d ks w. absurd (none d ks w.is w.picks_are) }) h

pub picked_mode : (t : Table) (name chosen : Text) (limit n : ℕ) (ps rest : List ℕ) (new : List Node) {E : Type 0} (r : Result Found E) → (k : ℕ) × (ps ≡ k ∷ rest) × (alternative t name k ≡ Some chosen) → IfOk r (λ x. Values t chosen (limit - 1) n rest new x) → IfOk r (λ x. Values t name limit n ps new x)
picked_mode t name chosen limit n ps rest new r is h = IfOk-weaker r _ _ (λ x p. record { within = p.within; is = λ d ks w. (let s = next_picked t name limit n ps ks d chosen rest is w in subst (λ y. Is new x (written.written t n y).value) (sym s.2) (p.is s.1 ks s.3)) }) h

pub made_none : (t : Table) (name : Text) (rule : Rule) (limit n : ℕ) (ps : List ℕ) (new : List Node) {E : Type 0} (r : Result Found E) → declared t name ≡ Some (Declared.And rule) → rule.value ≡ None → IfOk r (λ x. IsTerm new x (Number (pos 0))) → IfOk r (λ x. Values t name limit n ps new x)
made_none t name rule limit n ps new r is none h = IfOk-weaker r _ _ (λ x p. record { within = p.within; is = λ d ks w. (let s = next_made t name limit n ps ks rule is d w in subst (λ y. Is new x (written.written t n y).value) (sym s.1) (subst (λ o. Is new x (written.value_of t (arguments t n s.0) o)) (sym none) p.is)) }) h

-- the arguments of a rule that stand in front
pub front_holds : (f : Front) (limit : ℕ) (pars : List Par) (args : Arguments) (ks : List ℕ) → pars ≡ pars_of f.pars.now → limit - 1 ≡ f.limit → StandsAll (here f) pars (limit - 1) args f.first f.picks.now ks → Holds f args ks
front_holds f limit pars args ks pars_are limit_is s = subst (λ l. StandsAll (here f) (pars_of f.pars.now) l args f.first f.picks.now ks) limit_is (subst (λ p. StandsAll (here f) p (limit - 1) args f.first f.picks.now ks) pars_are s)

pub made_some : (f : Front) → IsTyped f.numbered.now → (name : Text) (rule : Rule) (limit : ℕ) (g : Formula) (new : List Node) {E : Type 0} (r : Result Found E) → declared (here f) name ≡ Some (Declared.And rule) → rule.value ≡ Some g
    → rule.pars ≡ pars_of f.pars.now → limit - 1 ≡ f.limit → IfOk r (λ x. Writes f new x g) → IfOk r (λ x. Values (here f) name limit f.first f.picks.now new x)
made_some f typed name rule limit g new r is some pars_are limit_is h = IfOk-weaker r _ _ (λ x p. record {
  within = p.within;
  is = λ y ks w.
      let t : Table = here f in
      let s = next_made t name limit f.first f.picks.now ks rule is y w in
      let holds : Holds f s.0 ks = front_holds f limit rule.pars s.0 ks pars_are limit_is s.2 in
      let read = (rule_read f.numbered.now typed name rule s.0 f.first (subst (IsDerivation t name) s.1 w.is)).1 in
      let w' : Everywhere (Apt t (scope f s.0)) g = subst (EachValue (Everywhere (Apt t (scope f s.0)))) some read in
      subst (λ z. Is new x (written.written t f.first z).value) (sym s.1) (subst (λ o. Is new x (written.value_of t (scope f s.0) o)) (sym some) (p.is s.0 ks holds w'));
}) h
