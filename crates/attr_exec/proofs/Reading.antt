-- What is read of an expression, by its nodes, and of a name.
use Rattle.std.proofs.Common.{ℕ, ◌-◌, ◌≤◌, List, ◌≡◌, ℤ, drop, arith, refl, sym, ◌∙◌, ap, subst, Some, None, Option, Bool, true, false, FitsSigned, pos}
use Rattle.std.specs.Int.{w128}
use Rattle.std.specs.Map.{lookup}
use Rattle.nk_base.specs.Text.{text_eq}
use Rattle.nk_base.specs.Number.{IsWidth}
use Rattle.nk_base.specs.declared.number.Ty.TheVariants as tys
use Rattle.nml_tree.specs.declared.names.Name.{Name}
use Rattle.nml_tree.specs.declared.tree.Size.{Size}
use Rattle.nml_tree.specs.declared.operator.Bin.{Bin}
use Rattle.nml_tree.specs.declared.operator.Un.TheVariants as Un
use Rattle.nml_tree.specs.Formula as formula
use Rattle.nml_tree.specs.Formula.{Formula, Prefix, Fit}
use Rattle.nml_tree.specs.Act.{Term}
use Rattle.nml_tree.specs.Table.{Text, Table, Rule, declared, size_number, size_or_none}
use Rattle.nml_tree.specs.Derivation.{Derivation, Arguments, Compose, IsDerivation, fields_of}
use Rattle.nml_tree.specs.Value.{View, unary, binary, is_zero, number_at}
use Rattle.nml_tree.specs.Worth.{rule_scope, of_ty, is_type}
use Rattle.nml_tree.specs.Written as written
use Rattle.nml_tree.specs.Written.{Argument, arguments, term, named}
use Rattle.nml_widths.specs.Fitting.{EachValue, Everywhere, Sound}
use Rattle.attr_eval.specs.Walks.{Walks, WalksAll}
use Rattle.attr_eval.proofs.Values.{stand_drop, told, width_is, bits_may}
use Rattle.attr_exec.specs.declared.look.Seen.{Seen}
use Rattle.attr_exec.specs.Seen.{ModesSound, plain, seen, one_seen, two_seen, behind_seen}

-- node by node
module _ (t : Table) (rule : Rule) (scope : written.Scope) (v : View) where
  abbrev P : Formula → Type 0
  P = Everywhere (Sound (rule_scope t rule) scope v)

  abbrev S : Formula → Seen
  S x = seen v (term t scope x)

  pub named_node : (f : Formula) (k : Name) (r : Seen) → f ≡ formula.Named k → r ≡ seen v (written.reference t scope k.text (Term.Number (pos 0))) → r ≡ S f
  named_node f k r is e = e ∙ ap S (sym is)

  pub indexed_node : (f : Formula) (k : Name) (i : Formula) (r : Seen) → (p : ℕ) × (q : ℕ) × (f ≡ formula.Indexed k p i q) → P f → (P i → r ≡ seen v (written.reference t scope k.text (term t scope i))) → r ≡ S f
  indexed_node f k i r h s e = let x = subst P h.2 s in e x.1 ∙ ap S (sym h.2)

  pub paren_node : (f x : Formula) (r : Seen) → (p : ℕ) × (q : ℕ) × (f ≡ formula.Paren p x q) → P f → (P x → r ≡ S x) → r ≡ S f
  paren_node f x r h s k = let e = subst P h.2 s in k e.1 ∙ ap S (sym h.2)

  pub choose_node : (f c x y : Formula) (a d r : Seen) (b : Bool) → (at : ℕ) × (m : ℕ) × (n : ℕ) × (end : ℕ) × (f ≡ formula.Choose at c m x n y end) → P f → (P c → a ≡ S c) → is_zero a.value ≡ b → (P x → b ≡ false → d ≡ S x) → (P y → b ≡ true → d ≡ S y) → r ≡ behind_seen a d → r ≡ S f
  choose_node f c x y a d r b h s ka is kx ky kr =
      let e = subst P h.4 s in
      let z : is_zero (S c).value ≡ b = ap (λ q. is_zero q.value) (sym (ka e.1)) ∙ is in
      kr ∙ ap (λ q. behind_seen q d) (ka e.1) ∙ side b z (kx e.2) (ky e.3) ∙ ap S (sym h.4)
    where
      side : (b : Bool) → is_zero (S c).value ≡ b → (b ≡ false → d ≡ S x) → (b ≡ true → d ≡ S y) → behind_seen (S c) d ≡ seen v (Term.Choose (term t scope c) (term t scope x) (term t scope y))
      side true z kx ky = rw (z, ky refl) refl
      side false z kx ky = rw (z, kx refl) refl

  pub binary_node : (f x y : Formula) (op : Bin) (a b r : Seen) → (at : ℕ) × (f ≡ formula.Binary op x at y) → P f → (P x → a ≡ S x) → (P y → b ≡ S y) → (FitsSigned w128 (binary op a.value b.value) → r ≡ two_seen op a b) → r ≡ S f
  binary_node f x y op a b r h s ka kb k =
      let e = subst P h.1 s in
      let m : two_seen op a b ≡ two_seen op (S x) (S y) = ap (λ q. two_seen op q b) (ka e.1) ∙ ap (two_seen op (S x)) (kb e.2) in
      k (subst (FitsSigned w128) (sym (ap (λ q. q.value) m)) e.0.narrow) ∙ m ∙ ap S (sym h.1)

  pub inverse_node : (f x : Formula) (a r : Seen) → (at : ℕ) × (f ≡ formula.Unary Prefix.Inv at x) → P f → (P x → a ≡ S x) → (Unit {0} → r ≡ one_seen Un.Inv a) → r ≡ S f
  inverse_node f x a r h s ka k = let e = subst P h.1 s in k tt ∙ ap (one_seen Un.Inv) (ka e.1) ∙ ap S (sym h.1)

  pub not_node : (f x : Formula) (a r : Seen) → (at : ℕ) × (f ≡ formula.Unary Prefix.Not at x) → P f → (P x → a ≡ S x) → (Unit {0} → r ≡ one_seen Un.Not a) → r ≡ S f
  not_node f x a r h s ka k = let e = subst P h.1 s in k tt ∙ ap (one_seen Un.Not) (ka e.1) ∙ ap S (sym h.1)

  pub negative_node : (f x : Formula) (a r : Seen) → (at : ℕ) × (f ≡ formula.Unary Prefix.Neg at x) → P f → (P x → a ≡ S x) → (FitsSigned w128 (unary Un.Neg a.value) → r ≡ one_seen Un.Neg a) → r ≡ S f
  negative_node f x a r h s ka k =
      let e = subst P h.1 s in
      let m : one_seen Un.Neg a ≡ one_seen Un.Neg (S x) = ap (one_seen Un.Neg) (ka e.1) in
      k (subst (FitsSigned w128) (sym (ap (λ q. q.value) m)) e.0.narrow) ∙ m ∙ ap S (sym h.1)

  pub int_node : (f x : Formula) (size : Size) (k : ℕ) (a r : Seen) → (at : ℕ) × (p : ℕ) × (c : ℕ) × (q : ℕ) × (f ≡ formula.Fitted Fit.Int at p size c x q) → P f → (P x → a ≡ S x) → (size_or_none t size ≤ 126 → k ≡ size_or_none t size) → (IsWidth k → r ≡ one_seen (Un.Int k) a) → r ≡ S f
  int_node f x size k a r h s ka kk kr =
      let e = subst P h.4 s in
      let w = width_is (size_or_none t size) (told (is_type (tys.Int (size_or_none t size))) (of_ty (tys.Int (size_or_none t size))) _ e.0.fits.within) in
      let same = kk (omega (arith, w.1)) in
      kr (subst IsWidth (sym same) w) ∙ ap (λ j. one_seen (Un.Int j) a) same ∙ ap (one_seen (Un.Int (size_or_none t size))) (ka e.1) ∙ ap S (sym h.4)

  pub card_node : (f x : Formula) (size : Size) (k : ℕ) (a r : Seen) → (at : ℕ) × (p : ℕ) × (c : ℕ) × (q : ℕ) × (f ≡ formula.Fitted Fit.Card at p size c x q) → P f → (P x → a ≡ S x) → (size_or_none t size ≤ 126 → k ≡ size_or_none t size) → (IsWidth k → r ≡ one_seen (Un.Card k) a) → r ≡ S f
  card_node f x size k a r h s ka kk kr =
      let e = subst P h.4 s in
      let w = width_is (size_or_none t size) (told (is_type (tys.Card (size_or_none t size))) (of_ty (tys.Card (size_or_none t size))) _ e.0.fits.within) in
      let same = kk (omega (arith, w.1)) in
      kr (subst IsWidth (sym same) w) ∙ ap (λ j. one_seen (Un.Card j) a) same ∙ ap (one_seen (Un.Card (size_or_none t size))) (ka e.1) ∙ ap S (sym h.4)

  pub sat_node : (f x : Formula) (size : Size) (k : ℕ) (a r : Seen) → (at : ℕ) × (p : ℕ) × (c : ℕ) × (q : ℕ) × (f ≡ formula.Fitted Fit.Sat at p size c x q) → P f → (P x → a ≡ S x) → (size_or_none t size ≤ 126 → k ≡ size_or_none t size) → (IsWidth k → r ≡ one_seen (Un.Sat k) a) → r ≡ S f
  sat_node f x size k a r h s ka kk kr =
      let e = subst P h.4 s in
      let w = width_is (size_or_none t size) (told (is_type (tys.Int (size_or_none t size))) (of_ty (tys.Int (size_or_none t size))) _ e.0.fits.within) in
      let same = kk (omega (arith, w.1)) in
      kr (subst IsWidth (sym same) w) ∙ ap (λ j. one_seen (Un.Sat j) a) same ∙ ap (one_seen (Un.Sat (size_or_none t size))) (ka e.1) ∙ ap S (sym h.4)

  pub bits_node : (f x : Formula) (high low : Size) (j k : ℕ) (a r : Seen) → (at : ℕ) × (p : ℕ) × (c : ℕ) × (m : ℕ) × (q : ℕ) × (f ≡ formula.Bits at p x c high m low q) → P f → (P x → a ≡ S x)
      → (size_or_none t high ≤ 126 → j ≡ size_or_none t high) → (size_or_none t low ≤ 126 → k ≡ size_or_none t low) → ((k ≤ j) × (j ≤ 126) × (j - k ≤ 63) → r ≡ one_seen (Un.Bits j k) a) → r ≡ S f
  bits_node f x high low j k a r h s ka kj kk kr =
      let e = subst P h.5 s in
      let w = bits_may (size_number t high) (size_number t low) _ e.0.fits.within in
      let same : j ≡ size_or_none t high = kj w.1 in
      let also : k ≡ size_or_none t low = kk (omega (arith, w.0, w.1)) in
      kr (omega (arith, same, also, w.0), omega (arith, same, w.1), omega (arith, same, also, w.2)) ∙ ap (λ n. one_seen (Un.Bits n k) a) same ∙ ap (λ n. one_seen (Un.Bits (size_or_none t high) n) a) also ∙ ap (one_seen (Un.Bits (size_or_none t high) (size_or_none t low))) (ka e.1) ∙ ap S (sym h.5)

-- the argument that the name is
pub argument_is : (t : Table) (scope : written.Scope) (v : View) (name : Text) (i : Term) (o : Option Argument) (r : Seen) → lookup (text_eq name) scope ≡ o → r ≡ seen v (named o (declared t name) i) → r ≡ seen v (written.reference t scope name i)
argument_is t scope v name i o r is e = e ∙ ap (λ x. seen v (named x (declared t name) i)) (sym is)

-- a field's number
pub field_is : (v : View) (j : ℕ) (z : ℤ) → number_at v.fields j ≡ z → plain z false ≡ seen v (Term.Field j)
field_is v j z is = ap (λ x. plain x false) (sym is)

-- a mode's value, written out
pub none_value : (t : Table) (scope : written.Scope) (v : View) (o : Option Formula) → o ≡ None → plain (pos 0) false ≡ seen v (written.value_of t scope o)
none_value t scope v o is = rw is refl

pub some_value : (t : Table) (scope : written.Scope) (v : View) (o : Option Formula) (f : Formula) (r : Seen) → o ≡ Some f → r ≡ seen v (term t scope f) → r ≡ seen v (written.value_of t scope o)
some_value t scope v o f r is e = e ∙ ap (λ x. seen v (written.value_of t scope x)) (sym is)

pub whole_value : (t : Table) (rule : Rule) (n j : ℕ) (d : Derivation) (ps : List ℕ) (fs : List ℤ) (ks : List ℕ) (ys : List ℤ) (v : View) (r : Seen) → (a : (args : Arguments) × (d ≡ Compose rule args) × WalksAll t rule.pars n args ps fs ks ys)
    → r ≡ seen v (written.value_of t (arguments t j a.0) rule.value) → r ≡ seen v (written.written t j d).value
whole_value t rule n j d ps fs ks ys v r a e = e ∙ ap (λ x. seen v (written.written t j x).value) (sym a.1)

-- the value is sound where the derivation stands in front
pub sound_value : (t : Table) (name : Text) (rule : Rule) (n limit j : ℕ) (d : Derivation) (ps : List ℕ) (fs : List ℤ) (ks : List ℕ) (ys : List ℤ) (v : View) (f : Formula) → Walks t name limit d ps fs ks ys → (a : (args : Arguments) × (d ≡ Compose rule args) × WalksAll t rule.pars n args ps fs ks ys)
    → ModesSound t v → drop j v.fields ≡ fs → rule.value ≡ Some f → Everywhere (Sound (rule_scope t rule) (arguments t j a.0) v) f
sound_value t name rule n limit j d ps fs ks ys v f w a sound left is =
    subst (EachValue (Everywhere (Sound (rule_scope t rule) (arguments t j a.0) v))) is
    (sound name rule a.0 j (subst (IsDerivation t name) a.1 w.is) (stand_drop (fields_of a.0) v.fields ys j (left ∙ a.2.fields_are)))
