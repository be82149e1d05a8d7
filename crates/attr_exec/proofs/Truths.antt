-- Where N4 to N7 fail, what is true or false is worth at most 1.
use Rattle.std.proofs.Common.{◌≡◌, ℕ, zero, suc, ◌≤◌, max, ℤ, pos, negsuc, ◌≤ℤ◌, refl, ap, sym, ◌∙◌, subst, arith, List, [], ◌∷◌, ◌++◌, length, map, Option, Some, None, Bool, true, false, Contains, ◌⊎◌, inl, inr}
use Rattle.std.specs.Prelude.{IsSome, if◌then◌else◌, filter, flat_map, option_map}
use Rattle.std.specs.Map.{lookup}
use Rattle.std.proofs.lemmas.Int.{ints}
use Rattle.std.proofs.lemmas.Cmp.{nat_list_eq_equiv}
use Rattle.std.proofs.lemmas.Map.Steps.{length-le_from_keys}
use Rattle.nk_base.specs.Text.{text_eq}
use Rattle.nk_base.specs.Number.{InRange}
use Rattle.nk_base.specs.declared.number.Ty.{Ty}
use Rattle.nk_base.specs.declared.number.Ty.TheVariants as tys
use Rattle.nml_tree.specs.declared.operator.Bin.{Bin}
use Rattle.nml_tree.specs.declared.operator.Bin.TheVariants as bin
use Rattle.nml_tree.specs.declared.names.Name.{Name}
use Rattle.nml_tree.specs.declared.tree.Item.{Item}
use Rattle.nml_tree.specs.declared.tree.Item.TheVariants as item
use Rattle.nml_tree.specs.declared.tree.Desc.{Desc}
use Rattle.nml_tree.specs.declared.tree.PortWord.{PortWord}
use Rattle.nml_tree.specs.declared.tree.PortWord.TheVariants as port
use Rattle.nml_tree.specs.declared.tree.TypeExpr.{TypeExpr}
use Rattle.nml_tree.specs.declared.tree.TypeExpr.TheVariants as type_expr
use Rattle.nml_tree.specs.Formula as formula
use Rattle.nml_tree.specs.Formula.{Formula, Prefix}
use Rattle.nml_tree.specs.Table.{Text, Table, Rule, Declared, declared, table, entry, port_of, is_mode_word, Parameter, parameter_of, parameter_named, type_of, size_number}
use Rattle.nml_tree.specs.Reach.{IsBelow, CycleFault}
use Rattle.nml_tree.specs.Inside.{inside, inside_value, inside_block, handed_on}
use Rattle.nml_tree.specs.Places.{when}
use Rattle.nml_tree.specs.Worth.{Kind, Number, Truth, Unknown, Nothing, UpTo, Worth, unknown, worth_of, is_known, is_other, known_first, greater_cap, sides, either, is_type, of_ty, of_number, of_type, of_bits, are_bits, of_mode, valued, of_value, of_rule, is_rule, greatest, of_binary, of_prefix, of_entry, of_name, of_declared, Scope, worth, rule_worth, rule_scope}
use Rattle.nml_tree.specs.TypeFault.{has_value, is_rule_of, is_read_rightly, is_named_rightly, value_places, alternative_places, item_places, type_fault_places}
use Rattle.nml_tree.specs.Refused.{IsFreeBelow, By_type}
use Rattle.nml_widths.proofs.WidthLaws.{is_sound}
use Rattle.attr_exec.proofs.Ports.{placed, none_from, flat_none}
use Rattle.nml_tree.proofs.Height.{IsChain, distinct, all_declared}
use Rattle.nml_widths.specs.Fitting.{Within}
use Rattle.nml_widths.proofs.Fits.{AreRight, right_left, right_right, no_left, no_right, unless_none, when_none, both_left, both_right, other_sym}
use Rattle.nml_widths.proofs.ModeFits.{IsRightDeclared, ParRight, rule_or_rule, all_kept, valued_rule}
use Rattle.nml_widths.proofs.Settled.{IsSound, looked, settled}

-- a number; or true or false, with a cap of at most 1
abbrev pub Good : Worth → Type 0
Good w = (w.kind ≡ Number) ⊎ ((w.kind ≡ Truth) × (c : ℕ) × (w.cap ≡ UpTo c) × (c ≤ 1))

good_ty : (u : Ty) → Good (of_ty u)
good_ty tys.Bool = inr (refl, 1, refl, omega arith)
good_ty (tys.Card n) = inl refl
good_ty (tys.Int n) = inl refl

good_type : (u : Ty) → is_type u ≡ true → Good (of_type u)
good_type u is = subst (λ (b : Bool). Good (if b then of_ty u else unknown)) (sym is) (good_ty u)

good_number : (z : ℤ) → Good (of_number z)
good_number (pos n) = inl refl
good_number (negsuc n) = inl refl

good_declared : (o : Option Declared) → ((d : Declared) → o ≡ Some d → IsRightDeclared d) → has_value (of_declared o).kind ≡ true → Good (of_declared o)
good_declared None h k = absurd cc
good_declared (Some (Declared.Constant z)) h k = good_number z
good_declared (Some (Declared.TypeName ty)) h k = absurd cc
good_declared (Some (Declared.Storage n m ty)) h k = good_type ty (h _ refl)
good_declared (Some (Declared.Trn n ty)) h k = good_type ty (h _ refl)
good_declared (Some (Declared.Inp ty)) h k = good_type ty (h _ refl)
good_declared (Some (Declared.Out ty)) h k = good_type ty (h _ refl)
good_declared (Some (Declared.Or mode names)) h k = absurd cc
good_declared (Some (Declared.And rule)) h k = absurd cc

good_binary : (op : Bin) (a b : Worth) → Good (of_binary op a b)
good_binary bin.OrElse a b = inr (refl, 1, refl, omega arith)
good_binary bin.AndAlso a b = inr (refl, 1, refl, omega arith)
good_binary bin.Or a b = inl refl
good_binary bin.Xor a b = inl refl
good_binary bin.And a b = inl refl
good_binary bin.Eq a b = inr (refl, 1, refl, omega arith)
good_binary bin.Ne a b = inr (refl, 1, refl, omega arith)
good_binary bin.Lt a b = inr (refl, 1, refl, omega arith)
good_binary bin.Le a b = inr (refl, 1, refl, omega arith)
good_binary bin.Gt a b = inr (refl, 1, refl, omega arith)
good_binary bin.Ge a b = inr (refl, 1, refl, omega arith)
good_binary bin.Shl a b = inl refl
good_binary bin.Shr a b = inl refl
good_binary bin.Add a b = inl refl
good_binary bin.Sub a b = inl refl
good_binary bin.Mul a b = inl refl

good_prefix : (op : Prefix) (a : Worth) → Good (of_prefix op a)
good_prefix Prefix.Neg a = inl refl
good_prefix Prefix.Inv a = inl refl
good_prefix Prefix.Not a = inr (refl, 1, refl, omega arith)

good_bits : (o p : Option ℤ) → Good (of_bits o p)
good_bits None p = inl refl
good_bits (Some hi) None = inl refl
good_bits (Some hi) (Some lo) = one (are_bits hi lo) refl
  where
    one : (b : Bool) → are_bits hi lo ≡ b → Good (of_bits (Some hi) (Some lo))
    one true is = rw is (inl refl)
    one false is = rw is (inl refl)

-- both are of one kind
good_both : (a b : Worth) → Good a → Good b → is_other a.kind b.kind ≡ false → (a.kind ≡ b.kind) × Good (worth_of (known_first a.kind b.kind) (max a.width b.width) (greater_cap a.cap b.cap))
good_both a b (inl p) (inl q) h = (p ∙ sym q, inl (ap (λ k. known_first k b.kind) p))
good_both a b (inl p) (inr q) h = let e : is_other a.kind b.kind ≡ true = ap (λ k. is_other k b.kind) p ∙ ap (is_other Number) q.0 in absurd cc
good_both a b (inr p) (inl q) h = let e : is_other a.kind b.kind ≡ true = ap (λ k. is_other k b.kind) p.0 ∙ ap (is_other Truth) q in absurd cc
good_both a b (inr p) (inr q) h = (p.0 ∙ sym q.0, inr (ap (λ k. known_first k b.kind) p.0, max p.1 q.1, ap (λ c. greater_cap c b.cap) p.2 ∙ ap (greater_cap (UpTo p.1)) q.2, omega (arith, p.3, q.3)))

good_sides : (a b : Worth) → Good a → Good b → is_other a.kind b.kind ≡ false → Good (sides a b)
good_sides a b p q h = subst (λ (u : Bool). Good (if u then unknown else worth_of (known_first a.kind b.kind) (max a.width b.width) (greater_cap a.cap b.cap))) (sym h) (good_both a b p q h).1

good_mode : (w : Worth) → Good w → Good (of_mode w)
good_mode w (inl p) = inl (ap valued p)
good_mode w (inr p) = inr (ap valued p.0, p.1, p.2, p.3)

abbrev NamesGood : Scope → Type 0
NamesGood s = (q : Text) → has_value (of_name s q).kind ≡ true → Good (of_name s q)

pub good_value : (s : Scope) → NamesGood s → (x : Formula) → AreRight s (inside x) → Good (worth s x)
good_value s n (formula.Numeral m) h = good_number (pos m.value)
good_value s n (formula.Truth at b) h = inr (refl, 1, refl, omega arith)
good_value s n (formula.Named m) h =
    let e : is_read_rightly s false m ≡ true = unless_none (is_read_rightly s false m) m.at (no_left _ _ h) in
    n m.text (both_right _ _ (both_left _ _ e))
good_value s n (formula.Indexed m p i q) h =
    let e : is_read_rightly s true m ≡ true = unless_none (is_read_rightly s true m) m.at (no_left _ _ (no_left _ _ h)) in
    n m.text (both_right _ _ (both_left _ _ e))
good_value s n (formula.Paren p x q) h = good_value s n x h
good_value s n (formula.Fitted f at p m c x q) h = inl refl
good_value s n (formula.Bits at p x c high d low q) h = good_bits (size_number s.table high) (size_number s.table low)
good_value s n (formula.Choose at c t x f y end) h =
    let here = no_left _ _ h in
    let behind = no_right _ _ h in
    let e : is_other (worth s y).kind (worth s x).kind ≡ false = when_none _ _ (no_right _ _ here) in
    good_sides (worth s x) (worth s y) (good_value s n x (right_right s (inside c) (inside x) (right_left s (inside c ++ inside x) (inside y) behind))) (good_value s n y (right_right s (inside c ++ inside x) (inside y) behind)) (other_sym (worth s x).kind (worth s y).kind ∙ e)
good_value s n (formula.Unary op at x) h = good_prefix op (worth s x)
good_value s n (formula.Binary op x at y) h = good_binary op (worth s x) (worth s y)

-- a mode's alternatives
known : (w : Worth) → Good w → is_known w.kind ≡ true
known w (inl p) = ap is_known p
known w (inr p) = ap is_known p.0

same_kind : (k j : Kind) → is_known k ≡ true → is_known j ≡ true → is_other k j ≡ false → j ≡ k
same_kind Number Number a b h = refl
same_kind Number Truth a b h = absurd cc
same_kind Number Unknown a b h = absurd cc
same_kind Number Nothing a b h = absurd cc
same_kind Truth Number a b h = absurd cc
same_kind Truth Truth a b h = refl
same_kind Truth Unknown a b h = absurd cc
same_kind Truth Nothing a b h = absurd cc
same_kind Unknown j a b h = absurd cc
same_kind Nothing j a b h = absurd cc

first_known : (k j : Kind) → is_known k ≡ true → known_first k j ≡ k
first_known k j h = subst (λ (b : Bool). (if b then k else j) ≡ k) (sym h) refl

abbrev AllGood : Table → List Name → Type 0
AllGood t ns = (n : Name) → Contains ns n → (is_rule_of true (declared t n.text) ≡ true) × Good (rule_worth t n.text)

places_of : (t : Table) (k : Kind) (n : Name) (ns : List Name) → is_rule_of true (declared t n.text) ≡ true → alternative_places t true k (n ∷ ns) ≡ [] → (is_other k (rule_worth t n.text).kind ≡ false) × (alternative_places t true (known_first k (rule_worth t n.text).kind) ns ≡ [])
places_of t k n ns is h =
    let e : when (is_other k (rule_worth t n.text).kind) n.at ++ alternative_places t true (known_first k (rule_worth t n.text).kind) ns ≡ [] =
    subst (λ (b : Bool). (if b then when (is_other k (rule_worth t n.text).kind) n.at ++ alternative_places t true (known_first k (rule_worth t n.text).kind) ns else n.at ∷ alternative_places t true k ns) ≡ []) is h in
    (when_none _ n.at (no_left _ _ e), no_right (when (is_other k (rule_worth t n.text).kind) n.at) _ e)

kinds_are : (t : Table) (k : Kind) (ns : List Name) → is_known k ≡ true → alternative_places t true k ns ≡ [] → AllGood t ns → (n : Name) → Contains ns n → (rule_worth t n.text).kind ≡ k
kinds_are t k [] fine h all n c = absurd (omega (arith, c.1))
kinds_are t k (x ∷ ns) fine h all n (zero, low, is) =
    let a = all x (0, omega arith, refl) in
    let p = places_of t k x ns a.0 h in
    subst (λ (q : Name). (rule_worth t q.text).kind ≡ k) is (same_kind k (rule_worth t x.text).kind fine (known (rule_worth t x.text) a.1) p.0)
kinds_are t k (x ∷ ns) fine h all n (suc i, low, is) =
    let a = all x (0, omega arith, refl) in
    let p = places_of t k x ns a.0 h in
    kinds_are t k ns fine (subst (λ j. alternative_places t true j ns ≡ []) (first_known k (rule_worth t x.text).kind fine) p.1) (λ m c. all m (suc c.0, omega (arith, c.1), c.2)) n (i, omega (arith, low), is)

no_other : (k : Kind) → is_other k k ≡ false
no_other Number = refl
no_other Truth = refl
no_other Unknown = refl
no_other Nothing = refl

as_either : (a b : Worth) → Good (worth_of (known_first a.kind b.kind) (max a.width b.width) (greater_cap a.cap b.cap)) → Good (either a b)
as_either a b h = h

-- the greatest of values of one kind
good_greatest : (w : Worth) (ws : List Worth) (k : Kind) → is_known k ≡ true → ((u : Worth) → Contains (w ∷ ws) u → Good u × (u.kind ≡ k)) → Good (greatest (w ∷ ws)) × ((greatest (w ∷ ws)).kind ≡ k)
good_greatest w [] k fine all = all w (0, omega arith, refl)
good_greatest w (x ∷ ws) k fine all =
    let a = all w (0, omega arith, refl) in
    let g = good_greatest x ws k fine (λ u c. all u (suc c.0, omega (arith, c.1), c.2)) in
    let alike : is_other w.kind (greatest (x ∷ ws)).kind ≡ false = ap (λ j. is_other j (greatest (x ∷ ws)).kind) a.1 ∙ ap (is_other k) g.1 ∙ no_other k in
    (as_either w (greatest (x ∷ ws)) (good_both w (greatest (x ∷ ws)) a.0 g.0 alike).1, ap (λ j. known_first j (greatest (x ∷ ws)).kind) a.1 ∙ first_known k (greatest (x ∷ ws)).kind fine)

in_names : (t : Table) (ns : List Name) (u : Worth) → Contains (map (rule_worth t) (map (λ n. n.text) ns)) u → (n : Name) × Contains ns n × (rule_worth t n.text ≡ u)
in_names t [] u c = absurd (omega (arith, c.1))
in_names t (n ∷ ns) u (zero, low, is) = (n, (0, omega arith, refl), is)
in_names t (n ∷ ns) u (suc k, low, is) = let r = in_names t ns u (k, omega (arith, low), is) in (r.0, (suc r.1.0, omega (arith, r.1.1), r.1.2), r.2)

-- each of them is of the first's kind
alternative_kind : (t : Table) (n : Name) (ns : List Name) → alternative_places t true Unknown (n ∷ ns) ≡ [] → AllGood t (n ∷ ns) → (u : Worth) → Contains (map (rule_worth t) (map (λ m. m.text) (n ∷ ns))) u → Good u × (u.kind ≡ (rule_worth t n.text).kind)
alternative_kind t n ns h all u c =
    let a = all n (0, omega arith, refl) in
    let k = (rule_worth t n.text).kind in
    let fine = known (rule_worth t n.text) a.1 in
    let p = places_of t Unknown n ns a.0 h in
    one u (in_names t (n ∷ ns) u c) (kinds_are t k ns fine p.1 (λ m c. all m (suc c.0, omega (arith, c.1), c.2)))
  where
    one : (u : Worth) → (m : Name) × Contains (n ∷ ns) m × (rule_worth t m.text ≡ u) → ((m : Name) → Contains ns m → (rule_worth t m.text).kind ≡ (rule_worth t n.text).kind) → Good u × (u.kind ≡ (rule_worth t n.text).kind)
    one u (m, (zero, low, is), e) kinds = let e2 : rule_worth t n.text ≡ u = ap (λ q. rule_worth t q.text) is ∙ e in (subst Good e2 (all n (0, omega arith, refl)).1, ap (λ w. w.kind) (sym e2))
    one u (m, (suc i, low, is), e) kinds = (subst Good e (all m (suc i, low, is)).1, ap (λ w. w.kind) (sym e) ∙ kinds m (i, omega (arith, low), is))

good_alternatives : (t : Table) (n : Name) (ns : List Name) → alternative_places t true Unknown (n ∷ ns) ≡ [] → AllGood t (n ∷ ns)
    → Good (greatest (map (rule_worth t) (map (λ m. m.text) (n ∷ ns)))) × ((greatest (map (rule_worth t) (map (λ m. m.text) (n ∷ ns)))).kind ≡ (rule_worth t n.text).kind)
good_alternatives t n ns h all =
    good_greatest (rule_worth t n.text) (map (rule_worth t) (map (λ m. m.text) ns)) (rule_worth t n.text).kind (known (rule_worth t n.text) (all n (0, omega arith, refl)).1) (alternative_kind t n ns h all)

-- what a value of such a worth is
pub is_truth : (w : Worth) (z : ℤ) → Good w → (w.kind ≡ Number → ⊥) → Within w.cap z → InRange tys.Bool z
is_truth w z (inl p) h f = absurd (h p)
is_truth w z (inr p) h f =
    let g : Within (UpTo p.1) z = subst (λ c. Within c z) p.2 f in
    (g.0, bounded z p.1 p.3 g.1)
  where
    bounded : (z : ℤ) (c : ℕ) → c ≤ 1 → z ≤ℤ pos c → z ≤ℤ pos 1
    bounded (pos n) c low h = omega (arith, ints, low, h)
    bounded (negsuc n) c low h = omega (arith, ints)

-- what the alternatives of a mode are, as they are written
abbrev pub Agrees : Table → Type 0
Agrees t = (name : Text) (names : List Text) → declared t name ≡ Some (Declared.Or true names) → (n : Name) × (ns : List Name) × (map (λ m. m.text) (n ∷ ns) ≡ names) × (alternative_places t true Unknown (n ∷ ns) ≡ [])

is_declared : (t : Table) (a : Text) (d : Declared) → declared t a ≡ Some d → IsSome (declared t a)
is_declared t a d h = rw h refl

-- no chain of rules from it has more than n
abbrev Short : Table → ℕ → Text → Type 0
Short t n a = (ns : List Text) → IsChain t (a ∷ ns) → suc (length ns) ≤ n

chain_within : (t : Table) → ((r : Text) → CycleFault t r → ⊥) → (a : Text) → Short t (length t) a
chain_within t free a ns c =
    let low = length-le_from_keys nat_list_eq_equiv (a ∷ ns) t (distinct ns t a free c) (λ q any. all_declared ns t a q c any) in
    omega (arith, low)

short_below : (t : Table) (n : ℕ) (a b : Text) → Short t (suc n) a → IsBelow t a b → Short t n b
short_below t n a b h below ns c = omega (arith, h (b ∷ ns) (below, c))

none_short : (t : Table) (a : Text) (d : Declared) → declared t a ≡ Some d → Short t 0 a → ⊥
none_short t a d is h = omega (arith, h [] (is_declared t a d is))

no_part : (o : Option Ty) (r : Text) → option_map Parameter.Field o ≡ Some (Parameter.Part r) → ⊥
no_part None r h = cc
no_part (Some ty) r h = cc

part_named : (t : Table) (name r : Text) (o : Option Declared) → declared t name ≡ o → parameter_named name o ≡ Some (Parameter.Part r) → is_rule (declared t r) ≡ true
part_named t name r None is h = absurd cc
part_named t name r (Some (Declared.Constant z)) is h = absurd cc
part_named t name r (Some (Declared.TypeName ty)) is h = absurd cc
part_named t name r (Some (Declared.Storage n k ty)) is h = absurd cc
part_named t name r (Some (Declared.Trn n ty)) is h = absurd cc
part_named t name r (Some (Declared.Inp ty)) is h = absurd cc
part_named t name r (Some (Declared.Out ty)) is h = absurd cc
part_named t name r (Some (Declared.Or mode names)) is h = let e : name ≡ r = cc in let g : is_rule (declared t name) ≡ true = rw is refl in subst (λ x. is_rule (declared t x) ≡ true) e g
part_named t name r (Some (Declared.And rule)) is h = let e : name ≡ r = cc in let g : is_rule (declared t name) ≡ true = rw is refl in subst (λ x. is_rule (declared t x) ≡ true) e g

part_rule : (t : Table) (e : TypeExpr) (r : Text) → parameter_of t e ≡ Some (Parameter.Part r) → is_rule (declared t r) ≡ true
part_rule t (type_expr.Bool at) r h = absurd (no_part (type_of t (type_expr.Bool at)) r h)
part_rule t (type_expr.Card at p n q) r h = absurd (no_part (type_of t (type_expr.Card at p n q)) r h)
part_rule t (type_expr.Int at p n q) r h = absurd (no_part (type_of t (type_expr.Int at p n q)) r h)
part_rule t (type_expr.Fix at p n c m q) r h = absurd (no_part (type_of t (type_expr.Fix at p n c m q)) r h)
part_rule t (type_expr.Float at p n c m q) r h = absurd (no_part (type_of t (type_expr.Float at p n c m q)) r h)
part_rule t (type_expr.Name n) r h = part_named t n.text r (declared t n.text) refl h

none_rule : (t : Table) (a : Text) (o : Option Declared) → declared t a ≡ o → Short t 0 a → is_rule o ≡ true → ⊥
none_rule t a None is h r = absurd cc
none_rule t a (Some d) is h r = none_short t a d is h

abbrev BelowGood : Table → Text → Type 0
BelowGood t a = (b : Text) → IsBelow t a b → is_rule (declared t b) ≡ true → has_value (rule_worth t b).kind ≡ true → Good (rule_worth t b)

entry_good : (t : Table) → IsSound t → (a : Text) (rule : Rule) → declared t a ≡ Some (Declared.And rule) → BelowGood t a → (q : Text) (o : Option (Option Parameter))
    → lookup (text_eq q) (map (λ p. (p.name.text, parameter_of t p.ty)) rule.pars) ≡ o → has_value (of_entry (rule_scope t rule) o (declared t q)).kind ≡ true → Good (of_entry (rule_scope t rule) o (declared t q))
entry_good t sound a rule is below q None got k = good_declared (declared t q) (sound.names q) k
entry_good t sound a rule is below q (Some None) got k =
    let c = looked t rule.pars q None got in
    absurd (subst ParRight c.2 ((sound.rules a rule is).fields c.0 c.1))
entry_good t sound a rule is below q (Some (Some (Parameter.Field ty))) got k =
    let c = looked t rule.pars q (Some (Parameter.Field ty)) got in
    good_type ty (subst ParRight c.2 ((sound.rules a rule is).fields c.0 c.1))
entry_good t sound a rule is below q (Some (Some (Parameter.Part r))) got k =
    let c = looked t rule.pars q (Some (Parameter.Part r)) got in
    below r (IsBelow.Part rule c.0 is c.1 c.2) (part_rule t c.0.ty r c.2) k

good_rule_value : (s : Scope) → NamesGood s → (o : Option Formula) → flat_map (value_places s) (handed_on o) ≡ [] → AreRight s (inside_value o) → has_value (of_value s o).kind ≡ true → Good (of_value s o)
good_rule_value s n None a b k = absurd cc
good_rule_value s n (Some (formula.Named m)) a b k =
    let e : is_named_rightly s false m ≡ true = unless_none _ m.at (no_left _ _ a) in good_mode (of_name s m.text) (n m.text (both_right _ _ e))
good_rule_value s n (Some e) a b k = good_mode (worth s e) (good_value s n e b)

in_texts : (ns : List Name) (m : Name) → Contains ns m → Contains (map (λ q. q.text) ns) m.text
in_texts [] m c = absurd (omega (arith, c.1))
in_texts (n ∷ ns) m (zero, low, is) = (0, omega arith, ap (λ (q : Name). q.text) is)
in_texts (n ∷ ns) m (suc k, low, is) = let c = in_texts ns m (k, omega (arith, low), is) in (suc c.0, omega (arith, c.1), c.2)

has_kind : (t : Table) → IsSound t → (name : Text) → is_rule_of true (declared t name) ≡ true → has_value (rule_worth t name).kind ≡ true
has_kind t sound name h = ap (λ (w : Worth). has_value w.kind) (settled t sound.free name) ∙ valued_rule t (rule_worth t) (declared t name) h

good_of_rule : (t : Table) → IsSound t → Agrees t → (a : Text) → BelowGood t a → (o : Option Declared) → declared t a ≡ o → has_value (of_rule t (rule_worth t) o).kind ≡ true → is_rule o ≡ true → Good (of_rule t (rule_worth t) o)
good_of_rule t sound agree a below None is k r = absurd cc
good_of_rule t sound agree a below (Some (Declared.Constant z)) is k r = absurd cc
good_of_rule t sound agree a below (Some (Declared.TypeName ty)) is k r = absurd cc
good_of_rule t sound agree a below (Some (Declared.Storage n m ty)) is k r = absurd cc
good_of_rule t sound agree a below (Some (Declared.Trn n ty)) is k r = absurd cc
good_of_rule t sound agree a below (Some (Declared.Inp ty)) is k r = absurd cc
good_of_rule t sound agree a below (Some (Declared.Out ty)) is k r = absurd cc
good_of_rule t sound agree a below (Some (Declared.Or false names)) is k r = absurd cc
good_of_rule t sound agree a below (Some (Declared.Or true names)) is k r =
    let g = agree a names is in
    let kept : filter (λ y. is_rule (declared t y)) names ≡ names = all_kept (λ y. is_rule (declared t y)) names (λ y c. rule_or_rule (declared t y) (sound.alternatives a names is y c)) in
    let all : AllGood t (g.0 ∷ g.1) = λ m c. (let among = subst (λ (xs : List Text). Contains xs m.text) g.2 (in_texts (g.0 ∷ g.1) m c) in let rule = sound.alternatives a names is m.text among in (rule, below m.text (IsBelow.Alternative true names is among) (rule_or_rule (declared t m.text) rule) (has_kind t sound m.text rule))) in
    good_mode (greatest (map (rule_worth t) (filter (λ y. is_rule (declared t y)) names)))
    (subst (λ (xs : List Text). Good (greatest (map (rule_worth t) xs))) (g.2 ∙ sym kept) (good_alternatives t g.0 g.1 g.3 all).0)
good_of_rule t sound agree a below (Some (Declared.And rule)) is k r =
    let right = sound.rules a rule is in
    good_rule_value (rule_scope t rule) (λ q h. entry_good t sound a rule is below q _ refl h) rule.value right.handed (right_left (rule_scope t rule) (inside_value rule.value) (inside_block rule.action) right.reading) k

good_within : (n : ℕ) (t : Table) → IsSound t → Agrees t → (a : Text) → Short t n a → is_rule (declared t a) ≡ true → has_value (rule_worth t a).kind ≡ true → Good (rule_worth t a)
good_within zero t sound agree a h r k = absurd (none_rule t a (declared t a) refl h r)
good_within (suc n) t sound agree a h r k =
    let e = settled t sound.free a in
    let good = good_of_rule t sound agree a (λ b below p v. good_within n t sound agree b (short_below t n a b h below) p v) (declared t a) refl (sym (ap (λ (w : Worth). has_value w.kind) e) ∙ k) r in
    subst Good (sym e) good

-- each mode is a number, or true or false
pub good_rules : (t : Table) → IsSound t → Agrees t → (name : Text) → is_rule_of true (declared t name) ≡ true → Good (rule_worth t name)
good_rules t sound agree name h = good_within (length t) t sound agree name (chain_within t sound.free name) (rule_or_rule (declared t name) h) (has_kind t sound name h)

in_map : (f : Text → Worth) (xs : List Text) (x : Text) → Contains xs x → Contains (map f xs) (f x)
in_map f [] x c = absurd (omega (arith, c.1))
in_map f (y ∷ ys) x (zero, low, is) = (0, omega arith, ap f is)
in_map f (y ∷ ys) x (suc k, low, is) = let c = in_map f ys x (k, omega (arith, low), is) in (suc c.0, omega (arith, c.1), c.2)

valued_known : (k : Kind) → is_known k ≡ true → valued k ≡ k
valued_known Number h = refl
valued_known Truth h = refl
valued_known Unknown h = absurd cc
valued_known Nothing h = absurd cc

-- an alternative of a mode is of the mode's kind
pub alternatives_alike : (t : Table) → IsSound t → Agrees t → (name : Text) (names : List Text) → declared t name ≡ Some (Declared.Or true names) → (chosen : Text) → Contains names chosen → (rule_worth t name).kind ≡ (rule_worth t chosen).kind
alternatives_alike t sound agree name names is chosen c =
    let g = agree name names is in
    let kept : filter (λ y. is_rule (declared t y)) names ≡ names = all_kept (λ y. is_rule (declared t y)) names (λ y c. rule_or_rule (declared t y) (sound.alternatives name names is y c)) in
    let all : AllGood t (g.0 ∷ g.1) = λ m c. (let rule = sound.alternatives name names is m.text (subst (λ (xs : List Text). Contains xs m.text) g.2 (in_texts (g.0 ∷ g.1) m c)) in (rule, good_rules t sound agree m.text rule)) in
    let most = good_alternatives t g.0 g.1 g.3 all in
    let one = alternative_kind t g.0 g.1 g.3 all (rule_worth t chosen) (in_map (rule_worth t) (map (λ m. m.text) (g.0 ∷ g.1)) chosen (subst (λ (xs : List Text). Contains xs chosen) (sym g.2) c)) in
    ap (λ (w : Worth). w.kind) (settled t sound.free name ∙ ap (of_rule t (rule_worth t)) is)
    ∙ (ap (λ (xs : List Text). valued (greatest (map (rule_worth t) xs)).kind) (kept ∙ sym g.2) ∙ (valued_known (greatest (map (rule_worth t) (map (λ m. m.text) (g.0 ∷ g.1)))).kind (known (greatest (map (rule_worth t) (map (λ m. m.text) (g.0 ∷ g.1)))) most.0) ∙ (most.1 ∙ sym one.1)))

-- and each name in a rule
pub names_good : (t : Table) → IsSound t → Agrees t → (a : Text) (rule : Rule) → declared t a ≡ Some (Declared.And rule) → NamesGood (rule_scope t rule)
names_good t sound agree a rule is q h = entry_good t sound a rule is (λ b below r k. good_within (length t) t sound agree b (chain_within t sound.free b) r k) q _ refl h

no_port_or : (t : Table) (w : PortWord) (ty : Ty) (mode : Bool) (names : List Text) → port_of t w ty ≡ Declared.Or mode names → ⊥
no_port_or t (port.Trn at) ty mode names h = cc
no_port_or t (port.Inp at) ty mode names h = cc
no_port_or t (port.Out at) ty mode names h = cc

texts_same : (rest : List (ℕ × Name)) → map (λ n. n.text) (map (λ (bar, n). n) rest) ≡ map (λ (bar, n). n.text) rest
texts_same [] = refl
texts_same ((bar, n) ∷ rest) = ap (λ xs. n.text ∷ xs) (texts_same rest)

agrees_item : (whole u : Table) (i : Item) (names : List Text) → (entry u i).1 ≡ Declared.Or true names → item_places whole i ≡ [] → (n : Name) × (ns : List Name) × (map (λ m. m.text) (n ∷ ns) ≡ names) × (alternative_places whole true Unknown (n ∷ ns) ≡ [])
agrees_item whole u (item.Let at n equals minus z) names e h = absurd cc
agrees_item whole u (item.Type at n equals x) names e h = absurd cc
agrees_item whole u (item.Storage s) names e h = absurd cc
agrees_item whole u (item.Port p) names e h = absurd (no_port_or u p.word _ true names e)
agrees_item whole u (item.OrRule r) names e h =
    let m : is_mode_word r.word ≡ true = cc in
    let a : r.first.text ∷ map (λ (bar, n). n.text) r.rest ≡ names = cc in
    (r.first, map (λ (bar, n). n) r.rest, ap (λ xs. r.first.text ∷ xs) (texts_same r.rest) ∙ a, subst (λ b. alternative_places whole b Unknown (r.first ∷ map (λ (bar, n). n) r.rest) ≡ []) m h)
agrees_item whole u (item.OpRule r) names e h = absurd cc
agrees_item whole u (item.ModeRule r) names e h = absurd cc

pub all_agree : (d : Desc) → IsFreeBelow 8 d → Agrees (table d)
all_agree d free name names is =
    elim (placed d.items [] name (Declared.Or true names) is) [
      | inl old ↦ absurd cc
      | inr f ↦ agrees_item (table d) f.0 f.1 names f.5 (flat_none (item_places (table d)) d.items f.1 f.4 (none_from (type_fault_places d) (λ at c. free 6 (omega arith) (By_type at c))))
    ]

-- an expression of a rule that is no number is 0 or 1
pub truths : (d : Desc) → IsFreeBelow 8 d → (name : Text) (rule : Rule) → declared (table d) name ≡ Some (Declared.And rule) → (x : Formula) → AreRight (rule_scope (table d) rule) (inside x) → ((worth (rule_scope (table d) rule) x).kind ≡ Number → ⊥)
    → (z : ℤ) → Within (worth (rule_scope (table d) rule) x).cap z → InRange tys.Bool z
truths d free name rule is x right no_number z within =
    let s = rule_scope (table d) rule in
    is_truth (worth s x) z (good_value s (names_good (table d) (is_sound d free) (all_agree d free) name rule is) x right) no_number within
