-- Where no rule reaches itself, what a rule is worth is what follows from its parts' worth; and no mode's cap is untold.
use Rattle.std.proofs.Common.{◌≡◌, ℕ, zero, suc, ◌≤◌, ℤ, pos, negsuc, refl, ap, sym, ◌∙◌, subst, arith, List, [], ◌∷◌, ◌++◌, length, map, Option, Some, None, Bool, true, false, Contains, ◌⊎◌, inl, inr}
use Rattle.std.specs.Prelude.{IsSome, if◌then◌else◌, cond, filter, flat_map, option_map}
use Rattle.std.specs.Map.{lookup}
use Rattle.std.proofs.lemmas.Cmp.{nat_list_eq_equiv}
use Rattle.std.proofs.lemmas.Map.Steps.{length-le_from_keys}
use Rattle.nk_base.specs.Text.{text_eq}
use Rattle.nk_base.specs.declared.number.Ty.{Ty}
use Rattle.nk_base.specs.declared.number.Ty.TheVariants as tys
use Rattle.nml_tree.specs.declared.operator.Bin.{Bin}
use Rattle.nml_tree.specs.declared.operator.Bin.TheVariants as bin
use Rattle.nml_tree.specs.declared.tree.Par.{Par}
use Rattle.nml_tree.specs.declared.tree.TypeExpr.{TypeExpr}
use Rattle.nml_tree.specs.declared.tree.TypeExpr.TheVariants as type_expr
use Rattle.nml_tree.specs.Formula as formula
use Rattle.nml_tree.specs.Formula.{Formula, Prefix, Fit}
use Rattle.nml_tree.specs.Table.{Text, Table, Rule, Declared, declared, Parameter, parameter_of, parameter_named, type_of, size_number, size_or_none}
use Rattle.nml_tree.specs.Reach.{IsBelow, CycleFault}
use Rattle.nml_tree.specs.Inside.{inside, inside_value, inside_block, handed_on}
use Rattle.nml_tree.specs.Worth.{Worth, unknown, is_other, is_type, of_ty, of_number, of_type, of_mode, of_value, of_rule, is_rule, greatest, of_binary, of_prefix, of_entry, of_name, of_declared, Scope, worth, rule_worth_within, rule_worth, rule_scope}
use Rattle.nml_tree.specs.TypeFault.{has_value, is_rule_of, is_read_rightly, is_named_rightly, value_places}
use Rattle.nml_tree.proofs.Height.{IsChain, distinct, all_declared}
use Rattle.nml_widths.proofs.Fits.{Told, told_of, told_both, fitted, bits_fit, other_sym, AreRight, right_left, right_right, no_left, no_right, unless_none, when_none, both_left, both_right, natural_within}
use Rattle.nml_widths.proofs.ModeFits.{IsRight, IsRightDeclared, IsRightRule, ParRight, valued_rule, told_greatest, rule_or_rule, all_kept, map_all}

is_declared : (t : Table) (a : Text) (d : Declared) → declared t a ≡ Some d → IsSome (declared t a)
is_declared t a d h = rw h refl

-- no chain of rules from it has more than n
abbrev Short : Table → ℕ → Text → Type 0
Short t n a = (ns : List Text) → IsChain t (a ∷ ns) → suc (length ns) ≤ n

chain_within : (t : Table) → ((r : Text) → CycleFault t r → ⊥) → (a : Text) → Short t (length t) a
chain_within t free a ns c =
    let low = length-le_from_keys nat_list_eq_equiv (a ∷ ns) t (distinct ns t a free c) (λ q any. all_declared ns t a q c any) in
    omega (arith, low)

short_below : (t : Table) (n : ℕ) (a b : Text) → Short t (suc n) a → IsBelow t a b → Short t n b
short_below t n a b h below ns c = omega (arith, h (b ∷ ns) (below, c))

none_short : (t : Table) (a : Text) (o : Option Declared) → declared t a ≡ o → Short t 0 a → o ≡ None
none_short t a None is h = refl
none_short t a (Some d) is h = absurd (omega (arith, h [] (is_declared t a d is)))

abbrev Pars : Type 0
Pars = List (Text × Option Parameter)

abbrev with_rules : Table → Pars → (Text → Worth) → Scope
with_rules t pars f = record { table = t; pars = pars; rules = f }

abbrev Agree : Pars → (Text → Worth) → (Text → Worth) → Type 0
Agree pars f g = (q rule : Text) → lookup (text_eq q) pars ≡ Some (Some (Parameter.Part rule)) → f rule ≡ g rule

entry_same : (t : Table) (pars : Pars) (f g : Text → Worth) → Agree pars f g → (q : Text) (o : Option (Option Parameter)) → lookup (text_eq q) pars ≡ o → (d : Option Declared) → of_entry (with_rules t pars f) o d ≡ of_entry (with_rules t pars g) o d
entry_same t pars f g h q None is d = refl
entry_same t pars f g h q (Some None) is d = refl
entry_same t pars f g h q (Some (Some (Parameter.Field ty))) is d = refl
entry_same t pars f g h q (Some (Some (Parameter.Part rule))) is d = h q rule is

same_worth : (t : Table) (pars : Pars) (f g : Text → Worth) → Agree pars f g → (x : Formula) → worth (with_rules t pars f) x ≡ worth (with_rules t pars g) x
same_worth t pars f g h (formula.Numeral n) = refl
same_worth t pars f g h (formula.Truth at b) = refl
same_worth t pars f g h (formula.Named n) = entry_same t pars f g h n.text (lookup (text_eq n.text) pars) refl (declared t n.text)
same_worth t pars f g h (formula.Indexed n p i q) = entry_same t pars f g h n.text (lookup (text_eq n.text) pars) refl (declared t n.text)
same_worth t pars f g h (formula.Paren p x q) = ap (λ (w : Worth). let r : Worth = record w { is_place = false; is_out = false } in r) (same_worth t pars f g h x)
same_worth t pars f g h (formula.Fitted k at p n c x q) = refl
same_worth t pars f g h (formula.Bits at p x c high d low q) = refl
same_worth t pars f g h (formula.Choose at c b x e y end) = rw (same_worth t pars f g h x, same_worth t pars f g h y) refl
same_worth t pars f g h (formula.Unary op at x) = ap (of_prefix op) (same_worth t pars f g h x)
same_worth t pars f g h (formula.Binary op x at y) = rw (same_worth t pars f g h x, same_worth t pars f g h y) refl

looked_here : (b : Bool) (x : Option Parameter) (o : Option (Option Parameter)) (y : Option Parameter) → cond b (Some x) o ≡ Some y → (x ≡ y) ⊎ (o ≡ Some y)
looked_here true x o y h = inl cc
looked_here false x o y h = inr h

-- a parameter that is found is one of the rule's
pub looked : (t : Table) (pars : List Par) (q : Text) (y : Option Parameter) → lookup (text_eq q) (map (λ p. (p.name.text, parameter_of t p.ty)) pars) ≡ Some y → (p : Par) × Contains pars p × (parameter_of t p.ty ≡ y)
looked t [] q y h = absurd cc
looked t (p ∷ pars) q y h =
    elim (looked_here (text_eq q p.name.text) (parameter_of t p.ty) (lookup (text_eq q) (map (λ p. (p.name.text, parameter_of t p.ty)) pars)) y h) [
      | inl is ↦ (p, (0, omega arith, refl), is)
      | inr more ↦ (let c = looked t pars q y more in (c.0, (suc c.1.0, omega (arith, c.1.1), c.1.2), c.2))
    ]

kept_same : (f g : Text → Worth) (b : Bool) (x : Text) (rest : List Text) → f x ≡ g x → map f rest ≡ map g rest → map f (if b then x ∷ rest else rest) ≡ map g (if b then x ∷ rest else rest)
kept_same f g true x rest h k = rw (h, k) refl
kept_same f g false x rest h k = k

filter_same : (f g : Text → Worth) (test : Text → Bool) (xs : List Text) → ((x : Text) → Contains xs x → f x ≡ g x) → map f (filter test xs) ≡ map g (filter test xs)
filter_same f g test [] h = refl
filter_same f g test (x ∷ xs) h = kept_same f g (test x) x (filter test xs) (h x (0, omega arith, refl)) (filter_same f g test xs (λ y c. h y (suc c.0, omega (arith, c.1), c.2)))

value_same : (t : Table) (pars : Pars) (f g : Text → Worth) → Agree pars f g → (o : Option Formula) → of_value (with_rules t pars f) o ≡ of_value (with_rules t pars g) o
value_same t pars f g h None = refl
value_same t pars f g h (Some e) = ap of_mode (same_worth t pars f g h e)

rule_same : (t : Table) (f g : Text → Worth) (a : Text) → ((b : Text) → IsBelow t a b → f b ≡ g b) → (o : Option Declared) → declared t a ≡ o → of_rule t f o ≡ of_rule t g o
rule_same t f g a h None is = refl
rule_same t f g a h (Some (Declared.Constant z)) is = refl
rule_same t f g a h (Some (Declared.TypeName ty)) is = refl
rule_same t f g a h (Some (Declared.Storage n k ty)) is = refl
rule_same t f g a h (Some (Declared.Trn n ty)) is = refl
rule_same t f g a h (Some (Declared.Inp ty)) is = refl
rule_same t f g a h (Some (Declared.Out ty)) is = refl
rule_same t f g a h (Some (Declared.Or false names)) is = refl
rule_same t f g a h (Some (Declared.Or true names)) is =
    ap (λ (ws : List Worth). of_mode (greatest ws)) (filter_same f g (λ name. is_rule (declared t name)) names (λ x c. h x (IsBelow.Alternative true names is c)))
rule_same t f g a h (Some (Declared.And rule)) is =
    value_same t (map (λ p. (p.name.text, parameter_of t p.ty)) rule.pars) f g (λ q r e. let c = looked t rule.pars q (Some (Parameter.Part r)) e in h r (IsBelow.Part rule c.0 is c.1 c.2)) rule.value

none_worth : (t : Table) (m : ℕ) (a : Text) → declared t a ≡ None → unknown ≡ rule_worth_within t m a
none_worth t zero a h = refl
none_worth t (suc m) a h = rw h refl

stable : (n m : ℕ) (t : Table) (a : Text) → Short t n a → n ≤ m → rule_worth_within t n a ≡ rule_worth_within t m a
stable zero m t a h low = none_worth t m a (none_short t a (declared t a) refl h)
stable (suc n) zero t a h low = absurd (omega (arith, low))
stable (suc n) (suc m) t a h low =
    rule_same t (rule_worth_within t n) (rule_worth_within t m) a (λ b below. stable n m t b (short_below t n a b h below) (omega (arith, low))) (declared t a) refl

pub settled : (t : Table) → ((r : Text) → CycleFault t r → ⊥) → (a : Text) → rule_worth t a ≡ of_rule t (rule_worth t) (declared t a)
settled t free a = stable (length t) (suc (length t)) t a (chain_within t free a) (omega arith)

told_joined : (op : Bin) (a b : Worth) → Told (of_binary op a b).cap
told_joined bin.OrElse a b = tt
told_joined bin.AndAlso a b = tt
told_joined bin.Or a b = tt
told_joined bin.Xor a b = tt
told_joined bin.And a b = tt
told_joined bin.Eq a b = tt
told_joined bin.Ne a b = tt
told_joined bin.Lt a b = tt
told_joined bin.Le a b = tt
told_joined bin.Gt a b = tt
told_joined bin.Ge a b = tt
told_joined bin.Shl a b = tt
told_joined bin.Shr a b = tt
told_joined bin.Add a b = tt
told_joined bin.Sub a b = tt
told_joined bin.Mul a b = tt

told_prefixed : (op : Prefix) (a : Worth) → Told (of_prefix op a).cap
told_prefixed Prefix.Neg a = tt
told_prefixed Prefix.Inv a = tt
told_prefixed Prefix.Not a = tt

abbrev NamesTold : Scope → Type 0
NamesTold s = (q : Text) → has_value (of_name s q).kind ≡ true → Told (of_name s q).cap

pub told_value : (s : Scope) → NamesTold s → (x : Formula) → AreRight s (inside x) → Told (worth s x).cap
told_value s n (formula.Numeral m) h = tt
told_value s n (formula.Truth at b) h = tt
told_value s n (formula.Named m) h =
    let e : is_read_rightly s false m ≡ true = unless_none (is_read_rightly s false m) m.at (no_left _ _ h) in
    n m.text (both_right _ _ (both_left _ _ e))
told_value s n (formula.Indexed m p i q) h =
    let e : is_read_rightly s true m ≡ true = unless_none (is_read_rightly s true m) m.at (no_left _ _ (no_left _ _ h)) in
    n m.text (both_right _ _ (both_left _ _ e))
told_value s n (formula.Paren p x q) h = told_value s n x h
told_value s n (formula.Fitted f at p m c x q) h =
    let e = natural_within (size_number s.table m) 1 64 (unless_none _ _ (no_left _ _ (no_left _ _ h))) in
    told_of _ _ (fitted f (size_or_none s.table m) (pos 0) e.1 e.2).within
told_value s n (formula.Bits at p x c high d low q) h =
    let here = no_left _ _ h in
    let bounds = no_left _ _ (no_left _ _ here) in
    told_of _ _ (bits_fit (pos 0) (size_number s.table high) (size_number s.table low) (unless_none _ _ (no_right _ _ (no_left _ _ here))) (unless_none _ _ (no_right _ _ here)) (unless_none _ _ (no_left _ _ bounds))).within
told_value s n (formula.Choose at c t x f y end) h =
    let here = no_left _ _ h in
    let behind = no_right _ _ h in
    let e : is_other (worth s y).kind (worth s x).kind ≡ false = when_none _ _ (no_right _ _ here) in
    rw (other_sym (worth s x).kind (worth s y).kind, e) (told_both (worth s x).cap (worth s y).cap
    (told_value s n x (right_right s (inside c) (inside x) (right_left s (inside c ++ inside x) (inside y) behind))) (told_value s n y (right_right s (inside c ++ inside x) (inside y) behind)))
told_value s n (formula.Unary op at x) h = told_prefixed op (worth s x)
told_value s n (formula.Binary op x at y) h = told_joined op (worth s x) (worth s y)

-- what N4 to N6 leave of a table
pub record IsSound (t : Table) : Type 0 where
  pub names : (name : Text) → (d : Declared) → declared t name ≡ Some d → IsRightDeclared d
  pub alternatives : (name : Text) → (alternatives : List Text) → declared t name ≡ Some (Declared.Or true alternatives) → (chosen : Text) → Contains alternatives chosen → is_rule_of true (declared t chosen) ≡ true
  pub rules : (name : Text) → (rule : Rule) → declared t name ≡ Some (Declared.And rule) → IsRightRule t rule
  pub free : (rule : Text) → CycleFault t rule → ⊥

no_part : (o : Option Ty) (r : Text) → option_map Parameter.Field o ≡ Some (Parameter.Part r) → ⊥
no_part None r h = cc
no_part (Some ty) r h = cc

part_named : (t : Table) (name r : Text) (o : Option Declared) → declared t name ≡ o → parameter_named name o ≡ Some (Parameter.Part r) → is_rule (declared t r) ≡ true
part_named t name r None is h = absurd cc
part_named t name r (Some (Declared.Constant z)) is h = absurd cc
part_named t name r (Some (Declared.TypeName ty)) is h = absurd cc
part_named t name r (Some (Declared.Storage n k ty)) is h = absurd cc
part_named t name r (Some (Declared.Trn n ty)) is h = absurd cc
part_named t name r (Some (Declared.Inp ty)) is h = absurd cc
part_named t name r (Some (Declared.Out ty)) is h = absurd cc
part_named t name r (Some (Declared.Or mode names)) is h = let e : name ≡ r = cc in let g : is_rule (declared t name) ≡ true = rw is refl in subst (λ x. is_rule (declared t x) ≡ true) e g
part_named t name r (Some (Declared.And rule)) is h = let e : name ≡ r = cc in let g : is_rule (declared t name) ≡ true = rw is refl in subst (λ x. is_rule (declared t x) ≡ true) e g

pub part_rule : (t : Table) (e : TypeExpr) (r : Text) → parameter_of t e ≡ Some (Parameter.Part r) → is_rule (declared t r) ≡ true
part_rule t (type_expr.Bool at) r h = absurd (no_part (type_of t (type_expr.Bool at)) r h)
part_rule t (type_expr.Card at p n q) r h = absurd (no_part (type_of t (type_expr.Card at p n q)) r h)
part_rule t (type_expr.Int at p n q) r h = absurd (no_part (type_of t (type_expr.Int at p n q)) r h)
part_rule t (type_expr.Fix at p n c m q) r h = absurd (no_part (type_of t (type_expr.Fix at p n c m q)) r h)
part_rule t (type_expr.Float at p n c m q) r h = absurd (no_part (type_of t (type_expr.Float at p n c m q)) r h)
part_rule t (type_expr.Name n) r h = part_named t n.text r (declared t n.text) refl h

ty_told : (ty : Ty) → Told (of_ty ty).cap
ty_told tys.Bool = tt
ty_told (tys.Card n) = tt
ty_told (tys.Int n) = tt

type_told : (ty : Ty) → is_type ty ≡ true → Told (of_type ty).cap
type_told ty is = rw is (ty_told ty)

number_told : (z : ℤ) → Told (of_number z).cap
number_told (pos n) = tt
number_told (negsuc n) = tt

declared_told : (o : Option Declared) → ((d : Declared) → o ≡ Some d → IsRightDeclared d) → has_value (of_declared o).kind ≡ true → Told (of_declared o).cap
declared_told None h k = absurd cc
declared_told (Some (Declared.Constant z)) h k = number_told z
declared_told (Some (Declared.TypeName ty)) h k = absurd cc
declared_told (Some (Declared.Storage n m ty)) h k = type_told ty (h _ refl)
declared_told (Some (Declared.Trn n ty)) h k = type_told ty (h _ refl)
declared_told (Some (Declared.Inp ty)) h k = type_told ty (h _ refl)
declared_told (Some (Declared.Out ty)) h k = type_told ty (h _ refl)
declared_told (Some (Declared.Or mode names)) h k = absurd cc
declared_told (Some (Declared.And rule)) h k = absurd cc

-- what is told of a's parts and alternatives
abbrev BelowTold : Table → Text → Type 0
BelowTold t a = (b : Text) → IsBelow t a b → is_rule (declared t b) ≡ true → has_value (rule_worth t b).kind ≡ true → Told (rule_worth t b).cap

entry_told : (t : Table) → IsSound t → (a : Text) (rule : Rule) → declared t a ≡ Some (Declared.And rule) → BelowTold t a → (q : Text) (o : Option (Option Parameter))
    → lookup (text_eq q) (map (λ p. (p.name.text, parameter_of t p.ty)) rule.pars) ≡ o → has_value (of_entry (rule_scope t rule) o (declared t q)).kind ≡ true → Told (of_entry (rule_scope t rule) o (declared t q)).cap
entry_told t sound a rule is below q None got k = declared_told (declared t q) (sound.names q) k
entry_told t sound a rule is below q (Some None) got k =
    let c = looked t rule.pars q None got in
    absurd (subst ParRight c.2 ((sound.rules a rule is).fields c.0 c.1))
entry_told t sound a rule is below q (Some (Some (Parameter.Field ty))) got k =
    let c = looked t rule.pars q (Some (Parameter.Field ty)) got in
    type_told ty (subst ParRight c.2 ((sound.rules a rule is).fields c.0 c.1))
entry_told t sound a rule is below q (Some (Some (Parameter.Part r))) got k =
    let c = looked t rule.pars q (Some (Parameter.Part r)) got in
    below r (IsBelow.Part rule c.0 is c.1 c.2) (part_rule t c.0.ty r c.2) k

told_rule_value : (s : Scope) → NamesTold s → (o : Option Formula) → flat_map (value_places s) (handed_on o) ≡ [] → AreRight s (inside_value o) → has_value (of_value s o).kind ≡ true → Told (of_value s o).cap
told_rule_value s n None a b k = absurd cc
told_rule_value s n (Some (formula.Named m)) a b k =
    let e : is_named_rightly s false m ≡ true = unless_none _ m.at (no_left _ _ a) in n m.text (both_right _ _ e)
told_rule_value s n (Some e) a b k = told_value s n e b

told_of_rule : (t : Table) → IsSound t → (a : Text) → BelowTold t a → (o : Option Declared) → declared t a ≡ o → is_rule o ≡ true → has_value (of_rule t (rule_worth t) o).kind ≡ true → Told (of_rule t (rule_worth t) o).cap
told_of_rule t sound a below None is r k = absurd cc
told_of_rule t sound a below (Some (Declared.Constant z)) is r k = absurd cc
told_of_rule t sound a below (Some (Declared.TypeName ty)) is r k = absurd cc
told_of_rule t sound a below (Some (Declared.Storage n m ty)) is r k = absurd cc
told_of_rule t sound a below (Some (Declared.Trn n ty)) is r k = absurd cc
told_of_rule t sound a below (Some (Declared.Inp ty)) is r k = absurd cc
told_of_rule t sound a below (Some (Declared.Out ty)) is r k = absurd cc
told_of_rule t sound a below (Some (Declared.Or false names)) is r k = absurd cc
told_of_rule t sound a below (Some (Declared.Or true [])) is r k = absurd (omega (arith, sound.names a _ is))
told_of_rule t sound a below (Some (Declared.Or true (x ∷ xs))) is r k =
    let names : List Text = x ∷ xs in
    let kept : filter (λ y. is_rule (declared t y)) (x ∷ xs) ≡ x ∷ xs = all_kept (λ y. is_rule (declared t y)) (x ∷ xs) (λ y c. rule_or_rule (declared t y) (sound.alternatives a (x ∷ xs) is y c)) in
    let told = told_greatest (map (rule_worth t) (x ∷ xs)) (map_all (rule_worth t) (x ∷ xs) (λ y c. below y (IsBelow.Alternative true (x ∷ xs) is c)
    (rule_or_rule (declared t y) (sound.alternatives a (x ∷ xs) is y c))
    (ap (λ (w : Worth). has_value w.kind) (settled t sound.free y) ∙ valued_rule t (rule_worth t) (declared t y) (sound.alternatives a (x ∷ xs) is y c)))) (rule_worth t x) (0, omega arith, refl) in
    subst (λ (ys : List Text). Told (greatest (map (rule_worth t) ys)).cap) (sym kept) told
told_of_rule t sound a below (Some (Declared.And rule)) is r k =
    let right = sound.rules a rule is in
    told_rule_value (rule_scope t rule) (λ q h. entry_told t sound a rule is below q _ refl h) rule.value right.handed (right_left (rule_scope t rule) (inside_value rule.value) (inside_block rule.action) right.reading) k

told_within : (n : ℕ) (t : Table) → IsSound t → (a : Text) → Short t n a → is_rule (declared t a) ≡ true → has_value (rule_worth t a).kind ≡ true → Told (rule_worth t a).cap
told_within zero t sound a h r k =
    let e = none_short t a (declared t a) refl h in
    let w : is_rule (declared t a) ≡ false = rw e refl in
    absurd cc
told_within (suc n) t sound a h r k =
    let e = settled t sound.free a in
    let told = told_of_rule t sound a (λ b below p v. told_within n t sound b (short_below t n a b h below) p v) (declared t a) refl r (sym (ap (λ (w : Worth). has_value w.kind) e) ∙ k) in
    subst (λ (w : Worth). Told w.cap) (sym e) told

pub is_right : (t : Table) → IsSound t → IsRight t
is_right t sound = record {
  names = sound.names;
  alternatives = sound.alternatives;
  rules = sound.rules;
  settled = settled t sound.free;
  told = λ name h. told_within (length t) t sound name (chain_within t sound.free name) (rule_or_rule (declared t name) h) (ap (λ (w : Worth). has_value w.kind) (settled t sound.free name) ∙ valued_rule t (rule_worth t) (declared t name) h);
}
