-- What a rule is worth, from what the rules below it are worth.
use Rattle.std.proofs.Common.{suc, ◌≡◌, refl, ap, Bool, true, false, List, [], ◌∷◌, map, Option, Some, None, Contains, arith}
use Rattle.std.specs.Prelude.{cond, filter}
use Rattle.std.specs.Map.{lookup}
use Rattle.nk_base.specs.Text.{text_eq}
use Rattle.nml_tree.specs.declared.tree.Par.{Par}
use Rattle.nml_tree.specs.Formula.{Formula, Numeral, Truth, Named, Indexed, Paren, Fitted, Bits, Choose, Unary, Binary}
use Rattle.nml_tree.specs.Table.{Text, Table, Declared, declared, Parameter, parameter_of}
use Rattle.nml_tree.specs.Reach.{IsBelow, CycleFault}
use Rattle.nml_tree.specs.Worth.{Worth, Scope, worth, scope, of_name, of_entry, of_parameter, of_rule, of_mode, of_value, greatest, is_rule, rule_worth, rule_worth_within, of_prefix}
use Rattle.nml_tree.proofs.ByNames.{IsByNames, enough}

-- a parameter is worth the same where each rule that it may be is
same_parameter : (s r : Scope) (v : Option Parameter) → ((b : Text) → v ≡ Some (Parameter.Part b) → s.rules b ≡ r.rules b) → of_parameter s v ≡ of_parameter r v
same_parameter s r None h = refl
same_parameter s r (Some (Parameter.Field ty)) h = refl
same_parameter s r (Some (Parameter.Part b)) h = h b refl

same_choice : (b : Bool) (s r : Scope) (v : Option Parameter) (o : Option (Option Parameter)) (d : Option Declared)
    → of_parameter s v ≡ of_parameter r v → of_entry s o d ≡ of_entry r o d → of_entry s (cond b (Some v) o) d ≡ of_entry r (cond b (Some v) o) d
same_choice true s r v o d h k = h
same_choice false s r v o d h k = k

behind : {A : Type 0} (x : A) (xs : List A) (y : A) → Contains xs y → Contains (x ∷ xs) y
behind x xs y (k, low, is) = (suc k, omega (arith, low), is)

same_entry : (t : Table) (s r : Scope) (pars : List Par) (x : Text) (d : Option Declared)
    → ((p : Par) (b : Text) → Contains pars p → parameter_of t p.ty ≡ Some (Parameter.Part b) → s.rules b ≡ r.rules b)
    → of_entry s None d ≡ of_entry r None d
    → of_entry s (lookup (text_eq x) (map (λ p. (p.name.text, parameter_of t p.ty)) pars)) d ≡ of_entry r (lookup (text_eq x) (map (λ p. (p.name.text, parameter_of t p.ty)) pars)) d
same_entry t s r [] x d h none = none
same_entry t s r (p ∷ ps) x d h none =
    same_choice (text_eq x p.name.text) s r (parameter_of t p.ty) _ d
    (same_parameter s r (parameter_of t p.ty) (λ b is. h p b (0, omega arith, refl) is))
    (same_entry t s r ps x d (λ q b c is. h q b (behind p ps q c) is) none)

-- an expression is worth the same where each name is
same_worth : (e : Formula) (t : Table) (pars : List Par) (f g : Text → Worth) → ((x : Text) → of_name (scope t f pars) x ≡ of_name (scope t g pars) x)
    → worth (scope t f pars) e ≡ worth (scope t g pars) e
same_worth (Numeral n) t pars f g h = refl
same_worth (Truth at b) t pars f g h = refl
same_worth (Named n) t pars f g h = h n.text
same_worth (Indexed n p i q) t pars f g h = h n.text
same_worth (Paren p x q) t pars f g h = ap (λ (w : Worth). let v : Worth = record w { is_place = false; is_out = false } in v) (same_worth x t pars f g h)
same_worth (Fitted k at p n c x q) t pars f g h = refl
same_worth (Bits at p x c high c2 low q) t pars f g h = refl
same_worth (Choose at c b x k y end) t pars f g h = rw (same_worth x t pars f g h, same_worth y t pars f g h) refl
same_worth (Unary op at x) t pars f g h = ap (of_prefix op) (same_worth x t pars f g h)
same_worth (Binary op x at y) t pars f g h = rw (same_worth x t pars f g h, same_worth y t pars f g h) refl

same_kept : (b : Bool) (f g : Text → Worth) (x : Text) (xs : List Text) → f x ≡ g x → map f xs ≡ map g xs → map f (cond b (x ∷ xs) xs) ≡ map g (cond b (x ∷ xs) xs)
same_kept true f g x xs h k = rw (h, k) refl
same_kept false f g x xs h k = k

same_among : (keep : Text → Bool) (f g : Text → Worth) (xs : List Text) → ((x : Text) → Contains xs x → f x ≡ g x) → map f (filter keep xs) ≡ map g (filter keep xs)
same_among keep f g [] h = refl
same_among keep f g (x ∷ xs) h =
    same_kept (keep x) f g x (filter keep xs) (h x (0, omega arith, refl)) (same_among keep f g xs (λ y c. h y (behind x xs y c)))

same_value : (e : Option Formula) (t : Table) (pars : List Par) (f g : Text → Worth) → ((x : Text) → of_name (scope t f pars) x ≡ of_name (scope t g pars) x)
    → of_value (scope t f pars) e ≡ of_value (scope t g pars) e
same_value None t pars f g h = refl
same_value (Some e) t pars f g h = ap of_mode (same_worth e t pars f g h)

-- a rule is worth the same where each rule below it is
pub same_rule : (t : Table) (name : Text) (o : Option Declared) (f g : Text → Worth) → declared t name ≡ o → ((b : Text) → IsBelow t name b → f b ≡ g b) → of_rule t f o ≡ of_rule t g o
same_rule t name None f g is h = refl
same_rule t name (Some (Declared.Constant z)) f g is h = refl
same_rule t name (Some (Declared.TypeName ty)) f g is h = refl
same_rule t name (Some (Declared.Storage n k ty)) f g is h = refl
same_rule t name (Some (Declared.Trn n ty)) f g is h = refl
same_rule t name (Some (Declared.Inp ty)) f g is h = refl
same_rule t name (Some (Declared.Out ty)) f g is h = refl
same_rule t name (Some (Declared.Or false names)) f g is h = refl
same_rule t name (Some (Declared.Or true names)) f g is h =
    ap (λ ws. of_mode (greatest ws)) (same_among (λ n. is_rule (declared t n)) f g names (λ x c. h x (IsBelow.Alternative true names is c)))
same_rule t name (Some (Declared.And rule)) f g is h =
    same_value rule.value t rule.pars f g (λ x. same_entry t (scope t f rule.pars) (scope t g rule.pars) rule.pars x (declared t x) (λ p b c part. h b (IsBelow.Part rule p is c part)) refl)

by_names : (t : Table) → IsByNames t (rule_worth_within t)
by_names t = record {
  bare = λ name is. rw is refl;
  below = λ n name h. same_rule t name (declared t name) (rule_worth_within t n) (rule_worth_within t (suc n)) refl h;
}

-- where no rule reaches itself
pub rule_worth_is : (t : Table) → ((r : Text) → CycleFault t r → ⊥) → (name : Text) → rule_worth t name ≡ of_rule t (rule_worth t) (declared t name)
rule_worth_is t free name = enough t (rule_worth_within t) (by_names t) free name
