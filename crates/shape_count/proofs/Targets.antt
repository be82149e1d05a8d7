-- What a statement of a description without faults assigns is a cell, a transitory or the output.
use Rattle.std.proofs.Common.{ℕ, zero, suc, ◌+◌, ◌≡◌, ℤ, pos, negsuc, arith, refl, sym, ◌∙◌, ap, subst, Bool, true, false, cond, List, [], ◌∷◌, map, length, Option, Some, None, Contains}
use Rattle.std.specs.Prelude.{◌&&◌, filter, if◌then◌else◌, slice_get, unsigned_abs, ◌-ℤ◌, max}
use Rattle.std.specs.Map.{lookup}
use Rattle.nk_base.specs.Text.{text_eq}
use Rattle.nk_base.specs.declared.number.Ty.{Ty}
use Rattle.nk_base.specs.declared.number.Ty.TheVariants as tys
use Rattle.nml_tree.specs.declared.operator.Bin.{Bin}
use Rattle.nml_tree.specs.declared.operator.Bin.TheVariants as bin
use Rattle.nml_tree.specs.declared.tree.Par.{Par}
use Rattle.nml_tree.specs.declared.tree.Desc.{Desc}
use Rattle.nml_tree.specs.Formula as formula
use Rattle.nml_tree.specs.Formula.{Formula, Prefix}
use Rattle.nml_tree.specs.Block as block
use Rattle.nml_tree.specs.Block.{Block}
use Rattle.nml_tree.specs.Table.{Text, Table, Rule, Declared, declared, table, Parameter, parameter_of, size_or_none, size_number}
use Rattle.nml_tree.specs.Derivation.{Derivation, Arguments, Pick, Compose, NoMore, Part, Field, IsDerivation, Fill, fields}
use Rattle.nml_tree.specs.Reach.{CycleFault}
use Rattle.nml_tree.specs.Refused.{IsFreeBelow, By_cycle}
use Rattle.nml_tree.specs.Act.{Term}
use Rattle.nml_tree.specs.Worth.{Worth, Scope, unknown, nothing, is_type, is_rule, is_other, of_ty, of_type, of_number, of_declared, of_parameter, of_entry, of_name, of_fit, of_bits, are_bits, of_prefix, of_binary, sides, worth_of, number, known_first, greater_cap, Untold, of_run, greatest, of_value, of_rule, worth, rule_worth, rule_scope}
use Rattle.nml_tree.specs.TypeFault.{block_places, assigned_places, is_named_rightly, is_indexed}
use Rattle.nml_tree.specs.Written as written
use Rattle.nml_tree.specs.Written.{Argument, FieldAt, source, named, reference, index_term, term, value_of, arguments}
use Rattle.nml_tree.proofs.OneDerivation.{or_of}
use Rattle.nml_tree.proofs.Height.{picked}
use Rattle.nml_widths.proofs.Fits.{no_left, no_right, unless_none}
use Rattle.nml_widths.proofs.ModeFits.{all_kept}
use Rattle.nml_widths.proofs.Settled.{settled}
use Rattle.nml_upward.specs.Upward.{AreMade}
use Rattle.nml_upward.proofs.Upward.{are_made}
use Rattle.attr_exec.proofs.Grounds.{blocks_right}
use Rattle.shape_count.proofs.Greatest.{got_is_among}
use Rattle.shape_count.proofs.Written.{IsTarget, AreTargets}

and_first : (a b : Bool) → (a && b) ≡ true → a ≡ true
and_first true b h = refl
and_first false b h = absurd cc

and_second : (a b : Bool) → (a && b) ≡ true → b ≡ true
and_second true b h = h
and_second false b h = absurd cc

-- what is no place
ty_no_place : (ty : Ty) → (of_ty ty).is_place ≡ false
ty_no_place tys.Bool = refl
ty_no_place (tys.Card n) = refl
ty_no_place (tys.Int n) = refl

if_no_place : (b : Bool) (x y : Worth) → x.is_place ≡ false → y.is_place ≡ false → (if b then x else y).is_place ≡ false
if_no_place true x y h k = h
if_no_place false x y h k = k

type_no_place : (ty : Ty) → (of_type ty).is_place ≡ false
type_no_place ty = if_no_place (is_type ty) (of_ty ty) unknown (ty_no_place ty) refl

number_no_place : (z : ℤ) → (of_number z).is_place ≡ false
number_no_place (pos n) = refl
number_no_place (negsuc n) = refl

bits_no_place : (high low : Option ℤ) → (of_bits high low).is_place ≡ false
bits_no_place None low = refl
bits_no_place (Some high) None = refl
bits_no_place (Some high) (Some low) = if_no_place (are_bits high low) (of_run (unsigned_abs (high -ℤ low))) (number 0 Untold) refl refl

sides_no_place : (a b : Worth) → (sides a b).is_place ≡ false
sides_no_place a b = if_no_place (is_other a.kind b.kind) unknown (worth_of (known_first a.kind b.kind) (max a.width b.width) (greater_cap a.cap b.cap)) refl refl

prefix_no_place : (op : Prefix) (a : Worth) → (of_prefix op a).is_place ≡ false
prefix_no_place Prefix.Neg a = refl
prefix_no_place Prefix.Inv a = refl
prefix_no_place Prefix.Not a = refl

binary_no_place : (op : Bin) (a b : Worth) → (of_binary op a b).is_place ≡ false
binary_no_place bin.OrElse a b = refl
binary_no_place bin.AndAlso a b = refl
binary_no_place bin.Or a b = refl
binary_no_place bin.Xor a b = refl
binary_no_place bin.And a b = refl
binary_no_place bin.Eq a b = refl
binary_no_place bin.Ne a b = refl
binary_no_place bin.Lt a b = refl
binary_no_place bin.Le a b = refl
binary_no_place bin.Gt a b = refl
binary_no_place bin.Ge a b = refl
binary_no_place bin.Shl a b = refl
binary_no_place bin.Shr a b = refl
binary_no_place bin.Add a b = refl
binary_no_place bin.Sub a b = refl
binary_no_place bin.Mul a b = refl

not_both : (b : Bool) → b ≡ false → b ≡ true → ⊥
not_both true h k = absurd cc
not_both false h k = absurd cc

-- a declared name that is a place
source_target : (o : Option Declared) → (of_declared o).is_place ≡ true → (i : Term) → IsTarget (source o i)
source_target None h i = absurd cc
source_target (Some (Declared.Constant z)) h i = absurd (not_both _ (number_no_place z) h)
source_target (Some (Declared.TypeName ty)) h i = absurd cc
source_target (Some (Declared.Storage n k ty)) h i = tt
source_target (Some (Declared.Trn n ty)) h i = tt
source_target (Some (Declared.Inp ty)) h i = absurd (not_both _ (type_no_place ty) h)
source_target (Some (Declared.Out ty)) h i = tt
source_target (Some (Declared.Or mode names)) h i = absurd cc
source_target (Some (Declared.And rule)) h i = absurd cc

greatest_place : (f : Text → Worth) (names : List Text) (b : Text) → Contains names b → (greatest (map f names)).is_place ≡ true → (f b).is_place ≡ true
greatest_place f [] b c h = let l = c.1 in absurd (omega (arith, l))
greatest_place f (x ∷ []) b (zero, low, is) h = subst (λ y. (f y).is_place ≡ true) is h
greatest_place f (x ∷ []) b (suc k, low, is) h = absurd (omega (arith, low))
greatest_place f (x ∷ y ∷ names) b (zero, low, is) h = subst (λ z. (f z).is_place ≡ true) is (and_first _ _ h)
greatest_place f (x ∷ y ∷ names) b (suc k, low, is) h = greatest_place f (y ∷ names) b (k, omega (arith, low), is) (and_second (f x).is_place _ h)

-- a parameter and what stands for it
abbrev Stands : Scope → Option (Option Parameter) → Option Argument → Type 0
Stands s None None = Unit {0}
Stands s (Some p) (Some a) = (of_parameter s p).is_place ≡ true → (o : Option Declared) (i : Term) → IsTarget (named (Some a) o i)
Stands s _ _ = ⊥

chosen : (s : Scope) (b : Bool) (p : Option Parameter) (a : Argument) (ps : Option (Option Parameter)) (xs : Option Argument) → Stands s (Some p) (Some a) → Stands s ps xs → Stands s (cond b (Some p) ps) (cond b (Some a) xs)
chosen s true p a ps xs h k = h
chosen s false p a ps xs h k = k

entry_target : (s : Scope) (p : Option (Option Parameter)) (a : Option Argument) (o : Option Declared) → Stands s p a → (of_entry s p o).is_place ≡ true → (i : Term) → IsTarget (named a o i)
entry_target s None None o h k i = source_target o k i
entry_target s (Some p) (Some a) o h k i = h k o i
entry_target s None (Some a) o h k i = absurd h
entry_target s (Some p) None o h k i = absurd h

-- of a rule with arguments
module _ (t : Table) (rule : Rule) (parts : written.Scope) (stands : (q : Text) → Stands (rule_scope t rule) (lookup (text_eq q) (map (λ p. (p.name.text, parameter_of t p.ty)) rule.pars)) (lookup (text_eq q) parts)) where
  name_target : (q : Text) → (of_name (rule_scope t rule) q).is_place ≡ true → (i : Term) → IsTarget (reference t parts q i)
  name_target q h i = entry_target (rule_scope t rule) _ _ (declared t q) (stands q) h i

  term_target : (e : Formula) → (worth (rule_scope t rule) e).is_place ≡ true → IsTarget (term t parts e)
  term_target (formula.Numeral n) h = absurd cc
  term_target (formula.Truth at b) h = absurd cc
  term_target (formula.Named n) h = name_target n.text h (Term.Number (pos 0))
  term_target (formula.Indexed n p i q) h = name_target n.text h (term t parts i)
  term_target (formula.Paren p x q) h = absurd cc
  term_target (formula.Fitted f at p n c x q) h = absurd (not_both _ (type_no_place (of_fit f (size_or_none t n))) h)
  term_target (formula.Bits at p x c high d low q) h = absurd (not_both _ (bits_no_place (size_number t high) (size_number t low)) h)
  term_target (formula.Choose at c b x f y end) h = absurd (not_both _ (sides_no_place (worth (rule_scope t rule) x) (worth (rule_scope t rule) y)) h)
  term_target (formula.Unary op at x) h = absurd (not_both _ (prefix_no_place op (worth (rule_scope t rule) x)) h)
  term_target (formula.Binary op x at y) h = absurd (not_both _ (binary_no_place op (worth (rule_scope t rule) x) (worth (rule_scope t rule) y)) h)

  value_target : (o : Option Formula) → (of_value (rule_scope t rule) o).is_place ≡ true → IsTarget (value_of t parts o)
  value_target None h = absurd cc
  value_target (Some e) h = term_target e h

  block_targets : (b : Block) → block_places (rule_scope t rule) b ≡ [] → AreTargets t parts b
  block_targets block.Done h = tt
  block_targets (block.Assign n i at e semicolon rest) h =
      let here : assigned_places (rule_scope t rule) n i e ≡ [] = no_left (assigned_places (rule_scope t rule) n i e) (block_places (rule_scope t rule) rest) h in
      let first = no_left _ _ (no_left _ _ here) in
      let good = unless_none ((of_name (rule_scope t rule) n.text).is_place && is_named_rightly (rule_scope t rule) (is_indexed i) n) n.at first in
      (name_target n.text (and_first _ _ good) (index_term t parts i), block_targets rest (no_right (assigned_places (rule_scope t rule) n i e) (block_places (rule_scope t rule) rest) h))
  block_targets (block.Part n dot at semicolon rest) h = block_targets rest (no_right _ (block_places (rule_scope t rule) rest) h)
  block_targets (block.Halt at p e q semicolon rest) h = block_targets rest (no_right _ (block_places (rule_scope t rule) rest) h)
  block_targets (block.If at c b xs end semicolon rest) h =
      (block_targets xs (no_right _ (block_places (rule_scope t rule) xs) (no_left _ (block_places (rule_scope t rule) rest) h)), block_targets rest (no_right _ (block_places (rule_scope t rule) rest) h))
  block_targets (block.IfElse at c b xs f ys end semicolon rest) h =
      let front = no_left _ (block_places (rule_scope t rule) rest) h in
      (block_targets xs (no_right _ (block_places (rule_scope t rule) xs) (no_left _ (block_places (rule_scope t rule) ys) front)), block_targets ys (no_right _ (block_places (rule_scope t rule) ys) front), block_targets rest (no_right _ (block_places (rule_scope t rule) rest) h))

module _ (t : Table) (made : AreMade t) (free : (r : Text) → CycleFault t r → ⊥) where
  picked_target : (name : Text) (mode : Bool) (names : List Text) → declared t name ≡ Some (Declared.Or mode names) → (b : Text) → Contains names b → (rule_worth t name).is_place ≡ true → (rule_worth t b).is_place ≡ true
  picked_target name false names is b c h =
      let e : rule_worth t name ≡ nothing = settled t free name ∙ ap (of_rule t (rule_worth t)) is in
      absurd (not_both _ (ap (λ (w : Worth). w.is_place) e) h)
  picked_target name true names is b c h =
      let e = settled t free name ∙ ap (of_rule t (rule_worth t)) is in
      let kept : filter (λ y. is_rule (declared t y)) names ≡ names = all_kept (λ y. is_rule (declared t y)) names (λ y k. made.alternatives name true names is y k) in
      let g : (greatest (map (rule_worth t) names)).is_place ≡ true = subst (λ (xs : List Text). (greatest (map (rule_worth t) xs)).is_place ≡ true) kept (sym (ap (λ (w : Worth). w.is_place) e) ∙ h) in
      greatest_place (rule_worth t) names b c g

  mutual
    pub derivation_target : (x : Derivation) (name : Text) (n : ℕ) → IsDerivation t name x → (rule_worth t name).is_place ≡ true → IsTarget (written.written t n x).value
    derivation_target (Pick k x) name n h place =
        let rule = or_of (declared t name) t name k h.0 refl h.1 in
        let got : slice_get rule.1 k ≡ Some h.0 = picked rule.0 rule.1 t name k h.0 rule.2 h.1 in
        derivation_target x h.0 n h.2 (picked_target name rule.0 rule.1 rule.2 h.0 (got_is_among rule.1 k h.0 got) place)
    derivation_target (Compose rule args) name n h place =
        let e : rule_worth t name ≡ of_value (rule_scope t rule) rule.value = settled t free name ∙ ap (of_rule t (rule_worth t)) h.0 in
        value_target t rule (arguments t n args) (arguments_stand args rule rule.pars n h.1) rule.value (sym (ap (λ (w : Worth). w.is_place) e) ∙ place)

    pub arguments_stand : (a : Arguments) (rule : Rule) (pars : List Par) (n : ℕ) → Fill t pars a → (q : Text) → Stands (rule_scope t rule) (lookup (text_eq q) (map (λ p. (p.name.text, parameter_of t p.ty)) pars)) (lookup (text_eq q) (arguments t n a))
    arguments_stand NoMore rule pars n h q = rw h tt
    arguments_stand (Part name x args) rule pars n h q =
        let more = arguments_stand args rule h.1 (n + length (fields x)) h.7 q in
        rw (h.3, h.4, h.5) (chosen (rule_scope t rule) (text_eq q name) (Some (Parameter.Part h.2)) (Argument.Part (written.written t n x)) _ _ (λ place o i. derivation_target x h.2 n h.6 place) more)
    arguments_stand (Field name ty z args) rule pars n h q =
        let more = arguments_stand args rule h.1 (n + 1) h.6 q in
        rw (h.2, h.3, h.4) (chosen (rule_scope t rule) (text_eq q name) (Some (Parameter.Field ty)) (Argument.FieldAt n) _ _ (λ place o i. absurd (not_both _ (type_no_place ty) place)) more)

-- what the statements of a rule assign
pub rule_targets : (d : Desc) → IsFreeBelow 8 d → (name : Text) (rule : Rule) (args : Arguments) (n : ℕ) → declared (table d) name ≡ Some (Declared.And rule) → Fill (table d) rule.pars args → AreTargets (table d) (arguments (table d) n args) rule.action
rule_targets d free name rule args n is fill =
    block_targets (table d) rule (arguments (table d) n args) (arguments_stand (table d) (are_made d free) (λ r c. free 5 (omega arith) (By_cycle r c)) args rule rule.pars n fill) rule.action (blocks_right d free name rule is)
