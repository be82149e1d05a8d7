-- In a typed description what is read isn't the output, and sizes are small.
use Rattle.std.proofs.Common.{◌≡◌, ◌≢◌, ℕ, zero, suc, ◌+◌, refl, ap, sym, ◌∙◌, subst, arith, List, [], ◌∷◌, ◌++◌, length, map, Option, Some, None, Bool, true, false, cond, Contains}
use Rattle.std.specs.Prelude.{flat_map, filter, slice_get, ◌&&◌, ◌||◌, not, pos}
use Rattle.std.specs.Map.{lookup}
use Rattle.nk_base.specs.Text.{text_eq}
use Rattle.nml_tree.specs.declared.tree.Desc.{Desc}
use Rattle.nml_tree.specs.declared.tree.Par.{Par}
use Rattle.nml_tree.specs.Formula as formula
use Rattle.nml_tree.specs.Formula.{Formula}
use Rattle.nml_tree.specs.Block as block
use Rattle.nml_tree.specs.Block.{Block, Index}
use Rattle.nml_tree.specs.Table.{Text, Table, Rule, Declared, declared, table, Parameter, parameter_of, size_number}
use Rattle.nml_tree.specs.Derivation.{Derivation, Arguments, Pick, Compose, NoMore, Part, Field, IsDerivation, Fill, fields}
use Rattle.nml_tree.specs.Inside.{inside, inside_index, inside_block, inside_value, handed_on}
use Rattle.nml_tree.specs.Worth.{Worth, nothing, of_mode, of_value, of_rule, is_rule, of_declared, greatest, of_parameter, of_entry, of_name, Scope, worth, rule_worth, rule_scope}
use Rattle.nml_tree.specs.TypeFault.{has_value, is_read_rightly, is_named_rightly, value_places, node_places}
use Rattle.nml_tree.specs.Act.{Term, Out}
use Rattle.nml_tree.specs.Written as written
use Rattle.nml_tree.specs.Written.{Argument, term, reference, named, source, arguments}
use Rattle.nml_tree.specs.Refused.{IsTyped}
use Rattle.nml_tree.proofs.OneDerivation.{or_of}
use Rattle.nml_tree.proofs.Height.{picked}
use Rattle.nml_widths.specs.Fitting.{Everywhere, Each, EachIndex, EachValue}
use Rattle.nml_widths.proofs.Fits.{AreRight, right_left, right_right, no_left, no_right, unless_none, both_left, both_right, natural_within}
use Rattle.nml_widths.proofs.ModeFits.{IsRight, rule_or_rule, all_kept, mode_valued}
use Rattle.nml_widths.proofs.Settled.{is_right}
use Rattle.nml_widths.proofs.WidthLaws.{is_sound}
use Rattle.isg_written.specs.Apt.{Apt, IsRead, IsValue, AreRead}

-- no name that is read stands for the output
abbrev NamesQuiet : Scope → written.Scope → Type 0
NamesQuiet s parts = (q : Text) (i : Term) → has_value (of_name s q).kind ≡ true → (of_name s q).is_out ≡ false → reference s.table parts q i ≢ Out

not_true : (b : Bool) → not b ≡ true → b ≡ false
not_true true h = absurd cc
not_true false h = refl

module _ (s : Scope) (parts : written.Scope) (n : NamesQuiet s parts) where
  quiet_value : (x : Formula) → AreRight s (inside x) → IsValue s.table parts x
  quiet_value (formula.Numeral m) h = λ e. cc
  quiet_value (formula.Truth at b) h = λ e. cc
  quiet_value (formula.Named m) h =
      let e : is_read_rightly s false m ≡ true = unless_none (is_read_rightly s false m) m.at (no_left _ _ h) in
      n m.text _ (both_right _ _ (both_left _ _ e)) (not_true _ (both_right _ _ e))
  quiet_value (formula.Indexed m p i q) h =
      let e : is_read_rightly s true m ≡ true = unless_none (is_read_rightly s true m) m.at (no_left _ _ (no_left _ _ h)) in
      n m.text _ (both_right _ _ (both_left _ _ e)) (not_true _ (both_right _ _ e))
  quiet_value (formula.Paren p x q) h = quiet_value x h
  quiet_value (formula.Fitted f at p m c x q) h = λ e. cc
  quiet_value (formula.Bits at p x c high d low q) h = λ e. cc
  quiet_value (formula.Choose at c t x f y end) h = λ e. cc
  quiet_value (formula.Unary op at x) h = λ e. cc
  quiet_value (formula.Binary op x at y) h = λ e. cc

  apt : (x : Formula) → AreRight s (inside x) → Everywhere (Apt s.table parts) x
  apt (formula.Numeral m) h = tt
  apt (formula.Truth at b) h = tt
  apt (formula.Named m) h = tt
  apt (formula.Indexed m p i q) h = let k = no_right (node_places s (formula.Indexed m p i q)) _ h in (quiet_value i k, apt i k)
  apt (formula.Paren p x q) h = (tt, apt x h)
  apt (formula.Fitted f at p m c x q) h =
      let k = no_right (node_places s (formula.Fitted f at p m c x q)) _ h in
      let e = natural_within (size_number s.table m) 1 64 (unless_none _ _ (no_left _ _ (no_left _ _ h))) in
      ((omega (arith, e.2), quiet_value x k), apt x k)
  apt (formula.Bits at p x c high d low q) h =
      let k = no_right (node_places s (formula.Bits at p x c high d low q)) _ h in
      let here = no_left _ _ h in
      let a = natural_within (size_number s.table high) 0 65536 (unless_none _ _ (no_right _ _ (no_left _ _ here))) in
      let b = natural_within (size_number s.table low) 0 65536 (unless_none _ _ (no_right _ _ here)) in
      ((a.2, b.2, quiet_value x k), apt x k)
  apt (formula.Choose at c t x f y end) h =
      let k = no_right (node_places s (formula.Choose at c t x f y end)) _ h in
      let u = right_left s (inside c ++ inside x) (inside y) k in
      let a = right_left s (inside c) (inside x) u in
      let b = right_right s (inside c) (inside x) u in
      let d = right_right s (inside c ++ inside x) (inside y) k in
      ((quiet_value c a, quiet_value x b, quiet_value y d), apt c a, apt x b, apt y d)
  apt (formula.Unary op at x) h = let k = no_right (node_places s (formula.Unary op at x)) _ h in (quiet_value x k, apt x k)
  apt (formula.Binary op x at y) h =
      let k = no_right (node_places s (formula.Binary op x at y)) _ h in
      let a = right_left s (inside x) (inside y) k in
      let b = right_right s (inside x) (inside y) k in
      ((quiet_value x a, quiet_value y b), apt x a, apt y b)

  read : (x : Formula) → AreRight s (inside x) → IsRead s.table parts x
  read x h = (quiet_value x h, apt x h)

  index_read : (i : Index) → AreRight s (inside_index i) → EachIndex (IsRead s.table parts) i
  index_read None h = tt
  index_read (Some (p, i, q)) h = read i h

  block_read : (b : Block) → AreRight s (inside_block b) → AreRead s.table parts b
  block_read block.Done h = tt
  block_read (block.Assign m i at e semicolon rest) h =
      let u = right_left s (inside_index i ++ inside e) (inside_block rest) h in
      (index_read i (right_left s (inside_index i) (inside e) u), read e (right_right s (inside_index i) (inside e) u), block_read rest (right_right s (inside_index i ++ inside e) (inside_block rest) h))
  block_read (block.Part m dot at semicolon rest) h = block_read rest h
  block_read (block.Halt at p e q semicolon rest) h = (read e (right_left s (inside e) (inside_block rest) h), block_read rest (right_right s (inside e) (inside_block rest) h))
  block_read (block.If at c t xs end semicolon rest) h =
      let u = right_left s (inside c ++ inside_block xs) (inside_block rest) h in
      (read c (right_left s (inside c) (inside_block xs) u), block_read xs (right_right s (inside c) (inside_block xs) u), block_read rest (right_right s (inside c ++ inside_block xs) (inside_block rest) h))
  block_read (block.IfElse at c t xs f ys end semicolon rest) h =
      let u = right_left s (inside c ++ inside_block xs ++ inside_block ys) (inside_block rest) h in
      let v = right_left s (inside c ++ inside_block xs) (inside_block ys) u in
      (read c (right_left s (inside c) (inside_block xs) v), block_read xs (right_right s (inside c) (inside_block xs) v), block_read ys (right_right s (inside c ++ inside_block xs) (inside_block ys) u), block_read rest (right_right s (inside c ++ inside_block xs ++ inside_block ys) (inside_block rest) h))

  value_read : (o : Option Formula) → AreRight s (inside_value o) → EachValue (Everywhere (Apt s.table parts)) o
  value_read None h = tt
  value_read (Some (formula.Named m)) h = tt
  value_read (Some e) h = apt e h

  rule_quiet : (o : Option Formula) → flat_map (value_places s) (handed_on o) ≡ [] → AreRight s (inside_value o) → has_value (of_value s o).kind ≡ true → (of_value s o).is_out ≡ false → written.value_of s.table parts o ≢ Out
  rule_quiet None a b k o = λ e. cc
  rule_quiet (Some (formula.Named m)) a b k o =
      let e : is_named_rightly s false m ≡ true = unless_none _ m.at (no_left _ _ a) in
      n m.text _ (both_right _ _ e) o
  rule_quiet (Some e) a b k o = quiet_value e b

-- what stands for a parameter
abbrev QuietArgument : Scope → Option (Option Parameter) → Option Argument → Type 0
QuietArgument s None None = Unit {0}
QuietArgument s None (Some a) = ⊥
QuietArgument s (Some p) None = ⊥
QuietArgument s (Some p) (Some (Argument.FieldAt k)) = Unit {0}
QuietArgument s (Some p) (Some (Argument.Part w)) = has_value (of_parameter s p).kind ≡ true → (of_parameter s p).is_out ≡ false → w.value ≢ Out

chosen_quiet : (s : Scope) (b : Bool) (p : Option Parameter) (x : Argument) (o : Option (Option Parameter)) (a : Option Argument) → QuietArgument s (Some p) (Some x) → QuietArgument s o a → QuietArgument s (cond b (Some p) o) (cond b (Some x) a)
chosen_quiet s true p x o a h k = h
chosen_quiet s false p x o a h k = k

source_quiet : (o : Option Declared) (i : Term) → (of_declared o).is_out ≡ false → source o i ≢ Out
source_quiet None i h e = cc
source_quiet (Some (Declared.Constant z)) i h e = cc
source_quiet (Some (Declared.TypeName ty)) i h e = cc
source_quiet (Some (Declared.Storage n k ty)) i h e = cc
source_quiet (Some (Declared.Trn n ty)) i h e = cc
source_quiet (Some (Declared.Inp ty)) i h e = cc
source_quiet (Some (Declared.Out ty)) i h e = cc
source_quiet (Some (Declared.Or mode names)) i h e = cc
source_quiet (Some (Declared.And rule)) i h e = cc

entry_quiet : (s : Scope) (d : Option Declared) (o : Option (Option Parameter)) (a : Option Argument) (i : Term) → QuietArgument s o a → has_value (of_entry s o d).kind ≡ true → (of_entry s o d).is_out ≡ false → named a d i ≢ Out
entry_quiet s d None None i q k h = source_quiet d i h
entry_quiet s d None (Some a) i q k h = absurd q
entry_quiet s d (Some p) None i q k h = absurd q
entry_quiet s d (Some p) (Some (Argument.FieldAt j)) i q k h = λ e. cc
entry_quiet s d (Some p) (Some (Argument.Part w)) i q k h = q k h

either_left : (a b : Bool) → (a || b) ≡ false → a ≡ false
either_left true b h = absurd cc
either_left false b h = refl

either_right : (a b : Bool) → (a || b) ≡ false → b ≡ false
either_right true b h = absurd cc
either_right false b h = h

greatest_quiet : (f : Text → Worth) (names : List Text) (x : Text) → Contains names x → (greatest (map f names)).is_out ≡ false → (f x).is_out ≡ false
greatest_quiet f [] x c h = absurd (omega (arith, c.1))
greatest_quiet f (y ∷ []) x (zero, low, is) h = subst (λ q. (f q).is_out ≡ false) is h
greatest_quiet f (y ∷ []) x (suc k, low, is) h = absurd (omega (arith, low))
greatest_quiet f (y ∷ z ∷ names) x (zero, low, is) h = subst (λ q. (f q).is_out ≡ false) is (either_left (f y).is_out _ h)
greatest_quiet f (y ∷ z ∷ names) x (suc k, low, is) h = greatest_quiet f (z ∷ names) x (k, omega (arith, low), is) (either_right (f y).is_out _ h)

among : (names : List Text) (n : ℕ) (x : Text) → slice_get names n ≡ Some x → Contains names x
among [] n x h = absurd cc
among (y ∷ ys) zero x h = let e : y ≡ x = cc in (0, omega arith, e)
among (y ∷ ys) (suc n) x h = let c = among ys n x h in (suc c.0, omega (arith, c.1), c.2)

or_quiet : (t : Table) → IsRight t → (name : Text) (mode : Bool) (names : List Text) → declared t name ≡ Some (Declared.Or mode names) → (chosen : Text) → Contains names chosen → (x : Term)
    → (has_value (rule_worth t chosen).kind ≡ true → (rule_worth t chosen).is_out ≡ false → x ≢ Out) → has_value (rule_worth t name).kind ≡ true → (rule_worth t name).is_out ≡ false → x ≢ Out
or_quiet t right name false names is chosen c x f k h =
    let e : rule_worth t name ≡ nothing = right.settled name ∙ ap (of_rule t (rule_worth t)) is in
    let wrong : false ≡ true = sym (ap (λ (w : Worth). has_value w.kind) e) ∙ k in
    absurd cc
or_quiet t right name true names is chosen c x f k h =
    let kept : filter (λ x. is_rule (declared t x)) names ≡ names = all_kept (λ x. is_rule (declared t x)) names (λ x c. rule_or_rule (declared t x) (right.alternatives name names is x c)) in
    let e : rule_worth t name ≡ of_mode (greatest (map (rule_worth t) names)) =
    right.settled name ∙ (ap (of_rule t (rule_worth t)) is ∙ ap (λ (xs : List Text). of_mode (greatest (map (rule_worth t) xs))) kept) in
    f (mode_valued t right chosen (right.alternatives name names is chosen c)) (greatest_quiet (rule_worth t) names chosen c (sym (ap (λ (w : Worth). w.is_out) e) ∙ h))

mutual
  quiet_mode : (d : Derivation) (t : Table) → IsRight t → (name : Text) (n : ℕ) → IsDerivation t name d → has_value (rule_worth t name).kind ≡ true → (rule_worth t name).is_out ≡ false → (written.written t n d).value ≢ Out
  quiet_mode (Pick k d) t right name n h kind out =
      let rule = or_of (declared t name) t name k h.0 refl h.1 in
      let got : slice_get rule.1 k ≡ Some h.0 = picked rule.0 rule.1 t name k h.0 rule.2 h.1 in
      or_quiet t right name rule.0 rule.1 rule.2 h.0 (among rule.1 k h.0 got) (written.written t n d).value (quiet_mode d t right h.0 n h.2) kind out
  quiet_mode (Compose rule args) t right name n h kind out =
      let e : rule_worth t name ≡ of_value (rule_scope t rule) rule.value = right.settled name ∙ ap (of_rule t (rule_worth t)) h.0 in
      let r = right.rules name rule h.0 in
      rule_quiet (rule_scope t rule) (arguments t n args) (λ q i k o. entry_quiet (rule_scope t rule) (declared t q) _ _ i (quiet_args args t right rule rule.pars n h.1 q) k o)
      rule.value r.handed (right_left (rule_scope t rule) (inside_value rule.value) (inside_block rule.action) r.reading) (sym (ap (λ (w : Worth). has_value w.kind) e) ∙ kind) (sym (ap (λ (w : Worth). w.is_out) e) ∙ out)

  quiet_args : (a : Arguments) (t : Table) → IsRight t → (rule : Rule) (pars : List Par) (n : ℕ) → Fill t pars a → (q : Text) → QuietArgument (rule_scope t rule) (lookup (text_eq q) (map (λ p. (p.name.text, parameter_of t p.ty)) pars)) (lookup (text_eq q) (arguments t n a))
  quiet_args NoMore t right rule pars n h q = rw h tt
  quiet_args (Part name d args) t right rule pars n h q =
      let more = quiet_args args t right rule h.1 (n + length (fields d)) h.7 q in
      rw (h.3, h.4, h.5) (chosen_quiet (rule_scope t rule) (text_eq q name) (Some (Parameter.Part h.2)) (Argument.Part (written.written t n d)) _ _ (quiet_mode d t right h.2 n h.6) more)
  quiet_args (Field name ty z args) t right rule pars n h q =
      let more = quiet_args args t right rule h.1 (n + 1) h.6 q in
      rw (h.2, h.3, h.4) (chosen_quiet (rule_scope t rule) (text_eq q name) (Some (Parameter.Field ty)) (Argument.FieldAt n) _ _ tt more)

-- the expressions of a rule are read
pub rule_read : (d : Desc) → IsTyped d → (name : Text) (rule : Rule) (args : Arguments) (n : ℕ) → IsDerivation (table d) name (Compose rule args)
    → AreRead (table d) (arguments (table d) n args) rule.action × EachValue (Everywhere (Apt (table d) (arguments (table d) n args))) rule.value
rule_read d typed name rule args n h =
    let sound = is_sound d (λ k less. typed k (omega (arith, less))) in
    let right = is_right (table d) sound in
    let r = (sound.rules name rule h.0).reading in
    let quiet : NamesQuiet (rule_scope (table d) rule) (arguments (table d) n args) = λ q i k o. entry_quiet (rule_scope (table d) rule) (declared (table d) q) _ _ i (quiet_args args (table d) right rule rule.pars n h.1 q) k o in (
      block_read (rule_scope (table d) rule) (arguments (table d) n args) quiet rule.action (right_right (rule_scope (table d) rule) (inside_value rule.value) (inside_block rule.action) r),
      value_read (rule_scope (table d) rule) (arguments (table d) n args) quiet rule.value (right_left (rule_scope (table d) rule) (inside_value rule.value) (inside_block rule.action) r),
    )
