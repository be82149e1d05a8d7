-- In a description in which all is right 128 bits hold what each expression of an instruction is worth.
use Rattle.std.proofs.Common.{ℕ, ◌+◌, List, ◌≡◌, ℤ, pos, length, sym, subst, Some, None, Option, Bool, true, false, cond}
use Rattle.std.specs.Map.{lookup}
use Rattle.std.specs.Prelude.{codes}
use Rattle.nk_base.specs.Text.{text_eq}
use Rattle.nk_base.specs.declared.number.Ty.TheVariants as tys
use Rattle.nml_tree.specs.declared.tree.Par.{Par}
use Rattle.nml_tree.specs.Formula as formula
use Rattle.nml_tree.specs.Formula.{Formula, Prefix, Fit}
use Rattle.nml_tree.specs.Block as block
use Rattle.nml_tree.specs.Block.{Block, Index}
use Rattle.nml_tree.specs.Act as act
use Rattle.nml_tree.specs.Act.{Term, Act, Cell, Trn, Inp, Out, Unary, Binary, Choose, followed, assigned}
use Rattle.nml_tree.specs.Table.{Text, Table, Rule, Declared, declared, size_number, size_or_none}
use Rattle.nml_tree.specs.Derivation.{Derivation, Arguments, Pick, Compose, NoMore, Part, Field, IsDerivation, Fill, fields, fields_of}
use Rattle.nml_tree.specs.Walk.{IsWalkOf}
use Rattle.nml_tree.specs.Value.{View}
use Rattle.nml_tree.specs.Worth.{rule_scope, of_ty, is_type}
use Rattle.nml_tree.specs.Written as written
use Rattle.nml_tree.specs.Written.{Argument, source, named, reference, index_term, term, action_of, arguments, action}
use Rattle.nml_widths.specs.Fitting.{AreOfTypes, Each, EachIndex, EachValue, Everywhere, Sound, StandAt}
use Rattle.nml_widths.proofs.WidthLaws.{stand_whole}
use Rattle.attr_eval.proofs.Values.{told, width_is, bits_may}
use Rattle.attr_exec.specs.Ready.{IsLawful}
use Rattle.attr_exec.proofs.Standing.{stand_left, stand_right, stand_behind}
use Rattle.isg_nodes.specs.Narrow.{IsNarrow}
use Rattle.isg_run.specs.Narrow.{IsAlwaysNarrow, AreNarrow}

module _ (t : Table) (zs : List ℤ) where
  -- an argument, or what stands for a name that has none
  abbrev pub ArgumentNarrow : Option Argument → Type 0
  ArgumentNarrow None = Unit {0}
  ArgumentNarrow (Some (Argument.FieldAt n)) = Unit {0}
  ArgumentNarrow (Some (Argument.Part w)) = IsAlwaysNarrow t zs w.value × AreNarrow t zs w.action

  source_narrow : (o : Option Declared) (i : Term) (v : View) → IsNarrow v i → IsNarrow v (source o i)
  source_narrow None i v h = tt
  source_narrow (Some (Declared.Constant z)) i v h = tt
  source_narrow (Some (Declared.TypeName ty)) i v h = tt
  source_narrow (Some (Declared.Storage n k ty)) i v h = h
  source_narrow (Some (Declared.Trn n ty)) i v h = tt
  source_narrow (Some (Declared.Inp ty)) i v h = tt
  source_narrow (Some (Declared.Out ty)) i v h = tt
  source_narrow (Some (Declared.Or mode names)) i v h = tt
  source_narrow (Some (Declared.And rule)) i v h = tt

  named_narrow : (a : Option Argument) (o : Option Declared) (i : Term) → ArgumentNarrow a → (v : View) → v.fields ≡ zs → AreOfTypes t v → IsNarrow v i → IsNarrow v (named a o i)
  named_narrow None o i h v f typed n = source_narrow o i v n
  named_narrow (Some (Argument.FieldAt k)) o i h v f typed n = tt
  named_narrow (Some (Argument.Part w)) o i h v f typed n = h.0 v f typed

  -- the arguments of a rule
  abbrev ScopeNarrow : written.Scope → Type 0
  ScopeNarrow parts = (q : Text) → ArgumentNarrow (lookup (text_eq q) parts)

  term_narrow : (rule : Rule) (parts : written.Scope) → ScopeNarrow parts → (v : View) → v.fields ≡ zs → AreOfTypes t v → (x : Formula) → Everywhere (Sound (rule_scope t rule) parts v) x → IsNarrow v (term t parts x)
  term_narrow rule parts all v f typed (formula.Numeral n) e = tt
  term_narrow rule parts all v f typed (formula.Truth at b) e = tt
  term_narrow rule parts all v f typed (formula.Named n) e = named_narrow (lookup (text_eq n.text) parts) (declared t n.text) (Term.Number (pos 0)) (all n.text) v f typed tt
  term_narrow rule parts all v f typed (formula.Indexed n p i q) e = named_narrow (lookup (text_eq n.text) parts) (declared t n.text) (term t parts i) (all n.text) v f typed (term_narrow rule parts all v f typed i e.1)
  term_narrow rule parts all v f typed (formula.Paren p x q) e = term_narrow rule parts all v f typed x e.1
  term_narrow rule parts all v f typed (formula.Fitted Fit.Int at p n c x q) e =
      (term_narrow rule parts all v f typed x e.1, width_is (size_or_none t n) (told (is_type (tys.Int (size_or_none t n))) (of_ty (tys.Int (size_or_none t n))) _ e.0.fits.within))
  term_narrow rule parts all v f typed (formula.Fitted Fit.Card at p n c x q) e =
      (term_narrow rule parts all v f typed x e.1, width_is (size_or_none t n) (told (is_type (tys.Card (size_or_none t n))) (of_ty (tys.Card (size_or_none t n))) _ e.0.fits.within))
  term_narrow rule parts all v f typed (formula.Fitted Fit.Sat at p n c x q) e =
      (term_narrow rule parts all v f typed x e.1, width_is (size_or_none t n) (told (is_type (tys.Int (size_or_none t n))) (of_ty (tys.Int (size_or_none t n))) _ e.0.fits.within))
  term_narrow rule parts all v f typed (formula.Bits at p x c high d low q) e = (term_narrow rule parts all v f typed x e.1, bits_may (size_number t high) (size_number t low) _ e.0.fits.within)
  term_narrow rule parts all v f typed (formula.Choose at c b x g y end) e = (term_narrow rule parts all v f typed c e.1, (term_narrow rule parts all v f typed x e.2, term_narrow rule parts all v f typed y e.3))
  term_narrow rule parts all v f typed (formula.Unary Prefix.Neg at x) e = (term_narrow rule parts all v f typed x e.1, e.0.narrow)
  term_narrow rule parts all v f typed (formula.Unary Prefix.Inv at x) e = (term_narrow rule parts all v f typed x e.1, tt)
  term_narrow rule parts all v f typed (formula.Unary Prefix.Not at x) e = (term_narrow rule parts all v f typed x e.1, tt)
  term_narrow rule parts all v f typed (formula.Binary op x at y) e = (term_narrow rule parts all v f typed x e.1, (term_narrow rule parts all v f typed y e.2, e.0.narrow))

  index_narrow : (rule : Rule) (parts : written.Scope) → ScopeNarrow parts → (v : View) → v.fields ≡ zs → AreOfTypes t v → (i : Index) → EachIndex (Everywhere (Sound (rule_scope t rule) parts v)) i → IsNarrow v (index_term t parts i)
  index_narrow rule parts all v f typed None e = tt
  index_narrow rule parts all v f typed (Some (p, i, q)) e = term_narrow rule parts all v f typed i e

  followed_narrow : (a b : Act) → AreNarrow t zs a → AreNarrow t zs b → AreNarrow t zs (followed a b)
  followed_narrow act.Done b h k = k
  followed_narrow (act.SetCell n i e a) b h k = (h.0, (h.1.0, followed_narrow a b h.1.1 k))
  followed_narrow (act.SetTrn n e a) b h k = (h.0, followed_narrow a b h.1 k)
  followed_narrow (act.Put e a) b h k = (h.0, followed_narrow a b h.1 k)
  followed_narrow (act.Halt e a) b h k = (h.0, followed_narrow a b h.1 k)
  followed_narrow (act.When c x y a) b h k = (h.0, (h.1.0, (h.1.1.0, followed_narrow a b h.1.1.1 k)))

  assigned_narrow : (p e : Term) (rest : Act) → IsAlwaysNarrow t zs p → IsAlwaysNarrow t zs e → AreNarrow t zs rest → AreNarrow t zs (assigned p e rest)
  assigned_narrow (Term.Number z) e rest h k r = r
  assigned_narrow (Term.Field n) e rest h k r = r
  assigned_narrow (Cell n i) e rest h k r = (h, (k, r))
  assigned_narrow (Trn n) e rest h k r = (k, r)
  assigned_narrow Inp e rest h k r = r
  assigned_narrow Out e rest h k r = (k, r)
  assigned_narrow (Unary op x) e rest h k r = r
  assigned_narrow (Binary op x y) e rest h k r = r
  assigned_narrow (Choose c x y) e rest h k r = r

  part_narrow : (a : Option Argument) → ArgumentNarrow a → AreNarrow t zs (action_of a)
  part_narrow None h = tt
  part_narrow (Some (Argument.FieldAt n)) h = tt
  part_narrow (Some (Argument.Part w)) h = h.1

  -- in each view the expressions are right
  abbrev BlockRight : Rule → written.Scope → Block → Type 0
  BlockRight rule parts b = (v : View) → v.fields ≡ zs → AreOfTypes t v → Each (Everywhere (Sound (rule_scope t rule) parts v)) b

  block_narrow : (rule : Rule) (parts : written.Scope) → ScopeNarrow parts → (b : Block) → BlockRight rule parts b → AreNarrow t zs (written.act t parts b)
  block_narrow rule parts all block.Done h = tt
  block_narrow rule parts all (block.Assign n i at e semicolon rest) h =
      assigned_narrow (reference t parts n.text (index_term t parts i)) (term t parts e) (written.act t parts rest)
      (λ v f typed. named_narrow (lookup (text_eq n.text) parts) (declared t n.text) (index_term t parts i) (all n.text) v f typed (index_narrow rule parts all v f typed i (h v f typed).0))
      (λ v f typed. term_narrow rule parts all v f typed e (h v f typed).1)
      (block_narrow rule parts all rest (λ v f typed. (h v f typed).2))
  block_narrow rule parts all (block.Part n dot at semicolon rest) h = followed_narrow (action_of (lookup (text_eq n.text) parts)) (written.act t parts rest) (part_narrow (lookup (text_eq n.text) parts) (all n.text)) (block_narrow rule parts all rest h)
  block_narrow rule parts all (block.Halt at p e q semicolon rest) h = (λ v f typed. term_narrow rule parts all v f typed e (h v f typed).0, block_narrow rule parts all rest (λ v f typed. (h v f typed).1))
  block_narrow rule parts all (block.If at c b xs end semicolon rest) h = (
    λ v f typed. term_narrow rule parts all v f typed c (h v f typed).0,
    (block_narrow rule parts all xs (λ v f typed. (h v f typed).1), (tt, block_narrow rule parts all rest (λ v f typed. (h v f typed).2))),
  )
  block_narrow rule parts all (block.IfElse at c b xs g ys end semicolon rest) h = (
    λ v f typed. term_narrow rule parts all v f typed c (h v f typed).0,
    (block_narrow rule parts all xs (λ v f typed. (h v f typed).1), (block_narrow rule parts all ys (λ v f typed. (h v f typed).2), block_narrow rule parts all rest (λ v f typed. (h v f typed).3))),
  )

  value_narrow : (rule : Rule) (parts : written.Scope) → ScopeNarrow parts → (v : View) → v.fields ≡ zs → AreOfTypes t v → (o : Option Formula) → EachValue (Everywhere (Sound (rule_scope t rule) parts v)) o → IsNarrow v (written.value_of t parts o)
  value_narrow rule parts all v f typed None e = tt
  value_narrow rule parts all v f typed (Some x) e = term_narrow rule parts all v f typed x e

  chosen : (b : Bool) (a : Argument) (o : Option Argument) → ArgumentNarrow (Some a) → ArgumentNarrow o → ArgumentNarrow (cond b (Some a) o)
  chosen true a o h k = h
  chosen false a o h k = k

  mutual
    derivation_narrow : IsLawful t → (x : Derivation) (name : Text) (n : ℕ) → IsDerivation t name x → StandAt zs n (fields x) → ArgumentNarrow (Some (Argument.Part (written.written t n x)))
    derivation_narrow lawful (Pick k x) name n h stand = derivation_narrow lawful x h.0 n h.2 stand
    derivation_narrow lawful (Compose rule args) name n h stand =
        let all = arguments_narrow lawful args rule.pars n h.1 stand in
        let right : (v : View) → v.fields ≡ zs → AreOfTypes t v → Each (Everywhere (Sound (rule_scope t rule) (arguments t n args) v)) rule.action × EachValue (Everywhere (Sound (rule_scope t rule) (arguments t n args) v)) rule.value =
        λ v f typed. lawful.sound v typed name rule args n h (subst (λ ys. StandAt ys n (fields_of args)) (sym f) stand) in
        (λ v f typed. value_narrow rule (arguments t n args) all v f typed rule.value (right v f typed).1, block_narrow rule (arguments t n args) all rule.action (λ v f typed. (right v f typed).0))

    arguments_narrow : IsLawful t → (a : Arguments) (pars : List Par) (n : ℕ) → Fill t pars a → StandAt zs n (fields_of a) → ScopeNarrow (arguments t n a)
    arguments_narrow lawful NoMore pars n h stand q = tt
    arguments_narrow lawful (Part name x args) pars n h stand q =
        chosen (text_eq q name) (Argument.Part (written.written t n x)) (lookup (text_eq q) (arguments t (n + length (fields x)) args))
        (derivation_narrow lawful x h.2 n h.6 (stand_left zs n (fields x) (fields_of args) stand))
        (arguments_narrow lawful args h.1 (n + length (fields x)) h.7 (stand_right zs n (fields x) (fields_of args) stand) q)
    arguments_narrow lawful (Field name ty z args) pars n h stand q =
        chosen (text_eq q name) (Argument.FieldAt n) (lookup (text_eq q) (arguments t (n + 1) args)) tt (arguments_narrow lawful args h.1 (n + 1) h.6 (stand_behind zs n z (fields_of args) stand) q)

pub narrow : (t : Table) → IsLawful t → (x : Derivation) (ks : List ℕ) (zs : List ℤ) → IsWalkOf t (codes "instruction") ks zs x → AreNarrow t zs (action t x)
narrow t lawful x ks zs walk =
    let stand : StandAt zs 0 (fields x) = subst (λ ys. StandAt ys 0 (fields x)) walk.fields (stand_whole (fields x)) in
    (derivation_narrow t zs lawful x (codes "instruction") 0 walk.derivation stand).1
