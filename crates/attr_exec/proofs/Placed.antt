-- What a derivation does suits its places, where what is declared does.
use Rattle.std.proofs.Common.{ℕ, zero, suc, ◌+◌, ◌<◌, ◌≤◌, List, [], ◌∷◌, ◌≡◌, ℤ, pos, length, map, arith, refl, sym, ◌∙◌, ap, subst, Some, None, Option, Bool, true, false, cond, Contains}
use Rattle.std.specs.Prelude.{slice_get, unsigned_abs, flat_map}
use Rattle.std.specs.Map.{lookup}
use Rattle.nk_base.specs.Text.{text_eq}
use Rattle.nk_base.specs.Number.{InRange}
use Rattle.nk_base.specs.declared.number.Ty.{Ty}
use Rattle.nk_base.specs.declared.number.Ty.TheVariants as tys
use Rattle.nml_tree.specs.declared.names.Name.{Name}
use Rattle.nml_tree.specs.declared.tree.Par.{Par}
use Rattle.nml_tree.specs.Formula as formula
use Rattle.nml_tree.specs.Formula.{Formula}
use Rattle.nml_tree.specs.Block.{Index}
use Rattle.nml_tree.specs.Table.{Text, Table, Rule, Declared, declared, Parameter, parameter_of}
use Rattle.nml_tree.specs.Derivation.{Derivation, Arguments, Pick, Compose, NoMore, Part, Field, IsDerivation, Fill, fields, fields_of}
use Rattle.nml_tree.specs.Inside.{inside, inside_value, inside_block, handed_on}
use Rattle.nml_tree.specs.Act.{Term, Cell, Trn}
use Rattle.nml_tree.specs.Worth.{Kind, Number, Worth, Scope, nothing, of_ty, of_declared, of_parameter, of_entry, of_name, of_rule, of_value, valued, worth, rule_worth, rule_scope}
use Rattle.nml_tree.specs.TypeFault.{has_value, may_have_index, is_indexed, is_named_rightly, is_read_rightly, value_places, block_places}
use Rattle.nml_tree.specs.Written as written
use Rattle.nml_tree.specs.Written.{Argument, FieldAt, source, named, reference, index_term, term, action_of, arguments}
use Rattle.nml_tree.specs.Value.{Cells, value}
use Rattle.nml_tree.proofs.OneDerivation.{or_of}
use Rattle.nml_tree.proofs.Height.{picked}
use Rattle.nml_state.specs.Cells.{Shown}
use Rattle.nml_widths.specs.Fitting.{Each, EachValue, Everywhere, PlaceBelow, PlacesBelow, Sound, StandAt, Within}
use Rattle.nml_widths.proofs.Fits.{AreRight, right_left, right_right, no_left, unless_none, both_left, both_right}
use Rattle.attr_exec.proofs.Standing.{stand_left, stand_right, stand_behind}
use Rattle.nml_widths.proofs.Settled.{IsSound, settled}
use Rattle.attr_exec.specs.Seen.{view}
use Rattle.attr_exec.proofs.Suits.{IsNow, Suits}
use Rattle.attr_exec.proofs.Truths.{Agrees, alternatives_alike}
use Rattle.attr_exec.proofs.Suited.{IsPlace, IsOfKind, Around, suits_block}

valued_type : (u : Ty) → valued (of_ty u).kind ≡ (of_ty u).kind
valued_type tys.Bool = refl
valued_type (tys.Card n) = refl
valued_type (tys.Int n) = refl

of_valued : (u : Ty) (k : Kind) → IsOfKind k u → IsOfKind (valued k) u
of_valued u k h = (h.0, sym (valued_type u) ∙ ap valued h.1)

among : (names : List Text) (n : ℕ) (x : Text) → slice_get names n ≡ Some x → Contains names x
among [] n x h = absurd cc
among (y ∷ ys) zero x h = let e : y ≡ x = cc in (0, omega arith, e)
among (y ∷ ys) (suc n) x h = let c = among ys n x h in (suc c.0, omega (arith, c.1), c.2)

module _ (t : Table) (zs : List ℤ) (next : Option ℤ) (cells : Cells) where
  abbrev Now : Shown → Type 0
  Now c = IsNow t zs next cells c

  abbrev pub IndexFits : Option Declared → Term → Type 0
  IndexFits (Some (Declared.Storage k size u)) i = (c : Shown) → Now c → unsigned_abs (value (view zs c next) i) < size
  IndexFits _ i = Unit {0}

  abbrev RuleSound : Rule → Arguments → ℕ → Type 0
  RuleSound rule args n = (c : Shown) → Now c → Each (Everywhere (Sound (rule_scope t rule) (arguments t n args) (view zs c next))) rule.action × PlacesBelow (rule_scope t rule) (arguments t n args) (view zs c next) rule.action
      × EachValue (Everywhere (Sound (rule_scope t rule) (arguments t n args) (view zs c next))) rule.value

  -- what a description in which all is right gives
  pub record Ground : Type 0 where
    pub sound : IsSound t
    pub agree : Agrees t
    pub some : (q : Text) (n k : ℕ) (u : Ty) → declared t q ≡ Some (Declared.Storage n k u) → 1 ≤ k
    pub places : (q : Text) (o : Option Declared) → declared t q ≡ o → (i : Term) → IndexFits o i → has_value (of_declared o).kind ≡ true → IsPlace t zs next cells (of_declared o).kind (source o i)
    pub blocks : (name : Text) (rule : Rule) → declared t name ≡ Some (Declared.And rule) → block_places (rule_scope t rule) rule.action ≡ []
    pub fits : (name : Text) (rule : Rule) (args : Arguments) (n : ℕ) → IsDerivation t name (Compose rule args) → StandAt zs n (fields_of args) → RuleSound rule args n
    pub truths : (name : Text) (rule : Rule) → declared t name ≡ Some (Declared.And rule) → (x : Formula) → AreRight (rule_scope t rule) (inside x) → ((worth (rule_scope t rule) x).kind ≡ Number → ⊥) → (z : ℤ) → Within (worth (rule_scope t rule) x).cap z → InRange tys.Bool z

  place_valued : (k : Kind) (p : Term) → IsPlace t zs next cells k p → IsPlace t zs next cells (valued k) p
  place_valued k (Term.Number z) h = tt
  place_valued k (Term.Field n) h = tt
  place_valued k (Cell n i) h = (h.0, h.1, of_valued h.0 k h.2, h.3)
  place_valued k (Trn n) h = (h.0, h.1, of_valued h.0 k h.2)
  place_valued k Term.Inp h = tt
  place_valued k Term.Out h = of_valued _ k h
  place_valued k (Term.Unary op x) h = tt
  place_valued k (Term.Binary op x y) h = tt
  place_valued k (Term.Choose c x y) h = tt

  -- a name that has an index where it is to have one
  index_fits : Ground → (rule : Rule) (parts : written.Scope) (n : Name) (i : Index) (o : Option Declared) → declared t n.text ≡ o → may_have_index (is_indexed i) o ≡ true → ((c : Shown) → Now c → PlaceBelow (rule_scope t rule) parts (view zs c next) n i) → IndexFits o (index_term t parts i)
  index_fits g rule parts n i None is h below = tt
  index_fits g rule parts n i (Some (Declared.Constant z)) is h below = tt
  index_fits g rule parts n i (Some (Declared.TypeName ty)) is h below = tt
  index_fits g rule parts n None (Some (Declared.Storage k size u)) is h below = λ c now. g.some n.text k size u is
  index_fits g rule parts n (Some (p, x, q)) (Some (Declared.Storage k size u)) is h below = λ c now. (below c now k size u is).1
  index_fits g rule parts n i (Some (Declared.Trn m ty)) is h below = tt
  index_fits g rule parts n i (Some (Declared.Inp ty)) is h below = tt
  index_fits g rule parts n i (Some (Declared.Out ty)) is h below = tt
  index_fits g rule parts n i (Some (Declared.Or mode names)) is h below = tt
  index_fits g rule parts n i (Some (Declared.And r)) is h below = tt

  -- a parameter and the argument that stands for it
  abbrev Stands : Scope → Option (Option Parameter) → Option Argument → Type 0
  Stands s None None = Unit {0}
  Stands s (Some p) (Some a) = ((o : Option Declared) (i : Term) → has_value (of_parameter s p).kind ≡ true → IsPlace t zs next cells (of_parameter s p).kind (named (Some a) o i)) × Suits t zs next cells (action_of (Some a))
  Stands s _ _ = ⊥

  chosen : (s : Scope) (b : Bool) (p : Option Parameter) (a : Argument) (ps : Option (Option Parameter)) (xs : Option Argument) → Stands s (Some p) (Some a) → Stands s ps xs → Stands s (cond b (Some p) ps) (cond b (Some a) xs)
  chosen s true p a ps xs h k = h
  chosen s false p a ps xs h k = k

  entry_place : Ground → (s : Scope) (q : Text) (p : Option (Option Parameter)) (a : Option Argument) → Stands s p a → (i : Term) → IndexFits (declared t q) i → has_value (of_entry s p (declared t q)).kind ≡ true → IsPlace t zs next cells (of_entry s p (declared t q)).kind (named a (declared t q) i)
  entry_place g s q None None h i fit k = g.places q (declared t q) refl i fit k
  entry_place g s q (Some p) (Some a) h i fit k = h.0 (declared t q) i k
  entry_place g s q None (Some a) h i fit k = absurd h
  entry_place g s q (Some p) None h i fit k = absurd h

  entry_action : (s : Scope) (p : Option (Option Parameter)) (a : Option Argument) → Stands s p a → Suits t zs next cells (action_of a)
  entry_action s None None h = tt
  entry_action s (Some p) (Some a) h = h.1
  entry_action s None (Some a) h = absurd h
  entry_action s (Some p) None h = absurd h

  around : Ground → (name : Text) (rule : Rule) (args : Arguments) (n : ℕ) → declared t name ≡ Some (Declared.And rule)
      → ((q : Text) → Stands (rule_scope t rule) (lookup (text_eq q) (map (λ p. (p.name.text, parameter_of t p.ty)) rule.pars)) (lookup (text_eq q) (arguments t n args))) → Around t zs next cells rule (arguments t n args)
  around g name rule args n is h = record {
    places = λ m i rightly below. entry_place g (rule_scope t rule) m.text _ _ (h m.text) (index_term t (arguments t n args) i) (index_fits g rule (arguments t n args) m i (declared t m.text) refl (both_left _ _ rightly) below) (both_right _ _ rightly);
    actions = λ q. entry_action (rule_scope t rule) _ _ (h q);
    truths = g.truths name rule is;
  }

  -- an expression that may name a place
  term_place : (rule : Rule) (parts : written.Scope) → Around t zs next cells rule parts → (x : Formula) → AreRight (rule_scope t rule) (inside x) → ((c : Shown) → Now c → Everywhere (Sound (rule_scope t rule) parts (view zs c next)) x) → IsPlace t zs next cells (worth (rule_scope t rule) x).kind (term t parts x)
  term_place rule parts a (formula.Numeral n) h sound = tt
  term_place rule parts a (formula.Truth at b) h sound = tt
  term_place rule parts a (formula.Named n) h sound =
      let e : is_read_rightly (rule_scope t rule) false n ≡ true = unless_none _ n.at (no_left _ _ h) in a.places n None (both_left _ _ e) (λ c now. tt)
  term_place rule parts a (formula.Indexed n p i q) h sound =
      let e : is_read_rightly (rule_scope t rule) true n ≡ true = unless_none _ n.at (no_left _ _ (no_left _ _ h)) in a.places n (Some (p, i, q)) (both_left _ _ e) (λ c now. (sound c now).0.below)
  term_place rule parts a (formula.Paren p x q) h sound = term_place rule parts a x h (λ c now. (sound c now).1)
  term_place rule parts a (formula.Fitted f at p n c x q) h sound = tt
  term_place rule parts a (formula.Bits at p x c high d low q) h sound = tt
  term_place rule parts a (formula.Choose at c b x f y end) h sound = tt
  term_place rule parts a (formula.Unary op at x) h sound = tt
  term_place rule parts a (formula.Binary op x at y) h sound = tt

  value_place : (rule : Rule) (parts : written.Scope) → Around t zs next cells rule parts → (o : Option Formula) → flat_map (value_places (rule_scope t rule)) (handed_on o) ≡ [] → AreRight (rule_scope t rule) (inside_value o)
      → ((c : Shown) → Now c → EachValue (Everywhere (Sound (rule_scope t rule) parts (view zs c next))) o) → IsPlace t zs next cells (of_value (rule_scope t rule) o).kind (written.value_of t parts o)
  value_place rule parts a None h right sound = tt
  value_place rule parts a (Some (formula.Named n)) h right sound =
      let e : is_named_rightly (rule_scope t rule) false n ≡ true = unless_none _ n.at (no_left _ _ h) in
      place_valued (of_name (rule_scope t rule) n.text).kind (reference t parts n.text (Term.Number (pos 0))) (a.places n None e (λ c now. tt))
  value_place rule parts a (Some e) h right sound = place_valued (worth (rule_scope t rule) e).kind (term t parts e) (term_place rule parts a e right sound)

  picked_place : Ground → (name : Text) (mode : Bool) (names : List Text) → declared t name ≡ Some (Declared.Or mode names) → (x : Text) → Contains names x → (p : Term) → (has_value (rule_worth t x).kind ≡ true → IsPlace t zs next cells (rule_worth t x).kind p)
      → has_value (rule_worth t name).kind ≡ true → IsPlace t zs next cells (rule_worth t name).kind p
  picked_place g name false names is x c p f k =
      let e : rule_worth t name ≡ nothing = settled t g.sound.free name ∙ ap (of_rule t (rule_worth t)) is in
      let wrong : false ≡ true = sym (ap (λ (w : Worth). has_value w.kind) e) ∙ k in
      absurd cc
  picked_place g name true names is x c p f k =
      let e = alternatives_alike t g.sound g.agree name names is x c in
      subst (λ j. IsPlace t zs next cells j p) (sym e) (f (ap has_value (sym e) ∙ k))

  mutual
    -- the action of a derivation suits its places, and a mode's value is a place of its kind where it may be assigned
    pub derivation_suits : (x : Derivation) → Ground → (name : Text) (n : ℕ) → IsDerivation t name x → StandAt zs n (fields x)
        → Suits t zs next cells (written.written t n x).action × (has_value (rule_worth t name).kind ≡ true → IsPlace t zs next cells (rule_worth t name).kind (written.written t n x).value)
    derivation_suits (Pick k x) g name n h stand =
        let rule = or_of (declared t name) t name k h.0 refl h.1 in
        let got : slice_get rule.1 k ≡ Some h.0 = picked rule.0 rule.1 t name k h.0 rule.2 h.1 in
        let r = derivation_suits x g h.0 n h.2 stand in
        (r.0, picked_place g name rule.0 rule.1 rule.2 h.0 (among rule.1 k h.0 got) (written.written t n x).value r.1)
    derivation_suits (Compose rule args) g name n h stand =
        let right = g.sound.rules name rule h.0 in
        let a = around g name rule args n h.0 (arguments_suit args g rule rule.pars n h.1 stand) in
        let fits = g.fits name rule args n h stand in
        let e : rule_worth t name ≡ of_value (rule_scope t rule) rule.value = settled t g.sound.free name ∙ ap (of_rule t (rule_worth t)) h.0 in (
          suits_block t zs next cells rule (arguments t n args) a rule.action (g.blocks name rule h.0) (right_right (rule_scope t rule) (inside_value rule.value) (inside_block rule.action) right.reading) (λ c now. ((fits c now).0, (fits c now).1)),
          λ has. subst (λ (w : Worth). IsPlace t zs next cells w.kind (written.value_of t (arguments t n args) rule.value)) (sym e)
              (value_place rule (arguments t n args) a rule.value right.handed (right_left (rule_scope t rule) (inside_value rule.value) (inside_block rule.action) right.reading) (λ c now. (fits c now).2)),
        )

    pub arguments_suit : (a : Arguments) → Ground → (rule : Rule) (pars : List Par) (n : ℕ) → Fill t pars a → StandAt zs n (fields_of a)
        → (q : Text) → Stands (rule_scope t rule) (lookup (text_eq q) (map (λ p. (p.name.text, parameter_of t p.ty)) pars)) (lookup (text_eq q) (arguments t n a))
    arguments_suit NoMore g rule pars n h stand q = rw h tt
    arguments_suit (Part name x args) g rule pars n h stand q =
        let more = arguments_suit args g rule h.1 (n + length (fields x)) h.7 (stand_right zs n (fields x) (fields_of args) stand) q in
        let here = derivation_suits x g h.2 n h.6 (stand_left zs n (fields x) (fields_of args) stand) in
        rw (h.3, h.4, h.5) (chosen (rule_scope t rule) (text_eq q name) (Some (Parameter.Part h.2)) (Argument.Part (written.written t n x)) _ _ (λ o i k. here.1 k, here.0) more)
    arguments_suit (Field name ty z args) g rule pars n h stand q =
        let more = arguments_suit args g rule h.1 (n + 1) h.6 (stand_behind zs n z (fields_of args) stand) q in
        rw (h.2, h.3, h.4) (chosen (rule_scope t rule) (text_eq q name) (Some (Parameter.Field ty)) (Argument.FieldAt n) _ _ (λ o i k. tt, tt) more)
