-- The texts of a rule by those of the rules that it is made of.
use Rattle.std.proofs.Common.{ℕ, zero, suc, ◌≡◌, ◌<◌, Bool, true, false, List, [], ◌∷◌, ◌++◌, map, length, Option, Some, None, option_map, option_and_then, unwrap_or, slice_get, slice_index_or, refl, ap, sym, ◌∙◌, arith, cond, ◌⊎◌, inl, inr, subst, Contains}
use Rattle.std.specs.Map.{lookup}
use Rattle.nk_base.specs.Text.{text_eq}
use Rattle.nml_tree.specs.declared.tree.Par.{Par}
use Rattle.nml_tree.specs.declared.tree.Item.{Item}
use Rattle.nml_tree.specs.declared.tree.Item.TheVariants as item
use Rattle.nml_tree.specs.declared.tree.Desc.{Desc}
use Rattle.nml_tree.specs.Formula.{formula}
use Rattle.nml_tree.specs.Table.{Text, Table, Rule, Declared, Parameter, declared, table, alternative, alternative_in, parameter_of, rule_of, is_mode_word}
use Rattle.nml_tree.specs.Derivation.{Arguments, Pick, Compose, Fill}
use Rattle.nml_tree.specs.Reach.{IsBelow}
use Rattle.nml_tree.specs.Refused.{IsFreeBelow}
use Rattle.nml_tree.specs.Template.{given}
use Rattle.nml_names.specs.Below.{graph}
use Rattle.graphs.specs.Graphs.{IsOrder}
use Rattle.nml_names.proofs.RuleNames.{first_item, only_rule, rule_part, declared_rule, some_same}
use Rattle.nml_names.proofs.Cycles.{declared_here}
use Rattle.nml_known.specs.Known.{item_number, parameter_told}
use Rattle.nml_upward.specs.Upward.{AreMade, IsRule, HasNumber}
use Rattle.nml_upward.proofs.Upward.{are_made, below_stands, has_derivation, has_arguments, below_is_rule}
use Rattle.nml_edges.specs.declared.glyph.Glyph.{Glyph}
use Rattle.nml_edges.specs.declared.glyph.Glyph.TheVariants as glyph
use Rattle.nml_edges.specs.declared.summary.Summary.{Summary}
use Rattle.nml_edges.specs.Glyph.{glyphs, arg_glyphs}
use Rattle.nml_edges.specs.Summary.{none, still, one, followed, both, seamed, IsSummary}
use Rattle.nml_edges.specs.Passed.{slots, listed, fact, of_parameter, par_sum, par_sums, rule_sum, any_sum, item_sum, Texts, AreRight}
use Rattle.nml_edges.proofs.Ways.{Joined, followed_is, one_is, still_is, none_is, both_is, same_texts}
use Rattle.nml_edges.proofs.Slots.{Made, along_is, filled_text, OfParameter, Choice, Gives, gives_given, filled_made, Once, choose, is_once}

-- derivations of an and-rule
and_pick : (t : Table) (name chosen : Text) (rule : Rule) (k : ℕ) → declared t name ≡ Some (Declared.And rule) → alternative t name k ≡ Some chosen → ⊥
and_pick t name chosen rule k h alt = let e : option_and_then (alternative_in k) (Some (Declared.And rule)) ≡ Some chosen = subst (λ o. option_and_then (alternative_in k) o ≡ Some chosen) h alt in cc

abbrev pub RuleTexts : Table → Rule → List Glyph → Type 0
RuleTexts t rule = Joined (λ u. u ≡ []) (Made (Gives t rule.pars) (slots rule.syntax))

texts_forth : (t : Table) (name : Text) (rule : Rule) → declared t name ≡ Some (Declared.And rule) → (gs : List Glyph) → Texts t name gs → RuleTexts t rule gs
texts_forth t name rule h gs (Pick k x, (chosen, alt, der), is) = absurd (and_pick t name chosen rule k h alt)
texts_forth t name rule h gs (Compose r args, (d, fill), is) =
    let e : r ≡ rule = (let s : Some (Declared.And r) ≡ Some (Declared.And rule) = sym d ∙ h in cc) in
    let m : Made (Gives t r.pars) (slots r.syntax) gs = subst (Made (Gives t r.pars) (slots r.syntax)) (filled_text (arg_glyphs args) r.syntax ∙ is) (filled_made t args r.pars (slots r.syntax) fill) in
    subst (λ z. RuleTexts t z gs) e (record { front = []; back = gs; of_front = refl; of_back = m; is = refl })

texts_back : (t : Table) (name : Text) (rule : Rule) (some : Arguments) → Fill t rule.pars some → Once rule.pars (slots rule.syntax) → declared t name ≡ Some (Declared.And rule) → (gs : List Glyph) → RuleTexts t rule gs → Texts t name gs
texts_back t name rule some fill once h gs j =
    let c = choose t rule.pars some fill (slots rule.syntax) once j.back j.of_back in
    (Compose rule c.args, (h, c.fill), sym (filled_text (arg_glyphs c.args) rule.syntax) ∙ c.is ∙ sym (j.is ∙ ap (λ z. z ++ j.back) j.of_front))

-- a part's texts have seams
abbrev IsSeam : List Glyph → Type 0
IsSeam gs = gs ≡ glyph.Seam ∷ []

seamed_is : (A : List Glyph → Type 0) (m : Summary) → IsSummary A m → (us : List Glyph) → A us → IsSummary (λ gs. (us : List Glyph) × A us × (gs ≡ glyph.Seam ∷ (us ++ glyph.Seam ∷ []))) (seamed m)
seamed_is A m s us a =
    same_texts (Joined IsSeam (Joined A IsSeam)) (λ gs. (us : List Glyph) × A us × (gs ≡ glyph.Seam ∷ (us ++ glyph.Seam ∷ []))) (seamed m)
    (λ gs j. (j.of_back.front, j.of_back.of_front, j.is ∙ ap (λ z. z ++ j.back) j.of_front ∙ ap (λ z. glyph.Seam ∷ z) (j.of_back.is ∙ ap (λ z. j.of_back.front ++ z) j.of_back.of_back)))
    (λ gs x. record { front = glyph.Seam ∷ []; back = x.0 ++ glyph.Seam ∷ []; of_front = refl; of_back = record { front = x.0; back = glyph.Seam ∷ []; of_front = x.1; of_back = refl; is = refl }; is = x.2 })
    (followed_is IsSeam (Joined A IsSeam) (one glyph.Seam) (followed m (one glyph.Seam)) (one_is glyph.Seam)
    (followed_is A IsSeam m (one glyph.Seam) s (one_is glyph.Seam) (glyph.Seam ∷ []) refl)
    (us ++ glyph.Seam ∷ []) (record { front = us; back = glyph.Seam ∷ []; of_front = a; of_back = refl; is = refl }))

-- what is known of the rules below
pub record Known (d : Desc) (facts : List Summary) (b : Text) : Type 0 where
  pub number : ℕ
  pub is : item_number d b ≡ Some number
  pub sums : IsSummary (Texts (table d) b) (fact facts (Some number))

par_is : (d : Desc) (facts : List Summary) (o : Option Parameter) → ((b : Text) → o ≡ Some (Parameter.Part b) → Known d facts b × ((gs : List Glyph) × Texts (table d) b gs))
    → IsSummary (OfParameter (table d) o) (of_parameter facts (option_map (parameter_told d) o))
par_is d facts None below = none_is (OfParameter (table d) None) (λ gs h. h)
par_is d facts (Some (Parameter.Field ty)) below = one_is glyph.Number
par_is d facts (Some (Parameter.Part b)) below =
    let k = below b refl in
    rw k.0.is (seamed_is (Texts (table d) b) (fact facts (Some k.0.number)) k.0.sums k.1.0 k.1.1)

sums_are : (d : Desc) (facts : List Summary) (pars : List Par) → ((p : Par) → Contains pars p → IsSummary (OfParameter (table d) (parameter_of (table d) p.ty)) (par_sum d facts p))
    → (n : Text) → IsSummary (Gives (table d) pars n) (listed (par_sums d facts pars) n)
sums_are d facts [] each n = still_is
sums_are d facts (p ∷ pars) each n = by (text_eq n p.name.text) (each p (0, omega arith, refl)) (sums_are d facts pars (λ q c. each q (suc c.0, omega (arith, c.1), c.2)) n)
  where
    by : (b : Bool) → IsSummary (OfParameter (table d) (parameter_of (table d) p.ty)) (par_sum d facts p) → IsSummary (Gives (table d) pars n) (listed (par_sums d facts pars) n)
        → IsSummary (λ gs. Choice b (OfParameter (table d) (parameter_of (table d) p.ty) gs) (Gives (table d) pars n gs)) (unwrap_or (cond b (Some (par_sum d facts p)) (lookup (text_eq n) (par_sums d facts pars))) still)
    by true here rest = here
    by false here rest = rest

-- derivations of an or-rule
or_compose : (t : Table) (name : Text) (mode : Bool) (ns : List Text) (rule : Rule) → declared t name ≡ Some (Declared.Or mode ns) → declared t name ≡ Some (Declared.And rule) → ⊥
or_compose t name mode ns rule h k = let e : Some (Declared.Or mode ns) ≡ Some (Declared.And rule) = sym h ∙ k in cc

abbrev AnyOf : Table → List Text → List Glyph → Type 0
AnyOf t [] gs = ⊥
AnyOf t (n ∷ ns) gs = Texts t n gs ⊎ AnyOf t ns gs

pick_in : (t : Table) (ns : List Text) (k : ℕ) (chosen : Text) (gs : List Glyph) → slice_get ns k ≡ Some chosen → Texts t chosen gs → AnyOf t ns gs
pick_in t [] k chosen gs at x = absurd cc
pick_in t (n ∷ ns) zero chosen gs at x = inl (subst (λ m. Texts t m gs) (sym (some_same n chosen at)) x)
pick_in t (n ∷ ns) (suc k) chosen gs at x = inr (pick_in t ns k chosen gs at x)

pub record Picked (t : Table) (ns : List Text) (gs : List Glyph) : Type 0 where
  pub number : ℕ
  pub chosen : Text
  pub at : slice_get ns number ≡ Some chosen
  pub text : Texts t chosen gs

picked : (t : Table) (ns : List Text) (gs : List Glyph) → AnyOf t ns gs → Picked t ns gs
picked t [] gs h = absurd h
picked t (n ∷ ns) gs (inl x) = record { number = 0; chosen = n; at = refl; text = x }
picked t (n ∷ ns) gs (inr x) = let p = picked t ns gs x in record { number = suc p.number; chosen = p.chosen; at = p.at; text = p.text }

or_forth : (t : Table) (name : Text) (mode : Bool) (ns : List Text) → declared t name ≡ Some (Declared.Or mode ns) → (gs : List Glyph) → Texts t name gs → AnyOf t ns gs
or_forth t name mode ns h gs (Pick k x, (chosen, alt, der), is) =
    pick_in t ns k chosen gs (subst (λ o. option_and_then (alternative_in k) o ≡ Some chosen) h alt) (x, der, is)
or_forth t name mode ns h gs (Compose r args, (d, fill), is) = absurd (or_compose t name mode ns r h d)

or_back : (t : Table) (name : Text) (mode : Bool) (ns : List Text) → declared t name ≡ Some (Declared.Or mode ns) → (gs : List Glyph) → AnyOf t ns gs → Texts t name gs
or_back t name mode ns h gs a =
    let p = picked t ns gs a in
    (Pick p.number p.text.0, (p.chosen, subst (λ o. option_and_then (alternative_in p.number) o ≡ Some p.chosen) (sym h) p.at, p.text.1), p.text.2)

any_is : (d : Desc) (facts : List Summary) (ns : List Text) → ((n : Text) → Contains ns n → Known d facts n) → (L : List Glyph → Type 0) (m : Summary) → IsSummary L m
    → IsSummary (λ gs. L gs ⊎ AnyOf (table d) ns gs) (any_sum d facts m ns)
any_is d facts [] below L m s = same_texts L (λ gs. L gs ⊎ AnyOf (table d) [] gs) m (λ gs h. inl h) (λ gs h. elim h [ inl k ↦ k | inr k ↦ absurd k ]) s
any_is d facts (n ∷ ns) below L m s =
    let k = below n (0, omega arith, refl) in
    same_texts (λ gs. (L gs ⊎ Texts (table d) n gs) ⊎ AnyOf (table d) ns gs) (λ gs. L gs ⊎ AnyOf (table d) (n ∷ ns) gs) (any_sum d facts m (n ∷ ns))
    (λ gs h. elim h [ inl x ↦ elim x [ inl a ↦ inl a | inr b ↦ inr (inl b) ] | inr y ↦ inr (inr y) ])
    (λ gs h. elim h [ inl a ↦ inl (inl a) | inr x ↦ elim x [ inl b ↦ inl (inr b) | inr y ↦ inr y ] ])
    (any_is d facts ns (λ q c. below q (suc c.0, omega (arith, c.1), c.2)) (λ gs. L gs ⊎ Texts (table d) n gs) (both m (fact facts (item_number d n)))
    (both_is L (Texts (table d) n) m (fact facts (item_number d n)) s (rw k.is k.sums)))

or_is : (d : Desc) (facts : List Summary) (name : Text) (mode : Bool) (ns : List Text) → declared (table d) name ≡ Some (Declared.Or mode ns) → ((n : Text) → Contains ns n → Known d facts n)
    → IsSummary (Texts (table d) name) (any_sum d facts none ns)
or_is d facts name mode ns h below =
    same_texts (λ gs. ⊥ ⊎ AnyOf (table d) ns gs) (Texts (table d) name) (any_sum d facts none ns)
    (λ gs x. elim x [ inl e ↦ absurd e | inr a ↦ or_back (table d) name mode ns h gs a ])
    (λ gs x. inr (or_forth (table d) name mode ns h gs x))
    (any_is d facts ns below (λ gs. ⊥) none (none_is (λ gs. ⊥) (λ gs h. h)))

-- what is no rule has no derivation
no_rule : (t : Table) (name : Text) → option_and_then only_rule (declared t name) ≡ None → (gs : List Glyph) → Texts t name gs → ⊥
no_rule t name h gs (Pick k x, (chosen, alt, der), is) = by (declared t name) refl h alt
  where
    by : (o : Option Declared) → declared t name ≡ o → option_and_then only_rule o ≡ None → option_and_then (alternative_in k) o ≡ Some chosen → ⊥
    by None e f a = cc
    by (Some (Declared.Constant z)) e f a = cc
    by (Some (Declared.TypeName ty)) e f a = cc
    by (Some (Declared.Storage n s ty)) e f a = cc
    by (Some (Declared.Trn n ty)) e f a = cc
    by (Some (Declared.Inp ty)) e f a = cc
    by (Some (Declared.Out ty)) e f a = cc
    by (Some (Declared.Or mode ns)) e f a = cc
    by (Some (Declared.And r)) e f a = cc
no_rule t name h gs (Compose r args, (d, fill), is) = let e : option_and_then only_rule (Some (Declared.And r)) ≡ None = subst (λ o. option_and_then only_rule o ≡ None) d h in cc

-- one step upwards
module _ (d : Desc) (order : List ℕ) (free : IsFreeBelow 10 d) (is : IsOrder (graph d.items) order) where
  below8 : IsFreeBelow 8 d
  below8 k low h = free k (omega (arith, low)) h

  below9 : IsFreeBelow 9 d
  below9 k low h = free k (omega (arith, low)) h

  made : AreMade (table d)
  made = are_made d below8

  has_text : (b : Text) → IsRule (table d) b → (gs : List Glyph) × Texts (table d) b gs
  has_text b rule = let x = has_derivation d order b below8 is rule in (glyphs x.0, (x.0, x.1, refl))

  module _ (facts : List Summary) (p : ℕ) (low : p < length order) (right : AreRight d order facts p) where
    known : (name b : Text) → HasNumber d name (slice_index_or order p 0) → IsRule (table d) name → IsBelow (table d) name b → Known d facts b
    known name b h rule below =
        let s = below_stands d made order is p low name b h rule below in
        record {
          number = s.0;
          is = s.1;
          sums = subst (λ n. IsSummary (Texts (table d) b) (fact facts (Some n))) s.2.2 (right s.2.0 s.2.1 b (s.1 ∙ ap Some (sym s.2.2)));
        }

    and_is : (name : Text) (rule : Rule) → HasNumber d name (slice_index_or order p 0) → declared (table d) name ≡ Some (Declared.And rule) → IsSummary (Texts (table d) name) (rule_sum d facts rule.pars rule.syntax)
    and_is name rule h dec =
        let here : IsRule (table d) name = rw dec refl in
        let args = has_arguments (table d) rule.pars (made.parameters name rule dec) (λ q b c part. has_derivation d order b below8 is (below_is_rule (table d) made name b (IsBelow.Part rule q dec c part))) in
        same_texts (RuleTexts (table d) rule) (Texts (table d) name) (rule_sum d facts rule.pars rule.syntax)
        (texts_back (table d) name rule args.0 args.1 (is_once d name rule below9 dec) dec) (texts_forth (table d) name rule dec)
        (along_is (Gives (table d) rule.pars) (listed (par_sums d facts rule.pars))
        (sums_are d facts rule.pars (λ q c. par_is d facts (parameter_of (table d) q.ty) (λ b part. (known name b h here (IsBelow.Part rule q dec c part), has_text b (below_is_rule (table d) made name b (IsBelow.Part rule q dec c part))))))
        (λ n. (given (arg_glyphs args.0) n, gives_given (table d) args.0 rule.pars args.1 n)) (slots rule.syntax) (λ u. u ≡ []) still still_is)

    pub item_is : (name : Text) (i : Item) → HasNumber d name (slice_index_or order p 0) → first_item d.items name ≡ Some i → IsSummary (Texts (table d) name) (item_sum d facts i)
    item_is name (item.Let at n equals minus z) h f = none_is (Texts (table d) name) (no_rule (table d) name (declared_rule d name ∙ ap (option_and_then rule_part) f))
    item_is name (item.Type at n equals e) h f = none_is (Texts (table d) name) (no_rule (table d) name (declared_rule d name ∙ ap (option_and_then rule_part) f))
    item_is name (item.Storage s) h f = none_is (Texts (table d) name) (no_rule (table d) name (declared_rule d name ∙ ap (option_and_then rule_part) f))
    item_is name (item.Port q) h f = none_is (Texts (table d) name) (no_rule (table d) name (declared_rule d name ∙ ap (option_and_then rule_part) f))
    item_is name (item.OrRule r) h f =
        let ns : List Text = r.first.text ∷ map (λ (bar, n). n.text) r.rest in
        let dec : declared (table d) name ≡ Some (Declared.Or (is_mode_word r.word) ns) = declared_here d name (item.OrRule r) _ f refl in
        or_is d facts name (is_mode_word r.word) ns dec (λ n c. known name n h (rw dec refl) (IsBelow.Alternative (is_mode_word r.word) ns dec c))
    item_is name (item.OpRule r) h f = and_is name (rule_of r.pars None r.attrs) h (declared_here d name (item.OpRule r) _ f refl)
    item_is name (item.ModeRule r) h f = and_is name (rule_of r.pars (Some (formula r.value)) r.attrs) h (declared_here d name (item.ModeRule r) _ f refl)
