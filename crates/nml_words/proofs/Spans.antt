-- What the code counts from the widths of parts and alternatives are the widths of the rule's images.
use Rattle.std.proofs.Common.{ℕ, zero, suc, ◌≡◌, ◌≤◌, pos, refl, sym, ◌∙◌, ap, subst, arith, Bool, true, false, List, [], ◌∷◌, map, length, slice_get, Option, Some, None, Contains, ◌⊎◌, inl, inr}
use Rattle.std.specs.Prelude.{cond, unwrap_or}
use Rattle.std.proofs.lemmas.Bool.{cases_lt}
use Rattle.std.specs.Map.{lookup}
use Rattle.nk_base.specs.Text.{text_eq}
use Rattle.nk_base.specs.Number.{width_of}
use Rattle.nml_tree.specs.declared.tree.Par.{Par}
use Rattle.nml_tree.specs.declared.attributes.Arg.{Arg}
use Rattle.nml_tree.specs.declared.attributes.Template.{Template}
use Rattle.nml_tree.specs.declared.attributes.Template.TheVariants as template
use Rattle.nml_tree.specs.Attribute.{FormatPiece, Letter, Directive, pieces}
use Rattle.nml_tree.specs.Table.{Text, Table, Rule, Declared, Parameter, declared, parameter_of}
use Rattle.nml_tree.specs.Derivation.{Derivation, Arguments, Pick, Compose, NoMore, Part, Field, IsDerivation, Fill}
use Rattle.nml_tree.specs.Image.{image, images}
use Rattle.nml_tree.specs.ImageWidth.{pieces_width, width_given, text_width}
use Rattle.nml_tree.proofs.ImageWidths.{widths, image_text_width, below_width}
use Rattle.nml_tree.proofs.Height.{picked}
use Rattle.nml_widths.proofs.ModeFits.{zero_in}
use Rattle.nml_upward.proofs.Upward.{behind}
use Rattle.nml_words.specs.declared.span.Span.{Span}
use Rattle.nml_words.specs.Span.{span, joined, Spans, IsSpan, span_given, text_span, with_alternatives, par_spans}

-- one set of derivations for another, with images as wide
pub same_spans : (P Q : Derivation → Type 0) (s : Span) → ((x : Derivation) → P x → (y : Derivation) × Q y × (length (image y) ≡ length (image x))) → ((y : Derivation) → Q y → (x : Derivation) × P x × (length (image y) ≡ length (image x))) → Spans P s → Spans Q s
same_spans P Q s forth back h = record {
  lowest = let y = forth h.lowest.0 h.lowest.1 in (y.0, y.1, y.2 ∙ h.lowest.2);
  highest = let y = forth h.highest.0 h.highest.1 in (y.0, y.1, y.2 ∙ h.highest.2);
  between = λ y q. let x = back y q in let b = h.between x.0 x.1 in (omega (arith, b.0, x.2), omega (arith, b.1, x.2));
}

-- of two sets
join_spans : (P Q : Derivation → Type 0) (a b : Span) → Spans P a → Spans Q b → Spans (λ x. P x ⊎ Q x) (joined a b)
join_spans P Q a b h k = record {
  lowest = elim (cases_lt a.least b.least) [
    | inl low ↦ (let l = h.lowest.2 in (h.lowest.0, inl h.lowest.1, omega (arith, low, l)))
    | inr low ↦ (let l = k.lowest.2 in (k.lowest.0, inr k.lowest.1, omega (arith, low, l)))
  ];
  highest = elim (cases_lt b.most a.most) [
    | inl low ↦ (let l = h.highest.2 in (h.highest.0, inl h.highest.1, omega (arith, low, l)))
    | inr low ↦ (let l = k.highest.2 in (k.highest.0, inr k.highest.1, omega (arith, low, l)))
  ];
  between = λ x q. elim q [
    | inl p ↦ (let e = h.between x p in (omega (arith, e.0), omega (arith, e.1)))
    | inr p ↦ (let e = k.between x p in (omega (arith, e.0), omega (arith, e.1)))
  ];
}

-- a derivation of one of the names
abbrev OfOne : Table → List Text → Derivation → Type 0
OfOne t names x = (b : Text) × Contains names b × IsDerivation t b x

in_behind : (n b : Text) (ns : List Text) → Contains ns b → Contains (n ∷ ns) b
in_behind n b ns c = (suc c.0, omega (arith, c.1), c.2)

in_either : (n b : Text) (ns : List Text) → Contains (n ∷ ns) b → (n ≡ b) ⊎ Contains ns b
in_either n b ns (zero, low, is) = inl is
in_either n b ns (suc k, low, is) = inr (k, omega (arith, low), is)

further : (t : Table) (given : Text → Span) (ns : List Text) (P : Derivation → Type 0) (s : Span) → Spans P s → ((b : Text) → Contains ns b → IsSpan t b (given b)) → Spans (λ x. P x ⊎ OfOne t ns x) (with_alternatives given s ns)
further t given [] P s h each =
    same_spans P (λ x. P x ⊎ OfOne t [] x) s (λ x p. (x, inl p, refl)) (λ y q. elim q [ inl p ↦ (y, p, refl) | inr o ↦ (let l = o.1.1 in absurd (omega (arith, l))) ]) h
further t given (n ∷ ns) P s h each =
    let both = join_spans P (IsDerivation t n) s (given n) h (each n (0, omega arith, refl)) in
    same_spans (λ x. (P x ⊎ IsDerivation t n x) ⊎ OfOne t ns x) (λ x. P x ⊎ OfOne t (n ∷ ns) x) (with_alternatives given (joined s (given n)) ns)
    (λ x q. elim q [
      | inl r ↦ elim r [ inl p ↦ (x, inl p, refl) | inr d ↦ (x, inr (n, (0, omega arith, refl), d), refl) ]
      | inr o ↦ (x, inr (o.0, in_behind n o.0 ns o.1, o.2), refl)
    ])
    (λ y q. elim q [
      | inl p ↦ (y, inl (inl p), refl)
      | inr o ↦ elim (in_either n o.0 ns o.1) [
        | inl e ↦ (y, inl (inr (subst (λ b. IsDerivation t b y) (sym e) o.2)), refl)
        | inr c ↦ (y, inr (o.0, c, o.2), refl)
      ]
    ])
    (further t given ns (λ x. P x ⊎ IsDerivation t n x) (joined s (given n)) both (λ b c. each b (in_behind n b ns c)))

got_is_among : (names : List Text) (n : ℕ) (x : Text) → slice_get names n ≡ Some x → Contains names x
got_is_among [] n x h = absurd cc
got_is_among (y ∷ ys) zero x h = let e : y ≡ x = cc in (0, omega arith, e)
got_is_among (y ∷ ys) (suc n) x h = let c = got_is_among ys n x h in (suc c.0, omega (arith, c.1), c.2)

among_is_got : (names : List Text) (x : Text) → Contains names x → (k : ℕ) × (slice_get names k ≡ Some x)
among_is_got [] x c = let l = c.1 in absurd (omega (arith, l))
among_is_got (y ∷ ys) x (zero, low, is) = (0, ap Some is)
among_is_got (y ∷ ys) x (suc k, low, is) = let r = among_is_got ys x (k, omega (arith, low), is) in (suc r.0, r.1)

-- a derivation of an or-rule is one of an alternative, with the same image
picked_one : (t : Table) (a : Text) (mode : Bool) (names : List Text) → declared t a ≡ Some (Declared.Or mode names) → (y : Derivation) → IsDerivation t a y → (x : Derivation) × OfOne t names x × (length (image y) ≡ length (image x))
picked_one t a mode names is (Pick n x) h = (x, (h.0, got_is_among names n h.0 (picked mode names t a n h.0 is h.1), h.2), refl)
picked_one t a mode names is (Compose rule args) h = absurd cc

pick_one : (t : Table) (a : Text) (mode : Bool) (names : List Text) → declared t a ≡ Some (Declared.Or mode names) → (x : Derivation) → OfOne t names x → (y : Derivation) × IsDerivation t a y × (length (image y) ≡ length (image x))
pick_one t a mode names is x o =
    let k = among_is_got names o.0 o.1 in
    (Pick k.0 x, (o.0, rw is k.1, o.2), refl)

-- the widths of an or-rule
pub or_span : (t : Table) (a : Text) (mode : Bool) (n : Text) (ns : List Text) (given : Text → Span) → declared t a ≡ Some (Declared.Or mode (n ∷ ns)) → ((b : Text) → Contains (n ∷ ns) b → IsSpan t b (given b)) → IsSpan t a (with_alternatives given (given n) ns)
or_span t a mode n ns given is each =
    let all = further t given ns (IsDerivation t n) (given n) (each n (0, omega arith, refl)) (λ b c. each b (in_behind n b ns c)) in
    same_spans (λ x. IsDerivation t n x ⊎ OfOne t ns x) (IsDerivation t a) (with_alternatives given (given n) ns)
    (λ x q. pick_one t a mode (n ∷ ns) is x (elim q [ inl d ↦ (n, (0, omega arith, refl), d) | inr o ↦ (o.0, in_behind n o.0 ns o.1, o.2) ]))
    (λ y h.
    let x = picked_one t a mode (n ∷ ns) is y h in
    (x.0, elim (in_either n x.1.0 ns x.1.1) [ inl e ↦ inl (subst (λ b. IsDerivation t b x.0) (sym e) x.1.2) | inr c ↦ inr (x.1.0, c, x.1.2) ], x.2))
    all

-- each name with at most so many bits
abbrev AtMost : List (Text × ℕ) → List (Text × ℕ) → Type 0
AtMost [] [] = Unit {0}
AtMost (x ∷ xs) (y ∷ ys) = (x.0 ≡ y.0) × (x.1 ≤ y.1) × AtMost xs ys
AtMost _ _ = ⊥

chosen_most : (b : Bool) (m n : ℕ) (o p : Option ℕ) → m ≤ n → unwrap_or o 0 ≤ unwrap_or p 0 → unwrap_or (cond b (Some m) o) 0 ≤ unwrap_or (cond b (Some n) p) 0
chosen_most true m n o p h k = h
chosen_most false m n o p h k = k

given_most : (xs ys : List (Text × ℕ)) → AtMost xs ys → (name : Text) → width_given xs name ≤ width_given ys name
given_most [] [] h name = omega arith
given_most [] (y ∷ ys) h name = absurd h
given_most (x ∷ xs) [] h name = absurd h
given_most (x ∷ xs) (y ∷ ys) h name =
    subst (λ k. unwrap_or (cond (text_eq name x.0) (Some x.1) (lookup (text_eq name) xs)) 0 ≤ unwrap_or (cond (text_eq name k) (Some y.1) (lookup (text_eq name) ys)) 0) h.0
    (chosen_most (text_eq name x.0) x.1 y.1 (lookup (text_eq name) xs) (lookup (text_eq name) ys) h.1 (given_most xs ys h.2 name))

pieces_most : (ps : List FormatPiece) (args : List (ℕ × Arg)) (xs ys : List (Text × ℕ)) → AtMost xs ys → pieces_width ps (map (λ (comma, a). width_given xs a.name.text) args) ≤ pieces_width ps (map (λ (comma, a). width_given ys a.name.text) args)
pieces_most [] args xs ys h = omega arith
pieces_most (Letter c ∷ ps) args xs ys h = omega (arith, pieces_most ps args xs ys h)
pieces_most (Directive digits k ∷ ps) [] xs ys h = pieces_most ps [] xs ys h
pieces_most (Directive digits k ∷ ps) ((comma, a) ∷ args) xs ys h = omega (arith, given_most xs ys h a.name.text, pieces_most ps args xs ys h)

-- a text is no wider where no parameter is
text_most : (text : Template) (xs ys : List (Text × ℕ)) → AtMost xs ys → text_width xs text ≤ text_width ys text
text_most (template.Plain q) xs ys h = omega arith
text_most (template.Part n dot a) xs ys h = given_most xs ys h n.text
text_most (template.Format at p q args r) xs ys h = pieces_most (pieces q.text) args xs ys h

-- so many bits for each parameter
abbrev par_widths : (Par → ℕ) → List Par → List (Text × ℕ)
par_widths width pars = map (λ p. (p.name.text, width p)) pars

-- some derivation of the parameter has this width
abbrev HasWidth : Table → Option Parameter → ℕ → Type 0
HasWidth t None n = ⊥
HasWidth t (Some (Parameter.Field ty)) n = n ≡ width_of ty
HasWidth t (Some (Parameter.Part b)) n = (x : Derivation) × IsDerivation t b x × (length (image x) ≡ n)

-- arguments of these widths
filled : (t : Table) (pars : List Par) (width : Par → ℕ) → ((p : Par) → Contains pars p → HasWidth t (parameter_of t p.ty) (width p)) → (args : Arguments) × Fill t pars args × (widths (images args) ≡ par_widths width pars)
filled t [] width has = (NoMore, refl, refl)
filled t (p ∷ pars) width has = by (parameter_of t p.ty) refl (has p (0, omega arith, refl)) (filled t pars width (λ q c. has q (behind p pars q c)))
  where
    by : (o : Option Parameter) → parameter_of t p.ty ≡ o → HasWidth t o (width p) → ((args : Arguments) × Fill t pars args × (widths (images args) ≡ par_widths width pars))
        → (args : Arguments) × Fill t (p ∷ pars) args × (widths (images args) ≡ par_widths width (p ∷ pars))
    by None is h more = absurd h
    by (Some (Parameter.Field ty)) is h more = (Field p.name.text ty (pos 0) more.0, (p, pars, refl, refl, is, zero_in ty, more.1), rw (below_width (width_of ty), ← h, more.2) refl)
    by (Some (Parameter.Part b)) is h more = (Part p.name.text h.0 more.0, (p, pars, b, refl, refl, is, h.1, more.1), rw (h.2, more.2) refl)

-- a parameter has these widths
abbrev pub IsParSpan : Table → Option Parameter → Span → Type 0
IsParSpan t None s = ⊥
IsParSpan t (Some (Parameter.Field ty)) s = s ≡ span (width_of ty) (width_of ty)
IsParSpan t (Some (Parameter.Part b)) s = IsSpan t b s

least_width : (t : Table) (o : Option Parameter) (s : Span) → IsParSpan t o s → HasWidth t o s.least
least_width t None s h = h
least_width t (Some (Parameter.Field ty)) s h = ap (λ (x : Span). x.least) h
least_width t (Some (Parameter.Part b)) s h = h.lowest

most_width : (t : Table) (o : Option Parameter) (s : Span) → IsParSpan t o s → HasWidth t o s.most
most_width t None s h = h
most_width t (Some (Parameter.Field ty)) s h = ap (λ (x : Span). x.most) h
most_width t (Some (Parameter.Part b)) s h = h.highest

-- the arguments are between
filled_between : (args : Arguments) (t : Table) (pars : List Par) (given : Par → Span) → ((p : Par) → Contains pars p → IsParSpan t (parameter_of t p.ty) (given p)) → Fill t pars args
    → AtMost (par_widths (λ p. (given p).least) pars) (widths (images args)) × AtMost (widths (images args)) (par_widths (λ p. (given p).most) pars)
filled_between NoMore t pars given each h = rw h (tt, tt)
filled_between (Part name x args) t pars given each h =
    let here = subst (λ ps. (p : Par) → Contains ps p → IsParSpan t (parameter_of t p.ty) (given p)) h.3 each in
    let s : IsSpan t h.2 (given h.0) = subst (λ o. IsParSpan t o (given h.0)) h.5 (here h.0 (0, omega arith, refl)) in
    let more = filled_between args t h.1 given (λ q c. here q (behind h.0 h.1 q c)) h.7 in
    let b = s.between x h.6 in
    rw h.3 ((h.4, b.0, more.0), (sym h.4, b.1, more.1))
filled_between (Field name ty z args) t pars given each h =
    let here = subst (λ ps. (p : Par) → Contains ps p → IsParSpan t (parameter_of t p.ty) (given p)) h.2 each in
    let s : given h.0 ≡ span (width_of ty) (width_of ty) = subst (λ o. IsParSpan t o (given h.0)) h.4 (here h.0 (0, omega arith, refl)) in
    let low : (given h.0).least ≡ width_of ty = ap (λ (x : Span). x.least) s in
    let high : (given h.0).most ≡ width_of ty = ap (λ (x : Span). x.most) s in
    let more = filled_between args t h.1 given (λ q c. here q (behind h.0 h.1 q c)) h.6 in
    rw (h.2, below_width (width_of ty)) ((h.3, omega (arith, low), more.0), (sym h.3, omega (arith, high), more.1))

-- what is given by names, and its least and greatest
chosen_span : (f : Span → ℕ) (b : Bool) (s : Span) (o : Option Span) (p : Option ℕ) → f (unwrap_or o (span 0 0)) ≡ unwrap_or p 0 → f (unwrap_or (cond b (Some s) o) (span 0 0)) ≡ unwrap_or (cond b (Some (f s)) p) 0
chosen_span f true s o p h = refl
chosen_span f false s o p h = h

given_part : (f : Span → ℕ) → f (span 0 0) ≡ 0 → (given : Par → Span) (pars : List Par) (name : Text) → f (span_given (par_spans given pars) name) ≡ width_given (par_widths (λ p. f (given p)) pars) name
given_part f none given [] name = none
given_part f none given (p ∷ pars) name =
    chosen_span f (text_eq name p.name.text) (given p) (lookup (text_eq name) (par_spans given pars)) (lookup (text_eq name) (par_widths (λ p. f (given p)) pars)) (given_part f none given pars name)

args_part : (f : Span → ℕ) → f (span 0 0) ≡ 0 → (given : Par → Span) (pars : List Par) (args : List (ℕ × Arg)) → map f (map (λ (comma, a). span_given (par_spans given pars) a.name.text) args) ≡ map (λ (comma, a). width_given (par_widths (λ p. f (given p)) pars) a.name.text) args
args_part f none given pars [] = refl
args_part f none given pars ((comma, a) ∷ args) = rw (given_part f none given pars a.name.text, args_part f none given pars args) refl

text_least : (given : Par → Span) (pars : List Par) (text : Template) → (text_span (span_given (par_spans given pars)) text).least ≡ text_width (par_widths (λ p. (given p).least) pars) text
text_least given pars (template.Plain q) = refl
text_least given pars (template.Part n dot a) = given_part (λ s. s.least) refl given pars n.text
text_least given pars (template.Format at p q args r) = omega (arith, ap (pieces_width (pieces q.text)) (args_part (λ s. s.least) refl given pars args))

text_greatest : (given : Par → Span) (pars : List Par) (text : Template) → (text_span (span_given (par_spans given pars)) text).most ≡ text_width (par_widths (λ p. (given p).most) pars) text
text_greatest given pars (template.Plain q) = refl
text_greatest given pars (template.Part n dot a) = given_part (λ s. s.most) refl given pars n.text
text_greatest given pars (template.Format at p q args r) = omega (arith, ap (pieces_width (pieces q.text)) (args_part (λ s. s.most) refl given pars args))

composed_width : (rule : Rule) (args : Arguments) → length (image (Compose rule args)) ≡ text_width (widths (images args)) rule.image
composed_width rule args = image_text_width rule.image (images args)

and_between : (t : Table) (a : Text) (rule : Rule) (given : Par → Span) → declared t a ≡ Some (Declared.And rule) → ((p : Par) → Contains rule.pars p → IsParSpan t (parameter_of t p.ty) (given p)) → (x : Derivation) → IsDerivation t a x
    → ((text_span (span_given (par_spans given rule.pars)) rule.image).least ≤ length (image x)) × (length (image x) ≤ (text_span (span_given (par_spans given rule.pars)) rule.image).most)
and_between t a rule given is each (Pick n x) h = absurd cc
and_between t a rule given is each (Compose other args) h =
    let e : Some (Declared.And other) ≡ Some (Declared.And rule) = sym h.0 ∙ is in
    let same : other ≡ rule = cc in
    let b = filled_between args t rule.pars given each (subst (λ r. Fill t r.pars args) same h.1) in
    let w : length (image (Compose other args)) ≡ text_width (widths (images args)) rule.image = composed_width other args ∙ ap (λ r. text_width (widths (images args)) r.image) same in
    (omega (arith, w, text_least given rule.pars rule.image, text_most rule.image _ _ b.0), omega (arith, w, text_greatest given rule.pars rule.image, text_most rule.image _ _ b.1))

-- the widths of an and-rule
pub and_span : (t : Table) (a : Text) (rule : Rule) (given : Par → Span) → declared t a ≡ Some (Declared.And rule) → ((p : Par) → Contains rule.pars p → IsParSpan t (parameter_of t p.ty) (given p)) → IsSpan t a (text_span (span_given (par_spans given rule.pars)) rule.image)
and_span t a rule given is each =
    let low = filled t rule.pars (λ p. (given p).least) (λ p c. least_width t (parameter_of t p.ty) (given p) (each p c)) in
    let high = filled t rule.pars (λ p. (given p).most) (λ p c. most_width t (parameter_of t p.ty) (given p) (each p c)) in
    record {
      lowest = (Compose rule low.0, (is, low.1), composed_width rule low.0 ∙ ap (λ ws. text_width ws rule.image) low.2 ∙ sym (text_least given rule.pars rule.image));
      highest = (Compose rule high.0, (is, high.1), composed_width rule high.0 ∙ ap (λ ws. text_width ws rule.image) high.2 ∙ sym (text_greatest given rule.pars rule.image));
      between = and_between t a rule given is each;
    }
