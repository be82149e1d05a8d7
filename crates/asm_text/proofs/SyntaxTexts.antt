-- The text of an instruction is of tokens, and of one at least.
use Rattle.std.proofs.Common.{ℕ, zero, suc, ◌+◌, ◌-◌, ◌^◌, ◌<◌, ◌≤◌, ◌==◌, ◌≡◌, refl, sym, ◌∙◌, ap, subst, Bool, true, false, cond, ℤ, pos, negsuc, List, [], ◌∷◌, ◌++◌, append-nil, append_assoc, map, length, drop, Option, Some, None, Contains, codes, arith, inl, inr}
use Rattle.std.specs.Prelude.{◌&&◌, ◌||◌, nat_le, unwrap_or, flat_map, if◌then◌else◌}
use Rattle.std.specs.Char.{is_ascii_digit}
use Rattle.std.specs.Fmt.{decimal, signed_decimal}
use Rattle.std.specs.List.{list_all, prefix_len}
use Rattle.std.specs.Map.{lookup}
use Rattle.std.proofs.lemmas.Bool.{and_parts, and_from, or_parts, or_left, or_right, le-leb}
use Rattle.std.proofs.lemmas.Int.{ints}
use Rattle.std.proofs.lemmas.List.Sums.{prefix_len-le-length}
use Rattle.nk_base.specs.Byte.{is_name_start, is_name_byte, is_blank}
use Rattle.nk_base.specs.Number.{IsTy, InRange}
use Rattle.nk_base.specs.Text.{text_eq}
use Rattle.nk_base.specs.declared.number.Ty.{Ty}
use Rattle.nk_base.specs.declared.number.Ty.TheVariants as tys
use Rattle.nml_line.specs.Pushed.{HasShortNumbers}
use Rattle.nml_tree.specs.declared.attributes.Arg.{Arg}
use Rattle.nml_tree.specs.declared.attributes.Template.{Template}
use Rattle.nml_tree.specs.declared.attributes.Template.TheVariants as template
use Rattle.nml_tree.specs.declared.tree.Par.{Par}
use Rattle.nml_tree.specs.declared.tree.PortWord.{PortWord}
use Rattle.nml_tree.specs.declared.tree.PortWord.TheVariants as port
use Rattle.nml_tree.specs.declared.tree.Item.{Item}
use Rattle.nml_tree.specs.declared.tree.Item.TheVariants as item
use Rattle.nml_tree.specs.declared.tree.Desc.{Desc}
use Rattle.nml_tree.specs.Attribute.{FormatPiece, Letter, Directive, pieces, directive_behind}
use Rattle.nml_tree.specs.Derivation.{Derivation, Arguments, Pick, Compose, NoMore, Part, Field, IsDerivation, Fill, fields}
use Rattle.nml_tree.specs.Directives.{Syntax, Pars, is_allowed, is_mark, are_taken, are_allowed, are_short, are_right, is_right}
use Rattle.nml_tree.specs.Edge as edge
use Rattle.nml_tree.specs.Edge.{Flat, flat, flats, Left, Other, AfterNumber, AfterLetter, is_sign, touch, touch_number, over_seam, touches}
use Rattle.nml_tree.specs.LineToken.{line_tokens}
use Rattle.nml_tree.specs.Outline.{types}
use Rattle.nml_tree.specs.Refused.{IsFreeBelow, By_type, By_edge}
use Rattle.nml_tree.specs.Syntax.{syntax_of}
use Rattle.nml_tree.specs.Table.{Text, Table, Rule, Declared, declared, table, entry, port_of, parameter_of}
use Rattle.nml_tree.specs.Template.{given, put_in, text_of}
use Rattle.nml_tree.specs.TypeFault.{item_places, rule_places, type_fault_places}
use Rattle.nml_tree.specs.Valid.{IsRoot, EdgeFault}
use Rattle.nml_tree.specs.Value.{number_at}
use Rattle.nml_widths.proofs.Fits.{no_left, no_right, unless_none}
use Rattle.attr_exec.proofs.Ports.{placed, flat_none, none_from}
use Rattle.nml_outline.proofs.FlatText.{written, syntax_is}
use Rattle.nml_outline.proofs.LineParts.{begins}
use Rattle.nml_outline.proofs.Premises.{has_types, no_touch}
use Rattle.nml_outline.proofs.ShapesMeet.{own_ranged}
use Rattle.nml_outline.proofs.ShapeWords.{HasTypes, type_get}
use Rattle.nml_outline.proofs.Stands.{types_long}
use Rattle.shape_list.specs.Runs.{AreShort}
use Rattle.shape_list.proofs.Strings.{syntax_short}
use Rattle.asm_lines.specs.Line.{has_short_runs, is_token_byte, are_tokens}
use Rattle.asm_text.proofs.Texts.{all_both, all_weaker}
use Rattle.asm_text.proofs.NumberTexts.{IsShort, decimal_digits, decimal_few, IsShortNumber}
use Rattle.asm_text.proofs.CellValues.{power_short}

-- ---- the numbers in fields

short_in : (ty : Ty) (z : ℤ) → IsTy ty → InRange ty z → IsShortNumber z
short_in tys.Bool (pos n) h r = power_short n 1 (omega arith) (omega (arith, ints, r.1))
short_in (tys.Card w) (pos n) h r = power_short n w h.1 (let l : n < 2 ^ w = omega (arith, ints, r.1) in omega (arith, l))
short_in (tys.Int w) (pos n) h r = power_short n (w - 1) (omega (arith, h.1)) (let l : n < 2 ^ (w - 1) = omega (arith, ints, r.1) in omega (arith, l))
short_in tys.Bool (negsuc n) h r = absurd (omega (arith, ints, r.0))
short_in (tys.Card w) (negsuc n) h r = absurd (omega (arith, ints, r.0))
short_in (tys.Int w) (negsuc n) h r = power_short (suc n) (w - 1) (omega (arith, h.1)) (let l : n < 2 ^ (w - 1) = omega (arith, ints, r.0) in omega (arith, l))

none_at : (zs : List ℤ) (n : ℕ) → length zs ≤ n → number_at zs n ≡ pos 0
none_at [] n h = refl
none_at (z ∷ zs) zero h = absurd (omega (arith, h))
none_at (z ∷ zs) (suc n) h = none_at zs n (omega (arith, h))

-- numbers that a text may have
abbrev AreShortNumbers : (ℕ → ℤ) → Type 0
AreShortNumbers f = (n : ℕ) → IsShortNumber (f n)

fields_short : (t : Table) (name : Text) (x : Derivation) → IsDerivation t name x → HasTypes x → AreShortNumbers (number_at (fields x))
fields_short t name x h types_are n =
    elim (type_get (types x) 0 n) [
      | inl l ↦ absurd (omega (arith, l))
      | inr r ↦ elim r [
        | inl l ↦ (let long = types_long x in subst IsShortNumber (sym (none_at (fields x) n (omega (arith, l, long)))) (omega arith))
        | inr g ↦ short_in g.0 (number_at (fields x) n) (types_are n g.0 g.1) (own_ranged x t name n g.0 h g.1)
      ]
    ]

-- ---- runs of digits

runs_are : (text : Text) → HasShortNumbers text → has_short_runs text ≡ true
runs_are [] h = refl
runs_are (c ∷ cs) h = and_from _ _ (le-leb (prefix_len is_ascii_digit (c ∷ cs)) 38 (h 0)) (runs_are cs (λ k. h (suc k)))

few_short : (xs : Text) → length xs ≤ 38 → has_short_runs xs ≡ true
few_short [] h = refl
few_short (c ∷ cs) h = and_from _ _ (le-leb (prefix_len is_ascii_digit (c ∷ cs)) 38 (let l = prefix_len-le-length is_ascii_digit (c ∷ cs) in omega (arith, l, h))) (few_short cs (omega (arith, h)))

front_run : (us ys : Text) → begins is_ascii_digit ys ≡ false → prefix_len is_ascii_digit (us ++ ys) ≡ prefix_len is_ascii_digit us
front_run [] [] h = refl
front_run [] (y ∷ ys) h = ap (λ b. cond b (1 + prefix_len is_ascii_digit ys) 0) h
front_run (u ∷ us) ys h = ap (λ k. cond (is_ascii_digit u) (1 + k) 0) (front_run us ys h)

last_run : (vs : Text) (c : ℕ) (ys : Text) → is_ascii_digit c ≡ false → prefix_len is_ascii_digit (vs ++ c ∷ [] ++ ys) ≡ prefix_len is_ascii_digit (vs ++ c ∷ [])
last_run [] c ys h = ap (λ b. cond b (1 + prefix_len is_ascii_digit ys) 0) h ∙ sym (ap (λ b. cond b (1 + prefix_len is_ascii_digit []) 0) h)
last_run (v ∷ vs) c ys h = ap (λ k. cond (is_ascii_digit v) (1 + k) 0) (last_run vs c ys h)

-- a text before one that begins with no digit
short_before : (us ys : Text) → has_short_runs us ≡ true → has_short_runs ys ≡ true → begins is_ascii_digit ys ≡ false → has_short_runs (us ++ ys) ≡ true
short_before [] ys h k b = k
short_before (u ∷ us) ys h k b =
    let p = and_parts (nat_le (prefix_len is_ascii_digit (u ∷ us)) 38) (has_short_runs us) h in
    and_from _ _ (ap (λ n. nat_le n 38) (front_run (u ∷ us) ys b) ∙ p.0) (short_before us ys p.1 k b)

-- a text that ends with no digit before another
short_behind : (vs : Text) (c : ℕ) (ys : Text) → is_ascii_digit c ≡ false → has_short_runs (vs ++ c ∷ []) ≡ true → has_short_runs ys ≡ true → has_short_runs (vs ++ c ∷ [] ++ ys) ≡ true
short_behind [] c ys d h k =
    let p = and_parts (nat_le (prefix_len is_ascii_digit (c ∷ [])) 38) true h in and_from _ _ (ap (λ n. nat_le n 38) (last_run [] c ys d) ∙ p.0) k
short_behind (v ∷ vs) c ys d h k =
    let p = and_parts (nat_le (prefix_len is_ascii_digit (v ∷ (vs ++ c ∷ []))) 38) (has_short_runs (vs ++ c ∷ [])) h in
    and_from _ _ (ap (λ n. nat_le n 38) (last_run (v ∷ vs) c ys d) ∙ p.0) (short_behind vs c ys d p.1 k)

number_short : (z : ℤ) → IsShortNumber z → has_short_runs (signed_decimal z) ≡ true
number_short (pos n) low = few_short (decimal n) (decimal_few n low)
number_short (negsuc n) low = few_short (decimal (suc n)) (decimal_few (suc n) low)

-- the last of the letters
abbrev Ends : Left → Text → Type 0
Ends Other ws = ws ≡ []
Ends AfterNumber ws = ws ≡ []
Ends (AfterLetter c seam) ws = (vs : Text) × (ws ≡ vs ++ c ∷ [])

ends_over : (left : Left) (ws : Text) → Ends left ws → Ends (over_seam left) ws
ends_over Other ws h = h
ends_over AfterNumber ws h = h
ends_over (AfterLetter c seam) ws h = h

no_digit : (f : ℕ → ℤ) (fs : List Flat) → touches AfterNumber fs ≡ false → begins is_ascii_digit (written f fs) ≡ false
no_digit f [] h = refl
no_digit f (edge.Letter c ∷ fs) h = (or_parts (is_ascii_digit c) (c == 45) (or_parts (is_sign c) (touches (AfterLetter c false) fs) h).0).0
no_digit f (edge.Number n ∷ fs) h = absurd cc
no_digit f (edge.Seam ∷ fs) h = no_digit f fs h

letters_short : (left : Left) (ws ys : Text) → Ends left ws → touch_number left ≡ false → has_short_runs ws ≡ true → has_short_runs ys ≡ true → has_short_runs (ws ++ ys) ≡ true
letters_short Other ws ys e t h k = rw e k
letters_short AfterNumber ws ys e t h k = rw e k
letters_short (AfterLetter c seam) ws ys e t h k =
    subst (λ us. has_short_runs (us ++ ys) ≡ true) (sym e.1) (short_behind e.0 c ys (or_parts (is_ascii_digit c) (c == 45) t).0 (subst (λ us. has_short_runs us ≡ true) e.1 h) k)

written_short : (fs : List Flat) (left : Left) (ws : Text) (f : ℕ → ℤ) → AreShortNumbers f → Ends left ws → touches left fs ≡ false → AreShort ws fs → has_short_runs (ws ++ written f fs) ≡ true
written_short [] left ws f short e t h = subst (λ us. has_short_runs us ≡ true) (sym (append-nil ws)) (runs_are ws h)
written_short (edge.Letter c ∷ fs) left ws f short e t h =
    subst (λ us. has_short_runs us ≡ true) (append_assoc ws (c ∷ []) (written f fs))
    (written_short fs (AfterLetter c false) (ws ++ c ∷ []) f short (ws, refl) (or_parts (touch left c) (touches (AfterLetter c false) fs) t).1 h)
written_short (edge.Seam ∷ fs) left ws f short e t h = written_short fs (over_seam left) ws f short (ends_over left ws e) t h
written_short (edge.Number n ∷ fs) left ws f short e t h =
    let r = or_parts (touch_number left) (touches AfterNumber fs) t in
    letters_short left ws (signed_decimal (f n) ++ written f fs) e r.0 (runs_are ws h.0)
    (short_before (signed_decimal (f n)) (written f fs) (number_short (f n) (short n)) (written_short fs AfterNumber [] f short refl r.1 h.1) (no_digit f fs r.1))

-- ---- the bytes

widened : (a b x y m : Bool) → (a || b || m) ≡ true → (a || (b || x || y) || m) ≡ true
widened true b x y m h = refl
widened false true x y m h = refl
widened false false x y m h = or_right (x || y) m h

allowed_token : (c : ℕ) → is_allowed Syntax c ≡ true → is_token_byte c ≡ true
allowed_token c h = widened (is_name_byte c) (c == 32) (c == 9) (c == 13) (is_mark c) h

abbrev AreTokens : List Flat → Type 0
AreTokens [] = Unit {0}
AreTokens (edge.Letter c ∷ fs) = (is_token_byte c ≡ true) × AreTokens fs
AreTokens (edge.Number n ∷ fs) = AreTokens fs
AreTokens (edge.Seam ∷ fs) = AreTokens fs

tokens_both : (xs ys : List Flat) → AreTokens xs → AreTokens ys → AreTokens (xs ++ ys)
tokens_both [] ys h k = k
tokens_both (edge.Letter c ∷ xs) ys h k = (h.0, tokens_both xs ys h.1 k)
tokens_both (edge.Number n ∷ xs) ys h k = tokens_both xs ys h k
tokens_both (edge.Seam ∷ xs) ys h k = tokens_both xs ys h k

abbrev AllTokens : List (Text × List Flat) → Type 0
AllTokens [] = Unit {0}
AllTokens (x ∷ xs) = AreTokens x.1 × AllTokens xs

given_tokens : (xs : List (Text × List Flat)) (name : Text) → AllTokens xs → AreTokens (given xs name)
given_tokens [] name h = tt
given_tokens (x ∷ xs) name h = by (text_eq name x.0) (given_tokens xs name h.1)
  where
    by : (b : Bool) → AreTokens (given xs name) → AreTokens (unwrap_or (cond b (Some x.1) (lookup (text_eq name) xs)) [])
    by true more = h.0
    by false more = more

pieces_tokens : (qs : List FormatPiece) (args : List (ℕ × Arg)) (xs : List (Text × List Flat)) → are_allowed Syntax qs ≡ true → AllTokens xs → AreTokens (put_in edge.Letter qs (map (λ (comma, a). given xs a.name.text) args))
pieces_tokens [] args xs h k = tt
pieces_tokens (Letter c ∷ qs) args xs h k = let p = and_parts (is_allowed Syntax c) (are_allowed Syntax qs) h in (allowed_token c p.0, pieces_tokens qs args xs p.1 k)
pieces_tokens (Directive ds l ∷ qs) [] xs h k = pieces_tokens qs [] xs h k
pieces_tokens (Directive ds l ∷ qs) ((comma, a) ∷ args) xs h k = tokens_both (given xs a.name.text) _ (given_tokens xs a.name.text k) (pieces_tokens qs args xs h k)

no_directive : (cs ds : List ℕ) (pars : Pars) → are_taken Syntax pars (directive_behind ds cs) [] ≡ true → are_allowed Syntax (directive_behind ds cs) ≡ true → ⊥
no_directive [] ds pars t a = cc
no_directive (c ∷ cs) ds pars t a = by (is_ascii_digit c) t a (no_directive cs (ds ++ c ∷ []) pars)
  where
    by : (b : Bool) → are_taken Syntax pars (if b then directive_behind (ds ++ c ∷ []) cs else Directive ds c ∷ pieces cs) [] ≡ true → are_allowed Syntax (if b then directive_behind (ds ++ c ∷ []) cs else Directive ds c ∷ pieces cs) ≡ true
        → (are_taken Syntax pars (directive_behind (ds ++ c ∷ []) cs) [] ≡ true → are_allowed Syntax (directive_behind (ds ++ c ∷ []) cs) ≡ true → ⊥) → ⊥
    by true t a rest = rest t a
    by false t a rest = cc

plain_tokens : (text : List ℕ) (pars : Pars) → are_taken Syntax pars (pieces text) [] ≡ true → are_allowed Syntax (pieces text) ≡ true → AreTokens (map edge.Letter text)
plain_tokens [] pars t a = tt
plain_tokens (c ∷ cs) pars t a = by (c == 37) t a (plain_tokens cs pars)
  where
    by : (b : Bool) → are_taken Syntax pars (if b then directive_behind [] cs else Letter c ∷ pieces cs) [] ≡ true → are_allowed Syntax (if b then directive_behind [] cs else Letter c ∷ pieces cs) ≡ true
        → (are_taken Syntax pars (pieces cs) [] ≡ true → are_allowed Syntax (pieces cs) ≡ true → AreTokens (map edge.Letter cs)) → AreTokens (edge.Letter c ∷ map edge.Letter cs)
    by true t a rest = absurd (no_directive cs [] pars t a)
    by false t a rest = let p = and_parts (is_allowed Syntax c) (are_allowed Syntax (pieces cs)) a in (allowed_token c p.0, rest t p.1)

right_parts : (pars : Pars) (qs : List FormatPiece) (args : List (ℕ × Arg)) → are_right Syntax pars qs args ≡ true → (are_taken Syntax pars qs args ≡ true) × (are_allowed Syntax qs ≡ true)
right_parts pars qs args h = and_parts (are_taken Syntax pars qs args) (are_allowed Syntax qs) (and_parts (are_taken Syntax pars qs args && are_allowed Syntax qs) (are_short 0 qs) h).0

text_tokens : (pars : Pars) (xs : List (Text × List Flat)) (t : Template) → AllTokens xs → is_right Syntax pars t ≡ true → AreTokens (text_of edge.Letter xs t)
text_tokens pars xs (template.Plain q) k h = let r = right_parts pars (pieces q.text) [] h in plain_tokens q.text pars r.0 r.1
text_tokens pars xs (template.Part n dot a) k h = given_tokens xs n.text k
text_tokens pars xs (template.Format at p q args r) k h = pieces_tokens (pieces q.text) args xs (right_parts pars (pieces q.text) args h).1 k

abbrev named_pars : Table → List Par → Pars
named_pars t pars = map (λ p. (p.name.text, parameter_of t p.ty)) pars

abbrev AllRight : Table → Type 0
AllRight t = (name : Text) (rule : Rule) → declared t name ≡ Some (Declared.And rule) → is_right Syntax (named_pars t rule.pars) rule.syntax ≡ true

mutual
  flat_tokens : (x : Derivation) (t : Table) (name : Text) (n : ℕ) → AllRight t → IsDerivation t name x → AreTokens (flat n x)
  flat_tokens (Pick k x) t name n right h = flat_tokens x t h.0 n right h.2
  flat_tokens (Compose rule args) t name n right h = text_tokens (named_pars t rule.pars) (flats n args) rule.syntax (flats_tokens args t rule.pars n right h.1) (right name rule h.0)

  flats_tokens : (a : Arguments) (t : Table) (pars : List Par) (n : ℕ) → AllRight t → Fill t pars a → AllTokens (flats n a)
  flats_tokens NoMore t pars n right h = tt
  flats_tokens (Part name x args) t pars n right h = (tokens_both (flat n x) (edge.Seam ∷ []) (flat_tokens x t h.2 n right h.6) tt, flats_tokens args t h.1 (n + length (fields x)) right h.7)
  flats_tokens (Field name u z args) t pars n right h = (tt, flats_tokens args t h.1 (n + 1) right h.6)

digit_tokens : (ds : Text) → list_all is_ascii_digit ds ≡ true → list_all is_token_byte ds ≡ true
digit_tokens ds h =
    all_weaker is_ascii_digit is_token_byte (λ c d. or_left (is_name_byte c || is_blank c) (is_mark c) (or_left (is_name_byte c) (is_blank c) (or_right (is_name_start c) (is_ascii_digit c) d))) ds h

number_tokens : (z : ℤ) → IsShortNumber z → list_all is_token_byte (signed_decimal z) ≡ true
number_tokens (pos n) low = digit_tokens (decimal n) (decimal_digits n low)
number_tokens (negsuc n) low = digit_tokens (decimal (suc n)) (decimal_digits (suc n) low)

written_tokens : (fs : List Flat) (f : ℕ → ℤ) → AreShortNumbers f → AreTokens fs → list_all is_token_byte (written f fs) ≡ true
written_tokens [] f short h = refl
written_tokens (edge.Letter c ∷ fs) f short h = and_from _ _ h.0 (written_tokens fs f short h.1)
written_tokens (edge.Number n ∷ fs) f short h = all_both is_token_byte (signed_decimal (f n)) (written f fs) (number_tokens (f n) (short n)) (written_tokens fs f short h)
written_tokens (edge.Seam ∷ fs) f short h = written_tokens fs f short h

-- ---- the syntax of each rule is right

and_same : (a b : Rule) → Declared.And a ≡ Declared.And b → a ≡ b
and_same a b h = cc

no_port_rule : (t : Table) (w : PortWord) (ty : Ty) (rule : Rule) → port_of t w ty ≡ Declared.And rule → ⊥
no_port_rule t (port.Trn at) ty rule h = cc
no_port_rule t (port.Inp at) ty rule h = cc
no_port_rule t (port.Out at) ty rule h = cc

rule_item : (whole t : Table) (i : Item) (rule : Rule) → (entry t i).1 ≡ Declared.And rule → item_places whole i ≡ [] → rule_places whole rule ≡ []
rule_item whole t (item.Let at n equals minus z) rule e h = absurd cc
rule_item whole t (item.Type at n equals x) rule e h = absurd cc
rule_item whole t (item.Storage s) rule e h = absurd cc
rule_item whole t (item.Port p) rule e h = absurd (no_port_rule t p.word _ rule e)
rule_item whole t (item.OrRule r) rule e h = absurd cc
rule_item whole t (item.OpRule r) rule e h = subst (λ (x : Rule). rule_places whole x ≡ []) (and_same _ rule e) h
rule_item whole t (item.ModeRule r) rule e h = subst (λ (x : Rule). rule_places whole x ≡ []) (and_same _ rule e) h

texts_right : (d : Desc) → IsFreeBelow 12 d → AllRight (table d)
texts_right d free name rule is =
    let places : type_fault_places d ≡ [] = none_from (type_fault_places d) (λ at c. free 6 (omega arith) (By_type at c)) in
    elim (placed d.items [] name (Declared.And rule) is) [
      | inl old ↦ absurd cc
      | inr f ↦
          unless_none _ _
          (no_right _ _
          (no_left _ _
          (no_left _ _ (no_left _ _ (rule_item (table d) f.0 f.1 rule f.5 (flat_none (item_places (table d)) d.items f.1 f.4 places))))))
    ]

-- ---- the text of an instruction

pub syntax_tokens : (d : Desc) (x : Derivation) → IsFreeBelow 12 d → IsRoot (table d) x → are_tokens (syntax_of x) ≡ true
syntax_tokens d x free root =
    let short = fields_short (table d) (codes "instruction") x root (has_types d (λ k low. free k (omega (arith, low))) (codes "instruction") x root) in
    let apart = no_touch d (λ k low. free k (omega (arith, low))) x (codes "instruction") root in
    subst (λ text. are_tokens text ≡ true) (sym (syntax_is x))
    (and_from _ _ (written_tokens (flat 0 x) (number_at (fields x)) short (flat_tokens x (table d) (codes "instruction") 0 (texts_right d free) root))
    (written_short (flat 0 x) Other [] (number_at (fields x)) short refl apart (syntax_short d x free root)))

pub some_token : (d : Desc) (x : Derivation) → IsFreeBelow 12 d → IsRoot (table d) x → line_tokens (syntax_of x) ≡ [] → ⊥
some_token d x free root none = free 10 (omega arith) (By_edge (codes "instruction") (EdgeFault.Silent x refl root none))
