-- Parts of items that are spelled alike before two rests are one, and so are the rests: names, sizes, types, parameters, texts and
-- attributes.
use Rattle.std.proofs.Common.{◌≡◌, ℕ, List, [], ◌∷◌, ◌++◌, Option, Some, None, refl, ap, sym, ◌∙◌, subst, append_assoc}
use Rattle.std.specs.Prelude.{codes, flat_map}
use Rattle.nml_tree.specs.declared.names.Name.{Name}
use Rattle.nml_tree.specs.declared.names.Number.{Number}
use Rattle.nml_tree.specs.declared.names.Quoted.{Quoted}
use Rattle.nml_tree.specs.declared.attributes.Attribute.{Attribute}
use Rattle.nml_tree.specs.declared.attributes.Arg.{Arg}
use Rattle.nml_tree.specs.declared.attributes.Action.{Action}
use Rattle.nml_tree.specs.declared.attributes.Attrs.{Attrs}
use Rattle.nml_tree.specs.declared.tree.Par.{Par}
use Rattle.nml_tree.specs.declared.tree.Pars.{Pars}
use Rattle.nml_tree.specs.declared.tree.Size.{Size}
use Rattle.nml_tree.specs.declared.tree.TypeExpr.{TypeExpr}
use Rattle.readings.specs.Symbol.{Symbol, fixed, beyond}
use Rattle.nml_tree.specs.Block.{block, action_block}
use Rattle.nml_tree.specs.Level.{IsLeveledBlock}
use Rattle.nml_tree.specs.Spell.{name_spelling, size_spelling, type_spelling, block_spelling}
use Rattle.nml_tree.specs.SpellItems.{attribute_spelling, dotted_spelling, arg_spelling, template_spelling, action_spelling, attrs_spelling, par_spelling, further_par_spelling, pars_spelling}
use Rattle.nml_tree.proofs.Back.{one_block}
use Rattle.readings.specs.Reading.{Read, Found, Stuck, read_on, looked_up, behind, mark}
use Rattle.nml_grammar.specs.Reading.{size}
use Rattle.readings.proofs.Symbols.{none_is_none}
use Rattle.nml_grammar.proofs.Flat.{join6}
use Rattle.nml_grammar.proofs.CompleteStatements.{one_block_front}
use Rattle.nml_tree.specs.declared.attributes.Attribute.TheVariants as attribute
use Rattle.nml_tree.specs.declared.attributes.Template.TheVariants as template
use Rattle.nml_tree.specs.declared.tree.Size.TheVariants as size_case
use Rattle.nml_tree.specs.declared.tree.TypeExpr.TheVariants as type_case

-- what is spelled alike before two rests is one, and so are the rests
abbrev pub One : {A : Type 0} → (A → List Symbol) → Type 0
One {A = A} spelled = (x y : A) (r s : List Symbol) → spelled x ++ r ≡ spelled y ++ s → (x ≡ y) × (r ≡ s)

-- what is found is one thing and one rest
found_parts : {A : Type 0} (x y : A) (r s : List Symbol) → Found x r ≡ Found y s → (x ≡ y) × (r ≡ s)
found_parts x y r s e = (cc, cc)

-- so it is with what can be read from its front
one_read : {A : Type 0} (spelled : A → List Symbol) (read : List Symbol → Read A) → ((x : A) (r : List Symbol) → read (spelled x ++ r) ≡ Found x r) → One spelled
one_read spelled read front x y r s e = found_parts x y r s (sym (front x r) ∙ ap read e ∙ front y s)

-- ---- single words, each with what its place makes of it

abbrev placed : {A : Type 0} → ℕ → List Symbol → Option (ℕ → A) → Read A
placed at ss None = Stuck ss
placed at ss (Some make) = Found (make at) ss

abbrev pub word_read : {A : Type 0} → List (List ℕ × (ℕ → A)) → List Symbol → Read A
word_read table [] = Stuck []
word_read table (Symbol.Fixed at text ∷ ss) = placed at ss (looked_up table text)
word_read table (Symbol.Named at text ∷ ss) = Stuck ss
word_read table (Symbol.Number at value ∷ ss) = Stuck ss
word_read table (Symbol.Quoted at text ∷ ss) = Stuck ss

pub one_word : {A : Type 0} (spelled : A → List Symbol) (table : List (List ℕ × (ℕ → A))) → ((x : A) (r : List Symbol) → word_read table (spelled x ++ r) ≡ Found x r) → One spelled
one_word spelled table front = one_read spelled (word_read table) front

-- ---- lists each of whose members begins with the same mark

-- the rest has what each member has in front
ahead : {A : Type 0} (spelled : A → List Symbol) (P : List Symbol → Type 0) → ((x : A) (r : List Symbol) → P (spelled x ++ r)) → (xs : List A) (r : List Symbol) → P r → P (flat_map spelled xs ++ r)
ahead spelled P each [] r h = h
ahead spelled P each (x ∷ xs) r h = subst P (sym (append_assoc (spelled x) (flat_map spelled xs) r)) (each x (flat_map spelled xs ++ r))

-- two such lists before rests without that mark in front are one
pub many : {A : Type 0} (spelled : A → List Symbol) (text : List ℕ) (P : List Symbol → Type 0)
    → ((x : A) (r : List Symbol) → (z : ℕ × List Symbol) × (behind text (spelled x ++ r) ≡ Some z))
    → ((x : A) (r : List Symbol) → P (spelled x ++ r))
    → ((x y : A) (r s : List Symbol) → P r → P s → spelled x ++ r ≡ spelled y ++ s → (x ≡ y) × (r ≡ s))
    → (xs ys : List A) (r s : List Symbol) → behind text r ≡ None → behind text s ≡ None → P r → P s
    → flat_map spelled xs ++ r ≡ flat_map spelled ys ++ s → (xs ≡ ys) × (r ≡ s)
many spelled text P begins each one [] [] r s h i f g e = (refl, e)
many spelled text P begins each one [] (y ∷ ys) r s h i f g e =
    let z = begins y (flat_map spelled ys ++ s) in
    none_is_none z.0 (sym h ∙ ap (behind text) (e ∙ append_assoc (spelled y) (flat_map spelled ys) s) ∙ z.1)
many spelled text P begins each one (x ∷ xs) [] r s h i f g e =
    let z = begins x (flat_map spelled xs ++ r) in
    none_is_none z.0 (sym i ∙ ap (behind text) (sym e ∙ append_assoc (spelled x) (flat_map spelled xs) r) ∙ z.1)
many spelled text P begins each one (x ∷ xs) (y ∷ ys) r s h i f g e =
    let a = one x y (flat_map spelled xs ++ r) (flat_map spelled ys ++ s) (ahead spelled P each xs r f) (ahead spelled P each ys s g)
    (sym (append_assoc (spelled x) (flat_map spelled xs) r) ∙ e ∙ append_assoc (spelled y) (flat_map spelled ys) s) in
    let b = many spelled text P begins each one xs ys r s h i f g a.1 in
    (λ i. a.0 i ∷ b.0 i, b.1)

-- ---- names, numbers, strings, sizes

pub name_is : (n m : Name) → n.at ≡ m.at → n.text ≡ m.text → n ≡ m
name_is n m a b = λ i. record { at = a i; text = b i }

pub number_is : (n m : Number) → n.at ≡ m.at → n.value ≡ m.value → n ≡ m
number_is n m a b = λ i. record { at = a i; value = b i }

quoted_is : (n m : Quoted) → n.at ≡ m.at → n.text ≡ m.text → n ≡ m
quoted_is n m a b = λ i. record { at = a i; text = b i }

pub one_size : One size_spelling
one_size (size_case.Number n) (size_case.Number m) r s e = (ap size_case.Number (number_is n m (cc) (cc)), cc)
one_size (size_case.Name n) (size_case.Name m) r s e = (ap size_case.Name (name_is n m (cc) (cc)), cc)
one_size (size_case.Number n) (size_case.Name m) r s e = absurd (cc)
one_size (size_case.Name n) (size_case.Number m) r s e = absurd (cc)

-- ---- types

-- what stands behind the word of a type: nothing, a size, or two
data Sizes : Type 0 where
  No : (ℕ → TypeExpr) → Sizes
  Single : (ℕ → ℕ → Size → ℕ → TypeExpr) → Sizes
  Double : (ℕ → ℕ → Size → ℕ → Size → ℕ → TypeExpr) → Sizes

-- the words
abbrev words : List (List ℕ × Sizes)
words =
    (codes "bool", No type_case.Bool) ∷ (codes "card", Single type_case.Card) ∷ (codes "int", Single type_case.Int) ∷ (codes "fix", Double type_case.Fix)
    ∷ (codes "float", Double type_case.Float) ∷ []

-- the sizes behind the word
abbrev sized : ℕ → List Symbol → Option Sizes → Read TypeExpr
sized at ss None = Stuck ss
sized at ss (Some (No make)) = Found (make at) ss
sized at ss (Some (Single make)) = read_on (mark (codes "(") ss) (λ p s1. read_on (size s1) (λ n s2. read_on (mark (codes ")") s2) (λ q s3. Found (make at p n q) s3)))
sized at ss (Some (Double make)) =
    read_on (mark (codes "(") ss) (λ p s1. read_on (size s1) (λ n s2. read_on (mark (codes ",") s2)
    (λ c s3. read_on (size s3) (λ m s4. read_on (mark (codes ")") s4) (λ q s5. Found (make at p n c m q) s5)))))

-- the type in front
abbrev type_read : List Symbol → Read TypeExpr
type_read [] = Stuck []
type_read (Symbol.Fixed at text ∷ ss) = sized at ss (looked_up words text)
type_read (Symbol.Named at text ∷ ss) = Found (type_case.Name (record { at = at; text = text })) ss
type_read (Symbol.Number at value ∷ ss) = Stuck ss
type_read (Symbol.Quoted at text ∷ ss) = Stuck ss

-- every type is read from its spelling
type_front : (t : TypeExpr) (r : List Symbol) → type_read (type_spelling t ++ r) ≡ Found t r
type_front (type_case.Bool at) r = refl
type_front (type_case.Card at p (size_case.Number n) q) r = refl
type_front (type_case.Card at p (size_case.Name n) q) r = refl
type_front (type_case.Int at p (size_case.Number n) q) r = refl
type_front (type_case.Int at p (size_case.Name n) q) r = refl
type_front (type_case.Fix at p (size_case.Number n) c (size_case.Number m) q) r = refl
type_front (type_case.Fix at p (size_case.Number n) c (size_case.Name m) q) r = refl
type_front (type_case.Fix at p (size_case.Name n) c (size_case.Number m) q) r = refl
type_front (type_case.Fix at p (size_case.Name n) c (size_case.Name m) q) r = refl
type_front (type_case.Float at p (size_case.Number n) c (size_case.Number m) q) r = refl
type_front (type_case.Float at p (size_case.Number n) c (size_case.Name m) q) r = refl
type_front (type_case.Float at p (size_case.Name n) c (size_case.Number m) q) r = refl
type_front (type_case.Float at p (size_case.Name n) c (size_case.Name m) q) r = refl
type_front (type_case.Name n) r = refl

pub one_type : One type_spelling
one_type = one_read type_spelling type_read type_front

-- ---- parameters

par_is : (p q : Par) → p.name ≡ q.name → p.colon ≡ q.colon → p.ty ≡ q.ty → p ≡ q
par_is p q a b c = λ i. record { name = a i; colon = b i; ty = c i }

one_par : One par_spelling
one_par p q r s e =
    let t = one_type p.ty q.ty r s (cc) in
    (par_is p q (name_is p.name q.name (cc) (cc)) (cc) t.0, t.1)

one_further_par : One further_par_spelling
one_further_par (c, p) (d, q) r s e =
    let t = one_par p q r s (cc) in
    let same : c ≡ d = cc in
    (λ i. (same i, t.0 i), t.1)

-- the parameters between the parentheses, which end where no comma follows
pub one_pars : (a b : Option Pars) (q w : ℕ) (r s : List Symbol) → pars_spelling a ++ (Symbol.Fixed q (codes ")") ∷ r) ≡ pars_spelling b ++ (Symbol.Fixed w (codes ")") ∷ s) → (a ≡ b) × (q ≡ w) × (r ≡ s)
one_pars None None q w r s e = (refl, cc, cc)
one_pars None (Some b) q w r s e = absurd (cc)
one_pars (Some a) None q w r s e = absurd (cc)
one_pars (Some a) (Some b) q w r s e =
    let close : List Symbol = Symbol.Fixed q (codes ")") ∷ r in
    let close2 : List Symbol = Symbol.Fixed w (codes ")") ∷ s in
    let f = one_par a.first b.first (flat_map further_par_spelling a.rest ++ close) (flat_map further_par_spelling b.rest ++ close2)
    (sym (append_assoc (par_spelling a.first) (flat_map further_par_spelling a.rest) close) ∙ e ∙ append_assoc (par_spelling b.first) (flat_map further_par_spelling b.rest) close2) in
    let g = many further_par_spelling (codes ",") (λ _. Unit {0}) (λ x t. ((x.0, par_spelling x.1 ++ t), refl)) (λ x t. tt) (λ x y t u _ _ d. one_further_par x y t u d)
    a.rest b.rest close close2 refl refl tt tt f.1 in
    (λ i. Some (record { first = f.0 i; rest = g.0 i }), cc, cc)

-- ---- texts

-- the two attributes of a part
abbrev attributes : List (List ℕ × (ℕ → Attribute))
attributes = (codes "syntax", attribute.Syntax) ∷ (codes "image", attribute.Image) ∷ []

attribute_front : (a : Attribute) (r : List Symbol) → word_read attributes (attribute_spelling a ++ r) ≡ Found a r
attribute_front (attribute.Syntax at) r = refl
attribute_front (attribute.Image at) r = refl

one_attribute : One attribute_spelling
one_attribute = one_word attribute_spelling attributes attribute_front

-- no dot is in front
abbrev NoDot : List Symbol → Type 0
NoDot ss = behind (codes ".") ss ≡ None

-- an argument's attribute ends where no dot follows
one_dotted : (a b : Option (ℕ × Attribute)) (r s : List Symbol) → NoDot r → NoDot s → dotted_spelling a ++ r ≡ dotted_spelling b ++ s → (a ≡ b) × (r ≡ s)
one_dotted None None r s h i e = (refl, e)
one_dotted None (Some (d, y)) r s h i e = none_is_none (d, attribute_spelling y ++ s) (sym h ∙ ap (behind (codes ".")) e)
one_dotted (Some (d, x)) None r s h i e = none_is_none (d, attribute_spelling x ++ r) (sym i ∙ ap (behind (codes ".")) (sym e))
one_dotted (Some (d, x)) (Some (c, y)) r s h i e =
    let t = one_attribute x y r s (cc) in
    let same : d ≡ c = cc in
    (λ i. Some (same i, t.0 i), t.1)

one_arg : (x y : ℕ × Arg) (r s : List Symbol) → NoDot r → NoDot s → arg_spelling x ++ r ≡ arg_spelling y ++ s → (x ≡ y) × (r ≡ s)
one_arg (c, x) (d, y) r s h i e =
    let t = one_dotted x.attribute y.attribute r s h i (cc) in
    let same : c ≡ d = cc in
    let names = name_is x.name y.name (cc) (cc) in
    (λ i. (same i, record { name = names i; attribute = t.0 i }), t.1)

-- a text, by its first symbol
one_template : One template_spelling
one_template (template.Plain q) (template.Plain w) r s e = (ap template.Plain (quoted_is q w (cc) (cc)), cc)
one_template (template.Part n dot a) (template.Part m dot2 b) r s e =
    let t = one_attribute a b r s (cc) in
    let names = name_is n m (cc) (cc) in
    let dots : dot ≡ dot2 = cc in
    (λ i. template.Part (names i) (dots i) (t.0 i), t.1)
one_template (template.Format at p q args z) (template.Format at2 p2 q2 args2 z2) r s e =
    let close : List Symbol = Symbol.Fixed z (codes ")") ∷ r in
    let close2 : List Symbol = Symbol.Fixed z2 (codes ")") ∷ s in
    let f = many arg_spelling (codes ",") NoDot (λ x t. ((x.0, name_spelling x.1.name ++ dotted_spelling x.1.attribute ++ t), refl)) (λ x t. refl) one_arg args args2 close close2 refl refl refl refl
    (sym (append_assoc (flat_map arg_spelling args) (fixed z (codes ")")) r) ∙ ap (λ ss. beyond (beyond (beyond ss))) e ∙ append_assoc (flat_map arg_spelling args2) (fixed z2 (codes ")")) s) in
    let quotes = quoted_is q q2 (cc) (cc) in
    let ats : at ≡ at2 = cc in
    let ps : p ≡ p2 = cc in
    let ends : z ≡ z2 = cc in
    (λ i. template.Format (ats i) (ps i) (quotes i) (f.0 i) (ends i), cc)
one_template (template.Plain q) y r s e = absurd (cc)
one_template (template.Part n dot a) y r s e = absurd (cc)
one_template (template.Format at p q args z) y r s e = absurd (cc)

-- ---- attributes

-- no action is in front
abbrev pub NoAction : List Symbol → Type 0
NoAction ss = behind (codes "action") ss ≡ None

-- an action, whose statements end before its brace
one_action : (a b : Option Action) (r s : List Symbol) → IsLeveledBlock (action_block a) → IsLeveledBlock (action_block b) → NoAction r → NoAction s → action_spelling a ++ r ≡ action_spelling b ++ s → (a ≡ b) × (r ≡ s)
one_action None None r s l m h i e = (refl, e)
one_action None (Some b) r s l m h i e = none_is_none (b.action, beyond (action_spelling (Some b) ++ s)) (sym h ∙ ap (behind (codes "action")) e)
one_action (Some a) None r s l m h i e = none_is_none (a.action, beyond (action_spelling (Some a) ++ r)) (sym i ∙ ap (behind (codes "action")) (sym e))
one_action (Some a) (Some b) r s l m h i e =
    let close : List Symbol = Symbol.Fixed a.closing (codes "}") ∷ r in
    let close2 : List Symbol = Symbol.Fixed b.closing (codes "}") ∷ s in
    let t = one_block_front (block a.stmts) (block b.stmts) close close2 l m refl refl
    (sym (append_assoc (block_spelling (block a.stmts)) (fixed a.closing (codes "}")) r) ∙ ap (λ ss. beyond (beyond (beyond ss))) e
    ∙ append_assoc (block_spelling (block b.stmts)) (fixed b.closing (codes "}")) s) in
    let stmts : a.stmts ≡ b.stmts = one_block a.stmts b.stmts t.0 in
    let actions : a.action ≡ b.action = cc in
    let marks : a.equals ≡ b.equals = cc in
    let openings : a.opening ≡ b.opening = cc in
    let closings : a.closing ≡ b.closing = cc in
    (λ i. Some (record { action = actions i; equals = marks i; opening = openings i; stmts = stmts i; closing = closings i }), cc)

-- the two texts and the action
pub one_attrs : (a b : Attrs) (r s : List Symbol) → IsLeveledBlock (action_block a.action) → IsLeveledBlock (action_block b.action) → NoAction r → NoAction s → attrs_spelling a ++ r ≡ attrs_spelling b ++ s → (a ≡ b) × (r ≡ s)
one_attrs a b r s l m h i e =
    let behind_a : List Symbol = template_spelling a.image_text ++ (action_spelling a.action ++ r) in
    let behind_b : List Symbol = template_spelling b.image_text ++ (action_spelling b.action ++ s) in
    let f = one_template a.syntax_text b.syntax_text (Symbol.Fixed a.image (codes "image") ∷ Symbol.Fixed a.image_equals (codes "=") ∷ behind_a) (Symbol.Fixed b.image (codes "image") ∷ Symbol.Fixed b.image_equals (codes "=") ∷ behind_b)
    (sym (join6 (template_spelling a.syntax_text) (fixed a.image (codes "image")) (fixed a.image_equals (codes "=")) (template_spelling a.image_text) (action_spelling a.action) r)
    ∙ ap (λ ss. beyond (beyond ss)) e
    ∙ join6 (template_spelling b.syntax_text) (fixed b.image (codes "image")) (fixed b.image_equals (codes "=")) (template_spelling b.image_text) (action_spelling b.action) s) in
    let g = one_template a.image_text b.image_text (action_spelling a.action ++ r) (action_spelling b.action ++ s) (ap (λ ss. beyond (beyond ss)) f.1) in
    let t = one_action a.action b.action r s l m h i g.1 in
    let words : a.syntax ≡ b.syntax = cc in
    let marks : a.syntax_equals ≡ b.syntax_equals = cc in
    let words2 : a.image ≡ b.image = cc in
    let marks2 : a.image_equals ≡ b.image_equals = cc in (
      λ i. record { syntax = words i; syntax_equals = marks i; syntax_text = f.0 i; image = words2 i; image_equals = marks2 i; image_text = g.0 i; action = t.0 i },
      t.1,
    )
