-- The texts that a rule's slots are filled to, and their summary.
use Rattle.std.proofs.Common.{ℕ, suc, ◌≡◌, ◌+◌, ◌≤◌, ◌==◌, ◌||◌, ◌&&◌, nat_le, Bool, true, false, List, [], ◌∷◌, ◌++◌, map, Option, Some, None, unwrap_or, refl, ap, sym, ◌∙◌, arith, if◌then◌else◌, cond, subst, Contains, append-nil, count_by}
use Rattle.std.proofs.lemmas.Bool.{eqb-true}
use Rattle.std.proofs.lemmas.List.Sums.{sum_by-cons}
use Rattle.std.specs.Map.{lookup}
use Rattle.nk_base.specs.Text.{text_eq}
use Rattle.nml_tree.specs.declared.attributes.Arg.{Arg}
use Rattle.nml_tree.specs.declared.attributes.Template.{Template}
use Rattle.nml_tree.specs.declared.attributes.Template.TheVariants as template
use Rattle.nml_tree.specs.declared.tree.Par.{Par}
use Rattle.nml_tree.specs.declared.tree.Desc.{Desc}
use Rattle.nml_tree.specs.Attribute as attribute
use Rattle.nml_tree.specs.Attribute.{FormatPiece, pieces}
use Rattle.nml_tree.specs.Table.{Text, Table, Rule, Declared, Parameter, declared, table, parameter_of}
use Rattle.nml_tree.specs.Derivation.{Arguments, NoMore, Part, Field, Fill}
use Rattle.nml_tree.specs.Mentions.{mentions, actions, is_linear}
use Rattle.nml_tree.specs.Refused.{IsFreeBelow, By_mention}
use Rattle.nml_tree.specs.Template.{put_in, given, text_of}
use Rattle.nml_tree.proofs.SameText.{same_text, text_same, turned}
use Rattle.nml_edges.specs.declared.glyph.Glyph.{Glyph}
use Rattle.nml_edges.specs.declared.glyph.Glyph.TheVariants as glyph
use Rattle.nml_edges.specs.declared.summary.Summary.{Summary}
use Rattle.nml_edges.specs.Glyph.{glyph_of, glyphs, arg_glyphs}
use Rattle.nml_edges.specs.Summary.{one, followed, IsSummary}
use Rattle.nml_edges.specs.Passed.{Slot, Own, Hole, own, holes, slots, along, Texts}
use Rattle.nml_edges.proofs.Texts.{and_parts}
use Rattle.nml_edges.proofs.Ways.{Joined, followed_is, one_is, same_texts}

app_assoc : {A : Type 0} (xs ys zs : List A) → (xs ++ ys) ++ zs ≡ xs ++ (ys ++ zs)
app_assoc [] ys zs = refl
app_assoc (x ∷ xs) ys zs = ap (λ z. x ∷ z) (app_assoc xs ys zs)

-- the texts that slots may be filled to, where each name may give some
abbrev pub Made : (Text → List Glyph → Type 0) → List Slot → List Glyph → Type 0
Made P [] gs = gs ≡ []
Made P (Own g ∷ ss) gs = Joined (λ u. u ≡ g ∷ []) (Made P ss) gs
Made P (Hole n ∷ ss) gs = Joined (P n) (Made P ss) gs

assoc_back : (A B C : List Glyph → Type 0) (gs : List Glyph) → Joined A (Joined B C) gs → Joined (Joined A B) C gs
assoc_back A B C gs j = record {
  front = j.front ++ j.of_back.front;
  back = j.of_back.back;
  of_front = record { front = j.front; back = j.of_back.front; of_front = j.of_front; of_back = j.of_back.of_front; is = refl };
  of_back = j.of_back.of_back;
  is = j.is ∙ ap (λ z. j.front ++ z) j.of_back.is ∙ sym (app_assoc j.front j.of_back.front j.of_back.back);
}

assoc_forth : (A B C : List Glyph → Type 0) (gs : List Glyph) → Joined (Joined A B) C gs → Joined A (Joined B C) gs
assoc_forth A B C gs j = record {
  front = j.of_front.front;
  back = j.of_front.back ++ j.back;
  of_front = j.of_front.of_front;
  of_back = record { front = j.of_front.back; back = j.back; of_front = j.of_front.of_back; of_back = j.of_back; is = refl };
  is = j.is ∙ ap (λ z. z ++ j.back) j.of_front.is ∙ app_assoc j.of_front.front j.of_front.back j.back;
}

pub along_is : (P : Text → List Glyph → Type 0) (of : Text → Summary) → ((n : Text) → IsSummary (P n) (of n)) → ((n : Text) → (gs : List Glyph) × P n gs)
    → (ss : List Slot) (L : List Glyph → Type 0) (m : Summary) → IsSummary L m → IsSummary (Joined L (Made P ss)) (along of m ss)
along_is P of sums some [] L m s =
    same_texts L (Joined L (Made P [])) m (λ gs h. record { front = gs; back = []; of_front = h; of_back = refl; is = sym (append-nil gs) })
    (λ gs j. subst L (sym (j.is ∙ ap (λ z. j.front ++ z) j.of_back ∙ append-nil j.front)) j.of_front) s
along_is P of sums some (Own g ∷ ss) L m s =
    same_texts (Joined (Joined L (λ u. u ≡ g ∷ [])) (Made P ss)) (Joined L (Made P (Own g ∷ ss))) (along of (followed m (one g)) ss)
    (assoc_forth L (λ u. u ≡ g ∷ []) (Made P ss)) (assoc_back L (λ u. u ≡ g ∷ []) (Made P ss))
    (along_is P of sums some ss (Joined L (λ u. u ≡ g ∷ [])) (followed m (one g)) (followed_is L (λ u. u ≡ g ∷ []) m (one g) s (one_is g) (g ∷ []) refl))
along_is P of sums some (Hole n ∷ ss) L m s =
    same_texts (Joined (Joined L (P n)) (Made P ss)) (Joined L (Made P (Hole n ∷ ss))) (along of (followed m (of n)) ss)
    (assoc_forth L (P n) (Made P ss)) (assoc_back L (P n) (Made P ss))
    (along_is P of sums some ss (Joined L (P n)) (followed m (of n)) (followed_is L (P n) m (of n) s (sums n) (some n).0 (some n).1))

pub along_same : (f g : Text → Summary) → ((n : Text) → f n ≡ g n) → (m : Summary) (ss : List Slot) → along f m ss ≡ along g m ss
along_same f g same m [] = refl
along_same f g same m (Own x ∷ ss) = along_same f g same (followed m (one x)) ss
along_same f g same m (Hole n ∷ ss) = ap (λ z. along f (followed m z) ss) (same n) ∙ along_same f g same (followed m (g n)) ss

-- the slots with what is given for each name
abbrev pub filled : List (Text × List Glyph) → List Slot → List Glyph
filled E [] = []
filled E (Own g ∷ ss) = g ∷ filled E ss
filled E (Hole n ∷ ss) = given E n ++ filled E ss

filled_plain : (E : List (Text × List Glyph)) (cs : List ℕ) → filled E (map own cs) ≡ map glyph_of cs
filled_plain E [] = refl
filled_plain E (c ∷ cs) = ap (λ z. glyph_of c ∷ z) (filled_plain E cs)

filled_put : (E : List (Text × List Glyph)) (ps : List FormatPiece) (args : List (ℕ × Arg)) → filled E (put_in own ps (holes args)) ≡ put_in glyph_of ps (map (λ (comma, a). given E a.name.text) args)
filled_put E [] args = refl
filled_put E (attribute.Letter c ∷ ps) args = ap (λ z. glyph_of c ∷ z) (filled_put E ps args)
filled_put E (attribute.Directive ds l ∷ ps) [] = filled_put E ps []
filled_put E (attribute.Directive ds l ∷ ps) (a ∷ args) = ap (λ z. given E a.1.name.text ++ z) (filled_put E ps args)

pub filled_text : (E : List (Text × List Glyph)) (t : Template) → filled E (slots t) ≡ text_of glyph_of E t
filled_text E (template.Plain q) = filled_plain E q.text
filled_text E (template.Part n dot a) = append-nil (given E n.text)
filled_text E (template.Format at p q args r) = filled_put E (pieces q.text) args

-- the texts that may stand for a parameter
abbrev pub OfParameter : Table → Option Parameter → List Glyph → Type 0
OfParameter t None gs = ⊥
OfParameter t (Some (Parameter.Field ty)) gs = gs ≡ glyph.Number ∷ []
OfParameter t (Some (Parameter.Part b)) gs = (us : List Glyph) × Texts t b us × (gs ≡ glyph.Seam ∷ (us ++ glyph.Seam ∷ []))

abbrev pub Choice : Bool → Type 0 → Type 0 → Type 0
Choice true A B = A
Choice false A B = B

abbrev pub Gives : Table → List Par → Text → List Glyph → Type 0
Gives t [] n gs = gs ≡ []
Gives t (p ∷ ps) n gs = Choice (text_eq n p.name.text) (OfParameter t (parameter_of t p.ty) gs) (Gives t ps n gs)

pub gives_given : (t : Table) (args : Arguments) (pars : List Par) → Fill t pars args → (n : Text) → Gives t pars n (given (arg_glyphs args) n)
gives_given t NoMore pars h n = rw h refl
gives_given t (Part name d args) pars (p, others, rule, is, same, part, der, more) n =
    rw (is, same) (by (text_eq n name) (gives_given t args others more n))
  where
    by : (b : Bool) → Gives t others n (given (arg_glyphs args) n)
        → Choice b (OfParameter t (parameter_of t p.ty) (unwrap_or (cond b (Some (glyph.Seam ∷ (glyphs d ++ glyph.Seam ∷ []))) (lookup (text_eq n) (arg_glyphs args))) []))
        (Gives t others n (unwrap_or (cond b (Some (glyph.Seam ∷ (glyphs d ++ glyph.Seam ∷ []))) (lookup (text_eq n) (arg_glyphs args))) []))
    by true rest = rw part (glyphs d, (d, der, refl), refl)
    by false rest = rest
gives_given t (Field name ty z args) pars (p, others, is, same, field, range, more) n =
    rw (is, same) (by (text_eq n name) (gives_given t args others more n))
  where
    by : (b : Bool) → Gives t others n (given (arg_glyphs args) n)
        → Choice b (OfParameter t (parameter_of t p.ty) (unwrap_or (cond b (Some (glyph.Number ∷ [])) (lookup (text_eq n) (arg_glyphs args))) []))
        (Gives t others n (unwrap_or (cond b (Some (glyph.Number ∷ [])) (lookup (text_eq n) (arg_glyphs args))) []))
    by true rest = rw field refl
    by false rest = rest

-- arguments make such a text
given_made : (P : Text → List Glyph → Type 0) (E : List (Text × List Glyph)) → ((n : Text) → P n (given E n)) → (ss : List Slot) → Made P ss (filled E ss)
given_made P E h [] = refl
given_made P E h (Own g ∷ ss) = record { front = g ∷ []; back = filled E ss; of_front = refl; of_back = given_made P E h ss; is = refl }
given_made P E h (Hole n ∷ ss) = record { front = given E n; back = filled E ss; of_front = h n; of_back = given_made P E h ss; is = refl }

pub filled_made : (t : Table) (args : Arguments) (pars : List Par) (ss : List Slot) → Fill t pars args → Made (Gives t pars) ss (filled (arg_glyphs args) ss)
filled_made t args pars ss fill = given_made (Gives t pars) (arg_glyphs args) (gives_given t args pars fill) ss

-- and each such text is made by arguments: one name after the other
abbrev pub is_par : List Par → Text → Bool
is_par [] n = false
is_par (p ∷ ps) n = text_eq n p.name.text || is_par ps n

pub record Changed (t : Table) (pars : List Par) (args : Arguments) (n : Text) (u : List Glyph) : Type 0 where
  pub new : Arguments
  pub fill : Fill t pars new
  pub here : given (arg_glyphs new) n ≡ u
  pub others : (m : Text) → text_eq m n ≡ false → given (arg_glyphs new) m ≡ given (arg_glyphs args) m
  pub same : is_par pars n ≡ false → new ≡ args

skip : (X : List Glyph) (E F : List (Text × List Glyph)) (name m : Text) → given E m ≡ given F m → given ((name, X) ∷ E) m ≡ given ((name, X) ∷ F) m
skip X E F name m h = by (text_eq m name)
  where
    by : (b : Bool) → unwrap_or (cond b (Some X) (lookup (text_eq m) E)) [] ≡ unwrap_or (cond b (Some X) (lookup (text_eq m) F)) []
    by true = refl
    by false = h

or_false_right : (a b : Bool) → (a || b) ≡ false → b ≡ false
or_false_right true b h = absurd cc
or_false_right false b h = h

change : (t : Table) (args : Arguments) (pars : List Par) → Fill t pars args → (n : Text) (u : List Glyph) → Gives t pars n u → Changed t pars args n u
change t NoMore pars h n u g = record {
  new = NoMore;
  fill = h;
  here = sym (subst (λ ps. Gives t ps n u) h g);
  others = λ m f. refl;
  same = λ f. refl;
}
change t (Part name d args) pars (p, others, rule, is, same, part, der, more) n u g =
    by (text_eq n name) refl
    (subst (λ x. Choice (text_eq n x) (OfParameter t (Some (Parameter.Part rule)) u) (Gives t others n u)) same
    (subst (λ o. Choice (text_eq n p.name.text) (OfParameter t o u) (Gives t others n u)) part (subst (λ ps. Gives t ps n u) is g)))
    (λ k. change t args others more n u k)
  where
    by : (b : Bool) → text_eq n name ≡ b → Choice b (OfParameter t (Some (Parameter.Part rule)) u) (Gives t others n u) → (Gives t others n u → Changed t others args n u) → Changed t pars (Part name d args) n u
    by true e (us, (new, right, text), made) rest = record {
      new = Part name new args;
      fill = (p, others, rule, is, same, part, right, more);
      here = rw e (ap (λ z. glyph.Seam ∷ (z ++ glyph.Seam ∷ [])) text ∙ sym made);
      others = λ m f. (let k : text_eq m name ≡ false = subst (λ x. text_eq m x ≡ false) (same_text n name e) f in rw k refl);
      same = λ f. (let k : (text_eq n p.name.text || is_par others n) ≡ false = subst (λ ps. is_par ps n ≡ false) is f in let j : (text_eq n name || is_par others n) ≡ false = subst (λ x. (text_eq n x || is_par others n) ≡ false) same k in absurd cc);
    }
    by false e k rest = (let r = rest k in record {
      new = Part name d r.new;
      fill = (p, others, rule, is, same, part, der, r.fill);
      here = rw e r.here;
      others = λ m f. skip (glyph.Seam ∷ (glyphs d ++ glyph.Seam ∷ [])) (arg_glyphs r.new) (arg_glyphs args) name m (r.others m f);
      same = λ f. ap (λ a. Part name d a) (r.same (or_false_right (text_eq n p.name.text) (is_par others n) (subst (λ ps. is_par ps n ≡ false) is f)));
    })
change t (Field name ty z args) pars (p, others, is, same, field, range, more) n u g =
    by (text_eq n name) refl
    (subst (λ x. Choice (text_eq n x) (OfParameter t (Some (Parameter.Field ty)) u) (Gives t others n u)) same
    (subst (λ o. Choice (text_eq n p.name.text) (OfParameter t o u) (Gives t others n u)) field (subst (λ ps. Gives t ps n u) is g)))
    (λ k. change t args others more n u k)
  where
    by : (b : Bool) → text_eq n name ≡ b → Choice b (OfParameter t (Some (Parameter.Field ty)) u) (Gives t others n u) → (Gives t others n u → Changed t others args n u) → Changed t pars (Field name ty z args) n u
    by true e made rest = record {
      new = Field name ty z args;
      fill = (p, others, is, same, field, range, more);
      here = rw e (sym made);
      others = λ m f. refl;
      same = λ f. refl;
    }
    by false e k rest = (let r = rest k in record {
      new = Field name ty z r.new;
      fill = (p, others, is, same, field, range, r.fill);
      here = rw e r.here;
      others = λ m f. skip (glyph.Number ∷ []) (arg_glyphs r.new) (arg_glyphs args) name m (r.others m f);
      same = λ f. ap (λ a. Field name ty z a) (r.same (or_false_right (text_eq n p.name.text) (is_par others n) (subst (λ ps. is_par ps n ≡ false) is f)));
    })

-- no slot has this name
abbrev pub Absent : Text → List Slot → Type 0
Absent n [] = Unit {0}
Absent n (Own g ∷ ss) = Absent n ss
Absent n (Hole m ∷ ss) = (text_eq m n ≡ false) × Absent n ss

-- each parameter has one slot at most
abbrev pub Once : List Par → List Slot → Type 0
Once pars [] = Unit {0}
Once pars (Own g ∷ ss) = Once pars ss
Once pars (Hole n ∷ ss) = (is_par pars n ≡ true → Absent n ss) × Once pars ss

filled_same : (E F : List (Text × List Glyph)) (n : Text) (ss : List Slot) → Absent n ss → ((m : Text) → text_eq m n ≡ false → given E m ≡ given F m) → filled E ss ≡ filled F ss
filled_same E F n [] a same = refl
filled_same E F n (Own g ∷ ss) a same = ap (λ z. g ∷ z) (filled_same E F n ss a same)
filled_same E F n (Hole m ∷ ss) (f, a) same = ap (λ z. z ++ filled E ss) (same m f) ∙ ap (λ z. given F m ++ z) (filled_same E F n ss a same)

pub record Filled (t : Table) (pars : List Par) (ss : List Slot) (gs : List Glyph) : Type 0 where
  pub args : Arguments
  pub fill : Fill t pars args
  pub is : filled (arg_glyphs args) ss ≡ gs

pub choose : (t : Table) (pars : List Par) (some : Arguments) → Fill t pars some → (ss : List Slot) → Once pars ss → (gs : List Glyph) → Made (Gives t pars) ss gs → Filled t pars ss gs
choose t pars some fill [] o gs h = record { args = some; fill = fill; is = sym h }
choose t pars some fill (Own g ∷ ss) o gs j =
    let r = choose t pars some fill ss o j.back j.of_back in
    record { args = r.args; fill = r.fill; is = ap (λ z. g ∷ z) r.is ∙ sym (j.is ∙ ap (λ z. z ++ j.back) j.of_front) }
choose t pars some fill (Hole n ∷ ss) o gs j =
    let r = choose t pars some fill ss o.1 j.back j.of_back in
    let c = change t r.args pars r.fill n j.front j.of_front in
    record {
      args = c.new;
      fill = c.fill;
      is = ap (λ z. z ++ filled (arg_glyphs c.new) ss) c.here ∙ ap (λ z. j.front ++ z) (kept t pars r.args n j.front c ss o.0 ∙ r.is) ∙ sym j.is;
    }
  where
    kept : (t : Table) (pars : List Par) (args : Arguments) (n : Text) (u : List Glyph) (c : Changed t pars args n u) (ss : List Slot) → (is_par pars n ≡ true → Absent n ss) → filled (arg_glyphs c.new) ss ≡ filled (arg_glyphs args) ss
    kept t pars args n u c ss absent = by (is_par pars n) refl
      where
        by : (b : Bool) → is_par pars n ≡ b → filled (arg_glyphs c.new) ss ≡ filled (arg_glyphs args) ss
        by true e = filled_same (arg_glyphs c.new) (arg_glyphs args) n ss (absent e) c.others
        by false e = ap (λ a. filled (arg_glyphs a) ss) (c.same e)

-- how many slots have the name
abbrev count : Text → List Slot → ℕ
count n [] = 0
count n (Own g ∷ ss) = count n ss
count n (Hole m ∷ ss) = (if text_eq n m then 1 else 0) + count n ss

absent_is : (n : Text) (ss : List Slot) → count n ss ≡ 0 → Absent n ss
absent_is n [] h = tt
absent_is n (Own g ∷ ss) h = absent_is n ss h
absent_is n (Hole m ∷ ss) h = by (text_eq n m) refl h (absent_is n ss)
  where
    by : (b : Bool) → text_eq n m ≡ b → (if b then 1 else 0) + count n ss ≡ 0 → (count n ss ≡ 0 → Absent n ss) → (text_eq m n ≡ false) × Absent n ss
    by true e k rest = absurd (omega (arith, k))
    by false e k rest = (turned m n ∙ e, rest (omega (arith, k)))

once_is : (pars : List Par) (ss : List Slot) → ((n : Text) → is_par pars n ≡ true → count n ss ≤ 1) → Once pars ss
once_is pars [] h = tt
once_is pars (Own g ∷ ss) h = once_is pars ss h
once_is pars (Hole m ∷ ss) h = (
  λ p. absent_is m ss (let l : (if text_eq m m then 1 else 0) + count m ss ≤ 1 = h m p in let k : 1 + count m ss ≤ 1 = subst (λ b. (if b then 1 else 0) + count m ss ≤ 1) (text_same m) l in omega (arith, k)),
  once_is pars ss (λ n p. let l = h n p in less (text_eq n m) (count n ss) l),
)
  where
    less : (b : Bool) (k : ℕ) → (if b then 1 else 0) + k ≤ 1 → k ≤ 1
    less true k l = omega (arith, l)
    less false k l = omega (arith, l)

abbrev times : Text → List (ℕ × Arg) → ℕ
times n [] = 0
times n (a ∷ args) = (if text_eq n a.1.name.text then 1 else 0) + times n args

times_is : (n : Text) (args : List (ℕ × Arg)) → count_by (λ x. text_eq n x.text) (map (λ (comma, a). a.name) args) ≡ times n args
times_is n [] = refl
times_is n (a ∷ args) = sum_by-cons (λ x. cond (text_eq n x.text) 1 0) a.1.name (map (λ (comma, a). a.name) args) ∙ ap (λ z. (if text_eq n a.1.name.text then 1 else 0) + z) (times_is n args)

count_put : (n : Text) (ps : List FormatPiece) (args : List (ℕ × Arg)) → count n (put_in own ps (holes args)) ≤ times n args
count_put n [] args = omega arith
count_put n (attribute.Letter c ∷ ps) args = count_put n ps args
count_put n (attribute.Directive ds l ∷ ps) [] = count_put n ps []
count_put n (attribute.Directive ds l ∷ ps) (a ∷ args) = let k = count_put n ps args in more (if text_eq n a.1.name.text then 1 else 0) (count n (put_in own ps (holes args))) (times n args) k
  where
    more : (x y z : ℕ) → y ≤ z → x + y ≤ x + z
    more x y z h = omega (arith, h)

count_plain : (n : Text) (cs : List ℕ) → count n (map own cs) ≡ 0
count_plain n [] = refl
count_plain n (c ∷ cs) = count_plain n cs

count_text : (n : Text) (t : Template) → count n (slots t) ≤ mentions n t
count_text n (template.Plain q) = let e = count_plain n q.text in omega (arith, e)
count_text n (template.Part x dot a) = by (text_eq n x.text)
  where
    by : (b : Bool) → (if b then 1 else 0) + 0 ≤ 0 + cond b 1 0
    by true = omega arith
    by false = omega arith
count_text n (template.Format at p q args r) = let k = count_put n (pieces q.text) args in let e = times_is n args in omega (arith, k, e)

-- a rule without faults of mentions
named_in : (pars : List Par) (n : Text) → is_par pars n ≡ true → Contains (map (λ (q : Par). q.name.text) pars) n
named_in [] n h = absurd cc
named_in (p ∷ ps) n h = by (text_eq n p.name.text) refl h (named_in ps n)
  where
    by : (b : Bool) → text_eq n p.name.text ≡ b → (b || is_par ps n) ≡ true → (is_par ps n ≡ true → Contains (map (λ (q : Par). q.name.text) ps) n) → Contains (map (λ (q : Par). q.name.text) (p ∷ ps)) n
    by true e k rest = (0, omega arith, sym (same_text n p.name.text e))
    by false e k rest = let r = rest k in (suc r.0, omega (arith, r.1), r.2)

pub is_once : (d : Desc) (name : Text) (rule : Rule) → IsFreeBelow 9 d → declared (table d) name ≡ Some (Declared.And rule) → Once rule.pars (slots rule.syntax)
is_once d name rule free is = once_is rule.pars (slots rule.syntax) (λ n p. one_slot n p)
  where
    linear : (n : Text) → is_par rule.pars n ≡ true → is_linear rule n ≡ true
    linear n p = by (is_linear rule n) refl
      where
        by : (b : Bool) → is_linear rule n ≡ b → is_linear rule n ≡ true
        by true e = e
        by false e = absurd (free 8 (omega arith) (By_mention name n (record { rule = rule; is = is; parameter = named_in rule.pars n p; other = e })))

    one_slot : (n : Text) → is_par rule.pars n ≡ true → count n (slots rule.syntax) ≤ 1
    one_slot n p =
        let both = (and_parts ((mentions n rule.syntax == 1) && (mentions n rule.image == 1)) (nat_le (actions n rule.action) 1) (linear n p)).0 in
        let e = eqb-true (mentions n rule.syntax) 1 (and_parts (mentions n rule.syntax == 1) (mentions n rule.image == 1) both).0 in
        let l = count_text n rule.syntax in
        omega (arith, e, l)
