-- Each field stands once in the image, its bits one behind the other.
use Rattle.std.proofs.Common.{ℕ, zero, suc, ◌+◌, ◌≡◌, ◌≢◌, ◌<◌, ◌≤◌, refl, sym, ◌∙◌, ap, subst, Bool, true, false, List, [], ◌∷◌, ◌++◌, map, length, length-append, Option, Some, arith, append_assoc, ◌⊎◌, inl, inr}
use Rattle.std.specs.Cmp.Lexicographic.{bytes_decides}
use Rattle.std.specs.Prelude.{cond, unwrap_or, count_by}
use Rattle.std.specs.Map.{lookup}
use Rattle.nk_base.specs.Number.{width_of}
use Rattle.nk_base.specs.declared.number.Ty.{Ty}
use Rattle.nk_base.specs.Text.{text_eq}
use Rattle.nml_tree.specs.declared.attributes.Arg.{Arg}
use Rattle.nml_tree.specs.declared.attributes.Template.{Template}
use Rattle.nml_tree.specs.declared.attributes.Template.TheVariants as template
use Rattle.nml_tree.specs.declared.names.Name.{Name}
use Rattle.std.proofs.lemmas.List.Recursion.{is_count_by}
use Rattle.nml_tree.specs.Attribute.{FormatPiece, Letter, Directive, pieces}
use Rattle.nml_tree.specs.Table.{Text}
use Rattle.nml_tree.specs.Mentions.{mentions}
use Rattle.nml_tree.specs.Derivation.{Derivation, Arguments, Pick, Compose, NoMore, Part, Field, fields, fields_of}
use Rattle.nml_tree.specs.Template.{put_in, given, text_of}
use Rattle.nml_tree.specs.Image.{bit}
use Rattle.nml_tree.specs.Outline.{types, types_of}
use Rattle.nml_outline.proofs.ExactBits.{ExactBit, Given, BitOf, exact, exacts, run_below}

-- P at each place
abbrev pub Each : {A : Type 0} → (A → Type 0) → List A → Type 0
Each P [] = Unit {0}
Each P (x ∷ xs) = P x × Each P xs

pub each_both : {A : Type 0} (P : A → Type 0) (xs ys : List A) → Each P xs → Each P ys → Each P (xs ++ ys)
each_both P [] ys h k = k
each_both P (x ∷ xs) ys h k = (h.0, each_both P xs ys h.1 k)

each_put : {A : Type 0} (P : A → Type 0) (letter : ℕ → A) (ps : List FormatPiece) (args : List (ℕ × Arg)) (xs : List (Text × List A)) → ((c : ℕ) → P (letter c)) → ((q : Text) → Each P (given xs q))
    → Each P (put_in letter ps (map (λ (comma, a). given xs a.name.text) args))
each_put P letter [] args xs h k = tt
each_put P letter (Letter c ∷ ps) args xs h k = (h c, each_put P letter ps args xs h k)
each_put P letter (Directive digits l ∷ ps) [] xs h k = each_put P letter ps [] xs h k
each_put P letter (Directive digits l ∷ ps) ((comma, a) ∷ args) xs h k = each_both P (given xs a.name.text) _ (k a.name.text) (each_put P letter ps args xs h k)

each_letter : {A : Type 0} (P : A → Type 0) (letter : ℕ → A) (cs : List ℕ) → ((c : ℕ) → P (letter c)) → Each P (map letter cs)
each_letter P letter [] h = tt
each_letter P letter (c ∷ cs) h = (h c, each_letter P letter cs h)

pub each_text : {A : Type 0} (P : A → Type 0) (letter : ℕ → A) (text : Template) (xs : List (Text × List A)) → ((c : ℕ) → P (letter c)) → ((q : Text) → Each P (given xs q)) → Each P (text_of letter xs text)
each_text P letter (template.Plain q) xs h k = each_letter P letter q.text h
each_text P letter (template.Part n dot a) xs h k = k n.text
each_text P letter (template.Format at p q args r) xs h k = each_put P letter (pieces q.text) args xs h k

-- what the first of these is given, or the others
given_cond : {A : Type 0} (P : List A → Type 0) (b : Bool) (x : List A) (o : Option (List A)) → P x → P (unwrap_or o []) → P (unwrap_or (cond b (Some x) o) [])
given_cond P true x o h k = h
given_cond P false x o h k = k

pub each_given : {A : Type 0} (P : A → Type 0) (x : Text × List A) (xs : List (Text × List A)) (q : Text) → Each P x.1 → Each P (given xs q) → Each P (given (x ∷ xs) q)
each_given P x xs q h k = given_cond (Each P) (text_eq q x.0) x.1 (lookup (text_eq q) xs) h k

-- these stand once, in one run, and around it stands nothing but what P holds of
pub record OnceIn {A : Type 0} (P : A → Type 0) (run xs : List A) : Type 0 where
  pub before : List A
  pub behind : List A
  pub are : xs ≡ before ++ (run ++ behind)
  pub none_before : Each P before
  pub none_behind : Each P behind

once_front : {A : Type 0} (P : A → Type 0) (run ys xs : List A) → Each P ys → OnceIn P run xs → OnceIn P run (ys ++ xs)
once_front P run ys xs h o =
    record { before = ys ++ o.before; behind = o.behind; are = ap (λ z. ys ++ z) o.are ∙ sym (append_assoc ys o.before _); none_before = each_both P ys o.before h o.none_before; none_behind = o.none_behind }

once_back : {A : Type 0} (P : A → Type 0) (run ys xs : List A) → Each P ys → OnceIn P run xs → OnceIn P run (xs ++ ys)
once_back P run ys xs h o =
    record { before = o.before; behind = o.behind ++ ys; are = ap (λ z. z ++ ys) o.are ∙ (append_assoc o.before _ ys ∙ ap (λ z. o.before ++ z) (append_assoc run o.behind ys)); none_before = o.none_before; none_behind = each_both P o.behind ys o.none_behind h }

pub once_around : {A : Type 0} (P : A → Type 0) (run xs ys zs : List A) → Each P xs → Each P zs → OnceIn P run ys → OnceIn P run (xs ++ (ys ++ zs))
once_around P run xs ys zs h k o = once_front P run xs (ys ++ zs) h (once_back P run zs ys k o)

-- no bit of the field n
abbrev pub NotOf : ℕ → ExactBit → Type 0
NotOf n (Given b) = Unit {0}
NotOf n (BitOf m ty k) = n ≢ m

-- at each place
abbrev pub Without : ℕ → List ExactBit → Type 0
Without n xs = Each (NotOf n) xs

-- the field's bits stand once, one behind the other
abbrev pub Once : ℕ → Ty → List ExactBit → Type 0
Once n ty xs = OnceIn (NotOf n) (run_below n ty (width_of ty)) xs

-- a directive for each argument
abbrev pub Enough : {A : Type 0} → List FormatPiece → List A → Type 0
Enough ps [] = Unit {0}
Enough [] (a ∷ args) = ⊥
Enough (Letter c ∷ ps) (a ∷ args) = Enough ps (a ∷ args)
Enough (Directive digits k ∷ ps) (a ∷ args) = Enough ps args

-- where a text takes arguments each has a directive
abbrev pub IsFilled : Template → Type 0
IsFilled (template.Plain q) = Unit {0}
IsFilled (template.Part n dot a) = Unit {0}
IsFilled (template.Format at p q args r) = Enough (pieces q.text) args

split_count : (b : Bool) (k m : ℕ) → cond b (1 + k) k ≡ m → ((b ≡ true) × (suc k ≡ m)) ⊎ ((b ≡ false) × (k ≡ m))
split_count true k m h = inl (refl, omega (arith, h))
split_count false k m h = inr (refl, omega (arith, h))

-- how often the name is among these
abbrev times : Text → List (ℕ × Arg) → ℕ
times q [] = 0
times q ((comma, a) ∷ args) = cond (text_eq q a.name.text) (1 + times q args) (times q args)

-- and among the names alone
abbrev times_in : Text → List Name → ℕ
times_in q [] = 0
times_in q (n ∷ ns) = cond (text_eq q n.text) (1 + times_in q ns) (times_in q ns)

-- P at each place of what the parameters of other names give
abbrev pub Others : {A : Type 0} → (A → Type 0) → Text → List (Text × List A) → Type 0
Others P q xs = (r : Text) → text_eq q r ≡ false → Each P (given xs r)

without_put : {A : Type 0} (P : A → Type 0) (letter : ℕ → A) (ps : List FormatPiece) (args : List (ℕ × Arg)) (xs : List (Text × List A)) (q : Text) → ((c : ℕ) → P (letter c)) → times q args ≡ 0 → Others P q xs
    → Each P (put_in letter ps (map (λ (comma, a). given xs a.name.text) args))
without_put P letter [] args xs q l h k = tt
without_put P letter (Letter c ∷ ps) args xs q l h k = (l c, without_put P letter ps args xs q l h k)
without_put P letter (Directive digits d ∷ ps) [] xs q l h k = without_put P letter ps [] xs q l h k
without_put P letter (Directive digits d ∷ ps) ((comma, a) ∷ args) xs q l h k =
    elim (split_count (text_eq q a.name.text) (times q args) 0 h) [
      | inl s ↦ absurd (omega (arith, s.1))
      | inr s ↦ each_both P (given xs a.name.text) _ (k a.name.text s.0) (without_put P letter ps args xs q l s.1 k)
    ]

once_put : {A : Type 0} (P : A → Type 0) (run : List A) (letter : ℕ → A) (ps : List FormatPiece) (args : List (ℕ × Arg)) (xs : List (Text × List A)) (q : Text) → ((c : ℕ) → P (letter c)) → times q args ≡ 1 → Enough ps args
    → Others P q xs → OnceIn P run (given xs q) → OnceIn P run (put_in letter ps (map (λ (comma, a). given xs a.name.text) args))
once_put P run letter ps [] xs q l h e k o = absurd (omega (arith, h))
once_put P run letter [] (a ∷ args) xs q l h e k o = absurd e
once_put P run letter (Letter c ∷ ps) ((comma, a) ∷ args) xs q l h e k o = once_front P run (letter c ∷ []) _ (l c, tt) (once_put P run letter ps ((comma, a) ∷ args) xs q l h e k o)
once_put P run letter (Directive digits d ∷ ps) ((comma, a) ∷ args) xs q l h e k o =
    elim (split_count (text_eq q a.name.text) (times q args) 1 h) [
      | inl s ↦ once_back P run _ (given xs a.name.text) (without_put P letter ps args xs q l (omega (arith, s.1)) k) (subst (λ r. OnceIn P run (given xs r)) ((bytes_decides q a.name.text).0 s.0) o)
      | inr s ↦ once_front P run (given xs a.name.text) _ (k a.name.text s.0) (once_put P run letter ps args xs q l s.1 e k o)
    ]

mention_is : (q : Text) (ns : List Name) → times_in q ns ≡ count_by (λ n. text_eq q n.text) ns
mention_is q ns = is_count_by (times_in q) (λ n. text_eq q n.text) refl (λ x xs. refl) ns

times_is : (q : Text) (args : List (ℕ × Arg)) → times_in q (map (λ (comma, a). a.name) args) ≡ times q args
times_is q [] = refl
times_is q ((comma, a) ∷ args) = ap (λ m. cond (text_eq q a.name.text) (1 + m) m) (times_is q args)

pub once_text : {A : Type 0} (P : A → Type 0) (run : List A) (letter : ℕ → A) (text : Template) (xs : List (Text × List A)) (q : Text) → ((c : ℕ) → P (letter c)) → mentions q text ≡ 1 → IsFilled text
    → Others P q xs → OnceIn P run (given xs q) → OnceIn P run (text_of letter xs text)
once_text P run letter (template.Plain s) xs q l h e k o = absurd (omega (arith, h))
once_text P run letter (template.Part m dot a) xs q l h e k o =
    elim (split_count (text_eq q m.text) 0 1 (mention_is q (m ∷ []) ∙ h)) [
      | inl s ↦ subst (λ r. OnceIn P run (given xs r)) ((bytes_decides q m.text).0 s.0) o
      | inr s ↦ absurd (omega (arith, s.1))
    ]
once_text P run letter (template.Format at p s args r) xs q l h e k o =
    once_put P run letter (pieces s.text) args xs q l (sym (times_is q args) ∙ (mention_is q (map (λ (comma, a). a.name) args) ∙ h)) e k o

-- the type of the field n, where the first has the number m
abbrev pub TypeAt : List Ty → (m n : ℕ) → Ty → Type 0
TypeAt [] m n ty = ⊥
TypeAt (t ∷ ts) m n ty = ((n ≡ m) × (t ≡ ty)) ⊎ TypeAt ts (m + 1) n ty

pub type_left : (xs ys : List Ty) (m n : ℕ) (ty : Ty) → TypeAt xs m n ty → TypeAt (xs ++ ys) m n ty
type_left [] ys m n ty h = absurd h
type_left (x ∷ xs) ys m n ty (inl h) = inl h
type_left (x ∷ xs) ys m n ty (inr h) = inr (type_left xs ys (m + 1) n ty h)

pub type_right : (xs ys : List Ty) (m n : ℕ) (ty : Ty) → TypeAt ys (m + length xs) n ty → TypeAt (xs ++ ys) m n ty
type_right [] ys m n ty h = let e : m + 0 ≡ m = omega arith in subst (λ k. TypeAt ys k n ty) e h
type_right (x ∷ xs) ys m n ty h =
    let e : m + suc (length xs) ≡ m + 1 + length xs = omega arith in inr (type_right xs ys (m + 1) n ty (subst (λ k. TypeAt ys k n ty) e h))

pub type_either : (xs ys : List Ty) (m n : ℕ) (ty : Ty) → TypeAt (xs ++ ys) m n ty → TypeAt xs m n ty ⊎ TypeAt ys (m + length xs) n ty
type_either [] ys m n ty h = let e : m ≡ m + 0 = omega arith in inr (subst (λ k. TypeAt ys k n ty) e h)
type_either (x ∷ xs) ys m n ty (inl h) = inl (inl h)
type_either (x ∷ xs) ys m n ty (inr h) =
    elim (type_either xs ys (m + 1) n ty h) [
      | inl k ↦ inl (inr k)
      | inr k ↦ let e : m + 1 + length xs ≡ m + suc (length xs) = omega arith in inr (subst (λ j. TypeAt ys j n ty) e k)
    ]

pub type_within : (xs : List Ty) (m n : ℕ) (ty : Ty) → TypeAt xs m n ty → (m ≤ n) × (n < m + length xs)
type_within [] m n ty h = absurd h
type_within (x ∷ xs) m n ty (inl h) = let e = h.0 in (omega (arith, e), omega (arith, e))
type_within (x ∷ xs) m n ty (inr h) = let r = type_within xs (m + 1) n ty h in (omega (arith, r.0), omega (arith, r.1))

mutual
  pub types_long : (d : Derivation) → length (types d) ≡ length (fields d)
  types_long (Pick k d) = types_long d
  types_long (Compose rule args) = types_of_long args

  types_of_long : (a : Arguments) → length (types_of a) ≡ length (fields_of a)
  types_of_long NoMore = refl
  types_of_long (Part name d args) = length-append (types d) _ ∙ (omega (arith, types_long d, types_of_long args) ∙ sym (length-append (fields d) _))
  types_of_long (Field name ty z args) = ap suc (types_of_long args)

-- the field n is none of so many from m on
abbrev pub Outside : (n m long : ℕ) → Type 0
Outside n m long = (n < m) ⊎ (m + long ≤ n)

pub outside_front : (n m a b : ℕ) → Outside n m (a + b) → Outside n m a
outside_front n m a b (inl h) = inl h
outside_front n m a b (inr h) = inr (omega (arith, h))

pub outside_back : (n m a b : ℕ) → Outside n m (a + b) → Outside n (m + a) b
outside_back n m a b (inl h) = inl (omega (arith, h))
outside_back n m a b (inr h) = inr (omega (arith, h))

pub outside_other : (n m a : ℕ) → Outside n m (suc a) → n ≢ m
outside_other n m a (inl h) e = omega (arith, h, e)
outside_other n m a (inr h) e = omega (arith, h, e)

pub run_without : (n m : ℕ) (ty : Ty) (k : ℕ) → n ≢ m → Without n (run_below m ty k)
run_without n m ty zero h = tt
run_without n m ty (suc k) h = (h, run_without n m ty k h)

mutual
  -- a derivation has the bits of no other fields
  pub without : (d : Derivation) (m n : ℕ) → Outside n m (length (fields d)) → Without n (exact m d)
  without (Pick k d) m n h = without d m n h
  without (Compose rule args) m n h = each_text (NotOf n) (λ c. Given (bit c)) rule.image (exacts m args) (λ c. tt) (λ q. withouts args m n q h)

  pub withouts : (a : Arguments) (m n : ℕ) (q : Text) → Outside n m (length (fields_of a)) → Without n (given (exacts m a) q)
  withouts NoMore m n q h = tt
  withouts (Part name d args) m n q h =
      let both : Outside n m (length (fields d) + length (fields_of args)) = subst (Outside n m) (length-append (fields d) (fields_of args)) h in
      each_given (NotOf n) (name, exact m d) (exacts (m + length (fields d)) args) q (without d m n (outside_front n m _ _ both)) (withouts args (m + length (fields d)) n q (outside_back n m _ _ both))
  withouts (Field name ty z args) m n q h =
      let one_more : suc (length (fields_of args)) ≡ 1 + length (fields_of args) = omega arith in
      each_given (NotOf n) (name, run_below m ty (width_of ty)) (exacts (m + 1) args) q (run_without n m ty (width_of ty) (outside_other n m _ h)) (withouts args (m + 1) n q (outside_back n m 1 (length (fields_of args)) (subst (Outside n m) one_more h)))
