-- Each field stands once in the template of a derivation, and no other number does.
use Rattle.std.proofs.Common.{ℕ, zero, suc, ◌+◌, ◌<◌, ◌≤◌, ◌≡◌, ◌≢◌, refl, sym, ◌∙◌, ap, subst, List, [], ◌∷◌, ◌++◌, append_assoc, length, length-append, map, Some, arith, ◌⊎◌, inl, inr}
use Rattle.std.specs.Prelude.{slice_get}
use Rattle.nk_base.specs.declared.number.Ty.{Ty}
use Rattle.nml_tree.specs.declared.tree.Par.{Par}
use Rattle.nml_tree.specs.LineToken.{LineToken, line_tokens}
use Rattle.nml_tree.specs.Table.{Text, Table}
use Rattle.nml_tree.specs.Derivation.{Derivation, Arguments, Pick, Compose, NoMore, Part, Field, IsDerivation, Fill, fields, fields_of}
use Rattle.nml_tree.specs.Template.{given}
use Rattle.nml_tree.specs.Edge.{Flat, Letter, Number, Seam, flat, flats}
use Rattle.nml_tree.specs.Outline.{OutlineToken, Written, FieldAt, types, types_of, template_behind, template}
use Rattle.nml_outline.proofs.Stands.{Each, each_both, each_text, each_given, OnceIn, once_around, once_text, TypeAt, type_either, type_within, types_long, Outside, outside_front, outside_back, outside_other}
use Rattle.nml_outline.proofs.Stood.{AreApart, HasLinearTexts, Holder, holder_first, holder_rest}
use Rattle.nml_outline.proofs.ShapeWords.{type_get}

-- not the number of this field
abbrev NoNumber : ℕ → Flat → Type 0
NoNumber n (Letter c) = Unit {0}
NoNumber n (Number m) = n ≢ m
NoNumber n Seam = Unit {0}

-- not this field
abbrev pub NotField : ℕ → OutlineToken → Type 0
NotField n (Written t) = Unit {0}
NotField n (FieldAt m) = n ≢ m

seamed : (n : ℕ) (fs : List Flat) → Each (NoNumber n) fs → Each (NoNumber n) (Seam ∷ (fs ++ Seam ∷ []))
seamed n fs h = (tt, each_both (NoNumber n) fs (Seam ∷ []) h (tt, tt))

mutual
  -- a derivation has the numbers of no other fields
  without : (d : Derivation) (m n : ℕ) → Outside n m (length (fields d)) → Each (NoNumber n) (flat m d)
  without (Pick k d) m n h = without d m n h
  without (Compose rule args) m n h = each_text (NoNumber n) Letter rule.syntax (flats m args) (λ c. tt) (λ q. withouts args m n q h)

  withouts : (a : Arguments) (m n : ℕ) (q : Text) → Outside n m (length (fields_of a)) → Each (NoNumber n) (given (flats m a) q)
  withouts NoMore m n q h = tt
  withouts (Part name d args) m n q h =
      let both : Outside n m (length (fields d) + length (fields_of args)) = subst (Outside n m) (length-append (fields d) (fields_of args)) h in
      each_given (NoNumber n) (name, Seam ∷ (flat m d ++ Seam ∷ [])) (flats (m + length (fields d)) args) q (seamed n (flat m d) (without d m n (outside_front n m _ _ both)))
      (withouts args (m + length (fields d)) n q (outside_back n m _ _ both))
  withouts (Field name ty z args) m n q h =
      let one_more : suc (length (fields_of args)) ≡ 1 + length (fields_of args) = omega arith in
      each_given (NoNumber n) (name, Number m ∷ []) (flats (m + 1) args) q (outside_other n m _ h, tt) (withouts args (m + 1) n q (outside_back n m 1 (length (fields_of args)) (subst (Outside n m) one_more h)))

-- the number of the field stands once
abbrev OnceFlat : ℕ → List Flat → Type 0
OnceFlat n fs = OnceIn (NoNumber n) (Number n ∷ []) fs

number_once : (n m : ℕ) → n ≡ m → OnceFlat n (Number m ∷ [])
number_once n m e = record { before = []; behind = []; are = ap (λ k. Number k ∷ []) (sym e); none_before = tt; none_behind = tt }

mutual
  stands : (d : Derivation) (t : Table) (name : Text) (m n : ℕ) (ty : Ty) → HasLinearTexts t → IsDerivation t name d → TypeAt (types d) m n ty → OnceFlat n (flat m d)
  stands (Pick k d) t name m n ty lin h at = stands d t h.0 m n ty lin h.2 at
  stands (Compose rule args) t name m n ty lin h at =
      let one = lin name rule h.0 in
      let p = stands_args args t rule.pars m n ty lin h.1 one.apart at in
      once_text (NoNumber n) (Number n ∷ []) Letter rule.syntax (flats m args) p.name (λ c. tt) (p.mentioned rule.syntax one.once) one.filled p.others p.once

  stands_args : (a : Arguments) (t : Table) (pars : List Par) (m n : ℕ) (ty : Ty) → HasLinearTexts t → Fill t pars a → AreApart pars → TypeAt (types_of a) m n ty → Holder pars (NoNumber n) (Number n ∷ []) (flats m a)
  stands_args NoMore t pars m n ty lin h apart at = absurd at
  stands_args (Part name d args) t pars m n ty lin h apart at =
      let two : AreApart (h.0 ∷ h.1) = subst AreApart h.3 apart in
      let long = types_long d in
      rw h.3 (elim (type_either (types d) (types_of args) m n ty at) [
        | inl here ↦
            let low = type_within (types d) m n ty here in
            holder_first (NoNumber n) (Number n ∷ []) h.0 h.1 name (Seam ∷ (flat m d ++ Seam ∷ [])) (flats (m + length (fields d)) args) h.4
            (once_around (NoNumber n) (Number n ∷ []) (Seam ∷ []) (flat m d) (Seam ∷ []) (tt, tt) (tt, tt) (stands d t h.2 m n ty lin h.6 here))
            (λ r. withouts args (m + length (fields d)) n r (inl (omega (arith, low, long))))
        | inr there ↦
            let further : TypeAt (types_of args) (m + length (fields d)) n ty = subst (λ k. TypeAt (types_of args) (m + k) n ty) long there in
            let low = type_within (types_of args) (m + length (fields d)) n ty further in
            holder_rest (NoNumber n) (Number n ∷ []) h.0 h.1 name (Seam ∷ (flat m d ++ Seam ∷ [])) (flats (m + length (fields d)) args) h.4 two.0
            (seamed n (flat m d) (without d m n (inr (omega (arith, low.0)))))
            (stands_args args t h.1 (m + length (fields d)) n ty lin h.7 two.1 further)
      ])
  stands_args (Field name u z args) t pars m n ty lin h apart (inl at) =
      let e = at.0 in
      rw h.2 (holder_first (NoNumber n) (Number n ∷ []) h.0 h.1 name (Number m ∷ []) (flats (m + 1) args) h.3 (number_once n m at.0) (λ r. withouts args (m + 1) n r (inl (omega (arith, e)))))
  stands_args (Field name u z args) t pars m n ty lin h apart (inr at) =
      let two : AreApart (h.0 ∷ h.1) = subst AreApart h.2 apart in
      let low = type_within (types_of args) (m + 1) n ty at in
      let other : n ≢ m = λ e. omega (arith, e, low.0) in
      rw h.2 (holder_rest (NoNumber n) (Number n ∷ []) h.0 h.1 name (Number m ∷ []) (flats (m + 1) args) h.3 two.0 (other, tt)
      (stands_args args t h.1 (m + 1) n ty lin h.6 two.1 at))

words_without : (n : ℕ) (ts : List LineToken) → Each (NotField n) (map Written ts)
words_without n [] = tt
words_without n (t ∷ ts) = (tt, words_without n ts)

template_without : (n : ℕ) (fs : List Flat) (letters : Text) → Each (NoNumber n) fs → Each (NotField n) (template_behind letters fs)
template_without n [] letters h = words_without n (line_tokens letters)
template_without n (Letter c ∷ fs) letters h = template_without n fs (letters ++ c ∷ []) h.1
template_without n (Seam ∷ fs) letters h = template_without n fs letters h.1
template_without n (Number m ∷ fs) letters h = each_both (NotField n) (map Written (line_tokens letters)) (FieldAt m ∷ template_behind [] fs) (words_without n (line_tokens letters)) (h.0, template_without n fs [] h.1)

-- the field stands once
abbrev OnceToken : ℕ → List OutlineToken → Type 0
OnceToken n ts = OnceIn (NotField n) (FieldAt n ∷ []) ts

template_once : (n : ℕ) (before behind : List Flat) (letters : Text) → Each (NoNumber n) before → Each (NoNumber n) behind → OnceToken n (template_behind letters (before ++ Number n ∷ behind))
template_once n [] behind letters h k =
    record { before = map Written (line_tokens letters); behind = template_behind [] behind; are = refl; none_before = words_without n (line_tokens letters); none_behind = template_without n behind [] k }
template_once n (Letter c ∷ before) behind letters h k = template_once n before behind (letters ++ c ∷ []) h.1 k
template_once n (Seam ∷ before) behind letters h k = template_once n before behind letters h.1 k
template_once n (Number m ∷ before) behind letters h k =
    let o = template_once n before behind [] h.1 k in
    record {
      before = map Written (line_tokens letters) ++ FieldAt m ∷ o.before;
      behind = o.behind;
      are = ap (λ ts. map Written (line_tokens letters) ++ FieldAt m ∷ ts) o.are ∙ sym (append_assoc (map Written (line_tokens letters)) (FieldAt m ∷ o.before) (FieldAt n ∷ o.behind));
      none_before = each_both (NotField n) (map Written (line_tokens letters)) (FieldAt m ∷ o.before) (words_without n (line_tokens letters)) (h.0, o.none_before);
      none_behind = o.none_behind;
    }

-- each field stands once in the template
pub field_once : (t : Table) (name : Text) (d : Derivation) (n : ℕ) → HasLinearTexts t → IsDerivation t name d → n < length (fields d) → OnceIn (NotField n) (FieldAt n ∷ []) (template d)
field_once t name d n lin h low =
    let long = types_long d in
    elim (type_get (types d) 0 n) [
      | inl l ↦ absurd (omega (arith, l))
      | inr r ↦ elim r [
        | inl l ↦ absurd (omega (arith, l, long, low))
        | inr g ↦
            let o = stands d t name 0 n g.0 lin h g.1 in
            subst (λ fs. OnceToken n (template_behind [] fs)) (sym o.are) (template_once n o.before o.behind [] o.none_before o.none_behind)
      ]
    ]

-- and what is no field of it stands nowhere
pub no_field : (d : Derivation) (n : ℕ) → length (fields d) ≤ n → Each (NotField n) (template d)
no_field d n high = template_without n (flat 0 d) [] (without d 0 n (inr (omega (arith, high))))

-- a token that is none of these does not stand among them
pub not_there : (n : ℕ) (ts : List OutlineToken) (i : ℕ) → Each (NotField n) ts → slice_get ts i ≡ Some (FieldAt n) → ⊥
not_there n [] i h e = cc
not_there n (Written t ∷ ts) zero h e = cc
not_there n (FieldAt m ∷ ts) zero h e = h.0 (field_same m n e)
  where
    field_same : (m n : ℕ) → slice_get (FieldAt m ∷ ts) 0 ≡ Some (FieldAt n) → n ≡ m
    field_same m n e = cc
not_there n (t ∷ ts) (suc i) h e = not_there n ts i h.1 e

place_is : (n : ℕ) (before behind : List OutlineToken) (i : ℕ) → Each (NotField n) before → Each (NotField n) behind → slice_get (before ++ FieldAt n ∷ behind) i ≡ Some (FieldAt n) → i ≡ length before
place_is n [] behind zero h k e = refl
place_is n [] behind (suc i) h k e = absurd (not_there n behind i k e)
place_is n (t ∷ before) behind zero h k e = absurd (not_there n (t ∷ []) 0 (h.0, tt) e)
place_is n (t ∷ before) behind (suc i) h k e = ap suc (place_is n before behind i h.1 k e)

stands_there : (n : ℕ) (before behind : List OutlineToken) → slice_get (before ++ FieldAt n ∷ behind) (length before) ≡ Some (FieldAt n)
stands_there n [] behind = refl
stands_there n (t ∷ before) behind = stands_there n before behind

-- the place of a field in the template
pub place_of : (t : Table) (name : Text) (d : Derivation) (n : ℕ) → HasLinearTexts t → IsDerivation t name d → n < length (fields d)
    → (k : ℕ) × (slice_get (template d) k ≡ Some (FieldAt n)) × ((i : ℕ) → slice_get (template d) i ≡ Some (FieldAt n) → i ≡ k)
place_of t name d n lin h low =
    let o = field_once t name d n lin h low in (
      length o.before,
      ap (λ ts. slice_get ts (length o.before)) o.are ∙ stands_there n o.before o.behind,
      λ i e. place_is n o.before o.behind i o.none_before o.none_behind (ap (λ ts. slice_get ts i) (sym o.are) ∙ e),
    )

less_or_not : (n m : ℕ) → (n < m) ⊎ (m ≤ n)
less_or_not n zero = inr (omega arith)
less_or_not zero (suc m) = inl (omega arith)
less_or_not (suc n) (suc m) = elim (less_or_not n m) [ inl h ↦ inl (omega (arith, h)) | inr h ↦ inr (omega (arith, h)) ]

-- a number that stands in the template is that of a field
pub known_field : (d : Derivation) (n i : ℕ) → slice_get (template d) i ≡ Some (FieldAt n) → n < length (fields d)
known_field d n i e = elim (less_or_not n (length (fields d))) [ inl h ↦ h | inr h ↦ absurd (not_there n (template d) i (no_field d n h) e) ]

-- and it stands at one place
pub token_once : (t : Table) (name : Text) (d : Derivation) (n i j : ℕ) → HasLinearTexts t → IsDerivation t name d → slice_get (template d) i ≡ Some (FieldAt n) → slice_get (template d) j ≡ Some (FieldAt n) → i ≡ j
token_once t name d n i j lin h e f = let p = place_of t name d n lin h (known_field d n i e) in p.2 i e ∙ sym (p.2 j f)
