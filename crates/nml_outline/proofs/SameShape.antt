-- Derivations with one list of picks: the same but for the numbers in their fields; so their outlines are one.
use Rattle.std.proofs.Common.{ℕ, suc, ◌+◌, ◌≡◌, refl, sym, ◌∙◌, ap, subst, ℤ, pos, List, [], ◌∷◌, ◌++◌, map, length, length-append, arith, append_assoc}
use Rattle.nml_tree.specs.declared.tree.Par.{Par}
use Rattle.nml_tree.specs.Table.{Text, Table, parameter_of}
use Rattle.nml_tree.specs.Derivation.{Derivation, Arguments, Pick, Compose, NoMore, Part, Field, IsDerivation, Fill, picks, picks_of, fields, fields_of}
use Rattle.nml_tree.specs.Image.{bit, image}
use Rattle.nml_tree.specs.Value.{number_at}
use Rattle.nml_tree.specs.Outline.{outline_bits, mask, fixed_value, HasFixed}
use Rattle.nml_tree.specs.Image.{word_of}
use Rattle.nml_tree.specs.Template.{text_of}
use Rattle.nml_outline.proofs.ExactBits.{ExactBit, Given, BitOf, exact, exacts, with_fields, with_args, fill, forget, outline_is, image_with}
use Rattle.nml_outline.proofs.MaskBits.{Fits, fits_is}
use Rattle.nml_tree.proofs.OneDerivation.{and_no_alternative}

mutual
  pub fields_long : (d : Derivation) (f : ℕ → ℤ) (n : ℕ) → length (fields (with_fields f n d)) ≡ length (fields d)
  fields_long (Pick k d) f n = fields_long d f n
  fields_long (Compose rule args) f n = args_long args f n

  args_long : (a : Arguments) (f : ℕ → ℤ) (n : ℕ) → length (fields_of (with_args f n a)) ≡ length (fields_of a)
  args_long NoMore f n = refl
  args_long (Part name d args) f n =
      length-append (fields (with_fields f n d)) _ ∙ (omega (arith, fields_long d f n, args_long args f (n + length (fields d))) ∙ sym (length-append (fields d) _))
  args_long (Field name ty z args) f n = ap suc (args_long args f (n + 1))

mutual
  -- the bits say nothing of the numbers
  pub exact_with : (d : Derivation) (f : ℕ → ℤ) (m n : ℕ) → exact n (with_fields f m d) ≡ exact n d
  exact_with (Pick k d) f m n = exact_with d f m n
  exact_with (Compose rule args) f m n = ap (λ xs. text_of (λ c. Given (bit c)) xs rule.image) (exacts_with args f m n)

  exacts_with : (a : Arguments) (f : ℕ → ℤ) (m n : ℕ) → exacts n (with_args f m a) ≡ exacts n a
  exacts_with NoMore f m n = refl
  exacts_with (Part name d args) f m n = rw (exact_with d f m n, fields_long d f m, exacts_with args f (m + length (fields d)) (n + length (fields d))) refl
  exacts_with (Field name ty z args) f m n = rw (exacts_with args f (m + 1) (n + 1)) refl

mutual
  pub twice : (d : Derivation) (f g : ℕ → ℤ) (m n : ℕ) → with_fields g n (with_fields f m d) ≡ with_fields g n d
  twice (Pick k d) f g m n = ap (λ x. Pick k x) (twice d f g m n)
  twice (Compose rule args) f g m n = ap (λ x. Compose rule x) (twice_args args f g m n)

  twice_args : (a : Arguments) (f g : ℕ → ℤ) (m n : ℕ) → with_args g n (with_args f m a) ≡ with_args g n a
  twice_args NoMore f g m n = refl
  twice_args (Part name d args) f g m n = rw (twice d f g m n, fields_long d f m, twice_args args f g (m + length (fields d)) (n + length (fields d))) refl
  twice_args (Field name ty z args) f g m n = rw (twice_args args f g (m + 1) (n + 1)) refl

-- the numbers from n on are these
abbrev pub Agrees : (ℕ → ℤ) → ℕ → List ℤ → Type 0
Agrees f n [] = Unit {0}
Agrees f n (z ∷ zs) = (f n ≡ z) × Agrees f (n + 1) zs

pub agrees_front : (xs ys : List ℤ) (f : ℕ → ℤ) (n : ℕ) → Agrees f n (xs ++ ys) → Agrees f n xs
agrees_front [] ys f n h = tt
agrees_front (x ∷ xs) ys f n h = (h.0, agrees_front xs ys f (n + 1) h.1)

pub agrees_back : (xs ys : List ℤ) (f : ℕ → ℤ) (n : ℕ) → Agrees f n (xs ++ ys) → Agrees f (n + length xs) ys
agrees_back [] ys f n h = let e : n ≡ n + 0 = omega arith in subst (λ k. Agrees f k ys) e h
agrees_back (x ∷ xs) ys f n h =
    let e : n + 1 + length xs ≡ n + suc (length xs) = omega arith in subst (λ k. Agrees f k ys) e (agrees_back xs ys f (n + 1) h.1)

mutual
  -- with its own numbers it is itself
  pub itself : (d : Derivation) (f : ℕ → ℤ) (n : ℕ) → Agrees f n (fields d) → with_fields f n d ≡ d
  itself (Pick k d) f n h = ap (λ x. Pick k x) (itself d f n h)
  itself (Compose rule args) f n h = ap (λ x. Compose rule x) (itself_args args f n h)

  itself_args : (a : Arguments) (f : ℕ → ℤ) (n : ℕ) → Agrees f n (fields_of a) → with_args f n a ≡ a
  itself_args NoMore f n h = refl
  itself_args (Part name d args) f n h =
      rw (itself d f n (agrees_front (fields d) (fields_of args) f n h), itself_args args f (n + length (fields d)) (agrees_back (fields d) (fields_of args) f n h)) refl
  itself_args (Field name ty z args) f n h = rw (h.0, itself_args args f (n + 1) h.1) refl

pub agrees_at : (xs : List ℤ) (f : ℕ → ℤ) (n : ℕ) → ((k : ℕ) → f (n + k) ≡ number_at xs k) → Agrees f n xs
agrees_at [] f n h = tt
agrees_at (x ∷ xs) f n h =
    let e : n + 0 ≡ n = omega arith in
    (subst (λ k. f k ≡ x) e (h 0), agrees_at xs f (n + 1) (λ k. let s : n + suc k ≡ n + 1 + k = omega arith in subst (λ j. f j ≡ number_at xs k) s (h (suc k))))

pub own : (d : Derivation) → with_fields (number_at (fields d)) 0 d ≡ d
own d = itself d (number_at (fields d)) 0 (agrees_at (fields d) (number_at (fields d)) 0 (λ k. let e : 0 + k ≡ k = omega arith in ap (number_at (fields d)) e))

-- the image of a derivation is its exact bits with its numbers
pub image_is : (d : Derivation) → image d ≡ map (fill (number_at (fields d))) (exact 0 d)
image_is d = ap image (sym (own d)) ∙ image_with d (number_at (fields d)) 0

filled_fits : (xs : List ExactBit) (f : ℕ → ℤ) → Fits (map forget xs) (map (fill f) xs)
filled_fits [] f = tt
filled_fits (Given b ∷ xs) f = (refl, filled_fits xs f)
filled_fits (BitOf n ty k ∷ xs) f = filled_fits xs f

-- each derivation's image fits its outline
pub image_fits : (d : Derivation) → Fits (outline_bits 0 d) (image d)
image_fits d = rw (outline_is d 0, image_is d) (filled_fits (exact 0 d) (number_at (fields d)))

-- the word of a derivation has the fixed value of its shape under the mask
pub word_has : (d : Derivation) → HasFixed (mask d) (fixed_value d) (word_of d)
word_has d = fits_is (outline_bits 0 d) (image d) (image_fits d)

-- one list of picks: the same with the same numbers
mutual
  alike : (d : Derivation) (t : Table) (name : Text) (e : Derivation) (ps qs : List ℕ) (f : ℕ → ℤ) (n : ℕ) → IsDerivation t name d → IsDerivation t name e → picks d ++ ps ≡ picks e ++ qs → (with_fields f n d ≡ with_fields f n e) × (ps ≡ qs)
  alike (Pick n d) t name (Pick m e) ps qs f j h k pe =
      let n_is : n ≡ m = cc in
      let rest : picks d ++ ps ≡ picks e ++ qs = cc in
      let chosen : h.0 ≡ k.0 = cc in
      let r : (with_fields f j d ≡ with_fields f j e) × (ps ≡ qs) = alike d t h.0 e ps qs f j h.2 (subst (λ x. IsDerivation t x e) (sym chosen) k.2) rest in
      (cc, r.1)
  alike (Pick n d) t name (Compose rule args) ps qs f j h k pe = absurd (and_no_alternative t name n rule h.0 k.0 h.1)
  alike (Compose rule args) t name (Pick n d) ps qs f j h k pe = absurd (and_no_alternative t name n rule k.0 h.0 k.1)
  alike (Compose rule args) t name (Compose rule2 args2) ps qs f j h k pe =
      let same : rule ≡ rule2 = cc in
      let r : (with_args f j args ≡ with_args f j args2) × (ps ≡ qs) = alike_fill args t rule.pars args2 ps qs f j h.1 (subst (λ x. Fill t x args2) (sym (ap (λ x. x.pars) same)) k.1) pe in
      (cc, r.1)

  alike_fill : (a : Arguments) (t : Table) (pars : List Par) (b : Arguments) (ps qs : List ℕ) (f : ℕ → ℤ) (n : ℕ) → Fill t pars a → Fill t pars b → picks_of a ++ ps ≡ picks_of b ++ qs → (with_args f n a ≡ with_args f n b) × (ps ≡ qs)
  alike_fill NoMore t pars NoMore ps qs f j h k pe = (refl, pe)
  alike_fill NoMore t pars (Part name d args) ps qs f j h k pe = absurd cc
  alike_fill NoMore t pars (Field name ty z args) ps qs f j h k pe = absurd cc
  alike_fill (Part name d args) t pars NoMore ps qs f j h k pe = absurd cc
  alike_fill (Field name ty z args) t pars NoMore ps qs f j h k pe = absurd cc
  alike_fill (Part name d args) t pars (Part name2 e args2) ps qs f j h k pe =
      let p_is : h.0 ≡ k.0 = cc in
      let others_is : h.1 ≡ k.1 = cc in
      let name_is : name ≡ name2 = cc in
      let ty_is : parameter_of t h.0.ty ≡ parameter_of t k.0.ty = ap (λ p. parameter_of t p.ty) p_is in
      let rule_is : h.2 ≡ k.2 = cc in
      let g : (with_fields f j d ≡ with_fields f j e) × (picks_of args ++ ps ≡ picks_of args2 ++ qs) =
      alike d t h.2 e (picks_of args ++ ps) (picks_of args2 ++ qs) f j h.6 (subst (λ x. IsDerivation t x e) (sym rule_is) k.6)
      (sym (append_assoc (picks d) (picks_of args) ps) ∙ pe ∙ append_assoc (picks e) (picks_of args2) qs) in
      let long : length (fields d) ≡ length (fields e) = sym (fields_long d f j) ∙ (ap (λ x. length (fields x)) g.0 ∙ fields_long e f j) in
      let r : (with_args f (j + length (fields d)) args ≡ with_args f (j + length (fields d)) args2) × (ps ≡ qs) =
      alike_fill args t h.1 args2 ps qs f (j + length (fields d)) h.7 (subst (λ x. Fill t x args2) (sym others_is) k.7) g.1 in
      let more : with_args f (j + length (fields d)) args ≡ with_args f (j + length (fields e)) args2 = r.0 ∙ ap (λ x. with_args f (j + x) args2) long in
      (cc, r.1)
  alike_fill (Part name d args) t pars (Field name2 ty z args2) ps qs f j h k pe =
      let p_is : h.0 ≡ k.0 = cc in
      let ty_is : parameter_of t h.0.ty ≡ parameter_of t k.0.ty = ap (λ p. parameter_of t p.ty) p_is in absurd cc
  alike_fill (Field name ty z args) t pars (Part name2 d args2) ps qs f j h k pe =
      let p_is : h.0 ≡ k.0 = cc in
      let ty_is : parameter_of t h.0.ty ≡ parameter_of t k.0.ty = ap (λ p. parameter_of t p.ty) p_is in absurd cc
  alike_fill (Field name ty z args) t pars (Field name2 ty2 z2 args2) ps qs f j h k pe =
      let p_is : h.0 ≡ k.0 = cc in
      let others_is : h.1 ≡ k.1 = cc in
      let name_is : name ≡ name2 = cc in
      let ty_is : parameter_of t h.0.ty ≡ parameter_of t k.0.ty = ap (λ p. parameter_of t p.ty) p_is in
      let same : ty ≡ ty2 = cc in
      let r : (with_args f (j + 1) args ≡ with_args f (j + 1) args2) × (ps ≡ qs) = alike_fill args t h.1 args2 ps qs f (j + 1) h.6 (subst (λ x. Fill t x args2) (sym others_is) k.6) pe in
      (cc, r.1)

-- derivations of one shape are the same with the same numbers
pub one_shape : (t : Table) (name : Text) (d e : Derivation) (f : ℕ → ℤ) → IsDerivation t name d → IsDerivation t name e → picks d ≡ picks e → with_fields f 0 d ≡ with_fields f 0 e
one_shape t name d e f h k same = (alike d t name e [] [] f 0 h k (ap (λ xs. xs ++ []) same)).0

-- so they have one list of exact bits
pub one_exact : (t : Table) (name : Text) (d e : Derivation) (n : ℕ) → IsDerivation t name d → IsDerivation t name e → picks d ≡ picks e → exact n d ≡ exact n e
one_exact t name d e n h k same =
    sym (exact_with d (λ i. pos 0) 0 n) ∙ (ap (exact n) (one_shape t name d e (λ i. pos 0) h k same) ∙ exact_with e (λ i. pos 0) 0 n)

-- one outline, and one mask and fixed value
pub one_outline : (t : Table) (name : Text) (d e : Derivation) → IsDerivation t name d → IsDerivation t name e → picks d ≡ picks e → outline_bits 0 d ≡ outline_bits 0 e
one_outline t name d e h k same = outline_is d 0 ∙ (ap (map forget) (one_exact t name d e 0 h k same) ∙ sym (outline_is e 0))
