-- What separates tokens: its three forms, and that the bytes determine it.
use Rattle.std.proofs.Common.{◌≡◌, ap, refl, sym, ℕ, eqb, not, ◌&&◌, inl, inr, arith, Bool, true, false, List, [], ◌∷◌, ◌++◌, IsTrue, eqb-true}
use Rattle.std.proofs.lemmas.Bool.{and_parts, or_cases, not-true}
use Rattle.nk_base.specs.Byte.{is_gap}
use Rattle.nml_lex.specs.Form.{is_ended, is_shut, is_line_comment, is_block_comment, is_space}

-- the same bytes in front, and the same rest
pub record Same (a b r s : List ℕ) : Type 0 where
  pub front : a ≡ b
  pub rest : r ≡ s

-- behind the same first byte
more : (c d : ℕ) (a b r s : List ℕ) → c ≡ d → Same a b r s → Same (c ∷ a) (d ∷ b) r s
more c d a b r s e same = let f = same.front in let g = same.rest in record { front = cc; rest = cc }

-- no byte both is a line feed and is none
no_line_feed : (c d : ℕ) (x : Bool) → c ≡ d → eqb c 10 ≡ true → not (eqb d 10) && x ≡ true → ⊥
no_line_feed c d x e h g = let both = and_parts (not (eqb d 10)) x g in let n = not-true (eqb d 10) both.0 in cc

-- a line ends at its first line feed
pub same_ended : (a b r s : List ℕ) → a ++ r ≡ b ++ s → IsTrue (is_ended a) → IsTrue (is_ended b) → Same a b r s
same_ended [] b r s e h g = absurd (cc)
same_ended (c ∷ a) [] r s e h g = absurd (cc)
same_ended (c ∷ []) (d ∷ []) r s e h g = record { front = cc; rest = cc }
same_ended (c ∷ []) (d ∷ f ∷ b) r s e h g = absurd (no_line_feed c d (is_ended (f ∷ b)) (cc) h g)
same_ended (c ∷ f ∷ a) (d ∷ []) r s e h g = absurd (no_line_feed d c (is_ended (f ∷ a)) (cc) g h)
same_ended (c ∷ f ∷ a) (d ∷ g ∷ b) r s e h k =
    more c d (f ∷ a) (g ∷ b) r s (cc) (same_ended (f ∷ a) (g ∷ b) r s (cc) (and_parts (not (eqb c 10)) (is_ended (f ∷ a)) h).1 (and_parts (not (eqb d 10)) (is_ended (g ∷ b)) k).1)

-- no two bytes both are `*/` and are not
no_star : (c d f g : ℕ) (x : Bool) → c ≡ f → d ≡ g → eqb c 42 && eqb d 47 ≡ true → not (eqb f 42 && eqb g 47) && x ≡ true → ⊥
no_star c d f g x e i h k =
    let both = and_parts (not (eqb f 42 && eqb g 47)) x k in
    let n = not-true (eqb f 42 && eqb g 47) both.0 in cc

-- a block comment ends at the first `*/` behind its opening
pub same_shut : (a b r s : List ℕ) → a ++ r ≡ b ++ s → IsTrue (is_shut a) → IsTrue (is_shut b) → Same a b r s
same_shut [] b r s e h k = absurd (cc)
same_shut (c ∷ []) b r s e h k = absurd (cc)
same_shut (c ∷ d ∷ a) [] r s e h k = absurd (cc)
same_shut (c ∷ d ∷ a) (f ∷ []) r s e h k = absurd (cc)
same_shut (c ∷ d ∷ []) (f ∷ g ∷ []) r s e h k = record { front = cc; rest = cc }
same_shut (c ∷ d ∷ []) (f ∷ g ∷ i ∷ b) r s e h k = absurd (no_star c d f g (is_shut (g ∷ i ∷ b)) (cc) (cc) h k)
same_shut (c ∷ d ∷ i ∷ a) (f ∷ g ∷ []) r s e h k = absurd (no_star f g c d (is_shut (d ∷ i ∷ a)) (cc) (cc) k h)
same_shut (c ∷ d ∷ i ∷ a) (f ∷ g ∷ j ∷ b) r s e h k =
    more c f (d ∷ i ∷ a) (g ∷ j ∷ b) r s (cc)
    (same_shut (d ∷ i ∷ a) (g ∷ j ∷ b) r s (cc) (and_parts (not (eqb c 42 && eqb d 47)) (is_shut (d ∷ i ∷ a)) h).1 (and_parts (not (eqb f 42 && eqb g 47)) (is_shut (g ∷ j ∷ b)) k).1)

-- a space is one blank, or a comment of either kind
pub data Form (text : List ℕ) : Type 0 where
  Blank : (c : ℕ) → text ≡ c ∷ [] → is_gap c ≡ true → Form text
  Line : (body : List ℕ) → text ≡ 47 ∷ 47 ∷ body → IsTrue (is_ended body) → Form text
  Block : (body : List ℕ) → text ≡ 47 ∷ 42 ∷ body → IsTrue (is_shut body) → Form text

line_form : (c d : ℕ) (body : List ℕ) → eqb c 47 && eqb d 47 && is_ended body ≡ true → Form (c ∷ d ∷ body)
line_form c d body h =
    let a = and_parts (eqb c 47 && eqb d 47) (is_ended body) h in
    let b = and_parts (eqb c 47) (eqb d 47) a.0 in
    let e = eqb-true c 47 b.0 in
    let f = eqb-true d 47 b.1 in Line body (cc) a.1

block_form : (c d : ℕ) (body : List ℕ) → eqb c 47 && eqb d 42 && is_shut body ≡ true → Form (c ∷ d ∷ body)
block_form c d body h =
    let a = and_parts (eqb c 47 && eqb d 42) (is_shut body) h in
    let b = and_parts (eqb c 47) (eqb d 42) a.0 in
    let e = eqb-true c 47 b.0 in
    let f = eqb-true d 42 b.1 in Block body (cc) a.1

-- each space has one of the forms
pub form_of : (text : List ℕ) → IsTrue (is_space text) → Form text
form_of [] h = absurd (cc)
form_of (c ∷ []) h = elim (or_cases (is_gap c) false h) as (λ _. Form (c ∷ [])) [ inl e ↦ Blank c refl e | inr e ↦ absurd (cc) ]
form_of (c ∷ d ∷ body) h =
    elim (or_cases (is_line_comment (c ∷ d ∷ body)) (is_block_comment (c ∷ d ∷ body)) h) as (λ _. Form (c ∷ d ∷ body)) [ inl e ↦ line_form c d body e | inr e ↦ block_form c d body e ]

-- no blank is a slash
pub no_gap : (c : ℕ) → is_gap c ≡ true → c ≡ 47 → ⊥
no_gap c h e = let n : is_gap c ≡ false = ap is_gap e in cc

-- the two sides of an equation of bytes, each in its form
same_at : (a b x y r s : List ℕ) → a ≡ x → b ≡ y → Same x y r s → Same a b r s
same_at a b x y r s e f same = let g = same.front in let h = same.rest in record { front = cc; rest = cc }

moved : (a b x y r s : List ℕ) → a ≡ x → b ≡ y → a ++ r ≡ b ++ s → x ++ r ≡ y ++ s
moved a b x y r s e f h = cc

-- two forms in front of the same bytes are one
two_blanks : (c d : ℕ) (r s : List ℕ) → c ∷ r ≡ d ∷ s → Same (c ∷ []) (d ∷ []) r s
two_blanks c d r s e = record { front = cc; rest = cc }

two_comments : (c : ℕ) (x y r s : List ℕ) → Same x y r s → Same (47 ∷ c ∷ x) (47 ∷ c ∷ y) r s
two_comments c x y r s same = let g = same.front in let h = same.rest in record { front = cc; rest = cc }

blank_slash : (c d : ℕ) (r s : List ℕ) → is_gap c ≡ true → c ∷ r ≡ 47 ∷ d ∷ s → ⊥
blank_slash c d r s h e = no_gap c h (cc)

second : (b c d : ℕ) (r s : List ℕ) → b ∷ c ∷ r ≡ b ∷ d ∷ s → c ≡ d
second b c d r s e = cc

two_kinds : (r s : List ℕ) → 47 ∷ 47 ∷ r ≡ 47 ∷ 42 ∷ s → ⊥
two_kinds r s e = omega (arith, second 47 47 42 r s e)

same_form : (a b r s : List ℕ) → a ++ r ≡ b ++ s → Form a → Form b → Same a b r s
same_form a b r s e (Blank c i h) (Blank d j k) = same_at a b (c ∷ []) (d ∷ []) r s i j (two_blanks c d r s (moved a b (c ∷ []) (d ∷ []) r s i j e))
same_form a b r s e (Blank c i h) (Line y j k) = absurd (blank_slash c 47 r (y ++ s) h (moved a b (c ∷ []) (47 ∷ 47 ∷ y) r s i j e))
same_form a b r s e (Blank c i h) (Block y j k) = absurd (blank_slash c 42 r (y ++ s) h (moved a b (c ∷ []) (47 ∷ 42 ∷ y) r s i j e))
same_form a b r s e (Line x i h) (Blank d j k) = absurd (blank_slash d 47 s (x ++ r) k (sym (moved a b (47 ∷ 47 ∷ x) (d ∷ []) r s i j e)))
same_form a b r s e (Line x i h) (Line y j k) =
    let f : 47 ∷ 47 ∷ (x ++ r) ≡ 47 ∷ 47 ∷ (y ++ s) = moved a b (47 ∷ 47 ∷ x) (47 ∷ 47 ∷ y) r s i j e in
    same_at a b (47 ∷ 47 ∷ x) (47 ∷ 47 ∷ y) r s i j (two_comments 47 x y r s (same_ended x y r s (cc) h k))
same_form a b r s e (Line x i h) (Block y j k) = absurd (two_kinds (x ++ r) (y ++ s) (moved a b (47 ∷ 47 ∷ x) (47 ∷ 42 ∷ y) r s i j e))
same_form a b r s e (Block x i h) (Blank d j k) = absurd (blank_slash d 42 s (x ++ r) k (sym (moved a b (47 ∷ 42 ∷ x) (d ∷ []) r s i j e)))
same_form a b r s e (Block x i h) (Line y j k) = absurd (two_kinds (y ++ s) (x ++ r) (sym (moved a b (47 ∷ 42 ∷ x) (47 ∷ 47 ∷ y) r s i j e)))
same_form a b r s e (Block x i h) (Block y j k) =
    let f : 47 ∷ 42 ∷ (x ++ r) ≡ 47 ∷ 42 ∷ (y ++ s) = moved a b (47 ∷ 42 ∷ x) (47 ∷ 42 ∷ y) r s i j e in
    same_at a b (47 ∷ 42 ∷ x) (47 ∷ 42 ∷ y) r s i j (two_comments 42 x y r s (same_shut x y r s (cc) h k))

pub same_space : (a b r s : List ℕ) → a ++ r ≡ b ++ s → IsTrue (is_space a) → IsTrue (is_space b) → Same a b r s
same_space a b r s e h k = same_form a b r s e (form_of a h) (form_of b k)
