-- What summaries say of texts that are put together.
use Rattle.std.proofs.Common.{◌≡◌, ◌||◌, Bool, true, false, List, [], ◌∷◌, ◌++◌, Option, Some, None, refl, ap, sym, ◌∙◌, ◌⊎◌, inl, inr}
use Rattle.nml_edges.specs.declared.glyph.Glyph.{Glyph}
use Rattle.nml_edges.specs.declared.glyph.Last.{Last}
use Rattle.nml_edges.specs.declared.glyph.Last.TheVariants as last
use Rattle.nml_edges.specs.declared.summary.Way.{Way}
use Rattle.nml_edges.specs.declared.summary.Summary.{Summary}
use Rattle.nml_edges.specs.Glyph.{last_behind, touches, end, touching}
use Rattle.nml_edges.specs.Summary.{nowhere, only, either, where_may, through, none, still, step, one, followed, both, way, says, Does, IsSummary}

-- truth
pub either_true : (a b : Bool) → (a || b) ≡ true → (a ≡ true) ⊎ (b ≡ true)
either_true true b h = inl refl
either_true false b h = inr h

pub left_true : (a b : Bool) → a ≡ true → (a || b) ≡ true
left_true true b h = refl
left_true false b h = absurd cc

pub right_true : (a b : Bool) → b ≡ true → (a || b) ≡ true
right_true true b h = refl
right_true false b h = h

-- what one way says
says_either : (o : Option Last) (a b : Way) → says o (either a b) ≡ (says o a || says o b)
says_either None a b = refl
says_either (Some last.Nothing) a b = refl
says_either (Some last.Plain) a b = refl
says_either (Some last.Number) a b = refl
says_either (Some last.Digit) a b = refl
says_either (Some last.DigitSeam) a b = refl
says_either (Some last.Minus) a b = refl
says_either (Some last.MinusSeam) a b = refl

says_nowhere : (o : Option Last) → says o nowhere ≡ false
says_nowhere None = refl
says_nowhere (Some last.Nothing) = refl
says_nowhere (Some last.Plain) = refl
says_nowhere (Some last.Number) = refl
says_nowhere (Some last.Digit) = refl
says_nowhere (Some last.DigitSeam) = refl
says_nowhere (Some last.Minus) = refl
says_nowhere (Some last.MinusSeam) = refl

says_touch : (o : Option Last) (t : Bool) → says o (record nowhere { touch = t }) ≡ true → (o ≡ None) × (t ≡ true)
says_touch None t h = (refl, h)
says_touch (Some last.Nothing) t h = absurd cc
says_touch (Some last.Plain) t h = absurd cc
says_touch (Some last.Number) t h = absurd cc
says_touch (Some last.Digit) t h = absurd cc
says_touch (Some last.DigitSeam) t h = absurd cc
says_touch (Some last.Minus) t h = absurd cc
says_touch (Some last.MinusSeam) t h = absurd cc

-- where it may be gone
where_back : (o : Option Last) (b : Bool) (w : Way) → says o (where_may b w) ≡ true → (b ≡ true) × (says o w ≡ true)
where_back o true w h = (refl, h)
where_back o false w h = let e = says_nowhere o in absurd cc

-- what goes through a thing that stands last
pub data Passes (w : Way) (m : Summary) (o : Option Last) : Type 0 where
  Before : o ≡ None → w.touch ≡ true → Passes w m o
  Over : (l : Last) → says (Some l) w ≡ true → says o (way m l) ≡ true → Passes w m o

one_of : (o : Option Last) (a : Way) (b : Bool) (w : Way) (P : Type 0) → (says o a ≡ true → P) → (b ≡ true → says o w ≡ true → P) → says o (either a (where_may b w)) ≡ true → P
one_of o a b w P f g h = elim (either_true (says o a) (says o (where_may b w)) (sym (says_either o a (where_may b w)) ∙ h)) [
  | inl k ↦ f k
  | inr k ↦ (let r = where_back o b w k in g r.0 r.1)
]

-- the way through all that may stand last, one after the other
abbrev from0 : Way → Summary → Way
from0 w m = record nowhere { touch = w.touch }

abbrev from1 : Way → Summary → Way
from1 w m = either (from0 w m) (where_may w.nothing m.nothing)

abbrev from2 : Way → Summary → Way
from2 w m = either (from1 w m) (where_may w.plain m.plain)

abbrev from3 : Way → Summary → Way
from3 w m = either (from2 w m) (where_may w.number m.number)

abbrev from4 : Way → Summary → Way
from4 w m = either (from3 w m) (where_may w.digit m.digit)

abbrev from5 : Way → Summary → Way
from5 w m = either (from4 w m) (where_may w.digit_seam m.digit_seam)

abbrev from6 : Way → Summary → Way
from6 w m = either (from5 w m) (where_may w.minus m.minus)

abbrev from7 : Way → Summary → Way
from7 w m = either (from6 w m) (where_may w.minus_seam m.minus_seam)

pub through_back : (w : Way) (m : Summary) (o : Option Last) → says o (through w m) ≡ true → Passes w m o
through_back w m o h = step7 h
  where
    step0 : says o (from0 w m) ≡ true → Passes w m o
    step0 k = let t = says_touch o w.touch k in Before t.0 t.1

    step1 : says o (from1 w m) ≡ true → Passes w m o
    step1 k = one_of o (from0 w m) w.nothing m.nothing (Passes w m o) step0 (λ b e. Over last.Nothing b e) k

    step2 : says o (from2 w m) ≡ true → Passes w m o
    step2 k = one_of o (from1 w m) w.plain m.plain (Passes w m o) step1 (λ b e. Over last.Plain b e) k

    step3 : says o (from3 w m) ≡ true → Passes w m o
    step3 k = one_of o (from2 w m) w.number m.number (Passes w m o) step2 (λ b e. Over last.Number b e) k

    step4 : says o (from4 w m) ≡ true → Passes w m o
    step4 k = one_of o (from3 w m) w.digit m.digit (Passes w m o) step3 (λ b e. Over last.Digit b e) k

    step5 : says o (from5 w m) ≡ true → Passes w m o
    step5 k = one_of o (from4 w m) w.digit_seam m.digit_seam (Passes w m o) step4 (λ b e. Over last.DigitSeam b e) k

    step6 : says o (from6 w m) ≡ true → Passes w m o
    step6 k = one_of o (from5 w m) w.minus m.minus (Passes w m o) step5 (λ b e. Over last.Minus b e) k

    step7 : says o (from7 w m) ≡ true → Passes w m o
    step7 k = one_of o (from6 w m) w.minus_seam m.minus_seam (Passes w m o) step6 (λ b e. Over last.MinusSeam b e) k

-- the same forth
kept : (o : Option Last) (a b : Way) → says o a ≡ true → says o (either a b) ≡ true
kept o a b h = says_either o a b ∙ left_true (says o a) (says o b) h

added : (o : Option Last) (a w : Way) (b : Bool) → b ≡ true → says o w ≡ true → says o (either a (where_may b w)) ≡ true
added o a w true e h = says_either o a w ∙ right_true (says o a) (says o w) h
added o a w false e h = absurd cc

up7 : (w : Way) (m : Summary) (o : Option Last) → says o (from7 w m) ≡ true → says o (through w m) ≡ true
up7 w m o h = h

up6 : (w : Way) (m : Summary) (o : Option Last) → says o (from6 w m) ≡ true → says o (through w m) ≡ true
up6 w m o h = up7 w m o (kept o (from6 w m) (where_may w.minus_seam m.minus_seam) h)

up5 : (w : Way) (m : Summary) (o : Option Last) → says o (from5 w m) ≡ true → says o (through w m) ≡ true
up5 w m o h = up6 w m o (kept o (from5 w m) (where_may w.minus m.minus) h)

up4 : (w : Way) (m : Summary) (o : Option Last) → says o (from4 w m) ≡ true → says o (through w m) ≡ true
up4 w m o h = up5 w m o (kept o (from4 w m) (where_may w.digit_seam m.digit_seam) h)

up3 : (w : Way) (m : Summary) (o : Option Last) → says o (from3 w m) ≡ true → says o (through w m) ≡ true
up3 w m o h = up4 w m o (kept o (from3 w m) (where_may w.digit m.digit) h)

up2 : (w : Way) (m : Summary) (o : Option Last) → says o (from2 w m) ≡ true → says o (through w m) ≡ true
up2 w m o h = up3 w m o (kept o (from2 w m) (where_may w.number m.number) h)

up1 : (w : Way) (m : Summary) (o : Option Last) → says o (from1 w m) ≡ true → says o (through w m) ≡ true
up1 w m o h = up2 w m o (kept o (from1 w m) (where_may w.plain m.plain) h)

up0 : (w : Way) (m : Summary) (o : Option Last) → says o (from0 w m) ≡ true → says o (through w m) ≡ true
up0 w m o h = up1 w m o (kept o (from0 w m) (where_may w.nothing m.nothing) h)

pub through_touch : (w : Way) (m : Summary) → w.touch ≡ true → says None (through w m) ≡ true
through_touch w m h = up0 w m None h

pub through_over : (w : Way) (m : Summary) (o : Option Last) (l : Last) → says (Some l) w ≡ true → says o (way m l) ≡ true → says o (through w m) ≡ true
through_over w m o last.Nothing a h = up1 w m o (added o (from0 w m) m.nothing w.nothing a h)
through_over w m o last.Plain a h = up2 w m o (added o (from1 w m) m.plain w.plain a h)
through_over w m o last.Number a h = up3 w m o (added o (from2 w m) m.number w.number a h)
through_over w m o last.Digit a h = up4 w m o (added o (from3 w m) m.digit w.digit a h)
through_over w m o last.DigitSeam a h = up5 w m o (added o (from4 w m) m.digit_seam w.digit_seam a h)
through_over w m o last.Minus a h = up6 w m o (added o (from5 w m) m.minus w.minus a h)
through_over w m o last.MinusSeam a h = up7 w m o (added o (from6 w m) m.minus_seam w.minus_seam a h)

-- ways of summaries
followed_way : (a b : Summary) (l : Last) → way (followed a b) l ≡ through (way a l) b
followed_way a b last.Nothing = refl
followed_way a b last.Plain = refl
followed_way a b last.Number = refl
followed_way a b last.Digit = refl
followed_way a b last.DigitSeam = refl
followed_way a b last.Minus = refl
followed_way a b last.MinusSeam = refl

both_way : (a b : Summary) (l : Last) → way (both a b) l ≡ either (way a l) (way b l)
both_way a b last.Nothing = refl
both_way a b last.Plain = refl
both_way a b last.Number = refl
both_way a b last.Digit = refl
both_way a b last.DigitSeam = refl
both_way a b last.Minus = refl
both_way a b last.MinusSeam = refl

one_way : (g : Glyph) (l : Last) → way (one g) l ≡ step l g
one_way g last.Nothing = refl
one_way g last.Plain = refl
one_way g last.Number = refl
one_way g last.Digit = refl
one_way g last.DigitSeam = refl
one_way g last.Minus = refl
one_way g last.MinusSeam = refl

still_way : (l : Last) → way still l ≡ only l false
still_way last.Nothing = refl
still_way last.Plain = refl
still_way last.Number = refl
still_way last.Digit = refl
still_way last.DigitSeam = refl
still_way last.Minus = refl
still_way last.MinusSeam = refl

none_way : (l : Last) → way none l ≡ nowhere
none_way last.Nothing = refl
none_way last.Plain = refl
none_way last.Number = refl
none_way last.Digit = refl
none_way last.DigitSeam = refl
none_way last.Minus = refl
none_way last.MinusSeam = refl

only_touch : (l : Last) (t : Bool) → says None (only l t) ≡ t
only_touch last.Nothing t = refl
only_touch last.Plain t = refl
only_touch last.Number t = refl
only_touch last.Digit t = refl
only_touch last.DigitSeam t = refl
only_touch last.Minus t = refl
only_touch last.MinusSeam t = refl

only_end : (l : Last) (t : Bool) → says (Some l) (only l t) ≡ true
only_end last.Nothing t = refl
only_end last.Plain t = refl
only_end last.Number t = refl
only_end last.Digit t = refl
only_end last.DigitSeam t = refl
only_end last.Minus t = refl
only_end last.MinusSeam t = refl

only_back : (l e : Last) (t : Bool) → says (Some e) (only l t) ≡ true → l ≡ e
only_back last.Nothing last.Nothing t h = refl
only_back last.Plain last.Plain t h = refl
only_back last.Number last.Number t h = refl
only_back last.Digit last.Digit t h = refl
only_back last.DigitSeam last.DigitSeam t h = refl
only_back last.Minus last.Minus t h = refl
only_back last.MinusSeam last.MinusSeam t h = refl
only_back last.Nothing last.Plain t h = absurd cc
only_back last.Nothing last.Number t h = absurd cc
only_back last.Nothing last.Digit t h = absurd cc
only_back last.Nothing last.DigitSeam t h = absurd cc
only_back last.Nothing last.Minus t h = absurd cc
only_back last.Nothing last.MinusSeam t h = absurd cc
only_back last.Plain last.Nothing t h = absurd cc
only_back last.Plain last.Number t h = absurd cc
only_back last.Plain last.Digit t h = absurd cc
only_back last.Plain last.DigitSeam t h = absurd cc
only_back last.Plain last.Minus t h = absurd cc
only_back last.Plain last.MinusSeam t h = absurd cc
only_back last.Number last.Nothing t h = absurd cc
only_back last.Number last.Plain t h = absurd cc
only_back last.Number last.Digit t h = absurd cc
only_back last.Number last.DigitSeam t h = absurd cc
only_back last.Number last.Minus t h = absurd cc
only_back last.Number last.MinusSeam t h = absurd cc
only_back last.Digit last.Nothing t h = absurd cc
only_back last.Digit last.Plain t h = absurd cc
only_back last.Digit last.Number t h = absurd cc
only_back last.Digit last.DigitSeam t h = absurd cc
only_back last.Digit last.Minus t h = absurd cc
only_back last.Digit last.MinusSeam t h = absurd cc
only_back last.DigitSeam last.Nothing t h = absurd cc
only_back last.DigitSeam last.Plain t h = absurd cc
only_back last.DigitSeam last.Number t h = absurd cc
only_back last.DigitSeam last.Digit t h = absurd cc
only_back last.DigitSeam last.Minus t h = absurd cc
only_back last.DigitSeam last.MinusSeam t h = absurd cc
only_back last.Minus last.Nothing t h = absurd cc
only_back last.Minus last.Plain t h = absurd cc
only_back last.Minus last.Number t h = absurd cc
only_back last.Minus last.Digit t h = absurd cc
only_back last.Minus last.DigitSeam t h = absurd cc
only_back last.Minus last.MinusSeam t h = absurd cc
only_back last.MinusSeam last.Nothing t h = absurd cc
only_back last.MinusSeam last.Plain t h = absurd cc
only_back last.MinusSeam last.Number t h = absurd cc
only_back last.MinusSeam last.Digit t h = absurd cc
only_back last.MinusSeam last.DigitSeam t h = absurd cc
only_back last.MinusSeam last.Minus t h = absurd cc

-- texts that are put together
pub end_append : (l : Last) (gs hs : List Glyph) → end l (gs ++ hs) ≡ end (end l gs) hs
end_append l [] hs = refl
end_append l (g ∷ gs) hs = end_append (last_behind l g) gs hs

or_assoc : (a b c : Bool) → (a || (b || c)) ≡ ((a || b) || c)
or_assoc true b c = refl
or_assoc false b c = refl

pub touching_append : (l : Last) (gs hs : List Glyph) → touching l (gs ++ hs) ≡ (touching l gs || touching (end l gs) hs)
touching_append l [] hs = refl
touching_append l (g ∷ gs) hs = ap (λ b. touches l g || b) (touching_append (last_behind l g) gs hs) ∙ or_assoc (touches l g) (touching (last_behind l g) gs) (touching (end (last_behind l g) gs) hs)

-- one of these and behind it one of those
pub record Joined (A B : List Glyph → Type 0) (gs : List Glyph) : Type 0 where
  pub front : List Glyph
  pub back : List Glyph
  pub of_front : A front
  pub of_back : B back
  pub is : gs ≡ front ++ back

does_behind : (o : Option Last) (l : Last) (gs hs : List Glyph) → Does o (end l gs) hs → Does o l (gs ++ hs)
does_behind None l gs hs h = touching_append l gs hs ∙ right_true (touching l gs) (touching (end l gs) hs) h
does_behind (Some e) l gs hs h = end_append l gs hs ∙ h

pub followed_is : (A B : List Glyph → Type 0) (a b : Summary) → IsSummary A a → IsSummary B b → (hs : List Glyph) → B hs → IsSummary (Joined A B) (followed a b)
followed_is A B a b s u some has = record {
  found = λ l o h. back l o (through_back (way a l) b o (ap (says o) (sym (followed_way a b l)) ∙ h));
  told = λ l o gs j d. ap (says o) (followed_way a b l) ∙ forth l o gs j d;
}
  where
    back : (l : Last) (o : Option Last) → Passes (way a l) b o → (gs : List Glyph) × Joined A B gs × Does o l gs
    back l o (Before e t) =
        let f = s.found l None t in
        (f.0 ++ some, record { front = f.0; back = some; of_front = f.1; of_back = has; is = refl }, rw e (touching_append l f.0 some ∙ left_true (touching l f.0) (touching (end l f.0) some) f.2))
    back l o (Over m x y) =
        let f = s.found l (Some m) x in
        let g = u.found m o y in
        (f.0 ++ g.0, record { front = f.0; back = g.0; of_front = f.1; of_back = g.1; is = refl }, does_behind o l f.0 g.0 (rw f.2 g.2))

    forth : (l : Last) (o : Option Last) (gs : List Glyph) → Joined A B gs → Does o l gs → says o (through (way a l) b) ≡ true
    forth l None gs j d = elim (either_true (touching l j.front) (touching (end l j.front) j.back) (sym (touching_append l j.front j.back) ∙ ap (touching l) (sym j.is) ∙ d)) [
      | inl k ↦ through_touch (way a l) b (s.told l None j.front j.of_front k)
      | inr k ↦ through_over (way a l) b None (end l j.front) (s.told l (Some (end l j.front)) j.front j.of_front refl) (u.told (end l j.front) None j.back j.of_back k)
    ]
    forth l (Some e) gs j d =
        through_over (way a l) b (Some e) (end l j.front) (s.told l (Some (end l j.front)) j.front j.of_front refl)
        (u.told (end l j.front) (Some e) j.back j.of_back (sym (end_append l j.front j.back) ∙ ap (end l) (sym j.is) ∙ d))

-- the same texts
pub same_texts : (A B : List Glyph → Type 0) (m : Summary) → ((gs : List Glyph) → A gs → B gs) → ((gs : List Glyph) → B gs → A gs) → IsSummary A m → IsSummary B m
same_texts A B m f g s = record {
  found = λ l o h. let k = s.found l o h in (k.0, f k.0 k.1, k.2);
  told = λ l o gs b d. s.told l o gs (g gs b) d;
}

pub none_is : (A : List Glyph → Type 0) → ((gs : List Glyph) → A gs → ⊥) → IsSummary A none
none_is A empty = record {
  found = λ l o h. (let e = ap (says o) (none_way l) in let f = says_nowhere o in absurd cc);
  told = λ l o gs a d. absurd (empty gs a);
}

pub both_is : (A B : List Glyph → Type 0) (a b : Summary) → IsSummary A a → IsSummary B b → IsSummary (λ gs. A gs ⊎ B gs) (both a b)
both_is A B a b s u = record {
  found = λ l o h. elim (either_true (says o (way a l)) (says o (way b l)) (sym (says_either o (way a l) (way b l)) ∙ ap (says o) (sym (both_way a b l)) ∙ h)) [
    | inl k ↦ (let f = s.found l o k in (f.0, inl f.1, f.2))
    | inr k ↦ (let f = u.found l o k in (f.0, inr f.1, f.2))
  ];
  told = λ l o gs j d. ap (says o) (both_way a b l) ∙ says_either o (way a l) (way b l) ∙ pick l o gs j d;
}
  where
    pick : (l : Last) (o : Option Last) (gs : List Glyph) → A gs ⊎ B gs → Does o l gs → (says o (way a l) || says o (way b l)) ≡ true
    pick l o gs (inl k) d = left_true (says o (way a l)) (says o (way b l)) (s.told l o gs k d)
    pick l o gs (inr k) d = right_true (says o (way a l)) (says o (way b l)) (u.told l o gs k d)

or_false : (a : Bool) → (a || false) ≡ a
or_false true = refl
or_false false = refl

pub one_is : (g : Glyph) → IsSummary (λ gs. gs ≡ g ∷ []) (one g)
one_is g = record {
  found = λ l o h. (g ∷ [], refl, back l o (ap (says o) (sym (one_way g l)) ∙ h));
  told = λ l o gs e d. ap (says o) (one_way g l) ∙ forth l o gs e d;
}
  where
    back : (l : Last) (o : Option Last) → says o (step l g) ≡ true → Does o l (g ∷ [])
    back l None h = or_false (touches l g) ∙ sym (only_touch (last_behind l g) (touches l g)) ∙ h
    back l (Some e) h = only_back (last_behind l g) e (touches l g) h

    forth : (l : Last) (o : Option Last) (gs : List Glyph) → gs ≡ g ∷ [] → Does o l gs → says o (step l g) ≡ true
    forth l None gs e d = only_touch (last_behind l g) (touches l g) ∙ sym (or_false (touches l g)) ∙ ap (touching l) (sym e) ∙ d
    forth l (Some x) gs e d =
        let f : last_behind l g ≡ x = ap (end l) (sym e) ∙ d in
        ap (λ y. says (Some y) (only (last_behind l g) (touches l g))) (sym f) ∙ only_end (last_behind l g) (touches l g)

pub still_is : IsSummary (λ gs. gs ≡ []) still
still_is = record {
  found = λ l o h. ([], refl, back l o (ap (says o) (sym (still_way l)) ∙ h));
  told = λ l o gs e d. ap (says o) (still_way l) ∙ forth l o gs e d;
}
  where
    back : (l : Last) (o : Option Last) → says o (only l false) ≡ true → Does o l []
    back l None h = sym (only_touch l false) ∙ h
    back l (Some e) h = only_back l e false h

    forth : (l : Last) (o : Option Last) (gs : List Glyph) → gs ≡ [] → Does o l gs → says o (only l false) ≡ true
    forth l None gs e d = only_touch l false ∙ ap (touching l) (sym e) ∙ d
    forth l (Some x) gs e d =
        let f : l ≡ x = ap (end l) (sym e) ∙ d in
        ap (λ y. says (Some y) (only l false)) (sym f) ∙ only_end l false
