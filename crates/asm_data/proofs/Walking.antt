-- The values that the lines so far give, and the first line that is wrong.
use Rattle.std.proofs.Common.{ℕ, zero, suc, ◌+◌, ◌≡◌, ◌≤◌, ◌<◌, refl, sym, ◌∙◌, ap, subst, arith, Bool, true, false, List, [], ◌∷◌, ◌++◌, map, take, drop, get_or, length, append_assoc, append-nil, Contains, inl, inr}
use Rattle.std.specs.Prelude.{◌||◌, not}
use Rattle.std.specs.List.{list_any}
use Rattle.std.specs.List.Sorted.{IsPermutation}
use Rattle.std.proofs.lemmas.List.{take_all, drop_all}
use Rattle.std.proofs.lemmas.List.Sorted.{IsPermutation-refl, IsPermutation-trans, IsPermutation-append_left, list_any-IsPermutation}
use Rattle.nml_tree.specs.Machine.{Initial}
use Rattle.nml_tree.specs.Places.{IsLeast, when}
use Rattle.nml_tree.specs.Table.{Table}
use Rattle.asm_lines.specs.Line.{Content, Line}
use Rattle.asm_lines.specs.Seen.{seen}
use Rattle.asm_lines.specs.declared.line.Line as shown
use Rattle.asm_text.specs.Assembled.{given, given_by, is_same_cell}
use Rattle.asm_text.specs.Refused.{data_lines, is_data}
use Rattle.asm_text.proofs.Inits.{first_or_behind}
use Rattle.asm_data.specs.Values.{AreValues, IsAdded, initials, is_wrong}
use Rattle.asm_data.specs.declared.storages.Cell.{Cell}

-- of so many lines none is wrong, and these are the values that they give
pub record AreSoFar (t : Table) (ls : List Line) (k : ℕ) (es : List (Cell × ℕ)) : Type 0 where
  pub same : IsPermutation (given t (take k ls)) (initials es)
  pub rest : data_lines t [] 0 ls ≡ data_lines t (given t (take k ls)) k (drop k ls)

pub none_yet : (t : Table) (ls : List Line) (es : List (Cell × ℕ)) → es ≡ [] → AreSoFar t ls 0 es
none_yet t ls es is = record { same = subst (λ fs. IsPermutation [] (initials fs)) (sym is) (IsPermutation-refl []); rest = refl }

pub all_lines : (t : Table) (ls : List Line) (k : ℕ) (es : List (Cell × ℕ)) → AreSoFar t ls k es → length ls ≤ k → AreValues t ls es
all_lines t ls k es h low = record {
  free = h.rest ∙ ap (data_lines t (given t (take k ls)) k) (drop_all k ls low);
  same = subst (λ xs. IsPermutation (given t xs) (initials es)) (take_all k ls low) h.same;
}

-- the line of number k
drop_line : (xs : List shown.Line) (k : ℕ) (x : shown.Line) → k < length xs → x ≡ get_or xs k x → drop k (map seen xs) ≡ seen x ∷ drop (k + 1) (map seen xs)
drop_line [] k x low is = absurd (omega (arith, low))
drop_line (y ∷ xs) zero x low is = ap (λ z. seen z ∷ map seen xs) (sym is)
drop_line (y ∷ xs) (suc k) x low is = let e : suc k + 1 ≡ suc (k + 1) = omega arith in drop_line xs k x (omega (arith, low)) is ∙ ap (λ n. seen x ∷ drop n (map seen (y ∷ xs))) (sym e)

take_line : (xs : List shown.Line) (k : ℕ) (x : shown.Line) → k < length xs → x ≡ get_or xs k x → take (k + 1) (map seen xs) ≡ take k (map seen xs) ++ seen x ∷ []
take_line [] k x low is = absurd (omega (arith, low))
take_line (y ∷ xs) zero x low is = ap (λ z. seen z ∷ []) (sym is)
take_line (y ∷ xs) (suc k) x low is = let e : suc k + 1 ≡ suc (k + 1) = omega arith in ap (λ n. take n (map seen (y ∷ xs))) e ∙ ap (λ zs. seen y ∷ zs) (take_line xs k x (omega (arith, low)) is)

given_last : (t : Table) (ls : List Line) (l : Line) → given t (ls ++ l ∷ []) ≡ given t ls ++ given_by t l.content
given_last t [] l = append-nil (given_by t l.content)
given_last t (x ∷ ls) l = ap (λ xs. given_by t x.content ++ xs) (given_last t ls l) ∙ sym (append_assoc (given_by t x.content) (given t ls) (given_by t l.content))

-- a line is wrong behind the same values in another order
any_same : (xs ys zs : List Initial) → IsPermutation xs ys → list_any (λ i. list_any (is_same_cell i) xs) zs ≡ list_any (λ i. list_any (is_same_cell i) ys) zs
any_same xs ys [] h = refl
any_same xs ys (z ∷ zs) h =
    ap (λ b. b || list_any (λ i. list_any (is_same_cell i) xs) zs) (list_any-IsPermutation (is_same_cell z) xs ys h) ∙ ap (λ b. list_any (is_same_cell z) ys || b) (any_same xs ys zs h)

wrong_same : (t : Table) (c : Content) (xs ys : List Initial) → IsPermutation xs ys → is_wrong t xs c ≡ is_wrong t ys c
wrong_same t c xs ys h = ap (λ b. not (is_data t c) || b) (any_same xs ys (given_by t c) h)

not_wrong : (a b : Bool) → a ≡ not b → a ≡ true → b ≡ false
not_wrong a true h is = absurd cc
not_wrong a false h is = refl

is_not_right : (a b : Bool) → a ≡ not b → a ≡ false → b ≡ true
is_not_right a true h is = refl
is_not_right a false h is = absurd cc

module _ (t : Table) (lines : List shown.Line) (k : ℕ) (x : shown.Line) (es new : List (Cell × ℕ)) (right : Bool) where
  abbrev ls : List Line
  ls = map seen lines

  abbrev before : List Initial
  before = given t (take k ls)

  abbrev content : Content
  content = (seen x).content

  -- what is wrong from this line on
  from_line : AreSoFar t ls k es → k < length lines → x ≡ get_or lines k x → (b : Bool) → is_wrong t before content ≡ b
      → data_lines t [] 0 ls ≡ when b (k + 1) ++ data_lines t (before ++ given_by t content) (k + 1) (drop (k + 1) ls)
  from_line h low is b wrong =
      h.rest ∙ ap (data_lines t before k) (drop_line lines k x low is) ∙ ap (λ w. when w (k + 1) ++ data_lines t (before ++ given_by t content) (k + 1) (drop (k + 1) ls)) wrong

  -- one line more
  pub one_more : AreSoFar t ls k es → k < length lines → x ≡ get_or lines k x → IsAdded t content (initials es) (initials new) right → right ≡ true → AreSoFar t ls (k + 1) new
  one_more h low is added right_is =
      let wrong : is_wrong t before content ≡ false = wrong_same t content before (initials es) h.same ∙ not_wrong right (is_wrong t (initials es) content) added.right_is right_is in
      let taken : given t (take (k + 1) ls) ≡ before ++ given_by t content = ap (given t) (take_line lines k x low is) ∙ given_last t (take k ls) (seen x) in
      record {
        same =
            subst (λ xs. IsPermutation xs (initials new)) (sym taken)
            (IsPermutation-trans (before ++ given_by t content) (initials es ++ given_by t content) (initials new) (IsPermutation-append_left (given_by t content) before (initials es) h.same) (added.after_is right_is));
        rest = from_line h low is false wrong ∙ ap (λ xs. data_lines t xs (k + 1) (drop (k + 1) ls)) (sym taken);
      }

  above : (before : List Initial) (n m : ℕ) (xs : List Line) → Contains (data_lines t before n xs) m → n < m
  above before n m [] c = absurd (omega (arith, c.1))
  above before n m (y ∷ xs) c = by (is_wrong t before y.content) (λ d. above (before ++ given_by t y.content) (n + 1) m xs d) c
    where
      by : (b : Bool) → (Contains (data_lines t (before ++ given_by t y.content) (n + 1) xs) m → n + 1 < m) → Contains (when b (n + 1) ++ data_lines t (before ++ given_by t y.content) (n + 1) xs) m → n < m
      by true more d =
          elim (first_or_behind (n + 1) (data_lines t (before ++ given_by t y.content) (n + 1) xs) m d) [ inl e ↦ omega (arith, e) | inr f ↦ (let low = more f in omega (arith, low)) ]
      by false more d = let low = more d in omega (arith, low)

  first_at : (n : ℕ) (ns : List ℕ) → ((m : ℕ) → Contains ns m → n < m) → IsLeast (n ∷ ns) n
  first_at n ns h = record {
    among = (0, omega arith, refl);
    least = λ m c. elim (first_or_behind n ns m c) [ inl e ↦ omega (arith, e) | inr d ↦ (let low = h m d in omega (arith, low)) ];
  }

  -- this line is the first that is wrong
  pub wrong_line : AreSoFar t ls k es → k < length lines → x ≡ get_or lines k x → IsAdded t content (initials es) (initials new) right → right ≡ false → IsLeast (data_lines t [] 0 ls) (k + 1)
  wrong_line h low is added right_is =
      let wrong : is_wrong t before content ≡ true = wrong_same t content before (initials es) h.same ∙ is_not_right right (is_wrong t (initials es) content) added.right_is right_is in
      subst (λ ns. IsLeast ns (k + 1)) (sym (from_line h low is true wrong))
      (first_at (k + 1) (data_lines t (before ++ given_by t content) (k + 1) (drop (k + 1) ls)) (λ m d. above (before ++ given_by t content) (k + 1) m (drop (k + 1) ls) d))
