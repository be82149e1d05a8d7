-- The tokens of a derivation are its shape's template with its numbers, where nothing touches.
use Rattle.std.proofs.Common.{ℕ, ◌==◌, ◌≡◌, refl, sym, ◌∙◌, ap, Bool, true, false, ℤ, List, [], ◌∷◌, ◌++◌, append-nil, append_assoc, map}
use Rattle.std.specs.Prelude.{◌||◌}
use Rattle.std.specs.Char.{is_ascii_digit}
use Rattle.std.specs.Fmt.{signed_decimal}
use Rattle.std.proofs.lemmas.List.{map-append}
use Rattle.nml_tree.specs.LineToken.{LineToken, Number, line_tokens}
use Rattle.nml_tree.specs.Derivation.{Derivation, fields}
use Rattle.nml_tree.specs.Value.{number_at}
use Rattle.nml_tree.specs.Edge as edge
use Rattle.nml_tree.specs.Edge.{Flat, Seam, flat, Left, Other, AfterNumber, AfterLetter, is_sign, touch, touch_number, over_seam, touches, has_touch}
use Rattle.nml_tree.specs.Outline.{Written, FieldAt, template_behind, template, with_numbers}
use Rattle.nml_tree.specs.Same.{tokens}
use Rattle.nml_outline.proofs.FlatText.{written, syntax_is}
use Rattle.nml_outline.proofs.LineParts.{begins, split}
use Rattle.nml_outline.proofs.NumberText.{IsText}

-- the last of the letters
abbrev Ends : Left → List ℕ → Type 0
Ends Other ws = ws ≡ []
Ends AfterNumber ws = ws ≡ []
Ends (AfterLetter c seam) ws = (vs : List ℕ) × (ws ≡ vs ++ c ∷ [])

or_false : (a b : Bool) → (a || b) ≡ false → (a ≡ false) × (b ≡ false)
or_false true b h = absurd cc
or_false false b h = (refl, h)

ends_over : (left : Left) (ws : List ℕ) → Ends left ws → Ends (over_seam left) ws
ends_over Other ws h = h
ends_over AfterNumber ws h = h
ends_over (AfterLetter c seam) ws h = h

-- what stands behind a number begins with no digit
behind_no_number : (f : ℕ → ℤ) (fs : List Flat) → touches AfterNumber fs ≡ false → begins is_ascii_digit (written f fs) ≡ false
behind_no_number f [] h = refl
behind_no_number f (edge.Letter c ∷ fs) h = (or_false (is_ascii_digit c) (c == 45) (or_false (is_sign c) (touches (AfterLetter c false) fs) h).0).0
behind_no_number f (edge.Number n ∷ fs) h = absurd cc
behind_no_number f (Seam ∷ fs) h = behind_no_number f fs h

map_written : (zs : List ℤ) (ts : List LineToken) → map (with_numbers zs) (map Written ts) ≡ ts
map_written zs [] = refl
map_written zs (t ∷ ts) = ap (λ xs. t ∷ xs) (map_written zs ts)

-- a number behind letters that do not touch it
number_step : (left : Left) (ws : List ℕ) (z : ℤ) (text ys : List ℕ) → Ends left ws → touch_number left ≡ false → IsText z text → begins is_ascii_digit ys ≡ false
    → line_tokens (ws ++ (text ++ ys)) ≡ line_tokens ws ++ Number z ∷ line_tokens ys
number_step Other ws z text ys e t is h = rw e (is.token ys h)
number_step AfterNumber ws z text ys e t is h = absurd cc
number_step (AfterLetter c seam) ws z text ys e t is h =
    let r = or_false (is_ascii_digit c) (c == 45) t in
    let s = split e.0 c (text ++ ys) r.0 r.1 (is.front ys) in
    ap (λ v. line_tokens (v ++ (text ++ ys))) e.1 ∙ (s ∙ (ap (λ v. line_tokens (e.0 ++ c ∷ []) ++ v) (is.token ys h) ∙ ap (λ v. line_tokens v ++ Number z ∷ line_tokens ys) (sym e.1)))

-- each of these is read as one token
abbrev pub AreTexts : List ℤ → Type 0
AreTexts zs = (n : ℕ) → IsText (number_at zs n) (signed_decimal (number_at zs n))

tokens_behind : (fs : List Flat) (left : Left) (ws : List ℕ) (zs : List ℤ) → AreTexts zs → Ends left ws → touches left fs ≡ false
    → line_tokens (ws ++ written (number_at zs) fs) ≡ map (with_numbers zs) (template_behind ws fs)
tokens_behind [] left ws zs texts e h = ap line_tokens (append-nil ws) ∙ sym (map_written zs (line_tokens ws))
tokens_behind (edge.Letter c ∷ fs) left ws zs texts e h =
    ap line_tokens (sym (append_assoc ws (c ∷ []) (written (number_at zs) fs)))
    ∙ tokens_behind fs (AfterLetter c false) (ws ++ c ∷ []) zs texts (ws, refl) (or_false (touch left c) (touches (AfterLetter c false) fs) h).1
tokens_behind (Seam ∷ fs) left ws zs texts e h = tokens_behind fs (over_seam left) ws zs texts (ends_over left ws e) h
tokens_behind (edge.Number n ∷ fs) left ws zs texts e h =
    let r = or_false (touch_number left) (touches AfterNumber fs) h in
    let f = number_at zs in
    number_step left ws (f n) (signed_decimal (f n)) (written f fs) e r.0 (texts n) (behind_no_number f fs r.1)
    ∙ (ap (λ v. line_tokens ws ++ Number (f n) ∷ v) (tokens_behind fs AfterNumber [] zs texts refl r.1)
    ∙ sym (map-append (with_numbers zs) (map Written (line_tokens ws)) (FieldAt n ∷ template_behind [] fs) ∙ ap (λ v. v ++ Number (f n) ∷ map (with_numbers zs) (template_behind [] fs)) (map_written zs (line_tokens ws))))

-- the tokens of a derivation in which nothing touches
pub tokens_are : (d : Derivation) → has_touch d ≡ false → AreTexts (fields d) → tokens d ≡ map (with_numbers (fields d)) (template d)
tokens_are d h texts = ap line_tokens (syntax_is d) ∙ tokens_behind (flat 0 d) Other [] (fields d) texts refl h
