-- In a typed description a derivation of a shape is known by its word, by its numbers and by its tokens, and what two shapes have in common has a least one.
use Rattle.std.proofs.Common.{ℕ, ◌≤◌, ◌<◌, ◌^◌, ◌≡◌, ◌≢◌, ℤ, refl, sym, ap, ◌∙◌, subst, arith, ◌≤ℤ◌, List, [], ◌∷◌, length, map, codes, ◌⊎◌, inl, inr}
use Rattle.nml_tree.specs.declared.tree.Desc.{Desc}
use Rattle.nk_base.specs.declared.number.Bits.{Bits}
use Rattle.nml_tree.specs.Table.{table}
use Rattle.nml_tree.specs.Derivation.{Derivation, picks, fields}
use Rattle.nml_tree.specs.Image.{image, word_of}
use Rattle.nml_tree.specs.LineToken.{Number}
use Rattle.nml_tree.specs.Outline.{OutlineToken, Written, FieldAt, types, template, with_numbers, AreInRange}
use Rattle.nml_tree.specs.Refused.{IsFreeBelow, IsTyped, IsImageOf, By_word}
use Rattle.nml_tree.specs.Same.{SameSyntax, tokens}
use Rattle.nml_tree.specs.Valid.{IsRoot, WordFault}
use Rattle.nml_tree.specs.Value.{number_at}
use Rattle.nml_outline.proofs.WordBits.{number_below}
use Rattle.nml_outline.proofs.ShapesMeet.{one_word, one_types}
use Rattle.nml_outline.proofs.FlatText.{one_template}
use Rattle.nml_outline.proofs.ShapeFields.{own_range, with_list}
use Rattle.nml_outline.proofs.Premises.{linear_images, linear_texts, has_types}
use Rattle.nml_outline.proofs.TemplateOnce.{token_once}
use Rattle.nml_outline.proofs.LeastText.{LeastSame, least_lists}
use Rattle.nml_outline.proofs.FirstSyntax.{one_tokens, tokens_with}
use Rattle.nml_shape.proofs.Order.{Before, le_or_lt, not_itself}
use Rattle.nml_refusals.proofs.Alike.{AreKnown, HasLeastTokens}

less : (d : Desc) (n : ℕ) → n ≤ 12 → IsTyped d → IsFreeBelow n d
less d n le free k low h = free k (omega (arith, low, le)) h

word_known : (d : Desc) → IsTyped d → (a b : Derivation) → IsRoot (table d) a → IsRoot (table d) b → picks a ≡ picks b → word_of a ≡ word_of b → a ≡ b
word_known d typed a b h k same word =
    one_word (table d) (codes "instruction") a b (linear_images d (less d 9 (omega arith) typed)) h k (has_types d (less d 8 (omega arith) typed) (codes "instruction") a h) same word

-- the tokens with the least numbers
least_tokens : (d : Desc) → IsTyped d → (a b : Derivation) → SameSyntax (table d) a b → Before (picks a) (picks b)
    → LeastSame (types a) (types b) (template a) (template b) → HasLeastTokens (table d) a b
least_tokens d typed a b h o l =
    let t = table d in
    let name = codes "instruction" in
    let p = with_list a t name l.first h.first l.first_in in
    let q = with_list b t name l.second h.second l.second_in in
    let x = p.0 in
    let y = q.0 in
    let x_tokens : tokens x ≡ map (with_numbers l.first) (template a) =
    tokens_with d typed x p.1 ∙ ap (λ zs. map (with_numbers zs) (template x)) p.3 ∙ ap (map (with_numbers l.first)) (one_template t name x a p.1 h.first p.2) in
    let y_tokens : tokens y ≡ map (with_numbers l.second) (template b) =
    tokens_with d typed y q.1 ∙ ap (λ zs. map (with_numbers zs) (template y)) q.3 ∙ ap (map (with_numbers l.second)) (one_template t name y b q.1 h.second q.2) in
    record {
      x = x;
      y = y;
      same = record { first = p.1; second = q.1; differ = λ e. not_itself (picks a) (subst (λ k. Before (picks a) k) (sym q.2 ∙ (sym (ap picks e) ∙ p.2)) o); same = x_tokens ∙ l.same ∙ sym y_tokens };
      first = p.2;
      second = q.2;
      least = λ c e k c_picks e_picks.
          let c_same : picks c ≡ picks a = c_picks ∙ p.2 in
          let e_same : picks e ≡ picks b = e_picks ∙ q.2 in
          let c_in : AreInRange (types a) (fields c) = subst (λ ts. AreInRange ts (fields c)) (one_types t name c a k.first h.first c_same) (own_range c t name k.first) in
          let e_in : AreInRange (types b) (fields e) = subst (λ ts. AreInRange ts (fields e)) (one_types t name e b k.second h.second e_same) (own_range e t name k.second) in
          let c_tokens : tokens c ≡ map (with_numbers (fields c)) (template a) = tokens_with d typed c k.first ∙ ap (map (with_numbers (fields c))) (one_template t name c a k.first h.first c_same) in
          let e_tokens : tokens e ≡ map (with_numbers (fields e)) (template b) = tokens_with d typed e k.second ∙ ap (map (with_numbers (fields e))) (one_template t name e b k.second h.second e_same) in
          let m = l.least (fields c) (fields e) c_in e_in (sym c_tokens ∙ k.same ∙ e_tokens) in
          (λ n. subst (λ zs. number_at zs n ≤ℤ number_at (fields c) n) (sym p.3) (m.0 n), λ n. subst (λ zs. number_at zs n ≤ℤ number_at (fields e) n) (sym q.3) (m.1 n));
    }

has_least : (d : Desc) → IsTyped d → (a b : Derivation) → SameSyntax (table d) a b → Before (picks a) (picks b) → HasLeastTokens (table d) a b
has_least d typed a b h o =
    let t = table d in
    let name = codes "instruction" in
    let linear = linear_texts d (less d 9 (omega arith) typed) in
    least_tokens d typed a b h o
    (least_lists (types a) (types b) (template a) (template b) (fields a) (fields b)
    (λ n i j e f. token_once t name a n i j linear h.first e f)
    (λ n i j e f. token_once t name b n i j linear h.second e f)
    (own_range a t name h.first) (own_range b t name h.second)
    (sym (tokens_with d typed a h.first) ∙ h.same ∙ tokens_with d typed b h.second))

-- the same numbers give the same tokens
with_same_numbers : (zs ys : List ℤ) (ts : List OutlineToken) → ((k : ℕ) → number_at zs k ≡ number_at ys k) → map (with_numbers zs) ts ≡ map (with_numbers ys) ts
with_same_numbers zs ys [] e = refl
with_same_numbers zs ys (Written u ∷ ts) e = ap (λ us. u ∷ us) (with_same_numbers zs ys ts e)
with_same_numbers zs ys (FieldAt n ∷ ts) e = let rest = with_same_numbers zs ys ts e in λ j. Number (e n j) ∷ rest j

numbers_known : (d : Desc) → IsTyped d → (a b : Derivation) → IsRoot (table d) a → IsRoot (table d) b → picks a ≡ picks b → ((k : ℕ) → number_at (fields a) k ≡ number_at (fields b) k) → a ≡ b
numbers_known d typed a b h k same e =
    let t = table d in
    let name = codes "instruction" in
    one_tokens d typed a b h k same
    (tokens_with d typed a h ∙ (with_same_numbers (fields a) (fields b) (template a) e ∙ (ap (map (with_numbers (fields b))) (one_template t name a b h k same) ∙ sym (tokens_with d typed b k))))

pub known : (d : Desc) → IsTyped d → AreKnown (table d)
known d typed = record { by_word = word_known d typed; by_numbers = numbers_known d typed; by_tokens = one_tokens d typed; least = has_least d typed }

-- a word has 64 bits at most
pub word_bits : (d : Desc) → IsTyped d → (x : Derivation) → IsRoot (table d) x → (w : Bits) × IsImageOf x w
word_bits d typed x h =
    let low : length (image x) ≤ 64 = elim (le_or_lt (length (image x)) 64) [ inl le ↦ le | inr high ↦ absurd (typed 9 (omega arith) (By_word (codes "instruction") (WordFault.Wide x refl h high))) ] in
    (record { width = length (image x); value = word_of x; narrow = omega (arith, low); below = number_below (image x) }, record { width = refl; value = refl })
