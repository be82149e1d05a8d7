-- The tokens that an instruction's pieces are, its references being numbers.
use Rattle.std.proofs.Common.{◌≡◌, ◌≤◌, ℕ, append-nil, drop, length, List, [], ◌∷◌, ◌++◌, map, refl, sym, ap, ◌∙◌, pos}
use Rattle.std.specs.Prelude.{flat_map}
use Rattle.std.proofs.lemmas.List.{drop_all}
use Rattle.nml_tree.specs.LineToken.{LineToken, Number}
use Rattle.nml_tree.specs.Outline as outline
use Rattle.nml_shape.specs.declared.shape.Piece.{Piece}
use Rattle.nml_shape.specs.Shown.{token_of}
use Rattle.asm_lines.specs.Line as text
use Rattle.asm_lines.specs.Line.{Token, Line}
use Rattle.asm_lines.specs.Seen.{tokens_of, seen_reference, seen_tokens, AreTokens, AreWritten, AreWrittenBehind, HasWritten}
use Rattle.asm_lines.specs.declared.line.Reference.{Reference}
use Rattle.asm_lines.specs.declared.line.Tokens.{Tokens}
use Rattle.asm_text.specs.Source.{Labels, labels, resolved}
use Rattle.asm_source.specs.Known.{AreNumbers, KnowsLabels, number_of}
use Rattle.asm_source.specs.Resolved.{pieces_at, pieces_of}

map_append : {A B : Type 0} (f : A → B) (xs ys : List A) → map f (xs ++ ys) ≡ map f xs ++ map f ys
map_append f [] ys = refl
map_append f (x ∷ xs) ys = ap (λ zs. f x ∷ zs) (map_append f xs ys)

both : {A : Type 0} (ws xs ys zs : List A) → ws ≡ xs → ys ≡ zs → ws ++ ys ≡ xs ++ zs
both ws xs ys zs p q = λ j. p j ++ q j

module _ (all : Labels) where
  -- what a list of tokens is with numbers, as the definitions of a shape have it
  abbrev shown : List Token → List outline.OutlineToken
  shown ts = map outline.Written (map (resolved all) ts)

  shown_append : (ts us : List Token) → shown (ts ++ us) ≡ shown ts ++ shown us
  shown_append ts us = ap (map outline.Written) (map_append (resolved all) ts us) ∙ map_append outline.Written (map (resolved all) ts) (map (resolved all) us)

  written_stays : (ts : List LineToken) → shown (map text.Written ts) ≡ map outline.Written ts
  written_stays [] = refl
  written_stays (t ∷ ts) = ap (λ us. outline.Written t ∷ us) (written_stays ts)

  pieces_shown : (ps : List Piece) → AreWritten ps → map token_of ps ≡ shown (map text.Written (tokens_of ps))
  pieces_shown ps w = w ∙ sym (written_stays (tokens_of ps))

  reference_shown : (r : Reference) → AreWritten r.behind.items → map token_of (pieces_at all r) ≡ shown (seen_reference r)
  reference_shown r w = ap (λ us. outline.Written (Number (pos (number_of all r.name))) ∷ us) (pieces_shown r.behind.items w)

  references_shown : (rs : List Reference) → AreWrittenBehind rs → map token_of (flat_map (pieces_at all) rs) ≡ shown (flat_map seen_reference rs)
  references_shown [] w = refl
  references_shown (r ∷ rs) w =
      map_append token_of (pieces_at all r) (flat_map (pieces_at all) rs) ∙ both _ _ _ _ (reference_shown r w.0) (references_shown rs w.1) ∙ sym (shown_append (seen_reference r) (flat_map seen_reference rs))

  all_shown : (t : Tokens) → HasWritten t → map token_of (pieces_of all t) ≡ shown (seen_tokens t)
  all_shown t w =
      map_append token_of t.front.items (flat_map (pieces_at all) t.references.items)
      ∙ both _ _ _ _ (pieces_shown t.front.items w.front) (references_shown t.references.items w.references)
      ∙ sym (shown_append (map text.Written (tokens_of t.front.items)) (flat_map seen_reference t.references.items))

-- labels that have the same numbers
module _ (all found : Labels) (same : AreNumbers all found) where
  same_resolved : (t : Token) → resolved found t ≡ resolved all t
  same_resolved (text.Written t) = refl
  same_resolved (text.Reference name) = rw (same name) refl

  same_tokens : (ts : List Token) → map (resolved found) ts ≡ map (resolved all) ts
  same_tokens [] = refl
  same_tokens (t ∷ ts) = rw (same_resolved t, same_tokens ts) refl

-- with all references behind the front, the pieces are the tokens
pub tokens_are : (found : Labels) (t : Tokens) (i : ℕ) (ps : List Piece) → length t.references.items ≤ i → ps ++ flat_map (pieces_at found) (drop i t.references.items) ≡ pieces_of found t
    → (ls : List Line) → KnowsLabels ls found → HasWritten t → AreTokens ps (map (resolved (labels ls)) (seen_tokens t))
tokens_are found t i ps far so_far ls known written =
    let is : ps ≡ pieces_of found t = sym (append-nil ps) ∙ ap (λ rs. ps ++ flat_map (pieces_at found) rs) (sym (drop_all i t.references.items far)) ∙ so_far in
    ap (map token_of) is ∙ all_shown found t written ∙ ap (map outline.Written) (same_tokens (labels ls) found known.numbers (seen_tokens t))
