-- What is read is what the line says.
use Rattle.std.proofs.Common.{ℕ, ◌≡◌, true, false, List, [], ◌∷◌, ◌++◌, length, take, drop, map, refl, sym, ◌∙◌, ap, subst, append_assoc, append-nil, Some, None, arith}
use Rattle.std.specs.Prelude.{◌==◌, ◌&&◌, flat_map}
use Rattle.std.specs.Global.{Vec}
use Rattle.std.specs.List.{list_all, prefix_len, slice_split}
use Rattle.std.proofs.lemmas.Bool.{and_parts, eqb-true}
use Rattle.nk_base.specs.Byte.{is_name_byte}
use Rattle.nml_tree.specs.LineToken.{LineToken, line_tokens}
use Rattle.nml_tree.specs.Outline as outline
use Rattle.nml_tree.specs.Outline.{with_numbers}
use Rattle.nml_shape.specs.declared.shape.Piece.{Piece}
use Rattle.nml_shape.specs.Shown.{token_of}
use Rattle.asm_lines.specs.Line as text
use Rattle.asm_lines.specs.Line.{Token, are_tokens, is_reference, written, reference, content_of, instruction}
use Rattle.asm_lines.specs.Seen.{tokens_of, AreTokens, AreWritten, seen_reference, seen_tokens, AreWrittenBehind, IsContent, IsContentOf, IsReference, AreReferences, is_at, is_no_at, others}
use Rattle.asm_lines.specs.declared.line.Content.{Content}
use Rattle.asm_lines.specs.declared.line.Content.TheVariants as held
use Rattle.asm_lines.specs.declared.line.Reference.{Reference}
use Rattle.asm_lines.specs.declared.line.Tokens.{Tokens}
use Rattle.asm_lines.proofs.Splits.{split_front}

-- the tokens that pieces are
pub pieces_are : (ps : List Piece) (ts : List LineToken) → AreTokens ps ts → tokens_of ps ≡ ts
pieces_are [] [] h = refl
pieces_are [] (t ∷ ts) h = absurd cc
pieces_are (p ∷ ps) [] h = absurd cc
pieces_are (p ∷ ps) (t ∷ ts) h =
    let first : token_of p ≡ outline.Written t = cc in
    let more : AreTokens ps ts = cc in
    rw (first, pieces_are ps ts more) refl

pub pieces_written : (ps : List Piece) (ts : List LineToken) → AreTokens ps ts → AreWritten ps
pieces_written ps ts h = subst (AreTokens ps) (sym (pieces_are ps ts h)) h

-- a reference, by its name and what stands behind it
module _ (part name behind : List ℕ) (n : ℕ) (long : n ≡ prefix_len is_name_byte part) (front : name ≡ take n part) (back : behind ≡ drop n part) where
  pub reference_tokens : is_reference part ≡ true → are_tokens behind ≡ true
  reference_tokens h = ap are_tokens (back ∙ ap (λ k. drop k part) long) ∙ (and_parts _ _ h).1

  pub reference_is : (r : Reference) → r.name ≡ name → AreTokens r.behind.items (line_tokens behind) → IsReference part r
  reference_is r same are = record {
    same = rw (same, front, pieces_are r.behind.items (line_tokens behind) are, back, long) refl;
    written = pieces_written r.behind.items (line_tokens behind) are;
  }

flat_append : {A B : Type 0} (f : A → List B) (xs : List A) (x : A) → flat_map f (xs ++ x ∷ []) ≡ flat_map f xs ++ f x
flat_append f [] x = append-nil (f x)
flat_append f (y ∷ ys) x = ap (λ zs. f y ++ zs) (flat_append f ys x) ∙ sym (append_assoc (f y) (flat_map f ys) (f x))

written_append : (rs : List Reference) (r : Reference) → AreWrittenBehind rs → AreWritten r.behind.items → AreWrittenBehind (rs ++ r ∷ [])
written_append [] r h w = (w, tt)
written_append (x ∷ rs) r h w = (h.0, written_append rs r h.1 w)

-- the references so far, of all behind these
pub record Held (all left : List (List ℕ)) (rs : List Reference) : Type 0 where
  pub form : list_all is_reference all ≡ list_all is_reference left
  pub same : flat_map reference all ≡ flat_map seen_reference rs ++ flat_map reference left
  pub written : AreWrittenBehind rs

pub none_held : (all : List (List ℕ)) (rs : List Reference) → rs ≡ [] → Held all all rs
none_held all [] h = record { form = refl; same = refl; written = tt }
none_held all (r ∷ rs) h = absurd cc

pub held_more : (all left more : List (List ℕ)) (part : List ℕ) (rs new : List Reference) (r : Reference) → Held all left rs → left ≡ part ∷ more → is_reference part ≡ true → IsReference part r → new ≡ rs ++ r ∷ [] → Held all more new
held_more all left more part rs new r h is right one pushed = record {
  form = h.form ∙ (ap (list_all is_reference) is ∙ ap (λ b. b && list_all is_reference more) right);
  same = h.same ∙ (ap (λ ps. flat_map seen_reference rs ++ flat_map reference ps) is
      ∙ (ap (λ ts. flat_map seen_reference rs ++ (ts ++ flat_map reference more)) (sym one.same)
      ∙ (sym (append_assoc (flat_map seen_reference rs) (seen_reference r) (flat_map reference more))
      ∙ ap (λ ts. ts ++ flat_map reference more) (sym (flat_append seen_reference rs r) ∙ ap (flat_map seen_reference) (sym pushed)))));
  written = subst AreWrittenBehind (sym pushed) (written_append rs r h.written one.written);
}

pub held_wrong : (all left more : List (List ℕ)) (part : List ℕ) (rs : List Reference) → Held all left rs → left ≡ part ∷ more → is_reference part ≡ false → AreReferences all None
held_wrong all left more part rs h is wrong = h.form ∙ (ap (list_all is_reference) is ∙ ap (λ b. b && list_all is_reference more) wrong)

pub held_all : (all left : List (List ℕ)) (v : Vec Reference) → Held all left v.items → left ≡ [] → AreReferences all (Some v)
held_all all left v h none = (
  h.form ∙ ap (list_all is_reference) none,
  sym (h.same ∙ (ap (λ ps. flat_map seen_reference v.items ++ flat_map reference ps) none ∙ append-nil (flat_map seen_reference v.items))),
  h.written,
)

-- the instruction, by what stands before its first reference and those behind
module _ (xs front rest : List ℕ) (n : ℕ) (long : n ≡ prefix_len is_no_at xs) (is : front ≡ take n xs) (more : rest ≡ drop n xs) where
  split : instruction (slice_split is_at xs) ≡ instruction (front ∷ others rest)
  split = let e : slice_split is_at xs ≡ front ∷ others rest = split_front is_at xs ∙ rw (is, more, long) refl in ap instruction e

  pub front_wrong : are_tokens front ≡ false → IsContent None (instruction (slice_split is_at xs))
  front_wrong wrong = record { same = sym (split ∙ rw wrong refl); written = tt }

  pub others_wrong : are_tokens front ≡ true → AreReferences (others rest) None → IsContent None (instruction (slice_split is_at xs))
  others_wrong right wrong = record { same = sym (split ∙ rw (right, wrong) refl); written = tt }

  pub all_right : (t : Tokens) (c : Content) → are_tokens front ≡ true → AreTokens t.front.items (line_tokens front) → AreReferences (others rest) (Some t.references) → IsContentOf t c
      → IsContent (Some c) (instruction (slice_split is_at xs))
  all_right t c right are rs one = record {
    same = sym (split ∙ rw (right, rs.0) (ap (λ ts. Some (content_of ts)) (rw (sym (pieces_are t.front.items (line_tokens front) are), sym rs.1) refl) ∙ ap Some (sym one.same)));
    written = one.written (record { front = pieces_written t.front.items (line_tokens front) are; references = rs.2 });
  }

-- what the tokens are
no_front : (ps : List Piece) → length ps ≡ 0 → map text.Written (tokens_of ps) ≡ []
no_front [] h = refl
no_front (p ∷ ps) h = absurd (omega (arith, h))

no_references : (rs : List Reference) → length rs ≡ 0 → flat_map seen_reference rs ≡ []
no_references [] h = refl
no_references (r ∷ rs) h = absurd (omega (arith, h))

pub nothing_is : (t : Tokens) → true ≡ ((length t.front.items == 0) && (length t.references.items == 0)) → IsContentOf t held.Nothing
nothing_is t h =
    let p = and_parts _ _ (sym h) in
    let a = eqb-true (length t.front.items) 0 p.0 in let b = eqb-true (length t.references.items) 0 p.1 in
    let none : seen_tokens t ≡ [] = rw (no_front t.front.items a, no_references t.references.items b) refl in
    record { same = sym (ap content_of none); written = λ w. tt }

some_references : (rs : List Reference) → false ≡ (length rs == 0) → text.Instruction (flat_map seen_reference rs) ≡ content_of (flat_map seen_reference rs)
some_references [] h = absurd cc
some_references (r ∷ rs) h = refl

either_some : (ps : List Piece) (rs : List Reference) → false ≡ ((length ps == 0) && (length rs == 0)) → text.Instruction (map text.Written (tokens_of ps) ++ flat_map seen_reference rs) ≡ content_of (map text.Written (tokens_of ps) ++ flat_map seen_reference rs)
either_some [] rs h = some_references rs h
either_some (p ∷ ps) rs h = refl

pub instruction_is : (t : Tokens) → false ≡ ((length t.front.items == 0) && (length t.references.items == 0)) → IsContentOf t (held.Instruction t)
instruction_is t h = record { same = either_some t.front.items t.references.items h; written = λ w. w }
