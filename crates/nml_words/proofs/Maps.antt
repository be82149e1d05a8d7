-- What a map gives after a name is put into it; the widths of a text by a map.
use Rattle.std.proofs.Common.{◌≡◌, ℕ, ◌+◌, ◌<◌, Bool, true, false, cond, List, [], ◌∷◌, map, get_or, drop, length, Some, refl, ap, sym, ◌∙◌, arith, true≢false}
use Rattle.std.specs.Prelude.{unwrap_or}
use Rattle.std.specs.Map.{lookup}
use Rattle.indexmap.specs.IndexMap.{insert_entry}
use Rattle.nk_base.specs.Text.{text_eq}
use Rattle.nml_tree.specs.declared.attributes.Arg.{Arg}
use Rattle.nml_tree.specs.declared.attributes.Template.{Template}
use Rattle.nml_tree.specs.declared.tree.Par.{Par}
use Rattle.nml_tree.specs.Attribute.{FormatPiece, Letter, Directive, pieces}
use Rattle.nml_tree.specs.Table.{Text}
use Rattle.nml_tree.proofs.SameText.{same_text, equal_text, turned}
use Rattle.nml_tree.proofs.Drops.{dropped}
use Rattle.nml_words.specs.declared.span.Span.{Span}
use Rattle.nml_words.specs.Span.{span, plus, span_given, AreGiven, args_given, with_pieces, text_span, par_spans}

-- a name that is put into a map, and the others
after_put : {V : Type 0} (k : Text) (v : V) (q : Text) (es : List (Text × V)) → lookup (text_eq q) (insert_entry text_eq es k v) ≡ cond (text_eq k q) (Some v) (lookup (text_eq q) es)
after_put k v q [] = rw (turned q k) refl
after_put {V} k v q (e ∷ es) = by (text_eq k e.0) (text_eq q e.0) (text_eq k q) refl refl refl (after_put k v q es)
  where
    put : Bool → List (Text × V)
    put b = cond b ((e.0, v) ∷ es) (e ∷ insert_entry text_eq es k v)

    by : (x y z : Bool) → text_eq k e.0 ≡ x → text_eq q e.0 ≡ y → text_eq k q ≡ z → lookup (text_eq q) (insert_entry text_eq es k v) ≡ cond (text_eq k q) (Some v) (lookup (text_eq q) es)
        → lookup (text_eq q) (put (text_eq k e.0)) ≡ cond (text_eq k q) (Some v) (cond (text_eq q e.0) (Some e.1) (lookup (text_eq q) es))
    by true true true ex ey ez h = rw (ex, ey, ez) refl
    by true true false ex ey ez h = absurd (true≢false (sym (equal_text k q (same_text k e.0 ex ∙ sym (same_text q e.0 ey))) ∙ ez))
    by true false true ex ey ez h = absurd (true≢false (sym (equal_text q e.0 (sym (same_text k q ez) ∙ same_text k e.0 ex)) ∙ ey))
    by true false false ex ey ez h = rw (ex, ey, ez) refl
    by false true true ex ey ez h = absurd (true≢false (sym (equal_text k e.0 (same_text k q ez ∙ same_text q e.0 ey)) ∙ ex))
    by false true false ex ey ez h = rw (ex, ey, ez) refl
    by false false true ex ey ez h = rw (ex, ey, ez, h, ez) refl
    by false false false ex ey ez h = rw (ex, ey, ez, h, ez) refl

pub put_given : (es : List (Text × Span)) (k : Text) (v : Span) (rest : List (Text × Span)) → AreGiven es rest → AreGiven (insert_entry text_eq es k v) ((k, v) ∷ rest)
put_given es k v rest h = λ q. after_put k v q es ∙ rw (h q, turned k q) refl

-- the parameters from a place on
pub next_given : (given : Par → Span) (rest : List (ℕ × Par)) (next i : ℕ) (p : ℕ × Par) (es new : List (Text × Span)) → next ≡ i + 1 → i < length rest → p ≡ get_or rest i p
    → AreGiven es (par_spans given (map (λ (comma, p). p) (drop next rest))) → ((more : List (Text × Span)) → AreGiven es more → AreGiven new ((p.1.name.text, given p.1) ∷ more))
    → AreGiven new (par_spans given (map (λ (comma, p). p) (drop i rest)))
next_given given rest next i p es new up low is before put = rw (dropped rest i p low is) (put (par_spans given (map (λ (comma, p). p) (drop (i + 1) rest))) (rw (← up) before))

-- and the first before them
pub first_given : (given : Par → Span) (first : Par) (rest slice : List (ℕ × Par)) (es new : List (Text × Span)) → slice ≡ rest → AreGiven es (par_spans given (map (λ (comma, p). p) slice)) → ((more : List (Text × Span)) → AreGiven es more → AreGiven new ((first.name.text, given first) ∷ more))
    → AreGiven new (par_spans given (first ∷ map (λ (comma, p). p) rest))
first_given given first rest slice es new is before put = put (par_spans given (map (λ (comma, p). p) rest)) (rw (← is) before)

-- the same widths by a map
pub same_text_span : (es given : List (Text × Span)) (text : Template) → AreGiven es given → text_span (span_given es) text ≡ text_span (span_given given) text
same_text_span es given text h = ap (λ (f : Text → Span). text_span f text) (λ j q. unwrap_or (h q j) (span 0 0))

-- behind widths, those of a piece
same_span : (a b c d : ℕ) → a ≡ c → b ≡ d → span a b ≡ span c d
same_span a b c d h k = rw (h, k) refl

pub letter_span : (total new : Span) (more : List FormatPiece) (q : FormatPiece) (c : ℕ) (args : List Span) → q ≡ Letter c → new ≡ plus total (span 1 1) → with_pieces new more args ≡ with_pieces total (q ∷ more) args
letter_span total new more q c args is e = rw (is, e) (same_span _ _ _ _ (omega arith) (omega arith))

pub no_argument : (total : Span) (more : List FormatPiece) (q : FormatPiece) (given : Text → Span) (args : List (ℕ × Arg)) → (digits : List ℕ) × (letter : ℕ) × (q ≡ Directive digits letter) → length args ≡ 0
    → with_pieces total more (args_given given args) ≡ with_pieces total (q ∷ more) (args_given given args)
no_argument total more q given [] h none = rw h.2 refl
no_argument total more q given (a ∷ args) h none = absurd (omega (arith, none))

pub next_argument : (total new : Span) (more : List FormatPiece) (q : FormatPiece) (given : Text → Span) (args left : List (ℕ × Arg)) (a : ℕ × Arg) → (digits : List ℕ) × (letter : ℕ) × (q ≡ Directive digits letter) → args ≡ a ∷ left → new ≡ plus total (given a.1.name.text)
    → with_pieces new more (args_given given left) ≡ with_pieces total (q ∷ more) (args_given given args)
next_argument total new more q given args left a h is e = rw (h.2, is, e) (same_span _ _ _ _ (omega arith) (omega arith))

pub end_text : (total : Span) (text : List ℕ) (args : List Span) → text ≡ [] → with_pieces total (pieces text) args ≡ total
end_text total text args is = rw is (same_span _ _ _ _ (omega arith) (omega arith))
