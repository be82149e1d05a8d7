-- The syntax of a shape with the numbers of an instruction in the fields is the instruction's.
use Rattle.std.proofs.Common.{ℕ, ◌+◌, ◌<◌, ◌≡◌, refl, sym, ◌∙◌, ap, ℤ, List, [], ◌∷◌, ◌++◌, append_assoc, map, take, get_or, length, Some}
use Rattle.std.specs.Prelude.{slice_get}
use Rattle.std.specs.Fmt.{signed_decimal}
use Rattle.std.proofs.lemmas.List.{take_more}
use Rattle.nml_tree.specs.Derivation.{Derivation, fields}
use Rattle.nml_tree.specs.Edge.{flat}
use Rattle.nml_tree.specs.Syntax.{syntax_of}
use Rattle.nml_tree.specs.Value.{number_at}
use Rattle.nml_shape.specs.declared.shape.Inst.{Inst}
use Rattle.nml_outline.proofs.FlatText.{syntax_is, written}
use Rattle.shape_list.specs.Drawn.{flat_of}
use Rattle.shape_list.specs.declared.text.Glyph.{Glyph}
use Rattle.shape_list.specs.declared.text.Glyph.TheVariants as glyph
use Rattle.isg_graph.specs.Graph.{AreFor, Graph}
use Rattle.isg_graph.specs.Instance.{IsInstOf}
use Rattle.disasm_tool.specs.Syntaxes.{IsSyntax, with_fields}

both_filled : (zs : List ℤ) (xs ys : List Glyph) → with_fields zs (xs ++ ys) ≡ with_fields zs xs ++ with_fields zs ys
both_filled zs [] ys = refl
both_filled zs (glyph.Letter c ∷ xs) ys = ap (λ s. c ∷ s) (both_filled zs xs ys)
both_filled zs (glyph.Field n ∷ xs) ys =
    ap (λ s. signed_decimal (number_at zs n) ++ s) (both_filled zs xs ys) ∙ sym (append_assoc (signed_decimal (number_at zs n)) (with_fields zs xs) (with_fields zs ys))
both_filled zs (glyph.Seam ∷ xs) ys = both_filled zs xs ys

pub next_glyph : (zs : List ℤ) (gs : List Glyph) (i : ℕ) (d g : Glyph) (old now new : List ℕ) → i < length gs → g ≡ get_or gs i d → now ≡ old ++ with_fields zs (take i gs) → new ≡ now ++ with_fields zs (g ∷ [])
    → new ≡ old ++ with_fields zs (take (i + 1) gs)
next_glyph zs gs i d g old now new low is before after =
    after
    ∙ (ap (λ s. s ++ with_fields zs (g ∷ [])) before
    ∙ (append_assoc old (with_fields zs (take i gs)) (with_fields zs (g ∷ []))
    ∙ (ap (λ s. old ++ s) (sym (both_filled zs (take i gs) (g ∷ [])))
    ∙ (ap (λ x. old ++ with_fields zs (take i gs ++ x ∷ [])) is ∙ ap (λ xs. old ++ with_fields zs xs) (sym (take_more gs i d low))))))

filled_written : (zs : List ℤ) (gs : List Glyph) → with_fields zs gs ≡ written (number_at zs) (map flat_of gs)
filled_written zs [] = refl
filled_written zs (glyph.Letter c ∷ gs) = ap (λ s. c ∷ s) (filled_written zs gs)
filled_written zs (glyph.Field n ∷ gs) = ap (λ s. signed_decimal (number_at zs n) ++ s) (filled_written zs gs)
filled_written zs (glyph.Seam ∷ gs) = filled_written zs gs

pub instruction_text : (g : Graph) (i : Inst) (all : List (List Glyph)) (gs : List Glyph) (zs : List ℤ) (x : Derivation) → AreFor (IsSyntax g.desc) g.shapes all → slice_get all i.shape ≡ Some gs → IsInstOf g i x → fields x ≡ zs
    → with_fields zs gs ≡ syntax_of x
instruction_text g i all gs zs x are at is f =
    filled_written zs gs
    ∙ (ap (written (number_at zs)) (are.each i.shape is.of.shape gs is.of.stands at x is.of.is)
    ∙ (ap (λ ys. written (number_at ys) (flat 0 x)) (sym f) ∙ sym (syntax_is x)))
