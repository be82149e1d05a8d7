-- Words and initial values have one canonical text, and it can't be that they have none.
use Rattle.std.proofs.Common.{ℕ, ◌≡◌, refl, sym, ◌∙◌, ap, List, [], ◌∷◌, ◌++◌, map}
use Rattle.nml_tree.specs.declared.tree.Desc.{Desc}
use Rattle.nml_tree.specs.Machine.{Initial}
use Rattle.nml_tree.specs.Refused.{IsChecked}
use Rattle.nml_tree.specs.Syntax.{syntax_of}
use Rattle.nml_tree.specs.Table.{Text, Table, table}
use Rattle.nml_laws.proofs.OneRun.{AreOne}
use Rattle.nml_laws.proofs.OneWord.{one_instruction}
use Rattle.asm_text.specs.Canonical.{IsWordLine, Read, Unread, AreWordLines, data_line, ended, IsCanonical}

one_line : (t : Table) → AreOne t → (width w : ℕ) (a b : Text) → IsWordLine t width w a → IsWordLine t width w b → a ≡ b
one_line t only width w a b (Read d h is) (Read e k same) = is ∙ (ap syntax_of (only w d e h k) ∙ sym same)
one_line t only width w a b (Read d h is) (Unread none same) = absurd (none d h)
one_line t only width w a b (Unread none is) (Read e k same) = absurd (none e k)
one_line t only width w a b (Unread none is) (Unread other same) = is ∙ sym same

same_lines : (t : Table) → AreOne t → (width : ℕ) (ws : List ℕ) (xs ys : List Text) → AreWordLines t width ws xs → AreWordLines t width ws ys → xs ≡ ys
same_lines t only width [] xs ys h k = h ∙ sym k
same_lines t only width (w ∷ ws) xs ys h k =
    h.2 ∙ (ap (λ z. z ∷ h.1) (one_line t only width w h.0 k.0 h.3 k.3) ∙ (ap (λ zs. k.0 ∷ zs) (same_lines t only width ws h.1 k.1 h.4 k.4) ∙ sym k.2))

pub one_canonical : (d : Desc) (width : ℕ) (ws a b : List ℕ) (is : List Initial) → IsChecked d → IsCanonical (table d) width ws is a → IsCanonical (table d) width ws is b → a ≡ b
one_canonical d width ws a b is checked h k =
    h.2 ∙ (ap (λ lines. ended (lines ++ map (data_line (table d)) is)) (same_lines (table d) (one_instruction d checked) width ws h.0 k.0 h.1 k.1) ∙ sym k.2)

some_line : (t : Table) (width w : ℕ) → ((line : Text) → IsWordLine t width w line → ⊥) → ⊥
some_line t width w without = without _ (Unread (λ d h. without _ (Read d h refl)) refl)

some_lines : (t : Table) (width : ℕ) (ws : List ℕ) → ((lines : List Text) → AreWordLines t width ws lines → ⊥) → ⊥
some_lines t width [] without = without [] refl
some_lines t width (w ∷ ws) without = some_line t width w (λ line h. some_lines t width ws (λ lines k. without (line ∷ lines) (line, lines, refl, h, k)))

pub some_canonical : (d : Desc) (width : ℕ) (ws : List ℕ) (is : List Initial) → ((a : List ℕ) → IsCanonical (table d) width ws is a → ⊥) → ⊥
some_canonical d width ws is without = some_lines (table d) width ws (λ lines h. without _ (lines, h, refl))
