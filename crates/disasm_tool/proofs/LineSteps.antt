-- Lines, one behind another.
use Rattle.std.proofs.Common.{ℕ, ◌+◌, ◌<◌, ◌≡◌, refl, sym, ◌∙◌, ap, subst, List, [], ◌∷◌, ◌++◌, append_assoc, take, get_or, length}
use Rattle.std.specs.Prelude.{Result, Ok, Err, OnOk, codes}
use Rattle.std.proofs.lemmas.List.{flat_map_more, take_more}
use Rattle.std.proofs.lemmas.Option.{slice_get_within}
use Rattle.nk_base.specs.Hexadecimal.{digits_of_word, hexadecimal}
use Rattle.nml_tree.specs.Derivation.{Derivation}
use Rattle.nml_tree.specs.Machine.{IsInstruction}
use Rattle.nml_tree.specs.Syntax.{syntax_of}
use Rattle.nml_tree.specs.Table.{Text, Table}
use Rattle.nml_shape.specs.declared.shape.Inst.{Inst}
use Rattle.isg_graph.specs.Graph.{Graph}
use Rattle.isg_graph.specs.Instance.{IsInstOf}
use Rattle.asm_text.specs.Canonical.{AreWordLines, IsWordLine, Read, Unread}
use Rattle.disasm_tool.specs.Lines.{HasWordLine, HasWordLines}

pub on_ok : {V E : Type 0} (P Q : Type 0) → (P → Q) → (r : Result V E) → OnOk r P → OnOk r Q
on_ok P Q f (Ok v) h = f h
on_ok P Q f (Err e) h = tt

pub inst_within : (g : Graph) (i : Inst) (x : Derivation) → IsInstOf g i x → i.shape < length g.shapes
inst_within g i x is = slice_get_within g.shapes i.shape is.of.shape is.of.stands

fed : (old line now new : Text) → now ≡ old ++ line → new ≡ now ++ 10 ∷ [] → new ≡ old ++ (line ++ 10 ∷ [])
fed old line now new is end = end ∙ (ap (λ s. s ++ 10 ∷ []) is ∙ append_assoc old line (10 ∷ []))

-- of a word that is an instruction
pub read_line : (t : Table) (width word : ℕ) (x : Derivation) (old now new : Text) → IsInstruction t word x → now ≡ old ++ syntax_of x → new ≡ now ++ 10 ∷ [] → HasWordLine t width word old new
read_line t width word x old now new h is end = record { line = syntax_of x; is = Read x h refl; text = fed old (syntax_of x) now new is end }

-- and of one that is none
pub unread_line : (t : Table) (width word : ℕ) (old now new : Text) → ((x : Derivation) → IsInstruction t word x → ⊥) → now ≡ old ++ (codes ".bits " ++ hexadecimal (digits_of_word width) word) → new ≡ now ++ 10 ∷ [] → HasWordLine t width word old new
unread_line t width word old now new none is end = record { line = codes ".bits " ++ hexadecimal (digits_of_word width) word; is = Unread none refl; text = fed old (codes ".bits " ++ hexadecimal (digits_of_word width) word) now new is end }

lines_push : (t : Table) (width : ℕ) (ws : List ℕ) (w : ℕ) (lines : List Text) (line : Text) → AreWordLines t width ws lines → IsWordLine t width w line → AreWordLines t width (ws ++ w ∷ []) (lines ++ line ∷ [])
lines_push t width [] w lines line h is = (line, [], ap (λ ls. ls ++ line ∷ []) h, is, refl)
lines_push t width (v ∷ ws) w lines line h is = (h.0, h.1 ++ line ∷ [], ap (λ ls. ls ++ line ∷ []) h.2, h.3, lines_push t width ws w h.1 line h.4 is)

pub next_line : (t : Table) (width : ℕ) (words : List ℕ) (i d : ℕ) (old now new : Text) → i < length words → HasWordLines t width (take i words) old now → HasWordLine t width (get_or words i d) now new → HasWordLines t width (take (i + 1) words) old new
next_line t width words i d old now new low before h =
    subst (λ ws. HasWordLines t width ws old new) (sym (take_more words i d low)) (record {
      lines = before.lines ++ h.line ∷ [];
      are = lines_push t width (take i words) (get_or words i d) before.lines h.line before.are h.is;
      text = h.text ∙ (ap (λ s. s ++ (h.line ++ 10 ∷ [])) before.text ∙ flat_map_more (λ l. l ++ 10 ∷ []) old before.lines h.line);
    })
