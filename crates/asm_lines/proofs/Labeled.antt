-- A line with a label.
use Rattle.std.proofs.Common.{ℕ, ◌≡◌, true, List, take, drop, refl, sym, ◌∙◌, ap, Option, Some}
use Rattle.std.specs.Prelude.{◌==◌}
use Rattle.std.specs.List.{prefix_len}
use Rattle.nk_base.specs.Byte.{is_name_start, is_name_byte}
use Rattle.asm_lines.specs.Line.{begins_with, content, is_name, labeled_line, line, with_label, without_blanks, without_comment}
use Rattle.asm_lines.specs.Seen.{IsContent, IsLabeled, IsLine}
use Rattle.asm_lines.specs.declared.line.Content.{Content}
use Rattle.asm_lines.specs.declared.line.Line.{Line}

module _ (width : ℕ) (whole xs name behind : List ℕ) (n : ℕ) (is : xs ≡ without_blanks (without_comment whole)) (long : n ≡ prefix_len is_name_byte xs) (front : name ≡ take n xs) (back : behind ≡ drop n xs) where
  front_is : take (prefix_len is_name_byte xs) xs ≡ name
  front_is = sym (front ∙ ap (λ k. take k xs) long)

  back_is : drop (prefix_len is_name_byte xs) xs ≡ behind
  back_is = sym (back ∙ ap (λ k. drop k xs) long)

  labeled : begins_with is_name_start xs ≡ true → begins_with (λ c. c == 58) behind ≡ true → is_name name ≡ true → labeled_line width xs ≡ with_label (Some name) (content width (without_blanks (drop 1 behind)))
  labeled a b right = rw (front_is, back_is, a, b, right) refl

  pub line_is : begins_with is_name_start xs ≡ true → begins_with (λ c. c == 58) behind ≡ true → is_name name ≡ true → (label : List ℕ) (c : Option Content) (found : Option Line) → label ≡ name
      → IsContent c (content width (without_blanks (drop 1 behind))) → IsLabeled (Some label) c found → IsLine found (line width whole)
  line_is a b right label c found same one all = record {
    same = all.same ∙ (ap (with_label (Some label)) one.same ∙ (ap (λ l. with_label (Some l) (content width (without_blanks (drop 1 behind)))) same ∙ (sym (labeled a b right) ∙ ap (labeled_line width) is)));
    written = all.written one.written;
  }
