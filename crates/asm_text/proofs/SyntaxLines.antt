-- A line of tokens is read as the instruction of these tokens.
use Rattle.std.proofs.Common.{ℕ, zero, suc, ◌+◌, ◌≡◌, refl, sym, ◌∙◌, ap, subst, Bool, true, false, cond, List, [], ◌∷◌, ◌++◌, append-nil, map, drop, Option, Some, None, arith, inl, inr}
use Rattle.std.specs.Prelude.{◌==◌, nat_le, not, ◌&&◌, ◌||◌, if◌then◌else◌}
use Rattle.std.specs.Char.{is_ascii_digit}
use Rattle.std.specs.List.{list_all, prefix_len, slice_split}
use Rattle.std.proofs.lemmas.Bool.{and_parts, and_from, and_right, or_cases, eqb-true}
use Rattle.nk_base.specs.Byte.{is_name_start, is_name_byte, is_blank}
use Rattle.nml_tree.specs.LineToken.{LineToken, Begun, begun, tokens_behind, line_tokens}
use Rattle.nml_tree.specs.Table.{Text}
use Rattle.asm_lines.specs.Line.{Token, Written, Content, Instruction, Line, front, behind, begins_with, is_name, has_short_runs, is_token_byte, are_tokens, written, content_of, instruction, content, directive, parts, without_comment, without_blanks, has_label, with_label, labeled_line, line}
use Rattle.asm_text.proofs.Texts.{all_drop, without_byte, begins_other, front_all, split_none}

blank_begun : (c : ℕ) (text : List ℕ) → is_blank c ≡ true → begun c text ≡ record { token = []; more = 0 }
blank_begun c text h =
    elim (or_cases ((c == 32) || (c == 9)) (c == 13) h) [
      | inl front ↦
          elim (or_cases (c == 32) (c == 9) front) [
            | inl e ↦ subst (λ k. begun k text ≡ record { token = []; more = 0 }) (sym (eqb-true c 32 e)) refl
            | inr e ↦ subst (λ k. begun k text ≡ record { token = []; more = 0 }) (sym (eqb-true c 9 e)) refl
          ]
      | inr e ↦ subst (λ k. begun k text ≡ record { token = []; more = 0 }) (sym (eqb-true c 13 e)) refl
    ]

pub tokens_without_blanks : (text : Text) → line_tokens (without_blanks text) ≡ line_tokens text
tokens_without_blanks [] = refl
tokens_without_blanks (c ∷ cs) = by (is_blank c) refl (tokens_without_blanks cs)
  where
    by : (b : Bool) → is_blank c ≡ b → line_tokens (without_blanks cs) ≡ line_tokens cs → line_tokens (drop (cond b (1 + prefix_len is_blank cs) 0) (c ∷ cs)) ≡ line_tokens (c ∷ cs)
    by true e more =
        let one : 1 + prefix_len is_blank cs ≡ suc (prefix_len is_blank cs) = omega arith in
        ap (λ n. line_tokens (drop n (c ∷ cs))) one ∙ (more ∙ sym (ap (λ (b : Begun). b.token ++ tokens_behind b.more cs) (blank_begun c cs e)))
    by false e more = refl

short_drop : (k : ℕ) (xs : Text) → has_short_runs xs ≡ true → has_short_runs (drop k xs) ≡ true
short_drop zero xs h = h
short_drop (suc k) [] h = refl
short_drop (suc k) (x ∷ xs) h = short_drop k xs (and_parts (nat_le (prefix_len is_ascii_digit (x ∷ xs)) 38) (has_short_runs xs) h).1

content_some : (ts : List LineToken) → (ts ≡ [] → ⊥) → content_of (map Written ts) ≡ Instruction (map Written ts)
content_some [] some = absurd (some refl)
content_some (t ∷ ts) some = refl

abbrev Is : Text → Option Line → Type 0
Is text o = o ≡ Some (record { label = None; content = Instruction (written text) })

-- a text of tokens that begins with no blank
plain_line : (width : ℕ) (text : Text) → are_tokens text ≡ true → (line_tokens text ≡ [] → ⊥) → Is text (labeled_line width text)
plain_line width text h some =
    let p = and_parts (list_all is_token_byte text) (has_short_runs text) h in
    let no_label : has_label text ≡ false =
    and_right (begins_with is_name_start text) _ (begins_other is_token_byte 58 refl (behind is_name_byte text) (all_drop is_token_byte (prefix_len is_name_byte text) text p.0)) in
    let label : Text = front is_name_byte text in
    let rest : Text = without_blanks (drop 1 (behind is_name_byte text)) in
    ap (λ b. if b then (if is_name label then with_label (Some label) (content width rest) else None) else with_label None (content width text)) no_label
    ∙ (ap (λ b. with_label None (if b then directive width (parts text) else instruction (slice_split (λ c. c == 64) text))) (begins_other is_token_byte 46 refl text p.0)
    ∙ (ap (λ ps. with_label None (instruction ps)) (split_none (λ c. c == 64) text (without_byte is_token_byte 64 refl text p.0))
    ∙ (ap (λ b. with_label None (if b then Some (content_of (written text ++ [])) else None)) (and_from (are_tokens text) true h refl)
    ∙ (ap (λ ts. with_label None (Some (content_of ts))) (append-nil (written text)) ∙ ap (λ c. with_label None (Some c)) (content_some (line_tokens text) some)))))

pub syntax_line : (width : ℕ) (text : Text) → are_tokens text ≡ true → (line_tokens text ≡ [] → ⊥) → Is text (line width text)
syntax_line width text h some =
    let p = and_parts (list_all is_token_byte text) (has_short_runs text) h in
    let k = prefix_len is_blank text in
    let same = tokens_without_blanks text in
    ap (λ t. labeled_line width (without_blanks t)) (front_all (λ c. not (c == 59)) text (without_byte is_token_byte 59 refl text p.0))
    ∙ (plain_line width (without_blanks text) (and_from _ _ (all_drop is_token_byte k text p.0) (short_drop k text p.1)) (λ none. some (sym same ∙ none))
    ∙ ap (λ ts. Some (record { label = None; content = Instruction (map Written ts) })) same)

pub tokens_whole : (text : Text) → are_tokens text ≡ true → list_all (λ c. not (c == 10)) text ≡ true
tokens_whole text h = without_byte is_token_byte 10 refl text (and_parts (list_all is_token_byte text) (has_short_runs text) h).0
