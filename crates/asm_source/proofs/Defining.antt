-- The labels of lines as they are defined.
use Rattle.std.proofs.Common.{◌≡◌, ℕ, ◌+◌, ◌<◌, ◌≤◌, Bool, true, false, cond, List, [], ◌∷◌, length, map, drop, get_or, ◌∙◌, sym, refl, ap, arith, Option, Some, None}
use Rattle.std.specs.Prelude.{is_some, if◌then◌else◌}
use Rattle.std.specs.Bool.{then_some}
use Rattle.std.specs.Map.{lookup}
use Rattle.std.specs.Option.{option_or}
use Rattle.std.proofs.lemmas.List.{drop_all}
use Rattle.nk_base.specs.Text.{text_eq}
use Rattle.nml_tree.proofs.Drops.{dropped}
use Rattle.asm_lines.specs.Line as text
use Rattle.asm_lines.specs.Seen.{seen, seen_content}
use Rattle.asm_lines.specs.declared.line.Line.{Line}
use Rattle.asm_text.specs.Refused.{is_label, has_doubled}
use Rattle.asm_text.specs.Source.{Labels, labels, labels_from, labels_before, words_of}
use Rattle.asm_source.specs.Known.{AreNumbers, first_doubled}

-- the line's label, if it has one that was not there, got the number
abbrev pub Defines : Option (List ℕ) → ℕ → (old new : Labels) → Type 0
Defines label number old new = (name : List ℕ) → lookup (text_eq name) new ≡ option_or (lookup (text_eq name) old) (lookup (text_eq name) (labels_before label number []))

or_assoc : {A : Type 0} (a b c : Option A) → option_or (option_or a b) c ≡ option_or a (option_or b c)
or_assoc None b c = refl
or_assoc (Some x) b c = refl

or_none : {A : Type 0} (a : Option A) → option_or a None ≡ a
or_none None = refl
or_none (Some x) = refl

some_or : {A : Type 0} (a b c d : Option A) → is_some a ≡ is_some b → is_some c ≡ is_some d → is_some (option_or a c) ≡ is_some (option_or b d)
some_or None None c d h g = g
some_or None (Some y) c d h g = absurd cc
some_or (Some x) None c d h g = absurd cc
some_or (Some x) (Some y) c d h g = refl

either_some : {A : Type 0} (a b : Option A) → is_some (option_or a b) ≡ is_some (option_or b a)
either_some None b = ap is_some (sym (or_none b))
either_some (Some x) None = refl
either_some (Some x) (Some y) = refl

-- a label before others, looked up
label_first : (name : List ℕ) (label : Option (List ℕ)) (n : ℕ) (others : Labels)
    → lookup (text_eq name) (labels_before label n others) ≡ option_or (lookup (text_eq name) (labels_before label n [])) (lookup (text_eq name) others)
label_first name None n others = refl
label_first name (Some label) n others = by (text_eq name label)
  where
    by : (b : Bool) → cond b (Some n) (lookup (text_eq name) others) ≡ option_or (cond b (Some n) None) (lookup (text_eq name) others)
    by true = refl
    by false = refl

any_number : (name : List ℕ) (label : Option (List ℕ)) (n k : ℕ) → is_some (lookup (text_eq name) (labels_before label n [])) ≡ is_some (lookup (text_eq name) (labels_before label k []))
any_number name None n k = refl
any_number name (Some label) n k = by (text_eq name label)
  where
    by : (b : Bool) → is_some (cond b (Some n) None) ≡ is_some (cond b (Some k) None)
    by true = refl
    by false = refl

-- only which labels there are tells which line defines one again
same_before : (a b : Labels) (label : Option (List ℕ)) → ((name : List ℕ) → is_label a name ≡ is_label b name) → has_doubled a label ≡ has_doubled b label
same_before a b None same = refl
same_before a b (Some name) same = same name

label_either : (name : List ℕ) (label : Option (List ℕ)) (n : ℕ) (others : Labels)
    → is_label (labels_before label n others) name ≡ is_some (option_or (lookup (text_eq name) (labels_before label n [])) (lookup (text_eq name) others))
label_either name label n others = ap is_some (label_first name label n others)

same_doubled : (a b : Labels) (n : ℕ) (ls : List text.Line) → ((name : List ℕ) → is_label a name ≡ is_label b name) → first_doubled a n ls ≡ first_doubled b n ls
same_doubled a b n [] same = refl
same_doubled a b n (l ∷ ls) same =
    rw (
      same_before a b l.label same,
      same_doubled (labels_before l.label 0 a) (labels_before l.label 0 b) (n + 1) ls
          (λ name. label_either name l.label 0 a ∙ some_or _ _ _ _ refl (same name) ∙ sym (label_either name l.label 0 b)),
    ) refl

-- of the lines before number i: the labels found, how many words they are, and the first that defined a label again
pub record Defined (ls : List Line) (i number words : ℕ) (found : Labels) (doubled : Option ℕ) : Type 0 where
  pub numbers : (name : List ℕ) → option_or (lookup (text_eq name) found) (lookup (text_eq name) (labels_from words (map seen (drop i ls)))) ≡ lookup (text_eq name) (labels (map seen ls))
  pub again : option_or doubled (first_doubled found i (map seen (drop i ls))) ≡ first_doubled [] 0 (map seen ls)
  pub number_is : number ≡ i
  pub few : words ≤ i

pub none_defined : (ls : List Line) (found : Labels) → found ≡ [] → Defined ls 0 0 0 found None
none_defined ls found none = rw none (record { numbers = λ name. refl; again = refl; number_is = refl; few = omega arith })

pub all_defined : (ls : List Line) (i number words : ℕ) (found : Labels) (doubled : Option ℕ) → length ls ≤ i → Defined ls i number words found doubled → AreNumbers (labels (map seen ls)) found
all_defined ls i number words found doubled far d name =
    sym (or_none (lookup (text_eq name) found)) ∙ ap (λ xs. option_or (lookup (text_eq name) found) (lookup (text_eq name) (labels_from words (map seen xs)))) (sym (drop_all i ls far)) ∙ d.numbers name

pub all_doubled : (ls : List Line) (i number words : ℕ) (found : Labels) (doubled : Option ℕ) → length ls ≤ i → Defined ls i number words found doubled → doubled ≡ first_doubled [] 0 (map seen ls)
all_doubled ls i number words found doubled far d =
    sym (or_none doubled) ∙ ap (λ xs. option_or doubled (first_doubled found i (map seen xs))) (sym (drop_all i ls far)) ∙ d.again

-- one line more, which defines a label again or doesn't, tells the first that does
doubled_more : (b : Bool) (n : ℕ) (doubled rest after : Option ℕ) → (b ≡ false → rest ≡ after) → option_or (option_or doubled (then_some b (n + 1))) after ≡ option_or doubled (if b then Some (n + 1) else rest)
doubled_more true n None rest after same = refl
doubled_more false n None rest after same = sym (same refl)
doubled_more true n (Some x) rest after same = refl
doubled_more false n (Some x) rest after same = refl

-- one line more
module _ (ls : List Line) (i number words more : ℕ) (old new : Labels) (doubled : Option ℕ) (again : Bool) (l : Line) (low : i < length ls) (at : l ≡ get_or ls i l) (is : again ≡ has_doubled old l.label) (gives : Defines l.label words old new) (few : more ≤ 1) (many : more ≡ words_of (seen_content l.content)) (d : Defined ls i number words old doubled) where
  left : map seen (drop i ls) ≡ seen l ∷ map seen (drop (i + 1) ls)
  left = ap (map seen) (dropped ls i l low at)

  numbers_more : (name : List ℕ) → option_or (lookup (text_eq name) new) (lookup (text_eq name) (labels_from (words + more) (map seen (drop (i + 1) ls)))) ≡ lookup (text_eq name) (labels (map seen ls))
  numbers_more name =
      let others = labels_from (words + words_of (seen_content l.content)) (map seen (drop (i + 1) ls)) in
      ap (λ k. option_or (lookup (text_eq name) new) (lookup (text_eq name) (labels_from (words + k) (map seen (drop (i + 1) ls))))) many
      ∙ ap (λ o. option_or o (lookup (text_eq name) others)) (gives name)
      ∙ or_assoc (lookup (text_eq name) old) (lookup (text_eq name) (labels_before l.label words [])) (lookup (text_eq name) others)
      ∙ ap (option_or (lookup (text_eq name) old)) (sym (label_first name l.label words others))
      ∙ ap (λ xs. option_or (lookup (text_eq name) old) (lookup (text_eq name) (labels_from words xs))) (sym left)
      ∙ d.numbers name

  same_labels : (name : List ℕ) → is_label (labels_before l.label 0 old) name ≡ is_label new name
  same_labels name =
      let one = lookup (text_eq name) (labels_before l.label 0 []) in
      let other = lookup (text_eq name) (labels_before l.label words []) in
      let before = lookup (text_eq name) old in
      label_either name l.label 0 old ∙ either_some one before ∙ some_or before before one other refl (any_number name l.label 0 words) ∙ sym (ap is_some (gives name))

  pub defined_more : (after next total : ℕ) (told : Option ℕ) → next ≡ number + 1 → total ≡ words + more → told ≡ option_or doubled (then_some again (number + 1)) → after ≡ i + 1 → Defined ls after next total new told
  defined_more after next total told up sum tells on =
      rw (up, sum, tells, on) (record {
        numbers = numbers_more;
        again =
            ap (λ n. option_or (option_or doubled (then_some again (n + 1))) (first_doubled new (i + 1) (map seen (drop (i + 1) ls)))) d.number_is
            ∙ doubled_more again i doubled (first_doubled (labels_before l.label 0 old) (i + 1) (map seen (drop (i + 1) ls))) (first_doubled new (i + 1) (map seen (drop (i + 1) ls)))
            (λ e. same_doubled (labels_before l.label 0 old) new (i + 1) (map seen (drop (i + 1) ls)) same_labels)
            ∙ ap (λ b. option_or doubled (if b then Some (i + 1) else first_doubled (labels_before l.label 0 old) (i + 1) (map seen (drop (i + 1) ls)))) is
            ∙ ap (λ xs. option_or doubled (first_doubled old i xs)) (sym left)
            ∙ d.again;
        number_is = omega (arith, d.number_is);
        few = omega (arith, few, d.few);
      })
