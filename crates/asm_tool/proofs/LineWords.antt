-- The word of an instruction's line, and why it has none.
use Rattle.std.proofs.Common.{ℕ, ◌+◌, ◌≡◌, refl, sym, ◌∙◌, ap, subst, true, false, List, [], ◌∷◌, ◌++◌, length, map, Some, append-nil, arith}
use Rattle.std.proofs.lemmas.Bool.{eqb-true}
use Rattle.std.specs.Prelude.{◌==◌, flat_map, slice_get}
use Rattle.nml_tree.specs.Derivation.{Derivation}
use Rattle.nml_tree.specs.Legal.{is_legal}
use Rattle.nml_tree.specs.Same as same
use Rattle.nml_tree.specs.Table.{Table, table}
use Rattle.nml_tree.specs.Valid.{IsRoot}
use Rattle.nml_shape.specs.declared.shape.Inst.{Inst}
use Rattle.isg_graph.specs.Graph.{Graph}
use Rattle.syntax_parse.specs.Lines.{HasLine, IsLineFault}
use Rattle.syntax_parse.specs.declared.lines.LineFault.TheVariants as line_fault
use Rattle.nml_tree.specs.LineToken.{LineToken}
use Rattle.asm_lines.specs.Line.{Token, Content, Instruction, Line, Written}
use Rattle.asm_lines.specs.Seen.{seen_reference, seen_tokens, tokens_of, AreTokens, HasWritten}
use Rattle.asm_lines.specs.declared.line.Tokens.{Tokens}
use Rattle.asm_text.specs.Assembled.{GivesWords}
use Rattle.asm_text.specs.Refused.{HasNoMatch, HasConflict}
use Rattle.asm_text.specs.Source.{Labels, labels, resolved}
use Rattle.asm_tool.specs.Words.{HasNone, HasIllegal}

-- ---- by what is said of the tokens

module _ (g : Graph) (all : Labels) (ts : List Token) where
  pub gives : (i : Inst) → HasLine g (map (resolved all) ts) i → GivesWords (table g.desc) all (Instruction ts) (i.word ∷ [])
  gives i h = (h.by, h.root, h.legal, h.tokens_are, ap (λ w. w ∷ []) (sym h.is.word_is))

  pub has_none : IsLineFault g.desc (map (resolved all) ts) line_fault.NoMatch → HasNone (table g.desc) all (Instruction ts)
  has_none h = record { tokens = ts; is = refl; none = h }

  pub has_illegal : IsLineFault g.desc (map (resolved all) ts) line_fault.Conflict → HasIllegal (table g.desc) all (Instruction ts)
  has_illegal h = record { tokens = ts; is = refl; by = h.by; root = h.root; has = h.tokens_are; illegal = h.illegal }

-- tokens without a reference are those in front
written_again : (all : Labels) (ts : List LineToken) → map (resolved all) (map Written ts) ≡ ts
written_again all [] = refl
written_again all (t ∷ ts) = ap (λ more. t ∷ more) (written_again all ts)

pub no_items : {A : Type 0} (xs : List A) → true ≡ (length xs == 0) → xs ≡ []
no_items [] e = refl
no_items (x ∷ xs) e = let k = eqb-true (length (x ∷ xs)) 0 (sym e) in absurd (omega (arith, k))

pub front_alone : (all : Labels) (t : Tokens) → HasWritten t → t.references.items ≡ [] → AreTokens t.front.items (map (resolved all) (seen_tokens t))
front_alone all t h none =
    let ts = tokens_of t.front.items in
    let e : seen_tokens t ≡ map Written ts = ap (λ rs. map Written ts ++ flat_map seen_reference rs) none ∙ append-nil (map Written ts) in
    subst (λ us. AreTokens t.front.items (map (resolved all) us)) (sym e) (subst (AreTokens t.front.items) (sym (written_again all ts)) h.front)

-- ---- only one of the three is

-- no two instructions have one list of tokens
abbrev pub AreTold : Table → Type 0
AreTold t = (a b : Derivation) → IsRoot t a → IsRoot t b → same.tokens a ≡ same.tokens b → a ≡ b

same_tokens : (xs ys : List Token) → Instruction xs ≡ Instruction ys → xs ≡ ys
same_tokens xs ys e = cc

module _ (t : Table) (all : Labels) (c : Content) where
  pub gives_some : (ws : List ℕ) → GivesWords t all c ws → HasNone t all c → ⊥
  gives_some ws h none =
      let d : GivesWords t all (Instruction none.tokens) ws = subst (λ x. GivesWords t all x ws) none.is h in
      none.none d.0 d.1 d.3

  pub illegal_some : HasIllegal t all c → HasNone t all c → ⊥
  illegal_some h none = none.none h.by h.root (h.has ∙ ap (map (resolved all)) (same_tokens _ _ (sym h.is ∙ none.is)))

  pub gives_legal : AreTold t → (ws : List ℕ) → GivesWords t all c ws → HasIllegal t all c → ⊥
  gives_legal told ws h bad =
      let d : GivesWords t all (Instruction bad.tokens) ws = subst (λ x. GivesWords t all x ws) bad.is h in
      let e : d.0 ≡ bad.by = told d.0 bad.by d.1 bad.root (d.3 ∙ sym bad.has) in
      let legal : is_legal t d.0 ≡ true = d.2 in
      let clash : true ≡ false = sym legal ∙ ap (is_legal t) e ∙ bad.illegal in
      absurd cc

-- ---- of the line at a place

module _ (t : Table) (ls : List Line) where
  pub none_at : (n : ℕ) → HasNoMatch t ls n → (j : ℕ) × (l : Line) × (n ≡ j + 1) × (slice_get ls j ≡ Some l) × HasNone t (labels ls) l.content
  none_at n h = (h.stands.1, h.stands.0, h.stands.2, h.stands.3, record { tokens = h.tokens; is = h.stands.4; none = h.none })

  pub no_match : (j : ℕ) (l : Line) → slice_get ls j ≡ Some l → HasNone t (labels ls) l.content → HasNoMatch t ls (j + 1)
  no_match j l at h = record { tokens = h.tokens; stands = (l, j, refl, at, h.is); none = h.none }

  pub illegal_at : (n : ℕ) → HasConflict t ls n → (j : ℕ) × (l : Line) × (n ≡ j + 1) × (slice_get ls j ≡ Some l) × HasIllegal t (labels ls) l.content
  illegal_at n h = (
    h.stands.1,
    h.stands.0,
    h.stands.2,
    h.stands.3,
    record { tokens = h.tokens; is = h.stands.4; by = h.by; root = h.root; has = h.has; illegal = h.illegal },
  )

  pub conflict : (j : ℕ) (l : Line) → slice_get ls j ≡ Some l → HasIllegal t (labels ls) l.content → HasConflict t ls (j + 1)
  conflict j l at h = record { tokens = h.tokens; stands = (l, j, refl, at, h.is); by = h.by; root = h.root; has = h.has; illegal = h.illegal }
