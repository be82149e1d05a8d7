-- The shapes of a graph that have tokens, and the derivations that have them.
use Rattle.std.proofs.Common.{ℕ, ◌^◌, ◌<◌, ◌≤◌, ◌≡◌, refl, sym, ◌∙◌, ap, subst, arith, ℤ, Bool, true, false, List, [], ◌∷◌, length, map, None, Some, codes}
use Rattle.std.specs.Prelude.{not, slice_get}
use Rattle.std.proofs.Math.Pow.{pow_mono}
use Rattle.nml_tree.specs.Derivation.{Derivation, picks, fields}
use Rattle.nml_tree.specs.Image.{image, word_of}
use Rattle.nml_tree.specs.Legal.{is_legal}
use Rattle.nml_tree.specs.LineToken.{LineToken}
use Rattle.nml_tree.specs.Outline.{Written}
use Rattle.nml_tree.specs.Refused.{By_edge}
use Rattle.nml_tree.specs.Same.{tokens}
use Rattle.nml_tree.specs.Table.{table}
use Rattle.nml_tree.specs.Valid.{IsRoot, EdgeFault}
use Rattle.nml_shape.specs.declared.shape.Inst.{Inst}
use Rattle.nml_shape.specs.declared.shape.Piece.{Piece}
use Rattle.nml_shape.specs.declared.shape.Shape.{Shape}
use Rattle.nml_shape.specs.Common.{FitFields, filled}
use Rattle.nml_shape.specs.Shown.{token_of}
use Rattle.nml_outline.proofs.FirstSyntax.{single, filled_root, root_filled}
use Rattle.nml_outline.proofs.Listed.{at_of, contains_at}
use Rattle.nml_outline.proofs.ShapeWord.{root_is_word, word_is_root}
use Rattle.nml_outline.proofs.WordBits.{number_below}
use Rattle.isg_graph.specs.Graph.{Graph, IsGraph}
use Rattle.isg_graph.specs.Instance.{IsInstOf}
use Rattle.isg_graph.proofs.Instances.{free}
use Rattle.syntax_match.specs.Match.{HasNumbers}
use Rattle.syntax_parse.specs.Lines.{HasIllegal, HasLine, IsLineFault}
use Rattle.syntax_parse.specs.declared.lines.LineFault.TheVariants as fault
use Rattle.syntax_parse.specs.Search.{AreComparable, HasMatch, HasNone}
use Rattle.syntax_parse.proofs.Few.{few}

-- what is written alike is the same
same_written : (xs ys : List LineToken) → map Written xs ≡ map Written ys → xs ≡ ys
same_written [] [] e = refl
same_written [] (y ∷ ys) e = absurd cc
same_written (x ∷ xs) [] e = absurd cc
same_written (x ∷ xs) (y ∷ ys) e =
    let first : x ≡ y = cc in
    let rest : map Written xs ≡ map Written ys = cc in
    ap (λ t. t ∷ xs) first ∙ ap (λ ts. y ∷ ts) (same_written xs ys rest)

not_true : (b : Bool) → true ≡ not b → b ≡ false
not_true true h = absurd cc
not_true false h = refl

not_false : (b : Bool) → false ≡ not b → b ≡ true
not_false true h = refl
not_false false h = absurd cc

module _ (g : Graph) (whole : IsGraph g) where
  word_low : (x : Derivation) → IsRoot (table g.desc) x → word_of x < 2 ^ g.word_bits
  word_low x root = subst (λ n. word_of x < 2 ^ n) (whole.word_bits_are x root) (number_below (image x))

  -- the word of a derivation with these numbers
  record Word (s : Shape) (zs : List ℤ) : Type 0 where
    word : ℕ
    has : HasNumbers s zs word
    low : word < 2 ^ g.word_bits

  module _ (n : ℕ) (s : Shape) (at : slice_get g.shapes n ≡ Some s) where
    some_word : (zs : List ℤ) → FitFields s zs → Word s zs
    some_word zs fit =
        let among = contains_at g.shapes n s at in
        let x = filled_root g.desc (free g whole) g.shapes whole.shapes_are s zs among fit in
        let has = root_is_word g.desc (free g whole) g.shapes whole.shapes_are s x.0 among x.1 x.2 in
        record { word = word_of x.0; has = record { fixed = has.0; numbers = sym has.1 ∙ x.3 }; low = word_low x.0 x.1 }

    -- and a word with them is that of a derivation
    of_word : (zs : List ℤ) (w : ℕ) → HasNumbers s zs w → w < 2 ^ g.word_bits → (x : Derivation) × IsRoot (table g.desc) x × (picks x ≡ s.picks.items) × (word_of x ≡ w) × (tokens x ≡ filled s zs)
    of_word zs w has low =
        let among = contains_at g.shapes n s at in
        let x = word_is_root g.desc (free g whole) g.shapes whole.shapes_are g.word_bits whole.word_bits_are s w among has.fixed low in
        let text = root_filled g.desc (free g whole) g.shapes whole.shapes_are s x.0 among x.1 x.2 in
        (x.0, x.1, x.2, x.3, text.1 ∙ ap (filled s) (x.4 ∙ has.numbers))

  pub comparable : AreComparable g.shapes
  comparable n s at = (
    single g.desc (free g whole) g.shapes whole.shapes_are s (contains_at g.shapes n s at),
    record {
      types = record { each = (whole.typed n s at).each };
      words = λ zs fit.
          let w = some_word n s at zs fit in
          let most : 2 ^ g.word_bits ≤ 2 ^ 128 = let bits = whole.word_most in pow_mono {i = g.word_bits} {j = 128} (omega (arith, bits)) in
          let low = w.low in
          (w.word, w.has, omega (arith, low, most));
    },
  )

  pub few_shapes : length g.shapes ≤ 4096
  few_shapes = few g.desc whole.checked g.shapes whole.shapes_are

  -- there is no instruction without a token
  pub none_of_none : (ts : List Piece) → None ≡ slice_get ts 0 → HasNone g.shapes ts
  none_of_none (t ∷ ts) empty n s at zs h = absurd cc
  none_of_none [] empty n s at zs h =
      let x = filled_root g.desc (free g whole) g.shapes whole.shapes_are s zs (contains_at g.shapes n s at) h.fit in
      let none : filled s zs ≡ [] = same_written (filled s zs) [] h.same in
      whole.checked.free 10 (omega arith) (By_edge (codes "instruction") (EdgeFault.Silent x.0 refl x.1 (x.4 ∙ none)))

  module _ (ps : List Piece) (ts : List LineToken) (are : map token_of ps ≡ map Written ts) where
    pub no_line : HasNone g.shapes ps → IsLineFault g.desc ts fault.NoMatch
    no_line none x root same =
        let at = at_of g.shapes (picks x) (whole.shapes_are.all.every x root) in
        let text = root_filled g.desc (free g whole) g.shapes whole.shapes_are at.1 x (contains_at g.shapes at.0 at.1 at.2) root (sym at.3) in
        none at.0 at.1 at.2 (fields x) (record { fit = text.0; same = ap (map Written) (sym text.1 ∙ same) ∙ sym are })

    module _ (i : Inst) (m : HasMatch g.shapes ps i) where
      found : (x : Derivation) × IsInstOf g i x × (tokens x ≡ ts)
      found =
          let w = some_word i.shape m.shape m.stands m.is.numbers m.is.tokens_are.fit in
          let low : i.word < 2 ^ g.word_bits = let a = m.is.least w.word w.has in let b = w.low in omega (arith, a, b) in
          let x = of_word i.shape m.shape m.stands m.is.numbers i.word m.is.word low in (
            x.0,
            record { of = record { shape = m.shape; stands = m.stands; is = (x.1, x.2) }; word_is = x.3 },
            x.4 ∙ same_written (filled m.shape m.is.numbers) ts (m.is.tokens_are.same ∙ are),
          )

      pub illegal : ((x : Derivation) → IsInstOf g i x → true ≡ not (is_legal (table g.desc) x)) → HasIllegal g.desc ts
      illegal h = let x = found in record { by = x.0; root = x.1.of.is.0; tokens_are = x.2; illegal = not_true _ (h x.0 x.1) }

      pub legal : ((x : Derivation) → IsInstOf g i x → false ≡ not (is_legal (table g.desc) x)) → HasLine g ts i
      legal h = let x = found in record { by = x.0; is = x.1; root = x.1.of.is.0; legal = not_false _ (h x.0 x.1); tokens_are = x.2 }
