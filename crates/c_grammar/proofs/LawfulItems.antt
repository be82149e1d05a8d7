-- Globals are read lawfully.
use Rattle.std.proofs.Common.{◌≡◌, ◌⊎◌, inl, inr, ℕ, ◌-◌, ◌≤◌, List, [], ◌∷◌, ◌++◌, Option, Some, None, refl, ap, sym, ◌∙◌, subst, arith, append_assoc}
use Rattle.std.specs.Prelude.{codes, flat_map}
use Rattle.c_tree.specs.declared.names.Name.{Name}
use Rattle.c_tree.specs.declared.names.TypeWord.{TypeWord}
use Rattle.c_tree.specs.declared.names.TypeWord.TheVariants as type_word
use Rattle.c_tree.specs.declared.program.GVar.{GVar}
use Rattle.c_tree.specs.declared.program.GVar.TheVariants as gvars
use Rattle.c_tree.specs.declared.program.Vars.{Vars}
use Rattle.c_tree.specs.declared.program.ResultWord.{ResultWord}
use Rattle.c_tree.specs.declared.program.ResultWord.TheVariants as result_word
use Rattle.readings.specs.Symbol.{Symbol, fixed, beyond}
use Rattle.readings.specs.Reading.{behind}
use Rattle.readings.specs.Readings.{Reading, ◌>>>◌, sign}
use Rattle.readings.specs.Lawful.{IsReading, IsMade, Any, Anywhere}
use Rattle.readings.proofs.Symbols.{some_is, none_is_none, Each}
use Rattle.readings.proofs.Combining.{sign_law, made_law, then_law, then_free, other_law, picked, Behind, told_law}
use Rattle.readings.proofs.CombiningWords.{made_front, Word, ToldWord, worded_law}
use Rattle.readings.proofs.CombiningMarks.{by_mark_law}
use Rattle.c_tree.specs.Items.{Item, Variables, Defines}
use Rattle.c_tree.specs.Depth.{gvar_depth, further_gvars_depth}
use Rattle.c_tree.specs.Spell.{name_spelling}
use Rattle.c_tree.specs.SpellGlobals.{gvar_spelling, further_gvars_spelling, result_spelling, item_spelling}
use Rattle.c_grammar.specs.Until.{until_spelling}
use Rattle.c_grammar.specs.Words.{name}
use Rattle.c_grammar.specs.Globals.{global_behind, further_globals, IsGlobalEnd}
use Rattle.c_grammar.specs.Parameters.{parameters_spelling}
use Rattle.c_grammar.specs.Statements.{IsGoodBody, closed_spelling}
use Rattle.c_grammar.specs.Programs.{Signed, defined, signed, function_read, variables_read, valued_from, valued, valueless, ItemStart, Valued, Valueless, item_starts, behind_item, item_read, IsGoodItem}
use Rattle.c_grammar.proofs.LawfulWords.{name_law}
use Rattle.c_grammar.proofs.LawfulGlobals as globals
use Rattle.c_grammar.proofs.LawfulGlobals.{further_one, before_mark, further_globals_law, name_of}
use Rattle.c_grammar.proofs.LawfulParameters.{parameters_law}
use Rattle.c_grammar.proofs.LawfulStatements.{block_law}

-- a global's symbols behind its first, and behind that and its name
abbrev tail : Item → List Symbol
tail g = beyond (item_spelling g)

abbrev inside : Item → List Symbol
inside g = beyond (tail g)

-- ---- functions

abbrev signed_spelling : Signed → List Symbol
signed_spelling s = parameters_spelling s.0 ++ (fixed s.1.0 (codes "{") ++ closed_spelling s.1.1)

abbrev signed_good : ℕ → Signed → Type 0
signed_good room s = IsGoodBody (room - 1) s.1.1

module _ (room : ℕ) (some : 2 ≤ room) where
  signed_law : IsReading signed_spelling (signed_good room) Anywhere (signed room)
  signed_law = then_free _ _ _ _ _ _ parameters_law (then_free _ _ _ _ _ _ (sign_law (codes "{")) (block_law room (omega (arith, some))))

  signed_is_good : (w : ResultWord) (x : Name) (p : ℕ) (s : Signed) → signed_good room s → IsGoodItem room (defined w x p s)
  signed_is_good w x p s g = record { written = g.written; leveled = g.leveled; shallow = omega (arith, g.shallow, some) }

  -- a function's word
  function_same : (w : ResultWord) (x : Name) (p : ℕ) (s : Signed) → item_spelling (defined w x p s) ≡ result_spelling w ++ (Symbol.Named x.at x.text ∷ Symbol.Fixed p (codes "(") ∷ signed_spelling s)
  function_same (result_word.Type (type_word.Int at)) x p s = refl
  function_same (result_word.Void at) x p s = refl

  -- ---- behind `int`

  module _ (at : ℕ) where
    abbrev int_word : ResultWord
    int_word = result_word.Type (type_word.Int at)

    function_law : (x : Name) (p : ℕ) → IsReading (λ g. beyond (inside g)) (IsMade (signed_good room) (defined int_word x p)) Anywhere (function_read room int_word x p)
    function_law x p = made_law (defined int_word x p) signed_spelling (signed_good room) (signed room) (λ g. beyond (inside g)) Anywhere (λ s. refl) signed_law

    abbrev Parts : Type 0
    Parts = GVar × (List (ℕ × GVar) × ℕ)

    abbrev variables_of : Parts → Item
    variables_of (v, (vs, q)) = Variables (record { word = type_word.Int at; first = v; rest = vs; semicolon = q })

    further_spelled : (vs : List (ℕ × GVar)) → further_gvars_spelling vs ≡ flat_map further_one vs
    further_spelled [] = refl
    further_spelled ((comma, v) ∷ vs) = ap (λ u. further_one (comma, v) ++ u) (further_spelled vs)

    abbrev parts_spelling : Parts → List Symbol
    parts_spelling y = beyond (gvar_spelling y.0) ++ until_spelling (codes ";") further_one y.1

    -- a variable begins with its name
    first_beyond : (v : GVar) (u w : List Symbol) → beyond ((gvar_spelling v ++ u) ++ w) ≡ (beyond (gvar_spelling v) ++ u) ++ w
    first_beyond (gvars.Scalar n None) u w = refl
    first_beyond (gvars.Scalar n (Some i)) u w = refl
    first_beyond (gvars.Array n p z q i) u w = refl

    variables_same : (y : Parts) → inside (variables_of y) ≡ parts_spelling y
    variables_same (v, (vs, q)) =
        first_beyond v (further_gvars_spelling vs) (fixed q (codes ";")) ∙ append_assoc (beyond (gvar_spelling v)) (further_gvars_spelling vs) (fixed q (codes ";"))
        ∙ ap (λ u. beyond (gvar_spelling v) ++ (u ++ fixed q (codes ";"))) (further_spelled vs)

    first_before : (v : GVar) (p : List (ℕ × GVar) × ℕ) (r : List Symbol) → IsGlobalEnd v (until_spelling (codes ";") further_one p ++ r)
    first_before v ([], q) r = (before_mark v q r).1
    first_before v ((comma, w) ∷ vs, q) r = (before_mark v comma (((gvar_spelling w ++ flat_map further_one vs) ++ fixed q (codes ";")) ++ r)).0

    abbrev named_good : Name → Parts → Type 0
    named_good x y = globals.OfName x y.0

    variables_law : (x : Name) → IsReading inside (IsMade (named_good x) variables_of) Anywhere (variables_read at x)
    variables_law x =
        made_law variables_of parts_spelling (named_good x) (global_behind x >>> further_globals) inside Anywhere variables_same
        (other_law parts_spelling (λ y. globals.OfName x y.0 × Any y.1) (named_good x) Anywhere Anywhere (global_behind x >>> further_globals)
        (λ y h. h.0) (λ y h. (h, tt)) (λ y r e. e) (λ y r e. e)
        (then_law _ _ _ _ _ _ _ _ (globals.behind_law x) further_globals_law (λ v p r g h e. first_before v p r)))

    -- what stands behind its name is no parenthesis
    no_call : (v : GVar) (vs : List (ℕ × GVar)) (q : ℕ) (r : List Symbol)
        → behind (codes "(") ((beyond (gvar_spelling v) ++ until_spelling (codes ";") further_one (vs, q)) ++ r) ≡ None
    no_call (gvars.Scalar n None) [] q r = refl
    no_call (gvars.Scalar n None) (v ∷ vs) q r = refl
    no_call (gvars.Scalar n (Some i)) vs q r = refl
    no_call (gvars.Array n p z o i) vs q r = refl

    abbrev OfValued : Name → Item → Type 0
    OfValued x g = IsMade (named_good x) variables_of g ⊎ ((p : ℕ) × IsMade (signed_good room) (defined int_word x p) g)

    valued_law : (x : Name) → IsReading inside (OfValued x) Anywhere (valued room at x)
    valued_law x =
        by_mark_law (codes "(") (valued room at x) (variables_read at x) (function_read room int_word x) (λ n ss i. ap (valued_from room at x n ss) i) (λ n ss p rest i. ap (valued_from room at x n ss) i)
        inside (OfValued x) Anywhere (IsMade (named_good x) variables_of) Anywhere (λ p g. IsMade (signed_good room) (defined int_word x p) g) (variables_law x)
        (λ p. record {
          reading = function_law x p;
          front = made_front (signed_good room) (defined int_word x p) inside (Symbol.Fixed p (codes "(")) (λ s. refl);
          to = λ g h. inr (p, h);
        })
        (λ g h. inl h) (λ g r h e i. tt) sorted
      where
        sorted : (g : Item) → OfValued x g
            → (IsMade (named_good x) variables_of g × ((r : List Symbol) → Unit {0} → Unit {0} × (behind (codes "(") (inside g ++ r) ≡ None)))
            ⊎ ((p : ℕ) × IsMade (signed_good room) (defined int_word x p) g)
        sorted g (inl h) =
            inl (
              h,
              λ r e. (
                tt,
                subst (λ u. behind (codes "(") (inside u ++ r) ≡ None) h.2
                    (ap (λ u. behind (codes "(") (u ++ r)) (variables_same h.0) ∙ no_call h.0.0 h.0.1.0 h.0.1.1 r),
              ),
            )
        sorted g (inr h) = inr h

    -- a name is in front
    named_front : (x : Name) (y : Parts) → globals.OfName x y.0 → tail (variables_of y) ≡ Symbol.Named x.at x.text ∷ inside (variables_of y)
    named_front x (v, (vs, q)) h =
        ap (λ u. (u ++ further_gvars_spelling vs) ++ fixed q (codes ";")) (globals.named_front x v h)
        ∙ ap (λ u. Symbol.Named x.at x.text ∷ u) (sym (first_beyond v (further_gvars_spelling vs) (fixed q (codes ";"))))

    valued_front : (x : Name) (g : Item) → OfValued x g → tail g ≡ Symbol.Named x.at x.text ∷ inside g
    valued_front x g (inl h) = subst (λ u. tail u ≡ Symbol.Named x.at x.text ∷ inside u) h.2 (named_front x h.0 h.1)
    valued_front x g (inr (p, h)) = subst (λ u. tail u ≡ Symbol.Named x.at x.text ∷ inside u) h.2 refl

    abbrev OfInt : Item → Type 0
    OfInt g = (x : Name) × OfValued x g

    abbrev int_reads : Reading Item
    int_reads = behind_item room Valued at

    abbrev int_pick : Symbol → Option (Reading Item)
    int_pick (Symbol.Fixed p text) = None
    int_pick (Symbol.Named p text) = Some (valued room at (record { at = p; text = text }))
    int_pick (Symbol.Number p value) = None
    int_pick (Symbol.Quoted p text) = None

    abbrev OfFirstName : Symbol → Item → Type 0
    OfFirstName (Symbol.Fixed p text) g = ⊥
    OfFirstName (Symbol.Named p text) g = OfValued (record { at = p; text = text }) g
    OfFirstName (Symbol.Number p value) g = ⊥
    OfFirstName (Symbol.Quoted p text) g = ⊥

    int_goes : (n : ℕ) (s : Symbol) (ss : List Symbol) → int_reads n (s ∷ ss) ≡ picked n s ss (int_pick s)
    int_goes n (Symbol.Fixed p text) ss = refl
    int_goes n (Symbol.Named p text) ss = refl
    int_goes n (Symbol.Number p value) ss = refl
    int_goes n (Symbol.Quoted p text) ss = refl

    int_each : (s : Symbol) (next : Reading Item) → int_pick s ≡ Some next → Behind tail OfInt Anywhere (OfFirstName s) s next
    int_each (Symbol.Fixed p text) next e = none_is_none next e
    int_each (Symbol.Named p text) next e =
        let x : Name = record { at = p; text = text } in
        subst (Behind tail OfInt Anywhere (OfValued x) (Symbol.Named p text)) (some_is (valued room at x) next e)
        (record { reading = valued_law x; front = valued_front x; to = λ g h. (x, h) })
    int_each (Symbol.Number p value) next e = none_is_none next e
    int_each (Symbol.Quoted p text) next e = none_is_none next e

    abbrev any_name : Name
    any_name = record { at = 0; text = [] }

    any_variable : OfInt (variables_of (gvars.Scalar any_name None, ([], 0)))
    any_variable = (any_name, inl ((gvars.Scalar any_name None, ([], 0)), inl (None, tt, refl), refl))

    int_law : IsReading tail OfInt Anywhere int_reads
    int_law =
        told_law tail OfInt Anywhere int_reads int_pick OfFirstName (λ n. refl) int_goes int_each
        (λ g h. (Symbol.Named h.0.at h.0.text, valued room at h.0, refl, h.1)) (variables_of (gvars.Scalar any_name None, ([], 0))) any_variable

    -- ---- behind `void`

    abbrev Unvalued : Type 0
    Unvalued = Name × (ℕ × Signed)

    abbrev void_of : Unvalued → Item
    void_of (x, (p, s)) = defined (result_word.Void at) x p s

    abbrev void_good : Unvalued → Type 0
    void_good y = signed_good room y.1.1

    void_law : IsReading tail (IsMade void_good void_of) Anywhere (valueless room at)
    void_law =
        made_law void_of (λ y. name_spelling y.0 ++ (fixed y.1.0 (codes "(") ++ signed_spelling y.1.1)) void_good (name >>> (sign (codes "(") >>> signed room)) tail Anywhere (λ y. refl)
        (then_free _ _ _ _ _ _ name_law (then_free _ _ _ _ _ _ (sign_law (codes "(")) signed_law))

  -- ---- globals

  abbrev OfItem : ItemStart → ℕ → Item → Type 0
  OfItem Valued at g = OfInt at g
  OfItem Valueless at g = IsMade (void_good at) (void_of at) g

  -- global variables are never too deep
  two_variable : (v : GVar) → gvar_depth v ≤ 2
  two_variable (gvars.Scalar n None) = omega arith
  two_variable (gvars.Scalar n (Some (at, z))) = omega arith
  two_variable (gvars.Array n p z q None) = omega arith
  two_variable (gvars.Array n p z q (Some i)) = omega arith

  two_further : (vs : List (ℕ × GVar)) → further_gvars_depth vs ≤ 2
  two_further [] = omega arith
  two_further ((comma, v) ∷ vs) = omega (arith, two_variable v, two_further vs)

  variables_good : (v : Vars) → IsGoodItem room (Variables v)
  variables_good v = record { written = tt; leveled = tt; shallow = omega (arith, two_variable v.first, two_further v.rest, some) }

  int_good : (at : ℕ) (g : Item) → OfInt at g → IsGoodItem room g
  int_good at g (x, inl h) = subst (IsGoodItem room) h.2 (variables_good (record { word = type_word.Int at; first = h.0.0; rest = h.0.1.0; semicolon = h.0.1.1 }))
  int_good at g (x, inr (p, h)) = subst (IsGoodItem room) h.2 (signed_is_good (int_word at) x p h.0 h.1)

  int_front : (at : ℕ) (g : Item) → OfInt at g → item_spelling g ≡ Symbol.Fixed at (codes "int") ∷ tail g
  int_front at g (x, inl h) = subst (λ u. item_spelling u ≡ Symbol.Fixed at (codes "int") ∷ tail u) h.2 refl
  int_front at g (x, inr (p, h)) = subst (λ u. item_spelling u ≡ Symbol.Fixed at (codes "int") ∷ tail u) h.2 refl

  entries : Each (Word item_spelling (IsGoodItem room) Anywhere (behind_item room) OfItem) item_starts
  entries = (
    λ at. record { reading = int_law at; front = int_front at; to = int_good at },
    (
      λ at. record {
        reading = void_law at;
        front = made_front (void_good at) (void_of at) item_spelling (Symbol.Fixed at (codes "void")) (λ y. refl);
        to = λ g h. subst (IsGoodItem room) h.2 (signed_is_good (result_word.Void at) h.0.0 h.0.1.0 h.0.1.1 h.1);
      },
      tt,
    ),
  )

  typed : (w : TypeWord) (v : GVar) (vs : List (ℕ × GVar)) (q : ℕ) → ToldWord item_starts OfItem (Variables (record { word = w; first = v; rest = vs; semicolon = q }))
  typed (type_word.Int at) v vs q = let h = name_of v in (codes "int", Valued, at, refl, (h.0, inl ((v, (vs, q)), h.1, refl)))

  told_function : (w : ResultWord) (x : Name) (p : ℕ) (s : Signed) → signed_good room s → ToldWord item_starts OfItem (defined w x p s)
  told_function (result_word.Type (type_word.Int at)) x p s g = (codes "int", Valued, at, refl, (x, inr (p, (s, g, refl))))
  told_function (result_word.Void at) x p s g = (codes "void", Valueless, at, refl, ((x, (p, s)), g, refl))

  from : (g : Item) → IsGoodItem room g → ToldWord item_starts OfItem g
  from (Variables v) g = typed v.word v.first v.rest v.semicolon
  from (Defines f) g =
      told_function f.result f.name f.opening ((f.params, f.closing), (f.braces.0, (f.braces.1, f.braces.2)))
      (record { written = g.written; leveled = g.leveled; shallow = omega (arith, g.shallow) })

  -- so globals are read lawfully
  pub item_law : IsReading item_spelling (IsGoodItem room) Anywhere (item_read room)
  item_law =
      worded_law item_spelling (IsGoodItem room) Anywhere item_starts (behind_item room) OfItem entries from (variables_of 0 (gvars.Scalar (any_name 0) None, ([], 0)))
      (int_good 0 _ (any_variable 0))
