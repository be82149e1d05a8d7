-- What a text comes to, part by part: the faults that it doesn't have, the one that it is refused for, and its image.
use Rattle.std.proofs.Common.{ℕ, zero, suc, ◌^◌, ◌<◌, ◌≤◌, ◌≡◌, refl, sym, ◌∙◌, ap, subst, List, [], ◌∷◌, map, Some, Contains, arith, inl, inr}
use Rattle.std.specs.Prelude.{slice_get, option_map, unwrap_or, IsTrue}
use Rattle.std.proofs.lemmas.Bool.{cases_lt}
use Rattle.std.proofs.lemmas.Option.{same_Some, slice_get-map}
use Rattle.nk_base.specs.Number.{width_of}
use Rattle.nk_base.specs.declared.number.Ty.{Ty}
use Rattle.nk_base.specs.declared.number.Ty.TheVariants as ty
use Rattle.nml_tree.specs.Exec.{pc, storages}
use Rattle.nml_tree.specs.Places.{IsLeast}
use Rattle.nml_tree.specs.Table.{Text, Table, table}
use Rattle.image_file.specs.Measured.{initial}
use Rattle.image_file.specs.Seen.{init_of}
use Rattle.image_file.specs.declared.image.DataCell.{DataCell}
use Rattle.asm_lines.specs.Line.{Line}
use Rattle.asm_text.specs.Answer.{IsAssembled}
use Rattle.asm_text.specs.Assembled.{GivesWords, GiveWords, Assembles, are_initial}
use Rattle.asm_text.specs.Refused.{Holds, form_lines, label_lines, data_lines, HasNoMatch, HasConflict, word_limit, IsFreeBelow, IsFirst, IsRefused}
use Rattle.asm_text.specs.Source.{Labels, source, formed, labels, count_words}
use Rattle.asm_text.specs.declared.fault.AsmFault.{AsmFault}
use Rattle.asm_text.specs.declared.fault.AsmFault.TheVariants as fault
use Rattle.asm_text.proofs.SomeAnswer.{Cause, cause}
use Rattle.asm_lines.specs.Seen.{seen}
use Rattle.asm_lines.specs.declared.line.Line as read
use Rattle.asm_source.specs.Formed.{AreFormed, IsFormFault}
use Rattle.asm_source.specs.Known.{IsLabelFault}
use Rattle.asm_data.specs.Given.{GiveData, IsDataFault, begun}
use Rattle.isg_graph.specs.Graph.{Graph, IsGraph}
use Rattle.asm_tool.specs.Words.{IsWordFault}
use Rattle.asm_tool.proofs.LineWords.{AreTold, gives_some, gives_legal, none_at, illegal_at}

-- how many words PC can name, by its bits
pub limit_is : (g : Graph) → IsGraph g → word_limit (table g.desc) ≡ 2 ^ g.pc_bits
limit_is g whole =
    let t = table g.desc in
    let type_of : ℕ × Ty → Ty = λ s. s.1 in
    let stands : slice_get (map type_of (storages t)) (pc t) ≡ Some (ty.Card g.pc_bits) =
    slice_get-map type_of (storages t) (pc t) ∙ ap (option_map type_of) (ap (slice_get (storages t)) (sym whole.pc_is) ∙ whole.pc_bits_are)
    in ap (λ o. 2 ^ width_of (unwrap_or o ty.Bool)) stands

-- each line of those that give words gives its own
gives_at : (t : Table) (all : Labels) (ls : List Line) (ws : List ℕ) → GiveWords t all ls ws → (j : ℕ) (l : Line) → slice_get ls j ≡ Some l → (xs : List ℕ) × GivesWords t all l.content xs
gives_at t all [] ws h j l at = absurd cc
gives_at t all (m ∷ ls) ws h zero l at = (h.0, subst (λ (x : Line). GivesWords t all x.content h.0) (same_Some m l at) h.3)
gives_at t all (m ∷ ls) ws h (suc j) l at = gives_at t all ls h.1 h.4 j l at

none_within : (places : List ℕ) → places ≡ [] → (n : ℕ) → Contains places n → ⊥
none_within places none n c = let in_none = subst (λ xs. Contains xs n) none c in omega (arith, in_none.1)

-- the cells of an image, as a machine begins with them
pub map_begun : (cells : List DataCell) → map initial (map init_of cells) ≡ map begun cells
map_begun [] = refl
map_begun (c ∷ cs) = ap (λ is. begun c ∷ is) (map_begun cs)

-- the faults below this number, of a text of which these are the lines: none holds
pub record IsFree (t : Table) (width : ℕ) (text : Text) (ls : List Line) (k : ℕ) : Type 0 where
  pub are : ls ≡ formed (source width text)
  pub none : IsFreeBelow k t (source width text)

module _ (t : Table) (width : ℕ) (text : Text) where
  none_first : IsFreeBelow 1 t (source width text)
  none_first zero low h = cause t (source width text) zero h
  none_first (suc j) low h = omega (arith, low)

  none_more : (k : ℕ) → IsFreeBelow k t (source width text) → (Cause t (source width text) k → ⊥) → IsFreeBelow (suc k) t (source width text)
  none_more k free none j low h =
      elim (cases_lt j k) [
        | inl less ↦ free j less h
        | inr most ↦ none (cause t (source width text) k (subst (Holds t (source width text)) (let e : j ≡ k = omega (arith, low, most) in e) h))
      ]

  -- ---- Lex

  pub formed_free : (w : ℕ) (vs us : List read.Line) → w ≡ width → us ≡ vs → AreFormed w text vs → IsFree t width text (map seen us) 2
  formed_free w vs us same here h =
      let forms : form_lines 0 (source width text) ≡ [] = subst (λ n. form_lines 0 (source n text) ≡ []) same h.free in
      record {
        are = ap (map seen) here ∙ subst (λ n. map seen vs ≡ formed (source n text)) same h.same;
        none = none_more 1 none_first (λ c. none_within _ forms c.0 c.1);
      }

  pub form_refused : (w : ℕ) (f : AsmFault) → w ≡ width → IsFormFault w text f → IsRefused t width text f
  form_refused w (fault.Lex n) same h = subst (λ k. IsLeast (form_lines 0 (source k text)) n) same h
  form_refused w (fault.Label n) same h = absurd h
  form_refused w (fault.NoMatch n) same h = absurd h
  form_refused w (fault.Conflict n) same h = absurd h
  form_refused w (fault.Full n) same h = absurd h
  form_refused w (fault.Data n) same h = absurd h
  form_refused w fault.Memory same h = tt

  module _ {ls : List Line} where
    -- ---- Label

    pub labels_free : IsFree t width text ls 2 → label_lines (labels ls) [] 0 ls ≡ [] → IsFree t width text ls 3
    labels_free free none = record {
      are = free.are;
      none = none_more 2 free.none (λ c. none_within _ (subst (λ xs. label_lines (labels xs) [] 0 xs ≡ []) free.are none) c.0 c.1);
    }

    pub label_refused : IsFree t width text ls 2 → (f : AsmFault) → IsLabelFault ls f → IsRefused t width text f
    label_refused free (fault.Lex n) h = absurd h
    label_refused free (fault.Label n) h = (free.none, subst (λ xs. IsLeast (label_lines (labels xs) [] 0 xs) n) free.are h)
    label_refused free (fault.NoMatch n) h = absurd h
    label_refused free (fault.Conflict n) h = absurd h
    label_refused free (fault.Full n) h = absurd h
    label_refused free (fault.Data n) h = absurd h
    label_refused free fault.Memory h = tt

    -- ---- NoMatch and Conflict

    match_free : IsFree t width text ls 3 → ((n : ℕ) → HasNoMatch t ls n → ⊥) → IsFreeBelow 4 t (source width text)
    match_free free none = none_more 3 free.none (λ c. none c.0 (subst (λ xs. HasNoMatch t xs c.0) (sym free.are) c.1))

    pub words_free : AreTold t → IsFree t width text ls 3 → (ws : List ℕ) → GiveWords t (labels ls) ls ws → IsFree t width text ls 5
    words_free told free ws give = record {
      are = free.are;
      none = none_more 4 (match_free free some) (λ c. legal c.0 (subst (λ xs. HasConflict t xs c.0) (sym free.are) c.1));
    }
      where
        some : (n : ℕ) → HasNoMatch t ls n → ⊥
        some n h =
            let p = none_at t ls n h in
            let x = gives_at t (labels ls) ls ws give p.0 p.1 p.3 in
            gives_some t (labels ls) p.1.content x.0 x.1 p.4

        legal : (n : ℕ) → HasConflict t ls n → ⊥
        legal n h =
            let p = illegal_at t ls n h in
            let x = gives_at t (labels ls) ls ws give p.0 p.1 p.3 in
            gives_legal t (labels ls) p.1.content told x.0 x.1 p.4

    pub words_refused : IsFree t width text ls 3 → (f : AsmFault) → IsWordFault t ls f → IsRefused t width text f
    words_refused free (fault.Lex n) h = absurd h
    words_refused free (fault.Label n) h = absurd h
    words_refused free (fault.NoMatch n) h = (free.none, subst (λ xs. IsFirst (HasNoMatch t xs) n) free.are h)
    words_refused free (fault.Conflict n) h = (match_free free h.0, subst (λ xs. IsFirst (HasConflict t xs) n) free.are h.1)
    words_refused free (fault.Full n) h = absurd h
    words_refused free (fault.Data n) h = absurd h
    words_refused free fault.Memory h = tt

    -- ---- Full

    pub count_free : IsFree t width text ls 5 → (count : ℕ) → count ≡ count_words ls → count ≤ word_limit t → IsFree t width text ls 6
    count_free free count is few = record {
      are = free.are;
      none = none_more 5 free.none (λ c. let e = is ∙ ap count_words free.are in omega (arith, few, c, e));
    }

    pub count_refused : IsFree t width text ls 5 → (count : ℕ) → count ≡ count_words ls → word_limit t < count → IsRefused t width text (fault.Full count)
    count_refused free count is many = (free.none, is ∙ ap count_words free.are, many)

    -- ---- Data

    pub data_refused : IsFree t width text ls 6 → (f : AsmFault) → IsDataFault t ls f → IsRefused t width text f
    data_refused free (fault.Lex n) h = absurd h
    data_refused free (fault.Label n) h = absurd h
    data_refused free (fault.NoMatch n) h = absurd h
    data_refused free (fault.Conflict n) h = absurd h
    data_refused free (fault.Full n) h = absurd h
    data_refused free (fault.Data n) h = (free.none, subst (λ xs. IsLeast (data_lines t [] 0 xs) n) free.are h)
    data_refused free fault.Memory h = tt

    pub assembled : IsFree t width text ls 6 → (ws : List ℕ) (cells : List DataCell) → GiveWords t (labels ls) ls ws → GiveData t ls cells → IsAssembled t width text ws (map initial (map init_of cells))
    assembled free ws cells give begins = record {
      free = none_more 6 free.none (λ c. none_within _ (subst (λ xs. data_lines t [] 0 xs ≡ []) free.are begins.right) c.0 c.1);
      assembles = subst (λ xs. Assembles t xs ws (map initial (map init_of cells))) free.are (record {
        give = give;
        begin = subst (λ is. IsTrue (are_initial t ls is)) (sym (map_begun cells)) begins.begin;
      });
    }
