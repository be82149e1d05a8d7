-- The words of lines, one line after the other.
use Rattle.std.proofs.Common.{ℕ, ◌+◌, ◌<◌, ◌≤◌, ◌≡◌, refl, sym, ◌∙◌, ap, subst, List, [], ◌∷◌, ◌++◌, length, drop, append_assoc, append-nil, Option, Some, None, arith, inl, inr}
use Rattle.std.specs.Prelude.{slice_get}
use Rattle.std.specs.Option.{option_or}
use Rattle.std.proofs.lemmas.Bool.{cases_lt}
use Rattle.std.proofs.lemmas.List.{drop_all}
use Rattle.std.proofs.lemmas.Option.{same_Some, slice_get_within}
use Rattle.nml_tree.specs.Table.{Table}
use Rattle.asm_lines.specs.Line.{Line}
use Rattle.asm_text.specs.Assembled.{GivesWords, GiveWords}
use Rattle.asm_text.specs.Refused.{HasNoMatch, HasConflict, IsFirst}
use Rattle.asm_text.specs.Source.{labels}
use Rattle.asm_text.specs.declared.fault.AsmFault.TheVariants as fault
use Rattle.asm_tool.specs.Words.{HasNone, HasIllegal, IsWordFault}
use Rattle.asm_tool.proofs.LineWords.{AreTold, gives_some, illegal_some, gives_legal, none_at, no_match, illegal_at, conflict}

-- this line is before the other, if there is one
abbrev pub IsBefore : ℕ → Option ℕ → Type 0
IsBefore n None = Unit {0}
IsBefore n (Some m) = n < m

-- the instruction of this line, which is none behind line k, isn't legal
abbrev pub IsConflict : Table → List Line → ℕ → Option ℕ → Type 0
IsConflict t ls k None = Unit {0}
IsConflict t ls k (Some n) = HasConflict t ls n × (n ≤ k)

-- of the first k lines each instruction is one, this line is the first whose instruction isn't legal, and where there is none these are the words
pub record Walked (t : Table) (ls : List Line) (k number : ℕ) (words : List ℕ) (found : Option ℕ) : Type 0 where
  pub number_is : number ≡ k
  pub matched : (j : ℕ) (l : Line) → j < k → slice_get ls j ≡ Some l → HasNone t (labels ls) l.content → ⊥
  pub legal : (j : ℕ) (l : Line) → j < k → IsBefore (j + 1) found → slice_get ls j ≡ Some l → HasIllegal t (labels ls) l.content → ⊥
  pub told : IsConflict t ls k found
  pub give : found ≡ None → (more : List ℕ) → GiveWords t (labels ls) (drop k ls) more → GiveWords t (labels ls) ls (words ++ more)

pub none_walked : (t : Table) (ls : List Line) (words : List ℕ) → words ≡ [] → Walked t ls 0 0 words None
none_walked t ls words none =
    rw none (record {
      number_is = refl;
      matched = λ j l low at h. absurd (omega (arith, low));
      legal = λ j l low before at h. absurd (omega (arith, low));
      told = tt;
      give = λ e more h. h;
    })

-- what holds of the lines before one and of this one holds of all up to it
upto : (ls : List Line) (P : ℕ → Line → Type 0) (k : ℕ) (l : Line) → slice_get ls k ≡ Some l → ((j : ℕ) (m : Line) → j < k → slice_get ls j ≡ Some m → P j m) → P k l → (j : ℕ) (m : Line) → j < k + 1 → slice_get ls j ≡ Some m → P j m
upto ls P k l at before here j m low stands =
    elim (cases_lt j k) [
      | inl less ↦ before j m less stands
      | inr most ↦
          let e : k ≡ j = omega (arith, low, most) in
          let same : l ≡ m = same_Some _ _ (sym at ∙ ap (slice_get ls) e ∙ stands) in
          subst (λ i. P i m) e (subst (P k) same here)
    ]

module _ (t : Table) (ls : List Line) (k number : ℕ) (words : List ℕ) (found : Option ℕ) (walked : Walked t ls k number words found) where
  -- the line that is next
  module _ (l : Line) (at : slice_get ls k ≡ Some l) where
    -- it gives these words
    pub goes_on : AreTold t → (ws new : List ℕ) (next after : ℕ) → drop k ls ≡ l ∷ drop (k + 1) ls → GivesWords t (labels ls) l.content ws → new ≡ words ++ ws → next ≡ number + 1 → after ≡ k + 1 → Walked t ls after next new found
    goes_on told ws new next after left gives more up on =
        rw (more, up, on) (record {
          number_is = omega (arith, walked.number_is);
          matched = upto ls (λ j m. HasNone t (labels ls) m.content → ⊥) k l at walked.matched (gives_some t (labels ls) l.content ws gives);
          legal = λ j m low before stands. upto ls (λ j m. IsBefore (j + 1) found → HasIllegal t (labels ls) m.content → ⊥) k l at (λ j m low stands before. walked.legal j m low before stands) (λ before. gives_legal t (labels ls) l.content told ws gives) j m low stands before;
          told = later found walked.told;
          give = λ e rest h.
              subst (GiveWords t (labels ls) ls) (sym (append_assoc words ws rest))
              (walked.give e (ws ++ rest) (subst (λ xs. GiveWords t (labels ls) xs (ws ++ rest)) (sym left) (ws, rest, refl, gives, h)));
        })
      where
        later : (o : Option ℕ) → IsConflict t ls k o → IsConflict t ls (k + 1) o
        later None h = tt
        later (Some n) h = (h.0, let low = h.1 in omega (arith, low))

    -- its instruction isn't legal
    pub clashes : HasIllegal t (labels ls) l.content → (next after : ℕ) (told : Option ℕ) → next ≡ number + 1 → after ≡ k + 1 → told ≡ option_or found (Some (number + 1)) → Walked t ls after next words told
    clashes bad next after told up on tells =
        rw (up, on, tells, walked.number_is) (by found walked)
      where
        by : (o : Option ℕ) → Walked t ls k number words o → Walked t ls (k + 1) (k + 1) words (option_or o (Some (k + 1)))
        by None w = record {
          number_is = refl;
          matched = upto ls (λ j m. HasNone t (labels ls) m.content → ⊥) k l at w.matched (illegal_some t (labels ls) l.content bad);
          legal = λ j m low before stands. w.legal j m (omega (arith, before)) tt stands;
          told = (conflict t ls k l at bad, omega arith);
          give = λ e. absurd cc;
        }
        by (Some n) w = record {
          number_is = refl;
          matched = upto ls (λ j m. HasNone t (labels ls) m.content → ⊥) k l at w.matched (illegal_some t (labels ls) l.content bad);
          legal = λ j m low before stands. w.legal j m (let most = w.told.1 in omega (arith, before, most)) before stands;
          told = (w.told.0, let most = w.told.1 in omega (arith, most));
          give = λ e. absurd cc;
        }

    -- no instruction has its tokens
    pub fails_here : HasNone t (labels ls) l.content → (next : ℕ) → next ≡ number + 1 → IsFirst (HasNoMatch t ls) next
    fails_here none next up =
        rw (up, walked.number_is) (record {
          holds = no_match t ls k l at none;
          first = λ n h.
              let p = none_at t ls n h in
              elim (cases_lt p.0 k) [
                | inl less ↦ absurd (walked.matched p.0 p.1 less p.3 p.4)
                | inr most ↦ let e = p.2 in omega (arith, most, e)
              ];
        })

  -- there is no line more
  module _ (end : length ls ≤ k) where
    all_matched : (n : ℕ) → HasNoMatch t ls n → ⊥
    all_matched n h =
        let p = none_at t ls n h in
        let low = slice_get_within ls p.0 p.1 p.3 in
        walked.matched p.0 p.1 (omega (arith, low, end)) p.3 p.4

    pub all_give : found ≡ None → GiveWords t (labels ls) ls words
    all_give none =
        subst (GiveWords t (labels ls) ls) (append-nil words) (walked.give none [] (subst (λ xs. GiveWords t (labels ls) xs []) (sym (drop_all k ls end)) refl))

    pub first_conflict : (n : ℕ) → found ≡ Some n → IsWordFault t ls (fault.Conflict n)
    first_conflict n is =
        let told : HasConflict t ls n × (n ≤ k) = subst (IsConflict t ls k) is walked.told in (
          all_matched,
          record {
            holds = told.0;
            first = λ m h.
                let p = illegal_at t ls m h in
                let low = slice_get_within ls p.0 p.1 p.3 in
                let e = p.2 in
                elim (cases_lt m n) [
                  | inl less ↦ absurd (walked.legal p.0 p.1 (omega (arith, low, end)) (subst (IsBefore (p.0 + 1)) (sym is) (omega (arith, less, e))) p.3 p.4)
                  | inr most ↦ most
                ];
          },
        )
