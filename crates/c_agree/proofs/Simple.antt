-- What comes behind a statement, and the statements that hold no others.
use Rattle.std.proofs.Common.{◌≡◌, ℕ, suc, ◌+◌, ◌<◌, ◌≤◌, ℤ, pos, List, [], ◌∷◌, ◌++◌, Bool, true, false, Some, None, refl, ap, sym, ◌∙◌, subst, arith}
use Rattle.nk_outside.specs.Outcome.{Outcome}
use Rattle.ir_core.specs.Operator.{arithmetic}
use Rattle.ir_core.specs.declared.operator.Arith.{Arith}
use Rattle.ir_core.specs.Inputs.{IsNumber}
use Rattle.ir_run.specs.Node.{Cell, In, Load, Binary}
use Rattle.ir_run.specs.Entry as entry
use Rattle.ir_run.specs.Run.{on, put}
use Rattle.ir_run.specs.Value as machine
use Rattle.ir_run.specs.Strict.{step}
use Rattle.ir_run.proofs.Agreement.{meets_more}
use Rattle.c_tree.specs.declared.meaning.Place.{Place}
use Rattle.c_tree.specs.declared.meaning.Place.TheVariants as places
use Rattle.c_tree.specs.Program.{Term, Terms, Input}
use Rattle.c_tree.specs.Meaning as source
use Rattle.c_tree.specs.Meaning.{Calls, Next, tested}
use Rattle.c_tree.specs.Code.{Layout, Value, AsValue, cell_of, cells, argument_cells, marks, argument_marks, has_call, have_call, element_address, index_steps, call_steps, piece, passing}
use Rattle.c_lowered.specs.Sound.{IsScalar, IsArray, Answers, count, SoundTerm, SoundTerms}
use Rattle.c_lowered.proofs.Numbers.{arithmetic_number}
use Rattle.c_agree.proofs.World.{Machine, Stands, Ground, IsGround, Here, IsHere, layout_of, source_cell, cell_at, Fits, Met, MetFrom, Same, env, PieceMet, PassingMet, JumpMet}
use Rattle.c_agree.proofs.Stands.{split, put_same, put_other, fits_on, fits_set, fits_assign, fits_more, element_number, met_set, met_out, met_store}
use Rattle.c_agree.proofs.Frame.{same_refl, same_set, same_cell, plain, there, worth_now, worth_cell, worth_binary}
use Rattle.c_agree.proofs.Evaluation.{scalar_below, scalar_home, element_value, element_is_number, element_is, load_value, index_tested}

module _ (g : Ground) (is : IsGround g) (h : Here) where
  -- the cells of functions of a higher rank, and the own return cell, hold what they are to hold
  pub record Kept (keep : ℕ → ℤ) (m : Machine) : Type 0 where
    pub over : (k : ℕ) → h.rank < g.owner k → machine.held m k ≡ keep k
    pub ret : h.returns ≡ true → machine.held m h.ret ≡ keep h.ret

  -- what comes behind, from place p, is met
  abbrev pub Behind : (ℕ → ℤ) → (c t p : ℕ) → Next → Type 0
  Behind keep c t p next = (st : source.State) (m : Machine) → Fits g t st m p → Kept keep m → MetFrom g c m st next

  pub kept_cells : (keep : ℕ → ℤ) (m m' : Machine) → m'.cells ≡ m.cells → Kept keep m → Kept keep m'
  kept_cells keep m m' e k = record {
    over = λ j lt. ap (λ cells. machine.held (record m { cells = cells }) j) e ∙ k.over j lt;
    ret = λ r. ap (λ cells. machine.held (record m { cells = cells }) h.ret) e ∙ k.ret r;
  }

  -- with more paid beforehand
  pub met_more : (c d : ℕ) (out : List ℤ) (m : Machine) (n : ℕ) (o : Outcome) → c ≤ d → Met g c out m n o → Met g d out m n o
  met_more c d out m n o le i = meets_more (step g.arrays g.code g.bits) g.weight c d out m n o le i

  -- with more paid beforehand, or with fewer turns left
  pub behind_more : (c d t u p : ℕ) (keep : ℕ → ℤ) (next : Next) → c ≤ d → t ≤ u → Behind keep c u p next → Behind keep d t p next
  behind_more c d t u p keep next le less i st m fits kept = met_more c d st.out m st.turns (next st) le (i st m (fits_more g is t u st m p less fits) kept)

  module _ (at : IsHere g h) where
    pub kept_same : (b : Bool) (s : ℕ) (keep : ℕ → ℤ) (m m' : Machine) → h.lo ≤ s → Same g h b s m m' → Kept keep m → Kept keep m'
    kept_same b s keep m m' low same k = record {
      over = λ j lt. same.by j (λ _. omega arith) (λ le top. let o = (at.steps j (omega arith) top).owned in omega arith) ∙ k.over j lt;
      ret = λ r. same.by h.ret (λ _. let o = (at.ret_own r).owned in omega arith) (λ le top. at.ret_apart r (omega arith) top) ∙ k.ret r;
    }

module _ (g : Ground) (is : IsGround g) (h : Here) (at : IsHere g h) (calls : Calls) (d : ℕ)
    (jump_met : JumpMet g h calls d) (piece_met : (e : Term) → PieceMet g h calls d e) (passing_met : (xs : Terms) → PassingMet g h calls d xs) where
  abbrev E : source.Frame
  E = env g h calls d

  abbrev lay : Layout
  lay = layout_of g h

  -- the cell of a cell of the memory, no function's of a higher rank
  record Lies (x k : ℕ) : Type 0 where
    below : x < g.memory
    home : g.home x ≡ k
    owned : g.owner k ≤ h.rank

  scalar_lies : (p : Place) → IsScalar h.world p → Lies (source.cell E p) (cell_of lay p)
  scalar_lies p e = by_place p e (scalar_below g is h at p e) (scalar_home g is h at p e) (let o = (at.placed p None e 0 (omega arith)).owned in let one : cell_at h p + 0 ≡ cell_at h p = omega arith in subst (λ n. g.owner n ≤ h.rank) one o)
    where
      by_place : (p : Place) → IsScalar h.world p → source_cell h p < g.memory → g.home (source_cell h p) ≡ cell_at h p → g.owner (cell_at h p) ≤ h.rank → Lies (source.cell E p) (cell_of lay p)
      by_place (places.Global n) e below home owned = record { below = below; home = home; owned = owned }
      by_place (places.Local n) e below home owned = record { below = below; home = home; owned = owned }

  cell_is : (p : Place) → source_cell h p ≡ source.cell E p
  cell_is (places.Global n) = refl
  cell_is (places.Local n) = refl

  element_lies : (p : Place) (n j : ℕ) → IsArray h.world p n → j < n → Lies (source.cell E p + j) (cell_at h p + j)
  element_lies p n j e lt =
      let i = at.placed p (Some n) e j lt in
      subst (λ x. Lies (x + j) (cell_at h p + j)) (cell_is p) (record { below = i.below; home = i.home; owned = i.owned })

  kept_put : (x k : ℕ) (z : ℤ) (keep : ℕ → ℤ) (m : Machine) → Lies x k → Kept g is h keep m → Kept g is h keep (on (put k z m))
  kept_put x k z keep m lies i = record {
    over = λ j lt. put_other m k j z (λ e. let o : g.owner j ≡ g.owner k = ap g.owner e in let own = lies.owned in omega arith) ∙ i.over j lt;
    ret = λ r. put_other m k h.ret z (λ e. (at.ret_own r).plain (record { variable = x; below = lies.below; is = lies.home ∙ sym e })) ∙ i.ret r;
  }

  fits_put : (t : ℕ) (s : source.State) (m : Machine) (p q x k : ℕ) (z : ℤ) → Lies x k → IsNumber g.bits z → suc p ≡ q → Fits g t s m p → Fits g t (source.put s x z) (on (put k z m)) q
  fits_put t s m p q x k z lies is_number e f = subst (λ k. Fits g t (source.put s x z) (on (put k z m)) q) lies.home (fits_assign g is t s m p q x z lies.below is_number e f)

  -- `x = e`
  pub set_met : (p : Place) (e : Term) (k l b q c t : ℕ) (keep : ℕ → ℤ) (st : source.State) (m : Machine) (next : Next) → IsScalar h.world p → SoundTerm h.world e → h.lo ≤ k → k + cells false true e ≤ h.hi → t < d
      → Stands g.code b ((piece lay k l false Value e).steps ++ entry.Set (cell_of lay p) (piece lay k l false Value e).tree ∷ []) q → Fits g t st m b → Kept g is h keep m → Behind g is h keep c t q next
      → MetFrom g c m st (source.value E e (λ z s. next (source.put s (source.cell E p) z)))
  set_met p e k l b q c t keep st m next scalar sound low top lt stands fits kept rest =
      let a = piece lay k l false Value e in
      let j = split g.code b q a.steps _ stands in
      let lies = scalar_lies p scalar in
      piece_met e false Value k l b j.0 0 c t st m (λ z s. next (source.put s (source.cell E p) z)) sound low top j.1 tt lt fits (λ z st2 m2 z_number fits2 same2 worth2.
      met_set g is c st2.turns st2.out m2 j.0 (cell_of lay p) a.tree z _ fits2.place j.2.0 (worth_now g h false a.tree (k + cells false true e) z m2 worth2)
      (rest (source.put st2 (source.cell E p) z) (on (put (cell_of lay p) z m2)) (fits_put t st2 m2 j.0 q (source.cell E p) (cell_of lay p) z lies z_number j.2.1 fits2)
      (kept_put (source.cell E p) (cell_of lay p) z keep m2 lies (kept_same g is h at (has_call e) k keep m m2 low same2 kept))))

  -- `a[i] = e`
  pub store_met : (p : Place) (n : ℕ) (i e : Term) (k l b q c t : ℕ) (keep : ℕ → ℤ) (st : source.State) (m : Machine) (next : Next) → IsArray h.world p n → SoundTerm h.world i → SoundTerm h.world e → h.lo ≤ k → k + (cells false true i + 1 + cells false true e) ≤ h.hi → t < d
      → Stands g.code b (index_steps lay n (piece lay k l false Value i) (k + cells false true i) ++ (piece lay (k + cells false true i + 1) (l + marks AsValue i) false Value e).steps
      ++ entry.Store (element_address lay p (k + cells false true i)) (piece lay (k + cells false true i + 1) (l + marks AsValue i) false Value e).tree ∷ []) q → Fits g t st m b → Kept g is h keep m → Behind g is h keep c t q next
      → MetFrom g c m st (source.value E i (tested n (λ j. source.value E e (λ z s. next (source.put s (source.cell E p + j) z)))))
  store_met p n i e k l b q c t keep st m next array sound_i sound lo top lt stands fits kept rest =
      let u = piece lay k l false Value i in
      let s = k + cells false true i in
      let a = piece lay (s + 1) (l + marks AsValue i) false Value e in
      let o = split g.code b q (index_steps lay n u s ++ a.steps) _ stands in
      let r = split g.code b o.0 (index_steps lay n u s) a.steps o.1 in
      let v = split g.code b r.0 u.steps _ r.1 in
      piece_met i false Value k l b v.0 0 c t st m (tested n (λ j. source.value E e (λ z s. next (source.put s (source.cell E p + j) z)))) sound_i lo (omega arith) v.1 tt lt fits (λ x st2 m2 x_number fits2 same2 worth2.
      index_tested g is h at n false s v.0 r.0 c t x u.tree st2 m2 (λ j. source.value E e (λ z s. next (source.put s (source.cell E p + j) z))) (omega arith) (omega arith) v.2 fits2 x_number worth2 (λ j m3 j_less fits3 same3 cell3 j_number.
      piece_met e false Value (s + 1) (l + marks AsValue i) r.0 o.0 0 c t st2 m3 (λ z s. next (source.put s (source.cell E p + j) z)) sound (omega arith) (omega arith) r.2 tt lt fits3 (λ z st4 m4 z_number fits4 same4 worth4.
      let cell4 = same_cell g h at (has_call e) s (s + 1) (pos j) m3 m4 (omega arith) (omega arith) (omega arith) same4 cell3 in
      let y = cell_at h p + j in
      let lies = element_lies p n j array j_less in
      met_store g is c st4.turns st4.out m4 o.0 (element_address lay p s) a.tree (element_number g.bits (cell_at h p) j) y z _ fits4.place o.2.0 (element_is_number g is h at p j) (element_is g is h at p n j array j_less) (at.array p n array j j_less)
      (element_value g is h at p s j m4 cell4 j_number) (worth_now g h false a.tree (s + 1 + cells false true e) z m4 worth4)
      (rest (source.put st4 (source.cell E p + j) z) (on (put y z m4)) (fits_put t st4 m4 o.0 q (source.cell E p + j) y z lies z_number o.2.1 fits4)
      (kept_put (source.cell E p + j) y z keep m4 lies
      (kept_same g is h at (has_call e) (s + 1) keep m3 m4 (omega arith) same4 (kept_same g is h at false s keep m2 m3 (omega arith) same3 (kept_same g is h at (has_call i) k keep m m2 lo same2 kept))))))))

  -- `a[i] += e` and the like
  pub change_met : (p : Place) (n : ℕ) (i : Term) (op : Arith) (e : Term) (k l b q c t : ℕ) (keep : ℕ → ℤ) (st : source.State) (m : Machine) (next : Next) → IsArray h.world p n → SoundTerm h.world i → SoundTerm h.world e → h.lo ≤ k → k + (cells false true i + 2 + cells false true e) ≤ h.hi → t < d
      → Stands g.code b (index_steps lay n (piece lay k l false Value i) (k + cells false true i) ++ entry.Set (k + cells false true i + 1) (Load (element_address lay p (k + cells false true i))) ∷ (piece lay (k + cells false true i + 1 + 1) (l + marks AsValue i) false Value e).steps
      ++ entry.Store (element_address lay p (k + cells false true i)) (Binary op (Cell (k + cells false true i + 1)) (piece lay (k + cells false true i + 1 + 1) (l + marks AsValue i) false Value e).tree) ∷ []) q → Fits g t st m b → Kept g is h keep m → Behind g is h keep c t q next
      → MetFrom g c m st (source.value E i (tested n (λ j s. source.value E e (λ z t. next (source.put t (source.cell E p + j) (arithmetic g.bits op (source.held s (source.cell E p + j)) z))) s)))
  change_met p n i op e k l b q c t keep st m next array sound_i sound lo top lt stands fits kept rest =
      let u = piece lay k l false Value i in
      let s = k + cells false true i in
      let w = s + 1 in
      let a = piece lay (w + 1) (l + marks AsValue i) false Value e in
      let address = element_address lay p s in
      let to : ℕ → Next = λ j s. source.value E e (λ z t. next (source.put t (source.cell E p + j) (arithmetic g.bits op (source.held s (source.cell E p + j)) z))) s in
      let o = split g.code b q (index_steps lay n u s ++ entry.Set w (Load address) ∷ a.steps) _ stands in
      let r = split g.code b o.0 (index_steps lay n u s) (entry.Set w (Load address) ∷ a.steps) o.1 in
      let v = split g.code b r.0 u.steps _ r.1 in
      piece_met i false Value k l b v.0 0 c t st m (tested n to) sound_i lo (omega arith) v.1 tt lt fits (λ x st2 m2 x_number fits2 same2 worth2.
      index_tested g is h at n false s v.0 r.0 c t x u.tree st2 m2 to (omega arith) (omega arith) v.2 fits2 x_number worth2 (λ j m3 j_less fits3 same3 cell3 j_number.
      let y = cell_at h p + j in
      let x = source.cell E p + j in
      let lies = element_lies p n j array j_less in
      let old = source.held st2 x in
      let old_number : IsNumber g.bits old = fits3.numbers x in
      let m4 : Machine = on (put w old m3) in
      let same4 : Same g h false w m3 m4 = same_set g h false w w old m3 m3 (omega arith) (omega arith) (same_refl g h false w m3) in
      let cell4 = same_cell g h at false s w (pos j) m3 m4 (omega arith) (omega arith) (omega arith) same4 cell3 in
      let held4 : machine.held m4 w ≡ old = put_same m3 w old (there g h at w m3 (omega arith) (omega arith) fits3.cells) in
      let held3 : machine.held m3 y ≡ old = ap (λ k. machine.held m3 k) (sym lies.home) ∙ fits3.same x lies.below in
      met_set g is c st2.turns st2.out m3 r.0 w (Load address) old _ fits3.place r.2.0 (load_value g is h at p n s j old m3 array j_less cell3 j_number held3)
      (piece_met e false Value (w + 1) (l + marks AsValue i) (suc r.0) o.0 0 c t st2 m4 (λ z t. next (source.put t x (arithmetic g.bits op old z))) sound (omega arith) (omega arith) r.2.1 tt lt
      (fits_set g is t st2 m3 r.0 (suc r.0) w old (plain g h at w (omega arith) (omega arith)) refl fits3) (λ z st5 m5 z_number fits5 same5 worth5.
      let cell5 = same_cell g h at (has_call e) s (w + 1) (pos j) m4 m5 (omega arith) (omega arith) (omega arith) same5 cell4 in
      let held5 = same_cell g h at (has_call e) w (w + 1) old m4 m5 (omega arith) (omega arith) (omega arith) same5 held4 in
      let top5 = w + 1 + cells false true e in
      let new = arithmetic g.bits op old z in
      let new_number : IsNumber g.bits new = arithmetic_number g.bits op old z is.width old_number z_number in
      let worth_new = worth_binary g h is false op (Cell w) a.tree top5 old z m5 old_number z_number (worth_cell g h at false w top5 old m5 (omega arith) (omega arith) (omega arith) held5) worth5 in
      met_store g is c st5.turns st5.out m5 o.0 address (Binary op (Cell w) a.tree) (element_number g.bits (cell_at h p) j) y new _ fits5.place o.2.0 (element_is_number g is h at p j) (element_is g is h at p n j array j_less) (at.array p n array j j_less)
      (element_value g is h at p s j m5 cell5 j_number) (worth_now g h false (Binary op (Cell w) a.tree) top5 new m5 worth_new)
      (rest (source.put st5 x new) (on (put y new m5)) (fits_put t st5 m5 o.0 q x y new lies new_number o.2.1 fits5)
      (kept_put x y new keep m5 lies
      (kept_same g is h at (has_call e) (w + 1) keep m4 m5 (omega arith) same5 (kept_same g is h at false w keep m3 m4 (omega arith) same4 (kept_same g is h at false s keep m2 m3 (omega arith) same3 (kept_same g is h at (has_call i) k keep m m2 lo same2 kept))))))))))

  -- `out(e)`
  pub print_met : (e : Term) (k l b q c t : ℕ) (keep : ℕ → ℤ) (st : source.State) (m : Machine) (next : Next) → SoundTerm h.world e → h.lo ≤ k → k + cells false true e ≤ h.hi → t < d
      → Stands g.code b ((piece lay k l false Value e).steps ++ entry.Out (piece lay k l false Value e).tree ∷ []) q → Fits g t st m b → Kept g is h keep m → Behind g is h keep c t q next
      → MetFrom g c m st (source.value E e (λ z s. next (record s { out = s.out ++ z ∷ [] })))
  print_met e k l b q c t keep st m next sound low top lt stands fits kept rest =
      let a = piece lay k l false Value e in
      let j = split g.code b q a.steps _ stands in
      piece_met e false Value k l b j.0 0 c t st m (λ z s. next (record s { out = s.out ++ z ∷ [] })) sound low top j.1 tt lt fits (λ z st2 m2 z_number fits2 same2 worth2.
      met_out g is c st2.turns st2.out m2 j.0 a.tree z _ fits2.place j.2.0 z_number (worth_now g h false a.tree (k + cells false true e) z m2 worth2)
      (let f = fits_on g is t st2 m2 j.0 q j.2.1 fits2 in
      rest (record st2 { out = st2.out ++ z ∷ [] }) (on m2) (record { place = f.place; cells = f.cells; memory = f.memory; same = f.same; numbers = f.numbers; input = f.input; inputs = f.inputs; turns = f.turns })
      (kept_cells g is h keep m2 (on m2) refl (kept_same g is h at (has_call e) k keep m m2 low same2 kept))))

  -- `in()`
  pub take_met : (k l b q c t : ℕ) (keep : ℕ → ℤ) (st : source.State) (m : Machine) (next : Next) → h.lo ≤ k → k + 1 ≤ h.hi → t < d → Stands g.code b (entry.Set k In ∷ []) q → Fits g t st m b → Kept g is h keep m → Behind g is h keep c t q next
      → Met g c st.out m st.turns (source.take_next st.input (λ z. next) st)
  take_met k l b q c t keep st m next low top lt stands fits kept rest =
      piece_met Input false Value k l b q 0 c t st m (λ z. next) tt low top stands tt lt fits (λ z st2 m2 z_number fits2 same2 worth2.
      rest st2 m2 fits2 (kept_same g is h at false k keep m m2 low same2 kept))

  -- a call whose value isn't used
  pub invoke_met : (f : ℕ) (xs : Terms) (k l b q c t : ℕ) (keep : ℕ → ℤ) (st : source.State) (m : Machine) (next : Next) → Answers h.world f (count xs) false → SoundTerms h.world xs → h.lo ≤ k → k + argument_cells false xs ≤ h.hi → t < d
      → Stands g.code b (call_steps lay f (passing lay k l false xs) (l + argument_marks xs)) q → Fits g t st m b → Kept g is h keep m → Behind g is h keep c t q next
      → MetFrom g c m st (source.values E xs (λ zs. calls f zs (λ z. next)))
  invoke_met f xs k l b q c t keep st m next answers sound low top lt stands fits kept rest =
      let a = passing lay k l false xs in
      let j = split g.code b q a.steps _ stands in
      passing_met xs false k l b j.0 c t st m (λ zs. calls f zs (λ z. next)) sound low top j.1 lt fits (λ zs st1 m1 many fits1 same1 held1.
      jump_met f (count xs) false answers (k + argument_cells false xs) j.0 q c t (l + argument_marks xs) a.values zs st1 m1 (λ z. next) many top held1 j.2 lt fits1 (λ z st2 m2 z_number fits2 same2 result2.
      let kept1 = kept_same g is h at (have_call xs) k keep m m1 low same1 kept in
      rest st2 m2 fits2 (record { over = λ n less. same2 n (omega arith) ∙ kept1.over n less; ret = λ r. same2 h.ret (let o = (at.ret_own r).owned in omega arith) ∙ kept1.ret r })))
