-- The statements of a command do what the command does.
use Rattle.std.proofs.Common.{◌≡◌, ℕ, suc, ◌+◌, ◌<◌, ◌≤◌, ℤ, pos, [], ◌∷◌, ◌++◌, Bool, true, false, Option, Some, None, ⊎_elim, refl, arith}
use Rattle.std.specs.Prelude.{slice_get}
use Rattle.ir_core.specs.Inputs.{IsNumber}
use Rattle.ir_run.specs.Node.{Node}
use Rattle.ir_run.specs.Entry.{Mark, Jump}
use Rattle.ir_run.specs.Run.{place_of, on, at_place}
use Rattle.c_tree.specs.Program.{Term, Terms, Command, Skip, Seq, Turn, Set, Store, Change, Print, Take, Invoke, If, IfElse, While, Do, For, Break, Continue, Return}
use Rattle.c_tree.specs.Meaning as source
use Rattle.c_tree.specs.Meaning.{Calls, Next, NextOf, Exits, is_true, either, value, condition, run}
use Rattle.c_tree.specs.Code.{Layout, Value, When, Unless, IfHolds, IfFails, cells, marks, has_call, piece}
use Rattle.c_tree.specs.Lowered.{Leaving, Ends, condition_cells, condition_marks, condition_steps, command_cells, command_marks, leave, leave_with, statements}
use Rattle.c_lowered.specs.Sound.{SoundTerm, SoundOption, SoundCommand, NeverEnds}
use Rattle.c_agree.proofs.World.{Machine, Stands, Ground, IsGround, Here, IsHere, layout_of, Fits, MetFrom, IsWorth, env, PieceMet, PassingMet, JumpMet, payable}
use Rattle.c_agree.proofs.Stands.{split, fits_at, fits_on, fits_jump, fits_more, met_mark, met_go}
use Rattle.c_agree.proofs.Simple.{Kept, Behind, kept_cells, kept_same, met_more, behind_more, set_met, store_met, change_met, print_met, take_met, invoke_met}
use Rattle.c_agree.proofs.Loops.{paid_met, met_hit, met_miss, Tested, past_met, loop_met, do_met}

module _ (g : Ground) (is : IsGround g) (h : Here) where
  -- a jump before what comes behind its label
  pub jump_met_behind : (c t p q l : ℕ) (keep : ℕ → ℤ) (next : Next) → slice_get g.code p ≡ Some (Jump l) → place_of g.code l ≡ Some q → Behind g is h keep c t q next → Behind g is h keep c t p next
  jump_met_behind c t p q l keep next there to rest st m fits kept =
      met_go g is c st.turns st.out m p q l _ fits.place there to (rest st (at_place q m) (fits_jump g is t st m p q fits) (kept_cells g is h keep m (at_place q m) refl kept))

  -- where a loop goes on that is left by `break`, or by `continue`
  abbrev pub Leaves : (looped : Bool) → (ℕ → ℤ) → (c t label : ℕ) → Next → Type 0
  Leaves looped keep c t label next = looped ≡ true → (zp : ℕ) × (place_of g.code label ≡ Some zp) × Behind g is h keep c t zp next

  pub leaves_more : (looped : Bool) (c d t u label : ℕ) (keep : ℕ → ℤ) (next : Next) → c ≤ d → t ≤ u → Leaves looped keep c u label next → Leaves looped keep d t label next
  leaves_more looped c d t u label keep next le less left e = let z = left e in (z.0, z.1, behind_more g is h c d t u z.0 keep next le less z.2)

  no_loop : (c t label : ℕ) (keep : ℕ → ℤ) (next : Next) → Leaves false keep c t label next
  no_loop c t label keep next e = let e' : false ≡ true = e in absurd cc

  -- how a function goes on that is left without a value, and with one
  pub record Returned (leaving : Leaving) (keep : ℕ → ℤ) (c t : ℕ) (returned : NextOf) : Type 0 where
    pub plain : (h.world.is_main ≡ false → h.world.gives ≡ false) → (p q : ℕ) → Stands g.code p (leave leaving) q → Behind g is h keep c t p (returned (pos 0))
    pub worth : (h.world.is_main ≡ false → h.world.gives ≡ true) → (x : ℤ) (u : Node) (s p q : ℕ) → Stands g.code p (leave_with leaving u) q → (st : source.State) (m : Machine) → Fits g t st m p → Kept g is h keep m → IsNumber g.bits x → IsWorth g h false u s x m
        → MetFrom g c m st (returned x)

  pub returned_more : (leaving : Leaving) (keep : ℕ → ℤ) (c d t u : ℕ) (returned : NextOf) → c ≤ d → t ≤ u → Returned leaving keep c u returned → Returned leaving keep d t returned
  returned_more leaving keep c d t u returned le less r = record {
    plain = λ none p q stands. behind_more g is h c d t u p keep (returned (pos 0)) le less (r.plain none p q stands);
    worth = λ some x tree s p q stands st m fits kept x_number worth.
        met_more g is h c d st.out m st.turns _ le (r.worth some x tree s p q stands st m (fits_more g is t u st m p less fits) kept x_number worth);
  }

module _ (g : Ground) (is : IsGround g) (h : Here) (at : IsHere g h) (calls : Calls) (d : ℕ)
    (jump_met : JumpMet g h calls d) (piece_met : (e : Term) → PieceMet g h calls d e) (passing_met : (xs : Terms) → PassingMet g h calls d xs) where
  abbrev E : source.Frame
  E = env g h calls d

  abbrev lay : Layout
  lay = layout_of g h

  -- a condition that goes to a label where it fails
  unless_tested : (e : Option Term) (k l to b q zp t : ℕ) (keep : ℕ → ℤ) → SoundOption h.world e → h.lo ≤ k → k + condition_cells e ≤ h.hi → t < d → Stands g.code b (condition_steps lay k l (Unless to) e) q → place_of g.code to ≡ Some zp → Tested g is h keep t b q zp (condition E e)
  unless_tested None k l to b q zp t keep sound low top lt stands place c t' st m go le fits kept hit miss = hit (pos 1) refl st m (fits_at g is t' st m b q stands fits) kept
  unless_tested (Some e) k l to b q zp t keep sound low top lt stands place c t' st m go le fits kept hit miss =
      piece_met e false (Unless to) k l b q zp c t' st m go sound low top stands place (omega arith) fits (
        (λ x st2 m2 fails fits2 same2. miss x fails st2 m2 fits2 (kept_same g is h at (has_call e) k keep m m2 low same2 kept)),
        (λ x st2 m2 holds fits2 same2. hit x holds st2 m2 fits2 (kept_same g is h at (has_call e) k keep m m2 low same2 kept)),
      )

  -- one that goes to a label where it holds
  when_tested : (e : Term) (k l to b q zp t : ℕ) (keep : ℕ → ℤ) → SoundTerm h.world e → h.lo ≤ k → k + cells false false e ≤ h.hi → t < d → Stands g.code b (piece lay k l false (When to) e).steps q → place_of g.code to ≡ Some zp → Tested g is h keep t b zp q (value E e)
  when_tested e k l to b q zp t keep sound low top lt stands place c t' st m go le fits kept hit miss =
      piece_met e false (When to) k l b q zp c t' st m go sound low top stands place (omega arith) fits (
        (λ x st2 m2 holds fits2 same2. hit x holds st2 m2 fits2 (kept_same g is h at (has_call e) k keep m m2 low same2 kept)),
        (λ x st2 m2 fails fits2 same2. miss x fails st2 m2 fits2 (kept_same g is h at (has_call e) k keep m m2 low same2 kept)),
      )

  module _ (leaving : Leaving) where
    -- what comes behind a command is needed where the command's end is reached
    abbrev pub CommandMet : Command → Type 0
    CommandMet x = (paid looped : Bool) (ends : Ends) (k l b q c t : ℕ) (keep : ℕ → ℤ) (st : source.State) (m : Machine) (exits : Exits) (next : Next)
        → SoundCommand h.world paid looped x → h.lo ≤ k → k + command_cells x ≤ h.hi → payable x ≤ g.weight → t ≤ d → (paid ≡ true → t < d)
        → Stands g.code b (statements lay leaving ends k l x) q → Fits g t st m b → Kept g is h keep m
        → ((NeverEnds x → ⊥) → Behind g is h keep c t q next) → Leaves g is h looped keep c t ends.broke exits.broke → Leaves g is h looped keep c t ends.continued exits.continued → Returned g is h leaving keep c t exits.returned
        → MetFrom g (c + payable x) m st (run E x exits next)

    pub command_met : (x : Command) → CommandMet x
    command_met Skip paid looped ends k l b q c t keep st m exits next sound low top small le pays stands fits kept behind broke continued back =
        met_more g is h c (c + 0) st.out m st.turns _ (omega arith) (behind (λ z. z) st m (fits_at g is t st m b q stands fits) kept)
    command_met (Seq x y) paid looped ends k l b q c t keep st m exits next sound low top small le pays stands fits kept behind broke continued back =
        let j = split g.code b q (statements lay leaving ends k l x) _ stands in
        let n = payable y in
        met_more g is h (c + n + payable x) (c + (n + payable x)) st.out m st.turns _ (omega arith)
        (command_met x paid looped ends k l b j.0 (c + n) t keep st m exits (run E y exits next) sound.0 low (omega arith) (omega arith) le pays j.1 fits kept
        (λ x_ends st1 m1 fits1 kept1. command_met y paid looped ends (k + command_cells x) (l + command_marks x) j.0 q c t keep st1 m1 exits next sound.1 (omega arith) (omega arith) (omega arith) le pays j.2 fits1 kept1
        (λ y_ends. behind (λ both. ⊎_elim x_ends y_ends both)) broke continued back)
        (leaves_more g is h looped c (c + n) t t ends.broke keep exits.broke (omega arith) (omega arith) broke)
        (leaves_more g is h looped c (c + n) t t ends.continued keep exits.continued (omega arith) (omega arith) continued)
        (returned_more g is h leaving keep c (c + n) t t exits.returned (omega arith) (omega arith) back))
    command_met (Turn x) paid looped ends k l b q c t keep st m exits next sound low top small le pays stands fits kept behind broke continued back =
        met_more g is h (suc (c + payable x)) (c + suc (payable x)) st.out m st.turns _ (omega arith)
        (paid_met g is h (c + payable x) t b st m (run E x exits next) fits (λ u fewer fits1.
        let less : u < t = let f = fits.turns in omega arith in
        command_met x true looped ends k l b q c u keep (record st { turns = u }) m exits next sound low top (omega arith) (omega arith) (λ _. omega arith) stands fits1 kept
        (λ x_ends. behind_more g is h c c u t q keep next (omega arith) (omega arith) (behind x_ends))
        (leaves_more g is h looped c c u t ends.broke keep exits.broke (omega arith) (omega arith) broke)
        (leaves_more g is h looped c c u t ends.continued keep exits.continued (omega arith) (omega arith) continued)
        (returned_more g is h leaving keep c c u t exits.returned (omega arith) (omega arith) back)))
    command_met (Set p e) paid looped ends k l b q c t keep st m exits next sound low top small le pays stands fits kept behind broke continued back =
        met_more g is h c (c + 0) st.out m st.turns _ (omega arith)
        (set_met g is h at calls d jump_met piece_met passing_met p e k l b q c t keep st m next sound.1 sound.2 low top (pays sound.0) stands fits kept (behind (λ z. z)))
    command_met (Store p n i e) paid looped ends k l b q c t keep st m exits next sound low top small le pays stands fits kept behind broke continued back =
        met_more g is h c (c + 0) st.out m st.turns _ (omega arith)
        (store_met g is h at calls d jump_met piece_met passing_met p n i e k l b q c t keep st m next sound.1 sound.2 sound.3 low top (pays sound.0) stands fits kept (behind (λ z. z)))
    command_met (Change p n i op e) paid looped ends k l b q c t keep st m exits next sound low top small le pays stands fits kept behind broke continued back =
        met_more g is h c (c + 0) st.out m st.turns _ (omega arith)
        (change_met g is h at calls d jump_met piece_met passing_met p n i op e k l b q c t keep st m next sound.1 sound.2 sound.3 low top (pays sound.0) stands fits kept (behind (λ z. z)))
    command_met (Print e) paid looped ends k l b q c t keep st m exits next sound low top small le pays stands fits kept behind broke continued back =
        met_more g is h c (c + 0) st.out m st.turns _ (omega arith)
        (print_met g is h at calls d jump_met piece_met passing_met e k l b q c t keep st m next sound.1 low top (pays sound.0) stands fits kept (behind (λ z. z)))
    command_met Take paid looped ends k l b q c t keep st m exits next sound low top small le pays stands fits kept behind broke continued back =
        met_more g is h c (c + 0) st.out m st.turns _ (omega arith)
        (take_met g is h at calls d jump_met piece_met passing_met k l b q c t keep st m next low top (pays sound) stands fits kept (behind (λ z. z)))
    command_met (Invoke f xs) paid looped ends k l b q c t keep st m exits next sound low top small le pays stands fits kept behind broke continued back =
        met_more g is h c (c + 0) st.out m st.turns _ (omega arith)
        (invoke_met g is h at calls d jump_met piece_met passing_met f xs k l b q c t keep st m next sound.1 sound.2 low top (pays sound.0) stands fits kept (behind (λ z. z)))
    command_met (If e x) paid looped ends k l b q c t keep st m exits next sound low top small le pays stands fits kept behind broke continued back =
        let inside = l + marks IfFails e in
        let past = inside + command_marks x in
        let i = split g.code b q (condition_steps lay k l (Unless past) (Some e) ++ statements lay leaving ends (k + cells false false e) inside x) _ stands in
        let j = split g.code b i.0 (condition_steps lay k l (Unless past) (Some e)) _ i.1 in
        let n = payable x in
        let last : Behind g is h keep c t i.0 next = past_met g is h c t i.0 q past keep next i.2.0 i.2.1 (behind (λ z. z)) in
        unless_tested (Some e) k l past b j.0 i.0 t keep sound.1 low (omega arith) (pays sound.0) j.1 (is.once i.0 past i.2.0) (c + n) t st m (λ z. either (is_true z) (run E x exits next) next) (omega arith) fits kept
        (λ z holds st2 m2 fits2 kept2. met_hit g is h (c + n) m2 st2 z (run E x exits next) next holds
        (command_met x true looped ends (k + cells false false e) inside j.0 i.0 c t keep st2 m2 exits next sound.2 (omega arith) (omega arith) small le (λ _. pays sound.0) j.2 fits2 kept2 (λ _. last) broke continued back))
        (λ z fails st2 m2 fits2 kept2. met_miss g is h (c + n) m2 st2 z (run E x exits next) next fails
        (behind_more g is h c (c + n) t t i.0 keep next (omega arith) (omega arith) last st2 m2 fits2 kept2))
    command_met (IfElse e x y) paid looped ends k l b q c t keep st m exits next sound low top small le pays stands fits kept behind broke continued back =
        let inside = l + marks IfFails e in
        let other = inside + command_marks x in
        let past = other + 1 + command_marks y in
        let test = condition_steps lay k l (Unless other) (Some e) in
        let first = statements lay leaving ends (k + cells false false e) inside x in
        let second = statements lay leaving ends (k + cells false false e + command_cells x) (other + 1) y in
        let i = split g.code b q (test ++ first ++ Jump past ∷ Mark other ∷ second) _ stands in
        let j = split g.code b i.0 (test ++ first) (Jump past ∷ Mark other ∷ second) i.1 in
        let o = split g.code b j.0 test first j.1 in
        let n = payable x + payable y in
        let last : Behind g is h keep c t i.0 next = past_met g is h c t i.0 q past keep next i.2.0 i.2.1 (behind (λ z. z)) in
        unless_tested (Some e) k l other b o.0 (suc j.0) t keep sound.1 low (omega arith) (pays sound.0) o.1 (is.once (suc j.0) other j.2.1.0) (c + n) t st m (λ z. either (is_true z) (run E x exits next) (run E y exits next)) (omega arith) fits kept
        (λ z holds st2 m2 fits2 kept2. met_hit g is h (c + n) m2 st2 z (run E x exits next) (run E y exits next) holds
        (met_more g is h (c + payable x) (c + n) st2.out m2 st2.turns _ (omega arith)
        (command_met x true looped ends (k + cells false false e) inside o.0 j.0 c t keep st2 m2 exits next sound.2 (omega arith) (omega arith) (omega arith) le (λ _. pays sound.0) o.2 fits2 kept2
        (λ _. jump_met_behind g is h c t j.0 i.0 past keep next j.2.0 (is.once i.0 past i.2.0) last) broke continued back)))
        (λ z fails st2 m2 fits2 kept2. met_miss g is h (c + n) m2 st2 z (run E x exits next) (run E y exits next) fails
        (met_more g is h (c + payable y) (c + n) st2.out m2 st2.turns _ (omega arith)
        (met_mark g is (c + payable y) st2.turns st2.out m2 (suc j.0) other _ fits2.place j.2.1.0
        (command_met y true looped ends (k + cells false false e + command_cells x) (other + 1) (suc (suc j.0)) i.0 c t keep st2 (on m2) exits next sound.3 (omega arith) (omega arith) (omega arith) le (λ _. pays sound.0) j.2.1.1
        (fits_on g is t st2 m2 (suc j.0) (suc (suc j.0)) refl fits2) (kept_cells g is h keep m2 (on m2) refl kept2) (λ _. last) broke continued back))))
    command_met (While e x) paid looped ends k l b q c t keep st m exits next sound low top small le pays stands fits kept behind broke continued back =
        let inside = l + 1 + marks IfFails e in
        let past = inside + command_marks x in
        let test = condition_steps lay k (l + 1) (Unless past) (Some e) in
        let body = statements lay leaving (record { broke = past; continued = l }) (k + cells false false e) inside x in
        let i = split g.code (suc b) q (test ++ body) (Jump l ∷ Mark past ∷ []) stands.1 in
        let j = split g.code (suc b) i.0 test body i.1 in
        let head = is.once b l stands.0 in
        let mark = is.once (suc i.0) past i.2.1.0 in
        let last : Behind g is h keep c t (suc i.0) next = past_met g is h c t (suc i.0) q past keep next i.2.1.0 i.2.1.1 (behind (λ z. z)) in
        met_more g is h c (c + suc (payable x)) st.out m st.turns _ (omega arith)
        (loop_met g is h b j.0 (suc i.0) c l (payable x) t keep (value E e) (source.looped (run E x) exits next) next stands.0 small
        (unless_tested (Some e) k (l + 1) past (suc b) j.0 (suc i.0) t keep sound.1 low (omega arith) (pays sound.0) j.1 mark)
        last
        (λ u st2 m2 more less fits2 kept2 at_head out_of.
        command_met x true true (record { broke = past; continued = l }) (k + cells false false e) inside j.0 i.0 c u keep st2 m2 (record exits { broke = next; continued = more }) more sound.2 (omega arith) (omega arith) (omega arith) (omega arith) (λ _. let lt = pays sound.0 in omega arith) j.2 fits2 kept2
        (λ _. jump_met_behind g is h c u i.0 b l keep more i.2.0 head at_head)
        (λ _. (suc i.0, mark, out_of)) (λ _. (b, head, at_head)) (returned_more g is h leaving keep c c u t exits.returned (omega arith) less back))
        (suc st.turns) st m (omega arith) fits kept)
    command_met (Do x e) paid looped ends k l b q c t keep st m exits next sound low top small le pays stands fits kept behind broke continued back =
        let test = l + 1 + command_marks x in
        let past = test + 1 + marks IfHolds e in
        let body = statements lay leaving (record { broke = past; continued = test }) k (l + 1) x in
        let steps = (piece lay (k + command_cells x) (test + 1) false (When l) e).steps in
        let i = split g.code (suc b) q (body ++ Mark test ∷ steps) (Mark past ∷ []) stands.1 in
        let j = split g.code (suc b) i.0 body (Mark test ∷ steps) i.1 in
        let head = is.once b l stands.0 in
        let last : Behind g is h keep c t i.0 next = past_met g is h c t i.0 q past keep next i.2.0 i.2.1 (behind (λ z. z)) in
        met_more g is h c (c + suc (payable x)) st.out m st.turns _ (omega arith)
        (do_met g is h b j.0 i.0 c l test (payable x) t keep (value E e) (source.looped (run E x) exits next) next stands.0 j.2.0 small
        (when_tested e (k + command_cells x) (test + 1) l (suc j.0) i.0 b t keep sound.1 (omega arith) (omega arith) (pays sound.0) j.2.1 head)
        last
        (λ u st2 m2 more less fits2 kept2 at_test out_of.
        command_met x true true (record { broke = past; continued = test }) k (l + 1) (suc b) j.0 (suc c) u keep st2 m2 (record exits { broke = next; continued = more }) more sound.2 low (omega arith) (omega arith) (omega arith) (λ _. let lt = pays sound.0 in omega arith) j.1 fits2 kept2
        (λ _. at_test) (λ _. (i.0, is.once i.0 past i.2.0, out_of)) (λ _. (j.0, is.once j.0 test j.2.0, at_test)) (returned_more g is h leaving keep c (suc c) u t exits.returned (omega arith) less back))
        st m fits kept)
    command_met (For e step x) paid looped ends k l b q c t keep st m exits next sound low top small le pays stands fits kept behind broke continued back =
        let inside = l + 1 + condition_marks e in
        let nx = inside + command_marks x in
        let past = nx + 1 + command_marks step in
        let test = condition_steps lay k (l + 1) (Unless past) e in
        let body = statements lay leaving (record { broke = past; continued = nx }) (k + condition_cells e) inside x in
        let steps = statements lay leaving ends (k + condition_cells e + command_cells x) (nx + 1) step in
        let i = split g.code (suc b) q (test ++ body ++ Mark nx ∷ steps) (Jump l ∷ Mark past ∷ []) stands.1 in
        let j = split g.code (suc b) i.0 (test ++ body) (Mark nx ∷ steps) i.1 in
        let o = split g.code (suc b) j.0 test body j.1 in
        let n = payable step in
        let head = is.once b l stands.0 in
        let mark = is.once (suc i.0) past i.2.1.0 in
        let last : Behind g is h keep c t (suc i.0) next = past_met g is h c t (suc i.0) q past keep next i.2.1.0 i.2.1.1 (behind (λ z. z)) in
        met_more g is h c (c + suc (n + payable x)) st.out m st.turns _ (omega arith)
        (loop_met g is h b o.0 (suc i.0) c l (n + payable x) t keep (condition E e) (λ more. source.looped (run E x) exits next (run E step exits more)) next stands.0 small
        (unless_tested e k (l + 1) past (suc b) o.0 (suc i.0) t keep sound.1 low (omega arith) (pays sound.0) o.1 mark)
        last
        (λ u st2 m2 more less fits2 kept2 at_head out_of.
        let on_step : Behind g is h keep (c + n) u j.0 (run E step exits more) = λ st3 m3 fits3 kept3.
        met_mark g is (c + n) st3.turns st3.out m3 j.0 nx _ fits3.place j.2.0
        (command_met step true false ends (k + condition_cells e + command_cells x) (nx + 1) (suc j.0) i.0 c u keep st3 (on m3) exits more sound.2 (omega arith) (omega arith) (omega arith) (omega arith) (λ _. let lt = pays sound.0 in omega arith) j.2.1
        (fits_on g is u st3 m3 j.0 (suc j.0) refl fits3) (kept_cells g is h keep m3 (on m3) refl kept3)
        (λ _. jump_met_behind g is h c u i.0 b l keep more i.2.0 head at_head)
        (no_loop g is h c u ends.broke keep exits.broke) (no_loop g is h c u ends.continued keep exits.continued) (returned_more g is h leaving keep c c u t exits.returned (omega arith) less back)) in
        met_more g is h (c + n + payable x) (c + (n + payable x)) st2.out m2 st2.turns _ (omega arith)
        (command_met x true true (record { broke = past; continued = nx }) (k + condition_cells e) inside o.0 j.0 (c + n) u keep st2 m2 (record exits { broke = next; continued = run E step exits more }) (run E step exits more) sound.3 (omega arith) (omega arith) (omega arith) (omega arith) (λ _. let lt = pays sound.0 in omega arith) o.2 fits2 kept2
        (λ _. on_step) (λ _. (suc i.0, mark, behind_more g is h c (c + n) u u (suc i.0) keep next (omega arith) (omega arith) out_of)) (λ _. (j.0, is.once j.0 nx j.2.0, on_step))
        (returned_more g is h leaving keep c (c + n) u t exits.returned (omega arith) less back)))
        (suc st.turns) st m (omega arith) fits kept)
    command_met Break paid looped ends k l b q c t keep st m exits next sound low top small le pays stands fits kept behind broke continued back =
        let z = broke sound in
        met_more g is h c (c + 0) st.out m st.turns _ (omega arith) (jump_met_behind g is h c t b z.0 ends.broke keep exits.broke stands.0 z.1 z.2 st m fits kept)
    command_met Continue paid looped ends k l b q c t keep st m exits next sound low top small le pays stands fits kept behind broke continued back =
        let z = continued sound in
        met_more g is h c (c + 0) st.out m st.turns _ (omega arith) (jump_met_behind g is h c t b z.0 ends.continued keep exits.continued stands.0 z.1 z.2 st m fits kept)
    command_met (Return None) paid looped ends k l b q c t keep st m exits next sound low top small le pays stands fits kept behind broke continued back =
        met_more g is h c (c + 0) st.out m st.turns _ (omega arith) (back.plain sound.1 b q stands st m fits kept)
    command_met (Return (Some e)) paid looped ends k l b q c t keep st m exits next sound low top small le pays stands fits kept behind broke continued back =
        let a = piece lay k l false Value e in
        let j = split g.code b q a.steps (leave_with leaving a.tree) stands in
        met_more g is h c (c + 0) st.out m st.turns _ (omega arith)
        (piece_met e false Value k l b j.0 0 c t st m exits.returned sound.1.1 low top j.1 tt (pays sound.0) fits
        (λ x st2 m2 x_number fits2 same2 worth2. back.worth sound.1.0 x a.tree (k + cells false true e) j.0 q j.2 st2 m2 fits2 (kept_same g is h at (has_call e) k keep m m2 low same2 kept) x_number worth2))
