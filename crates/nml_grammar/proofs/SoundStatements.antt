-- What is read of statements is a block that is spelled so, is not too deep, and ends where no statement begins.
use Rattle.std.proofs.Common.{◌≡◌, ℕ, zero, suc, ◌-◌, ◌<◌, ◌≤◌, List, [], ◌∷◌, ◌++◌, Option, Some, None, refl, ap, sym, ◌∙◌, subst, arith}
use Rattle.std.specs.Prelude.{codes}
use Rattle.nml_tree.specs.declared.names.Name.{Name}
use Rattle.readings.specs.Symbol.{Symbol}
use Rattle.nml_tree.specs.Formula.{Formula}
use Rattle.nml_tree.specs.Block.{Block, Index, Done, Assign, Part, Halt, If, IfElse}
use Rattle.nml_tree.specs.Spell.{formula_spelling, block_spelling}
use Rattle.nml_tree.specs.Level.{IsLeveled, IsLeveledBlock}
use Rattle.nml_tree.specs.Depth.{depth, block_depth}
use Rattle.readings.specs.Reading.{Found, looked_up, behind, mark}
use Rattle.nml_grammar.specs.Reading.{climb}
use Rattle.nml_grammar.specs.ReadingStatements.{Start, Naming, Halting, Branching, starts, start_of, start, BeginsNone, Blocks, part, assignment, place, naming, halting, branch_end, branching, statement, block_from, statements}
use Rattle.readings.proofs.Symbols.{some_is, none_is_none, Each, entry, behind_is, mark_is}
use Rattle.nml_grammar.proofs.Flat.{one_node}
use Rattle.readings.proofs.After.{found_is, after_found, room_found}
use Rattle.nml_grammar.proofs.Sound.{sound}
use Rattle.nml_grammar.proofs.FlatStatements.{flat-Assign, flat-Assign_at, flat-Halt, flat-If, flat-IfElse}

-- ---- what a statement begins with

-- the symbol
abbrev pub start_symbol : Start → Symbol
start_symbol (Naming n) = Symbol.Named n.at n.text
start_symbol (Halting at) = Symbol.Fixed at (codes "halt")
start_symbol (Branching at) = Symbol.Fixed at (codes "if")

-- those of the keywords
words : Each (λ text word. (at : ℕ) → Symbol.Fixed at text ≡ start_symbol (word at)) starts
words = (λ at. refl, (λ at. refl, tt))

begins_so : (at : ℕ) (text : List ℕ) (ss : List Symbol) (o : Option (ℕ → Start)) (x : Start) (rest : List Symbol) → looked_up starts text ≡ o → start_of at ss o ≡ Some (x, rest) → Symbol.Fixed at text ∷ ss ≡ start_symbol x ∷ rest
begins_so at text ss None x rest i e = none_is_none (x, rest) e
begins_so at text ss (Some word) x rest i e =
    ap (λ y. y ∷ ss) (entry (λ text word. (at : ℕ) → Symbol.Fixed at text ≡ start_symbol (word at)) starts text word words i at)
    ∙ ap (λ (z : Start × List Symbol). start_symbol z.0 ∷ z.1) (some_is (word at, ss) (x, rest) e)

-- the one in front
pub start_is : (ss : List Symbol) (x : Start) (rest : List Symbol) → start ss ≡ Some (x, rest) → ss ≡ start_symbol x ∷ rest
start_is [] x rest e = none_is_none (x, rest) e
start_is (Symbol.Fixed at text ∷ ss) x rest e = begins_so at text ss (looked_up starts text) x rest refl e
start_is (Symbol.Named at text ∷ ss) x rest e = ap (λ (z : Start × List Symbol). start_symbol z.0 ∷ z.1) (some_is (Naming (record { at = at; text = text }), ss) (x, rest) e)
start_is (Symbol.Number at value ∷ ss) x rest e = none_is_none (x, rest) e
start_is (Symbol.Quoted at text ∷ ss) x rest e = none_is_none (x, rest) e

-- ---- what is found

-- a block before a rest
pub record Fits (room : ℕ) (ss : List Symbol) (b : Block) (rest : List Symbol) : Type 0 where
  pub leveled : IsLeveledBlock b
  pub shallow : block_depth b ≤ room
  pub spelled : ss ≡ block_spelling b ++ rest

-- as long as it goes
pub record SoundBlock (room : ℕ) (ss : List Symbol) (b : Block) (rest : List Symbol) : Type 0 where
  pub fits : Fits room ss b rest
  pub ends : BeginsNone rest

-- a statement, which is put before what fits behind it
abbrev SoundStatement : ℕ → List Symbol → (Block → Block) → List Symbol → Type 0
SoundStatement room ss put s = (b : Block) (rest : List Symbol) → Fits room s b rest → Fits room ss (put b) rest

-- ---- each kind of statement

-- what the statements within are read as
abbrev IsSoundBlocks : Blocks → Type 0
IsSoundBlocks blocks = (room : ℕ) (ss : List Symbol) (b : Block) (rest : List Symbol) → 1 ≤ room → blocks room ss ≡ Found b rest → SoundBlock room ss b rest

part_sound : (room : ℕ) (n : Name) (dot : ℕ) (ss : List Symbol) (put : Block → Block) (s : List Symbol) → 1 ≤ room → part n dot ss ≡ Found put s
    → SoundStatement room (Symbol.Named n.at n.text ∷ Symbol.Fixed dot (codes ".") ∷ ss) put s
part_sound room n dot ss put s le e =
    let a = after_found (mark (codes "action") ss) _ put s e in
    let q = after_found (mark (codes ";") a.1) _ put s a.3 in
    found_is (SoundStatement room (Symbol.Named n.at n.text ∷ Symbol.Fixed dot (codes ".") ∷ ss)) (Part n dot a.0 q.0) put q.1 s q.3
    (λ b rest h. record {
      leveled = h.leveled;
      shallow = omega (arith, le, h.shallow);
      spelled = ap (λ u. Symbol.Named n.at n.text ∷ Symbol.Fixed dot (codes ".") ∷ u) (mark_is (codes "action") ss a.0 a.1 a.2)
          ∙ ap (λ u. Symbol.Named n.at n.text ∷ Symbol.Fixed dot (codes ".") ∷ Symbol.Fixed a.0 (codes "action") ∷ u) (mark_is (codes ";") a.1 q.0 q.1 q.2)
          ∙ ap (λ u. Symbol.Named n.at n.text ∷ Symbol.Fixed dot (codes ".") ∷ Symbol.Fixed a.0 (codes "action") ∷ Symbol.Fixed q.0 (codes ";") ∷ u) h.spelled;
    })

-- `= e ;` behind a place
record Assigned (room : ℕ) (n : Name) (i : Index) (ss : List Symbol) (put : Block → Block) (s : List Symbol) : Type 0 where
  at : ℕ
  e : Formula
  semicolon : ℕ
  is : put ≡ Assign n i at e semicolon
  leveled : IsLeveled e
  shallow : depth e < room
  spelled : ss ≡ Symbol.Fixed at (codes "=") ∷ (formula_spelling e ++ (Symbol.Fixed semicolon (codes ";") ∷ s))

assignment_sound : (n_calls room : ℕ) (n : Name) (i : Index) (ss : List Symbol) (put : Block → Block) (s : List Symbol) → assignment (climb n_calls) room n i ss ≡ Found put s → Assigned room n i ss put s
assignment_sound m room n i ss put s e =
    let has = room_found room ss _ put s e in
    let a = after_found (mark (codes "=") ss) _ put s has.1 in
    let b = after_found (climb m 0 (room - 1) a.1) _ put s a.3 in
    let q = after_found (mark (codes ";") b.1) _ put s b.3 in
    let x = sound m 0 (room - 1) a.1 b.0 b.1 (omega arith) (omega (arith, has.0)) b.2 in
    found_is (Assigned room n i ss) (Assign n i a.0 b.0 q.0) put q.1 s q.3
    (record {
      at = a.0;
      e = b.0;
      semicolon = q.0;
      is = refl;
      leveled = x.leveled;
      shallow = omega (arith, has.0, x.shallow);
      spelled = mark_is (codes "=") ss a.0 a.1 a.2
          ∙ ap (λ u. Symbol.Fixed a.0 (codes "=") ∷ u) (x.spelled ∙ ap (λ u. formula_spelling b.0 ++ u) (mark_is (codes ";") b.1 q.0 q.1 q.2));
    })

-- what begins with a name
place_sound : (m room : ℕ) (n : Name) (ss : List Symbol) (o : Option (ℕ × List Symbol)) (put : Block → Block) (s : List Symbol) → behind (codes "[") ss ≡ o → place (climb m) room n ss o ≡ Found put s
    → SoundStatement room (Symbol.Named n.at n.text ∷ ss) put s
place_sound m room n ss None put s i e b rest h =
    let a = assignment_sound m room n None ss put s e in
    subst (λ (p : Block → Block). Fits room (Symbol.Named n.at n.text ∷ ss) (p b) rest) (sym a.is)
    (record {
      leveled = (tt, a.leveled, h.leveled);
      shallow = omega (arith, a.shallow, h.shallow, one_node a.e);
      spelled = ap (λ u. Symbol.Named n.at n.text ∷ u) a.spelled
          ∙ ap (λ u. Symbol.Named n.at n.text ∷ Symbol.Fixed a.at (codes "=") ∷ (formula_spelling a.e ++ (Symbol.Fixed a.semicolon (codes ";") ∷ u))) h.spelled
          ∙ sym (flat-Assign n a.at a.e a.semicolon b rest);
    })
place_sound m room n ss (Some (p, inside)) put s i e b rest h =
    let has = room_found (room - 1) ss _ put s e in
    let c = after_found (climb m 0 (room - 1 - 1) inside) _ put s has.1 in
    let q = after_found (mark (codes "]") c.1) _ put s c.3 in
    let x = sound m 0 (room - 1 - 1) inside c.0 c.1 (omega arith) (omega (arith, has.0)) c.2 in
    let a = assignment_sound m room n (Some (p, c.0, q.0)) q.1 put s q.3 in
    subst (λ (p : Block → Block). Fits room (Symbol.Named n.at n.text ∷ ss) (p b) rest) (sym a.is)
    (record {
      leveled = (x.leveled, a.leveled, h.leveled);
      shallow = omega (arith, has.0, x.shallow, a.shallow, h.shallow);
      spelled = ap (λ u. Symbol.Named n.at n.text ∷ u) (behind_is (codes "[") ss p inside i)
          ∙ ap (λ u. Symbol.Named n.at n.text ∷ Symbol.Fixed p (codes "[") ∷ u) x.spelled
          ∙ ap (λ u. Symbol.Named n.at n.text ∷ Symbol.Fixed p (codes "[") ∷ (formula_spelling c.0 ++ u)) (mark_is (codes "]") c.1 q.0 q.1 q.2 ∙ ap (λ u. Symbol.Fixed q.0 (codes "]") ∷ u) a.spelled)
          ∙ ap (λ u. Symbol.Named n.at n.text ∷ Symbol.Fixed p (codes "[") ∷ (formula_spelling c.0 ++ (Symbol.Fixed q.0 (codes "]") ∷ Symbol.Fixed a.at (codes "=") ∷ (formula_spelling a.e ++ (Symbol.Fixed a.semicolon (codes ";") ∷ u))))) h.spelled
          ∙ sym (flat-Assign_at n p c.0 q.0 a.at a.e a.semicolon b rest);
    })

naming_sound : (m room : ℕ) (n : Name) (ss : List Symbol) (o : Option (ℕ × List Symbol)) (put : Block → Block) (s : List Symbol) → 1 ≤ room → behind (codes ".") ss ≡ o → naming (climb m) room n ss o ≡ Found put s
    → SoundStatement room (Symbol.Named n.at n.text ∷ ss) put s
naming_sound m room n ss None put s le i e = place_sound m room n ss (behind (codes "[") ss) put s refl e
naming_sound m room n ss (Some (dot, inside)) put s le i e =
    subst (λ u. SoundStatement room (Symbol.Named n.at n.text ∷ u) put s) (sym (behind_is (codes ".") ss dot inside i)) (part_sound room n dot inside put s le e)

-- and what begins with a keyword
halting_sound : (m room at : ℕ) (ss : List Symbol) (put : Block → Block) (s : List Symbol) → 1 < room → halting (climb m) room at ss ≡ Found put s → SoundStatement room (Symbol.Fixed at (codes "halt") ∷ ss) put s
halting_sound m room at ss put s lt e =
    let p = after_found (mark (codes "(") ss) _ put s e in
    let a = after_found (climb m 0 (room - 1) p.1) _ put s p.3 in
    let q = after_found (mark (codes ")") a.1) _ put s a.3 in
    let c = after_found (mark (codes ";") q.1) _ put s q.3 in
    let x = sound m 0 (room - 1) p.1 a.0 a.1 (omega arith) (omega (arith, lt)) a.2 in
    found_is (SoundStatement room (Symbol.Fixed at (codes "halt") ∷ ss)) (Halt at p.0 a.0 q.0 c.0) put c.1 s c.3
    (λ b rest h. record {
      leveled = (x.leveled, h.leveled);
      shallow = omega (arith, lt, x.shallow, h.shallow);
      spelled = ap (λ u. Symbol.Fixed at (codes "halt") ∷ u) (mark_is (codes "(") ss p.0 p.1 p.2)
          ∙ ap (λ u. Symbol.Fixed at (codes "halt") ∷ Symbol.Fixed p.0 (codes "(") ∷ u) x.spelled
          ∙ ap (λ u. Symbol.Fixed at (codes "halt") ∷ Symbol.Fixed p.0 (codes "(") ∷ (formula_spelling a.0 ++ u)) (mark_is (codes ")") a.1 q.0 q.1 q.2 ∙ ap (λ u. Symbol.Fixed q.0 (codes ")") ∷ u) (mark_is (codes ";") q.1 c.0 c.1 c.2 ∙ ap (λ u. Symbol.Fixed c.0 (codes ";") ∷ u) h.spelled))
          ∙ sym (flat-Halt at p.0 a.0 q.0 c.0 b rest);
    })

module _ (m : ℕ) (blocks : Blocks) (all_sound : IsSoundBlocks blocks) where
  -- what goes on from the statements behind `then`
  branch_sound : (room at : ℕ) (c : Formula) (t : ℕ) (xs : Block) (here ss : List Symbol) (o : Option (ℕ × List Symbol)) (put : Block → Block) (s : List Symbol) → 1 < room → IsLeveled c → depth c < room
      → Fits (room - 1) here xs ss → behind (codes "else") ss ≡ o → branch_end blocks room at c t xs ss o ≡ Found put s
      → SoundStatement room (Symbol.Fixed at (codes "if") ∷ (formula_spelling c ++ (Symbol.Fixed t (codes "then") ∷ here))) put s
  branch_sound room at c t xs here ss None put s lt leveled shallow x i e =
      let f = after_found (mark (codes "endif") ss) _ put s e in
      let q = after_found (mark (codes ";") f.1) _ put s f.3 in
      found_is (SoundStatement room (Symbol.Fixed at (codes "if") ∷ (formula_spelling c ++ (Symbol.Fixed t (codes "then") ∷ here)))) (If at c t xs f.0 q.0) put q.1 s q.3
      (λ b rest h. record {
        leveled = (leveled, x.leveled, h.leveled);
        shallow = omega (arith, lt, shallow, x.shallow, h.shallow);
        spelled = ap (λ u. Symbol.Fixed at (codes "if") ∷ (formula_spelling c ++ (Symbol.Fixed t (codes "then") ∷ u))) x.spelled
            ∙ ap (λ u. Symbol.Fixed at (codes "if") ∷ (formula_spelling c ++ (Symbol.Fixed t (codes "then") ∷ (block_spelling xs ++ u))))
            (mark_is (codes "endif") ss f.0 f.1 f.2 ∙ ap (λ u. Symbol.Fixed f.0 (codes "endif") ∷ u) (mark_is (codes ";") f.1 q.0 q.1 q.2 ∙ ap (λ u. Symbol.Fixed q.0 (codes ";") ∷ u) h.spelled))
            ∙ sym (flat-If at c t xs f.0 q.0 b rest);
      })
  branch_sound room at c t xs here ss (Some (other, inside)) put s lt leveled shallow x i e =
      let a = after_found (blocks (room - 1) inside) _ put s e in
      let f = after_found (mark (codes "endif") a.1) _ put s a.3 in
      let q = after_found (mark (codes ";") f.1) _ put s f.3 in
      let y = (all_sound (room - 1) inside a.0 a.1 (omega (arith, lt)) a.2).fits in
      found_is (SoundStatement room (Symbol.Fixed at (codes "if") ∷ (formula_spelling c ++ (Symbol.Fixed t (codes "then") ∷ here)))) (IfElse at c t xs other a.0 f.0 q.0) put q.1 s q.3
      (λ b rest h. record {
        leveled = (leveled, x.leveled, y.leveled, h.leveled);
        shallow = omega (arith, lt, shallow, x.shallow, y.shallow, h.shallow);
        spelled = ap (λ u. Symbol.Fixed at (codes "if") ∷ (formula_spelling c ++ (Symbol.Fixed t (codes "then") ∷ u))) x.spelled
            ∙ ap (λ u. Symbol.Fixed at (codes "if") ∷ (formula_spelling c ++ (Symbol.Fixed t (codes "then") ∷ (block_spelling xs ++ u))))
            (behind_is (codes "else") ss other inside i
            ∙ ap (λ u. Symbol.Fixed other (codes "else") ∷ u) (y.spelled ∙ ap (λ u. block_spelling a.0 ++ u)
            (mark_is (codes "endif") a.1 f.0 f.1 f.2 ∙ ap (λ u. Symbol.Fixed f.0 (codes "endif") ∷ u) (mark_is (codes ";") f.1 q.0 q.1 q.2 ∙ ap (λ u. Symbol.Fixed q.0 (codes ";") ∷ u) h.spelled))))
            ∙ sym (flat-IfElse at c t xs other a.0 f.0 q.0 b rest);
      })

  branching_sound : (room at : ℕ) (ss : List Symbol) (put : Block → Block) (s : List Symbol) → 1 < room → branching (climb m) blocks room at ss ≡ Found put s → SoundStatement room (Symbol.Fixed at (codes "if") ∷ ss) put s
  branching_sound room at ss put s lt e =
      let c = after_found (climb m 0 (room - 1) ss) _ put s e in
      let t = after_found (mark (codes "then") c.1) _ put s c.3 in
      let x = after_found (blocks (room - 1) t.1) _ put s t.3 in
      let g = sound m 0 (room - 1) ss c.0 c.1 (omega arith) (omega (arith, lt)) c.2 in
      let h = (all_sound (room - 1) t.1 x.0 x.1 (omega (arith, lt)) x.2).fits in
      let same : Symbol.Fixed at (codes "if") ∷ ss ≡ Symbol.Fixed at (codes "if") ∷ (formula_spelling c.0 ++ (Symbol.Fixed t.0 (codes "then") ∷ t.1)) =
      ap (λ u. Symbol.Fixed at (codes "if") ∷ u) (g.spelled ∙ ap (λ u. formula_spelling c.0 ++ u) (mark_is (codes "then") c.1 t.0 t.1 t.2)) in
      subst (λ u. SoundStatement room u put s) (sym same)
      (branch_sound room at c.0 t.0 x.0 t.1 x.1 (behind (codes "else") x.1) put s lt g.leveled (omega (arith, lt, g.shallow)) h refl x.3)

  statement_sound : (room : ℕ) (here : List Symbol) (x : Start) (ss : List Symbol) (put : Block → Block) (s : List Symbol) → 1 ≤ room → statement (climb m) blocks room here x ss ≡ Found put s → SoundStatement room (start_symbol x ∷ ss) put s
  statement_sound room here (Naming n) ss put s le e = naming_sound m room n ss (behind (codes ".") ss) put s le refl e
  statement_sound room here (Halting at) ss put s le e = let has = room_found room here _ put s e in halting_sound m room at ss put s has.0 has.1
  statement_sound room here (Branching at) ss put s le e = let has = room_found room here _ put s e in branching_sound room at ss put s has.0 has.1

  -- the statement in front, and those behind it
  block_from_sound : (room : ℕ) (here : List Symbol) (o : Option (Start × List Symbol)) (b : Block) (rest : List Symbol) → 1 ≤ room → start here ≡ o → block_from (climb m) blocks room here o ≡ Found b rest → SoundBlock room here b rest
  block_from_sound room here None b rest le i e =
      found_is (SoundBlock room here) Done b here rest e (record { fits = record { leveled = tt; shallow = omega arith; spelled = refl }; ends = i })
  block_from_sound room here (Some (x, ss)) b rest le i e =
      let first = after_found (statement (climb m) blocks room here x ss) _ b rest e in
      let others = after_found (blocks room first.1) _ b rest first.3 in
      let behind_it = all_sound room first.1 others.0 others.1 le others.2 in
      let whole = statement_sound room here x ss first.0 first.1 le first.2 others.0 others.1 behind_it.fits in
      found_is (SoundBlock room here) (first.0 others.0) b others.1 rest others.3
      (record { fits = subst (λ u. Fits room u (first.0 others.0) others.1) (sym (start_is here x ss i)) whole; ends = behind_it.ends })

-- what is found is a block of leveled statements, no deeper than there is room, spelled so, and as long as one begins
pub sound_block : (n room : ℕ) (ss : List Symbol) (b : Block) (rest : List Symbol) → 1 ≤ room → statements n room ss ≡ Found b rest → SoundBlock room ss b rest
sound_block zero room ss b rest le e = absurd (cc)
sound_block (suc n) room ss b rest le e = block_from_sound n (statements n) (sound_block n) room ss (start ss) b rest le refl e
