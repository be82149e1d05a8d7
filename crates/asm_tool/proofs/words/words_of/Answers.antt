use Rattle.std.proofs.Common.{◌≤◌, rules, refl, length, map, subst, [], ◌∷◌, sym, append-nil}
use Rattle.asm_lines.specs.Seen.{seen, seen_content}
use Rattle.asm_text.specs.Source.{labels}
use Rattle.nml_tree.specs.Table.{table}
use Rattle.asm_tool.specs.Words.{IsLineWord}
use Rattle.asm_tool.proofs.SeenLines.{ends, stands, left}
use Rattle.asm_tool.proofs.Walking.{goes_on, clashes, fails_here, all_give, first_conflict}
use Rattle.asm_tool.proofs.words.words_of.Goals as goal
use Rattle.asm_tool.proofs.words.words_of.Goals.{in-Nothing, in-Word+in_ok-push-in-Word, in-Conflict}

pub returns-in-NoMatch : goal.returns-in-NoMatch
returns-in-NoMatch c =
    let t = table c.args.g.now.desc in
    let ls = map seen c.args.lines.now in
    let l = c.line-item.result in
    fails_here t ls c.loop-line.line-index c.loop-line.number c.loop-line.words.items c.loop-line.conflict c.loop-line.invariant (seen l)
    (stands c.args.lines.now c.loop-line.line-index l c.loop-line-test.true c.line-item.is)
    (subst (IsLineWord t (labels ls) (seen_content l.content)) c.in-NoMatch.is (c.in_ok-line_word.ensures ls c.requires.known)) _ refl

pub loop-line-preserved : goal.loop-line-preserved
loop-line-preserved c =
    let t = table c.args.g.now.desc in
    let ls = map seen c.args.lines.now in
    let l = c.line-item.result in
    let at = stands c.args.lines.now c.loop-line.line-index l c.loop-line-test.true c.line-item.is in
    let behind = left c.args.lines.now c.loop-line.line-index l c.loop-line-test.true c.line-item.is in
    let gives : IsLineWord t (labels ls) (seen_content l.content) c.in_ok-line_word.field-0 = c.in_ok-line_word.ensures ls c.requires.known in
    let told = c.is_whole.ensures.checked.by_tokens in
    let i = c.loop-line.line-index in
    let number = c.loop-line.number in
    let words = c.loop-line.words.items in
    let found = c.loop-line.conflict in
    elim c.match-branch-2.branch [
      | in-Nothing w ↦
          rw (w.words-is, w.conflict-is) (goes_on t ls i number words found c.loop-line.invariant (seen l) at told [] words _ _ behind
          (subst (IsLineWord t (labels ls) (seen_content l.content)) w.in-Nothing.is gives) (sym (append-nil words)) refl refl)
      | in-Word+in_ok-push-in-Word w ↦
          rw (w.words-is, w.conflict-is) (goes_on t ls i number words found c.loop-line.invariant (seen l) at told (w.in-Word.word ∷ []) _ _ _ behind
          (subst (IsLineWord t (labels ls) (seen_content l.content)) w.in-Word.is gives) w.in_ok-push-in-Word.ensures.items refl refl)
      | in-Conflict w ↦
          rw (w.words-is, w.conflict-is) (clashes t ls i number words found c.loop-line.invariant (seen l) at
          (subst (IsLineWord t (labels ls) (seen_content l.content)) w.in-Conflict.is gives) _ _ _ refl refl w.or-conflict.ensures)
    ]

pub returns-in-None : goal.returns-in-None
returns-in-None c =
    let end : length c.args.lines.now ≤ c.loop-line.line-index = search rules in
    all_give _ _ _ _ _ _ c.loop-line.invariant (ends c.args.lines.now c.loop-line.line-index end) c.in-None.is

pub returns-in-Some : goal.returns-in-Some
returns-in-Some c =
    let end : length c.args.lines.now ≤ c.loop-line.line-index = search rules in
    first_conflict _ _ _ _ _ _ c.loop-line.invariant (ends c.args.lines.now c.loop-line.line-index end) c.in-Some.line c.in-Some.is
