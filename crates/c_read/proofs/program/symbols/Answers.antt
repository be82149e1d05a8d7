-- The bytes have tokens, of which programs have each, or a fault.
use Rattle.std.proofs.Common.{◌≡◌, ◌∙◌, [], sym, subst, map, arith}
use Rattle.nml_lex.specs.Lexed.{lexeme_of}
use Rattle.c_lex.specs.Lexed.{HasLexemes, IsLexFault, IsStuckAt}
use Rattle.c_grammar.specs.Trees.{outside_places, IsReadFault}
use Rattle.c_read.proofs.ReadBytes.{sound_tokens, stuck_within}
use Rattle.c_read.proofs.program.symbols.Goals as goal

pub no_token-requires : goal.no_token-requires
no_token-requires c =
    omega (arith, c.requires, stuck_within c.args.bytes.now c.in-Err-Stuck.at (subst (IsLexFault c.args.bytes.now) c.in-Err-Stuck.field-0-is c.in-Err-Stuck.ensures))

pub returns-in-Err-Stuck : goal.returns-in-Err-Stuck
returns-in-Err-Stuck c =
    subst (IsReadFault c.args.bytes.now) (sym c.no_token.ensures)
    (subst (IsStuckAt c.args.bytes.now) (sym c.in-Err-Stuck.at-is) (subst (IsLexFault c.args.bytes.now) c.in-Err-Stuck.field-0-is c.in-Err-Stuck.ensures))

pub signs-requires : goal.signs-requires
signs-requires c =
    let same : c.deref.result.now ≡ c.deref-2.result.now = c.deref.ensures.value ∙ sym c.deref-2.ensures.value in
    sound_tokens c.args.bytes.now c.deref-2.result.now (subst (λ ts. HasLexemes c.args.bytes.now (map lexeme_of ts)) (sym c.deref-2.ensures.value) c.in-Ok.ensures)
    (subst (λ ts. outside_places (map lexeme_of ts) ≡ []) same c.in_default.ensures)

pub returns : goal.returns
returns c =
    record {
      tokens = map lexeme_of c.deref-2.result.now;
      has = subst (λ ts. HasLexemes c.args.bytes.now (map lexeme_of ts)) (sym c.deref-2.ensures.value) c.in-Ok.ensures;
      inside = subst (λ ts. outside_places (map lexeme_of ts) ≡ []) (c.deref.ensures.value ∙ sym c.deref-2.ensures.value) c.in_default.ensures;
      are = c.in_ok-signs.ensures;
    }
