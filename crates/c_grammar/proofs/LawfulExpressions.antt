-- The reading of expressions is lawful.
use Rattle.std.proofs.Common.{ℕ, ◌≤◌, ◌++◌, arith}
use Rattle.readings.specs.Lawful.{IsLawful, IsReading}
use Rattle.c_tree.specs.Formula.{Numeral}
use Rattle.c_tree.specs.Level.{unary_level}
use Rattle.c_tree.specs.Spell.{formula_spelling}
use Rattle.c_grammar.specs.Reading.{climb, IsEnd, IsGood}
use Rattle.c_grammar.proofs.Sound.{sound}
use Rattle.c_grammar.proofs.Complete.{complete, lift_climb}
use Rattle.c_grammar.proofs.Local.{climb_local}
use Rattle.c_grammar.proofs.Viable.{viable}
use Rattle.c_grammar.proofs.Settled.{climb_settles}

pub expression_lawful : (k room : ℕ) → k ≤ unary_level → 1 ≤ room → IsLawful formula_spelling (IsGood k room) (IsEnd k) (λ n ss. climb n k room ss)
expression_lawful k room le some = record {
  sound = λ n ss x rest e.
      let s = sound n k room ss x rest le some e in
      record { fits = record { leveled = s.leveled; at_least = s.at_least; shallow = s.shallow }; is_end = s.ends; whole = s.spelled };
  complete = λ x rest g e.
      let c = complete x k room rest g.leveled g.at_least g.shallow e in
      (c.0, λ n more. lift_climb c.0 n k room (formula_spelling x ++ rest) x rest more c.1);
  local = λ n. climb_local n k room;
  viable = λ n ss rest e.
      let v = viable n k room ss rest le some e in
      record { front = v.front; further = v.further; thing = v.expression; left = v.left; fits = v.good; whole = v.spelled };
  settled = λ ss. climb_settles k room ss;
}

-- and there is one, a number
pub expression_law : (k room : ℕ) → k ≤ unary_level → 1 ≤ room → IsReading formula_spelling (IsGood k room) (IsEnd k) (λ n ss. climb n k room ss)
expression_law k room le some = record {
  law = expression_lawful k room le some;
  thing = Numeral (record { at = 0; value = 0 });
  fits = record { leveled = tt; at_least = omega arith; shallow = some };
}
