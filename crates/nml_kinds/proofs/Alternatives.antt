-- One alternative, and those behind it.
use Rattle.std.proofs.Common.{◌≡◌, ℕ, ◌+◌, ◌<◌, Bool, true, false, List, [], ◌∷◌, ◌++◌, map, drop, length, get_or, Option, Some, None, refl, ap, sym, ◌∙◌}
use Rattle.nml_tree.specs.declared.names.Name.{Name}
use Rattle.nml_tree.specs.Places.{when}
use Rattle.nml_tree.specs.Table.{Table, Declared, Constant, TypeName, Storage, Trn, Inp, Out, Or, And, declared}
use Rattle.nml_tree.specs.TypeFault.{alternative_places, is_rule_of}
use Rattle.nml_tree.specs.Worth.{Kind, is_rule, is_other, known_first, rule_worth}
use Rattle.nml_tree.proofs.Drops.{dropped}
use Rattle.nml_names.specs.Note.{noted}
use Rattle.nml_names.proofs.Notes.{noted_append}
use Rattle.nml_kinds.specs.Parts.{alternatives_behind}

-- what may be an alternative is a rule
pub may_be_rule : (mode : Bool) (x : Option Declared) → is_rule_of mode x ≡ true → is_rule x ≡ true
may_be_rule mode None h = h
may_be_rule mode (Some (Constant z)) h = h
may_be_rule mode (Some (TypeName t)) h = h
may_be_rule mode (Some (Storage n k t)) h = h
may_be_rule mode (Some (Trn n t)) h = h
may_be_rule mode (Some (Inp t)) h = h
may_be_rule mode (Some (Out t)) h = h
may_be_rule mode (Some (Or m ns)) h = refl
may_be_rule mode (Some (And r)) h = refl

pub alternative_rule : (t : Table) (mode : Bool) (before kind next : Kind) (n : Name) (ns : List Name) (bad : Bool) (a r : Option ℕ) → is_rule_of mode (declared t n.text) ≡ true
    → kind ≡ (rule_worth t n.text).kind → bad ≡ is_other before kind → r ≡ noted a (when bad n.at) → next ≡ known_first before kind
    → noted a (alternative_places t mode before (n ∷ ns)) ≡ noted r (alternative_places t mode next ns)
alternative_rule t mode before kind next n ns bad a r is worth test note known =
    rw (is, ← worth, known, note, test) (noted_append a (when (is_other before kind) n.at) (alternative_places t mode (known_first before kind) ns))

pub alternative_other : (t : Table) (mode : Bool) (before : Kind) (n : Name) (ns : List Name) (a r : Option ℕ) → is_rule_of mode (declared t n.text) ≡ false → r ≡ noted a (when true n.at)
    → noted a (alternative_places t mode before (n ∷ ns)) ≡ noted r (alternative_places t mode before ns)
alternative_other t mode before n ns a r is note = rw (is, note) refl

pub behind_dropped : (rest : List (ℕ × Name)) (i : ℕ) (x : ℕ × Name) → i < length rest → x ≡ get_or rest i x → alternatives_behind (drop i rest) ≡ x.1 ∷ alternatives_behind (drop (i + 1) rest)
behind_dropped rest i x low is = ap alternatives_behind (dropped rest i x low is)
