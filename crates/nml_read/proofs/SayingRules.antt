-- What is said of rules.
use Rattle.std.proofs.Common.{ℕ, List, Some, None, ◌≡◌, ◌∙◌, ap}
use Rattle.std.specs.Prelude.{Result, Ok, Err, codes}
use Rattle.nml_tree.specs.declared.names.Name.{Name}
use Rattle.nml_tree.specs.declared.tree.Item.{Item}
use Rattle.nml_tree.specs.declared.tree.Pars.{Pars}
use Rattle.nml_tree.specs.declared.tree.RuleWord.{RuleWord}
use Rattle.readings.specs.Symbol.{Symbol}
use Rattle.readings.specs.Reading.{Read, Found, read_on, behind}
use Rattle.readings.specs.Readings.{Reading}
use Rattle.nml_grammar.specs.Words.{name}
use Rattle.nml_grammar.specs.ReadingItems.{rule, rule_from, or_rule, pars, pars_from, some_pars}
use Rattle.readings.specs.declared.stop.Stop.{Stop}
use Rattle.readings.specs.Seen.{Comes, Fails, Says}
use Rattle.readings.proofs.Saying.{goes_on, ends, says_alike, at_once}
use Rattle.readings.specs.declared.stop.Stop.TheVariants as stops

-- ---- what goes on behind what was found, said of both

pub says_on : {A B C : Type 0} (found : C → Read B) (r : Result C Stop) (reads : Reading A) (ss : List Symbol) (x : A) (rest : List Symbol) (next : ℕ → A → List Symbol → Read B) → Comes reads ss (Found x rest) → Says found r (λ n s. next n x s) rest
    → Says found r (λ n s. read_on (reads n s) (next n)) ss
says_on found (Ok y) reads ss x rest next h k = goes_on next h k
says_on found (Err (stops.Stuck left)) reads ss x rest next h (t, is, k) = (t, is, goes_on next h k)
says_on found (Err stops.Memory) reads ss x rest next h t = tt

-- ---- rules

-- its name stops
pub rule_fails : (stop : Stop) (word : RuleWord) (composed : Name → Reading Item) (ss : List Symbol) → Fails stop name ss → Fails stop (rule word composed) ss
rule_fails (stops.Stuck left) word composed ss (rest, is, h) = (rest, is, ends (λ n x s. rule_from word (composed x) x n s (behind (codes "=") s)) h)
rule_fails stops.Memory word composed ss t = tt

-- alternatives
pub rule_listed : {C : Type 0} (found : C → Read Item) (r : Result C Stop) (word : RuleWord) (composed : Name → Reading Item) (ss : List Symbol) (x : Name) (s : List Symbol) (eq : ℕ) (rest : List Symbol) → Comes name ss (Found x s)
    → behind (codes "=") s ≡ Some (eq, rest) → Says found r (or_rule word x eq) rest → Says found r (rule word composed) ss
rule_listed found r word composed ss x s eq rest h e k =
    says_on found r name ss x s (λ n y t. rule_from word (composed y) y n t (behind (codes "=") t)) h
    (says_alike found r (or_rule word x eq) (λ n t. rule_from word (composed x) x n t (behind (codes "=") t)) rest s (λ n. ap (rule_from word (composed x) x n s) e) k)

-- a rule with parameters
pub rule_composed : {C : Type 0} (found : C → Read Item) (r : Result C Stop) (word : RuleWord) (composed : Name → Reading Item) (ss : List Symbol) (x : Name) (s : List Symbol) → Comes name ss (Found x s)
    → behind (codes "=") s ≡ None → Says found r (composed x) s → Says found r (rule word composed) ss
rule_composed found r word composed ss x s h e k =
    says_on found r name ss x s (λ n y t. rule_from word (composed y) y n t (behind (codes "=") t)) h
    (says_alike found r (composed x) (λ n t. rule_from word (composed x) x n t (behind (codes "=") t)) s s (λ n. ap (rule_from word (composed x) x n s) e) k)

-- ---- parameters

-- there are none
pub no_pars : (ss : List Symbol) (q : ℕ) (rest : List Symbol) → behind (codes ")") ss ≡ Some (q, rest) → Comes pars ss (Found None ss)
no_pars ss q rest e = at_once (λ n. ap (pars_from n ss) e)

-- there are some
pub has_pars : (ss : List Symbol) (ps : Pars) (rest : List Symbol) → behind (codes ")") ss ≡ None → Comes some_pars ss (Found ps rest) → Comes pars ss (Found (Some ps) rest)
has_pars ss ps rest e h =
    record { calls = h.calls; is = λ n le. ap (pars_from n ss) e ∙ ap (λ a. read_on a (λ x s. Found (Some x) s)) (h.is n le) }

pub pars_fail : (stop : Stop) (ss : List Symbol) → behind (codes ")") ss ≡ None → Fails stop some_pars ss → Fails stop pars ss
pars_fail (stops.Stuck left) ss e (rest, is, h) =
    (rest, is, record { calls = h.calls; is = λ n le. ap (pars_from n ss) e ∙ ap (λ a. read_on a (λ x s. Found (Some x) s)) (h.is n le) })
pars_fail stops.Memory ss e t = tt
