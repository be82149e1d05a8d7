-- In a description in which all is right 128 bits hold what each index is worth that an action names.
use Rattle.std.proofs.Common.{ℕ, ℤ, List, [], ◌∷◌, ◌++◌, refl}
use Rattle.std.proofs.lemmas.List.Elements.{All-contains, All-from_recursion}
use Rattle.std.specs.List.{All, AllByRecursion}
use Rattle.std.specs.Prelude.{codes}
use Rattle.nml_tree.specs.declared.tree.Desc.{Desc}
use Rattle.nml_tree.specs.Act.{Term, Act, Number, Field, Cell, Trn, Inp, Out, Unary, Binary, Choose, Done, SetCell, SetTrn, Put, Halt, When}
use Rattle.nml_tree.specs.Table.{Table, table}
use Rattle.nml_tree.specs.Derivation.{Derivation}
use Rattle.nml_tree.specs.Refused.{IsTyped}
use Rattle.nml_tree.specs.Walk.{IsWalkOf}
use Rattle.nml_tree.specs.Written.{action}
use Rattle.attr_eval.specs.Alone.{alone}
use Rattle.attr_eval.proofs.AloneLaws.{each_of}
use Rattle.attr_exec.proofs.Lawful.{lawful}
use Rattle.isg_nodes.specs.Narrow.{IsNarrow}
use Rattle.isg_run.specs.Narrow.{IsAlwaysNarrow, AreNarrow}
use Rattle.isg_run.proofs.Narrows.{narrow}
use Rattle.isg_run.proofs.Whole.{free_of}
use Rattle.isg_places.specs.Places.{IsNamed, reads_in, act_reads, act_writes}

module _ (t : Table) (zs : List ℤ) where
  abbrev pub Right : List (ℕ × Term) → Type 0
  Right ps = AllByRecursion (λ p. IsAlwaysNarrow t zs p.1) ps

  behind : (p q : List (ℕ × Term)) → Right p → Right q → Right (p ++ q)
  behind [] q h k = k
  behind (x ∷ p) q h k = (h.0, behind p q h.1 k)

  term_right : (x : Term) → IsAlwaysNarrow t zs x → Right (reads_in x)
  term_right (Number z) h = tt
  term_right (Field n) h = tt
  term_right (Cell n i) h = (h, term_right i h)
  term_right (Trn n) h = tt
  term_right Inp h = tt
  term_right Out h = tt
  term_right (Unary op x) h = term_right x (λ v f typed. (h v f typed).0)
  term_right (Binary op x y) h = behind (reads_in x) (reads_in y) (term_right x (λ v f typed. (h v f typed).0)) (term_right y (λ v f typed. (h v f typed).1.0))
  term_right (Choose c x y) h =
      behind (reads_in c ++ reads_in x) (reads_in y)
      (behind (reads_in c) (reads_in x) (term_right c (λ v f typed. (h v f typed).0)) (term_right x (λ v f typed. (h v f typed).1.0)))
      (term_right y (λ v f typed. (h v f typed).1.1))

  pub reads_right : (a : Act) → AreNarrow t zs a → Right (act_reads a)
  reads_right Done h = tt
  reads_right (SetCell n i e rest) h = behind (reads_in i ++ reads_in e) (act_reads rest) (behind (reads_in i) (reads_in e) (term_right i h.0) (term_right e h.1.0)) (reads_right rest h.1.1)
  reads_right (SetTrn n e rest) h = behind (reads_in e) (act_reads rest) (term_right e h.0) (reads_right rest h.1)
  reads_right (Put e rest) h = behind (reads_in e) (act_reads rest) (term_right e h.0) (reads_right rest h.1)
  reads_right (Halt e rest) h = behind (reads_in e) (act_reads rest) (term_right e h.0) (reads_right rest h.1)
  reads_right (When c x y rest) h =
      behind (reads_in c ++ act_reads x ++ act_reads y) (act_reads rest)
      (behind (reads_in c ++ act_reads x) (act_reads y) (behind (reads_in c) (act_reads x) (term_right c h.0) (reads_right x h.1.0)) (reads_right y h.1.1.0))
      (reads_right rest h.1.1.1)

  pub writes_right : (a : Act) → AreNarrow t zs a → Right (act_writes a)
  writes_right Done h = tt
  writes_right (SetCell n i e rest) h = (h.0, writes_right rest h.1.1)
  writes_right (SetTrn n e rest) h = writes_right rest h.1
  writes_right (Put e rest) h = writes_right rest h.1
  writes_right (Halt e rest) h = writes_right rest h.1
  writes_right (When c x y rest) h =
      behind (act_writes x ++ act_writes y) (act_writes rest) (behind (act_writes x) (act_writes y) (writes_right x h.1.0) (writes_right y h.1.1.0)) (writes_right rest h.1.1.1)

-- with the fields alone
pub named_narrow : (d : Desc) (x : Derivation) (ks : List ℕ) (zs : List ℤ) (p : ℕ × Term) → IsTyped d → IsWalkOf (table d) (codes "instruction") ks zs x → IsNamed (action (table d) x) p → IsNarrow (alone zs) p.1
named_narrow d x ks zs p typed walk is =
    let free = free_of d typed in
    let a = narrow (table d) (lawful d free) x ks zs walk in
    let all : All (λ q. IsAlwaysNarrow (table d) zs q.1) (act_reads (action (table d) x) ++ act_writes (action (table d) x)) =
    All-from_recursion (λ q. IsAlwaysNarrow (table d) zs q.1) _ (behind (table d) zs (act_reads (action (table d) x)) (act_writes (action (table d) x)) (reads_right (table d) zs (action (table d) x) a) (writes_right (table d) zs (action (table d) x) a)) in
    All-contains (λ q. IsAlwaysNarrow (table d) zs q.1) _ p all is (alone zs) refl (record { each = λ q y h. each_of zs y })
