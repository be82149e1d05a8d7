-- An instruction as a whole.
use Rattle.std.proofs.Common.{ℕ, List, ◌≡◌, ℤ, refl, sym, ◌∙◌, ap, subst, None, true}
use Rattle.std.specs.Prelude.{◌==◌, codes}
use Rattle.attr_eval.proofs.AllPaths.{lawful_legal}
use Rattle.attr_eval.proofs.AloneLaws.{each_of}
use Rattle.attr_eval.specs.Alone.{alone}
use Rattle.attr_eval.specs.Lawful.{act_shape, is_lawful}
use Rattle.attr_exec.proofs.Lawful.{lawful}
use Rattle.attr_legal.proofs.WholeLegal.{legal_is}
use Rattle.attr_legal.specs.Tally.{checks, tally}
use Rattle.isg_legal.proofs.Coarse.{checks_put_in}
use Rattle.isg_legal.specs.Coarse.{NeverClashes}
use Rattle.isg_legal.specs.Counts.{counts}
use Rattle.isg_legal.specs.Known.{AreFit}
use Rattle.isg_run.proofs.Narrows.{narrow}
use Rattle.isg_run.proofs.Whole.{free_of}
use Rattle.isg_run.specs.Narrow.{AreNarrow}
use Rattle.nml_tree.specs.Act.{Act, Done, SetCell, SetTrn, Put, Halt, When}
use Rattle.nml_tree.specs.Derivation.{Derivation}
use Rattle.nml_tree.specs.Legal.{IsLegal, fields_alone, is_legal}
use Rattle.nml_tree.specs.Refused.{IsTyped}
use Rattle.nml_tree.specs.Table.{Table, table}
use Rattle.nml_tree.specs.Walk.{IsWalkOf}
use Rattle.nml_tree.specs.Written.{action}
use Rattle.nml_tree.specs.declared.tree.Desc.{Desc}
use Rattle.nml_widths.specs.Fitting.{AreOfTypes}

-- indices of a narrow action fit, with nothing but fields
fit : (t : Table) (zs : List ℤ) → AreOfTypes t (alone zs) → (a : Act) → AreNarrow t zs a → AreFit true zs a
fit t zs typed Done h = tt
fit t zs typed (SetCell n i e rest) h = (h.0 (alone zs) refl typed, fit t zs typed rest h.1.1)
fit t zs typed (SetTrn n e rest) h = fit t zs typed rest h.1
fit t zs typed (Put e rest) h = fit t zs typed rest h.1
fit t zs typed (Halt e rest) h = fit t zs typed rest h.1
fit t zs typed (When c x y rest) h = (fit t zs typed x h.1.0, (fit t zs typed y h.1.1.0, fit t zs typed rest h.1.1.1))

pub whole : (d : Desc) (x : Derivation) (ks : List ℕ) (zs : List ℤ) (a : Act) (r : ℕ) → IsTyped d → IsWalkOf (table d) (codes "instruction") ks zs x → a ≡ action (table d) x
    → (AreFit true zs a → AreFit true zs a → r ≡ tally (counts true zs a None) (act_shape a)) → (r == 0) ≡ is_legal (table d) x
whole d x ks zs a r typed w same told =
    let types : AreOfTypes (table d) (alone zs) = record { each = λ q y h. each_of zs y } in
    let fits = subst (AreFit true zs) (sym same) (fit (table d) zs types (action (table d) x) (narrow (table d) (lawful d (free_of d typed)) x ks zs w)) in
    let e = told fits fits ∙ checks_put_in zs a in
    legal_is (table d) x zs r w.fields (subst (λ b. r ≡ tally (checks (alone zs) (act_shape b)) (act_shape b)) same e)

pub never : (t : Table) (x : Derivation) (a : Act) → a ≡ action t x → NeverClashes a → IsLegal t x
never t x a same h = sym (lawful_legal t x) ∙ ap (λ b. is_lawful (fields_alone x) (act_shape b)) (sym same) ∙ h (fields_alone x)
