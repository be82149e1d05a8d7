-- An instruction as a whole.
use Rattle.std.proofs.Common.{ℕ, List, ◌≡◌, ℤ, arith, refl, sym, ◌∙◌, ap, subst, Some, Option}
use Rattle.std.specs.Prelude.{slice_get, codes}
use Rattle.nk_base.specs.declared.number.Ty.{Ty}
use Rattle.nk_base.specs.Number.{InRange}
use Rattle.nml_tree.specs.declared.tree.Desc.{Desc}
use Rattle.nml_tree.specs.Table.{Table, table}
use Rattle.nml_tree.specs.Refused.{IsTyped, IsFreeBelow}
use Rattle.nml_tree.specs.Walk.{IsWalkOf}
use Rattle.nml_tree.specs.Derivation.{Derivation}
use Rattle.nml_tree.specs.Act.{Act}
use Rattle.nml_tree.specs.Value.{cell, number_at}
use Rattle.nml_tree.specs.Written.{action}
use Rattle.nml_tree.specs.Exec.{out_type}
use Rattle.nml_tree.specs.Legal.{IsLegal}
use Rattle.nml_state.specs.Cells.{Shown}
use Rattle.attr_exec.specs.declared.give.Done.{Done}
use Rattle.attr_exec.specs.Ran.{Scene, scene, ran}
use Rattle.attr_exec.specs.Ready.{Ready, NextFits}
use Rattle.attr_exec.specs.Does.{IsStateOf, IsNarrow}
use Rattle.attr_exec.proofs.Lawful.{lawful}
use Rattle.attr_exec.proofs.Fitting.{suits}
use Rattle.attr_exec.proofs.Suits.{IsNow}
use Rattle.attr_exec.proofs.Running.{of_types}
use Rattle.attr_exec.proofs.Top.{Ran, idle, ran_is, narrow_ran}
use Rattle.isg_run.specs.Narrow.{AreNarrow}
use Rattle.isg_run.proofs.Narrows.{narrow}

pub free_of : (d : Desc) → IsTyped d → IsFreeBelow 8 d
free_of d typed j less = typed j (omega (arith, less))

module _ (d : Desc) (typed : IsTyped d) (x : Derivation) (ks : List ℕ) (zs : List ℤ) (next : Option ℤ) (old s : Shown) (done : Done) (out : Ty) (a : Act) where
  free : IsFreeBelow 8 d
  free = free_of d typed

  ready : IsStateOf (table d) old → NextFits (table d) next → Ready (table d) next old
  ready is fits = record { lawful = lawful d free; types_are = is.types_are; trn_types_are = is.trn_types_are; next_fits = fits }

  -- what the code was proved to do
  abbrev pub Did : Type 0
  Did = (t : Table) → Ready t next old → AreNarrow t zs a → scene s done ≡ ran out zs next a (scene old idle)

  did : IsStateOf (table d) old → NextFits (table d) next → IsWalkOf (table d) (codes "instruction") ks zs x → a ≡ action (table d) x → Did → scene s done ≡ ran out zs next (action (table d) x) (scene old idle)
  did is fits w same k =
      k (table d) (ready is fits) (subst (AreNarrow (table d) zs) (sym same) (narrow (table d) (lawful d free) x ks zs w)) ∙ ap (λ q. ran out zs next q (scene old idle)) same

  pub whole : IsStateOf (table d) old → NextFits (table d) next → ((n i : ℕ) (u : Ty) → slice_get old.types n ≡ Some u → InRange u (cell old.cells n i)) → ((n : ℕ) (u : Ty) → slice_get old.trn_types n ≡ Some u → InRange u (number_at old.trns n))
      → IsWalkOf (table d) (codes "instruction") ks zs x → IsLegal (table d) x → a ≡ action (table d) x → out ≡ out_type (table d) → Did → Ran (table d) x zs next old s done
  whole is fits cells trns w legal same out_is k =
      let now : IsNow (table d) zs next old.cells old = record { types_are = is.types_are; trn_types_are = is.trn_types_are; cells_are = refl; typed = of_types (table d) zs next old (ready is fits) cells trns } in
      let u = suits d free x ks zs next old is w in
      ran_is (table d) x zs next old s done (lawful d free) is now w.fields legal u (did is fits w same k ∙ ap (λ o. ran o zs next (action (table d) x) (scene old idle)) out_is)

  pub narrow_whole : IsStateOf (table d) old → NextFits (table d) next → IsWalkOf (table d) (codes "instruction") ks zs x → a ≡ action (table d) x → out ≡ out_type (table d) → Did → IsNarrow (out_type (table d)) done
  narrow_whole is fits w same out_is k =
      let e = did is fits w same k in
      subst (λ u. IsNarrow u done) out_is (subst (λ (q : Scene). IsNarrow out q.done) (sym e) (narrow_ran out zs next (action (table d) x) (scene old idle) (record { out_fits = tt; halt_fits = tt })))
