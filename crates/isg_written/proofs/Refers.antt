-- What a name is written out as: a parameter, or else a declared name.
use Rattle.std.proofs.Common.{ℕ, ◌+◌, ◌<◌, ◌≡◌, refl, sym, ◌∙◌, ap, subst, List, ◌++◌, length, Option, Some, None}
use Rattle.std.specs.Prelude.{Result, IfOk}
use Rattle.std.specs.Map.{lookup}
use Rattle.std.proofs.lemmas.Result.{IfOk-weaker}
use Rattle.nk_base.specs.Text.{text_eq}
use Rattle.nml_tree.specs.declared.tree.Par.{Par}
use Rattle.nml_tree.specs.Act.{Term, Field}
use Rattle.nml_tree.specs.Derivation.{Arguments, picks_of}
use Rattle.nml_tree.specs.Table.{Text, declared, pars_of, Parameter, parameter_of}
use Rattle.nml_tree.specs.Written as written
use Rattle.nml_tree.specs.Written.{Argument, named}
use Rattle.attr_eval.specs.Found.{IsFirst, Other}
use Rattle.attr_eval.specs.Walks.{from}
use Rattle.attr_eval.proofs.Steps.{field_at}
use Rattle.attr_eval.proofs.Values.{none_named}
use Rattle.isg_nodes.specs.declared.node.Node.{Node}
use Rattle.isg_written.specs.declared.found.Found.{Found}
use Rattle.isg_written.specs.declared.front.Front.{Front}
use Rattle.isg_written.specs.Stands.{before}
use Rattle.isg_written.specs.Found.{Is, IsTerm, Holds, Refers, Sources, Values, here, scope}
use Rattle.isg_written.proofs.Named.{part_named, field_named}
use Rattle.isg_written.proofs.Steps.{stands_at}

-- what is left behind the first arguments
abbrev pub IsLeft : Front → ℕ → List ℕ → ℕ → Type 0
IsLeft f k ps n = (args : Arguments) (ks : List ℕ) → Holds f args ks → (ps ≡ picks_of (from k args) ++ ks) × (n ≡ f.first + before k args)

module _ (f : Front) (old new : List Node) (name : Text) (index : Option ℕ) {E : Type 0} (r : Result Found E) where
  pub refer_none : Other name (pars_of f.pars.now) (length (pars_of f.pars.now)) → IfOk r (λ x. Sources (here f) old new x name index) → IfOk r (λ x. Refers f old new x name index)
  refer_none other h = IfOk-weaker r _ _ (λ x q. record {
    within = q.within;
    is = λ args ks i holds e. subst (λ o. Is new x (named o (declared (here f) name) i)) (sym (none_named args (here f) (pars_of f.pars.now) name f.first holds.fill other)) (q.is i e);
  }) h

  pub refer_part : (rule : Text) (k : ℕ) (x : Par) (ps : List ℕ) (n : ℕ) → IsFirst name (pars_of f.pars.now) k x → parameter_of (here f) x.ty ≡ Some (Parameter.Part rule) → IsLeft f k ps n → IfOk r (λ y. Values (here f) rule f.limit n ps new y) → IfOk r (λ y. Refers f old new y name index)
  refer_part rule k x ps n first is left h = IfOk-weaker r _ _ (λ y q. record {
    within = q.within;
    is = λ args ks i holds e.
        let l = left args ks holds in
        let w = stands_at (here f) (pars_of f.pars.now) f.limit args f.first f.picks.now ks k rule x ps n holds first.stands is l.0 l.1 in
        let found = part_named args (here f) (pars_of f.pars.now) name k x _ _ _ f.first holds.fill first w.0.at in
        subst (λ o. Is new y (named o (declared (here f) name) i)) (sym found) (subst (λ j. Is new y (written.written (here f) j w.0.of).value) l.1 (q.is w.0.of _ w.1));
  }) h

  pub refer_field : (k : ℕ) (x : Par) (ps : List ℕ) (n : ℕ) → IsFirst name (pars_of f.pars.now) k x → ((rule : Text) → parameter_of (here f) x.ty ≡ Some (Parameter.Part rule) → ⊥) → IsLeft f k ps n → IfOk r (λ y. IsTerm new y (Field n)) → IfOk r (λ y. Refers f old new y name index)
  refer_field k x ps n first none left h = IfOk-weaker r _ _ (λ y q. record {
    within = q.within;
    is = λ args ks i holds e.
        let l = left args ks holds in
        let p = field_at args (here f) (pars_of f.pars.now) k x holds.fill first.stands none in
        let found = field_named args (here f) (pars_of f.pars.now) name k x _ p.ty p.z _ f.first holds.fill first p.at in
        subst (λ o. Is new y (named o (declared (here f) name) i)) (sym found) (subst (λ j. Is new y (Field j)) l.1 q.is);
  }) h
