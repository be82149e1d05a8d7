-- The summaries of parameters by their names.
use Rattle.std.proofs.Common.{◌≡◌, ℕ, ◌+◌, ◌-◌, ◌<◌, cond, List, ◌∷◌, get_or, drop, map, length, Option, Some, ap, sym, ◌∙◌, arith}
use Rattle.std.specs.Map.{lookup}
use Rattle.nk_base.specs.Text.{text_eq}
use Rattle.nml_tree.specs.declared.tree.Par.{Par}
use Rattle.nml_tree.specs.declared.tree.Pars.{Pars}
use Rattle.nml_tree.specs.declared.tree.Desc.{Desc}
use Rattle.nml_tree.specs.Table.{Text, pars_of}
use Rattle.nml_tree.proofs.SameText.{turned}
use Rattle.nml_tree.proofs.Drops.{dropped}
use Rattle.nml_edges.specs.declared.summary.Summary.{Summary}
use Rattle.nml_edges.specs.Passed.{par_sum, par_sums}

front : (d : Desc) (facts : List Summary) (p : Par) (ps : List Par) (name k : Text) (v : Summary) (es new : List (Text × Summary)) → k ≡ p.name.text → v ≡ par_sum d facts p
    → lookup (text_eq name) new ≡ cond (text_eq k name) (Some v) (lookup (text_eq name) es) → lookup (text_eq name) es ≡ lookup (text_eq name) (par_sums d facts ps)
    → lookup (text_eq name) new ≡ lookup (text_eq name) (par_sums d facts (p ∷ ps))
front d facts p ps name k v es new same sum now before =
    now ∙ ap (λ z. cond (text_eq k name) (Some v) z) before
    ∙ ap (λ b. cond b (Some v) (lookup (text_eq name) (par_sums d facts ps))) (turned k name ∙ ap (text_eq name) same)
    ∙ ap (λ z. cond (text_eq name p.name.text) (Some z) (lookup (text_eq name) (par_sums d facts ps))) sum

pub further_more : (d : Desc) (facts : List Summary) (rest : List (ℕ × Par)) (i : ℕ) (x : ℕ × Par) (name k : Text) (v : Summary) (es new : List (Text × Summary)) → 0 < i → i - 1 < length rest → x ≡ get_or rest (i - 1) x
    → k ≡ x.1.name.text → v ≡ par_sum d facts x.1 → lookup (text_eq name) new ≡ cond (text_eq k name) (Some v) (lookup (text_eq name) es)
    → lookup (text_eq name) es ≡ lookup (text_eq name) (par_sums d facts (map (λ (comma, p). p) (drop i rest)))
    → lookup (text_eq name) new ≡ lookup (text_eq name) (par_sums d facts (map (λ (comma, p). p) (drop (i - 1) rest)))
further_more d facts rest i x name k v es new some low is same sum now before =
    let e : drop (i - 1) rest ≡ x ∷ drop i rest = (let up : i - 1 + 1 ≡ i = omega (arith, some) in dropped rest (i - 1) x low is ∙ ap (λ z. x ∷ drop z rest) up) in
    front d facts x.1 (map (λ (comma, p). p) (drop i rest)) name k v es new same sum now before
    ∙ sym (ap (λ zs. lookup (text_eq name) (par_sums d facts (map (λ (comma, p). p) zs))) e)

pub first_more : (d : Desc) (facts : List Summary) (pars : Option Pars) (ps : Pars) (rest : List (ℕ × Par)) (name k : Text) (v : Summary) (es new : List (Text × Summary)) → pars ≡ Some ps → rest ≡ ps.rest
    → k ≡ ps.first.name.text → v ≡ par_sum d facts ps.first → lookup (text_eq name) new ≡ cond (text_eq k name) (Some v) (lookup (text_eq name) es)
    → lookup (text_eq name) es ≡ lookup (text_eq name) (par_sums d facts (map (λ (comma, p). p) rest))
    → lookup (text_eq name) new ≡ lookup (text_eq name) (par_sums d facts (pars_of pars))
first_more d facts pars ps rest name k v es new is of same sum now before =
    front d facts ps.first (map (λ (comma, p). p) rest) name k v es new same sum now before
    ∙ ap (λ zs. lookup (text_eq name) (par_sums d facts (ps.first ∷ map (λ (comma, p). p) zs))) of
    ∙ sym (ap (λ o. lookup (text_eq name) (par_sums d facts (pars_of o))) is)
