-- The bodies of a program's functions, one after the other.
use Rattle.std.proofs.Common.{◌≡◌, ℕ, ◌<◌, ◌≤◌, ◌+◌, List, [], ◌∷◌, ◌++◌, length, map, replicate, drop, get_or, ap, ap₂, sym, ◌∙◌, refl, append_assoc, subst, arith, None}
use Rattle.std.proofs.lemmas.List.{map-append}
use Rattle.c_tree.specs.declared.program.Global.{Global}
use Rattle.c_tree.specs.declared.program.Global.TheVariants as global
use Rattle.c_tree.specs.declared.program.Param.{Param}
use Rattle.c_tree.specs.declared.program.Vars.{Vars}
use Rattle.c_tree.specs.declared.program.Function.{Function}
use Rattle.c_tree.specs.Items.{item}
use Rattle.c_tree.specs.Names.{Names, behind_gvars, behind_name, behind_parameters, before_body, body_shapes, gvars, parameters}
use Rattle.c_tree.specs.Names as names
use Rattle.c_tree.specs.Program.{sizes}
use Rattle.c_tree.specs.Resolve.{resolved_functions, commands, body_of}
use Rattle.c_tree.specs.Statement.{Body, block}
use Rattle.c_walk.specs.Walk.{behind_body, defined}
use Rattle.c_walk.proofs.Behind.{kept_body, sizes-append}
use Rattle.c_flat.specs.declared.node.Node.{Node}
use Rattle.c_flat.specs.declared.function.Body as function
use Rattle.c_flat.specs.Written.{Written, OfCommand, written, AreBelow, Grew}
use Rattle.c_flat.specs.Listing.{Standing, Outline, outline, body_shown, body_nodes}
use Rattle.c_flat.proofs.Grown.{Extends-trans}
use Rattle.c_flat.proofs.Chained.{drop_step, drop_end, below_later, below_snoc}

-- those of the functions that are left
abbrev pub outlines_left : Names → List Global → List Outline
outlines_left s gs = map outline (resolved_functions s (map item gs))

pub vars_step : (s u : Names) (gs : List Global) (i : ℕ) (one : Global) (v : Vars) → i < length gs → one ≡ get_or gs i one → one ≡ global.Vars v → u ≡ behind_gvars s (gvars v) → outlines_left u (drop (i + 1) gs) ≡ outlines_left s (drop i gs)
vars_step s u gs i one v lt is told to =
    let here : outlines_left u (drop (i + 1) gs) ≡ outlines_left s (one ∷ drop (i + 1) gs) = rw (told, to) refl in
    here ∙ ap (outlines_left s) (sym (drop_step gs i one lt is))

-- what is known of a function
abbrev pub outline_in : Names → Function → Outline
outline_in s f =
    (names.is_main (defined f), (OfCommand (commands (before_body s (defined f)) (body_of (block f.body))), sizes (replicate (length (parameters f.params)) None ++ body_shapes (body_of (block f.body)))))

pub function_step : (s u : Names) (gs : List Global) (i : ℕ) (one : Global) (f : Function) → i < length gs → one ≡ get_or gs i one → one ≡ global.Function f → u ≡ behind_name s (defined f) → outline_in s f ∷ outlines_left u (drop (i + 1) gs) ≡ outlines_left s (drop i gs)
function_step s u gs i one f lt is told to =
    let here : outline_in s f ∷ outlines_left u (drop (i + 1) gs) ≡ outlines_left s (one ∷ drop (i + 1) gs) = rw (told, to) refl in
    here ∙ ap (outlines_left s) (sym (drop_step gs i one lt is))

pub outlines_end : (s : Names) (gs : List Global) (i : ℕ) → length gs ≤ i → outlines_left s (drop i gs) ≡ []
outlines_end s gs i h = ap (outlines_left s) (drop_end gs i h)

shown_same : (new nodes : List Node) (bs : List function.Body) (n : ℕ) → AreBelow (body_nodes bs) n → ((i : ℕ) → i < n → written new i ≡ written nodes i) → map (body_shown new) bs ≡ map (body_shown nodes) bs
shown_same new nodes [] n b same = refl
shown_same new nodes (x ∷ xs) n b same = ap₂ {A = Written} {B = List Outline} (λ w us. (x.main, (w, x.cells)) ∷ us) (same x.node b.0) (shown_same new nodes xs n b.1 same)

pub standing_more : (old nodes new : List Node) (bs : List function.Body) (b : function.Body) (w : Written) (o : Outline) (left left' whole : List Outline) → Standing old nodes bs left whole → Grew nodes new w b.node → (b.main, (w, b.cells)) ≡ o → o ∷ left' ≡ left → Standing old new (bs ++ b ∷ []) left' whole
standing_more old nodes new bs b w o left left' whole l g here is = record {
  extends = Extends-trans old nodes new l.extends g.extends;
  falls = g.falls;
  within = subst (λ ks. AreBelow ks (length new)) (sym (map-append (λ (x : function.Body). x.node) bs (b ∷ []))) (below_snoc (body_nodes bs) b.node (length new) (below_later (body_nodes bs) (length nodes) (length new) l.within g.extends.longer) g.within);
  are =
      ap (λ ws. ws ++ left') (map-append (body_shown new) bs (b ∷ []) ∙ ap (λ u. map (body_shown new) bs ++ (b.main, (u, b.cells)) ∷ []) g.is ∙ ap (λ ws. ws ++ (b.main, (w, b.cells)) ∷ []) (shown_same new nodes bs (length nodes) l.within g.extends.same))
      ∙ append_assoc (map (body_shown nodes) bs) ((b.main, (w, b.cells)) ∷ []) left'
      ∙ ap (λ x. map (body_shown nodes) bs ++ x ∷ left') here
      ∙ ap (λ ws. map (body_shown nodes) bs ++ ws) is
      ∙ l.are;
}

-- ---- how many cells a function's variables have

parameters_next : (s : Names) (ps : List Param) → (behind_parameters s ps).next ≡ s.next + sizes (replicate (length ps) None)
parameters_next s [] = omega arith
parameters_next s (p ∷ ps) = let e = parameters_next (behind_parameters s (p ∷ [])) ps in omega (arith, e)

pub cells_of_body : (s : Names) (ps : List Param) (b : Body) → s.next ≡ 0 → (behind_body (behind_parameters s ps) b).next ≡ sizes (replicate (length ps) None ++ body_shapes b)
cells_of_body s ps b zero_is =
    let k = kept_body (behind_parameters s ps) b in
    let l = k.next in
    omega (arith, l, parameters_next s ps, zero_is, sizes-append (replicate (length ps) None) (body_shapes b))
