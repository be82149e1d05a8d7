-- The places in statements, in the code's order and in that of the definitions.
use Rattle.std.proofs.Common.{ℕ, ◌&&◌, List, [], ◌∷◌, ◌++◌, flat_map, ◌≡◌, refl, ap, sym, ◌∙◌, Option, Some, None}
use Rattle.nml_tree.specs.declared.names.Name.{Name}
use Rattle.nml_tree.specs.Formula.{Formula}
use Rattle.nml_tree.specs.Block as block
use Rattle.nml_tree.specs.Block.{Block, Index}
use Rattle.nml_tree.specs.Inside.{inside, as_read, inside_index, inside_block}
use Rattle.nml_tree.specs.Places.{earlier, least_of, unless, when}
use Rattle.nml_tree.specs.TypeFault.{node_places, places_inside, operand_places, index_places, assigned_places, block_places, is_named_rightly, is_indexed, place_kind}
use Rattle.nml_tree.specs.WidthFault.{node_widths, assigned}
use Rattle.nml_tree.specs.Directives.{is_part, parameter}
use Rattle.nml_tree.specs.Worth.{Kind, Number, Truth, Scope, worth, of_name, is_other}
use Rattle.nml_kinds.specs.Statements.{operand_kinds, index_kinds, assigned_kinds, name_kinds, block_kinds, assigned_widths, index_widths, widths_inside, block_widths}
use Rattle.nml_kinds.proofs.Orders.{earlier_assoc, earlier_comm, earlier_swap, earlier_pairs, least_append}

-- the places of several expressions, in parts
pub least_flat : (f : Formula → List ℕ) (xs ys : List Formula) → least_of (flat_map f (xs ++ ys)) ≡ earlier (least_of (flat_map f xs)) (least_of (flat_map f ys))
least_flat f [] ys = refl
least_flat f (x ∷ xs) ys =
    least_append (f x) (flat_map f (xs ++ ys)) ∙ ap (earlier (least_of (f x))) (least_flat f xs ys)
    ∙ sym (earlier_assoc (least_of (f x)) (least_of (flat_map f xs)) (least_of (flat_map f ys)))
    ∙ ap (λ a. earlier a (least_of (flat_map f ys))) (sym (least_append (f x) (flat_map f xs)))

-- own places before those inside, and the other way round
own_first : (i o : Option ℕ) (a b : Option ℕ) → earlier (earlier i o) (earlier a b) ≡ earlier (earlier o a) (earlier i b)
own_first i o a b = ap (λ x. earlier x (earlier a b)) (earlier_comm i o) ∙ earlier_pairs o i a b

operand_is : (s : Scope) (k : Kind) (e : Formula) → least_of (operand_kinds s k e) ≡ earlier (least_of (places_inside s (inside e))) (least_of (operand_places s k e))
operand_is s k e = least_append (places_inside s (inside e)) (operand_places s k e)

index_is : (s : Scope) (i : Index) → least_of (index_kinds s i) ≡ earlier (least_of (places_inside s (inside_index i))) (least_of (index_places s i))
index_is s None = refl
index_is s (Some (p, i, q)) = operand_is s Number i

four : (a b c d : Option ℕ) → earlier (earlier (earlier a b) c) d ≡ earlier (earlier d b) (earlier a c)
four a b c d =
    ap (λ x. earlier x d) (earlier_swap a b c)
    ∙ earlier_assoc (earlier a c) b d
    ∙ earlier_comm (earlier a c) (earlier b d)
    ∙ ap (λ x. earlier x (earlier a c)) (earlier_comm b d)

assigned_is : (s : Scope) (n : Name) (i : Index) (e : Formula)
    → least_of (assigned_kinds s n i e) ≡ earlier (least_of (assigned_places s n i e)) (earlier (least_of (places_inside s (inside_index i))) (least_of (places_inside s (inside e))))
assigned_is s n i e =
    let u = unless ((of_name s n.text).is_place && is_named_rightly s (is_indexed i) n) n.at in
    let w = when (is_other (place_kind (of_name s n.text)) (worth s e).kind) n.at in
    let x = places_inside s (inside e) in
    rw (least_append (index_kinds s i ++ x) (u ++ w), least_append (index_kinds s i) x, index_is s i, least_append (u ++ w) (index_places s i), least_append u w)
    (four (least_of (places_inside s (inside_index i))) (least_of (index_places s i)) (least_of x) (earlier (least_of u) (least_of w)))

-- the least fault of kind
pub kinds_are : (s : Scope) (b : Block) → least_of (block_kinds s b) ≡ earlier (least_of (block_places s b)) (least_of (places_inside s (inside_block b)))
kinds_are s block.Done = refl
kinds_are s (block.Assign n i at e semicolon rest) =
    rw (
      least_append (assigned_kinds s n i e) (block_kinds s rest),
      assigned_is s n i e,
      kinds_are s rest,
      least_append (assigned_places s n i e) (block_places s rest),
      least_flat (node_places s) (inside_index i ++ inside e) (inside_block rest),
      least_flat (node_places s) (inside_index i) (inside e),
    )
    (earlier_pairs (least_of (assigned_places s n i e)) (earlier (least_of (places_inside s (inside_index i))) (least_of (places_inside s (inside e)))) (least_of (block_places s rest)) (least_of (places_inside s (inside_block rest))))
kinds_are s (block.Part n dot at semicolon rest) =
    let u = unless (is_part (parameter s.pars n.text)) n.at in
    rw (least_append u (block_kinds s rest), kinds_are s rest, least_append u (block_places s rest))
    (sym (earlier_assoc (least_of u) (least_of (block_places s rest)) (least_of (places_inside s (inside_block rest)))))
kinds_are s (block.Halt at p e q semicolon rest) =
    rw (least_append (operand_kinds s Number e) (block_kinds s rest), operand_is s Number e, kinds_are s rest, least_append (operand_places s Number e) (block_places s rest), least_flat (node_places s) (inside e) (inside_block rest))
    (own_first (least_of (places_inside s (inside e))) (least_of (operand_places s Number e)) (least_of (block_places s rest)) (least_of (places_inside s (inside_block rest))))
kinds_are s (block.If at c t xs end semicolon rest) =
    let i = least_of (places_inside s (inside c)) in
    let o = least_of (operand_places s Truth c) in
    let x = least_of (block_places s xs) in
    let j = least_of (places_inside s (inside_block xs)) in
    rw (
      least_append (operand_kinds s Truth c ++ block_kinds s xs) (block_kinds s rest),
      least_append (operand_kinds s Truth c) (block_kinds s xs),
      operand_is s Truth c,
      kinds_are s xs,
      kinds_are s rest,
      least_append (operand_places s Truth c ++ block_places s xs) (block_places s rest),
      least_append (operand_places s Truth c) (block_places s xs),
      least_flat (node_places s) (inside c ++ inside_block xs) (inside_block rest),
      least_flat (node_places s) (inside c) (inside_block xs),
    )
    (ap (λ y. earlier y (earlier (least_of (block_places s rest)) (least_of (places_inside s (inside_block rest))))) (own_first i o x j)
    ∙ earlier_pairs (earlier o x) (earlier i j) (least_of (block_places s rest)) (least_of (places_inside s (inside_block rest))))
kinds_are s (block.IfElse at c t xs f ys end semicolon rest) =
    let i = least_of (places_inside s (inside c)) in
    let o = least_of (operand_places s Truth c) in
    let x = least_of (block_places s xs) in
    let j = least_of (places_inside s (inside_block xs)) in
    let y = least_of (block_places s ys) in
    let k = least_of (places_inside s (inside_block ys)) in
    rw (
      least_append (operand_kinds s Truth c ++ block_kinds s xs ++ block_kinds s ys) (block_kinds s rest),
      least_append (operand_kinds s Truth c ++ block_kinds s xs) (block_kinds s ys),
      least_append (operand_kinds s Truth c) (block_kinds s xs),
      operand_is s Truth c,
      kinds_are s xs,
      kinds_are s ys,
      kinds_are s rest,
      least_append (operand_places s Truth c ++ block_places s xs ++ block_places s ys) (block_places s rest),
      least_append (operand_places s Truth c ++ block_places s xs) (block_places s ys),
      least_append (operand_places s Truth c) (block_places s xs),
      least_flat (node_places s) (inside c ++ inside_block xs ++ inside_block ys) (inside_block rest),
      least_flat (node_places s) (inside c ++ inside_block xs) (inside_block ys),
      least_flat (node_places s) (inside c) (inside_block xs),
    )
    (ap (λ z. earlier z (earlier (least_of (block_places s rest)) (least_of (places_inside s (inside_block rest)))))
    (ap (λ z. earlier z (earlier y k)) (own_first i o x j) ∙ earlier_pairs (earlier o x) (earlier i j) y k)
    ∙ earlier_pairs (earlier (earlier o x) y) (earlier (earlier i j) k) (least_of (block_places s rest)) (least_of (places_inside s (inside_block rest))))

index_width : (s : Scope) (i : Index) → index_widths s i ≡ widths_inside s (inside_index i)
index_width s None = refl
index_width s (Some (p, i, q)) = refl

-- the least fault of width
pub widths_are : (s : Scope) (b : Block) → least_of (block_widths s b) ≡ earlier (least_of (widths_inside s (inside_block b))) (least_of (widths_inside s (assigned b)))
widths_are s block.Done = refl
widths_are s (block.Assign n i at e semicolon rest) =
    let x = least_of (widths_inside s (inside_index i)) in
    let v = least_of (widths_inside s (inside e)) in
    let a = least_of (node_widths s (as_read n i)) in
    rw (
      least_append (index_widths s i ++ node_widths s (as_read n i) ++ widths_inside s (inside e)) (block_widths s rest),
      least_append (index_widths s i ++ node_widths s (as_read n i)) (widths_inside s (inside e)),
      least_append (index_widths s i) (node_widths s (as_read n i)),
      index_width s i,
      widths_are s rest,
      least_flat (node_widths s) (inside_index i ++ inside e) (inside_block rest),
      least_flat (node_widths s) (inside_index i) (inside e),
      least_append (node_widths s (as_read n i)) (widths_inside s (assigned rest)),
    )
    (ap (λ z. earlier z (earlier (least_of (widths_inside s (inside_block rest))) (least_of (widths_inside s (assigned rest))))) (earlier_swap x a v)
    ∙ earlier_pairs (earlier x v) a (least_of (widths_inside s (inside_block rest))) (least_of (widths_inside s (assigned rest))))
widths_are s (block.Part n dot at semicolon rest) = widths_are s rest
widths_are s (block.Halt at p e q semicolon rest) =
    rw (least_append (widths_inside s (inside e)) (block_widths s rest), widths_are s rest, least_flat (node_widths s) (inside e) (inside_block rest))
    (sym (earlier_assoc (least_of (widths_inside s (inside e))) (least_of (widths_inside s (inside_block rest))) (least_of (widths_inside s (assigned rest)))))
widths_are s (block.If at c t xs end semicolon rest) =
    let i = least_of (widths_inside s (inside c)) in
    let x = least_of (widths_inside s (inside_block xs)) in
    let a = least_of (widths_inside s (assigned xs)) in
    let r = least_of (widths_inside s (inside_block rest)) in
    let b = least_of (widths_inside s (assigned rest)) in
    rw (
      least_append (widths_inside s (inside c) ++ block_widths s xs) (block_widths s rest),
      least_append (widths_inside s (inside c)) (block_widths s xs),
      widths_are s xs,
      widths_are s rest,
      least_flat (node_widths s) (inside c ++ inside_block xs) (inside_block rest),
      least_flat (node_widths s) (inside c) (inside_block xs),
      least_flat (node_widths s) (assigned xs) (assigned rest),
    )
    (ap (λ z. earlier z (earlier r b)) (sym (earlier_assoc i x a)) ∙ earlier_pairs (earlier i x) a r b)
widths_are s (block.IfElse at c t xs f ys end semicolon rest) =
    let i = least_of (widths_inside s (inside c)) in
    let x = least_of (widths_inside s (inside_block xs)) in
    let a = least_of (widths_inside s (assigned xs)) in
    let y = least_of (widths_inside s (inside_block ys)) in
    let d = least_of (widths_inside s (assigned ys)) in
    let r = least_of (widths_inside s (inside_block rest)) in
    let b = least_of (widths_inside s (assigned rest)) in
    rw (
      least_append (widths_inside s (inside c) ++ block_widths s xs ++ block_widths s ys) (block_widths s rest),
      least_append (widths_inside s (inside c) ++ block_widths s xs) (block_widths s ys),
      least_append (widths_inside s (inside c)) (block_widths s xs),
      widths_are s xs,
      widths_are s ys,
      widths_are s rest,
      least_flat (node_widths s) (inside c ++ inside_block xs ++ inside_block ys) (inside_block rest),
      least_flat (node_widths s) (inside c ++ inside_block xs) (inside_block ys),
      least_flat (node_widths s) (inside c) (inside_block xs),
      least_flat (node_widths s) (assigned xs ++ assigned ys) (assigned rest),
      least_flat (node_widths s) (assigned xs) (assigned ys),
    )
    (ap (λ z. earlier z (earlier r b)) (ap (λ z. earlier z (earlier y d)) (sym (earlier_assoc i x a)) ∙ earlier_pairs (earlier i x) a y d)
    ∙ earlier_pairs (earlier (earlier i x) y) (earlier a d) r b)
