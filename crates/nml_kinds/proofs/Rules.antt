-- The places in an and-rule, in the code's order and in that of the definitions.
use Rattle.std.proofs.Common.{ℕ, Bool, true, List, [], ◌∷◌, ◌++◌, flat_map, map, ◌≡◌, refl, ap, sym, ◌∙◌, Option, Some, None, option_map}
use Rattle.nml_tree.specs.declared.attributes.Attrs.{Attrs}
use Rattle.nml_tree.specs.declared.tree.Par.{Par}
use Rattle.nml_tree.specs.declared.tree.Pars.{Pars}
use Rattle.nml_tree.specs.declared.tree.Desc.{Desc}
use Rattle.nml_tree.specs.Formula.{Formula}
use Rattle.nml_tree.specs.Block.{action_block}
use Rattle.nml_tree.specs.Directives.{Syntax, Image, is_right}
use Rattle.nml_tree.specs.Inside.{handed_on, inside_value, inside_block, reads}
use Rattle.nml_tree.specs.Places.{earlier, least_of}
use Rattle.nml_tree.specs.Table.{pars_of, rule_of, table}
use Rattle.nml_tree.specs.TypeFault.{node_places, places_inside, parameter_places, value_places, block_places, rule_places}
use Rattle.nml_tree.specs.WidthFault.{node_widths, assigned, rule_widths}
use Rattle.nml_names.specs.Note.{noted}
use Rattle.nml_names.proofs.Notes.{noted_append}
use Rattle.nml_worth.specs.Around.{around}
use Rattle.nml_kinds.specs.Statements.{text_kinds, attribute_kinds, block_kinds, block_widths, value_kinds, value_widths, widths_inside}
use Rattle.nml_kinds.proofs.Orders.{earlier_assoc, earlier_pairs, least_append, noted_same}
use Rattle.nml_kinds.proofs.Blocks.{kinds_are, widths_are, least_flat}

reordered : (p v w s i b c : Option ℕ) → earlier (earlier p (earlier v w)) (earlier (earlier s i) (earlier b c)) ≡ earlier (earlier (earlier (earlier (earlier p v) s) i) b) (earlier w c)
reordered p v w s i b c =
    rw (← earlier_assoc p v w, ← earlier_assoc (earlier s i) b c, earlier_pairs (earlier p v) w (earlier (earlier s i) b) c)
    (ap (λ x. earlier x (earlier w c)) (sym (earlier_assoc (earlier p v) (earlier s i) b) ∙ ap (λ x. earlier x b) (sym (earlier_assoc (earlier p v) s i))))

-- the faults of kind of an and-rule, one part after the other
pub rule_noted : (d : Desc) (ps : Option Pars) (v : Option Formula) (a : Attrs) (found b c r : Option ℕ) → b ≡ noted found (flat_map (parameter_places (table d)) (pars_of ps))
    → c ≡ noted b (value_kinds (around (d, ps)) v) → r ≡ noted c (attribute_kinds (around (d, ps)) a) → r ≡ noted found (rule_places (table d) (rule_of ps v a))
rule_noted d ps v a found b c r first second third =
    let s = around (d, ps) in
    let p = flat_map (parameter_places (table d)) (pars_of ps) in
    let x = text_kinds (is_right Syntax s.pars a.syntax_text) a.syntax_text in
    let i = text_kinds (is_right Image s.pars a.image_text) a.image_text in
    let k = action_block a.action in
    let h = flat_map (value_places s) (handed_on v) in
    let w = places_inside s (inside_value v) in
    third ∙ rw (second, first) (sym (noted_append found (p ++ value_kinds s v) (attribute_kinds s a) ∙ ap (λ y. noted y (attribute_kinds s a)) (noted_append found p (value_kinds s v)))
    ∙ noted_same found (p ++ value_kinds s v ++ attribute_kinds s a) (rule_places (table d) (rule_of ps v a))
    (rw (
      least_append (p ++ value_kinds s v) (attribute_kinds s a),
      least_append p (value_kinds s v),
      least_append h w,
      least_append (x ++ i) (block_kinds s k),
      least_append x i,
      kinds_are s k,
      least_append (p ++ h ++ x ++ i ++ block_places s k) (places_inside s (inside_value v ++ inside_block k)),
      least_append (p ++ h ++ x ++ i) (block_places s k),
      least_append (p ++ h ++ x) i,
      least_append (p ++ h) x,
      least_append p h,
      least_flat (node_places s) (inside_value v) (inside_block k),
    )
    (reordered (least_of p) (least_of h) (least_of w) (least_of x) (least_of i) (least_of (block_places s k)) (least_of (places_inside s (inside_block k))))))

-- and of width
pub rule_width_noted : (d : Desc) (ps : Option Pars) (v : Option Formula) (a : Attrs) (found c r : Option ℕ)
    → c ≡ noted found (value_widths (around (d, ps)) v) → r ≡ noted c (block_widths (around (d, ps)) (action_block a.action)) → r ≡ noted found (rule_widths (table d) (rule_of ps v a))
rule_width_noted d ps v a found c r first second =
    let s = around (d, ps) in
    let k = action_block a.action in
    let h = widths_inside s (handed_on v) in
    let w = widths_inside s (inside_value v) in
    let x = widths_inside s (inside_block k) in
    let y = widths_inside s (assigned k) in
    second ∙ rw first (sym (noted_append found (value_widths s v) (block_widths s k))
    ∙ noted_same found (value_widths s v ++ block_widths s k) (rule_widths (table d) (rule_of ps v a))
    (rw (
      least_append (value_widths s v) (block_widths s k),
      least_append h w,
      widths_are s k,
      least_flat (node_widths s) (handed_on v ++ (inside_value v ++ inside_block k)) (assigned k),
      least_flat (node_widths s) (handed_on v) (inside_value v ++ inside_block k),
      least_flat (node_widths s) (inside_value v) (inside_block k),
    )
    (sym (earlier_assoc (earlier (least_of h) (least_of w)) (least_of x) (least_of y)) ∙ ap (λ z. earlier z (least_of y)) (earlier_assoc (least_of h) (least_of w) (least_of x)))))
