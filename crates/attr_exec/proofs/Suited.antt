-- What statements assign suits its places, where each name that is assigned stands for a place of its kind.
use Rattle.std.proofs.Common.{List, [], ◌++◌, ◌≡◌, ℤ, pos, negsuc, map, arith, refl, sym, ◌∙◌, ap, subst, Some, Option, Bool, true, false}
use Rattle.std.specs.Prelude.{slice_get, if◌then◌else◌, ◌&&◌, unsigned_abs, nat_le}
use Rattle.std.specs.Map.{lookup}
use Rattle.std.proofs.lemmas.Int.{ints}
use Rattle.std.proofs.lemmas.Bool.{le-leb}
use Rattle.nk_base.specs.Text.{text_eq}
use Rattle.nk_base.specs.Number.{InRange}
use Rattle.nk_base.specs.declared.number.Ty.{Ty}
use Rattle.nk_base.specs.declared.number.Ty.TheVariants as tys
use Rattle.nml_tree.specs.declared.names.Name.{Name}
use Rattle.nml_tree.specs.Formula as formula
use Rattle.nml_tree.specs.Formula.{Formula}
use Rattle.nml_tree.specs.Block as block
use Rattle.nml_tree.specs.Block.{Block, Index}
use Rattle.nml_tree.specs.Inside.{inside, inside_index, inside_block}
use Rattle.nml_tree.specs.Places.{unless, when}
use Rattle.nml_tree.specs.Table.{Text, Table, Rule}
use Rattle.nml_tree.specs.Worth.{Kind, Number, Truth, Unknown, Nothing, Scope, is_other, is_type, of_ty, of_name, worth, rule_scope}
use Rattle.nml_tree.specs.TypeFault.{place_kind, is_indexed, is_named_rightly, index_places, assigned_places, operand_places, block_places}
use Rattle.nml_tree.specs.Directives.{is_part, parameter}
use Rattle.nml_tree.specs.Act as act
use Rattle.nml_tree.specs.Act.{Term, Act, Cell, Trn, followed, assigned}
use Rattle.nml_tree.specs.Value.{Cells, value}
use Rattle.nml_tree.specs.Exec.{storages, trn_types, out_type}
use Rattle.nml_tree.specs.Written as written
use Rattle.nml_tree.specs.Written.{reference, index_term, term, action_of}
use Rattle.nml_state.specs.Cells.{Shown}
use Rattle.nml_state.specs.Wrapping.{has_cell, wraps, wraps_into}
use Rattle.nml_widths.specs.Fitting.{Each, Everywhere, PlaceBelow, PlacesBelow, Sound, Within}
use Rattle.nml_widths.proofs.Fits.{AreRight, right_left, right_right, no_left, no_right, unless_none, when_none, both_left, both_right}
use Rattle.attr_exec.specs.Seen.{view}
use Rattle.attr_exec.proofs.Suits.{IsNow, Suits}

-- a type that may stand in a place of this kind
abbrev pub IsOfKind : Kind → Ty → Type 0
IsOfKind k u = (is_type u ≡ true) × ((of_ty u).kind ≡ k)

-- a term that may be assigned is a place of this kind; what isn't one isn't assigned
abbrev pub IsPlace : Table → List ℤ → Option ℤ → Cells → Kind → Term → Type 0
IsPlace t zs next cells k (Cell n i) =
    (u : Ty) × (slice_get (map (λ x. x.1) (storages t)) n ≡ Some u) × IsOfKind k u
    × ((s : Shown) → IsNow t zs next cells s → has_cell s.cells n (unsigned_abs (value (view zs s next) i)) ≡ true)
IsPlace t zs next cells k (Trn n) = (u : Ty) × (slice_get (trn_types t) n ≡ Some u) × IsOfKind k u
IsPlace t zs next cells k Term.Out = IsOfKind k (out_type t)
IsPlace t zs next cells k _ = Unit {0}

wraps_bool : (z : ℤ) → InRange tys.Bool z → wraps tys.Bool z ≡ true
wraps_bool (pos n) h = let a : nat_le 0 n ≡ true = le-leb 0 n (omega arith) in let b : nat_le n 1 ≡ true = le-leb n 1 (omega (arith, ints, h.1)) in rw (a, b) refl
wraps_bool (negsuc n) h = absurd (omega (arith, ints, h.0))

no_number : (k : Kind) → is_other Truth k ≡ false → k ≡ Number → ⊥
no_number Number h e = absurd cc
no_number Truth h e = cc
no_number Unknown h e = cc
no_number Nothing h e = cc

-- a value of the kind of a place can be wrapped into its type
wraps_kind : (u : Ty) (k j : Kind) (z : ℤ) → IsOfKind k u → is_other k j ≡ false → ((j ≡ Number → ⊥) → InRange tys.Bool z) → wraps u z ≡ true
wraps_kind tys.Bool k j z h other f = wraps_bool z (f (no_number j (ap (λ q. is_other q j) h.1 ∙ other)))
wraps_kind (tys.Card n) k j z h other f = h.0
wraps_kind (tys.Int n) k j z h other f = h.0

-- of an expression itself
at_top : (P : Formula → Type 0) (x : Formula) → Everywhere P x → P x
at_top P (formula.Numeral n) h = h
at_top P (formula.Truth at b) h = h
at_top P (formula.Named n) h = h
at_top P (formula.Indexed n p i q) h = h.0
at_top P (formula.Paren p x q) h = h.0
at_top P (formula.Fitted f at p n c x q) h = h.0
at_top P (formula.Bits at p x c high d low q) h = h.0
at_top P (formula.Choose at c t x f y end) h = h.0
at_top P (formula.Unary op at x) h = h.0
at_top P (formula.Binary op x at y) h = h.0

module _ (t : Table) (zs : List ℤ) (next : Option ℤ) (cells : Cells) where
  -- the one action, then the other
  pub suits_followed : (a b : Act) → Suits t zs next cells a → Suits t zs next cells b → Suits t zs next cells (followed a b)
  suits_followed act.Done b h k = k
  suits_followed (act.SetCell n i e a) b h k = (h.0, suits_followed a b h.1 k)
  suits_followed (act.SetTrn n e a) b h k = (h.0, suits_followed a b h.1 k)
  suits_followed (act.Put e a) b h k = (h.0, suits_followed a b h.1 k)
  suits_followed (act.Halt e a) b h k = suits_followed a b h k
  suits_followed (act.When c x y a) b h k = (h.0, h.1, suits_followed a b h.2 k)

  -- a place that is given a value, which can be wrapped into any type of its kind
  suits_assigned : (p e : Term) (k : Kind) (rest : Act) → IsPlace t zs next cells k p → ((u : Ty) → IsOfKind k u → (s : Shown) → IsNow t zs next cells s → wraps u (value (view zs s next) e) ≡ true)
      → Suits t zs next cells rest → Suits t zs next cells (assigned p e rest)
  suits_assigned (Term.Number z) e k rest p f r = r
  suits_assigned (Term.Field n) e k rest p f r = r
  suits_assigned (Cell n i) e k rest p f r = (
    λ s now. (p.3 s now, subst (λ (o : Option Ty). wraps_into o (value (view zs s next) e) ≡ true) (sym (ap (λ ts. slice_get ts n) now.types_are ∙ p.1)) (f p.0 p.2 s now)),
    r,
  )
  suits_assigned (Trn n) e k rest p f r = (
    λ s now. subst (λ (o : Option Ty). wraps_into o (value (view zs s next) e) ≡ true) (sym (ap (λ ts. slice_get ts n) now.trn_types_are ∙ p.1)) (f p.0 p.2 s now),
    r,
  )
  suits_assigned Term.Inp e k rest p f r = r
  suits_assigned Term.Out e k rest p f r = (λ s now. f (out_type t) p s now, r)
  suits_assigned (Term.Unary op x) e k rest p f r = r
  suits_assigned (Term.Binary op x y) e k rest p f r = r
  suits_assigned (Term.Choose c x y) e k rest p f r = r

  module _ (rule : Rule) (parts : written.Scope) where
    abbrev s : Scope
    s = rule_scope t rule

    -- what stands round the statements of a rule
    pub record Around : Type 0 where
      pub places : (n : Name) (i : Index) → is_named_rightly s (is_indexed i) n ≡ true → ((c : Shown) → IsNow t zs next cells c → PlaceBelow s parts (view zs c next) n i) → IsPlace t zs next cells (of_name s n.text).kind (reference t parts n.text (index_term t parts i))
      pub actions : (q : Text) → Suits t zs next cells (action_of (lookup (text_eq q) parts))
      pub truths : (x : Formula) → AreRight s (inside x) → ((worth s x).kind ≡ Number → ⊥) → (z : ℤ) → Within (worth s x).cap z → InRange tys.Bool z

    named_place : (n : Name) (i : Index) (e : Formula) → assigned_places s n i e ≡ [] → (is_named_rightly s (is_indexed i) n ≡ true) × (is_other (of_name s n.text).kind (worth s e).kind ≡ false)
    named_place n i e h =
        let w = of_name s n.text in
        let front = no_left (unless (w.is_place && is_named_rightly s (is_indexed i) n) n.at ++ when (is_other (place_kind w) (worth s e).kind) n.at) (index_places s i) h in
        let a : (w.is_place && is_named_rightly s (is_indexed i) n) ≡ true = unless_none _ n.at (no_left _ _ front) in
        let k : is_other (place_kind w) (worth s e).kind ≡ false = when_none _ n.at (no_right (unless (w.is_place && is_named_rightly s (is_indexed i) n) n.at) _ front) in
        (both_right _ _ a, subst (λ (b : Bool). is_other (if b then w.kind else Unknown) (worth s e).kind ≡ false) (both_left _ _ a) k)

    -- in each state the expressions fit, and indices are below
    abbrev pub IsSoundBlock : Block → Type 0
    IsSoundBlock b = (c : Shown) → IsNow t zs next cells c → Each (Everywhere (Sound s parts (view zs c next))) b × PlacesBelow s parts (view zs c next) b

    pub suits_block : Around → (b : Block) → block_places s b ≡ [] → AreRight s (inside_block b) → IsSoundBlock b → Suits t zs next cells (written.act t parts b)
    suits_block around block.Done h right sound = tt
    suits_block around (block.Assign n i at e semicolon rest) h right sound =
        let p = named_place n i e (no_left _ _ h) in
        let front = right_left s (inside_index i ++ inside e) (inside_block rest) right in
        suits_assigned (reference t parts n.text (index_term t parts i)) (term t parts e) (of_name s n.text).kind (written.act t parts rest)
        (around.places n i p.0 (λ c now. (sound c now).1.0))
        (λ u of c now. wraps_kind u (of_name s n.text).kind (worth s e).kind (value (view zs c next) (term t parts e)) of p.1
        (λ none. around.truths e (right_right s (inside_index i) (inside e) front) none (value (view zs c next) (term t parts e)) (at_top (Sound s parts (view zs c next)) e (sound c now).0.1).fits.within))
        (suits_block around rest (no_right (assigned_places s n i e) _ h) (right_right s (inside_index i ++ inside e) (inside_block rest) right) (λ c now. ((sound c now).0.2, (sound c now).1.1)))
    suits_block around (block.Part n dot at semicolon rest) h right sound =
        suits_followed (action_of (lookup (text_eq n.text) parts)) (written.act t parts rest) (around.actions n.text)
        (suits_block around rest (no_right (unless (is_part (parameter s.pars n.text)) n.at) _ h) right sound)
    suits_block around (block.Halt at p e q semicolon rest) h right sound =
        suits_block around rest (no_right (operand_places s Number e) _ h) (right_right s (inside e) (inside_block rest) right) (λ c now. ((sound c now).0.1, (sound c now).1))
    suits_block around (block.If at e b xs end semicolon rest) h right sound =
        let front = no_left (operand_places s Truth e ++ block_places s xs) (block_places s rest) h in
        let reads = right_left s (inside e ++ inside_block xs) (inside_block rest) right in (
          suits_block around xs (no_right (operand_places s Truth e) _ front) (right_right s (inside e) (inside_block xs) reads) (λ c now. ((sound c now).0.1, (sound c now).1.0)),
          tt,
          suits_block around rest (no_right (operand_places s Truth e ++ block_places s xs) _ h) (right_right s (inside e ++ inside_block xs) (inside_block rest) right) (λ c now. ((sound c now).0.2, (sound c now).1.1)),
        )
    suits_block around (block.IfElse at e b xs f ys end semicolon rest) h right sound =
        let front = no_left (operand_places s Truth e ++ block_places s xs ++ block_places s ys) (block_places s rest) h in
        let first = no_left (operand_places s Truth e ++ block_places s xs) (block_places s ys) front in
        let reads = right_left s (inside e ++ inside_block xs ++ inside_block ys) (inside_block rest) right in
        let reads_first = right_left s (inside e ++ inside_block xs) (inside_block ys) reads in (
          suits_block around xs (no_right (operand_places s Truth e) _ first) (right_right s (inside e) (inside_block xs) reads_first) (λ c now. ((sound c now).0.1, (sound c now).1.0)),
          suits_block around ys (no_right (operand_places s Truth e ++ block_places s xs) _ front) (right_right s (inside e ++ inside_block xs) (inside_block ys) reads) (λ c now. ((sound c now).0.2, (sound c now).1.1)),
          suits_block around rest (no_right (operand_places s Truth e ++ block_places s xs ++ block_places s ys) _ h) (right_right s (inside e ++ inside_block xs ++ inside_block ys) (inside_block rest) right) (λ c now. ((sound c now).0.3, (sound c now).1.2)),
        )
