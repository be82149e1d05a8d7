-- The reading of the value of a mode, of actions and of attributes keeps the law.
use Rattle.std.proofs.Common.{◌≡◌, ℕ, ◌≤◌, List, ◌∷◌, ◌++◌, Option, Some, None, option_map, refl, ap, sym, subst, arith, lit≤}
use Rattle.std.specs.Prelude.{codes}
use Rattle.nml_tree.specs.declared.expression.Expr.{Expr}
use Rattle.nml_tree.specs.declared.statement.Stmt.{Stmt}
use Rattle.nml_tree.specs.declared.attributes.Template.{Template}
use Rattle.nml_tree.specs.declared.attributes.Action.{Action}
use Rattle.nml_tree.specs.declared.attributes.Attrs.{Attrs}
use Rattle.readings.specs.Symbol.{Symbol, fixed}
use Rattle.nml_tree.specs.Formula.{Formula, Numeral, formula}
use Rattle.nml_tree.specs.Block.{Block, Done, block, action_block}
use Rattle.nml_tree.specs.Spell.{formula_spelling, block_spelling}
use Rattle.nml_tree.specs.SpellItems.{template_spelling, action_spelling, attrs_spelling}
use Rattle.nml_tree.specs.Level.{IsLeveled, IsLeveledBlock}
use Rattle.nml_tree.specs.Depth.{depth, block_depth}
use Rattle.nml_tree.specs.Inverse.{expr_of, stmts_of}
use Rattle.nml_tree.proofs.Back.{expr_of-formula, stmts_of-block}
use Rattle.nml_grammar.specs.Reading.{climb, IsEnd}
use Rattle.nml_grammar.specs.ReadingStatements.{BeginsNone, statements}
use Rattle.readings.specs.Readings.{◌>>>◌, sign, optional}
use Rattle.nml_grammar.specs.ReadingItems.{template, stmts, action, attrs, value}
use Rattle.nml_grammar.proofs.Flat.{join5}
use Rattle.readings.proofs.Keeps.{kept_found}
use Rattle.nml_grammar.proofs.KeepsStatements.{statements_more}
use Rattle.nml_grammar.proofs.Complete.{complete, lift_climb}
use Rattle.nml_grammar.proofs.CompleteStatements.{complete_block}
use Rattle.nml_grammar.proofs.Sound.{sound}
use Rattle.nml_grammar.proofs.SoundStatements.{sound_block}
use Rattle.nml_grammar.proofs.Local.{climb_local}
use Rattle.nml_grammar.proofs.LocalStatements.{statements_local}
use Rattle.nml_grammar.proofs.Settled.{climb_settles}
use Rattle.nml_grammar.proofs.SettledStatements.{statements_settle}
use Rattle.nml_grammar.proofs.Viable.{viable}
use Rattle.nml_grammar.proofs.ViableStatements.{viable_block}
use Rattle.nml_grammar.proofs.OneAttribute.{NoAction}
use Rattle.nml_grammar.proofs.MadeOf.{formula-expr_of, block-stmts_of}
use Rattle.readings.specs.Lawful.{IsReading, Any, Anywhere, optional_spelling, optional_good, optional_ends}
use Rattle.readings.proofs.Combining.{other_law, then_law, then_free, sign_law, made_all}
use Rattle.readings.proofs.CombiningMarks.{optional_law}
use Rattle.nml_grammar.proofs.LawfulTexts.{template_law}

-- ---- expressions and statements

-- of a level and a depth that may be read there
record IsShallow (room : ℕ) (x : Formula) : Type 0 where
  leveled : IsLeveled x
  shallow : depth x ≤ room

pub record IsShallowBlock (room : ℕ) (b : Block) : Type 0 where
  pub leveled : IsLeveledBlock b
  pub shallow : block_depth b ≤ room

-- an expression of any level is read lawfully
formula_law : IsReading formula_spelling (IsShallow 199) (λ x r. IsEnd 0 x r) (λ n ss. climb n 0 199 ss)
formula_law =
    record {
      law = record {
        sound = λ n ss x rest e.
            let r = sound n 0 199 ss x rest (lit≤ tt) (lit≤ tt) e in
            record { fits = record { leveled = r.leveled; shallow = r.shallow }; is_end = r.ends; whole = r.spelled };
        complete = λ x rest g e.
            let a = complete x 0 199 rest g.leveled (omega arith) g.shallow e in
            (a.0, λ n le. lift_climb a.0 n 0 199 (formula_spelling x ++ rest) x rest le a.1);
        local = λ n. climb_local n 0 199;
        settled = climb_settles 0 199;
        viable = λ n ss rest e.
            let v = viable n 0 199 ss rest (lit≤ tt) (lit≤ tt) e in
            record {
              front = v.front;
              further = v.further;
              thing = v.expression;
              left = v.left;
              fits = record { leveled = v.good.leveled; shallow = v.good.shallow };
              whole = v.spelled;
            };
      };
      thing = Numeral (record { at = 0; value = 0 });
      fits = record { leveled = tt; shallow = lit≤ tt };
    }

-- statements are read lawfully
blocks_law : IsReading block_spelling (IsShallowBlock 198) (λ b r. BeginsNone r) (λ n ss. statements n 198 ss)
blocks_law =
    record {
      law = record {
        sound = λ n ss b rest e.
            let r = sound_block n 198 ss b rest (lit≤ tt) e in
            record { fits = record { leveled = r.fits.leveled; shallow = r.fits.shallow }; is_end = r.ends; whole = r.fits.spelled };
        complete = λ b rest g e.
            let a = complete_block b 198 rest g.leveled g.shallow e in (
              a.0,
              λ n le. kept_found (statements a.0 198 (block_spelling b ++ rest)) (statements n 198 (block_spelling b ++ rest)) b rest
                  (statements_more a.0 n 198 (block_spelling b ++ rest) le) a.1,
            );
        local = λ n. statements_local n 198;
        settled = statements_settle 198;
        viable = λ n ss rest e.
            let v = viable_block n 198 ss rest (lit≤ tt) e in
            record {
              front = v.front;
              further = v.further;
              thing = v.statements;
              left = v.left;
              fits = record { leveled = v.leveled; shallow = v.shallow };
              whole = v.spelled;
            };
      };
      thing = Done;
      fits = record { leveled = tt; shallow = lit≤ tt };
    }

-- the value of a mode
pub record IsValue (x : Expr) : Type 0 where
  pub leveled : IsLeveled (formula x)
  pub shallow : depth (formula x) ≤ 199

-- so is the value made of a formula
value_to : (x : Formula) → IsShallow 199 x → IsValue (expr_of x)
value_to x h = record { leveled = subst IsLeveled (sym (formula-expr_of x)) h.leveled; shallow = subst (λ y. depth y ≤ 199) (sym (formula-expr_of x)) h.shallow }

-- the value of a mode is read lawfully
pub value_law : IsReading (λ x. formula_spelling (formula x)) IsValue (λ x r. IsEnd 0 (formula x) r) value
value_law =
    made_all expr_of formula_spelling (IsShallow 199) (λ n ss. climb n 0 199 ss) (λ x. formula_spelling (formula x)) IsValue (λ x r. IsEnd 0 (formula x) r)
    (λ x. ap formula_spelling (formula-expr_of x)) value_to
    (λ y h. (formula y, record { leveled = h.leveled; shallow = h.shallow }, expr_of-formula y))
    (other_law formula_spelling (IsShallow 199) (IsShallow 199) (λ x r. IsEnd 0 x r) (λ x r. IsEnd 0 (formula (expr_of x)) r) (λ n ss. climb n 0 199 ss) (λ x h. h)
    (λ x h. h)
    (λ x r h. subst (λ y. IsEnd 0 y r) (sym (formula-expr_of x)) h) (λ x r h. subst (λ y. IsEnd 0 y r) (formula-expr_of x) h) formula_law)

-- the statements of an action
stmts_law : IsReading (λ xs. block_spelling (block xs)) (λ xs. IsShallowBlock 198 (block xs)) (λ xs r. BeginsNone r) stmts
stmts_law =
    made_all stmts_of block_spelling (IsShallowBlock 198) (λ n ss. statements n 198 ss) (λ xs. block_spelling (block xs)) (λ xs. IsShallowBlock 198 (block xs))
    (λ xs r. BeginsNone r)
    (λ b. ap block_spelling (block-stmts_of b)) (λ b h. subst (IsShallowBlock 198) (sym (block-stmts_of b)) h) (λ y h. (block y, h, stmts_of-block y)) blocks_law

-- ---- actions

-- `= { stmts }`
abbrev Braced : Type 0
Braced = ℕ × (ℕ × (List Stmt × ℕ))

-- its symbols
abbrev braced : Braced → List Symbol
braced x = fixed x.0 (codes "=") ++ (fixed x.1.0 (codes "{") ++ (block_spelling (block x.1.1.0) ++ fixed x.1.1.1 (codes "}")))

-- its statements may be read
abbrev braced_good : Braced → Type 0
braced_good x = IsShallowBlock 198 (block x.1.1.0)

-- it is read lawfully
braced_law : IsReading braced braced_good Anywhere (sign (codes "=") >>> (sign (codes "{") >>> (stmts >>> sign (codes "}"))))
braced_law =
    then_free _ _ _ _ _ _ (sign_law (codes "=")) (then_free _ _ _ _ _ _ (sign_law (codes "{"))
    (other_law (λ (x : List Stmt × ℕ). block_spelling (block x.0) ++ fixed x.1 (codes "}")) (λ x. IsShallowBlock 198 (block x.0) × Unit {0})
    (λ x. IsShallowBlock 198 (block x.0)) Anywhere Anywhere (stmts >>> sign (codes "}"))
    (λ x h. h.0) (λ x h. (h, tt)) (λ x r h. h) (λ x r h. h)
    (then_law (λ xs. block_spelling (block xs)) (λ xs. IsShallowBlock 198 (block xs)) (λ xs r. BeginsNone r) stmts (λ q. fixed q (codes "}")) Any Anywhere
    (sign (codes "}")) stmts_law (sign_law (codes "}")) (λ xs q r g h e. refl))))

-- the action that begins with the word
abbrev action_of : ℕ × Braced → Action
action_of x = record { action = x.0; equals = x.1.0; opening = x.1.1.0; stmts = x.1.1.1.0; closing = x.1.1.1.1 }

-- an action of leveled statements that are not too deep
abbrev pub action_good : Option Action → Type 0
action_good a = IsShallowBlock 198 (action_block a)

-- where there is none, none is next
abbrev pub action_ends : Option Action → List Symbol → Type 0
action_ends None r = NoAction r
action_ends (Some a) r = Unit {0}

-- its symbols are those of the parts
action_spelled : (x : Option (ℕ × Braced)) → action_spelling (option_map action_of x) ≡ optional_spelling (codes "action") braced x
action_spelled None = refl
action_spelled (Some (at, x)) = refl

-- it may be read where the parts may
action_to : (x : Option (ℕ × Braced)) → optional_good braced_good x → action_good (option_map action_of x)
action_to None h = record { leveled = tt; shallow = lit≤ tt }
action_to (Some (at, x)) h = h

-- it has parts
action_from : (y : Option Action) → action_good y → (x : Option (ℕ × Braced)) × optional_good braced_good x × (option_map action_of x ≡ y)
action_from None h = (None, tt, refl)
action_from (Some a) h = (Some (a.action, (a.equals, (a.opening, (a.stmts, a.closing)))), h, refl)

-- it ends where the parts end
ends_to : (x : Option (ℕ × Braced)) (r : List Symbol) → optional_ends (codes "action") Anywhere x r → action_ends (option_map action_of x) r
ends_to None r h = h
ends_to (Some (at, x)) r h = tt

-- and the parts where it ends
ends_from : (x : Option (ℕ × Braced)) (r : List Symbol) → action_ends (option_map action_of x) r → optional_ends (codes "action") Anywhere x r
ends_from None r h = h
ends_from (Some (at, x)) r h = tt

-- an action, or none, is read lawfully
pub action_law : IsReading action_spelling action_good action_ends action
action_law =
    made_all (option_map action_of) (optional_spelling (codes "action") braced) (optional_good braced_good)
    (optional (codes "action") (sign (codes "=") >>> (sign (codes "{") >>> (stmts >>> sign (codes "}")))))
    action_spelling action_good action_ends action_spelled action_to action_from
    (other_law (optional_spelling (codes "action") braced) (optional_good braced_good) (optional_good braced_good) (optional_ends (codes "action") Anywhere)
    (λ x r. action_ends (option_map action_of x) r)
    (optional (codes "action") (sign (codes "=") >>> (sign (codes "{") >>> (stmts >>> sign (codes "}"))))) (λ x h. h) (λ x h. h) ends_to ends_from
    (optional_law (codes "action") braced braced_good Anywhere (sign (codes "=") >>> (sign (codes "{") >>> (stmts >>> sign (codes "}")))) braced_law))

-- ---- attributes

-- the parts of attributes
abbrev Written : Type 0
Written = ℕ × (ℕ × (Template × (ℕ × (ℕ × (Template × Option Action)))))

-- their symbols
abbrev written : Written → List Symbol
written x =
    fixed x.0 (codes "syntax") ++ (fixed x.1.0 (codes "=") ++ (template_spelling x.1.1.0 ++ (fixed x.1.1.1.0 (codes "image") ++ (fixed x.1.1.1.1.0 (codes "=")
    ++ (template_spelling x.1.1.1.1.1.0 ++ action_spelling x.1.1.1.1.1.1)))))

-- the attributes of them
abbrev attrs_of : Written → Attrs
attrs_of x =
    record {
      syntax = x.0;
      syntax_equals = x.1.0;
      syntax_text = x.1.1.0;
      image = x.1.1.1.0;
      image_equals = x.1.1.1.1.0;
      image_text = x.1.1.1.1.1.0;
      action = x.1.1.1.1.1.1;
    }

-- attributes whose action may be read
abbrev pub attrs_good : Attrs → Type 0
attrs_good a = action_good a.action

-- they end where the action does
abbrev pub attrs_ends : Attrs → List Symbol → Type 0
attrs_ends a r = action_ends a.action r

-- the parts are read lawfully
written_law : IsReading written (λ x. action_good x.1.1.1.1.1.1) (λ x r. action_ends x.1.1.1.1.1.1 r)
    (sign (codes "syntax") >>> (sign (codes "=") >>> (template >>> (sign (codes "image") >>> (sign (codes "=") >>> (template >>> action))))))
written_law =
    then_free _ _ _ _ _ _ (sign_law (codes "syntax")) (then_free _ _ _ _ _ _ (sign_law (codes "=")) (then_free _ _ _ _ _ _ template_law
    (then_free _ _ _ _ _ _ (sign_law (codes "image")) (then_free _ _ _ _ _ _ (sign_law (codes "=")) (then_free _ _ _ _ _ _ template_law action_law)))))

-- attributes are read lawfully
pub attrs_law : IsReading attrs_spelling attrs_good attrs_ends attrs
attrs_law =
    made_all attrs_of written (λ x. action_good x.1.1.1.1.1.1)
    (sign (codes "syntax") >>> (sign (codes "=") >>> (template >>> (sign (codes "image") >>> (sign (codes "=") >>> (template >>> action))))))
    attrs_spelling attrs_good attrs_ends spelled (λ x h. h)
    (λ a h. ((a.syntax, (a.syntax_equals, (a.syntax_text, (a.image, (a.image_equals, (a.image_text, a.action)))))), h, refl)) written_law
  where
    spelled : (x : Written) → attrs_spelling (attrs_of x) ≡ written x
    spelled x =
        ap (λ u. Symbol.Fixed x.0 (codes "syntax") ∷ Symbol.Fixed x.1.0 (codes "=") ∷ u)
        (join5 (template_spelling x.1.1.0) (fixed x.1.1.1.0 (codes "image")) (fixed x.1.1.1.1.0 (codes "=")) (template_spelling x.1.1.1.1.1.0)
        (action_spelling x.1.1.1.1.1.1))
