-- The places at which a name of an item is wrong, in the order in which they are looked for and in that in which they are told.
use Rattle.std.proofs.Common.{◌≡◌, ℕ, zero, suc, ◌+◌, ◌<◌, ◌≤◌, max, nat_lt, Bool, true, false, ◌||◌, ◌&&◌, cond, List, [], ◌∷◌, ◌++◌, map, flat_map, take, Option, Some, None, refl, ap, sym, ◌∙◌, arith, if◌then◌else◌, codes}
use Rattle.std.specs.List.{list_any}
use Rattle.std.specs.Map.{lookup}
use Rattle.std.proofs.lemmas.Bool.{lt-ltb, ltb-true}
use Rattle.std.specs.Option.{option_or}
use Rattle.std.proofs.lemmas.List.Folds.{list_any-append}
use Rattle.indexmap.specs.IndexSet.{insert_key}
use Rattle.nk_base.specs.Text.{text_eq}
use Rattle.nml_tree.specs.declared.names.Name.{Name}
use Rattle.nml_tree.specs.declared.tree.Item.{Item}
use Rattle.nml_tree.specs.declared.tree.Item.TheVariants as item
use Rattle.nml_tree.specs.declared.tree.PortWord.{PortWord}
use Rattle.nml_tree.specs.declared.tree.PortWord.TheVariants as port
use Rattle.nml_tree.specs.declared.tree.Desc.{Desc}
use Rattle.nml_tree.specs.declared.tree.Pars.{Pars}
use Rattle.nml_tree.specs.Table.{Text, Table, Declared, port_of, type_or_none, table, entry, entries}
use Rattle.nml_tree.specs.Uses.{uses, declares, parameters}
use Rattle.nml_tree.specs.Places.{least_of, unless, when}
use Rattle.nml_tree.specs.NameFault.{is_among, is_known, may_stand_behind, are_same_port, is_same_port, unknown_places, declared_places, parameter_places, shared_places, item_name_places, is_rule}
use Rattle.nml_tree.proofs.SameText.{same_text}
use Rattle.nml_names.specs.declared.names.Declaration.{Declaration}
use Rattle.nml_names.specs.Note.{noted}
use Rattle.nml_names.specs.Naming.{constant_of, declaration, least_place, is_late}
use Rattle.nml_names.specs.Found.{is_before, is_declared, is_found_in, met, repeated, with_names, names_of, shared, all_shared, is_inp, is_out, is_inp_word, is_out_word, is_second, own_places, item_found}
use Rattle.nml_names.proofs.Notes.{noted_append, noted_is, noted_swap, met_is}

-- the code's steps are the item's places
pub item_is : (names : List (Text × Declaration)) (k : ℕ) (inp out : Bool) (i : Item) (found : Option ℕ) (pars : Option Pars) (keys : List Text) (a b c : Option ℕ)
    → names_of pars ≡ parameters i → keys ≡ with_names [] (names_of pars) → a ≡ noted found (repeated [] (names_of pars))
    → b ≡ met (is_found_in names keys k) a (uses i) → c ≡ noted b (own_places names k inp out i)
    → noted c (all_shared names (names_of pars)) ≡ item_found names k inp out i found
item_is names k inp out i found pars keys a b c of ks ra rb rc = rw (rc, rb, ra, ks, of) refl

or_false : (b : Bool) → (b || false) ≡ b
or_false true = refl
or_false false = refl

or_assoc : (a b c : Bool) → ((a || b) || c) ≡ (a || (b || c))
or_assoc true b c = refl
or_assoc false b c = refl

never : (a b : Bool) → false ≡ ((a && false) || (b && false))
never true true = refl
never true false = refl
never false true = refl
never false false = refl

-- a test of numbers
lt_true : (a b : ℕ) → a < b → nat_lt a b ≡ true
lt_true a b h = lt-ltb a b h

lt_false : (a b : ℕ) → b ≤ a → nat_lt a b ≡ false
lt_false a b h = by (nat_lt a b) refl
  where
    by : (x : Bool) → nat_lt a b ≡ x → nat_lt a b ≡ false
    by true e = let l = ltb-true a b e in absurd (omega (arith, l, h))
    by false e = e

-- whether the set has a name: one of it, or the one that was put into it
pub keyed : (keys : List Text) (p q : Text) → list_any (text_eq q) (insert_key text_eq keys p) ≡ (list_any (text_eq q) keys || text_eq q p)
keyed keys p q = by (list_any (text_eq p) keys) (text_eq q p) refl refl
  where
    by : (x y : Bool) → list_any (text_eq p) keys ≡ x → text_eq q p ≡ y → list_any (text_eq q) (if list_any (text_eq p) keys then keys else keys ++ p ∷ []) ≡ (list_any (text_eq q) keys || text_eq q p)
    by true true e f = let same : q ≡ p = same_text q p f in rw (e, f, same, e) refl
    by true false e f = rw (e, f) (sym (or_false (list_any (text_eq q) keys)))
    by false y e f = rw (e, list_any-append (text_eq q) keys (p ∷ []), or_false (text_eq q p)) refl

pub with_names_has : (keys : List Text) (ps : List Name) (q : Text) → list_any (text_eq q) (with_names keys ps) ≡ (list_any (text_eq q) keys || is_among q ps)
with_names_has keys [] q = sym (or_false (list_any (text_eq q) keys))
with_names_has keys (p ∷ ps) q = rw (with_names_has (insert_key text_eq keys p.text) ps q, keyed keys p.text q) (or_assoc (list_any (text_eq q) keys) (text_eq q p.text) (is_among q ps))

-- names that are repeated
pub repeated_is : (keys : List Text) (before ps : List Name) → ((q : Text) → list_any (text_eq q) keys ≡ is_among q before) → repeated keys ps ≡ parameter_places before ps
repeated_is keys before [] same = refl
repeated_is keys before (p ∷ ps) same =
    ap (λ b. when (b || text_eq p.text (codes "PC") || text_eq p.text (codes "instruction")) p.at ++ repeated (insert_key text_eq keys p.text) ps) (same p.text)
    ∙ ap (λ xs. when (is_among p.text before || text_eq p.text (codes "PC") || text_eq p.text (codes "instruction")) p.at ++ xs)
    (repeated_is (insert_key text_eq keys p.text) (before ++ p ∷ []) ps (λ q.
    keyed keys p.text q ∙ rw (same q, list_any-append (λ n. text_eq q n.text) before (p ∷ []), or_false (text_eq q p.text)) refl))

-- the parameter's place, and those of the items that declare its name
least_shared : (j : ℕ) (all : List Item) (p : Name) → least_of (shared p.at (declaration j all p.text)) ≡ least_of (shared_places all p)
least_shared j [] p = refl
least_shared j (i ∷ all) p = by (text_eq p.text (declares i).text) (declaration (j + 1) all p.text) (least_shared (j + 1) all p)
  where
    by : (b : Bool) (d : Option Declaration) → least_of (shared p.at d) ≡ least_of (shared_places all p)
        → least_of (shared p.at (if b then Some (record { first = j; place = least_place (declares i).at d; late = is_late i; rule = is_rule i; constant = constant_of i }) else d)) ≡ least_of (when b (max p.at (declares i).at) ++ shared_places all p)
    by true None h = rw (← h) refl
    by true (Some d) h = rw (← h) (ap Some (omega arith))
    by false d h = h

pub shared_is : (names : List (Text × Declaration)) (all : List Item) (ps : List Name) (found : Option ℕ) → ((q : Text) → lookup (text_eq q) names ≡ declaration 0 all q)
    → noted found (all_shared names ps) ≡ noted found (flat_map (shared_places all) ps)
shared_is names all [] found same = refl
shared_is names all (p ∷ ps) found same =
    let one : noted found (shared p.at (lookup (text_eq p.text) names)) ≡ noted found (shared_places all p) =
    rw (same p.text, noted_is found (shared p.at (declaration 0 all p.text)), noted_is found (shared_places all p), least_shared 0 all p) refl in
    noted_append found (shared p.at (lookup (text_eq p.text) names)) (all_shared names ps)
    ∙ ap (λ f. noted f (all_shared names ps)) one
    ∙ shared_is names all ps (noted found (shared_places all p)) same
    ∙ sym (noted_append found (shared_places all p) (flat_map (shared_places all) ps))

-- ports of a kind
second_none : (i : Item) → is_second false false i ≡ false
second_none i = refl

same_port : (i j : Item) → are_same_port i j ≡ ((is_inp j && is_inp i) || (is_out j && is_out i))
same_port (item.Port p) (item.Port q) = words p.word q.word
  where
    words : (x y : PortWord) → is_same_port x y ≡ ((is_inp_word y && is_inp_word x) || (is_out_word y && is_out_word x))
    words (port.Trn a) (port.Trn b) = refl
    words (port.Trn a) (port.Inp b) = refl
    words (port.Trn a) (port.Out b) = refl
    words (port.Inp a) (port.Trn b) = refl
    words (port.Inp a) (port.Inp b) = refl
    words (port.Inp a) (port.Out b) = refl
    words (port.Out a) (port.Trn b) = refl
    words (port.Out a) (port.Inp b) = refl
    words (port.Out a) (port.Out b) = refl
same_port (item.Port p) (item.Let at n equals minus z) = refl
same_port (item.Port p) (item.Type at n equals e) = refl
same_port (item.Port p) (item.Storage s) = refl
same_port (item.Port p) (item.OrRule r) = refl
same_port (item.Port p) (item.OpRule r) = refl
same_port (item.Port p) (item.ModeRule r) = refl
same_port (item.Let at n equals minus z) j = never (is_inp j) (is_out j)
same_port (item.Type at n equals e) j = never (is_inp j) (is_out j)
same_port (item.Storage s) j = never (is_inp j) (is_out j)
same_port (item.OrRule r) j = never (is_inp j) (is_out j)
same_port (item.OpRule r) j = never (is_inp j) (is_out j)
same_port (item.ModeRule r) j = never (is_inp j) (is_out j)

either_way : (a b c d p q : Bool) → (((a && p) || (b && q)) || ((c && p) || (d && q))) ≡ (((a || c) && p) || ((b || d) && q))
either_way true true true true true true = refl
either_way true true true true true false = refl
either_way true true true true false true = refl
either_way true true true true false false = refl
either_way true true true false true true = refl
either_way true true true false true false = refl
either_way true true true false false true = refl
either_way true true true false false false = refl
either_way true true false true true true = refl
either_way true true false true true false = refl
either_way true true false true false true = refl
either_way true true false true false false = refl
either_way true true false false true true = refl
either_way true true false false true false = refl
either_way true true false false false true = refl
either_way true true false false false false = refl
either_way true false true true true true = refl
either_way true false true true true false = refl
either_way true false true true false true = refl
either_way true false true true false false = refl
either_way true false true false true true = refl
either_way true false true false true false = refl
either_way true false true false false true = refl
either_way true false true false false false = refl
either_way true false false true true true = refl
either_way true false false true true false = refl
either_way true false false true false true = refl
either_way true false false true false false = refl
either_way true false false false true true = refl
either_way true false false false true false = refl
either_way true false false false false true = refl
either_way true false false false false false = refl
either_way false true true true true true = refl
either_way false true true true true false = refl
either_way false true true true false true = refl
either_way false true true true false false = refl
either_way false true true false true true = refl
either_way false true true false true false = refl
either_way false true true false false true = refl
either_way false true true false false false = refl
either_way false true false true true true = refl
either_way false true false true true false = refl
either_way false true false true false true = refl
either_way false true false true false false = refl
either_way false true false false true true = refl
either_way false true false false true false = refl
either_way false true false false false true = refl
either_way false true false false false false = refl
either_way false false true true true true = refl
either_way false false true true true false = refl
either_way false false true true false true = refl
either_way false false true true false false = refl
either_way false false true false true true = refl
either_way false false true false true false = refl
either_way false false true false false true = refl
either_way false false true false false false = refl
either_way false false false true true true = refl
either_way false false false true true false = refl
either_way false false false true false true = refl
either_way false false false true false false = refl
either_way false false false false true true = refl
either_way false false false false true false = refl
either_way false false false false false true = refl
either_way false false false false false false = refl

pub second_is : (i : Item) (earlier : List Item) → list_any (are_same_port i) earlier ≡ is_second (list_any is_inp earlier) (list_any is_out earlier) i
second_is i [] = refl
second_is i (j ∷ js) = rw (same_port i j, second_is i js) (either_way (is_inp j) (is_out j) (list_any is_inp js) (list_any is_out js) (is_inp i) (is_out i))

-- where a name is declared
none_before : (j m : ℕ) (items : List Item) (name : Text) → m ≤ j → is_before m (declaration j items name) ≡ false
none_before j m [] name low = refl
none_before j m (i ∷ items) name low = by (text_eq name (declares i).text) (declaration (j + 1) items name) (none_before (j + 1) m items name (omega (arith, low)))
  where
    by : (b : Bool) (d : Option Declaration) → is_before m d ≡ false → is_before m (if b then Some (record { first = j; place = least_place (declares i).at d; late = is_late i; rule = is_rule i; constant = constant_of i }) else d) ≡ false
    by true d h = lt_false j m low
    by false d h = h

before_from : (j k m : ℕ) (items : List Item) (name : Text) → m ≡ j + k → is_before m (declaration j items name) ≡ is_among name (map declares (take k items))
before_from j zero m items name is = none_before j m items name (omega (arith, is))
before_from j (suc k) m [] name is = refl
before_from j (suc k) m (i ∷ items) name is = by (text_eq name (declares i).text) (declaration (j + 1) items name) (before_from (j + 1) k m items name (omega (arith, is)))
  where
    by : (b : Bool) (d : Option Declaration) → is_before m d ≡ is_among name (map declares (take k items))
        → is_before m (if b then Some (record { first = j; place = least_place (declares i).at d; late = is_late i; rule = is_rule i; constant = constant_of i }) else d) ≡ (b || is_among name (map declares (take k items)))
    by true d h = lt_true j m (omega (arith, is))
    by false d h = h

pub before_is : (k : ℕ) (items : List Item) (name : Text) → is_before k (declaration 0 items name) ≡ is_among name (map declares (take k items))
before_is k items name = before_from 0 k k items name (omega arith)

-- whether the first may stand behind a use
abbrev late_of : Option Declaration → Bool
late_of None = false
late_of (Some d) = d.late

declared_late : (k : ℕ) (d : Option Declaration) → is_declared k d ≡ (is_before k d || late_of d)
declared_late k None = refl
declared_late k (Some d) = refl

abbrev later : Option Declared → Option Declaration → Bool
later None d = late_of d
later (Some x) d = may_stand_behind (Some x)

entry_name : (t : Table) (i : Item) → (entry t i).0 ≡ (declares i).text
entry_name t (item.Let at n equals minus z) = refl
entry_name t (item.Type at n equals e) = refl
entry_name t (item.Storage s) = refl
entry_name t (item.Port p) = refl
entry_name t (item.OrRule r) = refl
entry_name t (item.OpRule r) = refl
entry_name t (item.ModeRule r) = refl

entry_late : (t : Table) (i : Item) → may_stand_behind (Some (entry t i).1) ≡ is_late i
entry_late t (item.Let at n equals minus z) = refl
entry_late t (item.Type at n equals e) = refl
entry_late t (item.Storage s) = refl
entry_late t (item.Port p) = word p.word
  where
    word : (w : PortWord) → may_stand_behind (Some (port_of t w (type_or_none t p.ty))) ≡ true
    word (port.Trn a) = refl
    word (port.Inp a) = refl
    word (port.Out a) = refl
entry_late t (item.OrRule r) = refl
entry_late t (item.OpRule r) = refl
entry_late t (item.ModeRule r) = refl

found_behind : (name : Text) (t : Table) (e : Text × Declared) → lookup (text_eq name) (t ++ e ∷ []) ≡ option_or (lookup (text_eq name) t) (if text_eq name e.0 then Some e.1 else None)
found_behind name [] e = refl
found_behind name (x ∷ t) e = by (text_eq name x.0) (found_behind name t e)
  where
    by : (b : Bool) → lookup (text_eq name) (t ++ e ∷ []) ≡ option_or (lookup (text_eq name) t) (if text_eq name e.0 then Some e.1 else None) → cond b (Some x.1) (lookup (text_eq name) (t ++ e ∷ [])) ≡ option_or (cond b (Some x.1) (lookup (text_eq name) t)) (if text_eq name e.0 then Some e.1 else None)
    by true h = refl
    by false h = h

late_is : (t : Table) (j : ℕ) (items : List Item) (name : Text) → may_stand_behind (lookup (text_eq name) (entries t items)) ≡ later (lookup (text_eq name) t) (declaration j items name)
late_is t j [] name = by (lookup (text_eq name) t)
  where
    by : (x : Option Declared) → may_stand_behind x ≡ later x None
    by None = refl
    by (Some x) = refl
late_is t j (i ∷ items) name =
    late_is (t ++ entry t i ∷ []) (j + 1) items name
    ∙ ap (λ x. later x (declaration (j + 1) items name)) (found_behind name t (entry t i) ∙ ap (λ n. option_or (lookup (text_eq name) t) (if text_eq name n then Some (entry t i).1 else None)) (entry_name t i))
    ∙ by (lookup (text_eq name) t) (text_eq name (declares i).text) (declaration (j + 1) items name)
  where
    by : (x : Option Declared) (b : Bool) (d : Option Declaration)
        → later (option_or x (if b then Some (entry t i).1 else None)) d ≡ later x (if b then Some (record { first = j; place = least_place (declares i).at d; late = is_late i; rule = is_rule i; constant = constant_of i }) else d)
    by (Some x) b d = refl
    by None true d = entry_late t i
    by None false d = refl

-- a name is found where it is known
pub known_is : (names : List (Text × Declaration)) (d : Desc) (k : ℕ) (i : Item) (n : Name) → ((q : Text) → lookup (text_eq q) names ≡ declaration 0 d.items q)
    → is_found_in names (with_names [] (parameters i)) k n.text ≡ is_known (table d) (take k d.items) i n
known_is names d k i n same =
    rw (with_names_has [] (parameters i) n.text, same n.text, declared_late k (declaration 0 d.items n.text), before_is k d.items n.text, late_is [] 0 d.items n.text)
    (sym (or_assoc (is_among n.text (parameters i)) (is_among n.text (map declares (take k d.items))) (late_of (declaration 0 d.items n.text))))

unknown_is : (names : List (Text × Declaration)) (d : Desc) (k : ℕ) (i : Item) (ns : List Name) → ((q : Text) → lookup (text_eq q) names ≡ declaration 0 d.items q)
    → flat_map (λ n. unless (is_found_in names (with_names [] (parameters i)) k n.text) n.at) ns ≡ flat_map (λ n. unless (is_known (table d) (take k d.items) i n) n.at) ns
unknown_is names d k i [] same = refl
unknown_is names d k i (n ∷ ns) same = rw (known_is names d k i n same, unknown_is names d k i ns same) refl

own_is : (names : List (Text × Declaration)) (d : Desc) (k : ℕ) (i : Item) → ((q : Text) → lookup (text_eq q) names ≡ declaration 0 d.items q)
    → own_places names k (list_any is_inp (take k d.items)) (list_any is_out (take k d.items)) i ≡ declared_places (take k d.items) i
own_is names d k i same = rw (same (declares i).text, before_is k d.items (declares i).text, ← second_is i (take k d.items)) refl

-- all places of an item
pub item_places_is : (names : List (Text × Declaration)) (d : Desc) (k : ℕ) (i : Item) (found : Option ℕ) → ((q : Text) → lookup (text_eq q) names ≡ declaration 0 d.items q)
    → item_found names k (list_any is_inp (take k d.items)) (list_any is_out (take k d.items)) i found ≡ noted found (item_name_places (table d) d.items (take k d.items) i)
item_places_is names d k i found same =
    let ps = parameters i in
    let u = unknown_places (table d) (take k d.items) i in
    let o = declared_places (take k d.items) i in
    let p = parameter_places [] ps in
    let s = flat_map (shared_places d.items) ps in
    let seen : met (is_found_in names (with_names [] ps) k) (noted found p) (uses i) ≡ noted (noted found u) p =
    met_is (is_found_in names (with_names [] ps) k) (noted found p) (uses i) ∙ ap (noted (noted found p)) (unknown_is names d k i (uses i) same) ∙ noted_swap found p u in
    let all : noted found (u ++ o ++ p ++ s) ≡ noted (noted (noted (noted found u) o) p) s = rw (noted_append found (u ++ o ++ p) s, noted_append found (u ++ o) p, noted_append found u o) refl in
    rw (repeated_is [] [] ps (λ q. refl), seen, own_is names d k i same, noted_swap (noted found u) p o, shared_is names d.items ps (noted (noted (noted found u) o) p) same) (sym all)
