-- Every path is legal exactly where no two events that meet clash.
use Rattle.std.proofs.Common.{List, [], ◌∷◌, ◌++◌, map, ◌≡◌, refl, sym, ◌∙◌, ap, subst, Bool, true, false, inl, inr}
use Rattle.std.specs.Prelude.{◌&&◌, ◌||◌, ◌⊎◌, not}
use Rattle.std.specs.List.{list_all, list_any}
use Rattle.nml_tree.specs.Act.{Term, Act, Number, Field, Cell, Trn, Inp, Out, Unary, Binary, Choose, Done, SetCell, SetTrn, Put, Halt, When}
use Rattle.nml_tree.specs.Derivation.{Derivation}
use Rattle.nml_tree.specs.Legal.{Event, both, clash, ways, paths, is_legal_path, is_legal, fields_alone}
use Rattle.nml_tree.specs.Table.{Table}
use Rattle.nml_tree.specs.Value.{View}
use Rattle.nml_tree.specs.Written.{action}
use Rattle.attr_eval.specs.Lawful.{Shape, Nothing, Once, Then, Either, term_shape, act_shape, ways_of, events, apart, all_apart, is_lawful}

-- truth
shuffle : (a b c d e : Bool) → ((a && b) && ((c && d) && e)) ≡ (((a && c) && (b && d)) && e)
shuffle false b c d e = refl
shuffle true false false d e = refl
shuffle true false true d e = refl
shuffle true true c d e = refl

twice : (p q r s t : Bool) → (((p && q) && r) && ((p && s) && t)) ≡ ((p && (q && s)) && (r && t))
twice false q r s t = refl
twice true false r s t = refl
twice true true false false t = refl
twice true true false true t = refl
twice true true true s t = refl

and_true : (b : Bool) → (b && true) ≡ b
and_true true = refl
and_true false = refl

thrice : (p q r s t : Bool) → (((p && q) && r) && ((s && t) && r)) ≡ (((p && s) && (q && t)) && r)
thrice false q r s t = refl
thrice true false r false t = refl
thrice true false r true t = refl
thrice true true false false t = refl
thrice true true false true false = refl
thrice true true false true true = refl
thrice true true true s t = refl

same_truth : (a b : Bool) → (a ≡ true → b ≡ true) → (b ≡ true → a ≡ true) → a ≡ b
same_truth true b f g = sym (f refl)
same_truth false true f g = g refl
same_truth false false f g = refl

left : (a b : Bool) → (a && b) ≡ true → a ≡ true
left true b h = refl
left false b h = absurd cc

right : (a b : Bool) → (a && b) ≡ true → b ≡ true
right true b h = h
right false b h = absurd cc

swap : (a b c d : Bool) → ((a && b) && (c && d)) ≡ ((a && c) && (b && d))
swap false b c d = refl
swap true false false d = refl
swap true false true d = refl
swap true true c d = refl

and_assoc : (a b c : Bool) → (a && (b && c)) ≡ ((a && b) && c)
and_assoc true b c = refl
and_assoc false b c = refl

not_or : (a b : Bool) → not (a || b) ≡ (not a && not b)
not_or true b = refl
not_or false b = refl

not_true : (b : Bool) → not b ≡ true → b ≡ false
not_true true h = absurd cc
not_true false h = refl

abbrev Path : Type 0
Path = List Event

append_nil : (xs : Path) → xs ++ [] ≡ xs
append_nil [] = refl
append_nil (x ∷ xs) = ap (λ ys. x ∷ ys) (append_nil xs)

-- all events of the paths
abbrev joined : List Path → Path
joined [] = []
joined (p ∷ ps) = p ++ joined ps

-- members
abbrev In : Path → Event → Type 0
In [] e = ⊥
In (x ∷ xs) e = (x ≡ e) ⊎ In xs e

in_left : (xs ys : Path) (e : Event) → In xs e → In (xs ++ ys) e
in_left [] ys e h = absurd h
in_left (x ∷ xs) ys e (inl h) = inl h
in_left (x ∷ xs) ys e (inr h) = inr (in_left xs ys e h)

in_right : (xs ys : Path) (e : Event) → In ys e → In (xs ++ ys) e
in_right [] ys e h = h
in_right (x ∷ xs) ys e h = inr (in_right xs ys e h)

in_either : (xs ys : Path) (e : Event) → In (xs ++ ys) e → In xs e ⊎ In ys e
in_either [] ys e h = inr h
in_either (x ∷ xs) ys e (inl h) = inl (inl h)
in_either (x ∷ xs) ys e (inr h) = elim (in_either xs ys e h) [ inl a ↦ inl (inr a) | inr b ↦ inr b ]

-- lists of the same members
record Same (xs ys : Path) : Type 0 where
  there : (e : Event) → In xs e → In ys e
  back : (e : Event) → In ys e → In xs e

in_front : (x : Path) (ys : List Path) (e : Event) → In (joined (map (λ y. x ++ y) ys)) e → In x e ⊎ In (joined ys) e
in_front x [] e h = absurd h
in_front x (y ∷ ys) e h = elim (in_either (x ++ y) (joined (map (λ z. x ++ z) ys)) e h) [
  | inl a ↦ elim (in_either x y e a) [ inl b ↦ inl b | inr c ↦ inr (in_left y (joined ys) e c) ]
  | inr b ↦ elim (in_front x ys e b) [ inl c ↦ inl c | inr d ↦ inr (in_right y (joined ys) e d) ]
]

front_in : (x : Path) (ys : List Path) (e : Event) → In (joined ys) e → In (joined (map (λ y. x ++ y) ys)) e
front_in x [] e h = absurd h
front_in x (y ∷ ys) e h = elim (in_either y (joined ys) e h) [
  | inl a ↦ in_left (x ++ y) (joined (map (λ z. x ++ z) ys)) e (in_right x y e a)
  | inr b ↦ in_right (x ++ y) (joined (map (λ z. x ++ z) ys)) e (front_in x ys e b)
]

joined_append : (xs ys : List Path) (e : Event) → In (joined (xs ++ ys)) e → In (joined xs) e ⊎ In (joined ys) e
joined_append [] ys e h = inr h
joined_append (x ∷ xs) ys e h = elim (in_either x (joined (xs ++ ys)) e h) [
  | inl a ↦ inl (in_left x (joined xs) e a)
  | inr b ↦ elim (joined_append xs ys e b) [ inl c ↦ inl (in_right x (joined xs) e c) | inr d ↦ inr d ]
]

joined_left : (xs ys : List Path) (e : Event) → In (joined xs) e → In (joined (xs ++ ys)) e
joined_left [] ys e h = absurd h
joined_left (x ∷ xs) ys e h = elim (in_either x (joined xs) e h) [ inl a ↦ in_left x (joined (xs ++ ys)) e a | inr b ↦ in_right x (joined (xs ++ ys)) e (joined_left xs ys e b) ]

joined_right : (xs ys : List Path) (e : Event) → In (joined ys) e → In (joined (xs ++ ys)) e
joined_right [] ys e h = h
joined_right (x ∷ xs) ys e h = in_right x (joined (xs ++ ys)) e (joined_right xs ys e h)

in_both : (xs ys : List Path) (e : Event) → In (joined (both xs ys)) e → In (joined xs) e ⊎ In (joined ys) e
in_both [] ys e h = absurd h
in_both (x ∷ xs) ys e h = elim (joined_append (map (λ y. x ++ y) ys) (both xs ys) e h) [
  | inl a ↦ elim (in_front x ys e a) [ inl b ↦ inl (in_left x (joined xs) e b) | inr c ↦ inr c ]
  | inr b ↦ elim (in_both xs ys e b) [ inl c ↦ inl (in_right x (joined xs) e c) | inr d ↦ inr d ]
]

both_first : (xs : List Path) (y : Path) (ys : List Path) (e : Event) → In (joined xs) e → In (joined (both xs (y ∷ ys))) e
both_first [] y ys e h = absurd h
both_first (x ∷ xs) y ys e h = elim (in_either x (joined xs) e h) [
  | inl a ↦ joined_left (map (λ z. x ++ z) (y ∷ ys)) (both xs (y ∷ ys)) e (in_left (x ++ y) (joined (map (λ z. x ++ z) ys)) e (in_left x y e a))
  | inr b ↦ joined_right (map (λ z. x ++ z) (y ∷ ys)) (both xs (y ∷ ys)) e (both_first xs y ys e b)
]

both_second : (x : Path) (xs ys : List Path) (e : Event) → In (joined ys) e → In (joined (both (x ∷ xs) ys)) e
both_second x xs ys e h = joined_left (map (λ z. x ++ z) ys) (both xs ys) e (front_in x ys e h)

-- there is a way, and the events of the ways are the events
record Some_ways (s : Shape) : Type 0 where
  first : Path
  others : List Path
  are : ways_of s ≡ first ∷ others
  same : Same (joined (ways_of s)) (events s)

both_are : (xs ys : List Path) (x y : Path) (others rest : List Path) → xs ≡ x ∷ others → ys ≡ y ∷ rest → both xs ys ≡ (x ++ y) ∷ (map (λ z. x ++ z) rest ++ both others ys)
both_are xs ys x y others rest is are =
    ap (λ ps. both ps ys) is ∙ ap (λ ps. both (x ∷ others) ps) are ∙ ap (λ ps. (x ++ y) ∷ (map (λ z. x ++ z) rest ++ both others ps)) (sym are)

some_ways : (s : Shape) → Some_ways s
some_ways Nothing = record { first = []; others = []; are = refl; same = record { there = λ e h. h; back = λ e h. h } }
some_ways (Once x) = record { first = x ∷ []; others = []; are = refl; same = record { there = λ e h. h; back = λ e h. h } }
some_ways (Then a b) =
    let s = some_ways a in let r = some_ways b in
    record {
      first = s.first ++ r.first;
      others = map (λ z. s.first ++ z) r.others ++ both s.others (ways_of b);
      are = both_are (ways_of a) (ways_of b) s.first r.first s.others r.others s.are r.are;
      same = record {
        there = λ e h. elim (in_both (ways_of a) (ways_of b) e h) [ inl k ↦ in_left (events a) (events b) e (s.same.there e k) | inr k ↦ in_right (events a) (events b) e (r.same.there e k) ];
        back = λ e h. elim (in_either (events a) (events b) e h) [
          | inl k ↦ subst (λ ps. In (joined (both (ways_of a) ps)) e) (sym r.are) (both_first (ways_of a) r.first r.others e (s.same.back e k))
          | inr k ↦ subst (λ ps. In (joined (both ps (ways_of b))) e) (sym s.are) (both_second s.first s.others (ways_of b) e (r.same.back e k))
        ];
      };
    }
some_ways (Either a b) =
    let s = some_ways a in let r = some_ways b in
    record {
      first = s.first;
      others = s.others ++ ways_of b;
      are = ap (λ ps. ps ++ ways_of b) s.are;
      same = record {
        there = λ e h. elim (joined_append (ways_of a) (ways_of b) e h) [ inl k ↦ in_left (events a) (events b) e (s.same.there e k) | inr k ↦ in_right (events a) (events b) e (r.same.there e k) ];
        back = λ e h. elim (in_either (events a) (events b) e h) [ inl k ↦ joined_left (ways_of a) (ways_of b) e (s.same.back e k) | inr k ↦ joined_right (ways_of a) (ways_of b) e (r.same.back e k) ];
      };
    }

-- the ways through an action are those of its shape
term_ways : (x : Term) → ways_of (term_shape x) ≡ ways x
term_ways (Number z) = refl
term_ways (Field n) = refl
term_ways (Cell n i) = term_ways i
term_ways (Trn n) = refl
term_ways Inp = refl
term_ways Out = refl
term_ways (Unary op x) = term_ways x
term_ways (Binary op x y) = rw (term_ways x, term_ways y) refl
term_ways (Choose c x y) = rw (term_ways c, term_ways x, term_ways y) refl

act_ways : (a : Act) → ways_of (act_shape a) ≡ paths a
act_ways Done = refl
act_ways (SetCell n i e rest) = rw (term_ways i, term_ways e, act_ways rest) refl
act_ways (SetTrn n e rest) = rw (term_ways e, act_ways rest) refl
act_ways (Put e rest) = rw (term_ways e, act_ways rest) refl
act_ways (Halt e rest) = rw (term_ways e, act_ways rest) refl
act_ways (When c x y rest) = rw (term_ways c, act_ways x, act_ways y, act_ways rest) refl

module _ (v : View) where
  apart_is : (e : Event) (xs : Path) → not (list_any (clash v e) xs) ≡ apart v e xs
  apart_is e [] = refl
  apart_is e (x ∷ xs) = not_or (clash v e x) (list_any (clash v e) xs) ∙ ap (λ b. not (clash v e x) && b) (apart_is e xs)

  apart_append : (e : Event) (xs ys : Path) → apart v e (xs ++ ys) ≡ (apart v e xs && apart v e ys)
  apart_append e [] ys = refl
  apart_append e (x ∷ xs) ys = ap (λ b. not (clash v e x) && b) (apart_append e xs ys) ∙ and_assoc (not (clash v e x)) (apart v e xs) (apart v e ys)

  pub all_apart_append : (xs ys zs : Path) → all_apart v (xs ++ ys) zs ≡ (all_apart v xs zs && all_apart v ys zs)
  all_apart_append [] ys zs = refl
  all_apart_append (x ∷ xs) ys zs = ap (λ b. apart v x zs && b) (all_apart_append xs ys zs) ∙ and_assoc (apart v x zs) (all_apart v xs zs) (all_apart v ys zs)

  pub all_apart_right : (xs ys zs : Path) → all_apart v xs (ys ++ zs) ≡ (all_apart v xs ys && all_apart v xs zs)
  all_apart_right [] ys zs = refl
  all_apart_right (x ∷ xs) ys zs = rw (apart_append x ys zs, all_apart_right xs ys zs) (swap (apart v x ys) (apart v x zs) (all_apart v xs ys) (all_apart v xs zs))

  path_append : (x y : Path) → is_legal_path v (x ++ y) ≡ ((is_legal_path v x && all_apart v x y) && is_legal_path v y)
  path_append [] y = refl
  path_append (e ∷ x) y = rw (apart_is e (x ++ y), apart_is e x, apart_append e x y, path_append x y) (shuffle (apart v e x) (apart v e y) (is_legal_path v x) (all_apart v x y) (is_legal_path v y))

  all_legal_append : (xs ys : List Path) → list_all (is_legal_path v) (xs ++ ys) ≡ (list_all (is_legal_path v) xs && list_all (is_legal_path v) ys)
  all_legal_append [] ys = refl
  all_legal_append (x ∷ xs) ys = ap (λ b. is_legal_path v x && b) (all_legal_append xs ys) ∙ and_assoc (is_legal_path v x) (list_all (is_legal_path v) xs) (list_all (is_legal_path v) ys)

  map_legal : (x y : Path) (ys : List Path) → list_all (is_legal_path v) (map (λ z. x ++ z) (y ∷ ys)) ≡ ((is_legal_path v x && all_apart v x (joined (y ∷ ys))) && list_all (is_legal_path v) (y ∷ ys))
  map_legal x y [] = rw (path_append x y, append_nil y, and_true, and_true) refl
  map_legal x y (z ∷ ys) =
      rw (path_append x y, map_legal x z ys, all_apart_right x y (joined (z ∷ ys)))
      (twice (is_legal_path v x) (all_apart v x y) (is_legal_path v y) (all_apart v x (joined (z ∷ ys))) (list_all (is_legal_path v) (z ∷ ys)))

  both_legal : (x : Path) (xs : List Path) (y : Path) (ys : List Path) → list_all (is_legal_path v) (both (x ∷ xs) (y ∷ ys)) ≡ ((list_all (is_legal_path v) (x ∷ xs) && all_apart v (joined (x ∷ xs)) (joined (y ∷ ys))) && list_all (is_legal_path v) (y ∷ ys))
  both_legal x [] y ys =
      all_legal_append (map (λ z. x ++ z) (y ∷ ys)) [] ∙ and_true (list_all (is_legal_path v) (map (λ z. x ++ z) (y ∷ ys))) ∙ map_legal x y ys
      ∙ (rw (and_true, append_nil x) refl)
  both_legal x (w ∷ xs) y ys =
      all_legal_append (map (λ z. x ++ z) (y ∷ ys)) (both (w ∷ xs) (y ∷ ys))
      ∙ (rw (map_legal x y ys, both_legal w xs y ys, all_apart_append x (joined (w ∷ xs)) (joined (y ∷ ys)))
      (thrice (is_legal_path v x) (all_apart v x (joined (y ∷ ys))) (list_all (is_legal_path v) (y ∷ ys)) (list_all (is_legal_path v) (w ∷ xs)) (all_apart v (joined (w ∷ xs)) (joined (y ∷ ys)))))

  then_legal : (xs ys : List Path) (x y : Path) (others rest : List Path) → xs ≡ x ∷ others → ys ≡ y ∷ rest → list_all (is_legal_path v) (both xs ys) ≡ ((list_all (is_legal_path v) xs && all_apart v (joined xs) (joined ys)) && list_all (is_legal_path v) ys)
  then_legal xs ys x y others rest is are =
      subst (λ ps. list_all (is_legal_path v) (both ps ys) ≡ ((list_all (is_legal_path v) ps && all_apart v (joined ps) (joined ys)) && list_all (is_legal_path v) ys)) (sym is)
      (subst (λ ps. list_all (is_legal_path v) (both (x ∷ others) ps) ≡ ((list_all (is_legal_path v) (x ∷ others) && all_apart v (joined (x ∷ others)) (joined ps)) && list_all (is_legal_path v) ps)) (sym are) (both_legal x others y rest))

  apart_each : (e : Event) (ys : Path) → apart v e ys ≡ true → (y : Event) → In ys y → clash v e y ≡ false
  apart_each e [] h y k = absurd k
  apart_each e (z ∷ ys) h y (inl k) = subst (λ x. clash v e x ≡ false) k (not_true (clash v e z) (left (not (clash v e z)) (apart v e ys) h))
  apart_each e (z ∷ ys) h y (inr k) = apart_each e ys (right (not (clash v e z)) (apart v e ys) h) y k

  each_apart : (e : Event) (ys : Path) → ((y : Event) → In ys y → clash v e y ≡ false) → apart v e ys ≡ true
  each_apart e [] h = refl
  each_apart e (z ∷ ys) h = rw (h z (inl refl)) (each_apart e ys (λ y k. h y (inr k)))

  all_each : (xs ys : Path) → all_apart v xs ys ≡ true → (x y : Event) → In xs x → In ys y → clash v x y ≡ false
  all_each [] ys h x y k m = absurd k
  all_each (z ∷ xs) ys h x y (inl k) m = subst (λ w. clash v w y ≡ false) k (apart_each z ys (left (apart v z ys) (all_apart v xs ys) h) y m)
  all_each (z ∷ xs) ys h x y (inr k) m = all_each xs ys (right (apart v z ys) (all_apart v xs ys) h) x y k m

  each_all : (xs ys : Path) → ((x y : Event) → In xs x → In ys y → clash v x y ≡ false) → all_apart v xs ys ≡ true
  each_all [] ys h = refl
  each_all (z ∷ xs) ys h = rw (each_apart z ys (λ y m. h z y (inl refl) m)) (each_all xs ys (λ x y k m. h x y (inr k) m))

  all_apart_same : (xs xs2 ys ys2 : Path) → Same xs xs2 → Same ys ys2 → all_apart v xs ys ≡ all_apart v xs2 ys2
  all_apart_same xs xs2 ys ys2 s r =
      same_truth (all_apart v xs ys) (all_apart v xs2 ys2)
      (λ h. each_all xs2 ys2 (λ x y k m. all_each xs ys h x y (s.back x k) (r.back y m)))
      (λ h. each_all xs ys (λ x y k m. all_each xs2 ys2 h x y (s.there x k) (r.there y m)))

  lawful_ways : (s : Shape) → is_lawful v s ≡ list_all (is_legal_path v) (ways_of s)
  lawful_ways Nothing = refl
  lawful_ways (Once e) = refl
  lawful_ways (Then a b) =
      let s = some_ways a in let r = some_ways b in
      sym (then_legal (ways_of a) (ways_of b) s.first r.first s.others r.others s.are r.are
      ∙ (rw (all_apart_same (joined (ways_of a)) (events a) (joined (ways_of b)) (events b) s.same r.same, lawful_ways a, lawful_ways b) refl))
  lawful_ways (Either a b) = sym (all_legal_append (ways_of a) (ways_of b) ∙ (rw (lawful_ways a, lawful_ways b) refl))

pub lawful_legal : (t : Table) (d : Derivation) → is_lawful (fields_alone d) (act_shape (action t d)) ≡ is_legal t d
lawful_legal t d = lawful_ways (fields_alone d) (act_shape (action t d)) ∙ ap (list_all (is_legal_path (fields_alone d))) (act_ways (action t d))
