-- Readings by what they take: what was found, and what the symbols before a stop go on to be.
use Rattle.std.proofs.Common.{◌≡◌, ℕ, List, [], ◌∷◌, ◌++◌, refl, ap, sym, ◌∙◌, append_assoc, ⊎_elim}
use Rattle.readings.specs.Symbol.{Symbol}
use Rattle.readings.specs.Reading.{Read, Found, Stuck, read_on, mark}
use Rattle.readings.proofs.Symbols.{mark_is, mark_stuck}
use Rattle.readings.proofs.After.{after_found, after_stuck}

-- ---- readings and what they may read

-- what is found is of the language; where the reading is stuck, what stands before goes on to be; and something is
pub record Goes {A : Type 0} (reads : List Symbol → Read A) (L : A → List Symbol → Type 0) : Type 0 where
  pub found : (ss : List Symbol) (x : A) (rest : List Symbol) → reads ss ≡ Found x rest → (u : List Symbol) × (ss ≡ u ++ rest) × L x u
  pub stuck : (ss rest : List Symbol) → reads ss ≡ Stuck rest → (front : List Symbol) × (further : List Symbol) × (x : A) × (ss ≡ front ++ rest) × L x (front ++ further)
  pub some : (x : A) × (u : List Symbol) × L x u

-- the same of one list alone
pub record GoesAt {A : Type 0} (ss : List Symbol) (a : Read A) (L : A → List Symbol → Type 0) : Type 0 where
  pub found : (x : A) (rest : List Symbol) → a ≡ Found x rest → (u : List Symbol) × (ss ≡ u ++ rest) × L x u
  pub stuck : (rest : List Symbol) → a ≡ Stuck rest → (front : List Symbol) × (further : List Symbol) × (x : A) × (ss ≡ front ++ rest) × L x (front ++ further)

-- a reading on a list
pub at_of : {A : Type 0} (reads : List Symbol → Read A) (L : A → List Symbol → Type 0) → Goes reads L → (ss : List Symbol) → GoesAt ss (reads ss) L
at_of reads L h ss = record { found = λ x rest e. h.found ss x rest e; stuck = λ rest e. h.stuck ss rest e }

-- one language behind the other
pub record Then {A B : Type 0} (L : A → List Symbol → Type 0) (M : A → B → List Symbol → Type 0) (y : B) (w : List Symbol) : Type 0 where
  pub item : A
  pub u : List Symbol
  pub v : List Symbol
  pub first : L item u
  pub second : M item y v
  pub joined : w ≡ u ++ v

-- one list before another reading
pub after_at : {A B : Type 0} (ss : List Symbol) (a : Read A) (next : A → List Symbol → Read B) (L : A → List Symbol → Type 0) (M : A → B → List Symbol → Type 0) → GoesAt ss a L → ((x : A) → Goes (next x) (M x))
    → GoesAt ss (read_on a next) (Then L M)
after_at ss a next L M g h =
    record {
      found = λ y rest e.
          let p = after_found a next y rest e in
          let b = g.found p.0 p.1 p.2 in
          let c = (h p.0).found p.1 y rest p.3 in
          (b.0 ++ c.0, b.1 ∙ ap (λ t. b.0 ++ t) c.1 ∙ sym (append_assoc b.0 c.0 rest), record { item = p.0; u = b.0; v = c.0; first = b.2; second = c.2; joined = refl });
      stuck = λ rest e.
          ⊎_elim
          (λ p.
          let b = g.stuck rest p in
          let c = (h b.2).some in
          (b.0, b.1 ++ c.1, c.0, b.3, record { item = b.2; u = b.0 ++ b.1; v = c.1; first = b.4; second = c.2; joined = sym (append_assoc b.0 b.1 c.1) }))
          (λ p.
          let b = g.found p.0 p.1 p.2 in
          let c = (h p.0).stuck p.1 rest p.3 in (
            b.0 ++ c.0,
            c.1,
            c.2,
            b.1 ∙ ap (λ t. b.0 ++ t) c.3 ∙ sym (append_assoc b.0 c.0 rest),
            record { item = p.0; u = b.0; v = c.0 ++ c.1; first = b.2; second = c.4; joined = append_assoc b.0 c.0 c.1 },
          ))
          (after_stuck a next rest e);
    }

-- one reading behind the other
pub after_goes : {A B : Type 0} (reads : List Symbol → Read A) (next : A → List Symbol → Read B) (L : A → List Symbol → Type 0) (M : A → B → List Symbol → Type 0) → Goes reads L → ((x : A) → Goes (next x) (M x))
    → Goes (λ t. read_on (reads t) next) (Then L M)
after_goes reads next L M l h =
    let at : (ss : List Symbol) → GoesAt ss (read_on (reads ss) next) (Then L M) = λ ss. after_at ss (reads ss) next L M (at_of reads L l ss) h in
    record {
      found = λ ss y rest e. (at ss).found y rest e;
      stuck = λ ss rest e. (at ss).stuck rest e;
      some =
          let b = l.some in
          let c = (h b.0).some in
          (c.0, b.1 ++ c.1, record { item = b.0; u = b.1; v = c.1; first = b.2; second = c.2; joined = refl });
    }

abbrev pub IsMark : List ℕ → ℕ → List Symbol → Type 0
IsMark text at u = u ≡ Symbol.Fixed at text ∷ []

pub mark_goes : (text : List ℕ) → Goes (mark text) (IsMark text)
mark_goes text = record {
  found = λ ss at rest e. (Symbol.Fixed at text ∷ [], mark_is text ss at rest e, refl);
  stuck = λ ss rest e. ([], Symbol.Fixed 0 text ∷ [], 0, mark_stuck text ss rest e, refl);
  some = (0, Symbol.Fixed 0 text ∷ [], refl);
}

-- nothing further
pub record IsDone {A : Type 0} (x y : A) (u : List Symbol) : Type 0 where
  pub same : y ≡ x
  pub none : u ≡ []

pub done_goes : {A : Type 0} (x : A) → Goes (λ s. Found x s) (IsDone x)
done_goes {A = A} x = record {
  found = λ ss y rest e. ([], rests ss y rest e, record { same = values ss y rest e; none = refl });
  stuck = λ ss rest e. never ss rest e;
  some = (x, [], record { same = refl; none = refl });
}
  where
    rests : (ss : List Symbol) (y : A) (rest : List Symbol) → Found x ss ≡ Found y rest → ss ≡ rest
    rests ss y rest e = cc

    values : (ss : List Symbol) (y : A) (rest : List Symbol) → Found x ss ≡ Found y rest → y ≡ x
    values ss y rest e = cc

    never : {P : Type 0} (ss rest : List Symbol) → Found x ss ≡ Stuck rest → P
    never ss rest e = absurd (cc)

-- ---- parts

-- equal parts make equal wholes
pub glue : (w u v a b : List Symbol) → w ≡ u ++ v → u ≡ a → v ≡ b → w ≡ a ++ b
glue w u v a b e f g = e ∙ ap (λ t. t ++ v) f ∙ ap (λ t. a ++ t) g

-- the last mark
abbrev pub Closes : {A : Type 0} → List ℕ → (ℕ → A) → A → List Symbol → Type 0
Closes text make = Then (IsMark text) (λ q. IsDone (make q))

-- it is read or lacks
pub closes : {A : Type 0} (text : List ℕ) (make : ℕ → A) → Goes (λ t. read_on (mark text t) (λ q s. Found (make q) s)) (Closes text make)
closes text make = after_goes (mark text) (λ q s. Found (make q) s) (IsMark text) (λ q. IsDone (make q)) (mark_goes text) (λ q. done_goes (make q))

-- the mark alone is left
pub closed_is : {A : Type 0} (text : List ℕ) (make : ℕ → A) (y : A) (w : List Symbol) (t : Closes text make y w) → w ≡ Symbol.Fixed t.item text ∷ []
closed_is text make y w t = glue w t.u t.v (Symbol.Fixed t.item text ∷ []) [] t.joined t.first t.second.none
