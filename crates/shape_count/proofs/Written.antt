-- How long a written-out expression and a written-out action are, from how often they name each parameter.
use Rattle.std.proofs.Common.{ℕ, zero, suc, ◌≡◌, ◌+◌, ◌*◌, pos, refl, ◌∙◌, ap, arith, List, [], ◌∷◌, length, slice_get, Option, Some, None}
use Rattle.std.specs.Prelude.{unwrap_or}
use Rattle.std.proofs.lemmas.List.{length-set}
use Rattle.std.specs.Map.{lookup}
use Rattle.nk_base.specs.Text.{text_eq}
use Rattle.nk_base.specs.declared.number.Ty.{Ty}
use Rattle.nml_tree.specs.declared.names.Name.{Name}
use Rattle.nml_tree.specs.Formula as formula
use Rattle.nml_tree.specs.Formula.{Formula}
use Rattle.nml_tree.specs.Block as block
use Rattle.nml_tree.specs.Block.{Block, Index}
use Rattle.nml_tree.specs.Table.{Text, Table}
use Rattle.nml_tree.specs.Act.{Term, Act, Cell, Trn, Done, SetCell, SetTrn, Put, Halt, When, followed, assigned}
use Rattle.nml_tree.specs.Written.{Scope, Argument, reference, term, index_term, action_of, act, value_of}
use Rattle.nml_tree.specs.Shapes.{term_size, act_size, counted}
use Rattle.shape_count.specs.declared.scope.Found.{Found}
use Rattle.shape_count.specs.declared.scope.Found.TheVariants as found_as
use Rattle.shape_count.specs.Sizes.{plus, bumped, own_found, own, mention_found, mentioned, own_place, place_mentioned, with_block, block_mentioned, act_found, acted, own_value, value_mentioned}
use Rattle.shape_count.proofs.Greatest.{counted_product}

-- each count with what it counts
abbrev pub dot : List ℕ → List ℕ → ℕ
dot (c ∷ cs) (z ∷ zs) = c * z + dot cs zs
dot _ _ = 0

once_more : (c z : ℕ) → counted (plus c 1 * z) ≡ counted (c * z + z)
once_more c z =
    let e : counted (plus c 1 * z) ≡ counted ((c + 1) * z) = counted_product (plus c 1) z (c + 1) z (omega arith) refl in
    let f : (c + 1) * z ≡ c * z + z = omega arith in e ∙ ap counted f

pub bump_dot : (cs zs : List ℕ) (i z : ℕ) → length cs ≡ length zs → slice_get zs i ≡ Some z → counted (dot (bumped cs i) zs) ≡ counted (dot cs zs + z)
bump_dot [] [] i z long h = absurd cc
bump_dot [] (y ∷ zs) i z long h = absurd (omega (arith, long))
bump_dot (c ∷ cs) [] i z long h = absurd cc
bump_dot (c ∷ cs) (y ∷ zs) zero z long h =
    let e : y ≡ z = cc in
    let m = once_more c y in omega (arith, m, e)
bump_dot (c ∷ cs) (y ∷ zs) (suc i) z long h =
    let m = bump_dot cs zs i z (omega (arith, long)) h in omega (arith, m)

pub bumped_long : (cs : List ℕ) (i n : ℕ) → length cs ≡ n → length (bumped cs i) ≡ n
bumped_long cs i n h = length-set cs i (plus (unwrap_or (slice_get cs i) 0) 1) ∙ h

-- a term that may be assigned
abbrev pub IsTarget : Term → Type 0
IsTarget (Cell n i) = Unit {0}
IsTarget (Trn n) = Unit {0}
IsTarget Term.Out = Unit {0}
IsTarget _ = ⊥

-- each place of statements is
abbrev pub AreTargets : Table → Scope → Block → Type 0
AreTargets t scope block.Done = Unit {0}
AreTargets t scope (block.Assign n i at e semicolon rest) = IsTarget (reference t scope n.text (index_term t scope i)) × AreTargets t scope rest
AreTargets t scope (block.Part n dot at semicolon rest) = AreTargets t scope rest
AreTargets t scope (block.Halt at p e q semicolon rest) = AreTargets t scope rest
AreTargets t scope (block.If at c b xs end semicolon rest) = AreTargets t scope xs × AreTargets t scope rest
AreTargets t scope (block.IfElse at c b xs g ys end semicolon rest) = AreTargets t scope xs × AreTargets t scope ys × AreTargets t scope rest

module _ (t : Table) (st : List (ℕ × Ty)) (scope : Scope) (f : Text → Found) (zs ys : List ℕ) where
  -- a name is as large as this, whatever index it has
  abbrev pub Means : Found → (Term → ℕ) → Type 0
  Means (found_as.Parameter i) g = (z : ℕ) × (slice_get zs i ≡ Some z) × ((x : Term) → g x ≡ z)
  Means found_as.Wide g = (x : Term) → g x ≡ 1 + term_size st x
  Means found_as.Leaf g = (x : Term) → g x ≡ 1

  -- and so long is a part's action
  abbrev pub Acts : Found → Option Argument → Type 0
  Acts (found_as.Parameter i) a = (z : ℕ) × (slice_get ys i ≡ Some z) × (act_size st (action_of a) ≡ z)
  Acts found_as.Wide a = action_of a ≡ Done
  Acts found_as.Leaf a = action_of a ≡ Done

  -- so of all names
  pub record Known : Type 0 where
    pub means : (name : Text) → Means (f name) (λ x. term_size st (reference t scope name x))
    pub acts : (name : Text) → Acts (f name) (lookup (text_eq name) scope)

  long_found : (x : Found) (within cs : List ℕ) → length within ≡ length zs → length cs ≡ length zs → length (mention_found x within cs) ≡ length zs
  long_found (found_as.Parameter i) within cs h k = bumped_long cs i (length zs) k
  long_found found_as.Wide within cs h k = h
  long_found found_as.Leaf within cs h k = k

  pub long_term : (e : Formula) (cs : List ℕ) → length cs ≡ length zs → length (mentioned f e cs) ≡ length zs
  long_term (formula.Numeral n) cs h = h
  long_term (formula.Truth at b) cs h = h
  long_term (formula.Named n) cs h = long_found (f n.text) cs cs h h
  long_term (formula.Indexed n p i q) cs h = long_found (f n.text) (mentioned f i cs) cs (long_term i cs h) h
  long_term (formula.Paren p x q) cs h = long_term x cs h
  long_term (formula.Fitted g at p n c x q) cs h = long_term x cs h
  long_term (formula.Bits at p x c high d low q) cs h = long_term x cs h
  long_term (formula.Choose at c b x g y end) cs h = long_term y _ (long_term x _ (long_term c cs h))
  long_term (formula.Unary op at x) cs h = long_term x cs h
  long_term (formula.Binary op x at y) cs h = long_term y _ (long_term x cs h)

  -- a name whose index has this own size
  name_size : (x : Found) (g : Term → ℕ) → Means x g → (i : Term) (k : ℕ) (within cs : List ℕ) → length cs ≡ length zs → counted (k + dot within zs) ≡ counted (dot cs zs + term_size st i)
      → counted (own_found x k + dot (mention_found x within cs) zs) ≡ counted (dot cs zs + g i)
  name_size (found_as.Parameter j) g h i k within cs long below =
      let b = bump_dot cs zs j h.0 long h.1 in
      let e = h.2 i in omega (arith, b, e)
  name_size found_as.Wide g h i k within cs long below = let e = h i in omega (arith, below, e)
  name_size found_as.Leaf g h i k within cs long below = let e = h i in omega (arith, e)

  -- an expression
  pub size_of_term : Known → (e : Formula) (cs : List ℕ) → length cs ≡ length zs → counted (own f e + dot (mentioned f e cs) zs) ≡ counted (dot cs zs + term_size st (term t scope e))
  size_of_term k (formula.Numeral n) cs h = omega arith
  size_of_term k (formula.Truth at b) cs h = omega arith
  size_of_term k (formula.Named n) cs h = name_size (f n.text) _ (k.means n.text) (Term.Number (pos 0)) 1 cs cs h (omega arith)
  size_of_term k (formula.Indexed n p i q) cs h = name_size (f n.text) _ (k.means n.text) (term t scope i) (own f i) (mentioned f i cs) cs h (size_of_term k i cs h)
  size_of_term k (formula.Paren p x q) cs h = size_of_term k x cs h
  size_of_term k (formula.Fitted g at p n c x q) cs h = let e = size_of_term k x cs h in omega (arith, e)
  size_of_term k (formula.Bits at p x c high d low q) cs h = let e = size_of_term k x cs h in omega (arith, e)
  size_of_term k (formula.Choose at c b x g y end) cs h =
      let l = long_term c cs h in
      let m = long_term x (mentioned f c cs) l in
      let a = size_of_term k c cs h in
      let d = size_of_term k x (mentioned f c cs) l in
      let e = size_of_term k y (mentioned f x (mentioned f c cs)) m in omega (arith, a, d, e)
  size_of_term k (formula.Unary op at x) cs h = let e = size_of_term k x cs h in omega (arith, e)
  size_of_term k (formula.Binary op x at y) cs h =
      let l = long_term x cs h in
      let a = size_of_term k x cs h in
      let d = size_of_term k y (mentioned f x cs) l in omega (arith, a, d)

  pub size_of_value : Known → (o : Option Formula) (cs : List ℕ) → length cs ≡ length zs → counted (own_value f o + dot (value_mentioned f o cs) zs) ≡ counted (dot cs zs + term_size st (value_of t scope o))
  size_of_value k None cs h = omega arith
  size_of_value k (Some e) cs h = size_of_term k e cs h

  -- what is assigned
  long_place : (n : Name) (i : Index) (cs : List ℕ) → length cs ≡ length zs → length (place_mentioned f n i cs) ≡ length zs
  long_place n None cs h = long_found (f n.text) cs cs h h
  long_place n (Some (p, i, q)) cs h = long_found (f n.text) (mentioned f i cs) cs (long_term i cs h) h

  size_of_place : Known → (n : Name) (i : Index) (cs : List ℕ) → length cs ≡ length zs → counted (own_place f n i + dot (place_mentioned f n i cs) zs) ≡ counted (dot cs zs + term_size st (reference t scope n.text (index_term t scope i)))
  size_of_place k n None cs h = name_size (f n.text) _ (k.means n.text) (Term.Number (pos 0)) 1 cs cs h (omega arith)
  size_of_place k n (Some (p, i, q)) cs h = name_size (f n.text) _ (k.means n.text) (term t scope i) (own f i) (mentioned f i cs) cs h (size_of_term k i cs h)

  size_assigned : (p e : Term) (rest : Act) → IsTarget p → act_size st (assigned p e rest) ≡ 1 + term_size st p + term_size st e + act_size st rest
  size_assigned (Cell n i) e rest h = refl
  size_assigned (Trn n) e rest h = refl
  size_assigned Term.Out e rest h = refl
  size_assigned (Term.Number z) e rest h = absurd h
  size_assigned (Term.Field n) e rest h = absurd h
  size_assigned Term.Inp e rest h = absurd h
  size_assigned (Term.Unary op x) e rest h = absurd h
  size_assigned (Term.Binary op x y) e rest h = absurd h
  size_assigned (Term.Choose c x y) e rest h = absurd h

  size_followed : (a b : Act) → act_size st (followed a b) ≡ act_size st a + act_size st b
  size_followed Done b = omega arith
  size_followed (SetCell n i e a) b = let m = size_followed a b in omega (arith, m)
  size_followed (SetTrn n e a) b = let m = size_followed a b in omega (arith, m)
  size_followed (Put e a) b = let m = size_followed a b in omega (arith, m)
  size_followed (Halt e a) b = let m = size_followed a b in omega (arith, m)
  size_followed (When c x y a) b = let m = size_followed a b in omega (arith, m)

  pub long_block : (b : Block) (cs : List ℕ) → length cs ≡ length zs → length (block_mentioned f b cs) ≡ length zs
  long_block block.Done cs h = h
  long_block (block.Assign n i at e semicolon rest) cs h = long_block rest _ (long_term e _ (long_place n i cs h))
  long_block (block.Part n dot at semicolon rest) cs h = long_block rest cs h
  long_block (block.Halt at p e q semicolon rest) cs h = long_block rest _ (long_term e cs h)
  long_block (block.If at c b xs end semicolon rest) cs h = long_block rest _ (long_block xs _ (long_term c cs h))
  long_block (block.IfElse at c b xs g ws end semicolon rest) cs h = long_block rest _ (long_block ws _ (long_block xs _ (long_term c cs h)))

  long_act : (x : Found) (ks : List ℕ) → length ks ≡ length ys → length (act_found x ks) ≡ length ys
  long_act (found_as.Parameter i) ks h = bumped_long ks i (length ys) h
  long_act found_as.Wide ks h = h
  long_act found_as.Leaf ks h = h

  pub long_acted : (b : Block) (ks : List ℕ) → length ks ≡ length ys → length (acted f b ks) ≡ length ys
  long_acted block.Done ks h = h
  long_acted (block.Assign n i at e semicolon rest) ks h = long_acted rest ks h
  long_acted (block.Part n dot at semicolon rest) ks h = long_acted rest _ (long_act (f n.text) ks h)
  long_acted (block.Halt at p e q semicolon rest) ks h = long_acted rest ks h
  long_acted (block.If at c b xs end semicolon rest) ks h = long_acted rest _ (long_acted xs ks h)
  long_acted (block.IfElse at c b xs g ws end semicolon rest) ks h = long_acted rest _ (long_acted ws _ (long_acted xs ks h))

  act_dot : (x : Found) (a : Option Argument) → Acts x a → (ks : List ℕ) → length ks ≡ length ys → counted (dot (act_found x ks) ys) ≡ counted (dot ks ys + act_size st (action_of a))
  act_dot (found_as.Parameter i) a h ks long = let b = bump_dot ks ys i h.0 long h.1 in let e = h.2 in omega (arith, b, e)
  act_dot found_as.Wide a h ks long = let e : act_size st (action_of a) ≡ 0 = ap (act_size st) h in omega (arith, e)
  act_dot found_as.Leaf a h ks long = let e : act_size st (action_of a) ≡ 0 = ap (act_size st) h in omega (arith, e)

  -- statements
  pub size_of_block : Known → (b : Block) (total : ℕ) (cs ks : List ℕ) → AreTargets t scope b → length cs ≡ length zs → length ks ≡ length ys
      → counted (with_block f b total + dot (block_mentioned f b cs) zs + dot (acted f b ks) ys) ≡ counted (total + dot cs zs + dot ks ys + act_size st (act t scope b))
  size_of_block k block.Done total cs ks right h l = omega arith
  size_of_block k (block.Assign n i at e semicolon rest) total cs ks right h l =
      let long = long_place n i cs h in
      let longer = long_term e (place_mentioned f n i cs) long in
      let p = size_of_place k n i cs h in
      let v = size_of_term k e (place_mentioned f n i cs) long in
      let a = size_assigned (reference t scope n.text (index_term t scope i)) (term t scope e) (act t scope rest) right.0 in
      let m = size_of_block k rest (plus total (plus 1 (plus (own_place f n i) (own f e)))) (mentioned f e (place_mentioned f n i cs)) ks right.1 longer l in
      omega (arith, p, v, a, m)
  size_of_block k (block.Part n dot at semicolon rest) total cs ks right h l =
      let d = act_dot (f n.text) (lookup (text_eq n.text) scope) (k.acts n.text) ks l in
      let a = size_followed (action_of (lookup (text_eq n.text) scope)) (act t scope rest) in
      let m = size_of_block k rest total cs (act_found (f n.text) ks) right h (long_act (f n.text) ks l) in
      omega (arith, d, a, m)
  size_of_block k (block.Halt at p e q semicolon rest) total cs ks right h l =
      let longer = long_term e cs h in
      let v = size_of_term k e cs h in
      let m = size_of_block k rest (plus total (plus 1 (own f e))) (mentioned f e cs) ks right longer l in
      omega (arith, v, m)
  size_of_block k (block.If at c b xs end semicolon rest) total cs ks right h l =
      let long = long_term c cs h in
      let v = size_of_term k c cs h in
      let x = size_of_block k xs (plus total (plus 1 (own f c))) (mentioned f c cs) ks right.0 long l in
      let m = size_of_block k rest (with_block f xs (plus total (plus 1 (own f c)))) (block_mentioned f xs (mentioned f c cs)) (acted f xs ks) right.1 (long_block xs _ long) (long_acted xs ks l) in
      omega (arith, v, x, m)
  size_of_block k (block.IfElse at c b xs g ws end semicolon rest) total cs ks right h l =
      let long = long_term c cs h in
      let v = size_of_term k c cs h in
      let longer = long_block xs (mentioned f c cs) long in
      let acts = long_acted xs ks l in
      let x = size_of_block k xs (plus total (plus 1 (own f c))) (mentioned f c cs) ks right.0 long l in
      let y = size_of_block k ws (with_block f xs (plus total (plus 1 (own f c)))) (block_mentioned f xs (mentioned f c cs)) (acted f xs ks) right.1 longer acts in
      let m = size_of_block k rest (with_block f ws (with_block f xs (plus total (plus 1 (own f c))))) (block_mentioned f ws (block_mentioned f xs (mentioned f c cs))) (acted f ws (acted f xs ks)) right.2 (long_block ws _ longer) (long_acted ws _ acts) in
      omega (arith, v, x, y, m)
