-- A tree has one fault at most, and where it has none it is accepted.
use Rattle.std.proofs.Common.{ℕ, suc, ◌≤◌, ◌<◌, ◌^◌, ◌≡◌, refl, sym, ap, ◌∙◌, subst, arith, List, length, ◌⊎◌, inl, inr}
use Rattle.std.specs.Coded.{le_prop}
use mathlib.Core.HLevel.{is_prop→PathP}
use Rattle.nk_base.specs.declared.number.Bits.{Bits}
use Rattle.nml_tree.specs.declared.tree.Desc.{Desc}
use Rattle.nml_tree.specs.declared.fault.DescFault.{DescFault}
use Rattle.nml_tree.specs.declared.fault.DescFault.TheVariants as fault
use Rattle.nml_tree.specs.declared.fault.Root.TheVariants as root
use Rattle.nml_tree.specs.Table.{Text, Table, table}
use Rattle.nml_tree.specs.Derivation.{Derivation}
use Rattle.nml_tree.specs.Image.{image, word_of}
use Rattle.nml_tree.specs.Syntax.{syntax_of}
use Rattle.nml_tree.specs.Valid.{IsRoot}
use Rattle.nml_tree.specs.Shapes.{AreShapes, ShapesFault, AreCounts}
use Rattle.nml_tree.specs.Same.{SameImage, SameSyntax, IsFirstImage, IsFirstSyntax, tokens, tokens_text}
use Rattle.nml_tree.specs.Refused.{Holds, By_name, By_cycle, By_type, By_width, By_mention, By_word, By_edge, By_root, By_shapes, By_image, By_syntax, IsFreeBelow, IsTyped, IsChecked, IsImageOf, IsRefused}
use Rattle.nml_types.specs.TypingFault.{IsTypingFault}
use Rattle.nml_types.proofs.Refusals.{typed_if_none, none_typed}
use Rattle.nml_types.proofs.Refusals as typing
use Rattle.nml_types.proofs.Late.{free_shapes, free_images}
use Rattle.nml_shape.proofs.OneList.{one_counts}
use Rattle.nml_refusals.specs.TreeFault.{IsTreeFault}
use Rattle.nml_refusals.proofs.Alike.{AreKnown, one_first_image, one_first_syntax, no_image, no_tokens}

-- ---- which fault it is

-- two instructions with one image, as the fault names them
record HasAlike (d : Desc) (a b : Text) (word : Bits) : Type 0 where
  pub x : Derivation
  pub y : Derivation
  pub first : IsFirstImage (table d) x y
  pub a_is : a ≡ syntax_of x
  pub b_is : b ≡ syntax_of y
  pub word_is : IsImageOf x word

-- two with one list of tokens
record HasSaid (d : Desc) (a b : Bits) (text : Text) : Type 0 where
  pub x : Derivation
  pub y : Derivation
  pub first : IsFirstSyntax (table d) x y
  pub a_is : IsImageOf x a
  pub b_is : IsImageOf y b
  pub text_is : text ≡ tokens_text (tokens x)

-- a fault of typing, or one of N12 to N14
data IsKind (d : Desc) (f : DescFault) : Type 0 where
  Typing : IsTypingFault d f → IsKind d f
  Many : (c n s : ℕ) → f ≡ fault.Shapes c n s → IsTyped d → ShapesFault (table d) c n s → IsKind d f
  Alike : (a b : Text) (w : Bits) → f ≡ fault.SameImage a b w → IsFreeBelow 13 d → HasAlike d a b w → IsKind d f
  Said : (a b : Bits) (w : Text) → f ≡ fault.SameSyntax a b w → IsFreeBelow 14 d → HasSaid d a b w → IsKind d f

kind : (d : Desc) (f : DescFault) → IsTreeFault d f → IsKind d f
kind d (fault.Lex at) h = absurd h
kind d (fault.Syntax at) h = absurd h
kind d (fault.Float at) h = absurd h
kind d (fault.Name at) h = Typing h
kind d (fault.Cycle rule) h = Typing h
kind d (fault.TypeFault at) h = Typing h
kind d (fault.Width at) h = Typing h
kind d (fault.Linear rule p) h = Typing h
kind d (fault.WordWidth rule) h = Typing h
kind d (fault.Edge rule) h = Typing h
kind d (fault.Root what) h = Typing h
kind d (fault.Shapes c n s) h = Many c n s refl h.0 h.1
kind d (fault.SameImage a b w) h = Alike a b w refl h.0 (record { x = h.1.0; y = h.1.1; first = h.1.2; a_is = h.1.3; b_is = h.1.4; word_is = h.1.5 })
kind d (fault.SameSyntax a b w) h = Said a b w refl h.0 (record { x = h.1.0; y = h.1.1; first = h.1.2; a_is = h.1.3; b_is = h.1.4; text_is = h.1.5 })
kind d fault.Memory h = absurd h

-- a fault of typing is a fault of the tree
of_typing : (d : Desc) (f : DescFault) → IsTypingFault d f → IsTreeFault d f
of_typing d (fault.Lex at) h = h
of_typing d (fault.Syntax at) h = h
of_typing d (fault.Float at) h = h
of_typing d (fault.Name at) h = h
of_typing d (fault.Cycle rule) h = h
of_typing d (fault.TypeFault at) h = h
of_typing d (fault.Width at) h = h
of_typing d (fault.Linear rule p) h = h
of_typing d (fault.WordWidth rule) h = h
of_typing d (fault.Edge rule) h = h
of_typing d (fault.Root what) h = h
of_typing d (fault.Shapes c n s) h = absurd h
of_typing d (fault.SameImage a b w) h = absurd h
of_typing d (fault.SameSyntax a b w) h = absurd h
of_typing d fault.Memory h = absurd h

less_free : (d : Desc) (m n : ℕ) → m ≤ n → IsFreeBelow n d → IsFreeBelow m d
less_free d m n le free k low h = free k (omega (arith, low, le)) h

-- ---- one fault

same_bits : (a b : Bits) → a.width ≡ b.width → a.value ≡ b.value → a ≡ b
same_bits a b w v = λ j. record {
  width = w j;
  value = v j;
  narrow = is_prop→PathP (λ i. w i ≤ 128) (λ i. le_prop) a.narrow b.narrow j;
  below = is_prop→PathP (λ i. v i < 2 ^ w i) (λ i. le_prop) a.below b.below j;
}

same_image : (x y : Derivation) (a b : Bits) → x ≡ y → IsImageOf x a → IsImageOf y b → a ≡ b
same_image x y a b e h k = same_bits a b (h.width ∙ ap (λ z. length (image z)) e ∙ sym k.width) (h.value ∙ ap word_of e ∙ sym k.value)

one_alike : (d : Desc) → AreKnown (table d) → (a b c e : Text) (w v : Bits) → HasAlike d a b w → HasAlike d c e v → fault.SameImage a b w ≡ fault.SameImage c e v
one_alike d known a b c e w v h k =
    let same = one_first_image (table d) known h.x h.y k.x k.y h.first k.first in
    let p : a ≡ c = h.a_is ∙ ap syntax_of same.0 ∙ sym k.a_is in
    let q : b ≡ e = h.b_is ∙ ap syntax_of same.1 ∙ sym k.b_is in
    let r : w ≡ v = same_image h.x k.x w v same.0 h.word_is k.word_is in
    λ j. fault.SameImage (p j) (q j) (r j)

one_said : (d : Desc) → AreKnown (table d) → (a b c e : Bits) (w v : Text) → HasSaid d a b w → HasSaid d c e v → fault.SameSyntax a b w ≡ fault.SameSyntax c e v
one_said d known a b c e w v h k =
    let same = one_first_syntax (table d) known h.x h.y k.x k.y h.first k.first in
    let p : a ≡ c = same_image h.x k.x a c same.0 h.a_is k.a_is in
    let q : b ≡ e = same_image h.y k.y b e same.1 h.b_is k.b_is in
    let r : w ≡ v = h.text_is ∙ ap (λ x. tokens_text (tokens x)) same.0 ∙ sym k.text_is in
    λ j. fault.SameSyntax (p j) (q j) (r j)

one_many : (d : Desc) (c n s b m r : ℕ) → ShapesFault (table d) c n s → ShapesFault (table d) b m r → fault.Shapes c n s ≡ fault.Shapes b m r
one_many d c n s b m r h k = let e = one_counts (table d) c n s b m r h.counts k.counts in λ j. fault.Shapes (e.0 j) (e.1 j) (e.2 j)

one_kind : (d : Desc) → (IsTyped d → AreKnown (table d)) → (f g : DescFault) → IsKind d f → IsKind d g → f ≡ g
one_kind d known f g (Typing h) (Typing k) = typing.one_only d f g h k
one_kind d known f g (Typing h) (Many c n s e free k) = absurd (none_typed d f free h)
one_kind d known f g (Typing h) (Alike a b w e free k) = absurd (none_typed d f (less_free d 12 13 (omega arith) free) h)
one_kind d known f g (Typing h) (Said a b w e free k) = absurd (none_typed d f (less_free d 12 14 (omega arith) free) h)
one_kind d known f g (Many c n s e free h) (Typing k) = absurd (none_typed d g free k)
one_kind d known f g (Many c n s e free h) (Many b m r i clear k) = e ∙ one_many d c n s b m r h k ∙ sym i
one_kind d known f g (Many c n s e free h) (Alike a b w i clear k) = absurd (clear 12 (omega arith) (By_shapes c n s h))
one_kind d known f g (Many c n s e free h) (Said a b w i clear k) = absurd (clear 12 (omega arith) (By_shapes c n s h))
one_kind d known f g (Alike a b w e free h) (Typing k) = absurd (none_typed d g (less_free d 12 13 (omega arith) free) k)
one_kind d known f g (Alike a b w e free h) (Many c n s i clear k) = absurd (free 12 (omega arith) (By_shapes c n s k))
one_kind d known f g (Alike a b w e free h) (Alike x y v i clear k) = e ∙ one_alike d (known (less_free d 12 13 (omega arith) free)) a b x y w v h k ∙ sym i
one_kind d known f g (Alike a b w e free h) (Said x y v i clear k) = absurd (clear 13 (omega arith) (By_image h.x h.y h.first.shapes.holds))
one_kind d known f g (Said a b w e free h) (Typing k) = absurd (none_typed d g (less_free d 12 14 (omega arith) free) k)
one_kind d known f g (Said a b w e free h) (Many c n s i clear k) = absurd (free 12 (omega arith) (By_shapes c n s k))
one_kind d known f g (Said a b w e free h) (Alike x y v i clear k) = absurd (free 13 (omega arith) (By_image k.x k.y k.first.shapes.holds))
one_kind d known f g (Said a b w e free h) (Said x y v i clear k) = e ∙ one_said d (known (less_free d 12 14 (omega arith) free)) a b x y w v h k ∙ sym i

-- an accepted tree has none
none_kind : (d : Desc) (f : DescFault) → IsChecked d → IsKind d f → ⊥
none_kind d f c (Typing h) = none_typed d f (less_free d 12 13 (omega arith) c.free) h
none_kind d f c (Many m n s e free h) = c.free 12 (omega arith) (By_shapes m n s h)
none_kind d f c (Alike a b w e free h) = let k = h.first.shapes.holds in k.differ (c.by_image h.x h.y k.first k.second k.same)
none_kind d f c (Said a b w e free h) = let k = h.first.shapes.holds in k.differ (c.by_tokens h.x h.y k.first k.second k.same)

pub none_checked : (d : Desc) (f : DescFault) → IsChecked d → IsTreeFault d f → ⊥
none_checked d f c h = none_kind d f c (kind d f h)

-- ---- some fault

-- what an accepted description needs to be shown to be one: shapes, words of 64 bits at most, what is known of derivations
pub record AreTold (d : Desc) : Type 0 where
  pub shapes : List (List ℕ)
  pub all : AreShapes (table d) shapes
  pub known : AreKnown (table d)
  pub bits : (x : Derivation) → IsRoot (table d) x → (w : Bits) × IsImageOf x w

-- the first two alike would be a fault
no_alike : (d : Desc) (told : AreTold d) → IsFreeBelow 13 d → ((f : DescFault) → IsTreeFault d f → ⊥) → (a b : Derivation) → IsFirstImage (table d) a b → ⊥
no_alike d told free none a b h =
    let w = told.bits a h.shapes.holds.first in
    none (fault.SameImage (syntax_of a) (syntax_of b) w.0) (free, (a, b, h, refl, refl, w.1))

no_said : (d : Desc) (told : AreTold d) → IsFreeBelow 14 d → ((f : DescFault) → IsTreeFault d f → ⊥) → (a b : Derivation) → IsFirstSyntax (table d) a b → ⊥
no_said d told free none a b h =
    let v = told.bits a h.shapes.holds.first in
    let w = told.bits b h.shapes.holds.second in
    none (fault.SameSyntax v.0 w.0 (tokens_text (tokens a))) (free, (a, b, h, v.1, w.1, refl))

checked_by : (d : Desc) → AreTold d → IsFreeBelow 13 d → ((f : DescFault) → IsTreeFault d f → ⊥) → IsChecked d
checked_by d told free none =
    let images = no_image (table d) told.shapes told.all told.known (no_alike d told free none) in
    let clear = free_images d free (λ a b h. h.differ (images a b h.first h.second h.same)) in
    record { free = free; by_image = images; by_tokens = no_tokens (table d) told.shapes told.all told.known (no_said d told clear none) }

pub checked_if_none : (d : Desc) → (IsTyped d → AreTold d) → ((f : DescFault) → IsTreeFault d f → ⊥) → IsChecked d
checked_if_none d told none =
    let typed = typed_if_none d (λ f h. none f (of_typing d f h)) in
    checked_by d (told typed) (free_shapes d typed (λ c n s h. none (fault.Shapes c n s) (typed, h))) none

pub one_only : (d : Desc) → (IsTyped d → AreTold d) → (f g : DescFault) → IsTreeFault d f → IsTreeFault d g → f ≡ g
one_only d told f g h k = one_kind d (λ typed. (told typed).known) f g (kind d f h) (kind d g k)
