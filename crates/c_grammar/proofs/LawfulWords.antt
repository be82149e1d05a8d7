-- Readings of single names, numbers and types keep the law.
use Rattle.std.proofs.Common.{◌≡◌, ℕ, List, [], ◌∷◌, Option, Some, None, option_map, refl, ap, sym}
use Rattle.std.specs.Prelude.{codes}
use Rattle.c_tree.specs.declared.names.Name.{Name}
use Rattle.c_tree.specs.declared.names.Number.{Number}
use Rattle.c_tree.specs.declared.names.TypeWord.{TypeWord}
use Rattle.c_tree.specs.declared.names.TypeWord.TheVariants as type_word
use Rattle.readings.specs.Symbol.{Symbol, fixed}
use Rattle.c_tree.specs.Spell.{name_spelling, number_spelling, type_spelling}
use Rattle.readings.specs.Readings.{given, sign}
use Rattle.c_grammar.specs.Words.{name, number, type_word_read}
use Rattle.readings.proofs.Symbols.{some_is, none_is_none}
use Rattle.readings.specs.Lawful.{IsReading, IsMade, Any, Anywhere}
use Rattle.readings.proofs.Combining.{picked, sign_law, made_all}
use Rattle.readings.proofs.CombiningWords.{single_law}

-- a name
abbrev name_pick : Symbol → Option Name
name_pick (Symbol.Fixed at text) = None
name_pick (Symbol.Named at text) = Some (record { at = at; text = text })
name_pick (Symbol.Number at value) = None
name_pick (Symbol.Quoted at text) = None

-- so a name is read lawfully
pub name_law : IsReading name_spelling Any Anywhere name
name_law = single_law name_spelling name name_pick (λ n. refl) goes is (λ y. (Symbol.Named y.at y.text, refl)) (record { at = 0; text = [] })
  where
    goes : (n : ℕ) (s : Symbol) (ss : List Symbol) → name n (s ∷ ss) ≡ picked n s ss (option_map given (name_pick s))
    goes n (Symbol.Fixed at text) ss = refl
    goes n (Symbol.Named at text) ss = refl
    goes n (Symbol.Number at value) ss = refl
    goes n (Symbol.Quoted at text) ss = refl

    is : (s : Symbol) (x : Name) → name_pick s ≡ Some x → name_spelling x ≡ s ∷ []
    is (Symbol.Fixed at text) x e = none_is_none x e
    is (Symbol.Named at text) x e = ap name_spelling (sym (some_is (record { at = at; text = text }) x e))
    is (Symbol.Number at value) x e = none_is_none x e
    is (Symbol.Quoted at text) x e = none_is_none x e

-- a number
abbrev number_pick : Symbol → Option Number
number_pick (Symbol.Fixed at text) = None
number_pick (Symbol.Named at text) = None
number_pick (Symbol.Number at value) = Some (record { at = at; value = value })
number_pick (Symbol.Quoted at text) = None

-- so a number is
pub number_law : IsReading number_spelling Any Anywhere number
number_law = single_law number_spelling number number_pick (λ n. refl) goes is (λ y. (Symbol.Number y.at y.value, refl)) (record { at = 0; value = 0 })
  where
    goes : (n : ℕ) (s : Symbol) (ss : List Symbol) → number n (s ∷ ss) ≡ picked n s ss (option_map given (number_pick s))
    goes n (Symbol.Fixed at text) ss = refl
    goes n (Symbol.Named at text) ss = refl
    goes n (Symbol.Number at value) ss = refl
    goes n (Symbol.Quoted at text) ss = refl

    is : (s : Symbol) (x : Number) → number_pick s ≡ Some x → number_spelling x ≡ s ∷ []
    is (Symbol.Fixed at text) x e = none_is_none x e
    is (Symbol.Named at text) x e = none_is_none x e
    is (Symbol.Number at value) x e = ap number_spelling (sym (some_is (record { at = at; value = value }) x e))
    is (Symbol.Quoted at text) x e = none_is_none x e

-- so is a type
pub type_law : IsReading type_spelling Any Anywhere type_word_read
type_law = made_all (λ at. type_word.Int at) (λ at. fixed at (codes "int")) Any (sign (codes "int")) type_spelling Any Anywhere (λ x. refl) (λ x h. tt) from (sign_law (codes "int"))
  where
    from : (y : TypeWord) → Any y → IsMade Any (λ at. type_word.Int at) y
    from (type_word.Int at) h = (at, tt, refl)
