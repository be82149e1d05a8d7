-- What programs are: the faults that are told, and that bytes have one fault, or are accepted and have none.
use Rattle.std.proofs.Common.{◌≡◌, ◌⊎◌, inl, inr, refl, sym, ap, ◌∙◌, subst, List, ℕ, Result, Ok, Err, if◌then◌else◌}
use Rattle.fault_texts.specs.CFaultText.{is_c_memory}
use Rattle.c_tree.specs.declared.program.CTree.{CTree}
use Rattle.c_tree.specs.declared.fault.CFault.{CFault}
use Rattle.c_tree.specs.declared.fault.CFault.TheVariants as faults
use Rattle.c_tree.specs.Accepted.{IsAcceptedTree, IsTreeFaultOf}
use Rattle.c_tree.specs.Items.{items}
use Rattle.c_lex.specs.Lexed as tokens
use Rattle.c_lex.specs.Lexed.{HasLexemes, IsStuckAt}
use Rattle.nml_lex.specs.Lexed.{Lexeme}
use Rattle.c_lex.proofs.Parts as parts
use Rattle.c_lex.proofs.Words.{apart}
use Rattle.c_grammar.specs.Trees.{IsTree, IsReadFault}
use Rattle.c_grammar.proofs.OneReading.{one_bytes, tree_or_none, tree_or_outside, none_or_outside, one_place, one_outside}
use Rattle.c_check.proofs.OneFault as checking
use Rattle.nml_reply.specs.Reply.{Reply, starved, program_fault}
use Rattle.nml_reply.specs.declared.refusal.Refusal.{Refusal}
use Rattle.nml_suite.specs.Programs.{HasProgramFault, NoProgramTokens, LeftOut, NoProgram, RefusedProgram, IsProgram}
use Rattle.nml_suite.specs.Refusing.{IsFaultyProgram, IsRefusedProgram, IsProgramChecked, IsCompiled}

-- ---- what is told

-- of a fault that the reader finds
pub refused_reading : (name bytes : List ℕ) (n : ℕ) (f : CFault) (told : Reply) → IsReadFault bytes f → told ≡ (if is_c_memory f then starved else program_fault name f)
    → (told ≡ starved) ⊎ IsFaultyProgram name bytes n told
refused_reading name bytes n (faults.Lex at) told h e = inr (record { fault = faults.Lex at; faulty = NoProgramTokens at refl h; is = e })
refused_reading name bytes n (faults.Syntax at) told h e = inr (record { fault = faults.Syntax at; faulty = NoProgram at refl h; is = e })
refused_reading name bytes n (faults.Outside at) told h e = inr (record { fault = faults.Outside at; faulty = LeftOut at refl h; is = e })
refused_reading name bytes n (faults.Name at) told h e = absurd h
refused_reading name bytes n (faults.Kind at) told h e = absurd h
refused_reading name bytes n (faults.Literal at) told h e = absurd h
refused_reading name bytes n (faults.Shift at) told h e = absurd h
refused_reading name bytes n (faults.Recursion g) told h e = absurd h
refused_reading name bytes n faults.Main told h e = absurd h
refused_reading name bytes n faults.Memory told h e = inl e

-- and of one that checking finds
pub refused_program : (name : List ℕ) (n : ℕ) (tree : CTree) (f : CFault) (told : Reply) → IsTreeFaultOf tree n f → told ≡ (if is_c_memory f then starved else program_fault name f)
    → (told ≡ starved) ⊎ IsRefusedProgram name n tree told
refused_program name n tree (faults.Lex at) told h e = absurd h
refused_program name n tree (faults.Syntax at) told h e = absurd h
refused_program name n tree (faults.Outside at) told h e = absurd h
refused_program name n tree (faults.Name at) told h e = inr (record { fault = faults.Name at; faulty = h; some = λ m. absurd (cc m); is = e })
refused_program name n tree (faults.Kind at) told h e = inr (record { fault = faults.Kind at; faulty = h; some = λ m. absurd (cc m); is = e })
refused_program name n tree (faults.Literal at) told h e = inr (record { fault = faults.Literal at; faulty = h; some = λ m. absurd (cc m); is = e })
refused_program name n tree (faults.Shift at) told h e = inr (record { fault = faults.Shift at; faulty = h; some = λ m. absurd (cc m); is = e })
refused_program name n tree (faults.Recursion g) told h e = inr (record { fault = faults.Recursion g; faulty = h; some = λ m. absurd (cc m); is = e })
refused_program name n tree faults.Main told h e = inr (record { fault = faults.Main; faulty = h; some = λ m. absurd (cc m); is = e })
refused_program name n tree faults.Memory told h e = inl e

-- bytes that spell a program are accepted, or have its fault
pub spelled_program : (name bytes : List ℕ) (n : ℕ) (tree : CTree) (r : Result (CTree × ℕ) Refusal) → IsTree bytes tree → IsProgramChecked name n tree r → IsCompiled name bytes n r
spelled_program name bytes n tree (Ok p) s h = (
  ap (λ x. x.1) h.0,
  record { spelled = subst (λ (x : CTree × ℕ). IsTree bytes x.0) (sym h.0) s; accepted = subst (λ (x : CTree × ℕ). IsAcceptedTree x.0 n) (sym h.0) h.1 },
)
spelled_program name bytes n tree (Err e) s (inl wants) = inl wants
spelled_program name bytes n tree (Err e) s (inr x) = inr (record { fault = x.fault; faulty = RefusedProgram tree s x.faulty x.some; is = x.is })

-- ---- one fault, or none

never : (bytes : List ℕ) (ps : List Lexeme) (at : ℕ) → HasLexemes bytes ps → IsStuckAt bytes at → ⊥
never bytes ps at h g = parts.never tokens.c bytes ps at apart h g

place : (bytes : List ℕ) (at other : ℕ) → IsStuckAt bytes at → IsStuckAt bytes other → at ≡ other
place bytes at other h g = parts.place tokens.c bytes at other apart h g

pub one_program_fault : (bytes : List ℕ) (n : ℕ) (f g : CFault) → HasProgramFault bytes n f → HasProgramFault bytes n g → f ≡ g
one_program_fault bytes n f g (NoProgramTokens a e h) (NoProgramTokens b i k) = e ∙ ap faults.Lex (place bytes a b h k) ∙ sym i
one_program_fault bytes n f g (NoProgramTokens a e h) (LeftOut b i k) = absurd (never bytes k.tokens a k.has h)
one_program_fault bytes n f g (NoProgramTokens a e h) (NoProgram b i k) = absurd (never bytes k.tokens a k.has h)
one_program_fault bytes n f g (NoProgramTokens a e h) (RefusedProgram t s k some) = absurd (never bytes s.tokens a s.has h)
one_program_fault bytes n f g (LeftOut a e h) (NoProgramTokens b i k) = absurd (never bytes h.tokens b h.has k)
one_program_fault bytes n f g (LeftOut a e h) (LeftOut b i k) = e ∙ ap faults.Outside (one_outside bytes a b h k) ∙ sym i
one_program_fault bytes n f g (LeftOut a e h) (NoProgram b i k) = absurd (none_or_outside bytes b a k h)
one_program_fault bytes n f g (LeftOut a e h) (RefusedProgram t s k some) = absurd (tree_or_outside bytes t a s h)
one_program_fault bytes n f g (NoProgram a e h) (NoProgramTokens b i k) = absurd (never bytes h.tokens b h.has k)
one_program_fault bytes n f g (NoProgram a e h) (LeftOut b i k) = absurd (none_or_outside bytes a b h k)
one_program_fault bytes n f g (NoProgram a e h) (NoProgram b i k) = e ∙ ap faults.Syntax (one_place bytes a b h k) ∙ sym i
one_program_fault bytes n f g (NoProgram a e h) (RefusedProgram t s k some) = absurd (tree_or_none bytes t a s h)
one_program_fault bytes n f g (RefusedProgram t s h some) (NoProgramTokens b i k) = absurd (never bytes s.tokens b s.has k)
one_program_fault bytes n f g (RefusedProgram t s h some) (LeftOut b i k) = absurd (tree_or_outside bytes t b s k)
one_program_fault bytes n f g (RefusedProgram t s h some) (NoProgram b i k) = absurd (tree_or_none bytes t b s k)
one_program_fault bytes n f g (RefusedProgram t s h some) (RefusedProgram u r k other) =
    checking.one_fault (items u) n f g (subst (λ x. IsTreeFaultOf x n f) (one_bytes bytes t u s r) h) k some other

-- bytes that are accepted have no fault
pub no_program_fault : (bytes : List ℕ) (n : ℕ) (t : CTree) (f : CFault) → IsProgram bytes n t → HasProgramFault bytes n f → ⊥
no_program_fault bytes n t f a (NoProgramTokens at e h) = never bytes a.spelled.tokens at a.spelled.has h
no_program_fault bytes n t f a (LeftOut at e h) = tree_or_outside bytes t at a.spelled h
no_program_fault bytes n t f a (NoProgram at e h) = tree_or_none bytes t at a.spelled h
no_program_fault bytes n t f a (RefusedProgram u s h some) = some (checking.no_fault (items t) n f a.accepted (subst (λ x. IsTreeFaultOf x n f) (one_bytes bytes u t s a.spelled) h))

-- bytes are accepted as one program
pub one_program : (bytes : List ℕ) (n : ℕ) (t u : CTree) → IsProgram bytes n t → IsProgram bytes n u → t ≡ u
one_program bytes n t u a b = one_bytes bytes t u a.spelled b.spelled

-- a fault that can't be another is want of memory
pub memory_only : (f : CFault) → ((f ≡ faults.Memory → ⊥) → ⊥) → f ≡ faults.Memory
memory_only (faults.Lex at) h = absurd (h (λ e. absurd (cc e)))
memory_only (faults.Syntax at) h = absurd (h (λ e. absurd (cc e)))
memory_only (faults.Outside at) h = absurd (h (λ e. absurd (cc e)))
memory_only (faults.Name at) h = absurd (h (λ e. absurd (cc e)))
memory_only (faults.Kind at) h = absurd (h (λ e. absurd (cc e)))
memory_only (faults.Literal at) h = absurd (h (λ e. absurd (cc e)))
memory_only (faults.Shift at) h = absurd (h (λ e. absurd (cc e)))
memory_only (faults.Recursion name) h = absurd (h (λ e. absurd (cc e)))
memory_only faults.Main h = absurd (h (λ e. absurd (cc e)))
memory_only faults.Memory h = refl
