-- What is told of the faults of a description, of a text and of an image.
use Rattle.std.proofs.Common.{◌≡◌, ◌⊎◌, inl, inr, refl, sym, ap, ◌∙◌, subst, List, ℕ, Result, Ok, Err, if◌then◌else◌}
use Rattle.sha2.specs.Sha256.{sha256}
use Rattle.nml_tree.specs.declared.tree.Desc.{Desc}
use Rattle.nml_tree.specs.declared.fault.DescFault.{DescFault}
use Rattle.nml_tree.specs.declared.fault.DescFault.TheVariants as faults
use Rattle.nml_tree.specs.Refused.{IsChecked, IsRefused}
use Rattle.nml_tree.specs.Table.{table}
use Rattle.nml_grammar.specs.Trees.{IsReadFault}
use Rattle.image_file.specs.File.{file}
use Rattle.image_file.specs.Measured.{measures}
use Rattle.image_file.specs.Refused as image
use Rattle.image_file.specs.Seen.{picture_of}
use Rattle.image_file.specs.declared.fault.ImageFault.{ImageFault}
use Rattle.image_file.specs.declared.fault.ImageFault.TheVariants as image_faults
use Rattle.image_file.specs.declared.image.Image.{Image}
use Rattle.isg_graph.specs.Graph.{Graph, IsGraph}
use Rattle.asm_text.specs.Refused as source
use Rattle.asm_text.specs.declared.fault.AsmFault.{AsmFault}
use Rattle.asm_text.specs.declared.fault.AsmFault.TheVariants as source_faults
use Rattle.asm_tool.specs.Made.{IsImageOfText}
use Rattle.fault_texts.specs.FaultText.{is_memory}
use Rattle.fault_texts.specs.AsmFaultText.{is_asm_memory}
use Rattle.fault_texts.specs.ImageFaultText.{is_image_memory}
use Rattle.nml_reply.specs.Reply.{Reply, starved, description_fault, text_fault, image_fault}
use Rattle.nml_reply.specs.declared.refusal.Refusal.{Refusal}
use Rattle.nml_suite.specs.Described.{IsAccepted, Spells, NoTokens, NoTree, Floating, Refused}
use Rattle.nml_suite.specs.Refusing.{IsReadAs, IsCheckedAs, IsRefusedTree, IsFaulty, IsBuiltOf, IsGraphOf, IsFaultyText, IsFaultyImage, IsAssembledText, HasBytes}
use Rattle.nml_suite.specs.declared.assemble.Assembled.{Assembled}

-- what is told of a fault that a tree is refused for
pub refused_tree : (name : List ℕ) (tree : Desc) (f : DescFault) (told : Reply) → IsRefused tree f → told ≡ (if is_memory f then starved else description_fault name f)
    → (told ≡ starved) ⊎ IsRefusedTree name tree told
refused_tree name tree (faults.Lex at) told h e = absurd h
refused_tree name tree (faults.Syntax at) told h e = absurd h
refused_tree name tree (faults.Float at) told h e = absurd h
refused_tree name tree (faults.Name at) told h e = inr (record { fault = faults.Name at; faulty = h; is = e })
refused_tree name tree (faults.Cycle rule) told h e = inr (record { fault = faults.Cycle rule; faulty = h; is = e })
refused_tree name tree (faults.TypeFault at) told h e = inr (record { fault = faults.TypeFault at; faulty = h; is = e })
refused_tree name tree (faults.Width at) told h e = inr (record { fault = faults.Width at; faulty = h; is = e })
refused_tree name tree (faults.Linear rule p) told h e = inr (record { fault = faults.Linear rule p; faulty = h; is = e })
refused_tree name tree (faults.WordWidth rule) told h e = inr (record { fault = faults.WordWidth rule; faulty = h; is = e })
refused_tree name tree (faults.Edge rule) told h e = inr (record { fault = faults.Edge rule; faulty = h; is = e })
refused_tree name tree (faults.Root what) told h e = inr (record { fault = faults.Root what; faulty = h; is = e })
refused_tree name tree (faults.Shapes count nodes size) told h e = inr (record { fault = faults.Shapes count nodes size; faulty = h; is = e })
refused_tree name tree (faults.SameImage a b word) told h e = inr (record { fault = faults.SameImage a b word; faulty = h; is = e })
refused_tree name tree (faults.SameSyntax a b text) told h e = inr (record { fault = faults.SameSyntax a b text; faulty = h; is = e })
refused_tree name tree faults.Memory told h e = inl e

-- and of one that the reader finds
pub refused_bytes : (name bytes : List ℕ) (f : DescFault) (told : Reply) → IsReadFault bytes f → told ≡ (if is_memory f then starved else description_fault name f)
    → (told ≡ starved) ⊎ IsFaulty name bytes told
refused_bytes name bytes (faults.Lex at) told h e = inr (record { fault = faults.Lex at; faulty = NoTokens at refl h; is = e })
refused_bytes name bytes (faults.Syntax at) told h e = inr (record { fault = faults.Syntax at; faulty = NoTree at refl h; is = e })
refused_bytes name bytes (faults.Float at) told h e = inr (record { fault = faults.Float at; faulty = Floating at refl h; is = e })
refused_bytes name bytes (faults.Name at) told h e = absurd h
refused_bytes name bytes (faults.Cycle rule) told h e = absurd h
refused_bytes name bytes (faults.TypeFault at) told h e = absurd h
refused_bytes name bytes (faults.Width at) told h e = absurd h
refused_bytes name bytes (faults.Linear rule p) told h e = absurd h
refused_bytes name bytes (faults.WordWidth rule) told h e = absurd h
refused_bytes name bytes (faults.Edge rule) told h e = absurd h
refused_bytes name bytes (faults.Root what) told h e = absurd h
refused_bytes name bytes (faults.Shapes count nodes size) told h e = absurd h
refused_bytes name bytes (faults.SameImage a b word) told h e = absurd h
refused_bytes name bytes (faults.SameSyntax a b text) told h e = absurd h
refused_bytes name bytes faults.Memory told h e = inl e

-- bytes that spell a tree are accepted, or have its fault
pub spelled_checked : (name bytes : List ℕ) (tree : Desc) (r : Result Desc Refusal) → Spells bytes tree → IsCheckedAs name tree r → IsReadAs name bytes r
spelled_checked name bytes tree (Ok t) s h = record { spelled = subst (Spells bytes) (sym h.0) s; right = subst IsChecked (sym h.0) h.1 }
spelled_checked name bytes tree (Err e) s (inl wants) = inl wants
spelled_checked name bytes tree (Err e) s (inr x) = inr (record { fault = x.fault; faulty = Refused tree s x.faulty; is = x.is })

-- its graph is one of the bytes
pub graph_of : (name bytes : List ℕ) (tree : Desc) (r : Result Graph Refusal) → IsAccepted bytes tree → IsBuiltOf tree r → IsGraphOf name bytes r
graph_of name bytes tree (Ok g) a h = (subst (IsAccepted bytes) (sym h.0) a, h.1)
graph_of name bytes tree (Err e) a wants = inl wants

-- what is told of a fault that a text is refused for
pub refused_text : (g : Graph) (name text : List ℕ) (f : AsmFault) (told : Reply) → source.IsRefused (table g.desc) g.word_bits text f
    → told ≡ (if is_asm_memory f then starved else text_fault name f) → (told ≡ starved) ⊎ IsFaultyText g name text told
refused_text g name text (source_faults.Lex line) told h e = inr (record { fault = source_faults.Lex line; some = λ k. cc k; faulty = h; is = e })
refused_text g name text (source_faults.Label line) told h e = inr (record { fault = source_faults.Label line; some = λ k. cc k; faulty = h; is = e })
refused_text g name text (source_faults.NoMatch line) told h e = inr (record { fault = source_faults.NoMatch line; some = λ k. cc k; faulty = h; is = e })
refused_text g name text (source_faults.Conflict line) told h e = inr (record { fault = source_faults.Conflict line; some = λ k. cc k; faulty = h; is = e })
refused_text g name text (source_faults.Full count) told h e = inr (record { fault = source_faults.Full count; some = λ k. cc k; faulty = h; is = e })
refused_text g name text (source_faults.Data line) told h e = inr (record { fault = source_faults.Data line; some = λ k. cc k; faulty = h; is = e })
refused_text g name text source_faults.Memory told h e = inl e

-- an image of a text with its file
pub with_its_file : (bytes : List ℕ) (g : Graph) (name text : List ℕ) (i : Image) (r : Result Assembled Refusal) → IsImageOfText g (sha256 bytes) text (picture_of i) → HasBytes i r
    → IsAssembledText bytes g name text r
with_its_file bytes g name text i (Ok all) is h = (subst (IsImageOfText g (sha256 bytes) text) (sym h.0) is, h.1 ∙ ap file (sym h.0))
with_its_file bytes g name text i (Err e) is wants = inl wants

-- what is told of a fault that bits are refused for
pub refused_image : (bytes : List ℕ) (g : Graph) (name bits : List ℕ) (f : ImageFault) (told : Reply) → image.IsRefused (measures (table g.desc) g.word_bits) (sha256 bytes) bits f
    → told ≡ (if is_image_memory f then starved else image_fault name f) → (told ≡ starved) ⊎ IsFaultyImage bytes g name bits told
refused_image bytes g name bits image_faults.Magic told h e = inr (record { fault = image_faults.Magic; some = λ k. cc k; faulty = h; is = e })
refused_image bytes g name bits (image_faults.Version found) told h e = inr (record { fault = image_faults.Version found; some = λ k. cc k; faulty = h; is = e })
refused_image bytes g name bits (image_faults.Short at) told h e = inr (record { fault = image_faults.Short at; some = λ k. cc k; faulty = h; is = e })
refused_image bytes g name bits (image_faults.Trailing at) told h e = inr (record { fault = image_faults.Trailing at; some = λ k. cc k; faulty = h; is = e })
refused_image bytes g name bits (image_faults.Digest wanted found) told h e = inr (record { fault = image_faults.Digest wanted found; some = λ k. cc k; faulty = h; is = e })
refused_image bytes g name bits (image_faults.Value at) told h e = inr (record { fault = image_faults.Value at; some = λ k. cc k; faulty = h; is = e })
refused_image bytes g name bits image_faults.Memory told h e = inl e
