use Rattle.nml_outline.proofs.ShapeWord.{word_is_root, root_is_word}
use Rattle.nml_outline.proofs.FirstImage.{one_image, first_image_pair}
use Rattle.nml_outline.proofs.LeastWord.{least_both, no_word}
use Rattle.nml_outline.proofs.laws.words.Goals as goal

pub returns-clause-root : goal.returns-clause-root
returns-clause-root c = λ d shapes width s w free all wide among has low. word_is_root d free shapes all width wide s w among has low

pub returns-clause-word : goal.returns-clause-word
returns-clause-word c = λ d shapes s x free all among root same. root_is_word d free shapes all s x among root same

pub returns-clause-one : goal.returns-clause-one
returns-clause-one c = λ d shapes x y free all none first second same. one_image d free shapes all none x y first second same

pub returns-clause-first : goal.returns-clause-first
returns-clause-first c = λ d shapes i j a b w free all pair first second least.
    let p = first_image_pair d free shapes all i j a b w pair first second least in
    (p.x, p.y, p.is, p.first, p.second, p.first_fields, p.second_fields, p.word)

pub returns-clause-least : goal.returns-clause-least
returns-clause-least c = λ d shapes a b free all first second agree. least_both d free shapes all a b first second agree

pub returns-clause-none : goal.returns-clause-none
returns-clause-none c = λ a b differ. no_word a b differ
