use Rattle.nml_outline.proofs.FirstSyntax.{one_tokens, single, filled_root, root_filled, no_syntax_pair, first_syntax_pair}
use Rattle.nml_outline.proofs.LeastText.{least_pair}
use Rattle.nml_outline.proofs.laws.texts.Goals as goal

pub returns-clause-single : goal.returns-clause-single
returns-clause-single c = λ d shapes s free all among. single d free shapes all s among

pub returns-clause-root : goal.returns-clause-root
returns-clause-root c = λ d shapes s zs free all among fit. filled_root d free shapes all s zs among fit

pub returns-clause-text : goal.returns-clause-text
returns-clause-text c = λ d shapes s x free all among root same. root_filled d free shapes all s x among root same

pub returns-clause-within : goal.returns-clause-within
returns-clause-within c = λ d x y free first second shape same. one_tokens d free x y first second shape same

pub returns-clause-one : goal.returns-clause-one
returns-clause-one c = λ d shapes x y free all none first second same. no_syntax_pair d free shapes all none x y first second same

pub returns-clause-first : goal.returns-clause-first
returns-clause-first c = λ d shapes i j a b zs ys free all pair first second least.
    let p = first_syntax_pair d free shapes all i j a b zs ys pair first second least in
    (p.x, p.y, p.is, p.first, p.second, p.first_fields, p.second_fields, p.tokens_are)

pub returns-clause-least : goal.returns-clause-least
returns-clause-least c = λ a b zs ys first second same. least_pair a b zs ys first second same
