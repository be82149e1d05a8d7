use Rattle.std.proofs.Common.{◌∙◌, ap, map, length}
use Rattle.std.specs.Option.{option_map}
use Rattle.c_tree.specs.Items.{item}
use Rattle.c_tree.specs.Names.{functions_in, parameters}
use Rattle.c_tree.specs.Faults.{faults}
use Rattle.c_tree.specs.Recursion.{calls_of, main_of}
use Rattle.c_check.specs.Note.{noted, nothing}
use Rattle.c_check.proofs.Firsts.{first_is, no_faults}
use Rattle.c_check.proofs.Judging.{acyclic, recursive, missing, taking, accepted}
use Rattle.c_check.proofs.accept.judge.Goals as goal

pub returns-in-Err : goal.returns-in-Err
returns-in-Err c =
    let told = c.in_ok-found.ensures.found ∙ ap (λ xs. noted nothing (faults (map item xs) c.width_of.result.bits)) c.as_slice-globals.ensures ∙ ap (λ k. noted nothing (faults (map item c.args.t.now.globals) k)) c.width_of.ensures in
    first_is (map item c.args.t.now.globals) c.args.n _ c.in-Err.fault told c.in-Err.ensures

pub returns-in-Some : goal.returns-in-Some
returns-in-Some c =
    let told = c.in_ok-found.ensures.found ∙ ap (λ xs. noted nothing (faults (map item xs) c.width_of.result.bits)) c.as_slice-globals.ensures ∙ ap (λ k. noted nothing (faults (map item c.args.t.now.globals) k)) c.width_of.ensures in
    let none = no_faults _ _ told c.in-Ok.ensures in
    let rows = c.as_slice.ensures.value ∙ c.in_ok-found.ensures.rows ∙ ap (λ xs. calls_of (map item xs)) c.as_slice-globals.ensures in
    rw c.recursion.ensures (recursive (map item c.args.t.now.globals) c.args.n _ _ _ _ none c.in_ok-number.ensures c.in-Some.is rows (rw c.as_slice-globals.ensures at c.in_ok-name_of-in-Some.ensures))

pub returns-in-None-main_arity : goal.returns-in-None-main_arity
returns-in-None-main_arity c =
    let told = c.in_ok-found.ensures.found ∙ ap (λ xs. noted nothing (faults (map item xs) c.width_of.result.bits)) c.as_slice-globals.ensures ∙ ap (λ k. noted nothing (faults (map item c.args.t.now.globals) k)) c.width_of.ensures in
    let none = no_faults _ _ told c.in-Ok.ensures in
    let rows = c.as_slice.ensures.value ∙ c.in_ok-found.ensures.rows ∙ ap (λ xs. calls_of (map item xs)) c.as_slice-globals.ensures in
    let free = acyclic _ _ _ c.in_ok-number.ensures c.in-None.is rows in
    let is = c.in-None-main_arity.ensures ∙ ap (λ xs. option_map (λ f. length (parameters f.params)) (main_of (functions_in (map item xs)))) c.as_slice-globals.ensures in
    missing (map item c.args.t.now.globals) c.args.n none free is

pub returns-then-arity-eq0 : goal.returns-then-arity-eq0
returns-then-arity-eq0 c =
    let told = c.in_ok-found.ensures.found ∙ ap (λ xs. noted nothing (faults (map item xs) c.width_of.result.bits)) c.as_slice-globals.ensures ∙ ap (λ k. noted nothing (faults (map item c.args.t.now.globals) k)) c.width_of.ensures in
    let none = no_faults _ _ told c.in-Ok.ensures in
    let rows = c.as_slice.ensures.value ∙ c.in_ok-found.ensures.rows ∙ ap (λ xs. calls_of (map item xs)) c.as_slice-globals.ensures in
    let free = acyclic _ _ _ c.in_ok-number.ensures c.in-None.is rows in
    let is = c.in-Some-main_arity.ensures ∙ ap (λ xs. option_map (λ f. length (parameters f.params)) (main_of (functions_in (map item xs)))) c.as_slice-globals.ensures in
    accepted (map item c.args.t.now.globals) c.args.n c.in-Some-main_arity.arity none free is c.if-arity-eq0.true

pub returns : goal.returns
returns c =
    let told = c.in_ok-found.ensures.found ∙ ap (λ xs. noted nothing (faults (map item xs) c.width_of.result.bits)) c.as_slice-globals.ensures ∙ ap (λ k. noted nothing (faults (map item c.args.t.now.globals) k)) c.width_of.ensures in
    let none = no_faults _ _ told c.in-Ok.ensures in
    let rows = c.as_slice.ensures.value ∙ c.in_ok-found.ensures.rows ∙ ap (λ xs. calls_of (map item xs)) c.as_slice-globals.ensures in
    let free = acyclic _ _ _ c.in_ok-number.ensures c.in-None.is rows in
    let is = c.in-Some-main_arity.ensures ∙ ap (λ xs. option_map (λ f. length (parameters f.params)) (main_of (functions_in (map item xs)))) c.as_slice-globals.ensures in
    taking (map item c.args.t.now.globals) c.args.n c.in-Some-main_arity.arity none free is c.if-arity-eq0.false
