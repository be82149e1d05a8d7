-- Readings of a language from a list of symbols. The reading of a language is made like this:
--
-- 1. Its tokens become symbols (Symbol): keywords and marks, names, numbers, strings, each with its place.
-- 2. A reading (Readings) takes a number of calls and symbols, and comes to what it found and the symbols behind that, or to the symbols before
--    which it is stuck (Reading). One symbol is read by `sign` or by a reading of the language's own; `>>>` reads one thing behind the other,
--    `made` makes something else of it, `optional` reads what stands behind a mark where that is next, `further` things each of which stands
--    behind a mark, `worded` what begins with a word of a table, and `to_end` one thing after the other to the end.
-- 3. Each is lawful (Lawful) towards the spelling of the trees that it reads: it finds what is spelled and nothing else (sound, complete), it
--    goes by no symbol behind the next (local), where it is stuck the symbols before go on to be such a tree (viable), and with more calls than there
--    are symbols it is told (settled). The laws of readings put together follow from those of their parts: `sign_law`, `given_law`, `then_law`,
--    `made_law`, `other_law`, `told_law` (proofs/Combining), `single_law`, `worded_law` (proofs/CombiningWords), `by_mark_law`, `optional_law`
--    (proofs/CombiningMarks), `further_law` (proofs/CombiningLists). What stands within itself, as expressions do, proves its five laws by itself;
--    proofs/After, Local, Keeps, Ending and Going have the steps.
-- 4. From the law of one thing follow those of the whole (Whole, proofs/ToEnd): what is read to the end is a tree that the symbols spell
--    (`found_whole`), where the reading is stuck they stop to begin one (`stuck_whole`), and it is one of the two (`some_whole`); and they stop at one
--    place at most, and nowhere where they spell a tree (proofs/OneEnd: `one_left`, `goes_through`).
-- 5. A function that reads says by `Says` (Seen) what its reading comes to. `Sign`, `Stop`, `behind` and `mark` stand in src/; proofs/Saying, Fronts,
--    Furthering and Continuing have what is said of readings put together, of a first symbol, and of loops.
pub mod Symbol
pub mod Reading
pub mod Readings
pub mod Lawful
pub mod Whole
pub mod Seen
