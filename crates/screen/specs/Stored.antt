-- Short change records (document 02, U8): the stored form of a change list has 2-byte lengths. The calls `store` and `restore`.
use Rattle.std.specs.Prelude.{ℕ, Bool, true, false, cond, ◌&&◌, List, [], ◌∷◌, ◌++◌, map, length, eqb, leb}
use Rattle.text.specs.Calls.{Question, ask, Written}
use Rattle.screen.specs.Records.{Record, records, encode}
use Rattle.screen.specs.WellFormed.{old_size, body_sizes, well_formed}
use Rattle.screen.specs.Calls.{writing}
pub mod Laws
pub mod Examples
pub mod Contracts

-- an old attribute body gets baseline alignment
unfoldable pub lengthened : Record → Record
lengthened r = cond (eqb r.kind 2 && eqb (length r.body) old_size) (record { whole = r.whole; kind = r.kind; body = r.body ++ 0 ∷ [] }) r

-- no body is above 65,535 bytes
unfoldable pub short : List Record → Bool
short [] = true
short (r ∷ rs) = leb (length r.body) 65535 && short rs

-- the questions before 9
abbrev pub store_questions : List Record → List Question
store_questions rs = ask 10 (well_formed (body_sizes true) rs) ∷ ask 12 (short rs) ∷ []

abbrev pub restore_questions : List Record → List Question
restore_questions rs = ask 10 (well_formed (body_sizes false) rs) ∷ []

-- the stored form of a change list, lent `room` bytes
unfoldable pub store_call : (room : ℕ) (list : List ℕ) → Written
unfolding writing records well_formed encode lengthened short
store_call room list =
    let rs : List Record = records 4 list in
    writing room (encode 2 (map lengthened rs)) (store_questions rs)

-- the change list of a stored form; attribute bodies have 25 bytes in both
unfoldable pub restore_call : (room : ℕ) (stored : List ℕ) → Written
unfolding writing records well_formed encode
restore_call room stored =
    let rs : List Record = records 2 stored in
    writing room (encode 4 rs) (restore_questions rs)
