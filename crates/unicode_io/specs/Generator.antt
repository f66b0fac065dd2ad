-- What the program prints for its files: GraphemeBreakProperty, EastAsianWidth, emoji-data and, for a table with conjunct values,
-- DerivedCoreProperties. 13 is asked of every line of every file before 14 of any.
use Rattle.std.specs.Prelude.{ℕ, zero, suc, Bool, true, false, cond, ◌||◌, List, [], ◌∷◌, ◌==◌}
use Rattle.unicode_io.specs.Rows.{rows_from}
use Rattle.unicode_io.specs.Output.{table_text, refusal}
use Rattle.unicode_io.specs.Entries.{entries_from, entries_of, malformed, overlap, kind_at}
use Rattle.unicode_io.specs.Grammar.{Entry}
pub mod Laws

-- the kinds of n scalars from a place on
unfoldable pub kinds_from : (ℕ → ℕ) → ℕ → ℕ → List ℕ
kinds_from f at zero = []
kinds_from f at (suc n) = f at ∷ kinds_from f (suc at) n

-- the constants of the table that the entries make, for the scalars 0 to 10FFFF
unfoldable pub table_of : (breaks widths emojis derived : List Entry) → List ℕ
unfolding kinds_from
table_of breaks widths emojis derived = table_text (rows_from 0 (kinds_from (kind_at breaks widths emojis derived) 0 0x110000))

-- 13 goes before 14; 0: no refusal
abbrev pub refusal_of : (malformed overlap : Bool) → ℕ
refusal_of malformed overlap = cond malformed 13 (cond overlap 14 0)

unfoldable pub answer : (wrong twice : Bool) → List ℕ → List ℕ
unfolding refusal
answer wrong twice table = cond (refusal_of wrong twice == 0) table (refusal (refusal_of wrong twice))

-- three files
unfoldable pub generated3 : (breaks widths emojis : List ℕ) → List ℕ
unfolding answer table_of entries_from malformed overlap
generated3 b w e =
    let breaks : List Entry = entries_of 0 b in
    let widths : List Entry = entries_of 1 w in
    let emojis : List Entry = entries_of 2 e in
    answer (malformed emojis || (malformed widths || malformed breaks)) (overlap 2 emojis || (overlap 1 widths || overlap 0 breaks)) (table_of breaks widths emojis [])

-- four files
unfoldable pub generated4 : (breaks widths emojis derived : List ℕ) → List ℕ
unfolding answer table_of entries_from malformed overlap
generated4 b w e d =
    let breaks : List Entry = entries_of 0 b in
    let widths : List Entry = entries_of 1 w in
    let emojis : List Entry = entries_of 2 e in
    let derived : List Entry = entries_of 3 d in
    answer (malformed derived || (malformed emojis || (malformed widths || malformed breaks))) (overlap 3 derived || (overlap 2 emojis || (overlap 1 widths || overlap 0 breaks))) (table_of breaks widths emojis derived)
