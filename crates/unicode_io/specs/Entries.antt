-- What the entries of a file say: whether two overlap, and what each scalar has. Lists of entries have the last line's first; a line that is no
-- entry has no scalar.
use Rattle.std.specs.Prelude.{ℕ, ◌+◌, ◌-◌, ◌*◌, Bool, true, false, cond, ◌&&◌, ◌||◌, List, [], ◌∷◌, ◌++◌, ◌==◌, nat_le}
use Rattle.unicode_io.specs.Names.{property_of}
use Rattle.unicode_io.specs.Grammar.{Entry, line_of}
pub mod Laws
pub mod Cell
pub mod Fill
pub mod Steps
pub mod Bytes

-- ---- the entries of a file

-- a line ends at a newline or at the file's end
unfoldable pub entries_from : ℕ → (line : List ℕ) → (found : List Entry) → List ℕ → List Entry
unfolding line_of
entries_from file line found [] = line_of file line ∷ found
entries_from file line found (b ∷ bs) =
    let next : List Entry = entries_from file [] (line_of file line ∷ found) bs in
    let more : List Entry = entries_from file (line ++ b ∷ []) found bs in
    cond (b == 0x0A) next more

abbrev pub entries_of : ℕ → List ℕ → List Entry
entries_of file s = entries_from file [] [] s

-- ---- 13: a line of another form

unfoldable pub malformed : List Entry → Bool
malformed [] = false
malformed (e ∷ es) = e.kind == 2 || malformed es

-- ---- 14: two entries of one property that have a scalar in common

abbrev pub is_entry : Entry → Bool
is_entry e = e.kind == 1

abbrev pub meet : ℕ → Entry → Entry → Bool
meet file e f = (is_entry e && is_entry f) && (property_of file e.name == property_of file f.name && (nat_le e.low f.high && nat_le f.low e.high))

unfoldable pub meets_any : ℕ → Entry → List Entry → Bool
meets_any file e [] = false
meets_any file e (f ∷ es) = meet file e f || meets_any file e es

unfoldable pub overlap : ℕ → List Entry → Bool
unfolding meets_any
overlap file [] = false
overlap file (e ∷ es) = meets_any file e es || overlap file es

-- ---- what a scalar has

-- an entry of property p that has the scalar x
abbrev pub says : ℕ → ℕ → ℕ → Entry → Bool
says file p x e = is_entry e && (property_of file e.name == p && (nat_le e.low x && nat_le x e.high))

-- the number of the name that a scalar has for property p; 0 where no entry has it
unfoldable pub name_at : ℕ → ℕ → List Entry → ℕ → ℕ
name_at file p [] x = 0
name_at file p (e ∷ es) x = cond (says file p x e) e.name (name_at file p es x)

-- the class by the numbers of the names in their files, in the segmenter's numbers: CR to Regional_Indicator 0 to 10, none 11,
-- Extended_Pictographic 12, Prepend 13, SpacingMark 14; a break class goes before Extended_Pictographic
unfoldable pub class_by : ℕ → ℕ → ℕ
class_by break emoji = cond (break == 0) (cond (emoji == 6) 12 11) (cond (nat_le break 11) (break - 1) (break + 1))

-- CR, LF, Control, Extend, ZWJ, V and T have width 0; else F and W have 2, others 1
unfoldable pub width_by : ℕ → ℕ → ℕ
width_by class width = cond (nat_le class 4 || (class == 6 || class == 7)) 0 (cond (nat_le 5 width) 2 1)

-- 1 Linker, 2 Consonant, 3 Extend
abbrev pub conjunct_by : ℕ → ℕ
conjunct_by name = name - 19

-- the kind of a scalar by its names: 64 times the conjunct value, 4 times the class, and the width
unfoldable pub kind_by : ℕ → ℕ → ℕ → ℕ → ℕ
unfolding class_by width_by
kind_by break width emoji derived = conjunct_by derived * 64 + class_by break emoji * 4 + width_by (class_by break emoji) width

-- by the entries of the four files; of three files the last list is empty
unfoldable pub kind_at : (breaks widths emojis derived : List Entry) → ℕ → ℕ
unfolding name_at kind_by
kind_at breaks widths emojis derived x = kind_by (name_at 0 0 breaks x) (name_at 1 0 widths x) (name_at 2 6 emojis x) (name_at 3 20 derived x)
