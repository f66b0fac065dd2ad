-- The names that each file publishes, and the property that each belongs to. The files are numbered: 0 GraphemeBreakProperty, 1 EastAsianWidth,
-- 2 emoji-data, 3 DerivedCoreProperties. The names of a file are numbered from 1 on.
use Rattle.std.specs.Prelude.{ℕ, suc, ◌+◌, ◌-◌, ◌*◌, Bool, true, false, cond, ◌&&◌, List, [], ◌∷◌, ◌++◌, length, ◌==◌, nat_le, nat_lt, slice_index, Option, Some, None}
use Prim.Native.String.{String}
use Rattle.unicode_io.specs.Text.{ascii}
pub mod Laws

-- Grapheme_Cluster_Break's stand in the order of the classes' numbers
unfoldable pub break_names : List (List ℕ)
unfolding ascii
break_names = ascii "CR" ∷ ascii "LF" ∷ ascii "Control" ∷ ascii "Extend" ∷ ascii "ZWJ" ∷ ascii "L" ∷ ascii "V" ∷ ascii "T" ∷ ascii "LV" ∷ ascii "LVT" ∷ ascii "Regional_Indicator" ∷ ascii "Prepend" ∷ ascii "SpacingMark" ∷ []

unfoldable pub width_names : List (List ℕ)
unfolding ascii
width_names = ascii "A" ∷ ascii "H" ∷ ascii "N" ∷ ascii "Na" ∷ ascii "F" ∷ ascii "W" ∷ []

unfoldable pub emoji_names : List (List ℕ)
unfolding ascii
emoji_names = ascii "Emoji" ∷ ascii "Emoji_Presentation" ∷ ascii "Emoji_Modifier" ∷ ascii "Emoji_Modifier_Base" ∷ ascii "Emoji_Component" ∷ ascii "Extended_Pictographic" ∷ []

-- the spaces around the semicolon of Indic_Conjunct_Break's lines are left out
unfoldable pub derived_names : List (List ℕ)
unfolding ascii
derived_names = ascii "Alphabetic" ∷ ascii "Case_Ignorable" ∷ ascii "Cased" ∷ ascii "Changes_When_Casefolded" ∷ ascii "Changes_When_Casemapped" ∷ ascii "Changes_When_Lowercased" ∷ ascii "Changes_When_Titlecased" ∷ ascii "Changes_When_Uppercased" ∷ ascii "Default_Ignorable_Code_Point" ∷ ascii "Grapheme_Base" ∷ ascii "Grapheme_Extend" ∷ ascii "Grapheme_Link" ∷ ascii "ID_Continue" ∷ ascii "ID_Start" ∷ ascii "Lowercase" ∷ ascii "Math" ∷ ascii "Uppercase" ∷ ascii "XID_Continue" ∷ ascii "XID_Start" ∷ ascii "InCB;Linker" ∷ ascii "InCB;Consonant" ∷ ascii "InCB;Extend" ∷ []

unfoldable pub names_of : ℕ → List (List ℕ)
unfolding break_names width_names emoji_names derived_names
names_of file = cond (file == 0) break_names (cond (file == 1) width_names (cond (file == 2) emoji_names derived_names))

unfoldable pub same : List ℕ → List ℕ → Bool
same [] [] = true
same [] (y ∷ ys) = false
same (x ∷ xs) [] = false
same (x ∷ xs) (y ∷ ys) = x == y && same xs ys

-- the number of a word among names, counted from n on; 0 where it is none of them
unfoldable pub position : List ℕ → ℕ → List (List ℕ) → ℕ
unfolding same
position word n [] = 0
position word n (x ∷ xs) = let further : ℕ = position word (n + 1) xs in cond (same word x) n further

unfoldable pub name_number : ℕ → List ℕ → ℕ
unfolding names_of position
name_number file word = position word 1 (names_of file)

-- the property of a name: Grapheme_Cluster_Break and East_Asian_Width are one each, of the other files each name is one, but
-- Indic_Conjunct_Break's values are one together
abbrev pub property_of : ℕ → ℕ → ℕ
property_of file name = cond (nat_lt file 2) 0 (cond (nat_lt name 20) name 20)

-- what a name says of a scalar, as a number that cells add up: the number of a break class, 16 for a width of W or F, 32 for
-- Extended_Pictographic, 64 times a conjunct value
abbrev pub value_of : ℕ → ℕ → ℕ
value_of file name =
    cond (file == 0) name
    (cond (file == 1) (cond (nat_le 5 name) 16 0)
    (cond (file == 2) (cond (name == 6) 32 0)
    (cond (nat_le 20 name) (64 * (name - 19)) 0)))

-- ---- as the code looks for a word: the names in one text, each with a space after it

unfoldable pub joined : List (List ℕ) → List ℕ
joined [] = []
joined (x ∷ xs) = x ++ 0x20 ∷ joined xs

-- how many bytes of the word agree with a name so far; one more than it has once one does not
unfoldable pub agreeing : List ℕ → ℕ → ℕ → ℕ
agreeing word at b = cond (nat_lt at (length word) && slice_index word at == b) (at + 1) (length word + 1)

unfoldable pub number_from : List ℕ → ℕ → ℕ → List ℕ → ℕ
unfolding agreeing
number_from word number at [] = 0
number_from word number at (b ∷ bs) =
    let next : ℕ = number_from word (number + 1) 0 bs in
    let within : ℕ = number_from word number (agreeing word at b) bs in
    cond (b == 0x20) (cond (at == length word) number next) within

-- what the code answers: no number where it is 0
abbrev pub number_found : ℕ → Option ℕ
number_found n = cond (n == 0) None (Some n)
