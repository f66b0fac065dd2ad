-- Lines, files, rows and texts, computed.
use Rattle.std.specs.Prelude.{◌≡◌, ℕ, Bool, true, false, ◌&&◌, List, [], ◌∷◌, map, ◌==◌, refl}
use Prim.Native.String.{String}
use Rattle.unicode_io.specs.Text.{ascii}
use Rattle.unicode_io.specs.Grammar.{Entry, entry, nothing, other_form, line_of}
use Rattle.unicode_io.specs.Rows.{row, rows_from}
use Rattle.unicode_io.specs.Output.{head_of, table_text, refusal}
use Rattle.unicode_io.specs.Generator.{generated3}
use Rattle.unicode_io.specs.Entries.{entries_from, entries_of, overlap, kind_by}

-- ---- lines: each part of the grammar, and each way to fail it

abbrev alike : ℕ → List String → Entry → Bool
alike file [] e = true
alike file (s ∷ ss) e = let l : Entry = line_of file (ascii s) in (l.kind == e.kind && (l.low == e.low && (l.high == e.high && l.name == e.name))) && alike file ss e

-- EastAsianWidth, whose names are A H N Na F W
scalars : alike 1 ("0041;W" ∷ "00041;W" ∷ "000041;W" ∷ " 0041  ;  W  # any" ∷ "0041;W#x" ∷ "0041;W # x # y" ∷ []) (entry 0x41 0x41 6) ≡ true
unfolding line_of ascii
scalars = refl

ranges : alike 1 ("0041..0042;Na" ∷ "0041 .. 0042 ;Na" ∷ "  0041  ..  0042  ;  Na  " ∷ []) (entry 0x41 0x42 4) && (alike 1 ("10FFFF;F" ∷ []) (entry 0x10FFFF 0x10FFFF 5) && alike 1 ("D800..DFFF;N" ∷ []) (entry 0xD800 0xDFFF 3)) ≡ true
unfolding line_of ascii
ranges = refl

blank : alike 1 ("" ∷ "   " ∷ "#" ∷ "  # 0041;W" ∷ []) nothing ≡ true
unfolding line_of ascii
blank = refl

-- digits: too few, too many, small letters, above 10FFFF, a space inside, none
numbers : alike 1 ("041;W" ∷ "0000041;W" ∷ "00a9;W" ∷ "110000;W" ∷ "FFFFFF;W" ∷ "0041..110000;W" ∷ "00 41;W" ∷ ";W" ∷ "..0042;W" ∷ "0041..;W" ∷ []) other_form ≡ true
unfolding line_of ascii
numbers = refl

-- ranges: equal ends, falling, one dot, three, a space between the dots
unrisen : alike 1 ("0041..0041;W" ∷ "0042..0041;W" ∷ "0041.0042;W" ∷ "0041...0042;W" ∷ "0041. .0042;W" ∷ []) other_form ≡ true
unfolding line_of ascii
unrisen = refl

-- names: another case, none, no `;`, a second one, a space inside, another file's, Other; bytes that are no spaces
unnamed : alike 1 ("0041;w" ∷ "0041;" ∷ "0041" ∷ "0041..0042" ∷ "0041;W;" ∷ "0041;;W" ∷ "0041;W W" ∷ "0041;N a" ∷ "0041;Extend" ∷ "0041;W\r" ∷ "\t0041;W" ∷ "0041,W" ∷ []) other_form && alike 0 ("0041;Other" ∷ "0041;W" ∷ []) other_form ≡ true
unfolding line_of ascii
unnamed = refl

-- DerivedCoreProperties: spaces may stand around the second `;`
conjuncts : map (λ (s : String). line_of 3 (ascii s)) ("0041;InCB;Linker" ∷ "0041 ; InCB ; Consonant" ∷ "0041; InCB; Extend" ∷ "0041;InCB; None" ∷ "0041;InCB" ∷ "0041;InCB;" ∷ "0041 ; Math # x" ∷ [])
    ≡ entry 0x41 0x41 20 ∷ entry 0x41 0x41 21 ∷ entry 0x41 0x41 22 ∷ other_form ∷ other_form ∷ other_form ∷ entry 0x41 0x41 16 ∷ []
unfolding line_of ascii
conjuncts = refl

-- 14: one property, whatever the values; in emoji-data each name is one
abbrev overlaps : ℕ → String → Bool
overlaps file s = overlap file (entries_of file (ascii s))

met : overlaps 0 "0041 ; Extend\n0041 ; Control\n" ∷ overlaps 1 "0041..0050;W\n# x\n0042;A" ∷ overlaps 2 "0041;Emoji\n0041;Emoji" ∷ overlaps 3 "0041;InCB;Linker\n0041;InCB;Extend" ∷ []
    ≡ true ∷ true ∷ true ∷ true ∷ []
unfolding overlap entries_from ascii
met = refl

unmet : overlaps 1 "0041..0045;W\n0046..0050;F" ∷ overlaps 2 "0041;Emoji\n0041;Extended_Pictographic" ∷ overlaps 3 "0041;InCB;Linker\n0041;Math" ∷ [] ≡ false ∷ false ∷ false ∷ []
unfolding overlap entries_from ascii
unmet = refl

-- no class; L and W; V; Extended_Pictographic and W; Extend before Extended_Pictographic; a Consonant; Regional_Indicator, Prepend, SpacingMark
kinds : kind_by 0 0 0 0 ∷ kind_by 6 6 0 0 ∷ kind_by 7 6 0 0 ∷ kind_by 0 6 6 0 ∷ kind_by 4 1 6 0 ∷ kind_by 0 3 0 21 ∷ kind_by 11 1 0 0 ∷ kind_by 12 1 0 0 ∷ kind_by 13 3 0 0 ∷ [] ≡ 45 ∷ 22 ∷ 24 ∷ 50 ∷ 12 ∷ 173 ∷ 41 ∷ 53 ∷ 57 ∷ []
unfolding kind_by
kinds = refl

rows : rows_from 0 (45 ∷ 8 ∷ 8 ∷ 4 ∷ 45 ∷ 45 ∷ 8 ∷ []) ≡ row 1 3 8 ∷ row 3 4 4 ∷ row 6 7 8 ∷ []
unfolding rows_from
rows = refl

text : table_text (row 0x300 0x370 12 ∷ []) ≡ ascii "pub(crate) const PART_0: [u32; 3] = [\n    0x300,\n    0x36f,\n    0xc,\n];\n"
unfolding table_text ascii
text = refl

refused : refusal 13 ≡ ascii "refused 13\n"
unfolding refusal ascii
refused = refl

-- 65 rows are parts of two; the third begins the second part
part : head_of 65 2 ≡ ascii "\npub(crate) const PART_1: [u32; 6] = [\n"
unfolding head_of ascii
part = refl

-- ---- files

-- 13 in each file, and in the last before 14 in the first
other_form_law :
    generated3 (ascii "0041 Extend") (ascii "0041;W") (ascii "0041;Emoji") ∷ generated3 (ascii "0041;Extend") (ascii "# x\n0041;X\n") (ascii "0041;Emoji") ∷ generated3 (ascii "0041;Extend\n0041;Control\n") (ascii "0041;W") (ascii "0041;Emoji_\n") ∷ []
    ≡ ascii "refused 13\n" ∷ ascii "refused 13\n" ∷ ascii "refused 13\n" ∷ []
unfolding generated3 ascii
other_form_law = refl

-- 14 in each file
twice :
    generated3 (ascii "0041..0043;Extend\n0043;Extend") (ascii "0041;W") (ascii "") ∷ generated3 (ascii "0041;Extend") (ascii "0042;A\n0041..0050;W") (ascii "") ∷ generated3 (ascii "") (ascii "") (ascii "0041;Emoji\n0041;Extended_Pictographic\n0041;Emoji\n") ∷ []
    ≡ ascii "refused 14\n" ∷ ascii "refused 14\n" ∷ ascii "refused 14\n" ∷ []
unfolding generated3 ascii
twice = refl
