-- A line of a file as the code reads it, byte by byte, by a table of stages. Grammar says what a line is, and that they agree.
use Rattle.std.specs.Prelude.{ℕ, ◌+◌, ◌*◌, ◌%◌, Bool, true, false, cond, ◌&&◌, ◌||◌, List, [], ◌∷◌, take, replicate, ◌==◌, nat_le, nat_lt, slice_index, slice_set}
use Rattle.unicode_io.specs.Grammar.{is_hex, hex_value, Entry, nothing, other_form, entry}
use Rattle.unicode_io.specs.Names.{name_number}
use Rattle.unicode_io.specs.declared.line.Number.{Number}
use Rattle.unicode_io.specs.declared.line.Line.{Line}
use Rattle.unicode_io.specs.declared.line.Stage.{Stage}
use Rattle.unicode_io.specs.declared.line.Stage.TheVariants.{Start, Low, AfterLow, Dot, BeforeHigh, High, AfterHigh, BeforeWord, Word, AfterWord, OtherForm}
use Rattle.unicode_io.specs.declared.line.Kind.{Kind}
use Rattle.unicode_io.specs.declared.line.Kind.TheVariants as kind
use Rattle.unicode_io.specs.declared.line.Content.{Content}
use Rattle.unicode_io.specs.declared.line.Content.TheVariants as content
pub mod Laws

-- the kinds of bytes: space, digit, `.`, `;`, any other
abbrev pub kind_of : ℕ → ℕ
kind_of b = cond (b == 0x20) 0 (cond (is_hex b) 1 (cond (b == 0x2E) 2 (cond (b == 0x3B) 3 4)))

-- the stage after a byte, by the stage before it and the byte's kind
abbrev pub stages : List ℕ
stages =
    --  space   digit   .       ;       other
    0 ∷ 1 ∷ 10 ∷ 10 ∷ 10 ∷  -- 0: nothing yet
    2 ∷ 1 ∷ 3 ∷ 7 ∷ 10 ∷  -- 1: in the first number
    2 ∷ 10 ∷ 3 ∷ 7 ∷ 10 ∷  -- 2: after it
    10 ∷ 10 ∷ 4 ∷ 10 ∷ 10 ∷  -- 3: after one `.`
    4 ∷ 5 ∷ 10 ∷ 10 ∷ 10 ∷  -- 4: after `..`
    6 ∷ 5 ∷ 10 ∷ 7 ∷ 10 ∷  -- 5: in the second number
    6 ∷ 10 ∷ 10 ∷ 7 ∷ 10 ∷  -- 6: after it
    7 ∷ 8 ∷ 8 ∷ 7 ∷ 8 ∷  -- 7: after `;`
    9 ∷ 8 ∷ 8 ∷ 7 ∷ 8 ∷  -- 8: in a word of the name
    9 ∷ 10 ∷ 10 ∷ 7 ∷ 10 ∷  -- 9: after it
    10 ∷ 10 ∷ 10 ∷ 10 ∷ 10 ∷  -- 10: a line of another form
    []

abbrev pub next_stage : ℕ → ℕ → ℕ
next_stage stage b = slice_index stages (stage * 5 + kind_of b)

-- a number of so many digits; seven are too many, and no more are kept
abbrev pub with_digit : Number → ℕ → Number
with_digit n b = cond (nat_lt n.digits 7) (cond (nat_le n.value 0xFFFFFF) (record { value = n.value * 16 + hex_value b; digits = n.digits + 1 }) n) n

-- 4 to 6 digits, up to 10FFFF
abbrev pub is_scalar : Number → Bool
is_scalar n = nat_le 4 n.digits && (nat_le n.digits 6 && nat_le n.value 0x10FFFF)

-- nothing read yet
abbrev pub empty : Line
empty = record { stage = 0; comment = false; low = record { value = 0; digits = 0 }; high = record { value = 0; digits = 0 }; name = replicate 32 0; count = 0 }

abbrev pub at_stage : Line → ℕ → Line
at_stage l s = record { stage = s; comment = l.comment; low = l.low; high = l.high; name = l.name; count = l.count }

abbrev pub in_comment : Line → Line
in_comment l = record { stage = l.stage; comment = true; low = l.low; high = l.high; name = l.name; count = l.count }

abbrev pub with_low : Line → ℕ → Line
with_low l b = record { stage = 1; comment = l.comment; low = with_digit l.low b; high = l.high; name = l.name; count = l.count }

abbrev pub with_high : Line → ℕ → Line
with_high l b = record { stage = 5; comment = l.comment; low = l.low; high = with_digit l.high b; name = l.name; count = l.count }

-- one byte more of the name; no name has more than 32
abbrev pub with_name : Line → ℕ → ℕ → Line
with_name l s b = cond (nat_lt l.count 32) (record { stage = s; comment = l.comment; low = l.low; high = l.high; name = slice_set l.name l.count b; count = l.count + 1 }) (at_stage l 10)

-- a byte of the name: one of a word, or a `;` after the first
abbrev pub in_name : ℕ → ℕ → ℕ → Bool
in_name before after b = after == 8 || (after == 7 && (b == 0x3B && nat_le 7 before))

unfoldable pub with_byte : Line → ℕ → Line
with_byte l b =
    cond l.comment l
    (cond (b == 0x23) (in_comment l)
    (cond (next_stage l.stage b == 1) (with_low l b)
    (cond (next_stage l.stage b == 5) (with_high l b)
    (cond (in_name l.stage (next_stage l.stage b) b) (with_name l (next_stage l.stage b) b)
    (at_stage l (next_stage l.stage b))))))

unfoldable pub line_from : Line → List ℕ → Line
line_from l [] = l
line_from l (b ∷ bs) = line_from (with_byte l b) bs

-- ---- what a line is, at its end

unfoldable pub ranged : Number → Number → ℕ → Entry
ranged low high name =
    cond (is_scalar low)
    (cond (high.digits == 0) (entry low.value low.value name)
    (cond (is_scalar high)
    (cond (nat_lt low.value high.value) (entry low.value high.value name) other_form)
    other_form))
    other_form

unfoldable pub entry_of : ℕ → Line → Entry
unfolding ranged
entry_of file l =
    cond (l.stage == 0) nothing
    (cond (nat_le 8 l.stage && nat_le l.stage 9)
    (cond (name_number file (take l.count l.name) == 0) other_form (ranged l.low l.high (name_number file (take l.count l.name))))
    other_form)

-- ---- what the code has for these numbers, and for an entry

abbrev pub kind_number : Kind → ℕ
kind_number kind.Space = 0
kind_number kind.Digit = 1
kind_number kind.Dot = 2
kind_number kind.Semicolon = 3
kind_number kind.Other = 4

abbrev pub stage_number : Stage → ℕ
stage_number Start = 0
stage_number Low = 1
stage_number AfterLow = 2
stage_number Dot = 3
stage_number BeforeHigh = 4
stage_number High = 5
stage_number AfterHigh = 6
stage_number BeforeWord = 7
stage_number Word = 8
stage_number AfterWord = 9
stage_number OtherForm = 10

abbrev pub entry_in : Content → Entry
entry_in content.Nothing = nothing
entry_in (content.Entry low high name) = entry low high name
entry_in content.OtherForm = other_form
