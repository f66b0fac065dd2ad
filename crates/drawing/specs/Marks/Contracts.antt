-- What the contracts of src/mark.rt say beyond the definitions: marks and tabs.
use Rattle.std.specs.Prelude.{ℕ, zero, suc, ◌+◌, ◌-◌, ◌*◌, ◌/◌, ◌%◌, ◌≤◌, cond, ◌&&◌, List, [], ◌∷◌, length, eqb, leb, ltb}
use Rattle.buffer.specs.Numbers.{hex_digit}
use Rattle.text.specs.Utf8.{Scalar, asciis}
use Rattle.text.specs.Class.Code.{profile_of}
use Rattle.text.specs.TextParts.{text_at}
use Rattle.drawing.specs.Clip.{spaces}
use Rattle.drawing.specs.Marks.{byte_mark, scalar_mark}
use Rattle.drawing.specs.Attributes.{file, control}
use Rattle.drawing.specs.Draw.{State, Sent, write_truncated, write_marks}
use Rattle.drawing.specs.declared.attributes.Style as code
use Rattle.drawing.specs.declared.attributes.Style.TheVariants.{File, Control}
use Rattle.drawing.specs.declared.state.AttributeState.{AttributeState}
use Rattle.drawing.specs.declared.write.Window.{Window}
use Rattle.drawing.specs.State.{state_of, Wrote}

-- ---- a mark's bytes: `<`, in the longer ones `U+`, digits, `>`

-- digit k from the right
abbrev pub digit_of : ℕ → ℕ → ℕ
digit_of v k =
    cond (eqb k 0) (v % 16)
    (cond (eqb k 1) (v / 0x10 % 16)
    (cond (eqb k 2) (v / 0x100 % 16)
    (cond (eqb k 3) (v / 0x1000 % 16)
    (cond (eqb k 4) (v / 0x10000 % 16) (v / 0x100000 % 16)))))

-- byte i of a mark of n
abbrev pub mark_byte : ℕ → ℕ → ℕ → ℕ
mark_byte v n i =
    cond (eqb i 0) 0x3C
    (cond (leb n (i + 1)) 0x3E
    (cond (ltb 4 n && eqb i 1) 0x55
    (cond (ltb 4 n && eqb i 2) 0x2B (hex_digit (digit_of v (n - i - 2))))))

-- so many from byte i on
unfoldable pub mark_part : ℕ → ℕ → ℕ → ℕ → List ℕ
mark_part v n i zero = []
mark_part v n i (suc k) = mark_byte v n i ∷ mark_part v n (suc i) k

abbrev pub mark_text : ℕ → ℕ → List Scalar
mark_text v n = asciis (mark_part v n 0 n)

-- a mark in a window
abbrev pub marking : Window → ℕ → ℕ → AttributeState → Sent
marking w v n t = write_truncated (profile_of w.profile) w.start.0 w.end.0 (state_of t) control (mark_text v n)

-- a tab in a window
abbrev pub tabbing : Window → AttributeState → Sent
tabbing w t = write_truncated (profile_of w.profile) w.start.0 w.end.0 (state_of t) file (spaces (8 - t.position.0 % 8))

-- ---- spans

-- the text of a Control, Invalid or Tab span
abbrev pub composed_text : ℕ → ℕ → ℕ → List Scalar
composed_text kind byte position = cond (eqb kind 10) (spaces (8 - position % 8)) (byte_mark byte)

abbrev pub composed_style : ℕ → code.Style
composed_style kind = cond (eqb kind 10) File Control

-- a scalar's mark in a window
abbrev pub scalar_marking : Window → ℕ → AttributeState → Sent
scalar_marking w c t = write_truncated (profile_of w.profile) w.start.0 w.end.0 (state_of t) control (scalar_mark c)

-- a mark for each scalar of a text
abbrev pub marks_of : Window → List ℕ → State → Sent
marks_of w s t = write_marks (profile_of w.profile) w.start.0 w.end.0 t (text_at s 0)

pub record MarksWrote (w : Window) (s l : List ℕ) (at : ℕ) (t : AttributeState) (l' : List ℕ) (r : ℕ) (t' : AttributeState) : Type 0 where
  pub wrote : Wrote l at t (marks_of w s (state_of t)) l' r t'
  pub near : t'.position.0 ≤ t.position.0 + 20 * length s
