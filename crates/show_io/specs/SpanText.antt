-- The spans of a line as text: for each a line of the line's number, the kind in words, place and length in the converted line, and the bytes.
use Rattle.std.specs.Prelude.{ℕ, cond, List, [], ◌∷◌, ◌++◌, take, drop, eqb}
use Rattle.text.specs.Utf8.{to, within, bytes_of}
use Rattle.spans.specs.Spans.{Record}
use Rattle.drawing.specs.Marks.{byte_mark}
use Rattle.rows_io.specs.Output.{decimal}
pub mod Contracts
pub mod Vectors

-- ---- kinds, in document 01's words

-- `style-order`, `hyperlink`, `line-drawing`, `ignored-sequence`; `erase-to-end` is 13
unfoldable pub sequence_word : ℕ → List ℕ
sequence_word k =
    cond (eqb k 6) (0x73 ∷ 0x74 ∷ 0x79 ∷ 0x6C ∷ 0x65 ∷ 0x2D ∷ 0x6F ∷ 0x72 ∷ 0x64 ∷ 0x65 ∷ 0x72 ∷ [])
    (cond (eqb k 7) (0x68 ∷ 0x79 ∷ 0x70 ∷ 0x65 ∷ 0x72 ∷ 0x6C ∷ 0x69 ∷ 0x6E ∷ 0x6B ∷ [])
    (cond (eqb k 8) (0x6C ∷ 0x69 ∷ 0x6E ∷ 0x65 ∷ 0x2D ∷ 0x64 ∷ 0x72 ∷ 0x61 ∷ 0x77 ∷ 0x69 ∷ 0x6E ∷ 0x67 ∷ [])
    (cond (eqb k 9) (0x69 ∷ 0x67 ∷ 0x6E ∷ 0x6F ∷ 0x72 ∷ 0x65 ∷ 0x64 ∷ 0x2D ∷ 0x73 ∷ 0x65 ∷ 0x71 ∷ 0x75 ∷ 0x65 ∷ 0x6E ∷ 0x63 ∷ 0x65 ∷ [])
    (0x65 ∷ 0x72 ∷ 0x61 ∷ 0x73 ∷ 0x65 ∷ 0x2D ∷ 0x74 ∷ 0x6F ∷ 0x2D ∷ 0x65 ∷ 0x6E ∷ 0x64 ∷ []))))

-- `text`, `match`, `control`, `invalid`, `unprintable`, `tab`, `cr-lf`, `lf`
unfoldable pub kind_word : ℕ → List ℕ
unfolding sequence_word
kind_word k =
    cond (eqb k 1) (0x74 ∷ 0x65 ∷ 0x78 ∷ 0x74 ∷ [])
    (cond (eqb k 2) (0x6D ∷ 0x61 ∷ 0x74 ∷ 0x63 ∷ 0x68 ∷ [])
    (cond (eqb k 3) (0x63 ∷ 0x6F ∷ 0x6E ∷ 0x74 ∷ 0x72 ∷ 0x6F ∷ 0x6C ∷ [])
    (cond (eqb k 4) (0x69 ∷ 0x6E ∷ 0x76 ∷ 0x61 ∷ 0x6C ∷ 0x69 ∷ 0x64 ∷ [])
    (cond (eqb k 5) (0x75 ∷ 0x6E ∷ 0x70 ∷ 0x72 ∷ 0x69 ∷ 0x6E ∷ 0x74 ∷ 0x61 ∷ 0x62 ∷ 0x6C ∷ 0x65 ∷ [])
    (cond (eqb k 10) (0x74 ∷ 0x61 ∷ 0x62 ∷ [])
    (cond (eqb k 11) (0x63 ∷ 0x72 ∷ 0x2D ∷ 0x6C ∷ 0x66 ∷ [])
    (cond (eqb k 12) (0x6C ∷ 0x66 ∷ [])
    (sequence_word k))))))))

-- ---- bytes

-- 20 to 7E as it is, another byte by its mark, such as `<1B>`
unfoldable pub visible_byte : ℕ → List ℕ
unfolding byte_mark bytes_of
visible_byte b = cond (within (to 0x20 0x7E) b) (b ∷ []) (bytes_of (byte_mark b))

unfoldable pub visible : List ℕ → List ℕ
unfolding visible_byte
visible [] = []
visible (b ∷ s) = visible_byte b ++ visible s

-- the bytes of a span: those of a Text, which are clusters with a width, as they are
unfoldable pub shown : (kind : ℕ) → List ℕ → List ℕ
unfolding visible
shown kind s = cond (eqb kind 1) s (visible s)

-- ---- a span

-- `3: text `
unfoldable pub head_text : (number kind : ℕ) → List ℕ
unfolding decimal kind_word
head_text number kind = decimal number ++ ((0x3A ∷ 0x20 ∷ []) ++ (kind_word kind ++ (0x20 ∷ [])))

-- `0 8 `
unfoldable pub place_text : (place len : ℕ) → List ℕ
unfolding decimal
place_text place len = decimal place ++ ((0x20 ∷ []) ++ (decimal len ++ (0x20 ∷ [])))

-- `3: text 0 8 08:00:00` and a newline
unfoldable pub span_text : (number : ℕ) (conv : List ℕ) (kind place len : ℕ) → List ℕ
unfolding head_text place_text shown
span_text number conv kind place len = head_text number kind ++ (place_text place len ++ (shown kind (take len (drop place conv)) ++ (0x0A ∷ [])))

unfoldable pub records_text : (number : ℕ) (conv : List ℕ) → List Record → List ℕ
unfolding span_text
records_text number conv [] = []
records_text number conv (r ∷ rs) = span_text number conv r.kind r.place.0 r.len ++ records_text number conv rs
