-- What the contracts of the calls say beyond the definitions.
use Rattle.std.specs.Prelude.{◌≡◌, ℕ, ◌*◌, ◌/◌, min, Bool, cond, not, ◌&&◌, ◌||◌, List, [], ◌∷◌, length, replicate, leb, Option, Some, None, MatchOption}
use Rattle.std.specs.Option.{is_none, unwrap_or}
use Rattle.text.specs.declared.Answer.{Answer}
use Rattle.text.specs.Class.{Profile}
use Rattle.text.specs.Width.{profile01}
use Rattle.text.specs.Overstrike.{convert}
use Rattle.text.specs.Calls.{ask, decide, lent, counted, question1, question2}
use Rattle.text.specs.TextParts.{column}
use Rattle.spans.specs.Spans.{Span, spans, Record, records}
use Rattle.spans.specs.Calls.{question4, no_record}
use Rattle.rows.specs.Rows.{Row, rows}
use Rattle.rows.specs.Calls.{mode_of, mode_and_width, numbers_of, Wrapped}
use Rattle.rows.specs.Wrap.{MadeWrap, beginning}
use Rattle.rows.specs.declared.Request.{Request}
use Rattle.rows.specs.declared.wrap.RowCounts.{RowCounts}
use Rattle.rows.specs.declared.wrap.Wrapping.{Wrapping}
pub mod Laws

-- the converted line of a call that is not refused 1 or 2 stands in so many bytes of a buffer
abbrev pub line_room : ℕ → ℕ
line_room conv = min conv 32768

-- how to wrap at a width and a mode
abbrev pub wrapping_at : (width mode : ℕ) → Wrapping
wrapping_at width mode = record { profile = record { version = 0 }; width = column width; mode = mode }

-- how many rows a call answers, and how many numbers of the row list it keeps
unfoldable pub row_count : Request → ℕ → ℕ
row_count q n = unwrap_or q.known n

abbrev pub numbers_kept : Request → (rows numbers : ℕ) → ℕ
numbers_kept q rows numbers = cond (is_none q.known && leb rows (numbers / 2)) (2 * rows) 0

-- so many rows, where that is known, or those that the spans of a line push
abbrev pub RowsCounted : Profile → (width mode : ℕ) (line : List ℕ) → List Record → Option ℕ → (l l' : List ℕ) → ℕ → Type 0
RowsCounted P width mode line rs known l l' n = MatchOption known ((t : RowCounts) × MadeWrap P width mode line rs l (beginning 0 0) l' t × (t.count ≡ n)) (λ k. n ≡ k)

abbrev pub wrapped_as : Answer → List ℕ → List Record → List ℕ → Wrapped
wrapped_as a conv spans rows = record { number = a.number; count = a.count; conv = conv; spans = spans; rows = rows }

-- what a call leaves that is refused with a number
abbrev pub refused : (number size places numbers : ℕ) → Wrapped
refused number size places numbers = record { number = number; count = 0; conv = replicate size 0; spans = replicate places no_record; rows = replicate numbers 0 }

-- what a call leaves that was lent so many bytes, records and numbers: the rows are listed where all fit, and left out where their number is known
unfoldable pub answered : Request → (size places numbers : ℕ) (line : List ℕ) → Wrapped
unfolding decide lent counted convert spans records rows mode_of numbers_of row_count
answered q size places numbers line =
    let s : List ℕ = convert profile01 line in
    let ss : List Span = spans profile01 s in
    let rs : List Row = rows profile01 q.width (mode_of q.mode) ss in
    let n : ℕ = row_count q (length rs) in
    let pairs : List ℕ = cond (is_none q.known && leb (2 * length rs) numbers) (numbers_of rs) [] in
    let r : ℕ = decide (question1 line ∷ question2 size line ∷ question4 places ss ∷ ask 5 (mode_and_width q.mode q.width) ∷ ask 6 (not q.listed || leb (2 * n) numbers) ∷ []) in
    record { number = r; count = counted n r; conv = lent 0 size s r; spans = lent no_record places (records ss) r; rows = lent 0 numbers pairs r }
