-- Document 01's starred bench lines: one list of cases, each computed.
use Rattle.std.specs.Prelude.{ℕ, ◌*◌, List, [], ◌∷◌, ◌≡◌, refl, length}
use Rattle.std.proofs.Math.Option.{Option, none, some}
use Rattle.text.specs.Each.{All, all_nil, all_cons}
use Rattle.text.specs.Utf8.{Scalar, Piece, run, damaged, decode, runs, bytes_of}
use Rattle.text.specs.Width.{profile01}
use Rattle.text.specs.Overstrike.{convert}
use Rattle.spans.specs.Spans.{Record, spans, records}
use Rattle.spans.specs.Search.{in_order}
use Rattle.rows.specs.Rows.{rows}
use Rattle.rows.specs.Calls.{mode_of, numbers_of}
use Rattle.drawing.specs.Clip.{clip}
use Rattle.drawing.specs.Calls.{window_call}

-- a line, and what becomes of it
pub data Case : Type 0 where
  -- its converted line
  converts : (line conv : List ℕ) → Case
  -- its records: kind, place, length and match number of each
  reads : (line spans : List ℕ) → Case
  -- its rows at a width in a mode: start and end of each
  wraps : (line : List ℕ) (width mode : ℕ) (rows : List ℕ) → Case
  -- its rows in a mode, whatever the width
  wraps_at_any_width : (line : List ℕ) (mode : ℕ) (rows : List ℕ) → Case
  -- its text clipped to an offset and a width; none where a cluster would be torn
  clips : (line : List ℕ) (offset width : ℕ) (text : Option (List ℕ)) → Case
  -- the number that a window drawing of it for the bench, without matches and lent enough, returns
  draws : (line : List ℕ) (start end number : ℕ) → Case

unfoldable numbers : List Record → List ℕ
numbers [] = []
numbers (r ∷ rs) = r.kind ∷ r.place.0 ∷ r.len ∷ r.matched ∷ numbers rs

-- the text of a line that is one run
unfoldable text_of : List Piece → List Scalar
text_of [] = []
text_of (run s ∷ ps) = s
text_of (damaged b ∷ ps) = []

unfoldable bytes_in : Option (List Scalar) → Option (List ℕ)
unfolding bytes_of
bytes_in none = none
bytes_in (some s) = some (bytes_of s)

-- start and end of each row
unfoldable rows_of : (line : List ℕ) (width mode : ℕ) → List ℕ
unfolding convert spans rows mode_of numbers_of profile01
rows_of line width mode = numbers_of (rows profile01 width (mode_of mode) (spans profile01 (convert profile01 line)))

unfoldable pub Holds : Case → Type 0
unfolding convert spans records numbers rows_of clip text_of runs decode bytes_in in_order window_call profile01
Holds (converts line conv) = convert profile01 line ≡ conv
Holds (reads line ns) = numbers (records (spans profile01 (convert profile01 line))) ≡ ns
Holds (wraps line width mode ns) = rows_of line width mode ≡ ns
Holds (wraps_at_any_width line mode ns) = (width : ℕ) → rows_of line width mode ≡ ns
Holds (clips line offset width text) = bytes_in (clip profile01 offset width (text_of (runs (decode line)))) ≡ text
Holds (draws line start end number) = (window_call profile01 0 (8 * length line) (length line) 4096 start end none [] line).number ≡ number

pub starred : List Case
starred =
    converts (0x61 ∷ 0x08 ∷ []) []
    ∷ converts (0x62 ∷ 0x08 ∷ 0x62 ∷ []) (0x1B ∷ 0x5B ∷ 0x31 ∷ 0x6D ∷ 0x62 ∷ 0x1B ∷ 0x5B ∷ 0x32 ∷ 0x32 ∷ 0x6D ∷ [])
    ∷ converts (0x5F ∷ 0x08 ∷ 0x61 ∷ []) (0x1B ∷ 0x5B ∷ 0x34 ∷ 0x6D ∷ 0x61 ∷ 0x1B ∷ 0x5B ∷ 0x32 ∷ 0x34 ∷ 0x6D ∷ [])
    ∷ converts (0x61 ∷ 0x08 ∷ 0x61 ∷ 0x62 ∷ 0x08 ∷ 0x08 ∷ 0x08 ∷ []) (0x1B ∷ 0x5B ∷ 0x31 ∷ 0x1B ∷ 0x5B ∷ 0x32 ∷ 0x32 ∷ 0x6D ∷ [])
    ∷ reads (0xE6 ∷ 0xBC ∷ []) (4 ∷ 0 ∷ 1 ∷ 0 ∷ 4 ∷ 1 ∷ 1 ∷ 0 ∷ [])
    ∷ reads (0x41 ∷ 0xFF ∷ 0x42 ∷ []) (1 ∷ 0 ∷ 1 ∷ 0 ∷ 4 ∷ 1 ∷ 1 ∷ 0 ∷ 1 ∷ 2 ∷ 1 ∷ 0 ∷ [])
    ∷ reads (0x1B ∷ 0x5B ∷ 0x31 ∷ 0x6D ∷ 0xCC ∷ 0x81 ∷ 0x61 ∷ []) (6 ∷ 0 ∷ 4 ∷ 0 ∷ 1 ∷ 6 ∷ 1 ∷ 0 ∷ [])
    ∷ wraps_at_any_width [] 1 (0 ∷ 0 ∷ [])
    ∷ wraps_at_any_width [] 2 (0 ∷ 0 ∷ [])
    ∷ wraps (0xE6 ∷ 0xBC ∷ 0xA2 ∷ []) 1 1 (0 ∷ 0 ∷ 0 ∷ 2 ∷ [])
    ∷ wraps (0xE6 ∷ 0xBC ∷ 0xA2 ∷ []) 1 2 (0 ∷ 0 ∷ 0 ∷ 2 ∷ [])
    ∷ wraps (0x09 ∷ []) 4 1 (0 ∷ 8 ∷ [])
    ∷ wraps (0x09 ∷ []) 4 2 (0 ∷ 8 ∷ [])
    ∷ wraps (0x61 ∷ 0x62 ∷ []) 0 1 (0 ∷ 0 ∷ 0 ∷ 1 ∷ 1 ∷ 2 ∷ [])
    ∷ wraps (0x61 ∷ 0x62 ∷ []) 0 2 (0 ∷ 0 ∷ 0 ∷ 1 ∷ 1 ∷ 2 ∷ [])
    ∷ wraps (0x61 ∷ 0x62 ∷ 0x20 ∷ 0x63 ∷ 0x64 ∷ []) 4 2 (0 ∷ 3 ∷ 3 ∷ 5 ∷ [])
    ∷ clips (0xE6 ∷ 0xBC ∷ 0xA2 ∷ []) 1 1 (some [])
    ∷ clips (0xE6 ∷ 0xBC ∷ 0xA2 ∷ []) 1 0 none
    ∷ draws (0x61 ∷ 0xE6 ∷ 0xBC ∷ 0xA2 ∷ []) 1 2 8
    ∷ []

pub starred_hold : All Holds starred
unfolding Holds starred
starred_hold =
    all_cons refl (all_cons refl (all_cons refl (all_cons refl
    (all_cons refl (all_cons refl (all_cons refl
    (all_cons {a = wraps_at_any_width [] 1 (0 ∷ 0 ∷ [])} (λ width. refl) (all_cons {a = wraps_at_any_width [] 2 (0 ∷ 0 ∷ [])} (λ width. refl)
    (all_cons refl (all_cons refl (all_cons refl (all_cons refl (all_cons refl (all_cons refl (all_cons refl
    (all_cons refl (all_cons refl (all_cons refl
    all_nil))))))))))))))))))
