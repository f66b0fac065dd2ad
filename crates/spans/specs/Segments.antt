-- What the contracts of src/segments.rt say beyond the definitions.
use Rattle.std.specs.Prelude.{◌≡◌, ℕ, suc, ◌+◌, ◌-◌, ◌*◌, ◌≤◌, ◌<◌, Bool, true, false, cond, ◌&&◌, ◌||◌, List, [], ◌∷◌, ◌++◌, length, take, drop, leb, ltb}
use Rattle.std.proofs.Math.Option.{some}
use Rattle.text.specs.Class.{Profile}
use Rattle.spans.specs.Search.{trimmed, escapes, searched_length, in_order, offset_from, read_part, read_matches, read}
use Rattle.spans.specs.Spans.{Span, Record, records}
use Rattle.spans.specs.declared.reader.Matched.{Matched}
use Rattle.spans.specs.declared.reader.Matched.TheVariants.{Before}
use Rattle.spans.specs.declared.segments.Cursor.{Cursor}
use Rattle.spans.specs.declared.segments.Records.{Records}
use Rattle.spans.specs.declared.search.Offsets.{Offsets}
use Rattle.text.specs.Class.Code.{profile_of}
use Rattle.spans.specs.Reader.{RunKnown, is_match, match_number, records_from}
use Rattle.spans.specs.Search.Contracts.{OffsetsFrom}

-- the segment has no bytes left, of a line of n bytes, and another follows, with k numbers of match ranges
abbrev pub spent : ℕ → ℕ → Cursor → Bool
spent n k c = (leb c.end c.place.at || leb n c.place.at) && (is_match c.matched || ltb c.index k)

-- the line without its final newline
abbrev pub without_newline : List ℕ → List ℕ
without_newline line = take (trimmed line) line

-- match k, which begins at `start`, and what follows it; ms are the numbers from its end on
unfoldable pub pending : Profile → List ℕ → ℕ → ℕ → List ℕ → List Span
unfolding read_part read_matches escapes offset_from
pending P line k start [] = []
pending P line k start (b ∷ ms) =
    let upto : ℕ = offset_from 0 b (escapes line) in
    read_part P (some k) start upto line ++ read_matches P (escapes line) upto (suc k) ms line

-- what follows a segment that ends at `end`
unfoldable pub behind_segment : Profile → List ℕ → Matched → ℕ → List ℕ → List Span
unfolding pending read_matches escapes
behind_segment P line m end ms = cond (is_match m) (read_matches P (escapes line) end (suc (match_number m)) ms line) (pending P line (match_number m) end ms)

-- the records that a reading has before it
unfoldable pub remaining : Profile → List ℕ → List ℕ → Cursor → List Record
unfolding records_from records behind_segment
remaining P line matches c = records_from P c.matched (take c.end line) c.place.at ++ records (behind_segment P line c.matched c.end (drop c.index matches))

-- the numbers left are in order behind the offset `last`
unfoldable pub order_from : Bool → ℕ → ℕ → List ℕ → Bool
unfolding in_order
order_from true most last ms = in_order most last ms
order_from false most last [] = true
order_from false most last (b ∷ ms) = leb last b && (leb b most && in_order most b ms)

-- a bound that falls from segment to segment
unfoldable pub segments_left : ℕ → Cursor → ℕ
segments_left k c = 2 * (k - c.index) + cond (is_match c.matched) 1 0

pub record Sound (line matches : List ℕ) (c : Cursor) : Type 0 where
  pub small : length line ≤ 65536
  pub last : ℕ
  pub from : OffsetsFrom (without_newline line) last c.offsets
  pub order : order_from (is_match c.matched) (searched_length line) last (drop c.index matches) ≡ true
  pub index : c.index ≤ length matches
  pub few : match_number c.matched + cond (is_match c.matched) 1 0 ≤ c.index
  pub fresh : RunKnown (take c.end line) c.place

pub record OutsideReady (line matches : List ℕ) (number index : ℕ) (o : Offsets) : Type 0 where
  pub small : length line ≤ 65536
  pub last : ℕ
  pub from : OffsetsFrom (without_newline line) last o
  pub order : in_order (searched_length line) last (drop index matches) ≡ true
  pub within : index ≤ length matches
  pub few : number ≤ index

-- the reading of match `number` and what follows it begins at `start`
pub record OutsideBegun (line matches : List ℕ) (start number index : ℕ) (r : Cursor) : Type 0 where
  pub same : (P : Profile) → remaining P line matches r ≡ records (read_matches P (escapes line) start number (drop index matches) line)
  pub sound : Sound line matches r
  pub falls : segments_left (length matches) r ≤ 2 * (length matches - index)

pub record InsideReady (line matches : List ℕ) (number : ℕ) (c : Cursor) : Type 0 where
  pub sound : Sound line matches c
  pub outside : c.matched ≡ Before number
  pub some : c.index < length matches

pub record AdvanceReady (line matches : List ℕ) (c : Cursor) : Type 0 where
  pub sound : Sound line matches c
  pub spent : spent (length line) (length matches) c ≡ true

-- the reading goes on behind the segment
pub record Advanced (line matches : List ℕ) (c r : Cursor) : Type 0 where
  pub same : (P : Profile) → remaining P line matches r ≡ records (behind_segment P line c.matched c.end (drop c.index matches))
  pub sound : Sound line matches r
  pub falls : segments_left (length matches) r < segments_left (length matches) c

-- ---- records one after the other

-- the records that a reading has before it
abbrev pub records_left : Records → List Record
records_left r = remaining (profile_of r.profile) r.searched.line.now r.searched.matches.now r.cursor

abbrev pub IsReady : Records → Type 0
IsReady r = Sound r.searched.line.now r.searched.matches.now r.cursor

pub record BeginReady (line matches : List ℕ) : Type 0 where
  pub small : length line ≤ 65536
  pub order : in_order (searched_length line) 0 matches ≡ true

pub record Begun (P : Profile) (line matches : List ℕ) (r : Records) : Type 0 where
  pub same : records_left r ≡ records (read P matches line)
  pub ready : IsReady r
