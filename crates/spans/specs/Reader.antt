-- What the contracts of src/reader.rt say beyond the definitions.
use Rattle.std.specs.Prelude.{◌≡◌, ℕ, suc, ◌+◌, ◌-◌, ◌≤◌, ◌<◌, ◌≢◌, Bool, true, false, not, cond, ◌&&◌, ◌||◌, List, [], ◌∷◌, length, drop, get_or, eqb, leb, ltb, Some, None}
use Rattle.std.specs.Prelude as rust
use Rattle.std.proofs.Math.Option.{Option, none, some}
use Rattle.text.specs.Utf8.{Scalar, decode, run_of, bytes_of}
use Rattle.text.specs.Class.{Profile, number}
use Rattle.text.specs.Class.Ascii.{syllable_or_other}
use Rattle.text.specs.Cluster.{clusters}
use Rattle.text.specs.Utf8.Code.{size}
use Rattle.text.specs.Segmentation.{first_size, never_joins_before}
use Rattle.text.specs.Class.Code.{printable}
use Rattle.spans.specs.Sequence.{Found}
use Rattle.spans.specs.Spans.{spans_at, Record, a_record, records}
use Rattle.spans.specs.Spans.FirstSpan.{plain_cluster, plain_size, skipped}
use Rattle.spans.specs.declared.kind.SpanKind.{SpanKind}
use Rattle.spans.specs.declared.kind.SpanKind.TheVariants as kind
use Rattle.spans.specs.declared.reader.SpanHead.{SpanHead}
use Rattle.spans.specs.declared.reader.Place.{Place}
use Rattle.spans.specs.declared.reader.Matched.{Matched}
use Rattle.spans.specs.declared.reader.Matched.TheVariants.{Before, Match}
use Rattle.spans.specs.declared.reader.NextSpan.{NextSpan}
use Rattle.spans.specs.declared.sequence.Sequence as code
use Rattle.spans.specs.declared.sequence.Sequence.TheVariants.{EraseToEnd, Ignored, Hyperlink, LineDrawing}
use Rattle.spans.specs.declared.sequence.Sequence.TheVariants as sequence
use Rattle.spans.specs.Sequence.Contracts.{sequence_of}

-- ---- clusters

-- a C0 control, CR apart
abbrev pub c0_not_cr : ℕ → Bool
c0_not_cr b = leb b 0x1F && not (eqb b 0x0D)

-- the clusters of the run that a line begins with
abbrev pub clusters_at : Profile → List ℕ → List (List Scalar)
clusters_at P s = clusters P (run_of (decode s))

-- plain clusters stand from a place to r
pub record PlainTo (P : Profile) (t : List ℕ) (at r : ℕ) : Type 0 where
  pub same : r + plain_size P (clusters_at P (drop r t)) ≡ at + plain_size P (clusters_at P (drop at t))
  pub up : at ≤ r
  pub low : r ≤ length t

-- the number of the printable bytes in front, without the last where a byte of 80 or above follows it
unfoldable pub printable_size : List ℕ → ℕ
printable_size [] = 0
printable_size (a ∷ []) = cond (printable a) 1 0
printable_size (a ∷ b ∷ s) = let more : ℕ = suc (printable_size (b ∷ s)) in cond (printable a && ltb b 0x80) more 0

-- r is where these end that begin at a place
pub record PrintableTo (P : Profile) (t : List ℕ) (at r : ℕ) : Type 0 where
  pub is : r ≡ at + printable_size (drop at t)
  pub to : PlainTo P t at r

-- what stands behind a scalar of class LV, LVT or other leaves it a cluster by itself: another of these, a byte below 80, or the text's end
unfoldable pub leaves_syllable : Profile → Bool → List Scalar → Bool
leaves_syllable P damaged [] = not damaged
leaves_syllable P damaged (c ∷ s) = syllable_or_other (number (P.class c.code)) || ltb (get_or c.bytes 0 0) 0x80

-- the bytes of the scalars of these classes in front that are left so
unfoldable pub syllables_size : Profile → Bool → List Scalar → ℕ
unfolding leaves_syllable
syllables_size P damaged [] = 0
syllables_size P damaged (c ∷ s) =
    let more : ℕ = length c.bytes + syllables_size P damaged s in
    cond (syllable_or_other (number (P.class c.code)) && leaves_syllable P damaged s) more 0

-- a printable byte before a byte below 80 or the end
abbrev pub printable_pair : List ℕ → Bool
printable_pair s = printable (get_or s 0 0) && ltb (get_or s 1 0) 0x80

-- the bytes of the plain clusters in front of the bytes s, up to such a pair behind the first
unfoldable pub clusters_size : Profile → Bool → List ℕ → List (List Scalar) → ℕ
clusters_size P behind s [] = 0
clusters_size P behind s (g ∷ gs) =
    let n : ℕ = length (bytes_of g) in
    let more : ℕ = n + clusters_size P true (drop n s) gs in
    cond (behind && printable_pair s) 0 (cond (plain_cluster P g) more 0)

-- r is where these end that begin at a place: where the plain ones end, or before such a pair
pub record ClustersTo (P : Profile) (t : List ℕ) (at r : ℕ) : Type 0 where
  pub is : r ≡ at + clusters_size P false (drop at t) (clusters_at P (drop at t))
  pub to : PlainTo P t at r
  pub ends : printable (get_or t r 0) ≡ false → plain_size P (clusters_at P (drop r t)) ≡ 0
  pub further : printable (get_or t r 0) ≡ true → at < r

abbrev pub a_head : SpanKind → ℕ → SpanHead
a_head k n = record { kind = k; len = n }

unfoldable pub escape_head : rust.Option code.Sequence → SpanHead
escape_head None = a_head kind.Control 1
escape_head (Some (sequence.Sgr n)) = a_head kind.SgrSequence n
escape_head (Some (Hyperlink p k n)) = a_head kind.Hyperlink n
escape_head (Some (LineDrawing b n)) = a_head kind.LineDrawing n
escape_head (Some (Ignored n)) = a_head kind.Ignore n
escape_head (Some (EraseToEnd n)) = a_head kind.EraseToEndOfLine n

-- what a cluster of n bytes is, the first of them a and b, that is no part of a text; f is what stands at an ESC
unfoldable pub head_bytes : ℕ → ℕ → ℕ → Found → SpanHead
unfolding escape_head sequence_of
head_bytes n a b f =
    cond (eqb n 1)
    (cond (eqb a 0x1B) (escape_head (sequence_of f)) (cond (eqb a 0x0A) (a_head kind.Lf 1) (cond (eqb a 0x09) (a_head kind.Tab 1) (cond (leb a 0x1F || eqb a 0x7F) (a_head kind.Control 1) (a_head kind.Unprintable 1)))))
    (cond (eqb n 2 && (eqb a 0x0D && eqb b 0x0A)) (a_head kind.CrLf 2) (a_head kind.Unprintable n))

-- the part from `at` to `end` of t
pub record HeadReady (t : List ℕ) (at end : ℕ) : Type 0 where
  pub here : at < length t
  pub ordered : at ≤ end
  pub inside : end ≤ length t

-- the end of the run at a place
abbrev pub run_at : List ℕ → ℕ → ℕ
run_at t at = at + size (run_of (decode (drop at t)))

-- r is where these end that begin at a place
pub record SyllablesTo (P : Profile) (t : List ℕ) (at r : ℕ) : Type 0 where
  pub is : r ≡ at + syllables_size P (ltb (run_at t at) (length t)) (run_of (decode (drop at t)))
  pub to : PlainTo P t at r

abbrev pub InRun : List ℕ → ℕ → ℕ → Type 0
InRun t at stop = stop ≤ run_at t at

pub record SkipToReady (t : List ℕ) (at stop : ℕ) : Type 0 where
  pub ahead : InRun t at stop
  pub begins : at < stop → never_joins_before (get_or t (stop - 1) 0) ≡ true

pub record SkippedTo (P : Profile) (t : List ℕ) (at stop r : ℕ) : Type 0 where
  pub same : r ≡ at + skipped P (stop - at) (clusters_at P (drop at t))
  pub run : run_at t r ≡ run_at t at

-- ---- places

-- the run's end, where it lies beyond the place, is that of the run at the place
abbrev pub RunKnown : List ℕ → Place → Type 0
RunKnown t c = c.at < c.run → c.run ≡ run_at t c.at

pub record NextSpanReady (t : List ℕ) (c : Place) : Type 0 where
  pub here : c.at < length t
  pub small : length t ≤ 65536
  pub fresh : RunKnown t c

abbrev pub is_match : Matched → Bool
is_match (Before n) = false
is_match (Match n) = true

-- the number of the match that a segment is, or of the one that follows it
abbrev pub match_number : Matched → ℕ
match_number (Before n) = n
match_number (Match n) = n

-- the match that a segment is, if it is one
unfoldable pub match_in : Matched → Option ℕ
match_in m = cond (is_match m) (some (match_number m)) none

-- the record of a text of n bytes at a place
unfoldable pub text_record : Matched → ℕ → ℕ → Record
text_record m at n = cond (is_match m) (a_record 2 at n (match_number m)) (a_record 1 at n 0)

-- the records of the spans from a place to the segment's end
unfoldable pub records_from : Profile → Matched → List ℕ → ℕ → List Record
unfolding records spans_at match_in
records_from P m t at = records (spans_at P (match_in m) at (drop at t))

-- the first of them and the reading behind it
pub record SpanStep (P : Profile) (t : List ℕ) (m : Matched) (at : ℕ) (r : NextSpan) : Type 0 where
  pub same : records_from P m t at ≡ r.span ∷ records_from P m t r.place.at
  pub fresh : RunKnown t r.place
  pub up : at < r.place.at
  pub low : r.place.at ≤ length t

abbrev pub invalid_at : Place → NextSpan
invalid_at c = record { span = a_record 4 c.at 1 0; place = record { at = c.at + 1; run = c.run } }

pub record ControlSpanReady (t : List ℕ) (c : Place) : Type 0 where
  pub ready : NextSpanReady t c
  pub control : c0_not_cr (get_or t c.at 0) ≡ true

pub record EscapeSpanReady (t : List ℕ) (c : Place) : Type 0 where
  pub ready : NextSpanReady t c
  pub escape : get_or t c.at 0 ≡ 0x1B

-- the cluster from the place to `end` is no part of a text, and no ESC
pub record MarkSpanReady (P : Profile) (t : List ℕ) (c : Place) (end : ℕ) : Type 0 where
  pub ready : NextSpanReady t c
  pub special : plain_size P (clusters_at P (drop c.at t)) ≡ 0
  pub ends : end ≡ c.at + first_size P (run_of (decode (drop c.at t)))
  pub some : c.at < end
  pub other : get_or t c.at 0 ≢ 0x1B

abbrev pub SpecialStep : Profile → List ℕ → ℕ → NextSpan → Type 0
SpecialStep P t at r = (m : Matched) → SpanStep P t m at r
