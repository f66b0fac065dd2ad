-- Spans: src/line.rs, parse_spans; and their records.
use Prim.Native.Nat.{ℕ, zero, suc, ◌+◌, ◌-◌}
use Rattle.std.proofs.Math.Bool.{cond}
use Rattle.std.specs.Prelude.{◌||◌, eqb, leb}
use mathlib.Core.List.{List, [], ◌∷◌, ◌++◌, map}
use Rattle.std.proofs.Math.Option.{Option, none, some}
use Rattle.std.proofs.Math.ListN.{length}
use Rattle.text.specs.Utf8.{Scalar, decode, Piece, run, damaged, runs, bytes_of, reads}
use Rattle.text.specs.Class.{Profile}
use Rattle.text.specs.Width.{width_of}
use Rattle.text.specs.Cluster.{clusters, join_all}
use Rattle.spans.specs.Sequence.{Sequence, sgr, erase_to_end, ignored, hyperlink, line_drawing, Found, found, missing, parse}
use Rattle.spans.specs.declared.Span as declared
pub mod Laws
pub mod Noise
pub mod ContentLaw
pub mod FirstSpan
pub mod RecordSpans
pub mod Inside
pub mod AroundSequences
pub mod SpanCount
pub mod PlainClusters
pub mod ContentKinds
pub mod TextClusters
pub mod Controls
pub mod Kinds

-- the source's Span: what a span holds; Text is `text none`, Match is `text (some k)`
pub data Content : Type 0 where
  text : Option ℕ → List Scalar → Content
  control : ℕ → Content
  invalid : ℕ → Content
  unprintable : List Scalar → Content
  escape : Sequence → Content
  tab crlf lf : Content

-- a span, with the byte place and the length of the bytes it was read from
pub record Span : Type 0 where
  pub place : ℕ
  pub len : ℕ
  pub content : Content

abbrev pub span : ℕ → ℕ → Content → Span
span p n c = record { place = p; len = n; content = c }

-- ---- parse_unicode_span

-- what a cluster is: a part of a text, or a span of n bytes
pub data ClusterKind : Type 0 where
  plain : ClusterKind
  special : Content → ℕ → ClusterKind

unfoldable pub escape_kind : Found → ClusterKind
escape_kind (found e n) = special (escape e) n
escape_kind missing = special (control 0x1B) 1

-- one byte below 20, or 7F
unfoldable pub control_kind : List ℕ → ClusterKind → ClusterKind
control_kind [] otherwise = otherwise
control_kind (b ∷ []) otherwise = cond (leb b 0x1F || eqb b 0x7F) (special (control b) 1) otherwise
control_kind (b ∷ c ∷ s) otherwise = otherwise

-- a text cluster in front of the spans that follow it: more of the Text that they begin with, or a Text of its own
unfoldable pub join_text : Option ℕ → ℕ → List Scalar → Span → Content → List Span → List Span
unfolding bytes_of
join_text m p g s (text k t) ss = span p (length (bytes_of g) + s.len) (text m (g ++ t)) ∷ ss
join_text m p g s (control b) ss = span p (length (bytes_of g)) (text m g) ∷ s ∷ ss
join_text m p g s (invalid b) ss = span p (length (bytes_of g)) (text m g) ∷ s ∷ ss
join_text m p g s (unprintable t) ss = span p (length (bytes_of g)) (text m g) ∷ s ∷ ss
join_text m p g s (escape e) ss = span p (length (bytes_of g)) (text m g) ∷ s ∷ ss
join_text m p g s tab ss = span p (length (bytes_of g)) (text m g) ∷ s ∷ ss
join_text m p g s crlf ss = span p (length (bytes_of g)) (text m g) ∷ s ∷ ss
join_text m p g s lf ss = span p (length (bytes_of g)) (text m g) ∷ s ∷ ss

unfoldable pub add_text : Option ℕ → ℕ → List Scalar → List Span → List Span
unfolding join_text
add_text m p g [] = span p (length (bytes_of g)) (text m g) ∷ []
add_text m p g (s ∷ ss) = join_text m p g s s.content ss

-- a cluster of n bytes at place p, and the spans behind it, of which the clusters that begin in the next k bytes are no part
unfoldable pub add_cluster : Option ℕ → ℕ → List Scalar → ℕ → ClusterKind → (ℕ → List Span) → List Span
unfolding add_text
add_cluster m p g n plain go = add_text m p g (go zero)
add_cluster m p g n (special c k) go = span p k c ∷ go (k - n)

module _ (P : Profile) where
  -- the cluster g, with the bytes behind it in its run
  unfoldable pub cluster_kind : List Scalar → List ℕ → ClusterKind
  unfolding escape_kind control_kind parse reads bytes_of width_of
  cluster_kind g behind =
      let sequence : ClusterKind = escape_kind (parse behind) in
      let other : ClusterKind = control_kind (bytes_of g) (cond (eqb (width_of P g) 0) (special (unprintable g) (length (bytes_of g))) plain) in
      cond (reads g (0x1B ∷ [])) sequence
      (cond (reads g (0x0D ∷ 0x0A ∷ [])) (special crlf 2)
      (cond (reads g (0x0A ∷ [])) (special lf 1)
      (cond (reads g (0x09 ∷ [])) (special tab 1) other)))

  -- the clusters of a run at place p, those that begin in the first k bytes being dropped
  unfoldable pub read_from : Option ℕ → ℕ → ℕ → List (List Scalar) → List Span
  unfolding add_cluster cluster_kind bytes_of join_all
  read_from m p k [] = []
  read_from m p zero (g ∷ gs) =
      add_cluster m p g (length (bytes_of g)) (cluster_kind g (bytes_of (join_all gs))) (λ k. read_from m (p + length (bytes_of g)) k gs)
  read_from m p (suc k) (g ∷ gs) = read_from m (p + length (bytes_of g)) (suc k - length (bytes_of g)) gs

  -- ---- parse_spans

  unfoldable pub read_pieces : Option ℕ → ℕ → List Piece → List Span
  unfolding read_from clusters bytes_of
  read_pieces m p [] = []
  read_pieces m p (run s ∷ ps) = read_from m p zero (clusters P s) ++ read_pieces m (p + length (bytes_of s)) ps
  read_pieces m p (damaged b ∷ ps) = span p 1 (invalid b) ∷ read_pieces m (suc p) ps

  -- the spans of bytes at place p, in match m or in none
  unfoldable pub spans_at : Option ℕ → ℕ → List ℕ → List Span
  unfolding read_pieces runs decode
  spans_at m p s = read_pieces m p (runs (decode s))

  -- the spans of a converted line
  unfoldable pub spans : List ℕ → List Span
  unfolding spans_at
  spans s = spans_at none 0 s

-- ---- the records of the span list

abbrev pub Record : Type 0
Record = declared.Span

abbrev pub a_record : ℕ → ℕ → ℕ → ℕ → Record
a_record k p n m = record { kind = k; place = record { 0 = p }; len = n; matched = m }

-- the order of the source's Span
unfoldable pub kind_of : Content → ℕ
kind_of (text none s) = 1
kind_of (text (some k) s) = 2
kind_of (control b) = 3
kind_of (invalid b) = 4
kind_of (unprintable s) = 5
kind_of (escape (sgr os)) = 6
kind_of (escape (hyperlink a n)) = 7
kind_of (escape (line_drawing b)) = 8
kind_of (escape ignored) = 9
kind_of tab = 10
kind_of crlf = 11
kind_of lf = 12
kind_of (escape erase_to_end) = 13

-- the match number, 0 where the kind isn't Match
unfoldable pub match_of : Content → ℕ
match_of (text none s) = 0
match_of (text (some k) s) = k
match_of (control b) = 0
match_of (invalid b) = 0
match_of (unprintable s) = 0
match_of (escape e) = 0
match_of tab = 0
match_of crlf = 0
match_of lf = 0

unfoldable pub record_of : Span → Record
unfolding kind_of match_of
record_of s = a_record (kind_of s.content) s.place s.len (match_of s.content)

unfoldable pub records : List Span → List Record
unfolding record_of
records ss = map record_of ss
