-- A span lies inside the line.
use Rattle.std.specs.Prelude.{◌≡◌, ◌||◌, take, drop, eqb, leb}
use Rattle.std.proofs.Math.Path.{refl, ap}
use Rattle.std.proofs.Common.{◌∙◌, arith, length-drop, drop_of_length-le, length-take-le, take_all}
use Prim.Native.Nat.{ℕ, zero, suc, ◌+◌, ◌-◌, ◌≤◌}
use mathlib.Core.List.{List, [], ◌∷◌, ◌++◌}
use Rattle.std.proofs.Math.Option.{Option, none, some}
use Rattle.std.proofs.Math.ListN.{length, length-append}
use Rattle.std.proofs.Math.Seq.{take-nil}
use borrow.Author.Tests.{leb-true, leb-false}
use Rattle.text.specs.Tests.{by_case, cases}
use Rattle.text.specs.Each.{All, all_nil, all_cons, all_append, all_map}
use Rattle.text.specs.Utf8.{Scalar, decode, Piece, run, bytes_of, reads}
use Rattle.text.specs.Utf8.Laws.{piece_bytes, pieces_damaged, pieces_run, reads_is, piece_bytes_runs, decoded_bytes_decode}
use Rattle.text.specs.Utf8.Valid.{ValidPiece, runs_valid}
use Rattle.text.specs.Class.{Profile}
use Rattle.text.specs.Width.{width_of}
use Rattle.text.specs.Cluster.{clusters, join_all}
use Rattle.text.specs.Cluster.Laws.{clusters_all, join_length}
use Rattle.spans.specs.Sequence.{Found, found, missing, parse}
use Rattle.spans.specs.Sequence.Laws.{parse_length}
use Rattle.spans.specs.Search.{EscapeRange, offset_from, escapes, read_part, read_matches, read}
use Rattle.spans.specs.Spans.{Content, text, control, invalid, unprintable, escape, tab, crlf, lf, Span, span, ClusterKind, plain, special, escape_kind, control_kind, join_text, add_text, add_cluster, cluster_kind, read_from, read_pieces, spans_at, spans}
use Rattle.spans.specs.Spans.Laws.{no_spans}

-- a span from p on, up to q
pub record Between (p q : ℕ) (s : Span) : Type 0 where
  pub low : p ≤ s.place
  pub high : s.place + s.len ≤ q

between : (p q n : ℕ) (c : Content) → p + n ≤ q → Between p q (span p n c)
between p q n c h = record { low = omega arith; high = h }

later : (p o q : ℕ) → p ≤ o → {ss : List Span} → All (Between o q) ss → All (Between p q) ss
later p o q h a = all_map (λ s z. record { low = omega (arith, z.low); high = z.high }) a

-- ---- texts

join_text_inside : (m : Option ℕ) (p q : ℕ) (g : List Scalar) (s : Span) (c : Content) (ss : List Span) → p + length (bytes_of g) ≤ q → Between (p + length (bytes_of g)) q s → All (Between (p + length (bytes_of g)) q) ss
    → All (Between p q) (join_text m p g s c ss)
unfolding join_text
join_text_inside m p q g s (text k t) ss h z a = all_cons (between p q (length (bytes_of g) + s.len) (text m (g ++ t)) (omega (arith, z.low, z.high))) (later p (p + length (bytes_of g)) q (omega arith) a)
join_text_inside m p q g s (control b) ss h z a = all_cons (between p q (length (bytes_of g)) (text m g) h) (later p (p + length (bytes_of g)) q (omega arith) (all_cons z a))
join_text_inside m p q g s (invalid b) ss h z a = all_cons (between p q (length (bytes_of g)) (text m g) h) (later p (p + length (bytes_of g)) q (omega arith) (all_cons z a))
join_text_inside m p q g s (unprintable t) ss h z a = all_cons (between p q (length (bytes_of g)) (text m g) h) (later p (p + length (bytes_of g)) q (omega arith) (all_cons z a))
join_text_inside m p q g s (escape e) ss h z a = all_cons (between p q (length (bytes_of g)) (text m g) h) (later p (p + length (bytes_of g)) q (omega arith) (all_cons z a))
join_text_inside m p q g s tab ss h z a = all_cons (between p q (length (bytes_of g)) (text m g) h) (later p (p + length (bytes_of g)) q (omega arith) (all_cons z a))
join_text_inside m p q g s crlf ss h z a = all_cons (between p q (length (bytes_of g)) (text m g) h) (later p (p + length (bytes_of g)) q (omega arith) (all_cons z a))
join_text_inside m p q g s lf ss h z a = all_cons (between p q (length (bytes_of g)) (text m g) h) (later p (p + length (bytes_of g)) q (omega arith) (all_cons z a))

add_text_inside : (m : Option ℕ) (p q : ℕ) (g : List Scalar) (ss : List Span) → p + length (bytes_of g) ≤ q → All (Between (p + length (bytes_of g)) q) ss → All (Between p q) (add_text m p g ss)
unfolding add_text
add_text_inside m p q g [] h all_nil = all_cons (between p q (length (bytes_of g)) (text m g) h) all_nil
add_text_inside m p q g (s ∷ ss) h (all_cons z a) = join_text_inside m p q g s s.content ss h z a

-- ---- clusters

-- a cluster's span has at most n bytes
unfoldable pub AtMost : ℕ → ClusterKind → Type 0
AtMost n plain = Unit {0}
AtMost n (special c k) = k ≤ n

escape_most : (n : ℕ) (s : List ℕ) (f : Found) → parse s ≡ f → 1 + length s ≤ n → AtMost n (escape_kind f)
unfolding AtMost escape_kind
escape_most n s (found e k) q h = omega (arith, parse_length s e k q)
escape_most n s missing q h = omega arith

control_most : (n : ℕ) (g : List ℕ) (w : ClusterKind) → length g ≤ n → AtMost n w → AtMost n (control_kind g w)
unfolding control_kind AtMost
control_most n [] w h z = z
control_most n (b ∷ []) w h z = by_case (AtMost n) (leb b 0x1F || eqb b 0x7F) (λ e. h) (λ e. z)
control_most n (b ∷ c ∷ g) w h z = z

module _ (P : Profile) where
  pub kind_most : (g : List Scalar) (s : List ℕ) → AtMost (length (bytes_of g) + length s) (cluster_kind P g s)
  unfolding cluster_kind AtMost
  kind_most g s =
      let n : ℕ = length (bytes_of g) + length s in
      let Q : ClusterKind → Type 0 = AtMost n in
      by_case Q (reads g (0x1B ∷ [])) (λ e. escape_most n s (parse s) refl (omega (arith, ap length (reads_is g (0x1B ∷ []) e))))
      (λ e. by_case Q (reads g (0x0D ∷ 0x0A ∷ [])) (λ e. omega (arith, ap length (reads_is g (0x0D ∷ 0x0A ∷ []) e)))
      (λ e. by_case Q (reads g (0x0A ∷ [])) (λ e. omega (arith, ap length (reads_is g (0x0A ∷ []) e)))
      (λ e. by_case Q (reads g (0x09 ∷ [])) (λ e. omega (arith, ap length (reads_is g (0x09 ∷ []) e)))
      (λ e. control_most n (bytes_of g) _ (omega arith) (by_case Q (eqb (width_of P g) 0) (λ e. omega arith) (λ e. tt))))))

  add_cluster_inside : (m : Option ℕ) (p q : ℕ) (g : List Scalar) (n : ℕ) (w : ClusterKind) (go : ℕ → List Span) → p + length (bytes_of g) ≤ q → p + n ≤ q → AtMost n w → ((k : ℕ) → All (Between (p + length (bytes_of g)) q) (go k))
      → All (Between p q) (add_cluster m p g (length (bytes_of g)) w go)
  unfolding add_cluster AtMost
  add_cluster_inside m p q g n plain go h k z a = add_text_inside m p q g (go zero) h (a zero)
  add_cluster_inside m p q g n (special c j) go h k z a = all_cons (between p q j c (omega arith)) (later p (p + length (bytes_of g)) q (omega arith) (a (j - length (bytes_of g))))

  read_from_inside : (gs : List (List Scalar)) (m : Option ℕ) (p k q : ℕ) → p + length (bytes_of (join_all gs)) ≤ q → All (Between p q) (read_from P m p k gs)
  unfolding read_from
  read_from_inside [] m p k q h = all_nil
  read_from_inside (g ∷ gs) m p zero q h =
      let n = join_length g gs in
      add_cluster_inside m p q g (length (bytes_of g) + length (bytes_of (join_all gs))) (cluster_kind P g (bytes_of (join_all gs))) (λ k. read_from P m (p + length (bytes_of g)) k gs) (omega arith) (omega arith) (kind_most g (bytes_of (join_all gs)))
      (λ k. read_from_inside gs m (p + length (bytes_of g)) k q (omega arith))
  read_from_inside (g ∷ gs) m p (suc k) q h =
      let n = join_length g gs in
      later p (p + length (bytes_of g)) q (omega arith) (read_from_inside gs m (p + length (bytes_of g)) (suc k - length (bytes_of g)) q (omega arith))

  -- ---- lines, and lines with matches

  read_pieces_inside : (m : Option ℕ) (p q : ℕ) {ps : List Piece} → All ValidPiece ps → p + length (piece_bytes ps) ≤ q → All (Between p q) (read_pieces P m p ps)
  unfolding read_pieces
  read_pieces_inside m p q all_nil h = all_nil
  read_pieces_inside m p q (all_cons {s = ps} (ValidPiece.valid {s = s} v) a) h =
      let n : length (piece_bytes (run s ∷ ps)) ≡ length (bytes_of s) + length (piece_bytes ps) = ap length (pieces_run s ps) ∙ length-append (bytes_of s) (piece_bytes ps) in
      all_append (read_from_inside (clusters P s) m p zero q (rw (clusters_all P s) (omega arith)))
      (later p (p + length (bytes_of s)) q (omega arith) (read_pieces_inside m (p + length (bytes_of s)) q a (omega arith)))
  read_pieces_inside m p q (all_cons {s = ps} (ValidPiece.ill {b = b}) a) h =
      let n = ap length (pieces_damaged b ps) in
      all_cons (between p q 1 (invalid b) (omega arith)) (later p (suc p) q (omega arith) (read_pieces_inside m (suc p) q a (omega arith)))

  spans_at_inside : (m : Option ℕ) (p q : ℕ) (s : List ℕ) → p + length s ≤ q → All (Between p q) (spans_at P m p s)
  unfolding spans_at
  spans_at_inside m p q s h = read_pieces_inside m p q (runs_valid s) (rw (piece_bytes_runs (decode s) ∙ decoded_bytes_decode s) h)

  read_part_inside : (m : Option ℕ) (a b : ℕ) (line : List ℕ) → All (Between 0 (length line)) (read_part P m a b line)
  unfolding read_part
  read_part_inside m a b line =
      cases (leb a (length line))
      (λ e. later 0 a (length line) (omega arith) (spans_at_inside m a (length line) (take (b - a) (drop a line)) (room (b - a) (drop a line) (rw (length-drop a line) (omega (arith, leb-true a (length line) e))))))
      (λ e. rw (drop_of_length-le line {i = a} (omega (arith, leb-false a (length line) e)), take-nil {A = ℕ} (b - a), no_spans P m a) all_nil)
    where
      room : (n : ℕ) (s : List ℕ) → a + length s ≤ length line → a + length (take n s) ≤ length line
      room n s h = cases (leb n (length s)) (λ e. rw (length-take-le n s (leb-true n (length s) e)) (omega (arith, leb-true n (length s) e))) (λ e. rw (take_all n s (omega (arith, leb-false n (length s) e))) h)

  read_matches_inside : (es : List EscapeRange) (start k : ℕ) (ms line : List ℕ) → All (Between 0 (length line)) (read_matches P es start k ms line)
  unfolding read_matches
  read_matches_inside es start k [] line = read_part_inside none start (length line) line
  read_matches_inside es start k (a ∷ []) line = all_nil
  read_matches_inside es start k (a ∷ b ∷ ms) line =
      all_append (all_append (read_part_inside none start (offset_from 0 a es) line) (read_part_inside (some k) (offset_from 0 a es) (offset_from 0 b es) line)) (read_matches_inside es (offset_from 0 b es) (suc k) ms line)

-- each span of a line, read with or without matches, lies inside the line
pub inside : (P : Profile) (matches line : List ℕ) → All (Between 0 (length line)) (read P matches line)
unfolding read spans
inside P [] line = spans_at_inside P none 0 (length line) line (omega arith)
inside P (m ∷ ms) line = read_matches_inside P (escapes line) 0 0 (m ∷ ms) line
