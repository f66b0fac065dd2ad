-- The clusters of a text span are plain clusters of the line, and each has a width.
use Rattle.std.proofs.Math.Path.{◌≡◌, refl, ap}
use Rattle.std.proofs.Common.{sym, ◌∙◌, subst, arith}
use Prim.Native.Nat.{ℕ, zero, suc, ◌+◌, ◌-◌, ◌≤◌}
use Rattle.std.specs.Prelude.{true, take, drop}
use mathlib.Core.List.{List, [], ◌∷◌, ◌++◌, append-nil}
use Rattle.std.proofs.Math.Option.{Option, none, some}
use Rattle.std.proofs.Math.ListN.{length}
use Rattle.text.specs.Each.{All, all_nil, all_cons, all_append, all_every}
use Rattle.text.specs.Utf8.{Scalar, Piece, run, damaged, runs, decode, bytes_of}
use Rattle.text.specs.Class.{Profile}
use Rattle.text.specs.Width.{width_of}
use Rattle.text.specs.Cluster.{clusters, join_all}
use Rattle.text.specs.Cluster.Laws.{clusters_nil, further}
use Rattle.text.specs.Cluster.Parts as parts
use Rattle.text.specs.Cluster.Parts.{Ends, ends_none, ends_same, Clustered, more, clustered, first_before}
use Rattle.spans.specs.Spans.{Content, text, control, invalid, unprintable, escape, tab, crlf, lf, Span, span, ClusterKind, plain, special, cluster_kind, join_text, add_text, add_cluster, read_from, read_pieces, spans_at, spans}
use Rattle.spans.specs.Search.{EscapeRange, offset_from, escapes, read_part, read_matches, read}
use Rattle.spans.specs.Spans.FirstSpan.{is_plain, NoText, kind_no_text, plain_cluster, plain_same}
use Rattle.spans.specs.Spans.PlainClusters.{plain_wide}

module _ (P : Profile) where
  module _ (Q : List Scalar → Type 0) where
    -- a span that is a text has clusters with Q
    abbrev pub TextClusters : Span → Type 0
    TextClusters x = (m : Option ℕ) (t : List Scalar) → x.content ≡ text m t → All Q (clusters P t)

    -- the spans of the text s: a cluster that ends before s ends before the text that they begin with
    abbrev Begins : List Scalar → List Span → Type 0
    Begins s ss = (x : Span) (xs : List Span) → ss ≡ x ∷ xs → (m : Option ℕ) (t : List Scalar) → x.content ≡ text m t → Ends P s t

    record Reads (s : List Scalar) (ss : List Span) : Type 0 where
      texts : All TextClusters ss
      begins : Begins s ss

    -- a plain cluster in front of spans
    module _ (m : Option ℕ) (p : ℕ) (c : Scalar) (x rest : List Scalar) (e : further P (c ∷ []) (x ++ rest) ≡ length x) (q : Q (c ∷ x)) where
      front : (n : ℕ) (t : List Scalar) (ss : List Span) → Ends P rest t → All Q (clusters P t) → All TextClusters ss → Reads (c ∷ (x ++ rest)) (span p n (text m (c ∷ (x ++ t))) ∷ ss)
      front n t ss h a b = record {
        texts = all_cons {a = span p n (text m (c ∷ (x ++ t)))} (λ k u i. let j : c ∷ (x ++ t) ≡ u = cc in rw (← j, first_before P c x rest t e h) (all_cons q a)) b;
        begins = λ y ys i k u j. let z : c ∷ (x ++ t) ≡ u = cc in rw (← z) (ends_same P c (x ++ rest) (x ++ t));
      }

      alone : (n : ℕ) (ss : List Span) → All TextClusters ss → Reads (c ∷ (x ++ rest)) (span p n (text m (c ∷ x)) ∷ ss)
      alone n ss b = rw (append-nil x) at (front n [] ss (ends_none P rest) (rw (clusters_nil P) all_nil) b)

      join_reads : (s : Span) (w : Content) (ss : List Span) → s.content ≡ w → Begins rest (s ∷ ss) → TextClusters s → All TextClusters ss → Reads (c ∷ (x ++ rest)) (join_text m p (c ∷ x) s w ss)
      unfolding join_text
      join_reads s (text k t) ss i b h a = front _ t ss (b s ss refl k t i) (h k t i) a
      join_reads s (control v) ss i b h a = alone _ (s ∷ ss) (all_cons h a)
      join_reads s (invalid v) ss i b h a = alone _ (s ∷ ss) (all_cons h a)
      join_reads s (unprintable t) ss i b h a = alone _ (s ∷ ss) (all_cons h a)
      join_reads s (escape t) ss i b h a = alone _ (s ∷ ss) (all_cons h a)
      join_reads s tab ss i b h a = alone _ (s ∷ ss) (all_cons h a)
      join_reads s crlf ss i b h a = alone _ (s ∷ ss) (all_cons h a)
      join_reads s lf ss i b h a = alone _ (s ∷ ss) (all_cons h a)

      plain_reads : {ss : List Span} → All TextClusters ss → Begins rest ss → Reads (c ∷ (x ++ rest)) (add_text m p (c ∷ x) ss)
      unfolding add_text
      plain_reads all_nil b = alone _ [] all_nil
      plain_reads (all_cons {a = s} {s = ss} h a) b = join_reads s s.content ss refl b h a

    -- a span that is no text
    special_reads : (s : List Scalar) (p k : ℕ) (c : Content) (ss : List Span) → NoText (special c k) → All TextClusters ss → Reads s (span p k c ∷ ss)
    unfolding NoText
    special_reads s p k c ss h a = record {
      texts = all_cons {a = span p k c} (λ m t i. absurd (subst (λ (c : Content). NoText (special c k)) i h)) a;
      begins = λ x xs i m t j. let z : c ≡ text m t = cc in absurd (subst (λ (c : Content). NoText (special c k)) z h);
    }

    kind_reads : (m : Option ℕ) (p : ℕ) (c : Scalar) (x rest : List Scalar) → further P (c ∷ []) (x ++ rest) ≡ length x → (plain_cluster P (c ∷ x) ≡ true → Q (c ∷ x)) → (behind : List ℕ) (w : ClusterKind)
        → cluster_kind P (c ∷ x) behind ≡ w → (go : ℕ → List Span) → ((k : ℕ) → All TextClusters (go k)) → Reads rest (go zero) → Reads (c ∷ (x ++ rest)) (add_cluster m p (c ∷ x) (length (bytes_of (c ∷ x))) w go)
    unfolding is_plain add_cluster
    kind_reads m p c x rest e f behind plain i go a r = plain_reads m p c x rest e (f (sym (plain_same P (c ∷ x) behind) ∙ ap is_plain i)) r.texts r.begins
    kind_reads m p c x rest e f behind (special w k) i go a r = special_reads (c ∷ (x ++ rest)) p k w (go (k - length (bytes_of (c ∷ x)))) (rw i at (kind_no_text P (c ∷ x) behind)) (a (k - length (bytes_of (c ∷ x))))

    -- the spans of a run
    run_reads : {s : List Scalar} {gs : List (List Scalar)} → Clustered P s gs → All (λ (g : List Scalar). plain_cluster P g ≡ true → Q g) gs → (m : Option ℕ) (p : ℕ)
        → ((k : ℕ) → All TextClusters (read_from P m p k gs)) × Reads s (read_from P m p zero gs)
    unfolding read_from
    run_reads parts.none a m p = (λ k. all_nil, record { texts = all_nil; begins = λ x xs i. absurd (let z : ◌≡◌ {A = ℕ} 0 1 = cc in omega arith) })
    run_reads (more {c = c} {x = x} {rest = rest} {gs = gs} e k) (all_cons f a) m p =
        let n : ℕ = length (bytes_of (c ∷ x)) in
        let ih = run_reads k a m (p + n) in
        let r = kind_reads m p c x rest e f (bytes_of (join_all gs)) (cluster_kind P (c ∷ x) (bytes_of (join_all gs))) refl (λ k. read_from P m (p + n) k gs) ih.0 ih.1 in
        (from ih.0 r.texts, r)
      where
        from : ((k : ℕ) → All TextClusters (read_from P m (p + length (bytes_of (c ∷ x))) k gs)) → All TextClusters (read_from P m p zero ((c ∷ x) ∷ gs)) → (k : ℕ) → All TextClusters (read_from P m p k ((c ∷ x) ∷ gs))
        from f b zero = b
        from f b (suc k) = f (suc k - length (bytes_of (c ∷ x)))

    -- the text's plain clusters have Q
    abbrev PlainClusters : List Scalar → Type 0
    PlainClusters s = All (λ (g : List Scalar). plain_cluster P g ≡ true → Q g) (clusters P s)

    run_texts : (s : List Scalar) → PlainClusters s → (m : Option ℕ) (p : ℕ) → All TextClusters (read_from P m p zero (clusters P s))
    run_texts s a m p = (run_reads (clustered P (clusters P s) s refl) a m p).0 zero

    -- ---- lines, and lines with matches

    abbrev pub PlainPiece : Piece → Type 0
    PlainPiece (run s) = PlainClusters s
    PlainPiece (damaged b) = Unit {0}

    pieces_texts : (m : Option ℕ) (p : ℕ) (ps : List Piece) → All PlainPiece ps → All TextClusters (read_pieces P m p ps)
    unfolding read_pieces
    pieces_texts m p [] a = all_nil
    pieces_texts m p (run s ∷ ps) (all_cons u a) = all_append (run_texts s u m p) (pieces_texts m (p + length (bytes_of s)) ps a)
    pieces_texts m p (damaged b ∷ ps) (all_cons u a) = all_cons {a = span p 1 (invalid b)} (λ n t i. absurd (let z : ◌≡◌ {A = ℕ} 0 1 = cc in omega arith)) (pieces_texts m (suc p) ps a)

    pub spans_texts : (s : List ℕ) → All PlainPiece (runs (decode s)) → All TextClusters (spans P s)
    unfolding spans spans_at
    spans_texts s a = pieces_texts none 0 (runs (decode s)) a

    module _ (plains : (s : List Scalar) → PlainClusters s) where
      plain_piece : (x : Piece) → PlainPiece x
      plain_piece (run s) = plains s
      plain_piece (damaged b) = tt

      part_texts : (m : Option ℕ) (a b : ℕ) (s : List ℕ) → All TextClusters (read_part P m a b s)
      unfolding read_part spans_at
      part_texts m a b s = let ps : List Piece = runs (decode (take (b - a) (drop a s))) in pieces_texts m a ps (all_every plain_piece ps)

      matches_texts : (es : List EscapeRange) (start k : ℕ) (ms s : List ℕ) → All TextClusters (read_matches P es start k ms s)
      unfolding read_matches
      matches_texts es start k [] s = part_texts none start (length s) s
      matches_texts es start k (a ∷ []) s = all_nil
      matches_texts es start k (a ∷ b ∷ ms) s =
          all_append (all_append (part_texts none start (offset_from 0 a es) s) (part_texts (some k) (offset_from 0 a es) (offset_from 0 b es) s)) (matches_texts es (offset_from 0 b es) (suc k) ms s)

      read_texts : (matches s : List ℕ) → All TextClusters (read P matches s)
      unfolding read
      read_texts [] s = spans_texts s (all_every plain_piece (runs (decode s)))
      read_texts (m ∷ ms) s = matches_texts (escapes s) 0 0 (m ∷ ms) s

  -- each has a width
  pub read_wide : (matches s : List ℕ) → All (TextClusters (λ (g : List Scalar). 1 ≤ width_of P g)) (read P matches s)
  read_wide = read_texts (λ (g : List Scalar). 1 ≤ width_of P g) (λ s. all_every (plain_wide P) (clusters P s))
