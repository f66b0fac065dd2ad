-- Reading around a sequence: clusters inside it are dropped, and clusters before `ESC ]` are read alike, whatever stands behind it.
use Rattle.std.specs.Prelude.{◌≡◌, false, eqb}
use Rattle.std.proofs.Math.Path.{refl, ap}
use Rattle.std.proofs.Common.{sym, ap₂, ◌∙◌, add-zero}
use Prim.Native.Nat.{ℕ, zero, suc, ◌+◌, ◌-◌, ◌≤◌}
use native.Mathlib.Omega.{arith}
use mathlib.Core.List.{List, [], ◌∷◌, ◌++◌}
use Rattle.std.proofs.Math.Option.{Option, none}
use Rattle.std.proofs.Math.ListN.{length}
use Rattle.text.specs.Utf8.{Scalar, ascii, decode, Piece, run, runs, bytes_of, reads}
use Rattle.text.specs.Utf8.Laws.{piece_bytes}
use Rattle.text.specs.Class.{Profile}
use Rattle.text.specs.Cluster.{clusters, join_all}
use Rattle.text.specs.Cluster.Laws.{join_append, join_length}
use Rattle.spans.specs.Sequence.{Sequence, found, parse}
use Rattle.spans.specs.Spans.{escape, Span, span, ClusterKind, plain, special, escape_kind, add_text, add_cluster, cluster_kind, read_from, read_pieces, spans_at, spans}
use Rattle.spans.specs.Sequence.Until.{parse_until}
use Rattle.spans.specs.Spans.Inside.{AtMost, kind_most}
use Rattle.spans.specs.Spans.Laws.{read_pieces_append}

abbrev pub esc : List Scalar
esc = ascii 0x1B ∷ []

-- the spans behind a cluster of n bytes are asked for from a place in the k bytes behind it
add_same : (m : Option ℕ) (p : ℕ) (g : List Scalar) (n k : ℕ) (w : ClusterKind) (go go' : ℕ → List Span) → AtMost (n + k) w → ((j : ℕ) → j ≤ k → go j ≡ go' j)
    → add_cluster m p g n w go ≡ add_cluster m p g n w go'
unfolding add_cluster AtMost
add_same m p g n k plain go go' h f = ap (add_text m p g) (f zero (omega arith))
add_same m p g n k (special c j) go go' h f = ap (λ (l : List Span). span p j c ∷ l) (f (j - n) (omega arith))

module _ (P : Profile) (m : Option ℕ) where
  -- clusters that begin in a sequence are dropped
  pub read_behind : (gs hs : List (List Scalar)) (p k : ℕ) → read_from P m p (length (bytes_of (join_all gs)) + suc k) (gs ++ hs) ≡ read_from P m (p + length (bytes_of (join_all gs))) (suc k) hs
  unfolding read_from join_all bytes_of
  read_behind [] hs p k = let e : 0 + suc k ≡ suc k = omega arith in rw e (ap (λ (n : ℕ). read_from P m n (suc k) hs) (sym (add-zero p)))
  read_behind (g ∷ gs) hs p k =
      let n : ℕ = length (bytes_of g) in
      let b : ℕ = length (bytes_of (join_all gs)) in
      let e : length (bytes_of (join_all (g ∷ gs))) + suc k ≡ suc (n + b + k) = omega (arith, join_length g gs) in
      let f : suc (n + b + k) - n ≡ b + suc k = omega arith in
      let q : p + n + b ≡ p + length (bytes_of (join_all (g ∷ gs))) = omega (arith, join_length g gs) in
      ap (λ (j : ℕ). read_from P m p j (g ∷ (gs ++ hs))) e
      ∙ ap (λ (j : ℕ). read_from P m (p + n) j (gs ++ hs)) f
      ∙ read_behind gs hs (p + n) k
      ∙ ap (λ (j : ℕ). read_from P m j (suc k) hs) q

  -- a sequence behind an ESC
  pub read_sequence : (p : ℕ) (hs : List (List Scalar)) (e : Sequence) (n : ℕ) → parse (bytes_of (join_all hs)) ≡ found e n → read_from P m p 0 (esc ∷ hs) ≡ span p n (escape e) ∷ read_from P m (p + 1) (n - 1) hs
  unfolding read_from bytes_of cluster_kind reads escape_kind add_cluster
  read_sequence p hs e n q = rw q

  -- what a cluster is does not depend on an ESC after it and what follows that, unless it is `\`
  pub kind_before : (b : ℕ) (z : List ℕ) → eqb b 0x5C ≡ false → (hs : List (List Scalar)) → bytes_of (join_all hs) ≡ b ∷ z → (g : List Scalar) (gs : List (List Scalar))
      → cluster_kind P g (bytes_of (join_all (gs ++ esc ∷ hs))) ≡ cluster_kind P g (bytes_of (join_all gs))
  unfolding cluster_kind join_all bytes_of
  kind_before b z o hs e g gs = let q = ap parse (join_append gs (esc ∷ hs) ∙ ap (λ (l : List ℕ). bytes_of (join_all gs) ++ 0x1B ∷ l) e) ∙ parse_until b z o (bytes_of (join_all gs)) in rw q

  -- clusters before `ESC ]` are read alike, whatever stands after it
  module _ (cs ds : List (List Scalar)) (x y : List ℕ) (c : bytes_of (join_all cs) ≡ 0x5D ∷ x) (d : bytes_of (join_all ds) ≡ 0x5D ∷ y) (alike : (p : ℕ) → read_from P m p 0 (esc ∷ cs) ≡ read_from P m p 0 (esc ∷ ds)) where
    pub read_before : (gs : List (List Scalar)) (p k : ℕ) → k ≤ length (bytes_of (join_all gs)) → read_from P m p k (gs ++ esc ∷ cs) ≡ read_from P m p k (gs ++ esc ∷ ds)
    unfolding read_from join_all bytes_of
    read_before [] p zero h = alike p
    read_before [] p (suc k) h = absurd (let z : suc k ≤ 0 = h in omega arith)
    read_before (g ∷ gs) p zero h =
        let b : ℕ = length (bytes_of g) in
        let s : List ℕ = bytes_of (join_all gs) in
        rw (kind_before 0x5D x refl cs c g gs, kind_before 0x5D y refl ds d g gs)
        (add_same m p g b (length s) (cluster_kind P g s) (λ k. read_from P m (p + b) k (gs ++ esc ∷ cs)) (λ k. read_from P m (p + b) k (gs ++ esc ∷ ds)) (kind_most P g s) (λ j l. read_before gs (p + b) j l))
    read_before (g ∷ gs) p (suc k) h =
        let l = join_length g gs in
        read_before gs (p + length (bytes_of g)) (suc k - length (bytes_of g)) (omega arith)

-- lines that differ in one run, of as many bytes and read alike
pub spans_alike : (P : Profile) (l m : List ℕ) (before after : List Piece) (s t : List Scalar) → runs (decode l) ≡ before ++ run s ∷ after → runs (decode m) ≡ before ++ run t ∷ after → length (bytes_of s) ≡ length (bytes_of t)
    → ((p : ℕ) → read_from P none p 0 (clusters P s) ≡ read_from P none p 0 (clusters P t)) → spans P l ≡ spans P m
unfolding spans spans_at read_pieces
spans_alike P l m before after s t e f n g =
    let p : ℕ = 0 + length (piece_bytes before) in
    ap (read_pieces P none 0) e ∙ read_pieces_append P none 0 before (run s ∷ after)
    ∙ ap (λ (x : List Span). read_pieces P none 0 before ++ x) (ap₂ (λ (x : List Span) (j : ℕ). x ++ read_pieces P none (p + j) after) (g p) n)
    ∙ sym (ap (read_pieces P none 0) f ∙ read_pieces_append P none 0 before (run t ∷ after))
