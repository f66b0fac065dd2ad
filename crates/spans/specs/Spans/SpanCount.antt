-- A line has no more spans than bytes.
use Rattle.std.specs.Prelude.{◌≡◌, true, false, ◌&&◌, take, drop, leb, ltb}
use Rattle.std.proofs.Math.Path.{refl, ap}
use Rattle.std.proofs.Common.{◌∙◌, take_all, leb→le}
use Prim.Native.Nat.{ℕ, zero, suc, ◌+◌, ◌-◌, ◌≤◌}
use native.Mathlib.Omega.{arith}
use mathlib.Core.List.{List, [], ◌∷◌}
use Rattle.std.proofs.Math.Option.{Option, none, some}
use Rattle.std.proofs.Math.ListN.{length, length-append, length-drop}
use Rattle.std.proofs.Math.Seq.{length-take-le}
use borrow.Author.Tests.{leb-true, leb-false, ltb-true, ltb-false, le-ltb}
use Rattle.text.specs.Tests.{cases, and_T, true_T, is_true}
use Rattle.text.specs.Each.{All, all_nil, all_cons}
use Rattle.text.specs.Utf8.{Scalar, decode, Piece, bytes_of}
use Rattle.text.specs.Utf8.Laws.{piece_bytes, pieces_damaged, pieces_run, piece_bytes_runs, decoded_bytes_decode}
use Rattle.text.specs.Utf8.Valid.{ValidPiece, runs_valid}
use Rattle.text.specs.Class.{Profile}
use Rattle.text.specs.Cluster.{clusters, join_all}
use Rattle.text.specs.Cluster.Laws.{clusters_all, join_length}
use Rattle.text.specs.Cluster.Walk.{clusters_some}
use Rattle.spans.specs.Spans.{Content, text, control, invalid, unprintable, escape, tab, crlf, lf, Span, ClusterKind, plain, special, join_text, add_text, add_cluster, cluster_kind, read_from, read_pieces, spans_at, spans}
use Rattle.spans.specs.Search.{EscapeRange, escape_match, add_escape, escapes_from, trimmed, escapes, searched_length, in_order, offset_from, read_part, read_matches, read}

-- a cluster adds at most one span

join_text_few : (m : Option ℕ) (p : ℕ) (g : List Scalar) (s : Span) (c : Content) (ss : List Span) → length (join_text m p g s c ss) ≤ 2 + length ss
unfolding join_text
join_text_few m p g s (text k t) ss = omega arith
join_text_few m p g s (control b) ss = omega arith
join_text_few m p g s (invalid b) ss = omega arith
join_text_few m p g s (unprintable t) ss = omega arith
join_text_few m p g s (escape e) ss = omega arith
join_text_few m p g s tab ss = omega arith
join_text_few m p g s crlf ss = omega arith
join_text_few m p g s lf ss = omega arith

add_text_few : (m : Option ℕ) (p : ℕ) (g : List Scalar) (ss : List Span) → length (add_text m p g ss) ≤ 1 + length ss
unfolding add_text
add_text_few m p g [] = omega arith
add_text_few m p g (s ∷ ss) = omega (arith, join_text_few m p g s s.content ss)

add_cluster_few : (m : Option ℕ) (p : ℕ) (g : List Scalar) (n : ℕ) (w : ClusterKind) (go : ℕ → List Span) (most : ℕ) → ((k : ℕ) → length (go k) ≤ most) → length (add_cluster m p g n w go) ≤ 1 + most
unfolding add_cluster
add_cluster_few m p g n plain go most h = omega (arith, add_text_few m p g (go zero), h zero)
add_cluster_few m p g n (special c k) go most h = omega (arith, h (k - n))

module _ (P : Profile) where
  read_from_few : (gs : List (List Scalar)) → (m : Option ℕ) (p k : ℕ) → All (λ (g : List Scalar). 1 ≤ length (bytes_of g)) gs → length (read_from P m p k gs) ≤ length (bytes_of (join_all gs))
  unfolding read_from
  read_from_few [] = λ m p k a. omega arith
  read_from_few (g ∷ gs) = λ m p k a. go (λ m p k a. read_from_few gs m p k a) m p k a
    where
      go : ((m : Option ℕ) (p k : ℕ) → All (λ (g : List Scalar). 1 ≤ length (bytes_of g)) gs → length (read_from P m p k gs) ≤ length (bytes_of (join_all gs)))
          → (m : Option ℕ) (p k : ℕ) → All (λ (g : List Scalar). 1 ≤ length (bytes_of g)) (g ∷ gs) → length (read_from P m p k (g ∷ gs)) ≤ length (bytes_of (join_all (g ∷ gs)))
      go ih m p zero (all_cons s a) =
          omega (arith, join_length g gs, add_cluster_few m p g (length (bytes_of g)) (cluster_kind P g (bytes_of (join_all gs))) (λ k. read_from P m (p + length (bytes_of g)) k gs) (length (bytes_of (join_all gs))) (λ k. ih m (p + length (bytes_of g)) k a))
      go ih m p (suc k) (all_cons s a) =
          omega (arith, join_length g gs, ih m (p + length (bytes_of g)) (suc k - length (bytes_of g)) a)

  read_pieces_few : (m : Option ℕ) (p : ℕ) {ps : List Piece} → All ValidPiece ps → length (read_pieces P m p ps) ≤ length (piece_bytes ps)
  unfolding read_pieces
  read_pieces_few m p all_nil = omega arith
  read_pieces_few m p (all_cons {s = ps} (ValidPiece.valid {s = s} v) a) =
      rw (pieces_run s ps) (simp length-append (omega (arith, ap (λ (t : List Scalar). length (bytes_of t)) (clusters_all P s), read_from_few (clusters P s) m p zero (clusters_some P (clusters P s) s refl v), read_pieces_few m (p + length (bytes_of s)) a)))
  read_pieces_few m p (all_cons {s = ps} (ValidPiece.ill {b = b}) a) = rw (pieces_damaged b ps) (omega (arith, read_pieces_few m (suc p) a))

  spans_at_few : (m : Option ℕ) (p : ℕ) (s : List ℕ) → length (spans_at P m p s) ≤ length s
  unfolding spans_at
  spans_at_few m p s = omega (arith, read_pieces_few m p (runs_valid s), ap length (piece_bytes_runs (decode s) ∙ decoded_bytes_decode s))

-- ---- offsets keep their order

-- segments in their order, from place o on
unfoldable Ascending : ℕ → List EscapeRange → Type 0
Ascending o [] = Unit {0}
Ascending o (e ∷ es) = (o ≤ e.from) × ((e.from ≤ e.upto) × Ascending e.upto es)

ascending_on : (o p : ℕ) → o ≤ p → (es : List EscapeRange) → Ascending p es → Ascending o es
unfolding Ascending
ascending_on o p h [] a = tt
ascending_on o p h (e ∷ es) a = (omega (arith, a.0), a.1)

escapes_ascend : (s : List ℕ) → (p k : ℕ) → Ascending (p + k) (escapes_from p k s)
unfolding escapes_from add_escape Ascending
escapes_ascend [] = λ p k. tt
escapes_ascend (b ∷ s) = λ p k. go (λ p k. escapes_ascend s p k) p k
  where
    add : (p n : ℕ) (go : ℕ → List EscapeRange) → ((k : ℕ) → Ascending (suc p + k) (go k)) → Ascending p (add_escape p n go)
    add p zero go h = ascending_on p (suc p + 0) (omega arith) (go zero) (h zero)
    add p (suc n) go h = (omega arith, (omega arith, ascending_on (p + suc n) (suc p + n) (omega arith) (go n) (h n)))

    go : ((p k : ℕ) → Ascending (p + k) (escapes_from p k s)) → (p k : ℕ) → Ascending (p + k) (escapes_from p k (b ∷ s))
    go ih p zero = ascending_on (p + 0) p (omega arith) (escapes_from p zero (b ∷ s)) (add p (escape_match (b ∷ s)) (λ k. escapes_from (suc p) k s) (λ k. ih (suc p) k))
    go ih p (suc k) = ascending_on (p + suc k) (suc p + k) (omega arith) (escapes_from (suc p) k s) (ih (suc p) k)

offset_from_law : (es : List EscapeRange) → (o r : ℕ) → Ascending o es → o ≤ offset_from o r es
unfolding offset_from Ascending
offset_from_law [] = λ o r a. omega arith
offset_from_law (e ∷ es) = λ o r a.
    cases (ltb (o + r) e.from) (λ t. rw t (omega arith)) (λ t. rw t (omega (arith, a.0, a.1.0, offset_from_law es e.upto (r - (e.from - o)) a.1.1)))

offset_grows : (es : List EscapeRange) → (o x y : ℕ) → Ascending o es → x ≤ y → offset_from o x es ≤ offset_from o y es
unfolding offset_from Ascending
offset_grows [] = λ o x y a h. omega arith
offset_grows (e ∷ es) = λ o x y a h.
    cases (ltb (o + x) e.from)
    (λ t. cases (ltb (o + y) e.from) (λ u. rw (t, u) (omega arith)) (λ u. rw (t, u) (omega (arith, a.1.0, ltb-true (o + x) e.from t, offset_from_law es e.upto (y - (e.from - o)) a.1.1))))
    (λ t. let u : ltb (o + y) e.from ≡ false = le-ltb (o + y) e.from (omega (arith, ltb-false (o + x) e.from t)) in
    rw (t, u) (offset_grows es e.upto (x - (e.from - o)) (y - (e.from - o)) a.1.1 (omega arith)))

-- ---- lines, and lines with matches

module _ (P : Profile) (s : List ℕ) where
  read_part_few : (m : Option ℕ) (a b : ℕ) → (length (read_part P m a b s) ≤ b - a) × (length (read_part P m a b s) ≤ length s - a)
  unfolding read_part
  read_part_few m a b =
      let h = spans_at_few P m a (take (b - a) (drop a s)) in
      let k = length-drop a s in
      cases (leb (b - a) (length (drop a s)))
      (λ e. let n = length-take-le (b - a) (drop a s) (leb-true (b - a) (length (drop a s)) e) in let z = leb-true (b - a) (length (drop a s)) e in (omega arith, omega arith))
      (λ e. let n = ap length (take_all (b - a) (drop a s) (omega (arith, leb-false (b - a) (length (drop a s)) e))) in let z = leb-false (b - a) (length (drop a s)) e in (omega arith, omega arith))

  module _ (es : List EscapeRange) (a : Ascending 0 es) (most : ℕ) where
    read_matches_few : (ms : List ℕ) → (start k e : ℕ) → start ≤ offset_from 0 e es → in_order most e ms ≡ true → length (read_matches P es start k ms s) ≤ length s - start
    unfolding read_matches in_order
    read_matches_few [] = λ start k e h o. omega (arith, (read_part_few none start (length s)).1)
    read_matches_few (x ∷ []) = λ start k e h o. omega arith
    read_matches_few (x ∷ y ∷ ms) = λ start k e h o.
        let p = and_T (leb e x) (leb x y && (leb y most && in_order most y ms)) (true_T o) in
        let q = and_T (leb x y) (leb y most && in_order most y ms) p.1 in
        let r = and_T (leb y most) (in_order most y ms) q.1 in
        let from : ℕ = offset_from 0 x es in
        let upto : ℕ = offset_from 0 y es in
        let i = offset_grows es 0 e x a (leb→le e x p.0) in
        let j = offset_grows es 0 x y a (leb→le x y q.0) in
        let u = read_part_few none start from in
        let v = read_part_few (some k) from upto in
        let w = read_matches_few ms upto (suc k) y (omega arith) (is_true (in_order most y ms) r.1) in
        simp length-append (omega (arith, i, j, u.0, u.1, v.0, v.1, w))

-- a line has no more spans than bytes, read with matches in their order or without
pub few : (P : Profile) (matches s : List ℕ) → in_order (searched_length s) 0 matches ≡ true → length (read P matches s) ≤ length s
unfolding read spans escapes
few P [] s h = spans_at_few P none 0 s
few P (m ∷ ms) s h = omega (arith, read_matches_few P s (escapes s) (escapes_ascend (take (trimmed s) s) 0 0) (searched_length s) (m ∷ ms) 0 0 0 (omega arith) h)
