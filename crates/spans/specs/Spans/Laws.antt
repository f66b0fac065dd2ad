-- Reading without matches; places move on.
use Rattle.std.specs.Prelude.{◌≡◌}
use Rattle.std.proofs.Math.Path.{refl, sym, ap, ap₂}
use Rattle.std.proofs.Common.{◌∙◌, zero-add}
use Prim.Native.Nat.{ℕ, zero, suc, ◌+◌, ◌-◌}
use native.Mathlib.Omega.{arith}
use Rattle.std.proofs.Math.Nat.{add-zero}
use mathlib.Core.List.{List, [], ◌∷◌, ◌++◌, map, append_assoc}
use Rattle.std.proofs.Math.Option.{Option}
use Rattle.std.proofs.Math.ListN.{length, length-append}
use Rattle.std.proofs.lemmas.List.{length-map}
use Rattle.text.specs.Utf8.{Scalar, decode, Piece, run, damaged, runs, bytes_of}
use Rattle.text.specs.Class.{Profile}
use Rattle.text.specs.Cluster.{clusters, join_all}
use Rattle.text.specs.Utf8.Laws.{piece_bytes, pieces_damaged, pieces_nil, pieces_run}
use Rattle.text.specs.Utf8.Runs.{runs_nil}
use Rattle.spans.specs.Spans.{Content, text, control, invalid, unprintable, escape, tab, crlf, lf, Span, span, ClusterKind, plain, special, join_text, add_text, add_cluster, cluster_kind, read_from, read_pieces, spans_at, spans, record_of, records}
use Rattle.spans.specs.Search.{read}

pub map_append {ℓ κ} : {A : Type ℓ} {B : Type κ} (f : A → B) (s t : List A) → map f (s ++ t) ≡ map f s ++ map f t
map_append f [] t = refl
map_append f (x ∷ s) t = ap (λ (l : List _). f x ∷ l) (map_append f s t)

pub records_length : (ss : List Span) → length (records ss) ≡ length ss
unfolding records
records_length ss = length-map ss record_of

-- without matches
pub unmatched_spans : (P : Profile) (s : List ℕ) → read P [] s ≡ spans P s
unfolding read
unmatched_spans P s = refl

-- ---- places moved on

unfoldable pub shift : ℕ → Span → Span
shift k s = span (s.place + k) s.len s.content

join_text_shift : (m : Option ℕ) (p k : ℕ) (g : List Scalar) (s : Span) (w : Content) (ss : List Span)
    → join_text m (p + k) g (shift k s) w (map (shift k) ss) ≡ map (shift k) (join_text m p g s w ss)
unfolding join_text shift
join_text_shift m p k g s (text j t) ss = refl
join_text_shift m p k g s (control b) ss = refl
join_text_shift m p k g s (invalid b) ss = refl
join_text_shift m p k g s (unprintable t) ss = refl
join_text_shift m p k g s (escape e) ss = refl
join_text_shift m p k g s tab ss = refl
join_text_shift m p k g s crlf ss = refl
join_text_shift m p k g s lf ss = refl

add_text_shift : (m : Option ℕ) (p k : ℕ) (g : List Scalar) (ss : List Span) → add_text m (p + k) g (map (shift k) ss) ≡ map (shift k) (add_text m p g ss)
unfolding add_text shift
add_text_shift m p k g [] = refl
add_text_shift m p k g (s ∷ ss) = join_text_shift m p k g s s.content ss

add_cluster_shift : (m : Option ℕ) (p k : ℕ) (g : List Scalar) (n : ℕ) (w : ClusterKind) (go go' : ℕ → List Span) → ((j : ℕ) → go' j ≡ map (shift k) (go j))
    → add_cluster m (p + k) g n w go' ≡ map (shift k) (add_cluster m p g n w go)
unfolding add_cluster shift
add_cluster_shift m p k g n plain go go' e = ap (add_text m (p + k) g) (e zero) ∙ add_text_shift m p k g (go zero)
add_cluster_shift m p k g n (special w j) go go' e = ap (λ (l : List Span). span (p + k) j w ∷ l) (e (j - n))

module _ (P : Profile) where
  pub no_spans : (m : Option ℕ) (p : ℕ) → spans_at P m p [] ≡ []
  unfolding spans_at read_pieces
  no_spans m p = ap (read_pieces P m p) runs_nil

  read_from_shift : (m : Option ℕ) (p k j : ℕ) (gs : List (List Scalar)) → read_from P m (p + k) j gs ≡ map (shift k) (read_from P m p j gs)
  unfolding read_from
  read_from_shift m p k j [] = refl
  read_from_shift m p k zero (g ∷ gs) =
      let n : ℕ = length (bytes_of g) in
      let e : p + k + n ≡ p + n + k = omega arith in
      add_cluster_shift m p k g n (cluster_kind P g (bytes_of (join_all gs))) (λ j. read_from P m (p + n) j gs) (λ j. read_from P m (p + k + n) j gs)
      (λ j. ap (λ (q : ℕ). read_from P m q j gs) e ∙ read_from_shift m (p + n) k j gs)
  read_from_shift m p k (suc j) (g ∷ gs) =
      let n : ℕ = length (bytes_of g) in
      let e : p + k + n ≡ p + n + k = omega arith in
      ap (λ (q : ℕ). read_from P m q (suc j - n) gs) e ∙ read_from_shift m (p + n) k (suc j - n) gs

  read_pieces_shift : (m : Option ℕ) (p k : ℕ) (ps : List Piece) → read_pieces P m (p + k) ps ≡ map (shift k) (read_pieces P m p ps)
  unfolding read_pieces shift
  read_pieces_shift m p k [] = refl
  read_pieces_shift m p k (run s ∷ ps) =
      let n : ℕ = length (bytes_of s) in
      let e : p + k + n ≡ p + n + k = omega arith in
      ap₂ (λ (a b : List Span). a ++ b) (read_from_shift m p k zero (clusters P s)) (ap (λ (q : ℕ). read_pieces P m q ps) e ∙ read_pieces_shift m (p + n) k ps)
      ∙ sym (map_append (shift k) (read_from P m p zero (clusters P s)) (read_pieces P m (p + n) ps))
  read_pieces_shift m p k (damaged b ∷ ps) =
      let e : suc (p + k) ≡ suc p + k = omega arith in
      ap (λ (l : List Span). span (p + k) 1 (invalid b) ∷ l) (ap (λ (q : ℕ). read_pieces P m q ps) e ∙ read_pieces_shift m (suc p) k ps)

  pub spans_at_shift : (m : Option ℕ) (k : ℕ) (s : List ℕ) → spans_at P m k s ≡ map (shift k) (spans_at P m 0 s)
  unfolding spans_at
  spans_at_shift m k s = ap (λ (q : ℕ). read_pieces P m q (runs (decode s))) (sym (zero-add k)) ∙ read_pieces_shift m 0 k (runs (decode s))

  pub read_pieces_append : (m : Option ℕ) (p : ℕ) (ps qs : List Piece)
      → read_pieces P m p (ps ++ qs) ≡ read_pieces P m p ps ++ read_pieces P m (p + length (piece_bytes ps)) qs
  unfolding read_pieces
  read_pieces_append m p [] qs = ap (λ (q : ℕ). read_pieces P m q qs) (sym (ap (λ (l : List ℕ). p + length l) pieces_nil ∙ add-zero p))
  read_pieces_append m p (run s ∷ ps) qs =
      let n : ℕ = length (bytes_of s) in
      let e : p + n + length (piece_bytes ps) ≡ p + length (piece_bytes (run s ∷ ps)) = rw (pieces_run s ps) (simp length-append (omega arith)) in
      ap (λ (l : List Span). read_from P m p zero (clusters P s) ++ l) (read_pieces_append m (p + n) ps qs ∙ ap (λ (q : ℕ). read_pieces P m (p + n) ps ++ read_pieces P m q qs) e)
      ∙ sym (append_assoc (read_from P m p zero (clusters P s)) (read_pieces P m (p + n) ps) (read_pieces P m (p + length (piece_bytes (run s ∷ ps))) qs))
  read_pieces_append m p (damaged b ∷ ps) qs =
      let e : suc p + length (piece_bytes ps) ≡ p + length (piece_bytes (damaged b ∷ ps)) = rw (pieces_damaged b ps) (omega arith) in
      ap (λ (l : List Span). span p 1 (invalid b) ∷ l) (read_pieces_append m (suc p) ps qs ∙ ap (λ (q : ℕ). read_pieces P m (suc p) ps ++ read_pieces P m q qs) e)
