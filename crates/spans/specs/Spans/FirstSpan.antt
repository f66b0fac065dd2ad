-- Reading step by step: the first span of a line, and the spans of what stands behind it.
use Rattle.std.proofs.Math.Path.{◌≡◌, refl, sym, ap, ap₂}
use Rattle.std.proofs.Common.{◌∙◌, add-zero, drop-drop}
use Prim.Native.Nat.{ℕ, zero, suc, ◌+◌, ◌-◌, ◌<◌}
use native.Mathlib.Omega.{arith}
use Rattle.std.specs.Prelude.{Bool, true, false, cond, ◌||◌, length, drop, eqb, leb}
use mathlib.Core.List.{List, [], ◌∷◌, ◌++◌, append-nil}
use Rattle.std.proofs.Math.Option.{Option}
use Rattle.text.specs.Tests.{cases}
use Rattle.text.specs.Utf8.{Scalar, decode, runs, run_of, bytes_of, reads}
use Rattle.text.specs.Utf8.Laws.{bytes_nil}
use Rattle.text.specs.Utf8.Runs.{with_run, with_cons, with_nil, runs_damaged, runs_first, run_length}
use Rattle.text.specs.Class.{Profile}
use Rattle.text.specs.Width.{width_of}
use Rattle.text.specs.Cluster.{clusters, join_all}
use Rattle.text.specs.Cluster.Laws.{clusters_none}
use Rattle.text.specs.Cluster.Walk.{first, next_clusters}
use Rattle.spans.specs.Sequence.{Found, found, missing, parse}
use Rattle.spans.specs.Spans.{Content, text, control, invalid, unprintable, escape, tab, crlf, lf, Span, span, ClusterKind, plain, special, escape_kind, control_kind, join_text, add_text, add_cluster, cluster_kind, read_from, read_pieces, spans_at}

-- the bytes of a cluster
abbrev pub extent : List Scalar → ℕ
extent g = length (bytes_of g)

-- ---- what a cluster is: plain, or a span that is no text

unfoldable pub is_plain : ClusterKind → Bool
is_plain plain = true
is_plain (special c k) = false

unfoldable pub NoText : ClusterKind → Type 0
NoText plain = Unit {0}
NoText (special (text m t) k) = ⊥
NoText (special (control b) k) = Unit {0}
NoText (special (invalid b) k) = Unit {0}
NoText (special (unprintable t) k) = Unit {0}
NoText (special (escape e) k) = Unit {0}
NoText (special tab k) = Unit {0}
NoText (special crlf k) = Unit {0}
NoText (special lf k) = Unit {0}

cond_no_text : (b : Bool) (x y : ClusterKind) → NoText x → NoText y → NoText (cond b x y)
cond_no_text true x y f g = f
cond_no_text false x y f g = g

escape_no_text : (f : Found) → NoText (escape_kind f)
unfolding NoText escape_kind
escape_no_text (found e n) = tt
escape_no_text missing = tt

pub escape_special : (f : Found) → is_plain (escape_kind f) ≡ false
unfolding is_plain escape_kind
escape_special (found e n) = refl
escape_special missing = refl

control_no_text : (g : List ℕ) (w : ClusterKind) → NoText w → NoText (control_kind g w)
unfolding control_kind NoText
control_no_text [] w h = h
control_no_text (b ∷ []) w h = cond_no_text (leb b 0x1F || eqb b 0x7F) (special (control b) 1) w tt h
control_no_text (b ∷ c ∷ g) w h = h

cond_plain : (b : Bool) (x x' y : ClusterKind) → is_plain x ≡ is_plain x' → is_plain (cond b x y) ≡ is_plain (cond b x' y)
cond_plain true x x' y e = e
cond_plain false x x' y e = refl

module _ (P : Profile) where
  pub kind_no_text : (g : List Scalar) (s : List ℕ) → NoText (cluster_kind P g s)
  unfolding cluster_kind NoText
  kind_no_text g s =
      cond_no_text (reads g (0x1B ∷ [])) _ _ (escape_no_text (parse s))
      (cond_no_text (reads g (0x0D ∷ 0x0A ∷ [])) _ _ tt
      (cond_no_text (reads g (0x0A ∷ [])) _ _ tt
      (cond_no_text (reads g (0x09 ∷ [])) _ _ tt
      (control_no_text (bytes_of g) _ (cond_no_text (eqb (width_of P g) 0) _ _ tt tt)))))

  -- whether a cluster is plain, whatever stands behind it
  unfoldable pub plain_cluster : List Scalar → Bool
  unfolding cluster_kind is_plain
  plain_cluster g = is_plain (cluster_kind P g [])

  pub plain_same : (g : List Scalar) (s : List ℕ) → is_plain (cluster_kind P g s) ≡ plain_cluster g
  unfolding plain_cluster cluster_kind
  plain_same g s = cond_plain (reads g (0x1B ∷ [])) (escape_kind (parse s)) (escape_kind (parse [])) _ (escape_special (parse s) ∙ sym (escape_special (parse [])))

  -- ---- a line: the clusters of its first run, and the spans behind the run

  pieces_with : (m : Option ℕ) (p : ℕ) (r : List Scalar) (t : List ℕ)
      → read_pieces P m p (with_run r (runs (decode t))) ≡ read_from P m p zero (clusters P r) ++ spans_at P m (p + extent r) t
  unfolding read_pieces spans_at read_from
  pieces_with m p [] t = ap (read_pieces P m p) (with_nil (runs (decode t))) ∙ ap (λ (q : ℕ). read_pieces P m q (runs (decode t))) (sym (add-zero p))
  pieces_with m p (c ∷ r) t = ap (read_pieces P m p) (with_cons c r (runs (decode t)))

  -- the spans behind the first run
  abbrev behind_run : Option ℕ → ℕ → List ℕ → List Span
  behind_run m p s = spans_at P m (p + extent (run_of (decode s))) (drop (extent (run_of (decode s))) s)

  abbrev clusters_of : List ℕ → List (List Scalar)
  clusters_of s = clusters P (run_of (decode s))

  spans_run : (m : Option ℕ) (p : ℕ) (s : List ℕ) → spans_at P m p s ≡ read_from P m p zero (clusters_of s) ++ behind_run m p s
  unfolding spans_at
  spans_run m p s = ap (read_pieces P m p) (runs_first s) ∙ pieces_with m p (run_of (decode s)) (drop (extent (run_of (decode s))) s)

  -- the same spans stand behind the run that the first cluster leaves
  behind_next : (m : Option ℕ) (p : ℕ) (s : List ℕ) (g : List Scalar) (gs : List (List Scalar)) → clusters_of s ≡ g ∷ gs → behind_run m (p + extent g) (drop (extent g) s) ≡ behind_run m p s
  behind_next m p s g gs e =
      let f = first P (run_of (decode s)) g gs e in
      let n : ℕ = extent (run_of (decode (drop (extent g) s))) in
      let k : extent (run_of (decode s)) ≡ extent g + n = run_length s g f.rest f.text in
      let q : p + extent g + n ≡ p + extent (run_of (decode s)) = omega arith in
      ap₂ (λ (x : ℕ) (l : List ℕ). spans_at P m x l) q (drop-drop n (extent g) s ∙ ap (λ (x : ℕ). drop x s) (sym k))

  -- ---- clusters that are dropped

  -- the bytes of the clusters that begin in the first k bytes
  unfoldable pub skipped : ℕ → List (List Scalar) → ℕ
  skipped k [] = 0
  skipped zero (g ∷ gs) = 0
  skipped (suc k) (g ∷ gs) = extent g + skipped (suc k - extent g) gs

  nothing : (m : Option ℕ) (p : ℕ) (s : List ℕ) → run_of (decode s) ≡ [] → behind_run m p s ≡ spans_at P m (p + 0) s
  nothing m p s e = rw (e, bytes_nil) refl

  after_skipped : (gs : List (List Scalar)) → (m : Option ℕ) (p k : ℕ) (s : List ℕ) → clusters_of s ≡ gs
      → read_from P m p k gs ++ behind_run m p s ≡ spans_at P m (p + skipped k gs) (drop (skipped k gs) s)
  unfolding read_from skipped
  after_skipped [] = λ m p k s e. nothing m p s (clusters_none P (run_of (decode s)) e)
  after_skipped (g ∷ gs) = λ m p k s e. go (λ m p k s e. after_skipped gs m p k s e) m p k s e
    where
      go : ((m : Option ℕ) (p k : ℕ) (s : List ℕ) → clusters_of s ≡ gs → read_from P m p k gs ++ behind_run m p s ≡ spans_at P m (p + skipped k gs) (drop (skipped k gs) s))
          → (m : Option ℕ) (p k : ℕ) (s : List ℕ) → clusters_of s ≡ g ∷ gs
          → read_from P m p k (g ∷ gs) ++ behind_run m p s ≡ spans_at P m (p + skipped k (g ∷ gs)) (drop (skipped k (g ∷ gs)) s)
      go ih m p zero s e = ap (λ (l : List (List Scalar)). read_from P m p zero l ++ behind_run m p s) (sym e) ∙ sym (spans_run m p s) ∙ ap (λ (q : ℕ). spans_at P m q s) (sym (add-zero p))
      go ih m p (suc k) s e =
          let n : ℕ = skipped (suc k - extent g) gs in
          let q : p + extent g + n ≡ p + (extent g + n) = omega arith in
          ap (λ (l : List Span). read_from P m (p + extent g) (suc k - extent g) gs ++ l) (sym (behind_next m p s g gs e))
          ∙ ih m (p + extent g) (suc k - extent g) (drop (extent g) s) (next_clusters P s g gs e)
          ∙ ap₂ (λ (x : ℕ) (l : List ℕ). spans_at P m x l) q (drop-drop n (extent g) s)

  -- ---- plain clusters

  -- the bytes of the plain clusters in front, their scalars, and the other clusters
  unfoldable pub plain_size : List (List Scalar) → ℕ
  plain_size [] = 0
  plain_size (g ∷ gs) = let more : ℕ = extent g + plain_size gs in cond (plain_cluster g) more 0

  unfoldable pub plain_text : List (List Scalar) → List Scalar
  plain_text [] = []
  plain_text (g ∷ gs) = let more : List Scalar = g ++ plain_text gs in cond (plain_cluster g) more []

  unfoldable plain_rest : List (List Scalar) → List (List Scalar)
  plain_rest [] = []
  plain_rest (g ∷ gs) = let more : List (List Scalar) = plain_rest gs in cond (plain_cluster g) more (g ∷ gs)

  plain_is : (w : ClusterKind) → is_plain w ≡ true → w ≡ plain
  unfolding is_plain
  plain_is plain e = refl
  plain_is (special c k) e = absurd (let z : ◌≡◌ {A = ℕ} 0 1 = cc in omega arith)

  -- a text in front of a span that is none
  apart : (m : Option ℕ) (p : ℕ) (g : List Scalar) (q : ℕ) (h : List Scalar) (n : ℕ) (w : ClusterKind) (go : ℕ → List Span) → NoText w → is_plain w ≡ false
      → add_text m p g (add_cluster m q h n w go) ≡ span p (extent g) (text m g) ∷ add_cluster m q h n w go
  unfolding add_cluster add_text join_text NoText is_plain
  apart m p g q h n plain go f e = absurd (let z : ◌≡◌ {A = ℕ} 0 1 = cc in omega arith)
  apart m p g q h n (special (text j t) k) go f e = absurd f
  apart m p g q h n (special (control b) k) go f e = refl
  apart m p g q h n (special (invalid b) k) go f e = refl
  apart m p g q h n (special (unprintable t) k) go f e = refl
  apart m p g q h n (special (escape x) k) go f e = refl
  apart m p g q h n (special tab k) go f e = refl
  apart m p g q h n (special crlf k) go f e = refl
  apart m p g q h n (special lf k) go f e = refl

  first_plain : (m : Option ℕ) (p : ℕ) (g : List Scalar) (gs : List (List Scalar)) → plain_cluster g ≡ true → read_from P m p zero (g ∷ gs) ≡ add_text m p g (read_from P m (p + extent g) zero gs)
  unfolding read_from add_cluster
  first_plain m p g gs e =
      let b : List ℕ = bytes_of (join_all gs) in
      ap (λ (w : ClusterKind). add_cluster m p g (extent g) w (λ k. read_from P m (p + extent g) k gs)) (plain_is (cluster_kind P g b) (plain_same g b ∙ e))

  first_special : (m : Option ℕ) (p : ℕ) (h g : List Scalar) (q : ℕ) (gs : List (List Scalar)) → plain_cluster g ≡ false
      → add_text m p h (read_from P m q zero (g ∷ gs)) ≡ span p (extent h) (text m h) ∷ read_from P m q zero (g ∷ gs)
  unfolding read_from
  first_special m p h g q gs e =
      let b : List ℕ = bytes_of (join_all gs) in
      apart m p h q g (extent g) (cluster_kind P g b) (λ k. read_from P m (q + extent g) k gs) (kind_no_text g b) (plain_same g b ∙ e)

  read_text_law : (gs : List (List Scalar)) → (m : Option ℕ) (p : ℕ) (g : List Scalar) → plain_cluster g ≡ true
      → read_from P m p zero (g ∷ gs) ≡ span p (extent g + plain_size gs) (text m (g ++ plain_text gs)) ∷ read_from P m (p + (extent g + plain_size gs)) zero (plain_rest gs)
  unfolding plain_size plain_text plain_rest add_text join_text read_from
  read_text_law [] = λ m p g e. first_plain m p g [] e ∙ nil m p g
    where
      nil : (m : Option ℕ) (p : ℕ) (g : List Scalar) → add_text m p g (read_from P m (p + extent g) zero []) ≡ span p (extent g + 0) (text m (g ++ [])) ∷ read_from P m (p + (extent g + 0)) zero []
      nil m p g = ap₂ (λ (n : ℕ) (t : List Scalar). span p n (text m t) ∷ []) (sym (add-zero (extent g))) (sym (append-nil g))
  read_text_law (h ∷ hs) = λ m p g e. first_plain m p g (h ∷ hs) e ∙ cases (plain_cluster h)
      (λ f.
      let n : ℕ = extent h + plain_size hs in
      let q : p + extent g + n ≡ p + (extent g + n) = omega arith in
      rw f (ap (add_text m p g) (read_text_law hs m (p + extent g) h f) ∙ ap (λ (x : ℕ). span p (extent g + n) (text m (g ++ (h ++ plain_text hs))) ∷ read_from P m x zero (plain_rest hs)) q))
      (λ f. rw f (first_special m p g h (p + extent g) hs f
      ∙ ap₂ (λ (n : ℕ) (t : List Scalar). span p n (text m t) ∷ read_from P m (p + n) zero (h ∷ hs)) (sym (add-zero (extent g))) (sym (append-nil g))))

  after_text : (gs : List (List Scalar)) → (m : Option ℕ) (p : ℕ) (s : List ℕ) → clusters_of s ≡ gs
      → read_from P m (p + plain_size gs) zero (plain_rest gs) ++ behind_run m p s ≡ spans_at P m (p + plain_size gs) (drop (plain_size gs) s)
  unfolding read_from plain_size plain_rest
  after_text [] = λ m p s e. nothing m p s (clusters_none P (run_of (decode s)) e)
  after_text (g ∷ gs) = λ m p s e. cases (plain_cluster g)
      (λ f.
      let n : ℕ = plain_size gs in
      let q : p + (extent g + n) ≡ p + extent g + n = omega arith in
      rw f (ap₂ (λ (x : ℕ) (l : List Span). read_from P m x zero (plain_rest gs) ++ l) q (sym (behind_next m p s g gs e))
      ∙ after_text gs m (p + extent g) (drop (extent g) s) (next_clusters P s g gs e)
      ∙ ap₂ (λ (x : ℕ) (l : List ℕ). spans_at P m x l) (sym q) (drop-drop n (extent g) s)))
      (λ f. rw f (ap₂ (λ (x : ℕ) (l : List (List Scalar)). read_from P m x zero l ++ behind_run m p s) (add-zero p) (sym e) ∙ sym (spans_run m p s) ∙ ap (λ (q : ℕ). spans_at P m q s) (sym (add-zero p))))

  -- ---- the first span

  -- plain clusters: a Text, or a Match
  pub step_text : (m : Option ℕ) (p : ℕ) (s : List ℕ) (g : List Scalar) (gs : List (List Scalar)) → clusters_of s ≡ g ∷ gs → plain_cluster g ≡ true
      → spans_at P m p s ≡ span p (plain_size (clusters_of s)) (text m (plain_text (clusters_of s))) ∷ spans_at P m (p + plain_size (clusters_of s)) (drop (plain_size (clusters_of s)) s)
  unfolding plain_size plain_text plain_rest
  step_text m p s g gs e f =
      rw e (spans_run m p s ∙ ap (λ (l : List (List Scalar)). read_from P m p zero l ++ behind_run m p s) e ∙ ap (λ (l : List Span). l ++ behind_run m p s) (read_text_law gs m p g f)
      ∙ rw f (ap (λ (l : List Span). span p (extent g + plain_size gs) (text m (g ++ plain_text gs)) ∷ l) (rw f at (after_text (g ∷ gs) m p s e))))

  -- any other cluster: a span of k bytes, and the clusters that begin in them are dropped
  pub step_special : (m : Option ℕ) (p : ℕ) (s : List ℕ) (g : List Scalar) (gs : List (List Scalar)) (c : Content) (k : ℕ) → clusters_of s ≡ g ∷ gs → cluster_kind P g (bytes_of (join_all gs)) ≡ special c k
      → spans_at P m p s ≡ span p k c ∷ spans_at P m (p + (extent g + skipped (k - extent g) gs)) (drop (extent g + skipped (k - extent g) gs) s)
  unfolding read_from add_cluster
  step_special m p s g gs c k e f =
      let n : ℕ = skipped (k - extent g) gs in
      let q : p + extent g + n ≡ p + (extent g + n) = omega arith in
      spans_run m p s ∙ ap (λ (l : List (List Scalar)). read_from P m p zero l ++ behind_run m p s) e
      ∙ ap (λ (w : ClusterKind). add_cluster m p g (extent g) w (λ k. read_from P m (p + extent g) k gs) ++ behind_run m p s) f
      ∙ ap (λ (l : List Span). span p k c ∷ l)
      (ap (λ (l : List Span). read_from P m (p + extent g) (k - extent g) gs ++ l) (sym (behind_next m p s g gs e))
      ∙ after_skipped gs m (p + extent g) (k - extent g) (drop (extent g) s) (next_clusters P s g gs e)
      ∙ ap₂ (λ (x : ℕ) (l : List ℕ). spans_at P m x l) q (drop-drop n (extent g) s))

  -- a byte that begins no run: Invalid
  pub step_invalid : (m : Option ℕ) (p b : ℕ) (s : List ℕ) → run_of (decode (b ∷ s)) ≡ [] → spans_at P m p (b ∷ s) ≡ span p 1 (invalid b) ∷ spans_at P m (suc p) s
  unfolding spans_at read_pieces
  step_invalid m p b s e = ap (read_pieces P m p) (runs_damaged b s e)

  -- a segment with bytes left has a span
  some_cluster : (m : Option ℕ) (p : ℕ) (s : List ℕ) (g : List Scalar) (gs : List (List Scalar)) → clusters_of s ≡ g ∷ gs → (w : ClusterKind) → cluster_kind P g (bytes_of (join_all gs)) ≡ w → 0 < length (spans_at P m p s)
  unfolding is_plain
  some_cluster m p s g gs e plain f = rw (step_text m p s g gs e (sym (plain_same g (bytes_of (join_all gs))) ∙ ap is_plain f)) (omega arith)
  some_cluster m p s g gs e (special c k) f = rw (step_special m p s g gs c k e f) (omega arith)

  pub step_some : (m : Option ℕ) (p b : ℕ) (s : List ℕ) → 0 < length (spans_at P m p (b ∷ s))
  step_some m p b s = go (clusters_of (b ∷ s)) refl
    where
      go : (gs : List (List Scalar)) → clusters_of (b ∷ s) ≡ gs → 0 < length (spans_at P m p (b ∷ s))
      go [] e = rw (step_invalid m p b s (clusters_none P (run_of (decode (b ∷ s))) e)) (omega arith)
      go (g ∷ gs) e = some_cluster m p (b ∷ s) g gs e (cluster_kind P g (bytes_of (join_all gs))) refl
