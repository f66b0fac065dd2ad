-- What a cluster is, by its bytes.
use mathlib.Core.Path.{◌≡◌, refl, sym, ap, ◌∙◌}
use Prim.Native.Nat.{ℕ, suc, ◌≤◌, ◌<◌}
use native.Mathlib.Omega.{arith}
use mathlib.Core.Bool.{Bool, true, false, not, cond, ◌&&◌, ◌||◌, and-true, and-false}
use mathlib.Core.List.{List, [], ◌∷◌}
use lib.ListN.{length, take, get_or}
use lib.Seq.{get_or-take}
use lib.Dec.{eqb, leb, eqb→eq, leb→le}
use borrow.Author.Tests.{ne_eqb, le-leb, lt-leb, eqb-true}
use Rattle.text.specs.Tests.{and_T, cases, is_true, or_T, true_T}
use Rattle.text.specs.Utf8.{Scalar, ascii, decode, run_of, bytes_of}
use Rattle.text.specs.Class.{Profile}
use Rattle.text.specs.Width.{width_of}
use Rattle.text.specs.Cluster.{clusters}
use Rattle.text.specs.Cluster.Walk.{cluster_bytes, cluster_length, cluster_run, cluster_some}
use Rattle.text.specs.Class.Code.{printable, profile_of}
use Rattle.text.specs.Utf8.Code.Laws.{run_nil}
use Rattle.text.specs.Class.Profile01.{ascii_classes}
use Rattle.text.specs.Cluster.Ascii.{control_width, newline_width}
use Rattle.text.specs.Utf8.Ascii.{ascii_run}
use Rattle.text.specs.Utf8.Runs.{run_fits}
use Rattle.text.specs.declared.class.Profile as code
use Rattle.spans.specs.Sequence.{sgr, erase_to_end, ignored, hyperlink, line_drawing, Found, found, missing, parse}
use Rattle.spans.specs.Spans.{control, unprintable, tab, crlf, lf, ClusterKind, plain, special, escape_kind, control_kind, cluster_kind}
use Rattle.spans.specs.Spans.Kinds.{content_kind}
use Rattle.spans.specs.Spans.FirstSpan.{is_plain, escape_special, plain_cluster, plain_same}
use Rattle.spans.specs.Sequence.Contracts.{sequence_of}
use Rattle.spans.specs.Reader.{a_head, escape_head, head_bytes}
use Rattle.spans.specs.declared.kind.SpanKind.TheVariants as kind
use Rattle.spans.specs.declared.reader.SpanHead.{SpanHead}

no_one : (n : ℕ) → eqb (suc (suc n)) 1 ≡ false
no_one n = ne_eqb (suc (suc n)) 1 (λ e. omega arith)

no_two : (n : ℕ) → eqb (suc (suc (suc n))) 2 ≡ false
no_two n = ne_eqb (suc (suc (suc n))) 2 (λ e. omega arith)

-- a cluster that no earlier rule took
last_kind : List Scalar → ℕ → ℕ → ClusterKind
last_kind g n w = cond (eqb w 0) (special (unprintable g) n) plain

-- what a cluster of n bytes is, the first of them a and y, that is w columns wide, with f at an ESC
kind_by : List Scalar → ℕ → ℕ → ℕ → ℕ → Found → ClusterKind
kind_by g n a y w f =
    cond (eqb n 1)
    (cond (eqb a 0x1B) (escape_kind f) (cond (eqb a 0x0A) (special lf 1) (cond (eqb a 0x09) (special tab 1) (cond (leb a 0x1F || eqb a 0x7F) (special (control a) 1) (last_kind g n w)))))
    (cond (eqb n 2 && (eqb a 0x0D && eqb y 0x0A)) (special crlf 2) (last_kind g n w))

module _ (P : Profile) (g : List Scalar) (y : ℕ) (s : List ℕ) where
  kind_by_law : (b : List ℕ) → bytes_of g ≡ b → (1 < length b → y ≡ get_or b 1 0) → cluster_kind P g s ≡ kind_by g (length b) (get_or b 0 0) y (width_of P g) (parse s)
  unfolding cluster_kind control_kind kind_by last_kind
  kind_by_law [] e f = rw e
  kind_by_law (x ∷ []) e f = rw e (simp (and-true, and-false))
  kind_by_law (x ∷ z ∷ []) e f = let q : y ≡ z = f (omega arith) in rw (e, q) (simp (and-true, and-false))
  kind_by_law (x ∷ z ∷ w ∷ b) e f = rw e (simp (and-false, no_one, no_two))

-- ---- plain

-- a cluster of n bytes, the first of them a and b, that is w columns wide is a part of a text
plain_bytes : ℕ → ℕ → ℕ → ℕ → Bool
plain_bytes n a b w = cond (eqb n 1 && (leb a 0x1F || eqb a 0x7F)) false (cond (eqb n 2 && (eqb a 0x0D && eqb b 0x0A)) false (not (eqb w 0)))

last_plain : (g : List Scalar) (n w : ℕ) → is_plain (last_kind g n w) ≡ not (eqb w 0)
unfolding is_plain last_kind
last_plain g n w = cases (eqb w 0) (λ e. rw e) (λ e. rw e)

kind_plain : (g : List Scalar) (n a y w : ℕ) (f : Found) → is_plain (kind_by g n a y w f) ≡ plain_bytes n a y w
unfolding kind_by plain_bytes is_plain
kind_plain g n a y w f =
    cases (eqb n 1)
    (λ p. let q : eqb n 2 ≡ false = ne_eqb n 2 (λ e. omega (arith, eqb-true n 1 p)) in
    cases (eqb a 0x1B)
    (λ x. rw (p, x, le-leb a 0x1F (omega (arith, eqb-true a 0x1B x))) (escape_special f))
    (λ x. cases (eqb a 0x0A)
    (λ z. rw (p, x, z, le-leb a 0x1F (omega (arith, eqb-true a 0x0A z))))
    (λ z. cases (eqb a 0x09)
    (λ u. rw (p, x, z, u, le-leb a 0x1F (omega (arith, eqb-true a 0x09 u))))
    (λ u. cases (leb a 0x1F || eqb a 0x7F)
    (λ v. rw (p, x, z, u, v))
    (λ v. rw (p, x, z, u, v, q) (last_plain g n w))))))
    (λ p. cases (eqb n 2 && (eqb a 0x0D && eqb y 0x0A))
    (λ x. rw (p, x))
    (λ x. rw (p, x) (last_plain g n w)))

-- ---- the span

unfoldable pub kind_head : ClusterKind → SpanHead
kind_head plain = a_head kind.Text 0
kind_head (special c k) = a_head (content_kind c) k

last_head : (g : List Scalar) (n w : ℕ) → is_plain (last_kind g n w) ≡ false → kind_head (last_kind g n w) ≡ a_head kind.Unprintable n
unfolding is_plain last_kind kind_head content_kind
last_head g n w = cases (eqb w 0) (λ e. rw e (λ f. refl)) (λ e. rw e (λ f. absurd (let z : ◌≡◌ {A = ℕ} 0 1 = cc in omega arith)))

escape_head_law : (f : Found) → kind_head (escape_kind f) ≡ escape_head (sequence_of f)
unfolding kind_head escape_kind escape_head sequence_of content_kind
escape_head_law (found (sgr os) n) = refl
escape_head_law (found erase_to_end n) = refl
escape_head_law (found ignored n) = refl
escape_head_law (found (hyperlink a k) n) = refl
escape_head_law (found (line_drawing b) n) = refl
escape_head_law missing = refl

kind_head_law : (g : List Scalar) (n a y w : ℕ) (f : Found) → is_plain (kind_by g n a y w f) ≡ false → kind_head (kind_by g n a y w f) ≡ head_bytes n a y f
unfolding kind_by head_bytes kind_head content_kind
kind_head_law g n a y w f =
    cases (eqb n 1)
    (λ p.
    cases (eqb a 0x1B)
    (λ x. rw (p, x) (λ h. escape_head_law f))
    (λ x. cases (eqb a 0x0A)
    (λ z. rw (p, x, z) (λ h. refl))
    (λ z. cases (eqb a 0x09)
    (λ u. rw (p, x, z, u) (λ h. refl))
    (λ u. cases (leb a 0x1F || eqb a 0x7F)
    (λ v. rw (p, x, z, u, v) (λ h. refl))
    (λ v. rw (p, x, z, u, v) (λ h. last_head g n w h ∙ ap (a_head kind.Unprintable) (eqb-true n 1 p)))))))
    (λ p. cases (eqb n 2 && (eqb a 0x0D && eqb y 0x0A))
    (λ x. rw (p, x) (λ h. refl))
    (λ x. rw (p, x) (λ h. last_head g n w h)))

-- ---- the first cluster of a line

module _ (P : Profile) (s : List ℕ) (g : List Scalar) (gs : List (List Scalar)) (e : clusters P (run_of (decode s)) ≡ g ∷ gs) where
  second : 1 < length (bytes_of g) → get_or s 1 0 ≡ get_or (bytes_of g) 1 0
  second h = sym (ap (λ (l : List ℕ). get_or l 1 0) (sym (cluster_bytes P s g gs e)) ∙ get_or-take (length (bytes_of g)) s 1 0 h)

  pub first_byte : get_or (bytes_of g) 0 0 ≡ get_or s 0 0
  first_byte = ap (λ (l : List ℕ). get_or l 0 0) (sym (cluster_bytes P s g gs e)) ∙ get_or-take (length (bytes_of g)) s 0 0 (cluster_some P s g gs e)

  by_kind : (t : List ℕ) → cluster_kind P g t ≡ kind_by g (length (bytes_of g)) (get_or s 0 0) (get_or s 1 0) (width_of P g) (parse t)
  by_kind t = rw (← first_byte) (kind_by_law P g (get_or s 1 0) t (bytes_of g) refl second)

  plain_bytes_law : plain_cluster P g ≡ plain_bytes (length (bytes_of g)) (get_or s 0 0) (get_or s 1 0) (width_of P g)
  unfolding plain_cluster
  plain_bytes_law = ap is_plain (by_kind []) ∙ kind_plain g (length (bytes_of g)) (get_or s 0 0) (get_or s 1 0) (width_of P g) (parse [])

  pub head_bytes_law : (t : List ℕ) → plain_cluster P g ≡ false → kind_head (cluster_kind P g t) ≡ head_bytes (length (bytes_of g)) (get_or s 0 0) (get_or s 1 0) (parse t)
  head_bytes_law t h =
      ap kind_head (by_kind t)
      ∙ kind_head_law g (length (bytes_of g)) (get_or s 0 0) (get_or s 1 0) (width_of P g) (parse t) (ap is_plain (sym (by_kind t)) ∙ plain_same P g t ∙ h)

-- a control and CR LF have no width, so that the width alone says whether a cluster is plain
module _ (p : code.Profile) (s : List ℕ) (g : List Scalar) (gs : List (List Scalar)) (e : clusters (profile_of p) (run_of (decode s)) ≡ g ∷ gs) where
  one : (s : List ℕ) → 1 ≤ length s → take 1 s ≡ get_or s 0 0 ∷ []
  one [] h = absurd (omega arith)
  one (a ∷ s) h = refl

  two : (s : List ℕ) → 2 ≤ length s → take 2 s ≡ get_or s 0 0 ∷ get_or s 1 0 ∷ []
  two [] h = absurd (omega arith)
  two (a ∷ []) h = absurd (omega arith)
  two (a ∷ b ∷ s) h = refl

  room : length (bytes_of g) ≤ length s
  room = omega (arith, cluster_length (profile_of p) s g gs e, run_fits s)

  control_low : (v : ℕ) → (leb v 0x1F || eqb v 0x7F) ≡ true → (v < 0x80) × (printable v ≡ false)
  control_low v e =
      or_T (leb v 0x1F) (eqb v 0x7F) (true_T e)
      (λ t. let h : v ≤ 0x1F = leb→le v 0x1F t in (omega arith, rw (lt-leb 0x20 v (omega arith)) refl))
      (λ t. let h : v ≡ 0x7F = eqb→eq v 0x7F t in (omega arith, rw h refl))

  control_none : (eqb (length (bytes_of g)) 1 && (leb (get_or s 0 0) 0x1F || eqb (get_or s 0 0) 0x7F)) ≡ true → width_of (profile_of p) g ≡ 0
  control_none h =
      let q = and_T (eqb (length (bytes_of g)) 1) _ (true_T h) in
      let n : length (bytes_of g) ≡ 1 = eqb→eq _ _ q.0 in
      let r : run_of (decode (get_or s 0 0 ∷ [])) ≡ g = ap (λ (l : List ℕ). run_of (decode l)) (sym (one s (omega (arith, n, room))) ∙ ap (λ (k : ℕ). take k s) (sym n)) ∙ cluster_run (profile_of p) s g gs e in
      let l = control_low (get_or s 0 0) (is_true _ q.1) in
      ap (width_of (profile_of p)) (sym r ∙ ascii_run (get_or s 0 0) [] l.0 ∙ ap (λ (t : List Scalar). ascii (get_or s 0 0) ∷ t) run_nil) ∙ control_width (profile_of p) (ascii_classes p) (get_or s 0 0) l.0 l.1

  newline_none : (eqb (length (bytes_of g)) 2 && (eqb (get_or s 0 0) 0x0D && eqb (get_or s 1 0) 0x0A)) ≡ true → width_of (profile_of p) g ≡ 0
  newline_none h =
      let q = and_T (eqb (length (bytes_of g)) 2) _ (true_T h) in
      let w = and_T (eqb (get_or s 0 0) 0x0D) _ q.1 in
      let n : length (bytes_of g) ≡ 2 = eqb→eq _ _ q.0 in
      let r : run_of (decode (get_or s 0 0 ∷ get_or s 1 0 ∷ [])) ≡ g = ap (λ (l : List ℕ). run_of (decode l)) (sym (two s (omega (arith, n, room))) ∙ ap (λ (k : ℕ). take k s) (sym n)) ∙ cluster_run (profile_of p) s g gs e in
      let k : run_of (decode (0x0D ∷ 0x0A ∷ [])) ≡ ascii 0x0D ∷ ascii 0x0A ∷ [] = rw (ascii_run 0x0D (0x0A ∷ []) (omega arith), ascii_run 0x0A [] (omega arith), run_nil) refl in
      ap (width_of (profile_of p)) (sym r ∙ rw (eqb→eq (get_or s 0 0) 0x0D w.0, eqb→eq (get_or s 1 0) 0x0A w.1) k) ∙ newline_width (profile_of p) (ascii_classes p)

  pub plain_width : plain_cluster (profile_of p) g ≡ not (eqb (width_of (profile_of p) g) 0)
  unfolding plain_bytes
  plain_width =
      plain_bytes_law (profile_of p) s g gs e
      ∙ cases (eqb (length (bytes_of g)) 1 && (leb (get_or s 0 0) 0x1F || eqb (get_or s 0 0) 0x7F))
      (λ h. rw (h, control_none h))
      (λ h. cases (eqb (length (bytes_of g)) 2 && (eqb (get_or s 0 0) 0x0D && eqb (get_or s 1 0) 0x0A))
      (λ k. rw (h, k, newline_none k))
      (λ k. rw (h, k)))

-- ---- the head of a span, by branches

-- the same chain as `head_bytes`, where no sequence begins at an ESC
unfoldable pub head_of : ℕ → ℕ → ℕ → SpanHead
head_of n a b =
    cond (eqb n 1)
    (cond (eqb a 0x0A) (a_head kind.Lf 1) (cond (eqb a 0x09) (a_head kind.Tab 1) (cond (leb a 0x1F || eqb a 0x7F) (a_head kind.Control 1) (a_head kind.Unprintable 1))))
    (cond (eqb n 2 && (eqb a 0x0D && eqb b 0x0A)) (a_head kind.CrLf 2) (a_head kind.Unprintable n))

heads_same : (n a b : ℕ) → head_of n a b ≡ head_bytes n a b missing
unfolding head_of head_bytes escape_head sequence_of
heads_same n a b = cases (eqb a 0x1B) (λ e. rw (eqb-true a 0x1B e)) (λ e. rw e)

pub head_is : (n a b x y : ℕ) (z : SpanHead) → a ≡ x → b ≡ y → z ≡ head_of n a b → z ≡ head_bytes n x y missing
head_is n a b x y z e q p = p ∙ heads_same n a b ∙ rw (e, q)
