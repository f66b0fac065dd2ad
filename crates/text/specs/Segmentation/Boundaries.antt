-- Scalars below 80 and the rules: which join nothing before them or behind them; a byte below 80, LF apart, begins a cluster wherever it stands in a run.
use Rattle.std.specs.Prelude.{◌≡◌, ℕ, ◌+◌, ◌<◌, Bool, true, false, not, ◌||◌, ◌≢◌, eqb, ltb, length, get_or, drop}
use Rattle.std.proofs.Math.Path.{refl}
use Rattle.std.proofs.Common.{sym, ap, ◌∙◌, ltb→lt}
use Rattle.std.proofs.Math.Bool.{and-false}
use mathlib.Core.List.{List, [], ◌∷◌, ◌++◌}
use borrow.Author.Tests.{eqb-true, eqb-false, ne_eqb, not-true}
use Rattle.text.specs.Tests.{cases, and_T, is_true, true_T}
use Rattle.text.specs.Utf8.{Scalar, decode, run_of, bytes_of}
use Rattle.text.specs.Utf8.Ascii.{Split, ascii_splits}
use Rattle.text.specs.Utf8.Runs.{run_rest, run_length}
use Rattle.text.specs.Class.{Profile, cr, control, other, number, among}
use Rattle.text.specs.Class.Laws.{alone_or_lf}
use Rattle.text.specs.Class.Ascii.{AsciiClasses, c0_class}
use Rattle.text.specs.Class.Code.{printable}
use Rattle.text.specs.Cluster.{Context, joined, joins, context, clusters, join_all}
use Rattle.text.specs.Cluster.Ascii.{after_control}
use Rattle.text.specs.Cluster.Appended.{clusters_split}
use Rattle.text.specs.Cluster.Laws.{clusters_all}
use Rattle.text.specs.Segmentation.{never_joins_before}

-- classes that join nothing before them
abbrev pub alone : ℕ → Bool
alone c = among c (cr ∷ control ∷ other ∷ [])

pub alone_numbers : (p : ℕ) (k : Context) (c : ℕ) → alone c ≡ true → joined p k c ≡ false
unfolding joined among number
alone_numbers p k c g =
    cases (eqb p 2 || (eqb p 0 || eqb p 1))
    (λ e.
    cases (eqb c 0) (λ d. rw (eqb-true c 0 d, and-false (eqb p 0), e) refl)
    (λ d₀. cases (eqb c 2) (λ d. rw (eqb-true c 2 d, and-false (eqb p 0), e) refl)
    (λ d₂. let y : c ≡ 11 = eqb-true c 11 (rw (d₀, d₂) at g) in rw (y, and-false (eqb p 0), e) refl)))
    (λ e.
    cases (eqb c 0) (λ d. rw (eqb-true c 0 d, and-false (eqb p 0), e) refl)
    (λ d₀. cases (eqb c 2) (λ d. rw (eqb-true c 2 d, and-false (eqb p 0), e) refl)
    (λ d₂. let y : c ≡ 11 = eqb-true c 11 (rw (d₀, d₂) at g) in
    rw (y, and-false (eqb p 0), e, and-false (eqb p 5), and-false (eqb p 8 || eqb p 6), and-false (eqb p 9 || eqb p 7), and-false k.emoji_zwj, and-false k.odd) refl)))

pub other_alone : alone 11 ≡ true
unfolding among number
other_alone = refl

-- LF joins CR alone
pub apart_numbers : (p : ℕ) (k : Context) (c : ℕ) → (p ≢ 0) → alone_or_lf c ≡ true → joined p k c ≡ false
unfolding joined among number
apart_numbers p k c f g =
    cases (eqb c 1)
    (λ e. rw (eqb-true c 1 e, ne_eqb p 0 f) (cases (eqb p 2 || eqb p 1) (λ d. rw d refl) (λ d. rw d refl)))
    (λ e. alone_numbers p k c (rw e at g))

module _ (P : Profile) (a : AsciiClasses P) where
  pub lone : (b : ℕ) → never_joins_before b ≡ true → alone (number (P.class b)) ≡ true
  unfolding among number
  lone b e =
      let q = and_T (ltb b 0x80) (not (eqb b 0x0A)) (true_T e) in
      rw (a.class b (ltb→lt _ _ q.0), not-true (eqb b 0x0A) (is_true _ q.1)) (cases (printable b) (λ p. rw p refl) (λ p. rw p (cases (eqb b 0x0D) (λ c. rw c refl) (λ c. rw c refl))))

  -- CR alone has CR's class
  not_cr : (b : ℕ) → b < 0x80 → b ≢ 0x0D → number (P.class b) ≢ 0
  unfolding number
  not_cr b h n = eqb-false _ _ (rw (a.class b h, ne_eqb b 0x0D n) (cases (printable b) (λ p. rw p refl) (λ p. rw p (cases (eqb b 0x0A) (λ c. rw c refl) (λ c. rw c refl)))))

  -- none of them joins what stands before it, but for LF behind CR
  pub ascii_numbers : (b : ℕ) → b < 0x80 → alone_or_lf (number (P.class b)) ≡ true
  unfolding among number
  ascii_numbers b h = rw (a.class b h) (cases (printable b) (λ p. rw p refl) (λ p. rw p (cases (eqb b 0x0D) (λ c. rw c refl) (λ c. rw c (cases (eqb b 0x0A) (λ d. rw d refl) (λ d. rw d refl))))))

  -- of two bytes below 80, the first not CR, no rule joins the second to the first
  pub apart : (b c : ℕ) (k : Context) → b < 0x80 → c < 0x80 → b ≢ 0x0D → joined (number (P.class b)) k (number (P.class c)) ≡ false
  apart b c k h g n = apart_numbers (number (P.class b)) k (number (P.class c)) (not_cr b h n) (ascii_numbers c g)

  -- nor anything to a control below 20 that is not CR
  pub breaks : (b : ℕ) (k : Context) (c : ℕ) → b < 0x20 → b ≢ 0x0D → joined (number (P.class b)) k c ≡ false
  breaks b k c h n = after_control (number (P.class b)) k c (c0_class P a b h n)

  -- a byte below 80, LF apart, joins nothing before it
  pub lone_joins : (c : Scalar) → never_joins_before c.code ≡ true → (before : List Scalar) → joins P before c ≡ false
  unfolding joins
  lone_joins c e [] = refl
  lone_joins c e (p ∷ ps) = alone_numbers (number (P.class p.code)) (context P (p ∷ ps)) (number (P.class c.code)) (lone c.code e)

pub lone_low : (b : ℕ) → never_joins_before b ≡ true → b < 128
lone_low b e = ltb→lt _ _ (and_T (ltb b 0x80) (not (eqb b 0x0A)) (true_T e)).0

-- the clusters of a run before byte n, the others being those of the run at byte n
pub record Boundary (P : Profile) (s : List ℕ) (n : ℕ) : Type 0 where
  pub before : List (List Scalar)
  pub clusters : clusters P (run_of (decode s)) ≡ before ++ clusters P (run_of (decode (drop n s)))
  pub size : length (bytes_of (join_all before)) ≡ n
  pub run : length (bytes_of (run_of (decode s))) ≡ n + length (bytes_of (run_of (decode (drop n s))))

pub lone_boundary : (P : Profile) → AsciiClasses P → (s : List ℕ) (n : ℕ) → n < length (bytes_of (run_of (decode s))) → never_joins_before (get_or s n 0) ≡ true → Boundary P s n
lone_boundary P a s n h e =
    let w : Split (run_of (decode s)) n (get_or s n 0) = ascii_splits s n h (lone_low (get_or s n 0) e) in
    let r : run_of (decode (drop n s)) ≡ w.here ∷ w.behind = rw w.size at (run_rest s w.before (w.here ∷ w.behind) w.text) in
    let j = lone_joins P a w.here (ap never_joins_before w.code ∙ e) in
    record {
      before = clusters P w.before;
      clusters = ap (clusters P) w.text ∙ clusters_split P w.here w.behind j w.before ∙ ap (λ (t : List Scalar). clusters P w.before ++ clusters P t) (sym r);
      size = ap (λ (t : List Scalar). length (bytes_of t)) (clusters_all P w.before) ∙ w.size;
      run = rw w.size at (run_length s w.before (w.here ∷ w.behind) w.text);
    }
