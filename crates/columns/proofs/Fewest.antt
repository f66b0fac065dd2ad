-- U14, proved for any profile and any count of Unprintable spans.
use Rattle.std.specs.Prelude.{◌≡◌, ◌≢◌, length, ltb}
use Rattle.std.proofs.Math.Path.{refl, sym, ap}
use Rattle.std.proofs.Common.{◌∙◌, subst}
use Prim.Native.Nat.{ℕ, ◌+◌, ◌-◌, ◌≤◌}
use native.Mathlib.Omega.{arith}
use Rattle.std.proofs.Math.Bool.{false}
use mathlib.Core.List.{List, [], ◌∷◌, ◌++◌, reverse, reverse_aux, append_assoc}
use Rattle.std.proofs.Math.Option.{Option}
use Rattle.std.proofs.lemmas.List.{length-reverse}
use Rattle.text.specs.Tests.{both}
use Rattle.text.specs.Each.{All, all_nil, all_cons, all_map}
use Rattle.text.specs.Utf8.{Scalar}
use Rattle.text.specs.Class.{Profile}
use Rattle.text.specs.Width.{width_of, profile01}
use Rattle.text.specs.Cluster.{clusters}
use Rattle.spans.specs.Spans.{Content, text, control, invalid, unprintable, escape, tab, crlf, lf, Span}
use Rattle.rows.specs.Rows.{Row, row, Wrap, wrap, unbroken, by_clusters, split_text, split, splits, last_row, wrapped, eight, rows, EndToEnd}
use Rattle.columns.specs.Columns.{span_columns, last_column_from}
use Rattle.columns.specs.Columns.Wrapping.{total, widths, widths_total, EachEnd, TextEnds, Stops, Run, last, next, run_ends, wrapped_run}
use Rattle.columns.specs.Fewest.{units_of, units, Between, front, behind, Cutting, Fewest, FewestRows}
use Rattle.columns.specs.Fewest.Greedy.{Cuts, finished, taken, Narrow, taking, greedy}

total_append : (a b : List ℕ) → total (a ++ b) ≡ total a + total b
unfolding total
total_append [] b = omega arith
total_append (u ∷ a) b = omega (arith, total_append a b)

between_front : (ds us : List ℕ) → Between (total ds) (ds ++ us)
unfolding total
between_front [] us = front
between_front (d ∷ ds) us = behind (between_front ds us)

-- ---- mode 1's rows are none wider than the width

module _ (width : ℕ) where
  narrow_last : (done : List Row) (s p : ℕ) → p - s ≤ width → Narrow width done → Narrow width (last_row s p done)
  unfolding last_row
  narrow_last [] s p h f = all_cons h f
  narrow_last (r ∷ rs) s p h f = both (Narrow width) (ltb s p) (all_cons h f) f

  narrow_taken : (us : List ℕ) (done : List Row) (s p : ℕ) → s ≤ p → p ≤ s + width → All (λ (u : ℕ). u ≤ width) us → Narrow width done → Narrow width (finished (taken width (wrap done s p) us))
  unfolding taken
  narrow_taken [] done s p h k small f = narrow_last done s p (omega arith) f
  narrow_taken (u ∷ us) done s p h k (all_cons q small) f =
      taking width (λ (t : Wrap). Narrow width (finished (taken width t us))) done s p u h
      (λ l. narrow_taken us done s (p + u) (omega arith) l small f)
      (λ l. narrow_taken us (row s p ∷ done) p (p + u) (omega arith) (omega arith) small (all_cons (omega arith) f))

narrow_turned : (width : ℕ) {rs qs : List Row} → Narrow width rs → Narrow width qs → Narrow width (reverse_aux rs qs)
narrow_turned width all_nil f = f
narrow_turned width (all_cons h e) f = narrow_turned width e (all_cons h f)

module _ (P : Profile) (count : List Scalar → ℕ) where
  -- ---- and those of units taken one after the other

  module _ (width : ℕ) where
    taken_append : (us vs : List ℕ) (t : Wrap) → taken width t (us ++ vs) ≡ taken width (taken width t us) vs
    unfolding taken
    taken_append [] vs t = refl
    taken_append (u ∷ us) vs t = taken_append us vs (unbroken width t u)

    by_clusters_taken : (gs : List (List Scalar)) (t : Wrap) → by_clusters P width t gs ≡ taken width t (widths P gs)
    unfolding by_clusters taken
    by_clusters_taken [] t = refl
    by_clusters_taken (g ∷ gs) t = by_clusters_taken gs (unbroken width t (width_of P g))

    split_taken : (c : Content) (t : Wrap) → (c ≢ tab) → split P count width false t c ≡ taken width t (units_of P count c)
    unfolding split split_text units_of taken
    split_taken (text m s) t h = by_clusters_taken (clusters P s) t
    split_taken (control b) t h = refl
    split_taken (invalid b) t h = refl
    split_taken (unprintable s) t h = refl
    split_taken (escape e) t h = refl
    split_taken tab t h = absurd (h refl)
    split_taken crlf t h = refl
    split_taken lf t h = refl

    splits_taken : {ss : List Span} (t : Wrap) → All (λ (s : Span). s.content ≢ tab) ss → splits P count width false t ss ≡ taken width t (units P count ss)
    unfolding splits units taken
    splits_taken t all_nil = refl
    splits_taken t (all_cons {a = s} {s = ss} h e) =
        splits_taken (split P count width false t s.content) e ∙ ap (λ (x : Wrap). taken width x (units P count ss)) (split_taken s.content t h)
        ∙ sym (taken_append (units_of P count s.content) (units P count ss) t)

  -- ---- they run end to end, and are cut between units

  units_total : (c : Content) (p : ℕ) → (c ≢ tab) → total (units_of P count c) ≡ span_columns P count p c
  unfolding units_of span_columns total
  units_total (text m s) p h = widths_total P s
  units_total (control b) p h = refl
  units_total (invalid b) p h = refl
  units_total (unprintable s) p h = omega arith
  units_total (escape e) p h = refl
  units_total tab p h = absurd (h refl)
  units_total crlf p h = refl
  units_total lf p h = refl

  last_total : {ss : List Span} (p : ℕ) → All (λ (s : Span). s.content ≢ tab) ss → last_column_from P count p ss ≡ p + total (units P count ss)
  unfolding last_column_from units total
  last_total p all_nil = omega arith
  last_total p (all_cons {a = s} {s = ss} h e) =
      last_total (p + span_columns P count p s.content) e ∙ omega (arith, units_total s.content p h, total_append (units_of P count s.content) (units P count ss))

  -- the units of a line, those of ds first
  module _ (all : List ℕ) where
    abbrev F : ℕ → Type 0
    F c = Between c all

    further : (ds us vs : List ℕ) → all ≡ ds ++ (us ++ vs) → all ≡ (ds ++ us) ++ vs
    further ds us vs e = e ∙ sym (append_assoc ds us vs)

    here : (ds us : List ℕ) (p : ℕ) → all ≡ ds ++ us → p ≡ total ds → F p
    here ds us p e h = rw (e, h) (between_front ds us)

    beyond : (ds us : List ℕ) (p n : ℕ) → p ≡ total ds → total us ≡ n → p + n ≡ total (ds ++ us)
    beyond ds us p n h k = omega (arith, total_append ds us)

    each_end : (us ds vs : List ℕ) (p : ℕ) → all ≡ ds ++ (us ++ vs) → p ≡ total ds → EachEnd F p us
    unfolding EachEnd total
    each_end [] ds vs p e h = tt
    each_end (u ∷ us) ds vs p e h =
        let f = further ds (u ∷ []) (us ++ vs) e in
        let k = beyond ds (u ∷ []) p u h (omega arith) in
        (here (ds ++ u ∷ []) (us ++ vs) (p + u) f k, each_end us (ds ++ u ∷ []) vs (p + u) f k)

    stops : {ss : List Span} (ds : List ℕ) (p : ℕ) → All (λ (s : Span). s.content ≢ tab) ss → all ≡ ds ++ units P count ss → p ≡ total ds → Stops F P count false p ss
    unfolding Stops units units_of TextEnds
    stops ds p all_nil e h = tt
    stops ds p (all_cons {a = s} {s = ss} n a) e h =
        let us : List ℕ = units_of P count s.content in
        let f = further ds us (units P count ss) e in
        let k = beyond ds us p (span_columns P count p s.content) h (units_total s.content p n) in (
          λ (m : Option ℕ) (x : List Scalar) c. each_end (widths P (clusters P x)) ds (units P count ss) p (rw c at e) h,
          here (ds ++ us) (units P count ss) (p + span_columns P count p s.content) f k,
          stops (ds ++ us) (p + span_columns P count p s.content) a f k,
        )

  run_cuts : {us : List ℕ} {a z : ℕ} {rs : List Row} → Run (λ (c : ℕ). Between c us) a z rs → All (λ (r : Row). Between r.end us) rs
  run_cuts (last h f g) = all_cons g all_nil
  run_cuts (next h f g r) = all_cons g (run_cuts r)

  -- ---- the theorem

  module _ (width : ℕ) (ss : List Span) (plain : All (λ (s : Span). s.content ≢ tab) ss) (small : All (λ (u : ℕ). u ≤ width) (units P count ss)) where
    abbrev us : List ℕ
    us = units P count ss

    rows_are : wrapped P count width false ss ≡ reverse (finished (taken width (wrap [] 0 0) us))
    unfolding wrapped
    rows_are = ap (λ (t : Wrap). reverse (finished t)) (splits_taken width (wrap [] 0 0) plain)

    start : 0 ≡ total []
    unfolding total
    start = refl

    run : Run (λ (c : ℕ). Between c us) 0 (total us) (wrapped P count width false ss)
    run =
        subst (λ (n : ℕ). Run (λ (c : ℕ). Between c us) 0 n (wrapped P count width false ss)) (last_total 0 plain ∙ omega arith)
        (wrapped_run (λ (c : ℕ). Between c us) P count width false ss front (stops us [] 0 plain refl start))

    fewer : {rs : List Row} → Cutting width us rs → length (wrapped P count width false ss) ≤ length rs
    fewer {rs} c =
        let n : length (wrapped P count width false ss) ≡ length (finished (taken width (wrap [] 0 0) us)) = ap (λ (l : List Row). length l) rows_are ∙ length-reverse (finished (taken width (wrap [] 0 0) us)) in
        let e : EndToEnd 0 (0 + total us) rs = subst (λ (m : ℕ). EndToEnd 0 m rs) (omega arith) c.run in
        let cs : Cuts 0 us rs = all_map (λ (r : Row) (b : Between r.end us) (_ : 0 ≤ r.end). subst (λ (m : ℕ). Between m us) (let q : r.end ≡ r.end - 0 = omega arith in q) b) c.cuts in
        omega (arith, n, greedy width us [] 0 0 0 (omega arith) (omega arith) (omega arith) small e cs c.narrow)

    pub fewest : Fewest width us (wrapped P count width false ss)
    fewest = record {
      one = record {
        run = run_ends (λ (c : ℕ). Between c us) run;
        cuts = run_cuts run;
        narrow = subst (Narrow width) (sym rows_are) (narrow_turned width (narrow_taken width us [] 0 0 (omega arith) (omega arith) small all_nil) all_nil);
      };
      least = λ rs c. fewer c;
    }

pub fewest_rows : (P : Profile) → FewestRows P
unfolding rows
fewest_rows P width ss plain small = fewest P eight width ss plain small

pub fewest_rows01 : FewestRows profile01
fewest_rows01 = fewest_rows profile01
