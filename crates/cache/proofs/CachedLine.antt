-- A request answered and remembered; the two calls by it.
use mathlib.Core.Path.{◌≡◌, refl, sym, ap, ◌∙◌}
use Prim.Native.Nat.{ℕ}
use mathlib.Core.List.{List, []}
use lib.ListN.{length}
use Rattle.text.specs.Width.{profile01}
use Rattle.text.specs.declared.Answer.{Answer}
use Rattle.spans.specs.Spans.{Record}
use Rattle.rows.specs.Calls.{Wrapped}
use Rattle.rows.specs.Calls.Contracts.{wrapped_as, answered}
use Rattle.rows.specs.declared.Request.{Request}
use Rattle.cache.specs.Wraps.{key}
use Rattle.cache.specs.Calls.{cached_rows_call, cached_height_call}
use Rattle.cache.specs.Calls.Contracts.{rows_request, height_request, cached_rows_as, cached_height_as, RememberReady, Remembered, CachedLineReady, CachedLine}
use Rattle.cache.proofs.CachedRows.{rows_cached, rows_ready}
use Rattle.cache.proofs.CachedHeight.{height_cached, height_ready}

module _ (q : Request) (size places numbers : ℕ) (line wraps : List ℕ) (a : Answer) (cs : List ℕ) (sps : List Record) (l₁ : List ℕ) where
  abbrev x : Wrapped
  x = answered q size places numbers line

  pub line_ready : CachedLineReady q size places numbers line wraps → length l₁ ≡ numbers → wrapped_as a cs sps l₁ ≡ x → RememberReady (key 0 q.width q.mode) q.listed a.number a.count wraps (length l₁)
  line_ready r m e = rw (m, ap (λ (y : Wrapped). y.number) e, ap (λ (y : Wrapped). y.count) e) r.ready

  pub line_left : (l₂ wraps₂ : List ℕ) → wrapped_as a cs sps l₁ ≡ x → Remembered (key 0 q.width q.mode) q.listed a.number a.count wraps l₁ wraps₂ l₂ → CachedLine q size places numbers line wraps a cs sps l₂ wraps₂
  line_left l₂ wraps₂ e m = record { answer = ap (λ (t : List ℕ). wrapped_as a cs sps t) (sym (ap (λ (y : Wrapped). y.rows) e)) ∙ e; left = rw (← ap (λ (y : Wrapped). y.number) e, ← ap (λ (y : Wrapped). y.count) e, ← ap (λ (y : Wrapped). y.rows) e) m }

-- ---- the calls

module _ (wraps : List ℕ) (size places width mode : ℕ) (line : List ℕ) (long : length wraps ≡ 8212) where
  pub rows_line_ready : (numbers : ℕ) (p : Request) → p ≡ rows_request wraps width mode → CachedLineReady p size places numbers line wraps
  rows_line_ready numbers p e =
      let x : Wrapped = answered (rows_request wraps width mode) size places numbers line in
      rw e (record { ready = rows_ready wraps size places numbers width mode line (record { number = x.number; count = x.count }) x.conv x.spans x.rows [] [] long refl })

  pub rows_line_left : (numbers : ℕ) (p : Request) (a : Answer) (cs : List ℕ) (sps : List Record) (l₂ wraps₂ : List ℕ) → p ≡ rows_request wraps width mode → CachedLine p size places numbers line wraps a cs sps l₂ wraps₂
      → cached_rows_as a cs sps l₂ wraps₂ ≡ cached_rows_call profile01 wraps size places numbers width mode line
  rows_line_left numbers p a cs sps l₂ wraps₂ e c =
      let d : CachedLine (rows_request wraps width mode) size places numbers line wraps a cs sps l₂ wraps₂ = rw e at c in
      rows_cached wraps size places numbers width mode line a cs sps _ l₂ wraps₂ long d.answer (rw (ap (λ (y : Wrapped). y.number) d.answer, ap (λ (y : Wrapped). y.count) d.answer) d.left)

  pub height_line_ready : (p : Request) → p ≡ height_request wraps width mode → CachedLineReady p size places 2048 line wraps
  height_line_ready p e = rw e (record { ready = height_ready (key 0 width mode) _ _ wraps long })

  pub height_line_left : (p : Request) (a : Answer) (cs : List ℕ) (sps : List Record) (l₂ wraps₂ : List ℕ) → p ≡ height_request wraps width mode → CachedLine p size places 2048 line wraps a cs sps l₂ wraps₂
      → cached_height_as a cs sps wraps₂ ≡ cached_height_call profile01 wraps size places width mode line
  height_line_left p a cs sps l₂ wraps₂ e c =
      let d : CachedLine (height_request wraps width mode) size places 2048 line wraps a cs sps l₂ wraps₂ = rw e at c in
      height_cached wraps size places width mode line a cs sps _ l₂ wraps₂ long d.answer (rw (ap (λ (y : Wrapped). y.number) d.answer, ap (λ (y : Wrapped). y.count) d.answer) d.left)
