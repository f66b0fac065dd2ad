-- The calls `cached_rows` and `cached_height` (document 02, U6): `rows` and `height` with kept wraps lent.
use Prim.Native.Nat.{ℕ, zero, suc, ◌*◌}
use Rattle.std.specs.Prelude.{cond, length, eqb, leb}
use mathlib.Core.List.{List, [], ◌∷◌}
use Rattle.std.proofs.Math.Option.{Option, none, some}
use Rattle.text.specs.Class.{Profile}
use Rattle.text.specs.Overstrike.{convert}
use Rattle.text.specs.Calls.{ask, decide, lent, counted, question1, question2}
use Rattle.spans.specs.Spans.{Span, spans, records}
use Rattle.spans.specs.Calls.{Read, question4, no_record}
use Rattle.rows.specs.Rows.{Row, rows}
use Rattle.rows.specs.Calls.{mode_of, mode_and_width, numbers_of, Wrapped}
use Rattle.cache.specs.Wraps.{Key, key, kept, find, kept_numbers, after_use, with_wrap}
use Rattle.cache.specs.declared.wraps.Head.{Head}
pub mod Contracts

-- a wrap as a call answers it: the number of its rows, and start and end of each
pub record Wrap : Type 0 where
  pub count : ℕ
  pub numbers : List ℕ

-- a kept key is answered from what is kept
unfoldable pub wrap_for : List ℕ → Option Head → List Row → Wrap
unfolding numbers_of
wrap_for wraps none rs = record { count = length rs; numbers = numbers_of rs }
wrap_for wraps (some h) rs = record { count = h.count; numbers = kept_numbers wraps h }

-- what the use of a key leaves
unfoldable pub wraps_after : List ℕ → Key → Option Head → Wrap → List ℕ
unfolding kept after_use with_wrap
wraps_after wraps k none w = with_wrap wraps (kept wraps) k w.count w.numbers
wraps_after wraps k (some h) w = after_use wraps (kept wraps) h

-- a refusal alters nothing
unfoldable pub unless_refused : ℕ → List ℕ → List ℕ → List ℕ
unless_refused zero after wraps = after
unless_refused (suc r) after wraps = wraps

-- what the calls return and leave
pub record CachedRows : Type 0 where
  pub answer : Wrapped
  pub wraps : List ℕ

pub record CachedHeight : Type 0 where
  pub answer : Read
  pub wraps : List ℕ

module _ (P : Profile) where
  -- the call `cached_rows`, lent these wraps, a buffer of conv bytes, a list of `places` records and a list of `numbers` numbers
  unfoldable pub cached_rows_call : (wraps : List ℕ) (conv places numbers width mode : ℕ) (line : List ℕ) → CachedRows
  unfolding decide lent counted convert spans records rows mode_of kept find wrap_for wraps_after unless_refused
  cached_rows_call wraps conv places numbers width mode line =
      let s : List ℕ = convert P line in
      let ss : List Span = spans P s in
      let found : Option Head = find (key 0 width mode) (kept wraps) in
      let w : Wrap = wrap_for wraps found (rows P width (mode_of mode) ss) in
      let r : ℕ = decide (question1 line ∷ question2 conv line ∷ question4 places ss ∷ ask 5 (mode_and_width mode width) ∷ ask 6 (leb (2 * w.count) numbers) ∷ []) in
      record {
        answer = record { number = r; count = counted w.count r; conv = lent 0 conv s r; spans = lent no_record places (records ss) r; rows = lent 0 numbers w.numbers r };
        wraps = unless_refused r (wraps_after wraps (key 0 width mode) found w) wraps;
      }

  -- the call `cached_height`; Unwrapped height, always 1, is no use
  unfoldable pub cached_height_call : (wraps : List ℕ) (conv places width mode : ℕ) (line : List ℕ) → CachedHeight
  unfolding decide lent counted convert spans records rows mode_of kept find wrap_for wraps_after unless_refused
  cached_height_call wraps conv places width mode line =
      let s : List ℕ = convert P line in
      let ss : List Span = spans P s in
      let found : Option Head = find (key 0 width mode) (kept wraps) in
      let w : Wrap = wrap_for wraps found (rows P width (mode_of mode) ss) in
      let r : ℕ = decide (question1 line ∷ question2 conv line ∷ question4 places ss ∷ ask 5 (mode_and_width mode width) ∷ []) in
      record {
        answer = record { number = r; count = counted (cond (eqb mode 0) 1 w.count) r; conv = lent 0 conv s r; spans = lent no_record places (records ss) r };
        wraps = unless_refused r (cond (eqb mode 0) wraps (wraps_after wraps (key 0 width mode) found w)) wraps;
      }
