-- What the contracts of the calls say beyond the definitions.
use Rattle.std.specs.Prelude.{◌≡◌, ℕ, ◌*◌, ◌≤◌, Bool, true, false, cond, not, ◌&&◌, List, length, take, eqb, None}
use Rattle.std.proofs.Math.Option.{some}
use Rattle.text.specs.declared.Answer.{Answer}
use Rattle.spans.specs.Spans.{Record}
use Rattle.spans.specs.Calls.Contracts.{read_as}
use Rattle.rows.specs.Calls.{Wrapped}
use Rattle.rows.specs.Calls.Contracts.{wrapped_as, answered}
use Rattle.rows.specs.declared.Request.{Request}
use Rattle.cache.specs.Wraps.{Key, key, kept, find}
use Rattle.cache.specs.declared.wraps.Head.{Head}
use Rattle.cache.specs.Wraps.Contracts.{kept_rows, listed}
use Rattle.cache.specs.Calls.{wraps_after, unless_refused, CachedRows, CachedHeight}

-- what the calls ask: how many rows are kept, Unwrapped height apart
abbrev pub rows_request : List ℕ → ℕ → ℕ → Request
rows_request wraps width mode = record { width = width; mode = mode; listed = true; known = kept_rows (key 0 width mode) wraps }

abbrev pub height_request : List ℕ → ℕ → ℕ → Request
height_request wraps width mode = record { width = width; mode = mode; listed = false; known = cond (eqb mode 0) None (kept_rows (key 0 width mode) wraps) }

abbrev pub cached_rows_as : Answer → List ℕ → List Record → List ℕ → List ℕ → CachedRows
cached_rows_as a conv spans rows wraps = record { answer = wrapped_as a conv spans rows; wraps = wraps }

abbrev pub cached_height_as : Answer → List ℕ → List Record → List ℕ → CachedHeight
cached_height_as a conv spans wraps = record { answer = read_as a conv spans; wraps = wraps }

-- room in a list of n numbers for the rows of a call that is accepted
pub record RememberReady (k : Key) (lists : Bool) (number count : ℕ) (wraps : List ℕ) (n : ℕ) : Type 0 where
  pub size : length wraps ≡ 8212
  pub room : number ≡ 0 → count ≤ 1024 → 2 * count ≤ n
  pub found : (h : Head) → lists ≡ true → number ≡ 0 → find k (kept wraps) ≡ some h → 2 * h.count ≤ n

-- what a call leaves that was answered so
pub record Remembered (k : Key) (lists : Bool) (number count : ℕ) (wraps rows wraps' rows' : List ℕ) : Type 0 where
  pub left : wraps' ≡ unless_refused number (cond (eqb k.mode 0 && not lists) wraps (wraps_after wraps k (find k (kept wraps)) (record { count = count; numbers = take (2 * count) rows }))) wraps
  pub list : rows' ≡ unless_refused number (listed lists (find k (kept wraps)) wraps rows) rows

-- what a request is answered, and what is remembered of it
pub record CachedLineReady (q : Request) (size places numbers : ℕ) (line wraps : List ℕ) : Type 0 where
  pub ready : let x : Wrapped = answered q size places numbers line in RememberReady (key 0 q.width q.mode) q.listed x.number x.count wraps numbers

pub record CachedLine (q : Request) (size places numbers : ℕ) (line wraps : List ℕ) (a : Answer) (conv : List ℕ) (spans : List Record) (rows wraps' : List ℕ) : Type 0 where
  pub answer : let x : Wrapped = answered q size places numbers line in wrapped_as a conv spans x.rows ≡ x
  pub left : let x : Wrapped = answered q size places numbers line in Remembered (key 0 q.width q.mode) q.listed x.number x.count wraps x.rows wraps' rows
