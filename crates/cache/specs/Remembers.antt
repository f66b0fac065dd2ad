-- What kept wraps remember (document 02, U6), of any calls on one line, starting with none kept and nothing else writing them.
-- The statement; its proof is in Remembers/.
use Rattle.std.specs.Prelude.{ℕ, Bool, false, cond, ◌&&◌, ◌≡◌, length, take, eqb}
use Rattle.std.proofs.Math.Bool.{not}
use mathlib.Core.List.{List, [], ◌∷◌, map}
use Rattle.std.proofs.Math.Dec.{leb}
use Rattle.text.specs.Class.{Profile}
use Rattle.spans.specs.Calls.{Read}
use Rattle.rows.specs.Calls.{Wrapped, rows_call, height_call}
use Rattle.cache.specs.Wraps.{Key, key, same_key, key_of, kept}
use Rattle.cache.specs.Calls.{CachedRows, CachedHeight, cached_rows_call, cached_height_call}
pub mod Keys
pub mod Proof
pub mod Examples

-- a call: the sizes of the memory lent to it, the width and the mode
pub data Call : Type 0 where
  rows : (conv places numbers width mode : ℕ) → Call
  height : (conv places width mode : ℕ) → Call

unfoldable pub key_used : Call → Key
key_used (rows conv places numbers width mode) = key 0 width mode
key_used (height conv places width mode) = key 0 width mode

unfoldable pub unwrapped_height : Call → Bool
unwrapped_height (rows conv places numbers width mode) = false
unwrapped_height (height conv places width mode) = eqb mode 0

unfoldable pub without_key : Key → List Key → List Key
without_key k [] = []
without_key k (j ∷ js) = let further : List Key = without_key k js in cond (same_key k j) further (j ∷ further)

-- each key once, where it stands first
unfoldable pub different : List Key → List Key
unfolding without_key
different [] = []
different (k ∷ ks) = k ∷ without_key k (different ks)

abbrev from_read : Read → Wrapped
from_read a = record { number = a.number; count = a.count; conv = a.conv; spans = a.spans; rows = [] }

-- an array that keeps none, whatever its numbers
pub record NoneKept (wraps : List ℕ) : Type 0 where
  pub size : length wraps ≡ 8212
  pub none : kept wraps ≡ []

module _ (P : Profile) (line : List ℕ) where
  -- the answer of a line never asked before
  unfoldable pub answer : Call → Wrapped
  unfolding rows_call height_call
  answer (rows conv places numbers width mode) = rows_call P conv places numbers width mode line
  answer (height conv places width mode) = from_read (height_call P conv places width mode line)

  -- the answer where these wraps are kept, and what it leaves of them
  unfoldable pub cached : List ℕ → Call → CachedRows
  unfolding cached_rows_call cached_height_call
  cached wraps (rows conv places numbers width mode) = cached_rows_call P wraps conv places numbers width mode line
  cached wraps (height conv places width mode) =
      let c : CachedHeight = cached_height_call P wraps conv places width mode line in record { answer = from_read c.answer; wraps = c.wraps }

  -- a use of a wrap that can be kept: not Unwrapped height, not refused, of at most 1,024 rows
  unfoldable pub is_use : Call → Bool
  unfolding answer unwrapped_height
  is_use c = let a : Wrapped = answer c in not (unwrapped_height c) && (eqb a.number 0 && leb a.count 1024)

  -- the keys used by calls in turn, the last first, behind others
  unfoldable pub used_from : List Key → List Call → List Key
  unfolding is_use key_used
  used_from ks [] = ks
  used_from ks (c ∷ cs) = used_from (cond (is_use c) (key_used c ∷ ks) ks) cs

  -- the wraps that calls in turn leave
  unfoldable pub wraps_from : List ℕ → List Call → List ℕ
  unfolding cached
  wraps_from wraps [] = wraps
  wraps_from wraps (c ∷ cs) = wraps_from (cached wraps c).wraps cs

-- from an array that keeps none, after any calls: the next one is answered as by a line never asked before, and those kept are the last four
-- different keys used, in order of use
pub record Remembers (P : Profile) (line wraps : List ℕ) (cs : List Call) : Type 0 where
  pub answers : (c : Call) → (cached P line (wraps_from P line wraps cs) c).answer ≡ answer P line c
  pub keys : map key_of (kept (wraps_from P line wraps cs)) ≡ take 4 (different (used_from P line [] cs))
