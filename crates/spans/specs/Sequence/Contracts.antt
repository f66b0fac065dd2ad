-- What the contracts of src/sequence.rt say beyond the definitions.
use Rattle.std.specs.Prelude.{◌≡◌, ℕ, ◌+◌, ◌≤◌, ◌<◌, Bool, not, ◌&&◌, List, length, get_or, eqb, Option, Some, None}
use Rattle.spans.specs.Sequence.{sgr, erase_to_end, ignored, hyperlink, line_drawing, Found, found, missing, past, uri_byte, closed}
use Rattle.spans.specs.declared.sequence.Sequence as code
use Rattle.spans.specs.declared.sequence.Sequence.TheVariants.{EraseToEnd, Ignored, Hyperlink, LineDrawing}
use Rattle.spans.specs.declared.sequence.Sequence.TheVariants as sequence

-- a sequence as the code has it: kind, length and places
unfoldable pub sequence_of : Found → Option code.Sequence
sequence_of missing = None
sequence_of (found (sgr os) n) = Some (sequence.Sgr n)
sequence_of (found erase_to_end n) = Some (EraseToEnd n)
sequence_of (found ignored n) = Some (Ignored n)
sequence_of (found (hyperlink p k) n) = Some (Hyperlink p k n)
sequence_of (found (line_drawing b) n) = Some (LineDrawing b n)

pub sequence_link : (f : Found) (p n k : ℕ) → sequence_of f ≡ Some (Hyperlink p n k) → f ≡ found (hyperlink p n) k
unfolding sequence_of
sequence_link missing p n k e = cc
sequence_link (found (hyperlink a m) j) p n k e = cc
sequence_link (found (sgr os) j) p n k e = cc
sequence_link (found erase_to_end j) p n k e = cc
sequence_link (found ignored j) p n k e = cc
sequence_link (found (line_drawing b) j) p n k e = cc

-- past the bytes that pass the test
pub record Skipped (p : ℕ → Bool) (s : List ℕ) (at r : ℕ) : Type 0 where
  pub len : r ≡ past p s at
  pub up : at ≤ r
  pub low : r ≤ at + length s

-- a byte of a URI other than `stop`; that before a URI's `;` is one but `;`, and 7F is none
abbrev pub uri_byte_but : ℕ → ℕ → Bool
uri_byte_but stop b = uri_byte b && not (eqb b stop)

-- behind `ESC ]`: a URI at m
unfoldable pub uri_at : List ℕ → ℕ → Found
unfolding past closed
uri_at s m = let e : ℕ = past uri_byte s m in closed m e (get_or s e 0) (get_or s (e + 1) 0)

-- a URI from m to e
pub record Within (m e : ℕ) : Type 0 where
  pub ordered : m ≤ e
  pub small : e ≤ 262144

pub record UriReady (s : List ℕ) (m : ℕ) : Type 0 where
  pub small : length s ≤ 65536
  pub near : m ≤ 3 + length s

-- a run of a line ends at `end`, behind the place `at`
pub record SequenceReady (s : List ℕ) (at end : ℕ) : Type 0 where
  pub first : at < end
  pub last : end ≤ length s
  pub small : length s ≤ 65536
