-- What the contracts of src/records.rt say: the head of the record at a place.
use Rattle.std.specs.Prelude.{◌≡◌, ◌⊎◌, ℕ, ◌+◌, ◌<◌, ◌≤◌, List, length, take, drop, leb}
use Rattle.screen.specs.Records.{little_endian, Record}
use Rattle.screen.specs.declared.records.Head.{Head}

-- a length of n bytes and a kind of 2
unfoldable pub head_at : ℕ → List ℕ → ℕ → Head
unfolding little_endian
head_at n list at =
    let size : ℕ = little_endian (take n (drop at list)) in
    record { kind = little_endian (take 2 (drop (at + n) list)); start = at + n + 2; len = size; whole = leb (at + n + 2 + size) (length list) }

-- the record that a head begins
abbrev pub record_of : List ℕ → Head → Record
record_of list h = record { whole = h.whole; kind = h.kind; body = take h.len (drop h.start list) }

-- a length has 2 bytes or 4
abbrev pub LengthSize : ℕ → Type 0
LengthSize n = (n ≡ 2) ⊎ (n ≡ 4)

-- a place in the list, and the size of a length
pub record HeadReady (list : List ℕ) (at size : ℕ) : Type 0 where
  pub inside : at < length list
  pub sizes : LengthSize size
  pub small : size ≤ 4
