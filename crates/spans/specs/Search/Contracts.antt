-- What the contracts of src/search.rt say beyond the definitions.
use Rattle.std.specs.Prelude.{◌≡◌, ℕ, ◌+◌, ◌-◌, ◌≤◌, ◌<◌, Bool, cond, ◌&&◌, List, [], ◌∷◌, length, drop, leb, ltb, Option, Some, None, MatchOption, IfSome}
use Rattle.spans.specs.Search.{EscapeRange, escape_range, escape_match, escapes_from, length_of, offset_from}
use Rattle.spans.specs.declared.search.Escape.{Escape}
use Rattle.spans.specs.declared.search.Offsets.{Offsets}
use Rattle.spans.specs.declared.search.Offset.{Offset}

-- the length of the ESCAPE_SEQUENCE match that the bytes begin with
abbrev pub EscapeMatched : List ℕ → Option ℕ → Type 0
EscapeMatched s r = MatchOption r (escape_match s ≡ 0) (λ n. (escape_match s ≡ n) × (1 ≤ n) × (n ≤ length s))

-- the matches from a place on
abbrev pub escapes_at : List ℕ → ℕ → List EscapeRange
escapes_at s at = escapes_from at 0 (drop at s)

unfoldable pub escapes_of : List ℕ → Option Escape → List EscapeRange
unfolding escapes_from
escapes_of s None = []
escapes_of s (Some e) = escape_range e.from e.upto ∷ escapes_at s e.upto

-- the first of some matches
unfoldable pub escape_of : List EscapeRange → Option Escape
escape_of [] = None
escape_of (r ∷ rs) = Some (record { from = r.from; upto = r.upto })

-- a match lies where it was looked for
pub record EscapeInside (s : List ℕ) (at : ℕ) (e : Escape) : Type 0 where
  pub low : at ≤ e.from
  pub some : e.from < e.upto
  pub inside : e.upto ≤ length s

-- so does the one that was found, if any
abbrev pub EscapeLies : List ℕ → ℕ → Option Escape → Type 0
EscapeLies s at r = IfSome r (EscapeInside s at)

pub record NextEscape (s : List ℕ) (at : ℕ) (e : Option Escape) : Type 0 where
  pub exact : e ≡ escape_of (escapes_at s at)
  pub same : escapes_of s e ≡ escapes_at s at
  pub lies : EscapeLies s at e

pub record EscapesLength (s : List ℕ) (r : ℕ) : Type 0 where
  pub same : r ≡ length_of (escapes_from 0 0 s)
  pub fits : r ≤ length s

abbrev pub pair_in_order : ℕ → ℕ → ℕ → ℕ → Bool
pair_in_order e a b most = leb e a && (leb a b && leb b most)

-- convert_offset of x, read on from o
unfoldable pub offset_on : List ℕ → Offsets → ℕ → ℕ
unfolding offset_from escapes_of
offset_on s o x = offset_from o.origin (x - o.passed) (escapes_of s o.next)

-- where convert_offset stands at x: as `offset_from`, with `passed` bytes of the text searched before the origin
unfoldable pub offsets_from : (origin passed x : ℕ) → List EscapeRange → Offsets
unfolding escape_of
offsets_from origin passed x [] = record { origin = origin; passed = passed; next = escape_of [] }
offsets_from origin passed x (e ∷ es) =
    let further : Offsets = offsets_from e.upto (passed + (e.from - origin)) x es in
    cond (ltb (origin + (x - passed)) e.from) (record { origin = origin; passed = passed; next = escape_of (e ∷ es) }) further

-- read on from o
unfoldable pub offsets_on : List ℕ → Offsets → ℕ → Offsets
unfolding offsets_from escapes_of
offsets_on s o x = offsets_from o.origin o.passed x (escapes_of s o.next)

-- o gives the offsets from `last` on as the beginning does
pub record OffsetsFrom (s : List ℕ) (last : ℕ) (o : Offsets) : Type 0 where
  pub same : (x : ℕ) → last ≤ x → offset_on s o x ≡ offset_from 0 x (escapes_from 0 0 s)
  pub passed : o.passed ≤ last
  pub inside : o.origin ≤ length s
  pub lies : EscapeLies s o.origin o.next
  pub next : o.next ≡ escape_of (escapes_of s o.next)

pub record FirstOffsets (s : List ℕ) (r : Offsets) : Type 0 where
  pub exact : r ≡ record { origin = 0; passed = 0; next = escape_of (escapes_from 0 0 s) }
  pub from : OffsetsFrom s 0 r

pub record OffsetReady (s : List ℕ) (o : Offsets) (x : ℕ) : Type 0 where
  pub from : OffsetsFrom s x o
  pub small : length s ≤ 65536
  pub near : x ≤ 65536

pub record OffsetAt (s : List ℕ) (o : Offsets) (x : ℕ) (r : Offset) : Type 0 where
  pub same : r.value ≡ offset_from 0 x (escapes_from 0 0 s)
  pub near : r.value ≤ length s + x
  pub exact : r.offsets ≡ offsets_on s o x
  pub from : OffsetsFrom s x r.offsets
