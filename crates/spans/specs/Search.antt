-- Reading with matches: src/line.rs, Line::new_search; src/search.rs, ESCAPE_SEQUENCE and trim_trailing_newline.
use Prim.Native.Nat.{ℕ, zero, suc, ◌+◌, ◌-◌}
use Rattle.std.specs.Prelude.{Bool, true, false, cond, ◌&&◌, length, take, drop, get_or, eqb, leb, ltb}
use mathlib.Core.List.{List, [], ◌∷◌, ◌++◌}
use Rattle.std.proofs.Math.Option.{Option, none, some}
use Rattle.text.specs.Utf8.{to}
use Rattle.text.specs.Class.{Profile, in_any}
use Rattle.spans.specs.Sequence.{leading}
use Rattle.spans.specs.Spans.{Span, spans_at, spans}
pub mod Contracts

-- ---- ESCAPE_SEQUENCE: ESC [, at most 32 of 0123456789:;[?!"'#%()*+ and space, m

unfoldable pub sequence_byte : ℕ → Bool
unfolding in_any
sequence_byte = in_any (to 0x20 0x23 ∷ to 0x25 0x25 ∷ to 0x27 0x2B ∷ to 0x30 0x3B ∷ to 0x3F 0x3F ∷ to 0x5B 0x5B ∷ [])

-- the length of the match at the start; 0 where there is none
unfoldable pub escape_match : List ℕ → ℕ
unfolding leading sequence_byte
escape_match s =
    let n : ℕ = leading sequence_byte (drop 2 s) in
    cond (eqb (get_or s 0 0) 0x1B && (eqb (get_or s 1 0) 0x5B && (leb n 32 && eqb (get_or s (2 + n) 0) 0x6D))) (3 + n) 0

pub record EscapeRange : Type 0 where
  pub from : ℕ
  pub upto : ℕ

abbrev pub escape_range : ℕ → ℕ → EscapeRange
escape_range a b = record { from = a; upto = b }

-- a match of n bytes at place p, where n is not 0; then what follows, n - 1 bytes of it being this match's
unfoldable pub add_escape : ℕ → ℕ → (ℕ → List EscapeRange) → List EscapeRange
add_escape p zero go = go zero
add_escape p (suc n) go = escape_range p (p + suc n) ∷ go n

-- the matches in bytes that stand at place p, after k bytes that are passed over
unfoldable pub escapes_from : ℕ → ℕ → List ℕ → List EscapeRange
unfolding add_escape escape_match
escapes_from p k [] = []
escapes_from p zero (b ∷ s) = add_escape p (escape_match (b ∷ s)) (λ k. escapes_from (suc p) k s)
escapes_from p (suc k) (b ∷ s) = escapes_from (suc p) k s

-- ---- the text searched

-- trim_trailing_newline: the length without the final LF or CR LF
unfoldable pub trimmed : List ℕ → ℕ
trimmed [] = 0
trimmed (a ∷ []) = cond (eqb a 0x0A) 0 1
trimmed (a ∷ b ∷ []) = cond (eqb b 0x0A) (cond (eqb a 0x0D) 0 1) 2
trimmed (a ∷ b ∷ c ∷ s) = suc (trimmed (b ∷ c ∷ s))

unfoldable pub escapes : List ℕ → List EscapeRange
unfolding escapes_from trimmed
escapes s = escapes_from 0 0 (take (trimmed s) s)

unfoldable pub length_of : List EscapeRange → ℕ
length_of [] = 0
length_of (e ∷ es) = e.upto - e.from + length_of es

-- its length: the line without its final newline and without each ESCAPE_SEQUENCE match
unfoldable pub searched_length : List ℕ → ℕ
unfolding escapes length_of trimmed
searched_length s = trimmed s - length_of (escapes s)

-- question 3: whole pairs, each start at most its end and at least the end before, all inside the text searched
unfoldable pub in_order : ℕ → ℕ → List ℕ → Bool
in_order most e [] = true
in_order most e (a ∷ []) = false
in_order most e (a ∷ b ∷ ms) = leb e a && (leb a b && (leb b most && in_order most b ms))

-- ---- Line::new_search

-- convert_offset: `origin` is original_offset, `rest` remaining_offset
unfoldable pub offset_from : ℕ → ℕ → List EscapeRange → ℕ
offset_from origin rest [] = origin + rest
offset_from origin rest (e ∷ es) =
    let further : ℕ = offset_from e.upto (rest - (e.from - origin)) es in
    cond (ltb (origin + rest) e.from) (origin + rest) further

module _ (P : Profile) where
  -- the line from a up to b, read by itself
  unfoldable pub read_part : Option ℕ → ℕ → ℕ → List ℕ → List Span
  unfolding spans_at
  read_part m a b s = spans_at P m a (take (b - a) (drop a s))

  -- the matches from number k on, and the segments between and behind them, from place `start`
  unfoldable pub read_matches : List EscapeRange → ℕ → ℕ → List ℕ → List ℕ → List Span
  unfolding read_part offset_from
  read_matches es start k [] s = read_part none start (length s) s
  read_matches es start k (a ∷ []) s = []
  read_matches es start k (a ∷ b ∷ ms) s =
      let from : ℕ = offset_from 0 a es in
      let upto : ℕ = offset_from 0 b es in
      read_part none start from s ++ read_part (some k) from upto s ++ read_matches es upto (suc k) ms s

  -- Line::new, and Line::new_search
  unfoldable pub read : List ℕ → List ℕ → List Span
  unfolding read_matches escapes spans
  read [] s = spans P s
  read (m ∷ ms) s = read_matches (escapes s) 0 0 (m ∷ ms) s
