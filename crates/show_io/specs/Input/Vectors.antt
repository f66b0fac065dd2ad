-- Pieces read in turn, of a file `f` at width 2 by clusters.
use Rattle.std.specs.Prelude.{◌≡◌, refl, List, [], ◌∷◌, ℕ, replicate}
use Rattle.text.specs.Width as width
use Rattle.spans.specs.Search as search
use Rattle.buffer.specs.Sink.{sink, saturated, put, emit}
use Rattle.show_io.specs.Input.{state, Read, read, with_pieces}

-- in a line of 4 bytes and a buffer of 8
abbrev taken : ℕ → ℕ → List (List ℕ) → Read
unfolding with_pieces saturated put emit width.profile01 search.in_order
taken enough number ps = with_pieces (0x66 ∷ []) (record { mode = 1; start = 0; width = 2 }) 4 enough (state number [] (sink (replicate 8 0) 0)) ps

-- `a`, of which more may follow
abbrev kept : taken 65536 0 ((0x61 ∷ []) ∷ []) ≡ read (state 0 (0x61 ∷ []) (sink (replicate 8 0) 0)) []
unfolding taken
kept = refl

-- `a` and `b`, each with a newline
abbrev two_lines : taken 65536 0 ((0x61 ∷ 0x0A ∷ []) ∷ (0x62 ∷ 0x0A ∷ []) ∷ []) ≡ read (state 2 [] (sink (0x61 ∷ 0x20 ∷ 0x0A ∷ 0x62 ∷ 0x20 ∷ 0x0A ∷ 0 ∷ 0 ∷ []) 6)) []
unfolding taken
two_lines = refl

-- `abcd` and `ef` with a newline: the line is kept to its 4 bytes
abbrev long_line : taken 65536 0 ((0x61 ∷ 0x62 ∷ 0x63 ∷ 0x64 ∷ []) ∷ (0x65 ∷ 0x66 ∷ 0x0A ∷ []) ∷ []) ≡ read (state 1 [] (sink (0x61 ∷ 0x62 ∷ 0x0A ∷ 0x63 ∷ 0x64 ∷ 0x0A ∷ 0 ∷ 0 ∷ []) 6)) []
unfolding taken
long_line = refl

-- three bytes are enough: the second line is left
abbrev stopped : taken 3 0 ((0x61 ∷ 0x0A ∷ []) ∷ (0x62 ∷ 0x0A ∷ []) ∷ []) ≡ read (state 1 [] (sink (0x61 ∷ 0x20 ∷ 0x0A ∷ 0 ∷ 0 ∷ 0 ∷ 0 ∷ 0 ∷ []) 3)) ((0x62 ∷ 0x0A ∷ []) ∷ [])
unfolding taken
stopped = refl

-- behind the largest number
abbrev numbered : taken 65536 0xFFFFFFFFFFFFFFFF ((0x61 ∷ 0x0A ∷ []) ∷ []) ≡ read (state 0xFFFFFFFFFFFFFFFF [] (sink (0x61 ∷ 0x20 ∷ 0x0A ∷ 0 ∷ 0 ∷ 0 ∷ 0 ∷ 0 ∷ []) 3)) []
unfolding taken
numbered = refl
