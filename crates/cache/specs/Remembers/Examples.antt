-- Arrays that keep none; calls in turn, and what is kept after them, computed.
use Rattle.std.specs.Prelude.{ℕ, List, [], ◌∷◌, map, ◌≡◌, refl, replicate, take}
use Rattle.std.proofs.lemmas.List.{length-replicate}
use Rattle.text.specs.Width.{profile01}
use Rattle.cache.specs.Wraps.{Key, key, key_of, kept}
use Rattle.cache.specs.Remembers.{Call, rows, height, NoneKept, cached, wraps_from}

abbrev zeros : List ℕ
zeros = replicate 8212 0

-- the largest numbers, bytes FF throughout
abbrev largest : List ℕ
largest = replicate 8212 18446744073709551615

pub zeros_none : NoneKept zeros
unfolding kept
zeros_none = record { size = length-replicate {A = ℕ} 8212 0; none = refl }

pub largest_none : NoneKept largest
unfolding kept
largest_none = record { size = length-replicate {A = ℕ} 8212 18446744073709551615; none = refl }

unfoldable abcdef : List ℕ
abcdef = 0x61 ∷ 0x62 ∷ 0x63 ∷ 0x64 ∷ 0x65 ∷ 0x66 ∷ []

abbrev r : (width mode : ℕ) → Call
r width mode = rows 48 1 14 width mode

abbrev h : (width mode : ℕ) → Call
h width mode = height 48 1 width mode

abbrev k : (width mode : ℕ) → Key
k width mode = key 0 width mode

unfoldable keys_from : (wraps line : List ℕ) → List Call → List Key
unfolding wraps_from kept profile01
keys_from wraps line cs = map key_of (kept (wraps_from profile01 line wraps cs))

unfoldable keys_after : List ℕ → List Call → List Key
unfolding keys_from
keys_after line cs = keys_from zeros line cs

-- a use moves its key to the front
moved : keys_after abcdef (r 1 1 ∷ r 2 1 ∷ r 3 1 ∷ r 4 1 ∷ h 1 1 ∷ r 5 1 ∷ []) ≡ k 5 1 ∷ k 1 1 ∷ k 4 1 ∷ k 3 1 ∷ []
unfolding keys_after abcdef
moved = refl

-- over whatever stood there
over_largest : keys_from largest abcdef (r 1 1 ∷ r 2 1 ∷ h 1 1 ∷ []) ≡ k 1 1 ∷ k 2 1 ∷ []
unfolding keys_from abcdef
over_largest = refl

-- calls refused 5 and, of a kept key, 6: no uses
refused : keys_after abcdef (r 1 1 ∷ r 2 1 ∷ r 3 1 ∷ r 4 1 ∷ r 65536 1 ∷ rows 48 1 10 1 1 ∷ r 5 1 ∷ []) ≡ k 5 1 ∷ k 4 1 ∷ k 3 1 ∷ k 2 1 ∷ []
unfolding keys_after abcdef
refused = refl

-- Unwrapped height is no use, Unwrapped rows are one
unwrapped : keys_after abcdef (r 1 0 ∷ r 2 0 ∷ r 3 0 ∷ r 4 0 ∷ h 1 0 ∷ r 5 0 ∷ []) ≡ k 5 0 ∷ k 4 0 ∷ k 3 0 ∷ k 2 0 ∷ []
unfolding keys_after abcdef
unwrapped = refl

-- modes are compared as given
modes : keys_after abcdef (h 4 1 ∷ h 4 2 ∷ h 4 3 ∷ h 4 4 ∷ h 4 1 ∷ []) ≡ k 4 1 ∷ k 4 4 ∷ k 4 3 ∷ k 4 2 ∷ []
unfolding keys_after abcdef
modes = refl

-- 1,025 rows are not kept
many : keys_after (replicate 1025 0x61) (height 8200 1 1 1 ∷ []) ≡ []
unfolding keys_after
many = refl

enough : keys_after (replicate 1024 0x61) (height 8200 1 1 1 ∷ []) ≡ k 1 1 ∷ []
unfolding keys_after
enough = refl

-- a kept key is answered from what is kept, whatever the line
another : take 4 (cached profile01 [] (wraps_from profile01 abcdef zeros (r 4 1 ∷ [])) (r 4 1)).answer.rows ≡ 0 ∷ 4 ∷ 4 ∷ 6 ∷ []
unfolding cached wraps_from profile01 abcdef
another = refl
