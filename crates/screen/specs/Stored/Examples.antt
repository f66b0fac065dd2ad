-- Corners of the stored form, computed.
use Rattle.std.specs.Prelude.{ℕ, ◌-◌, Bool, true, ◌&&◌, not, List, [], ◌∷◌, ◌++◌, length, replicate, T, eqb}
use Rattle.text.specs.Utf8.{same_bytes}
use Rattle.screen.specs.Records.{Record}
use Rattle.text.specs.Calls.{Written}
use Rattle.screen.specs.Stored.{short, store_call, restore_call}

unfoldable all : List Bool → Bool
all [] = true
all (b ∷ bs) = b && all bs

-- accepted, lent 64 bytes: these, and zeros after them
unfoldable gives : Written → List ℕ → Bool
unfolding same_bytes
gives w out = eqb w.number 0 && (eqb w.count (length out) && same_bytes w.out (out ++ replicate (64 - length out) 0))

unfoldable refuses : Written → ℕ → Bool
unfolding same_bytes
refuses w n = eqb w.number n && (eqb w.count 0 && same_bytes w.out (replicate (length w.out) 0))

-- a record of a change list and a stored one, of at most 255 bytes
abbrev change : ℕ → List ℕ → List ℕ
change kind body = length body ∷ 0 ∷ 0 ∷ 0 ∷ kind ∷ 0 ∷ body

abbrev stored : ℕ → List ℕ → List ℕ
stored kind body = length body ∷ 0 ∷ kind ∷ 0 ∷ body

-- attributes of n bytes, 0 but for byte i
abbrev attributes : ℕ → ℕ → ℕ → List ℕ
attributes n i v = replicate i 0 ++ v ∷ replicate (n - i - 1) 0

abbrev letter : List ℕ
letter = 0x61 ∷ []

abbrev palette : ℕ → List ℕ
palette unused = 1 ∷ 5 ∷ unused ∷ 0 ∷ []

store_corners : T (all (
    gives (store_call 64 []) []
    ∷ gives (store_call 64 (change 1 letter)) (stored 1 letter)
    ∷ gives (store_call 64 (change 4 [])) (stored 4 [])
    ∷ gives (store_call 64 (change 3 (palette 0))) (stored 3 (palette 0))
    ∷ gives (store_call 64 (change 2 (attributes 24 16 0xFF))) (stored 2 (attributes 25 16 0xFF))
    ∷ gives (store_call 64 (change 2 (attributes 25 24 2))) (stored 2 (attributes 25 24 2))
    ∷ gives (store_call 64 (change 2 (attributes 24 0 1) ++ change 2 (attributes 25 24 1))) (stored 2 (attributes 25 0 1) ++ stored 2 (attributes 25 24 1))
    ∷ gives (store_call 64 (change 1 (0xCC ∷ 0x81 ∷ []))) (stored 1 (0xCC ∷ 0x81 ∷ []))
    ∷ refuses (store_call 64 (change 2 (attributes 25 24 3))) 10
    ∷ refuses (store_call 64 (change 2 (attributes 23 0 0))) 10
    ∷ refuses (store_call 64 (change 2 (attributes 26 0 0))) 10
    ∷ refuses (store_call 64 (change 2 (attributes 24 0 3))) 10
    ∷ refuses (store_call 64 (change 2 (attributes 24 3 0x20))) 10
    ∷ refuses (store_call 64 (change 2 (attributes 24 5 1))) 10
    ∷ refuses (store_call 64 (change 3 (palette 1))) 10
    ∷ refuses (store_call 64 (change 1 (0xFF ∷ []))) 10
    ∷ refuses (store_call 64 (0 ∷ 0 ∷ 0 ∷ 0 ∷ 1 ∷ 1 ∷ [])) 10
    ∷ refuses (store_call 64 (change 1 letter ++ 0 ∷ [])) 10
    ∷ refuses (store_call 64 (2 ∷ 0 ∷ 0 ∷ 0 ∷ 1 ∷ 0 ∷ letter)) 10
    ∷ refuses (store_call 4 (change 1 letter)) 9
    ∷ []))
unfolding all gives refuses store_call
store_corners = tt

restore_corners : T (all (
    gives (restore_call 64 []) []
    ∷ gives (restore_call 64 (stored 1 letter ++ stored 4 [])) (change 1 letter ++ change 4 [])
    ∷ gives (restore_call 64 (stored 2 (attributes 25 24 1))) (change 2 (attributes 25 24 1))
    ∷ refuses (restore_call 64 (stored 2 (attributes 24 0 0))) 10
    ∷ refuses (restore_call 64 (stored 1 (0xFF ∷ []))) 10
    ∷ refuses (restore_call 64 (0 ∷ 0 ∷ 1 ∷ [])) 10
    ∷ refuses (restore_call 6 (stored 1 letter)) 9
    ∷ []))
unfolding all gives refuses restore_call
restore_corners = tt

-- question 12
abbrev text : ℕ → List Record
text n = record { whole = true; kind = 1; body = replicate n 0x61 } ∷ []

limits : T (short (text 65535) && not (short (text 65536)))
unfolding short
limits = tt
