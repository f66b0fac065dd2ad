-- Kept wraps (document 02, U6): up to four wraps of one line, found by version, width and mode, in a lent array of 8,212 numbers.
-- Numbers 0 to 19 are four heads, the last used first: version, width, mode, number of rows, block; a head of no rows holds nothing.
-- Block b is the 2,048 numbers from 20 + 2,048 b on: start and end of each row. Zeros throughout: none kept.
use Rattle.std.specs.Prelude.{ℕ, zero, suc, ◌+◌, ◌*◌, Bool, true, false, cond, not, ◌&&◌, ◌||◌, List, [], ◌∷◌, ◌++◌, length, take, drop, get_or, eqb, leb, ltb}
use Rattle.std.proofs.Math.Option.{Option, none, some}
use Rattle.buffer.specs.Sink.{written}
use Rattle.text.specs.Calls.{lent}
use Rattle.cache.specs.declared.wraps.Head.{Head}
pub use Rattle.cache.specs.declared.wraps.Key.{Key}
pub mod Contracts
pub mod Laws
pub mod Blocks
pub mod Use

abbrev pub key : ℕ → ℕ → ℕ → Key
key v w m = record { version = v; width = w; mode = m }

abbrev pub same_key : Key → Key → Bool
same_key a b = eqb a.version b.version && (eqb a.width b.width && eqb a.mode b.mode)

abbrev pub head : Key → ℕ → ℕ → Head
head k n b = record { key = k; count = n; block = b }

abbrev pub key_of : Head → Key
key_of h = h.key

-- ---- what an array holds, whatever its contents

-- the first n heads, up to one of no rows
unfoldable pub heads_in : ℕ → List ℕ → List Head
heads_in zero l = []
heads_in (suc n) l =
    let further : List Head = heads_in n (drop 5 l) in
    cond (eqb (get_or l 3 0) 0) [] (head (key (get_or l 0 0) (get_or l 1 0) (get_or l 2 0)) (get_or l 3 0) (get_or l 4 0) ∷ further)

unfoldable pub has_block : ℕ → List Head → Bool
has_block b [] = false
has_block b (h ∷ hs) = eqb h.block b || has_block b hs

-- no wrap has more than 1,024 rows, and the n heads have the blocks below n, each once
unfoldable pub well_kept : ℕ → List Head → Bool
unfolding has_block
well_kept n [] = true
well_kept n (h ∷ hs) = (leb h.count 1024 && ltb h.block n) && (not (has_block h.block hs) && well_kept n hs)

-- the wraps kept, the last used first; an array of any other contents holds none
unfoldable pub kept : List ℕ → List Head
unfolding heads_in well_kept
kept wraps = let hs : List Head = heads_in 4 wraps in cond (well_kept (length hs) hs) hs []

unfoldable pub find : Key → List Head → Option Head
find k [] = none
find k (h ∷ hs) = let further : Option Head = find k hs in cond (same_key k (key_of h)) (some h) further

unfoldable pub without : Key → List Head → List Head
without k [] = []
without k (h ∷ hs) = let further : List Head = without k hs in cond (same_key k (key_of h)) further (h ∷ further)

-- the number that a block begins at
abbrev pub block_at : ℕ → ℕ
block_at b = 20 + 2048 * b

-- start and end of each row of a kept wrap
abbrev pub kept_numbers : List ℕ → Head → List ℕ
kept_numbers wraps h = take (2 * h.count) (drop (block_at h.block) wraps)

-- ---- what a use leaves

unfoldable pub head_numbers : List Head → List ℕ
head_numbers [] = []
head_numbers (h ∷ hs) = h.key.version ∷ h.key.width ∷ h.key.mode ∷ h.count ∷ h.block ∷ head_numbers hs

-- the array with these heads
unfoldable pub with_heads : List ℕ → List Head → List ℕ
unfolding head_numbers lent
with_heads wraps hs = lent 0 20 (head_numbers hs) 0 ++ drop 20 wraps

-- the wrap used stands first, and at most three others behind it in their order
unfoldable pub after_use : List ℕ → List Head → Head → List ℕ
unfolding with_heads without
after_use wraps hs h = with_heads wraps (h ∷ take 3 (without (key_of h) hs))

unfoldable pub last_block : List Head → ℕ
last_block [] = 0
last_block (h ∷ []) = h.block
last_block (h ∷ g ∷ hs) = last_block (g ∷ hs)

-- the block of a new wrap: the next one, or that of the least recently used, which gives way
unfoldable pub new_block : List Head → ℕ
unfolding last_block
new_block hs = cond (ltb (length hs) 4) (length hs) (last_block hs)

-- a new wrap is kept where it has at most 1,024 rows
unfoldable pub with_wrap : List ℕ → List Head → Key → (rows : ℕ) (numbers : List ℕ) → List ℕ
unfolding after_use new_block
with_wrap wraps hs k rows numbers =
    let b : ℕ = new_block hs in
    cond (leb rows 1024) (after_use (written wraps (block_at b) numbers) hs (head k rows b)) wraps
