-- What the contracts say of the heads by their numbers.
use Rattle.std.specs.Prelude.{◌≡◌, ℕ, ◌+◌, ◌*◌, ◌≤◌, ◌<◌, Bool, true, false, List, ◌∷◌, length, take, replicate, get_or, None, Some}
use Rattle.std.specs.Prelude.{Option as Maybe}
use Rattle.std.proofs.Math.Option.{Option, none, some}
use Rattle.buffer.specs.Sink.{written}
use Rattle.text.specs.Calls.{lent}
use Rattle.cache.specs.Wraps.{Key, key, head, key_of, heads_in, kept, find, without, kept_numbers, head_numbers, new_block}
use Rattle.cache.specs.declared.wraps.Head.{Head}

-- the head that the five numbers from 5 i on are
abbrev pub head_at : List ℕ → ℕ → Head
head_at l i = head (key (get_or l (5 * i) 0) (get_or l (5 * i + 1) 0) (get_or l (5 * i + 2) 0)) (get_or l (5 * i + 3) 0) (get_or l (5 * i + 4) 0)

-- what every kept head has
pub record Within (h : Head) : Type 0 where
  pub some : 1 ≤ h.count
  pub fits : h.count ≤ 1024
  pub block : h.block < 4

-- so many heads stand before one of no rows
pub record InHeads (l : List ℕ) (n : ℕ) : Type 0 where
  pub size : length l ≡ 8212
  pub count : n ≡ length (heads_in 4 l)
  pub few : n ≤ 4

-- so many are kept
pub record Kept (l : List ℕ) (n : ℕ) : Type 0 where
  pub size : length l ≡ 8212
  pub count : n ≡ length (kept l)
  pub few : n ≤ 4

-- as the code has it
abbrev pub option_of : {A : Type 0} → Option A → Maybe A
option_of none = None
option_of (some x) = Some x

-- how many rows are kept for a key
abbrev pub rows_found : Option Head → Maybe ℕ
rows_found none = None
rows_found (some h) = Some h.count

abbrev pub kept_rows : Key → List ℕ → Maybe ℕ
kept_rows k l = rows_found (find k (kept l))

-- the numbers of the heads after a use
abbrev pub new_heads : List Head → Head → List ℕ
new_heads hs h = lent 0 20 (head_numbers (h ∷ take 3 (without (key_of h) hs))) 0

pub record HeadAtReady (l : List ℕ) (i : ℕ) : Type 0 where
  pub size : length l ≡ 8212
  pub low : i < 4

pub record HeadsReady (heads l : List ℕ) (n : ℕ) : Type 0 where
  pub blank : heads ≡ replicate 20 0
  pub kept : Kept l n

pub record NewBlock (l : List ℕ) (b : ℕ) : Type 0 where
  pub is : b ≡ new_block (kept l)
  pub low : b < 4

pub record AddReady (l : List ℕ) (n : ℕ) (rows : List ℕ) (count : ℕ) : Type 0 where
  pub kept : Kept l n
  pub few : count ≤ 1024
  pub room : 2 * count ≤ length rows

pub record KeepReady (l : List ℕ) (n : ℕ) (rows : List ℕ) (count : ℕ) : Type 0 where
  pub kept : Kept l n
  pub room : count ≤ 1024 → 2 * count ≤ length rows

-- the row list with the rows of a kept wrap at its front
unfoldable pub listed : Bool → Option Head → List ℕ → List ℕ → List ℕ
listed true (some h) wraps rows = written rows 0 (kept_numbers wraps h)
listed true none wraps rows = rows
listed false found wraps rows = rows

pub record ListReady (rows l : List ℕ) (h : Head) (list : Bool) : Type 0 where
  pub size : length l ≡ 8212
  pub within : Within h
  pub room : list ≡ true → 2 * h.count ≤ length rows
