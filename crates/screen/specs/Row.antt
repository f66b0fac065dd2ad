-- A screen row: what each change of a well-formed list does to it.
use Prim.Native.Nat.{ℕ, ◌+◌, ◌-◌}
use Rattle.std.specs.Prelude.{Bool, true, false, ◌&&◌, ◌||◌, length, take, drop, get_or, replicate, eqb, ltb}
use Rattle.std.proofs.Math.Bool.{cond}
use mathlib.Core.List.{List, [], ◌∷◌, ◌++◌}
use Rattle.text.specs.Utf8.{Scalar, bytes_of}
use Rattle.text.specs.Class.{Profile}
use Rattle.text.specs.Width.{width_of}
use Rattle.buffer.specs.Numbers.{le4}
use Rattle.screen.specs.Records.{Record}
use Rattle.screen.specs.WellFormed.{body_size, clusters_in, is_backspace}
pub mod Laws
pub mod Contracts
pub mod Put

-- ---- cells

-- a cell: its cluster, none in the later cells of a wide one, and its attribute body
pub record Cell : Type 0 where
  pub cluster : List ℕ
  pub body : List ℕ

abbrev pub cell : List ℕ → List ℕ → Cell
cell g a = record { cluster = g; body = a }

-- default attributes, and these with a background
abbrev pub plain : List ℕ
plain = replicate body_size 0

abbrev pub with_background : List ℕ → List ℕ
with_background color = replicate 8 0 ++ color ++ replicate (body_size - 12) 0

-- a space
abbrev pub blank : List ℕ → Cell
blank a = cell (0x20 ∷ []) a

-- a later cell of a wide cluster
abbrev pub is_later : Cell → Bool
is_later c = eqb (length c.cluster) 0

-- a cluster of w columns
abbrev pub cluster_cells : List ℕ → List ℕ → ℕ → List Cell
cluster_cells g a w = cell g a ∷ replicate (w - 1) (cell [] a)

-- ---- writing over or blanking part of a wide cell blanks its rest

-- the cluster of a cell in front of these reaches their end
unfoldable pub all_later : List Cell → Bool
all_later [] = true
all_later (c ∷ cs) = is_later c && all_later cs

-- the last cluster of these cells lost what stood behind them: its cells are blank
unfoldable pub lost_end : List Cell → List Cell
unfolding all_later
lost_end [] = []
lost_end (c ∷ cs) = cond (all_later cs) (blank plain) c ∷ lost_end cs

-- the later cells that these begin with lost what stood before them: they are blank
unfoldable pub lost_start : List Cell → List Cell
lost_start [] = []
lost_start (c ∷ cs) = let further : List Cell = blank plain ∷ lost_start cs in cond (is_later c) further (c ∷ cs)

-- new cells from a column on, and what they leave of the clusters that they meet
unfoldable pub put : ℕ → List Cell → List Cell → List Cell
unfolding lost_end lost_start
put at new cells =
    let before : List Cell = take at cells in
    cond (is_later (get_or cells at (blank plain))) (lost_end before) before ++ new ++ lost_start (drop (at + length new) cells)

-- ---- the row, with its cursor, its pending flag and the attributes written from now on

pub record Screen : Type 0 where
  pub cells : List Cell
  pub cursor : ℕ
  pub pending : Bool
  pub attributes : List ℕ
  -- a text would have passed the last column
  pub passed : Bool

abbrev pub screen : List Cell → ℕ → Bool → List ℕ → Bool → Screen
screen cs c p a x = record { cells = cs; cursor = c; pending = p; attributes = a; passed = x }

-- 08 clears the flag and moves one left, not below 0
unfoldable pub back : Screen → Screen
back t = screen t.cells (t.cursor - 1) false t.attributes t.passed

-- kind 2 sets the attributes written from then on
unfoldable pub with_attributes : Screen → List ℕ → Screen
with_attributes t a = screen t.cells t.cursor t.pending a t.passed

module _ (width : ℕ) where
  -- blank at first
  unfoldable pub blank_screen : Screen
  blank_screen = screen (replicate width (blank plain)) 0 false plain false

  -- a cluster of w columns would pass the last: it ends right of it, or is met while pending
  abbrev pub passes : Screen → ℕ → Bool
  passes t w = t.pending || ltb width (t.cursor + w)

  -- a cluster written; one reaching the last column leaves the cursor there, pending
  unfoldable pub write : Screen → List ℕ → ℕ → Screen
  unfolding put
  write t g w =
      let at : ℕ = t.cursor + w in
      screen (put t.cursor (cluster_cells g t.attributes w) t.cells) (cond (eqb at width) (width - 1) at) (eqb at width) t.attributes t.passed

  -- kind 3 blanks from the cursor, only there with its background, and leaves cursor and flag
  unfoldable pub clear : Screen → List ℕ → Screen
  unfolding put
  clear t color =
      screen (put t.cursor (replicate (width - t.cursor) (blank (with_background color))) t.cells) t.cursor t.pending t.attributes t.passed

  -- kind 4 moves one right, not past the last column, and leaves the flag
  unfoldable pub right : Screen → Screen
  right t = screen t.cells (cond (ltb (t.cursor + 1) width) (t.cursor + 1) t.cursor) t.pending t.attributes t.passed

module _ (P : Profile) (width : ℕ) where
  -- a cluster of a text
  unfoldable pub on_cluster : Screen → List Scalar → Screen
  unfolding back write is_backspace width_of bytes_of
  on_cluster t g =
      let w : ℕ = width_of P g in
      cond (is_backspace g) (back t)
      (cond (passes width t w) (screen t.cells t.cursor t.pending t.attributes true) (write width t (bytes_of g) w))

  -- each text writes its own clusters
  unfoldable pub on_clusters : Screen → List (List Scalar) → Screen
  unfolding on_cluster
  on_clusters t [] = t
  on_clusters t (g ∷ gs) = on_clusters (on_cluster t g) gs

  -- a change of a well-formed list
  unfoldable pub on_record : Screen → Record → Screen
  unfolding on_clusters clusters_in with_attributes clear right
  on_record t r =
      cond (eqb r.kind 1) (on_clusters t (clusters_in P r.body))
      (cond (eqb r.kind 2) (with_attributes t r.body)
      (cond (eqb r.kind 3) (clear width t r.body) (right width t)))

  -- the changes one after the other
  unfoldable pub on_records : Screen → List Record → Screen
  unfolding on_record
  on_records t [] = t
  on_records t (r ∷ rs) = on_records (on_record t r) rs

-- ---- the result: per cell a 4-byte length of its cluster, the cluster and its attribute body

unfoldable pub row_bytes : List Cell → List ℕ
unfolding le4
row_bytes [] = []
row_bytes (c ∷ cs) = le4 (length c.cluster) ++ (c.cluster ++ (c.body ++ row_bytes cs))
