-- What the contracts of src/screen.rt say: the screen that the code's numbers stand for, and what a change does to it.
use Rattle.std.specs.Prelude.{◌≡◌, ℕ, ◌+◌, ◌-◌, ◌*◌, ◌<◌, ◌≤◌, Bool, true, false, not, ◌&&◌, ◌||◌, List, [], ◌∷◌, ◌++◌, length, take, drop, replicate, eqb, ltb}
use Rattle.std.proofs.Math.Bool.{cond}
use Rattle.std.specs.Prelude.{None, Some, IfSome}
use Rattle.std.specs.Prelude as std
use Rattle.std.proofs.Math.Option.{Option, none, some}
use Rattle.std.proofs.lemmas.List.Edits.{sets}
use Rattle.text.specs.Utf8.{same_bytes}
use Rattle.text.specs.Class.{Profile}
use Rattle.screen.specs.Records.{Record, records}
use Rattle.screen.specs.WellFormed.{body_sizes, of_kind, utf8, wide, clusters_in, well_formed, wide_texts}
use Rattle.screen.specs.Row.{Cell, Screen, screen, is_later, back, passes, write, blank_screen, on_clusters, on_record, on_records}
use Rattle.screen.specs.Row.Contracts.{body_at, blank_at, cells_in, cell_in, first_column, laters, same_numbers}
use Rattle.screen.specs.declared.screen.Screen as code
pub mod Laws

-- ---- the code's numbers

abbrev pub with_at : code.Screen → ℕ → code.Screen
with_at t at = record { at = at; attributes = t.attributes; end = t.end; color = t.color; passed = t.passed }

abbrev pub with_end : code.Screen → ℕ → code.Screen
with_end t end = record { at = t.at; attributes = t.attributes; end = end; color = t.color; passed = t.passed }

abbrev pub with_attributes_at : code.Screen → ℕ → code.Screen
with_attributes_at t at = record { at = t.at; attributes = at; end = t.end; color = t.color; passed = t.passed }

abbrev pub larger_of : ℕ → ℕ → ℕ
larger_of a b = cond (ltb a b) b a

-- pending, the cursor is in the last column
abbrev pub cursor_of : ℕ → ℕ → ℕ
cursor_of width at = cond (eqb at width) (width - 1) at

-- numbers for the cells up to a column
abbrev pub reached : List ℕ → code.Screen → ℕ → List ℕ
reached row t at = sets row (3 * t.end) (same_numbers (at - t.end) 0 0 t.color)

pub record Reached (row : List ℕ) (t : code.Screen) (at : ℕ) (row' : List ℕ) (r : code.Screen) : Type 0 where
  pub state : r ≡ with_end t (larger_of t.end at)
  pub numbers : row' ≡ reached row t at

-- the cluster whose later cell stands at a column is blank before it
unfoldable pub cut_left : List ℕ → List ℕ → (end at : ℕ) → List ℕ
cut_left list row end at =
    let first : ℕ = first_column (take at (cells_in list row)) in
    cond (ltb at end && is_later (cell_in list row at)) (sets row (3 * first) (same_numbers (at - first) 0 0 0)) row

-- the later cells from a column on are blank
unfoldable pub cut_right : List ℕ → List ℕ → (end at : ℕ) → List ℕ
cut_right list row end at = sets row (3 * at) (same_numbers (laters (drop at (take end (cells_in list row)))) 0 0 0)

-- ---- the screen

unfoldable pub row_of : List ℕ → ℕ → List ℕ → code.Screen → List Cell
row_of list width row t = take t.end (cells_in list row) ++ replicate (width - t.end) (blank_at list t.color)

unfoldable pub screen_at : List ℕ → ℕ → List ℕ → code.Screen → Screen
unfolding row_of
screen_at list width row t = screen (row_of list width row t) (cursor_of width t.at) (eqb t.at width) (body_at list t.attributes) (not (eqb t.passed 0))

-- none where the list is malformed
abbrev pub screen_of : List ℕ → ℕ → List ℕ → std.Option code.Screen → Option Screen
screen_of list width row None = none
screen_of list width row (Some t) = some (screen_at list width row t)

pub record RowReady (width : ℕ) (row : List ℕ) (t : code.Screen) : Type 0 where
  pub some : 0 < width
  pub at : t.at ≤ width
  pub end : t.end ≤ width
  pub room : 3 * width ≤ length row

-- a cluster of w columns before the last, from a place to another
pub record WriteReady (width : ℕ) (row : List ℕ) (t : code.Screen) (p e w : ℕ) : Type 0 where
  pub ready : RowReady width row t
  pub place : 0 < p
  pub order : p ≤ e
  pub some : 0 < w
  pub fits : t.at + w ≤ width

-- the place of a colour
pub record ClearReady (width : ℕ) (row : List ℕ) (t : code.Screen) (color : ℕ) : Type 0 where
  pub ready : RowReady width row t
  pub place : 0 < color

pub record ClusterOnReady (list : List ℕ) (width : ℕ) (row : List ℕ) (t : code.Screen) (p e : ℕ) : Type 0 where
  pub ready : RowReady width row t
  pub place : 0 < p
  pub order : p ≤ e
  pub inside : e ≤ length list

-- a text from a place to another
pub record TextReady (list : List ℕ) (width : ℕ) (row : List ℕ) (t : code.Screen) (start end : ℕ) : Type 0 where
  pub ready : RowReady width row t
  pub place : 0 < start
  pub order : start ≤ end
  pub inside : end ≤ length list

-- a body within the list
pub record BodyReady (list : List ℕ) (width : ℕ) (row : List ℕ) (t : code.Screen) (start len : ℕ) : Type 0 where
  pub ready : RowReady width row t
  pub place : 0 < start
  pub inside : start + len ≤ length list

pub record DrawReady (width : ℕ) (row : List ℕ) : Type 0 where
  pub some : 0 < width
  pub room : 3 * width ≤ length row

-- a screen, if there is one
abbrev pub LeftReady : ℕ → List ℕ → std.Option code.Screen → Type 0
LeftReady width row o = IfSome o (λ t. RowReady width row t)

-- what a step makes of the screen
pub record Moved (list : List ℕ) (width : ℕ) (row : List ℕ) (t : code.Screen) (f : Screen → Screen) (row' : List ℕ) (r : code.Screen) : Type 0 where
  pub same : screen_at list width row' r ≡ f (screen_at list width row t)
  pub ready : RowReady width row' r

-- the same, none where it is malformed
pub record Stepped (list : List ℕ) (width : ℕ) (row : List ℕ) (t : code.Screen) (f : Option Screen → Option Screen) (row' : List ℕ) (r : std.Option code.Screen) : Type 0 where
  pub same : screen_of list width row' r ≡ f (some (screen_at list width row t))
  pub ready : LeftReady width row' r

-- ---- what a change does, none where it is malformed

unfoldable pub formed : Bool → (Screen → Screen) → Option Screen → Option Screen
formed b f none = none
formed b f (some t) = cond b (some (f t)) none

abbrev pub pass : Screen → Screen
pass t = screen t.cells t.cursor t.pending t.attributes true

-- a cluster of w columns
unfoldable pub cluster_on : ℕ → List ℕ → ℕ → Option Screen → Option Screen
unfolding formed back write
cluster_on width g w o =
    let backspace : Bool = same_bytes g (0x08 ∷ []) in
    formed (backspace || ltb 0 w) (λ t. cond backspace (back t) (cond (passes width t w) (pass t) (write width t g w))) o

module _ (P : Profile) (width : ℕ) where
  unfoldable pub text_on : List ℕ → Option Screen → Option Screen
  unfolding formed utf8 wide clusters_in on_clusters
  text_on b o = formed (utf8 b && wide P (clusters_in P b)) (λ t. on_clusters P width t (clusters_in P b)) o

  unfoldable pub record_on : Record → Option Screen → Option Screen
  unfolding formed of_kind wide clusters_in on_record
  record_on r o = formed (r.whole && (of_kind (body_sizes false) r.kind r.body && cond (eqb r.kind 1) (wide P (clusters_in P r.body)) true)) (λ t. on_record P width t r) o

  unfoldable pub records_on : List Record → Option Screen → Option Screen
  unfolding formed well_formed wide_texts on_records
  records_on rs o = formed (well_formed (body_sizes false) rs && wide_texts P rs) (λ t. on_records P width t rs) o

-- the screen that a list leaves
pub record Drawn (P : Profile) (list : List ℕ) (width : ℕ) (row' : List ℕ) (r : std.Option code.Screen) : Type 0 where
  pub same : screen_of list width row' r ≡ records_on P width (records 4 list) (some (blank_screen width))
  pub ready : LeftReady width row' r
