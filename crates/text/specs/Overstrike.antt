-- Overstrike conversion: src/overstrike.rs, function for function.
use Rattle.std.specs.Prelude.{ℕ, Bool, false, ◌||◌, eqb}
use Rattle.std.proofs.Math.Bool.{cond}
use mathlib.Core.List.{List, [], ◌∷◌, ◌++◌, reverse, reverse_aux}
use Rattle.text.specs.Utf8.{Scalar, decode, Piece, run, damaged, runs, bytes_of, ascii, asciis, same_bytes, reads}
use Rattle.text.specs.Class.{Profile, is_control}
use Rattle.text.specs.Cluster.{joins, clusters}
pub mod Laws
pub mod Length
pub mod Code
pub mod Bytes
pub mod Orders

-- Overstrike
pub data Style : Type 0 where
  normal bold underline bold_underline : Style

-- Overstrike::bold
unfoldable pub bolded : Style → Style
bolded normal = bold
bolded bold = bold
bolded underline = bold_underline
bolded bold_underline = bold_underline

-- Overstrike::underline
unfoldable pub underlined : Style → Style
underlined normal = underline
underlined underline = underline
underlined bold = bold_underline
underlined bold_underline = bold_underline

-- add_control_sequence: the style order from one style to another
unfoldable pub order : Style → Style → List ℕ
order normal normal = []
order normal bold = 0x1B ∷ 0x5B ∷ 0x31 ∷ 0x6D ∷ []
order normal underline = 0x1B ∷ 0x5B ∷ 0x34 ∷ 0x6D ∷ []
order normal bold_underline = 0x1B ∷ 0x5B ∷ 0x31 ∷ 0x3B ∷ 0x34 ∷ 0x6D ∷ []
order bold normal = 0x1B ∷ 0x5B ∷ 0x32 ∷ 0x32 ∷ 0x6D ∷ []
order bold bold = []
order bold underline = 0x1B ∷ 0x5B ∷ 0x32 ∷ 0x32 ∷ 0x3B ∷ 0x34 ∷ 0x6D ∷ []
order bold bold_underline = 0x1B ∷ 0x5B ∷ 0x34 ∷ 0x6D ∷ []
order underline normal = 0x1B ∷ 0x5B ∷ 0x32 ∷ 0x34 ∷ 0x6D ∷ []
order underline bold = 0x1B ∷ 0x5B ∷ 0x32 ∷ 0x34 ∷ 0x3B ∷ 0x31 ∷ 0x6D ∷ []
order underline underline = []
order underline bold_underline = 0x1B ∷ 0x5B ∷ 0x31 ∷ 0x6D ∷ []
order bold_underline normal = 0x1B ∷ 0x5B ∷ 0x32 ∷ 0x32 ∷ 0x3B ∷ 0x32 ∷ 0x34 ∷ 0x6D ∷ []
order bold_underline bold = 0x1B ∷ 0x5B ∷ 0x32 ∷ 0x34 ∷ 0x6D ∷ []
order bold_underline underline = 0x1B ∷ 0x5B ∷ 0x32 ∷ 0x32 ∷ 0x6D ∷ []
order bold_underline bold_underline = []

-- prev_grapheme: none, a cluster, or a cluster behind which one backspace has been read (the source looks one cluster ahead there)
pub data Pending : Type 0 where
  none : Pending
  held : List Scalar → Pending
  struck : List Scalar → Pending

-- convert_unicode_span's variables: result, its last scalar first, prev_grapheme, prev_overstrike and overstrike
pub record State : Type 0 where
  pub out : List Scalar
  pub pending : Pending
  pub before : Style
  pub style : Style

abbrev pub state : List Scalar → Pending → Style → Style → State
state o p b s = record { out = o; pending = p; before = b; style = s }

-- push_str on the reversed result
abbrev pub push : List Scalar → List Scalar → List Scalar
push s out = reverse_aux s out

-- overstriking `_` with itself, by prev_overstrike and overstrike: the existing overstrike goes on if there is any
unfoldable pub ambiguous : Style → Style → Style
ambiguous normal normal = bold
ambiguous bold normal = bold
ambiguous underline normal = underline
ambiguous bold_underline normal = bold_underline
ambiguous b bold = bold_underline
ambiguous b underline = bold_underline
ambiguous b bold_underline = bold_underline

-- the line has a byte 08
unfoldable pub has_backspace : List ℕ → Bool
has_backspace [] = false
has_backspace (b ∷ s) = eqb b 0x08 || has_backspace s

module _ (P : Profile) where
  -- the result without its last cluster, looked for from `rest` on; a backspace added where there is none, or it begins with a control
  unfoldable pub erase_from : List Scalar → List Scalar → List Scalar
  unfolding is_control
  erase_from out [] = ascii 0x08 ∷ out
  erase_from out (c ∷ rest) =
      let further : List Scalar = erase_from out rest in
      let here : List Scalar = cond (is_control c.code) (ascii 0x08 ∷ out) rest in
      cond (joins P rest c) further here

  unfoldable pub backspace : List Scalar → List Scalar
  unfolding erase_from
  backspace out = erase_from out out

  -- the cluster h over the cluster g, with one backspace between them
  unfoldable pub strike : List Scalar → Style → Style → List Scalar → List Scalar → State
  unfolding reads bytes_of same_bytes bolded underlined ambiguous
  strike out b s g h =
      cond (same_bytes (bytes_of g) (bytes_of h))
      (cond (reads h (0x5F ∷ [])) (state out (held g) b (ambiguous b s)) (state out (held g) b (bolded s)))
      (cond (reads h (0x5F ∷ [])) (state out (held g) b (underlined s))
      (cond (reads g (0x5F ∷ [])) (state out (held h) b (underlined s)) (state out (held h) b normal)))

  -- a cluster that is a backspace
  unfoldable pub on_backspace : List Scalar → Pending → Style → Style → State
  unfolding backspace
  on_backspace out none b s = state (backspace out) none b normal
  on_backspace out (held g) b s = state out (struck g) b s
  on_backspace out (struck g) b s = state (backspace out) none b normal

  -- a cluster that is none
  unfoldable pub on_cluster : List Scalar → Pending → Style → Style → List Scalar → State
  unfolding order asciis strike
  on_cluster out none b s h = state out (held h) s normal
  on_cluster out (held g) b s h = state (push g (push (asciis (order b s)) out)) (held h) s normal
  on_cluster out (struck g) b s h = strike out b s g h

  unfoldable pub step : State → List Scalar → State
  unfolding on_backspace on_cluster reads
  step t g = cond (reads g (0x08 ∷ [])) (on_backspace t.out t.pending t.before t.style) (on_cluster t.out t.pending t.before t.style g)

  unfoldable pub steps : State → List (List Scalar) → State
  unfolding step
  steps t [] = t
  steps t (g ∷ gs) = steps (step t g) gs

  -- the run's end
  unfoldable pub finish : List Scalar → Pending → Style → Style → List Scalar
  unfolding order asciis
  finish out none b s = push (asciis (order b normal)) out
  finish out (held g) b s = push (asciis (order s normal)) (push g (push (asciis (order b s)) out))
  finish out (struck g) b s = push (asciis (order b normal)) out

  -- convert_unicode_span
  unfoldable pub convert_run : List Scalar → List Scalar
  unfolding steps finish clusters
  convert_run s = let t : State = steps (state [] none normal normal) (clusters P s) in reverse (finish t.out t.pending t.before t.style)

  unfoldable pub convert_pieces : List Piece → List ℕ
  unfolding convert_run bytes_of
  convert_pieces [] = []
  convert_pieces (run s ∷ ps) = bytes_of (convert_run s) ++ convert_pieces ps
  convert_pieces (damaged b ∷ ps) = b ∷ convert_pieces ps

  -- convert_overstrike
  unfoldable pub convert : List ℕ → List ℕ
  unfolding has_backspace convert_pieces runs decode
  convert s = cond (has_backspace s) (convert_pieces (runs (decode s))) s
