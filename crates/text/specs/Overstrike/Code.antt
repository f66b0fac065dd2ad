-- What the values of overstrike's code say of the definition's ones: the result so far is a valid text at the front of a buffer.
use Rattle.std.specs.Prelude.{◌*◌, ◌+◌, ◌-◌, ◌<◌, ◌≤◌, ℕ, Bool, cond, false, List, ◌++◌, ◌≡◌, drop, length, take}
use Rattle.std.proofs.Math.Seq.{slice}
use Rattle.text.specs.Backward.{KnownPlace, backward}
use Rattle.text.specs.Class.{Profile}
use Rattle.text.specs.Utf8.Code.{run_of, size, whole}
use Rattle.text.specs.Overstrike.{Pending, State, Style, bold, bold_underline, convert_pieces, convert_run, finish, has_backspace, held, none, normal, on_backspace, on_cluster, order, push, state, struck, underline}
use Rattle.text.specs.Overstrike.Length.{weight}
use Rattle.text.specs.Utf8.{Scalar, asciis, bytes_of, decode, runs}
use Rattle.text.specs.declared.backward.Erasure.{Erasure}
use Rattle.text.specs.declared.overstrike.Conversion.{Conversion}
use Rattle.text.specs.declared.overstrike.LinePart.{LinePart}
use Rattle.text.specs.declared.overstrike.Pending as code
use Rattle.text.specs.declared.overstrike.Pending.TheVariants.{Nothing, Held, Struck}
use Rattle.text.specs.declared.overstrike.Overstrike.{Overstrike}
use Rattle.text.specs.declared.overstrike.Progress.{Progress}

-- the first r bytes of the buffer l are a valid text with these scalars, the last first
pub record Front (l : List ℕ) (r : ℕ) (out : List Scalar) : Type 0 where
  pub inside : r ≤ length l
  pub scalars : backward (take r l) ≡ out
  pub valid : whole (take r l)

-- its front, with a known place
pub record FrontKnown (P : Profile) (l : List ℕ) (r : Erasure) (out : List Scalar) : Type 0 where
  pub front : Front l r.at out
  pub known : KnownPlace P (take r.at l) r.known

-- xs written behind the first `len` bytes of a buffer
pub record Pushed (before after : List ℕ) (len : ℕ) (xs : List ℕ) (r : ℕ) : Type 0 where
  pub bytes : take r after ≡ take len before ++ xs
  pub end : r ≡ len + length xs
  pub inside : r ≤ length after

unfoldable pub style_of : Overstrike → Style
style_of o = cond o.bold (cond o.underline bold_underline bold) (cond o.underline underline normal)

-- the order from one overstrike to another
abbrev pub order_of : Overstrike → Overstrike → List ℕ
order_of b s = order (style_of b) (style_of s)

-- the part of a line from a to e is valid text
pub record Part (line : List ℕ) (a e : ℕ) : Type 0 where
  pub ordered : a ≤ e
  pub within : e ≤ length line
  pub valid : whole (slice a e line)

-- its scalars
abbrev pub part_of : List ℕ → ℕ → ℕ → List Scalar
part_of line a e = run_of (decode (slice a e line))

-- the pending cluster
unfoldable pub pending_of : List ℕ → code.Pending → Pending
pending_of line Nothing = none
pending_of line (Held p) = held (part_of line p.at p.end)
pending_of line (Struck p) = struck (part_of line p.at p.end)

-- its part of the line
unfoldable pub span_of : code.Pending → LinePart
span_of Nothing = record { at = 0; end = 0 }
span_of (Held p) = p
span_of (Struck p) = p

-- the definition's state, of the line, the buffer and the code's state
unfoldable pub state_of : List ℕ → List ℕ → Conversion → State
state_of line l st = state (backward (take st.len l)) (pending_of line st.pending) (style_of st.before) (style_of st.style)

abbrev pub conversion : ℕ → code.Pending → Overstrike → Overstrike → ℕ → Conversion
conversion n q b s v = record { len = n; pending = q; before = b; style = s; known = v }

abbrev pub plain : Overstrike
plain = record { bold = false; underline = false }

abbrev pub PendingPart : List ℕ → code.Pending → Type 0
PendingPart line q = Part line (span_of q).at (span_of q).end

pub record Sound (P : Profile) (line l : List ℕ) (st : Conversion) : Type 0 where
  pub inside : st.len ≤ length l
  pub valid : whole (take st.len l)
  pub part : PendingPart line st.pending
  pub known : KnownPlace P (take st.len l) st.known

-- the code's state stands for the state t
pub record Stepped (P : Profile) (line l : List ℕ) (st : Conversion) (t : State) : Type 0 where
  pub same : state_of line l st ≡ t
  pub sound : Sound P line l st

-- the steps on a state
unfoldable pub backspace_on : Profile → State → State
backspace_on P t = on_backspace P t.out t.pending t.before t.style

unfoldable pub cluster_on : Profile → State → List Scalar → State
cluster_on P t g = on_cluster P t.out t.pending t.before t.style g

unfoldable pub finish_on : Profile → State → List Scalar
finish_on P t = finish P t.out t.pending t.before t.style

-- the order and the pending cluster behind the result so far
unfoldable pub pushed_on : List ℕ → List ℕ → Conversion → LinePart → List Scalar
pushed_on line l st p = push (part_of line p.at p.end) (push (asciis (order_of st.before st.style)) (backward (take st.len l)))

-- what a backspace needs
pub record BackReady (P : Profile) (l : List ℕ) (len i : ℕ) : Type 0 where
  pub room : len < length l
  pub valid : whole (take len l)
  pub known : KnownPlace P (take len l) i

-- for any line: a backspace takes the state st with the buffer l to the state r with the buffer l'
abbrev pub BackspaceStep : Profile → List ℕ → List ℕ → Conversion → Conversion → Type 0
BackspaceStep P l l' st r = (line : List ℕ) → PendingPart line st.pending → Stepped P line l' r (backspace_on P (state_of line l st))

-- for any profile and buffer: the cluster c over the struck one takes the state st to the state r
abbrev pub StruckStep : List ℕ → Conversion → LinePart → Conversion → Type 0
StruckStep line st c r = (P : Profile) (l : List ℕ) → Sound P line l st → Stepped P line l r (cluster_on P (state_of line l st) (part_of line c.at c.end))

-- what a step on the cluster c needs: the weight bounds what the machine may still write
pub record StepReady (P : Profile) (line l : List ℕ) (st : Conversion) (c : LinePart) : Type 0 where
  pub sound : Sound P line l st
  pub upper : Part line c.at c.end
  pub room : weight (state_of line l st) < length l

-- what the run's end needs
pub record FinishReady (line l : List ℕ) (st : Conversion) : Type 0 where
  pub profile : Profile
  pub sound : Sound profile line l st
  pub room : weight (state_of line l st) ≤ length l

-- for any profile: the run's end takes the state st with the buffer l to r bytes of the buffer l'
abbrev pub Finished : List ℕ → List ℕ → List ℕ → Conversion → ℕ → Type 0
Finished line l l' st r = (P : Profile) → Front l' r (finish_on P (state_of line l st))

-- the two clusters of a strike
pub record Strike (line : List ℕ) (st : Conversion) (u c : LinePart) : Type 0 where
  pub struck : st.pending ≡ Struck u
  pub under : Part line u.at u.end
  pub upper : Part line c.at c.end

-- the front of a buffer is this text
pub record Wrote (l : List ℕ) (r : ℕ) (xs : List ℕ) : Type 0 where
  pub inside : r ≤ length l
  pub bytes : take r l ≡ xs

-- the line at the front of a buffer, and whether it has a byte 08
pub record LineCopied (line l : List ℕ) (r : Bool) : Type 0 where
  pub wrote : Wrote l (length line) line
  pub found : r ≡ has_backspace line

-- the run that a line begins with, converted
pub record SpanDone (P : Profile) (line l : List ℕ) (r : Progress) : Type 0 where
  pub wrote : Wrote l r.written (bytes_of (convert_run P (run_of (decode line))))
  pub run : r.read ≡ size (run_of (decode line))
  pub small : r.written ≤ 8 * r.read

-- pieces read up to a place and written up to a place, with room for the rest
pub record PieceReady (line l : List ℕ) (d : Progress) : Type 0 where
  pub here : d.read < length line
  pub room : d.written + 8 * (length line - d.read) ≤ length l

pub record PieceDone (P : Profile) (line before after : List ℕ) (d r : Progress) : Type 0 where
  pub further : d.read < r.read
  pub within : r.read ≤ length line
  pub work : take r.written after ++ convert_pieces P (runs (decode (drop r.read line))) ≡ take d.written before ++ convert_pieces P (runs (decode (drop d.read line)))
  pub room : r.written + 8 * (length line - r.read) ≤ length after
