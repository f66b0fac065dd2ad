-- Sequences: what a record's kind and place say of them, and the state after them.
use mathlib.Core.Path.{◌≡◌, refl, sym, ap, ◌∙◌}
use mathlib.Core.Logic.{◌≢◌}
use Prim.Native.Nat.{ℕ, ◌+◌, ◌≤◌, ◌<◌}
use native.Mathlib.Omega.{arith}
use mathlib.Core.Bool.{Bool, cond}
use mathlib.Core.List.{List}
use lib.ListN.{length, drop, get_or, length-drop}
use lib.Seq.{slice, take_all}
use lib.Dec.{eqb}
use borrow.Author.Tests.{ne_eqb, le-leb, lt-leb}
use Rattle.text.specs.Class.{Profile}
use Rattle.spans.specs.Sequence.{Sequence, sgr, erase_to_end, ignored, hyperlink, line_drawing, Found, found, missing, parse}
use Rattle.spans.specs.Sequence.Laws.{parse_length, parse_link}
use Rattle.spans.specs.Spans.Kinds.{number_of_kind}
use Rattle.spans.specs.declared.kind.SpanKind.{SpanKind}
use Rattle.spans.specs.declared.kind.SpanKind.TheVariants.{Text, Match, Control, Invalid, Unprintable, SgrSequence, Hyperlink, LineDrawing, Ignore, Tab, CrLf, Lf, EraseToEndOfLine}
use Rattle.spans.specs.declared.sgr.Sgr.{Sgr}
use Rattle.spans.specs.Sgr.Contracts.{orders_at}
use Rattle.spans.specs.Sequence.Contracts.{sequence_of}
use Rattle.spans.specs.Sequence.Contracts as spans
use Rattle.std.specs.Prelude as code
use Rattle.spans.specs.declared.sequence.Sequence as sequence
use Rattle.spans.specs.declared.sequence.Sequence.TheVariants as sequences
use Rattle.drawing.specs.Draw.{State, render_sequence}
use Rattle.drawing.specs.Reader.HiddenUris.{uri_length}
use Rattle.drawing.specs.State.{state_of}
use Rattle.drawing.specs.Orders.{obeyed}
use Rattle.drawing.specs.Hyperlink.{linked_to}
use Rattle.drawing.specs.Rendering.{Linkable, linked_by, link_in, record_sequence, SequenceDone}
use Rattle.drawing.specs.declared.state.AttributeState.{AttributeState}

-- ---- the place of a hyperlink's URI lies near

slice_is : (line : List ℕ) (place : ℕ) → slice (place + 1) (length line) line ≡ drop (place + 1) line
slice_is line place = ap (drop (place + 1)) (take_all (length line) line (omega arith))

pub linkable : (line : List ℕ) (place : ℕ) (q : sequence.Sequence) → length line ≤ 32768 → place < length line → code.Some q ≡ sequence_of (parse (slice (place + 1) (length line) line)) → Linkable place q
linkable line place q h k e =
    let s : List ℕ = slice (place + 1) (length line) line in
    record {
      near = omega arith;
      from = λ p n m f.
          let g : parse s ≡ found (hyperlink p n) m = spans.sequence_link (parse s) p n m (sym e ∙ ap code.Some f) in
          omega (arith, parse_link s p n m g, parse_length s (hyperlink p n) m g, ap length (slice_is line place), length-drop (place + 1) line);
    }

-- ---- the state after a hyperlink

pub link_told : (crew : Bool) (t : AttributeState) (place : ℕ) (q : sequence.Sequence) (r : AttributeState) (p n k m : ℕ) → q ≡ sequences.Hyperlink p n k → m ≡ uri_length crew n → r ≡ linked_to t (record { place = record { 0 = place + p }; len = m }) → r ≡ linked_by crew t place q
unfolding linked_by
link_told crew t place q r p n k m e g f = rw (e, f, g) refl

pub no_link : (crew : Bool) (t : AttributeState) (place : ℕ) (q : sequence.Sequence) → ((p n k : ℕ) → q ≢ sequences.Hyperlink p n k) → t ≡ linked_by crew t place q
unfolding linked_by
no_link crew t place (sequences.Hyperlink p n k) h = absurd (h p n k refl)
no_link crew t place (sequences.Sgr n) h = refl
no_link crew t place (sequences.EraseToEnd n) h = refl
no_link crew t place (sequences.Ignored n) h = refl
no_link crew t place (sequences.LineDrawing b n) h = refl

-- ---- the state after a sequence

record_past : (crew : Bool) (line : List ℕ) (kind place : ℕ) → length line ≤ place → record_sequence crew line kind place ≡ ignored
unfolding record_sequence
record_past crew line kind place h = rw (le-leb (length line) place h) refl

pub record_here : (crew : Bool) (line : List ℕ) (kind place : ℕ) → place < length line → record_sequence crew line kind place
    ≡ cond (eqb kind 6) (sgr (orders_at line (place + 2))) (cond (eqb kind 7) (link_in crew (parse (drop (place + 1) line))) (cond (eqb kind 8) (line_drawing (eqb (get_or line (place + 2) 0) 0x30)) (cond (eqb kind 13) erase_to_end ignored)))
unfolding record_sequence
record_here crew line kind place h = rw (lt-leb (length line) place h) refl

module _ (crew : Bool) (line : List ℕ) (kind place : ℕ) (t : AttributeState) where
  same_state : record_sequence crew line kind place ≡ ignored → SequenceDone crew line kind place t t
  unfolding render_sequence
  same_state e = record { state = λ P a b. rw e refl; torn = refl }

  pub sequence_past : length line ≤ place → SequenceDone crew line kind place t t
  sequence_past h = same_state (record_past crew line kind place h)

  module _ (here : place < length line) where
    pub sequence_sgr : (r : AttributeState) (os : List Sgr) → kind ≡ 6 → os ≡ orders_at line (place + 2) → r ≡ obeyed t os → SequenceDone crew line kind place t r
    unfolding render_sequence state_of
    sequence_sgr r os k f e =
        let q : record_sequence crew line kind place ≡ sgr (orders_at line (place + 2)) = record_here crew line kind place here ∙ rw k refl in
        rw (e, f) record { state = λ P a b. rw q refl; torn = refl }

    -- the state after the sequence that was found, if any was
    after : code.Option sequence.Sequence → AttributeState
    after code.None = t
    after (code.Some q) = linked_by crew t place q

    link_state : (f : Found) (P : Profile) (a b : ℕ) → state_of (after (sequence_of f)) ≡ render_sequence P a b (state_of t) place (link_in crew f)
    unfolding after linked_by sequence_of link_in render_sequence state_of
    link_state missing P a b = refl
    link_state (found (hyperlink p m) j) P a b = refl
    link_state (found (sgr os) j) P a b = refl
    link_state (found erase_to_end j) P a b = refl
    link_state (found ignored j) P a b = refl
    link_state (found (line_drawing d) j) P a b = refl

    link_torn : (f : Found) → (after (sequence_of f)).torn ≡ t.torn
    unfolding after linked_by sequence_of
    link_torn missing = refl
    link_torn (found (hyperlink p m) j) = refl
    link_torn (found (sgr os) j) = refl
    link_torn (found erase_to_end j) = refl
    link_torn (found ignored j) = refl
    link_torn (found (line_drawing d) j) = refl

    found_done : (r : AttributeState) (q : code.Option sequence.Sequence) → kind ≡ 7 → q ≡ sequence_of (parse (slice (place + 1) (length line) line)) → r ≡ after q → SequenceDone crew line kind place t r
    found_done r q k e f =
        let g : r ≡ after (sequence_of (parse (drop (place + 1) line))) = f ∙ ap after (e ∙ ap (λ (l : List ℕ). sequence_of (parse l)) (slice_is line place)) in
        let h : record_sequence crew line kind place ≡ link_in crew (parse (drop (place + 1) line)) = record_here crew line kind place here ∙ rw k refl in
        record { state = λ P a b. ap state_of g ∙ link_state (parse (drop (place + 1) line)) P a b ∙ ap (render_sequence P a b (state_of t) place) (sym h); torn = ap (λ (x : AttributeState). x.torn) g ∙ link_torn (parse (drop (place + 1) line)) }

    pub sequence_link : (r : AttributeState) (q : sequence.Sequence) → kind ≡ 7 → code.Some q ≡ sequence_of (parse (slice (place + 1) (length line) line)) → r ≡ linked_by crew t place q → SequenceDone crew line kind place t r
    unfolding after
    sequence_link r q k e f = found_done r (code.Some q) k e f

    pub sequence_missing : kind ≡ 7 → code.None ≡ sequence_of (parse (slice (place + 1) (length line) line)) → SequenceDone crew line kind place t t
    unfolding after
    sequence_missing k e = found_done t code.None k e refl

    pub sequence_drawing : (r : AttributeState) (b : ℕ) → kind ≡ 8 → b ≡ get_or line (place + 2) 0 → r ≡ record { attrs = t.attrs; drawing = eqb b 0x30; changed = t.changed; style = t.style; fill = t.fill; torn = t.torn; position = t.position } → SequenceDone crew line kind place t r
    unfolding render_sequence state_of
    sequence_drawing r b k e f =
        let q : record_sequence crew line kind place ≡ line_drawing (eqb (get_or line (place + 2) 0) 0x30) = record_here crew line kind place here ∙ rw k refl in
        rw (f, e) record { state = λ P a c. rw q refl; torn = refl }

    pub sequence_erase : (r : AttributeState) → kind ≡ 13 → r ≡ record { attrs = t.attrs; drawing = t.drawing; changed = t.changed; style = t.style; fill = t.attrs.colors.background; torn = t.torn; position = t.position } → SequenceDone crew line kind place t r
    unfolding render_sequence state_of
    sequence_erase r k e =
        let q : record_sequence crew line kind place ≡ erase_to_end = record_here crew line kind place here ∙ rw k refl in
        rw e record { state = λ P a b. rw q refl; torn = refl }

    pub sequence_other : (kind ≢ 6) → (kind ≢ 7) → (kind ≢ 8) → (kind ≢ 13) → SequenceDone crew line kind place t t
    sequence_other a b c d = same_state (record_here crew line kind place here ∙ rw (ne_eqb kind 6 a, ne_eqb kind 7 b, ne_eqb kind 8 c, ne_eqb kind 13 d) refl)

module _ (crew : Bool) (line : List ℕ) (place : ℕ) (t : AttributeState) (here : place < length line) where
  pub sequence_else : (k : SpanKind) → (k ≢ SgrSequence) → (k ≢ Hyperlink) → (k ≢ LineDrawing) → (k ≢ EraseToEndOfLine) → SequenceDone crew line (number_of_kind k) place t t
  sequence_else SgrSequence a b c d = absurd (a refl)
  sequence_else Hyperlink a b c d = absurd (b refl)
  sequence_else LineDrawing a b c d = absurd (c refl)
  sequence_else EraseToEndOfLine a b c d = absurd (d refl)
  sequence_else Text a b c d = same_state crew line 1 place t (record_here crew line 1 place here)
  sequence_else Match a b c d = same_state crew line 2 place t (record_here crew line 2 place here)
  sequence_else Control a b c d = same_state crew line 3 place t (record_here crew line 3 place here)
  sequence_else Invalid a b c d = same_state crew line 4 place t (record_here crew line 4 place here)
  sequence_else Unprintable a b c d = same_state crew line 5 place t (record_here crew line 5 place here)
  sequence_else Ignore a b c d = same_state crew line 9 place t (record_here crew line 9 place here)
  sequence_else Tab a b c d = same_state crew line 10 place t (record_here crew line 10 place here)
  sequence_else CrLf a b c d = same_state crew line 11 place t (record_here crew line 11 place here)
  sequence_else Lf a b c d = same_state crew line 12 place t (record_here crew line 12 place here)

-- a sequence keeps the position
pub sequence_position : (P : Profile) (a b : ℕ) (t : State) (place : ℕ) (q : Sequence) → (render_sequence P a b t place q).position ≡ t.position
unfolding render_sequence
sequence_position P a b t place (sgr os) = refl
sequence_position P a b t place (hyperlink p n) = refl
sequence_position P a b t place (line_drawing d) = refl
sequence_position P a b t place erase_to_end = refl
sequence_position P a b t place ignored = refl
