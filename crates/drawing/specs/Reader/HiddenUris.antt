-- What the crew is sent is the drawing of spans whose hyperlinks have no URI.
use Rattle.std.specs.Prelude.{◌≡◌, ℕ, zero, suc, ◌-◌, ◌%◌, Bool, true, false, cond, not, ◌&&◌, eqb, ltb}
use Rattle.std.proofs.Math.Path.{refl, sym, ap}
use Rattle.std.proofs.Common.{ap₂, ◌∙◌}
use mathlib.Core.List.{List, [], ◌∷◌, ◌++◌, map}
use Rattle.std.proofs.Math.Option.{Option}
use Rattle.text.specs.Tests.{cases}
use Rattle.text.specs.Utf8.{Scalar}
use Rattle.text.specs.Class.{Profile}
use Rattle.text.specs.Width.{width_of}
use Rattle.spans.specs.Sequence.{Sequence, sgr, erase_to_end, ignored, hyperlink, line_drawing}
use Rattle.spans.specs.Spans.{Content, text, control, invalid, unprintable, escape, tab, crlf, lf, Span, span}
use Rattle.spans.specs.Spans.Laws.{map_append}
use Rattle.spans.specs.declared.sgr.Sgr.{Sgr}
use Rattle.spans.specs.declared.sgr.Sgr.TheVariants.{Reset, Intensity, Underline, Blink, VerticalAlign, Italic, Inverse, Invisible, StrikeThrough, Overline, Foreground, Background, UnderlineColor}
use Rattle.drawing.specs.declared.attributes.Attributes.{Attributes}
use Rattle.drawing.specs.Attributes as attributes
use Rattle.drawing.specs.Attributes.{Style, file, match, current_match, number, apply, apply_all, linked, styled, plain, arrows}
use Rattle.drawing.specs.Clip.{clip, spaces}
use Rattle.drawing.specs.Marks.{byte_mark, scalar_mark, line_drawn}
use Rattle.drawing.specs.Change.{Change}
use Rattle.drawing.specs.Draw.{State, state, Sent, sent, style, move, meets, windowed, write_truncated, write_marks, render_sequence, text_style, render_span, render_spans, initial, left_arrow, right_arrow, close_window, close_rows}
use Rattle.drawing.specs.Reader.{unlinked, without_uri, seen_by}
use Rattle.drawing.specs.Reader.Laws.{clipped_same}

-- the length of a URI, as the crew is told it or not
abbrev pub uri_length : Bool → ℕ → ℕ
uri_length crew n = cond crew 0 n

unfoldable pub seen : Bool → Sequence → Sequence
seen crew (hyperlink a n) = hyperlink a (uri_length crew n)
seen crew (sgr os) = sgr os
seen crew erase_to_end = erase_to_end
seen crew ignored = ignored
seen crew (line_drawing b) = line_drawing b

unfoldable pub hidden_in : Bool → Content → Content
unfolding seen
hidden_in crew (escape e) = escape (seen crew e)
hidden_in crew (text m s) = text m s
hidden_in crew (control b) = control b
hidden_in crew (invalid b) = invalid b
hidden_in crew (unprintable s) = unprintable s
hidden_in crew tab = tab
hidden_in crew crlf = crlf
hidden_in crew lf = lf

unfoldable pub hidden : Bool → Span → Span
unfolding hidden_in
hidden crew s = span s.place s.len (hidden_in crew s.content)

-- ---- the state without a link

bare : State → State
bare t = state (unlinked t.attrs) t.line_drawing t.changed t.style t.end_of_line t.position

without : Sent → Sent
without x = sent (map without_uri x.changes) (bare x.after)

apply_bare : (a : Attributes) (o : Sgr) → apply (unlinked a) o ≡ unlinked (apply a o)
unfolding apply unlinked
apply_bare a Reset = refl
apply_bare a (Intensity x) = refl
apply_bare a (Underline x) = refl
apply_bare a (Blink x) = refl
apply_bare a (VerticalAlign x) = refl
apply_bare a (Italic x) = refl
apply_bare a (Inverse x) = refl
apply_bare a (Invisible x) = refl
apply_bare a (StrikeThrough x) = refl
apply_bare a (Overline x) = refl
apply_bare a (Foreground x) = refl
apply_bare a (Background x) = refl
apply_bare a (UnderlineColor x) = refl

apply_all_bare : (os : List Sgr) (a : Attributes) → apply_all (unlinked a) os ≡ unlinked (apply_all a os)
unfolding apply_all
apply_all_bare [] a = refl
apply_all_bare (o ∷ os) a = ap (λ (b : Attributes). apply_all b os) (apply_bare a o) ∙ apply_all_bare os (apply a o)

styled_bare : (a : Attributes) (s : Style) → styled (unlinked a) s ≡ unlinked (styled a s)
unfolding styled unlinked
styled_bare a file = refl
styled_bare a attributes.control = refl
styled_bare a match = refl
styled_bare a current_match = refl

linked_bare : (a : Attributes) (p n : ℕ) → linked (unlinked a) p 0 ≡ unlinked (linked a p n)
unfolding linked unlinked
linked_bare a p zero = refl
linked_bare a p (suc n) = refl

style_bare : (t : State) (s : Style) → style (bare t) s ≡ without (style t s)
unfolding style bare without without_uri
style_bare t s =
    cases (eqb (number t.style) (number s) && not t.changed)
    (λ e. rw e)
    (λ e. rw (e, styled_bare t.attrs s))

module _ (P : Profile) (start end : ℕ) where
  write_bare : (t : State) (s : Style) (x : List Scalar) → write_truncated P start end (bare t) s x ≡ without (write_truncated P start end t s x)
  unfolding write_truncated move bare without
  write_bare t s x =
      cases (meets P start end t (width_of P x))
      (λ e. rw (e, style_bare t s, map_append without_uri (style t s).changes (windowed P start end t x ∷ []), clipped_same (clip P (start - t.position) (end - t.position - (start - t.position)) x)))
      (λ e. rw e)

  marks_bare : (s : List Scalar) (t : State) → write_marks P start end (bare t) s ≡ without (write_marks P start end t s)
  unfolding write_marks without
  marks_bare [] t = refl
  marks_bare (c ∷ s) t =
      let x : Sent = write_truncated P start end t attributes.control (scalar_mark c.code) in
      let y : Sent = write_marks P start end x.after s in
      rw (write_bare t attributes.control (scalar_mark c.code), marks_bare s x.after, map_append without_uri x.changes y.changes)

  span_bare : (current : Option ℕ) (t : State) (p : ℕ) (c : Content) → render_span P start end current (bare t) p (hidden_in true c) ≡ without (render_span P start end current t p c)
  unfolding render_span render_sequence hidden_in seen bare without unlinked
  span_bare current t p (text m s) = write_bare t (text_style P start end current m) (cond t.line_drawing (line_drawn s) s)
  span_bare current t p (control b) = write_bare t attributes.control (byte_mark b)
  span_bare current t p (invalid b) = write_bare t attributes.control (byte_mark b)
  span_bare current t p (unprintable s) = marks_bare s t
  span_bare current t p (escape (sgr os)) = rw (apply_all_bare os t.attrs)
  span_bare current t p (escape (hyperlink a n)) = rw (linked_bare t.attrs _ n)
  span_bare current t p (escape (line_drawing b)) = refl
  span_bare current t p (escape erase_to_end) = refl
  span_bare current t p (escape ignored) = refl
  span_bare current t p tab = write_bare t file (spaces (8 - t.position % 8))
  span_bare current t p crlf = refl
  span_bare current t p lf = refl

  spans_bare : (current : Option ℕ) (close : State → List Change) → ((t : State) → close (bare t) ≡ map without_uri (close t)) → (ss : List Span) (t : State)
      → render_spans P start end current close (bare t) (map (hidden true) ss) ≡ map without_uri (render_spans P start end current close t ss)
  unfolding render_spans hidden without
  spans_bare current close f [] t = f t
  spans_bare current close f (s ∷ ss) t =
      let x : Sent = render_span P start end current t s.place s.content in
      ap (λ (y : Sent). y.changes ++ render_spans P start end current close y.after (map (hidden true) ss)) (span_bare current t s.place s.content)
      ∙ ap (λ (cs : List Change). map without_uri x.changes ++ cs) (spans_bare current close f ss x.after)
      ∙ sym (map_append without_uri x.changes (render_spans P start end current close x.after ss))

-- ---- what stands before and behind the spans names no URI

arrow_bare : map without_uri left_arrow ≡ left_arrow
unfolding without_uri unlinked left_arrow arrows apply_all apply plain
arrow_bare = refl

window_bare : (end : ℕ) (t : State) → close_window end (bare t) ≡ map without_uri (close_window end t)
unfolding close_window right_arrow without_uri unlinked arrows apply_all apply plain bare
window_bare end t = cases (ltb end t.position) (λ e. rw e) (λ e. cases (ltb t.position end) (λ f. rw (e, f)) (λ f. rw (e, f)))

rows_bare : (room : Bool) (t : State) → close_rows room (bare t) ≡ map without_uri (close_rows room t)
unfolding close_rows without_uri unlinked plain bare
rows_bare room t = cases room (λ e. rw e) (λ e. rw e)

-- ---- each reader

-- the bench is shown spans as they are
seen_all : (e : Sequence) → seen false e ≡ e
unfolding seen
seen_all (sgr os) = refl
seen_all (hyperlink a n) = refl
seen_all (line_drawing b) = refl
seen_all erase_to_end = refl
seen_all ignored = refl

hidden_none : (c : Content) → hidden_in false c ≡ c
unfolding hidden_in
hidden_none (escape e) = ap escape (seen_all e)
hidden_none (text m s) = refl
hidden_none (control b) = refl
hidden_none (invalid b) = refl
hidden_none (unprintable s) = refl
hidden_none tab = refl
hidden_none crlf = refl
hidden_none lf = refl

none_hidden : (ss : List Span) → map (hidden false) ss ≡ ss
unfolding hidden
none_hidden [] = refl
none_hidden (s ∷ ss) = ap₂ (λ (c : Content) (l : List Span). span s.place s.len c ∷ l) (hidden_none s.content) (none_hidden ss)

module _ (reader : ℕ) where
  pub seen_append : (cs ds : List Change) → seen_by reader (cs ++ ds) ≡ seen_by reader cs ++ seen_by reader ds
  unfolding seen_by
  seen_append cs ds = cases (eqb reader 1) (λ e. rw e (map_append without_uri cs ds)) (λ e. rw e)

  pub arrow_seen : seen_by reader left_arrow ≡ left_arrow
  unfolding seen_by
  arrow_seen = cases (eqb reader 1) (λ e. rw e arrow_bare) (λ e. rw e)

  module _ (P : Profile) (start end : ℕ) (current : Option ℕ) (ss : List Span) where
    spans_seen : (close : State → List Change) → ((t : State) → close (bare t) ≡ map without_uri (close t))
        → seen_by reader (render_spans P start end current close initial ss) ≡ render_spans P start end current close initial (map (hidden (eqb reader 1)) ss)
    unfolding seen_by initial bare unlinked plain
    spans_seen close f = cases (eqb reader 1) (λ e. rw e (sym (spans_bare P start end current close f ss initial))) (λ e. rw (e, none_hidden ss))

    pub window_seen : (last : ℕ) → seen_by reader (render_spans P start end current (close_window last) initial ss) ≡ render_spans P start end current (close_window last) initial (map (hidden (eqb reader 1)) ss)
    window_seen last = spans_seen (close_window last) (window_bare last)

    pub rows_seen : (room : Bool) → seen_by reader (render_spans P start end current (close_rows room) initial ss) ≡ render_spans P start end current (close_rows room) initial (map (hidden (eqb reader 1)) ss)
    rows_seen room = spans_seen (close_rows room) (rows_bare room)
