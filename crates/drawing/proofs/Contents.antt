-- What a record sends is what its span sends, where the span holds what its record says of the line.
use mathlib.Core.Path.{◌≡◌, refl, sym, ap, ◌∙◌}
use Prim.Native.Nat.{ℕ, ◌+◌, ◌<◌}
use native.Mathlib.Omega.{arith}
use mathlib.Core.Bool.{Bool, true, false, cond, ◌||◌}
use mathlib.Core.List.{List, [], ◌++◌, map, append_assoc}
use mathlib.Core.Option.{Option, none, some}
use Rattle.std.specs.Prelude as code
use lib.ListN.{length, drop, get_or, length-drop}
use lib.Seq.{drop-drop, get_or-drop}
use lib.Dec.{eqb, leb}
use Rattle.text.specs.Tests.{cases}
use Rattle.text.specs.Each.{All, all_nil, all_cons}
use Rattle.text.specs.Utf8.{Scalar}
use Rattle.text.specs.Class.{Profile}
use Rattle.text.specs.Class.Code.{profile_of}
use Rattle.spans.specs.Sgr.{parameters, orders}
use Rattle.spans.specs.Sequence.{Sequence, sgr, erase_to_end, ignored, hyperlink, line_drawing, found, parse}
use Rattle.spans.specs.Sequence.Laws.{parse_orders, parse_drawing, parse_some}
use Rattle.spans.specs.Spans.{Content, text, control, invalid, unprintable, escape, tab, crlf, lf, Span, a_record, kind_of, match_of, record_of, records}
use Rattle.spans.specs.Spans.ContentLaw.{sequence_in, text_in, content_in, content_of}
use Rattle.spans.specs.Spans.RecordSpans.{sequence_in_found}
use Rattle.spans.specs.Sgr.Contracts.{orders_at}
use Rattle.drawing.specs.Attributes.{Style, file}
use Rattle.drawing.specs.Change.{Change}
use Rattle.drawing.specs.Draw.{State, Sent, sent, write_truncated, write_marks, render_sequence, text_style, render_span, render_spans}
use Rattle.drawing.specs.Reader.HiddenUris.{uri_length, seen, hidden_in, hidden}
use Rattle.drawing.specs.Marks.{line_drawn}
use Rattle.drawing.specs.Attributes.Code.{style_of}
use Rattle.drawing.specs.Marks.Contracts.{composed_style, composed_text}
use Rattle.drawing.specs.Rendering.{is_crew, current_in, record_style, link_in, record_sequence, render_record, render_records}
use Rattle.drawing.specs.declared.render.Rendering.{Rendering}
use Rattle.drawing.proofs.Sequences.{record_here}

-- ---- styles

style_match : (P : Profile) (start end : ℕ) (current : code.Option ℕ) (k : ℕ) → style_of (record_style 2 current k) ≡ text_style P start end (current_in current) (some k)
unfolding style_of text_style
style_match P start end code.None k = refl
style_match P start end (code.Some n) k = cases (eqb n k) (λ f. rw f refl) (λ f. rw f refl)

-- ---- sequences

module _ (line : List ℕ) (p : ℕ) where
  abbrev behind : List ℕ
  behind = drop 1 (drop p line)

  behind_is : behind ≡ drop (p + 1) line
  behind_is = drop-drop 1 p line

  inside : (e : Sequence) (n : ℕ) → parse behind ≡ found e n → p < length line
  inside e n h = omega (arith, parse_some behind e n h, length-drop 1 (drop p line), length-drop p line)

  -- ---- the sequence of a record

  none_of : (crew : Bool) (kind : ℕ) → eqb kind 6 ≡ false → eqb kind 7 ≡ false → eqb kind 8 ≡ false → eqb kind 13 ≡ false → record_sequence crew line kind p ≡ ignored
  unfolding record_sequence
  none_of crew kind a b c d = cases (leb (length line) p) (λ t. rw t refl) (λ t. rw (t, a, b, c, d) refl)

  two_behind : drop 1 behind ≡ drop (p + 2) line
  two_behind = let z : p + 1 + 1 ≡ p + 2 = omega arith in ap (drop 1) behind_is ∙ drop-drop 1 (p + 1) line ∙ ap (λ (k : ℕ). drop k line) z

  orders_at_law : orders (parameters 0 (drop 1 behind)) ≡ orders_at line (p + 2)
  orders_at_law = ap (λ (l : List ℕ). orders (parameters 0 l)) two_behind

  byte_at : get_or behind 1 0 ≡ get_or line (p + 2) 0
  byte_at = let z : p + 1 + 1 ≡ p + 2 = omega arith in ap (λ (l : List ℕ). get_or l 1 0) behind_is ∙ get_or-drop (p + 1) line 1 0 ∙ ap (λ (k : ℕ). get_or line k 0) z

  sequence_is : (crew : Bool) (e : Sequence) → sequence_in (parse behind) ≡ escape e → record_sequence crew line (kind_of (escape e)) p ≡ seen crew e
  unfolding kind_of link_in seen
  sequence_is crew (sgr os) h =
      let f = sequence_in_found (parse behind) (sgr os) h in
      record_here crew line 6 p (inside (sgr os) f.0 f.1) ∙ ap sgr (sym (parse_orders behind os f.0 f.1 ∙ orders_at_law))
  sequence_is crew (hyperlink a m) h =
      let f = sequence_in_found (parse behind) (hyperlink a m) h in
      record_here crew line 7 p (inside (hyperlink a m) f.0 f.1) ∙ ap (link_in crew) (ap parse (sym behind_is) ∙ f.1)
  sequence_is crew (line_drawing b) h =
      let f = sequence_in_found (parse behind) (line_drawing b) h in
      record_here crew line 8 p (inside (line_drawing b) f.0 f.1) ∙ ap line_drawing (sym (parse_drawing behind b f.0 f.1 ∙ ap (λ (x : ℕ). eqb x 0x30) byte_at))
  sequence_is crew erase_to_end h = let f = sequence_in_found (parse behind) erase_to_end h in record_here crew line 13 p (inside erase_to_end f.0 f.1)
  sequence_is crew ignored h = none_of crew 9 refl refl refl refl

  first_byte : get_or (drop p line) 0 0 ≡ get_or line p 0
  first_byte = let z : p + 0 ≡ p = omega arith in get_or-drop p line 0 0 ∙ ap (λ (k : ℕ). get_or line k 0) z

-- ---- a record, by its content

module _ (d : Rendering) (line : List ℕ) (t : State) (p n : ℕ) where
  abbrev P : Profile
  P = profile_of d.window.profile

  abbrev start : ℕ
  start = d.window.start.0

  abbrev end : ℕ
  end = d.window.end.0

  abbrev current : Option ℕ
  current = current_in d.view.current

  abbrev sends : ℕ → ℕ → Sent
  sends kind m = render_record d line t (a_record kind p n m)

  text_sent : (kind m : ℕ) (k : Style) (x : List Scalar) → (eqb kind 1 || eqb kind 2) ≡ true → style_of (record_style kind d.view.current m) ≡ k → text_in n (drop p line) ≡ x
      → sends kind m ≡ write_truncated P start end t k (cond t.line_drawing (line_drawn x) x)
  unfolding render_record
  text_sent kind m k x b e f = rw (b, e, f) refl

  composed_sent : (kind b : ℕ) → (eqb kind 1 || eqb kind 2) ≡ false → (eqb kind 3 || (eqb kind 4 || eqb kind 10)) ≡ true → get_or line p 0 ≡ b
      → sends kind 0 ≡ write_truncated P start end t (style_of (composed_style kind)) (composed_text kind b t.position)
  unfolding render_record
  composed_sent kind b e f g = rw (e, f, g) refl

  marks_sent : (x : List Scalar) → text_in n (drop p line) ≡ x → sends 5 0 ≡ write_marks P start end t x
  unfolding render_record
  marks_sent x e = rw e refl

  sequence_sent : (kind : ℕ) (e : Sequence) → (eqb kind 1 || eqb kind 2) ≡ false → (eqb kind 3 || (eqb kind 4 || eqb kind 10)) ≡ false → eqb kind 5 ≡ false → record_sequence (is_crew d.view.reader) line kind p ≡ e
      → sends kind 0 ≡ sent [] (render_sequence P start end t p e)
  unfolding render_record
  sequence_sent kind e a b c f = rw (a, b, c, f) refl

  nothing_sent : (kind : ℕ) → (eqb kind 1 || eqb kind 2) ≡ false → (eqb kind 3 || (eqb kind 4 || eqb kind 10)) ≡ false → eqb kind 5 ≡ false → eqb kind 6 ≡ false → eqb kind 7 ≡ false → eqb kind 8 ≡ false → eqb kind 13 ≡ false
      → sends kind 0 ≡ sent [] t
  unfolding render_sequence
  nothing_sent kind a b c x y z w = sequence_sent kind ignored a b c (none_of line p (is_crew d.view.reader) kind x y z w)

  record_drawn : (c : Content) → content_of line (a_record (kind_of c) p n (match_of c)) ≡ c → render_record d line t (a_record (kind_of c) p n (match_of c)) ≡ render_span P start end current t p (hidden_in (is_crew d.view.reader) c)
  unfolding content_of content_in kind_of match_of hidden_in seen render_span text_style style_of
  record_drawn (text none s) e = text_sent 1 0 file s refl refl (let q : text_in n (drop p line) ≡ s = cc in q)
  record_drawn (text (some k) s) e = text_sent 2 k (text_style P start end current (some k)) s refl (style_match P start end d.view.current k) (let q : text_in n (drop p line) ≡ s = cc in q)
  record_drawn (control b) e = composed_sent 3 b refl refl (sym (first_byte line p) ∙ (let q : get_or (drop p line) 0 0 ≡ b = cc in q))
  record_drawn (invalid b) e = composed_sent 4 b refl refl (sym (first_byte line p) ∙ (let q : get_or (drop p line) 0 0 ≡ b = cc in q))
  record_drawn (unprintable s) e = marks_sent s (let q : text_in n (drop p line) ≡ s = cc in q)
  record_drawn (escape (sgr os)) e = sequence_sent 6 (sgr os) refl refl refl (sequence_is line p (is_crew d.view.reader) (sgr os) e)
  record_drawn (escape (hyperlink a m)) e = sequence_sent 7 (hyperlink a (uri_length (is_crew d.view.reader) m)) refl refl refl (sequence_is line p (is_crew d.view.reader) (hyperlink a m) e)
  record_drawn (escape (line_drawing b)) e = sequence_sent 8 (line_drawing b) refl refl refl (sequence_is line p (is_crew d.view.reader) (line_drawing b) e)
  record_drawn (escape ignored) e = sequence_sent 9 ignored refl refl refl (sequence_is line p (is_crew d.view.reader) ignored e)
  record_drawn (escape erase_to_end) e = sequence_sent 13 erase_to_end refl refl refl (sequence_is line p (is_crew d.view.reader) erase_to_end e)
  record_drawn tab e = composed_sent 10 (get_or line p 0) refl refl refl
  record_drawn crlf e = nothing_sent 11 refl refl refl refl refl refl refl
  record_drawn lf e = nothing_sent 12 refl refl refl refl refl refl refl

-- all spans, and then what `close` makes of the state after them
pub records_drawn : (d : Rendering) (line : List ℕ) (close : State → List Change) {ss : List Span} → All (λ (s : Span). content_of line (record_of s) ≡ s.content) ss → (t : State)
    → render_spans (profile_of d.window.profile) d.window.start.0 d.window.end.0 (current_in d.view.current) close t (map (hidden (is_crew d.view.reader)) ss)
    ≡ (render_records d line t (records ss)).changes ++ close (render_records d line t (records ss)).after
unfolding render_spans render_records records record_of hidden
records_drawn d line close all_nil t = refl
records_drawn d line close (all_cons {a = s} {s = ss} h a) t =
    let e = record_drawn d line t s.place s.len s.content h in
    let x : Sent = render_record d line t (record_of s) in
    let y : Sent = render_records d line x.after (records ss) in
    ap (λ (z : Sent). z.changes ++ render_spans (profile_of d.window.profile) d.window.start.0 d.window.end.0 (current_in d.view.current) close z.after (map (hidden (is_crew d.view.reader)) ss)) (sym e)
    ∙ ap (λ (cs : List Change). x.changes ++ cs) (records_drawn d line close a x.after) ∙ sym (append_assoc x.changes y.changes (close y.after))
