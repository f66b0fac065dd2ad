-- One span, by its kind.
use mathlib.Core.Path.{◌≡◌, refl, sym, ap}
use mathlib.Core.Logic.{◌≢◌, ◌⊎◌, inl, inr}
use Prim.Native.Nat.{ℕ, ◌+◌, ◌*◌, ◌≤◌, ◌<◌}
use native.Mathlib.Omega.{arith}
use mathlib.Core.Bool.{Bool, false, ◌||◌}
use mathlib.Core.List.{List, [], append-nil}
use lib.ListN.{length, take, drop, get_or, length-take, length-drop}
use lib.Dec.{eqb, leb}
use borrow.Author.Tests.{ne_eqb, leb-true, leb-false}
use Rattle.text.specs.Tests.{cases}
use Rattle.text.specs.Utf8.{Scalar}
use Rattle.text.specs.Width.{width_of}
use Rattle.text.specs.Class.Code.{profile_of}
use Rattle.text.specs.Width.Laws.{width_size}
use Rattle.text.specs.Utf8.Code.Laws.{run_valid, run_fits}
use Rattle.text.specs.TextParts.{text_at}
use Rattle.text.specs.declared.class.Profile as profile
use Rattle.spans.specs.Spans.{Record}
use Rattle.spans.specs.Spans.Kinds.{number_of_kind, NamesNoKind}
use Rattle.spans.specs.declared.kind.SpanKind.{SpanKind}
use Rattle.spans.specs.declared.kind.SpanKind.TheVariants.{Text, Match, Control, Invalid, Unprintable, SgrSequence, Hyperlink, LineDrawing, Ignore, Tab, CrLf, Lf, EraseToEndOfLine}
use Rattle.spans.specs.Spans.ContentLaw.{text_in}
use Rattle.spans.specs.Spans.RecordSpans.{text_in_is}
use Rattle.drawing.specs.Draw.{State, sent, write_truncated, render_sequence}
use Rattle.drawing.specs.Attributes.{control}
use Rattle.drawing.specs.Marks.{byte_mark}
use Rattle.drawing.specs.Attributes.Code.{style_of}
use Rattle.drawing.specs.State.{state_of, Wrote}
use Rattle.drawing.specs.LineDrawing.{shown_text}
use Rattle.drawing.specs.Write.{WriteReady, writing}
use Rattle.drawing.specs.Marks.Contracts.{marking, tabbing, MarksWrote}
use Rattle.drawing.specs.Rendering.{is_crew, match_style, record_sequence, SequenceDone, SpanReady, render_record, SpanDrawn}
use Rattle.drawing.specs.declared.attributes.Style as code
use Rattle.drawing.specs.declared.attributes.Style.TheVariants.{File}
use Rattle.drawing.specs.declared.state.AttributeState.{AttributeState}
use Rattle.drawing.specs.declared.render.Rendering.{Rendering}
use Rattle.drawing.proofs.LineDrawing.{line_drawn_columns}
use Rattle.drawing.proofs.Marks.{byte_is, tab_near, mark_near}
use Rattle.drawing.proofs.Sequences.{sequence_past, sequence_other, sequence_position}
use Rattle.drawing.proofs.WindowTexts.{wrote_none, written_position}

shown_width : (f : profile.Profile) (s : List ℕ) (d : Bool) → width_of (profile_of f) (shown_text d (text_at s 0)) ≤ 2 * length s
shown_width f s d =
    let t : List Scalar = text_at s 0 in
    let h : width_of (profile_of f) t ≤ 2 * length s = omega (arith, width_size f (run_valid s), run_fits s t [] (sym (append-nil t))) in
    cases d (λ e. rw (e, line_drawn_columns f t) h) (λ e. rw e h)

module _ (d : Rendering) (line l : List ℕ) (at : ℕ) (t : AttributeState) (r : Record) (ready : SpanReady line t) where
  abbrev part : List ℕ
  part = take r.len (drop r.place.0 line)

  part_length : (s : List ℕ) → s ≡ part → length s ≤ length line
  part_length s e = rw (e, length-take, length-drop) (omega arith)

  pub text_ready : (s : List ℕ) → s ≡ part → WriteReady s t
  text_ready s e = record { short = omega (arith, part_length s e, ready.short); room = omega (arith, part_length s e, ready.room) }

  -- ---- by the kind

  abbrev Drawn : List ℕ → ℕ → AttributeState → Type 0
  Drawn l' at' t' = SpanDrawn d line l at t r l' at' t'

  part_text : (s : List ℕ) → s ≡ part → text_in r.len (drop r.place.0 line) ≡ text_at s 0
  part_text s e = rw e (text_in_is r.len (drop r.place.0 line))

  text_near : (s : List ℕ) (k : code.Style) (l' : List ℕ) (at' : ℕ) (t' : AttributeState) → s ≡ part → Wrote l at t (writing d.window s t k) l' at' t' → t'.position.0 ≤ t.position.0 + (20 * length line + 16)
  unfolding state_of
  text_near s k l' at' t' e h = omega (arith, written_position d.window l l' at at' t t' (style_of k) (shown_text t.drawing (text_at s 0)) h, shown_width d.window.profile s t.drawing, part_length s e)

  other_kind : (u : State) → (eqb r.kind 1 || eqb r.kind 2) ≡ false → (eqb r.kind 3 || (eqb r.kind 4 || eqb r.kind 10)) ≡ false → eqb r.kind 5 ≡ false
      → render_record d line u r ≡ sent [] (render_sequence (profile_of d.window.profile) d.window.start.0 d.window.end.0 u r.place.0 (record_sequence (is_crew d.view.reader) line r.kind r.place.0))
  unfolding render_record
  other_kind u p q k = rw (p, q, k) refl

  sequence_drawn : (u : AttributeState) → render_record d line (state_of t) r ≡ sent [] (render_sequence (profile_of d.window.profile) d.window.start.0 d.window.end.0 (state_of t) r.place.0 (record_sequence (is_crew d.view.reader) line r.kind r.place.0))
      → SequenceDone (is_crew d.view.reader) line r.kind r.place.0 t u → Drawn l at u
  unfolding state_of
  sequence_drawn u x h =
      let e = h.state (profile_of d.window.profile) d.window.start.0 d.window.end.0 in
      record {
        wrote = rw x (wrote_none l at t u _ e h.torn);
        near = omega (arith, ap (λ (x : State). x.position) e, sequence_position (profile_of d.window.profile) d.window.start.0 d.window.end.0 (state_of t) r.place.0 (record_sequence (is_crew d.view.reader) line r.kind r.place.0));
      }

  module _ (k : SpanKind) (named : number_of_kind k ≡ r.kind) where
    pub span_text : (s : List ℕ) (l' : List ℕ) (at' : ℕ) (t' : AttributeState) → k ≡ Text → s ≡ part → Wrote l at t (writing d.window s t File) l' at' t' → Drawn l' at' t'
    unfolding render_record state_of
    span_text s l' at' t' f e h = let n : 1 ≡ r.kind = rw f at named in record { wrote = rw (← n, part_text s e) h; near = text_near s File l' at' t' e h }

    pub span_match : (s : List ℕ) (x : code.Style) (l' : List ℕ) (at' : ℕ) (t' : AttributeState) → k ≡ Match → s ≡ part → x ≡ match_style d.view.current r.matched
        → Wrote l at t (writing d.window s t x) l' at' t' → Drawn l' at' t'
    unfolding render_record state_of
    span_match s x l' at' t' f e q h = let n : 2 ≡ r.kind = rw f at named in record { wrote = rw (← n, part_text s e, ← q) h; near = text_near s x l' at' t' e h }

    byte_record : (u : State) → (k ≡ Control) ⊎ (k ≡ Invalid) → render_record d line u r ≡ write_truncated (profile_of d.window.profile) d.window.start.0 d.window.end.0 u control (byte_mark (get_or line r.place.0 0))
    unfolding render_record style_of
    byte_record u (inl f) = let n : 3 ≡ r.kind = rw f at named in rw (← n) refl
    byte_record u (inr f) = let n : 4 ≡ r.kind = rw f at named in rw (← n) refl

    pub span_byte : (b : ℕ) (l' : List ℕ) (at' : ℕ) (t' : AttributeState) → (k ≡ Control) ⊎ (k ≡ Invalid) → b ≡ get_or line r.place.0 0 → b < 256 → Wrote l at t (marking d.window b 4 t) l' at' t' → Drawn l' at' t'
    span_byte b l' at' t' f e w h = record { wrote = rw (byte_record (state_of t) f, ← e, byte_is b w) h; near = omega (arith, mark_near d.window l at t l' at' t' b 4 h) }

    pub span_tab : (l' : List ℕ) (at' : ℕ) (t' : AttributeState) → k ≡ Tab → Wrote l at t (tabbing d.window t) l' at' t' → Drawn l' at' t'
    unfolding render_record state_of style_of
    span_tab l' at' t' f h = let n : 10 ≡ r.kind = rw f at named in record { wrote = rw (← n) h; near = omega (arith, tab_near d.window l at t l' at' t' h) }

    pub span_marks : (s : List ℕ) (l' : List ℕ) (at' : ℕ) (t' : AttributeState) → k ≡ Unprintable → s ≡ part → MarksWrote d.window s l at t l' at' t' → Drawn l' at' t'
    unfolding render_record
    span_marks s l' at' t' f e h = let n : 5 ≡ r.kind = rw f at named in record { wrote = rw (← n, part_text s e) h.wrote; near = omega (arith, h.near, part_length s e) }

  pub span_sequence : (k : SpanKind) → number_of_kind k ≡ r.kind → (u : AttributeState) → (k ≢ Text) → (k ≢ Match) → (k ≢ Control) → (k ≢ Invalid) → (k ≢ Unprintable) → (k ≢ Tab)
      → SequenceDone (is_crew d.view.reader) line (number_of_kind k) r.place.0 t u → Drawn l at u
  span_sequence Text e u a b c f g i h = absurd (a refl)
  span_sequence Match e u a b c f g i h = absurd (b refl)
  span_sequence Control e u a b c f g i h = absurd (c refl)
  span_sequence Invalid e u a b c f g i h = absurd (f refl)
  span_sequence Unprintable e u a b c f g i h = absurd (g refl)
  span_sequence Tab e u a b c f g i h = absurd (i refl)
  span_sequence SgrSequence e u a b c f g i h = sequence_drawn u (other_kind (state_of t) (rw (← e) refl) (rw (← e) refl) (rw (← e) refl)) (rw e at h)
  span_sequence Hyperlink e u a b c f g i h = sequence_drawn u (other_kind (state_of t) (rw (← e) refl) (rw (← e) refl) (rw (← e) refl)) (rw e at h)
  span_sequence LineDrawing e u a b c f g i h = sequence_drawn u (other_kind (state_of t) (rw (← e) refl) (rw (← e) refl) (rw (← e) refl)) (rw e at h)
  span_sequence Ignore e u a b c f g i h = sequence_drawn u (other_kind (state_of t) (rw (← e) refl) (rw (← e) refl) (rw (← e) refl)) (rw e at h)
  span_sequence CrLf e u a b c f g i h = sequence_drawn u (other_kind (state_of t) (rw (← e) refl) (rw (← e) refl) (rw (← e) refl)) (rw e at h)
  span_sequence Lf e u a b c f g i h = sequence_drawn u (other_kind (state_of t) (rw (← e) refl) (rw (← e) refl) (rw (← e) refl)) (rw e at h)
  span_sequence EraseToEndOfLine e u a b c f g i h = sequence_drawn u (other_kind (state_of t) (rw (← e) refl) (rw (← e) refl) (rw (← e) refl)) (rw e at h)

  -- a record of no kind
  pub span_none : NamesNoKind r.kind → Drawn l at t
  span_none h =
      let n : (k : ℕ) → 1 ≤ k → k ≤ 13 → eqb r.kind k ≡ false = λ k low high. ne_eqb r.kind k (λ e. let g : 13 < r.kind = h (omega (arith, e, low)) in omega (arith, e, high)) in
      let m : (k : ℕ) → 1 ≤ k → k ≤ 13 → r.kind ≢ k = λ k low high e. let g : 13 < r.kind = h (omega (arith, e, low)) in omega (arith, e, high) in
      sequence_drawn t
      (other_kind (state_of t) (rw (n 1 (omega arith) (omega arith), n 2 (omega arith) (omega arith)) refl) (rw (n 3 (omega arith) (omega arith), n 4 (omega arith) (omega arith), n 10 (omega arith) (omega arith)) refl) (n 5 (omega arith) (omega arith)))
      (cases (leb (length line) r.place.0)
      (λ e. sequence_past (is_crew d.view.reader) line r.kind r.place.0 t (leb-true (length line) r.place.0 e))
      (λ e. sequence_other (is_crew d.view.reader) line r.kind r.place.0 t (leb-false (length line) r.place.0 e) (m 6 (omega arith) (omega arith)) (m 7 (omega arith) (omega arith)) (m 8 (omega arith) (omega arith)) (m 13 (omega arith) (omega arith))))
