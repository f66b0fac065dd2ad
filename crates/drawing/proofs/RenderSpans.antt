-- The spans of a line, drawn one after the other.
use mathlib.Core.Path.{◌≡◌, refl, sym, ap, subst, ◌∙◌}
use Prim.Native.Nat.{ℕ, ◌+◌, ◌*◌, ◌≤◌, ◌<◌}
use native.Mathlib.Numerals.{add-one}
use native.Mathlib.Omega.{arith}
use mathlib.Core.List.{List, [], ◌∷◌, ◌++◌, append-nil, append_assoc}
use lib.ListN.{length, take, get_or}
use lib.Seq.{take_all, take-suc}
use Rattle.buffer.specs.Sink.{sink, emit}
use Rattle.buffer.specs.Sink.Laws.{then_emit}
use Rattle.spans.specs.Spans.{Record}
use Rattle.spans.specs.Calls.{no_record}
use Rattle.drawing.specs.Change.{Change, encode}
use Rattle.drawing.specs.Draw.{State, Sent, sent}
use Rattle.drawing.specs.State.{state_of, new_state, Wrote}
use Rattle.drawing.specs.Rendering.{SpanReady, render_record, render_records, SpanDrawn, opening, closing, Closed, RenderRoom, Rendered}
use Rattle.drawing.specs.declared.state.Drawn.{Drawn}
use Rattle.drawing.specs.declared.state.AttributeState.{AttributeState}
use Rattle.drawing.specs.declared.render.Rendering.{Rendering}
use Rattle.drawing.proofs.WindowTexts.{encode_append, wrote_none, wrote_then}

module _ (d : Rendering) (line : List ℕ) where
  -- one record more behind others
  with_one : (rs : List Record) (r : Record) (t : State) → render_records d line t (rs ++ r ∷ [])
      ≡ sent ((render_records d line t rs).changes ++ (render_record d line (render_records d line t rs).after r).changes) (render_record d line (render_records d line t rs).after r).after
  unfolding render_records
  with_one [] r t = ap (λ (cs : List Change). sent cs (render_record d line t r).after) (append-nil (render_record d line t r).changes)
  with_one (x ∷ rs) r t =
      let first : Sent = render_record d line t x in
      let rest : Sent = render_records d line first.after rs in
      let last : Sent = render_record d line rest.after r in
      ap (λ (s : Sent). sent (first.changes ++ s.changes) s.after) (with_one rs r first.after)
      ∙ ap (λ (cs : List Change). sent cs last.after) (sym (append_assoc first.changes rest.changes last.changes))

  none : (t : State) → render_records d line t [] ≡ sent [] t
  unfolding render_records
  none t = refl

-- the loop over the spans: after i of them
pub record SpansDrawn (d : Rendering) (line : List ℕ) (spans : List Record) (l₀ : List ℕ) (at₀ : ℕ) (i : ℕ) (l : List ℕ) (at : ℕ) (t : AttributeState) : Type 0 where
  pub inside : i ≤ length spans
  pub wrote : Wrote l₀ at₀ new_state (render_records d line (state_of new_state) (take i spans)) l at t
  pub near : t.position.0 ≤ 655376 * i

module _ (d : Rendering) (line : List ℕ) (spans : List Record) (l₀ : List ℕ) (at₀ : ℕ) (room : RenderRoom spans line) where
  abbrev before : ℕ → Sent
  before i = render_records d line (state_of new_state) (take i spans)

  pub spans_begin : SpansDrawn d line spans l₀ at₀ 0 l₀ at₀ new_state
  spans_begin =
      record {
        inside = omega arith;
        wrote = subst (λ (x : Sent). Wrote l₀ at₀ new_state x l₀ at₀ new_state) (sym (none d line (state_of new_state))) (wrote_none l₀ at₀ new_state new_state (state_of new_state) refl refl);
        near = omega arith;
      }

  module _ (i : ℕ) (l : List ℕ) (at : ℕ) (t : AttributeState) (s : SpansDrawn d line spans l₀ at₀ i l at t) where
    pub turn_room : i < length spans → SpanReady line t
    turn_room h = record { short = room.short; room = omega (arith, s.near, h, room.few, room.short) }

    next_span : i < length spans → take (i + 1) spans ≡ take i spans ++ get_or spans i no_record ∷ []
    next_span h = ap (λ (m : ℕ). take m spans) (add-one i) ∙ take-suc spans i no_record h

    pub spans_turn : (l' : List ℕ) (at' : ℕ) (t' : AttributeState) → i < length spans → SpanDrawn d line l at t (get_or spans i no_record) l' at' t' → SpansDrawn d line spans l₀ at₀ (i + 1) l' at' t'
    spans_turn l' at' t' h k =
        let r : Record = get_or spans i no_record in
        let step : Wrote l at t (render_record d line (before i).after r) l' at' t'
        = subst (λ (x : State). Wrote l at t (render_record d line x r) l' at' t') s.wrote.state k.wrote in
        record {
          inside = omega arith;
          wrote = subst (λ (x : Sent). Wrote l₀ at₀ new_state x l' at' t') (sym (ap (render_records d line (state_of new_state)) (next_span h) ∙ with_one d line (take i spans) r (state_of new_state)))
              (wrote_then l₀ l l' at₀ at at' new_state t t' (before i) (render_record d line (before i).after r) s.wrote step);
          near = omega (arith, k.near, s.near, room.short);
        }

    pub spans_end : (begin l' : List ℕ) (r : Drawn) → sink l₀ at₀ ≡ emit (sink begin 0) (encode (opening d.edges)) → length spans ≤ i → Closed d l at t l' r → Rendered d line spans begin l' r
    spans_end begin l' r o g k =
        let q : take i spans ≡ spans = take_all i spans g in
        let x : Sent = before i in
        let cs : List Change = x.changes ++ closing d.edges d.window.end.0 x.after in
        let e : sink l' r.at ≡ emit (sink l₀ at₀) (encode cs) =
        then_emit (sink l₀ at₀) (sink l at) (sink l' r.at) (encode x.changes) (encode (closing d.edges d.window.end.0 x.after)) s.wrote.bytes (k.bytes ∙ ap (λ (x : State). emit (sink l at) (encode (closing d.edges d.window.end.0 x))) s.wrote.state)
        ∙ ap (emit (sink l₀ at₀)) (sym (encode_append x.changes (closing d.edges d.window.end.0 x.after))) in
        subst (λ (rs : List Record). Rendered d line rs begin l' r) q
        (record {
          bytes = then_emit (sink begin 0) (sink l₀ at₀) (sink l' r.at) (encode (opening d.edges)) (encode cs) o e ∙ ap (emit (sink begin 0)) (sym (encode_append (opening d.edges) cs));
          torn = k.torn ∙ s.wrote.torn;
        })
