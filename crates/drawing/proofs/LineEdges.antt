-- What stands before and after the spans of a line.
use mathlib.Core.Path.{◌≡◌, refl, sym, ap, ◌∙◌}
use Prim.Native.Nat.{ℕ, ◌≤◌, ◌<◌}
use native.Mathlib.Omega.{arith}
use mathlib.Core.Bool.{Bool, true, false}
use mathlib.Core.List.{List, [], ◌∷◌, ◌++◌}
use borrow.Author.Tests.{lt-ltb, le-ltb}
use Rattle.buffer.specs.Sink.{Sink, sink, emit}
use Rattle.buffer.specs.Sink.Laws.{emit_none, then_emit}
use Rattle.drawing.specs.Attributes.{plain}
use Rattle.drawing.specs.Change.{Change, all_attributes, clear_to_end, encode_one, encode}
use Rattle.drawing.specs.Draw.{State, right_arrow, close_window, close_rows}
use Rattle.drawing.specs.State.{state_of}
use Rattle.drawing.specs.Rendering.{opening, closing_window, closing_rows, closing_edge, closing, Closed}
use Rattle.drawing.specs.declared.state.AttributeState.{AttributeState}
use Rattle.drawing.specs.declared.render.Edges.{Edges}
use Rattle.drawing.specs.declared.render.Edges.TheVariants.{Window, Rows}
use Rattle.drawing.specs.declared.render.Rendering.{Rendering}
use Rattle.drawing.proofs.Changes.{one_change}
use Rattle.drawing.proofs.WindowTexts.{encode_append}

-- ---- before them

module _ (l : List ℕ) (edges : Edges) where
  pub opened_bare : (arrow : Bool) → edges ≡ Window arrow → arrow ≡ false → sink l 0 ≡ emit (sink l 0) (encode (opening edges))
  unfolding encode
  opened_bare arrow e t = rw (e, t) (sym (emit_none (sink l 0)))

  pub opened_rows : (room : Bool) → edges ≡ Rows room → sink l 0 ≡ emit (sink l 0) (encode (opening edges))
  unfolding encode
  opened_rows room e = rw e (sym (emit_none (sink l 0)))

-- ---- after them

none_emit : (k : Sink ℕ) → k ≡ emit k (encode [])
unfolding encode
none_emit k = sym (emit_none k)

module _ (k : Sink ℕ) (end : ℕ) (t : AttributeState) where
  pub window_arrow : (k' : Sink ℕ) → end < t.position.0 → k' ≡ emit k (encode right_arrow) → k' ≡ emit k (encode (closing_window end (state_of t)))
  unfolding state_of
  window_arrow k' h p = rw (lt-ltb end t.position.0 h) p

  pub window_clear : (k' : Sink ℕ) → t.position.0 < end → k' ≡ emit k (encode_one (clear_to_end t.fill)) → k' ≡ emit k (encode (closing_window end (state_of t)))
  unfolding state_of
  window_clear k' h p = rw (le-ltb end t.position.0 (omega (arith, h)), lt-ltb t.position.0 end h) (one_change k k' (clear_to_end t.fill) p)

  pub window_none : t.position.0 ≤ end → end ≤ t.position.0 → k ≡ emit k (encode (closing_window end (state_of t)))
  unfolding state_of
  window_none h h' = rw (le-ltb end t.position.0 h, le-ltb t.position.0 end h') (none_emit k)

module _ (k : Sink ℕ) (room : Bool) (t : AttributeState) where
  pub rows_clear : (k' : Sink ℕ) → room ≡ true → k' ≡ emit k (encode_one (clear_to_end t.fill)) → k' ≡ emit k (encode (closing_rows room (state_of t)))
  unfolding state_of
  rows_clear k' e p = rw e (one_change k k' (clear_to_end t.fill) p)

  pub rows_none : room ≡ false → k ≡ emit k (encode (closing_rows room (state_of t)))
  rows_none e = rw e (none_emit k)

closing_is : (edges : Edges) (end : ℕ) (t : State) → closing edges end t ≡ closing_edge edges end t ++ all_attributes plain ∷ []
unfolding close_window close_rows
closing_is (Window arrow) end t = refl
closing_is (Rows room) end t = refl

-- the default attributes last
pub closed : (d : Rendering) (l l₁ l' : List ℕ) (at : ℕ) (t : AttributeState) (n r : ℕ) → sink l₁ n ≡ emit (sink l at) (encode (closing_edge d.edges d.window.end.0 (state_of t)))
    → sink l' r ≡ emit (sink l₁ n) (encode_one (all_attributes plain)) → Closed d l at t l' (record { at = r; torn = t.torn })
closed d l l₁ l' at t n r p q =
    let edge : List Change = closing_edge d.edges d.window.end.0 (state_of t) in
    let last : List Change = all_attributes plain ∷ [] in
    record {
      bytes = then_emit (sink l at) (sink l₁ n) (sink l' r) (encode edge) (encode last) p (one_change (sink l₁ n) (sink l' r) (all_attributes plain) q)
          ∙ ap (emit (sink l at)) (sym (ap encode (closing_is d.edges d.window.end.0 (state_of t)) ∙ encode_append edge last));
      torn = refl;
    }
