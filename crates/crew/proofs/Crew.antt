-- Another URI in a URI's stead: the proof, for any profile in which scalars below 80 have document 01's classes.
use Rattle.std.specs.Prelude.{◌≡◌, ℕ, false, length, leb}
use Rattle.std.proofs.Common.{sym, ◌∙◌, arith, length-append, ne_eqb}
use Rattle.std.proofs.Math.Path.{ap₂}
use mathlib.Core.List.{List, [], ◌∷◌, ◌++◌}
use Rattle.text.specs.Tests.{or_false}
use Rattle.text.specs.Each.{all_map}
use Rattle.text.specs.Class.{Profile}
use Rattle.text.specs.Class.Ascii.{AsciiClasses, printable_range}
use Rattle.text.specs.Cluster.Printable.{Printable}
use Rattle.text.specs.Overstrike.{convert, has_backspace}
use Rattle.text.specs.Overstrike.Laws.{backspace_append, convert_plain, no_backspace}
use Rattle.text.specs.Calls.{Question, ask, decide, lent, counted, question1, question2}
use Rattle.spans.specs.Spans.{Span, spans, records}
use Rattle.spans.specs.Search as search
use Rattle.spans.specs.Calls.{question3, question4, no_record}
use Rattle.rows.specs.Calls.{mode_of}
use Rattle.drawing.specs.Change.{Change, encode}
use Rattle.drawing.specs.Draw.{render, render_wrapped}
use Rattle.drawing.specs.Reader.{seen_by}
use Rattle.drawing.specs.Calls.{question18, drawing, window_questions, row_questions, window_question8, row_question8, window_call, row_call}
use Rattle.crew.specs.Crew.{AnotherUri, SameDrawn, SameView, Unseen}
use Rattle.crew.specs.Crew.Hyperlinks.{Linked, Form}
use Rattle.crew.specs.Crew.SameSpans.{same_spans}
use Rattle.crew.specs.Crew.ReadForm.{linked_form}
pub mod Document01

-- ---- lines with the same spans

module _ (P : Profile) (l m : List ℕ) (size : length l ≡ length m) (same : spans P (convert P l) ≡ spans P (convert P m)) where
  same_drawn : (reader conv places room : ℕ) (qs : List Question) (eight : List Span → Question) (draw : List Span → List Change)
      → SameDrawn (drawing P reader conv places room [] qs eight draw l) (drawing P reader conv places room [] qs eight draw m)
  unfolding drawing search.read search.in_order
  same_drawn reader conv places room qs eight draw =
      let f : List Span → List Question = λ ss. eight ss ∷ ask 9 (leb (length (encode (draw ss))) room) ∷ [] in
      let d : decide (question18 reader ∷ question1 l ∷ question2 conv l ∷ question3 [] (convert P l) ∷ question4 places (spans P (convert P l)) ∷ qs ++ f (spans P (convert P l)))
      ≡ decide (question18 reader ∷ question1 m ∷ question2 conv m ∷ question3 [] (convert P m) ∷ question4 places (spans P (convert P m)) ∷ qs ++ f (spans P (convert P m))) = rw (size, same) in
      record {
        number = d;
        count = ap₂ (λ (ss : List Span) (r : ℕ). counted (length (encode (draw ss))) r) same d;
        spans = ap₂ (λ (ss : List Span) (r : ℕ). lent no_record places (records ss) r) same d;
        list = ap₂ (λ (ss : List Span) (r : ℕ). lent 0 room (encode (draw ss)) r) same d;
      }

  same_view : SameView P l m
  unfolding window_call row_call
  same_view = record {
    window = λ reader conv places room start end current. same_drawn reader conv places room (window_questions start end) (window_question8 P start end) (λ ss. seen_by reader (render P start end current ss));
    row = λ reader conv places room first count width mode current. same_drawn reader conv places room (row_questions first count width mode) (row_question8 P first count width mode) (λ ss. seen_by reader (render_wrapped P first count width (mode_of mode) current ss));
  }

-- ---- the exchange

-- no backspace comes in
none_in : (p u v s : List ℕ) → Printable v → has_backspace (p ++ (u ++ s)) ≡ false → has_backspace (p ++ (v ++ s)) ≡ false
none_in p u v s h e =
    let q = or_false (has_backspace p) _ (sym (backspace_append p (u ++ s)) ∙ e) in
    let r = or_false (has_backspace u) _ (sym (backspace_append u s) ∙ q.1) in
    rw (backspace_append p (v ++ s), backspace_append v s, q.0, no_backspace (all_map (λ b k. ne_eqb b 0x08 (λ z. omega (arith, (printable_range b k).0))) h), r.1)

module _ (P : Profile) (A : AsciiClasses P) where
  -- by the form alone
  pub formed_unseen : {p s : List ℕ} → Form p s → (u v : List ℕ) → Printable u → Printable v → length u ≡ length v → has_backspace (p ++ (u ++ s)) ≡ false → SameView P (p ++ (u ++ s)) (p ++ (v ++ s))
  formed_unseen {p} {s} f u v h k e none =
      same_view P (p ++ (u ++ s)) (p ++ (v ++ s)) (simp length-append (omega arith))
      (rw (convert_plain P (p ++ (u ++ s)) none, convert_plain P (p ++ (v ++ s)) (none_in p u v s k none)) (same_spans P A f u v h k e))

  pub unseen : Unseen P
  unseen p u v s x = formed_unseen (linked_form P p u s x.printable x.linked) u v x.printable x.other x.length x.no_backspace

  -- the other URI is read as one at the same place
  pub still_linked : (p u v s : List ℕ) → AnotherUri P p u v s → Linked P (p ++ (v ++ s)) (length p) (length v)
  still_linked p u v s x =
      let k = x.linked in
      let e = same_spans P A (linked_form P p u s x.printable k) u v x.printable x.other x.length in
      rw (sym x.length) record { before = k.before; behind = k.behind; place = k.place; len = k.len; at = k.at; read = sym e ∙ k.read; uri = k.uri }
