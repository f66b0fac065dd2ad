-- A drawing by what the call `read` answers: after question 18 the same refusals first, then its own questions. Question 8 asked of the changes.
use Rattle.std.specs.Prelude.{◌≡◌, ℕ, suc, ◌+◌, ◌-◌, Bool, true, false, ◌&&◌, ◌||◌, List, [], ◌∷◌, ◌++◌, length, replicate, eqb}
use Rattle.std.proofs.Math.Path.{refl, sym, ap}
use Rattle.std.proofs.Common.{◌∙◌}
use Rattle.std.proofs.Math.Option.{Option}
use Rattle.std.proofs.Math.Dec.{leb}
use Rattle.text.specs.Tests.{cases}
use Rattle.text.specs.Class.{Profile}
use Rattle.text.specs.Overstrike.{convert}
use Rattle.text.specs.Calls.{Question, ask, decide, lent, counted}
use Rattle.text.specs.Calls.Laws.{counted_accepted, counted_refused, decide_no, decide_yes, decided_before, decided_behind, lent_accepted, lent_refused}
use Rattle.spans.specs.Spans.{Span, records}
use Rattle.spans.specs.Search.{read}
use Rattle.spans.specs.Calls.{no_record, read_call}
use Rattle.spans.specs.Calls.Laws.{read_accepted, read_number, read_questions}
use Rattle.rows.specs.Calls.{mode_of}
use Rattle.drawing.specs.Change.{Change, whole, encode}
use Rattle.drawing.specs.Draw.{render, render_wrapped}
use Rattle.drawing.specs.Straddled.Laws.{render_whole, wrapped_whole}
use Rattle.drawing.specs.Reader.{seen_by}
use Rattle.drawing.specs.Reader.Laws.{seen_whole}
use Rattle.drawing.specs.Calls.{Drawn, question18, drawing, window_questions, row_questions, window_question8, row_question8, window_call, row_call}

module _ (P : Profile) (reader conv places room : ℕ) (matches : List ℕ) (qs : List Question) (eight : List Span → Question) (draw : List Span → List Change) (line : List ℕ) where
  abbrev found : List Span
  found = read P matches (convert P line)

  abbrev list : List ℕ
  list = encode (draw found)

  -- the questions after the fourth, and what they decide
  abbrev others : List Question
  others = qs ++ (eight found ∷ ask 9 (leb (length list) room) ∷ [])

  abbrev pub further : ℕ
  further = decide others

  -- what the call leaves if it decides r
  abbrev drawn_by : ℕ → Drawn
  drawn_by r = record { number = r; count = counted (length list) r; conv = lent 0 conv (convert P line) r; spans = lent no_record places (records found) r; list = lent 0 room list r }

  drawing_by : drawing P reader conv places room matches qs eight draw line ≡ drawn_by (decide (question18 reader ∷ read_questions P conv places matches line ++ others))
  unfolding drawing
  drawing_by = refl

  -- refused with number n
  abbrev pub undrawn : ℕ → Drawn
  undrawn n = record { number = n; count = 0; conv = replicate conv 0; spans = replicate places no_record; list = replicate room 0 }

  no_drawing : (r : ℕ) → drawn_by (suc r) ≡ undrawn (suc r)
  no_drawing r = simp (lent_refused, counted_refused)

  pub drawing_unknown : leb reader 1 ≡ false → drawing P reader conv places room matches qs eight draw line ≡ undrawn 18
  drawing_unknown e = drawing_by ∙ ap drawn_by (decide_no (question18 reader) _ e) ∙ no_drawing 17

  module _ (known : leb reader 1 ≡ true) where
    drawing_known : drawing P reader conv places room matches qs eight draw line ≡ drawn_by (decide (read_questions P conv places matches line ++ others))
    drawing_known = drawing_by ∙ ap drawn_by (decide_yes (question18 reader) _ known)

    pub drawing_unread : (r : ℕ) → (read_call P conv places matches line).number ≡ suc r → drawing P reader conv places room matches qs eight draw line ≡ undrawn (suc r)
    drawing_unread r e = drawing_known ∙ ap drawn_by (decided_before (read_questions P conv places matches line) others r (sym (read_number P conv places matches line) ∙ e)) ∙ no_drawing r

    module _ (fine : (read_call P conv places matches line).number ≡ 0) where
      accepting : decide (read_questions P conv places matches line ++ others) ≡ further
      accepting = decided_behind (read_questions P conv places matches line) others tt (sym (read_number P conv places matches line) ∙ fine)

      pub drawing_refused : (r : ℕ) → further ≡ suc r → drawing P reader conv places room matches qs eight draw line ≡ undrawn (suc r)
      drawing_refused r e = drawing_known ∙ ap drawn_by (accepting ∙ e) ∙ no_drawing r

      pub drawing_accepted : further ≡ 0
          → drawing P reader conv places room matches qs eight draw line ≡ record { number = 0; count = length list; conv = (read_call P conv places matches line).conv; spans = (read_call P conv places matches line).spans; list = list ++ replicate (room - length list) 0 }
      drawing_accepted e = rw (read_accepted P conv places matches line fine) (drawing_known ∙ ap drawn_by (accepting ∙ e) ∙ simp (lent_accepted, counted_accepted))

-- ---- question 8 asked of the changes: no text of them is torn

abbrev pub none_torn : (List Span → List Change) → List Span → Question
none_torn draw ss = ask 8 (whole (draw ss))

module _ (P : Profile) (reader conv places room : ℕ) (matches : List ℕ) (qs : List Question) (draw : List Span → List Change) (line : List ℕ) where
  asked_alike : (eight torn : List Span → Question) → ((ss : List Span) (others : List Question) → decide (qs ++ (eight ss ∷ others)) ≡ decide (qs ++ (torn ss ∷ others)))
      → drawing P reader conv places room matches qs eight draw line ≡ drawing P reader conv places room matches qs torn draw line
  unfolding drawing decide
  asked_alike eight torn e = rw (e (read P matches (convert P line)) (ask 9 (leb (length (encode (draw (read P matches (convert P line))))) room) ∷ []))

-- where question 7 says no, it decides whatever 8 says
seven_first : (a b c d : Bool) (others : List Question) → (b ≡ true → c ≡ d) → decide (ask 5 a ∷ ask 7 b ∷ ask 8 c ∷ others) ≡ decide (ask 5 a ∷ ask 7 b ∷ ask 8 d ∷ others)
unfolding decide
seven_first a b c d others f = cases b (λ e. rw (f e)) (λ e. rw e)

module _ (P : Profile) (reader conv places room : ℕ) where
  module _ (start end : ℕ) (current : Option ℕ) (matches line : List ℕ) where
    abbrev pub window_changes : List Span → List Change
    window_changes ss = seen_by reader (render P start end current ss)

    pub window_torn : window_call P reader conv places room start end current matches line ≡ drawing P reader conv places room matches (window_questions start end) (none_torn window_changes) window_changes line
    unfolding window_call
    window_torn =
        asked_alike P reader conv places room matches (window_questions start end) window_changes line (window_question8 P start end) (none_torn window_changes)
        (λ ss others. seven_first (leb start 1048576 && leb end 1048576) (eqb start 0 || leb (start + 1) end) _ _ others (λ e. sym (seen_whole reader (render P start end current ss) ∙ render_whole P start end current ss e)))

  module _ (first count width mode : ℕ) (current : Option ℕ) (matches line : List ℕ) where
    abbrev pub row_changes : List Span → List Change
    row_changes ss = seen_by reader (render_wrapped P first count width (mode_of mode) current ss)

    pub row_torn : row_call P reader conv places room first count width mode current matches line ≡ drawing P reader conv places room matches (row_questions first count width mode) (none_torn row_changes) row_changes line
    unfolding row_call
    row_torn =
        asked_alike P reader conv places room matches (row_questions first count width mode) row_changes line (row_question8 P first count width mode) (none_torn row_changes)
        (λ ss others. ap (λ (b : Bool). decide (row_questions first count width mode ++ (ask 8 b ∷ others))) (sym (seen_whole reader (render_wrapped P first count width (mode_of mode) current ss) ∙ wrapped_whole P first count width (mode_of mode) current ss)))
