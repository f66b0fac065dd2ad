-- A drawing's change list in a screen row: never refused 10, and refused 11 exactly where the row has fewer columns than its texts take.
use Rattle.std.specs.Prelude.{◌≡◌, refl, ◌≢◌, ℕ, zero, suc, ◌-◌, ◌≤◌, max, Bool, true, cond, ◌&&◌, length, take, replicate, eqb, leb, ltb}
use Rattle.std.proofs.Common.{sym, ap, ◌∙◌, arith, true≢false, eq-eqb, le-leb, le-ltb}
use Rattle.std.proofs.Math.Path.{subst}
use mathlib.Core.List.{List}
use Rattle.std.proofs.Math.Seq.{take-append_seam}
use Rattle.text.specs.Tests.{cases, in_range_law, both}
use Rattle.text.specs.Each.{All}
use Rattle.text.specs.Class.{Profile}
use Rattle.text.specs.Class.Code.{profile_of}
use Rattle.text.specs.Class.Profile01.{ascii_classes, profile_is}
use Rattle.text.specs.Width.{profile01}
use Rattle.text.specs.Width.Laws.{width_size}
use Rattle.text.specs.Width.Symbols.{symbol_columns_law}
use Rattle.text.specs.Overstrike.{convert}
use Rattle.text.specs.Overstrike.Length.{convert_size}
use Rattle.text.specs.Calls.{Question, lent, counted}
use Rattle.text.specs.Calls.Laws.{counted_accepted, lent_accepted}
use Rattle.text.specs.declared.class.Profile as code
use Rattle.spans.specs.Spans.{Span}
use Rattle.spans.specs.Search.{read}
use Rattle.spans.specs.Calls.{read_call}
use Rattle.spans.specs.Calls.Laws.{read_passed}
use Rattle.rows.specs.Calls.{mode_of}
use Rattle.drawing.specs.Change.{Change, encode}
use Rattle.drawing.specs.Draw.{render, render_wrapped}
use Rattle.drawing.specs.Calls.{Drawn, drawing, window_questions, row_questions, window_question8, row_question8, window_call, row_call}
use Rattle.drawing.specs.Calls.Laws.{drawing_unknown, drawing_unread}
use Rattle.drawing.specs.Reader.{seen_by}
use Rattle.screen.specs.Records.{records}
use Rattle.screen.specs.Row.{row_bytes}
use Rattle.screen.specs.Calls.{screen_of, screen_call}
use Rattle.text.specs.Overstrike.Bytes.{Byte, converted_bytes}
use Rattle.text.specs.Class.Symbols.{symbol_classes}
use Rattle.screen.specs.Drawn.{ProfileLaws, Line, columns, row_columns}
use Rattle.screen.specs.Drawn.Spans.{read_fit}
use Rattle.screen.specs.Drawn.WellFormed.{DrawnList, list_records, never_malformed}
use Rattle.screen.proofs.Cursor.{list_passed}
use Rattle.screen.specs.Drawn.Columns.{window_list, rows_list}
use Rattle.screen.specs.Drawn.Readers.{seen_list, seen_columns}
use Rattle.screen.specs.Calls.Laws.{InRow, list_of, WindowInRow, RowsInRow, WindowCallInRow, RowCallInRow}

abbrev in_range : ℕ → Bool
in_range W = leb 1 W && leb W 4096

module _ (P : Profile) (H : ProfileLaws P) (cs : List Change) (d : DrawnList P cs) where
  -- question 9
  abbrev enough : ℕ → ℕ → Bool
  enough W room = leb (length (row_bytes (screen_of P W (records 4 (encode cs))).cells)) room

  passed_is : (W : ℕ) → 1 ≤ W → (screen_of P W (records 4 (encode cs))).passed ≡ ltb W (columns P cs)
  unfolding screen_of
  passed_is W h = rw (list_records P H d) (list_passed P H W h d)

  -- 10 is never refused, and 11 asks whether the texts' columns are more than W
  number_is : (W room : ℕ) → (screen_call P W room (encode cs)).number ≡ cond (in_range W) (cond (ltb W (columns P cs)) 11 (cond (enough W room) 0 9)) 5
  unfolding screen_call
  number_is W room =
      cases (in_range W)
      (λ e. rw (e, never_malformed P H d, passed_is W (in_range_law 1 4096 W e).0) (cases (ltb W (columns P cs)) (λ o. rw o refl) (λ o. rw o refl)))
      (λ e. rw e refl)

  not_10 : (W room : ℕ) → (screen_call P W room (encode cs)).number ≢ 10
  not_10 W room =
      let Q : ℕ → Type 0 = λ n. n ≢ 10 in
      rw (number_is W room) (both Q (in_range W) (both Q (ltb W (columns P cs)) (λ e. omega arith) (both Q (enough W room) (λ e. omega arith) (λ e. omega arith))) (λ e. omega arith))

  at_11 : (W room : ℕ) → in_range W ≡ true → eqb (screen_call P W room (encode cs)).number 11 ≡ ltb W (columns P cs)
  at_11 W room e = rw (number_is W room, e) (cases (ltb W (columns P cs)) (λ o. rw o refl) (λ o. rw o (cases (enough W room) (λ f. rw f refl) (λ f. rw f refl))))

  not_11 : (n W room : ℕ) → columns P cs ≤ max 1 n → n ≤ W → (screen_call P W room (encode cs)).number ≢ 11
  not_11 n W room c h f =
      cases (in_range W)
      (λ e. absurd (true≢false (sym (eq-eqb (screen_call P W room (encode cs)).number 11 f) ∙ at_11 W room e ∙ le-ltb W (columns P cs) (few (in_range_law 1 4096 W e).0))))
      (λ e. let z : 5 ≡ 11 = rw e at (sym (number_is W room) ∙ f) in absurd (omega arith))
    where
      few : 1 ≤ W → columns P cs ≤ W
      few k = omega arith

  in_row : (n : ℕ) → columns P cs ≤ max 1 n → InRow P n (columns P cs) (encode cs)
  in_row n c = record { never_10 = not_10; never_11 = λ W room h. not_11 n W room c h; exactly_11 = λ W room h k. at_11 W room (rw (le-leb 1 W h, le-leb W 4096 k)); few = c }

-- ---- lists that drawings send

module _ (P : Profile) (H : ProfileLaws P) where
  seen_in_row : (reader : ℕ) (cs : List Change) → DrawnList P cs → (n : ℕ) → columns P cs ≤ max 1 n → InRow P n (columns P cs) (encode (seen_by reader cs))
  seen_in_row reader cs d n c =
      let e = seen_columns P reader cs in
      subst (λ (k : ℕ). InRow P n k (encode (seen_by reader cs))) e (in_row P H (seen_by reader cs) (seen_list P reader d) n (rw e c))

  pub window_in_row : WindowInRow P
  window_in_row s l reader start end current matches = let w = window_list P H start end current (read_fit P s l matches) in seen_in_row reader _ w.list (end - start) w.few

  pub rows_in_row : RowsInRow P
  rows_in_row s l reader first count width mode current matches =
      let w = rows_list P H first count width mode current (read_fit P s l matches) in
      seen_in_row reader _ w.list (row_columns P first count width mode (read P matches s)) (omega (arith, w.few))

-- ---- lists that accepted drawings leave

left_list : (r room : ℕ) (list : List ℕ) → r ≡ 0 → take (counted (length list) r) (lent 0 room list r) ≡ list
left_list r room list e = rw (e, counted_accepted (length list), lent_accepted 0 room list) (take-append_seam list (replicate (room - length list) 0))

module _ (P : Profile) (reader conv places room : ℕ) (matches : List ℕ) (qs : List Question) (eight : List Span → Question) (draw : List Span → List Change) (line : List ℕ) where
  abbrev called : Drawn
  called = drawing P reader conv places room matches qs eight draw line

  called_list : called.number ≡ 0 → list_of called ≡ encode (draw (read P matches (convert P line)))
  unfolding drawing
  called_list e = left_list _ room (encode (draw (read P matches (convert P line)))) e

  -- the reader is known, and reading was accepted
  called_known : called.number ≡ 0 → leb reader 1 ≡ true
  called_known e = cases (leb reader 1) (λ k. k) (λ k. absurd (omega (arith, sym (ap (λ (d : Drawn). d.number) (drawing_unknown P reader conv places room matches qs eight draw line k)) ∙ e)))

  called_read : called.number ≡ 0 → (read_call P conv places matches line).number ≡ 0
  called_read e = go (read_call P conv places matches line).number refl
    where
      go : (n : ℕ) → (read_call P conv places matches line).number ≡ n → (read_call P conv places matches line).number ≡ 0
      go zero q = q
      go (suc r) q = absurd (omega (arith, sym (ap (λ (d : Drawn). d.number) (drawing_unread P reader conv places room matches qs eight draw line (called_known e) r q)) ∙ e))

  called_line : called.number ≡ 0 → All Byte line → Line (convert P line)
  called_line e a = record { bytes = converted_bytes P line a; short = omega (arith, convert_size P line, (read_passed P conv places matches line (called_read e)).short) }

module _ (P : Profile) (H : ProfileLaws P) where
  pub window_call_in_row : WindowCallInRow P
  unfolding window_call
  window_call_in_row line bytes reader conv places room start end current matches e =
      let qs : List Question = window_questions start end in
      let eight : List Span → Question = window_question8 P start end in
      let draw : List Span → List Change = λ ss. seen_by reader (render P start end current ss) in
      subst (InRow P (end - start) (columns P (render P start end current (read P matches (convert P line))))) (sym (called_list P reader conv places room matches qs eight draw line e))
      (window_in_row P H (convert P line) (called_line P reader conv places room matches qs eight draw line e bytes) reader start end current matches)

  pub row_call_in_row : RowCallInRow P
  unfolding row_call
  row_call_in_row line bytes reader conv places room first count width mode current matches e =
      let qs : List Question = row_questions first count width mode in
      let eight : List Span → Question = row_question8 P first count width mode in
      let draw : List Span → List Change = λ ss. seen_by reader (render_wrapped P first count width (mode_of mode) current ss) in
      subst (InRow P _ (columns P (render_wrapped P first count width (mode_of mode) current (read P matches (convert P line))))) (sym (called_list P reader conv places room matches qs eight draw line e))
      (rows_in_row P H (convert P line) (called_line P reader conv places room matches qs eight draw line e bytes) reader first count width (mode_of mode) current matches)

-- ---- document 01's profile

laws : (p : code.Profile) → ProfileLaws (profile_of p)
laws p = record { ascii = ascii_classes p; symbols = symbol_classes p; symbol_columns = symbol_columns_law p; narrow = λ s v. width_size p v }

laws01 : ProfileLaws profile01
laws01 = subst ProfileLaws (profile_is (record { version = 0 })) (laws (record { version = 0 }))

pub window_in_row01 : WindowInRow profile01
window_in_row01 = window_in_row profile01 laws01

pub rows_in_row01 : RowsInRow profile01
rows_in_row01 = rows_in_row profile01 laws01

pub window_call_in_row01 : WindowCallInRow profile01
window_call_in_row01 = window_call_in_row profile01 laws01

pub row_call_in_row01 : RowCallInRow profile01
row_call_in_row01 = row_call_in_row profile01 laws01
