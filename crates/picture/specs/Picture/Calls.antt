-- The row picture by the calls: `height` counts the rows, `draw_row` draws each, and what the lists show is the picture.
use Rattle.std.specs.Prelude.{◌≡◌, refl, ◌≢◌, true, ◌&&◌, replicate}
use Rattle.std.proofs.Math.Path.{ap}
use Rattle.std.proofs.Common.{◌∙◌, arith}
use Prim.Native.Nat.{ℕ, zero, suc, ◌-◌, ◌≤◌}
use mathlib.Core.List.{List, [], ◌∷◌}
use Rattle.std.proofs.Math.Option.{Option}
use Rattle.std.proofs.Math.ListN.{length, take}
use Rattle.std.proofs.Math.Seq.{take-append_seam}
use Rattle.std.proofs.Math.Dec.{leb}
use borrow.Author.Tests.{le-leb}
use Rattle.text.specs.Class.{Profile}
use Rattle.text.specs.Overstrike.{convert}
use Rattle.text.specs.Calls.{Question, ask}
use Rattle.text.specs.Calls.Laws.{decide_nil, decide_yes}
use Rattle.spans.specs.Spans.{Span, spans}
use Rattle.spans.specs.Search.{read}
use Rattle.spans.specs.Calls.{Read, read_call}
use Rattle.rows.specs.Rows.{Mode, unwrapped, rows}
use Rattle.rows.specs.Calls.{mode_of, mode_and_width, height_call}
use Rattle.rows.specs.Calls.Laws.{height_accepted}
use Rattle.drawing.specs.Change.{Change, whole, encode}
use Rattle.drawing.specs.Draw.{render_wrapped}
use Rattle.drawing.specs.Reader.{seen_by}
use Rattle.drawing.specs.Calls.{Drawn, row_questions}
use Rattle.drawing.specs.Calls.Laws.{drawing_accepted, none_torn, row_torn}
use Rattle.picture.specs.Picture.{row_changes, RowsShow, Picture, DrawsRow, PagingShows}

-- every mode but 0 wraps
wraps : (mode : ℕ) → 1 ≤ mode → mode_of mode ≢ unwrapped
unfolding mode_of
wraps zero h e = absurd (omega arith)
wraps (suc zero) h e = let z : ◌≡◌ {A = ℕ} 0 1 = cc in absurd (omega arith)
wraps (suc (suc zero)) h e = let z : ◌≡◌ {A = ℕ} 0 1 = cc in absurd (omega arith)
wraps (suc (suc (suc zero))) h e = let z : ◌≡◌ {A = ℕ} 0 1 = cc in absurd (omega arith)
wraps (suc (suc (suc (suc n)))) h e = let z : ◌≡◌ {A = ℕ} 0 1 = cc in absurd (omega arith)

module _ (P : Profile) (conv places : ℕ) (line : List ℕ) (fine : (read_call P conv places [] line).number ≡ 0) where
  abbrev found : List Span
  found = spans P (convert P line)

  module _ (width mode : ℕ) (m : mode ≤ 4) (w : width ≤ 65535) where
    known : mode_and_width mode width ≡ true
    known = rw (le-leb mode 4 m, le-leb width 65535 w)

    -- a row drawing that questions 18, 5 and 8 admit
    draws_row : (reader first : ℕ) (current : Option ℕ) → reader ≤ 1 → first ≤ 65535 → whole (row_changes P reader first 1 width (mode_of mode) current found) ≡ true
        → DrawsRow P reader conv places first width mode current line (row_changes P reader first 1 width (mode_of mode) current found)
    unfolding row_changes read
    draws_row reader first current r f e room h =
        let draw : List Span → List Change = λ ss. seen_by reader (render_wrapped P first 1 width (mode_of mode) current ss) in
        let list : List ℕ = encode (draw found) in
        let five : Question = ask 5 (mode_and_width mode width && (leb first 65535 && (leb 1 65535 && leb 1 1))) in
        let eight : Question = ask 8 (whole (draw found)) in
        let nine : Question = ask 9 (leb (length list) room) in
        let a = row_torn P reader conv places room first 1 width mode current [] line ∙ drawing_accepted P reader conv places room [] (row_questions first 1 width mode) (none_torn draw) draw line (le-leb reader 1 r) fine
        (decide_yes five (eight ∷ nine ∷ []) (rw (known, le-leb first 65535 f) refl) ∙ decide_yes eight (nine ∷ []) e ∙ decide_yes nine [] (le-leb (length list) room h) ∙ decide_nil) in
        record {
          accepted = ap (λ (d : Drawn). d.number) a;
          list = ap (λ (d : Drawn). take d.count d.list) a ∙ take-append_seam list (replicate (room - length list) 0);
        }

    height_is : height_call P conv places width mode line ≡ record { number = 0; count = length (rows P width (mode_of mode) found); conv = (read_call P conv places [] line).conv; spans = (read_call P conv places [] line).spans }
    height_is = height_accepted P conv places line width mode fine known

  -- the row picture of the line, where it has at most 65,536 rows
  pub paging : RowsShow P found → ((width : ℕ) (mode : Mode) → length (rows P width mode found) ≤ 65536) → PagingShows P conv places line
  unfolding mode_of
  paging shows few reader mode width r o m w marks current =
      let p : Picture P reader width (mode_of mode) current found = shows reader (mode_of mode) (wraps mode o) marks width current in
      let n : (height_call P conv places width mode line).count ≡ length (rows P width (mode_of mode) found) = ap (λ (x : Read). x.count) (height_is width mode m w) in
      record {
        height = ap (λ (x : Read). x.number) (height_is width mode m w);
        rows = λ first h. draws_row width mode m w reader first current r (omega (arith, h, n, few width (mode_of mode))) (p.whole first 1 (omega arith));
        mode0 = draws_row width 0 (omega arith) w reader 0 current r (omega arith) (p.whole_unwrapped 0 1 (omega arith));
        same = rw n p.same;
      }
