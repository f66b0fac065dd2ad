-- What the two readers' drawings have in common.
use Rattle.std.specs.Prelude.{◌≡◌, ℕ, List}
use Rattle.std.proofs.Math.Path.{refl}
use Rattle.std.proofs.Math.Option.{Option}
use Rattle.text.specs.Class.{Profile}
use Rattle.text.specs.Overstrike.{convert}
use Rattle.text.specs.Calls.{Question}
use Rattle.spans.specs.Spans.{Span}
use Rattle.spans.specs.Search.{read}
use Rattle.rows.specs.Calls.{mode_of}
use Rattle.drawing.specs.Change.{Change}
use Rattle.drawing.specs.Draw.{render, render_wrapped}
use Rattle.drawing.specs.Reader.{seen_by}
use Rattle.drawing.specs.Reader.Laws.{seen_length}
use Rattle.drawing.specs.Calls.{Drawn, drawing, window_questions, row_questions, window_question8, row_question8, window_call, row_call}

-- number, count, converted line and spans
pub record Common (a b : Drawn) : Type 0 where
  pub number : a.number ≡ b.number
  pub count : a.count ≡ b.count
  pub conv : a.conv ≡ b.conv
  pub spans : a.spans ≡ b.spans

module _ (P : Profile) (conv places room : ℕ) where
  common : (matches : List ℕ) (qs : List Question) (eight : List Span → Question) (draw : List Span → List Change) (line : List ℕ)
      → Common (drawing P 1 conv places room matches qs eight (λ ss. seen_by 1 (draw ss)) line) (drawing P 0 conv places room matches qs eight draw line)
  unfolding drawing
  common matches qs eight draw line =
      let n = seen_length 1 (draw (read P matches (convert P line))) in
      record { number = rw n; count = rw n; conv = rw n; spans = rw n }

  module _ (start end : ℕ) (current : Option ℕ) (matches line : List ℕ) where
    -- the bench's view is document 01's drawing
    pub bench_window : window_call P 0 conv places room start end current matches line ≡ drawing P 0 conv places room matches (window_questions start end) (window_question8 P start end) (render P start end current) line
    unfolding window_call seen_by
    bench_window = refl

    pub common_window : Common (window_call P 1 conv places room start end current matches line) (window_call P 0 conv places room start end current matches line)
    unfolding window_call seen_by
    common_window = common matches (window_questions start end) (window_question8 P start end) (render P start end current) line

  module _ (first count width mode : ℕ) (current : Option ℕ) (matches line : List ℕ) where
    pub bench_row : row_call P 0 conv places room first count width mode current matches line ≡ drawing P 0 conv places room matches (row_questions first count width mode) (row_question8 P first count width mode) (render_wrapped P first count width (mode_of mode) current) line
    unfolding row_call seen_by
    bench_row = refl

    pub common_row : Common (row_call P 1 conv places room first count width mode current matches line) (row_call P 0 conv places room first count width mode current matches line)
    unfolding row_call seen_by
    common_row = common matches (row_questions first count width mode) (row_question8 P first count width mode) (render_wrapped P first count width (mode_of mode) current) line
