-- Line-drawn text is drawable where the text is.
use Rattle.std.specs.Prelude.{◌≡◌, ◌≤◌, Bool, true, false, cond, List, length}
use Rattle.std.proofs.Common.{arith}
use Rattle.text.specs.Each.{Each, nil, cons, all_nil, all_cons}
use Rattle.text.specs.Utf8.{Scalar, bytes_of}
use Rattle.text.specs.Class.{Profile}
use Rattle.text.specs.Width.{width_of}
use Rattle.text.specs.Cluster.Parts.{Wide}
use Rattle.drawing.specs.Marks.{line_drawn}
use Rattle.drawing.specs.Marks.LineDrawn.{alike_replaced, line_drawn_valid, line_drawn_widths}
use Rattle.screen.specs.Drawn.{ProfileLaws}
use Rattle.screen.specs.Drawn.Texts.{Text, Drawable}

module _ (P : Profile) (H : ProfileLaws P) where
  wide_each : {gs hs : List (List Scalar)} → Each (λ (g h : List Scalar). width_of P g ≡ width_of P h) gs hs → Wide P gs → Wide P hs
  wide_each nil a = all_nil
  wide_each (cons {b = h} r e) (all_cons w a) = all_cons {a = h} (rw (← r) w) (wide_each e a)

  -- a text as it is, or line-drawn
  pub text_drawable : (b : Bool) {s : List Scalar} → Text P s → length (bytes_of s) ≤ 32768 → Drawable P (cond b (line_drawn s) s)
  text_drawable true {s} t h =
      let v = line_drawn_valid t.valid in
      record { text = record { wide = wide_each (line_drawn_widths P (alike_replaced P H.ascii H.symbols H.symbol_columns) s) t.wide; valid = v.0 }; size = omega (arith, v.1) }
  text_drawable false t h = record { text = t; size = omega arith }
