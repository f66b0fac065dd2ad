-- Attributes that drawings send: intensity, underline, blink and alignment stay as documents 01 and 02 have them.
use Rattle.std.specs.Prelude.{ℕ, zero, suc, ◌≤◌, Bool, true, ◌&&◌, List, [], ◌∷◌, T, leb}
use Rattle.std.proofs.Common.{arith, leb→le}
use Rattle.text.specs.Tests.{and_T}
use Rattle.text.specs.Each.{All, all_nil, all_cons}
use Rattle.spans.specs.Sgr.{orders}
use Rattle.spans.specs.Sgr.Orders.{known_pass, orders_pass}
use Rattle.spans.specs.declared.sgr.Color.TheVariants.{Palette}
use Rattle.spans.specs.declared.sgr.Sgr.{Sgr}
use Rattle.spans.specs.declared.sgr.Sgr.TheVariants.{Reset, Intensity, Underline, Blink, VerticalAlign, Italic, Inverse, Invisible, StrikeThrough, Overline, Foreground, Background, UnderlineColor}
use Rattle.drawing.specs.declared.attributes.Font.{Font}
use Rattle.drawing.specs.declared.attributes.Attributes.{Attributes}
use Rattle.drawing.specs.Attributes as style
use Rattle.drawing.specs.Attributes.{Style, plain, apply, apply_all, linked, styled, arrows}

pub record FontInLimits (f : Font) : Type 0 where
  pub intensity : f.intensity ≤ 2
  pub underline : f.underline ≤ 2
  pub blink : f.blink ≤ 2
  pub alignment : f.alignment ≤ 2

abbrev pub InLimits : Attributes → Type 0
InLimits a = FontInLimits a.font

-- ---- orders

-- an order whose value document 01 has: plain attributes stay in limits
unfoldable pub known_value : Sgr → Bool
unfolding apply plain
known_value o = let f : Font = (apply plain o).font in leb f.intensity 2 && (leb f.underline 2 && (leb f.blink 2 && leb f.alignment 2))

abbrev pub KnownValue : Sgr → Type 0
KnownValue o = T (known_value o)

pub orders_known : (ps : List ℕ) → All KnownValue (orders ps)
unfolding known_pass known_value
orders_known ps = orders_pass known_value (λ k. tt) (λ c. tt) (λ c. tt) (λ c. tt) ps

-- ---- attributes

zero_font : FontInLimits (style.font 0 0 0 0)
zero_font = record { intensity = omega arith; underline = omega arith; blink = omega arith; alignment = omega arith }

pub plain_limits : InLimits plain
unfolding plain
plain_limits = zero_font

apply_limits : (a : Attributes) (o : Sgr) → InLimits a → KnownValue o → InLimits (apply a o)
unfolding apply known_value
apply_limits a Reset f t = zero_font
apply_limits a (Intensity x) f t = record { intensity = leb→le x 2 (and_T (leb x 2) true t).0; underline = f.underline; blink = f.blink; alignment = f.alignment }
apply_limits a (Underline x) f t = record { intensity = f.intensity; underline = leb→le x 2 (and_T (leb x 2) true t).0; blink = f.blink; alignment = f.alignment }
apply_limits a (Blink x) f t = record { intensity = f.intensity; underline = f.underline; blink = leb→le x 2 (and_T (leb x 2) true t).0; alignment = f.alignment }
apply_limits a (VerticalAlign x) f t = record { intensity = f.intensity; underline = f.underline; blink = f.blink; alignment = leb→le x 2 t }
apply_limits a (Italic x) f t = f
apply_limits a (Inverse x) f t = f
apply_limits a (Invisible x) f t = f
apply_limits a (StrikeThrough x) f t = f
apply_limits a (Overline x) f t = f
apply_limits a (Foreground x) f t = f
apply_limits a (Background x) f t = f
apply_limits a (UnderlineColor x) f t = f

pub apply_all_limits : (a : Attributes) {os : List Sgr} → InLimits a → All KnownValue os → InLimits (apply_all a os)
unfolding apply_all
apply_all_limits a f all_nil = f
apply_all_limits a f (all_cons {a = o} t ts) = apply_all_limits (apply a o) (apply_limits a o f t) ts

pub linked_limits : (a : Attributes) (p n : ℕ) → InLimits a → InLimits (linked a p n)
unfolding linked
linked_limits a p zero f = f
linked_limits a p (suc n) f = f

marked_limits : (a : Attributes) (i : ℕ) → InLimits a → InLimits (apply_all a (Foreground (Palette 0) ∷ Background (Palette i) ∷ Intensity 0 ∷ []))
unfolding known_value
marked_limits a i f = apply_all_limits a {os = Foreground (Palette 0) ∷ Background (Palette i) ∷ Intensity 0 ∷ []} f (all_cons tt (all_cons tt (all_cons tt all_nil)))

pub styled_limits : (a : Attributes) (s : Style) → InLimits a → InLimits (styled a s)
unfolding styled known_value
styled_limits a style.file f = f
styled_limits a style.control f = apply_limits plain (Inverse true) plain_limits tt
styled_limits a style.match f = marked_limits a 3 f
styled_limits a style.current_match f = marked_limits a 6 f

pub arrows_limits : InLimits arrows
unfolding arrows known_value
arrows_limits = apply_all_limits plain {os = Foreground (Palette 4) ∷ Intensity 1 ∷ []} plain_limits (all_cons tt (all_cons tt all_nil))
