-- Style orders: the parameters behind `ESC [`, and what the known ones say (ECMA-48, SGR, as document 01 cuts it).
use Rattle.std.specs.Prelude.{ℕ, ◌+◌, ◌-◌, ◌*◌, Bool, true, false, cond, ◌&&◌, List, [], ◌∷◌, length, eqb, leb}
use Rattle.text.specs.Utf8.{to, within}
use Rattle.spans.specs.declared.sgr.Color.{Color}
use Rattle.spans.specs.declared.sgr.Color.TheVariants.{Default, Palette, Rgb}
use Rattle.spans.specs.declared.sgr.Sgr.{Sgr}
use Rattle.spans.specs.declared.sgr.Sgr.TheVariants.{Reset, Intensity, Underline, Blink, VerticalAlign, Italic, Inverse, Invisible, StrikeThrough, Overline, Foreground, Background, UnderlineColor}
use Rattle.spans.specs.declared.sgr.Target.{Target}
use Rattle.spans.specs.declared.sgr.Target.TheVariants as target
use Rattle.spans.specs.declared.sgr.ColorState.{ColorState}
use Rattle.spans.specs.declared.sgr.ColorState.TheVariants.{Ready, WantKind, WantIndex, WantRed, WantGreen, WantBlue}
use Rattle.spans.specs.declared.sgr.Meaning.{Meaning}
use Rattle.spans.specs.declared.sgr.Meaning.TheVariants.{Order, Group, Unknown}
pub mod Contracts
pub mod Parameters
pub mod Orders
pub mod Examples

-- ---- parameters: digits and `;`

abbrev pub digit : ℕ → Bool
digit b = within (to 0x30 0x39) b

-- the parameters that the leading digits and `;` write, an empty one being 0; v is the one begun
unfoldable pub parameters : ℕ → List ℕ → List ℕ
parameters v [] = v ∷ []
parameters v (b ∷ s) =
    let more : List ℕ = parameters (v * 10 + (b - 0x30)) s in
    let next : List ℕ = v ∷ parameters 0 s in
    cond (digit b) more (cond (eqb b 0x3B) next (v ∷ []))

unfoldable pub all_at_most : ℕ → List ℕ → Bool
all_at_most m [] = true
all_at_most m (v ∷ vs) = leb v m && all_at_most m vs

-- at most 32 parameters, each at most 65,535
unfoldable pub allowed : List ℕ → Bool
unfolding all_at_most
allowed ps = leb (length ps) 32 && all_at_most 65535 ps

-- ---- the known parameters

-- the parameters from `low` to `high`, and what the one k above `low` says
pub record Known : Type 0 where
  pub low : ℕ
  pub high : ℕ
  pub says : ℕ → Meaning

abbrev pub one : ℕ → Sgr → Known
one p o = record { low = p; high = p; says = λ k. Order o }

-- eight colours of the palette
abbrev pub eight : ℕ → (ℕ → Sgr) → Known
eight p f = record { low = p; high = p + 7; says = λ k. Order (f k) }

-- 5 and an index, or 2 and three numbers, are to follow
abbrev pub group : ℕ → Target → Known
group p t = record { low = p; high = p; says = λ k. Group (WantKind t) }

unfoldable pub known : List Known
known =
    one 0 Reset
    ∷ one 1 (Intensity 1) ∷ one 2 (Intensity 2) ∷ one 3 (Italic true) ∷ one 4 (Underline 1) ∷ one 5 (Blink 1) ∷ one 6 (Blink 2)
    ∷ one 7 (Inverse true) ∷ one 8 (Invisible true) ∷ one 9 (StrikeThrough true)
    ∷ one 21 (Underline 2) ∷ one 22 (Intensity 0) ∷ one 23 (Italic false) ∷ one 24 (Underline 0) ∷ one 25 (Blink 0)
    ∷ one 27 (Inverse false) ∷ one 28 (Invisible false) ∷ one 29 (StrikeThrough false)
    ∷ eight 30 (λ k. Foreground (Palette k)) ∷ group 38 target.Foreground ∷ one 39 (Foreground Default)
    ∷ eight 40 (λ k. Background (Palette k)) ∷ group 48 target.Background ∷ one 49 (Background Default)
    ∷ one 53 (Overline true) ∷ one 55 (Overline false) ∷ group 58 target.Underline ∷ one 59 (UnderlineColor Default)
    ∷ one 73 (VerticalAlign 1) ∷ one 74 (VerticalAlign 2) ∷ one 75 (VerticalAlign 0)
    ∷ eight 90 (λ k. Foreground (Palette (8 + k))) ∷ eight 100 (λ k. Background (Palette (8 + k))) ∷ []

unfoldable pub meaning_of : List Known → ℕ → Meaning
meaning_of [] p = Unknown
meaning_of (r ∷ rs) p = cond (within (to r.low r.high) p) (r.says (p - r.low)) (meaning_of rs p)

-- ---- groups

unfoldable pub coloured : Target → Color → Sgr
coloured target.Foreground c = Foreground c
coloured target.Background c = Background c
coloured target.Underline c = UnderlineColor c

-- what a parameter says after those before it
unfoldable pub meaning_after : ColorState → ℕ → Meaning
unfolding meaning_of known coloured
meaning_after Ready p = meaning_of known p
meaning_after (WantKind t) p = cond (eqb p 5) (Group (WantIndex t)) (cond (eqb p 2) (Group (WantRed t)) Unknown)
meaning_after (WantIndex t) p = cond (leb p 255) (Order (coloured t (Palette p))) Unknown
meaning_after (WantRed t) p = cond (leb p 255) (Group (WantGreen t p)) Unknown
meaning_after (WantGreen t r) p = cond (leb p 255) (Group (WantBlue t r p)) Unknown
meaning_after (WantBlue t r g) p = cond (leb p 255) (Order (coloured t (Rgb r g p))) Unknown

unfoldable pub follow : Meaning → (ColorState → List Sgr) → List Sgr
follow (Order o) go = o ∷ go Ready
follow (Group w) go = go w
follow Unknown go = []

-- the orders up to the first unknown parameter
unfoldable pub orders_from : ColorState → List ℕ → List Sgr
unfolding follow meaning_after
orders_from w [] = []
orders_from w (p ∷ ps) = follow (meaning_after w p) (λ w. orders_from w ps)

unfoldable pub orders : List ℕ → List Sgr
unfolding orders_from
orders ps = orders_from Ready ps
