-- The first line in document 01's words, "width, space, mode (decimal digits), newline": a first line is in form where it is that, and
-- nowhere else.
use Rattle.std.specs.Prelude.{◌≡◌, refl, ℕ, ◌+◌, ◌-◌, ◌*◌, ◌≤◌, ◌<◌, ◌⊎◌, Bool, true, false, cond, ◌&&◌, List, [], ◌∷◌, ◌++◌, length, eqb, leb}
use Rattle.std.proofs.Common.{sym, ap, ap₂, ◌∙◌, arith, inl, inr, ⊎_elim, leb→le, ne_eqb, eqb-true, leb-true, leb-false}
use Rattle.text.specs.Tests.{and_T, true_T, is_true, cases}
use Rattle.spans.specs.Sgr.Parameters.{value_from}
use Rattle.rows_io.specs.FirstLine.{digit, more, empty, with_digit, with_byte, with_bytes, in_form}
use Rattle.rows_io.specs.FirstLine.Laws.{bytes_more, bytes_none, bytes_ended}
use Rattle.rows_io.specs.declared.first_line.FirstLine.{FirstLine}

-- decimal digits, and the number that they are
unfoldable pub all_digits : List ℕ → Bool
all_digits [] = true
all_digits (b ∷ s) = let further : Bool = all_digits s in cond (digit b) further false

unfoldable pub number_from : ℕ → List ℕ → ℕ
number_from v [] = v
number_from v (b ∷ s) = number_from (more v b) s

-- a first line that stands in the width, in the mode, and one that has ended in form
abbrev in_width : Bool → ℕ → FirstLine
in_width d w = record { stage = 0; digits = d; width = w; mode = 0; ended = false }

abbrev in_mode : Bool → ℕ → ℕ → FirstLine
in_mode d w m = record { stage = 1; digits = d; width = w; mode = m; ended = false }

abbrev whole : Bool → ℕ → ℕ → FirstLine
whole d w m = record { stage = 1; digits = d; width = w; mode = m; ended = true }

-- ---- one byte

no_newline : (b : ℕ) → digit b ≡ true → eqb b 0x0A ≡ false
no_newline b e = ne_eqb b 0x0A (λ q. omega (arith, leb→le 0x30 b (and_T (leb 0x30 b) (leb b 0x39) (true_T e)).0))

width_digit : (d : Bool) (w b : ℕ) → digit b ≡ true → with_byte (in_width d w) b ≡ in_width true (more w b)
unfolding with_byte with_digit
width_digit d w b e = rw (no_newline b e, e)

mode_digit : (d : Bool) (w m b : ℕ) → digit b ≡ true → with_byte (in_mode d w m) b ≡ in_mode true w (more m b)
unfolding with_byte with_digit
mode_digit d w m b e = rw (no_newline b e, e)

space_read : (w : ℕ) → with_byte (in_width true w) 0x20 ≡ in_mode false w 0
unfolding with_byte
space_read w = refl

newline_read : (d : Bool) (w m : ℕ) → with_byte (in_mode d w m) 0x0A ≡ whole d w m
unfolding with_byte
newline_read d w m = refl

-- ---- what is in form is read so

digits_first : (b : ℕ) (s : List ℕ) → all_digits (b ∷ s) ≡ true → (digit b ≡ true) × (all_digits s ≡ true)
unfolding all_digits
digits_first b s e = cases (digit b) (λ p. (p, sym (ap (λ (x : Bool). cond x (all_digits s) false) p) ∙ e)) (λ p. (cc, cc))

widths : (w t : List ℕ) (d : Bool) (v : ℕ) → all_digits w ≡ true → 0 < length w → with_bytes (in_width d v) (w ++ t) ≡ with_bytes (in_width true (number_from v w)) t
unfolding number_from
widths [] t d v e h = absurd (omega arith)
widths (b ∷ []) t d v e h = bytes_more (in_width d v) b t refl ∙ ap (λ (f : FirstLine). with_bytes f t) (width_digit d v b (digits_first b [] e).0)
widths (b ∷ c ∷ w) t d v e h =
    bytes_more (in_width d v) b (c ∷ w ++ t) refl ∙ ap (λ (f : FirstLine). with_bytes f (c ∷ w ++ t)) (width_digit d v b (digits_first b (c ∷ w) e).0) ∙ widths (c ∷ w) t true (more v b) (digits_first b (c ∷ w) e).1 (omega arith)

modes : (m t : List ℕ) (d : Bool) (w v : ℕ) → all_digits m ≡ true → 0 < length m → with_bytes (in_mode d w v) (m ++ t) ≡ with_bytes (in_mode true w (number_from v m)) t
unfolding number_from
modes [] t d w v e h = absurd (omega arith)
modes (b ∷ []) t d w v e h = bytes_more (in_mode d w v) b t refl ∙ ap (λ (f : FirstLine). with_bytes f t) (mode_digit d w v b (digits_first b [] e).0)
modes (b ∷ c ∷ m) t d w v e h =
    bytes_more (in_mode d w v) b (c ∷ m ++ t) refl ∙ ap (λ (f : FirstLine). with_bytes f (c ∷ m ++ t)) (mode_digit d w v b (digits_first b (c ∷ m) e).0) ∙ modes (c ∷ m) t true w (more v b) (digits_first b (c ∷ m) e).1 (omega arith)

pub form_read : (w m s : List ℕ) → all_digits w ≡ true → 0 < length w → all_digits m ≡ true → 0 < length m
    → with_bytes empty (w ++ 0x20 ∷ (m ++ 0x0A ∷ s)) ≡ whole true (number_from 0 w) (number_from 0 m)
form_read w m s dw lw dm lm =
    let a : ℕ = number_from 0 w in
    let b : ℕ = number_from 0 m in
    widths w (0x20 ∷ (m ++ 0x0A ∷ s)) false 0 dw lw
    ∙ bytes_more (in_width true a) 0x20 (m ++ 0x0A ∷ s) refl ∙ ap (λ (f : FirstLine). with_bytes f (m ++ 0x0A ∷ s)) (space_read a)
    ∙ modes m (0x0A ∷ s) false a 0 dm lm
    ∙ bytes_more (in_mode true a b) 0x0A s refl ∙ ap (λ (f : FirstLine). with_bytes f s) (newline_read true a b) ∙ bytes_ended s (whole true a b) refl

-- ---- and nothing else is in form

never {ℓ} : {A : Type ℓ} → false ≡ true → A
never e = let z : ◌≡◌ {A = ℕ} 0 1 = cc in absurd (omega arith)

and_false : (b : Bool) → b && false ≡ false
and_false true = refl
and_false false = refl

-- a line of another form stays one
other_digit : (f : FirstLine) (b : ℕ) → f.stage ≡ 2 → (with_digit f b).stage ≡ 2
unfolding with_digit
other_digit f b e = cases (eqb f.stage 0)
    (λ r. absurd (omega (arith, eqb-true f.stage 0 r)))
    (λ r. cases (eqb f.stage 1) (λ t. absurd (omega (arith, eqb-true f.stage 1 t))) (λ t. rw (r, t) e))

other_byte : (f : FirstLine) (b : ℕ) → f.stage ≡ 2 → (with_byte f b).stage ≡ 2
unfolding with_byte
other_byte f b e =
    cases (eqb b 0x0A) (λ p. rw p e)
    (λ p. cases (digit b) (λ q. rw (p, q) (other_digit f b e))
    (λ q. cases (eqb b 0x20 && (eqb f.stage 0 && f.digits))
    (λ r. let t = and_T (eqb f.stage 0) f.digits (and_T (eqb b 0x20) (eqb f.stage 0 && f.digits) (true_T r)).1 in
    absurd (omega (arith, eqb-true f.stage 0 (is_true (eqb f.stage 0) t.0))))
    (λ r. rw (p, q, r))))

other_bytes : (s : List ℕ) (f : FirstLine) → f.stage ≡ 2 → (with_bytes f s).stage ≡ 2
other_bytes [] f e = ap (λ (g : FirstLine). g.stage) (bytes_none f) ∙ e
other_bytes (b ∷ s) f e = cases f.ended
    (λ n. ap (λ (g : FirstLine). g.stage) (bytes_ended (b ∷ s) f n) ∙ e)
    (λ n. ap (λ (g : FirstLine). g.stage) (bytes_more f b s n) ∙ other_bytes s (with_byte f b) (other_byte f b e))

other_form_law {ℓ} : {A : Type ℓ} (s : List ℕ) (f : FirstLine) → f.stage ≡ 2 → in_form (with_bytes f s) ≡ true → A
other_form_law s f e i =
    let g : FirstLine = with_bytes f s in
    let t = and_T (eqb g.stage 1) g.digits (and_T g.ended (eqb g.stage 1 && g.digits) (true_T i)).1 in
    absurd (omega (arith, other_bytes s f e, eqb-true g.stage 1 (is_true (eqb g.stage 1) t.0)))

-- digits, a newline and what follows; with d a digit was read before
record ModeLine (d : Bool) (s : List ℕ) : Type 0 where
  mode : List ℕ
  line : List ℕ
  says : s ≡ mode ++ 0x0A ∷ line
  digits : all_digits mode ≡ true
  some : d ≡ false → 0 < length mode

-- what is in form says: a width, a space, a mode, a newline, and the line behind it
pub record Form (d : Bool) (s : List ℕ) : Type 0 where
  pub width : List ℕ
  pub mode : List ℕ
  pub line : List ℕ
  pub says : s ≡ width ++ 0x20 ∷ (mode ++ 0x0A ∷ line)
  pub width_digits : all_digits width ≡ true
  pub width_some : d ≡ false → 0 < length width
  pub mode_digits : all_digits mode ≡ true
  pub mode_some : 0 < length mode

mode_other : (d : Bool) (w m b : ℕ) → eqb b 0x0A ≡ false → digit b ≡ false → (with_byte (in_mode d w m) b).stage ≡ 2
unfolding with_byte
mode_other d w m b p q = rw (p, q, and_false (eqb b 0x20))

no_digits : all_digits [] ≡ true
unfolding all_digits
no_digits = refl

more_digits : (b : ℕ) (s : List ℕ) → digit b ≡ true → all_digits s ≡ true → all_digits (b ∷ s) ≡ true
unfolding all_digits
more_digits b s p e = ap (λ (x : Bool). cond x (all_digits s) false) p ∙ e

mode_only : (s : List ℕ) (d : Bool) (w m : ℕ) → in_form (with_bytes (in_mode d w m) s) ≡ true → ModeLine d s
mode_only [] d w m e = never (ap in_form (sym (bytes_none (in_mode d w m))) ∙ e)
mode_only (b ∷ s) d w m e =
    let f : FirstLine = in_mode d w m in
    let e' : in_form (with_bytes (with_byte f b) s) ≡ true = ap in_form (sym (bytes_more f b s refl)) ∙ e in
    cases (eqb b 0x0A)
    (λ p. let n : b ≡ 0x0A = eqb-true b 0x0A p in
    let r : with_byte f b ≡ whole d w m = ap (with_byte f) n ∙ newline_read d w m in
    let t : d ≡ true = sym (ap (λ (g : FirstLine). in_form (with_bytes g s)) r ∙ ap in_form (bytes_ended s (whole d w m) refl)) ∙ e' in
    record { mode = []; line = s; says = ap (λ (x : ℕ). x ∷ s) n; digits = no_digits; some = λ z. never (sym z ∙ t) })
    (λ p. cases (digit b)
    (λ q. let r : ModeLine true s = mode_only s true w (more m b) (ap (λ (g : FirstLine). in_form (with_bytes g s)) (sym (mode_digit d w m b q)) ∙ e') in
    record { mode = b ∷ r.mode; line = r.line; says = ap (λ (l : List ℕ). b ∷ l) r.says; digits = more_digits b r.mode q r.digits; some = λ z. omega arith })
    (λ q. other_form_law s (with_byte f b) (mode_other d w m b p q) e'))

width_newline : (d : Bool) (w b : ℕ) (s : List ℕ) → b ≡ 0x0A → in_form (with_bytes (with_byte (in_width d w) b) s) ≡ false
unfolding with_byte
width_newline d w b s n =
    let ended : FirstLine = record { stage = 0; digits = d; width = w; mode = 0; ended = true } in
    ap (λ (x : ℕ). in_form (with_bytes (with_byte (in_width d w) x) s)) n ∙ ap in_form (bytes_ended s ended refl)

width_other : (d : Bool) (w b : ℕ) → eqb b 0x0A ≡ false → digit b ≡ false → eqb b 0x20 && d ≡ false → (with_byte (in_width d w) b).stage ≡ 2
unfolding with_byte
width_other d w b p q r = rw (p, q, r)

behind_space : (b : ℕ) (d : Bool) (s : List ℕ) → b ≡ 0x20 → d ≡ true → ModeLine false s → Form d (b ∷ s)
behind_space b d s n t m =
    record { width = []; mode = m.mode; line = m.line; says = ap (λ (x : ℕ). x ∷ s) n ∙ ap (λ (l : List ℕ). 0x20 ∷ l) m.says; width_digits = no_digits; width_some = λ z. never (sym z ∙ t); mode_digits = m.digits; mode_some = m.some refl }

width_only : (s : List ℕ) (d : Bool) (w : ℕ) → in_form (with_bytes (in_width d w) s) ≡ true → Form d s
width_only [] d w e = never (ap in_form (sym (bytes_none (in_width d w))) ∙ e)
width_only (b ∷ s) d w e =
    let f : FirstLine = in_width d w in
    let e' : in_form (with_bytes (with_byte f b) s) ≡ true = ap in_form (sym (bytes_more f b s refl)) ∙ e in
    cases (eqb b 0x0A)
    (λ p. never (sym (width_newline d w b s (eqb-true b 0x0A p)) ∙ e'))
    (λ p. cases (digit b)
    (λ q. let r : Form true s = width_only s true (more w b) (ap (λ (g : FirstLine). in_form (with_bytes g s)) (sym (width_digit d w b q)) ∙ e') in
    record { width = b ∷ r.width; mode = r.mode; line = r.line; says = ap (λ (l : List ℕ). b ∷ l) r.says; width_digits = more_digits b r.width q r.width_digits; width_some = λ z. omega arith; mode_digits = r.mode_digits; mode_some = r.mode_some })
    (λ q. cases (eqb b 0x20 && d)
    (λ r. let n : b ≡ 0x20 = eqb-true b 0x20 (is_true (eqb b 0x20) (and_T (eqb b 0x20) d (true_T r)).0) in
    let t : d ≡ true = is_true d (and_T (eqb b 0x20) d (true_T r)).1 in
    let read : with_byte f b ≡ in_mode false w 0 = ap₂ (λ (x : Bool) (y : ℕ). with_byte (in_width x w) y) t n ∙ space_read w in
    behind_space b d s n t (mode_only s false w 0 (ap (λ (g : FirstLine). in_form (with_bytes g s)) (sym read) ∙ e')))
    (λ r. other_form_law s (with_byte f b) (width_other d w b p q r) e')))

pub form_only : (s : List ℕ) → in_form (with_bytes empty s) ≡ true → Form false s
form_only s e = width_only s false 0 e

-- ---- the numbers are those of their digits, as far as question 5 looks

abbrev pub Alike : ℕ → ℕ → Type 0
Alike a b = (a ≡ b) ⊎ ((65535 < a) × (65535 < b))

digit_alike : (a b d : ℕ) → Alike a b → Alike (more a d) (b * 10 + (d - 0x30))
digit_alike a b d z = cases (leb a 65535)
    (λ p. let h : a ≤ 65535 = leb-true a 65535 p in ⊎_elim (λ (e : a ≡ b). inl (rw (p, e))) (λ (w : (65535 < a) × (65535 < b)). absurd (omega (arith, w.0))) z)
    (λ p. let h : 65535 < a = omega (arith, leb-false a 65535 p) in
    inr (rw p h, ⊎_elim (λ (e : a ≡ b). omega arith) (λ (w : (65535 < a) × (65535 < b)). omega (arith, w.1)) z))

alike : (s : List ℕ) (a b : ℕ) → Alike a b → Alike (number_from a s) (value_from b s)
unfolding number_from value_from
alike [] a b z = z
alike (d ∷ s) a b z = alike s (more a d) (b * 10 + (d - 0x30)) (digit_alike a b d z)

pub numbers_alike : (s : List ℕ) → Alike (number_from 0 s) (value_from 0 s)
numbers_alike s = alike s 0 0 (inl refl)
