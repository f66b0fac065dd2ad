-- Style orders and hyperlinks are read back: whatever attributes are in force and whatever follows, a style order is recognised whole, and
-- its orders lead to the attributes of its body, the link apart, which stays; a hyperlink is recognised whole, with its URI.
use Rattle.std.specs.Prelude.{◌≡◌, refl, ℕ, zero, suc, ◌+◌, ◌/◌, ◌%◌, ◌^◌, ◌≤◌, ◌<◌, Bool, true, false, cond, List, [], ◌∷◌, ◌++◌, length, take, drop, get_or, eqb}
use Rattle.std.proofs.Common.{ap, ◌∙◌, arith, append_assoc, append-nil, length-append}
use Rattle.std.proofs.Math.Seq.{take-append_seam}
use Rattle.text.specs.Tests.{cases, both}
use Rattle.text.specs.Each.{All, all_nil, all_cons, all_append, all_map}
use Rattle.text.specs.Overstrike.Bytes.{Byte, byte_at}
use Rattle.buffer.specs.Numbers.{le4}
use Rattle.spans.specs.Sgr.{known, meaning_of, coloured, orders}
use Rattle.spans.specs.Sgr.Parameters.{value_from, Numeral, ParameterString, last, next, are_allowed}
use Rattle.spans.specs.Sgr.Orders.{orders_order, orders_index, orders_rgb}
use Rattle.spans.specs.Sequence.{sgr, hyperlink, found, uri_byte, parse}
use Rattle.spans.specs.Sequence.Laws.{st}
use Rattle.spans.specs.Sequence.Hyperlink.{parse_form}
use Rattle.spans.specs.Sequence.ControlSequence.{parse_sgr}
use Rattle.spans.specs.declared.sgr.Color.{Color}
use Rattle.spans.specs.declared.sgr.Color.TheVariants.{Default}
use Rattle.spans.specs.declared.sgr.ColorState.TheVariants.{WantKind}
use Rattle.spans.specs.declared.sgr.Meaning.TheVariants.{Order, Group}
use Rattle.spans.specs.declared.sgr.Target.{Target}
use Rattle.spans.specs.declared.sgr.Target.TheVariants as target
use Rattle.spans.specs.declared.sgr.Sgr.{Sgr}
use Rattle.spans.specs.declared.sgr.Sgr.TheVariants.{Reset, Intensity, Underline, Blink, VerticalAlign, Italic, Inverse, Invisible, StrikeThrough, Overline}
use Rattle.drawing.specs.declared.attributes.Attributes.{Attributes}
use Rattle.drawing.specs.declared.attributes.Link.{Link}
use Rattle.drawing.specs.declared.attributes.Font.{Font}
use Rattle.drawing.specs.declared.attributes.Flags.{Flags}
use Rattle.drawing.specs.declared.attributes.Colors.{Colors}
use Rattle.drawing.specs.Attributes.{attributes, font, flags, colors, plain_with, apply_all}
use Rattle.drawing.specs.Attributes.Laws.{apply_all_reset, Selects, selected}
use Rattle.drawing.specs.Change.{attribute_bytes}
use Rattle.drawing.specs.Change.Laws as change
use Rattle.screen.specs.WellFormed.{body_size, fields}
use Rattle.screen.specs.WellFormed.Laws.{color_at, Fields, fields_are, attributes_of, body_attributes}
use Rattle.rows_io.specs.Output.Laws.{decimal_numeral}
use Rattle.show_io.specs.Ansi.{valued, flagged, colored, font_of, flags_of, colors_of, alignment_of, parameters_of, further, style_order, link_order}

-- a style order of the body b, read back
pub record StyleRead (b : List ℕ) : Type 0 where
  pub orders : List Sgr
  pub recognised : (t : List ℕ) → parse (drop 1 (style_order b ++ t)) ≡ found (sgr orders) (length (style_order b))
  pub applied : (a : Attributes) → attribute_bytes (apply_all a orders) ≡ take 16 b ++ (le4 a.link.place.0 ++ (le4 a.link.len ++ drop 24 b))

-- a hyperlink to the URI u, read back; its place is counted from the ESC
pub record LinkRead (u : List ℕ) : Type 0 where
  pub recognised : (t : List ℕ) → parse (drop 1 (link_order u ++ t)) ≡ found (hyperlink 5 (length u)) (length (link_order u))
  pub content : (t : List ℕ) → take (length u) (drop 5 (link_order u ++ t)) ≡ u

-- ---- what is recognised

-- a numeral, and parameters behind it
further_string : (ps : List ℕ) {ds : List ℕ} {n : ℕ} → Numeral ds n → All Byte ps → ParameterString (ds ++ further ps) (n ∷ ps)
unfolding further
further_string [] w all_nil = rw append-nil (last w)
further_string (p ∷ ps) w (all_cons h hs) = let small : p < 10 ^ 20 = omega arith in next w (further_string ps (decimal_numeral p small) hs)

recognised_whole : (ps : List ℕ) → All Byte ps → length ps ≤ 31 → (t : List ℕ) → parse (0x5B ∷ 0x30 ∷ (further ps ++ 0x6D ∷ t)) ≡ found (sgr (Reset ∷ orders ps)) (4 + length (further ps))
unfolding value_from meaning_of known
recognised_whole ps h few t =
    parse_sgr t (further_string ps {ds = 0x30 ∷ []} {n = 0} (record { digits = all_cons refl all_nil; value = refl }) h) (are_allowed {ps = 0 ∷ ps} (omega arith) (all_cons (omega arith) (all_map (λ p b. omega arith) h))) (orders_order 0 ps refl)
    ∙ ap (found (sgr (Reset ∷ orders ps))) (omega arith)

-- ---- what the orders lead to

-- the attributes after the orders of parameters
abbrev ran : Attributes → List ℕ → Attributes
ran a ps = apply_all a (orders ps)

ran_none : (a : Attributes) → ran a [] ≡ a
unfolding orders apply_all
ran_none a = refl

-- a parameter that is there selects its value; where it is not, that is as the reset left it
module _ (ps : List ℕ) where
  ran_value : (o : ℕ → Sgr) (at : ℕ → Attributes) (p q v : ℕ) → Selects o at → meaning_of known p ≡ Order (o 1) → meaning_of known q ≡ Order (o 2) → v ≤ 2 → ran (at 0) (valued p q v ++ ps) ≡ ran (at v) ps
  ran_value o at p q zero s e f h = refl
  ran_value o at p q (suc zero) s e f h = ap (apply_all (at 0)) (orders_order p ps e) ∙ s 0 1 (orders ps)
  ran_value o at p q (suc (suc zero)) s e f h = ap (apply_all (at 0)) (orders_order q ps f) ∙ s 0 2 (orders ps)
  ran_value o at p q (suc (suc (suc v))) s e f h = absurd (omega arith)

  ran_flag : (o : Bool → Sgr) (at : Bool → Attributes) (p : ℕ) (x : Bool) → Selects o at → meaning_of known p ≡ Order (o true) → ran (at false) (cond x (p ∷ []) [] ++ ps) ≡ ran (at x) ps
  ran_flag o at p true s e = ap (apply_all (at false)) (orders_order p ps e) ∙ s false true (orders ps)
  ran_flag o at p false s e = refl

  ran_color : (t : Target) (at : Color → Attributes) (p : ℕ) (b : List ℕ) (i : ℕ) → All Byte b → Selects (coloured t) at → meaning_of known p ≡ Group (WantKind t) → ran (at Default) (colored p b i ++ ps) ≡ ran (at (color_at b i)) ps
  unfolding colored
  ran_color t at p b i bytes s e =
      cases (eqb (get_or b i 0) 1)
      (λ f. rw f (ap (apply_all (at Default)) (orders_index p ps e (byte_at bytes (i + 1))) ∙ s Default _ (orders ps)))
      (λ f. cases (eqb (get_or b i 0) 2)
      (λ g. rw (f, g) (ap (apply_all (at Default)) (orders_rgb p ps e (byte_at bytes (i + 1)) (byte_at bytes (i + 2)) (byte_at bytes (i + 3))) ∙ s Default _ (orders ps)))
      (λ g. rw (f, g) refl))

-- the orders of a body's parameters lead to its attributes
attributes_ran : (b : List ℕ) → All Byte b → Fields b → (a : Attributes) → apply_all a (Reset ∷ orders (parameters_of b)) ≡ attributes_of b a.link
unfolding parameters_of plain_with meaning_of known coloured
attributes_ran b bytes is a =
    let l : Link = a.link in
    let i : ℕ = get_or b 0 0 in
    let u : ℕ = get_or b 1 0 in
    let k : ℕ = get_or b 2 0 in
    let f : ℕ = get_or b 3 0 in
    let F : Font = font i u k 0 in
    let G : Flags = change.flags_of f in
    let off : Flags = flags false false false false false in
    let none : Colors = colors Default Default Default in
    let x : Color = color_at b 4 in
    let y : Color = color_at b 8 in
    let C : Colors = colors x y (color_at b 12) in
    let ps₁₁ : List ℕ = alignment_of b ++ [] in
    let ps₁₀ : List ℕ = colored 58 b 12 ++ ps₁₁ in
    let ps₉ : List ℕ = colored 48 b 8 ++ ps₁₀ in
    let ps₈ : List ℕ = colored 38 b 4 ++ ps₉ in
    let ps₇ : List ℕ = flagged 53 16 f ++ ps₈ in
    let ps₆ : List ℕ = flagged 9 8 f ++ ps₇ in
    let ps₅ : List ℕ = flagged 8 4 f ++ ps₆ in
    let ps₄ : List ℕ = flagged 7 2 f ++ ps₅ in
    let ps₃ : List ℕ = flagged 3 1 f ++ ps₄ in
    let ps₂ : List ℕ = valued 5 6 k ++ ps₃ in
    let ps₁ : List ℕ = valued 4 21 u ++ ps₂ in
    let all : parameters_of b ≡ valued 1 2 i ++ ps₁ = simp (append_assoc, append-nil) in
    apply_all_reset a (orders (parameters_of b))
    ∙ ap (ran (plain_with l)) all
    ∙ ran_value ps₁ Intensity (λ v. attributes (font v 0 0 0) off none l) 1 2 i (selected (font 0 0 0 0) off none l).intensity refl refl is.intensity
    ∙ ran_value ps₂ Underline (λ v. attributes (font i v 0 0) off none l) 4 21 u (selected (font i 0 0 0) off none l).underline refl refl is.underline
    ∙ ran_value ps₃ Blink (λ v. attributes (font i u v 0) off none l) 5 6 k (selected (font i u 0 0) off none l).blink refl refl is.blink
    ∙ ran_flag ps₄ Italic (λ v. attributes F (flags v false false false false) none l) 3 G.italic (selected F off none l).italic refl
    ∙ ran_flag ps₅ Inverse (λ v. attributes F (flags G.italic v false false false) none l) 7 G.reverse (selected F (flags G.italic false false false false) none l).reverse refl
    ∙ ran_flag ps₆ Invisible (λ v. attributes F (flags G.italic G.reverse v false false) none l) 8 G.invisible (selected F (flags G.italic G.reverse false false false) none l).invisible refl
    ∙ ran_flag ps₇ StrikeThrough (λ v. attributes F (flags G.italic G.reverse G.invisible v false) none l) 9 G.strike (selected F (flags G.italic G.reverse G.invisible false false) none l).strike refl
    ∙ ran_flag ps₈ Overline (λ v. attributes F (flags G.italic G.reverse G.invisible G.strike v) none l) 53 G.overline (selected F G none l).overline refl
    ∙ ran_color ps₉ target.Foreground (λ v. attributes F G (colors v Default Default) l) 38 b 4 bytes (selected F G none l).foreground refl
    ∙ ran_color ps₁₀ target.Background (λ v. attributes F G (colors x v Default) l) 48 b 8 bytes (selected F G (colors x Default Default) l).background refl
    ∙ ran_color ps₁₁ target.Underline (λ v. attributes F G (colors x y v) l) 58 b 12 bytes (selected F G (colors x y Default) l).underline_color refl
    ∙ ran_value [] VerticalAlign (λ v. attributes (font i u k v) G C l) 73 74 (get_or b 24 0) (selected F G C l).alignment refl refl is.alignment
    ∙ ran_none (attributes_of b l)

-- ---- the parameters of a body: few, and bytes

record Few (n : ℕ) (ps : List ℕ) : Type 0 where
  few : length ps ≤ n
  bytes : All Byte ps

few_append : (m n : ℕ) (ps qs : List ℕ) → Few m ps → Few n qs → Few (m + n) (ps ++ qs)
few_append m n ps qs x y = record { few = rw length-append (let h = x.few in let k = y.few in omega arith); bytes = all_append x.bytes y.bytes }

few_none : (n : ℕ) → Few n []
few_none n = record { few = omega arith; bytes = all_nil }

few_one : (p : ℕ) → Byte p → Few 1 (p ∷ [])
few_one p h = record { few = omega arith; bytes = all_cons h all_nil }

few_value : (p q v : ℕ) → Byte p → Byte q → Few 1 (valued p q v)
few_value p q v h k = both (Few 1) (eqb v 1) (few_one p h) (both (Few 1) (eqb v 2) (few_one q k) (few_none 1))

few_flag : (p n v : ℕ) → Byte p → Few 1 (flagged p n v)
few_flag p n v h = both (Few 1) (eqb (v / n % 2) 1) (few_one p h) (few_none 1)

few_color : (p : ℕ) (b : List ℕ) (at : ℕ) → Byte p → All Byte b → Few 5 (colored p b at)
unfolding colored
few_color p b at h bs =
    both (Few 5) (eqb (get_or b at 0) 1) (record { few = omega arith; bytes = all_cons h (all_cons (omega arith) (all_cons (byte_at bs (at + 1)) all_nil)) })
    (both (Few 5) (eqb (get_or b at 0) 2) (record { few = omega arith; bytes = all_cons h (all_cons (omega arith) (all_cons (byte_at bs (at + 1)) (all_cons (byte_at bs (at + 2)) (all_cons (byte_at bs (at + 3)) all_nil)))) }) (few_none 5))

few_parameters : (b : List ℕ) → All Byte b → Few 24 (parameters_of b)
unfolding parameters_of
few_parameters b bs =
    few_append 3 21 (font_of b) _ (few_append 1 2 _ _ (few_value 1 2 (get_or b 0 0) (omega arith) (omega arith)) (few_append 1 1 _ _ (few_value 4 21 (get_or b 1 0) (omega arith) (omega arith)) (few_value 5 6 (get_or b 2 0) (omega arith) (omega arith))))
    (few_append 5 16 (flags_of (get_or b 3 0)) _ (few_append 1 4 _ _ (few_flag 3 1 (get_or b 3 0) (omega arith)) (few_append 1 3 _ _ (few_flag 7 2 (get_or b 3 0) (omega arith)) (few_append 1 2 _ _ (few_flag 8 4 (get_or b 3 0) (omega arith)) (few_append 1 1 _ _ (few_flag 9 8 (get_or b 3 0) (omega arith)) (few_flag 53 16 (get_or b 3 0) (omega arith))))))
    (few_append 15 1 (colors_of b) (alignment_of b) (few_append 5 10 _ _ (few_color 38 b 4 (omega arith) bs) (few_append 5 5 _ _ (few_color 48 b 8 (omega arith) bs) (few_color 58 b 12 (omega arith) bs))) (few_value 73 74 (get_or b 24 0) (omega arith) (omega arith))))

-- ---- the laws

pub style_read : (b : List ℕ) → All Byte b → length b ≡ body_size → fields b ≡ true → StyleRead b
unfolding style_order
style_read b bytes size e =
    let ps : List ℕ = parameters_of b in
    let w = few_parameters b bytes in
    let is : Fields b = fields_are b e in
    let n : 4 + length (further ps) ≡ length (style_order b) = omega (arith, length-append (further ps) (0x6D ∷ [])) in
    record {
      orders = Reset ∷ orders ps;
      recognised = λ t. ap (λ (s : List ℕ). parse (0x5B ∷ 0x30 ∷ s)) (append_assoc (further ps) (0x6D ∷ []) t) ∙ recognised_whole ps w.bytes (let h = w.few in omega arith) t ∙ ap (found (sgr (Reset ∷ orders ps))) n;
      applied = λ a. ap attribute_bytes (attributes_ran b bytes is a) ∙ body_attributes b size is a.link;
    }

pub link_read : (u : List ℕ) → All (λ (x : ℕ). uri_byte x ≡ true) u → LinkRead u
unfolding link_order
link_read u a =
    let n : 5 + length u + 2 ≡ length (link_order u) = omega (arith, length-append u (0x1B ∷ 0x5C ∷ [])) in
    record {
      recognised = λ t. ap (λ (s : List ℕ). parse (0x5D ∷ 0x38 ∷ 0x3B ∷ 0x3B ∷ s)) (append_assoc u (0x1B ∷ 0x5C ∷ []) t) ∙ parse_form {id = []} t all_nil a st ∙ ap (found (hyperlink 5 (length u))) n;
      content = λ t. ap (take (length u)) (append_assoc u (0x1B ∷ 0x5C ∷ []) t) ∙ take-append_seam u (0x1B ∷ 0x5C ∷ t);
    }
