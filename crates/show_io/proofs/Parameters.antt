-- Parameters written one after the other.
use mathlib.Core.Path.{◌≡◌, refl, sym, ap, ◌∙◌}
use mathlib.Core.Logic.{◌≢◌}
use Prim.Native.Nat.{ℕ, ◌+◌}
use mathlib.Core.Bool.{Bool, true, false, cond}
use mathlib.Core.List.{List, [], ◌∷◌, ◌++◌, append_assoc, append-nil}
use lib.ListN.{get_or}
use borrow.Author.Tests.{eq-eqb, ne_eqb}
use Rattle.buffer.specs.Sink.{Sink, put, emit}
use Rattle.buffer.specs.Sink.Laws.{then_emit, emit_put}
use Rattle.rows_io.specs.Output.{decimal}
use Rattle.show_io.specs.Ansi.{valued, colored, font_of, flags_of, colors_of, parameters_of, further, style_order}

further_append : (ps qs : List ℕ) → further (ps ++ qs) ≡ further ps ++ further qs
unfolding further
further_append [] qs = refl
further_append (p ∷ ps) qs = ap (λ (l : List ℕ). 0x3B ∷ l) (ap (λ (l : List ℕ). decimal p ++ l) (further_append ps qs) ∙ sym (append_assoc (decimal p) (further ps) (further qs)))

then_further : (s a z : Sink ℕ) (ps qs : List ℕ) → a ≡ emit s (further ps) → z ≡ emit a (further qs) → z ≡ emit s (further (ps ++ qs))
then_further s a z ps qs e f = then_emit s a z (further ps) (further qs) e f ∙ ap (emit s) (sym (further_append ps qs))

pub parameter_pushed : (p : ℕ) (s a z : Sink ℕ) → a ≡ put s 0x3B → z ≡ emit a (decimal p) → z ≡ emit s (further (p ∷ []))
unfolding further
parameter_pushed p s a z e f = then_emit s a z (0x3B ∷ []) (decimal p) (emit_put s a 0x3B e) f ∙ ap (λ (l : List ℕ). emit s (0x3B ∷ l)) (sym (append-nil (decimal p)))

pub none_pushed : (s : Sink ℕ) → s ≡ emit s (further [])
unfolding further emit
none_pushed s = refl

-- ---- a value, a flag

module _ (v p q : ℕ) (s z : Sink ℕ) where
  pub value_one : v ≡ 1 → z ≡ emit s (further (p ∷ [])) → z ≡ emit s (further (valued p q v))
  value_one e w = rw (eq-eqb v 1 e) w

  pub value_two : (v ≢ 1) → v ≡ 2 → z ≡ emit s (further (q ∷ [])) → z ≡ emit s (further (valued p q v))
  value_two n e w = rw (ne_eqb v 1 n, eq-eqb v 2 e) w

pub value_none : (v p q : ℕ) (s : Sink ℕ) → (v ≢ 1) → (v ≢ 2) → s ≡ emit s (further (valued p q v))
value_none v p q s n m = rw (ne_eqb v 1 n, ne_eqb v 2 m) (none_pushed s)

pub flag_on : (on : Bool) (p : ℕ) (s z : Sink ℕ) → on ≡ true → z ≡ emit s (further (p ∷ [])) → z ≡ emit s (further (cond on (p ∷ []) []))
flag_on on p s z e w = rw e w

pub flag_off : (on : Bool) (p : ℕ) (s : Sink ℕ) → on ≡ false → s ≡ emit s (further (cond on (p ∷ []) []))
flag_off on p s e = rw e (none_pushed s)

-- ---- parts one after the other

pub three : (ps qs rs : List ℕ) (s a b z : Sink ℕ) → a ≡ emit s (further ps) → b ≡ emit a (further qs) → z ≡ emit b (further rs) → z ≡ emit s (further (ps ++ (qs ++ rs)))
three ps qs rs s a b z e f g = then_further s a z ps (qs ++ rs) e (then_further a b z qs rs f g)

pub five : (ps qs rs ts us : List ℕ) (s a b c d z : Sink ℕ) → a ≡ emit s (further ps) → b ≡ emit a (further qs) → c ≡ emit b (further rs) → d ≡ emit c (further ts) → z ≡ emit d (further us) → z ≡ emit s (further (ps ++ (qs ++ (rs ++ (ts ++ us)))))
five ps qs rs ts us s a b c d z e f g h i = then_further s a z ps _ e (then_further a b z qs _ f (three rs ts us b c d z g h i))

-- ---- a colour

module _ (p k : ℕ) (body : List ℕ) (at : ℕ) (is : k ≡ get_or body at 0) (s : Sink ℕ) where
  pub color_index : (x : ℕ) (a b z : Sink ℕ) → k ≡ 1 → x ≡ get_or body (at + 1) 0 → a ≡ emit s (further (p ∷ [])) → b ≡ emit a (further (5 ∷ [])) → z ≡ emit b (further (x ∷ [])) → z ≡ emit s (further (colored p body at))
  unfolding colored
  color_index x a b z o i e f g = rw (eq-eqb (get_or body at 0) 1 (sym is ∙ o)) (rw i at (three (p ∷ []) (5 ∷ []) (x ∷ []) s a b z e f g))

  pub color_rgb : (x y w : ℕ) (a b c d z : Sink ℕ) → (k ≢ 1) → k ≡ 2 → x ≡ get_or body (at + 1) 0 → y ≡ get_or body (at + 2) 0 → w ≡ get_or body (at + 3) 0
      → a ≡ emit s (further (p ∷ [])) → b ≡ emit a (further (2 ∷ [])) → c ≡ emit b (further (x ∷ [])) → d ≡ emit c (further (y ∷ [])) → z ≡ emit d (further (w ∷ []))
      → z ≡ emit s (further (colored p body at))
  unfolding colored
  color_rgb x y w a b c d z n o i j l e f g h m =
      rw (ne_eqb (get_or body at 0) 1 (λ q. n (is ∙ q)), eq-eqb (get_or body at 0) 2 (sym is ∙ o))
      (rw (i, j, l) at (five (p ∷ []) (2 ∷ []) (x ∷ []) (y ∷ []) (w ∷ []) s a b c d z e f g h m))

  pub color_none : (k ≢ 1) → (k ≢ 2) → s ≡ emit s (further (colored p body at))
  unfolding colored
  color_none n m = rw (ne_eqb (get_or body at 0) 1 (λ q. n (is ∙ q)), ne_eqb (get_or body at 0) 2 (λ q. m (is ∙ q))) (none_pushed s)

-- ---- fonts, orders

pub font_pushed : (body : List ℕ) (x y w : ℕ) (s a b z : Sink ℕ) → x ≡ get_or body 0 0 → y ≡ get_or body 1 0 → w ≡ get_or body 2 0 → a ≡ emit s (further (valued 1 2 x)) → b ≡ emit a (further (valued 4 21 y)) → z ≡ emit b (further (valued 5 6 w)) → z ≡ emit s (further (font_of body))
font_pushed body x y w s a b z i j k e f g = rw (i, j, k) at (three (valued 1 2 x) (valued 4 21 y) (valued 5 6 w) s a b z e f g)

pub style_pushed : (body : List ℕ) (x y : ℕ) (s a b c d e z : Sink ℕ) → x ≡ get_or body 3 0 → y ≡ get_or body 24 0
    → a ≡ emit s (0x1B ∷ 0x5B ∷ 0x30 ∷ []) → b ≡ emit a (further (font_of body)) → c ≡ emit b (further (flags_of x)) → d ≡ emit c (further (colors_of body)) → e ≡ emit d (further (valued 73 74 y)) → z ≡ put e 0x6D
    → z ≡ emit s (style_order body)
unfolding style_order parameters_of
style_pushed body x y s a b c d e z i j f g h k l m =
    let all : e ≡ emit a (further (font_of body ++ (flags_of x ++ (colors_of body ++ valued 73 74 y)))) = then_further a b e (font_of body) _ g (three (flags_of x) (colors_of body) (valued 73 74 y) b c d e h k l) in
    let same : font_of body ++ (flags_of x ++ (colors_of body ++ valued 73 74 y)) ≡ parameters_of body = rw (i, j) refl in
    then_emit s a z (0x1B ∷ 0x5B ∷ 0x30 ∷ []) (further (parameters_of body) ++ (0x6D ∷ [])) f
    (then_emit a e z (further (parameters_of body)) (0x6D ∷ []) (all ∙ ap (λ (ps : List ℕ). emit a (further ps)) same) (emit_put e z 0x6D m))
