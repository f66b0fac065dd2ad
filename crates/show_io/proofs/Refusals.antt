-- Refusals, written one part after the other.
use mathlib.Core.Path.{◌≡◌, sym, ap, ◌∙◌}
use mathlib.Core.Logic.{◌≢◌}
use Prim.Native.Nat.{ℕ}
use mathlib.Core.List.{List, [], ◌∷◌}
use borrow.Author.Tests.{ne_eqb}
use Rattle.buffer.specs.Sink.{Sink, put, emit}
use Rattle.buffer.specs.Sink.Laws.{then_emit, emit_put}
use Rattle.rows_io.specs.Output.{decimal}
use Rattle.show_io.specs.Lines.{words, refused_text, refusal_text}

-- words that are said of the number k, of a number that is k
pub said : (words : ℕ → List ℕ) (k n : ℕ) (s z : Sink ℕ) → n ≡ k → z ≡ emit s (words k) → z ≡ emit s (words n)
said words k n s z e p = p ∙ ap (λ (m : ℕ). emit s (words m)) (sym e)

pub said_last : (n : ℕ) (s z : Sink ℕ) → (n ≢ 1) → (n ≢ 4) → (n ≢ 5) → (n ≢ 8) → (n ≢ 9) → z ≡ emit s (words 0) → z ≡ emit s (words n)
unfolding words
said_last n s z a b c d e p = rw (ne_eqb n 1 a, ne_eqb n 4 b, ne_eqb n 5 c, ne_eqb n 8 d, ne_eqb n 9 e) p

pub refused_pushed : (n : ℕ) (s a b c d z : Sink ℕ) → a ≡ emit s (0x3A ∷ 0x20 ∷ 0x72 ∷ 0x65 ∷ 0x66 ∷ 0x75 ∷ 0x73 ∷ 0x65 ∷ 0x64 ∷ 0x20 ∷ []) → b ≡ emit a (decimal n) → c ≡ emit b (0x3A ∷ 0x20 ∷ []) → d ≡ emit c (words n) → z ≡ put d 0x0A → z ≡ emit s (refused_text n)
unfolding refused_text
refused_pushed n s a b c d z e f g h i = then_emit s a z _ _ e (then_emit a b z _ _ f (then_emit b c z _ _ g (then_emit c d z _ (0x0A ∷ []) h (emit_put d z 0x0A i))))

pub refusal_pushed : (name : List ℕ) (line n : ℕ) (s a b c z : Sink ℕ) → a ≡ emit s name → b ≡ put a 0x3A → c ≡ emit b (decimal line) → z ≡ emit c (refused_text n) → z ≡ emit s (refusal_text name line n)
unfolding refusal_text
refusal_pushed name line n s a b c z e f g h = then_emit s a z name _ e (then_emit a b z (0x3A ∷ []) _ (emit_put a b 0x3A f) (then_emit b c z (decimal line) _ g h))
