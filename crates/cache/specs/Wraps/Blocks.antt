-- Numbers written to a block, and heads over them: what they leave of the other blocks.
use Rattle.std.specs.Prelude.{ℕ, ◌+◌, ◌*◌, ◌≤◌, ◌<◌, List, [], ◌∷◌, ◌≡◌, refl, take, drop, length, ltb}
use Rattle.std.proofs.Common.{arith, sym, ◌∙◌, length-drop, length-append, drop_at, ltb-true, ltb-false}
use Rattle.std.proofs.Math.Path.{ap}
use Rattle.std.proofs.Math.ListN.{length-replicate}
use Rattle.std.proofs.Math.Seq.{drop-drop}
use Rattle.buffer.specs.Sink.{written}
use Rattle.buffer.specs.Sink.Laws.{written_length, written_here, written_behind, written_before}
use Rattle.text.specs.Tests.{cases}
use Rattle.text.specs.Calls.{lent}
use Rattle.text.specs.Calls.Laws.{lent_accepted}
use Rattle.cache.specs.Wraps.{block_at, kept_numbers, head_numbers, with_heads}
use Rattle.cache.specs.declared.wraps.Head.{Head}

-- ---- numbers written to a block

module _ (wraps xs : List ℕ) (b : ℕ) (size : length wraps ≡ 8212) (low : b < 4) (fits : length xs ≤ 2048) where
  inside : block_at b + length xs ≤ length wraps
  inside = omega arith

  pub block_length : length (written wraps (block_at b) xs) ≡ 8212
  block_length = written_length wraps xs (block_at b) inside ∙ size

  pub block_here : (h : Head) → h.block ≡ b → length xs ≡ 2 * h.count → kept_numbers (written wraps (block_at b) xs) h ≡ xs
  block_here h e n = rw (e, ← n) (written_here wraps xs (block_at b) inside)

  pub block_other : (h : Head) → h.count ≤ 1024 → (h.block ≡ b → ⊥) → kept_numbers (written wraps (block_at b) xs) h ≡ kept_numbers wraps h
  block_other h few other =
      cases (ltb h.block b)
      (λ t. let z : h.block < b = ltb-true _ _ t in written_before wraps xs (block_at b) inside (block_at h.block) (2 * h.count) (omega arith))
      (λ t. let z : b ≤ h.block = ltb-false _ _ t in ap (take (2 * h.count)) (written_behind wraps xs (block_at b) inside (block_at h.block) (omega arith)))

-- ---- heads written

head_numbers_law : (hs : List Head) → length (head_numbers hs) ≡ 5 * length hs
unfolding head_numbers
head_numbers_law [] = refl
head_numbers_law (h ∷ hs) = omega (arith, head_numbers_law hs)

module _ (wraps : List ℕ) (hs : List Head) (few : length hs ≤ 4) where
  heads_take : length (lent 0 20 (head_numbers hs) 0) ≡ 20
  heads_take = simp (lent_accepted, length-append, length-replicate) (omega (arith, head_numbers_law hs))

  pub heads_length : 20 ≤ length wraps → length (with_heads wraps hs) ≡ length wraps
  unfolding with_heads
  heads_length h = simp (length-append, length-replicate, length-drop) (omega (arith, head_numbers_law hs))

  pub heads_blocks : (h : Head) → kept_numbers (with_heads wraps hs) h ≡ kept_numbers wraps h
  unfolding with_heads
  heads_blocks h =
      ap (take (2 * h.count))
      (sym (drop-drop (2048 * h.block) 20 (with_heads wraps hs)) ∙ ap (drop (2048 * h.block)) (drop_at (lent 0 20 (head_numbers hs) 0) (drop 20 wraps) 20 heads_take) ∙ drop-drop (2048 * h.block) 20 wraps)
