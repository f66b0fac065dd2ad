-- The call `narrowest`, computed.
use Rattle.std.specs.Prelude.{◌≡◌, refl, ℕ, List, [], ◌∷◌}
use Rattle.text.specs.Width.{profile01}
use Rattle.rows.specs.Narrowest.{Narrowed, narrowest_call}

-- number, count and widths tried of a call that is lent 64 bytes and 4 places
abbrev answer : (mode wanted greatest : ℕ) → List ℕ → ℕ × ℕ × ℕ
answer mode wanted greatest line = let c : Narrowed = narrowest_call profile01 64 4 mode wanted greatest line in (c.number, c.count, c.tried)

-- found at 2, the third width left untried; none up to 1; an empty line
found : answer 1 1 3 (0x61 ∷ 0x62 ∷ []) ≡ (0, 2, 2)
unfolding profile01 narrowest_call
found = refl

none : answer 1 1 1 (0x61 ∷ 0x62 ∷ []) ≡ (0, 0, 1)
unfolding profile01 narrowest_call
none = refl

empty : answer 2 1 9 [] ≡ (0, 1, 1)
unfolding profile01 narrowest_call
empty = refl

-- two tabs take one row from width 8 on, though their last column is 16
tabs : answer 1 1 99 (0x09 ∷ 0x09 ∷ []) ≡ (0, 8, 8)
unfolding profile01 narrowest_call
tabs = refl

-- `a bb cc `: two rows by clusters from width 4 on, by words from 5 on
by_clusters_law : answer 1 2 9 (0x61 ∷ 0x20 ∷ 0x62 ∷ 0x62 ∷ 0x20 ∷ 0x63 ∷ 0x63 ∷ 0x20 ∷ []) ≡ (0, 4, 4)
unfolding profile01 narrowest_call
by_clusters_law = refl

by_words_law : answer 2 2 9 (0x61 ∷ 0x20 ∷ 0x62 ∷ 0x62 ∷ 0x20 ∷ 0x63 ∷ 0x63 ∷ 0x20 ∷ []) ≡ (0, 5, 5)
unfolding profile01 narrowest_call
by_words_law = refl

-- refused: mode 3, no row wanted, no width
modes : answer 3 1 1 (0x61 ∷ []) ≡ (5, 0, 0)
unfolding profile01 narrowest_call
modes = refl

no_row : answer 1 0 1 (0x61 ∷ []) ≡ (5, 0, 0)
unfolding profile01 narrowest_call
no_row = refl

no_width : answer 1 1 0 (0x61 ∷ []) ≡ (5, 0, 0)
unfolding profile01 narrowest_call
no_width = refl
