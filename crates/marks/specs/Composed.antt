-- The change list of a line that is one mark, or the letter `a` and one mark, composed byte for byte.
use Rattle.std.specs.Prelude.{ℕ, ◌+◌, ◌-◌, ◌/◌, ◌%◌, cond, ◌&&◌, List, [], ◌∷◌, ◌++◌, length, take, drop, replicate, ◌==◌, nat_lt}
use Rattle.buffer.specs.Numbers.{smaller_of, le2, le4}

-- a change: the length of its body, its kind, its body
unfoldable pub change : ℕ → List ℕ → List ℕ
unfolding le2 le4
change kind body = le4 (length body) ++ (le2 kind ++ body)

-- the columns of a mark from one to another, as a text
unfoldable pub clipped_change : List ℕ → ℕ → ℕ → List ℕ
unfolding change
clipped_change mark from to = let f : ℕ = smaller_of from (length mark) in change 1 (take (smaller_of to (length mark) - f) (drop f mark))

-- default attributes
unfoldable pub plain_change : List ℕ
unfolding change
plain_change = change 2 (replicate 25 0)

-- an arrow, bold and navy
unfoldable pub arrow_changes : ℕ → List ℕ
unfolding change
arrow_changes arrow = change 2 (1 ∷ 0 ∷ 0 ∷ 0 ∷ 1 ∷ 4 ∷ replicate 19 0) ++ change 1 (arrow ∷ [])

-- the window's left edge: an arrow where it starts past column 0
unfoldable pub left_edge : ℕ → List ℕ
unfolding arrow_changes plain_change
left_edge start = cond (start == 0) [] (arrow_changes 0x3C ++ plain_change)

-- the letter in column 0, where the line has it before the mark and the window shows it
unfoldable pub letter_change : (column start end : ℕ) → List ℕ
unfolding change
letter_change column start end = cond (column == 1 && (start == 0 && nat_lt 0 end)) (change 1 (0x61 ∷ [])) []

-- a mark that the window meets: reversed, its columns from one to another
unfoldable pub seen_changes : List ℕ → ℕ → ℕ → List ℕ
unfolding change clipped_change
seen_changes mark from to = cond (nat_lt from (length mark) && nat_lt 0 to) (change 2 (0 ∷ 0 ∷ 0 ∷ 2 ∷ replicate 21 0) ++ clipped_change mark from to) []

-- the window's right edge, `to` columns from where a mark of so many begins: an arrow where the mark passes it, a clearing where it ends before
unfoldable pub right_edge : ℕ → ℕ → List ℕ
unfolding change arrow_changes
right_edge columns to = cond (nat_lt to columns) (change 1 (0x08 ∷ []) ++ (change 4 [] ++ arrow_changes 0x3E)) (cond (nat_lt columns to) (change 3 (replicate 4 0)) [])

-- the first column that a window shows of a line
unfoldable pub shown_from : ℕ → ℕ
shown_from start = cond (start == 0) 0 (start + 1)

-- a mark at a column, 0 or, after the letter, 1
unfoldable pub composed_list : List ℕ → (column start end : ℕ) → List ℕ
unfolding shown_from left_edge letter_change seen_changes right_edge plain_change
composed_list mark column start end =
    let from : ℕ = shown_from start in
    left_edge start ++ (letter_change column from end ++ (seen_changes mark (from - column) (end - column) ++ (right_edge (length mark) (end - column) ++ plain_change)))

-- byte k of a sequence's continuation bytes, from the right
unfoldable pub continuation_of : ℕ → ℕ → ℕ
continuation_of code k = cond (k == 0) (0x80 + code % 64) (cond (k == 1) (0x80 + code / 64 % 64) (0x80 + code / 4096 % 64))
