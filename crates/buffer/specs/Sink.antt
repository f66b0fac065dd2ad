-- A buffer that is written from its front, with a count that stops one past the buffer's length.
use Rattle.std.specs.Prelude.{◌≡◌, cond, List, [], ◌∷◌, ◌++◌, ℕ, ◌+◌, ◌-◌, length, set, take, drop, replicate, ltb, leb}
pub mod Laws

-- a buffer and a count: a count above the buffer's length says that something was lost
pub data Sink (A : Type 0) : Type 0 where
  sink : List A → ℕ → Sink A

-- the count after one more: n + 1 once the buffer of n is full
unfoldable pub saturated : ℕ → ℕ → ℕ
saturated n at = cond (ltb at n) (at + 1) (n + 1)

-- one more
unfoldable pub put : {A : Type 0} → Sink A → A → Sink A
put (sink l at) b = sink (set l at b) (saturated (length l) at)

-- more, in order
unfoldable pub emit : {A : Type 0} → Sink A → List A → Sink A
emit s [] = s
emit s (b ∷ bs) = emit (put s b) bs

-- the buffer of n that holds xs, with zeros after, or zeros alone where xs does not fit
unfoldable pub written_or_zero : ℕ → List ℕ → List ℕ
written_or_zero n xs = cond (leb (length xs) n) (xs ++ replicate (n - length xs) 0) (replicate n 0)

-- what is kept of a buffer, and blanks after it
abbrev pub cleared : {A : Type 0} → A → ℕ → List A → List A
cleared blank n l = take n l ++ replicate (length l - n) blank

-- the buffer l with xs written at a place
abbrev pub written : {A : Type 0} → List A → ℕ → List A → List A
written l at xs = take at l ++ xs ++ drop (at + length xs) l

-- xs copied to a place of a buffer, and the place after it
pub record Copied {A : Type 0} (before after : List A) (at : ℕ) (xs : List A) (r : ℕ) : Type 0 where
  pub bytes : after ≡ written before at xs
  pub end : r ≡ at + length xs
