-- Document 01's questions, what a call leaves in lent memory, and the calls `convert` and `write_cells`.
use Rattle.std.specs.Prelude.{ℕ, zero, suc, ◌-◌, ◌*◌, Bool, cond, List, [], ◌∷◌, ◌++◌, length, replicate, leb}
use Rattle.text.specs.Class.{Profile}
use Rattle.text.specs.Overstrike.{convert}
use Rattle.text.specs.Cells.{are_cells, overstruck_cells}
pub mod Laws
pub mod Code

-- a question put to a call, and the number of its refusal
pub record Question : Type 0 where
  pub answer : Bool
  pub refusal : ℕ

abbrev pub ask : ℕ → Bool → Question
ask n b = record { answer = b; refusal = n }

-- the first "no" decides; 0 where there is none
unfoldable pub decide : List Question → ℕ
decide [] = 0
decide (q ∷ qs) = let further : ℕ = decide qs in cond q.answer further q.refusal

-- what a call that decides r leaves in n lent places: what it has for them and zeros after it, or zeros throughout
unfoldable pub lent : {A : Type 0} → A → ℕ → List A → ℕ → List A
lent blank n xs zero = xs ++ replicate (n - length xs) blank
lent blank n xs (suc r) = replicate n blank

-- the count that it returns
unfoldable pub counted : ℕ → ℕ → ℕ
counted n zero = n
counted n (suc r) = 0

abbrev pub question1 : List ℕ → Question
question1 line = ask 1 (leb (length line) 4096)

abbrev pub question2 : ℕ → List ℕ → Question
question2 conv line = ask 2 (leb (8 * length line) conv)

-- what `convert` returns and leaves
pub record Converted : Type 0 where
  pub number : ℕ
  pub count : ℕ
  pub conv : List ℕ

-- the call `convert`, lent a buffer of conv bytes
unfoldable pub convert_call : Profile → ℕ → List ℕ → Converted
unfolding decide lent counted convert
convert_call P conv line =
    let s : List ℕ = convert P line in
    let r : ℕ = decide (question1 line ∷ question2 conv line ∷ []) in
    record { number = r; count = counted (length s) r; conv = lent 0 conv s r }

-- what a call that writes bytes returns and leaves
pub record Written : Type 0 where
  pub number : ℕ
  pub count : ℕ
  pub out : List ℕ

-- the call `write_cells`, lent a buffer of `room` bytes
unfoldable pub write_cells_call : (room : ℕ) (cells : List ℕ) → Written
unfolding decide lent counted are_cells overstruck_cells
write_cells_call room cells =
    let s : List ℕ = overstruck_cells cells in
    let r : ℕ = decide (ask 16 (are_cells cells) ∷ question1 s ∷ ask 17 (leb (length s) room) ∷ []) in
    record { number = r; count = counted (length s) r; out = lent 0 room s r }
