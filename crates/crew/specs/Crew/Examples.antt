-- Drawings for each reader, computed; and for each condition a line without it whose lists differ.
use Rattle.std.specs.Prelude.{ℕ, ◌-◌, Bool, true, not, ◌&&◌, List, [], ◌∷◌, ◌++◌, length, take, replicate, T, eqb}
use Rattle.std.proofs.Math.Option.{none, some}
use Rattle.text.specs.Utf8.{same_bytes}
use Rattle.text.specs.Width.{profile01}
use Rattle.spans.specs.Search.{in_order, searched_length}
use Rattle.drawing.specs.Calls.{Drawn, window_call, row_call}

unfoldable all : List Bool → Bool
all [] = true
all (b ∷ bs) = b && all bs

-- ---- `a`, a link to `u`, `b`, columns 0 to 2: a text, the attributes that name the link, a text, the default attributes

abbrev linked : List ℕ
linked = 0x61 ∷ 0x1B ∷ 0x5D ∷ 0x38 ∷ 0x3B ∷ 0x3B ∷ 0x75 ∷ 0x07 ∷ 0x62 ∷ []

abbrev draws : ℕ → List ℕ → List ℕ → Drawn
draws reader matches line = window_call profile01 reader 32768 20 200 0 9 (some 0) matches line

abbrev letter : ℕ → List ℕ
letter b = 1 ∷ 0 ∷ 0 ∷ 0 ∷ 1 ∷ 0 ∷ b ∷ []

abbrev attributes : ℕ → ℕ → List ℕ
attributes place len = 25 ∷ 0 ∷ 0 ∷ 0 ∷ 2 ∷ 0 ∷ replicate 16 0 ++ place ∷ 0 ∷ 0 ∷ 0 ∷ len ∷ 0 ∷ 0 ∷ 0 ∷ 0 ∷ []

abbrev changes : ℕ → ℕ → List ℕ
changes place len = letter 0x61 ++ (attributes place len ++ (letter 0x62 ++ attributes 0 0))

unfoldable leaves : Drawn → ℕ → List ℕ → Bool
unfolding same_bytes
leaves a number list = eqb a.number number && (eqb a.count (length list) && same_bytes a.list (list ++ replicate (length a.list - length list) 0))

readers : T (all (
    leaves (window_call profile01 0 80 3 76 0 2 none [] linked) 0 (changes 6 1)
    ∷ leaves (window_call profile01 1 80 3 76 0 2 none [] linked) 0 (changes 0 0)
    ∷ leaves (window_call profile01 2 80 3 76 0 2 none [] linked) 18 []
    ∷ leaves (window_call profile01 18446744073709551615 80 3 76 0 2 none [] linked) 18 []
    ∷ leaves (window_call profile01 1 80 3 75 0 2 none [] linked) 9 []
    ∷ eqb (window_call profile01 2 0 0 0 0 0 none [] (replicate 4097 0x61)).number 18
    ∷ eqb (window_call profile01 1 0 0 0 0 0 none [] (replicate 4097 0x61)).number 1
    ∷ eqb (row_call profile01 4294967296 0 0 0 0 0 0 0 none [] []).number 18
    ∷ []))
unfolding all leaves window_call row_call profile01 in_order searched_length
readers = tt

-- ---- the conditions

unfoldable alike : ℕ → List ℕ → List ℕ → List ℕ → Bool
unfolding same_bytes
alike reader matches l m = let a : Drawn = draws reader matches l in let b : Drawn = draws reader matches m in eqb a.number b.number && same_bytes (take a.count a.list) (take b.count b.list)

-- `ESC ] 8 ; ; u` and what follows
abbrev opened : ℕ → List ℕ → List ℕ
opened u s = 0x1B ∷ 0x5D ∷ 0x38 ∷ 0x3B ∷ 0x3B ∷ u ∷ s

conditions : T (all (
    alike 1 [] (opened 0x75 (0x07 ∷ 0x61 ∷ [])) (opened 0x76 (0x07 ∷ 0x61 ∷ []))
    -- a hyperlink that is read: here it has no end
    ∷ not (alike 1 [] (opened 0x75 []) (opened 0x76 []))
    -- no backspace: here one strikes the URI's byte over
    ∷ not (alike 1 [] (opened 0x61 (0x08 ∷ 0x62 ∷ 0x07 ∷ 0x63 ∷ [])) (opened 0x61 (0x08 ∷ 0x61 ∷ 0x07 ∷ 0x63 ∷ [])))
    -- no matches: here one cuts the hyperlink
    ∷ not (alike 1 (0 ∷ 1 ∷ []) (opened 0x75 (0x07 ∷ 0x61 ∷ [])) (opened 0x76 (0x07 ∷ 0x61 ∷ [])))
    -- equal lengths: the bench is told them
    ∷ alike 1 [] (opened 0x75 (0x07 ∷ 0x61 ∷ [])) (opened 0x75 (0x75 ∷ 0x07 ∷ 0x61 ∷ []))
    ∷ not (alike 0 [] (opened 0x75 (0x07 ∷ 0x61 ∷ [])) (opened 0x75 (0x75 ∷ 0x07 ∷ 0x61 ∷ [])))
    ∷ []))
unfolding all alike window_call profile01 in_order searched_length
conditions = tt
