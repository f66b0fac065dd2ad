-- What has the form of a hyperlink is found as one.
use Rattle.std.specs.Prelude.{◌≡◌, refl, ℕ, ◌+◌, true, false, List, [], ◌∷◌, ◌++◌, length, drop, get_or}
use Rattle.std.proofs.Common.{sym, ap, ap₂, ◌∙◌, arith, drop_at, get_or-drop}
use Rattle.text.specs.Each.{All}
use Rattle.text.specs.Places.{behind, byte_at}
use Rattle.spans.specs.Sequence.{found, hyperlink, past, uri_byte, id_byte, closed, osc, parse}
use Rattle.spans.specs.Sequence.Laws.{all_leading, Terminator, bel, st}

osc_closed : {id uri : List ℕ} (x : ℕ) (t : List ℕ) → All (λ (b : ℕ). id_byte b ≡ true) id → All (λ (b : ℕ). uri_byte b ≡ true) uri → uri_byte x ≡ false
    → osc (0x38 ∷ 0x3B ∷ (id ++ 0x3B ∷ (uri ++ x ∷ t))) ≡ closed (3 + length id) (3 + length id + length uri) x (get_or t 0 0)
unfolding osc past
osc_closed {id} {uri} x t h k e =
    let l : List ℕ = 0x38 ∷ 0x3B ∷ (id ++ 0x3B ∷ (uri ++ x ∷ t)) in
    let i : ℕ = 2 + length id in
    let j : ℕ = 3 + length id + length uri in
    let n : i + 1 ≡ 3 + length id = omega arith in
    let d : drop i l ≡ 0x3B ∷ (uri ++ x ∷ t) = drop_at (0x38 ∷ 0x3B ∷ id) (0x3B ∷ (uri ++ x ∷ t)) i (omega arith) in
    let f : drop (3 + length id) l ≡ uri ++ x ∷ t = rw n at (behind i l (0x3B ∷ []) (uri ++ x ∷ t) d) in
    let g : drop j l ≡ x ∷ t = behind (3 + length id) l uri (x ∷ t) f in
    let c : get_or l (j + 1) 0 ≡ get_or t 0 0 = sym (get_or-drop j l 1 0) ∙ ap (λ (s : List ℕ). get_or s 1 0) g in
    rw (all_leading id_byte 0x3B (uri ++ x ∷ t) h refl, byte_at i l 0x3B (uri ++ x ∷ t) d, n, f, all_leading uri_byte x t k e, byte_at j l x t g, c)

pub parse_form : {id uri end : List ℕ} (rest : List ℕ) → All (λ (b : ℕ). id_byte b ≡ true) id → All (λ (b : ℕ). uri_byte b ≡ true) uri → Terminator end
    → parse (0x5D ∷ 0x38 ∷ 0x3B ∷ (id ++ 0x3B ∷ (uri ++ (end ++ rest)))) ≡ found (hyperlink (5 + length id) (length uri)) (5 + length id + length uri + length end)
unfolding parse closed
parse_form {id} {uri} rest h k bel = osc_closed 0x07 rest h k refl ∙ ap₂ found (ap₂ hyperlink (omega arith) (omega arith)) (omega arith)
parse_form {id} {uri} rest h k st = osc_closed 0x1B (0x5C ∷ rest) h k refl ∙ ap₂ found (ap₂ hyperlink (omega arith) (omega arith)) (omega arith)
