-- What stands at a place of a line, and behind it.
use Rattle.std.specs.Prelude.{◌≡◌, ℕ, suc, ◌+◌, ◌-◌, ◌<◌, List, [], ◌∷◌, ◌++◌, length, drop, get_or}
use Rattle.std.proofs.Common.{sym, ap, ap₂, ◌∙◌, add-zero, add-one, arith, drop_of_length-le, drop-cons, drop-drop, get_or-drop}
use Rattle.std.proofs.Math.Seq.{drop-append_seam}

pub behind : (p : ℕ) (l a b : List ℕ) → drop p l ≡ a ++ b → drop (p + length a) l ≡ b
behind p l a b e = sym (drop-drop (length a) p l) ∙ ap (drop (length a)) e ∙ drop-append_seam a b

pub byte_at : (p : ℕ) (l : List ℕ) (x : ℕ) (b : List ℕ) → drop p l ≡ x ∷ b → get_or l p 0 ≡ x
byte_at p l x b e = ap (λ (n : ℕ). get_or l n 0) (sym (add-zero p)) ∙ sym (get_or-drop p l 0 0) ∙ ap (λ (s : List ℕ). get_or s 0 0) e

pub behind_byte : (p : ℕ) (l : List ℕ) (x : ℕ) (b : List ℕ) → drop p l ≡ x ∷ b → drop (suc p) l ≡ b
behind_byte p l x b e = ap (λ (n : ℕ). drop n l) (sym (add-one p)) ∙ behind p l (x ∷ []) b e

-- two bytes that stand at a place, and the last one
pub two_at : (m : List ℕ) (i : ℕ) → i + 1 < length m → drop i m ≡ get_or m i 0 ∷ get_or m (i + 1) 0 ∷ drop (i + 2) m
two_at m i h =
    let k : suc i < length m = omega arith in
    let q : suc (suc i) ≡ i + 2 = omega arith in
    drop-cons m i 0 (omega arith) ∙ ap (λ (l : List ℕ). get_or m i 0 ∷ l) (drop-cons m (suc i) 0 k ∙ ap₂ (λ (j n : ℕ). get_or m j 0 ∷ drop n m) (sym (add-one i)) q)

pub last_at_law : (m : List ℕ) (i : ℕ) → i < length m → length m - i ≡ 1 → drop i m ≡ get_or m i 0 ∷ []
last_at_law m i h k = drop-cons m i 0 h ∙ ap (λ (l : List ℕ). get_or m i 0 ∷ l) (drop_of_length-le m {i = suc i} (omega arith))
