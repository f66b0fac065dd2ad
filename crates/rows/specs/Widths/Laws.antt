-- Widths one after the other are tried up to the least that passes the test.
use Rattle.std.specs.Prelude.{◌≡◌, refl, ℕ, zero, suc, ◌+◌, Bool, Option, Some, None}
use Rattle.std.proofs.Common.{ap, ◌∙◌, add-one, arith}
use Rattle.text.specs.Tests.{cases}
use Rattle.rows.specs.Narrowest.{first_from, tried_of}
use Rattle.rows.specs.Widths.{Widths, widths, tried_from}

-- the width that `first_from` gives, which is 0 for none
abbrev pub found_at : ℕ → Option ℕ
found_at zero = None
found_at (suc w) = Some (suc w)

abbrev pub answer : ℕ → ℕ → Widths
answer most w = widths (tried_of most w) (found_at w)

pub tried_first : (p : ℕ → Bool) (n tried : ℕ) → tried_from p n tried ≡ answer (tried + n) (first_from p n (suc tried))
unfolding tried_from first_from tried_of
tried_first p zero tried = ap (λ (k : ℕ). widths k None) (omega arith)
tried_first p (suc n) tried =
    let z : tried + 1 + n ≡ tried + suc n = omega arith in
    cases (p (suc tried))
    (λ e. rw (add-one tried, e) refl)
    (λ e. rw (add-one tried, e) (tried_first p n (suc tried) ∙ ap (λ (k : ℕ). answer k (first_from p n (suc (suc tried)))) (let q : suc tried + n ≡ tried + suc n = omega arith in q)))
