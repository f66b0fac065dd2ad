use Rattle.std.proofs.Common.{◌≡◌, ℕ, zero, suc, ◌*◌, ◌/◌, ◌%◌, ◌^◌, ◌<◌, false, eqb, min, refl, arith}
use borrow.Author.Tests.{ne_eqb}
use Rattle.drawing.specs.Marks.Contracts.{digit_of}
use Rattle.drawing.proofs.mark.digit.Goals as goal

shifted : (v k : ℕ) → v / 2 ^ (4 * min k 5) % 16 ≡ digit_of v k
shifted v zero = omega arith
shifted v (suc zero) = refl
shifted v (suc (suc zero)) = refl
shifted v (suc (suc (suc zero))) = refl
shifted v (suc (suc (suc (suc zero)))) = refl
shifted v (suc (suc (suc (suc (suc k))))) =
    let n : ℕ = suc (suc (suc (suc (suc k)))) in
    let e : min n 5 ≡ 5 = omega arith in
    let other : (i : ℕ) → i < 5 → eqb n i ≡ false = λ i h. ne_eqb n i (λ f. absurd (omega (arith, f, h))) in
    rw (e, other 0 (omega arith), other 1 (omega arith), other 2 (omega arith), other 3 (omega arith), other 4 (omega arith)) refl

pub returns : goal.returns
returns c = rw c.min.ensures (shifted c.args.code c.args.k)
