-- Bounds of marks.
use Rattle.std.specs.Prelude.{ℕ, ◌≤◌, ltb}
use Rattle.std.proofs.Common.{arith}
use Rattle.text.specs.Tests.{cases}
use Rattle.rows.specs.Marks.{mark_columns}

pub mark_small : (v : ℕ) → mark_columns v ≤ 10
unfolding mark_columns
mark_small v = cases (ltb v 0x10000) (λ a. rw a (omega arith)) (λ a. cases (ltb v 0x100000) (λ b. rw (a, b) (omega arith)) (λ b. rw (a, b) (omega arith)))
