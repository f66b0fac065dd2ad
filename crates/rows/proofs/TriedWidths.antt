-- Widths tried one after the other.
use Rattle.std.proofs.Common.{◌≡◌, refl, ap, ◌∙◌, ℕ, suc, ◌+◌, Bool, true, false, List, [], length, ◌≤◌, ◌<◌, ◌-◌, arith, cond, Some, None}
use Rattle.text.specs.Class.{Profile}
use Rattle.text.specs.Class.Code.{profile_of}
use Rattle.text.specs.Class.Profile01.{profile_is}
use Rattle.spans.specs.Spans.{Record}
use Rattle.rows.specs.Calls.Contracts.{wrapping_at}
use Rattle.rows.specs.Widths.{widths, widths_to, rows_at, tried_from}
use Rattle.rows.specs.Wrap.{RowList, row_list, with_rows, beginning, rows_of, MadeWrap}
use Rattle.rows.specs.Wrap.Laws.{rows_pushed, written_count}
use Rattle.rows.specs.declared.wrap.RowCounts.{RowCounts}
use Rattle.rows.specs.declared.wrap.WrapState.{WrapState}
use Rattle.rows.specs.declared.wrap.Wrapping.{Wrapping}

-- what a wrap without row memory counts is the rows of its records
rows_counted : (P : Profile) (width mode : ℕ) (line : List ℕ) (rs : List Record) (l' : List ℕ) (y : RowCounts) → MadeWrap P width mode line rs [] (beginning 0 0) l' y → y.count ≡ length (rows_of P width mode line rs)
rows_counted P width mode line rs l' y made =
    let none : RowList = row_list [] (beginning 0 0).tally in
    let e : row_list l' y ≡ with_rows none (rows_of P width mode line rs) = made.same ∙ rows_pushed P width line [] 0 0 mode rs in
    ap (λ (k : RowList). k.tally.count) e ∙ written_count none refl (rows_of P width mode line rs) (rw (ap (λ (k : RowList). k.tally.count) e) at made.more)

pub rows_at_law : (width mode : ℕ) (line : List ℕ) (rs : List Record) (l l' : List ℕ) (y : RowCounts) (w : Wrapping) (t : WrapState) → w ≡ wrapping_at width mode → t ≡ beginning 0 0 → l ≡ []
    → MadeWrap (profile_of w.profile) w.width.0 w.mode line rs l t l' y → y.count ≡ rows_at mode line rs width
rows_at_law width mode line rs l l' y w t e f g made =
    let m = rw (e, f, g, profile_is (record { version = 0 })) at made in rows_counted _ width mode line rs l' y m

-- ---- the loop over widths: t were tried, the next is w, and n are left from it on

pub record Trying (p : ℕ → Bool) (greatest w : ℕ) : Type 0 where
  pub some : 1 ≤ w
  pub few : w ≤ greatest + 1
  pub same : tried_from p (greatest + 1 - w) (w - 1) ≡ tried_from p greatest 0

module _ (p : ℕ → Bool) (greatest : ℕ) where
  pub trying_begins : Trying p greatest 1
  trying_begins = record { some = omega arith; few = omega arith; same = let e : greatest + 1 - 1 ≡ greatest = omega arith in ap (λ (n : ℕ). tried_from p n 0) e }

  module _ (w : ℕ) (loop : Trying p greatest w) where
    module _ (here : w ≤ greatest) where
      one_more : tried_from p (suc (greatest - w)) (w - 1) ≡ tried_from p greatest 0
      one_more = let e : suc (greatest - w) ≡ greatest + 1 - w = omega arith in ap (λ (n : ℕ). tried_from p n (w - 1)) e ∙ loop.same

      turn : cond (p w) (widths w (Some w)) (tried_from p (greatest - w) w) ≡ tried_from p greatest 0
      unfolding tried_from
      turn = let e : w - 1 + 1 ≡ w = omega (arith, loop.some) in rw e at one_more

      pub trying_stops : p w ≡ true → widths_to greatest (Some w) ≡ tried_from p greatest 0
      trying_stops f = rw f at turn

      module _ (f : p w ≡ false) where
        goes_on : tried_from p (greatest - w) w ≡ tried_from p greatest 0
        goes_on = rw f at turn

        pub trying_goes_on : Trying p greatest (w + 1)
        trying_goes_on =
            let n : greatest + 1 - (w + 1) ≡ greatest - w = omega arith in
            let t : w + 1 - 1 ≡ w = omega arith in
            record { some = omega arith; few = omega arith; same = rw (n, t) goes_on }

        pub trying_last : greatest ≤ w → widths_to greatest None ≡ tried_from p greatest 0
        unfolding tried_from
        trying_last h = let e : greatest ≡ w = omega arith in let z : greatest - w ≡ 0 = omega arith in ap (λ (n : ℕ). widths n None) e ∙ rw z at goes_on

    pub trying_none : greatest < w → widths_to greatest None ≡ tried_from p greatest 0
    unfolding tried_from
    trying_none h =
        let e : greatest ≡ w - 1 = omega (arith, loop.few) in
        let z : greatest + 1 - w ≡ 0 = omega arith in
        ap (λ (n : ℕ). widths n None) e ∙ rw z at loop.same
