-- The columns of a text's marks, scalar by scalar.
use mathlib.Core.Path.{◌≡◌, sym, ap, ◌∙◌}
use Rattle.std.proofs.Common.{Some, None, refl}
use Prim.Native.Nat.{ℕ, ◌+◌, ◌-◌, ◌*◌, ◌≤◌, ◌<◌, ◌^◌}
use native.Mathlib.Omega.{arith}
use mathlib.Core.List.{List, []}
use lib.ListN.{length, drop}
use Rattle.text.specs.Utf8.{decode}
use Rattle.text.specs.Utf8.Code.{first_sequence}
use Rattle.text.specs.Utf8.Code.Laws.{none_past, ScalarAt, some_at, nothing_at}
use Rattle.text.specs.declared.utf8.Sequence.{Sequence}
use Rattle.text.specs.TextParts.{text_at}
use Rattle.rows.specs.Marks.{mark_columns, drawn_columns, DrawnColumns}
use Rattle.rows.specs.Marks.Laws.{mark_small}

pub record Counted (text : List ℕ) (p n : ℕ) : Type 0 where
  pub inside : p ≤ length text
  pub work : n + drawn_columns (text_at text p) ≡ drawn_columns (text_at text 0)
  pub small : n ≤ 10 * p

pub count_begin : (text : List ℕ) → Counted text 0 0
count_begin text = record { inside = omega arith; work = omega arith; small = omega arith }

module _ (text : List ℕ) (p n : ℕ) (k : Counted text p n) where
  count_done : text_at text p ≡ [] → DrawnColumns text n
  unfolding drawn_columns
  count_done e = let z : drawn_columns (text_at text p) ≡ 0 = ap drawn_columns e in record { drawn = omega (arith, k.work, z); small = omega (arith, k.small, k.inside) }

  pub count_end : length text ≤ p → DrawnColumns text n
  count_end h = count_done (none_past text p h)

  pub count_stop : (here : p < length text) → None ≡ first_sequence (decode (drop p text)) → DrawnColumns text n
  count_stop here read = count_done (nothing_at text p here _ read refl)

  module _ (u : Sequence) (here : p < length text) (read : Some u ≡ first_sequence (decode (drop p text))) where
    abbrev a : ScalarAt text p u
    a = some_at text p here _ read u refl

    pub count_room : (m : ℕ) → m ≡ mark_columns u.code → 10 * length text < 2 ^ 64 → n + m < 18446744073709551616
    count_room m e r = omega (arith, k.small, e, mark_small u.code, here)

    pub count_fits : 10 * length text < 2 ^ 64 → p + u.len < 18446744073709551616
    count_fits r = omega (arith, a.fits)

    pub count_falls : length text - (p + u.len) < length text - p
    count_falls = omega (arith, a.fits, a.some)

    pub count_turn : (m : ℕ) → m ≡ mark_columns u.code → Counted text (p + u.len) (n + m)
    unfolding drawn_columns
    count_turn m e =
        let d : drawn_columns (text_at text p) ≡ mark_columns a.scalar.code + drawn_columns (text_at text (p + u.len)) = ap drawn_columns a.run in
        let c : mark_columns a.scalar.code ≡ m = ap mark_columns a.code ∙ sym e in
        record { inside = a.fits; work = omega (arith, k.work, d, c); small = omega (arith, k.small, e, mark_small u.code, a.some) }
