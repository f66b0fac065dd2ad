-- What the laws of tables in parts say of this one. Written by tools/unicode-lookup.
use Prim.Native.Nat.{ℕ}
use mathlib.Core.Path.{◌≡◌}
use mathlib.Core.List.{[], map}
use lib.Dec.{T}
use lib.ListN.{get_or}
use Rattle.unicode_data.specs.Table.{kind_in, ascending, joined}
use Rattle.unicode_data.specs.Table.Parts as parts
use Rattle.unicode_data.specs.Table150.{groups, group, table150, ascending150}

pub ascends_in : (g k : ℕ) → T (ascending (get_or (get_or groups g []) k []))
unfolding table150
ascends_in = parts.ascends_in groups ascending150

pub in_group : (g x z : ℕ) → z ≡ parts.chosen (get_or groups g []) x → z ≡ kind_in (group g) x
unfolding table150 parts.filled_groups
in_group = parts.in_group groups ascending150 tt

pub in_table : (x z : ℕ) → z ≡ parts.chosen (map joined groups) x → z ≡ kind_in table150 x
unfolding table150 parts.filled
in_table = parts.in_groups groups ascending150 tt
