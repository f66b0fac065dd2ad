-- What the contracts of src/output.rt say: a cell's bytes.
use Rattle.std.specs.Prelude.{ℕ, List, ◌++◌, length}
use Rattle.buffer.specs.Numbers.{le4}
use Rattle.screen.specs.Row.{Cell}
pub mod Laws

-- a 4-byte length of its cluster, the cluster and its attribute body
abbrev pub cell_bytes : Cell → List ℕ
cell_bytes c = le4 (length c.cluster) ++ (c.cluster ++ c.body)
