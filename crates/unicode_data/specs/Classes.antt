-- The numbers of the classes: UAX #29's Grapheme_Cluster_Break, and Extended_Pictographic, which is a class where a scalar has no other.
use Rattle.std.specs.Prelude.{ℕ}

abbrev pub cr : ℕ
cr = 0

abbrev pub lf : ℕ
lf = 1

abbrev pub control : ℕ
control = 2

abbrev pub extend : ℕ
extend = 3

abbrev pub zwj : ℕ
zwj = 4

abbrev pub class_l : ℕ
class_l = 5

abbrev pub class_v : ℕ
class_v = 6

abbrev pub class_t : ℕ
class_t = 7

abbrev pub class_lv : ℕ
class_lv = 8

abbrev pub class_lvt : ℕ
class_lvt = 9

abbrev pub regional_indicator : ℕ
regional_indicator = 10

abbrev pub other : ℕ
other = 11

abbrev pub extended_pictographic : ℕ
extended_pictographic = 12

abbrev pub prepend : ℕ
prepend = 13

abbrev pub spacing_mark : ℕ
spacing_mark = 14
