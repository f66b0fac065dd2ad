-- A control sequence of allowed parameters and the final byte `m`, of which the first parameter is known, is found whole.
use Rattle.std.specs.Prelude.{◌≡◌, refl, ℕ, ◌+◌, true, List, ◌∷◌, ◌++◌, length}
use Rattle.std.proofs.Math.Seq.{get_or-append_seam}
use Rattle.spans.specs.Sgr.{allowed, orders}
use Rattle.spans.specs.Sgr.Parameters.{ParameterString, string_parameters, string_bytes}
use Rattle.spans.specs.declared.sgr.Sgr.{Sgr}
use Rattle.spans.specs.Sequence.{sgr, found, parameter_byte, if_known, csi, parse}
use Rattle.spans.specs.Sequence.Laws.{all_leading}
use Rattle.spans.specs.Sequence.Until.{parameters_until}

pub parse_sgr : {s ps : List ℕ} {o : Sgr} {os : List Sgr} (t : List ℕ) → ParameterString s ps → allowed ps ≡ true → orders ps ≡ o ∷ os → parse (0x5B ∷ (s ++ 0x6D ∷ t)) ≡ found (sgr (o ∷ os)) (3 + length s)
unfolding parse csi if_known
parse_sgr {s} t w h e = rw (all_leading parameter_byte 0x6D t (string_bytes w) refl, get_or-append_seam s 0x6D t 0, parameters_until 0 s 0x6D t refl, string_parameters w, h, e) refl
