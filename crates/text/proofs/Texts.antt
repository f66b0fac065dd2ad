-- Valid texts one after the other, and the beginnings of a valid text.
use mathlib.Core.List.{List, ◌++◌}
use mathlib.Core.Path.{◌∙◌, ◌≡◌, ap, ap₂, refl, sym}
use Prim.Native.Nat.{ℕ}
use lib.ListN.{take}
use Rattle.text.specs.Utf8.Code.{size, whole}
use Rattle.text.specs.Utf8.Code.Laws.{front_bytes, front_whole, run_front, run_valid, run_wells}
use Rattle.text.specs.Utf8.{Scalar, bytes_of, decode, run_of}
use Rattle.text.specs.Utf8.Laws.{bytes_of_append}
use Rattle.text.specs.Utf8.Valid.{decode_text}

pub run_append : (cs : List Scalar) (s t : List ℕ) → run_of (decode s) ≡ cs → bytes_of cs ≡ s → run_of (decode (s ++ t)) ≡ cs ++ run_of (decode t)
run_append cs s t e w = ap (λ (x : List ℕ). run_of (decode (x ++ t))) (sym w) ∙ ap run_of (decode_text (rw e at (run_valid s)) t) ∙ run_wells cs (decode t)

pub whole_append : (s t : List ℕ) → whole s → whole t → whole (s ++ t)
whole_append s t v w = ap bytes_of (run_append (run_of (decode s)) s t refl v) ∙ bytes_of_append (run_of (decode s)) (run_of (decode t)) ∙ ap₂ (λ (x y : List ℕ). x ++ y) v w

pub run_prefix : (ds es : List Scalar) (s : List ℕ) → run_of (decode s) ≡ ds ++ es → (run_of (decode (take (size ds) s)) ≡ ds) × (bytes_of ds ≡ take (size ds) s)
run_prefix ds es s e = (run_front s ds es e, sym (front_bytes s ds es e))

pub whole_prefix : (ds es : List Scalar) (s : List ℕ) → run_of (decode s) ≡ ds ++ es → whole (take (size ds) s)
whole_prefix ds es s e = front_whole s ds es e
