-- Printable bytes: what clipping leaves of them is a part of them.
use mathlib.Core.Path.{◌≡◌, refl, sym, ap, ap₂, ◌∙◌}
use Prim.Native.Nat.{ℕ, suc, ◌+◌, ◌-◌, ◌≤◌}
use native.Mathlib.Omega.{arith}
use Rattle.std.specs.List.{list_all}
use Rattle.drawing.specs.declared.clip.Clip.{Clip}
use mathlib.Core.Bool.{◌&&◌, Bool, true, ◌||◌}
use mathlib.Core.List.{List, [], ◌∷◌, append-nil}
use mathlib.Core.Option.{some}
use lib.ListN.{length, take, drop, drop_of_length-le}
use lib.Seq.{take-nil, take_all}
use lib.Dec.{leb, ltb}
use borrow.Author.Tests.{leb-true, leb-false, ltb-true, ltb-false, le-ltb}
use Rattle.buffer.specs.Numbers.Laws.{smaller_left, smaller_right, smaller_order}
use Rattle.buffer.specs.Numbers.Parts.{part_cut}
use Rattle.text.specs.Tests.{cases, or_false}
use Rattle.text.specs.Each.{all_cons}
use Rattle.text.specs.Utf8.{Scalar, ascii, asciis, decode, bytes_of}
use Rattle.text.specs.Utf8.AsciiTexts.{asciis_bytes, asciis_cons, asciis_nil, asciis_size}
use Rattle.text.specs.Class.{Profile}
use Rattle.text.specs.Class.Ascii.{AsciiClasses}
use Rattle.text.specs.Width.{width_of}
use Rattle.text.specs.Cluster.{clusters}
use Rattle.text.specs.Cluster.Printable.{Printable, printable_clusters, printable_one, printable_width, run_printable}
use Rattle.text.specs.Utf8.Code.{run_of}
use Rattle.text.specs.Class.Code.{profile_of, printable}
use Rattle.text.specs.Class.Profile01.{ascii_classes}
use Rattle.text.specs.TextParts.{text_at, Measured}
use Rattle.text.specs.Printable.{all_printable, ColumnsOf, PlaceOf}
use Rattle.text.specs.Printable.Laws.{all_printable_law, part_printable}
use Rattle.text.specs.declared.BytePlace.{BytePlace}
use Rattle.text.specs.declared.Column.{Column}
use Rattle.text.specs.declared.class.Profile as code
use Rattle.text.specs.Cluster.Laws.{clusters_nil}
use Rattle.drawing.specs.Clip.{clip_end, clip_start, clip}
use Rattle.drawing.specs.Clip.Contracts.{ColumnsClip, bytes_in, text_in, clip_text, part_of, ClipIs}

-- ---- the loop

-- every byte is printable
pub all_printable_is : (s : List ℕ) → list_all printable s ≡ all_printable s
unfolding all_printable
all_printable_is [] = refl
all_printable_is (b ∷ s) = ap (λ (x : Bool). printable b && x) (all_printable_is s)

-- ---- their text

pub printable_text : (s : List ℕ) (b : Bool) → b ≡ all_printable s → b ≡ true → all_printable s ≡ true
printable_text s b e t = sym e ∙ t

module _ (f : code.Profile) where
  abbrev P : Profile
  P = profile_of f

  a : AsciiClasses P
  a = ascii_classes f

  pub columns_measured : (s : List ℕ) (w : Column) → all_printable s ≡ true → ColumnsOf s w → Measured P s 0 (text_at s 0) (record { end = record { 0 = length s }; width = w })
  columns_measured s w p c = record { end = rw (run_printable (all_printable_law s p), asciis_size s) (omega arith); width = c.width f; inside = omega arith; small = omega (arith, c.number) }

  pub measured_printable : (s : List ℕ) (b : Bool) (w : Column) → b ≡ all_printable s → b ≡ true → ColumnsOf s w → Measured P s 0 (text_at s 0) (record { end = record { 0 = length s }; width = w })
  measured_printable s b w e t c = columns_measured s w (printable_text s b e t) c

  -- ---- clipping

  clip_end_columns : (limit column : ℕ) (s : List ℕ) → Printable s → clip_end P limit column (clusters P (asciis s)) ≡ asciis (take (limit - column) s)
  unfolding clip_end
  clip_end_columns limit column [] h = rw (asciis_nil, clusters_nil P, take-nil {A = ℕ} (limit - column)) (sym asciis_nil)
  clip_end_columns limit column (b ∷ s) (all_cons e h) =
      rw (printable_clusters P a b s (all_cons e h), printable_one P a b e) (cases (ltb limit (column + 1))
      (λ t. let z : limit - column ≡ 0 = omega (arith, ltb-true limit (column + 1) t) in rw (t, z) (sym asciis_nil))
      (λ t. let z : limit - column ≡ suc (limit - (column + 1)) = omega (arith, ltb-false limit (column + 1) t) in
      rw (t, z) (ap (λ (l : List Scalar). ascii b ∷ l) (clip_end_columns limit (column + 1) s h) ∙ sym (asciis_cons b (take (limit - (column + 1)) s)))))

  clip_start_columns : (offset limit column : ℕ) (s : List ℕ) → Printable s → column ≤ offset → offset ≤ limit
      → clip_start P offset limit column (clusters P (asciis s)) ≡ some (asciis (take (limit - offset) (drop (offset - column) s)))
  unfolding clip_start
  clip_start_columns offset limit column [] e h k =
      rw (asciis_nil, clusters_nil P, drop_of_length-le {A = ℕ} [] {i = offset - column} (omega arith), take-nil {A = ℕ} (limit - offset)) (ap some (sym asciis_nil))
  clip_start_columns offset limit column (b ∷ s) (all_cons e g) h k =
      let c = printable_clusters P a b s (all_cons e g) in
      rw (c, printable_one P a b e) (cases (leb offset column)
      (λ t. let l = leb-true offset column t in
      let z : offset - column ≡ 0 = omega arith in
      let y : column - offset ≡ 0 = omega arith in
      let x : limit - column ≡ limit - offset = omega arith in
      let q : clip_end P limit column ((ascii b ∷ []) ∷ clusters P (asciis s)) ≡ asciis (take (limit - offset) (b ∷ s)) =
      ap (clip_end P limit column) (sym c) ∙ clip_end_columns limit column (b ∷ s) (all_cons e g) ∙ ap (λ (n : ℕ). asciis (take n (b ∷ s))) x in
      rw (t, z, y) (ap some (rw (printable_one P a b e) at q)))
      (λ t. let l = leb-false offset column t in
      let z : offset - column ≡ suc (offset - (column + 1)) = omega arith in
      rw (t, le-ltb limit (column + 1) (omega arith), z) (clip_start_columns offset limit (column + 1) s g (omega arith) k)))

  pub clip_printable : (offset width : ℕ) (s : List ℕ) → Printable s → clip P offset width (asciis s) ≡ some (asciis (take width (drop offset s)))
  unfolding clip
  clip_printable offset width s h =
      let z : offset + width - offset ≡ width = omega arith in
      let y : offset - 0 ≡ offset = omega arith in
      let c : clip_start P offset (offset + width) 0 (clusters P (asciis s)) ≡ some (asciis (take width (drop offset s))) =
      clip_start_columns offset (offset + width) 0 s h (omega arith) (omega arith) ∙ ap₂ (λ (n m : ℕ). some (asciis (take n (drop m s)))) z y in
      cases (ltb 0 offset || ltb width (width_of P (asciis s)))
      (λ t. rw t c)
      (λ t. let q = or_false (ltb 0 offset) (ltb width (width_of P (asciis s))) t in
      let o : offset ≡ 0 = omega (arith, ltb-false 0 offset q.0) in
      let n : length s ≤ width = omega (arith, ltb-false width (width_of P (asciis s)) q.1, printable_width P a h) in
      rw (t, o) (ap (λ (l : List ℕ). some (asciis l)) (sym (take_all width s n))))

  pub columns_clipped : (offset width : ℕ) (start end : BytePlace) (s : List ℕ) → ColumnsClip s offset width → PlaceOf s offset start → PlaceOf s (offset + width) end
      → (c : Clip) → c ≡ part_of start end → ClipIs s (clip P offset width (text_at s 0)) c
  unfolding clip_text
  columns_clipped offset width from to s ready at upto c e =
      let start : ℕ = from.0 in
      let end : ℕ = to.0 in
      let p = at.number in
      let q = upto.number in
      let h = all_printable_law s ready.printable in
      let b : bytes_in s start end ≡ take width (drop offset s) = part_cut s offset start p width end q in
      let r : text_in s start end ≡ asciis (take width (drop offset s)) = ap (λ (l : List ℕ). run_of (decode l)) b ∙ run_printable (part_printable width offset s h) in
      let o : start ≤ offset = smaller_left offset (length s) start p in
      rw e
      record {
        fits = record { ordered = smaller_order offset (length s) start p (offset + width) end (omega arith) q; inside = smaller_right (offset + width) (length s) end q; valid = ap bytes_of r ∙ asciis_bytes (take width (drop offset s)) ∙ sym b; before = omega arith; after = omega arith };
        same = rw (run_printable h) (clip_printable offset width s h ∙ ap some (sym (append-nil (text_in s start end) ∙ r)));
      }
