-- Texts of printable bytes are as wide as they are long, and so are their parts.
use Rattle.std.specs.Prelude.{◌≡◌, refl, ℕ, zero, suc, true, List, [], ◌∷◌, length, take, drop, replicate}
use Rattle.std.proofs.Common.{sym, ap, ◌∙◌, take-append-drop, length-take-le}
use Rattle.buffer.specs.Numbers.{smaller_of}
use Rattle.buffer.specs.Numbers.Laws.{smaller_right}
use Rattle.text.specs.Tests.{both_true}
use Rattle.text.specs.Each.{all_nil, all_cons, all_split}
use Rattle.text.specs.Class.Code.{profile_of, printable}
use Rattle.text.specs.Class.Profile01.{ascii_classes}
use Rattle.text.specs.Width.{width_of}
use Rattle.text.specs.Cluster.Printable.{Printable, printable_width, run_printable}
use Rattle.text.specs.TextParts.{text_at}
use Rattle.text.specs.Printable.{all_printable, BytesOf, ColumnsOf, PlaceOf}
use Rattle.text.specs.declared.class.Profile.{Profile}

pub all_printable_law : (s : List ℕ) → all_printable s ≡ true → Printable s
unfolding all_printable
all_printable_law [] e = all_nil
all_printable_law (b ∷ s) e = let w = both_true (printable b) (all_printable s) e in all_cons w.0 (all_printable_law s w.1)

pub spaces_printable : (n : ℕ) → all_printable (replicate n 0x20) ≡ true
unfolding all_printable
spaces_printable zero = refl
spaces_printable (suc n) = spaces_printable n

-- a part of a text
pub part_printable : (n m : ℕ) (s : List ℕ) → Printable s → Printable (take n (drop m s))
part_printable n m s h =
    let d : Printable (drop m s) = (all_split (take m s) (rw (← take-append-drop m s) at h)).1 in
    (all_split (take n (drop m s)) (rw (← take-append-drop n (drop m s)) at d)).0

wide : (p : Profile) (s : List ℕ) → Printable s → width_of (profile_of p) (text_at s 0) ≡ length s
wide p s h = rw (run_printable h) (printable_width (profile_of p) (ascii_classes p) h)

pub bytes_of : (n : ℕ) → BytesOf n n
bytes_of n = record { number = refl; width = λ p s h e. wide p s (all_printable_law s h) ∙ e }

module _ (s : List ℕ) (h : all_printable s ≡ true) where
  pub columns_of_law : ColumnsOf s (record { 0 = length s })
  columns_of_law = record { number = refl; width = λ p. sym (wide p s (all_printable_law s h)) }

  pub place_of : (c b r : ℕ) → BytesOf c b → r ≡ smaller_of b (length s) → PlaceOf s c (record { 0 = r })
  place_of c b r k e =
      let f : r ≡ smaller_of c (length s) = e ∙ ap (λ (n : ℕ). smaller_of n (length s)) k.number in
      let a = all_printable_law s h in
      record {
        number = f;
        width = λ p. wide p (take r s) (part_printable r 0 s a) ∙ length-take-le r s (smaller_right c (length s) r f) ∙ f ∙ ap (smaller_of c) (sym (wide p s a));
      }
