-- Part by part, and file by file.
use Rattle.std.specs.Prelude.{◌≡◌, ℕ, zero, suc, ◌+◌, ◌-◌, ◌≤◌, ◌<◌, length, replicate, Option, Some, None}
use Rattle.std.proofs.Math.Path.{refl, ap}
use Rattle.std.proofs.Common.{sym, ◌∙◌, arith, length-append}
use Rattle.std.proofs.Math.Bool.{false}
use mathlib.Core.List.{List, [], ◌∷◌, ◌++◌, append_assoc}
use Rattle.std.proofs.lemmas.List.{length-replicate}
use Rattle.unicode_io.specs.Line.{empty}
use Rattle.unicode_io.specs.Reading.{State, state_of, reading, bytes_read, file_ended}
use Rattle.unicode_io.specs.Reading.Laws.{in_parts}
use Rattle.unicode_io.specs.declared.reading.Reading.{Reading}
use Rattle.unicode_table.specs.Files.{bytes_of, BytesRead, PartRead, PartsRead, Whole, files_read, Files}

part_more : (file : ℕ) (p : List ℕ) (ps : List (List ℕ)) (s : State) → 0 < length p → bytes_read file s (bytes_of (p ∷ ps)) ≡ bytes_read file (bytes_read file s p) (bytes_of ps)
unfolding bytes_of
part_more file [] ps s h = absurd (omega arith)
part_more file (b ∷ p) ps s h = in_parts file s (b ∷ p) (bytes_of ps)

-- ---- part after part

-- i parts are read, none of them empty
pub record Asking (file : ℕ) (before : Reading) (cells after : List ℕ) (r : Reading) (i : ℕ) : Type 0 where
  pub parts : List (List ℕ)
  pub many : length parts ≡ i
  pub work : (ps : List (List ℕ)) → bytes_read file (state_of before cells) (bytes_of (parts ++ ps)) ≡ bytes_read file (state_of r after) (bytes_of ps)

pub asking_begins : (file : ℕ) (before : Reading) (cells : List ℕ) → Asking file before cells cells before 0
asking_begins file before cells = record { parts = []; many = refl; work = λ ps. refl }

module _ (file : ℕ) (before r : Reading) (cells mid : List ℕ) (i : ℕ) (z : Asking file before cells mid r i) where
  pub asking_turn : (after : List ℕ) (r' : Reading) (p : List ℕ) → 0 < length p → state_of r' after ≡ bytes_read file (state_of r mid) p → Asking file before cells after r' (i + 1)
  asking_turn after r' p some e =
      record {
        parts = z.parts ++ (p ∷ []);
        many = omega (arith, z.many, length-append z.parts (p ∷ []));
        work = λ ps.
            ap (λ (x : List (List ℕ)). bytes_read file (state_of before cells) (bytes_of x)) (append_assoc z.parts (p ∷ []) ps) ∙ z.work (p ∷ ps)
            ∙ part_more file p ps (state_of r mid) some ∙ ap (λ (s : State). bytes_read file s (bytes_of ps)) (sym e);
      }

  all_read : (ps : List (List ℕ)) → i + length ps ≡ 18446744073709551615 → bytes_read file (state_of r mid) (bytes_of ps) ≡ state_of r mid → PartsRead file before cells mid r
  all_read ps n e = record { parts = z.parts ++ ps; many = omega (arith, z.many, n, length-append z.parts ps); read = sym (z.work ps ∙ e) }

  -- the part after these is empty, and so are those that are not asked for
  nothing : (n : ℕ) → bytes_read file (state_of r mid) (bytes_of (replicate n [])) ≡ state_of r mid
  unfolding bytes_of bytes_read
  nothing zero = refl
  nothing (suc n) = refl

  pub asking_stops : i < 18446744073709551615 → PartsRead file before cells mid r
  asking_stops h = all_read (replicate (18446744073709551615 - i) []) (omega (arith, length-replicate {A = List ℕ} (18446744073709551615 - i) [])) (nothing (18446744073709551615 - i))

  pub asking_ends : 18446744073709551615 ≤ i → i ≤ 18446744073709551615 → PartsRead file before cells mid r
  unfolding bytes_of bytes_read
  asking_ends h k = all_read [] (omega arith) refl

-- the next part is empty, or it is one more
pub part_stops : (file : ℕ) (before r : Reading) (cells mid after : List ℕ) (i : ℕ) (o : Option Reading) → Asking file before cells mid r i → i < 18446744073709551615 → o ≡ None → PartRead file r mid after o → PartsRead file before cells after r
part_stops file before r cells mid after i o z k e h = let same : after ≡ mid = rw e at h in rw same (asking_stops file before r cells mid i z k)

pub part_turn : (file : ℕ) (before r q : Reading) (cells mid after : List ℕ) (i : ℕ) (o : Option Reading) → Asking file before cells mid r i → o ≡ Some q → PartRead file r mid after o → Asking file before cells after q (i + 1)
part_turn file before r q cells mid after i o z e h =
    let b : BytesRead file r mid after q = rw e at h in
    asking_turn file before r cells mid i z after q b.part b.some b.read

pub whole_read : (file : ℕ) (before r a : Reading) (cells mid after : List ℕ) → PartsRead file before cells mid r → state_of a after ≡ file_ended file (state_of r mid) → Whole file before cells after a
whole_read file before r a cells mid after h e = record { parts = h.parts; many = h.many; read = e ∙ ap (file_ended file) h.read }

-- ---- files

snoc : (k : ℕ) (s : State) (fs : List (List ℕ)) (f : List ℕ) (n : ℕ) → k + length fs ≡ n → files_read k s (fs ++ f ∷ []) ≡ file_ended n (bytes_read n (files_read k s fs) f)
unfolding files_read
snoc k s [] f n e = let q : k ≡ n = omega arith in rw q refl
snoc k s (g ∷ fs) f n e = snoc (suc k) (file_ended k (bytes_read k s g)) fs f n (omega arith)

pub files_begin : (cells : List ℕ) (r : Reading) → r ≡ reading empty false false → Files 0 cells cells r
unfolding files_read
files_begin cells r e = record { files = []; many = refl; read = ap (λ (x : Reading). state_of x cells) e }

pub files_more : (cells mid after : List ℕ) (r a : Reading) (k : ℕ) → Files k cells mid r → Whole k r mid after a → Files (k + 1) cells after a
files_more cells mid after r a k h b = record {
  files = h.files ++ (bytes_of b.parts ∷ []);
  many = length-append h.files (bytes_of b.parts ∷ []) ∙ (omega (arith, h.many));
  read = b.read ∙ ap (λ (s : State). file_ended k (bytes_read k s (bytes_of b.parts))) h.read ∙ sym (snoc 0 (state_of (reading empty false false) cells) h.files (bytes_of b.parts) k (omega (arith, h.many)));
}
