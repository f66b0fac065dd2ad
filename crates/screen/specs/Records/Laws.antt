-- Records read where they were written, and written again where they were read; the records of a drawing's change list are its changes.
use Rattle.std.specs.Prelude.{◌≡◌, refl, Bool, true, leb}
use Rattle.std.proofs.Math.Path.{sym, ap, ap₂}
use Rattle.std.proofs.Common.{◌∙◌, length-append, take_at, drop_at, drop-drop, take-add, le→leb}
use Prim.Native.Nat.{ℕ, zero, suc, ◌+◌, ◌≤◌, ◌<◌}
use native.Mathlib.Omega.{arith}
use mathlib.Core.List.{List, [], ◌∷◌, ◌++◌, map, append_assoc}
use Rattle.std.proofs.Math.ListN.{length, take, drop, length-drop, take-append-drop}
use Rattle.std.proofs.Math.Seq.{take-append_seam, drop-append_seam, length-take-le}
use borrow.Author.Tests.{leb-true}
use Rattle.text.specs.Tests.{is_true}
use Rattle.text.specs.Each.{All, all_nil, all_cons, all_drop}
use Rattle.text.specs.Overstrike.Bytes.{Byte}
use Rattle.drawing.specs.Change as change
use Rattle.drawing.specs.Change.{Change, text, torn, all_attributes, clear_to_end, cursor_right, kind_of, body}
use Rattle.screen.specs.Records.{little_endian, Record, record_at, records_from, records, encode_one, encode}
use Rattle.screen.specs.Records.Lengths.{low_bytes, limit, low_length, low_read, low_again, low_less, LengthOf, length_of_2, length_of_4}

-- ---- one after the other

-- bytes passed over are bytes dropped
records_from_drop : (n k : ℕ) (s : List ℕ) → records_from n k s ≡ records n (drop k s)
unfolding records_from records
records_from_drop n zero [] = refl
records_from_drop n (suc k) [] = refl
records_from_drop n zero (b ∷ s) = refl
records_from_drop n (suc k) (b ∷ s) = records_from_drop n k s

-- the first record, and those behind it
pub records_first : (n : ℕ) (s : List ℕ) → 0 < length s → records n s ≡ record_at n s ∷ records n (drop (n + 2 + length (record_at n s).body) s)
unfolding records records_from
records_first n [] h = absurd (let z : 0 < 0 = h in omega arith)
records_first n (b ∷ s) h =
    let r : Record = record_at n (b ∷ s) in
    let e : suc (n + 1 + length r.body) ≡ n + 2 + length r.body = omega arith in
    ap (λ (rs : List Record). r ∷ rs) (records_from_drop n (n + 1 + length r.body) s ∙ ap (λ (k : ℕ). records n (drop k (b ∷ s))) e)

pub records_nil : (n : ℕ) → records n [] ≡ []
unfolding records records_from
records_nil n = refl

-- ---- read where they were written

-- a record whose kind 2 bytes hold, and whose length n bytes hold
pub record Fits (n : ℕ) (r : Record) : Type 0 where
  pub whole : r.whole ≡ true
  pub kind : r.kind < limit 2
  pub size : length r.body < limit n

pub same_record : {w v : Bool} {k j : ℕ} {b c : List ℕ} → w ≡ v → k ≡ j → b ≡ c → ◌≡◌ {A = Record} (record { whole = w; kind = k; body = b }) (record { whole = v; kind = j; body = c })
same_record e f g = rw (e, f, g)

module _ (n : ℕ) (is : LengthOf n) where
  one_bytes : (r : Record) → encode_one n r ≡ low_bytes n (length r.body) ++ (low_bytes 2 r.kind ++ r.body)
  unfolding encode_one
  one_bytes r = ap₂ (λ (x y : List ℕ). x ++ (y ++ r.body)) (is (length r.body)) (length_of_2 r.kind)

  module _ (r : Record) (f : Fits n r) (t : List ℕ) where
    abbrev size : ℕ
    size = length r.body

    abbrev all : List ℕ
    all = low_bytes n size ++ (low_bytes 2 r.kind ++ (r.body ++ t))

    laid : encode_one n r ++ t ≡ all
    laid =
        ap (λ (l : List ℕ). l ++ t) (one_bytes r) ∙ append_assoc (low_bytes n size) (low_bytes 2 r.kind ++ r.body) t
        ∙ ap (λ (l : List ℕ). low_bytes n size ++ l) (append_assoc (low_bytes 2 r.kind) r.body t)

    at_kind : drop n all ≡ low_bytes 2 r.kind ++ (r.body ++ t)
    at_kind = drop_at (low_bytes n size) _ n (low_length n size)

    at_body : drop (n + 2) all ≡ r.body ++ t
    at_body = sym (drop-drop 2 n all) ∙ ap (drop 2) at_kind ∙ drop_at (low_bytes 2 r.kind) (r.body ++ t) 2 (low_length 2 r.kind)

    long : length all ≡ n + 2 + size + length t
    long = simp (length-append, low_length) (omega arith)

    record_back : record_at n all ≡ r
    unfolding record_at
    record_back =
        let l : little_endian (take n all) ≡ size = ap little_endian (take_at (low_bytes n size) _ n (low_length n size)) ∙ low_read n size f.size in
        same_record
        (rw l (is_true (leb (n + 2 + size) (length all)) (le→leb (n + 2 + size) (length all) (omega (arith, long)))) ∙ sym f.whole)
        (ap (λ (m : List ℕ). little_endian (take 2 m)) at_kind ∙ ap little_endian (take_at (low_bytes 2 r.kind) (r.body ++ t) 2 (low_length 2 r.kind)) ∙ low_read 2 r.kind f.kind)
        (ap₂ take l at_body ∙ take-append_seam r.body t)

    pub records_cons : records n (encode_one n r ++ t) ≡ r ∷ records n t
    records_cons =
        ap (records n) laid ∙ records_first n all (omega (arith, long))
        ∙ ap (λ (q : Record). q ∷ records n (drop (n + 2 + length q.body) all)) record_back
        ∙ ap (λ (l : List ℕ). r ∷ records n l) (sym (drop-drop size (n + 2) all) ∙ ap (drop size) at_body ∙ drop-append_seam r.body t)

  pub records_encode : {rs : List Record} → All (Fits n) rs → records n (encode n rs) ≡ rs
  unfolding encode
  records_encode all_nil = records_nil n
  records_encode (all_cons {a = r} {s = rs} f a) = records_cons r f (encode n rs) ∙ ap (λ (l : List Record). r ∷ l) (records_encode a)

  -- ---- written again where they were read

  abbrev pub Whole : Record → Type 0
  Whole r = r.whole ≡ true

  module _ {s : List ℕ} (a : All Byte s) (w : Whole (record_at n s)) where
    abbrev count : ℕ
    count = little_endian (take n s)

    inside : n + 2 + count ≤ length s
    unfolding record_at
    inside = leb-true (n + 2 + count) (length s) w

    read_size : length (record_at n s).body ≡ count
    unfolding record_at
    read_size = length-take-le count (drop (n + 2) s) (omega (arith, length-drop (n + 2) s, inside))

    read_fits : Fits n (record_at n s)
    unfolding record_at
    read_fits = record { whole = w; kind = low_less 2 (all_drop n a); size = omega (arith, read_size, low_less n a) }

    encode_read : encode_one n (record_at n s) ≡ take (n + 2 + length (record_at n s).body) s
    unfolding record_at
    encode_read =
        let x : low_bytes n (length (take count (drop (n + 2) s))) ≡ take n s = ap (low_bytes n) read_size ∙ low_again n a (omega (arith, inside)) in
        let y : low_bytes 2 (little_endian (take 2 (drop n s))) ≡ take 2 (drop n s) = low_again 2 (all_drop n a) (omega (arith, length-drop n s, inside)) in
        one_bytes (record_at n s) ∙ ap₂ (λ (p q : List ℕ). p ++ (q ++ take count (drop (n + 2) s))) x y
        ∙ sym (append_assoc (take n s) (take 2 (drop n s)) (take count (drop (n + 2) s)))
        ∙ ap (λ (l : List ℕ). l ++ take count (drop (n + 2) s)) (sym (take-add n 2 s))
        ∙ sym (take-add (n + 2) count s) ∙ ap (λ (k : ℕ). take (n + 2 + k) s) (sym read_size)

  encode_from : {s : List ℕ} (k : ℕ) → All Byte s → All Whole (records_from n k s) → (encode n (records_from n k s) ≡ drop k s) × All (Fits n) (records_from n k s)
  unfolding records_from encode
  encode_from zero all_nil w = (refl, all_nil)
  encode_from (suc k) all_nil w = (refl, all_nil)
  encode_from (suc k) (all_cons p a) w = encode_from k a w
  encode_from zero (all_cons {a = b} {s = s} p a) (all_cons v w) =
      let m : ℕ = n + 1 + length (record_at n (b ∷ s)).body in
      let further = encode_from m a w in
      let e : suc m ≡ n + 2 + length (record_at n (b ∷ s)).body = omega arith in (
        ap₂ (λ (x y : List ℕ). x ++ y) (encode_read (all_cons p a) v) (further.0 ∙ ap (λ (i : ℕ). drop i (b ∷ s)) e) ∙ take-append-drop (n + 2 + length (record_at n (b ∷ s)).body) (b ∷ s),
        all_cons (read_fits (all_cons p a) v) further.1,
      )

  module _ {s : List ℕ} (a : All Byte s) (w : All Whole (records n s)) where
    pub encode_records : encode n (records n s) ≡ s
    unfolding records
    encode_records = (encode_from 0 a w).0

    pub records_fit : All (Fits n) (records n s)
    unfolding records
    records_fit = (encode_from 0 a w).1

-- ---- a drawing's change list

-- a body whose length 4 bytes hold
abbrev pub Short : Change → Type 0
Short c = length (body c) < 4294967296

abbrev pub record_of : Change → Record
record_of c = record { whole = true; kind = kind_of c; body = body c }

kind_small : (c : Change) → kind_of c < 65536
unfolding kind_of
kind_small (text s) = omega arith
kind_small torn = omega arith
kind_small (all_attributes a) = omega arith
kind_small (clear_to_end c) = omega arith
kind_small cursor_right = omega arith

encoded : (cs : List Change) → change.encode cs ≡ encode 4 (map record_of cs)
unfolding change.encode change.encode_one encode encode_one
encoded [] = refl
encoded (c ∷ cs) = ap (λ (l : List ℕ). change.encode_one c ++ l) (encoded cs)

changes_fit : {cs : List Change} → All Short cs → All (Fits 4) (map record_of cs)
unfolding limit
changes_fit all_nil = all_nil
changes_fit (all_cons {a = c} h a) = all_cons (record { whole = refl; kind = kind_small c; size = h }) (changes_fit a)

-- the records of a list of changes are the changes
pub records_changes : {cs : List Change} → All Short cs → records 4 (change.encode cs) ≡ map record_of cs
records_changes {cs} a = ap (records 4) (encoded cs) ∙ records_encode 4 length_of_4 (changes_fit a)
