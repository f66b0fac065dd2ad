-- The run that a text begins with, cut in two between scalars.
use Rattle.std.specs.Prelude.{◌≡◌, refl, ◌≢◌, ℕ, ◌+◌, ◌≤◌, ◌<◌, Option, None, Some, Bool, true, false, not, eqb, take, drop}
use Rattle.std.proofs.Math.Path.{sym, ap}
use Rattle.std.proofs.Common.{ap₂, ◌∙◌, arith, length-append, drop_of_length-le}
use Rattle.std.proofs.Math.Nat.{add-zero}
use mathlib.Core.List.{List, [], ◌∷◌, ◌++◌, map, append_assoc}
use Rattle.std.proofs.Math.ListN.{length, length-drop}
use Rattle.std.proofs.Math.Seq.{take-append_seam, drop-append_seam, drop-drop}
use Rattle.text.specs.Each.{All, all_nil, all_cons, all_split}
use Rattle.text.specs.Utf8.{Scalar, Decoded, well_formed, ill_formed, decode, decode_from, bytes_of}
use Rattle.text.specs.Utf8.Laws.{bytes_of_append, decoded_bytes, decoded_bytes_decode}
use Rattle.text.specs.Utf8.Valid.{Valid, ValidDecoded, decode_valid, decode_text, run_text}
use Rattle.text.specs.Cluster.Walk.{size_is}
use Rattle.text.specs.declared.utf8.Sequence.{Sequence}
use Rattle.text.specs.Utf8.Code.{first_sequence, given, sequence_or_zero, run_of, sequence_of, size, whole}
use Rattle.std.specs.Option.{is_some}
use Rattle.text.specs.Tests.{cases}
use borrow.Author.Tests.{eqb-false, eqb-true}

pub size_nil : size [] ≡ 0
unfolding size
size_nil = refl

pub size_cons : (c : Scalar) (s : List Scalar) → size (c ∷ s) ≡ length c.bytes + size s
unfolding size
size_cons c s = refl

pub size_append : (a b : List Scalar) → size (a ++ b) ≡ size a + size b
unfolding size
size_append [] b = omega arith
size_append (c ∷ a) b = omega (arith, size_append a b)

run_of_valid : {ds : List Decoded} → All ValidDecoded ds → All Valid (run_of ds)
unfolding run_of
run_of_valid all_nil = all_nil
run_of_valid (all_cons (ValidDecoded.valid h) e) = all_cons h (run_of_valid e)
run_of_valid (all_cons ValidDecoded.ill e) = all_nil

-- the run holds valid scalars
pub run_valid : (s : List ℕ) → All Valid (run_of (decode s))
run_valid s = run_of_valid (decode_valid s)

run_front_bytes : (ds : List Decoded) → (t : List ℕ) × (decoded_bytes ds ≡ bytes_of (run_of ds) ++ t)
unfolding run_of decoded_bytes bytes_of
run_front_bytes [] = ([], refl)
run_front_bytes (well_formed c ∷ ds) = let w = run_front_bytes ds in (w.0, ap (λ (l : List ℕ). c.bytes ++ l) w.1 ∙ sym (append_assoc c.bytes (bytes_of (run_of ds)) w.0))
run_front_bytes (ill_formed b ∷ ds) = (b ∷ decoded_bytes ds, refl)

pub run_wells : (a : List Scalar) (ds : List Decoded) → run_of (map well_formed a ++ ds) ≡ a ++ run_of ds
unfolding run_of
run_wells [] ds = refl
run_wells (c ∷ a) ds = ap (λ (l : List Scalar). c ∷ l) (run_wells a ds)

tail_of : List Scalar → List Scalar
tail_of [] = []
tail_of (c ∷ s) = s

same_rest : (a : List Scalar) {b c : List Scalar} → a ++ b ≡ a ++ c → b ≡ c
unfolding tail_of
same_rest [] e = e
same_rest (x ∷ a) e = same_rest a (ap tail_of e)

-- the run a ++ b: its bytes, and what stands behind a
module _ (s : List ℕ) (a b : List Scalar) (e : run_of (decode s) ≡ a ++ b) where
  behind_run_law : List ℕ
  behind_run_law = (run_front_bytes (decode s)).0

  run_bytes : s ≡ bytes_of a ++ (bytes_of b ++ behind_run_law)
  unfolding behind_run_law
  run_bytes =
      sym (decoded_bytes_decode s) ∙ (run_front_bytes (decode s)).1 ∙ ap (λ (l : List Scalar). bytes_of l ++ behind_run_law) e
      ∙ ap (λ (l : List ℕ). l ++ behind_run_law) (bytes_of_append a b) ∙ append_assoc (bytes_of a) (bytes_of b) behind_run_law

  both_valid : All Valid a × All Valid b
  both_valid = all_split a (rw e at (run_valid s))

  pub front_bytes : take (size a) s ≡ bytes_of a
  front_bytes = ap₂ take (size_is a) run_bytes ∙ take-append_seam (bytes_of a) _

  behind_bytes : drop (size a) s ≡ bytes_of b ++ behind_run_law
  behind_bytes = ap₂ drop (size_is a) run_bytes ∙ drop-append_seam (bytes_of a) _

  pub run_front : run_of (decode (take (size a) s)) ≡ a
  run_front = ap (λ (l : List ℕ). run_of (decode l)) front_bytes ∙ run_text both_valid.0

  pub front_whole : whole (take (size a) s)
  front_whole = ap bytes_of run_front ∙ sym front_bytes

  pub run_behind : run_of (decode (drop (size a) s)) ≡ b
  run_behind =
      same_rest a
      (sym (run_wells a (decode (drop (size a) s)))
      ∙ ap run_of (sym (decode_text both_valid.0 (drop (size a) s)))
      ∙ ap (λ (l : List ℕ). run_of (decode l)) (ap (λ (l : List ℕ). bytes_of a ++ l) behind_bytes ∙ sym run_bytes)
      ∙ e)

  pub run_fits : size a + size b ≤ length s
  run_fits = rw (size_is a, size_is b) (omega (arith, ap length run_bytes, length-append (bytes_of a) (bytes_of b ++ behind_run_law), length-append (bytes_of b) behind_run_law))

-- ---- what stands at a place

-- a scalar, with the run behind it
pub record ScalarAt (s : List ℕ) (p : ℕ) (u : Sequence) : Type 0 where
  pub scalar : Scalar
  pub run : run_of (decode (drop p s)) ≡ scalar ∷ run_of (decode (drop (p + u.len) s))
  pub code : scalar.code ≡ u.code
  pub len : length scalar.bytes ≡ u.len
  pub some : 1 ≤ u.len
  pub fits : p + u.len ≤ length s

module _ (s : List ℕ) (p : ℕ) (u : Sequence) (here : p < length s) (read : u ≡ sequence_or_zero (decode (drop p s))) where
  scalar_by : (ds : List Decoded) → decode (drop p s) ≡ ds → (u.len ≢ 0) → ScalarAt s p u
  unfolding sequence_or_zero run_of size
  scalar_by [] e z = absurd (z (ap (λ (x : Sequence). x.len) (rw e at read)))
  scalar_by (ill_formed b ∷ ds) e z = absurd (z (ap (λ (x : Sequence). x.len) (rw e at read)))
  scalar_by (well_formed c ∷ ds) e z =
      let r : u ≡ sequence_of c.code (length c.bytes) = rw e at read in
      let l : length c.bytes ≡ u.len = sym (ap (λ (x : Sequence). x.len) r) in
      let t : run_of (decode (drop p s)) ≡ (c ∷ []) ++ run_of ds = ap run_of e in
      let k : length c.bytes + 0 ≡ u.len = add-zero (length c.bytes) ∙ l in
      record {
        scalar = c;
        run = t ∙ ap (λ (x : List Scalar). c ∷ x) (sym (rw (k, drop-drop u.len p s) at (run_behind (drop p s) (c ∷ []) (run_of ds) t)));
        code = sym (ap (λ (x : Sequence). x.code) r);
        len = l;
        some = omega arith;
        fits = omega (arith, run_fits (drop p s) (c ∷ []) (run_of ds) t, length-drop p s);
      }

  pub scalar_at_law : (u.len ≢ 0) → ScalarAt s p u
  scalar_at_law z = scalar_by (decode (drop p s)) refl z

  none_by : (ds : List Decoded) → decode (drop p s) ≡ ds → u.len ≡ 0 → (run_of (decode (drop p s)) ≡ []) × (u.code ≡ 0)
  unfolding sequence_or_zero run_of
  none_by [] e z = (ap run_of e, ap (λ (x : Sequence). x.code) (rw e at read))
  none_by (ill_formed b ∷ ds) e z = (ap run_of e, ap (λ (x : Sequence). x.code) (rw e at read))
  none_by (well_formed c ∷ ds) e z =
      let v : All Valid (c ∷ run_of ds) = rw e at (run_valid (drop p s)) in
      absurd (lone v (ap (λ (x : Sequence). x.len) (rw e at read)))
    where
      lone : {x : List Scalar} → All Valid (c ∷ x) → u.len ≡ length c.bytes → ⊥
      lone (all_cons h a) q = omega (arith, h.some)

  pub no_code : u.len ≡ 0 → u.code ≡ 0
  no_code z = (none_by (decode (drop p s)) refl z).1

  -- a damaged byte
  pub none_at : u.len ≡ 0 → run_of (decode (drop p s)) ≡ []
  none_at z = (none_by (decode (drop p s)) refl z).0

-- ---- the first sequence, or none

module _ (q u : Sequence) (r : Option Sequence) (read : r ≡ given q) where
  pub given_some : r ≡ Some u → (u ≡ q) × (u.len ≢ 0)
  unfolding given
  given_some e =
      cases (eqb q.len 0)
      (λ z. let f : r ≡ None = rw z at read in absurd (apart f))
      (λ z. let f : r ≡ Some q = rw z at read in let g : u ≡ q = cc in (g, rw g (eqb-false q.len 0 z)))
    where
      apart : r ≡ None → ⊥
      apart f = cc (e, f)

module _ (q : Sequence) (r : Option Sequence) (read : r ≡ given q) where
  pub given_none : r ≡ None → q.len ≡ 0
  unfolding given
  given_none e =
      cases (eqb q.len 0)
      (λ z. eqb-true q.len 0 z)
      (λ z. let f : r ≡ Some q = rw z at read in absurd (apart f))
    where
      apart : r ≡ Some q → ⊥
      apart f = cc (e, f)

-- as `is_none` tells them
pub none_of : (r : Option Sequence) (b : Bool) → is_some r ≡ not b → b ≡ true → r ≡ None
none_of None b e t = refl
none_of (Some u) b e t = absurd (apart (rw t at e))
  where
    apart : true ≡ false → ⊥
    apart f = cc

pub given_len : (q : Sequence) (r : Option Sequence) (b : Bool) → r ≡ given q → is_some r ≡ not b → b ≡ false → (q.len ≢ 0)
unfolding given
given_len q r b e n t z = apart (rw (e, z, t) at n)
  where
    apart : false ≡ true → ⊥
    apart f = cc

-- the same by what was decoded
module _ (s : List ℕ) (p : ℕ) (here : p < length s) (r : Option Sequence) (read : r ≡ first_sequence (decode (drop p s))) where
  pub some_at : (u : Sequence) → r ≡ Some u → ScalarAt s p u
  unfolding first_sequence
  some_at u e = let g = given_some (sequence_or_zero (decode (drop p s))) u r read e in scalar_at_law s p u here g.0 g.1

  pub nothing_at : r ≡ None → run_of (decode (drop p s)) ≡ []
  unfolding first_sequence
  nothing_at e = none_at s p (sequence_or_zero (decode (drop p s))) here refl (given_none (sequence_or_zero (decode (drop p s))) r read e)

pub run_nil : run_of (decode []) ≡ []
unfolding run_of decode decode_from
run_nil = refl

pub none_past : (s : List ℕ) (p : ℕ) → length s ≤ p → run_of (decode (drop p s)) ≡ []
none_past s p h = rw (drop_of_length-le s h) run_nil
