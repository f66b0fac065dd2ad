-- The number of a word among names, which the code finds byte by byte; no file has more than 22 names.
use Rattle.std.specs.Prelude.{◌≡◌, ℕ, suc, ◌+◌, ◌<◌, ◌≤◌, Bool, true, false, cond, ◌&&◌, List, [], ◌∷◌, ◌++◌, length, drop, ◌==◌, ◌≢◌, nat_le, nat_lt, slice_index, Option, Some, None}
use Rattle.std.proofs.Math.Path.{refl, sym, ap}
use Rattle.std.proofs.Common.{ap₂, ◌∙◌, length-drop, drop_of_length-le, drop-cons}
use Rattle.std.proofs.Math.Numerals.{add-one}
use native.Mathlib.Omega.{arith}
use borrow.Author.Tests.{eq-eqb, ne_eqb, eqb-true, eqb-false, lt-ltb, le-ltb, ltb-true, ltb-false, lt-leb}
use Rattle.unicode_io.specs.Tests.{never, and_both}
use Rattle.unicode_io.specs.Names.{break_names, width_names, emoji_names, derived_names, names_of, agreeing, number_from, number_found, name_number, same, position, joined}

module _ (word : List ℕ) (at b : ℕ) where
  pub agree_on : at < length word → slice_index word at ≡ b → at + 1 ≡ agreeing word at b
  unfolding agreeing
  agree_on h e = rw (lt-ltb at (length word) h, eq-eqb (slice_index word at) b e)

  pub agree_not : at < length word → (slice_index word at ≢ b) → length word + 1 ≡ agreeing word at b
  unfolding agreeing
  agree_not h e = rw (lt-ltb at (length word) h, ne_eqb (slice_index word at) b e)

  pub agree_past : length word ≤ at → length word + 1 ≡ agreeing word at b
  unfolding agreeing
  agree_past h = rw (le-ltb at (length word) h)

-- i bytes of the list are read
pub record Scanning (list word : List ℕ) (number at i : ℕ) : Type 0 where
  pub work : number_from word number at (drop i list) ≡ number_from word 1 0 list
  pub few : number ≤ i + 1
  pub some : 0 < number

pub scanning_begins : (list word : List ℕ) → Scanning list word 1 0 0
scanning_begins list word = record { work = refl; few = omega arith; some = omega arith }

found_some : (n : ℕ) → 0 < n → Some n ≡ number_found n
found_some n h = rw (ne_eqb n 0 (λ z. omega (arith, z))) refl

module _ (list word : List ℕ) (number at i : ℕ) (s : Scanning list word number at i) where
  next : i < length list → drop i list ≡ slice_index list i ∷ drop (i + 1) list
  next h = drop-cons list i 0 h ∙ ap (λ (n : ℕ). slice_index list i ∷ drop n list) (sym (add-one i))

  pub scanning_found : i < length list → slice_index list i ≡ 0x20 → at ≡ length word → Some number ≡ number_found (number_from word 1 0 list)
  unfolding number_from
  scanning_found h e p = found_some number s.some ∙ ap number_found (rw (next h, eq-eqb (slice_index list i) 0x20 e, eq-eqb at (length word) p) at s.work)

  pub scanning_after : i < length list → slice_index list i ≡ 0x20 → (at ≢ length word) → Scanning list word (number + 1) 0 (i + 1)
  unfolding number_from
  scanning_after h e p = record { work = rw (next h, eq-eqb (slice_index list i) 0x20 e, ne_eqb at (length word) p) at s.work; few = omega (arith, s.few); some = omega arith }

  pub scanning_within : (a : ℕ) → i < length list → (slice_index list i ≢ 0x20) → a ≡ agreeing word at (slice_index list i) → Scanning list word number a (i + 1)
  unfolding number_from
  scanning_within a h e p = record { work = rw p (rw (next h, ne_eqb (slice_index list i) 0x20 e) at s.work); few = omega (arith, s.few); some = s.some }

  pub scanning_ends : length list ≤ i → None ≡ number_found (number_from word 1 0 list)
  unfolding number_from
  scanning_ends h = ap number_found (rw (drop_of_length-le list h) at s.work)

-- ---- a word in the text of the names is found as in their list

abbrev pub all_of : (List ℕ → Bool) → List (List ℕ) → Bool
all_of p [] = true
all_of p (x ∷ xs) = p x && all_of p xs

abbrev pub unbroken : List ℕ → Bool
unbroken [] = true
unbroken (b ∷ s) = cond (b == 0x20) false (unbroken s)

same_is : (a b : List ℕ) → same a b ≡ true → a ≡ b
unfolding same
same_is [] [] h = refl
same_is [] (y ∷ b) h = absurd (never h)
same_is (x ∷ a) [] h = absurd (never h)
same_is (x ∷ a) (y ∷ b) h = let v = and_both (x == y) (same a b) h in ap₂ (λ (i : ℕ) (l : List ℕ). i ∷ l) (eqb-true x y v.0) (same_is a b v.1)

module _ (word : List ℕ) where
  scan_end : (n at : ℕ) (bs : List ℕ) → number_from word n at (0x20 ∷ bs) ≡ cond (at == length word) n (number_from word (n + 1) 0 bs)
  unfolding number_from
  scan_end n at bs = refl

  scan_more : (n at b : ℕ) (bs : List ℕ) → (b == 0x20) ≡ false → number_from word n at (b ∷ bs) ≡ number_from word n (agreeing word at b) bs
  unfolding number_from
  scan_more n at b bs e = rw e refl

  unbroken_by : (b : ℕ) (s : List ℕ) → unbroken (b ∷ s) ≡ true → ((b == 0x20) ≡ false) × (unbroken s ≡ true)
  unbroken_by b s h = by_case (b == 0x20) refl h
    where
      by_case : (t : Bool) → (b == 0x20) ≡ t → cond t false (unbroken s) ≡ true → ((b == 0x20) ≡ false) × (unbroken s ≡ true)
      by_case true e g = absurd (never g)
      by_case false e g = (e, g)

  -- once a byte differs
  scan_lost : (name : List ℕ) (n : ℕ) (bs : List ℕ) → unbroken name ≡ true → number_from word n (length word + 1) (name ++ 0x20 ∷ bs) ≡ number_from word (n + 1) 0 bs
  scan_lost [] n bs u = scan_end n (length word + 1) bs ∙ ap (λ (t : Bool). cond t n (number_from word (n + 1) 0 bs)) (ne_eqb (length word + 1) (length word) (λ z. omega (arith, z)))
  scan_lost (b ∷ name) n bs u =
      let v = unbroken_by b name u in
      scan_more n (length word + 1) b (name ++ 0x20 ∷ bs) v.0 ∙ ap (λ (k : ℕ). number_from word n k (name ++ 0x20 ∷ bs)) (sym (agree_past word (length word + 1) b (omega arith))) ∙ scan_lost name n bs v.1

  abbrev chosen : Bool → ℕ → List ℕ → ℕ
  chosen t n bs = cond t n (number_from word (n + 1) 0 bs)

  same_more : (x y : ℕ) (xs ys : List ℕ) → same (x ∷ xs) (y ∷ ys) ≡ (x == y && same xs ys)
  unfolding same
  same_more x y xs ys = refl

  same_end : (xs : List ℕ) → length xs ≡ 0 → (b : ℕ) (ys : List ℕ) → same xs (b ∷ ys) ≡ false
  unfolding same
  same_end [] h b ys = refl
  same_end (x ∷ xs) h b ys = absurd (omega arith)

  same_none : (xs : List ℕ) → same xs [] ≡ (length xs == 0)
  unfolding same
  same_none [] = refl
  same_none (x ∷ xs) = sym (ne_eqb (length (x ∷ xs)) 0 (λ z. omega (arith, z)))

  scan_name : (name : List ℕ) (at n : ℕ) (bs : List ℕ) → unbroken name ≡ true → at ≤ length word → number_from word n at (name ++ 0x20 ∷ bs) ≡ chosen (same (drop at word) name) n bs
  scan_name [] at n bs u h = scan_end n at bs ∙ ap (λ (t : Bool). chosen t n bs) (by_case (at == length word) refl ∙ sym (same_none (drop at word)))
    where
      by_case : (t : Bool) → (at == length word) ≡ t → t ≡ (length (drop at word) == 0)
      by_case true e = sym (eq-eqb (length (drop at word)) 0 (omega (arith, length-drop at word, eqb-true at (length word) e)))
      by_case false e = sym (ne_eqb (length (drop at word)) 0 (λ z. eqb-false at (length word) e (omega (arith, length-drop at word, z))))
  scan_name (b ∷ name) at n bs u h = let v = unbroken_by b name u in scan_more n at b (name ++ 0x20 ∷ bs) v.0 ∙ by_case (nat_lt at (length word)) (slice_index word at == b) refl refl v.1 (λ l. scan_name name (at + 1) n bs v.1 l)
    where
      by_case : (s t : Bool) → nat_lt at (length word) ≡ s → (slice_index word at == b) ≡ t → unbroken name ≡ true → (at + 1 ≤ length word → number_from word n (at + 1) (name ++ 0x20 ∷ bs) ≡ chosen (same (drop (at + 1) word) name) n bs)
          → number_from word n (agreeing word at b) (name ++ 0x20 ∷ bs) ≡ chosen (same (drop at word) (b ∷ name)) n bs
      by_case true true p q w hyp =
          let l : at < length word = ltb-true at (length word) p in
          ap (λ (k : ℕ). number_from word n k (name ++ 0x20 ∷ bs)) (sym (agree_on word at b l (eqb-true (slice_index word at) b q))) ∙ hyp (omega arith)
          ∙ ap (λ (t : Bool). chosen t n bs) (sym (ap (λ (x : List ℕ). same x (b ∷ name)) (drop-cons word at 0 l ∙ ap (λ (k : ℕ). slice_index word at ∷ drop k word) (sym (add-one at))) ∙ same_more (slice_index word at) b (drop (at + 1) word) name ∙ ap (λ (t : Bool). t && same (drop (at + 1) word) name) q))
      by_case true false p q w hyp =
          let l : at < length word = ltb-true at (length word) p in
          ap (λ (k : ℕ). number_from word n k (name ++ 0x20 ∷ bs)) (sym (agree_not word at b l (eqb-false (slice_index word at) b q))) ∙ scan_lost name n bs w
          ∙ ap (λ (t : Bool). chosen t n bs) (sym (ap (λ (x : List ℕ). same x (b ∷ name)) (drop-cons word at 0 l) ∙ same_more (slice_index word at) b (drop (suc at) word) name ∙ ap (λ (t : Bool). t && same (drop (suc at) word) name) q))
      by_case false t p q w hyp =
          let l : length word ≤ at = ltb-false at (length word) p in
          ap (λ (k : ℕ). number_from word n k (name ++ 0x20 ∷ bs)) (sym (agree_past word at b l)) ∙ scan_lost name n bs w
          ∙ ap (λ (t : Bool). chosen t n bs) (sym (same_end (drop at word) (omega (arith, length-drop at word)) b name))

  pub joined_is : (xs : List (List ℕ)) (n : ℕ) → all_of unbroken xs ≡ true → number_from word n 0 (joined xs) ≡ position word n xs
  unfolding joined position number_from
  joined_is [] n u = refl
  joined_is (x ∷ xs) n u = let v = and_both (unbroken x) (all_of unbroken xs) u in scan_name x 0 n (joined xs) v.0 (omega arith) ∙ ap (λ (k : ℕ). cond (same word x) n k) (joined_is xs (n + 1) v.1)

  -- a word that fails a test which each name passes is none of them
  pub position_none : (p : List ℕ → Bool) (xs : List (List ℕ)) (n : ℕ) → all_of p xs ≡ true → p word ≡ false → position word n xs ≡ 0
  unfolding position
  position_none p [] n u e = refl
  position_none p (x ∷ xs) n u e = let v = and_both (p x) (all_of p xs) u in by_case (same word x) refl v.0 (position_none p xs (n + 1) v.1 e)
    where
      by_case : (t : Bool) → same word x ≡ t → p x ≡ true → position word (n + 1) xs ≡ 0 → cond t n (position word (n + 1) xs) ≡ 0
      by_case true q w hyp = absurd (never (sym e ∙ ap p (same_is word x q) ∙ w))
      by_case false q w hyp = hyp

  position_few : (n : ℕ) (xs : List (List ℕ)) → position word (suc n) xs ≤ n + length xs
  unfolding position
  position_few n [] = omega arith
  position_few n (x ∷ xs) = by_case (same word x) (position_few (suc n) xs)
    where
      by_case : (t : Bool) → position word (suc (suc n)) xs ≤ suc n + length xs → cond t (suc n) (position word (suc n + 1) xs) ≤ n + suc (length xs)
      by_case true h = omega arith
      by_case false h = rw add-one (omega arith)

-- ---- the names of each file

names_unbroken : (file : ℕ) → all_of unbroken (names_of file) ≡ true
unfolding names_of break_names width_names emoji_names derived_names
names_unbroken file = by_cases (file == 0) (file == 1) (file == 2)
  where
    by_cases : (s t u : Bool) → all_of unbroken (cond s break_names (cond t width_names (cond u emoji_names derived_names))) ≡ true
    by_cases true t u = refl
    by_cases false true u = refl
    by_cases false false true = refl
    by_cases false false false = refl

name_in : (file : ℕ) (word names : List ℕ) (z : Option ℕ) → names ≡ joined (names_of file) → z ≡ number_found (number_from word 1 0 names) → z ≡ number_found (name_number file word)
unfolding name_number
name_in file word names z e p = p ∙ ap (λ (l : List ℕ). number_found (number_from word 1 0 l)) e ∙ ap number_found (joined_is word (names_of file) 1 (names_unbroken file))

module _ (file : ℕ) (word : List ℕ) (z : Option ℕ) where
  pub name_0 : file ≡ 0 → z ≡ number_found (number_from word 1 0 (joined break_names)) → z ≡ number_found (name_number file word)
  unfolding names_of
  name_0 e p = name_in file word (joined break_names) z (rw e refl) p

  pub name_1 : file ≡ 1 → z ≡ number_found (number_from word 1 0 (joined width_names)) → z ≡ number_found (name_number file word)
  unfolding names_of
  name_1 e p = name_in file word (joined width_names) z (rw e refl) p

  pub name_2 : file ≡ 2 → z ≡ number_found (number_from word 1 0 (joined emoji_names)) → z ≡ number_found (name_number file word)
  unfolding names_of
  name_2 e p = name_in file word (joined emoji_names) z (rw e refl) p

  pub name_3 : (file ≢ 0) → (file ≢ 1) → (file ≢ 2) → z ≡ number_found (number_from word 1 0 (joined derived_names)) → z ≡ number_found (name_number file word)
  unfolding names_of
  name_3 n m k p = name_in file word (joined derived_names) z (rw (ne_eqb file 0 n, ne_eqb file 1 m, ne_eqb file 2 k) refl) p

-- ---- how many names each file has

abbrev pub names_in : ℕ → ℕ
names_in file = cond (file == 0) 13 (cond (file == 1) 6 (cond (file == 2) 6 22))

names_most : (file : ℕ) → length (names_of file) ≡ names_in file
unfolding names_of break_names width_names emoji_names derived_names
names_most file = by_cases (file == 0) (file == 1) (file == 2)
  where
    by_cases : (s t u : Bool) → length (cond s break_names (cond t width_names (cond u emoji_names derived_names))) ≡ cond s 13 (cond t 6 (cond u 6 22))
    by_cases true t u = refl
    by_cases false true u = refl
    by_cases false false true = refl
    by_cases false false false = refl

pub name_most : (file : ℕ) (word : List ℕ) → name_number file word ≤ names_in file
unfolding name_number
name_most file word = let a = position_few word 0 (names_of file) in let b = names_most file in below (position word 1 (names_of file)) (length (names_of file)) (names_in file) (omega arith) b
  where
    below : (a b c : ℕ) → a ≤ b → b ≡ c → a ≤ c
    below a b c p q = omega arith

few_names : (file : ℕ) → names_in file ≤ 22
few_names file = by_cases (file == 0) (file == 1) (file == 2)
  where
    by_cases : (s t u : Bool) → cond s 13 (cond t 6 (cond u 6 22)) ≤ 22
    by_cases true t u = omega arith
    by_cases false true u = omega arith
    by_cases false false true = omega arith
    by_cases false false false = omega arith

pub name_few : (file : ℕ) (word : List ℕ) → name_number file word ≤ 22
name_few file word = let a = name_most file word in let b = few_names file in below (name_number file word) (names_in file) a b
  where
    below : (a b : ℕ) → a ≤ b → b ≤ 22 → a ≤ 22
    below a b p q = omega arith

-- ---- what is no name

unpublished : (p : List ℕ → Bool) → all_of p break_names ≡ true → all_of p width_names ≡ true → all_of p emoji_names ≡ true → all_of p derived_names ≡ true → (file : ℕ) (word : List ℕ) → p word ≡ false → name_number file word ≡ 0
unfolding name_number names_of
unpublished p a b c d file word e = by_cases (file == 0) (file == 1) (file == 2)
  where
    by_cases : (s t u : Bool) → position word 1 (cond s break_names (cond t width_names (cond u emoji_names derived_names))) ≡ 0
    by_cases true t u = position_none word p break_names 1 a e
    by_cases false true u = position_none word p width_names 1 b e
    by_cases false false true = position_none word p emoji_names 1 c e
    by_cases false false false = position_none word p derived_names 1 d e

abbrev last_of : ℕ → List ℕ → ℕ
last_of d [] = d
last_of d (b ∷ s) = last_of b s

abbrev closed : List ℕ → Bool
closed w = cond (last_of 0x3B w == 0x3B) false true

broken : (w x : List ℕ) → unbroken (w ++ 0x20 ∷ x) ≡ false
broken [] x = refl
broken (b ∷ w) x = by_case (b == 0x20) (broken w x)
  where
    by_case : (t : Bool) → unbroken (w ++ 0x20 ∷ x) ≡ false → cond t false (unbroken (w ++ 0x20 ∷ x)) ≡ false
    by_case true h = refl
    by_case false h = h

last_is : (w : List ℕ) (d b : ℕ) → last_of d (w ++ b ∷ []) ≡ b
last_is [] d b = refl
last_is (x ∷ w) d b = last_is w x b

module _ (file : ℕ) where
  -- more than 32 bytes
  pub long_none : (w : List ℕ) → 32 < length w → name_number file w ≡ 0
  unfolding break_names width_names emoji_names derived_names
  long_none w h = unpublished (λ x. nat_le (length x) 32) refl refl refl refl file w (lt-leb (length w) 32 h)

  -- a space inside
  pub spaced_none : (w x : List ℕ) → name_number file (w ++ 0x20 ∷ x) ≡ 0
  unfolding break_names width_names emoji_names derived_names
  spaced_none w x = unpublished unbroken refl refl refl refl file (w ++ 0x20 ∷ x) (broken w x)

  -- a `;` at the end, or nothing
  pub ended_none : (w : List ℕ) → name_number file (w ++ 0x3B ∷ []) ≡ 0
  unfolding break_names width_names emoji_names derived_names
  ended_none w = unpublished closed refl refl refl refl file (w ++ 0x3B ∷ []) (ap (λ (b : ℕ). cond (b == 0x3B) false true) (last_is w 0x3B 0x3B))

  pub empty_none : name_number file [] ≡ 0
  unfolding break_names width_names emoji_names derived_names
  empty_none = unpublished closed refl refl refl refl file [] refl
