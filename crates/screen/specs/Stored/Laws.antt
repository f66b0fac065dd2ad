-- There and back, from either end.
use Rattle.std.specs.Prelude.{◌≡◌, refl, ℕ, zero, suc, ◌≤◌, ◌<◌, Bool, ◌&&◌, get_or, leb}
use Rattle.std.proofs.Common.{sym, ap, ap₂, ◌∙◌, true≢false}
use native.Mathlib.Omega.{arith}
use Rattle.std.proofs.Math.Bool.{true, false}
use mathlib.Core.List.{List, [], ◌∷◌, ◌++◌, map}
use Rattle.std.proofs.Math.ListN.{length, length-append}
use Rattle.std.proofs.Math.Dec.{eqb}
use borrow.Author.Tests.{eqb-true, le-leb, leb-true}
use Rattle.text.specs.Tests.{cases, both_true}
use Rattle.text.specs.Each.{All, all_nil, all_cons, all_map, all_both}
use Rattle.text.specs.Overstrike.Bytes.{Byte}
use Rattle.text.specs.Calls.{ask}
use Rattle.text.specs.Calls.Laws.{first_yes, decide_yes, decide_nil}
use Rattle.screen.specs.Records.{Record, records, encode}
use Rattle.screen.specs.Records.Lengths.{limit, LengthOf, length_of_2, length_of_4}
use Rattle.screen.specs.Records.Laws.{Fits, records_encode, encode_records, records_fit}
use Rattle.screen.specs.WellFormed.{fields, body_sizes, of_kind, well_formed}
use Rattle.screen.specs.Calls.Code.{accepted, left_by}
use Rattle.screen.specs.Calls.Code.Laws.{writing_yes, writing_left, writing_whole}
use Rattle.screen.specs.Stored.{lengthened, short, store_questions, restore_questions, store_call, restore_call}

-- ---- records one by one

-- a well-formed record
pub record Formed (old : Bool) (r : Record) : Type 0 where
  pub whole : r.whole ≡ true
  pub body : of_kind (body_sizes old) r.kind r.body ≡ true

abbrev Short : Record → Type 0
Short r = length r.body ≤ 65535

pub all_formed : (old : Bool) (rs : List Record) → well_formed (body_sizes old) rs ≡ true → All (Formed old) rs
unfolding well_formed
all_formed old [] e = all_nil
all_formed old (r ∷ rs) e =
    let p = both_true r.whole _ e in
    let q = both_true (of_kind (body_sizes old) r.kind r.body) _ p.1 in
    all_cons (record { whole = p.0; body = q.0 }) (all_formed old rs q.1)

formed_all : (old : Bool) {rs : List Record} → All (Formed old) rs → well_formed (body_sizes old) rs ≡ true
unfolding well_formed
formed_all old all_nil = refl
formed_all old (all_cons f a) = rw (f.whole, f.body) (formed_all old a)

all_short : (rs : List Record) → short rs ≡ true → All Short rs
unfolding short
all_short [] e = all_nil
all_short (r ∷ rs) e = let p = both_true (leb (length r.body) 65535) _ e in all_cons (leb-true (length r.body) 65535 p.0) (all_short rs p.1)

short_all : {rs : List Record} → All Short rs → short rs ≡ true
unfolding short
short_all all_nil = refl
short_all (all_cons {a = r} h a) = rw (le-leb (length r.body) 65535 h) (short_all a)

-- ---- a record lengthened

-- a missing byte reads as the byte added
get_d_zero : (s : List ℕ) (i : ℕ) → get_or (s ++ 0 ∷ []) i 0 ≡ get_or s i 0
get_d_zero [] zero = refl
get_d_zero [] (suc i) = refl
get_d_zero (b ∷ s) zero = refl
get_d_zero (b ∷ s) (suc i) = get_d_zero s i

fields_zero : (s : List ℕ) → fields (s ++ 0 ∷ []) ≡ fields s
unfolding fields
fields_zero s = simp get_d_zero

-- a body of another kind than 2 has the same sizes
other_kind : (f g : ℕ → Bool) (k : ℕ) (b : List ℕ) → eqb k 2 ≡ false → of_kind f k b ≡ of_kind g k b
unfolding of_kind
other_kind f g k b e = rw e

-- kinds are small
kind_small : (f : ℕ → Bool) (k : ℕ) (b : List ℕ) → of_kind f k b ≡ true → k < limit 2
unfolding of_kind limit
kind_small f k b e =
    cases (eqb k 1) (λ x. omega (arith, eqb-true k 1 x)) (λ x. cases (eqb k 2) (λ y. omega (arith, eqb-true k 2 y)) (λ y.
    cases (eqb k 3) (λ z. omega (arith, eqb-true k 3 z)) (λ z. cases (eqb k 4) (λ w. omega (arith, eqb-true k 4 w)) (λ w. absurd (true≢false (sym (rw (x, y, z, w) at e)))))))

module _ (r : Record) where
  abbrev n : ℕ
  n = length r.body

  attributes : (old : Bool) → r.kind ≡ 2 → Formed old r → (body_sizes old n ≡ true) × (fields r.body ≡ true)
  unfolding of_kind
  attributes old k f = both_true (body_sizes old n) (fields r.body) (rw k at f.body)

  -- attributes of 25 bytes are well formed where old ones are allowed, and stay as they are
  allowed_too : Formed false r → Formed true r × (lengthened r ≡ r)
  unfolding lengthened of_kind
  allowed_too f =
      cases (eqb r.kind 2)
      (λ e.
      let k : r.kind ≡ 2 = eqb-true r.kind 2 e in
      let p = attributes false k f in
      let l : n ≡ 25 = eqb-true n 25 p.0 in
      (record { whole = f.whole; body = rw (k, l) p.1 }, rw (e, l)))
      (λ e. (record { whole = f.whole; body = other_kind (body_sizes true) (body_sizes false) r.kind r.body e ∙ f.body }, rw e))

  lengthened_formed : Formed true r → Formed false (lengthened r)
  unfolding lengthened of_kind
  lengthened_formed f =
      cases (eqb r.kind 2)
      (λ e.
      let k : r.kind ≡ 2 = eqb-true r.kind 2 e in
      let p = attributes true k f in
      cases (eqb n 24)
      (λ d.
      let l : length (r.body ++ 0 ∷ []) ≡ 25 = length-append r.body (0 ∷ []) ∙ omega (arith, eqb-true n 24 d) in
      rw (e, d) record { whole = f.whole; body = rw (k, l, fields_zero r.body) p.1 })
      (λ d. let l : eqb n 25 ≡ true = rw d at p.0 in rw (e, d) record { whole = f.whole; body = rw (k, l) p.1 }))
      (λ e. rw e record { whole = f.whole; body = other_kind (body_sizes false) (body_sizes true) r.kind r.body e ∙ f.body })

  lengthened_short : Short r → Short (lengthened r)
  unfolding lengthened
  lengthened_short h = cases (eqb r.kind 2 && eqb n 24)
      (λ e. rw e (omega (arith, length-append r.body (0 ∷ []), eqb-true n 24 (both_true (eqb r.kind 2) (eqb n 24) e).1)))
      (λ e. rw e h)

  formed_fits : (old : Bool) → Formed old r → Short r → Fits 2 r
  unfolding limit
  formed_fits old f h = record { whole = f.whole; kind = kind_small (body_sizes old) r.kind r.body f.body; size = omega arith }

  fits_4 : Fits 2 r → Fits 4 r
  unfolding limit
  fits_4 f = record { whole = f.whole; kind = f.kind; size = omega (arith, f.size) }

  fits_short : Fits 2 r → Short r
  unfolding limit
  fits_short f = omega (arith, f.size)

-- ---- lists

all_lengthened : {A B : Record → Type 0} → ((r : Record) → A r → B (lengthened r)) → {rs : List Record} → All A rs → All B (map lengthened rs)
all_lengthened f all_nil = all_nil
all_lengthened f (all_cons {a = r} q a) = all_cons (f r q) (all_lengthened f a)

pub same_lengthened : {rs : List Record} → All (Formed false) rs → map lengthened rs ≡ rs
same_lengthened all_nil = refl
same_lengthened (all_cons {a = r} f a) = ap₂ (λ (x : Record) (l : List Record). x ∷ l) (allowed_too r f).1 (same_lengthened a)

-- the same bytes, read and written again
again : (n : ℕ) → LengthOf n → {s : List ℕ} → All Byte s → All (Formed false) (records n s) → encode n (map lengthened (records n s)) ≡ s
again n is a f = ap (encode n) (same_lengthened f) ∙ encode_records n is a (all_map (λ r g. g.whole) f)

-- a stored form's bodies are short: 2 bytes say their lengths
pub stored_short : {s : List ℕ} → All Byte s → well_formed (body_sizes false) (records 2 s) ≡ true → short (records 2 s) ≡ true
stored_short {s = s} a w = short_all (all_map fits_short (records_fit 2 length_of_2 a (all_map (λ r g. g.whole) (all_formed false (records 2 s) w))))

-- ---- calls

module _ (room : ℕ) (list : List ℕ) where
  abbrev there : List Record
  there = records 4 list

  abbrev back : List Record
  back = records 2 list

  store_accepts : (rs : List Record) → there ≡ rs → All (Formed true) rs → All Short rs → length (encode 2 (map lengthened rs)) ≤ room → store_call room list ≡ accepted (encode 2 (map lengthened rs)) room
  unfolding store_call
  store_accepts rs e f s h = rw e (writing_whole room (encode 2 (map lengthened rs)) (store_questions rs) tt
      (decide_yes (ask 10 (well_formed (body_sizes true) rs)) (ask 12 (short rs) ∷ []) (formed_all true f) ∙ decide_yes (ask 12 (short rs)) [] (short_all s) ∙ decide_nil) h)

  restore_accepts : (rs : List Record) → back ≡ rs → All (Formed false) rs → length (encode 4 rs) ≤ room → restore_call room list ≡ accepted (encode 4 rs) room
  unfolding restore_call
  restore_accepts rs e f h = rw e (writing_whole room (encode 4 rs) (restore_questions rs) tt (decide_yes (ask 10 (well_formed (body_sizes false) rs)) [] (formed_all false f) ∙ decide_nil) h)

  module _ (e : (store_call room list).number ≡ 0) where
    stored_formed : All (Formed true) there × All Short there
    unfolding store_call
    stored_formed =
        let p = first_yes (ask 10 (well_formed (body_sizes true) there)) (ask 12 (short there) ∷ []) tt (writing_yes room (encode 2 (map lengthened there)) (store_questions there) e) in
        let q = first_yes (ask 12 (short there)) [] tt p.1 in
        (all_formed true there p.0, all_short there q.0)

    stored_left : left_by (store_call room list) ≡ encode 2 (map lengthened there)
    unfolding store_call
    stored_left = writing_left room (encode 2 (map lengthened there)) (store_questions there) e

  module _ (e : (restore_call room list).number ≡ 0) where
    restored_formed : All (Formed false) back
    unfolding restore_call
    restored_formed = all_formed false back (first_yes (ask 10 (well_formed (body_sizes false) back)) [] tt (writing_yes room (encode 4 back) (restore_questions back) e)).0

    restored_left : left_by (restore_call room list) ≡ encode 4 back
    unfolding restore_call
    restored_left = writing_left room (encode 4 back) (restore_questions back) e

-- ---- there and back

-- a change list with its old attribute bodies lengthened
abbrev pub longer : List ℕ → List ℕ
longer list = encode 4 (map lengthened (records 4 list))

-- what is stored comes back with its old attribute bodies lengthened
pub store_restore : (room back : ℕ) (list : List ℕ) → (store_call room list).number ≡ 0 → length (longer list) ≤ back → restore_call back (left_by (store_call room list)) ≡ accepted (longer list) back
store_restore room back list e h =
    let s = stored_formed room list e in
    let f : All (Formed false) (map lengthened (records 4 list)) = all_lengthened lengthened_formed s.0 in
    let fits : All (Fits 2) (map lengthened (records 4 list)) = all_map (λ r p. formed_fits r false p.0 p.1) (all_both f (all_lengthened lengthened_short s.1)) in
    ap (restore_call back) (stored_left room list e) ∙ restore_accepts back _ (map lengthened (records 4 list)) (records_encode 2 length_of_2 fits) f h

-- an accepted list whose attribute bodies have 25 bytes comes back byte for byte
pub there_and_back : (room back : ℕ) (list : List ℕ) → All Byte list → (store_call room list).number ≡ 0 → well_formed (body_sizes false) (records 4 list) ≡ true → length list ≤ back
    → restore_call back (left_by (store_call room list)) ≡ accepted list back
there_and_back room back list a e w h =
    let same : longer list ≡ list = again 4 length_of_4 a (all_formed false (records 4 list) w) in
    store_restore room back list e (rw same h) ∙ ap (λ (s : List ℕ). accepted s back) same

-- and so does every accepted stored list
pub back_and_there : (room back : ℕ) (stored : List ℕ) → All Byte stored → (restore_call room stored).number ≡ 0 → length stored ≤ back → store_call back (left_by (restore_call room stored)) ≡ accepted stored back
back_and_there room back stored a e h =
    let rs : List Record = records 2 stored in
    let f : All (Formed false) rs = restored_formed room stored e in
    let fits : All (Fits 2) rs = records_fit 2 length_of_2 a (all_map (λ r g. g.whole) f) in
    let same : encode 2 (map lengthened rs) ≡ stored = again 2 length_of_2 a f in
    ap (store_call back) (restored_left room stored e)
    ∙ store_accepts back (encode 4 rs) rs (records_encode 4 length_of_4 (all_map fits_4 fits)) (all_map (λ r g. (allowed_too r g).0) f) (all_map fits_short fits) (rw same h)
    ∙ ap (λ (s : List ℕ). accepted s back) same
