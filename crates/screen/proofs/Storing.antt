-- Records of a list checked one by one, and written with lengths of another size.
use mathlib.Core.Path.{◌≡◌, refl, sym, ap, ◌∙◌}
use Prim.Native.Nat.{ℕ, ◌+◌, ◌-◌, ◌≤◌, ◌<◌}
use native.Mathlib.Omega.{arith}
use mathlib.Core.Logic.{◌≢◌}
use mathlib.Core.Bool.{Bool, true, false, cond, ◌&&◌, and_assoc, and-true}
use mathlib.Core.List.{List, [], ◌∷◌, ◌++◌, map, append_assoc}
use lib.ListN.{length, take, drop, length-append, length-drop}
use lib.Seq.{length-take-le}
use lib.Dec.{eqb, leb}
use borrow.Author.Tests.{eq-eqb, ne_eqb, eqb-true, leb-true}
use Rattle.text.specs.Each.{All, all_first, all_drop}
use Rattle.buffer.specs.Numbers.{le2, le4}
use Rattle.buffer.specs.Sink.{Sink, sink, put, emit}
use Rattle.buffer.specs.Sink.Laws.{emit_append, emit_none, then_emit, then_put}
use Rattle.screen.specs.Records.{Record, records, length_bytes, encode_one, encode}
use Rattle.screen.specs.Records.Laws.{same_record}
use Rattle.screen.specs.Records.Contracts.{LengthSize, HeadReady, head_at, record_of}
use Rattle.screen.specs.WellFormed.{body_sizes, of_kind, well_formed}
use Rattle.screen.specs.Stored.{lengthened, short}
use Rattle.text.specs.Tests.{both_true}
use Rattle.screen.specs.Stored.Contracts.{whole_record, is_formed, refusal_of, WriteRecordsReady}
use Rattle.screen.specs.declared.records.Head.{Head}
use Rattle.screen.proofs.Heads.{body_is, size_small, records_end, behind, records_from_law, head_inside, head_start, head_whole, records_next}

-- ---- is_formed

module _ (list : List ℕ) (h : Head) (is : h.whole ≡ leb (h.start + h.len) (length list)) (whole : h.whole ≡ true) where
  pub body_inside : h.start + h.len ≤ length list
  body_inside = leb-true (h.start + h.len) (length list) (sym is ∙ whole)

  pub formed_body : (old r : Bool) → r ≡ of_kind (body_sizes old) h.kind (take (h.start + h.len - h.start) (drop h.start list)) → r ≡ is_formed old (record_of list h)
  formed_body old r e = e ∙ ap (of_kind (body_sizes old) h.kind) (body_is list h.start h.len) ∙ sym (rw whole refl)

-- ---- refusal_of

well_cons : (old : Bool) (r : Record) (rs : List Record) → well_formed (body_sizes old) (r ∷ rs) ≡ (is_formed old r && well_formed (body_sizes old) rs)
unfolding well_formed
well_cons old r rs = sym (and_assoc r.whole (of_kind (body_sizes old) r.kind r.body) (well_formed (body_sizes old) rs))

well_nil : (old : Bool) → well_formed (body_sizes old) [] ≡ true
unfolding well_formed
well_nil old = refl

short_cons : (r : Record) (rs : List Record) → short (r ∷ rs) ≡ (leb (length r.body) 65535 && short rs)
unfolding short
short_cons r rs = refl

short_nil : short [] ≡ true
unfolding short
short_nil = refl

pub record Checking (old : Bool) (size : ℕ) (list : List ℕ) (b : Bool) (at : ℕ) : Type 0 where
  pub inside : at ≤ length list
  pub sizes : LengthSize size
  pub formed : well_formed (body_sizes old) (records size (drop at list)) ≡ well_formed (body_sizes old) (records size list)
  pub brief : (b && short (records size (drop at list))) ≡ short (records size list)

pub check_begin : (old : Bool) (size : ℕ) (list : List ℕ) → LengthSize size → Checking old size list true 0
check_begin old size list s = record { inside = omega arith; sizes = s; formed = refl; brief = refl }

module _ (old : Bool) (size : ℕ) (list : List ℕ) (b : Bool) (at : ℕ) (k : Checking old size list b at) where
  done : length list ≤ at → cond b 0 12 ≡ refusal_of old (records size list)
  done h =
      let e : records size (drop at list) ≡ [] = records_end size list at h in
      let f : well_formed (body_sizes old) (records size list) ≡ true = sym k.formed ∙ ap (well_formed (body_sizes old)) e ∙ well_nil old in
      let g : b ≡ short (records size list) = sym (and-true b) ∙ ap (λ (x : Bool). b && x) (sym (ap short e ∙ short_nil)) ∙ k.brief in
      sym (rw (f, ← g) refl)

  pub check_short : length list ≤ at → b ≡ true → 0 ≡ refusal_of old (records size list)
  check_short h e = rw e at (done h)

  pub check_long : length list ≤ at → b ≡ false → 12 ≡ refusal_of old (records size list)
  check_long h e = rw e at (done h)

  module _ (less : at < length list) where
    pub check_head : HeadReady list at size
    check_head = record { inside = less; sizes = k.sizes; small = size_small k.sizes }

    module _ (h : Head) (is : h ≡ head_at size list at) where
      pub check_whole : h.whole ≡ leb (h.start + h.len) (length list)
      check_whole = head_whole size list at less h is

      module _ (r : Bool) (test : r ≡ is_formed old (record_of list h)) where
        pub check_malformed : r ≡ false → 10 ≡ refusal_of old (records size list)
        check_malformed e =
            let rs : List Record = behind size list at less h is in
            let f : well_formed (body_sizes old) (records size list) ≡ false =
            sym k.formed ∙ ap (well_formed (body_sizes old)) (records_from_law size list at less h is) ∙ well_cons old (record_of list h) rs ∙ ap (λ (x : Bool). x && well_formed (body_sizes old) rs) (sym test ∙ e) in
            sym (rw f refl)

        module _ (t : r ≡ true) where
          formed : is_formed old (record_of list h) ≡ true
          formed = sym test ∙ t

          whole : h.whole ≡ true
          whole = (both_true h.whole _ formed).0

          pub check_inside : h.start + h.len ≤ length list
          check_inside = head_inside size list at less h is whole

          pub check_less : length list - (h.start + h.len) < length list - at
          check_less = omega (arith, head_start size list at less h is whole)

          pub check_turn : Checking old size list (b && leb h.len 65535) (h.start + h.len)
          check_turn =
              let rs : List Record = records size (drop (h.start + h.len) list) in
              let next : records size (drop at list) ≡ record_of list h ∷ rs = records_next size list at less h is whole in
              let l : length (record_of list h).body ≡ h.len = length-take-le h.len (drop h.start list) (omega (arith, length-drop h.start list, check_inside)) in
              record {
                inside = check_inside;
                sizes = k.sizes;
                formed = sym (ap (well_formed (body_sizes old)) next ∙ well_cons old (record_of list h) rs ∙ ap (λ (x : Bool). x && well_formed (body_sizes old) rs) formed) ∙ k.formed;
                brief = and_assoc b (leb h.len 65535) (short rs) ∙ sym (ap (λ (x : Bool). b && x) (ap short next ∙ short_cons (record_of list h) rs ∙ ap (λ (n : ℕ). leb n 65535 && short rs) l)) ∙ k.brief;
              }

-- ---- write_head

module _ (size len kind : ℕ) (s a b : Sink ℕ) where
  pub head_short : size ≡ 2 → a ≡ emit s (le2 len) → b ≡ emit a (le2 kind) → b ≡ emit s (length_bytes size len ++ le2 kind)
  head_short z e f = rw (eq-eqb size 2 z) (then_emit s a b (le2 len) (le2 kind) e f)

  pub head_long : (size ≢ 2) → a ≡ emit s (le4 len) → b ≡ emit a (le2 kind) → b ≡ emit s (length_bytes size len ++ le2 kind)
  head_long z e f = rw (ne_eqb size 2 z) (then_emit s a b (le4 len) (le2 kind) e f)

-- ---- write_record

record_bytes : (n : ℕ) (r : Record) → encode_one n r ≡ (length_bytes n (length r.body) ++ le2 r.kind) ++ r.body
unfolding encode_one
record_bytes n r = sym (append_assoc (length_bytes n (length r.body)) (le2 r.kind) r.body)

module _ (kind : ℕ) (body : List ℕ) (size : ℕ) (s a b : Sink ℕ) where
  pub record_same : (eqb kind 2 && eqb (length body) 24) ≡ false → a ≡ emit s (length_bytes size (length body) ++ le2 kind) → b ≡ emit a body → b ≡ emit s (encode_one size (lengthened (whole_record kind body)))
  unfolding lengthened
  record_same z e f = rw z (then_emit s a b (length_bytes size (length body) ++ le2 kind) body e f ∙ ap (emit s) (sym (record_bytes size (whole_record kind body))))

  pub record_lengthened : (c : Sink ℕ) → (eqb kind 2 && eqb (length body) 24) ≡ true → a ≡ emit s (length_bytes size 25 ++ le2 kind) → b ≡ emit a body → c ≡ put b 0 → c ≡ emit s (encode_one size (lengthened (whole_record kind body)))
  unfolding lengthened
  record_lengthened c z e f g =
      let n : length (body ++ 0 ∷ []) ≡ 25 = length-append body (0 ∷ []) ∙ omega (arith, eqb-true (length body) 24 (both_true (eqb kind 2) (eqb (length body) 24) z).1) in
      rw z (then_emit s a c (length_bytes size 25 ++ le2 kind) (body ++ 0 ∷ []) e (then_put a b c body 0 f g)
      ∙ ap (emit s) (sym (record_bytes size (whole_record kind (body ++ 0 ∷ [])) ∙ ap (λ (i : ℕ). (length_bytes size i ++ le2 kind) ++ (body ++ 0 ∷ [])) n)))

-- ---- write_records

encode_cons : (n : ℕ) (r : Record) (rs : List Record) → encode n (map lengthened (r ∷ rs)) ≡ encode_one n (lengthened r) ++ encode n (map lengthened rs)
unfolding encode
encode_cons n r rs = refl

encode_nil : (n : ℕ) → encode n (map lengthened []) ≡ []
unfolding encode
encode_nil n = refl

pub record Rewriting (from to : ℕ) (list out₀ out : List ℕ) (count at : ℕ) : Type 0 where
  pub inside : at ≤ length list
  pub sizes : LengthSize from
  pub whole : All (λ (r : Record). r.whole ≡ true) (records from (drop at list))
  pub work : emit (sink out count) (encode to (map lengthened (records from (drop at list)))) ≡ emit (sink out₀ 0) (encode to (map lengthened (records from list)))
  pub long : length out ≡ length out₀

pub write_begin : (from to : ℕ) (list out : List ℕ) → WriteRecordsReady list from → Rewriting from to list out out 0 0
write_begin from to list out ready = record { inside = omega arith; sizes = ready.sizes; whole = ready.whole; work = refl; long = refl }

module _ (from to : ℕ) (list out₀ out : List ℕ) (count at : ℕ) (k : Rewriting from to list out₀ out count at) where
  pub write_done : length list ≤ at → sink out count ≡ emit (sink out₀ 0) (encode to (map lengthened (records from list)))
  write_done h = sym (ap (λ (rs : List Record). emit (sink out count) (encode to (map lengthened rs))) (records_end from list at h) ∙ ap (emit (sink out count)) (encode_nil to) ∙ emit_none (sink out count)) ∙ k.work

  module _ (less : at < length list) where
    pub write_head : HeadReady list at from
    write_head = record { inside = less; sizes = k.sizes; small = size_small k.sizes }

    module _ (h : Head) (is : h ≡ head_at from list at) where
      is_whole : h.whole ≡ true
      is_whole = all_first (rw (records_from_law from list at less h is) at k.whole)

      pub write_inside : h.start + h.len ≤ length list
      write_inside = head_inside from list at less h is is_whole

      pub write_less : length list - (h.start + h.len) < length list - at
      write_less = omega (arith, head_start from list at less h is is_whole, write_inside)

      pub write_turn : (out' : List ℕ) (count' : ℕ) → sink out' count' ≡ emit (sink out count) (encode_one to (lengthened (whole_record h.kind (take (h.start + h.len - h.start) (drop h.start list))))) → length out' ≡ length out
          → Rewriting from to list out₀ out' count' (h.start + h.len)
      write_turn out' count' e l =
          let rs : List Record = records from (drop (h.start + h.len) list) in
          let next : records from (drop at list) ≡ record_of list h ∷ rs = records_next from list at less h is is_whole in
          let r : whole_record h.kind (take (h.start + h.len - h.start) (drop h.start list)) ≡ record_of list h = same_record (sym is_whole) refl (body_is list h.start h.len) in
          record {
            inside = write_inside;
            sizes = k.sizes;
            whole = all_drop 1 (rw next at k.whole);
            work = ap (λ (s : Sink ℕ). emit s (encode to (map lengthened rs))) (e ∙ ap (λ (x : Record). emit (sink out count) (encode_one to (lengthened x))) r) ∙ sym (emit_append (sink out count) (encode_one to (lengthened (record_of list h))) (encode to (map lengthened rs)))
                ∙ ap (emit (sink out count)) (sym (encode_cons to (record_of list h) rs)) ∙ ap (λ (xs : List Record). emit (sink out count) (encode to (map lengthened xs))) (sym next) ∙ k.work;
            long = l ∙ k.long;
          }
