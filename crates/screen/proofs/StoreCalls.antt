-- The calls `store` and `restore`: refusals, and what an accepted call leaves.
use Rattle.text.specs.Overstrike.Bytes.{Byte}
use mathlib.Core.Path.{◌≡◌, refl, sym, ap, ◌∙◌}
use mathlib.Core.Logic.{◌≢◌, ◌⊎◌, ⊎_elim, inl, inr}
use Prim.Native.Nat.{ℕ, zero, suc}
use native.Mathlib.Omega.{arith}
use mathlib.Core.Bool.{Bool, true, false}
use mathlib.Core.List.{List, [], map}
use lib.ListN.{length, replicate}
use Rattle.text.specs.Tests.{cases}
use Rattle.text.specs.Each.{All, all_map}
use Rattle.text.specs.Calls.{ask, decide, Written}
use Rattle.text.specs.Calls.Laws.{decide_yes, decide_no, decide_nil}
use Rattle.text.specs.Calls.Code.{written}
use Rattle.buffer.specs.Sink.{sink, emit}
use Rattle.screen.specs.Records.{Record, records, encode}
use Rattle.screen.specs.Records.Contracts.{LengthSize}
use Rattle.screen.specs.WellFormed.{body_sizes, well_formed}
use Rattle.screen.specs.Calls.Code.{kept, in_room}
use Rattle.screen.specs.Calls.Code.Laws.{writing_refused, writing_accepted}
use Rattle.screen.specs.Stored.{lengthened, store_questions, restore_questions, store_call, restore_call}
use Rattle.screen.specs.Stored.Laws.{stored_short, all_formed, same_lengthened}
use Rattle.screen.specs.Stored.Contracts.{refusal_of, WriteRecordsReady}
use Rattle.screen.proofs.Answers.{kept_bytes}

pub rewritten : (l l' bytes : List ℕ) (n : ℕ) (w : Written) → sink l' n ≡ emit (sink l 0) bytes → length l' ≡ length l → w ≡ kept l' n → w ≡ in_room bytes (length l)
rewritten l l' bytes n w wrote long e = e ∙ kept_bytes l l' bytes n wrote long

-- a list that is not malformed
module _ (old : Bool) (rs : List Record) (n : ℕ) (is : n ≡ refusal_of old rs) (not_10 : n ≢ 10) where
  well : well_formed (body_sizes old) rs ≡ true
  well = cases (well_formed (body_sizes old) rs) (λ e. e) (λ e. absurd (not_10 (rw e at is)))

ready : (old : Bool) (size : ℕ) (list : List ℕ) (n : ℕ) → LengthSize size → n ≡ refusal_of old (records size list) → (n ≢ 10) → WriteRecordsReady list size
ready old size list n s is z = record { sizes = s; whole = all_map (λ r f. f.whole) (all_formed old (records size list) (well old (records size list) n is z)) }

-- ---- store

module _ (list : List ℕ) (n : ℕ) (is : n ≡ refusal_of true (records 4 list)) where
  pub store_ready : n ≡ 0 → WriteRecordsReady list 4
  store_ready z = ready true 4 list n (inr refl) is (λ e. omega (arith, z, e))

  abbrev there : List Record
  there = records 4 list

  decided : decide (store_questions there) ≡ n
  unfolding decide
  decided = sym is

  pub store_written : (room : ℕ) (w : Written) → n ≡ 0 → w ≡ in_room (encode 2 (map lengthened there)) room → w ≡ store_call room list
  unfolding store_call
  store_written room w z e = e ∙ sym (writing_accepted room (encode 2 (map lengthened there)) (store_questions there) tt (decided ∙ z))

  pub store_refused : (room : ℕ) → (n ≢ 0) → written (record { number = n; count = 0 }) (replicate room 0) ≡ store_call room list
  unfolding store_call
  store_refused room z = by n refl
    where
      by : (m : ℕ) → n ≡ m → record { number = n; count = 0; out = replicate room 0 } ≡ store_call room list
      by zero q = absurd (z q)
      by (suc m) q = rw q (sym (writing_refused room (encode 2 (map lengthened there)) (store_questions there) m (decided ∙ q)))

-- ---- restore

module _ (stored : List ℕ) (n : ℕ) (is : n ≡ refusal_of false (records 2 stored)) where
  pub restore_ready : (n ≢ 10) → WriteRecordsReady stored 2
  restore_ready z = ready false 2 stored n (inl refl) is z

  abbrev back : List Record
  back = records 2 stored

  well_or_not : All Byte stored → (n ≡ 0) ⊎ ((n ≡ 10) × (well_formed (body_sizes false) back ≡ false))
  well_or_not a = cases (well_formed (body_sizes false) back)
      (λ f. inl (is ∙ rw (f, stored_short a f) refl))
      (λ f. inr (is ∙ rw f refl, f))

  pub restore_refused : All Byte stored → (room : ℕ) → (n ≢ 0) → written (record { number = n; count = 0 }) (replicate room 0) ≡ restore_call room stored
  unfolding restore_call
  restore_refused a room z = ⊎_elim
      (λ (p : n ≡ 0). absurd (z p))
      (λ (p : (n ≡ 10) × (well_formed (body_sizes false) back ≡ false)). rw p.0 (sym (writing_refused room (encode 4 back) (restore_questions back) 9 (decide_no (ask 10 (well_formed (body_sizes false) back)) [] p.1))))
      (well_or_not a)

  pub restore_written : (room : ℕ) (w : Written) → (n ≢ 10) → w ≡ in_room (encode 4 (map lengthened back)) room → w ≡ restore_call room stored
  unfolding restore_call
  restore_written room w z e =
      let f = well false back n is z in
      e ∙ ap (λ (rs : List Record). in_room (encode 4 rs) room) (same_lengthened (all_formed false back f)) ∙ sym (writing_accepted room (encode 4 back) (restore_questions back) tt (decide_yes (ask 10 (well_formed (body_sizes false) back)) [] f ∙ decide_nil))
