-- The ends of the functions that go from segment to segment.
use mathlib.Core.Path.{◌≡◌, refl, sym, ap, ◌∙◌}
use Prim.Native.Nat.{ℕ, suc, ◌+◌, ◌-◌, ◌≤◌, ◌<◌}
use native.Mathlib.Numerals.{add-one}
use native.Mathlib.Omega.{arith}
use mathlib.Core.Bool.{Bool, true, false, ◌||◌, or-true}
use mathlib.Core.List.{List, [], ◌∷◌, ◌++◌, map, append_assoc, append-nil}
use mathlib.Core.Option.{none, some}
use lib.ListN.{length-take, length, take, drop, get_or, drop_of_length-le}
use lib.Seq.{drop-cons, take_all, length-take-le}
use lib.Dec.{T, leb, ltb, leb→le, ltb→lt, nltb→le}
use borrow.Author.Tests.{le-leb, leb-true, leb-false}
use Rattle.text.specs.Tests.{cases, and_T, or_T, or_false, true_T, is_true}
use Rattle.text.specs.Class.{Profile}
use Rattle.spans.specs.Search.{trimmed, escapes, searched_length, in_order, offset_from, read_part, read_matches, read}
use Rattle.spans.specs.Spans.{Span, spans_at, spans, Record, record_of, records}
use Rattle.spans.specs.Spans.Laws.{map_append, no_spans}
use Rattle.std.specs.Prelude.{min, Some}
use Rattle.spans.specs.Reader.{is_match, records_from, match_in, NextSpanReady, SpanStep}
use Rattle.spans.specs.Search.Contracts.{OffsetsFrom, FirstOffsets, OffsetReady, OffsetAt}
use Rattle.spans.specs.Segments.{spent, without_newline, pending, behind_segment, remaining, order_from, segments_left, Sound, OutsideReady, OutsideBegun, InsideReady, AdvanceReady, Advanced, BeginReady, IsReady, records_left}
use Rattle.spans.specs.declared.search.Offset.{Offset}
use Rattle.spans.specs.declared.search.Offsets.{Offsets}
use Rattle.spans.specs.declared.reader.Matched.{Matched}
use Rattle.spans.specs.declared.reader.Matched.TheVariants.{Before, Match}
use Rattle.spans.specs.declared.reader.NextSpan.{NextSpan}
use Rattle.spans.specs.declared.segments.Cursor.{Cursor}
use Rattle.spans.specs.declared.segments.Records.{Records}
use Rattle.text.specs.Class.Code.{profile_of}
use Rattle.std.specs.Iterator.{MakesProgress, item_count}
use Rattle.spans.proofs.Sequences.{part_slice}
use Rattle.spans.proofs.Searching.{trimmed_fits}

-- ---- records of parts

records_append : (a b : List Span) → records (a ++ b) ≡ records a ++ records b
unfolding records
records_append a b = map_append record_of a b

-- the records of a segment are those of the part that is read by itself
part_records : (P : Profile) (m : Matched) (line : List ℕ) (at end : ℕ) → records_from P m (take end line) at ≡ records (read_part P (match_in m) at end line)
unfolding records_from read_part
part_records P m line at end = ap (λ (l : List ℕ). records (spans_at P (match_in m) at l)) (sym (part_slice line at end))

-- a segment with no bytes left has no records
no_records : (P : Profile) (m : Matched) (t : List ℕ) (at : ℕ) → length t ≤ at → records_from P m t at ≡ []
unfolding records_from records
no_records P m t at h = ap (λ (l : List ℕ). map record_of (spans_at P (match_in m) at l)) (drop_of_length-le t h) ∙ ap (map record_of) (no_spans P (match_in m) at)

-- ---- offsets

weaken : (s : List ℕ) (last x : ℕ) (o : Offsets) → OffsetsFrom s last o → last ≤ x → OffsetsFrom s x o
weaken s last x o z h = record { same = λ y k. z.same y (omega arith); passed = omega (arith, z.passed); inside = z.inside; lies = z.lies; next = z.next }

most_fits : (line : List ℕ) → searched_length line ≤ length line
unfolding searched_length
most_fits line = omega (arith, trimmed_fits line)

-- a pair in order
record Pair (most last x : ℕ) (rest : List ℕ) : Type 0 where
  b : ℕ
  ms : List ℕ
  is : rest ≡ b ∷ ms
  low : last ≤ x
  ordered : x ≤ b
  high : b ≤ most
  order : in_order most b ms ≡ true

pair_of : (most last x : ℕ) (rest : List ℕ) → in_order most last (x ∷ rest) ≡ true → Pair most last x rest
unfolding in_order
pair_of most last x [] e = absurd (true_T e)
pair_of most last x (b ∷ ms) e =
    let t = and_T (leb last x) _ (true_T e) in
    let u = and_T (leb x b) _ t.1 in
    let v = and_T (leb b most) _ u.1 in
    record { b = b; ms = ms; is = refl; low = leb→le _ _ t.0; ordered = leb→le _ _ u.0; high = leb→le _ _ v.0; order = is_true _ v.1 }

-- the second of a pair in order
record Second (most last b : ℕ) (ms : List ℕ) : Type 0 where
  low : last ≤ b
  high : b ≤ most
  order : in_order most b ms ≡ true

second_of : (most last b : ℕ) (ms : List ℕ) → order_from false most last (b ∷ ms) ≡ true → Second most last b ms
unfolding order_from
second_of most last b ms e =
    let t = and_T (leb last b) _ (true_T e) in
    let u = and_T (leb b most) _ t.1 in
    record { low = leb→le _ _ t.0; high = leb→le _ _ u.0; order = is_true _ u.1 }

-- the part of the line that offsets lead into
small_part : (line : List ℕ) → length (without_newline line) ≤ length line
small_part line = omega (arith, length-take (trimmed line) line, trimmed_fits line)

offset_ready : (line t : List ℕ) (last x : ℕ) (o : Offsets) → length line ≤ 65536 → t ≡ without_newline line → OffsetsFrom (without_newline line) last o → last ≤ x → x ≤ searched_length line → OffsetReady t o x
offset_ready line t last x o h e z l k =
    record { from = rw e (weaken (without_newline line) last x o z l); small = rw e (omega (arith, small_part line)); near = omega (arith, most_fits line) }

offset_is : (line t : List ℕ) (x : ℕ) (b : Offsets) (o : Offset) → t ≡ without_newline line → OffsetAt t b x o → o.value ≡ offset_from 0 x (escapes line)
unfolding escapes
offset_is line t x b o e z = rw e at z.same

-- ---- `outside`

module _ (line matches : List ℕ) (start number index : ℕ) (a : Offsets) (z : OutsideReady line matches number index a) where
  module _ (h : index < length matches) where
    next_is : drop index matches ≡ get_or matches index 0 ∷ drop (index + 1) matches
    next_is = drop-cons matches index 0 h ∙ ap (λ (i : ℕ). get_or matches index 0 ∷ drop i matches) (sym (add-one index))

    pair : Pair (searched_length line) z.last (get_or matches index 0) (drop (index + 1) matches)
    pair = pair_of (searched_length line) z.last (get_or matches index 0) (drop (index + 1) matches) (rw next_is at z.order)

    pub open_ready : (t : List ℕ) → t ≡ without_newline line → OffsetReady t a (get_or matches index 0)
    open_ready t e = offset_ready line t z.last (get_or matches index 0) a z.small e z.from pair.low (omega (arith, pair.ordered, pair.high))

    pub open_pending : (t : List ℕ) (o : Offset) → t ≡ without_newline line → OffsetAt t a (get_or matches index 0) o
        → OutsideBegun line matches start number index (record { place = record { at = start; run = 0 }; end = o.value; matched = Before number; index = index + 1; offsets = o.offsets })
    unfolding remaining behind_segment pending read_matches match_in order_from segments_left
    open_pending t o e k =
        let x : ℕ = get_or matches index 0 in
        let p = pair in
        let v : o.value ≡ offset_from 0 x (escapes line) = offset_is line t x a o e k in
        record {
          same = λ P.
              let upto : ℕ = offset_from 0 p.b (escapes line) in
              let A : List Span = read_part P none start o.value line in
              let B : List Span = read_part P (some number) o.value upto line in
              let C : List Span = read_matches P (escapes line) upto (suc number) p.ms line in
              rw p.is (ap (λ (l : List Record). l ++ records (B ++ C)) (part_records P (Before number) line start o.value)
              ∙ sym (records_append A (B ++ C)) ∙ ap records (sym (append_assoc A B C))
              ∙ rw (next_is, p.is) (ap (λ (y : ℕ). records (read_part P none start y line ++ read_part P (some number) y upto line ++ C)) v));
          sound = record {
            small = z.small;
            last = x;
            from = rw e at k.from;
            order = rw p.is (rw (le-leb x p.b p.ordered, le-leb p.b (searched_length line) p.high) p.order);
            index = omega arith;
            few = omega (arith, z.few);
            fresh = λ w. absurd (omega arith);
          };
          falls = omega arith;
        }

  pub open_last : length matches ≤ index
      → OutsideBegun line matches start number index (record { place = record { at = start; run = 0 }; end = length line; matched = Before number; index = index; offsets = a })
  unfolding remaining behind_segment pending read_matches match_in order_from segments_left records
  open_last h =
      let d : drop index matches ≡ [] = drop_of_length-le matches h in
      record {
        same = λ P. rw d (append-nil (records_from P (Before number) (take (length line) line) start) ∙ part_records P (Before number) line start (length line));
        sound = record { small = z.small; last = z.last; from = z.from; order = rw d; index = z.within; few = omega (arith, z.few); fresh = λ w. absurd (omega arith) };
        falls = omega arith;
      }

-- ---- `inside`

module _ (line matches : List ℕ) (number : ℕ) (c : Cursor) (z : InsideReady line matches number c) where
  end_is : drop c.index matches ≡ get_or matches c.index 0 ∷ drop (c.index + 1) matches
  end_is = drop-cons matches c.index 0 z.some ∙ ap (λ (i : ℕ). get_or matches c.index 0 ∷ drop i matches) (sym (add-one c.index))

  second : Second (searched_length line) z.sound.last (get_or matches c.index 0) (drop (c.index + 1) matches)
  second = second_of (searched_length line) z.sound.last (get_or matches c.index 0) (drop (c.index + 1) matches) (rw (z.outside, end_is) at z.sound.order)

  pub close_ready : (t : List ℕ) → t ≡ without_newline line → OffsetReady t c.offsets (get_or matches c.index 0)
  close_ready t e = offset_ready line t z.sound.last (get_or matches c.index 0) c.offsets z.sound.small e z.sound.from second.low second.high

  pub close_pending : (t : List ℕ) (o : Offset) → t ≡ without_newline line → OffsetAt t c.offsets (get_or matches c.index 0) o
      → Advanced line matches c (record { place = record { at = c.end; run = 0 }; end = o.value; matched = Match number; index = c.index + 1; offsets = o.offsets })
  unfolding remaining behind_segment pending match_in order_from segments_left
  close_pending t o e k =
      let x : ℕ = get_or matches c.index 0 in
      let m : Matched = Match number in
      let v : o.value ≡ offset_from 0 x (escapes line) = offset_is line t x c.offsets o e k in
      record {
        same = λ P.
            let C : List Span = read_matches P (escapes line) o.value (suc number) (drop (c.index + 1) matches) line in
            ap (λ (l : List Record). l ++ records C) (part_records P m line c.end o.value)
            ∙ sym (records_append (read_part P (some number) c.end o.value line) C)
            ∙ rw (z.outside, end_is) (ap (λ (y : ℕ). records (read_part P (some number) c.end y line ++ read_matches P (escapes line) y (suc number) (drop (c.index + 1) matches) line)) v);
        sound = record {
          small = z.sound.small;
          last = x;
          from = rw e at k.from;
          order = second.order;
          index = omega (arith, z.some);
          few = let f : number + 0 ≤ c.index = rw z.outside at z.sound.few in omega arith;
          fresh = λ w. absurd (omega arith);
        };
        falls = rw z.outside (omega (arith, z.some));
      }

-- ---- `advance`

module _ (line matches : List ℕ) (c : Cursor) (z : AdvanceReady line matches c) (number : ℕ) where
  module _ (e : c.matched ≡ Match number) where
    pub going_inside : OutsideReady line matches (number + 1) c.index c.offsets
    unfolding order_from
    going_inside =
        let s = z.sound in
        let f : number + 1 ≤ c.index = rw e at s.few in
        record { small = s.small; last = s.last; from = s.from; order = rw e at s.order; within = s.index; few = f }

    pub going_on : (r : Cursor) → OutsideBegun line matches c.end (number + 1) c.index r → Advanced line matches c r
    unfolding behind_segment segments_left
    going_on r o =
        record {
          same = λ P. rw e (o.same P ∙ ap (λ (n : ℕ). records (read_matches P (escapes line) c.end n (drop c.index matches) line)) (add-one number));
          sound = o.sound;
          falls = rw e (let f = o.falls in omega arith);
        }

  pub going_outside : c.matched ≡ Before number → InsideReady line matches number c
  going_outside e =
      let t = and_T (leb c.end c.place.at || leb (length line) c.place.at) _ (true_T z.spent) in
      let u : T (ltb c.index (length matches)) = rw e at t.1 in
      record { sound = z.sound; outside = e; some = ltb→lt _ _ u }

-- ---- `settle`

-- where the segment ends, with bytes left or not
pub segment_length : (line : List ℕ) (end : ℕ) → length (take end line) ≡ min end (length line)
segment_length line end = length-take end line

spent_none : (P : Profile) (line matches : List ℕ) (c : Cursor) → spent (length line) (length matches) c ≡ true
    → remaining P line matches c ≡ records (behind_segment P line c.matched c.end (drop c.index matches))
unfolding remaining
spent_none P line matches c e =
    let t = and_T (leb c.end c.place.at || leb (length line) c.place.at) _ (true_T e) in
    let k : length (take c.end line) ≤ c.place.at =
    rw (segment_length line c.end)
    (or_T (leb c.end c.place.at) _ t.0 (λ u. let a : c.end ≤ c.place.at = leb→le _ _ u in omega arith) (λ u. let a : length line ≤ c.place.at = leb→le _ _ u in omega arith)) in
    ap (λ (l : List Record). l ++ records (behind_segment P line c.matched c.end (drop c.index matches))) (no_records P c.matched (take c.end line) c.place.at k)

-- ---- the records one after the other

-- the reading went on, over segments with no bytes left
pub record SettleLoop (P : Profile) (line matches : List ℕ) (c d : Cursor) : Type 0 where
  pub same : remaining P line matches d ≡ remaining P line matches c
  pub sound : Sound line matches d

pub settle_begins : (P : Profile) (line matches : List ℕ) (c : Cursor) → Sound line matches c → SettleLoop P line matches c c
settle_begins P line matches c z = record { same = refl; sound = z }

module _ (P : Profile) (line matches : List ℕ) (c d : Cursor) (z : SettleLoop P line matches c d) where
  module _ (w : Bool) (e : w ≡ spent (length line) (length matches) d) (f : w ≡ true) where
    pub settle_more : (r : Cursor) → Advanced line matches d r → SettleLoop P line matches c r
    settle_more r m = record { same = m.same P ∙ sym (spent_none P line matches d (sym e ∙ f)) ∙ z.same; sound = m.sound }

  module _ (w : Bool) (q : w ≡ spent (length line) (length matches) d) (f : w ≡ false) (end : ℕ) (e : end ≡ min d.end (length line)) where
    -- after the last span nothing is left
    nothing_left : end ≤ d.place.at → remaining P line matches d ≡ []
    unfolding remaining behind_segment pending records
    nothing_left h =
        let k : length (take d.end line) ≤ d.place.at = rw (segment_length line d.end, ← e) h in
        let t : (leb d.end d.place.at || leb (length line) d.place.at) ≡ true =
        cases (leb d.end (length line))
        (λ f. rw (le-leb d.end d.place.at (omega (arith, leb-true d.end (length line) f))))
        (λ f. rw (le-leb (length line) d.place.at (omega (arith, leb-false d.end (length line) f)), or-true)) in
        let u : (is_match d.matched || ltb d.index (length matches)) ≡ false = rw t at (sym q ∙ f) in
        let v = or_false (is_match d.matched) (ltb d.index (length matches)) u in
        let w : drop d.index matches ≡ [] = drop_of_length-le matches {i = d.index} (nltb→le _ _ (rw v.1 tt)) in
        rw (no_records P d.matched (take d.end line) d.place.at k, v.0, w)

    pub none_left : end ≤ d.place.at → remaining P line matches c ≡ []
    none_left h = sym z.same ∙ nothing_left h

    end_fits : end ≤ length line
    end_fits = omega arith

    same_part : take end line ≡ take d.end line
    same_part =
        cases (leb d.end (length line))
        (λ g. let k : end ≡ d.end = omega (arith, leb-true d.end (length line) g) in rw k)
        (λ g. let k : end ≡ length line = omega (arith, leb-false d.end (length line) g) in rw k (take_all (length line) line (omega arith) ∙ sym (take_all d.end line (omega (arith, leb-false d.end (length line) g)))))

    pub span_ready : d.place.at < end → NextSpanReady (take end line) d.place
    span_ready h =
        let k : length (take end line) ≡ end = length-take-le end line end_fits in
        record { here = rw k h; small = rw k (omega (arith, end_fits, z.sound.small)); fresh = rw same_part z.sound.fresh }

    module _ (n : NextSpan) (m : SpanStep P (take end line) d.matched d.place.at n) where
      abbrev after : Cursor
      after = record { place = n.place; end = d.end; matched = d.matched; index = d.index; offsets = d.offsets }

      pub record_first : remaining P line matches c ≡ n.span ∷ remaining P line matches after
      unfolding remaining
      record_first = sym z.same ∙ ap (λ (l : List Record). l ++ records (behind_segment P line d.matched d.end (drop d.index matches))) (rw same_part at m.same)

      pub record_sound : Sound line matches after
      record_sound = record {
        small = z.sound.small;
        last = z.sound.last;
        from = z.sound.from;
        order = z.sound.order;
        index = z.sound.index;
        few = z.sound.few;
        fresh = rw same_part at m.fresh;
      }

-- a reading, over segments with no bytes left, has gone from a to b
pub record RecordsLoop (a b : Records) : Type 0 where
  pub settled : SettleLoop (profile_of b.profile) b.searched.line.now b.searched.matches.now a.cursor b.cursor
  pub profile : b.profile ≡ a.profile
  pub searched : b.searched ≡ a.searched

pub records_begin : (a : Records) → IsReady a → RecordsLoop a a
records_begin a z = record { settled = settle_begins (profile_of a.profile) a.searched.line.now a.searched.matches.now a.cursor z; profile = refl; searched = refl }

module _ (a b : Records) (z : RecordsLoop a b) (w : Bool) (e : w ≡ spent (length b.searched.line.now) (length b.searched.matches.now) b.cursor) where
  same_left : remaining (profile_of b.profile) b.searched.line.now b.searched.matches.now a.cursor ≡ records_left a
  same_left = rw (z.profile, z.searched) refl

  pub records_going : w ≡ true → AdvanceReady b.searched.line.now b.searched.matches.now b.cursor
  records_going f = record { sound = z.settled.sound; spent = sym e ∙ f }

  pub records_more : w ≡ true → (r : Cursor) → Advanced b.searched.line.now b.searched.matches.now b.cursor r → RecordsLoop a (record { profile = b.profile; searched = b.searched; cursor = r })
  records_more f r m = record { settled = settle_more (profile_of b.profile) b.searched.line.now b.searched.matches.now a.cursor b.cursor z.settled w e f r m; profile = z.profile; searched = z.searched }

  module _ (f : w ≡ false) (end : ℕ) (g : end ≡ min b.cursor.end (length b.searched.line.now)) where
    pub records_none : end ≤ b.cursor.place.at → (records_left a ≡ []) × (records_left b ≡ [])
    records_none h =
        let k = nothing_left (profile_of b.profile) b.searched.line.now b.searched.matches.now a.cursor b.cursor z.settled w e f end g h in
        (sym same_left ∙ sym z.settled.same ∙ k, k)

    pub records_ready : b.cursor.place.at < end → NextSpanReady (take end b.searched.line.now) b.cursor.place
    records_ready h = span_ready (profile_of b.profile) b.searched.line.now b.searched.matches.now a.cursor b.cursor z.settled w e f end g h

    module _ (n : NextSpan) (m : SpanStep (profile_of b.profile) (take end b.searched.line.now) b.cursor.matched b.cursor.place.at n) where
      abbrev then : Records
      then = record { profile = b.profile; searched = b.searched; cursor = record { place = n.place; end = b.cursor.end; matched = b.cursor.matched; index = b.cursor.index; offsets = b.cursor.offsets } }

      pub records_first : records_left a ≡ n.span ∷ records_left then
      records_first = sym same_left ∙ record_first (profile_of b.profile) b.searched.line.now b.searched.matches.now a.cursor b.cursor z.settled w e f end g n m

      pub records_goes : MakesProgress IsReady (item_count records_left) a (Some n.span) then
      records_goes =
          let r : IsReady then = record_sound (profile_of b.profile) b.searched.line.now b.searched.matches.now a.cursor b.cursor z.settled w e f end g n m in
          record { on = λ h. (r, tt, omega (arith, ap length records_first)); keeps = r; rests = λ h. tt }

-- ---- `begin`

module _ (line matches : List ℕ) (z : BeginReady line matches) (t : List ℕ) (e : t ≡ without_newline line) where
  pub begin_opens : (o : Offsets) → FirstOffsets t o → OutsideReady line matches 0 0 o
  begin_opens o w = record { small = z.small; last = 0; from = rw e at w.from; order = z.order; within = omega arith; few = omega arith }

whole_line : (P : Profile) (matches line : List ℕ) → read_matches P (escapes line) 0 0 matches line ≡ read P matches line
unfolding read_matches read_part read spans
whole_line P [] line = let k : length line - 0 ≡ length line = omega arith in ap (spans_at P none 0) (ap (λ (i : ℕ). take i line) k ∙ take_all (length line) line (omega arith))
whole_line P (m ∷ ms) line = refl

pub begin_done : (P : Profile) (line matches : List ℕ) (r : Cursor) → OutsideBegun line matches 0 0 0 r → remaining P line matches r ≡ records (read P matches line)
begin_done P line matches r o = o.same P ∙ ap records (whole_line P matches line)
