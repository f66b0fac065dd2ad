-- The next span of a segment, kind by kind.
use mathlib.Core.Path.{◌≡◌, refl, sym, ap, ap₂, ◌∙◌}
use Rattle.std.specs.Prelude.{Option, Some, None}
use Prim.Native.Nat.{ℕ, suc, ◌+◌, ◌-◌, ◌≤◌, ◌<◌}
use native.Mathlib.Nat.{add-zero}
use native.Mathlib.Numerals.{add-one}
use native.Mathlib.Omega.{arith}
use mathlib.Core.Bool.{Bool, true, false, true≢false, cond, ◌&&◌, ◌||◌}
use mathlib.Core.List.{List, [], ◌∷◌, map}
use mathlib.Core.Logic.{◌≢◌}
use lib.ListN.{length, take, drop, get_or}
use lib.Seq.{drop-cons, drop-drop, get_or-drop, get_or-take, slice, length-slice}
use borrow.Author.Tests.{eqb-true, ne_eqb}
use lib.Dec.{eqb, leb, eqb→eq}
use Rattle.text.specs.Tests.{cases, and_T, true_T}
use Rattle.text.specs.Utf8.{Scalar, decode, run_of, bytes_of}
use Rattle.text.specs.Class.{Profile}
use Rattle.text.specs.Cluster.{join_all}
use Rattle.text.specs.Cluster.Walk.{first_is, size_is, first_size_law, first_none, cluster_some, cluster_behind}
use Rattle.text.specs.Class.Code.{profile_of}
use Rattle.text.specs.Segmentation.{first_size, never_joins_before, NextCluster}
use Rattle.text.specs.Utf8.Code.Laws.{size_nil}
use Rattle.text.specs.Scalar.{scalar_here}
use Rattle.text.specs.Scalar.Laws.{packed_none, none_here}
use Rattle.text.specs.declared.segmentation.ClusterStep.{ClusterStep}
use Rattle.text.specs.TextParts.{text_at}
use Rattle.text.specs.declared.class.Profile as code
use Rattle.text.specs.declared.scalar.Scalar as scalar
use Rattle.spans.specs.Sequence as found
use Rattle.spans.specs.Sequence.{sgr, erase_to_end, ignored, hyperlink, line_drawing, Found, found, missing, parse}
use Rattle.spans.specs.Sequence.Laws.{parse_length, parse_last}
use Rattle.spans.specs.Spans.{Content, Span, span, ClusterKind, plain, special, cluster_kind, spans_at, text, control, invalid, unprintable, escape, tab, crlf, lf, Record, a_record, kind_of, match_of, record_of, records}
use Rattle.spans.specs.Spans.Kinds.{number_of_kind, content_kind_law}
use Rattle.spans.specs.Spans.FirstSpan.{extent, is_plain, plain_cluster, plain_same, plain_size, plain_text, skipped, step_text, step_special, step_invalid, NoText, kind_no_text}
use Rattle.spans.specs.Sequence.Contracts.{SequenceReady, sequence_of}
use Rattle.spans.specs.Reader.{c0_not_cr, clusters_at, run_at, HeadReady, InRun, SkipToReady, SkippedTo, escape_head, head_bytes, RunKnown, NextSpanReady, is_match, match_in, text_record, records_from, invalid_at, SpanStep, ControlSpanReady, EscapeSpanReady, MarkSpanReady, SpecialStep}
use Rattle.spans.specs.declared.sequence.Sequence as sequence
use Rattle.spans.specs.declared.reader.SpanHead.{SpanHead}
use Rattle.spans.specs.declared.reader.Place.{Place}
use Rattle.spans.specs.declared.reader.Matched.{Matched}
use Rattle.spans.specs.declared.reader.NextSpan.{NextSpan}
use Rattle.spans.proofs.ClusterBytes.{head_bytes_law, kind_head}
use Rattle.spans.proofs.PlainClusters.{control_end, control_size}
use Rattle.spans.proofs.Sequences.{part_slice}
use Rattle.spans.proofs.TextEnd.{ClustersLoop, clusters_begin, clusters_less, clusters_on, no_text}
use Rattle.spans.proofs.FirstClusters.{by_first, byte_here, byte_next, behind_size, behind_clusters, run_inside}
use Rattle.spans.proofs.SkippedClusters.{skip_none, behind_skipped}

-- ---- a cluster that is no part of a text

slice_byte : (t : List ℕ) (a b i : ℕ) → i < b - a → get_or (slice a b t) i 0 ≡ get_or t (a + i) 0
slice_byte t a b i h = ap (λ (l : List ℕ). get_or l i 0) (sym (part_slice t a b)) ∙ get_or-take (b - a) (drop a t) i 0 h ∙ get_or-drop a t i 0

-- what holds of 1, and of the length of what is found
escape_len : (Q : ℕ → Type 0) (f : Found) → Q 1 → ((q : found.Sequence) (n : ℕ) → f ≡ found q n → Q n) → Q (escape_head (sequence_of f)).len
unfolding escape_head sequence_of
escape_len Q missing h k = h
escape_len Q (found (sgr os) n) h k = k (sgr os) n refl
escape_len Q (found erase_to_end n) h k = k erase_to_end n refl
escape_len Q (found ignored n) h k = k ignored n refl
escape_len Q (found (hyperlink a b) n) h k = k (hyperlink a b) n refl
escape_len Q (found (line_drawing b) n) h k = k (line_drawing b) n refl

cond_len : (b : Bool) (x y : SpanHead) (m : ℕ) → (b ≡ true → x.len ≤ m) → (b ≡ false → y.len ≤ m) → (cond b x y).len ≤ m
cond_len true x y m f g = f refl
cond_len false x y m f g = g refl

head_fits : (n a y : ℕ) (s : List ℕ) (m : ℕ) → 1 ≤ m → n ≤ m → 1 + length s ≤ m → (head_bytes n a y (parse s)).len ≤ m
unfolding head_bytes
head_fits n a y s m h k l =
    cond_len (eqb n 1) _ _ m
    (λ e. cond_len (eqb a 0x1B) _ _ m (λ f. escape_len (λ (n : ℕ). n ≤ m) (parse s) h (λ q i r. omega (arith, parse_length s q i r)))
    (λ f. cond_len (eqb a 0x0A) _ _ m (λ g. h) (λ g. cond_len (eqb a 0x09) _ _ m (λ p. h) (λ p. cond_len (leb a 0x1F || eqb a 0x7F) _ _ m (λ q. h) (λ q. h)))))
    (λ e. cond_len (eqb n 2 && (eqb a 0x0D && eqb y 0x0A)) _ _ m (λ f. omega (arith, eqb→eq n 2 (and_T (eqb n 2) _ (true_T f)).0)) (λ f. k))

head_any : (n a y : ℕ) (f f' : Found) → eqb n 1 ≡ false → head_bytes n a y f ≡ head_bytes n a y f'
unfolding head_bytes
head_any n a y f f' e = rw e

-- what a cluster that is not plain gives: a span that is no text
record Found_special (w : ClusterKind) (l : SpanHead) : Type 0 where
  content : Content
  is : w ≡ special content l.len
  kind : kind_of content ≡ number_of_kind l.kind
  unmatched : match_of content ≡ 0

no_match : (c : Content) (k : ℕ) → NoText (special c k) → match_of c ≡ 0
unfolding match_of NoText
no_match (text m t) k h = absurd h
no_match (control b) k h = refl
no_match (invalid b) k h = refl
no_match (unprintable t) k h = refl
no_match (escape e) k h = refl
no_match tab k h = refl
no_match crlf k h = refl
no_match lf k h = refl

special_is : (w : ClusterKind) (l : SpanHead) → is_plain w ≡ false → kind_head w ≡ l → NoText w → Found_special w l
unfolding is_plain kind_head
special_is plain l e f h = absurd (let z : ◌≡◌ {A = ℕ} 0 1 = cc in omega arith)
special_is (special c k) l e f h = record { content = c; is = ap (λ (x : SpanHead). special c x.len) f; kind = content_kind_law c ∙ ap (λ (x : SpanHead). number_of_kind x.kind) f; unmatched = no_match c k h }

-- the cluster from `at` to `end` is no part of a text
module _ (P : Profile) (t : List ℕ) (at end : ℕ) (z : plain_size P (clusters_at P (drop at t)) ≡ 0) (f : end ≡ at + first_size P (run_of (decode (drop at t)))) (h : at < end) where
  record Here : Type 0 where
    g : List Scalar
    gs : List (List Scalar)
    is : clusters_at P (drop at t) ≡ g ∷ gs
    special : plain_cluster P g ≡ false
    ends : end ≡ at + extent g
    run : run_at t end ≡ run_at t at

  here_is : Here
  unfolding plain_size
  here_is =
      by_first (clusters_at P (drop at t))
      (λ e. absurd (omega (arith, first_none P (run_of (decode (drop at t))) e)))
      (λ g gs e.
      let k : end ≡ at + extent g = rw (first_size_law P (run_of (decode (drop at t))) g gs e) at f in
      record {
        g = g;
        gs = gs;
        is = e;
        special = cases (plain_cluster P g) (λ b. absurd (let n : extent g + plain_size P gs ≡ 0 = rw (e, b) at z in omega (arith, cluster_some P (drop at t) g gs e))) (λ b. b);
        ends = k;
        run = rw k (omega (arith, behind_size P t at g gs e));
      })

  -- the run's end, and the cluster's before it
  run_room : (end ≤ run_at t at) × (run_at t at ≤ length t)
  run_room =
      let w = here_is in
      (omega (arith, w.run), omega (arith, w.run, run_inside t at, h))

  module _ (l : SpanHead) (q : l ≡ head_bytes (end - at) (get_or t at 0) (get_or t (at + 1) 0) (parse (slice (at + 1) (run_at t at) t))) where
    -- what stands at an ESC is what stands behind it in the run
    kind_is : kind_head (cluster_kind P here_is.g (bytes_of (join_all here_is.gs))) ≡ l
    kind_is =
        let w = here_is in
        let run : ℕ = run_at t at in
        let n : end - at ≡ extent w.g = omega (arith, w.ends) in
        let b : bytes_of (join_all w.gs) ≡ slice (at + extent w.g) run t =
        cluster_behind P (drop at t) w.g w.gs w.is (run - (at + extent w.g)) (omega (arith, size_is (run_of (decode (drop at t)))))
        ∙ ap (take (run - (at + extent w.g))) (drop-drop (extent w.g) at t) ∙ part_slice t (at + extent w.g) run in
        let k : kind_head (cluster_kind P w.g (bytes_of (join_all w.gs))) ≡ head_bytes (extent w.g) (get_or t at 0) (get_or t (at + 1) 0) (parse (bytes_of (join_all w.gs))) =
        rw (← byte_here P t at, ← byte_next P t at) (head_bytes_law P (drop at t) w.g w.gs w.is (bytes_of (join_all w.gs)) w.special) in
        k ∙ cases (eqb (extent w.g) 1)
        (λ e. ap (λ (x : List ℕ). head_bytes (extent w.g) (get_or t at 0) (get_or t (at + 1) 0) (parse x)) (b ∙ ap (λ (i : ℕ). slice (at + i) run t) (eqb-true (extent w.g) 1 e)) ∙ rw (← n) (sym q))
        (λ e. head_any (extent w.g) (get_or t at 0) (get_or t (at + 1) 0) (parse (bytes_of (join_all w.gs))) (parse (slice (at + 1) run t)) e ∙ rw (← n) (sym q))

    special_step : (next run : ℕ) (r : Record) → SkippedTo P t end (at + l.len) next → r ≡ a_record (number_of_kind l.kind) at l.len 0 → RunKnown t (record { at = next; run = run })
        → SpecialStep P t at (record { span = r; place = record { at = next; run = run } })
    unfolding records_from records record_of
    special_step next run r s e u m =
        let w = here_is in
        let b : List ℕ = bytes_of (join_all w.gs) in
        let y = special_is (cluster_kind P w.g b) l (plain_same P w.g b ∙ w.special) kind_is (kind_no_text P w.g b) in
        let n : ℕ = extent w.g + skipped P (l.len - extent w.g) w.gs in
        let k : next ≡ at + n = s.same ∙ behind_skipped P t at w.g w.gs w.is end l.len w.ends in
        let d : drop n (drop at t) ≡ drop next t = drop-drop n at t ∙ ap (λ (i : ℕ). drop i t) (sym k) in
        record {
          same = ap (map record_of) (step_special P (match_in m) at (drop at t) w.g w.gs y.content l.len w.is y.is)
              ∙ ap₂ (λ (x : Record) (a : List Span). x ∷ map record_of a) (rw (e, y.kind, y.unmatched) refl) (ap₂ (λ (i : ℕ) (a : List ℕ). spans_at P (match_in m) i a) (sym k) d);
          fresh = u;
          up = omega (arith, k, w.ends);
          low = omega (arith, s.run, w.run, run_room.1);
        }

-- ---- `escape_span`

module _ (t : List ℕ) (c : Place) (z : EscapeSpanReady t c) where
  escape_c0 : c0_not_cr (get_or t c.at 0) ≡ true
  escape_c0 = rw z.escape

  escape_size : (p : code.Profile) → plain_size (profile_of p) (clusters_at (profile_of p) (drop c.at t)) ≡ 0
  escape_size p = control_size p t c.at z.ready.here escape_c0

  escape_end : (p : code.Profile) → c.at + 1 ≡ c.at + first_size (profile_of p) (run_of (decode (drop c.at t)))
  escape_end p = control_end p t c.at z.ready.here escape_c0

  escape_room : (run_at t (c.at + 1) ≡ run_at t c.at) × ((c.at + 1 ≤ run_at t c.at) × (run_at t c.at ≤ length t))
  escape_room =
      let p : code.Profile = record { version = 0 } in
      ((here_is (profile_of p) t c.at (c.at + 1) (escape_size p) (escape_end p) (omega arith)).run, run_room (profile_of p) t c.at (c.at + 1) (escape_size p) (escape_end p) (omega arith))

  module _ (run : ℕ) (f : run ≡ run_at t c.at) where
    pub escape_within : SequenceReady t c.at run
    escape_within = let r = escape_room in record { first = omega (arith, r.1.0); last = omega (arith, r.1.1); small = z.ready.small }

    module _ (o : Option sequence.Sequence) (g : o ≡ sequence_of (parse (slice (c.at + 1) run t))) (l : SpanHead) (e : l ≡ escape_head o) where
      escape_head_is : l ≡ head_bytes (c.at + 1 - c.at) (get_or t c.at 0) (get_or t (c.at + 1) 0) (parse (slice (c.at + 1) (run_at t c.at) t))
      unfolding head_bytes
      escape_head_is = let n : c.at + 1 - c.at ≡ 1 = omega arith in rw (n, z.escape, ← f) (e ∙ ap escape_head g)

      escape_length : l.len ≤ run - c.at
      escape_length =
          let w = escape_within in
          rw (e, g) (escape_len (λ (n : ℕ). n ≤ run - c.at) (parse (slice (c.at + 1) run t)) (omega (arith, w.first))
          (λ q i u. omega (arith, parse_length (slice (c.at + 1) run t) q i u, length-slice (c.at + 1) run t w.last, w.first)))

      pub escape_fit : c.at + l.len ≤ length t
      escape_fit = omega (arith, escape_length, escape_within.first, escape_within.last)

      escape_ahead : InRun t (c.at + 1) (c.at + l.len)
      escape_ahead = omega (arith, escape_room.0, escape_length, escape_within.first)

      abbrev Begins : ℕ → Type 0
      Begins n = c.at + 1 < c.at + n → never_joins_before (get_or t (c.at + n - 1) 0) ≡ true

      escape_begins : Begins l.len
      escape_begins =
          rw (e, g) (escape_len Begins (parse (slice (c.at + 1) run t)) (λ h. absurd (omega arith))
          (λ q n u h.
          let w = escape_within in
          let k : c.at + 1 + (n - 2) ≡ c.at + n - 1 = omega arith in
          let i : n - 2 < run - (c.at + 1) = omega (arith, parse_length (slice (c.at + 1) run t) q n u, length-slice (c.at + 1) run t w.last) in
          rw (slice_byte t (c.at + 1) run (n - 2) i, k) at (parse_last (slice (c.at + 1) run t) q n u)))

      pub escape_ready : SkipToReady t (c.at + 1) (c.at + l.len)
      escape_ready = record { ahead = escape_ahead; begins = escape_begins }

      pub escape_step : (p : code.Profile) (next : ℕ) (r : Record) → SkippedTo (profile_of p) t (c.at + 1) (c.at + l.len) next → r ≡ a_record (number_of_kind l.kind) c.at l.len 0
          → SpecialStep (profile_of p) t c.at (record { span = r; place = record { at = next; run = run } })
      escape_step p next r s q =
          special_step (profile_of p) t c.at (c.at + 1) (escape_size p) (escape_end p) (omega arith) l escape_head_is next run r s q (λ h. f ∙ sym (s.run ∙ escape_room.0))

-- ---- `mark_span`

-- the run's end that is known at a place is that of a place behind it in the run
fresh_on : (t : List ℕ) (c : Place) (next : ℕ) → NextSpanReady t c → c.at ≤ next → run_at t next ≡ run_at t c.at → RunKnown t (record { at = next; run = c.run })
fresh_on t c next z h e k = z.fresh (omega arith) ∙ sym e

head_other : (n a b : ℕ) (f : Found) → a ≢ 0x1B → head_bytes n a b missing ≡ head_bytes n a b f
unfolding head_bytes
head_other n a b f h = rw (ne_eqb a 0x1B h)

head_whole : (n a b : ℕ) → 1 ≤ n → (head_bytes n a b missing).len ≤ n
unfolding parse
head_whole n a b h = head_fits n a b [] n h (omega arith) (omega arith)

module _ (P : Profile) (t : List ℕ) (c : Place) (end : ℕ) (z : MarkSpanReady P t c end) where
  pub mark_part_law : HeadReady t c.at end
  mark_part_law = record { here = z.ready.here; ordered = omega (arith, z.some); inside = let r = run_room P t c.at end z.special z.ends z.some in omega (arith, r.0, r.1) }

  pub mark_step : (l : SpanHead) (r : Record) → l ≡ head_bytes (end - c.at) (get_or t c.at 0) (get_or t (c.at + 1) 0) missing → r ≡ a_record (number_of_kind l.kind) c.at l.len 0
      → SpecialStep P t c.at (record { span = r; place = record { at = end; run = c.run } })
  mark_step l r e q =
      let n : c.at + l.len - end ≡ 0 = rw e (omega (arith, head_whole (end - c.at) (get_or t c.at 0) (get_or t (c.at + 1) 0) (omega (arith, z.some)))) in
      let s : SkippedTo P t end (c.at + l.len) end = record { same = rw (skip_none P (c.at + l.len - end) (clusters_at P (drop end t)) n) (omega arith); run = refl } in
      special_step P t c.at end z.special z.ends z.some l
      (e ∙ head_other (end - c.at) (get_or t c.at 0) (get_or t (c.at + 1) 0) (parse (slice (c.at + 1) (run_at t c.at) t)) z.other)
      end c.run r s q (fresh_on t c end z.ready (omega (arith, z.some)) (here_is P t c.at end z.special z.ends z.some).run)

-- ---- `control_span`

module _ (p : code.Profile) (t : List ℕ) (c : Place) (z : ControlSpanReady t c) (a : ℕ) (e : a ≡ get_or t c.at 0) where
  pub control_escape : a ≡ 0x1B → EscapeSpanReady t c
  control_escape h = record { ready = z.ready; escape = sym e ∙ h }

  pub control_mark : (a ≡ 0x1B → ⊥) → MarkSpanReady (profile_of p) t c (c.at + 1)
  control_mark h =
      record {
        ready = z.ready;
        special = control_size p t c.at z.ready.here z.control;
        ends = control_end p t c.at z.ready.here z.control;
        some = omega arith;
        other = λ q. h (e ∙ q);
      }

-- ---- `next_span`

pub run_known : (t : List ℕ) (c : Place) → NextSpanReady t c → c.at < c.run → c.run ≡ run_at t c.at
run_known t c z h = z.fresh h

-- behind the plain clusters in front the run's end stays where it is
text_run : (P : Profile) (gs : List (List Scalar)) → (t : List ℕ) (at : ℕ) → clusters_at P (drop at t) ≡ gs → run_at t (at + plain_size P gs) ≡ run_at t at
unfolding plain_size
text_run P [] = λ t at e. ap (run_at t) (add-zero at)
text_run P (g ∷ gs) = λ t at e.
    cases (plain_cluster P g)
    (λ b.
    let q : at + (extent g + plain_size P gs) ≡ at + extent g + plain_size P gs = omega arith in
    let w = text_run P gs t (at + extent g) (behind_clusters P t at g gs e) in
    rw b (ap (run_at t) q ∙ w ∙ omega (arith, behind_size P t at g gs e)))
    (λ b. rw b (ap (run_at t) (add-zero at)))

text_record_law : (m : Matched) (at n : ℕ) (s : List Scalar) → record_of (span at n (text (match_in m) s)) ≡ text_record m at n
unfolding record_of kind_of match_of match_in text_record
text_record_law m at n s = cases (is_match m) (λ b. rw b) (λ b. rw b)

pub control_ready : (t : List ℕ) (c : Place) (a : ℕ) (x : Bool) → NextSpanReady t c → a ≡ get_or t c.at 0 → x ≡ c0_not_cr a → x ≡ true → ControlSpanReady t c
control_ready t c a x z e f q = record { ready = z; control = rw e at (sym f ∙ q) }

module _ (P : Profile) (t : List ℕ) (c : Place) (z : NextSpanReady t c) where
  module _ (u : Option scalar.Scalar) (f : u ≡ scalar_here P t c.at) where
    pub invalid_step : (m : Matched) (r : NextSpan) → u ≡ None → r ≡ invalid_at c → SpanStep P t m c.at r
    unfolding records_from records record_of kind_of match_of
    invalid_step m r h e =
        let at : ℕ = c.at in
        let n : run_of (decode (drop at t)) ≡ [] = packed_none P t at 0 (sym (none_here P t at u f h)) refl in
        let d : drop at t ≡ get_or t at 0 ∷ drop (suc at) t = drop-cons t at 0 z.here in
        let v : c.at < c.run → c.run ≡ c.at = λ k. z.fresh k ∙ rw (n, size_nil) (add-zero at) in
        rw e (record {
          same = ap (λ (l : List ℕ). map record_of (spans_at P (match_in m) at l)) d ∙ ap (map record_of) (step_invalid P (match_in m) at (get_or t at 0) (drop (suc at) t) (rw d at n))
              ∙ ap (λ (i : ℕ). a_record 4 at 1 0 ∷ map record_of (spans_at P (match_in m) i (drop i t))) (sym (add-one at));
          fresh = λ k. absurd (omega (arith, v (omega arith)));
          up = omega arith;
          low = omega (arith, z.here);
        })

  module _ (end : ℕ) (g : end ≡ c.at + plain_size P (clusters_at P (drop c.at t))) where
    text_step : (m : Matched) (r : Record) → c.at < end → r ≡ text_record m c.at (end - c.at) → SpanStep P t m c.at (record { span = r; place = record { at = end; run = c.run } })
    unfolding records_from records plain_size
    text_step m r h e =
        let at : ℕ = c.at in
        let gs : List (List Scalar) = clusters_at P (drop at t) in
        let k : end - at ≡ plain_size P gs = omega arith in
        let d : drop (plain_size P gs) (drop at t) ≡ drop end t = drop-drop (plain_size P gs) at t ∙ ap (λ (i : ℕ). drop i t) (sym g) in
        let w : run_at t end ≡ run_at t at = ap (run_at t) g ∙ text_run P gs t at refl in
        by_first gs
        (λ q. absurd (omega (arith, ap (plain_size P) q)))
        (λ x xs q.
        let b : plain_cluster P x ≡ true = cases (plain_cluster P x) (λ y. y) (λ y. absurd (let v : plain_size P gs ≡ 0 = rw (q, y) in omega arith)) in
        record {
          same = ap (map record_of) (step_text P (match_in m) at (drop at t) x xs q b)
              ∙ ap₂ (λ (y : Record) (a : List Span). y ∷ map record_of a) (text_record_law m at (plain_size P gs) (plain_text P gs) ∙ rw (← k) (sym e)) (ap₂ (λ (i : ℕ) (a : List ℕ). spans_at P (match_in m) i a) (sym g) d);
          fresh = fresh_on t c end z (omega arith) w;
          up = h;
          low = omega (arith, w, run_inside t at, z.here);
        })

  pub special_done : (m : Matched) (r : NextSpan) → SpecialStep P t c.at r → SpanStep P t m c.at r
  special_done m r h = h m

-- the first cluster: a mark where it has no width, else the beginning of a text
module _ (v : code.Profile) (t : List ℕ) (c : Place) (z : NextSpanReady t c) (w : scalar.Scalar) (f : Some w ≡ scalar_here (profile_of v) t c.at) (r : ClusterStep) (n : NextCluster (profile_of v) t c.at r) where
  begin : ClustersLoop (profile_of v) t c.at c.at (Some w)
  begin = clusters_begin (profile_of v) t c.at (Some w) z.here f

  first_up : c.at < r.part.end.0
  first_up = omega (arith, clusters_less v t c.at c.at (Some w) begin w refl r n, n.part.inside)

  pub mark_ready : (x : Bool) (a : ℕ) → a ≡ get_or t c.at 0 → x ≡ c0_not_cr a → x ≡ false → r.part.width.0 ≡ 0 → MarkSpanReady (profile_of v) t c r.part.end.0
  mark_ready x a b q k e = record {
    ready = z;
    special = no_text v t c.at c.at (Some w) begin w refl r n e;
    ends = n.part.end ∙ ap (λ (k : ℕ). c.at + k) (sym (first_is (profile_of v) (text_at t c.at)));
    some = first_up;
    other = λ y. let j : a ≡ 0x1B = b ∙ y in let o : true ≡ false = rw j at (sym q ∙ k) in absurd (true≢false o);
  }

  module _ (wide : r.part.width.0 ≢ 0) (end : ℕ) (g : end ≡ r.part.end.0 + plain_size (profile_of v) (clusters_at (profile_of v) (drop r.part.end.0 t))) where
    pub text_up : c.at ≤ end
    text_up = omega (arith, first_up, g)

    pub text_done : (m : Matched) (s : Record) → s ≡ text_record m c.at (end - c.at) → SpanStep (profile_of v) t m c.at (record { span = s; place = record { at = end; run = c.run } })
    text_done m s e = text_step (profile_of v) t c z end (g ∙ (clusters_on v t c.at c.at (Some w) begin w refl r n wide).same) m s (omega (arith, first_up, g)) e
