-- convert_unicode_span and convert_overstrike: a run cluster by cluster, a line piece by piece.
use Prim.Native.Nat.{◌*◌, ◌+◌, ◌-◌, ◌<◌, ◌≤◌, suc, zero, ℕ}
use native.Mathlib.Nat.{add-zero}
use native.Mathlib.Numerals.{add-one}
use native.Mathlib.Omega.{arith}
use mathlib.Core.List.{List, [], ◌++◌, ◌∷◌, append_assoc, append-nil, reverse, reverse-reverse, reverse_aux, reverse_aux-eq}
use mathlib.Core.Logic.{◌≢◌}
use mathlib.Core.Path.{◌∙◌, ◌≡◌, ap, ap₂, refl, sym}
use lib.ListN.{drop, drop_of_length-le, get_or, length, length-append, length-drop, length-set, length-take, set, take, take-append-drop}
use lib.Seq.{drop-cons, drop-drop, length-take-le, slice, take_all, take-append-add, take-append-le, take-suc-set}
use Rattle.text.specs.Class.{Profile}
use Rattle.text.specs.Cluster.{clusters, clusters_after}
use Rattle.text.specs.Cluster.Laws.{clusters_first, further}
use Rattle.text.specs.Cluster.Walk.{size_is}
use Rattle.text.specs.Backward.{backward}
use Rattle.text.specs.Segmentation.{first_of, first_size}
use Rattle.std.specs.Prelude.{Option, Bool, true, false, not}
use Rattle.std.specs.Option.{is_some}
use Rattle.text.specs.Utf8.Code.{first_sequence, sequence_or_zero, size, whole}
use Rattle.text.specs.Class.Code.{profile_of}
use Rattle.text.specs.Overstrike.Code.{FinishReady, Finished, Part, PieceDone, PieceReady, Sound, SpanDone, StepReady, Stepped, Wrote, conversion, finish_on, part_of, pending_of, plain, span_of, state_of, style_of}
use Rattle.text.specs.Utf8.Code.Laws as laws
use Rattle.text.specs.TextParts.Laws.{first_none}
use Rattle.text.specs.Overstrike.{State, convert_pieces, convert_run, none, normal, state, step, steps}
use Rattle.text.specs.Overstrike.Length.{finish_size, start_weight, step_weight, weight}
use Rattle.text.specs.Utf8.{Decoded, Piece, Scalar, add_to_run, bytes_of, decode, decode_from, ill_formed, run, run_of, runs, sequence, value, well_formed}
use Rattle.text.specs.Utf8.Laws.{bytes_of_append, decode_bad, decode_good, sequence_le}
use Rattle.text.specs.declared.utf8.Sequence.{Sequence}
use Rattle.text.specs.declared.overstrike.Conversion.{Conversion}
use Rattle.text.specs.declared.overstrike.Pending.TheVariants.{Nothing}
use Rattle.text.specs.declared.overstrike.Progress.{Progress}
use Rattle.text.specs.declared.class.Profile as code
use Rattle.text.proofs.RegionalIndicators.{known_zero}
use Rattle.text.proofs.Runs.{Head, no_head, part_slice, run_drop, run_head, size_reverse}
use Rattle.text.proofs.OverstrikeSteps.{front_size, front_text, part_none}
use Rattle.text.proofs.Texts.{run_prefix}
use Rattle.text.proofs.SequenceBytes.{run_good, run_more, run_size, scalar_at}
use Rattle.text.specs.Utf8.Code.Laws.{given_len, none_of, none_past, nothing_at, size_cons, size_nil}

-- ---- the run of a text and what stands behind it

run_behind : (g rest : List Scalar) (t : List ℕ) → run_of (decode t) ≡ g ++ rest → run_of (decode (drop (size g) t)) ≡ rest
run_behind g rest t e =
    let q : run_of (decode t) ≡ reverse_aux (reverse g) rest = e ∙ sym (reverse_aux-eq (reverse g) rest ∙ ap (λ (x : List Scalar). x ++ rest) (reverse-reverse g)) in
    rw (size_reverse g) at (run_drop (reverse g) rest t q)

size_both : (a b : List Scalar) → size (a ++ b) ≡ size a + size b
size_both a b = size_is (a ++ b) ∙ ap length (bytes_of_append a b) ∙ length-append (bytes_of a) (bytes_of b) ∙ ap₂ (λ (m n : ℕ). m + n) (sym (size_is a)) (sym (size_is b))

-- ---- the cluster at a place

record ClusterAt (P : Profile) (line : List ℕ) (p e : ℕ) : Type 0 where
  g : List Scalar
  first : clusters P (run_of (decode (drop p line))) ≡ g ∷ clusters P (run_of (decode (drop e line)))
  ends : e ≡ p + length (bytes_of g)
  full : 1 ≤ length (bytes_of g)
  part : Part line p e
  same_part : part_of line p e ≡ g
  sizes : size (run_of (decode (drop p line))) ≡ length (bytes_of g) + size (run_of (decode (drop e line)))

cluster_by : (P : Profile) (line : List ℕ) (p e : ℕ) (c : Scalar) (s : List Scalar) → run_of (decode (drop p line)) ≡ c ∷ s → p ≤ length line
    → e ≡ p + first_size P (run_of (decode (drop p line))) → ClusterAt P line p e
unfolding first_size first_of
cluster_by P line p e c s q h i =
    let n : ℕ = further P (c ∷ []) s in
    let g : List Scalar = c ∷ take n s in
    let rest : List Scalar = drop n s in
    let all : run_of (decode (drop p line)) ≡ g ++ rest = q ∙ ap (λ (x : List Scalar). c ∷ x) (sym (take-append-drop n s)) in
    let cl : clusters P (run_of (decode (drop p line))) ≡ g ∷ clusters P rest = ap (clusters P) q ∙ clusters_first P c s in
    let j : e ≡ p + size g = i ∙ ap (λ (gs : List (List Scalar)). p + size (first_of gs)) cl in
    let z : size g ≡ length (bytes_of g) = size_is g in
    let pre = run_prefix g rest (drop p line) all in
    let d : drop (size g) (drop p line) ≡ drop e line = drop-drop (size g) p line ∙ ap (λ (m : ℕ). drop m line) (sym j) in
    let k : e - p ≡ size g = omega arith in
    let cut : slice p e line ≡ take (size g) (drop p line) = sym (part_slice p e line) ∙ ap (λ (m : ℕ). take m (drop p line)) k in
    let le : length (bytes_of g) ≤ length (drop p line) = rw (pre.1, length-take) (omega arith) in
    let hd = (run_head (drop p line) c s q).some in
    let pos : size g ≡ length c.bytes + size (take n s) = size_cons c (take n s) in
    record {
      g = g;
      first = cl ∙ ap (λ (x : List Scalar). g ∷ clusters P x) (sym (ap (λ (x : List ℕ). run_of (decode x)) (sym d) ∙ run_behind g rest (drop p line) all));
      ends = j ∙ ap (λ (m : ℕ). p + m) z;
      full = omega arith;
      part = record { ordered = omega arith; within = omega (arith, rw (length-drop p line) at le); valid = rw cut (ap bytes_of pre.0 ∙ pre.1) };
      same_part = rw cut pre.0;
      sizes = ap size all ∙ size_both g rest ∙ ap₂ (λ (m n : ℕ). m + n) z (ap size (sym (ap (λ (x : List ℕ). run_of (decode x)) (sym d) ∙ run_behind g rest (drop p line) all)));
    }

no_size : (P : Profile) → first_size P [] ≡ 0
unfolding first_size first_of size clusters clusters_after
no_size P = refl

cluster_at : (P : Profile) (line : List ℕ) (p e : ℕ) → p < length line → e ≡ p + first_size P (run_of (decode (drop p line))) → (e ≢ p) → ClusterAt P line p e
cluster_at P line p e h i n = go (run_of (decode (drop p line))) refl
  where
    go : (cs : List Scalar) → run_of (decode (drop p line)) ≡ cs → ClusterAt P line p e
    go [] q = absurd (n (i ∙ ap (λ (x : List Scalar). p + first_size P x) q ∙ rw (no_size P, add-zero) refl))
    go (c ∷ s) q = cluster_by P line p e c s q (omega arith) i

-- no cluster begins at a damaged byte
no_cluster : (P : Profile) (line : List ℕ) (p e : ℕ) → e ≡ p + first_size P (run_of (decode (drop p line))) → e ≡ p → run_of (decode (drop p line)) ≡ []
unfolding first_size
no_cluster P line p e i n = first_none P (laws.run_valid (drop p line)) (omega (arith, i, n))

-- ---- the loop over a run's clusters

-- before the cluster at p: what is left to do leads to the run's last state
pub record Running (P : Profile) (line l : List ℕ) (p : ℕ) (st : Conversion) : Type 0 where
  pub sound : Sound P line l st
  pub here : p ≤ length line
  pub run : p + size (run_of (decode (drop p line))) ≡ size (run_of (decode line))
  pub work : steps P (state_of line l st) (clusters P (run_of (decode (drop p line)))) ≡ steps P (state [] none normal normal) (clusters P (run_of (decode line)))
  pub small : weight (state_of line l st) ≤ 8 * p
  pub room : 8 * length line ≤ length l

start_state : (line l : List ℕ) → state_of line l (conversion 0 Nothing plain plain 0) ≡ state [] none normal normal
unfolding state_of pending_of style_of backward run_of decode decode_from
start_state line l = refl

pub running_begin : (P : Profile) (line l : List ℕ) → 8 * length line ≤ length l → Running P line l 0 (conversion 0 Nothing plain plain 0)
unfolding run_of decode decode_from bytes_of span_of
running_begin P line l h = record {
  sound = record { inside = omega arith; valid = refl; part = part_none line; known = known_zero P [] };
  here = omega arith;
  run = omega arith;
  work = ap (λ (t : State). steps P t (clusters P (run_of (decode line)))) (start_state line l);
  small = rw (start_state line l, start_weight) (omega arith);
  room = h;
}

module _ (P : Profile) (line l : List ℕ) (p e : ℕ) (st : Conversion) (w : Running P line l p st) (h : p < length line) (i : e ≡ p + first_size P (run_of (decode (drop p line)))) (n : e ≢ p) where
  cluster : ClusterAt P line p e
  cluster = cluster_at P line p e h i n

  pub running_ready : StepReady P line l st (record { at = p; end = e })
  running_ready = record { sound = w.sound; upper = cluster.part; room = omega (arith, w.small, w.room) }

  pub running_less : length line - e < length line - p
  running_less = omega (arith, cluster.ends, cluster.full)

  module _ (l' : List ℕ) (r : Conversion) (long : length l' ≡ length l) (s : Stepped P line l' r (step P (state_of line l st) (part_of line p e))) where
    pub running_turn : Running P line l' e r
    unfolding steps
    running_turn =
        let k = cluster in
        let t : state_of line l' r ≡ step P (state_of line l st) k.g = s.same ∙ ap (step P (state_of line l st)) k.same_part in
        let a = step_weight P (state_of line l st) k.g k.full in
        record {
          sound = s.sound;
          here = k.part.within;
          run = omega (arith, w.run, k.sizes, k.ends);
          work = ap (λ (x : State). steps P x (clusters P (run_of (decode (drop e line))))) t ∙ (rw k.first at w.work);
          small = rw t (omega (arith, w.small, k.ends));
          room = omega (arith, w.room);
        }

-- the run's end: of the line, or at a damaged byte
module _ (P : Profile) (line l : List ℕ) (p : ℕ) (st : Conversion) (w : Running P line l p st) where
  pub running_finish : FinishReady line l st
  running_finish = record { profile = P; sound = w.sound; room = omega (arith, w.small, w.here, w.room) }

  module _ (past : run_of (decode (drop p line)) ≡ []) where
    last_state : state_of line l st ≡ steps P (state [] none normal normal) (clusters P (run_of (decode line)))
    unfolding steps clusters clusters_after
    last_state = rw past at w.work

    ended : (l' : List ℕ) (r : ℕ) → Finished line l l' st r → SpanDone P line l' (record { read = p; written = r })
    unfolding convert_run finish_on
    ended l' r f =
        let t = f P in
        let a = finish_size P (state_of line l st).out (state_of line l st).pending (state_of line l st).before (state_of line l st).style in
        record {
          wrote = record {
            inside = t.inside;
            bytes = sym t.valid ∙ ap bytes_of (front_text l' r _ t) ∙ ap (λ (x : State). bytes_of (reverse (finish_on P x))) last_state;
          };
          run = omega (arith, w.run, ap size past, size_nil);
          small = omega (arith, front_size l' r _ t, w.small);
        }

  pub running_end : (l' : List ℕ) (r : ℕ) → length line ≤ p → Finished line l l' st r → SpanDone P line l' (record { read = p; written = r })
  running_end l' r h f = ended (none_past line p h) l' r f

  pub running_damaged : (e : ℕ) (l' : List ℕ) (r : ℕ) → e ≡ p + first_size P (run_of (decode (drop p line))) → e ≡ p → Finished line l l' st r → SpanDone P line l' (record { read = p; written = r })
  running_damaged e l' r i n f = ended (no_cluster P line p e i n) l' r f

-- ---- the pieces of a line

decode_none : decode [] ≡ []
unfolding decode decode_from
decode_none = refl

-- a byte with which no run begins is damaged
damaged_decode : (b : ℕ) (t : List ℕ) → size (run_of (decode (b ∷ t))) ≡ 0 → decode (b ∷ t) ≡ ill_formed b ∷ decode t
damaged_decode b t s = go (sequence (b ∷ t)) refl
  where
    go : (n : ℕ) → sequence (b ∷ t) ≡ n → decode (b ∷ t) ≡ ill_formed b ∷ decode t
    go zero q = decode_bad b t q
    go (suc n) q = absurd (omega (arith, ap size (run_more b t n q), size_cons (record { code = value (take (suc n) (b ∷ t)); bytes = take (suc n) (b ∷ t) }) (run_of (decode (drop (suc n) (b ∷ t))))))

-- the run that a text begins with lies within it, and is valid by itself
module _ (t : List ℕ) where
  run_whole : (run_of (decode (take (size (run_of (decode t))) t)) ≡ run_of (decode t)) × (bytes_of (run_of (decode t)) ≡ take (size (run_of (decode t))) t)
  run_whole = run_prefix (run_of (decode t)) [] t (sym (append-nil (run_of (decode t))))

  pub run_le : size (run_of (decode t)) ≤ length t
  run_le = rw (size_is (run_of (decode t)), run_whole.1, length-take) (omega arith)

  pub run_valid : whole (take (size (run_of (decode t))) t)
  run_valid = ap bytes_of run_whole.0 ∙ run_whole.1

rest_of : List Decoded → List Decoded
rest_of [] = []
rest_of (well_formed c ∷ ds) = rest_of ds
rest_of (ill_formed b ∷ ds) = ill_formed b ∷ ds

runs_run : (ds : List Decoded) (c : Scalar) → runs (well_formed c ∷ ds) ≡ run (c ∷ run_of ds) ∷ runs (rest_of ds)
unfolding runs add_to_run run_of rest_of
runs_run [] c = refl
runs_run (well_formed d ∷ ds) c = ap (add_to_run c) (runs_run ds d)
runs_run (ill_formed b ∷ ds) c = refl

runs_first : (ds : List Decoded) (c : Scalar) (s : List Scalar) → run_of ds ≡ c ∷ s → runs ds ≡ run (run_of ds) ∷ runs (rest_of ds)
unfolding run_of rest_of
runs_first [] c s e = absurd (no_head c s e)
runs_first (well_formed d ∷ ds) c s e = runs_run ds d
runs_first (ill_formed b ∷ ds) c s e = absurd (no_head c s e)

rest_none : (t : List ℕ) → run_of (decode t) ≡ [] → rest_of (decode t) ≡ decode t
unfolding rest_of
rest_none [] e = rw decode_none refl
rest_none (b ∷ t) e = go (sequence (b ∷ t)) refl
  where
    go : (n : ℕ) → sequence (b ∷ t) ≡ n → rest_of (decode (b ∷ t)) ≡ decode (b ∷ t)
    go zero q = rw (decode_bad b t q) refl
    go (suc n) q = absurd (no_head _ _ (sym e ∙ run_more b t n q))

rest_head : (t : List ℕ) (d : Scalar) (es : List Scalar) → Head t d es → rest_of (decode t) ≡ rest_of (decode (drop (length d.bytes) t))
unfolding rest_of
rest_head [] d es h = let l = sequence_le [] in absurd (omega (arith, h.some, h.seq))
rest_head (b ∷ t) d es h = go (length d.bytes) refl
  where
    go : (n : ℕ) → length d.bytes ≡ n → rest_of (decode (b ∷ t)) ≡ rest_of (decode (drop (length d.bytes) (b ∷ t)))
    go zero q = absurd (omega (arith, h.some))
    go (suc n) q = rw (decode_good b t n (h.seq ∙ q), q) refl

rest_decode : (cs : List Scalar) (t : List ℕ) → run_of (decode t) ≡ cs → rest_of (decode t) ≡ decode (drop (size cs) t)
rest_decode [] t e = rest_none t e ∙ ap (λ (m : ℕ). decode (drop m t)) (sym size_nil)
rest_decode (d ∷ es) t e =
    let h = run_head t d es e in
    rest_head t d es h ∙ rest_decode es (drop (length d.bytes) t) h.next ∙ ap decode (drop-drop (size es) (length d.bytes) t ∙ ap (λ (m : ℕ). drop m t) (sym (size_cons d es)))

-- a line that begins with a run: that run, and the pieces behind it
runs_behind : (t : List ℕ) (c : Scalar) (s : List Scalar) → run_of (decode t) ≡ c ∷ s → runs (decode t) ≡ run (run_of (decode t)) ∷ runs (decode (drop (size (run_of (decode t))) t))
runs_behind t c s e = runs_first (decode t) c s e ∙ ap (λ (ds : List Decoded). run (run_of (decode t)) ∷ runs ds) (rest_decode (run_of (decode t)) t refl)

-- ---- the loop over a line's pieces

rest_all : (t : List ℕ) (p : ℕ) → take (length t - p) (drop p t) ≡ drop p t
rest_all t p = take_all (length t - p) (drop p t) (rw (length-drop p t) (omega arith))

module _ (line l : List ℕ) (d : Progress) (w : PieceReady line l d) where
  -- no run there: a damaged byte copied
  pub piece_damaged : (v : code.Profile) (o : Option Sequence) → o ≡ first_sequence (decode (drop d.read line)) → (n : Bool) → is_some o ≡ not n → n ≡ true → PieceDone (profile_of v) line l (set l d.written (get_or line d.read 0)) d (record { read = d.read + 1; written = d.written + 1 })
  unfolding convert_pieces runs
  piece_damaged v o read n some t =
      let b : ℕ = get_or line d.read 0 in
      let q : drop d.read line ≡ b ∷ drop (suc d.read) line = drop-cons line d.read 0 w.here in
      let s : size (run_of (decode (drop d.read line))) ≡ 0 = ap size (nothing_at line d.read w.here o read (none_of o n some t)) ∙ size_nil in
      let c : decode (drop d.read line) ≡ ill_formed b ∷ decode (drop (suc d.read) line) = ap decode q ∙ damaged_decode b (drop (suc d.read) line) (rw q at s) in
      let t : take (suc d.written) (set l d.written b) ≡ take d.written l ++ (b ∷ []) = take-suc-set l d.written b (omega (arith, w.room, w.here)) in
      record {
        further = omega arith;
        within = omega (arith, w.here);
        work = rw (add-one, add-one, t, c) (append_assoc (take d.written l) (b ∷ []) (convert_pieces (profile_of v) (runs (decode (drop (suc d.read) line)))));
        room = rw length-set (omega (arith, w.room, w.here));
      }

  -- the line's run converted into m, in the place of what stood behind
  module _ (P : Profile) (m z : List ℕ) (r : Progress) (long : length m ≡ length (take (length l - d.written) (drop d.written l))) (s : SpanDone P (take (length line - d.read) (drop d.read line)) m r) where
    span : SpanDone P (drop d.read line) m r
    span = rw (rest_all line d.read) at s

    front : length (take d.written l) ≡ d.written
    front = length-take-le d.written l (omega (arith, w.room))

    behind : length m ≡ length l - d.written
    behind = long ∙ ap length (rest_all l d.written) ∙ length-drop d.written l

    pub piece_end : d.read + r.read ≤ length line
    piece_end = omega (arith, w.here, span.run, rw (length-drop d.read line) at (run_le (drop d.read line)))

    pub piece_run : (o : Option Sequence) → o ≡ first_sequence (decode (drop d.read line)) → (n : Bool) → is_some o ≡ not n → n ≡ false → PieceDone P line l (take d.written l ++ (m ++ z)) d (record { read = d.read + r.read; written = d.written + r.written })
    unfolding convert_pieces first_sequence
    piece_run o given_o n given_n t = go (run_of (decode (drop d.read line))) refl
      where
        u : Sequence
        u = sequence_or_zero (decode (drop d.read line))

        ne : u.len ≢ 0
        ne = given_len u o n given_o given_n t

        go : (cs : List Scalar) → run_of (decode (drop d.read line)) ≡ cs → PieceDone P line l (take d.written l ++ (m ++ z)) d (record { read = d.read + r.read; written = d.written + r.written })
        go [] q = absurd (no_head _ _ (sym q ∙ run_good line d.read u w.here refl ne))
        go (c ∷ cs) q =
            let some : 1 ≤ r.read = omega (arith, span.run, ap size (run_good line d.read u w.here refl ne), size_cons (scalar_at d.read u.code u.len line) (run_of (decode (drop (d.read + u.len) line))), run_size line d.read u w.here refl ne, ne) in
            let x : take (d.written + r.written) (take d.written l ++ (m ++ z)) ≡ take d.written l ++ bytes_of (convert_run P (run_of (decode (drop d.read line)))) =
            ap (λ (j : ℕ). take (j + r.written) (take d.written l ++ (m ++ z))) (sym front)
            ∙ take-append-add (take d.written l) (m ++ z) r.written
            ∙ ap (λ (y : List ℕ). take d.written l ++ y) (take-append-le r.written m z span.wrote.inside ∙ span.wrote.bytes) in
            let y : drop (size (run_of (decode (drop d.read line)))) (drop d.read line) ≡ drop (d.read + r.read) line = drop-drop (size (run_of (decode (drop d.read line)))) d.read line ∙ ap (λ (j : ℕ). drop (d.read + j) line) (sym span.run) in
            record {
              further = omega arith;
              within = piece_end;
              work =
                  ap (λ (v : List ℕ). v ++ convert_pieces P (runs (decode (drop (d.read + r.read) line)))) x
                  ∙ append_assoc (take d.written l) (bytes_of (convert_run P (run_of (decode (drop d.read line))))) (convert_pieces P (runs (decode (drop (d.read + r.read) line))))
                  ∙ sym (ap (λ (ps : List Piece). take d.written l ++ convert_pieces P ps) (runs_behind (drop d.read line) c cs q ∙ ap (λ (v : List ℕ). run (run_of (decode (drop d.read line))) ∷ runs (decode v)) y));
              room = rw (length-append (take d.written l) (m ++ z), length-append m z, front) (omega (arith, w.room, piece_end, span.small, behind));
            }

pub record Pieces (P : Profile) (line l : List ℕ) (d : Progress) : Type 0 where
  pub within : d.read ≤ length line
  pub work : take d.written l ++ convert_pieces P (runs (decode (drop d.read line))) ≡ convert_pieces P (runs (decode line))
  pub room : d.written + 8 * (length line - d.read) ≤ length l

pub pieces_begin : (P : Profile) (line l : List ℕ) → 8 * length line ≤ length l → Pieces P line l (record { read = 0; written = 0 })
pieces_begin P line l h = record { within = omega arith; work = refl; room = omega arith }

pub pieces_ready : (P : Profile) (line l : List ℕ) (d : Progress) → Pieces P line l d → d.read < length line → PieceReady line l d
pieces_ready P line l d w h = record { here = h; room = w.room }

pub pieces_turn : (P : Profile) (line l l' : List ℕ) (d r : Progress) → Pieces P line l d → PieceDone P line l l' d r → Pieces P line l' r
pieces_turn P line l l' d r w p = record { within = p.within; work = p.work ∙ w.work; room = p.room }

pub pieces_end : (P : Profile) (line l : List ℕ) (d : Progress) → Pieces P line l d → length line ≤ d.read → Wrote l d.written (convert_pieces P (runs (decode line)))
unfolding convert_pieces runs
pieces_end P line l d w h = record {
  inside = omega (arith, w.room);
  bytes = sym (append-nil (take d.written l)) ∙ (rw (drop_of_length-le line h, decode_none) at w.work);
}
