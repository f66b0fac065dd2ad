-- What kept wraps remember: the proof.
use Prim.Native.Nat.{ℕ, zero, suc, ◌*◌, ◌≤◌, ◌<◌}
use Rattle.std.proofs.Common.{arith, sym, subst, ◌∙◌}
use Rattle.std.specs.Prelude.{cond, ◌&&◌, ◌≡◌, take, eqb, leb}
use mathlib.Core.List.{List, [], ◌∷◌, map}
use Rattle.std.proofs.Math.Option.{Option, none, some}
use Rattle.std.proofs.Math.Path.{refl, ap}
use Rattle.std.proofs.Math.ListN.{length, length-take}
use Rattle.std.proofs.Math.Dec.{eqb-suc-zero}
use borrow.Author.Tests.{leb-true, le-leb}
use Rattle.buffer.specs.Sink.{written}
use Rattle.text.specs.Tests.{cases}
use Rattle.text.specs.Each.{All, all_nil, all_cons, all_map, all_both}
use Rattle.text.specs.Class.{Profile}
use Rattle.text.specs.Overstrike.{convert}
use Rattle.text.specs.Calls.{counted}
use Rattle.spans.specs.Spans.{spans}
use Rattle.rows.specs.Rows.{Row, rows}
use Rattle.rows.specs.Calls.{mode_of, numbers_of, rows_call, height_call}
use Rattle.rows.specs.Wrap.Laws.{numbers_of_length}
use Rattle.cache.specs.Wraps.{Key, key, head, key_of, kept, find, without, block_at, kept_numbers, with_heads, new_block, after_use, with_wrap}
use Rattle.cache.specs.declared.wraps.Head.{Head}
use Rattle.cache.specs.Wraps.Contracts.{Within}
use Rattle.cache.specs.Wraps.Laws.{kept_well, new_block_low}
use Rattle.cache.specs.Wraps.Blocks.{block_length, block_here, block_other, heads_length, heads_blocks}
use Rattle.cache.specs.Wraps.Use.{found_has, Free, behind, part_behind, kept_after, free_found, free_new}
use Rattle.cache.specs.Calls.{Wrap, wrap_for, wraps_after, unless_refused, cached_rows_call, cached_height_call}
use Rattle.cache.specs.Remembers.{Call, different, key_used, unwrapped_height, NoneKept, answer, cached, is_use, used_from, wraps_from, Remembers}
use Rattle.rows.specs.Rows.Laws.{rows_some}
use Rattle.cache.specs.Remembers.Keys.{last_four, keys_without, keys_take, heads_apart}

module _ (P : Profile) (line : List ℕ) where
  abbrev rows_at : Key → List Row
  rows_at k = rows P k.width (mode_of k.mode) (spans P (convert P line))

  abbrev wrap_at : Key → Wrap
  wrap_at k = record { count = length (rows_at k); numbers = numbers_of (rows_at k) }

  -- what is kept for a head is the wrap of its key
  abbrev Right : List ℕ → Head → Type 0
  Right wraps h = ◌≡◌ {A = Wrap} (record { count = h.count; numbers = kept_numbers wraps h }) (wrap_at (key_of h))

  -- the wraps kept are right, and those of the last four different keys of these
  record Invariant (wraps : List ℕ) (us : List Key) : Type 0 where
    size : length wraps ≡ 8212
    keys : map key_of (kept wraps) ≡ take 4 (different us)
    right : All (Right wraps) (kept wraps)

  -- ---- one use

  module _ (wraps : List ℕ) (us : List Key) (g : Invariant wraps us) where
    -- a kept key is answered with its wrap
    kept_answer : (k : Key) → wrap_for wraps (find k (kept wraps)) (rows_at k) ≡ wrap_at k
    unfolding wrap_for
    kept_answer k = go (find k (kept wraps)) refl
      where
        go : (o : Option Head) → find k (kept wraps) ≡ o → wrap_for wraps o (rows_at k) ≡ wrap_at k
        go none e = refl
        go (some h) e = let r = found_has k h g.right e in r.0 ∙ ap wrap_at r.1

    one : (k : Key) → length (kept wraps) ≤ suc (length (without k (kept wraps)))
    one k = heads_apart k us (kept wraps) g.keys

    -- heads written over right blocks
    invariant_heads : (later : List ℕ) (h : Head) → length later ≡ 8212 → Within h → Free h.block (behind (key_of h) (kept wraps)) → All (Right later) (h ∷ behind (key_of h) (kept wraps))
        → Invariant (after_use later (kept wraps) h) (key_of h ∷ us)
    unfolding after_use
    invariant_heads later h size w f r =
        let k : Key = key_of h in
        let hs : List Head = h ∷ behind k (kept wraps) in
        let few : length hs ≤ 4 = omega (arith, length-take 3 (without k (kept wraps))) in
        let e : kept (with_heads later hs) ≡ hs = kept_after wraps k (one k) later h w f in
        record {
          size = heads_length later hs few (omega arith) ∙ size;
          keys = rw (e, keys_take 3 (without k (kept wraps)), keys_without k (kept wraps), g.keys) (last_four k us);
          right = rw e (all_map (λ x q. rw (heads_blocks later hs few x) q) r);
        }

    -- a kept key moves to the front
    invariant_found : (k : Key) (h : Head) → find k (kept wraps) ≡ some h → Invariant (after_use wraps (kept wraps) h) (k ∷ us)
    invariant_found k h e =
        let w = found_has k h (kept_well wraps).within e in
        let f : find (key_of h) (kept wraps) ≡ some h = ap (λ (x : Key). find x (kept wraps)) w.1 ∙ e in
        subst (λ (x : Key). Invariant (after_use wraps (kept wraps) h) (x ∷ us)) w.1 (invariant_heads wraps h g.size w.0 (free_found wraps (key_of h) (one (key_of h)) h f) (all_cons (found_has k h g.right e).0 (part_behind (key_of h) g.right)))

    -- another one comes there
    invariant_new : (k : Key) → find k (kept wraps) ≡ none → length (rows_at k) ≤ 1024
        → Invariant (after_use (written wraps (block_at (new_block (kept wraps))) (numbers_of (rows_at k))) (kept wraps) (head k (length (rows_at k)) (new_block (kept wraps)))) (k ∷ us)
    invariant_new k e fits =
        let b : ℕ = new_block (kept wraps) in
        let h : Head = head k (length (rows_at k)) b in
        let xs : List ℕ = numbers_of (rows_at k) in
        let f : Free b (behind k (kept wraps)) = free_new wraps k e in
        let low : b < 4 = new_block_low wraps in
        let n : length xs ≡ 2 * length (rows_at k) = numbers_of_length (rows_at k) in
        let few : length xs ≤ 2048 = omega arith in
        let some : 1 ≤ length (rows_at k) = rows_some P k.width (mode_of k.mode) (spans P (convert P line)) in
        let here : Right (written wraps (block_at b) xs) h = rw (block_here wraps xs b g.size low few h refl n) in
        let others : All (Right (written wraps (block_at b) xs)) (behind k (kept wraps)) =
        all_map
        (λ x q. rw (block_other wraps xs b g.size low few x q.0.0.fits (λ z. q.1 (sym z))) q.0.1)
        (all_both (part_behind k (all_both (kept_well wraps).within g.right)) f.other) in
        invariant_heads (written wraps (block_at b) xs) h (block_length wraps xs b g.size low few) (record { some = some; fits = fits; block = low }) f (all_cons here others)

    invariant_use : (k : Key) → Invariant (wraps_after wraps k (find k (kept wraps)) (wrap_at k)) (cond (leb (length (rows_at k)) 1024) (k ∷ us) us)
    unfolding wraps_after with_wrap
    invariant_use k = go (find k (kept wraps)) refl
      where
        go : (o : Option Head) → find k (kept wraps) ≡ o → Invariant (wraps_after wraps k o (wrap_at k)) (cond (leb (length (rows_at k)) 1024) (k ∷ us) us)
        go none e = cases (leb (length (rows_at k)) 1024) (λ t. rw t (invariant_new k e (leb-true _ _ t))) (λ t. rw t g)
        go (some h) e =
            let w = found_has k h (all_both (kept_well wraps).within g.right) e in
            let n : h.count ≡ length (rows_at k) = ap (λ (x : Wrap). x.count) (w.0.1 ∙ ap wrap_at w.1) in
            rw (← n, le-leb h.count 1024 w.0.0.fits) (invariant_found k h e)

    -- a use unless refused
    invariant_unless : (r : ℕ) (k : Key) → Invariant (unless_refused r (wraps_after wraps k (find k (kept wraps)) (wrap_at k)) wraps) (cond (eqb r 0 && leb (counted (length (rows_at k)) r) 1024) (k ∷ us) us)
    unfolding unless_refused counted
    invariant_unless zero k = invariant_use k
    invariant_unless (suc r) k = rw (eqb-suc-zero r) g

    unless_same : (r : ℕ) → unless_refused r wraps wraps ≡ wraps
    unfolding unless_refused
    unless_same zero = refl
    unless_same (suc r) = refl

    -- ---- one call

    invariant_call : (c : Call) → Invariant (cached P line wraps c).wraps (cond (is_use P line c) (key_used c ∷ us) us)
    unfolding cached is_use unwrapped_height key_used answer cached_rows_call cached_height_call rows_call height_call
    invariant_call (Call.rows conv places numbers width mode) =
        rw (kept_answer (key 0 width mode)) (invariant_unless (rows_call P conv places numbers width mode line).number (key 0 width mode))
    invariant_call (Call.height conv places width zero) = rw (unless_same (height_call P conv places width 0 line).number) g
    invariant_call (Call.height conv places width (suc mode)) =
        rw (eqb-suc-zero mode, kept_answer (key 0 width (suc mode))) (invariant_unless (height_call P conv places width (suc mode) line).number (key 0 width (suc mode)))

    same_answer : (c : Call) → (cached P line wraps c).answer ≡ answer P line c
    unfolding cached answer cached_rows_call cached_height_call rows_call height_call rows mode_of
    same_answer (Call.rows conv places numbers width mode) = rw (kept_answer (key 0 width mode))
    same_answer (Call.height conv places width zero) = refl
    same_answer (Call.height conv places width (suc mode)) = rw (eqb-suc-zero mode, kept_answer (key 0 width (suc mode)))

  -- ---- any calls

  invariant_calls : (wraps : List ℕ) (us : List Key) (cs : List Call) → Invariant wraps us → Invariant (wraps_from P line wraps cs) (used_from P line us cs)
  unfolding wraps_from used_from
  invariant_calls wraps us [] g = g
  invariant_calls wraps us (c ∷ cs) g = invariant_calls (cached P line wraps c).wraps (cond (is_use P line c) (key_used c ∷ us) us) cs (invariant_call wraps us g c)

  invariant_none : (wraps : List ℕ) → NoneKept wraps → Invariant wraps []
  unfolding different
  invariant_none wraps n = record { size = n.size; keys = rw n.none; right = rw n.none all_nil }

pub remembers : (P : Profile) (line wraps : List ℕ) → NoneKept wraps → (cs : List Call) → Remembers P line wraps cs
remembers P line wraps n cs =
    let g = invariant_calls P line wraps [] cs (invariant_none P line wraps n) in
    record { answers = same_answer P line (wraps_from P line wraps cs) (used_from P line [] cs) g; keys = g.keys }
