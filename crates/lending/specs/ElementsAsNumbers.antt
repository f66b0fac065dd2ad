-- A function that gives the elements of a call's list as numbers: it makes a local array, lends the call as many of its places as the numbers that it was given have room for, writes what the call left there to the numbers, and gives the call's answer.
--     Numbering        (`Rattle.buffer.specs.Numbering`) the array's size and its element at first, how many places are lent where there are so many numbers, how many numbers an element has, and what so many numbers hold of a list
--     Making, Placing, Writing     the contracts of the three functions that make the array, say how many places are lent, and write the numbers
--     as_numbers       the function meets its contract, from those of the four that it calls, and a walk of its code between them. Its elements are of a type that is shared with no token, as a Copy struct is (LentPlaces.antt's `copied_shared`)
--     Start, ArrayMade, PlacesLent, Answered       what the walk may do next: `make`; `count` and `lend`; `ask`; `write`
-- Assumes `Logic`.
use Rattle.std.specs.Prelude.{◌≡◌, refl, ℕ, ◌<◌, ◌≤◌, ◌*◌, ◌^◌, List, [], ◌∷◌, ◌++◌, length, take, replicate, T}
use Rattle.std.proofs.Common.{sym, ap, subst, ◌∙◌, length-take-le}
use Rattle.std.proofs.Math.Option.{some}
use Rattle.std.proofs.lemmas.List.{length-replicate}
use seplogic.Ra.Ura.{Ura}
use base.Fraction.{full_share}
use mir.Syntax.{Callee, Fn, w64, place, Opd as Operand, copy, Body, seq, call, named}
use mir.Val.{Val, vunit, vint, WT}
use base.Logic.{SProp, ent, emp, id⊢}
use base.Fml.{Lft, GName, Share, flft}
use prog.Model.{Model}
use prog.Routine.{Routine, Env as Routines}
use prog.Wp.{Env, Calls, Loops, Closed, spot_of}
use types.Logic.{Logic}
use contract.Running.{Running}
use contract.Lifetimes.{Lfts, Shares, Within, lft_at, toks}
use contract.Monad.{fact, fact_i}
use types.Kit.{Go, Item, Goal, Post, Seq, Step, step, runs, prop, at_ret, ‵, raw, ◌⊛◌, ◌$◌, !, move, drop, use1, use2, split, rewrite}
use types.Run.{Opds, no_more}
use types.SemTy.{cells}
use Rattle.std.specs.Borrow.{RattleType, Array, usize, MutBor}
use denote.Laws.{Typed, Is}
use denote.Memory.{mem}
use denote.Shares.{Shares as SharedBy}
use denote.Plain.{Nothing, uint_Makes}
use denote.Slice.{slice_val, MutSlice, Room}
use denote.Signature.{Slot, plain}
use denote.Steps.{owned, heard}
use denote.Struct.Declared.{Declared, row}
use denote.Struct.Laws as LL
use denote.Triple.Statement.{Triple}
use denote.Triple.Entry.{Args}
use denote.Triple.Clauses.{Clauses, Lasts, at_exit}
use Rattle.buffer.specs.Numbering.{Numbering}
use Rattle.lending.specs.Spelling.{Spelling, a_number, nothing_more, a_struct, an_array}
use Rattle.lending.specs.Locals.{Held, room, away, value, values, Inside, value_at, takes, set_at, value_inside, Blocks, Locals}
use Rattle.lending.specs.Signatures.{Kind, number, shared, lent, last, signed, ended}
use Rattle.lending.specs.Statements.{gives}
use Rattle.lending.specs.Functions.{args, bound, promise, Owned, Lasting, Ensures, W, C, Λ, env, Fitting, asks, asks_whole, answers_whole, walks_whole}
use Rattle.lending.specs.LentPlaces as Places
use Rattle.lending.specs.LentPlaces.{shared_from, lends, gets_back_last, shares, shared_back, room_less}
use Rattle.lending.specs.LocalArrays.{arr, slice_at, others, opens, shuts}
use Rattle.lending.specs.ReplacedParameter.{lft_with, share_with, share_at, lft_with_law, asides, param_at, param_is, replaced, last_at, lasts_with, other_tokens, other_lasts, token_replaced, token_taken, token_in, part_replaced, last_out_apart, last_in}

module _ {M : Type 1} {𝓤 : Ura M} (𝓛 : Logic 𝓤) (𝓜 : Model 𝓤 𝓛.H) (𝓡 : Running 𝓤 𝓛.H 𝓜) (γ : Routines) where
  open 𝓛 use {H}

  abbrev calls : Calls 𝓤 H
  calls = C 𝓛 𝓜 𝓡 γ

  abbrev Meets : {n : ℕ} (ks : List (Kind n)) (A : Slot n) → Clauses 𝓤 (ended n ks A) → Routine → Type 1
  Meets {n} ks A c r = Triple 𝓤 (𝓡.run r) (promise 𝓛 𝓜 𝓡 γ n ks A c)

  module _ (D : Declared) (L : LL.Laws D) (N : Numbering (row D).Denot) where
    abbrev R : RattleType
    R = row D

    abbrev Xs : Type 0
    Xs = List R.Denot

    abbrev list : Spelling 𝓛 (Array R N.size)
    list = an_array {𝓛 = W 𝓛 𝓜 𝓡 γ} (a_struct {𝓛 = W 𝓛 𝓜 𝓡 γ} D L) N.size

    -- ---- the three functions
    abbrev Made : Slot 0
    Made = plain (λ _. Array R N.size)

    abbrev pub Making : Clauses 𝓤 (ended 0 [] Made)
    Making κs a = record { ghost = Unit {0}; requires = λ _. emp 𝓤; ensures = λ _ r e. fact 𝓤 (r ≡ replicate N.size N.none) }

    abbrev Number : Slot 0
    Number = plain (λ _. usize)

    abbrev pub Placing : Clauses 𝓤 (ended 0 (number ∷ []) Number)
    Placing κs a = record { ghost = Unit {0}; requires = λ _. emp 𝓤; ensures = λ _ r e. fact 𝓤 (r ≡ N.places a.0) }

    abbrev both : List (Kind 2)
    both = shared 0 tt R ∷ lent 1 tt usize ∷ []

    abbrev Unit' : Slot 2
    Unit' = plain (λ _. Nothing)

    abbrev pub Writing : Clauses 𝓤 (ended 2 both Unit')
    Writing κs a = record { ghost = Unit {0}; requires = λ _. fact 𝓤 (N.each * length a.0.now ≤ length a.1.0.now); ensures = λ _ r e. fact 𝓤 (e.1.0.now ≡ N.numbers (length a.1.0.now) a.0.now) }

    module _ {E : Env 𝓤 H} {hs : List Held} {Γ : List (Item 𝓤)} {Λ : Loops 𝓤 H} {q : Post 𝓤 H} {rest : Body} {f : Callee} {r : Routine} {K : Type 0} (t : K) (is : γ f ≡ r) where
      made : Meets [] Made Making r → {i : ℕ} → ((xs : Xs) → Typed (Array R N.size).mir (list.spell xs ∷ []) → T (takes E hs i (list.spell xs)) × WT (list.spell xs))
          → ((xs : Xs) → length xs ≡ N.size → Seq K (W 𝓛 𝓜 𝓡 γ) (Locals E (set_at i (value (list.spell xs)) hs) ∷ ‵ ((Array R N.size).own_val xs (list.spell xs ∷ [])) ∷ Γ) (runs calls Λ E rest q)) → Seq K (W 𝓛 𝓜 𝓡 γ) (Locals E hs ∷ Γ) (runs calls Λ E (seq (call f [] (place i [])) rest) q)
      made met fits k = asks 𝓛 𝓜 𝓡 γ 0 [] Made Making f r is met tt tt tt t tt (id⊢ 𝓤 (emp 𝓤)) (no_more t) list fits
          (λ xs ok ws. move t (1 ∷ []) $ heard t (xs ≡ replicate N.size N.none) (λ e. k xs (ap length e ∙ length-replicate N.size N.none)))

      placed : Meets (number ∷ []) Number Placing r → {c i m k : ℕ} → k ≡ N.places m → m < 2 ^ 64 → value_at E hs c ≡ some (vint w64 m) → ((n : ℕ) → T (takes E hs i (vint w64 n)))
          → Step K (W 𝓛 𝓜 𝓡 γ) (Locals E (set_at i (value (vint w64 k)) hs) ∷ Γ) (runs calls Λ E rest q) (Locals E hs ∷ Γ) (runs calls Λ E (seq (call f (copy (place c []) ∷ []) (place i [])) rest) q)
      placed met {c} {i} {m} p small e z = step (λ s. owned t usize (Is usize) (uint_Makes (W 𝓛 𝓜 𝓡 γ) w64) m _ (refl, small) $
          asks 𝓛 𝓜 𝓡 γ 0 (number ∷ []) Number Placing f r is met tt tt (m, tt) t tt (id⊢ 𝓤 (emp 𝓤)) (gives t e (no_more t)) (a_number {𝓛 = W 𝓛 𝓜 𝓡 γ}) (λ n ty. (z n, ty.0.1))
          (λ n ok ws. move t (1 ∷ []) $ heard t (n ≡ N.places m) (λ h. rewrite t 0 (λ (n : ℕ). Locals E (set_at i (value (vint w64 n)) hs)) (h ∙ sym p) refl $ move t (1 ∷ []) $ drop t $ s)))

      wrote : SharedBy 𝓛 R [] → Meets both Unit' Writing r → {s o i : ℕ} (ys : Xs) (l : ℕ) (x : MutBor (List ℕ)) {κ : Lft} {p : Share} → Room R (length ys) → N.each * length ys ≤ length x.now → value_at E hs s ≡ some (slice_val (l, 0) (length ys)) → value_at E hs o ≡ some (slice_val x.ref_ptr (length x.now)) → T (takes E hs i vunit)
          → ((os : List ℕ) → os ≡ N.numbers (length x.now) ys → Seq K (W 𝓛 𝓜 𝓡 γ) (Locals E (set_at i (value vunit) hs) ∷ ‵ (cells (mem R) ys l 0) ∷ ‵ (flft κ p) ∷ ‵ (last κ usize x os) ∷ Γ) (runs calls Λ E rest q))
          → Seq K (W 𝓛 𝓜 𝓡 γ) (Locals E hs ∷ ‵ (cells (mem R) ys l 0) ∷ ‵ (flft κ p) ∷ ‵ ((MutSlice (named 1) κ usize).own_val x (slice_val x.ref_ptr (length x.now) ∷ [])) ∷ Γ) (runs calls Λ E (seq (call f (copy (place s []) ∷ copy (place o []) ∷ []) (place i [])) rest) q)
      wrote free met ys l x {κ} {p} fit wide e e' z k = move t (1 ∷ []) $ shares t R tt ys l 0 free (named 0) fit (λ ν. move t (0 ∷ 4 ∷ 1 ∷ 5 ∷ 3 ∷ []) $
          asks 𝓛 𝓜 𝓡 γ 2 both Unit' Writing f r is met (ν ∷ [], (κ, tt)) (full_share, (p, tt)) (shared_from R l 0 ys, (x, tt)) t tt (fact_i 𝓤 (N.each * length ys ≤ length x.now) (emp 𝓤) wide) (gives t e (gives t e' (no_more t))) (nothing_more {𝓛 = W 𝓛 𝓜 𝓡 γ}) (λ u ty. (z, tt)) (λ u ok ws.
          -- [the tokens; what is left in the numbers; the locals; what is said; …; the lender's part; …]
          move t (4 ∷ []) $ heard t (ws.1.0 ≡ N.numbers (length x.now) ys) (λ h. move t (0 ∷ 5 ∷ []) $ shared_back t R tt ys l 0 $ move t (3 ∷ 0 ∷ 1 ∷ 2 ∷ 4 ∷ []) $ move t (4 ∷ []) $ drop t $ k ws.1.0 h)))

    -- ---- the function. It has the parameters pre, the numbers and post; its call has the array's places where it has the numbers
    module _ (fit : Room R N.size) (free : SharedBy 𝓛 R []) {fm fp fw : Callee} {rm rp rw : Routine} (is_m : γ fm ≡ rm) (met_m : Meets [] Made Making rm) (is_p : γ fp ≡ rp) (met_p : Meets (number ∷ []) Number Placing rp) (is_w : γ fw ≡ rw) (met_w : Meets both Unit' Writing rw) (n : ℕ)
        (pre : List (Kind n)) (j : ℕ) (ok : Within n j) (post : List (Kind n)) (apart : T (asides n j pre)) (apart' : T (asides n j post)) (D' : Declared) (L' : LL.Laws D') where
      abbrev nums : Kind n
      nums = lent j ok usize

      abbrev elems : Kind n
      elems = lent j ok R

      abbrev own : List (Kind n)
      own = pre ++ nums ∷ post

      abbrev its : List (Kind n)
      its = pre ++ elems ∷ post

      abbrev answer : Slot n
      answer = plain (λ _. row D')

      abbrev spelt : Spelling 𝓛 (row D')
      spelt = a_struct {𝓛 = W 𝓛 𝓜 𝓡 γ} D' L'

      module _ (c : Clauses 𝓤 (ended n own answer)) (c' : Clauses 𝓤 (ended n its answer)) (asked : (κs : Lfts n) (a : Args (signed n its answer) κs) → (g : (c' κs a).ghost) × ent 𝓤 (emp 𝓤) ((c' κs a).requires g)) {fc : Callee} {rc : Routine} (is_c : γ fc ≡ rc) (met_c : Meets its answer c' rc) where
        module _ (κs : Lfts n) (a : Args (signed n own answer) κs) where
          abbrev x : MutBor (List ℕ)
          x = param_at κs nums post pre a

          abbrev m : ℕ
          m = length x.now

          -- the call has y, for κ
          module _ (κ : Lft) (y : MutBor Xs) where
            abbrev κs' : Lfts n
            κs' = lft_with n j ok κ κs

            abbrev a' : Args (signed n its answer) κs'
            a' = replaced n j ok κ κs nums elems post y pre a

            abbrev After : Type 0
            After = Lasts (ended n its answer) κs' a'

            abbrev zs : After → Xs
            zs ws = last_at n j ok κ κs nums elems post y pre a ws

            abbrev us : After → List ℕ → Lasts (ended n own answer) κs a
            us ws os = lasts_with n j ok κ κs nums elems post y pre a ws os

            abbrev Saying : (row D').Denot → After → SProp 𝓤
            Saying r ws = (c' κs' a').ensures (asked κs' a').0 r (at_exit (ended n its answer) κs' a' ws)

        -- what the call ensures, and that the numbers were written, is what the function ensures
        abbrev Told : Type 1
        Told = (κs : Lfts n) (a : Args (signed n own answer) κs) (g : (c κs a).ghost) (κ : Lft) (y : MutBor Xs) (r : (row D').Denot) (ws : After κs a κ y) (os : List ℕ) → length y.now ≡ N.places (m κs a) → os ≡ N.numbers (m κs a) (zs κs a κ y ws)
            → ent 𝓤 (Saying κs a κ y r ws) ((c κs a).ensures g r (at_exit (ended n own answer) κs a (us κs a κ y ws os)))

        module _ (κs : Lfts n) (qs : Shares n) (a : Args (signed n own answer) κs) (g : (c κs a).ghost) (E : Env 𝓤 H) where
          abbrev after : Val → SProp 𝓤
          after = (promise 𝓛 𝓜 𝓡 γ n own answer c).post (bound 𝓛 𝓜 𝓡 γ n own answer c κs qs a g)

          abbrev code : Body → Goal 𝓤 H
          code b = runs calls (Λ 𝓛 𝓜 𝓡 γ) E b (at_ret E after)

          abbrev Runs : Type 0 → List Held → List (Item 𝓤) → Body → Type 1
          Runs K hs Γ b = Seq K (W 𝓛 𝓜 𝓡 γ) (Locals E hs ∷ Γ) (code b)

          abbrev Begun : List (Item 𝓤)
          Begun = raw (toks 𝓛 n κs qs) ∷ raw (Owned 𝓛 𝓜 𝓡 γ n own answer c κs qs a) ∷ []

          abbrev token : Item 𝓤
          token = ‵ (flft (lft_at n j ok κs) (share_at n j ok qs))

          abbrev slice : Item 𝓤
          slice = ‵ ((MutSlice (named j) (lft_at n j ok κs) usize).own_val (x κs a) (slice_val (x κs a).ref_ptr (m κs a) ∷ []))

          abbrev qs' : Shares n
          qs' = share_with n j ok full_share qs

          module _ (xs : Xs) where
            abbrev ys : Xs
            ys = take (N.places (m κs a)) xs

            many : length xs ≡ N.size → length ys ≡ N.places (m κs a)
            many len = length-take-le (N.places (m κs a)) xs (subst (λ (d : ℕ). N.places (m κs a) ≤ d) (sym len) (N.few (m κs a)))

            abbrev Array_of : Item 𝓤
            Array_of = ‵ ((Array R N.size).own_val xs (list.spell xs ∷ []))

            -- local s is the array, and the call has its first places for ν
            module _ (s ν : ℕ) (δ : GName) where
              abbrev l : ℕ
              l = (spot_of 𝓤 H E s).1

              abbrev y : MutBor Xs
              y = slice_at R l δ ys

              abbrev ιs : Lfts n
              ιs = κs' κs a (ν ∷ []) y

              abbrev b : Args (signed n its answer) ιs
              b = a' κs a (ν ∷ []) y

              abbrev kept : List (Item 𝓤)
              kept = ‵ (others R l (N.places (m κs a)) xs) ∷ token ∷ slice ∷ []

              abbrev Lent : List (Item 𝓤)
              Lent = ‵ (Places.lent R ys l 0 (ν ∷ []) δ) ∷ kept

              module _ (r : (row D').Denot) (ws : After κs a (ν ∷ []) y) where
                abbrev Left : List (Item 𝓤)
                Left = ‵ (cells (mem R) (zs κs a (ν ∷ []) y ws) l 0) ∷ ‵ (other_lasts n j ok (ν ∷ []) κs nums elems post y pre a ws) ∷ raw (other_tokens 𝓤 𝓛 n j ok κs qs) ∷ raw (Saying κs a (ν ∷ []) y r ws) ∷ ‵ ((row D').own_val r (spelt.spell r ∷ [])) ∷ kept

                abbrev Written : List ℕ → List (Item 𝓤)
                Written os = raw (toks 𝓛 n κs qs) ∷ raw (Lasting 𝓛 𝓜 𝓡 γ n own answer c κs qs a (us κs a (ν ∷ []) y ws os)) ∷ ‵ ((row D').own_val r (spelt.spell r ∷ [])) ∷ raw (Ensures 𝓛 𝓜 𝓡 γ n own answer c κs qs a g r (us κs a (ν ∷ []) y ws os)) ∷ []

                pub record Answered : Type 1 where
                  pub write : {K : Type 0} → K → {hs : List Held} {p u i : ℕ} {rest : Body} → value_at E hs p ≡ some (slice_val (l, 0) (length ys)) → value_at E hs u ≡ some (slice_val (x κs a).ref_ptr (m κs a)) → T (takes E hs i vunit)
                      → ((os : List ℕ) → Seq K (W 𝓛 𝓜 𝓡 γ) (Written os) (prop (after (spelt.spell r))) → Runs K (set_at s room (set_at i (value vunit) hs)) (Written os) rest) → Runs K hs Left (seq (call fw (copy (place p []) ∷ copy (place u []) ∷ []) (place i [])) rest)

                answered : Told → (spot_of 𝓤 H E s).0 ≡ arr R N.size → length xs ≡ N.size → Inside E s → length (zs κs a (ν ∷ []) y ws) ≡ length ys → Answered
                answered told typ len in_E same =
                    let all : length (zs κs a (ν ∷ []) y ws) ≡ N.places (m κs a) = same ∙ many len in
                    record {
                      write = λ t e e' z f. move t (0 ∷ 1 ∷ 7 ∷ 8 ∷ []) $
                          wrote t is_w free met_w (zs κs a (ν ∷ []) y ws) l (x κs a) (room_less R fit (subst (λ (d : ℕ). d ≤ N.size) (sym all) (N.few (m κs a)))) (subst (λ (d : ℕ). N.each * d ≤ m κs a) (sym all) (N.wide (m κs a))) (e ∙ ap (λ (d : ℕ). some (slice_val (l, 0) d)) (sym same)) e' z (λ os h.
                          -- [the locals; the array's first places; the numbers' token; what is left in the numbers; the other last values; the other tokens; what is said; the answer; the other places]
                          move t (1 ∷ 8 ∷ 0 ∷ []) $ shuts t R s N.size (N.places (m κs a)) xs typ (zs κs a (ν ∷ []) y ws) same len in_E $ move t (1 ∷ 4 ∷ []) $ use2 (W 𝓛 𝓜 𝓡 γ) (raw (toks 𝓛 n κs qs)) (token_in 𝓤 𝓛 n j ok κs qs) $
                          move t (2 ∷ 3 ∷ []) $ use2 (W 𝓛 𝓜 𝓡 γ) (raw (Lasting 𝓛 𝓜 𝓡 γ n own answer c κs qs a (us κs a (ν ∷ []) y ws os))) (last_in n j ok (ν ∷ []) κs nums elems post y 𝓛 pre a ws os) $
                          move t (3 ∷ []) $ use1 (W 𝓛 𝓜 𝓡 γ) (raw (Ensures 𝓛 𝓜 𝓡 γ n own answer c κs qs a g r (us κs a (ν ∷ []) y ws os))) (told κs a g (ν ∷ []) y r ws os (many len) h) $
                          -- [what is said; what is left; the tokens; the locals; the answer]
                          move t (3 ∷ 2 ∷ 1 ∷ 4 ∷ 0 ∷ []) $ f os (answers_whole 𝓛 𝓜 𝓡 γ n own answer c κs qs a t g (spelt.spell r) r (us κs a (ν ∷ []) y ws os)));
                    }

              pub record PlacesLent : Type 2 where
                pub ask : {K : Type 0} → K → {hs : List Held} {os : List Operand} {i : ℕ} {rest : Body} → Opds K (W 𝓛 𝓜 𝓡 γ) (raw ((promise 𝓛 𝓜 𝓡 γ n its answer c').pre (bound 𝓛 𝓜 𝓡 γ n its answer c' ιs qs' b (asked ιs b).0)) ∷ Locals E hs ∷ Lent) E os (args its ιs b)
                    → ((r : (row D').Denot) → Typed (row D').mir (spelt.spell r ∷ []) → T (takes E hs i (spelt.spell r)) × WT (spelt.spell r)) → ((r : (row D').Denot) (ws : After κs a (ν ∷ []) y) → Answered r ws → Runs K (set_at i (value (spelt.spell r)) hs) (Left r ws) rest)
                    → Runs K hs (raw (toks 𝓛 n ιs qs') ∷ raw (Owned 𝓛 𝓜 𝓡 γ n its answer c' ιs qs' b) ∷ Lent) (seq (call fc os (place i [])) rest)

              places_lent : Told → (spot_of 𝓤 H E s).0 ≡ arr R N.size → length xs ≡ N.size → Inside E s → PlacesLent
              places_lent told typ len in_E = record {
                ask = λ t os fits f. move t (1 ∷ 2 ∷ []) $ asks_whole 𝓛 𝓜 𝓡 γ n its answer c' fc rc is_c met_c ιs qs' b t (asked ιs b).0 (asked ιs b).1 os spelt fits (λ r is ws.
                    use1 (W 𝓛 𝓜 𝓡 γ) (‵ (flft (ν ∷ []) full_share) ⊛ raw (other_tokens 𝓤 𝓛 n j ok κs qs)) (token_taken 𝓤 𝓛 (ν ∷ []) full_share n j ok κs qs) $ split t $ move t (2 ∷ []) $
                    use1 (W 𝓛 𝓜 𝓡 γ) (‵ (last (lft_at n j ok ιs) R y (zs κs a (ν ∷ []) y ws)) ⊛ ‵ (other_lasts n j ok (ν ∷ []) κs nums elems post y pre a ws)) (last_out_apart n j ok (ν ∷ []) κs nums elems post y 𝓛 apart' pre apart a ws) $ split t $
                    rewrite t 0 (λ (ι : Lft). ‵ (last ι R y (zs κs a (ν ∷ []) y ws))) (lft_with_law n j ok (ν ∷ []) κs) refl $
                    -- [what is left in the places; the other last values; the token; the other tokens; the locals; what is said; the answer; the lender's part; …]
                    move t (2 ∷ 0 ∷ 7 ∷ []) $ gets_back_last t R tt ys l 0 (zs κs a (ν ∷ []) y ws) (λ same. move t (3 ∷ []) $ f r ws (answered r ws told typ len in_E same)));
              }

            pub record ArrayMade : Type 2 where
              pub count : {K : Type 0} → K → {hs : List Held} {d i : ℕ} {rest : Body} → value_at E hs d ≡ some (vint w64 (m κs a)) → ((k : ℕ) → T (takes E hs i (vint w64 k)))
                  → Step K (W 𝓛 𝓜 𝓡 γ) (Locals E (set_at i (value (vint w64 (length ys))) hs) ∷ Array_of ∷ Begun) (code rest) (Locals E hs ∷ Array_of ∷ Begun) (code (seq (call fp (copy (place d []) ∷ []) (place i [])) rest))
              pub lend : {K : Type 0} → K → (s : ℕ) {hs : List Held} {rest : Body} → (spot_of 𝓤 H E s).0 ≡ arr R N.size → value_at E hs s ≡ some (list.spell xs)
                  → ((ν : ℕ) (δ : GName) → PlacesLent s ν δ → Runs K (set_at s away hs) (raw (toks 𝓛 n (ιs s ν δ) qs') ∷ raw (Owned 𝓛 𝓜 𝓡 γ n its answer c' (ιs s ν δ) qs' (b s ν δ)) ∷ Lent s ν δ) rest) → Runs K hs (Array_of ∷ Begun) rest

            array_made : Told → m κs a < 2 ^ 64 → length xs ≡ N.size → ArrayMade
            array_made told small len = record {
              count = λ t e z. placed t is_p met_p (many len) small e z;
              lend = λ t s typ e f. opens t R s N.size (N.places (m κs a)) xs typ tt e $ lends t R tt ys (spot_of 𝓤 H E s).1 0 (named j) (room_less R fit (subst (λ (d : ℕ). d ≤ N.size) (sym (many len)) (N.few (m κs a)))) (λ ν δ.
                  -- [the token; the slice; the lender's part; the other places; the locals; the tokens; the parameters]
                  move t (0 ∷ 5 ∷ []) $ use2 (W 𝓛 𝓜 𝓡 γ) (token ⊛ raw (toks 𝓛 n (ιs s ν δ) qs')) (token_replaced 𝓤 𝓛 (ν ∷ []) full_share n j ok κs qs) $ split t $ move t (2 ∷ 6 ∷ []) $
                  rewrite t 0 (λ (ι : Lft). ‵ ((MutSlice (named j) ι R).own_val (y s ν δ) (slice_val (l s ν δ, 0) (length ys) ∷ []))) (sym (lft_with_law n j ok (ν ∷ []) κs)) refl $
                  use2 (W 𝓛 𝓜 𝓡 γ) (slice ⊛ raw (Owned 𝓛 𝓜 𝓡 γ n its answer c' (ιs s ν δ) qs' (b s ν δ))) (part_replaced n j ok (ν ∷ []) κs nums elems post (y s ν δ) 𝓛 apart' pre apart a) $ split t $
                  -- [the numbers; the call's parameters; the numbers' token; the call's tokens; the lender's part; the other places; the locals]
                  move t (6 ∷ 3 ∷ 1 ∷ 4 ∷ 5 ∷ 2 ∷ []) $ f ν δ (places_lent s ν δ told typ len (value_inside E _ s e).0));
            }

          pub record Start : Type 2 where
            pub make : {K : Type 0} → K → {hs : List Held} {i : ℕ} {rest : Body} → ((xs : Xs) → Typed (Array R N.size).mir (list.spell xs ∷ []) → T (takes E hs i (list.spell xs)) × WT (list.spell xs)) → ((xs : Xs) → ArrayMade xs → Runs K (set_at i (value (list.spell xs)) hs) (Array_of xs ∷ Begun) rest)
                → Runs K hs Begun (seq (call fm [] (place i [])) rest)

          start : Told → m κs a < 2 ^ 64 → Start
          start told small = record { make = λ t fits f. made t is_m met_m fits (λ xs len. f xs (array_made xs told small len)) }

        module _ (f : Fn) where
          abbrev E : Blocks f.locals → Env 𝓤 H
          E bs = env 𝓛 𝓜 𝓡 γ f n own answer c bs

          pub as_numbers : (key : Callee) → Closed 𝓤 H calls (Λ 𝓛 𝓜 𝓡 γ) key f → Told → Fitting 𝓛 𝓜 𝓡 γ f n own answer c
              → ((κs : Lfts n) (qs : Shares n) (a : Args (signed n own answer) κs) (g : (c κs a).ghost) (bs : Blocks f.locals) → Start κs qs a g (E bs) → Runs κs qs a g (E bs) Go (room ∷ values (args own κs a)) (Begun κs qs a g (E bs)) f.body) → Meets own answer c (γ key)
          as_numbers key closed told fits walk = walks_whole 𝓛 𝓜 𝓡 γ f n own answer c key closed fits (λ κs qs a g are bs. move ! (3 ∷ []) $ drop ! $ walk κs qs a g bs (start κs qs a g (E bs) told (param_is κs nums post pre a are).0.1.0))
