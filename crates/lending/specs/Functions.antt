-- Calls and whole functions over the entries of Signatures.antt.
--     asks             a call of such a function: tokens and parameters go to it, and tokens and last values come back
--     answers          the end of such a function
--     walks            the function meets its contract, from a walk of its body with the parameters in their locals
--     asks_whole, answers_whole, walks_whole   the same over the assertions behind the entries, where the entries are not known one by one
--     hands_on         the function lends its slices on to one call, and meets the same contract
-- Assumes `Logic`.
use Rattle.std.specs.Prelude.{◌≡◌, ℕ, zero, List, [], ◌∷◌, ◌++◌, T}
use seplogic.Ra.Ura.{Ura}
use mir.Syntax.{Callee, Fn, place, Opd as Operand, Body, seq, call, return}
use mir.Val.{Val, WT}
use base.Logic.{SProp, ent, sep, wand, ex, emp, id⊢, via, comm∗, mono_l, wand_i, apply∗}
use prog.Model.{Model}
use prog.Routine.{Routine, Env as Routines}
use prog.Wp.{Env, Calls, Loops, WpFn, Closed}
use types.Logic.{Logic, sem}
use contract.Running.{Running, tables, tables_of}
use contract.Lifetimes.{Lfts, Shares, toks}
use types.Kit.{Go, Item, Post, Seq, Sq, runs, prop, at_ret, ‵, raw, ◌⊛◌, some, ◌$◌, ◌∵◌, !, qed, move, use0, use1, split, join, pick, suffices, show, frame, done}
use types.Run.{Opds}
use sound.WpLaws.{FmC, fm_of}
use denote.RattleType.{RattleType, Denots, Valss, mirs, flat, owns}
use denote.Laws.{Typed, Is, Ises, Are, valss, all_Typed}
use denote.Signature.{Slot, Signature, types_at}
use denote.Steps.{said}
use denote.Triple.Statement.{Contract, Triple}
use denote.Triple.Entry.{Args, Vals, Res}
use denote.Exit.{yes}
use denote.Triple.End.{all, lasts_of}
use denote.Triple.Clauses.{Clauses, Lasts, at_exit, ensured, closing}
use denote.Triple.Spec.{Back, triple_of}
use denote.Triple.Table.{entered, cited}
use Rattle.lending.specs.Spelling.{Spelling}
use Rattle.lending.specs.Locals.{Held, room, value, values, takes, set_at, value_set, Blocks, env_of, Arguments, all_free, Locals, begins, ends}
use Rattle.lending.specs.Statements.{calls}
use Rattle.lending.specs.Signatures.{Kind, slots, spells, tells, laws, signed, ended, tokens, parts, lasts, tokens_of, of_tokens, parts_of_law, of_parts, lasts_of_law, of_lasts, spreads, gathers}

module _ {n : ℕ} (ks : List (Kind n)) (κs : Lfts n) where
  abbrev Ts : List RattleType
  Ts = types_at (slots ks) κs

  -- the values passed
  abbrev spelt : Denots Ts → Valss Ts
  spelt a = valss Ts (spells κs ks) a

  abbrev pub args : Denots Ts → List Val
  args a = flat Ts (spelt a)

-- ---- a function f whose calls mean γ
module _ {M : Type 1} {𝓤 : Ura M} (𝓛 : Logic 𝓤) (𝓜 : Model 𝓤 𝓛.H) (𝓡 : Running 𝓤 𝓛.H 𝓜) (γ : Routines) where
  open 𝓛 use {H}

  abbrev pub W : Logic 𝓤
  W = 𝓛

  abbrev pub C : Calls 𝓤 H
  C = (tables 𝓤 H 𝓜 𝓡 γ).C

  abbrev pub Λ : Loops 𝓤 H
  Λ = (tables 𝓤 H 𝓜 𝓡 γ).Λ

  fm : FmC 𝓤 H W.laws C
  unfolding tables_of
  fm = fm_of 𝓤 H W.laws (tables_of 𝓤 H 𝓜 (tables 𝓤 H 𝓜 𝓡 γ))

  -- a function of such parameters, by its contract
  module _ (n : ℕ) (ks : List (Kind n)) (R : Slot n) (c : Clauses 𝓤 (ended n ks R)) where
    abbrev S : Signature
    S = signed n ks R

    abbrev pub promise : Contract 𝓤
    promise = triple_of 𝓛 S (closing 𝓛 (ended n ks R) c)

    module _ (κs : Lfts n) (qs : Shares n) (a : Args S κs) where
      abbrev pub bound : (c κs a).ghost → promise.Ghost
      bound g = ((κs, qs, tt, a, spelt ks κs a), g)

      abbrev pub Tokens : SProp 𝓤
      Tokens = toks 𝓛 n κs qs

      abbrev pub Owned : SProp 𝓤
      Owned = sem 𝓛 (owns (Ts ks κs) a (spelt ks κs a))

      abbrev pub Lasting : Lasts (ended n ks R) κs a → SProp 𝓤
      Lasting ws = sem 𝓛 (lasts_of κs (slots ks) (all yes (slots ks)) a ws)

      abbrev pub Ensures : (c κs a).ghost → Res S κs → Lasts (ended n ks R) κs a → SProp 𝓤
      Ensures g r ws = (c κs a).ensures g r (at_exit (ended n ks R) κs a ws)

      -- what a caller has, and what a call leaves, entry by entry
      abbrev Brought : List (Item 𝓤) → List (Item 𝓤)
      Brought Γ = tokens n κs qs ++ (parts (Ts ks κs) a (spelt ks κs a) ++ Γ)

      abbrev Left : Lasts (ended n ks R) κs a → List (Item 𝓤) → List (Item 𝓤)
      Left ws Γ = tokens n κs qs ++ (lasts κs ks a ws ++ Γ)

    -- a call of the function that k means
    module _ (k : Callee) (r : Routine) (means : γ k ≡ r) (met : Triple 𝓤 (𝓡.run r) promise) (κs : Lfts n) (qs : Shares n) (a : Args S κs) {K : Type 0} (t : K) (g : (c κs a).ghost) where
      pub asks_whole : {E : Env 𝓤 H} {hs : List Held} {Γ : List (Item 𝓤)} {Λ : Loops 𝓤 H} {q : Post 𝓤 H} {rest : Body} {xs : List Operand} {i : ℕ} → ent 𝓤 (emp 𝓤) ((c κs a).requires g)
          → Opds K W (raw (promise.pre (bound κs qs a g)) ∷ Locals E hs ∷ Γ) E xs (args ks κs a) → (L : Spelling 𝓛 (R.row κs)) → ((x : Res S κs) → Typed (R.row κs).mir (L.spell x ∷ []) → T (takes E hs i (L.spell x)) × WT (L.spell x))
          → ((x : Res S κs) → Is (R.row κs) x (L.spell x ∷ []) → (ws : Lasts (ended n ks R) κs a) → Seq K W (raw (Tokens κs qs a) ∷ raw (Lasting κs qs a ws) ∷ Locals E (set_at i (value (L.spell x)) hs) ∷ raw (Ensures κs qs a g x ws) ∷ ‵ ((R.row κs).own_val x (L.spell x ∷ [])) ∷ Γ) (runs C Λ E rest q))
          → Seq K W (raw (Tokens κs qs a) ∷ raw (Owned κs qs a) ∷ Locals E hs ∷ Γ) (runs C Λ E (seq (call k xs (place i [])) rest) q)
      asks_whole req os L fits f =
          join t $ use0 W (raw ((c κs a).requires g)) req $ move t (1 ∷ 0 ∷ []) $ join t $ use1 W (raw (promise.pre (bound κs qs a g))) (id⊢ 𝓤 _) $
          calls t fm S (closing 𝓛 (ended n ks R) c) (cited 𝓤 H promise 𝓜 𝓡 γ k r means met) (bound κs qs a g) os L fits (λ x is. move t (2 ∷ []) $
          use1 W (some (λ (ws : Lasts (ended n ks R) κs a). raw (Lasting κs qs a ws) ⊛ raw (Ensures κs qs a g x ws))) (id⊢ 𝓤 _) $ pick t (λ ws. split t $ move t (3 ∷ 0 ∷ 2 ∷ 1 ∷ []) $ f x is ws))

      pub asks : {E : Env 𝓤 H} {hs : List Held} {Γ : List (Item 𝓤)} {Λ : Loops 𝓤 H} {q : Post 𝓤 H} {rest : Body} {xs : List Operand} {i : ℕ} → ent 𝓤 (emp 𝓤) ((c κs a).requires g)
          → Opds K W (raw (promise.pre (bound κs qs a g)) ∷ Locals E hs ∷ Γ) E xs (args ks κs a) → (L : Spelling 𝓛 (R.row κs)) → ((x : Res S κs) → Typed (R.row κs).mir (L.spell x ∷ []) → T (takes E hs i (L.spell x)) × WT (L.spell x))
          → ((x : Res S κs) → Is (R.row κs) x (L.spell x ∷ []) → (ws : Lasts (ended n ks R) κs a) → Seq K W (Left κs qs a ws (Locals E (set_at i (value (L.spell x)) hs) ∷ raw (Ensures κs qs a g x ws) ∷ ‵ ((R.row κs).own_val x (L.spell x ∷ [])) ∷ Γ)) (runs C Λ E rest q))
          → Seq K W (Brought κs qs a (Locals E hs ∷ Γ)) (runs C Λ E (seq (call k xs (place i [])) rest) q)
      asks {E} {hs} {Γ} {i = i} req os L fits f =
          gathers W (tokens n κs qs) (parts (Ts ks κs) a (spelt ks κs a)) (Locals E hs ∷ Γ) (Tokens κs qs a) (Owned κs qs a) (of_tokens 𝓛 n κs qs) (of_parts 𝓛 (Ts ks κs) a (spelt ks κs a)) $ asks_whole req os L fits (λ x is ws.
          spreads W (tokens n κs qs) (lasts κs ks a ws) (Locals E (set_at i (value (L.spell x)) hs) ∷ raw (Ensures κs qs a g x ws) ∷ ‵ ((R.row κs).own_val x (L.spell x ∷ [])) ∷ Γ) (Tokens κs qs a) (Lasting κs qs a ws) (tokens_of 𝓛 n κs qs) (lasts_of_law 𝓛 κs ks a ws) $ f x is ws)

    module _ (κs : Lfts n) (qs : Shares n) (a : Args S κs) {K : Type 0} (t : K) (g : (c κs a).ghost) (v : Val) (x : Res S κs) (ws : Lasts (ended n ks R) κs a) where
      pub answers_whole : Seq K W (raw (Tokens κs qs a) ∷ raw (Lasting κs qs a ws) ∷ ‵ ((R.row κs).own_val x (v ∷ [])) ∷ raw (Ensures κs qs a g x ws) ∷ []) (prop (promise.post (bound κs qs a g) v))
      answers_whole =
          suffices t (ex 𝓤 (λ (z : Res S κs). sep 𝓤 (Back 𝓛 S (bound κs qs a g).0 v z) (ensured 𝓛 (ended n ks R) c κs a g z))) (W.laws.⇛_intro _) $
          show t (λ (z : Res S κs). sep 𝓤 (Back 𝓛 S (bound κs qs a g).0 v z) (ensured 𝓛 (ended n ks R) c κs a g z)) x $ move t (0 ∷ 2 ∷ []) $ join t $ frame t $
          show t (λ (us : Lasts (ended n ks R) κs a). sep 𝓤 (Lasting κs qs a us) (Ensures κs qs a g x us)) ws $ frame t $ done t

      pub answers : ent 𝓤 (emp 𝓤) (Ensures κs qs a g x ws) → Seq K W (Left κs qs a ws (‵ ((R.row κs).own_val x (v ∷ [])) ∷ [])) (prop (promise.post (bound κs qs a g) v))
      answers e = gathers W (tokens n κs qs) (lasts κs ks a ws) (‵ ((R.row κs).own_val x (v ∷ [])) ∷ []) (Tokens κs qs a) (Lasting κs qs a ws) (of_tokens 𝓛 n κs qs) (of_lasts 𝓛 κs ks a ws) $
          use0 W (raw (Ensures κs qs a g x ws)) e $ move t (1 ∷ 2 ∷ 3 ∷ 0 ∷ []) $ answers_whole

  module _ (f : Fn) (n : ℕ) (ks : List (Kind n)) (R : Slot n) (c : Clauses 𝓤 (ended n ks R)) where
    abbrev pub env : Blocks f.locals → Env 𝓤 H
    env bs = env_of f.locals bs

    abbrev pub Fitting : Type 0
    Fitting = (κs : Lfts n) (a : Args (signed n ks R) κs) (bs : Blocks f.locals) → Typed (mirs (Ts ks κs)) (args ks κs a) → Arguments (env bs) (args ks κs a)

    -- what a walk of the body shows, from the whole of what it is given
    abbrev pub Whole : (κs : Lfts n) → Shares n → (a : Args (signed n ks R) κs) → (c κs a).ghost → (E : Env 𝓤 H) → List Held → Body → Type 1
    Whole κs qs a g E hs b = Sq W (Locals E hs ∷ raw (toks 𝓛 n κs qs) ∷ raw (sem 𝓛 (owns (Ts ks κs) a (spelt ks κs a))) ∷ raw ((c κs a).requires g) ∷ []) (runs C Λ E b (at_ret E ((promise n ks R c).post (bound n ks R c κs qs a g))))

    -- or from its entries
    abbrev Walk : (κs : Lfts n) → Shares n → (a : Args (signed n ks R) κs) → (c κs a).ghost → Blocks f.locals → Type 1
    Walk κs qs a g bs = Sq W (Brought n ks R c κs qs a (Locals (env bs) (room ∷ values (args ks κs a)) ∷ raw ((c κs a).requires g) ∷ [])) (runs C Λ (env bs) f.body (at_ret (env bs) ((promise n ks R c).post (bound n ks R c κs qs a g))))

    walked : Fitting → ((κs : Lfts n) (qs : Shares n) (a : Args (signed n ks R) κs) (g : (c κs a).ghost) → Are (Ts ks κs) (Ises (Ts ks κs)) a (spelt ks κs a) → (bs : Blocks f.locals) → Whole κs qs a g (env bs) (room ∷ values (args ks κs a)) f.body) → Triple 𝓤 (WpFn 𝓤 H C Λ f) (promise n ks R c)
    walked fits k y =
        let κs : Lfts n = y.0.0 in
        let qs : Shares n = y.0.1 in
        let a : Args (signed n ks R) κs = y.0.3 in
        let P : SProp 𝓤 = (c κs a).requires y.1 in
        let Q : Vals (signed n ks R) κs → SProp 𝓤 = λ us. WpFn 𝓤 H C Λ f (flat (Ts ks κs) us) ((promise n ks R c).post ((κs, qs, tt, a, us), y.1)) in
        via 𝓤 (sep 𝓤 P (wand 𝓤 P (Q y.0.4)))
        (via 𝓤 (sep 𝓤 (wand 𝓤 P (Q y.0.4)) P)
        (mono_l 𝓤 P (said 𝓛 (signed n ks R) κs qs (spells κs ks) (tells κs ks) a (λ us. wand 𝓤 P (Q us)) y.0.4 (λ are. wand_i 𝓤 _ P _
        (qed W ((raw (toks 𝓛 n κs qs) ⊛ raw (sem 𝓛 (owns (Ts ks κs) a (spelt ks κs a)))) ∷ raw P ∷ []) ∵ split ! $
        begins ! f (args ks κs a) (λ bs. fits κs a bs (all_Typed 𝓛 (Ts ks κs) (laws κs W ks) a (spelt ks κs a) are)) (λ bs. k κs qs a y.1 are bs)))))
        (comm∗ 𝓤 (wand 𝓤 P (Q y.0.4)) P))
        (apply∗ 𝓤 P (Q y.0.4))

    module _ (key : Callee) (closed : Closed 𝓤 H C Λ key f) where
      pub walks_whole : Fitting → ((κs : Lfts n) (qs : Shares n) (a : Args (signed n ks R) κs) (g : (c κs a).ghost) → Are (Ts ks κs) (Ises (Ts ks κs)) a (spelt ks κs a) → (bs : Blocks f.locals) → Whole κs qs a g (env bs) (room ∷ values (args ks κs a)) f.body) → Triple 𝓤 (𝓡.run (γ key)) (promise n ks R c)
      walks_whole fits k = entered 𝓤 H (promise n ks R c) C Λ key f closed (walked fits k)

      pub walks : Fitting → ((κs : Lfts n) (qs : Shares n) (a : Args (signed n ks R) κs) (g : (c κs a).ghost) → Are (Ts ks κs) (Ises (Ts ks κs)) a (spelt ks κs a) → (bs : Blocks f.locals) → Walk κs qs a g bs) → Triple 𝓤 (𝓡.run (γ key)) (promise n ks R c)
      walks fits k = walks_whole fits (λ κs qs a g are bs. move ! (1 ∷ 2 ∷ 0 ∷ []) $
          spreads W (tokens n κs qs) (parts (Ts ks κs) a (spelt ks κs a)) (Locals (env bs) (room ∷ values (args ks κs a)) ∷ raw ((c κs a).requires g) ∷ []) (toks 𝓛 n κs qs) (sem 𝓛 (owns (Ts ks κs) a (spelt ks κs a))) (tokens_of 𝓛 n κs qs) (parts_of_law 𝓛 (Ts ks κs) a (spelt ks κs a)) $
          k κs qs a g are bs)

      module _ (k : Callee) (r : Routine) (means : γ k ≡ r) (met : Triple 𝓤 (𝓡.run r) (promise n ks R c)) (L : (κs : Lfts n) → Spelling 𝓛 (R.row κs)) where
        -- the call, once the arguments stand in locals
        abbrev Last : (κs : Lfts n) → Shares n → (a : Args (signed n ks R) κs) → (c κs a).ghost → Env 𝓤 H → Type 2
        Last κs qs a g E = (hs : List Held) (xs : List Operand) → Opds (Go {0}) W (raw ((promise n ks R c).pre (bound n ks R c κs qs a g)) ∷ Locals E hs ∷ []) E xs (args ks κs a)
            → ((x : Res (signed n ks R) κs) → Typed (R.row κs).mir ((L κs).spell x ∷ []) → T (takes E hs zero ((L κs).spell x)) × WT ((L κs).spell x)) → ((v : Val) → T (all_free E (set_at zero (value v) hs))) → Whole κs qs a g E hs (seq (call k xs (place zero [])) return)

        last : (κs : Lfts n) (qs : Shares n) (a : Args (signed n ks R) κs) (g : (c κs a).ghost) (E : Env 𝓤 H) → Last κs qs a g E
        last κs qs a g E hs xs os fits free =
            let y : (promise n ks R c).Ghost = bound n ks R c κs qs a g in
            let G : Res (signed n ks R) κs → SProp 𝓤 = λ x. ensured 𝓛 (ended n ks R) c κs a g x in
            move ! (1 ∷ 2 ∷ []) $ join ! $ move ! (0 ∷ 2 ∷ []) $ join ! $ use1 W (raw ((promise n ks R c).pre y)) (id⊢ 𝓤 _) $
            calls ! fm (signed n ks R) (closing 𝓛 (ended n ks R) c) (cited 𝓤 H (promise n ks R c) 𝓜 𝓡 γ k r means met) y os (L κs) fits (λ x is. let v : Val = (L κs).spell x in ends ! (value_set E hs zero (fits x ((L κs).lawful.typed x (v ∷ []) is)).0) (free v) $
            suffices ! (ex 𝓤 (λ (z : Res (signed n ks R) κs). sep 𝓤 (Back 𝓛 (signed n ks R) y.0 v z) (G z))) (W.laws.⇛_intro _) $ show ! (λ (z : Res (signed n ks R) κs). sep 𝓤 (Back 𝓛 (signed n ks R) y.0 v z) (G z)) x $
            move ! (0 ∷ 2 ∷ []) $ join ! $ frame ! $ done !)

        pub hands_on : Fitting → ((κs : Lfts n) (qs : Shares n) (a : Args (signed n ks R) κs) (g : (c κs a).ghost) (bs : Blocks f.locals) → Last κs qs a g (env bs) → Whole κs qs a g (env bs) (room ∷ values (args ks κs a)) f.body) → Triple 𝓤 (𝓡.run (γ key)) (promise n ks R c)
        hands_on fits b = walks_whole fits (λ κs qs a g are bs. b κs qs a g bs (last κs qs a g (env bs)))
