-- Two signatures that differ in one parameter: the first has k where the second has k', at a lifetime 'j that no other parameter is at. What a caller has for the first becomes what a call of the second is given, and what the call leaves becomes what the first leaves.
--     lft_with, share_with       the lifetimes and shares with another at 'j.        share_at     the share at 'j
--     asides           no parameter of a list is at 'j
--     param_at, replaced        the parameter at that place; the parameters with another there
--     last_at, lasts_with        what is left at that place; what is left, with another there
--     token_replaced, part_replaced        the token of 'j and the parameter for another: a call of the second may be made
--     token_taken, last_out    the other token comes out again, and what is left in the other parameter
--     token_in, last_in        the token of 'j goes back, and what is left in k
-- Assumes nothing.
use Rattle.std.specs.Prelude.{◌≡◌, refl, ℕ, zero, suc, Bool, true, false, ◌&&◌, List, [], ◌∷◌, ◌++◌, T}
use Rattle.std.proofs.Common.{sym, ap, ap₂, subst}
use seplogic.Ra.Ura.{Ura}
use mir.Syntax.{named}
use base.Logic.{SProp, ent, sep, id⊢, via, comm∗, assoc∗, assoc', mono∗, mono_l, mono_r}
use base.Fml.{Lft, Share, Fml, fsep}
use types.Logic.{Logic, sem}
use contract.Lifetimes.{Lfts, Shares, Within, lft_at, toks}
use denote.RattleType.{Denots, owns}
use denote.Laws.{Is, Ises, Are, valss}
use denote.Ref.{MutRef, mut_vals}
use denote.Slice.{MutSlice, ShrSlice, shr_slice_vals, mut_slice_vals}
use denote.Exit.{yes, Last, left}
use denote.Signature.{types_at}
use denote.Triple.End.{all, Fins, lasts_of}
use Rattle.lending.specs.Locals.{both}
use Rattle.lending.specs.Signatures.{Kind, number, copied, shared, lent, lent_one, slot, slots, spelled, spells}

-- ---- lifetimes and shares
abbrev pub lft_with : (n j : ℕ) → Within n j → Lft → Lfts n → Lfts n
lft_with zero j ok κ κs = absurd ok
lft_with (suc n) zero ok κ κs = (κ, κs.1)
lft_with (suc n) (suc j) ok κ κs = (κs.0, lft_with n j ok κ κs.1)

abbrev pub share_with : (n j : ℕ) → Within n j → Share → Shares n → Shares n
share_with zero j ok q qs = absurd ok
share_with (suc n) zero ok q qs = (q, qs.1)
share_with (suc n) (suc j) ok q qs = (qs.0, share_with n j ok q qs.1)

abbrev pub share_at : (n j : ℕ) → Within n j → Shares n → Share
share_at zero j ok qs = absurd ok
share_at (suc n) zero ok qs = qs.0
share_at (suc n) (suc j) ok qs = share_at n j ok qs.1

abbrev differ : ℕ → ℕ → Bool
differ zero zero = false
differ zero (suc j) = true
differ (suc i) zero = true
differ (suc i) (suc j) = differ i j

pub lft_with_law : (n j : ℕ) (ok : Within n j) (κ : Lft) (κs : Lfts n) → lft_at n j ok (lft_with n j ok κ κs) ≡ κ
lft_with_law zero j ok κ κs = absurd ok
lft_with_law (suc n) zero ok κ κs = refl
lft_with_law (suc n) (suc j) ok κ κs = lft_with_law n j ok κ κs.1

other_lft : (n i j : ℕ) (oi : Within n i) (oj : Within n j) (κ : Lft) (κs : Lfts n) → T (differ i j) → lft_at n i oi κs ≡ lft_at n i oi (lft_with n j oj κ κs)
other_lft zero i j oi oj κ κs d = absurd oi
other_lft (suc n) zero zero oi oj κ κs d = absurd d
other_lft (suc n) zero (suc j) oi oj κ κs d = refl
other_lft (suc n) (suc i) zero oi oj κ κs d = refl
other_lft (suc n) (suc i) (suc j) oi oj κ κs d = other_lft n i j oi oj κ κs.1 d

module _ {M : Type 1} (𝓤 : Ura M) where
  swaps : (P Q R : SProp 𝓤) → ent 𝓤 (sep 𝓤 P (sep 𝓤 Q R)) (sep 𝓤 Q (sep 𝓤 P R))
  swaps P Q R = via 𝓤 (sep 𝓤 (sep 𝓤 P Q) R) (assoc' 𝓤 P Q R) (via 𝓤 (sep 𝓤 (sep 𝓤 Q P) R) (mono_l 𝓤 R (comm∗ 𝓤 P Q)) (assoc∗ 𝓤 Q P R))

  out_of : {P P' X : SProp 𝓤} (Q R : SProp 𝓤) → ent 𝓤 P P' → ent 𝓤 X (sep 𝓤 Q R) → ent 𝓤 (sep 𝓤 P X) (sep 𝓤 Q (sep 𝓤 P' R))
  out_of {P' = P} Q R e h = via 𝓤 (sep 𝓤 P (sep 𝓤 Q R)) (mono∗ 𝓤 e h) (swaps P Q R)

  into : {P P' X : SProp 𝓤} (Q R : SProp 𝓤) → ent 𝓤 P P' → ent 𝓤 (sep 𝓤 Q R) X → ent 𝓤 (sep 𝓤 Q (sep 𝓤 P R)) (sep 𝓤 P' X)
  into {P} Q R e h = via 𝓤 (sep 𝓤 P (sep 𝓤 Q R)) (swaps Q P R) (mono∗ 𝓤 e h)

  past : {P P' : SProp 𝓤} (X Y Q R : SProp 𝓤) → ent 𝓤 P P' → ent 𝓤 (sep 𝓤 X Q) (sep 𝓤 Y R) → ent 𝓤 (sep 𝓤 X (sep 𝓤 P Q)) (sep 𝓤 Y (sep 𝓤 P' R))
  past {P' = P} X Y Q R e h = via 𝓤 (sep 𝓤 P (sep 𝓤 Y R)) (into X Q e h) (swaps P Y R)

  -- ---- tokens
  module _ (𝓛 : Logic 𝓤) where
    open 𝓛 use {A}

    abbrev pub other_tokens : (n j : ℕ) → Within n j → Lfts n → Shares n → SProp 𝓤
    other_tokens zero j ok κs qs = absurd ok
    other_tokens (suc n) zero ok κs qs = toks 𝓛 n κs.1 qs.1
    other_tokens (suc n) (suc j) ok κs qs = sep 𝓤 (A.lft κs.0 qs.0) (other_tokens n j ok κs.1 qs.1)

    abbrev pub TokenApart : (n j : ℕ) (ok : Within n j) → Lft → Share → Lfts n → Shares n → SProp 𝓤
    TokenApart n j ok κ q κs qs = sep 𝓤 (A.lft κ q) (other_tokens n j ok κs qs)

    pub token_in : (n j : ℕ) (ok : Within n j) (κs : Lfts n) (qs : Shares n) → ent 𝓤 (TokenApart n j ok (lft_at n j ok κs) (share_at n j ok qs) κs qs) (toks 𝓛 n κs qs)
    token_in zero j ok κs qs = absurd ok
    token_in (suc n) zero ok κs qs = id⊢ 𝓤 (toks 𝓛 (suc n) κs qs)
    token_in (suc n) (suc j) ok κs qs = into (A.lft (lft_at n j ok κs.1) (share_at n j ok qs.1)) (other_tokens n j ok κs.1 qs.1) (id⊢ 𝓤 (A.lft κs.0 qs.0)) (token_in n j ok κs.1 qs.1)

    module _ (κ : Lft) (q : Share) where
      pub token_replaced : (n j : ℕ) (ok : Within n j) (κs : Lfts n) (qs : Shares n) → ent 𝓤 (sep 𝓤 (A.lft κ q) (toks 𝓛 n κs qs)) (sep 𝓤 (A.lft (lft_at n j ok κs) (share_at n j ok qs)) (toks 𝓛 n (lft_with n j ok κ κs) (share_with n j ok q qs)))
      token_replaced zero j ok κs qs = absurd ok
      token_replaced (suc n) zero ok κs qs = swaps (A.lft κ q) (A.lft κs.0 qs.0) (toks 𝓛 n κs.1 qs.1)
      token_replaced (suc n) (suc j) ok κs qs = past (A.lft κ q) (A.lft (lft_at n j ok κs.1) (share_at n j ok qs.1)) (toks 𝓛 n κs.1 qs.1) (toks 𝓛 n (lft_with n j ok κ κs.1) (share_with n j ok q qs.1)) (id⊢ 𝓤 (A.lft κs.0 qs.0)) (token_replaced n j ok κs.1 qs.1)

      pub token_taken : (n j : ℕ) (ok : Within n j) (κs : Lfts n) (qs : Shares n) → ent 𝓤 (toks 𝓛 n (lft_with n j ok κ κs) (share_with n j ok q qs)) (TokenApart n j ok κ q κs qs)
      token_taken zero j ok κs qs = absurd ok
      token_taken (suc n) zero ok κs qs = id⊢ 𝓤 (sep 𝓤 (A.lft κ q) (toks 𝓛 n κs.1 qs.1))
      token_taken (suc n) (suc j) ok κs qs = out_of (A.lft κ q) (other_tokens n j ok κs.1 qs.1) (id⊢ 𝓤 (A.lft κs.0 qs.0)) (token_taken n j ok κs.1 qs.1)

-- ---- parameters, and what is left in them
module _ {n : ℕ} (κs : Lfts n) where
  abbrev Own : (k : Kind n) → ((slot k).row κs).Denot → Fml
  Own k x = ((slot k).row κs).own_val x (spelled κs k x)

  abbrev Owns : (ks : List (Kind n)) → Denots (types_at (slots ks) κs) → Fml
  Owns ks a = owns (types_at (slots ks) κs) a (valss (types_at (slots ks) κs) (spells κs ks) a)

  abbrev LeftIn : (k : Kind n) → ((slot k).row κs).Denot → Type 0
  LeftIn k x = Last (((slot k).row κs).exit yes) x

  abbrev Left : (k : Kind n) (x : ((slot k).row κs).Denot) → LeftIn k x → Fml
  Left k x w = left (((slot k).row κs).exit yes) x w

  abbrev LeftsIn : (ks : List (Kind n)) → Denots (types_at (slots ks) κs) → Type 0
  LeftsIn ks a = Fins κs (slots ks) (all yes (slots ks)) a

  abbrev Lefts : (ks : List (Kind n)) (a : Denots (types_at (slots ks) κs)) → LeftsIn ks a → Fml
  Lefts ks a ws = lasts_of κs (slots ks) (all yes (slots ks)) a ws

  module _ (k : Kind n) (post : List (Kind n)) where
    abbrev pub param_at : (pre : List (Kind n)) → Denots (types_at (slots (pre ++ k ∷ post)) κs) → ((slot k).row κs).Denot
    param_at [] a = a.0
    param_at (p ∷ pre) a = param_at pre a.1

    pub param_is : (pre : List (Kind n)) (a : Denots (types_at (slots (pre ++ k ∷ post)) κs)) → Are (types_at (slots (pre ++ k ∷ post)) κs) (Ises (types_at (slots (pre ++ k ∷ post)) κs)) a (valss (types_at (slots (pre ++ k ∷ post)) κs) (spells κs (pre ++ k ∷ post)) a) → Is ((slot k).row κs) (param_at pre a) (spelled κs k (param_at pre a))
    param_is [] a are = are.0
    param_is (p ∷ pre) a are = param_is pre a.1 are.1

module _ (n j : ℕ) where
  abbrev aside : Kind n → Bool
  aside number = true
  aside (copied D L cs) = true
  aside (shared i ok R) = differ i j
  aside (lent i ok R) = differ i j
  aside (lent_one i ok R) = differ i j

  abbrev pub asides : List (Kind n) → Bool
  asides [] = true
  asides (k ∷ ks) = aside k && asides ks

  module _ (oj : Within n j) (κ : Lft) (κs : Lfts n) where
    abbrev κs' : Lfts n
    κs' = lft_with n j oj κ κs

    -- a parameter that is not at 'j is the same where 'j is another
    abbrev again : (k : Kind n) → ((slot k).row κs).Denot → ((slot k).row κs').Denot
    again number x = x
    again (copied D L cs) x = x
    again (shared i ok R) x = x
    again (lent i ok R) x = x
    again (lent_one i ok R) x = x

    abbrev agains : (ks : List (Kind n)) → Denots (types_at (slots ks) κs) → Denots (types_at (slots ks) κs')
    agains [] a = tt
    agains (k ∷ ks) a = (again k a.0, agains ks a.1)

    abbrev left_back : (k : Kind n) (x : ((slot k).row κs).Denot) → LeftIn κs' k (again k x) → LeftIn κs k x
    left_back number x w = w
    left_back (copied D L cs) x w = w
    left_back (shared i ok R) x w = w
    left_back (lent i ok R) x w = w
    left_back (lent_one i ok R) x w = w

    abbrev lefts_back : (ks : List (Kind n)) (a : Denots (types_at (slots ks) κs)) → LeftsIn κs' ks (agains ks a) → LeftsIn κs ks a
    lefts_back [] a ws = tt
    lefts_back (k ∷ ks) a ws = (left_back k a.0 ws.0, lefts_back ks a.1 ws.1)

    own_same : (k : Kind n) → T (aside k) → (x : ((slot k).row κs).Denot) → Own κs k x ≡ Own κs' k (again k x)
    own_same number d x = refl
    own_same (copied D L cs) d x = refl
    own_same (shared i ok R) d x = ap (λ (ι : Lft). (ShrSlice (named i) ι R).own_val x (shr_slice_vals x)) (other_lft n i j ok oj κ κs d)
    own_same (lent i ok R) d x = ap (λ (ι : Lft). (MutSlice (named i) ι R).own_val x (mut_slice_vals x)) (other_lft n i j ok oj κ κs d)
    own_same (lent_one i ok R) d x = ap (λ (ι : Lft). (MutRef (named i) ι R).own_val x (mut_vals x)) (other_lft n i j ok oj κ κs d)

    owns_same : (ks : List (Kind n)) → T (asides ks) → (a : Denots (types_at (slots ks) κs)) → Owns κs ks a ≡ Owns κs' ks (agains ks a)
    owns_same [] d a = refl
    owns_same (k ∷ ks) d a = ap₂ fsep (own_same k (both (aside k) (asides ks) d).0 a.0) (owns_same ks (both (aside k) (asides ks) d).1 a.1)

    left_same : (k : Kind n) → T (aside k) → (x : ((slot k).row κs).Denot) (w : LeftIn κs' k (again k x)) → Left κs' k (again k x) w ≡ Left κs k x (left_back k x w)
    left_same number d x w = refl
    left_same (copied D L cs) d x w = refl
    left_same (shared i ok R) d x w = refl
    left_same (lent i ok R) d x w = ap (λ (ι : Lft). left ((MutSlice (named i) ι R).exit yes) x w) (sym (other_lft n i j ok oj κ κs d))
    left_same (lent_one i ok R) d x w = ap (λ (ι : Lft). left ((MutRef (named i) ι R).exit yes) x w) (sym (other_lft n i j ok oj κ κs d))

    lefts_same : (ks : List (Kind n)) → T (asides ks) → (a : Denots (types_at (slots ks) κs)) (ws : LeftsIn κs' ks (agains ks a)) → Lefts κs' ks (agains ks a) ws ≡ Lefts κs ks a (lefts_back ks a ws)
    lefts_same [] d a ws = refl
    lefts_same (k ∷ ks) d a ws = ap₂ fsep (left_same k (both (aside k) (asides ks) d).0 a.0 ws.0) (lefts_same ks (both (aside k) (asides ks) d).1 a.1 ws.1)

    -- k' in place of k
    module _ (k k' : Kind n) (post : List (Kind n)) where
      abbrev Params : List (Kind n) → Type 0
      Params pre = Denots (types_at (slots (pre ++ k ∷ post)) κs)

      module _ (x : ((slot k').row κs').Denot) where
        abbrev pub replaced : (pre : List (Kind n)) → Params pre → Denots (types_at (slots (pre ++ k' ∷ post)) κs')
        replaced [] a = (x, agains post a.1)
        replaced (p ∷ pre) a = (again p a.0, replaced pre a.1)

        abbrev After : (pre : List (Kind n)) → Params pre → Type 0
        After pre a = LeftsIn κs' (pre ++ k' ∷ post) (replaced pre a)

        abbrev pub last_at : (pre : List (Kind n)) (a : Params pre) → After pre a → LeftIn κs' k' x
        last_at [] a ws = ws.0
        last_at (p ∷ pre) a ws = last_at pre a.1 ws.1

        abbrev pub lasts_with : (pre : List (Kind n)) (a : Params pre) → After pre a → LeftIn κs k (param_at κs k post pre a) → LeftsIn κs (pre ++ k ∷ post) a
        lasts_with [] a ws w = (w, lefts_back post a.1 ws.1)
        lasts_with (p ∷ pre) a ws w = (left_back p a.0 ws.0, lasts_with pre a.1 ws.1 w)

        abbrev pub other_lasts : (pre : List (Kind n)) (a : Params pre) → After pre a → Fml
        other_lasts [] a ws = Lefts κs post a.1 (lefts_back post a.1 ws.1)
        other_lasts (p ∷ pre) a ws = fsep (Left κs p a.0 (left_back p a.0 ws.0)) (other_lasts pre a.1 ws.1)

        -- what is left in the other parameters as the call leaves it, where 'j is another lifetime
        abbrev pub others_after : (pre : List (Kind n)) (a : Params pre) → After pre a → Fml
        others_after [] a ws = Lefts κs' post (agains post a.1) ws.1
        others_after (p ∷ pre) a ws = fsep (Left κs' p (again p a.0) ws.0) (others_after pre a.1 ws.1)

        module _ {M : Type 1} {𝓤 : Ura M} (𝓛 : Logic 𝓤) where
          abbrev ⟦◌⟧ : Fml → SProp 𝓤
          ⟦ F ⟧ = sem 𝓛 F

          is : {P Q : Fml} → P ≡ Q → ent 𝓤 ⟦ P ⟧ ⟦ Q ⟧
          is {P} e = subst (λ (F : Fml). ent 𝓤 ⟦ P ⟧ ⟦ F ⟧) e (id⊢ 𝓤 ⟦ P ⟧)

          pub part_replaced : T (asides post) → (pre : List (Kind n)) → T (asides pre) → (a : Params pre) → ent 𝓤 (sep 𝓤 ⟦ Own κs' k' x ⟧ ⟦ Owns κs (pre ++ k ∷ post) a ⟧) (sep 𝓤 ⟦ Own κs k (param_at κs k post pre a) ⟧ ⟦ Owns κs' (pre ++ k' ∷ post) (replaced pre a) ⟧)
          part_replaced z [] d a = out_of 𝓤 ⟦ Own κs k a.0 ⟧ ⟦ Owns κs' post (agains post a.1) ⟧ (id⊢ 𝓤 ⟦ Own κs' k' x ⟧) (mono_r 𝓤 ⟦ Own κs k a.0 ⟧ (is (owns_same post z a.1)))
          part_replaced z (p ∷ pre) d a = past 𝓤 ⟦ Own κs' k' x ⟧ ⟦ Own κs k (param_at κs k post pre a.1) ⟧ ⟦ Owns κs (pre ++ k ∷ post) a.1 ⟧ ⟦ Owns κs' (pre ++ k' ∷ post) (replaced pre a.1) ⟧ (is (own_same p (both (aside p) (asides pre) d).0 a.0)) (part_replaced z pre (both (aside p) (asides pre) d).1 a.1)

          pub last_out : (pre : List (Kind n)) (a : Params pre) (ws : After pre a) → ent 𝓤 ⟦ Lefts κs' (pre ++ k' ∷ post) (replaced pre a) ws ⟧ (sep 𝓤 ⟦ Left κs' k' x (last_at pre a ws) ⟧ ⟦ others_after pre a ws ⟧)
          last_out [] a ws = id⊢ 𝓤 (sep 𝓤 ⟦ Left κs' k' x ws.0 ⟧ ⟦ others_after [] a ws ⟧)
          last_out (p ∷ pre) a ws = out_of 𝓤 ⟦ Left κs' k' x (last_at pre a.1 ws.1) ⟧ ⟦ others_after pre a.1 ws.1 ⟧ (id⊢ 𝓤 ⟦ Left κs' p (again p a.0) ws.0 ⟧) (last_out pre a.1 ws.1)

          -- none of them is at 'j: as they are left where 'j is as it was
          others_same : T (asides post) → (pre : List (Kind n)) → T (asides pre) → (a : Params pre) (ws : After pre a) → others_after pre a ws ≡ other_lasts pre a ws
          others_same z [] d a ws = lefts_same post z a.1 ws.1
          others_same z (p ∷ pre) d a ws = ap₂ fsep (left_same p (both (aside p) (asides pre) d).0 a.0 ws.0) (others_same z pre (both (aside p) (asides pre) d).1 a.1 ws.1)

          pub last_out_apart : T (asides post) → (pre : List (Kind n)) → T (asides pre) → (a : Params pre) (ws : After pre a) → ent 𝓤 ⟦ Lefts κs' (pre ++ k' ∷ post) (replaced pre a) ws ⟧ (sep 𝓤 ⟦ Left κs' k' x (last_at pre a ws) ⟧ ⟦ other_lasts pre a ws ⟧)
          last_out_apart z pre d a ws = subst (λ (F : Fml). ent 𝓤 ⟦ Lefts κs' (pre ++ k' ∷ post) (replaced pre a) ws ⟧ (sep 𝓤 ⟦ Left κs' k' x (last_at pre a ws) ⟧ ⟦ F ⟧)) (others_same z pre d a ws) (last_out pre a ws)

          pub last_in : (pre : List (Kind n)) (a : Params pre) (ws : After pre a) (w : LeftIn κs k (param_at κs k post pre a)) → ent 𝓤 (sep 𝓤 ⟦ Left κs k (param_at κs k post pre a) w ⟧ ⟦ other_lasts pre a ws ⟧) ⟦ Lefts κs (pre ++ k ∷ post) a (lasts_with pre a ws w) ⟧
          last_in [] a ws w = id⊢ 𝓤 (sep 𝓤 ⟦ Left κs k a.0 w ⟧ ⟦ other_lasts [] a ws ⟧)
          last_in (p ∷ pre) a ws w = into 𝓤 ⟦ Left κs k (param_at κs k post pre a.1) w ⟧ ⟦ other_lasts pre a.1 ws.1 ⟧ (id⊢ 𝓤 ⟦ Left κs p a.0 (left_back p a.0 ws.0) ⟧) (last_in pre a.1 ws.1 w)
