-- What is printed between two cells leads from the attributes of the one to those of the other.
use Rattle.std.specs.Prelude.{◌≡◌, refl, ℕ, zero, suc, ◌+◌, ◌≤◌, ◌<◌, Bool, true, false, ◌&&◌, List, [], ◌++◌, length, take, drop, get_or, replicate, T, eqb}
use Rattle.std.proofs.Common.{ap, ◌∙◌, arith, length-take-le, get_or-take, get_or-drop, eqb→eq, eq-eqb}
use Rattle.std.proofs.Math.ListN.{get_or-append}
use Rattle.text.specs.Tests.{and_T, true_T, cases}
use Rattle.text.specs.Each.{All}
use Rattle.text.specs.Overstrike.Bytes.{Byte}
use Rattle.buffer.specs.Numbers.{le4}
use Rattle.buffer.specs.Numbers.Laws.{le4_length}
use Rattle.spans.specs.Sequence.{sgr, found, parse}
use Rattle.spans.specs.declared.sgr.Sgr.{Sgr}
use Rattle.drawing.specs.declared.attributes.Attributes.{Attributes}
use Rattle.drawing.specs.declared.attributes.Link.{Link}
use Rattle.drawing.specs.Attributes.{plain_with, apply_all}
use Rattle.drawing.specs.Change.{attribute_bytes}
use Rattle.screen.specs.WellFormed.{body_size, fields}
use Rattle.screen.specs.WellFormed.Laws.{byte_behind, fields_are, body_attributes}
use Rattle.show_io.specs.Ansi.{alike, same_style}
use Rattle.show_io.specs.Ansi.Contracts.{style_change}
use Rattle.show_io.specs.Ansi.Orders.{StyleRead, style_read}

-- attributes are those of a body, the link apart
abbrev pub InForce : List ℕ → Attributes → Type 0
InForce x a = same_style (attribute_bytes a) x ≡ true

-- bytes take attributes to others: none leave them, and a sequence that is recognised whole, whatever follows, applies its orders
pub data Leads (a : Attributes) : List ℕ → Attributes → Type 0 where
  stays : Leads a [] a
  ordered : {s : List ℕ} (os : List Sgr) → ((t : List ℕ) → parse (drop 1 (s ++ t)) ≡ found (sgr os) (length s)) → Leads a s (apply_all a os)

-- from the attributes of the body x to those of b
pub record ChangeRead (x b : List ℕ) : Type 0 where
  pub after : Attributes → Attributes
  pub leads : (a : Attributes) → Leads a (style_change x b) (after a)
  pub reached : (a : Attributes) → InForce x a → InForce b (after a)

-- ---- bytes alike

alike_through : (n at : ℕ) (a x b : List ℕ) → T (alike n at a x) → T (alike n at x b) → T (alike n at a b)
unfolding alike
alike_through zero at a x b s t = tt
alike_through (suc n) at a x b s t =
    let p = and_T (eqb (get_or a at 0) (get_or x at 0)) (alike n (suc at) a x) s in
    let q = and_T (eqb (get_or x at 0) (get_or b at 0)) (alike n (suc at) x b) t in
    let e : eqb (get_or a at 0) (get_or b at 0) ≡ true = eq-eqb (get_or a at 0) (get_or b at 0) (eqb→eq (get_or a at 0) (get_or x at 0) p.0 ∙ eqb→eq (get_or x at 0) (get_or b at 0) q.0) in
    rw e (alike_through n (suc at) a x b p.1 q.1)

pub alike_same : (n at : ℕ) (a b : List ℕ) → ((i : ℕ) → at ≤ i → i < at + n → get_or a i 0 ≡ get_or b i 0) → T (alike n at a b)
unfolding alike
alike_same zero at a b f = tt
alike_same (suc n) at a b f = rw (eq-eqb (get_or a at 0) (get_or b at 0) (f at (omega arith) (omega arith))) (alike_same n (suc at) a b (λ i h k. f i (omega arith) (omega arith)))

both_true : (p q : Bool) → T p → T q → (p && q) ≡ true
both_true true true s t = refl
both_true true false s t = absurd t
both_true false q s t = absurd s

style_through : (a x b : List ℕ) → same_style a x ≡ true → same_style x b ≡ true → same_style a b ≡ true
style_through a x b e f =
    let p = and_T (alike 16 0 a x) (alike 1 24 a x) (true_T e) in
    let q = and_T (alike 16 0 x b) (alike 1 24 x b) (true_T f) in
    both_true (alike 16 0 a b) (alike 1 24 a b) (alike_through 16 0 a x b p.0 q.0) (alike_through 1 24 a x b p.1 q.1)

-- ---- a body's own bytes

module _ (b : List ℕ) (size : length b ≡ body_size) (p n : ℕ) where
  abbrev whole : List ℕ
  whole = take 16 b ++ (le4 p ++ (le4 n ++ drop 24 b))

  long : length (take 16 b) ≡ 16
  long = length-take-le 16 b (omega arith)

  front : (i : ℕ) → i < 16 → get_or whole i 0 ≡ get_or b i 0
  front i h = get_or-append (take 16 b) (le4 p ++ (le4 n ++ drop 24 b)) 0 i (omega (arith, long)) ∙ get_or-take 16 b i 0 h

  last : get_or whole 24 0 ≡ get_or b 24 0
  last =
      byte_behind (take 16 b) (le4 p ++ (le4 n ++ drop 24 b)) 16 8 long ∙ byte_behind (le4 p) (le4 n ++ drop 24 b) 4 4 (le4_length p)
      ∙ byte_behind (le4 n) (drop 24 b) 4 0 (le4_length n) ∙ get_or-drop 24 b 0 0

  whole_same : same_style whole b ≡ true
  whole_same =
      both_true (alike 16 0 whole b) (alike 1 24 whole b)
      (alike_same 16 0 whole b (λ i h k. front i (omega arith)))
      (alike_same 1 24 whole b (λ i h k. let e : i ≡ 24 = omega arith in rw e last))

-- ---- the law

-- a row begins in default attributes
pub begins : (l : Link) → InForce [] (plain_with l)
unfolding alike fields plain_with
begins l =
    let b : List ℕ = replicate body_size 0 in
    style_through (attribute_bytes (plain_with l)) b [] (ap (λ (s : List ℕ). same_style s b) (body_attributes b refl (fields_are b refl) l) ∙ whole_same b refl l.place.0 l.len) refl

pub change_read : (x b : List ℕ) → All Byte b → length b ≡ body_size → fields b ≡ true → ChangeRead x b
change_read x b bytes size is =
    let r : StyleRead b = style_read b bytes size is in
    cases (same_style x b)
    (λ e. record {
      after = λ a. a;
      leads = λ a. rw e stays;
      reached = λ a f. style_through (attribute_bytes a) x b f e;
    })
    (λ e. record {
      after = λ a. apply_all a r.orders;
      leads = λ a. rw e (ordered r.orders r.recognised);
      reached = λ a f. ap (λ (s : List ℕ). same_style s b) (r.applied a) ∙ whole_same b size a.link.place.0 a.link.len;
    })
