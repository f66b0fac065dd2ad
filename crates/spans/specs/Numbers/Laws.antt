-- The span list as plain numbers: what is left to push, what the numbers hold at the end, and how many places are lent.
use Rattle.std.specs.Prelude.{◌≡◌, refl, ℕ, zero, suc, ◌+◌, ◌-◌, ◌*◌, ◌/◌, ◌≤◌, ◌<◌, true, List, [], ◌∷◌, ◌++◌, length, take, drop, get_or, replicate, leb}
use Rattle.std.proofs.Common.{sym, ap, ap₂, ◌∙◌, add-one, arith, drop_of_length-le, drop-cons, le-leb}
use Rattle.std.proofs.Math.Seq.{take-append_seam}
use Rattle.buffer.specs.Numbers.Laws.{smaller_left, smaller_right}
use Rattle.buffer.specs.Sink.{Sink, sink, put, emit, written_or_zero, written}
use Rattle.buffer.specs.Sink.Laws.{emit_none, emit_append, emit_room}
use Rattle.buffer.specs.Numbering.{Numbering}
use Rattle.text.specs.declared.Answer.{Answer}
use Rattle.spans.specs.Spans.{Record}
use Rattle.spans.specs.Calls.{Read, no_record}
use Rattle.spans.specs.Calls.Contracts.{read_as}
use Rattle.spans.specs.Numbers.{numbers_of, numbers_of_all, places_in, ReadNumbers}

-- four pushes are one of four
pub push_four : (s s₁ s₂ s₃ s₄ : Sink ℕ) (a b c d : ℕ) → s₁ ≡ put s a → s₂ ≡ put s₁ b → s₃ ≡ put s₂ c → s₄ ≡ put s₃ d → s₄ ≡ emit s (a ∷ b ∷ c ∷ d ∷ [])
unfolding emit
push_four s s₁ s₂ s₃ s₄ a b c d e f g h = h ∙ ap (λ (k : Sink ℕ). put k d) (g ∙ ap (λ (k : Sink ℕ). put k c) (f ∙ ap (λ (k : Sink ℕ). put k b) e))

-- ---- `write_numbers`: a turn, and the end

pub push_turn : (rs : List Record) (i : ℕ) (l l' : List ℕ) (at r : ℕ) {e : Sink ℕ} → i < length rs → emit (sink l at) (numbers_of_all (drop i rs)) ≡ e → sink l' r ≡ emit (sink l at) (numbers_of (get_or rs i no_record)) → emit (sink l' r) (numbers_of_all (drop (i + 1) rs)) ≡ e
unfolding numbers_of_all
push_turn rs i l l' at r h w s =
    let y : Record = get_or rs i no_record in
    let d : drop i rs ≡ y ∷ drop (i + 1) rs = drop-cons rs i no_record h ∙ ap (λ (k : ℕ). y ∷ drop k rs) (sym (add-one i)) in
    ap (λ (k : Sink ℕ). emit k (numbers_of_all (drop (i + 1) rs))) s ∙ sym (emit_append (sink l at) (numbers_of y) (numbers_of_all (drop (i + 1) rs))) ∙ ap (λ (ys : List Record). emit (sink l at) (numbers_of_all ys)) (sym d) ∙ w

push_end : (rs : List Record) (i : ℕ) (s : Sink ℕ) {e : Sink ℕ} → length rs ≤ i → emit s (numbers_of_all (drop i rs)) ≡ e → s ≡ e
unfolding numbers_of_all
push_end rs i s h w = sym (emit_none s) ∙ ap (λ (ys : List Record). emit s (numbers_of_all ys)) (sym (drop_of_length-le rs h)) ∙ w

pub numbers_length : (rs : List Record) → length (numbers_of_all rs) ≡ 4 * length rs
unfolding numbers_of_all
numbers_length [] = refl
numbers_length (r ∷ rs) = omega (arith, numbers_length rs)

pub numbers_take : (rs : List Record) (zs : List ℕ) (k : ℕ) → k ≤ length rs → take (4 * k) (numbers_of_all rs ++ zs) ≡ numbers_of_all (take k rs)
unfolding numbers_of_all
numbers_take rs zs zero h = refl
numbers_take [] zs (suc k) h = absurd (omega arith)
numbers_take (r ∷ rs) zs (suc k) h =
    let e : 4 * suc k ≡ suc (suc (suc (suc (4 * k)))) = omega arith in
    rw e (ap (λ (l : List ℕ). numbers_of r ++ l) (numbers_take rs zs k (omega arith)))

abbrev list_of : Sink ℕ → List ℕ
list_of (sink l n) = l

abbrev count_of : Sink ℕ → ℕ
count_of (sink l n) = n

pub numbers_end : (before pushed : List ℕ) (rs : List Record) (i n : ℕ) {after : List ℕ} → 4 * length rs ≤ length before → length pushed ≡ length before → length rs ≤ i → emit (sink pushed n) (numbers_of_all (drop i rs)) ≡ emit (sink before 0) (numbers_of_all rs)
    → after ≡ take n pushed ++ replicate (length pushed - n) 0 → after ≡ written_or_zero (length before) (numbers_of_all rs)
unfolding written_or_zero
numbers_end before pushed rs i n h k past p f =
    let xs : List ℕ = numbers_of_all rs in
    let w : sink pushed n ≡ sink (written before 0 xs) (0 + length xs) = push_end rs i (sink pushed n) past p ∙ emit_room before xs 0 (omega (arith, numbers_length rs)) in
    let m : n ≡ length xs = ap count_of w ∙ omega arith in
    let t : take n pushed ≡ xs = ap₂ take m (ap list_of w) ∙ take-append_seam xs (drop (0 + length xs) before) in
    let q : length pushed - n ≡ length before - length xs = omega arith in
    let b : leb (length xs) (length before) ≡ true = le-leb (length xs) (length before) (omega (arith, numbers_length rs)) in
    f ∙ ap₂ (λ (l : List ℕ) (j : ℕ). l ++ replicate j 0) t q ∙ rw b refl

-- ---- the places that are lent

pub places_few : (m : ℕ) → places_in m ≤ 2048
places_few m = smaller_right (m / 4) 2048 (places_in m) refl

pub places_wide : (m : ℕ) → 4 * places_in m ≤ m
places_wide m = omega (arith, smaller_left (m / 4) 2048 (places_in m) refl)

abbrev pub spans_as_numbers : Numbering Record
spans_as_numbers = record { size = 2048; none = no_record; places = places_in; each = 4; numbers = λ n rs. written_or_zero n (numbers_of_all rs); few = places_few; wide = places_wide }

-- ---- a call that was lent those places

pub read_told : (call : ℕ → Read) {k m : ℕ} → k ≡ places_in m → {a : Answer} {conv numbers : List ℕ} {ys : List Record} → read_as a conv ys ≡ call k → numbers ≡ written_or_zero m (numbers_of_all ys) → ReadNumbers (call (places_in m)) m a conv numbers
read_told call {m = m} h e f =
    let p = e ∙ ap call h in
    record {
      number = ap (λ (x : Read). x.number) p;
      count = ap (λ (x : Read). x.count) p;
      bytes = ap (λ (x : Read). x.conv) p;
      records = f ∙ ap (λ (x : Read). written_or_zero m (numbers_of_all x.spans)) p;
    }
