-- Parameter strings: what parameters they write, of which bytes they are, and which are allowed.
use Rattle.std.specs.Prelude.{◌≡◌, refl, ℕ, ◌+◌, ◌-◌, ◌*◌, ◌≤◌, true, List, [], ◌∷◌, ◌++◌, length}
use Rattle.std.proofs.Common.{sym, ap, ◌∙◌, append-nil, le-leb}
use Rattle.text.specs.Each.{All, all_nil, all_cons, all_append, all_map}
use Rattle.spans.specs.Sgr.{digit, parameters, all_at_most, allowed}
use Rattle.spans.specs.Sequence.{parameter_byte}

abbrev pub Digit : ℕ → Type 0
Digit d = digit d ≡ true

-- the number that decimal digits write behind those of v
unfoldable pub value_from : ℕ → List ℕ → ℕ
value_from v [] = v
value_from v (d ∷ ds) = value_from (v * 10 + (d - 0x30)) ds

-- one digit more, and a zero in front
pub value_last : (ds : List ℕ) (v d : ℕ) → value_from v (ds ++ d ∷ []) ≡ value_from v ds * 10 + (d - 0x30)
unfolding value_from
value_last [] v d = refl
value_last (c ∷ ds) v d = value_last ds (v * 10 + (c - 0x30)) d

pub value_zero : (ds : List ℕ) → value_from 0 (0x30 ∷ ds) ≡ value_from 0 ds
unfolding value_from
value_zero ds = refl

-- decimal digits that write n; none write 0
pub record Numeral (ds : List ℕ) (n : ℕ) : Type 0 where
  pub digits : All Digit ds
  pub value : value_from 0 ds ≡ n

-- a parameter string (ECMA-48, 5.4.2) and its parameters: numerals, `;` between them
pub data ParameterString : List ℕ → List ℕ → Type 0 where
  last : {ds : List ℕ} {n : ℕ} → Numeral ds n → ParameterString ds (n ∷ [])
  next : {ds s ps : List ℕ} {n : ℕ} → Numeral ds n → ParameterString s ps → ParameterString (ds ++ 0x3B ∷ s) (n ∷ ps)

parameters_digits : {ds : List ℕ} (v : ℕ) (s : List ℕ) → All Digit ds → parameters v (ds ++ s) ≡ parameters (value_from v ds) s
unfolding parameters value_from
parameters_digits v s all_nil = refl
parameters_digits v s (all_cons {a = d} h a) = rw h (parameters_digits (v * 10 + (d - 0x30)) s a)

parameters_numeral : {ds : List ℕ} {n : ℕ} (s : List ℕ) → Numeral ds n → parameters 0 (ds ++ s) ≡ parameters n s
parameters_numeral s w = parameters_digits 0 s w.digits ∙ ap (λ (v : ℕ). parameters v s) w.value

pub string_parameters : {s ps : List ℕ} → ParameterString s ps → parameters 0 s ≡ ps
unfolding parameters
string_parameters (last {ds = ds} w) = ap (parameters 0) (sym (append-nil ds)) ∙ parameters_numeral [] w
string_parameters (next {s = s} {n = n} w f) = parameters_numeral (0x3B ∷ s) w ∙ ap (λ (ps : List ℕ). n ∷ ps) (string_parameters f)

digits_bytes : {ds : List ℕ} → All Digit ds → All (λ (b : ℕ). parameter_byte b ≡ true) ds
digits_bytes a = all_map (λ d h. rw h refl) a

pub string_bytes : {s ps : List ℕ} → ParameterString s ps → All (λ (b : ℕ). parameter_byte b ≡ true) s
string_bytes (last w) = digits_bytes w.digits
string_bytes (next w f) = all_append (digits_bytes w.digits) (all_cons refl (string_bytes f))

all_at_most_law : (m : ℕ) {ps : List ℕ} → All (λ (p : ℕ). p ≤ m) ps → all_at_most m ps ≡ true
unfolding all_at_most
all_at_most_law m all_nil = refl
all_at_most_law m (all_cons {a = p} h a) = rw (le-leb p m h) (all_at_most_law m a)

pub are_allowed : {ps : List ℕ} → length ps ≤ 32 → All (λ (p : ℕ). p ≤ 65535) ps → allowed ps ≡ true
unfolding allowed
are_allowed {ps} h a = rw (le-leb (length ps) 32 h) (all_at_most_law 65535 a)
