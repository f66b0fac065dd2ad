-- Demand 3: a noise byte separates what stands before it from what stands behind it, and which noise byte it is does not matter.
-- The statements; their proofs are in Demand3/.
use Rattle.std.specs.Prelude.{◌≡◌, ◌≢◌, ℕ, suc, ◌+◌, ◌≤◌, cond, List, [], ◌∷◌, ◌++◌, map, length, get_or, take, T, eqb}
use Rattle.std.proofs.Math.Option.{some}
use Rattle.text.specs.Each.{Each}
use Rattle.text.specs.Utf8.{noise, all_noise, noises_of}
use Rattle.text.specs.Class.{Profile}
use Rattle.text.specs.Calls.{lent}
use Rattle.text.specs.Overstrike as overstrike
use Rattle.spans.specs.Spans.{Record, a_record}
use Rattle.spans.specs.Calls.{no_record}
use Rattle.drawing.specs.Draw.Noise.{TwinChange, MarkByte}
use Rattle.noise.specs.Calls.{Call, read, Outcome, answer, without_matches, conv_of, places_of, changes_of}
pub mod Examples

-- ---- separation: two parts, each of any bytes or none, with one or more noise bytes between them

-- the records that an accepted call lists: those before the zeros
unfoldable pub listed : Outcome → List Record
listed a = take a.count a.spans

-- byte places moved on by k
unfoldable pub moved : ℕ → Record → Record
moved k r = a_record r.kind (r.place.0 + k) r.len r.matched

-- a record of kind Invalid, length 1 and match number 0 for each noise byte, from place p on
unfoldable pub noise_records : ℕ → List ℕ → List Record
noise_records p [] = []
noise_records p (n ∷ ns) = a_record 4 p 1 0 ∷ noise_records (suc p) ns

module _ (P : Profile) (first noises second : List ℕ) where
  -- the first part's records, the noise bytes', and the second part's, behind the c bytes of the first part's converted line
  unfoldable pub together : List Record → List Record → List Record
  together before behind =
      let c : ℕ = length (overstrike.convert P first) in
      before ++ (noise_records c noises ++ map (moved (c + length noises)) behind)

  abbrev pub line : List ℕ
  line = first ++ (noises ++ second)

  -- what reading lists of each part, lent conv bytes and `places` records, put together
  abbrev pub of_both : (conv places : ℕ) → List Record
  of_both conv places = together (listed (answer P (read conv places []) first)) (listed (answer P (read conv places []) second))

  -- reading each part is accepted, and the line's spans are those of both
  pub record Separated (conv places : ℕ) : Type 0 where
    pub first_accepted : (answer P (read conv places []) first).number ≡ 0
    pub second_accepted : (answer P (read conv places []) second).number ≡ 0
    pub spans : listed (answer P (read conv places []) line) ≡ of_both conv places

  -- the call c with n places for spans: reading the line with its sizes is accepted and separated, and c leaves these same records, and zeros after them
  pub record SeparatedCall (c : Call) (n : ℕ) : Type 0 where
    pub read_accepted : (answer P (read (conv_of c) n []) line).number ≡ 0
    pub separated : Separated (conv_of c) n
    pub spans : (answer P c line).spans ≡ lent no_record n (of_both (conv_of c) n) 0

  pub record SeparatedLine : Type 0 where
    -- where reading the line is accepted, it is separated
    pub reading : (conv places : ℕ) → (answer P (read conv places []) line).number ≡ 0 → Separated conv places
    -- and every other accepted call on this line without matches, conversion apart
    pub others : (c : Call) (n : ℕ) → places_of c ≡ some n → T (without_matches c) → (answer P c line).number ≡ 0 → SeparatedCall c n

  abbrev pub Separation : Type 0
  Separation = 1 ≤ length noises → T (all_noise noises) → SeparatedLine

-- ---- exchange: two lines of equal length that differ only at places where both hold a noise byte

pub record Exchanged (s t : List ℕ) : Type 0 where
  pub length : length s ≡ length t
  pub differ : (i : ℕ) → get_or s i 0 ≢ get_or t i 0 → T (noise (get_or s i 0)) × T (noise (get_or t i 0))

-- a byte of each converted line: the same, or the noise bytes that the lines s and t hold at one place
pub data ExchangedByte (s t : List ℕ) : ℕ → ℕ → Type 0 where
  same : {b : ℕ} → ExchangedByte s t b b
  exchanged : (i : ℕ) → T (noise (get_or s i 0)) → T (noise (get_or t i 0)) → ExchangedByte s t (get_or s i 0) (get_or t i 0)

-- a call leaves the noise bytes of its line, all of them in order, in the conversion buffer; none where it is refused
abbrev pub OwnNoises : Profile → Call → List ℕ → Type 0
OwnNoises P c s = noises_of (answer P c s).conv ≡ cond (eqb (answer P c s).number 0) (noises_of s) []

-- what the call c answers to the lines s and t
pub record Alike (P : Profile) (c : Call) (s t : List ℕ) : Type 0 where
  pub number : (answer P c s).number ≡ (answer P c t).number
  pub count : (answer P c s).count ≡ (answer P c t).count
  pub spans : (answer P c s).spans ≡ (answer P c t).spans
  pub rows : (answer P c s).rows ≡ (answer P c t).rows
  -- converted lines differ at most in the noise bytes exchanged: byte by byte the same, or the pair at one place of the lines
  pub conv : Each (ExchangedByte s t) (answer P c s).conv (answer P c t).conv
  -- and each holds the noise bytes of its own line
  pub first_noises : OwnNoises P c s
  pub second_noises : OwnNoises P c t
  -- changes, one by one: the same, or the same clipping of the marks of the noise bytes at one place of the two converted lines
  pub changes : Each (TwinChange P (overstrike.convert P s) (overstrike.convert P t)) (changes_of P c s) (changes_of P c t)
  -- change lists, byte by byte: the same, or the same hexadecimal digit of those marks, each list showing its own line's
  pub list : Each (MarkByte (overstrike.convert P s) (overstrike.convert P t)) (answer P c s).list (answer P c t).list

-- any one call without matches on each line, for any profile in which the sixteen digits have no break class and width 1
abbrev pub Exchange : Profile → Type 0
Exchange P = (c : Call) → T (without_matches c) → (s t : List ℕ) → Exchanged s t → Alike P c s t
