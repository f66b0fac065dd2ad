-- What the contracts of src/stored.rt say: the refusal that comes before 9, and records that can be written.
use Rattle.std.specs.Prelude.{◌≡◌, ℕ, Bool, true, cond, ◌&&◌, List, Result, Ok, Err}
use Rattle.text.specs.Calls.Code.{number_of}
use Rattle.text.specs.declared.refusal.Refusal.{Refusal}
use Rattle.text.specs.Each.{All}
use Rattle.screen.specs.Records.{Record, records}
use Rattle.screen.specs.Records.Contracts.{LengthSize}
use Rattle.screen.specs.WellFormed.{body_sizes, of_kind, well_formed}
use Rattle.screen.specs.Stored.{short}

abbrev pub whole_record : ℕ → List ℕ → Record
whole_record k b = record { whole = true; kind = k; body = b }

abbrev pub is_formed : Bool → Record → Bool
is_formed old r = r.whole && of_kind (body_sizes old) r.kind r.body

-- questions 10 and 12
abbrev pub refusal_of : Bool → List Record → ℕ
refusal_of old rs = cond (well_formed (body_sizes old) rs) (cond (short rs) 0 12) 10

-- the number of a refusal, or 0
abbrev pub refusal_in : Result (Unit {0}) Refusal → ℕ
refusal_in (Ok u) = 0
refusal_in (Err e) = number_of e

pub record WriteRecordsReady (list : List ℕ) (from : ℕ) : Type 0 where
  pub sizes : LengthSize from
  pub whole : All (λ (r : Record). r.whole ≡ true) (records from list)
