-- Crew's view and bench's view (document 02, U12): another URI of the same length in a URI's stead changes nothing that a reader is sent.
-- The statement; its proof is in Crew/.
use Rattle.std.specs.Prelude.{◌≡◌, ℕ, false, List, [], ◌++◌, length}
use Rattle.std.proofs.Math.Option.{Option}
use Rattle.text.specs.Class.{Profile}
use Rattle.text.specs.Cluster.Printable.{Printable}
use Rattle.text.specs.Overstrike.{has_backspace}
use Rattle.drawing.specs.Calls.{Drawn, window_call, row_call}
use Rattle.crew.specs.Crew.Hyperlinks.{Linked}
pub mod Hyperlinks
pub mod SameSpans
pub mod ReadForm
pub mod Views
pub mod Examples

-- the line has no backspace, and between p and s stands the URI u of a hyperlink that is read; v is as long. Both are of bytes 20 to 7E;
-- 3B does no harm
pub record AnotherUri (P : Profile) (p u v s : List ℕ) : Type 0 where
  pub linked : Linked P (p ++ (u ++ s)) (length p) (length u)
  pub printable : Printable u
  pub other : Printable v
  pub length : length u ≡ length v
  pub no_backspace : has_backspace (p ++ (u ++ s)) ≡ false

-- two drawings: refused or not, all but the converted lines is equal
pub record SameDrawn (a b : Drawn) : Type 0 where
  pub number : a.number ≡ b.number
  pub count : a.count ≡ b.count
  pub spans : a.spans ≡ b.spans
  pub list : a.list ≡ b.list

-- both drawings of two lines without matches, for every reader, whatever is asked and lent
pub record SameView (P : Profile) (l m : List ℕ) : Type 0 where
  pub window : (reader conv places room start end : ℕ) (current : Option ℕ)
      → SameDrawn (window_call P reader conv places room start end current [] l) (window_call P reader conv places room start end current [] m)
  pub row : (reader conv places room first count width mode : ℕ) (current : Option ℕ)
      → SameDrawn (row_call P reader conv places room first count width mode current [] l) (row_call P reader conv places room first count width mode current [] m)

abbrev pub Unseen : Profile → Type 0
Unseen P = (p u v s : List ℕ) → AnotherUri P p u v s → SameView P (p ++ (u ++ s)) (p ++ (v ++ s))
