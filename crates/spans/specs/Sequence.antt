-- The sequences that begin with ESC, as document 01 lists them. A byte that is missing reads as 0, which is part of no sequence.
use Rattle.std.specs.Prelude.{ℕ, suc, ◌+◌, ◌-◌, Bool, true, false, not, cond, ◌&&◌, ◌||◌, List, [], ◌∷◌, drop, get_or, eqb, leb}
use Rattle.spans.specs.Sgr.{digit, parameters, allowed, orders}
use Rattle.spans.specs.declared.sgr.Sgr.{Sgr}
pub mod Laws
pub mod Until
pub mod Hyperlink
pub mod ControlSequence
pub mod Contracts

-- what a sequence is; the place of a hyperlink's URI is counted from the ESC
pub data Sequence : Type 0 where
  sgr : List Sgr → Sequence
  erase_to_end ignored : Sequence
  hyperlink : ℕ → ℕ → Sequence
  line_drawing : Bool → Sequence

-- a sequence and its length, the ESC counted; or none
pub data Found : Type 0 where
  found : Sequence → ℕ → Found
  missing : Found

-- how many bytes in front pass the test
unfoldable pub leading : (ℕ → Bool) → List ℕ → ℕ
leading p [] = 0
leading p (b ∷ s) = let more : ℕ = suc (leading p s) in cond (p b) more 0

-- the first place from i on whose byte does not pass it
unfoldable pub past : (ℕ → Bool) → List ℕ → ℕ → ℕ
unfolding leading
past p s i = i + leading p (drop i s)

-- ---- behind `ESC [`: n parameter bytes and a final byte

abbrev pub parameter_byte : ℕ → Bool
parameter_byte b = digit b || eqb b 0x3B

-- `m`: recognised if the first parameter is known
unfoldable pub if_known : List Sgr → ℕ → Found
if_known [] n = missing
if_known (o ∷ os) n = found (sgr (o ∷ os)) (3 + n)

-- `K` behind n parameter bytes, of which a is the first
unfoldable pub erase : ℕ → ℕ → Found
erase n a =
    cond (eqb n 0 || (eqb n 1 && eqb a 0x30)) (found erase_to_end (3 + n))
    (cond (eqb n 1 && (eqb a 0x31 || eqb a 0x32)) (found ignored (3 + n)) missing)

-- one of @ABCDEFGHJLMPSTXZdf
abbrev pub final : ℕ → Bool
final b = (leb 0x40 b && leb b 0x48) || (eqb b 0x4A || (eqb b 0x4C || (eqb b 0x4D || (eqb b 0x50 || (eqb b 0x53 || (eqb b 0x54 || (eqb b 0x58 || (eqb b 0x5A || (eqb b 0x64 || eqb b 0x66)))))))))

unfoldable pub csi : List ℕ → Found
unfolding leading allowed parameters orders if_known erase
csi s =
    let n : ℕ = leading parameter_byte s in
    let f : ℕ = get_or s n 0 in
    let ps : List ℕ = parameters 0 s in
    cond (eqb f 0x6D) (cond (allowed ps) (if_known (orders ps) n) missing)
    (cond (eqb f 0x4B) (erase n (get_or s 0 0)) (cond (final f) (found ignored (3 + n)) missing))

-- ---- behind `ESC (`

unfoldable pub charset : List ℕ → Found
charset s = cond (eqb (get_or s 0 0) 0x30) (found (line_drawing true) 3) (cond (eqb (get_or s 0 0) 0x42) (found (line_drawing false) 3) missing)

-- ---- behind `ESC ]`: `8 ;`, bytes without `;`, `;`, a URI, and 07 or `ESC \`

-- what a URI may hold, and what may stand before its `;`
abbrev pub uri_byte : ℕ → Bool
uri_byte b = leb 0x20 b && not (eqb b 0x7F)

abbrev pub id_byte : ℕ → Bool
id_byte b = uri_byte b && not (eqb b 0x3B)

-- a URI from m to e, which the bytes b and c follow
unfoldable pub closed : ℕ → ℕ → ℕ → ℕ → Found
closed m e b c =
    cond (eqb b 0x07) (found (hyperlink (2 + m) (e - m)) (3 + e))
    (cond (eqb b 0x1B && eqb c 0x5C) (found (hyperlink (2 + m) (e - m)) (4 + e)) missing)

unfoldable pub osc : List ℕ → Found
unfolding past closed
osc s =
    let i : ℕ = past id_byte s 2 in
    let e : ℕ = past uri_byte s (i + 1) in
    cond (eqb (get_or s 0 0) 0x38 && (eqb (get_or s 1 0) 0x3B && eqb (get_or s i 0) 0x3B)) (closed (i + 1) e (get_or s e 0) (get_or s (e + 1) 0)) missing

-- ---- behind ESC

unfoldable pub parse : List ℕ → Found
unfolding csi charset osc
parse s =
    let behind : List ℕ = drop 1 s in
    cond (eqb (get_or s 0 0) 0x5B) (csi behind) (cond (eqb (get_or s 0 0) 0x28) (charset behind) (cond (eqb (get_or s 0 0) 0x5D) (osc behind) missing))
