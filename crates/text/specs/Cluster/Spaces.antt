-- Whitespace begins a cluster wherever no whitespace stands before it.
use Rattle.std.specs.Prelude.{◌%◌, ◌-◌, suc, ℕ, Bool, cond, false, true, List, [], ◌∷◌, ◌≢◌, ◌≡◌, refl, T, eqb}
use Rattle.std.proofs.Common.{arith, sym, eqb-true}
use Rattle.text.specs.Tests.{cases, true_T, every}
use Rattle.text.specs.Utf8.{Scalar, to, within}
use Rattle.text.specs.Class.{Class, Profile, among, class01, class_l, class_lv, class_lvt, class_t, class_v, control, controls, extend, extended_pictographic, extends, in_any, lf, number, other, pictographs, regional_indicator, spaces, whitespace, zwj}
use Rattle.text.specs.Class.Laws.{alone_or_lf}
use Rattle.text.specs.Class.Ranges.{each_in, each_in_law}
use Rattle.text.specs.Width.{profile01}
use Rattle.text.specs.Cluster.{Context, context, joined, joins}
use Rattle.text.specs.Class.Code.{profile_of}
use Rattle.text.specs.Segmentation.Boundaries.{apart_numbers}
use Rattle.text.specs.declared.class.Profile as code

-- what stands before, the nearest first, ends in no whitespace
abbrev pub NoSpaceBefore : List Scalar → Type 0
NoSpaceBefore [] = Unit {0}
NoSpaceBefore (d ∷ before) = whitespace d.code ≡ false

-- what is asked of a profile
pub record SpacesBegin (P : Profile) : Type 0 where
  pub begins : (before : List Scalar) (c : Scalar) → NoSpaceBefore before → whitespace c.code ≡ true → joins P before c ≡ false

-- ---- document 01's profile

space_class : ℕ → Bool
space_class x = alone_or_lf (number (class01 x))

spaces_classed : T (each_in spaces space_class)
unfolding each_in every spaces space_class among number class01
spaces_classed = tt

some_class : (b : Bool) (x y : Class) → (number x ≢ 0) → (number y ≢ 0) → (number (cond b x y) ≢ 0)
some_class true x y f g = f
some_class false x y f g = g

some : (n : ℕ) → (suc n ≢ 0)
some n z = absurd (omega arith)

-- CR alone has CR's class
only_cr : (x : ℕ) → eqb x 0x0D ≡ false → (number (class01 x) ≢ 0)
unfolding class01 number
only_cr x e =
    rw e (
    some_class (eqb x 0x0A) lf _ (some 0)
    (some_class (in_any controls x) control _ (some 1)
    (some_class (in_any extends x) extend _ (some 2)
    (some_class (eqb x 0x200D) zwj _ (some 3)
    (some_class (in_any (to 0x1100 0x115F ∷ to 0xA960 0xA97C ∷ []) x) class_l _ (some 4)
    (some_class (in_any (to 0x1160 0x11A7 ∷ to 0xD7B0 0xD7C6 ∷ []) x) class_v _ (some 5)
    (some_class (in_any (to 0x11A8 0x11FF ∷ to 0xD7CB 0xD7FB ∷ []) x) class_t _ (some 6)
    (some_class (within (to 0xAC00 0xD7A3) x) (cond (eqb ((x - 0xAC00) % 28) 0) class_lv class_lvt) _ (some_class (eqb ((x - 0xAC00) % 28) 0) class_lv class_lvt (some 7) (some 8))
    (some_class (within (to 0x1F1E6 0x1F1FF) x) regional_indicator _ (some 9)
    (some_class (in_any pictographs x) extended_pictographic other (some 11) (some 10)))))))))))

pub space_numbers : (f : code.Profile) (v : ℕ) → whitespace v ≡ true → alone_or_lf (number ((profile_of f).class v)) ≡ true
unfolding whitespace space_class profile_of profile01
space_numbers f v e = each_in_law spaces v space_class spaces_classed e

space_apart : (f : code.Profile) (x y : ℕ) (k : Context) → whitespace x ≡ false → whitespace y ≡ true → joined (number ((profile_of f).class x)) k (number ((profile_of f).class y)) ≡ false
unfolding whitespace profile_of profile01
space_apart f x y k n e =
    let p : number (class01 x) ≢ 0 = only_cr x (cases (eqb x 0x0D) (λ i. absurd (no_space i)) (λ i. i)) in
    apart_numbers (number (class01 x)) k (number (class01 y)) p (space_numbers f y e)
  where
    no_space : eqb x 0x0D ≡ true → ⊥
    no_space i = let z : true ≡ false = rw (eqb-true x 0x0D i) at n in true_T (sym z)

space_begins : (f : code.Profile) (before : List Scalar) (c : Scalar) → NoSpaceBefore before → whitespace c.code ≡ true → joins (profile_of f) before c ≡ false
unfolding joins
space_begins f [] c o e = refl
space_begins f (d ∷ before) c o e = space_apart f d.code c.code (context (profile_of f) (d ∷ before)) o e

pub spaces_begin : (f : code.Profile) → SpacesBegin (profile_of f)
spaces_begin f = record { begins = space_begins f }
