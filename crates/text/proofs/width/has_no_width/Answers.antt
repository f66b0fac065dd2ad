use Rattle.std.specs.Prelude.{◌≡◌, ◌⊎◌, true, false, [], ◌∷◌, refl}
use Rattle.std.proofs.Common.{arith}
use Rattle.text.specs.Class.{among, number, cr, lf, control, extend, zwj, class_v, class_t}
use Rattle.text.specs.Class.Code.{class_number}
use Rattle.text.specs.declared.class.Class as code
use Rattle.text.specs.declared.class.Class.TheVariants.{Cr, Lf, Control, Extend, Zwj, L, V, T, Lv, Lvt, RegionalIndicator, Other, ExtendedPictographic}
use Rattle.text.proofs.width.has_no_width.Goals as goal

some : (k : code.Class) → (k ≡ Cr) ⊎ ((k ≡ Lf) ⊎ ((k ≡ Control) ⊎ ((k ≡ Extend) ⊎ ((k ≡ Zwj) ⊎ ((k ≡ V) ⊎ (k ≡ T)))))) → true ≡ among (class_number k) (cr ∷ lf ∷ control ∷ extend ∷ zwj ∷ class_v ∷ class_t ∷ [])
unfolding among number
some Cr h = refl
some Lf h = refl
some Control h = refl
some Extend h = refl
some Zwj h = refl
some V h = refl
some T h = refl
some L h = absurd (grind arith)
some Lv h = absurd (grind arith)
some Lvt h = absurd (grind arith)
some RegionalIndicator h = absurd (grind arith)
some Other h = absurd (grind arith)
some ExtendedPictographic h = absurd (grind arith)

pub returns-in-Cr : goal.returns-in-Cr
returns-in-Cr c = rw (← c.class_of.ensures) (some c.class_of.result c.in-Cr.is)

none : (k : code.Class) → (k ≡ Cr → ⊥) → (k ≡ Lf → ⊥) → (k ≡ Control → ⊥) → (k ≡ Extend → ⊥) → (k ≡ Zwj → ⊥) → (k ≡ V → ⊥) → (k ≡ T → ⊥) → false ≡ among (class_number k) (cr ∷ lf ∷ control ∷ extend ∷ zwj ∷ class_v ∷ class_t ∷ [])
unfolding among number
none Cr a b d e f g h = absurd (a refl)
none Lf a b d e f g h = absurd (b refl)
none Control a b d e f g h = absurd (d refl)
none Extend a b d e f g h = absurd (e refl)
none Zwj a b d e f g h = absurd (f refl)
none V a b d e f g h = absurd (g refl)
none T a b d e f g h = absurd (h refl)
none L a b d e f g h = refl
none Lv a b d e f g h = refl
none Lvt a b d e f g h = refl
none RegionalIndicator a b d e f g h = refl
none Other a b d e f g h = refl
none ExtendedPictographic a b d e f g h = refl

pub returns-in_default : goal.returns-in_default
returns-in_default c = let n = c.in_default in rw (← c.class_of.ensures) (none c.class_of.result n.not-Cr n.not-Lf n.not-Control n.not-Extend n.not-Zwj n.not-V n.not-T)
