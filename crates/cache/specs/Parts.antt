-- Parts of a list in its order, and lists whose elements are apart.
use Rattle.std.specs.Prelude.{ℕ, zero, suc, List, [], ◌∷◌, take}
use Rattle.text.specs.Each.{All, all_nil, all_cons}

pub data Part {A : Type 0} : List A → List A → Type 0 where
  none : {t : List A} → Part [] t
  with : {a : A} {s t : List A} → Part s t → Part (a ∷ s) (a ∷ t)
  less : {a : A} {s t : List A} → Part s t → Part s (a ∷ t)

pub data Apart {A : Type 0} (R : A → A → Type 0) : List A → Type 0 where
  nil : Apart R []
  cons : {a : A} {s : List A} → All (R a) s → Apart R s → Apart R (a ∷ s)

pub part_take : {A : Type 0} (n : ℕ) (s : List A) → Part (take n s) s
part_take zero s = none
part_take (suc n) [] = none
part_take (suc n) (a ∷ s) = with (part_take n s)

module _ {A : Type 0} {Q : A → Type 0} where
  pub part_all : {s t : List A} → Part s t → All Q t → All Q s
  part_all none e = all_nil
  part_all (with p) (all_cons q e) = all_cons q (part_all p e)
  part_all (less p) (all_cons q e) = part_all p e

pub part_apart : {A : Type 0} {R : A → A → Type 0} {s t : List A} → Part s t → Apart R t → Apart R s
part_apart none e = nil
part_apart (with p) (cons q e) = cons (part_all p q) (part_apart p e)
part_apart (less p) (cons q e) = part_apart p e
