use Rattle.std.proofs.Common.{◌≡◌, ℕ, zero, suc, ◌≢◌, refl, arith}
use Rattle.text.specs.declared.BytePlace.{BytePlace}
use Rattle.drawing.specs.Attributes.{attributes, linked, link}
use Rattle.drawing.specs.declared.attributes.Attributes.{Attributes}
use Rattle.drawing.proofs.attributes.Attributes.linked.Goals as goal

closed : (a : Attributes) (p n : ℕ) → n ≡ 0 → attributes a.font a.flags a.colors (link 0 0) ≡ linked a p n
unfolding linked
closed a p zero e = refl
closed a p (suc n) e = absurd (omega arith)

opened : (a : Attributes) (p : BytePlace) (n : ℕ) → n ≢ 0 → attributes a.font a.flags a.colors (record { place = p; len = n }) ≡ linked a p.0 n
unfolding linked
opened a p zero e = absurd (e refl)
opened a p (suc n) e = refl

pub returns-then-link-eq0 : goal.returns-then-link-eq0
returns-then-link-eq0 c = search closed

pub returns : goal.returns
returns c = search opened
