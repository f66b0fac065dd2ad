use Rattle.std.proofs.Common.{◌≡◌, refl, ap, ◌∙◌, rules}
use Rattle.std.proofs.lemmas.Iterator.Consumers.{YieldsList-from_first, fold_from_yields_List}
use Rattle.spans.specs.Sgr.Contracts.{orders_left}
use Rattle.drawing.specs.Attributes.{apply, apply_all}
use Rattle.drawing.specs.State.{with_attributes}
use Rattle.drawing.proofs.StyleOrders.{fold_is}
use Rattle.drawing.proofs.state.AttributeState.apply_sgr_sequence.Goals as goal

pub returns : goal.returns
returns c =
    let e : c.fold.result ≡ apply_all c.args.self.now.attrs (orders_left c.args.orders) =
    fold_from_yields_List _ apply _ _ c.fold.ensures.ran (YieldsList-from_first (λ x. x) orders_left _ refl) (λ a x b q k. search rules) ∙ fold_is _ _ in
    c.set_attributes.ensures ∙ ap (with_attributes c.args.self.now) e
