use Rattle.text.proofs.Pushing.{styled_both, styled_room, styled_same}
use Rattle.text.proofs.overstrike.push_styled.Goals as goal

pub returns-then-eq : goal.returns-then-eq
returns-then-eq c = styled_same _ _ _ _ _ _ _ _ c.eq.ensures c.if-eq.true c.push.ensures

pub push-requires-2 : goal.push-requires-2
push-requires-2 c = search styled_room

pub returns : goal.returns
returns c = search styled_both
