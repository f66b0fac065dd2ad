use Rattle.std.proofs.Common.{inl, arith, refl}
use Rattle.std.proofs.lemmas.Result.{err_from_is_err_and}
use Rattle.text.specs.Calls.Code.Laws.{number_not_0}
use Rattle.text.specs.Each.{all_places}
use Rattle.screen.proofs.StoreCalls.{restore_ready, restore_written, restore_refused}
use Rattle.screen.proofs.try_restore.Goals as goal

pub storable-requires : goal.storable-requires
storable-requires c = inl refl

pub returns-in_err-storable : goal.returns-in_err-storable
returns-in_err-storable c = let p = err_from_is_err_and c.from_residual.result c.from_residual.ensures.1 in rw (p.1, p.2) (restore_refused _ _ c.in_err-storable.ensures (all_places _ 0 (λ i h. let k = c.type_inv.stored i in omega (arith, k))) _ (number_not_0 _))

pub rewrite-requires : goal.rewrite-requires
rewrite-requires c = restore_ready _ _ c.in_ok-storable.ensures (λ e. absurd (omega arith))

pub returns : goal.returns
returns c = restore_written _ _ c.in_ok-storable.ensures _ _ (λ e. absurd (omega arith)) c.rewrite.ensures
