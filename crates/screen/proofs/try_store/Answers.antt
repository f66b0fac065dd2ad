use Rattle.std.proofs.Common.{inr, refl}
use Rattle.std.proofs.lemmas.Result.{err_from_is_err_and}
use Rattle.text.specs.Calls.Code.Laws.{number_not_0}
use Rattle.screen.proofs.StoreCalls.{store_ready, store_written, store_refused}
use Rattle.screen.proofs.try_store.Goals as goal

pub storable-requires : goal.storable-requires
storable-requires c = inr refl

pub returns-in_err-storable : goal.returns-in_err-storable
returns-in_err-storable c = let p = err_from_is_err_and c.from_residual.result c.from_residual.ensures.1 in rw (p.1, p.2) (store_refused _ _ c.in_err-storable.ensures _ (number_not_0 _))

pub rewrite-requires : goal.rewrite-requires
rewrite-requires c = store_ready _ _ c.in_ok-storable.ensures refl

pub returns : goal.returns
returns c = store_written _ _ c.in_ok-storable.ensures _ _ refl c.rewrite.ensures
