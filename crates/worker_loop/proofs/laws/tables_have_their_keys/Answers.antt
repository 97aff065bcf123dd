use Rattle.worker_loop.proofs.Keys.{keys_in}
use Rattle.worker_loop.proofs.laws.tables_have_their_keys.Goals as goal

pub returns : goal.returns
returns g c = keys_in
