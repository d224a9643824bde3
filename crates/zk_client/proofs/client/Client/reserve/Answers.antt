-- The core is not touched, and the reader is as it was: `same_client`.
use Rattle.std.proofs.Common.{refl}
use Rattle.zk_client.proofs.SameClients.{same_client}
use Rattle.zk_client.proofs.client.Client.reserve.Goals as goal

pub returns : goal.returns
returns g c = same_client _ c.args.self.now refl c.reserve.ensures
