-- The law is `listings_are_heard`.
use Rattle.zk_contend.proofs.Listings.{listings_are_heard}
use Rattle.zk_contend.proofs.laws.listings_are_heard.Goals as goal

pub returns : goal.returns
returns g c = listings_are_heard
