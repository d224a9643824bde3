-- No reply to the client of a renewed session is older than what was seen before: the law `above_the_saved`, at the start of that session.
use Rattle.zk_client.specs.Clients.{renewed_start}
use Rattle.zk_agent.proofs.renewal.admits_nothing_older.Goals as goal

pub returns : goal.returns
returns c timeout before h is items view stands served ticket question zxid result among =
    c.above_the_saved.ensures h is (renewed_start timeout before) items view stands served ticket question zxid result among
