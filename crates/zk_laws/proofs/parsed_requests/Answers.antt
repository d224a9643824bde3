-- What a server finds in the bytes, clause by clause: lengths by `all_told`, a beginning of the stream by `first_found`, the whole by
-- `each_found`, the requests in the payloads by `each_read`, and the session that a connection began with by `connect_found`.
use Rattle.zk_laws.proofs.Found.{all_told, first_found, each_found, each_read, connect_found}
use Rattle.zk_laws.proofs.parsed_requests.Goals as goal

pub returns-clause-told : goal.returns-clause-told
returns-clause-told c start items from = all_told start items from

pub returns-clause-beginning : goal.returns-clause-beginning
returns-clause-beginning c start items view found rest s up from told e = first_found start items view found rest s up from told e

pub returns-clause-whole : goal.returns-clause-whole
returns-clause-whole c start items view found rest s up from cut = each_found start items view found rest s up from cut

pub returns-clause-read : goal.returns-clause-read
returns-clause-read c start items view found rest s up from typed told e = each_read start items view found rest s up from typed told e

pub returns-clause-connect : goal.returns-clause-connect
returns-clause-connect c start items since before from e = connect_found start items since before from e
