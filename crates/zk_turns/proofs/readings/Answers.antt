-- What is read is spelled so, and what is spelled so is read: of a record (`spelt`, `read_again`), of a question's result (`record_spelt`,
-- `record_read`), and of a connection's first payload (`first_spelt`, `first_read`).
use Rattle.zk_turns.proofs.Spelt.{spelt, read_again, record_spelt, record_read, first_spelt, first_read}
use Rattle.zk_turns.proofs.readings.Goals as goal

pub returns-clause-field : goal.returns-clause-field
returns-clause-field c layout end bytes value rest are = (spelt layout end bytes value rest are, read_again layout end bytes value rest)

pub returns-clause-result : goal.returns-clause-result
returns-clause-result c question end bytes result are = (record_spelt question end bytes result are, record_read question end bytes result)

pub returns-clause-first : goal.returns-clause-first
returns-clause-first c pending payload response are = (first_spelt pending payload response are, first_read pending payload response)
