-- What private functions read, without where it lies in memory.
use Rattle.zk_jute.specs.Layout.{Value}
use Rattle.zk_log.specs.declared.entry.TxnHeader.{TxnHeader}
use Rattle.zk_log.specs.declared.record.RecordFront.{RecordFront}
use Rattle.zk_log.specs.declared.log.LogHeader.{LogHeader}
use Rattle.zk_log.specs.Format.{entry_front, record_front, file_header}
use Rattle.zk_log.specs.Views.{bytes_of}

abbrev pub header_of : TxnHeader → Value entry_front
header_of h = (h.session, (h.cxid, (h.zxid, (h.time, h.number))))

abbrev pub record_front_of : RecordFront → Value record_front
record_front_of front = (front.sum, bytes_of front.entry)

abbrev pub file_header_of : LogHeader → Value file_header
file_header_of h = (h.magic, (h.version, h.dbid))
