-- What is said of a fault.
use Rattle.std.specs.Prelude.{ℕ, List, ◌++◌, codes}
use Rattle.std.specs.Fmt.{decimal, signed_decimal}
use Rattle.zk_jute.specs.FaultText.{take_error_words}
use Rattle.zk_log.specs.declared.entry_fault.EntryFault.{EntryFault}
use Rattle.zk_log.specs.declared.entry_fault.EntryFault.TheVariants.{Unread, Unknown, Trailing}
use Rattle.zk_log.specs.declared.log_fault.LogFault.{LogFault}
use Rattle.zk_log.specs.declared.log_fault.LogFault.TheVariants as log

abbrev pub entry_fault_words : EntryFault → List ℕ
entry_fault_words (Unread fault) = take_error_words fault
entry_fault_words (Unknown number) = codes "unknown type " ++ signed_decimal number
entry_fault_words (Trailing place) = codes "bytes come after its end, from byte " ++ (decimal place ++ codes " on")

abbrev pub log_fault_words : LogFault → List ℕ
log_fault_words (log.Header fault) = codes "byte 0: no log: " ++ take_error_words fault
log_fault_words log.Magic = codes "byte 0: no log: it does not begin with ZKLG"
log_fault_words (log.Version number) = codes "byte 4: version " ++ (signed_decimal number ++ codes " of the format is unknown")
log_fault_words (log.Length place) = codes "byte " ++ (decimal place ++ codes ": a record of no length")
log_fault_words (log.EndByte place) = codes "byte " ++ (decimal place ++ codes ": a record whose end is no B")
log_fault_words (log.Checksum place) = codes "byte " ++ (decimal place ++ codes ": a record with another checksum")
log_fault_words (log.Entry place fault) = codes "byte " ++ (decimal place ++ (codes ": an entry: " ++ entry_fault_words fault))
log_fault_words (log.Order place zxid) =
    codes "byte " ++ (decimal place ++ (codes ": zxid " ++ (signed_decimal zxid ++ codes " is not above the one before")))
log_fault_words log.Memory = codes "out of memory"
