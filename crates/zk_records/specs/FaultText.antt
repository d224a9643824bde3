-- What is said of a fault, in words and by its code.
use Rattle.std.specs.Prelude.{ℕ, List, ◌++◌, codes, Option, Some, None}
use Rattle.std.specs.Fmt.{signed_decimal}
use Rattle.zk_jute.specs.FaultText.{take_error_words, take_error_code}
use Rattle.zk_records.specs.declared.request_fault.RequestFault.{RequestFault}
use Rattle.zk_records.specs.declared.request_fault.RequestFault.TheVariants.{Unknown, Unread}

abbrev pub request_fault_words : RequestFault → List ℕ
request_fault_words (Unknown number) = codes "unknown type " ++ signed_decimal number
request_fault_words (Unread fault) = take_error_words fault

abbrev pub request_fault_code : RequestFault → Option (List ℕ)
request_fault_code (Unknown number) = None
request_fault_code (Unread fault) = Some (take_error_code fault)
