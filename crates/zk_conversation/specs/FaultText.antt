-- What is said of a fault, in words and by its code.
use Rattle.std.specs.Prelude.{ℕ, List, ◌++◌, codes}
use Rattle.std.specs.Fmt.{signed_decimal}
use Rattle.zk_jute.specs.FaultText.{take_error_words}
use Rattle.zk_conversation.specs.declared.fault.AskFault.{AskFault}
use Rattle.zk_conversation.specs.declared.fault.AskFault.TheVariants as ask
use Rattle.zk_conversation.specs.declared.fault.TalkFault.{TalkFault}
use Rattle.zk_conversation.specs.declared.fault.TalkFault.TheVariants as talk

abbrev pub ask_fault_words : AskFault → List ℕ
ask_fault_words ask.TooLarge = codes "the payload has more than 1,048,575 bytes"
ask_fault_words ask.TooMany = codes "1,024 calls are pending"
ask_fault_words ask.Memory = codes "out of memory"

abbrev pub ask_fault_code : AskFault → List ℕ
ask_fault_code ask.TooLarge = codes "A1"
ask_fault_code ask.TooMany = codes "A2"
ask_fault_code ask.Memory = codes "A3"

abbrev pub talk_fault_words : TalkFault → List ℕ
talk_fault_words talk.BadHeader = codes "a payload has fewer than the 16 bytes of a header"
talk_fault_words (talk.NobodyAsked came) = codes "a reply with xid " ++ (signed_decimal came ++ codes " came, and no request is pending")
talk_fault_words (talk.OtherXid awaited came) =
    codes "a reply is awaited with xid " ++ (signed_decimal awaited ++ (codes ", and one came with xid " ++ signed_decimal came))
talk_fault_words (talk.BadRecord fault) = codes "a reply does not read: " ++ take_error_words fault
talk_fault_words (talk.BadNotice fault) = codes "a notice does not read: " ++ take_error_words fault
talk_fault_words talk.Memory = codes "out of memory"

abbrev pub talk_fault_code : TalkFault → List ℕ
talk_fault_code talk.BadHeader = codes "C1"
talk_fault_code (talk.NobodyAsked came) = codes "C2"
talk_fault_code (talk.OtherXid awaited came) = codes "C3"
talk_fault_code (talk.BadRecord fault) = codes "C4"
talk_fault_code (talk.BadNotice fault) = codes "C5"
talk_fault_code talk.Memory = codes "C6"
