-- Faults, as lines of scripts tell them: by a code, and by their values.
use Rattle.std.specs.Prelude.{ℕ, List, [], ◌++◌, codes}
use Rattle.std.specs.Fmt.{decimal, signed_decimal}
use Rattle.zk_jute.specs.FaultText.{take_error_code}
use Rattle.zk_jute.specs.declared.fault.TakeError.{TakeError}
use Rattle.zk_jute.specs.declared.fault.TakeError.TheVariants as take
use Rattle.zk_conversation.specs.declared.fault.TalkFault.{TalkFault}
use Rattle.zk_conversation.specs.declared.fault.TalkFault.TheVariants as talk
use Rattle.zk_turns.specs.Turns.{Fault, Framed, Talked, Silent, Behind, WatchesRefused}
use Rattle.script_words.specs.Values.{spaced}

-- why a value does not read: the code of the fault, and its place where it has one
abbrev pub take_error_text : TakeError → List ℕ
take_error_text (take.Short place) = take_error_code (take.Short place) ++ (codes " at " ++ decimal place)
take_error_text (take.BadLength place) = take_error_code (take.BadLength place) ++ (codes " at " ++ decimal place)
take_error_text (take.BadBool place) = take_error_code (take.BadBool place) ++ (codes " at " ++ decimal place)
take_error_text (take.NotUtf8 place) = take_error_code (take.NotUtf8 place) ++ (codes " at " ++ decimal place)
take_error_text take.Memory = take_error_code take.Memory

-- the values of why a payload is not taken, a space before each
abbrev pub talk_values : TalkFault → List ℕ
talk_values talk.BadHeader = []
talk_values (talk.NobodyAsked came) = spaced (signed_decimal came)
talk_values (talk.OtherXid awaited came) = spaced (signed_decimal awaited) ++ spaced (signed_decimal came)
talk_values (talk.BadRecord fault) = spaced (take_error_text fault)
talk_values (talk.BadNotice fault) = spaced (take_error_text fault)
talk_values talk.Memory = []

-- the values of why a connection is given up, a space before each
abbrev pub fault_values : Fault → List ℕ
fault_values (Framed fault) = []
fault_values (Talked fault) = talk_values fault
fault_values Silent = []
fault_values (Behind seen came) = spaced (signed_decimal seen) ++ spaced (signed_decimal came)
fault_values (WatchesRefused code) = spaced (signed_decimal code)
