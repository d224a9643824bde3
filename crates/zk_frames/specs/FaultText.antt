-- What is said of a fault, in words and by its code.
use Rattle.std.specs.Prelude.{ℕ, List, codes}
use Rattle.zk_frames.specs.declared.fault.FrameFault.{FrameFault}
use Rattle.zk_frames.specs.declared.fault.FrameFault.TheVariants as frame
use Rattle.zk_frames.specs.declared.fault.PutFault.{PutFault}
use Rattle.zk_frames.specs.declared.fault.PutFault.TheVariants as put

abbrev pub frame_fault_words : FrameFault → List ℕ
frame_fault_words frame.Negative = codes "the length of a frame is below 0"
frame_fault_words frame.TooLong = codes "the length of a frame is above 4,194,304 bytes"
frame_fault_words frame.Memory = codes "out of memory"

abbrev pub frame_fault_code : FrameFault → List ℕ
frame_fault_code frame.Negative = codes "F1"
frame_fault_code frame.TooLong = codes "F2"
frame_fault_code frame.Memory = codes "F3"

abbrev pub put_fault_words : PutFault → List ℕ
put_fault_words put.TooLarge = codes "the payload has more than 1,048,575 bytes"
put_fault_words put.Memory = codes "out of memory"

abbrev pub put_fault_code : PutFault → List ℕ
put_fault_code put.TooLarge = codes "G1"
put_fault_code put.Memory = codes "G2"
