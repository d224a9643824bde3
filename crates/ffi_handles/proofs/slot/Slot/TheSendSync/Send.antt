-- A slot may go to another thread where its value and its allocator may, as a box may.
use denote.RattleType.{RattleType}
use denote.Struct.Struct.{exits_of}
use denote.Struct.Owning.{shape, fields, to}
use denote.Param.Send.{IsSend, AllSend, Frees, owning_send, struct_send, sendable}
use Rattle.core.specs.declared.alloc.Allocator.{Ghosts}
use Rattle.std_alloc.proofs.SendSync.{quiet}
use Rattle.ffi_handles.proofs.Crossing.{crosses}
use Rattle.ffi_handles.specs.contracts.slot.Slot.{the_row, the_type}

pub send : (T A : RattleType) (g : Ghosts A.Denot) → IsSend T → IsSend A → Frees g g.dealloc_token → IsSend (the_row T A g)
send T A g t s frees =
    let type = the_type T A g in
    let all : AllSend (fields type) = (search sendable, (s, tt)) in
    owning_send type all (λ d. crosses T A g t frees d.alloc d.at d.held)
    (λ k. quiet (to type) (exits_of k (fields type)) ((struct_send (shape type) all).leaving k))
