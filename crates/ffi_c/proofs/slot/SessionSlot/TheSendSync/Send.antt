-- The slot may go to another thread, as a box of a session may.
use denote.Struct.Struct.{exits_of}
use denote.Struct.Owning.{shape, fields, to}
use denote.Param.Send.{IsSend, AllSend, owning_send, struct_send, sendable}
use Rattle.std.proofs.Crossing as heap
use Rattle.std_alloc.proofs.SendSync.{quiet}
use Rattle.std_heap.specs.contracts.Global as Heap
use Rattle.std_heap.specs.contracts.GlobalAllocator.TheImpl.{ghosts}
use Rattle.std_heap.proofs.Global.TheSendSync as handle
use Rattle.ffi_handles.proofs.Crossing.{crosses}
use Rattle.ffi_device.specs.contracts.device.Device as Home
use Rattle.ffi_device.proofs.device.Device.TheSendSync.{the_send as home}
use Rattle.ffi_c.specs.contracts.slot.SessionSlot.{the_row, the_type}

pub send : IsSend the_row
send =
    let all : AllSend (fields the_type) = (search sendable, (handle.the_field_send, tt)) in
    owning_send the_type all (λ slot. crosses Home.the_row Heap.the_row ghosts home heap.frees slot.alloc slot.at slot.held)
    (λ k. quiet (to the_type) (exits_of k (fields the_type)) ((struct_send (shape the_type) all).leaving k))
