-- `into_slot` moves the pointer and the allocator of a slot, and what they own goes with them: the lemma `moves`.
use mathlib.Core.Path.{◌≡◌, refl}
use base.Logic.{id⊢}
use Rattle.std_heap.specs.contracts.Global as Heap
use Rattle.std_heap.specs.contracts.GlobalAllocator.TheImpl.{ghosts}
use Rattle.ffi_handles.specs.contracts.slot.Slot as Slot
use Rattle.ffi_handles.proofs.Moves.{moves}
use Rattle.ffi_device.specs.contracts.device.Device as Home
use Rattle.ffi_c.specs.contracts.slot.SessionSlot as Sealed
use Rattle.ffi_c.specs.contracts.slot.SessionSlot.into_slot.Key.{name as #self}
use Rattle.ffi_c.proofs.slot.SessionSlot.into_slot.Statement as stated
use Rattle.ffi_c.proofs.slot.SessionSlot.into_slot.Code as code

pub into_slot_spec : {M : Type 1} → stated.statement M
into_slot_spec 𝓤 𝓛 𝓜 𝓡 wired =
    moves Sealed.the_type (Slot.the_type Home.the_row Heap.the_row ghosts) (λ from to. to.held ≡ from.held)
    (λ slot. slot.at) (λ slot. slot.alloc) (λ slot. record { at = slot.at; alloc = slot.alloc; held = slot.held }) (λ slot. refl)
    𝓛 (λ slot vs. id⊢ 𝓤 _) (λ slot vs. id⊢ 𝓤 _) (λ slot. tt) (λ κs slot w. refl) 𝓜 𝓡 #self (code.unfolded 𝓤 𝓛.H 𝓜 𝓡 wired)
