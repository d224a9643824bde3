-- What a slot owns may go to another thread, where its value may and the allocator frees there.
use Rattle.std.specs.Prelude.{Option, Some, None}
use mir.Raw.{raw}
use base.Shift.{Keyless}
use denote.Memory.{lone}
use denote.RattleType.{RattleType}
use denote.RawPtr.{Ptr}
use denote.Param.Send.{IsSend, Frees}
use Rattle.core.specs.declared.alloc.Allocator.{Ghosts}
use Rattle.std_alloc.proofs.SendSync.{lies}
use Rattle.ffi_handles.specs.Owned.{owned}

module _ (T A : RattleType) (g : Ghosts A.Denot) (t : IsSend T) (frees : Frees g g.dealloc_token) where
  pub crosses : (a : A.Denot) (p : Ptr) (held : Option T.Denot) → Keyless (owned T (g.dealloc_token a) p held)
  crosses a p None = tt
  crosses a p (Some x) = (lies T t p x, frees.frees a (raw (lone T.mir)) p)
