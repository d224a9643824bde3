-- What a handle holds after a call.
use Rattle.std.specs.Prelude.{◌≡◌, zero, suc, ℤ, pos, negsuc, Option, Some, None, IsSome, IfSome}
use Rattle.ffi_server.specs.Codes.{code_of}
use Rattle.ffi_server.specs.Moves.{Done, begun}
use Rattle.ffi_server.specs.declared.server.MemoryServer.{MemoryServer}
use Rattle.zk_bench.specs.Served.{Served}
use Rattle.zk_bench.specs.Stepping.{IsReady}

-- A handle held nothing, as -3 says, and holds nothing.
pub record IsClosed (code : ℤ) (held : Option MemoryServer) : Type 0 where
  pub told : code ≡ negsuc 2
  pub empty : held ≡ None

-- A handle holds a server, of which the number tells what was done.
pub record Tells (Does : Done → (after : Served) → Type 0) (code : ℤ) (held : Option MemoryServer) : Type 0 where
  pub after : MemoryServer
  pub done : Done
  pub holds : held ≡ Some after
  pub told : code ≡ code_of done
  pub does : Does done after.bench

-- The server of a session has just begun, and is ready.
pub record HasBegun (session : ℤ) (server : MemoryServer) : Type 0 where
  pub is : server.bench ≡ begun session
  pub ready : IsReady server.bench

-- A server is made: 0 if the handle holds one that has just begun, and -2 if memory ran out and it holds nothing.
abbrev pub Makes : (session : ℤ) → (code : ℤ) → Option MemoryServer → Type 0
Makes session (pos zero) held = IsSome held × IfSome held (HasBegun session)
Makes session (negsuc (suc zero)) held = held ≡ None
Makes session code held = ⊥
