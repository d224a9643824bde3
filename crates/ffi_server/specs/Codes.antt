-- The numbers that a caller is told.
use Rattle.std.specs.Prelude.{⊤, ℤ, pos, negsuc, Result, Ok, Err}
use Rattle.ffi_server.specs.declared.undone.Undone.{Undone}
use Rattle.ffi_server.specs.declared.undone.Undone.TheVariants.{Nothing, Memory, NotText, NotPath, NoSuchServer, NoSuchKind, BadArguments}
use Rattle.ffi_server.specs.declared.undone.Undone.TheVariants.{NoTransaction, NoNode, NoChildrenForEphemerals, NodeExists, NotEmpty}

-- The number of why nothing was done: 1 if there is nothing to do, and of what a tree does not admit those of servers.
abbrev pub undone_code : Undone → ℤ
undone_code Nothing = pos 1
undone_code Memory = negsuc 1
undone_code NotText = negsuc 3
undone_code NotPath = negsuc 4
undone_code NoSuchServer = negsuc 5
undone_code NoSuchKind = negsuc 6
undone_code BadArguments = negsuc 7
undone_code NoTransaction = negsuc 8
undone_code NoNode = negsuc 100
undone_code NoChildrenForEphemerals = negsuc 107
undone_code NodeExists = negsuc 109
undone_code NotEmpty = negsuc 110

-- the number of what was done: 0, or that of why it was not
abbrev pub code_of : Result ⊤ Undone → ℤ
code_of (Ok done) = pos 0
code_of (Err undone) = undone_code undone
