-- What contracts of private functions say: nobody has to believe it.
use Rattle.std.specs.Prelude.{◌≡◌, ◌≢◌, ◌⊎◌}
use Rattle.clap.specs.declared.error.kind.ErrorKind.{ErrorKind}
use Rattle.shell_commands.specs.declared.line_fault.LineFault.{LineFault}
use Rattle.shell_commands.specs.declared.line_fault.LineFault.TheVariants.{Help, Refused, Memory}
use Rattle.clap.specs.declared.error.kind.ErrorKind.TheVariants as kinds
use Rattle.shell_commands.specs.declared.kind.FrameKind.TheVariants as kind

-- A refusal, or that memory ran out.
abbrev pub IsNoHelp : LineFault → Type 0
IsNoHelp (Help text) = ⊥
IsNoHelp fault = Unit {0}

-- A refusal, if this holds; or that memory ran out.
abbrev pub TellsIf : Type 0 → LineFault → Type 0
TellsIf why (Help text) = ⊥
TellsIf why (Refused text) = why
TellsIf why Memory = Unit {0}

-- what `clap` says of the words is told so
abbrev pub Tells : ErrorKind → LineFault → Type 0
Tells kind (Help text) = (kind ≡ kinds.DisplayHelp) ⊎ (kind ≡ kinds.DisplayVersion)
Tells kind (Refused text) = (kind ≢ kinds.DisplayHelp) × (kind ≢ kinds.DisplayVersion) × (kind ≢ kinds.OutOfMemory)
Tells kind Memory = Unit {0}
