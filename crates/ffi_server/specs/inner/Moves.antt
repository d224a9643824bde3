-- What contracts of private functions say: nobody has to believe it.
use Rattle.std.specs.Prelude.{◌≡◌, ℕ, Ok, Err}
use Rattle.zk_nodes.specs.History.{Change}
use Rattle.zk_bench.specs.Served.{Served}
use Rattle.zk_bench.specs.Writing.{appended}
use Rattle.ffi_server.specs.Moves.{Done, RanOut, timed}
use Rattle.ffi_server.specs.Refused.{IsNext}
use Rattle.ffi_server.specs.inner.Refused.{RefusesAppend}
use Rattle.ffi_server.specs.declared.undone.Undone.TheVariants.{Memory}

-- A change is appended; or memory ran out; or nothing happened, for a reason.
abbrev pub Appends : (now : ℕ) → Change → (before : Served) → Done → (after : Served) → Type 0
Appends now change before (Ok done) after =
    IsNext now change before.history × (after ≡ record (timed now before) { history = appended before.history now change })
Appends now change before (Err Memory) after = RanOut before after
Appends now change before (Err why) after = RefusesAppend now change before.history why × (after ≡ before)
