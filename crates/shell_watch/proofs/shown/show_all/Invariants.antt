-- The loop of `show_all`: subjects before the index are shown, the others are as they were; at the slice's end this tells of all.
use Rattle.std.specs.Prelude.{string_bytes}
use Rattle.zk_client.specs.Clients.{view_of}
use Rattle.shell_watch.proofs.Showing.{Shown}
use Rattle.shell_watch.proofs.shown.show_all.Given as goal

-- those before were shown
abbrev pub invariant-loop-one : goal.invariant-loop-one
invariant-loop-one g l =
    Shown l.style l.ms (view_of l.client) l.fn.watched l.one-index l.watched (string_bytes l.fn.text) (string_bytes l.text)
