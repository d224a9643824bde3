-- Reading what a reply lends.
use Rattle.std.specs.Prelude.{ℕ, ℤ, pos, negsuc, Bool, false, not, ◌&&◌, ◌||◌, List, ◌∷◌, length, Ok, Err}
use Rattle.std.specs.Prelude.{Result as Reading}
use Rattle.std.specs.Ordering.{int_eq}
use Rattle.zk_jute.specs.declared.fault.TakeError.{TakeError}
use Rattle.zk_jute.specs.Layout.{Value}
use Rattle.zk_jute.specs.Reading.{reading}
use Rattle.zk_records.specs.Layouts.{reply_header}
use Rattle.zk_conversation.specs.Questions.{Question, GetChildren}
use Rattle.zk_conversation.specs.declared.phase.Phase.{Phase}
use Rattle.zk_conversation.specs.declared.phase.Phase.TheVariants.{Talking}
use Rattle.zk_conversation.specs.Pending.{Pending, Waiting, Part_waits, Call_waits}

-- whether the reply with this err has a list of names, which alone takes memory
abbrev pub lists_names : Question → (err : ℤ) → Bool
lists_names (GetChildren path watch) err = int_eq err (pos 0)
lists_names _ err = false

abbrev pub awaits_names : Waiting → (err : ℤ) → Bool
awaits_names (Part_waits last) err = false
awaits_names (Call_waits ticket question) err = lists_names question err

-- the xids of notices, pongs and the answers to auth packets
abbrev pub is_reserved : ℤ → Bool
is_reserved xid = int_eq xid (negsuc 0) || int_eq xid (negsuc 1) || int_eq xid (negsuc 3)

abbrev pub names_behind : Pending → Reading (Value reply_header × List ℕ) TakeError → Bool
names_behind oldest (Ok found) = not (is_reserved found.0.0) && (int_eq oldest.xid found.0.0 && awaits_names oldest.waiting found.0.1.1)
names_behind oldest (Err fault) = false

-- Whether the payload is the reply to the oldest request, and has a list of names. No other payload takes memory.
abbrev pub names_arrive : Phase → List Pending → (payload : List ℕ) → Bool
names_arrive Talking (oldest ∷ more) payload = names_behind oldest (reading reply_header (length payload) payload)
names_arrive _ _ payload = false
