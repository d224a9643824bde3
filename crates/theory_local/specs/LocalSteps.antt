-- Servers that keep to the model at some paths: what they answer there, that they tell there what is to be told, and which watches they
-- set there. At other paths they may answer anything, and tell it or not.
use Rattle.std.specs.Prelude.{ℕ, ◌≡◌, ◌≢◌, ◌<◌, Bool, true, List, length}
use Rattle.zk_nodes.specs.Path.{Text}
use Rattle.zk_nodes.specs.History.{History}
use Rattle.zk_nodes.specs.declared.side.Side.{Side}
use Rattle.zk_records.specs.Events.{concerns}
use Rattle.zk_conversation.specs.Calls as call
use Rattle.zk_conversation.specs.Calls.{Call}
use Rattle.zk_conversation.specs.Results.{Result}
use Rattle.zk_turns.specs.Meaning.{Among}
use Rattle.zk_laws.specs.Server.{HasCode}
use Rattle.zk_laws.specs.Server.{Notice, AreSent, fires_all, tree_held, Gives, part_tells}
use Rattle.zk_laws.specs.Messages.{Request, Restore, Ask}
use Rattle.zk_laws.specs.ServerSteps.{Waiting, Serving, Ended, ServerEnd, ServerStep, Advances, Answers, Restores, IsNext, changes_next}
use Rattle.zk_laws.specs.ServerSteps.{MayDo}

-- the path is one of those for which the test is true
abbrev pub IsOf : (Text → Bool) → Text → Type 0
IsOf paths path = paths path ≡ true

-- the call is about one of these paths
abbrev pub IsAbout : (Text → Type 0) → Call → Type 0
IsAbout P (call.Exists path watch) = P path
IsAbout P (call.GetData path watch) = P path
IsAbout P (call.GetChildren path watch) = P path
IsAbout P (call.SetData path content version) = P path
IsAbout P (call.Create path content mode) = P path
IsAbout P (call.Delete path version) = P path
IsAbout P call.Close = ⊥
IsAbout P (call.Raw operation bytes) = ⊥

-- A call about one of these paths is answered as by the model. Any other may have any result: where that is a code, it is neither 0
-- nor -101, since with these another result is read.
abbrev pub GivesAt : (Text → Type 0) → History → ℕ → Call → Result → Type 0
GivesAt P h place call result = HasCode result × (IsAbout P call → Gives h place call result)

-- Each side of one of these paths of which something is fired is told of. More may be told, of any path: it makes an answer stale at most.
abbrev pub AreToldAt : (Text → Type 0) → List Notice → List Notice → Type 0
AreToldAt P fired sent =
    (side : Side) (notice : Notice) → P notice.path → Among notice fired → concerns notice.event side ≡ true
    → (one : Notice) × Among one sent × (concerns one.event side ≡ true) × (one.path ≡ notice.path)

-- The steps that a server may take that keeps to the model at these paths. What it sends and where it stands then is by the same
-- `messages_by` and `end_after`: so each reply has the zxid of the transactions that the server holds, whatever it is about. Before it
-- admits the client it keeps to the model at all paths: there nothing is watched, and it tells nothing.
abbrev pub MayDoAt : (Text → Type 0) → History → ServerStep → ServerEnd → List Request → Type 0
MayDoAt P h (Advances sent) server requests =
    (server.stage ≢ Ended) × (server.place < length h.transactions)
    × AreToldAt P (fires_all (changes_next h server.place) server.watches) sent
    × (server.stage ≡ Waiting → AreSent (fires_all (changes_next h server.place) server.watches) sent)
MayDoAt P h (Answers call result) server requests =
    (server.stage ≡ Serving) × IsNext (Ask call) requests × GivesAt P h server.place call result
MayDoAt P h (Restores is_last relative part sent) server requests =
    (server.stage ≡ Serving) × IsNext (Restore is_last relative part) requests
    × AreToldAt P (part_tells relative (tree_held h server.place) part) sent
MayDoAt P h step server requests = MayDo h step server requests
