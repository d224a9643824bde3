-- What became of an answer that the servers have changed since.
use Rattle.std.specs.Prelude.{◌≡◌, ◌<◌, ◌^◌, ℕ, zero, suc, ℤ, true, List, [], ◌∷◌, ◌++◌, length, Option, Some}
use Rattle.zk_cache.specs.declared.held.Kept.{Kept}
use Rattle.zk_cache.specs.Kept.{Answer, Names}
use Rattle.zk_frames.specs.Frame.{frame}
use Rattle.zk_laws.specs.Headline.{IsQuietAt, tree_of}
use Rattle.zk_laws.specs.Messages.{Request}
use Rattle.zk_laws.specs.Served.{Entry, IsServing, items_in, wire_of}
use Rattle.zk_laws.specs.Server.{Fits, FitsNames}
use Rattle.zk_nodes.specs.History.{History, IsHistory, view as to_see}
use Rattle.zk_nodes.specs.Path.{Text, path_of}
use Rattle.zk_nodes.specs.declared.side.Side.{Side}
use Rattle.zk_nodes.specs.declared.side.Side.TheVariants.{Data, Child}
use Rattle.zk_records.specs.declared.event.Event.{Event}
use Rattle.theory_rules.specs.Rules.{IsStaleSince}
use Rattle.theory_serving.specs.Shown.{Shown, Open, Processes}
use Rattle.theory_serving.specs.Steps.{Step}
use Rattle.theory_serving.specs.Wires.{StandsFirst, WasServed, is_up}
use Rattle.zk_turns.specs.Meaning.{Among}
use Rattle.zk_turns.specs.Past.{Happening, Past, is_talking, Took, Notifies, Word, kept_data, kept_names, word_data, word_child}
use Rattle.zk_turns.specs.Reported.{reports_in, reports_of}
use Rattle.zk_turns.specs.Rule.{Stands}
use Rattle.zk_turns.specs.Sent.{outputs_of}
use Rattle.zk_turns.specs.Taken.{past_of}
use Rattle.zk_turns.specs.Turns.{Output, Report, Start}
use Rattle.zk_turns.specs.View.{View}

-- The answer is stale: it was good when a notice ended that. This was reported, and it is the one report of this side of the path among
-- those that were told since: all before it, the newest first, are those of what came before the notice.
pub record IsReportedOnce {A : Type 0} (side : Side) (path : Text) (word : Happening → Word A) (kept : Past → Option (Kept A)) (past : Past)
    (outputs : List Output) (answer : A) : Type 0 where
  pub stale : IsStaleSince word kept past answer
  pub event : Event
  pub notice : stale.notice ≡ Took (Notifies event path)
  pub later : List Output
  pub beside : List Output
  pub reported : reports_in outputs ≡ later ++ Report path side event ∷ beside ++ reports_of stale.before
  pub once : (other : Event) → Among (Report path side other) (later ++ beside) → ⊥

-- Where all is quiet, an answer that is not what there is to see in the server's tree.
abbrev pub ChangesAreReported : Type 0
ChangesAreReported = (h : History) (start : Start) (entries : List Entry) (view : View) → IsHistory h → IsServing h start entries
    → Stands start (items_in entries) view → IsQuietAt h start entries
    → (path : Text) (kept : Kept Answer) → view.cache.nodes path ≡ Some kept
    → ¬ (Fits kept.answer (to_see Data (tree_of h entries) (path_of path)))
    → IsReportedOnce Data path (word_data path) (kept_data path) (past_of start (items_in entries))
    (outputs_of (items_in entries)) kept.answer

-- the same of the names below a node
abbrev pub NamesAreReported : Type 0
NamesAreReported = (h : History) (start : Start) (entries : List Entry) (view : View) → IsHistory h → IsServing h start entries
    → Stands start (items_in entries) view → IsQuietAt h start entries
    → (path : Text) (kept : Kept Names) → view.cache.children path ≡ Some kept
    → ¬ (FitsNames kept.answer (to_see Child (tree_of h entries) (path_of path)))
    → IsReportedOnce Child path (word_child path) (kept_names path) (past_of start (items_in entries))
    (outputs_of (items_in entries)) kept.answer

-- ---- such a place is reached

-- The bytes are the frames of this many payloads.
abbrev pub AreFrames : ℕ → List ℕ → Type 0
AreFrames zero bytes = bytes ≡ []
AreFrames (suc count) bytes =
    (payload : List ℕ) × (rest : List ℕ) × (length payload < 2 ^ 31) × (bytes ≡ frame payload ++ rest) × AreFrames count rest

-- All is quiet at the end of a schedule of a client with this view, whose server holds the tree of the one that is shown.
pub record IsQuietPlace (view : View) (shown : Shown) : Type 0 where
  pub start : Start
  pub entries : List Entry
  pub stands : Stands start (items_in entries) view
  pub serving : IsServing shown.history start entries
  pub quiet : IsQuietAt shown.history start entries
  pub place : (wire_of shown.history entries).server ≡ shown.server

-- The requests that wait are a number of frames, and each that a server in memory processes is one of them. Where none is left, and the
-- client has received all bytes and holds no half frame, all is quiet.
abbrev pub RequestsAreFrames : Type 0
RequestsAreFrames = (view : View) (shown : Shown) → WasServed view shown → is_up view ≡ true → shown.phase ≡ Open
    → (count : ℕ) × AreFrames count shown.requests

abbrev pub OneIsLess : Type 0
OneIsLess = (count : ℕ) (request : Request) (xid : ℤ) (payload rest : List ℕ) (steps : List Step) (old new : Shown)
    → AreFrames (suc count) old.requests
    → StandsFirst request xid payload rest old.requests → Processes request xid payload steps old new → new.phase ≡ Open
    → AreFrames count new.requests

abbrev pub QuietAtLast : Type 0
QuietAtLast = (view : View) (shown : Shown) → WasServed view shown → is_up view ≡ true
    → is_talking view.standing.state ≡ true → shown.phase ≡ Open
    → AreFrames 0 shown.requests → shown.output ≡ [] → view.held ≡ [] → IsQuietPlace view shown
