-- What holds of a client after a run.
use Rattle.std.specs.Prelude.{◌≡◌, ◌≤ℤ◌, ◌↔◌, List, [], ◌∷◌, ◌++◌, map, Option, true}
use Rattle.zk_nodes.specs.Path.{Text}
use Rattle.zk_nodes.specs.History.{History, IsHistory}
use Rattle.zk_nodes.specs.declared.side.Side.TheVariants.{Data, Child}
use Rattle.zk_cache.specs.Kept.{is_marked_good}
use Rattle.zk_turns.specs.Turns.{Start, Input, Item, Turned, Turn}
use Rattle.zk_turns.specs.View.{View}
use Rattle.zk_turns.specs.Past.{is_over}
use Rattle.zk_turns.specs.Taken.{past_of}
use Rattle.zk_turns.specs.Rule.{Stands, empty_cache}
use Rattle.zk_turns.specs.Sent.{outputs_of}
use Rattle.zk_turns.specs.Reported.{reports_in, reports_of}
use Rattle.zk_turns.specs.Meaning.{IsGoodSince, IsLastSeen}
use Rattle.zk_laws.specs.Served.{Served, Entry, items_in, IsServing}
use Rattle.zk_laws.specs.Headline.{Headline, IsQuietAt, IsTrueOf, tree_of}
use Rattle.zk_client.specs.Outsides.{Told, TellsAll}

-- Whatever transactions a history holds, and however turns and moves of servers that hold its beginnings fall: the good answers are
-- the history's at the last seen zxid, what was answered is true, and no connection was given up except for silence or a message that
-- is too long. And where all that the server sent was taken, each good answer is what it would answer.
pub record IsTrueToServers (start : Start) (items : List Item) (view : View) : Type 0 where
  pub coherent : (h : History) → IsHistory h → (served : Served h start items) → Headline h start items view served.entries
  pub quiet : (h : History) → IsHistory h → (entries : List Entry)
      → IsServing h start entries → items_in entries ≡ items → IsQuietAt h start entries → IsTrueOf (tree_of h entries) view.cache

-- Whatever came: an answer is marked good exactly where a reply left its watch and nothing has ended it since; the last seen zxid is
-- the greatest of those that count; each notice that ended what was good was reported once, and nothing else; after an expiry, a
-- close or a halt nothing is kept.
pub record IsExact (start : Start) (items : List Item) (view : View) : Type 0 where
  pub nodes : (path : Text) → is_marked_good (view.cache.nodes path) ≡ true ↔ IsGoodSince Data path (past_of start items)
  pub children : (path : Text) → is_marked_good (view.cache.children path) ≡ true ↔ IsGoodSince Child path (past_of start items)
  pub last : IsLastSeen start (past_of start items) view.saved.last
  pub reports : reports_in (outputs_of items) ≡ reports_of (past_of start items)
  pub emptied : is_over (past_of start items) ≡ true → view.cache ≡ empty_cache

-- all of it, of a client that stands after these items
pub record Holds (start : Start) (items : List Item) (view : View) : Type 0 where
  pub stands : Stands start items view
  pub exact : IsExact start items view
  pub served : IsTrueToServers start items view

-- Turns, and then these marks, lead from the one view to the other. The inputs that were handed out are those of the turns, and then these.
pub record Ran (before after : View) (told told_after : Option Told) (marks : List Item) (others : List Input) : Type 0 where
  pub turns : List Turn
  pub holds : (start : Start) (items : List Item) → Stands start items before → Holds start (marks ++ (map Turned turns ++ items)) after
  pub rising : (start : Start) (items : List Item) → Stands start items before → before.saved.last ≤ℤ after.saved.last
  pub tells : TellsAll told turns others told_after
