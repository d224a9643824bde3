-- What contracts of private functions say: nobody has to believe it.
use Rattle.std.specs.Prelude.{List}
use Rattle.zk_turns.specs.View.{View}
use Rattle.zk_client.specs.Clients.{view_of}
use Rattle.zk_follow.specs.declared.follower.Follower.{Follower}
use Rattle.zk_follow.specs.declared.subject.Subject.{Subject}
use Rattle.zk_trees.specs.Tending.{trees_told, Footing}
use Rattle.zk_trees.specs.declared.ledger.Ledger.{Ledger}

-- where a ledger stands, beside what a client keeps and what is followed
abbrev pub footing_at : {A : Type 0} → View → List (Subject A) → Ledger A → Footing A
footing_at view subjects ledger =
    record { view = view; subjects = subjects; told = trees_told ledger.news.items; next = ledger.next }

-- and beside a follower
abbrev pub footing_of : {A : Type 0} → Follower A → Ledger A → Footing A
footing_of follower ledger = record {
  view = view_of follower.client;
  subjects = follower.subjects.items;
  told = trees_told ledger.news.items;
  next = ledger.next;
}
