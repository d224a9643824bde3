-- A run that meets the premises: a node is read and watched, the connection is lost, the watch is set again, and the node is set.
use Rattle.zk_watches.specs.Lists.{Lists}
use Rattle.std.specs.Prelude.{false, pos, true, List, [], ◌∷◌, ◌++◌, Some, None, if◌then◌else◌}
use Rattle.zk_nodes.specs.declared.stat.Stat.{Stat}
use Rattle.zk_nodes.specs.DataStats.{data_stat_of}
use Rattle.zk_nodes.specs.Path.{Text, path_eq}
use Rattle.zk_nodes.specs.History.{Tree, Creates, Sets, History}
use Rattle.zk_conversation.specs.Calls.{Call, GetData}
use Rattle.zk_nodes.specs.declared.data_stat.DataStat.{DataStat}
use Rattle.zk_records.specs.declared.event.Event.TheVariants.{DataChanged}
use Rattle.zk_conversation.specs.Questions.{question_of}
use Rattle.zk_conversation.specs.Results.{Result, Read}
use Rattle.zk_laws.specs.Server.{Notice}
use Rattle.zk_laws.specs.Messages.{Replies, Watches_set, Notifies}
use Rattle.zk_laws.proofs.Run.{Move, Opens, Loses, Goes}
use Rattle.zk_laws.proofs.Steps.{Asks, Joins, Takes, By_server}
use Rattle.zk_laws.specs.ServerSteps.{Advances, Admits, Answers, Restores}

abbrev pub root_alone : Tree
root_alone path = if path_eq path [] then Some
    (record { content = None; czxid = 0; mzxid = 0; pzxid = 0; ctime = pos 0; mtime = pos 0; version = 0; owner = pos 0 }) else None

-- /a is made at 5, and set at 6
abbrev pub two_changes : History
two_changes = record {
  first = root_alone;
  transactions = record { zxid = 5; time = pos 1000; changes = Creates ((97 ∷ []) ∷ []) (Some (104 ∷ 105 ∷ [])) (pos 0) ∷ [] }
      ∷ record { zxid = 6; time = pos 2000; changes = Sets ((97 ∷ []) ∷ []) None ∷ [] } ∷ [];
}

abbrev pub at_a : Text
at_a = 47 ∷ 97 ∷ []

abbrev pub stat_at_five : Stat
stat_at_five = record {
  czxid = pos 5;
  mzxid = pos 5;
  ctime = pos 1000;
  mtime = pos 1000;
  version = pos 0;
  cversion = pos 0;
  aversion = pos 0;
  ephemeral_owner = pos 0;
  data_length = pos 2;
  num_children = pos 0;
  pzxid = pos 5;
}

abbrev pub fields_at_five : DataStat
fields_at_five = data_stat_of stat_at_five

abbrev pub read_a : Call
read_a = GetData at_a true

abbrev pub what_a_held : Result
what_a_held = Read (Some (104 ∷ 105 ∷ [])) stat_at_five

abbrev pub just_a : Lists
just_a = record { data_watches = at_a ∷ []; exist_watches = []; child_watches = [] }

abbrev pub a_changed : Notice
a_changed = record { event = DataChanged; path = at_a }

-- up to the reply to the setWatches request, the notice still in flight
abbrev pub until_restored : List Move
until_restored =
    Opens 1 ∷ Goes (By_server (Admits 0)) ∷ Goes (Joins []) ∷ Goes (Asks read_a) ∷ Goes (By_server (Answers read_a what_a_held))
    ∷ Goes (Takes (Replies (question_of read_a) 5 what_a_held))
    ∷ Loses ∷ Opens 1 ∷ Goes (By_server (Admits 5)) ∷ Goes (Joins (just_a ∷ [])) ∷ Goes (By_server (Restores true 5 just_a []))
    ∷ Goes (By_server (Advances (a_changed ∷ [])))
    ∷ Goes (Takes (Watches_set true 5)) ∷ []

abbrev pub until_told : List Move
until_told = until_restored ++ Goes (Takes (Notifies a_changed)) ∷ []

-- /a and /b are made at 5, and /b is set at 6
abbrev pub two_nodes : History
two_nodes = record {
  first = root_alone;
  transactions = record {
    zxid = 5;
    time = pos 1000;
    changes = Creates ((97 ∷ []) ∷ []) (Some (104 ∷ 105 ∷ [])) (pos 0) ∷ Creates ((98 ∷ []) ∷ []) (Some (104 ∷ 105 ∷ [])) (pos 0) ∷ [];
  }
      ∷ record { zxid = 6; time = pos 2000; changes = Sets ((98 ∷ []) ∷ []) None ∷ [] } ∷ [];
}

abbrev pub at_b : Text
at_b = 47 ∷ 98 ∷ []

abbrev pub read_b : Call
read_b = GetData at_b true

abbrev pub just_b : Lists
just_b = record { data_watches = at_b ∷ []; exist_watches = []; child_watches = [] }

-- both are read at 5; on a new connection, to a server at 6, the reply to the first of two parts is taken
abbrev pub until_first_part : List Move
until_first_part =
    Opens 1 ∷ Goes (By_server (Admits 0)) ∷ Goes (Joins []) ∷ Goes (Asks read_a) ∷ Goes (Asks read_b)
    ∷ Goes (By_server (Answers read_a what_a_held)) ∷ Goes (By_server (Answers read_b what_a_held))
    ∷ Goes (Takes (Replies (question_of read_a) 5 what_a_held)) ∷ Goes (Takes (Replies (question_of read_b) 5 what_a_held))
    ∷ Loses ∷ Opens 2 ∷ Goes (By_server (Admits 5)) ∷ Goes (Joins (just_a ∷ just_b ∷ [])) ∷ Goes (By_server (Restores false 5 just_a []))
    ∷ Goes (Takes (Watches_set false 6)) ∷ []
