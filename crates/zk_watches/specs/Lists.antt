-- The lists of a registry, and what each call makes of them.
use Rattle.std.specs.Prelude.{◌≡◌, ℕ, ◌+◌, ◌≤◌, Bool, true, false, not, ◌&&◌, ◌||◌, List, [], ◌∷◌, ◌++◌, length, filter, All, bytes_eq}
use Rattle.std.specs.Prelude.{if◌then◌else◌}
use Rattle.std.specs.List.{list_any, IsDistinct}
use Rattle.zk_nodes.specs.Path.{Text}
use Rattle.zk_nodes.specs.declared.side.Side.{Side}
use Rattle.zk_nodes.specs.declared.side.Side.TheVariants.{Data, Child}
use Rattle.zk_records.specs.declared.event.Event.{Event}
use Rattle.zk_records.specs.Events.{concerns}
use Rattle.zk_limits.specs.declared.limits.TheConstants.{LONGEST_PATH, MOST_PATHS}

-- the watched paths, each list in the order in which its paths last came into it
pub record Lists : Type 0 where
  pub data_watches : List Text
  pub exist_watches : List Text
  pub child_watches : List Text

-- no paths
abbrev pub no_lists : Lists
no_lists = record { data_watches = []; exist_watches = []; child_watches = [] }

-- whether the path is in the list
abbrev pub has : List Text → Text → Bool
has paths path = list_any (bytes_eq path) paths

-- the list with the path: a path that is there keeps its place, another goes last
abbrev pub with_path : List Text → Text → List Text
with_path paths path = if has paths path then paths else paths ++ path ∷ []

-- the list without the path
abbrev pub without : List Text → Text → List Text
without paths path = filter (λ other. not (bytes_eq path other)) paths

-- whether the path is on the side
abbrev pub side_has : Lists → Side → Text → Bool
side_has lists Data path = has lists.data_watches path || has lists.exist_watches path
side_has lists Child path = has lists.child_watches path

-- whether the path is in the list of the side into which it goes where it was found there or absent
abbrev pub list_has : Lists → Side → Bool → Text → Bool
list_has lists Data true path = has lists.data_watches path
list_has lists Data false path = has lists.exist_watches path
list_has lists Child _ path = has lists.child_watches path

-- how many paths are on the side
abbrev pub count_of : Lists → Side → ℕ
count_of lists Data = length lists.data_watches + length lists.exist_watches
count_of lists Child = length lists.child_watches

-- the lists after the path is registered on the side, where it was found there or absent
abbrev pub registered : Lists → Side → Bool → Text → Lists
registered lists Data true path = record {
  data_watches = with_path lists.data_watches path;
  exist_watches = without lists.exist_watches path;
  child_watches = lists.child_watches;
}
registered lists Data false path = record {
  data_watches = without lists.data_watches path;
  exist_watches = with_path lists.exist_watches path;
  child_watches = lists.child_watches;
}
registered lists Child _ path = record {
  data_watches = lists.data_watches;
  exist_watches = lists.exist_watches;
  child_watches = with_path lists.child_watches path;
}

-- whether the event at the path fires the side
abbrev pub fires : Lists → Event → Side → Text → Bool
fires lists event side path = concerns event side && side_has lists side path

-- the lists after the event at the path
abbrev pub fired : Lists → Event → Text → Lists
fired lists event path = record {
  data_watches = if concerns event Data then without lists.data_watches path else lists.data_watches;
  exist_watches = if concerns event Data then without lists.exist_watches path else lists.exist_watches;
  child_watches = if concerns event Child then without lists.child_watches path else lists.child_watches;
}

-- what holds of the lists of every registry
pub record IsSound (lists : Lists) : Type 0 where
  pub data_distinct : IsDistinct bytes_eq lists.data_watches
  pub exist_distinct : IsDistinct bytes_eq lists.exist_watches
  pub child_distinct : IsDistinct bytes_eq lists.child_watches
  pub apart : (path : Text) → has lists.data_watches path ≡ true → has lists.exist_watches path ≡ false
  pub data_room : length lists.data_watches + length lists.exist_watches ≤ MOST_PATHS
  pub child_room : length lists.child_watches ≤ MOST_PATHS
  pub data_short : All (λ path. length path ≤ LONGEST_PATH) lists.data_watches
  pub exist_short : All (λ path. length path ≤ LONGEST_PATH) lists.exist_watches
  pub child_short : All (λ path. length path ≤ LONGEST_PATH) lists.child_watches
