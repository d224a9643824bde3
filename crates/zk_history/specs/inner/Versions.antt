-- What contracts of private functions say: nobody has to believe it.
use Rattle.std.specs.Prelude.{ℕ, ℤ, pos, ◌≡◌, ◌<◌, ◌≤◌, ◌+◌, ◌-◌, Bool, true, false, ◌||◌, if◌then◌else◌, List, [], ◌∷◌, ◌++◌}
use Rattle.std.specs.Prelude.{length, take, Option, Some, None, option_map, ⊤}
use Rattle.zk_nodes.specs.Path.{Text, NodePath, path_eq, path_of}
use Rattle.zk_nodes.specs.History.{Change, Creates, Sets, Deletes, Transaction}
use Rattle.zk_history.specs.Replay.{count_after}
use Rattle.zk_history.specs.HistoryView.{made_transaction}
use Rattle.zk_history.specs.declared.version.Entry.{Entry}
use Rattle.zk_history.specs.declared.version.Version.{Version}
use Rattle.zk_history.specs.declared.version.Origin.{Origin}
use Rattle.zk_history.specs.declared.version.Origin.TheVariants.{Later}
use Rattle.zk_history.specs.Versions.{entry_of, children_of}

-- all versions but the last
abbrev pub without_last : List Version → List Version
without_last versions = take (length versions - 1) versions

-- the last version of all
abbrev pub last_version : List Version → Option Version
last_version [] = None
last_version (one ∷ []) = Some one
last_version (one ∷ two ∷ more) = last_version (two ∷ more)

-- a new node
abbrev pub entry_made : ℕ → ℤ → Origin → ℤ → Entry
entry_made zxid time origin owner =
    record { origin = origin; czxid = zxid; mzxid = zxid; pzxid = zxid; ctime = time; mtime = time; version = 0; owner = owner }

-- a write of the data
abbrev pub entry_written : ℕ → ℤ → Origin → Entry → Entry
entry_written zxid time origin e =
    record {
      origin = origin;
      czxid = e.czxid;
      mzxid = zxid;
      pzxid = e.pzxid;
      ctime = e.ctime;
      mtime = time;
      version = e.version + 1;
      owner = e.owner;
    }

-- a change of the set of children
abbrev pub entry_regrouped : ℕ → Entry → Entry
entry_regrouped zxid e =
    record {
      origin = e.origin;
      czxid = e.czxid;
      mzxid = e.mzxid;
      pzxid = zxid;
      ctime = e.ctime;
      mtime = e.mtime;
      version = e.version;
      owner = e.owner;
    }

-- the node at path p after a change that stands at an origin
abbrev pub entry_after : ℕ → ℤ → Origin → NodePath → Change → Option Entry → Option Entry
entry_after zxid time origin p (Creates [] content owner) held = held
entry_after zxid time origin p (Creates (name ∷ path) content owner) held =
    if path_eq p (name ∷ path) then Some (entry_made zxid time origin owner)
    else (if path_eq p path then option_map (entry_regrouped zxid) held else held)
entry_after zxid time origin p (Sets path content) held = if path_eq p path then option_map (entry_written zxid time origin) held else held
entry_after zxid time origin p (Deletes []) held = held
entry_after zxid time origin p (Deletes (name ∷ path)) held =
    if path_eq p (name ∷ path) then None else (if path_eq p path then option_map (entry_regrouped zxid) held else held)

-- the version of path p that a change makes
abbrev pub version_after : ℕ → ℤ → Origin → NodePath → Change → Option Version → Version
version_after zxid time origin p change held =
    record {
      zxid = zxid;
      origin = origin;
      entry = entry_after zxid time origin p change (entry_of p held);
      children = count_after p change (children_of held);
    }

-- the versions of the path of a text, with the one that a change makes
abbrev pub with_version : ℕ → ℤ → Origin → Text → Change → List Version → List Version
with_version zxid time origin text change versions =
    versions ++ version_after zxid time origin (path_of text) change (last_version versions) ∷ []

-- a path is this one, or that of its parent; the root has none
abbrev pub is_near : NodePath → NodePath → Bool
is_near p [] = false
is_near p (name ∷ path) = path_eq p (name ∷ path) || path_eq p path

-- whether a change changes the node at path p or the set of its children
abbrev pub touches : NodePath → Change → Bool
touches p (Creates path content owner) = is_near p path
touches p (Sets path content) = path_eq p path
touches p (Deletes path) = is_near p path

-- the versions of the path of a text after a change
abbrev pub versions_after : ℕ → ℤ → Origin → Text → Change → List Version → List Version
versions_after zxid time origin text change versions =
    if touches (path_of text) change then with_version zxid time origin text change versions else versions

-- the versions before that change
abbrev pub versions_before : Text → Change → List Version → List Version
versions_before text change versions = if touches (path_of text) change then without_last versions else versions

-- the version of a node that a change writes can rise
abbrev pub CanBeWritten : NodePath → Change → Option Version → Type 0
CanBeWritten p (Creates path content owner) held = ⊤
CanBeWritten p (Sets path content) held = path_eq p path ≡ true → (e : Entry) → entry_of p held ≡ Some e → e.version < 2147483647
CanBeWritten p (Deletes path) held = ⊤

-- the numbers that a change raises can rise
abbrev pub CanBeNoted : NodePath → Change → Option Version → Type 0
CanBeNoted p change held = (children_of held ≤ 2147483647) × CanBeWritten p change held

-- the last of some transactions
abbrev pub last_transaction : List Transaction → Transaction
last_transaction [] = made_transaction 0 (pos 0) []
last_transaction (one ∷ []) = one
last_transaction (one ∷ two ∷ more) = last_transaction (two ∷ more)

-- where the next change will stand
abbrev pub next_origin : List Transaction → Origin
next_origin transactions = Later (length transactions - 1) (length (last_transaction transactions).changes)
