-- The lists, cut into parts that are each small enough for one request.
use Rattle.std.specs.Prelude.{◌≡◌, ℕ, ◌+◌, ◌<◌, ◌≤◌, List, [], ◌∷◌, ◌++◌, map, length, All, flat_map, sum_by, nat_le, if◌then◌else◌}
use Rattle.zk_nodes.specs.Path.{Text}
use Rattle.zk_watches.specs.Lists.{Lists, no_lists}
use Rattle.zk_limits.specs.declared.limits.TheConstants.{LONGEST_PATH, MOST_WEIGHT}

-- a path of one of the three lists
pub data Watch : Type 0 where
  OnData OnExist OnChild : (path : Text) → Watch

abbrev pub path_of : Watch → Text
path_of (OnData path) = path
path_of (OnExist path) = path
path_of (OnChild path) = path

-- the paths in the order in which they are sent: data, exist, child, each list in its order
abbrev pub watches_of : Lists → List Watch
watches_of lists = map OnData lists.data_watches ++ (map OnExist lists.exist_watches ++ map OnChild lists.child_watches)

-- the bytes that a path takes in a request, with its length
abbrev pub weight_of : Watch → ℕ
weight_of watch = 4 + length (path_of watch)

abbrev pub total_of : List Watch → ℕ
total_of watches = sum_by weight_of watches

-- the path before the others of its list
abbrev pub put_first : Watch → Lists → Lists
put_first (OnData path) part = record part { data_watches = path ∷ part.data_watches }
put_first (OnExist path) part = record part { exist_watches = path ∷ part.exist_watches }
put_first (OnChild path) part = record part { child_watches = path ∷ part.child_watches }

-- the path into the first of these parts
abbrev pub into_first : Watch → List Lists → List Lists
into_first watch [] = put_first watch no_lists ∷ []
into_first watch (part ∷ parts) = put_first watch part ∷ parts

-- The rest of a part that has this weight, and the parts after it. A part closes where the next path would bring its
-- weight above 131,072.
abbrev pub rest_of_parts : ℕ → List Watch → List Lists
rest_of_parts weight [] = no_lists ∷ []
rest_of_parts weight (watch ∷ watches) =
    if nat_le (weight + weight_of watch) MOST_WEIGHT then into_first watch (rest_of_parts (weight + weight_of watch) watches)
    else no_lists ∷ into_first watch (rest_of_parts (weight_of watch) watches)

abbrev pub parts_of_watches : List Watch → List Lists
parts_of_watches [] = []
parts_of_watches (watch ∷ watches) = into_first watch (rest_of_parts (weight_of watch) watches)

-- the parts of the lists, in order; no paths, no part
abbrev pub parts : Lists → List Lists
parts lists = parts_of_watches (watches_of lists)

-- What the parts are

-- the first of the watches that follow, if there is one, would take a part of this weight past the most
abbrev pub IsFull : ℕ → List Watch → Type 0
IsFull weight [] = Unit {0}
IsFull weight (next ∷ _) = MOST_WEIGHT < weight + weight_of next

-- each part is full
abbrev pub AreFull : List Lists → Type 0
AreFull [] = Unit {0}
AreFull (part ∷ parts) = IsFull (total_of (watches_of part)) (flat_map watches_of parts) × AreFull parts

-- the lists, cut into as few parts as their order and the weight allow
pub record ArePartsOf (lists : Lists) (parts : List Lists) : Type 0 where
  pub joined : flat_map watches_of parts ≡ watches_of lists
  pub some : All (λ part. 0 < length (watches_of part)) parts
  pub within : All (λ part. total_of (watches_of part) ≤ MOST_WEIGHT) parts
  pub full : AreFull parts

-- Where each path has at most 4,096 bytes, the parts joined are the lists, none of them is empty, and each is within its
-- weight and full.
abbrev pub PartsAreFull : Type 0
PartsAreFull = (lists : Lists) → All (λ watch. length (path_of watch) ≤ LONGEST_PATH) (watches_of lists) → ArePartsOf lists (parts lists)

-- Nothing else is so cut.
abbrev pub PartsAreOne : Type 0
PartsAreOne = (lists : Lists) → (cut : List Lists) → ArePartsOf lists cut → cut ≡ parts lists
