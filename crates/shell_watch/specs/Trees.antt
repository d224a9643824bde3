-- What is watched of trees, and the line of the bound.
use Rattle.std.specs.Prelude.{◌==◌, ◌+◌, ◌-◌, ◌^◌, ◌&&◌, min, not, ℕ, Bool, true, false, bytes_eq, pos, codes, List, [], ◌∷◌, ◌++◌, map}
use Rattle.std.specs.Prelude.{if◌then◌else◌, Option, Some, None, string_bytes}
use Rattle.std.specs.List.{filter, list_any}
use Rattle.std.specs.Fmt.{decimal}
use Rattle.std.specs.declared.string.String.{String}
use Rattle.zk_nodes.specs.Path.{Text}
use Rattle.zk_nodes.specs.declared.side.Side.{Side}
pub use Rattle.zk_trees.specs.Trees.{aim_of, aims_of}
use Rattle.zk_trees.specs.Trees.{is_side}
use Rattle.zk_trees.specs.Tending.{IsBounded, LetsGo, TakesOn, TreeTold}
use Rattle.zk_agent.specs.Telling.{action_view, TellsTree, Told}
use Rattle.zk_driver.specs.declared.turn.Turn.{Turn}
use Rattle.zk_driver.specs.declared.turn.Turn.TheVariants as turn
use Rattle.shell_words.specs.Objects.{number_members}
use Rattle.shell_watch.specs.Lines.{line_of, none_words, object_line, stamp_of}
use Rattle.shell_watch.specs.declared.growth.Growth.{Growth}
use Rattle.shell_watch.specs.declared.plan.Style.{Style}
use Rattle.shell_watch.specs.declared.plan.Style.TheVariants as style_is
use Rattle.shell_watch.specs.declared.shown.Watched.{Watched}

-- ---- what was printed of a subject

-- the words that were printed last; if none were, it is as if nothing were kept and that were printed
abbrev pub words_printed : {A : Type 0} → Side → Option (String A) → List ℕ
words_printed side None = none_words side
words_printed side (Some words) = string_bytes words

abbrev pub printed : {A : Type 0} → Watched A → List ℕ
printed one = words_printed one.subject.side one.note

-- ---- what joins

-- a side of a path that is followed by a ticket, and of which nothing was printed
abbrev pub fresh : {A : Type 0} → (ticket : ℕ) → Side × Text → Watched A
fresh ticket aim = record { subject = record { side = aim.0; path = aim.1 }; ticket = ticket; note = None; is_leaving = false }

-- whether it is this side of a path
abbrev pub is_at : {A : Type 0} → Side × Text → Watched A → Bool
is_at aim one = is_side one.subject.side aim.0 && bytes_eq one.subject.path aim.1

abbrev pub is_watched : {A : Type 0} → Side × Text → List (Watched A) → Bool
is_watched aim watched = list_any (is_at aim) watched

-- What was let go and is followed again stays, by its new ticket.
abbrev pub kept_on : {A : Type 0} → (ticket : ℕ) → Side × Text → Watched A → Watched A
kept_on ticket aim one = if one.is_leaving && is_at aim one then record one { ticket = ticket; is_leaving = false } else one

-- A side of a path joins if it is not watched yet, so none is printed twice.
abbrev pub joined_where : {A : Type 0} → (is_watched : Bool) → (ticket : ℕ) → Side × Text → List (Watched A) → List (Watched A)
joined_where true ticket aim watched = map (kept_on ticket aim) watched
joined_where false ticket aim watched = watched ++ fresh ticket aim ∷ []

abbrev pub joined : {A : Type 0} → (ticket : ℕ) → Side × Text → List (Watched A) → List (Watched A)
joined ticket aim watched = joined_where (is_watched aim watched) ticket aim watched

-- ---- what leaves

-- whether a ticket follows it, and it was printed last that there is no such node
abbrev pub has_nothing_left : {A : Type 0} → (ticket : ℕ) → Watched A → Bool
has_nothing_left ticket one = one.ticket == ticket && bytes_eq (printed one) (codes "does not exist")

abbrev pub leaving : {A : Type 0} → (ticket : ℕ) → Watched A → Watched A
leaving ticket one = if one.ticket == ticket then record one { is_leaving = true } else one

-- What a ticket follows is let go. It leaves at once if it was printed last that there is no such node; else it is printed once more.
abbrev pub left : {A : Type 0} → (ticket : ℕ) → List (Watched A) → List (Watched A)
left ticket watched = map (leaving ticket) (filter (λ one. not (has_nothing_left ticket one)) watched)

-- what is not let go, in its order
abbrev pub stays : {A : Type 0} → Watched A → Bool
stays one = not one.is_leaving

abbrev pub staying : {A : Type 0} → List (Watched A) → List (Watched A)
staying watched = filter stays watched

-- ---- how trees grow

-- whether a tree has more nodes than the most
abbrev pub has_bounded : Growth → Bool
has_bounded growth = not (growth.bounded == 0)

-- how many have, if one has more, or has more no longer
abbrev pub bounded_after : (is_bounded : Bool) → ℕ → ℕ
bounded_after true count = min (count + 1) (2 ^ 64 - 1)
bounded_after false count = count - 1

abbrev pub noted_bound : (is_bounded : Bool) → Growth → Growth
noted_bound is_bounded growth = record growth { bounded = bounded_after is_bounded growth.bounded }

-- ---- what is told of trees

-- what is watched, and how trees grow, after this is told of a tree
abbrev pub watched_by : {A : Type 0} → TreeTold → List (Watched A) → List (Watched A)
watched_by (TakesOn tree ticket side path) watched = joined ticket (side, path) watched
watched_by (LetsGo tree ticket) watched = left ticket watched
watched_by told watched = watched

abbrev pub grown_by : TreeTold → Growth → Growth
grown_by (IsBounded tree is_bounded) growth = noted_bound is_bounded growth
grown_by told growth = growth

-- after an action
abbrev pub watched_told : {A : Type 0} → Told → List (Watched A) → List (Watched A)
watched_told (TellsTree told) watched = watched_by told watched
watched_told told watched = watched

abbrev pub grown_told : Told → Growth → Growth
grown_told (TellsTree told) growth = grown_by told growth
grown_told told growth = growth

-- after a turn, if trees grow
abbrev pub watched_where : {A : Type 0} → (is_growing : Bool) → Turn A → List (Watched A) → List (Watched A)
watched_where true (turn.Told action) watched = watched_told (action_view action) watched
watched_where is_growing turn watched = watched

abbrev pub grown_where : {A : Type 0} → (is_growing : Bool) → Turn A → Growth → Growth
grown_where true (turn.Told action) growth = grown_told (action_view action) growth
grown_where is_growing turn growth = growth

abbrev pub watched_after : {A : Type 0} → Turn A → Growth → List (Watched A) → List (Watched A)
watched_after turn growth watched = watched_where growth.is_growing turn watched

abbrev pub grown_after : {A : Type 0} → Turn A → Growth → Growth
grown_after turn growth = grown_where growth.is_growing turn growth

-- ---- the bound

abbrev pub bound_line : Style → (ms most : ℕ) → List ℕ
bound_line style_is.Json ms most = object_line ms (codes "bound") (number_members (codes "nodes") (pos most))
bound_line style ms most =
    line_of (stamp_of ms) (codes "bound " ++ (decimal most ++ codes " a tree has more nodes: no more of it are watched"))

-- it is printed if it was not reached before
abbrev pub bound_text : (was is : Bool) → Style → (ms most : ℕ) → List ℕ
bound_text false true style ms most = bound_line style ms most
bound_text was is style ms most = []
