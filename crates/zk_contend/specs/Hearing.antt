-- What becomes of a contender by what it hears.
use Rattle.std.specs.Prelude.{ℕ, ℤ, negsuc, ◌+◌, ◌-◌, ◌^◌, min, Bool, true, false, ◌&&◌, not, nat_lt, bytes_eq}
use Rattle.std.specs.Prelude.{[], ◌∷◌, Option, Some, None, option_map, if◌then◌else◌}
use Rattle.std.specs.Ordering.{int_eq}
use Rattle.zk_nodes.specs.Path.{Text, Name, NodePath, path_eq, path_of, parent_text}
use Rattle.zk_nodes.specs.PathFault.{fault_of}
use Rattle.zk_nodes.specs.declared.path_fault.PathFault.{PathFault}
use Rattle.zk_conversation.specs.Results.{Result, NoNode, Refused as Refused_by, Made, Brought}
use Rattle.zk_turns.specs.Turns.{Outcome, Replied, ConnectionLoss}
use Rattle.zk_turns.specs.Turns as turns
use Rattle.zk_conclusions.specs.Tags.{has_tag}
use Rattle.zk_contend.specs.declared.place.Ask.{Ask}
use Rattle.zk_contend.specs.declared.place.Ask.TheVariants.{Make, Fence}
use Rattle.zk_contend.specs.declared.place.Place.{Place}
use Rattle.zk_contend.specs.declared.place.Place.TheVariants.{Making, Entering, Unsure, Looking, At, Leaving, Left}
use Rattle.zk_contend.specs.declared.refused.Refused.{Refused}
use Rattle.zk_contend.specs.declared.refused.Obstacle.{Obstacle}
use Rattle.zk_contend.specs.declared.refused.Obstacle.TheVariants.{Code, TooManyWatches, TooLarge, SessionClosed}

-- ---- refusals

-- a second later, and never after the last moment that there is
abbrev pub later : ℕ → ℕ
later now = min (now + 1000) (2 ^ 64 - 1)

-- Which codes stop what was asked for: the barrier by none, a create of the directory not by that it is there.
abbrev pub refuses : Ask → (code : ℤ) → Bool
refuses Fence code = false
refuses Make code = not (int_eq code (negsuc 109))
refuses _ code = true

abbrev pub refusal_by : Ask → Result → Option Obstacle
refusal_by ask (Refused_by code) = if refuses ask code then Some (Code code) else None
refusal_by ask _ = None

abbrev pub refusal_of : Ask → Outcome → Option Obstacle
refusal_of ask (Replied zxid result) = refusal_by ask result
refusal_of ask turns.TooManyWatches = Some TooManyWatches
refusal_of ask turns.TooLarge = Some TooLarge
refusal_of ask turns.SessionClosed = Some SessionClosed
refusal_of ask _ = None

abbrev pub refused_for : (now : ℕ) → Option Obstacle → Option Refused
refused_for now None = None
refused_for now (Some why) = Some (record { why = why; until = later now })

abbrev pub refused_after : (now : ℕ) → Ask → Outcome → Option Refused
refused_after now ask outcome = refused_for now (refusal_of ask outcome)

abbrev pub is_paused : (now : ℕ) → Option Refused → Bool
is_paused now None = false
is_paused now (Some refused) = nat_lt now refused.until

-- ---- creates; none where the place stays as it was

-- The node of the path is there: the directory is, or is to be made next.
abbrev pub after_made : {A : Type 0} → (dir path : Text) → Place A
after_made dir path = if bytes_eq path dir then Entering else Making dir

-- the node above is to be made first
abbrev pub above : {A : Type 0} → (path : Text) → Option (Place A)
above path = option_map Making (parent_text path)

abbrev pub made_by : {A : Type 0} → (dir path : Text) → Result → Option (Place A)
made_by dir path (Made at) = Some (after_made dir path)
made_by dir path (Brought bytes) = Some (after_made dir path)
made_by dir path NoNode = above path
made_by dir path (Refused_by code) = if int_eq code (negsuc 109) then Some (after_made dir path) else None
made_by dir path _ = None

abbrev pub made : {A : Type 0} → (dir path : Text) → Outcome → Option (Place A)
made dir path (Replied zxid result) = made_by dir path result
made dir path _ = None

-- The path lies in the directory, and its name begins so.
abbrev pub is_place_in : (dir : NodePath) → (front : Name) → NodePath → Bool
is_place_in dir front [] = false
is_place_in dir front (name ∷ path) = path_eq dir path && has_tag front name

abbrev pub is_place : (dir : Text) → (front : Name) → (path : Text) → Bool
is_place dir front path = is_place_in (path_of dir) front (path_of path)

-- a text that has no fault is a path
abbrev pub named_if : (is : Bool) → (text : Text) → Option PathFault → Option Text
named_if is text None = if is then Some text else None
named_if is text (Some fault) = None

abbrev pub place_named : (dir : Text) → (front : Name) → (text : Text) → Option Text
place_named dir front text = named_if (is_place dir front text) text (fault_of text)

-- No place is there.
abbrev pub entering : {A : Type 0} → (is_given_up : Bool) → Place A
entering true = Left
entering false = Entering

-- This place is there, and no other.
abbrev pub standing_at : {A : Type 0} → (is_given_up : Bool) → (own : Text) → Place A
standing_at true own = Leaving own
standing_at false own = At own None

abbrev pub placed_as : {A : Type 0} → (is_given_up : Bool) → Option Text → Place A
placed_as is_given_up None = Unsure
placed_as is_given_up (Some own) = standing_at is_given_up own

abbrev pub placed : {A : Type 0} → (dir : Text) → (front : Name) → (is_given_up : Bool) → (text : Text) → Place A
placed dir front is_given_up text = placed_as is_given_up (place_named dir front text)

abbrev pub unentered : {A : Type 0} → (dir : Text) → (is_given_up : Bool) → Result → Option (Place A)
unentered dir true result = Some Left
unentered dir false NoNode = Some (Making dir)
unentered dir false _ = None

abbrev pub unsent : {A : Type 0} → (is_given_up : Bool) → Option (Place A)
unsent true = Some Left
unsent false = None

abbrev pub entered_by : {A : Type 0} → (dir : Text) → (front : Name) → (is_given_up : Bool) → Result → Option (Place A)
entered_by dir front is_given_up (Made text) = Some (placed dir front is_given_up text)
entered_by dir front is_given_up NoNode = unentered dir is_given_up NoNode
entered_by dir front is_given_up (Refused_by code) = unentered dir is_given_up (Refused_by code)
entered_by dir front is_given_up _ = Some Unsure

-- A create whose answer is lost may have made a place. What answers a create2 is not read: its place is looked for, without a barrier.
abbrev pub entered : {A : Type 0} → (dir : Text) → (front : Name) → (is_given_up : Bool) → Outcome → Option (Place A)
entered dir front is_given_up (Replied zxid (Brought bytes)) = Some (Looking zxid)
entered dir front is_given_up (Replied zxid result) = entered_by dir front is_given_up result
entered dir front is_given_up ConnectionLoss = Some Unsure
entered dir front is_given_up _ = unsent is_given_up
