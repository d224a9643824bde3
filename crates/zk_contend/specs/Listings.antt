-- Where the listing of a contender comes from.
use Rattle.std.specs.Prelude.{ℕ, ◌≡◌, List, Some}
use Rattle.std.specs.List.{FoldsTo}
use Rattle.zk_nodes.specs.Path.{Text}
use Rattle.zk_nodes.specs.declared.stat.Stat.{Stat}
use Rattle.zk_conversation.specs.Results.{Listing}
use Rattle.zk_turns.specs.Meaning.{Among}
use Rattle.zk_turns.specs.Turns.{Replied}
use Rattle.zk_turns.specs.View.{View}
use Rattle.zk_contend.specs.declared.listed.Listed.{Listed}
use Rattle.zk_contend.specs.declared.place.Place.TheVariants.{At}
use Rattle.zk_contend.specs.Nodes.{Begins, HearsOne, Leads, Moment, Stage}

-- One of these moments was an answer with these names at this zxid.
abbrev pub WasHeard : {A : Type 0} → Listed A → List Moment → Type 0
WasHeard listed moments = (view : View) × (now : ℕ) × (stat : Stat)
    × Among (HearsOne view now (Replied listed.zxid (Listing listed.names stat))) moments

-- The listing of a contender is an answer that it heard.
abbrev pub ListingsAreHeard : (A : Type 0) → Type 0
ListingsAreHeard A = (first last : Stage A) (moments : List Moment) (own : Text) (listed : Listed A) → Begins first
    → FoldsTo Leads first moments last → last.contender.place ≡ At own (Some listed) → WasHeard listed moments
