-- What is told of a connection's bytes, frame by frame.
use Rattle.std.specs.Prelude.{◌≡◌, ◌+◌, ◌-◌, ℕ, zero, suc, nat_lt, if◌then◌else◌, List, [], ◌∷◌, ◌++◌, length, codes, Option, Some, None}
use Rattle.std.specs.Fmt.{decimal}
use Rattle.std.specs.List.{FoldsTo}
use Rattle.zk_frames.specs.declared.fault.FrameFault.{FrameFault}
use Rattle.zk_frames.specs.FaultText.{frame_fault_words}
use Rattle.zk_frames.specs.Frame.{IsUnfinished, joined}
use Rattle.zk_frames.specs.Stream.{StandsNext}
use Rattle.zk_limits.specs.declared.limits.TheConstants.{LONGEST_INCOMING}
use Rattle.zk_records.specs.declared.request_header.RequestHeader.{RequestHeader}
use Rattle.script_stream.specs.declared.way.Way.{Way}
use Rattle.script_stream.specs.declared.way.Way.TheVariants.{Client, Server}
use Rattle.script_stream.specs.Asked.{noted}
use Rattle.script_stream.specs.Frames.{frame_line, place_words}
use Rattle.script_stream.specs.Words.{named}

-- How far the frames of a direction are told: where the next one begins, the requests so far, and what was told.
pub record Telling : Type 0 where
  pub place : ℕ
  pub asked : List RequestHeader
  pub told : List ℕ

abbrev pub telling : ℕ → List RequestHeader → List ℕ → Telling
telling place asked told = record { place = place; asked = asked; told = told }

-- the client's frames are requests, except the first
abbrev pub asked_after : Way → (place : ℕ) → List RequestHeader → List ℕ → List RequestHeader
asked_after Client zero asked payload = asked
asked_after Client (suc n) asked payload = noted asked payload
asked_after Server place asked payload = asked

abbrev pub told_after : Way → Telling → List ℕ → Telling
told_after way old payload =
    telling (old.place + (4 + length payload)) (asked_after way old.place old.asked payload)
    (old.told ++ frame_line way old.place old.asked payload)

-- a frame is told
abbrev pub Tells : Way → Telling → List ℕ → Telling → Type 0
Tells way old payload new = new ≡ told_after way old payload

-- the line of a length that is none: no frame can be found after it
abbrev pub fault_line : Way → (place : ℕ) → FrameFault → List ℕ
fault_line way place fault = place_words way place ++ (named (codes "fault") (frame_fault_words fault) ++ 10 ∷ [])

-- What stands after the frames is the beginning of one, or a length that is none, which is told.
abbrev pub EndsBy : Option FrameFault → Way → Telling → (rest held : List ℕ) → Telling → Type 0
EndsBy None way after rest held new = IsUnfinished LONGEST_INCOMING rest × (held ≡ rest) × (new ≡ after)
EndsBy (Some fault) way after rest held new =
    StandsNext LONGEST_INCOMING fault rest × (held ≡ [])
    × (new ≡ telling after.place after.asked (after.told ++ fault_line way after.place fault))

-- Each whole frame of the bytes is told, in order. The fault is that of a length after them, and then nothing is held any more.
pub record TellsAll (way : Way) (bytes : List ℕ) (old : Telling) (held : List ℕ) (fault : Option FrameFault) (new : Telling) : Type 0 where
  pub payloads : List (List ℕ)
  pub rest : List ℕ
  pub after : Telling
  pub are : bytes ≡ joined payloads ++ rest
  pub tells : FoldsTo (Tells way) old payloads after
  pub ends : EndsBy fault way after rest held new

-- A direction: what is no whole frame yet, the fault of a length, how many bytes came, and how many of them were whole frames.
pub record Course : Type 0 where
  pub held : List ℕ
  pub fault : Option FrameFault
  pub came : ℕ
  pub place : ℕ

-- Bytes come in a direction: after a length that is none nothing is told of it.
abbrev pub HearsBy : Option FrameFault → Way → (piece : List ℕ) → (old : Course) → List RequestHeader → (new : Course)
    → List RequestHeader → List ℕ → Type 0
HearsBy None way piece old asked new later text =
    TellsAll way (old.held ++ piece) (telling old.place asked []) new.held new.fault (telling new.place later text)
HearsBy (Some fault) way piece old asked new later text = (new.fault ≡ Some fault) × (new.place ≡ old.place) × (later ≡ asked) × (text ≡ [])

pub record Hears (way : Way) (piece : List ℕ) (old : Course) (asked : List RequestHeader) (new : Course) (later : List RequestHeader)
    (text : List ℕ) : Type 0 where
  pub came : new.came ≡ old.came + length piece
  pub tells : HearsBy old.fault way piece old asked new later text

-- Where a script stands: both directions, and the requests so far.
pub record Position : Type 0 where
  pub client : Course
  pub server : Course
  pub asked : List RequestHeader

abbrev pub first_course : Course
first_course = record { held = []; fault = None; came = 0; place = 0 }

abbrev pub first_position : Position
first_position = record { client = first_course; server = first_course; asked = [] }

-- how many bytes of a direction are no whole frame, where there are such
abbrev pub left_line : Way → (place came : ℕ) → List ℕ
left_line way place came =
    if nat_lt place came then place_words way place ++ (named (codes "left") (decimal (came - place) ++ codes " bytes") ++ 10 ∷ []) else []
