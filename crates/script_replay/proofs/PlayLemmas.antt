-- What a line does, by what its words say.
use Rattle.std.proofs.Common.{◌≡◌, true, false, List, [], IfErr, IfOk, is_some, refl, ap, ◌∙◌}
use Rattle.std.specs.Prelude.{String, string_bytes, Option, Some, None, Result, Ok, Err}
use Rattle.std.specs.Option.{option_map}
use Rattle.zk_nodes.specs.Path.{Text}
use Rattle.zk_turns.specs.View.{View, view_at}
use Rattle.script_words.specs.declared.script_fault.ScriptFault.{ScriptFault}
use Rattle.script_words.specs.Stops.{IfHalted}
use Rattle.script_words.specs.declared.stop.LineStop.{LineStop}
use Rattle.script_words.specs.declared.stop.LineStop.TheVariants.{Halted, Memory, Refused}
use Rattle.script_replay.specs.declared.begin_line.BeginKeyword.{BeginKeyword}
use Rattle.script_replay.specs.declared.player.ReplayKeyword.TheVariants as keyword
use Rattle.script_replay.specs.declared.drive_line.DriveKeyword.{DriveKeyword}
use Rattle.script_replay.specs.ReplayLines.{BeginValue, DriveValue, ReplayValue, Begins, Drives, begin_line_at, drive_line_at, placed_at}
use Rattle.script_replay.specs.ReplayLines.{says_at}
use Rattle.script_words.specs.Said.{something}
use Rattle.script_replay.specs.inner.Played.{DoesSaid, HaltsSaid}
use Rattle.script_replay.specs.Played.{DoesDrive, HaltsDrive, HaltsWords, TakesWords, start_of}

pub taken : {Y : Type 0} (words : List Text) (old new : Option View) (said : Result ReplayValue ScriptFault)
    (r : Result (String Y) LineStop)
    → says_at words (is_some old) ≡ something said
    → IfOk r (λ text. DoesSaid said old new (string_bytes text)) → IfOk r (λ text. TakesWords words old new (string_bytes text))
taken words old new said (Ok text) is does = record { what = Some does.value; says = is ∙ ap something does.says; does = does.does }
taken words old new said (Err stop) is does = tt

-- so where the client halts
pub stopped : {Y : Type 0} (words : List Text) (old new : Option View) (said : Result ReplayValue ScriptFault)
    (r : Result (String Y) LineStop)
    → says_at words (is_some old) ≡ something said
    → IfErr r (IfHalted (HaltsSaid said old new)) → IfErr r (IfHalted (HaltsWords words old new))
stopped words old new said (Ok text) is halts = tt
stopped words old new said (Err (Refused fault)) is halts = tt
stopped words old new said (Err Memory) is halts = tt
stopped words old new said (Err Halted) is halts = record {
  value = halts.value;
  says = is ∙ ap something halts.says;
  before = halts.before;
  after = halts.after;
  was = halts.was;
  is = halts.is;
  halts = halts.halts;
}

-- a later line drives it
pub drives : {Y : Type 0} (word : DriveKeyword) (words : List Text) (old new : Option View) (value : DriveValue) (before after : View)
    (r : Result (String Y) LineStop)
    → old ≡ Some before → new ≡ Some after → drive_line_at word words ≡ Ok value
    → IfOk r (λ text. DoesDrive value before after (string_bytes text))
    → IfOk r (λ text. DoesSaid (placed_at (keyword.Drive word) (is_some old) words) old new (string_bytes text))
drives word words old new value before after (Ok text) was is reads does = record {
  value = Drives value;
  says = rw (was, reads) refl;
  does = record { before = before; after = after; was = was; is = is; does = does };
}
drives word words old new value before after (Err stop) was is reads does = tt

pub stops : {Y : Type 0} (word : DriveKeyword) (words : List Text) (old new : Option View) (value : DriveValue) (before after : View)
    (r : Result (String Y) LineStop)
    → old ≡ Some before → new ≡ Some after → drive_line_at word words ≡ Ok value
    → IfErr r (IfHalted (HaltsDrive value before after))
    → IfErr r (IfHalted (HaltsSaid (placed_at (keyword.Drive word) (is_some old) words) old new))
stops word words old new value before after (Ok text) was is reads halts = tt
stops word words old new value before after (Err (Refused fault)) was is reads halts = tt
stops word words old new value before after (Err Memory) was is reads halts = tt
stops word words old new value before after (Err Halted) was is reads halts = record {
  value = value;
  says = rw (was, reads) refl;
  before = before;
  after = after;
  was = was;
  is = is;
  halts = halts;
}

-- the first line makes the client
pub made : (word : BeginKeyword) (words : List Text) (old new : Option View) (value : BeginValue) (view : View)
    → old ≡ None → new ≡ Some view → begin_line_at word words ≡ Ok value → view ≡ view_at (start_of value) []
    → DoesSaid (placed_at (keyword.Begin word) (is_some old) words) old new []
made word words old new value view none is reads begins =
    record { value = Begins value; says = rw (none, reads) refl; does = (none, is ∙ ap Some begins, refl) }

-- where nothing is there, nothing is seen
pub nothing_seen : {X Y : Type 0} (see : X → Y) (o : Option X) → is_some o ≡ false → option_map see o ≡ None
nothing_seen see None none = refl
nothing_seen see (Some x) some = absurd (let bad : true ≡ false = some in cc)
