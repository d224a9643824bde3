-- Why a line is not done, and what it does else: by what its words say, for lines of the history and for those of the client.
use Rattle.std.proofs.Common.{◌≡◌, false, IfErr, IfOk}
use Rattle.std.proofs.lemmas.Bool.{true≢false}
use Rattle.std.specs.Prelude.{String, string_bytes, Option, Some, None, Result, Ok, Err}
use Rattle.zk_nodes.specs.Path.{Text}
use Rattle.script_words.specs.Pieces.{words_of}
use Rattle.script_words.specs.Scripts.{IsDue}
use Rattle.script_words.specs.Stops.{IfHalted}
use Rattle.script_words.specs.inner.Stops.{IsDueBy}
use Rattle.script_words.specs.declared.stop.LineStop.{LineStop}
use Rattle.script_words.specs.declared.stop.LineStop.TheVariants.{Refused, Halted, Memory}
use Rattle.script_story.specs.Stories as story
use Rattle.script_rehearse.specs.RehearseLines.{RehearseValue, HistoryLine, BeginLine, BenchValueLine, says_at}
use Rattle.script_rehearse.specs.Scenes.{Scene}
use Rattle.script_rehearse.specs.Rehearsed.{Position, is_begun, by_words, by_history, Does, DoesHistory, HaltsLine}
use Rattle.script_rehearse.specs.inner.Rehearsed.{position_by, HaltsSaid}
use Rattle.script_rehearse.specs.inner.Rehearsed.{IsDueOf}
use Rattle.script_rehearse.specs.Rehearsed.{TakesLine}
use Rattle.script_rehearse.specs.Scripts.{rules}

-- A line of the history, where no client was made

pub told : {Y : Type 0} (line : Text) (old new : story.Position) (scene : Option Scene) (r : Result (String Y) LineStop)
    → is_begun (position_by old scene) ≡ false
    → IfOk r (λ text. (next : story.Position) × story.TakesLine line old next (string_bytes text) × (new ≡ next))
    → IfOk r (λ text. DoesHistory line (position_by old scene) (position_by new scene) (string_bytes text))
told line old new None (Ok text) first takes = rw takes.2 takes.1
told line old new None (Err stop) first takes = tt
told line old new (Some scene) r first takes = absurd (true≢false first)

pub history_due : {X : Type 0} (line : Text) (old : story.Position) (scene : Option Scene) (r : Result X LineStop)
    → is_begun (position_by old scene) ≡ false
    → IfErr r (IsDue story.rules line old) → IfErr r (IsDueOf line HistoryLine (position_by old scene))
history_due line old None (Ok x) first due = tt
history_due line old None (Err (Refused fault)) first due = due
history_due line old None (Err Halted) first due = tt
history_due line old None (Err Memory) first due = tt
history_due line old (Some scene) r first due = absurd (true≢false first)

-- it is never a halt
pub never_halts : {X : Type 0} (line : Text) (old : story.Position) (r : Result X LineStop)
    → IfErr r (IsDue story.rules line old) → IfErr r (IfHalted ⊥)
never_halts line old (Ok x) due = tt
never_halts line old (Err (Refused fault)) due = tt
never_halts line old (Err Halted) due = absurd due
never_halts line old (Err Memory) due = tt

-- Any line

pub taken : {Y : Type 0} (line : Text) (value : RehearseValue) (old new : Position) (r : Result (String Y) LineStop)
    → says_at (words_of line) (is_begun old) ≡ Ok (Some value)
    → IfOk r (λ text. Does line value old new (string_bytes text)) → IfOk r (λ text. TakesLine line old new (string_bytes text))
taken line value old new (Ok text) says does = record { what = Some value; says = says; does = does }
taken line value old new (Err stop) says does = tt

-- a line that is refused by its words
pub words_due : (line : Text) (old : Position) (stop : LineStop)
    → IsDueBy (says_at (words_of line) (is_begun old)) stop → IfHalted ⊥ stop → IsDue rules line old stop
words_due line old (Refused fault) refused none = by_words refused
words_due line old Halted refused none = absurd none
words_due line old Memory refused none = tt

-- one at which the client halts
halts_line : (line : Text) (value : RehearseValue) (old new : Position) → says_at (words_of line) (is_begun old) ≡ Ok (Some value)
    → HaltsSaid value old new → HaltsLine line old new
halts_line line HistoryLine old new says halts = absurd halts
halts_line line (BeginLine timeout) old new says halts = absurd halts
halts_line line (BenchValueLine value) old new says halts = record { value = value; says = says; halts = halts }

pub halts_so : {X : Type 0} (line : Text) (value : RehearseValue) (old new : Position) (r : Result X LineStop)
    → says_at (words_of line) (is_begun old) ≡ Ok (Some value)
    → IfErr r (IfHalted (HaltsSaid value old new)) → IfErr r (IfHalted (HaltsLine line old new))
halts_so line value old new (Ok x) says halts = tt
halts_so line value old new (Err (Refused fault)) says halts = tt
halts_so line value old new (Err Halted) says halts = halts_line line value old new says halts
halts_so line value old new (Err Memory) says halts = tt

-- one that is not done by what its words say
pub due : {X : Type 0} (line : Text) (value : RehearseValue) (old new : Position) (r : Result X LineStop)
    → says_at (words_of line) (is_begun old) ≡ Ok (Some value)
    → IfErr r (IsDueOf line value old) → IfErr r (IfHalted (HaltsSaid value old new)) → IfErr r (IsDue rules line old)
due line value old new (Ok x) says refused halts = tt
due line HistoryLine old new (Err (Refused fault)) says refused halts = by_history says refused
due line (BeginLine timeout) old new (Err (Refused fault)) says refused halts = absurd refused
due line (BenchValueLine value) old new (Err (Refused fault)) says refused halts = absurd refused
due line value old new (Err Halted) says refused halts = (new, halts_line line value old new says halts)
due line value old new (Err Memory) says refused halts = tt

-- no fault of words is a halt
pub none_halts : (halts : Type 0) (stop : LineStop) → IfHalted ⊥ stop → IfHalted halts stop
none_halts halts (Refused fault) none = tt
none_halts halts Halted none = absurd none
none_halts halts Memory none = tt
