-- What a line does, by what its words say.
use Rattle.std.proofs.Common.{◌≡◌, ◌≢◌, IfOk, IfErr}
use Rattle.std.specs.Prelude.{String, string_bytes, Result, Ok, Err, Some}
use Rattle.zk_nodes.specs.Path.{Text}
use Rattle.script_words.specs.declared.script_fault.ScriptFault.{ScriptFault}
use Rattle.script_words.specs.declared.script_fault.ScriptFault.TheVariants as faults
use Rattle.script_words.specs.declared.script_fault.ScriptFault.TheVariants.{Memory}
use Rattle.script_words.specs.Scripts.{IsDue}
use Rattle.script_words.specs.Stops.{stop_of}
use Rattle.script_story.specs.HistoryLines.{LineValue}
use Rattle.script_words.specs.Pieces.{words_of}
use Rattle.script_story.specs.Stories.{Position, rules, said, IsRefused, RefusesLine, by_history, Takes, TakesLine}

-- a line is taken where the history takes what its words say
pub taken : {Y : Type 0} (line : Text) (old new : Position) (value : LineValue) (r : Result (String Y) ScriptFault)
    → said (words_of line) old.begun old.asked ≡ Ok (Some value)
    → IfOk r (λ answer. Takes value old new (string_bytes answer)) → IfOk r (λ answer. TakesLine line old new (string_bytes answer))
taken line old new value (Ok answer) says takes = record { what = Some value; says = says; does = takes }
taken line old new value (Err fault) says takes = tt

-- and refused where the history refuses it
pub refused : {Y : Type 0} (line : Text) (old : Position) (value : LineValue) (r : Result (String Y) ScriptFault)
    → said (words_of line) old.begun old.asked ≡ Ok (Some value)
    → IfErr r (IsRefused value old.history) → IfErr r (λ fault. fault ≢ Memory → RefusesLine line old fault)
refused line old value (Ok answer) says why = tt
refused line old value (Err fault) says why = λ _. by_history value says why

-- why a line of a script is not done
pub due : (line : Text) (old : Position) (fault : ScriptFault) → (fault ≢ Memory → RefusesLine line old fault)
    → IsDue rules line old (stop_of fault)
due line old faults.Unknown refuses = refuses (λ e. cc)
due line old faults.Place refuses = refuses (λ e. cc)
due line old faults.Words refuses = refuses (λ e. cc)
due line old faults.Number refuses = refuses (λ e. cc)
due line old faults.Hex refuses = refuses (λ e. cc)
due line old (faults.Path why) refuses = refuses (λ e. cc)
due line old faults.Order refuses = refuses (λ e. cc)
due line old faults.Illegal refuses = refuses (λ e. cc)
due line old faults.Memory refuses = tt
