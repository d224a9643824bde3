-- What a whole script prints is what a list of deeds prints: line by line, each line's deeds after those of the lines before.
use Rattle.std.proofs.Common.{◌≡◌, ◌++◌, ◌∙◌, ℕ, List, [], ◌∷◌, Option, Some, None, ap, append-nil, sym, false}
use Rattle.std.specs.List.{FoldsTo}
use Rattle.zk_nodes.specs.Path.{Text}
use Rattle.script_words.specs.Said.{DoesSome}
use Rattle.script_words.specs.Scripts.{progress, Goes, Progress}
use Rattle.script_words.specs.Scripts as scripts
use Rattle.script_words.specs.declared.script.ScriptEnd.{ScriptEnd}
use Rattle.script_words.specs.declared.script.ScriptEnd.TheVariants as ends
use Rattle.script_live.specs.Flowing.{Flow}
use Rattle.script_live.specs.LiveLines.{LiveValue}
use Rattle.script_live.specs.Lives.{position, rules, Does, LivesPrint, Position}
use Rattle.script_live.specs.Printed.{Prints}
use Rattle.script_live.proofs.Printing.{prints_after, prints_same}

-- after what was printed before
shifted : (old new : Flow) (text before after : List ℕ) → Prints old new [] text → after ≡ before ++ text → Prints old new before after
shifted old new text before after prints is = record {
  deeds = prints.deeds;
  carries = prints.carries;
  told = prints.told;
  tells = prints.tells;
  printed = is ∙ ap (λ l. before ++ l) prints.printed;
}

line_prints : (what : Option LiveValue) (old new : Position) (text before after : List ℕ)
    → DoesSome Does what old new text → after ≡ before ++ text
    → Prints old.flow new.flow before after
line_prints None old new text before after does is =
    prints_same old.flow new.flow before after (sym (ap (λ (p : Position). p.flow) does.0))
    (is ∙ ap (λ l. before ++ l) does.1 ∙ append-nil before)
line_prints (Some value) old new text before after does is = shifted old.flow new.flow text before after does.1 is

lines_print : (lines : List Text) (old new : Progress Position) → FoldsTo (Goes rules) old lines new
    → Prints old.position.flow new.position.flow old.printed new.printed
lines_print [] old new same =
    prints_same old.position.flow new.position.flow old.printed new.printed (ap (λ (p : Progress Position). p.position.flow) same)
    (sym (ap (λ (p : Progress Position). p.printed) same))
lines_print (line ∷ lines) old new goes =
    prints_after old.position.flow goes.0.position.flow new.position.flow old.printed goes.0.printed new.printed
    (line_prints goes.1.1.what old.position goes.0.position goes.1.0 old.printed goes.0.printed goes.1.1.does goes.1.2)
    (lines_print lines goes.0 new goes.2)

some_print : (lines : List Text) (text : List ℕ) (here : Progress Position) → scripts.Prints rules here lines text
    → (last : Flow) × Prints here.position.flow last here.printed text
some_print lines text here prints = (prints.end.flow, lines_print lines here (progress prints.end text) prints.taken)

all_print : (lines : List Text) (text : List ℕ) (end : ScriptEnd) (here : Progress Position)
    → scripts.IsTranscript rules here lines text end → (last : Flow) × Prints here.position.flow last here.printed text
all_print lines text ends.Taken here is = some_print lines text here is
all_print lines text (ends.Refused number why) here is = some_print is.before text here is.prints
all_print lines text ends.Halted here is = some_print is.before text here is.prints
all_print lines text ends.Memory here is = some_print is.before text here is.prints

pub lives_print : LivesPrint
lives_print lines text end lives =
    let rest = all_print lines text end (progress (position lives.ready false) lives.told) lives.goes_on in
    (rest.0, prints_after lives.first lives.ready rest.0 [] lives.told text lives.prints rest.1)
