-- Loop over the lines: from any first position, those so far lead to where the reader stands, and print the text. At the end they are all.
use Rattle.std.proofs.Common.{take, map}
use Rattle.std.specs.Prelude.{string_bytes}
use Rattle.std.specs.List.{FoldsTo}
use Rattle.script_words.specs.Scripts.{Goes, progress}
use Rattle.script_words.proofs.script.read_lines.Given as goal

-- the lines so far are taken, and the text is what was printed before them and what they print
abbrev pub invariant-loop-index : goal.invariant-loop-index
invariant-loop-index g l =
    (first : g.R.LineReader.Position) → g.R.LineReader.stands l.initial.reader first
    → (here : g.R.LineReader.Position) × FoldsTo (Goes g.R.LineReader.rules) (progress first (string_bytes l.initial.text))
    (map (λ p. p.now) (take l.index l.lines)) (progress here (string_bytes l.text))
    × g.R.LineReader.stands l.reader here
