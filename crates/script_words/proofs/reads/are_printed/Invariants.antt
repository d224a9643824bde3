-- Loop over the words: all are printable exactly if those left are. At the end none is left, so all are.
use Rattle.std.proofs.Common.{◌≡◌, drop, map}
use Rattle.std.specs.List.{list_all}
use Rattle.script_words.specs.Reads.{is_printed}
use Rattle.script_words.proofs.reads.are_printed.Given as goal

-- the words are printed where those that are left are
abbrev pub invariant-loop-word : goal.invariant-loop-word
invariant-loop-word l = list_all is_printed (map (λ w. w.now) (drop l.word-index l.words)) ≡ list_all is_printed (map (λ w. w.now) l.words)
