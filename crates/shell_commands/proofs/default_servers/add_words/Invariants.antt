-- The loop over the words: after it none is left, so all are added.
use Rattle.std.proofs.Common.{◌≡◌, ◌++◌, drop, map}
use Rattle.shell_commands.proofs.default_servers.add_words.Given as goal

-- what was added, and the words that are left, are all that is to be added
abbrev pub invariant-loop-word : goal.invariant-loop-word
invariant-loop-word l = map (λ w. w.now) l.all.items ++ map (λ w. w.now) (drop l.word-index l.words)
    ≡ map (λ w. w.now) l.initial.all.items ++ map (λ w. w.now) l.words
