-- The loop over the words: after it none is left, so the paths are those of all, below the chroot; where one is refused, not all are so.
use Rattle.std.proofs.Common.{◌≡◌, ◌++◌, drop, map}
use Rattle.std.specs.List.{list_all}
use Rattle.shell_commands.specs.Asks.{absolute}
use Rattle.shell_commands.specs.CommandLine.{is_below}
use Rattle.shell_commands.proofs.watch_words.paths_of.Given as goal

-- what was added, and the paths that are left, are all; and all are paths below the chroot where those left are
abbrev pub invariant-loop-word : goal.invariant-loop-word
invariant-loop-word l = record {
  added : l.paths.items ++ map (λ p. absolute l.chroot p) (map (λ w. w.now) (drop l.word-index l.words)) ≡ map (λ p. absolute l.chroot p)
      (map (λ w. w.now) l.words);
  same : list_all (is_below l.chroot) (map (λ w. w.now) (drop l.word-index l.words)) ≡ list_all (is_below l.chroot)
      (map (λ w. w.now) l.words);
}
