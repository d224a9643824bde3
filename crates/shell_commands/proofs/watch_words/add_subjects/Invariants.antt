-- The loop over the words: after it none is left, so what is watched at all of them is added, and all are paths below the chroot; where one
-- is refused, not all are.
use Rattle.std.proofs.Common.{◌≡◌, ◌++◌, drop, map}
use Rattle.std.specs.List.{list_all}
use Rattle.shell_watch.specs.Watching.{aims_of}
use Rattle.shell_commands.specs.CommandLine.{aims_at, is_below}
use Rattle.shell_commands.proofs.watch_words.add_subjects.Given as goal

-- what was added, and what is watched at the paths that are left, are all that is to be added; and all are paths below the chroot where
-- those left are
abbrev pub invariant-loop-word : goal.invariant-loop-word
invariant-loop-word l = record {
  added : aims_of l.subjects.items ++ aims_at l.chroot l.side (map (λ w. w.now) (drop l.word-index l.words))
      ≡ aims_of l.initial.subjects.items ++ aims_at l.chroot l.side (map (λ w. w.now) l.words);
  same : list_all (is_below l.chroot) (map (λ w. w.now) (drop l.word-index l.words)) ≡ list_all (is_below l.chroot)
      (map (λ w. w.now) l.words);
}
