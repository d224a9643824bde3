-- The loop over the words: after it none is left, so no word is plain.
use Rattle.std.proofs.Common.{◌≡◌, drop, map, false}
use Rattle.shell_commands.specs.Servers.{first_plain}
use Rattle.shell_commands.proofs.default_servers.first_plain.Given as goal

-- the first plain word of those that are left is that of all
abbrev pub invariant-loop-word : goal.invariant-loop-word
invariant-loop-word l =
    first_plain l.is_value (map (λ w. w.now) (drop l.word-index l.words)) ≡ first_plain false (map (λ w. w.now) l.words)
