-- The loop over the last rivals: it is at the last one, and has the paths of all so far (`IsChain`).
use Rattle.std.proofs.Common.{◌≤◌}
use denote.Text.{Utf8}
use denote.Shadow.{shadow}
use Rattle.zk_conclusions.specs.Kinds.{kind_of}
use Rattle.zk_contend.proofs.Chaining.{IsChain}
use Rattle.zk_contend.proofs.listed.behind_of.Given as goal

-- where it is, and from where it came
abbrev pub invariant-loop-turn : goal.invariant-loop-turn
invariant-loop-turn g l =
    shadow (Utf8 l.last)
    × IsChain (kind_of l.kind) l.listing.names.now l.fn.own l.listing.directory.now l._turn l.last l.behind.items
    × (l._turn ≤ l.fn.most)
