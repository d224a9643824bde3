-- The loop over the last rivals: it is at the last one (`IsReached`).
use Rattle.std.proofs.Common.{◌≤◌}
use denote.Text.{Utf8}
use denote.Shadow.{shadow}
use Rattle.zk_conclusions.specs.Kinds.{kind_of}
use Rattle.zk_contend.proofs.Chaining.{IsReached}
use Rattle.zk_contend.proofs.lease.are_before.Given as goal

-- where it is
abbrev pub invariant-loop-turn : goal.invariant-loop-turn
invariant-loop-turn g l =
    shadow (Utf8 l.last) × IsReached (kind_of l.kind) l.listing.names.now l.fn.own l._turn l.last × (l._turn ≤ l.fn.count)
