-- Both schedules are ones, and what they lead to is computed: `first_holding`, `second_holding`.
use Rattle.std.proofs.Common.{refl, inl, arith}
use Rattle.std.proofs.lemmas.Int.{ints}
use Rattle.theory_contenders.proofs.Line_shown.{first_holding, second_holding}
use Rattle.theory_contenders.proofs.two_hold_in_turn.Goals as goal

pub returns-clause-first : goal.returns-clause-first
returns-clause-first c = first_holding

pub returns-clause-second : goal.returns-clause-second
returns-clause-second c = second_holding

pub returns-clause-rivals : goal.returns-clause-rivals
returns-clause-rivals c = record { same = refl; waits = inl refl; back = inl refl }

pub returns-clause-tokens : goal.returns-clause-tokens
returns-clause-tokens c = grind (arith, ints)
