-- The xids of the calls: a call alone moves the next xid, by one, and a new connection begins again at 1.
use Rattle.std.proofs.Common.{◌≡◌, ◌≤◌, ◌<◌, ◌+◌, ◌%◌, ℕ, suc, cond, [], refl, sym, ap, ◌∙◌, arith}
use Rattle.zk_turns.specs.Turns.{Calls, signals_of}
use Rattle.zk_turns.specs.Past.{Asked, calls_sent}
use Rattle.zk_turns.specs.Taken.{caused}
use Rattle.zk_turns.specs.Rule.{says_all, says_signals}
use Rattle.zk_turns.proofs.Words.{calls}
use Rattle.zk_turns.proofs.Stepped.{one_signal_says}
use Rattle.theory_rules.specs.Xids.{FirstIsOne, AreInRange, RunOn, BeginAgain, CallsAloneMove, GoesOut, IsShown, AreApart}

pub first_is : FirstIsOne
first_is = refl

in_range : (n : ℕ) → (1 ≤ n % 2147483647 + 1) × (n % 2147483647 + 1 ≤ 2147483647)
in_range n = (omega arith, omega arith)

pub are_in_range : AreInRange
are_in_range past = in_range (calls_sent past)

one_on : (n : ℕ) → n % 2147483647 + 1 < 2147483647 → suc n % 2147483647 + 1 ≡ n % 2147483647 + 1 + 1
one_on n l = omega arith

pub run_on : RunOn
run_on ticket call past l = one_on (calls_sent past) l

from_one : (n : ℕ) → n % 2147483647 + 1 ≡ 2147483647 → suc n % 2147483647 + 1 ≡ 1
from_one n e = omega arith

pub begin_again : BeginAgain
begin_again ticket call past e = from_one (calls_sent past) e

pub calls_move : CallsAloneMove
calls_move (Asked ticket call) past n = absurd (n ticket call refl)
calls_move _ past n = refl

pub goes_out : GoesOut
goes_out ticket call view after turn rule told sent =
    rule.outputs ∙ ap (λ input. says_signals view (signals_of input)) told ∙ one_signal_says view (Calls ticket call)
    ∙ ap (λ b. says_all view (cond b [] (caused view (Calls ticket call)))) rule.goes_on
    ∙ ap (λ why. says_all view (calls ticket call why)) sent

pub is_shown : IsShown
is_shown start items view s on = ap (λ v. v.xid) (s.going (sym (ap (λ t. t.halted) s.standing) ∙ on))

pub are_apart : AreApart
are_apart past = (λ e. cc, λ e. cc)
