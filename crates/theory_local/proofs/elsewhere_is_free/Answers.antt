-- What is free elsewhere: a call about none of the paths may get any result that has a code; notices by `nothing_told`, `more_told`,
-- `other_event`; and the entries `Tells`, `Denies`, `Fails` by putting their premises together.
use Rattle.std.proofs.Common.{negsuc, refl}
use Rattle.theory_local.specs.LocalSteps.{IsOf}
use Rattle.theory_local.proofs.Following.{more_told, other_event, nothing_told}
use Rattle.theory_local.proofs.elsewhere_is_free.Goals as goal

pub returns-clause-answers : goal.returns-clause-answers
returns-clause-answers c paths h server requests call result serving next code elsewhere =
    (serving, next, (code, λ about. absurd (elsewhere about)))

pub returns-clause-silence : goal.returns-clause-silence
returns-clause-silence c paths event path elsewhere = nothing_told (IsOf paths) event path elsewhere

pub returns-clause-notices : goal.returns-clause-notices
returns-clause-notices c paths fired sent more at = more_told (IsOf paths) fired sent more at

pub returns-clause-events : goal.returns-clause-events
returns-clause-events c paths path = other_event (IsOf paths) path

pub returns-clause-tells : goal.returns-clause-tells
returns-clause-tells c paths h start sent payloads past wire going serving told = record { going = going; serving = serving; told = told }

pub returns-clause-denials : goal.returns-clause-denials
returns-clause-denials c paths h start call n code payload behind past wire going serving next short other headed =
    record { going = going; serving = serving; next = next; short = short; error = (negsuc n, code, behind, refl, other, headed) }

pub returns-clause-errors : goal.returns-clause-errors
returns-clause-errors c paths h start is_last relative part zxid code payload behind rest past wire going serving next short other headed =
    record {
      going = going;
      serving = serving;
      next = (is_last, relative, part, next);
      short = short;
      error = (zxid, code, behind, other, headed);
    }
