-- Where the line gives an outcome to tell, it is the one that was heard, by the case of whether it settles the call: `says_it`.
use Rattle.std.proofs.Common.{◌≡◌, ◌∙◌, ◌++◌, ℕ, Bool, true, false, cond, [], ◌∷◌, Some, None, ap}
use Rattle.zk_client.specs.Views.{outcome_view}
use Rattle.zk_turns.specs.Turns.{Outcome, Answer}
use Rattle.zk_calls.specs.Lines.{settles}
use Rattle.zk_agent.specs.Telling.{told_by, Says}
use Rattle.zk_agent.proofs.Saying.{on_ok}
use Rattle.zk_agent.proofs.calls.push_answer.Goals as goal

-- what the asker is told is the answer
says_it : (ticket : ℕ) (outcome said : Outcome) (is_settled : Bool) → Some said ≡ cond is_settled (Some outcome) None
    → Says (Answer ticket said) ∷ [] ≡ cond is_settled (Says (Answer ticket outcome) ∷ []) []
says_it ticket outcome said true is = let same : said ≡ outcome = cc in ap (λ one. Says (Answer ticket one) ∷ []) same
says_it ticket outcome said false is = cc

pub returns-in-Some-clause-told : goal.returns-in-Some-clause-told
returns-in-Some-clause-told g c =
    on_ok _ _ c.push.result (λ told. told ∙ ap (λ more. told_by c.args.actions.now.items ++ more)
    (says_it c.args.ticket (outcome_view c.args.outcome) (outcome_view c.in-Some.outcome)
    (settles c.args.ticket (outcome_view c.args.outcome) c.args.line.now.entries.items) c.in-Some.ensures.told))
    c.push.ensures
