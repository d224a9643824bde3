-- The contender that asked the call hears of it (`heard_if`); if nobody did, nobody does (`unheard`).
use Rattle.std.proofs.Common.{◌∙◌, refl, sym}
use Rattle.zk_contend.proofs.Collected.{heard_if, unheard}
use Rattle.zk_contend.proofs.collection.Contenders.hear.Goals as goal

pub returns : goal.returns
returns g c =
    heard_if _ _ c.add.result _ _ _ _ c.in-Some.asker (sym c.take_out.ensures.found ∙ c.in-Some.is) c.in_ok-hear_at.ensures
    c.add.ensures.awake c.add.ensures.untold c.take_out.ensures.rest refl

pub returns-in_default : goal.returns-in_default
returns-in_default g c =
    unheard _ _ _ _ _ _ (sym c.take_out.ensures.found ∙ c.in_default.is) (λ ticket. refl) c.take_out.ensures.rest refl
