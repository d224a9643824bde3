-- The frames of the credentials that are left are those that are left of the frames: `map_drop`.
use Rattle.std.proofs.Common.{◌++◌, ◌∙◌, ap, map, sym}
use Rattle.zk_agent.specs.declared.credential.Credential.{Credential}
use Rattle.zk_agent.specs.Telling.{told_by, Introduces}
use Rattle.zk_agent.proofs.Saying.{map_drop}
use Rattle.zk_agent.proofs.credentials.Credentials.write_all.Goals as goal

pub returns-clause-told : goal.returns-clause-told
returns-clause-told g c =
    c.in_ok-push_frames.ensures
    ∙ ap (λ more. told_by c.args.actions.now.items ++ more)
    (ap (map (λ (x : Credential g.row.A.Denot). Introduces x.frame.items)) c.unwritten.ensures
    ∙ sym (map_drop Introduces (λ (x : Credential g.row.A.Denot). x.frame.items) c.args.self.now.written c.args.self.now.all.items))
