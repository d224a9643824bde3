-- The view's session and last zxid are those of the fields, so it is what `write!` ensures, rewritten.
use Rattle.std.proofs.Common.{◌≡◌, ap, sym}
use Rattle.zk_client.specs.SavedSessions.{PutAway}
use Rattle.zk_client.proofs.saved_session.SavedSessionDebug.fmt.Goals as goal

pub returns : goal.returns
returns g c =
    let session : c.args.self.now.session ≡ c.self.inside.session = sym (ap (λ (value : PutAway). value.session) c.self.view_is) in
    let last : c.args.self.now.last ≡ c.self.inside.last_zxid = sym (ap (λ (value : PutAway). value.last) c.self.view_is) in
    rw (session, last) c.write.ensures
