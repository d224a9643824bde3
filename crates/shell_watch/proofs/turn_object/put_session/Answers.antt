-- The session's number and the timeout are put as two members: `two_puts`, with the numbers that `saved` and `timeout_ms` ensure.
use Rattle.std.proofs.Common.{rules, ◌≡◌, ◌∙◌, codes, to_z, of_z, w64}
use Rattle.std.specs.Prelude.{pos}
use Rattle.zk_client.specs.Clients.{view_of}
use Rattle.shell_words.specs.Objects.{number_members}
use Rattle.shell_watch.proofs.Objects.{two_puts}
use Rattle.shell_watch.proofs.turn_object.put_session.Goals as goal

pub returns : goal.returns
returns g c =
    let old = c.args.writer.now in
    let between = c.put_number.new.writer in
    let new = c.put_count.new.writer in
    let own = (view_of c.args.client.now).saved.session in
    let same : to_z w64 (of_z w64 c.saved.result.session) ≡ c.saved.result.session = search rules in
    let session = same ∙ c.saved.ensures.tells.session in
    let timeout : c.from.result ≡ own.timeout = search rules in
    let put = rw session at c.in_ok-put_number.ensures in
    two_puts c.put_count.result old.before between.before new.before old.tokens between.tokens new.tokens
    (number_members (codes "session") own.session) (number_members (codes "timeout") (pos own.timeout)) put.0 put.1
    (rw timeout at c.put_count.ensures)
