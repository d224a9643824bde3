-- The members of the data and of the stat are written, one after the other: by `two_puts`.
use Rattle.std.specs.Prelude.{option_map}
use Rattle.shell_words.specs.Objects.{data_members}
use Rattle.shell_watch.specs.Lines.{stat_members}
use Rattle.shell_watch.proofs.Objects.{two_puts}
use Rattle.shell_watch.proofs.kept_object.put_full.Goals as goal

pub returns : goal.returns
returns g c =
    let old = c.args.writer.now in
    let between = c.put_data.new.writer in
    let new = c.put_stat.new.writer in
    two_puts c.put_stat.result old.before between.before new.before old.tokens between.tokens new.tokens
    (data_members (option_map (λ v. v.items) c.args.bytes.now))
    (stat_members c.args.stat.now) c.in_ok-put_data.ensures.0 c.in_ok-put_data.ensures.1 c.put_stat.ensures
