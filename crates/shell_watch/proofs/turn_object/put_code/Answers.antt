-- A code and its words are put as two members, one after the other: `two_puts`. A code of 32 bits stays the same number in 64.
use Rattle.std.proofs.Common.{rules, ◌≡◌, codes, to_z, of_z, w32, w64}
use Rattle.shell_words.specs.Objects.{number_members}
use Rattle.shell_watch.specs.Lines.{code_words, reason_members}
use Rattle.shell_watch.proofs.Objects.{two_puts}
use Rattle.shell_watch.proofs.turn_object.put_code.Goals as goal

pub returns : goal.returns
returns g c =
    let old = c.args.writer.now in
    let between = c.put_number.new.writer in
    let new = c.put_text.new.writer in
    let same : to_z w64 (of_z w64 (to_z w32 (of_z w32 c.args.code))) ≡ c.args.code = search rules in
    let word : c.code_words.result.now ≡ code_words c.args.code = search rules in
    let put = rw same at c.in_ok-put_number.ensures in
    two_puts c.put_text.result old.before between.before new.before old.tokens between.tokens new.tokens
    (number_members (codes "code") c.args.code) (reason_members (code_words c.args.code)) put.0 put.1 (rw word at c.put_text.ensures)
