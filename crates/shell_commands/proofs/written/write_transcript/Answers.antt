-- Where a step halted, the line `halt` is written after the text: one write after the other, by `Appends-trans`.
use Rattle.std.proofs.Common.{List, ℕ, codes, refl, rules}
use Rattle.std.specs.Prelude.{string_bytes}
use Rattle.std.specs.Io.KnownBytes.{Appends}
use Rattle.std.proofs.KnownBytes.{Appends-trans}
use Rattle.shell_commands.proofs.written.write_transcript.Goals as goal

pub returns-in-Halted-clause-memory : goal.returns-in-Halted-clause-memory
returns-in-Halted-clause-memory g c = λ is.
    let contents = g.O.Write.contents in
    let text : List ℕ = string_bytes c.args.transcript.now.text in
    let written : Appends (contents c.args.out.now) (contents c.write_all.new.self) text = search rules in
    let both = Appends-trans (contents c.args.out.now) (contents c.write_all.new.self) (contents c.halt.new.out) text
    (codes "halt\n") written (c.halt.ensures.written is) in
    (codes "halt\n", rw c.in-Halted.is refl, both)
