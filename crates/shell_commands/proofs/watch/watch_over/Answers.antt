-- Where memory runs out, what `watch` printed is written, with `halt` after it where a step halted (`Appends-trans`), else with nothing.
use Rattle.std.proofs.Common.{◌++◌, [], append-nil, codes, inl, inr, refl}
use Rattle.std.specs.Io.KnownBytes.{Appends}
use Rattle.std.proofs.KnownBytes.{Appends-trans}
use Rattle.shell_commands.proofs.watch.watch_over.Goals as goal

pub returns-in-Halted-clause-memory : goal.returns-in-Halted-clause-memory
returns-in-Halted-clause-memory g c = λ is.
    let contents = g.O.Write.contents in
    let printed = c.in-Halted.ensures.printed (λ same. cc) in
    let both = Appends-trans (contents c.args.out.now) (contents c.watch.new.out) (contents c.halt.new.out) printed.0
    (codes "halt\n") printed.2 (c.halt.ensures.written is) in
    (printed.0, codes "halt\n", printed.1, inr refl, both)

pub returns-in-Memory-clause-memory : goal.returns-in-Memory-clause-memory
returns-in-Memory-clause-memory g c = λ is.
    let contents = g.O.Write.contents in
    let printed = c.in-Memory.ensures.printed (λ same. cc) in
    let whole : Appends (contents c.args.out.now) (contents c.watch.new.out) (printed.0 ++ []) = rw append-nil printed.2 in
    (printed.0, [], printed.1, inl refl, whole)
