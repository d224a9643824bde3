-- By what the words ask for: what `script_over` ensures of a capture, `perform` of a command, and `tell_line` of help or a refusal; a
-- status that it never gives is absurd.
use Rattle.std.proofs.Common.{◌++◌, refl, sym, ◌∙◌, inl, inr}
use Rattle.script_words.specs.Scripts.{refusal_text}
use Rattle.shell_commands.specs.Run.{helps, starts, tells, untold}
use Rattle.shell_commands.proofs.run.run_words.Goals as goal

pub returns-in-Ok-clause-done : goal.returns-in-Ok-clause-done
returns-in-Ok-clause-done g c = λ is. c.perform.ensures.done is _ c.in-Ok.ensures.ok

pub returns-in-Ok-clause-fault : goal.returns-in-Ok-clause-fault
returns-in-Ok-clause-fault g c = λ is. c.perform.ensures.fault is _ c.in-Ok.ensures.ok

pub returns-in-Ok-clause-memory : goal.returns-in-Ok-clause-memory
returns-in-Ok-clause-memory g c = λ is. c.perform.ensures.memory is _ c.in-Ok.ensures.ok

pub returns-in-Err-clause-done : goal.returns-in-Err-clause-done
returns-in-Err-clause-done g c = λ is.
    let told = c.tell_line.ensures.done is in
    (told.0, helps c.in-Err.fault c.in-Err.ensures.err told.1, told.2, told.3)

pub returns-in-Err-clause-usage : goal.returns-in-Err-clause-usage
returns-in-Err-clause-usage g c = λ is.
    let told = c.tell_line.ensures.usage is in
    (told.0, (c.in-Err.fault, c.in-Err.ensures.err, told.1), told.2, told.3)

pub returns-in-Ok-clause-undone : goal.returns-in-Ok-clause-undone
returns-in-Ok-clause-undone g c = λ is. c.perform.ensures.undone is _ c.in-Ok.ensures.ok

pub returns-in-Err-clause-undone : goal.returns-in-Err-clause-undone
returns-in-Err-clause-undone g c = λ is. absurd (c.tell_line.ensures.asks is)

pub returns-in-Ok-clause-never : goal.returns-in-Ok-clause-never
returns-in-Ok-clause-never g c = λ is. c.perform.ensures.never is _ c.in-Ok.ensures.ok

pub returns-in-Err-clause-never : goal.returns-in-Err-clause-never
returns-in-Err-clause-never g c = λ is. absurd (c.tell_line.ensures.never is)

pub returns-then-asks_stream-clause-done : goal.returns-then-asks_stream-clause-done
returns-then-asks_stream-clause-done g c = λ is.
    let told = c.script_over.ensures.done is in
    (told.1, tells told.0 (sym c.asks_stream.ensures ∙ c.if-asks_stream.true) told.2 told.3, told.4, c.script_over.ensures.silent (inl is))

pub returns-then-asks_stream-clause-fault : goal.returns-then-asks_stream-clause-fault
returns-then-asks_stream-clause-fault g c = λ is.
    let told = c.script_over.ensures.fault is in (
      told.1,
      refusal_text told.2 told.3,
      untold told.0 told.2 told.3 (sym c.asks_stream.ensures ∙ c.if-asks_stream.true) told.4 told.5 refl,
      told.6,
      told.7,
    )

pub returns-then-asks_stream-clause-undone : goal.returns-then-asks_stream-clause-undone
returns-then-asks_stream-clause-undone g c = λ is. absurd (c.script_over.ensures.asks is)

pub returns-then-asks_stream-clause-never : goal.returns-then-asks_stream-clause-never
returns-then-asks_stream-clause-never g c = λ is. absurd (c.script_over.ensures.never is)

pub returns-then-asks_stream-clause-memory : goal.returns-then-asks_stream-clause-memory
returns-then-asks_stream-clause-memory g c = λ is.
    let told = c.script_over.ensures.memory is in (
      told.1 ++ told.2,
      starts told.0 told.1 told.2 told.3 (sym c.asks_stream.ensures ∙ c.if-asks_stream.true) told.4 told.5 told.6 refl,
      told.7,
      c.script_over.ensures.silent (inr is),
    )

pub returns-in-Ok-clause-more : goal.returns-in-Ok-clause-more
returns-in-Ok-clause-more g c = λ is. c.perform.ensures.more is _ c.in-Ok.ensures.ok

pub returns-in-Err-clause-more : goal.returns-in-Err-clause-more
returns-in-Err-clause-more g c = λ is. absurd (c.tell_line.ensures.more is)

pub returns-then-asks_stream-clause-more : goal.returns-then-asks_stream-clause-more
returns-then-asks_stream-clause-more g c = λ is. absurd (c.script_over.ensures.more is)
