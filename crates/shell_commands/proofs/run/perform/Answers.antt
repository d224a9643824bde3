-- By the command: what `show`, `script_over`, `watch_over`, `ask_with` or `tour_over` ensures of a status, restated for the words that ask
-- for that command; a status that it never gives is absurd.
use Rattle.std.proofs.Common.{◌≡◌, ℕ, List, [], ◌∷◌, ◌++◌, Option, refl, inl, inr}
use Rattle.zk_link.specs.FarEnds.{FarEnd}
use Rattle.clap.specs.Words.{Text}
use Rattle.script_words.specs.Scripts.{lines_of, refusal_text}
use Rattle.script_words.specs.declared.script.ScriptEnd.{ScriptEnd}
use Rattle.script_words.specs.declared.script.ScriptEnd.TheVariants as ends
use Rattle.script_words.specs.declared.script_fault.ScriptFault.{ScriptFault}
use Rattle.shell_commands.specs.declared.command.Command.{Command}
use Rattle.shell_commands.specs.declared.command.Command.TheVariants.{History, Replay, Rehearse, Live}
use Rattle.shell_commands.specs.CommandLine.{AsksFor}
use Rattle.shell_commands.specs.Run.{IsDone, IsFaulty, IsWhole, shows, plays, watches, asks, tours, call, tree, unshown, stopped, nothing}
use Rattle.shell_commands.specs.Run.{begins, ceases}
use Rattle.shell_commands.specs.Scripts.{IsInput, IsTranscriptOf}
use Rattle.shell_commands.specs.Written.{RunsOut}
use Rattle.shell_commands.specs.Show.{fault_text}
use Rattle.shell_commands.proofs.ScriptLemmas.{appends_nothing}
use Rattle.shell_commands.proofs.run.perform.Goals as goal

-- What a script prints that is taken is promised of the command that takes it, for the words that ask for it.
played : {far : FarEnd} {words : List Text} {files : Text → Option (List ℕ)} {input : Option (List ℕ)} (command : Command)
    (P : List ℕ → Type 0) (Q : Type 0) → AsksFor words command
    → ((script text : List ℕ) × IsInput input script × IsTranscriptOf command (lines_of script) text ends.Taken × P text) → Q
    → (text : List ℕ) × IsDone far words files input text × P text × Q
played command P Q asked told same = (told.1, plays command told.0 asked told.2 told.3, told.4, same)

-- one with a line that is refused
refused : {words : List Text} {input : Option (List ℕ)} (command : Command)
    (P Q : List ℕ → Type 0) → AsksFor words command
    → ((script text : List ℕ) × (number : ℕ) × (why : ScriptFault) × IsInput input script
    × IsTranscriptOf command (lines_of script) text (ends.Refused number why) × P text × Q (refusal_text number why))
    → (text told : List ℕ) × IsFaulty words input text told × P text × Q told
refused command P Q asked told =
    (told.1, refusal_text told.2 told.3, stopped command told.0 told.2 told.3 asked told.4 told.5 refl, told.6, told.7)

-- one at which memory ran out
ended : {far : FarEnd} {words : List Text} {input : Option (List ℕ)} (command : Command)
    (P : List ℕ → Type 0) (Q : Type 0) → AsksFor words command
    → ((script text told : List ℕ) × (end : ScriptEnd) × IsInput input script × IsTranscriptOf command (lines_of script) text end
    × RunsOut end told × P (text ++ told)) → Q
    → (text : List ℕ) × IsWhole far words input text × P text × Q
ended command P Q asked told same =
    (told.1 ++ told.2, begins command told.0 told.1 told.2 told.3 asked told.4 told.5 told.6 refl, told.7, same)

pub returns-in-History : goal.returns-in-History
returns-in-History g c =
    let ran = c.script_over.ensures in
    record {
      done = λ is words asked. played History _ _ (rw c.in-History.is at asked) (ran.done is) (ran.silent (inl is));
      fault = λ is words asked. refused History _ _ (rw c.in-History.is at asked) (ran.fault is);
      usage = ran.usage;
      undone = λ is words asked. absurd (ran.asks is);
      never = λ is words asked. absurd (ran.never is);
      more = λ is words asked. absurd (ran.more is);
      memory = λ is words asked. ended History _ _ (rw c.in-History.is at asked) (ran.memory is) (ran.silent (inr is));
    }

pub returns-in-Replay : goal.returns-in-Replay
returns-in-Replay g c =
    let ran = c.script_over-in-Replay.ensures in
    record {
      done = λ is words asked. played Replay _ _ (rw c.in-Replay.is at asked) (ran.done is) (ran.silent (inl is));
      fault = λ is words asked. refused Replay _ _ (rw c.in-Replay.is at asked) (ran.fault is);
      usage = ran.usage;
      undone = λ is words asked. absurd (ran.asks is);
      never = λ is words asked. absurd (ran.never is);
      more = λ is words asked. absurd (ran.more is);
      memory = λ is words asked. ended Replay _ _ (rw c.in-Replay.is at asked) (ran.memory is) (ran.silent (inr is));
    }

pub returns-in-Rehearse : goal.returns-in-Rehearse
returns-in-Rehearse g c =
    let ran = c.script_over-in-Rehearse.ensures in
    record {
      done = λ is words asked. played Rehearse _ _ (rw c.in-Rehearse.is at asked) (ran.done is) (ran.silent (inl is));
      fault = λ is words asked. refused Rehearse _ _ (rw c.in-Rehearse.is at asked) (ran.fault is);
      usage = ran.usage;
      undone = λ is words asked. absurd (ran.asks is);
      never = λ is words asked. absurd (ran.never is);
      more = λ is words asked. absurd (ran.more is);
      memory = λ is words asked. ended Rehearse _ _ (rw c.in-Rehearse.is at asked) (ran.memory is) (ran.silent (inr is));
    }

pub returns-in-Live : goal.returns-in-Live
returns-in-Live g c =
    let ran = c.script_over-in-Live.ensures in
    record {
      done = λ is words asked. played (Live c.in-Live.addresses) _ _ (rw c.in-Live.is at asked) (ran.done is) (ran.silent (inl is));
      fault = λ is words asked. refused (Live c.in-Live.addresses) _ _ (rw c.in-Live.is at asked) (ran.fault is);
      usage = ran.usage;
      undone = λ is words asked. absurd (ran.asks is);
      never = λ is words asked. absurd (ran.never is);
      more = λ is words asked. absurd (ran.more is);
      memory = λ is words asked. ended (Live c.in-Live.addresses) _ _ (rw c.in-Live.is at asked) (ran.memory is) (ran.silent (inr is));
    }

pub returns-in-Show-clause-done : goal.returns-in-Show-clause-done
returns-in-Show-clause-done g c = λ is words asked.
    let told = c.show.ensures.done is in
    (told.0, shows c.in-Show.kind c.in-Show.hex (rw c.in-Show.is at asked) told.1, told.2, c.show.ensures.silent is)

pub returns-in-Show-clause-fault : goal.returns-in-Show-clause-fault
returns-in-Show-clause-fault g c = λ is words asked.
    let told = c.show.ensures.fault is in (
      [],
      fault_text told.0 ++ 10 ∷ [],
      unshown c.in-Show.kind c.in-Show.hex told.0 (rw c.in-Show.is at asked) told.1 refl refl,
      rw (c.show.ensures.quiet is) (appends_nothing (g.O.Write.contents c.args.out.now)),
      told.2,
    )

pub returns-in-Show-clause-memory : goal.returns-in-Show-clause-memory
returns-in-Show-clause-memory g c = λ is words asked.
    let same = c.show.ensures.memory is in
    ([], nothing refl, rw same.0 (appends_nothing (g.O.Write.contents c.args.out.now)), same.1)

pub returns-in-Watch-clause-done : goal.returns-in-Watch-clause-done
returns-in-Watch-clause-done g c = λ is words asked.
    let told = rw (
      c.plan_of-plan.ensures.subjects,
      c.plan_of-plan.ensures.trees,
      c.plan_of-plan.ensures.most,
      c.plan_of-plan.ensures.for_ms,
      c.plan_of-plan.ensures.style,
    ) at (c.watch_over.ensures.done is) in (
      told.0,
      watches c.in-Watch.addresses c.in-Watch.scope c.in-Watch.timeout_ms c.in-Watch.for_ms c.in-Watch.style
          (rw c.in-Watch.is at asked) told.1,
      told.2,
      refl,
    )

pub returns-in-Watch-clause-memory : goal.returns-in-Watch-clause-memory
returns-in-Watch-clause-memory g c = λ is words asked.
    let told = rw (c.plan_of-plan.ensures.subjects, c.plan_of-plan.ensures.trees, c.plan_of-plan.ensures.most, c.plan_of-plan.ensures.style)
    at (c.watch_over.ensures.memory is) in (
      told.0 ++ told.1,
      ceases c.in-Watch.addresses c.in-Watch.scope c.in-Watch.timeout_ms c.in-Watch.for_ms c.in-Watch.style told.0 told.1
          (rw c.in-Watch.is at asked) told.2 told.3 refl,
      told.4,
      refl,
    )

pub returns-in-Show-clause-undone : goal.returns-in-Show-clause-undone
returns-in-Show-clause-undone g c = λ is words asked. absurd (c.show.ensures.asks is)

pub returns-in-Watch-clause-undone : goal.returns-in-Watch-clause-undone
returns-in-Watch-clause-undone g c = λ is words asked. absurd (c.watch_over.ensures.asks is)

pub returns-in-Ask-clause-done : goal.returns-in-Ask-clause-done
returns-in-Ask-clause-done g c = λ is words asked.
    let told = c.ask_with.ensures.done is in
    (told.1, asks c.in-Ask.question told.0 (rw c.in-Ask.is at asked) told.2 told.3, told.4, told.5)

pub returns-in-Ask-clause-undone : goal.returns-in-Ask-clause-undone
returns-in-Ask-clause-undone g c = λ is words asked.
    let told = c.ask_with.ensures.undone is in
    (told.0, call c.in-Ask.question (rw c.in-Ask.is at asked) told.1, told.2, told.3)

pub returns-in-Ask-clause-memory : goal.returns-in-Ask-clause-memory
returns-in-Ask-clause-memory g c = λ is words asked.
    let same = c.ask_with.ensures.memory is in
    ([], nothing refl, rw same.0 (appends_nothing (g.O.Write.contents c.args.out.now)), same.1)

pub returns-in-Show-clause-never : goal.returns-in-Show-clause-never
returns-in-Show-clause-never g c = λ is words asked. absurd (c.show.ensures.never is)

pub returns-in-Ask-clause-never : goal.returns-in-Ask-clause-never
returns-in-Ask-clause-never g c = λ is words asked. absurd (c.ask_with.ensures.never is)

pub returns-in-Watch-clause-never : goal.returns-in-Watch-clause-never
returns-in-Watch-clause-never g c = λ is words asked.
    let told = rw (
      c.plan_of-plan.ensures.subjects,
      c.plan_of-plan.ensures.trees,
      c.plan_of-plan.ensures.most,
      c.plan_of-plan.ensures.for_ms,
      c.plan_of-plan.ensures.style,
    ) at (c.watch_over.ensures.never is) in (
      told.0,
      record {
        addresses = c.in-Watch.addresses;
        scope = c.in-Watch.scope;
        timeout_ms = c.in-Watch.timeout_ms;
        for_ms = c.in-Watch.for_ms;
        style = c.in-Watch.style;
        asks = rw c.in-Watch.is at asked;
        watched = told.1;
      },
      told.2,
      refl,
    )

pub returns-in-Show-clause-more : goal.returns-in-Show-clause-more
returns-in-Show-clause-more g c = λ is words asked. absurd (c.show.ensures.more is)

pub returns-in-Watch-clause-more : goal.returns-in-Watch-clause-more
returns-in-Watch-clause-more g c = λ is words asked. absurd (c.watch_over.ensures.more is)

pub returns-in-Ask-clause-more : goal.returns-in-Ask-clause-more
returns-in-Ask-clause-more g c = λ is words asked. absurd (c.ask_with.ensures.more is)

pub returns-in-Tree-clause-done : goal.returns-in-Tree-clause-done
returns-in-Tree-clause-done g c = λ is words asked.
    let told = c.tour_over.ensures.done is in
    (told.0, tours c.in-Tree.tour (rw c.in-Tree.is at asked) told.1, told.2, told.3)

pub returns-in-Tree-clause-undone : goal.returns-in-Tree-clause-undone
returns-in-Tree-clause-undone g c = λ is words asked.
    let told = c.tour_over.ensures.undone is in
    (told.0, tree c.in-Tree.tour (rw c.in-Tree.is at asked) told.1, told.2, told.3)

pub returns-in-Tree-clause-more : goal.returns-in-Tree-clause-more
returns-in-Tree-clause-more g c = λ is words asked.
    let told = c.tour_over.ensures.more is in (
      told.0,
      _,
      record { tour = c.in-Tree.tour; asks = rw c.in-Tree.is at asked; prints = told.1; tells = refl },
      told.2,
      told.3,
    )

pub returns-in-Tree-clause-memory : goal.returns-in-Tree-clause-memory
returns-in-Tree-clause-memory g c = λ is words asked.
    let same = c.tour_over.ensures.memory is in
    ([], nothing refl, rw same.0 (appends_nothing (g.O.Write.contents c.args.out.now)), same.1)

pub returns-in-Tree-clause-never : goal.returns-in-Tree-clause-never
returns-in-Tree-clause-never g c = λ is words asked. absurd (c.tour_over.ensures.never is)
