-- A subject whose answer was too long.
use Rattle.std.specs.Prelude.{◌==◌, ◌+◌, ◌-◌, ◌^◌, min, ℕ, Option, Some, if◌then◌else◌}
use Rattle.zk_follow.specs.declared.progress.Progress.TheVariants.{Refused}
use Rattle.zk_follow.specs.declared.progress.Refusal.TheVariants.{TooLarge}
use Rattle.zk_follow.specs.declared.news.News.{News}
use Rattle.zk_follow.specs.declared.news.News.TheVariants.{Refused as Denied}
use Rattle.zk_follow.specs.declared.subject.Subject.{Subject}

-- how long it waits to be read again, in milliseconds: a second, and a minute where that was told of it last
abbrev pub pause_by : (told : Option News) → ℕ
pause_by (Some (Denied TooLarge)) = 60000
pause_by _ = 1000

-- The answer to the read of this ticket was too long: the subject counts as refused, and is read again after the pause.
abbrev pub too_long_for : {A : Type 0} → (now ticket : ℕ) → Subject A → Subject A
too_long_for now ticket subject =
    if subject.ticket == ticket
    then record subject { progress = Refused TooLarge (min (now + pause_by subject.told) (2 ^ 64 - 1)) }
    else subject
