-- What is kept at a path where an answer about the node itself comes.
use Rattle.std.specs.Prelude.{Option, Some, None, if◌then◌else◌}
use Rattle.zk_cache.specs.declared.answers.DataAnswer.{DataAnswer}
use Rattle.zk_cache.specs.Kept.{Kept, as_good, good}
use Rattle.zk_cache.specs.inner.Covered.{stays}
use Rattle.zk_cache.specs.Contents.{answer_of}

-- the kept answer where it stays, else the new one
abbrev pub renewed : {A : Type 0} → Kept (DataAnswer A) → DataAnswer A → Kept (DataAnswer A)
renewed kept answer = if stays (answer_of kept.answer) kept.mark (answer_of answer) then kept else as_good answer

abbrev pub with_answer : {A : Type 0} → Option (Kept (DataAnswer A)) → DataAnswer A → Option (Kept (DataAnswer A))
with_answer None answer = good answer
with_answer (Some kept) answer = Some (renewed kept answer)
