-- The contents of what the maps of a cache hold.
use Rattle.std.specs.Prelude.{option_map, vec_items}
use Rattle.std.specs.FinSet as set
use Rattle.zk_cache.specs.declared.children.Children.{Children}
use Rattle.zk_cache.specs.declared.answers.DataAnswer.{DataAnswer}
use Rattle.zk_cache.specs.declared.answers.DataAnswer.TheVariants as data_answer
use Rattle.zk_cache.specs.Kept.{Answer, Absent, Known, Full, Names, Kept}

-- what an answer says
abbrev pub answer_of : {A : Type 0} → DataAnswer A → Answer
answer_of data_answer.Absent = Absent
answer_of (data_answer.Known stat) = Known stat
answer_of (data_answer.Full bytes stat) = Full (option_map vec_items bytes) stat

-- the names, with the zxid of their last change
abbrev pub names_in : {A : Type 0} → Children A → Names
names_in kept = record { names = set.from_list kept.names; pzxid = kept.pzxid }

-- what is kept, seen by f
abbrev pub seen_by : {X Y : Type 0} → (X → Y) → Kept X → Kept Y
seen_by f kept = record { answer = f kept.answer; mark = kept.mark }
