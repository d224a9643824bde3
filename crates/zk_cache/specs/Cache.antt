-- What a cache keeps of all texts, and what each call makes of it.
use Rattle.std.specs.Prelude.{◌≡◌, Option, None, bytes_eq, if◌then◌else◌}
use Rattle.std.specs.Option.{option_map_or}
use Rattle.std.specs.FinMap as finite
use Rattle.zk_nodes.specs.Path.{Text}
use Rattle.zk_nodes.specs.declared.side.Side.{Side}
use Rattle.zk_nodes.specs.declared.side.Side.TheVariants.{Data, Child}
use Rattle.zk_cache.specs.declared.held.Mark.TheVariants.{Stale}
use Rattle.zk_cache.specs.Kept.{Answer, Names, Kept, as_good, good, stale, without_stale, is_marked_good, merged}
use Rattle.zk_cache.specs.Look.{ByText}

-- what is kept on each side
pub record Answers : Type 0 where
  pub data_answers : ByText (Kept Answer)
  pub child_answers : ByText (Kept Names)

-- what is kept of a text, on each side
abbrev pub data_kept : Answers → Text → Option (Kept Answer)
data_kept answers text = finite.get answers.data_answers text

abbrev pub names_kept : Answers → Text → Option (Kept Names)
names_kept answers text = finite.get answers.child_answers text

-- nothing
abbrev pub no_answers : Answers
no_answers = record { data_answers = finite.empty; child_answers = finite.empty }

-- an answer about the data of a path comes
abbrev pub with_data : Answers → Text → Answer → Answers
with_data answers path answer = record {
  data_answers = finite.insert answers.data_answers path (as_good (merged (data_kept answers path) answer));
  child_answers = answers.child_answers;
}

-- the names of the children of a path come
abbrev pub with_names : Answers → Text → Names → Answers
with_names answers path names = record {
  data_answers = answers.data_answers;
  child_answers = finite.insert answers.child_answers path (as_good names);
}

-- the answer at the text, if there is one, becomes stale
abbrev pub stale_at : {A : Type 0} → ByText (Kept A) → Text → ByText (Kept A)
stale_at answers text =
    option_map_or (λ kept. finite.insert answers text (record { answer = kept.answer; mark = Stale })) (finite.get answers text) answers

abbrev pub with_stale : Answers → Side → Text → Answers
with_stale answers Data text = record { data_answers = stale_at answers.data_answers text; child_answers = answers.child_answers }
with_stale answers Child text = record { data_answers = answers.data_answers; child_answers = stale_at answers.child_answers text }

-- the good answers alone
abbrev pub good_of : {A : Type 0} → ByText (Kept A) → ByText (Kept A)
good_of answers = finite.retain_keys answers (λ text. is_marked_good (finite.get answers text))

abbrev pub with_good : Answers → Answers
with_good answers = record { data_answers = good_of answers.data_answers; child_answers = good_of answers.child_answers }

-- What is kept of each text after each call, as a function of what was kept of it before.
pub record KeepsEach (answers : Answers) : Type 0 where
  pub nothing : (text : Text) → (data_kept no_answers text ≡ None) × (names_kept no_answers text ≡ None)
  pub known : (path : Text) → (answer : Answer) → (text : Text)
      → data_kept (with_data answers path answer) text
      ≡ (if bytes_eq path text then good (merged (data_kept answers text) answer) else data_kept answers text)
  pub listed : (path : Text) → (names : Names) → (text : Text)
      → names_kept (with_names answers path names) text ≡ (if bytes_eq path text then good names else names_kept answers text)
  pub spoilt_data : (at text : Text)
      → data_kept (with_stale answers Data at) text ≡ (if bytes_eq at text then stale (data_kept answers text) else data_kept answers text)
  pub spoilt_names : (at text : Text) → names_kept (with_stale answers Child at) text
      ≡ (if bytes_eq at text then stale (names_kept answers text) else names_kept answers text)
  pub forgotten : (text : Text) → (data_kept (with_good answers) text ≡ without_stale (data_kept answers text))
      × (names_kept (with_good answers) text ≡ without_stale (names_kept answers text))

abbrev pub KeepsEachText : Type 0
KeepsEachText = (answers : Answers) → KeepsEach answers

-- Two caches that keep the same of each text are one.
abbrev pub IsKnownByTexts : Type 0
IsKnownByTexts = (a b : Answers) → ((text : Text) → data_kept a text ≡ data_kept b text)
    → ((text : Text) → names_kept a text ≡ names_kept b text) → a ≡ b
