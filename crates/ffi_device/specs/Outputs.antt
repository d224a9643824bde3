-- What was said, one action at a time, and then how contenders stand.
use Rattle.std.specs.Prelude.{ℕ, zero, suc, ◌-◌, List, [], length, Option, Some, None, get_or}
use Rattle.std.specs.Option.{option_map}
use Rattle.std.specs.List.{slice_get}
use Rattle.zk_client.specs.FaultText.{fault_words}
use Rattle.zk_client.specs.Views.{fault_view}
use Rattle.zk_client.specs.declared.call_result.CallResult.{CallResult}
use Rattle.zk_client.specs.declared.call_result.CallResult.TheVariants as result
use Rattle.zk_client.specs.declared.output.Outcome.{Outcome}
use Rattle.zk_client.specs.declared.output.Outcome.TheVariants as outcome
use Rattle.zk_agent.specs.declared.action.Action.{Action}
use Rattle.zk_agent.specs.declared.action.Action.TheVariants as action
use Rattle.zk_contend.specs.declared.status.LockStatus.{LockStatus}
use Rattle.ffi_device.specs.Actions.{action_flat, action_text}
use Rattle.ffi_device.specs.News.{standing_flat}
use Rattle.ffi_device.specs.declared.flat.Flat.{Flat}

-- how many were read after one was asked for
abbrev pub read_after : Option Flat → ℕ → ℕ
read_after None read = read
read_after (Some flat) read = suc read

-- what was told last, unless it is how a contender stands
abbrev pub told : {T : Type 0} → List T → (read : ℕ) → Option T
told said zero = None
told said (suc read) = slice_get said read

-- the names that a reply brings, if it does
abbrev pub result_names : {A : Type 0} → CallResult A → List (List ℕ)
result_names (result.Names names stat) = names
result_names _ = []

-- the same of an answer
abbrev pub outcome_names : {A : Type 0} → Outcome A → List (List ℕ)
outcome_names (outcome.Replied zxid brought) = result_names brought
outcome_names _ = []

-- what is told next, as numbers: what was said, and after all of it how contenders stand
abbrev pub next_where : {A : Type 0} → Option (Action A) → List (ℕ × LockStatus) → (read : ℕ) → Option Flat
next_where (Some action) news read = Some (action_flat action)
next_where None news read = option_map standing_flat (slice_get news read)

abbrev pub next_of : {A : Type 0} → List (Action A) → List (ℕ × LockStatus) → (read : ℕ) → Option Flat
next_of said news read = next_where (slice_get said read) news (read - length said)

-- the text of an action, if there is one
abbrev pub text_if : {A : Type 0} → Option (Action A) → List ℕ
text_if None = []
text_if (Some action) = action_text action

abbrev pub told_text : {A : Type 0} → List (Action A) → (read : ℕ) → List ℕ
told_text said read = text_if (told said read)

-- the words of why a connection is given up, if that was told last
abbrev pub words_of : {A : Type 0} → Option (Action A) → List ℕ
words_of (Some (action.GivenUp why)) = fault_words (fault_view why)
words_of _ = []

abbrev pub told_words : {A : Type 0} → List (Action A) → (read : ℕ) → List ℕ
told_words said read = words_of (told said read)

-- the names of the listing that was told last, in the order of the reply
abbrev pub names_in : {A : Type 0} → Option (Action A) → List (List ℕ)
names_in (Some (action.Answer ticket outcome)) = outcome_names outcome
names_in _ = []

abbrev pub told_names : {A : Type 0} → List (Action A) → (read : ℕ) → List (List ℕ)
told_names said read = names_in (told said read)

-- the name of this index in that listing, if there is one
abbrev pub told_name : {A : Type 0} → (index : ℕ) → List (Action A) → (read : ℕ) → List ℕ
told_name index said read = get_or (told_names said read) index []
