-- Parts of the definitions, by themselves: what the definitions write out has a name here, so that lemmas can be said of it.
use Rattle.zk_cache.specs.declared.held.Kept.{Kept}
use Rattle.zk_cache.specs.Kept.{Answer, Absent, Known, Full, without_stale}
use Rattle.std.specs.Prelude.{ℕ, ℤ, Bool, true, false, ◌&&◌, List, [], ◌∷◌, Option, Some, None, Ok, Err, bytes_eq, if◌then◌else◌}
use Rattle.std.specs.Prelude.{Result as Reading}
use Rattle.zk_nodes.specs.Path.{Text}
use Rattle.zk_nodes.specs.declared.data_stat.DataStat.{DataStat}
use Rattle.zk_conversation.specs.Calls.{Call}
use Rattle.zk_conversation.specs.Questions.{Question, Close}
use Rattle.zk_conversation.specs.Arriving.{Arrived}
use Rattle.zk_conversation.specs.declared.fault.TalkFault.{TalkFault}
use Rattle.zk_session.specs.declared.states.State.{State}
use Rattle.zk_session.specs.declared.states.State.TheVariants.{Connected, Expired, Closed}
use Rattle.zk_turns.specs.Turns.{Outcome, SessionExpired, SessionClosed, NotConnected, Talked, Output, Enters}
use Rattle.zk_turns.specs.Past.{Happening, Asked, Denied, Dropped, Forgot, Word, Says, Ends, Nothing}
use Rattle.zk_turns.specs.View.{View}
use Rattle.zk_turns.specs.Taken.{taken_of, refusal_when_connected}

-- what a notice says
abbrev pub notice_word : {A : Type 0} → Bool → Text → Text → Word A
notice_word about at path = if about && bytes_eq at path then Ends else Nothing

-- what stands after a word
abbrev pub after_word : {A : Type 0} → Word A → Option A → Option A
after_word word before = elim word [ Says answer ↦ Some answer | Nothing ↦ before | _ ↦ None ]

-- these fields, with the data that are known
abbrev pub with_data : DataStat → Option (Option (List ℕ)) → Answer
with_data fields bytes = elim bytes [ None ↦ Known fields | Some bytes ↦ Full bytes fields ]

-- what is kept where nothing is said
abbrev pub unless_forgot : {A : Type 0} → Happening → Option (Kept A) → Option (Kept A)
unless_forgot happening kept = elim happening [ Forgot ↦ without_stale kept | _ ↦ kept ]

-- a good answer says that the node is there
abbrev pub is_there : Option Answer → Bool
is_there answer = elim answer [ Some (Known fields) ↦ true | Some (Full bytes fields) ↦ true | _ ↦ false ]

-- a good answer says that it is absent
abbrev pub is_absent : Option Answer → Bool
is_absent answer = elim answer [ Some Absent ↦ true | _ ↦ false ]

-- what a close makes a client say
abbrev pub closing : Question → List Output
closing question = elim question [ Close ↦ Enters Closed ∷ [] | _ ↦ [] ]

-- what a reading makes happen
abbrev pub happening_of : (last : ℤ) → Reading Arrived TalkFault → Happening
happening_of last arrived = elim arrived [ Ok arrived ↦ taken_of last arrived | Err fault ↦ Dropped (Talked fault) ]

-- why a call is not sent, in this state
abbrev pub refusal_in : State → View → Call → Option Outcome
refusal_in state view call = elim state [
  | Connected ↦ refusal_when_connected view call
  | Expired ↦ Some SessionExpired
  | Closed ↦ Some SessionClosed
  | _ ↦ Some NotConnected
]

-- what a call makes happen, by why it is refused
abbrev pub calls : ℕ → Call → Option Outcome → List Happening
calls ticket call why = elim why [ None ↦ Asked ticket call ∷ [] | Some why ↦ Denied ticket why ∷ [] ]
