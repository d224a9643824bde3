-- What contracts of private functions say: nobody has to believe it.
use Rattle.std.specs.Prelude.{ℕ, pos, ◌≡◌, ◌≤◌, ℤ, false, List, [], ◌∷◌, ◌++◌, length, slice_index, Some, ⊤}
use Rattle.zk_nodes.specs.Path.{Text, path_of}
use Rattle.zk_nodes.specs.History.{History, Change}
use Rattle.zk_history.specs.Shown.{IsStat}
use Rattle.zk_nodes.specs.StatLayout.{stat}
use Rattle.zk_jute.specs.Layout.{Value}
use Rattle.zk_history.specs.HistoryView.{history_of}
use Rattle.zk_conversation.specs.Calls.{Call}
use Rattle.zk_conversation.specs.Pending.{closes}
use Rattle.zk_conversation.specs.Questions.{question_of}
use Rattle.zk_conversation.specs.Results.{Result, NoNode, Refused, stat_of}
use Rattle.zk_records.specs.Codes.{code_number}
use Rattle.zk_laws.specs.Server.{both, sets, held, tree_held, LastHolds, Gives}
use Rattle.zk_laws.specs.ServerSteps.{ServerEnd, Serving}
use Rattle.zk_laws.specs.Served.{code_of}
use Rattle.theory_serving.specs.Steps.{Step, Moves, ended_by, sent_by, processed_by}
use Rattle.theory_serving.specs.Shown.{Shown, GoesBy}
use Rattle.zk_laws.specs.Messages.{Request, Ask}
use Rattle.zk_bench.specs.declared.connection.Connection.{Connection}
use Rattle.zk_bench.specs.declared.phase.Phase.TheVariants.{Accepted}
use Rattle.zk_bench.specs.inner.Serving.{watched, Sends}
use Rattle.zk_bench.specs.inner.Writing.{IsAnswer}
use Rattle.zk_bench.specs.Served.{Served, ended}
use Rattle.zk_bench.specs.declared.stop.Stop.{Stop}
use Rattle.zk_bench.specs.declared.stop.Refusal.{Refusal}
use Rattle.zk_bench.specs.Stepping.{stage_of, shown_of, IsReady, TakesSome, zxid_of}
use Rattle.zk_records.specs.declared.code.Code.TheVariants as codes
use Rattle.theory_serving.specs.Shown as shows
use Rattle.zk_bench.specs.declared.stop.Stop.TheVariants as stops
use Rattle.zk_bench.specs.declared.stop.Refusal.TheVariants as refusals

-- the end of a connection whose server has taken this many transactions
abbrev pub end_at : {A : Type 0} → ℕ → Connection A → ServerEnd
end_at place connection = record { place = place; watches = watched connection.watches; stage = stage_of connection.phase }

-- A server takes transactions, and sends what they fire: it stands at a place of the history. With an error the steps are those
-- before it.
pub record Catches {A : Type 0} (h : History) (before : ℕ) (old : Connection A) (after : ℕ) (new : Connection A) : Type 0 where
  pub steps : List Step
  pub moves : Moves h (pos 0) [] steps (end_at before old)
  pub sent : new.output.items ≡ old.output.items ++ sent_by steps
  pub low : after ≤ length h.transactions

-- The steps end where the server stands.
pub record CatchesUp {A : Type 0} (h : History) (before : ℕ) (old : Connection A) (after : ℕ) (new : Connection A) : Type 0 where
  pub steps : List Step
  pub moves : Moves h (pos 0) [] steps (end_at before old)
  pub sent : new.output.items ≡ old.output.items ++ sent_by steps
  pub low : after ≤ length h.transactions
  pub ended : ended_by h steps (end_at before old) ≡ end_at after new

-- The connected server goes on by steps, with a request to process, in which this xid stands. It has processed it under a condition.
pub record ProcessesIf (condition : Type 0) (request : Request) (xid : ℤ) (old new : Shown) : Type 0 where
  pub steps : List Step
  pub goes : GoesBy xid (request ∷ []) steps old new
  pub done : condition → processed_by steps ≡ 1

-- It processes the request, or ends the connection.
abbrev pub ProcessesOne : Request → ℤ → Shown → Shown → Type 0
ProcessesOne request xid old new = ProcessesIf (new.phase ≡ shows.Open) request xid old new

-- It processes the request, and so it answers it, also where it ends the connection then.
abbrev pub AnswersOne : Request → ℤ → Shown → Shown → Type 0
AnswersOne request xid old new = ProcessesIf ⊤ request xid old new

-- a result that a header alone tells
abbrev pub IsRefusal : Result → Type 0
IsRefusal NoNode = ⊤
IsRefusal (Refused code) = ⊤
IsRefusal result = ⊥

-- The connected server has taken transactions, if any, and a call is to be answered by this code: nothing is sent of that yet, but the
-- watches are those that the answer leaves.
pub record Owes (call : Call) (code : ℤ) (old new : Shown) : Type 0 where
  pub mid : Shown
  pub took : TakesSome old mid
  pub up : mid.phase ≡ shows.Open
  pub serves : mid.server.stage ≡ Serving
  pub stays : closes (question_of call) ≡ false
  pub result : Result
  pub refuses : IsRefusal result
  pub coded : code_of result ≡ code
  pub gives : Gives mid.history mid.server.place call result
  pub left : new ≡ record mid { server = record mid.server { watches = both mid.server.watches (sets (question_of call) result) } }

-- a call alone is answered by a code
abbrev pub OwesTo : Request → ℤ → Shown → Shown → Type 0
OwesTo (Ask call) code old new = Owes call code old new
OwesTo request code old new = ⊥

-- the server ends the connection, unless memory is refused
abbrev pub EndsBy : Stop → Request → ℤ → Shown → Shown → Type 0
EndsBy stops.End request xid old new = ProcessesOne request xid old new
EndsBy stops.Memory request xid old new = ⊤

-- What a request is owed that gets no result: the answer by a code; or nothing more, where the server ends the connection.
abbrev pub Declines : Request → ℤ → Served → Served → Refusal → Type 0
Declines request xid old new (refusals.Code code) = OwesTo request (code_number code) (shown_of old) (shown_of new)
Declines request xid old new (refusals.Stop stop) = EndsBy stop request xid (shown_of old) (shown_of (ended new))

-- The connected server has accepted the client.
pub record HasClient (served : Served) : Type 0 where
  pub ready : IsReady served
  pub accepted : served.connection.phase ≡ Accepted

-- bytes more are sent, or fewer, and nothing else changes
abbrev pub IsSending : Served → Served → Type 0
IsSending old new = new ≡ record old { connection = record old.connection { output = new.connection.output } }

-- It holds the whole history.
abbrev pub HasAll : Served → Type 0
HasAll served = length served.history.transactions ≤ slice_index served.taken served.server

-- the last transaction that it holds has this change
abbrev pub HasWritten : Change → Served → Type 0
HasWritten change served = LastHolds change (held (history_of served.history) (slice_index served.taken served.server))

-- The write is not made: it is to be refused by a code, or the connection ends. Transactions may have been taken before.
abbrev pub LeavesUnmade : Served → Served → Refusal → Type 0
LeavesUnmade old new (refusals.Code code) = IsAnswer (refusals.Code code) × TakesSome (shown_of old) (shown_of new)
LeavesUnmade old new (refusals.Stop stop) = TakesSome (shown_of old) (shown_of (ended new))

-- The Stat of a node is sent.
pub record SendsStat (xid : ℤ) (text : Text) (old new : Served) : Type 0 where
  pub value : Value stat
  pub told : IsStat (tree_held (history_of old.history) (slice_index old.taken old.server)) (path_of text) (Some (stat_of value))
  pub sends : Sends (xid, (pos (zxid_of old), pos 0)) stat value old.connection.output new.connection.output

-- It is not: no node is there, or the connection ends.
abbrev pub LeavesUnsent : Served → Served → Refusal → Type 0
LeavesUnsent old new (refusals.Code code) = (code ≡ codes.NoNode) × (new ≡ old)
LeavesUnsent old new (refusals.Stop stops.End) = new.connection.output ≡ old.connection.output
LeavesUnsent old new (refusals.Stop stops.Memory) = ⊤
