-- A connection to a server in memory that goes through its history while somebody waits, until it is cut.
use Rattle.std.specs.Prelude.{◌≡◌, ◌≢◌, ◌+◌, ◌⊎◌, ℕ, true, List, [], Option, Some, None, All}
use Rattle.zk_link.specs.FarEnds.{FarEnd}
use Rattle.zk_history.specs.HistoryView.{HistoryView}
use Rattle.zk_bench.specs.Served.{advanced, is_open, Served}
use Rattle.zk_bench.specs.Served as bench
use Rattle.zk_bench.specs.Stepping.{IsReady}
use Rattle.zk_bench_dial.specs.BenchActs.{Advances, Answers, GoesBy}

-- What is dialled: benches over one history, each with how often somebody waits for it until the connection is cut.
pub record PastView : Type 0 where
  pub history : HistoryView
  pub lines : List (Served × ℕ)

-- The bench has this history, and each server a beginning of it.
abbrev pub IsOver : HistoryView → Served → Type 0
IsOver history served = IsReady served × (served.history ≡ history)

-- It is one of those that are dialled: not all of them are another.
abbrev pub IsLeft : PastView → Served × ℕ → Type 0
IsLeft past line = IsOver past.history line.0 × (All (λ given. given ≢ line) past.lines → ⊥)

-- The first server of the bench is connected.
abbrev pub IsUp : PastView → Served → Type 0
IsUp past served = IsOver past.history served × (served.server ≡ 0)

-- ---- what goes on at the far end of a connection

-- The bench, until the connection is over, and how often somebody still waits for it.
pub record LineView : Type 0 where
  pub served : Option Served
  pub waits : ℕ

-- The bench answers, and takes a transaction only if an answer wants it. Once the connection is over the stream gives nothing, and what
-- it takes is lost.
abbrev pub IsAnswering : Option Served → (took gave : List ℕ) → Option Served → Type 0
IsAnswering (Some old) took gave (Some new) = GoesBy Answers old took gave new
IsAnswering (Some old) took gave None = (between : Served) × GoesBy Answers old took gave between
IsAnswering None took gave None = gave ≡ []
IsAnswering None took gave (Some new) = ⊥

pub record LineAnswers (old : LineView) (took gave : List ℕ) (new : LineView) : Type 0 where
  pub answers : IsAnswering old.served took gave new.served
  pub waits : new.waits ≡ old.waits

-- The server has the connection, and all that it sent was received.
abbrev pub IsIdle : Served → Type 0
IsIdle served = (is_open served.connection.phase ≡ true) × (served.connection.output ≡ [])

-- There somebody waits: the server takes the next transaction, if there is one.
pub record TakesOne (old new : Served) : Type 0 where
  pub idle : IsIdle old
  pub advances : Advances old new
  pub taken : new.taken ≡ advanced old old.server
  pub rest : new ≡ record old { taken = new.taken; connection = new.connection }

pub record LineWaits (old : LineView) (took gave : List ℕ) (new : LineView) : Type 0 where
  pub none_taken : took ≡ []
  pub none_given : gave ≡ []
  pub before : Served
  pub after : Served
  pub there : old.served ≡ Some before
  pub still : new.served ≡ Some after
  pub waits : old.waits ≡ new.waits + 1
  pub takes : TakesOne before after

abbrev pub LineDoes : LineView → (took gave : List ℕ) → LineView → Type 0
LineDoes old took gave new = LineAnswers old took gave new ⊎ LineWaits old took gave new

-- It begins to the first server of one of the benches that are dialled (`is`, `ready` of `Bench::connect`), with its waits.
pub record IsDialled (past : PastView) (line : LineView) : Type 0 where
  pub before : Served
  pub left : IsLeft past (before, line.waits)
  pub after : Served
  pub ready : IsReady after
  pub connects : after ≡ bench.connected before 0
  pub there : line.served ≡ Some after

-- The far end of each connection is such a bench, whose history stays as it is: its server goes through it.
abbrev pub bench_end : PastView → FarEnd
bench_end past = record { State = LineView; begins = IsDialled past; does = LineDoes }
