-- The answer to the first message, whose last field may be missing. It is missing where the payload ends before it,
-- so the spelling and the reading are those of a whole payload.
use Rattle.std.specs.Prelude.{◌≡◌, ℕ, Bool, List, [], ◌∷◌, ◌++◌, Option, Some, None, Result, Ok}
use Rattle.zk_jute.specs.declared.fault.TakeError.{TakeError}
use Rattle.zk_jute.specs.Layout.{boolean, Value}
use Rattle.zk_jute.specs.Spelling.{spelling, Fits}
use Rattle.zk_jute.specs.Reading.{◌>>=◌, reading}
use Rattle.zk_records.specs.Layouts.{connect_response_front}

-- protocolVersion, timeOut, sessionId and passwd, and readOnly where it is there
pub record Response : Type 0 where
  pub front : Value connect_response_front
  pub read_only : Option Bool

abbrev pub flag_spelling : Option Bool → List ℕ
flag_spelling None = []
flag_spelling (Some flag) = spelling boolean flag

abbrev pub response_spelling : Response → List ℕ
response_spelling r = spelling connect_response_front r.front ++ flag_spelling r.read_only

abbrev pub ResponseFits : Response → Type 0
ResponseFits r = Fits connect_response_front r.front

-- a whole payload spells r, and the ignored bytes stand after it: there are none where readOnly is missing
abbrev pub EndsPayload : Option Bool → List ℕ → Type 0
EndsPayload None ignored = ignored ≡ []
EndsPayload (Some flag) ignored = Unit {0}

pub record IsPayload (bytes : List ℕ) (r : Response) (ignored : List ℕ) : Type 0 where
  pub fits : Fits connect_response_front r.front
  pub whole : bytes ≡ response_spelling r ++ ignored
  pub ends : EndsPayload r.read_only ignored

unfoldable pub flag_at : ℕ → List ℕ → Result (Option Bool × List ℕ) TakeError
flag_at end [] = Ok (None, [])
flag_at end (byte ∷ bytes) = reading boolean end (byte ∷ bytes) >>= λ flag. Ok (Some flag.0, flag.1)

unfoldable pub response_at : ℕ → List ℕ → Result (Response × List ℕ) TakeError
response_at end bytes = do
  front ← reading connect_response_front end bytes
  flag ← flag_at end front.1
  Ok (record { front = front.0; read_only = flag.0 }, flag.1)
