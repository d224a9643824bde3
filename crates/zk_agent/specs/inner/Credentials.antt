-- What contracts of private functions say: nobody has to believe it.
use Rattle.std.specs.Prelude.{ℕ, ℤ, List}
use Rattle.zk_agent.specs.declared.credentials.Credentials.{Credentials}
use Rattle.zk_agent.specs.Credentials.{Verdicts}

-- how many credentials are answered, and which were answered by these bytes
abbrev pub verdicts_of : {A : Type 0} → Credentials A → (judged : List (ℕ × ℤ)) → Verdicts
verdicts_of credentials judged = record { answered = credentials.answered; judged = judged }
