-- What reads and writes of a stream do to the bytes that it knows, one after the other.
use Rattle.std.proofs.Common.{◌≡◌, ◌++◌, ◌∙◌, ◌≤◌, ℕ, List, [], ap, append-nil, append_assoc, refl, sym, subst, take, drop, length}
use Rattle.std.proofs.Common.{take-append-drop, Option, Some, None}
use Rattle.std.specs.Prelude.{Result, Ok, Err, IfOk}
use Rattle.std.specs.Io.KnownBytes.{Appends, Consumes, Keeps}
use Rattle.std.proofs.Math.Seq.{drop-append_seam}
use Rattle.std.proofs.lemmas.List.{take-append-le}
use Rattle.zk_link.specs.Written.{IsLeftOf}
use Rattle.zk_link.specs.Streams.{Sends}

-- ---- known bytes

pub keeps_same : (a : Option (List ℕ)) → Keeps a a
keeps_same None = tt
keeps_same (Some xs) = refl

pub consumes_none : (a b : Option (List ℕ)) → Keeps a b → Consumes a b []
consumes_none None b keeps = tt
consumes_none (Some xs) None keeps = absurd keeps
consumes_none (Some xs) (Some ys) keeps = sym keeps

pub appends_none : (a : Option (List ℕ)) → Appends a a []
appends_none None = tt
appends_none (Some xs) = sym (append-nil xs)

pub appends_on : (a b c : Option (List ℕ)) (bs cs : List ℕ) → Appends a b bs → Appends b c cs → Appends a c (bs ++ cs)
appends_on None b c bs cs first rest = tt
appends_on (Some x) None c bs cs first rest = absurd first
appends_on (Some x) (Some y) None bs cs first rest = absurd rest
appends_on (Some x) (Some y) (Some z) bs cs first rest = rest ∙ ap (λ l. l ++ cs) first ∙ append_assoc x bs cs

pub appends_kept : (a b c : Option (List ℕ)) (bs : List ℕ) → Appends a b bs → Keeps b c → Appends a c bs
appends_kept None b c bs first keeps = tt
appends_kept (Some x) None c bs first keeps = absurd first
appends_kept (Some x) (Some y) None bs first keeps = absurd keeps
appends_kept (Some x) (Some y) (Some z) bs first keeps = keeps ∙ first

pub kept_consumes : (a b c : Option (List ℕ)) (bs : List ℕ) → Keeps a b → Consumes b c bs → Consumes a c bs
kept_consumes None b c bs keeps rest = tt
kept_consumes (Some x) None c bs keeps rest = absurd keeps
kept_consumes (Some x) (Some y) None bs keeps rest = absurd rest
kept_consumes (Some x) (Some y) (Some z) bs keeps rest = sym keeps ∙ rest

-- nothing was written
pub sends_none : (unsent : List ℕ) (known : Option (List ℕ)) → Sends unsent unsent known known
sends_none unsent known = ([], refl, appends_none known)

-- some was written, and some after it
pub sends_on : (unsent mid rest : List ℕ) (a b c : Option (List ℕ)) → Sends unsent mid a b → Sends mid rest b c → Sends unsent rest a c
sends_on unsent mid rest a b c first more = (
  first.0 ++ more.0,
  first.1 ∙ ap (λ l. first.0 ++ l) more.1 ∙ sym (append_assoc first.0 more.0 rest),
  appends_on a b c first.0 more.0 first.2 more.2,
)

-- what a stream kept before it was read
pub read_kept : {X E : Type 0} (result : Result X E) (piece : X → List ℕ) (a b c : Option (List ℕ)) → Keeps a b
    → IfOk result (λ brought. Consumes b c (piece brought)) → IfOk result (λ brought. Consumes a c (piece brought))
read_kept (Ok brought) piece a b c keeps gives = kept_consumes a b c (piece brought) keeps gives
read_kept (Err e) piece a b c keeps gives = tt

pub left_of : (unsent rest : List ℕ) (a b : Option (List ℕ)) → Sends unsent rest a b → IsLeftOf unsent rest
left_of unsent rest a b sends =
    (length sends.0, sym (ap (drop (length sends.0)) sends.1 ∙ drop-append_seam sends.0 rest))

-- the first bytes of a piece of what is unsent were written
pub sends_front : (count piece : ℕ) (unsent : List ℕ) (a b : Option (List ℕ)) → count ≤ length (take piece unsent)
    → Appends a b (take count (take piece unsent))
    → Sends unsent (drop count unsent) a b
sends_front count piece unsent a b most takes =
    let front : take count (take piece unsent) ≡ take count unsent =
    sym (take-append-le count (take piece unsent) (drop piece unsent) most) ∙ ap (take count) (take-append-drop piece unsent) in
    (take count unsent, sym (take-append-drop count unsent), subst (Appends a b) front takes)

-- a write that took nothing
pub sends_no_more : (unsent rest : List ℕ) (a b c : Option (List ℕ)) → Sends unsent rest a b → Appends b c [] → Sends unsent rest a c
sends_no_more unsent rest a b c sends takes = sends_on unsent rest rest a b c sends ([], refl, takes)

pub keeps_on : (a b c : Option (List ℕ)) → Keeps a b → Keeps b c → Keeps a c
keeps_on None b c first rest = tt
keeps_on (Some x) None c first rest = absurd first
keeps_on (Some x) (Some y) None first rest = absurd rest
keeps_on (Some x) (Some y) (Some z) first rest = rest ∙ first

pub consumes_on : (a b c : Option (List ℕ)) (piece : List ℕ) → Consumes a b [] → Consumes b c piece → Consumes a c piece
consumes_on None b c piece first rest = tt
consumes_on (Some x) None c piece first rest = absurd first
consumes_on (Some x) (Some y) None piece first rest = absurd rest
consumes_on (Some x) (Some y) (Some z) piece first rest = first ∙ rest

pub keeps_consumed : (a b : Option (List ℕ)) → Consumes a b [] → Keeps a b
keeps_consumed None b consumes = tt
keeps_consumed (Some x) None consumes = absurd consumes
keeps_consumed (Some x) (Some y) consumes = sym consumes
