-- A request is read as it is spelled: its header, and then the record of its operation.
use Rattle.std.proofs.Common.{◌≡◌, ℕ, ℤ, pos, negsuc, arith, List, ◌++◌, Option, Some, None, Result, Ok, Err, refl, sym, ap, subst, ◌∙◌}
use Rattle.std.proofs.Common.{append_assoc}
use Rattle.std.specs.Prelude.{◌≢◌, FitsSigned}
use Rattle.std.specs.Int.{w32}
use Rattle.std.proofs.lemmas.Bool.Decides.{nat_tests}
use Rattle.zk_jute.specs.declared.fault.TakeError.{TakeError}
use Rattle.zk_jute.specs.declared.fault.TakeError.TheVariants.{Short, BadLength, BadBool, NotUtf8, Memory}
use Rattle.zk_jute.specs.Layout.{Value}
use Rattle.zk_jute.specs.Spelling.{IsBytes, spelling, Fits}
use Rattle.zk_jute.specs.Reading.{reading}
use Rattle.zk_jute.specs.inner.Laws.{Takes, reads}
use Rattle.zk_jute.proofs.Taking.{is_spelled, is_read as is_read_so}
use Rattle.zk_records.specs.declared.operation.Operation.{Operation}
use Rattle.zk_records.specs.declared.operation.Operation.TheVariants.{Create, Delete, Exists, GetData, SetData, GetChildren, Ping}
use Rattle.zk_records.specs.declared.operation.Operation.TheVariants.{GetChildren2, SetWatches, CloseSession}
use Rattle.zk_records.specs.declared.request_fault.RequestFault.{RequestFault}
use Rattle.zk_records.specs.declared.request_fault.RequestFault.TheVariants.{Unknown, Unread}
use Rattle.zk_records.specs.Layouts.{request_header}
use Rattle.zk_records.specs.Operations.{operation_number, operation_numbered, body_layout, request_layout}
use Rattle.zk_records.specs.Asked.{Asked, asked_value, with_body, behind_header, with_header, request_at}

-- each operation is that of its number
pub numbered_again : (o : Operation) → operation_numbered (operation_number o) ≡ Some o
numbered_again Create = refl
numbered_again Delete = refl
numbered_again Exists = refl
numbered_again GetData = refl
numbered_again SetData = refl
numbered_again GetChildren = refl
numbered_again Ping = refl
numbered_again GetChildren2 = refl
numbered_again SetWatches = refl
numbered_again CloseSession = refl

-- ---- what the parts are, the whole is

pub is_read : (end : ℕ) (bytes mid rest : List ℕ) (header : Value request_header) (o : Operation) (body : Value (body_layout o))
    → reading request_header end bytes ≡ Ok (header, mid) → operation_numbered header.1 ≡ Some o
    → reading (body_layout o) end mid ≡ Ok (body, rest)
    → request_at end bytes ≡ Ok (record { xid = header.0; operation = o; body = body }, rest)
unfolding request_at
is_read end bytes mid rest header o body whole known behind =
    ap (with_header end) whole ∙ ap (λ (found : Option Operation). behind_header end header found mid) known
    ∙ ap (with_body header.0 o) behind

pub is_unknown : (end : ℕ) (bytes mid : List ℕ) (header : Value request_header) → reading request_header end bytes ≡ Ok (header, mid)
    → operation_numbered header.1 ≡ None → request_at end bytes ≡ Err (Unknown header.1)
unfolding request_at
is_unknown end bytes mid header whole unknown =
    ap (with_header end) whole ∙ ap (λ (found : Option Operation). behind_header end header found mid) unknown

pub header_fails : (end : ℕ) (bytes : List ℕ) (fault : TakeError) → (fault ≢ Memory → reading request_header end bytes ≡ Err fault)
    → Unread fault ≢ Unread Memory → request_at end bytes ≡ Err (Unread fault)
unfolding request_at
header_fails end bytes fault fails other = ap (with_header end) (fails (λ (e : fault ≡ Memory). other (ap Unread e)))

pub body_fails : (end : ℕ) (bytes mid : List ℕ) (header : Value request_header) (o : Operation) (fault : TakeError)
    → reading request_header end bytes ≡ Ok (header, mid) → operation_numbered header.1 ≡ Some o
    → (fault ≢ Memory → reading (body_layout o) end mid ≡ Err fault) → Unread fault ≢ Unread Memory
    → request_at end bytes ≡ Err (Unread fault)
unfolding request_at
body_fails end bytes mid header o fault whole known fails other =
    ap (with_header end) whole ∙ ap (λ (found : Option Operation). behind_header end header found mid) known
    ∙ ap (with_body header.0 o) (fails (λ (e : fault ≡ Memory). other (ap Unread e)))

-- ---- what is spelled so is read

pub request_again : (end : ℕ) (bytes : List ℕ) (asked : Asked) (rest : List ℕ) → Fits (request_layout asked.operation) (asked_value asked)
    → bytes ≡ spelling (request_layout asked.operation) (asked_value asked) ++ rest → request_at end bytes ≡ Ok (asked, rest)
request_again end bytes asked rest fits e =
    let o : Operation = asked.operation in
    let header : Value request_header = (asked.xid, operation_number o) in
    let behind : List ℕ = spelling (body_layout o) asked.body ++ rest in
    let regrouped : bytes ≡ spelling request_header header ++ behind = e ∙ simp append_assoc in
    let whole : reading request_header end bytes ≡ Ok (header, behind) =
    ap (reading request_header end) regrouped ∙ (reads request_header end).again header behind (fits.0, fits.1.0) in
    is_read end bytes behind rest header o asked.body whole (numbered_again o) ((reads (body_layout o) end).again asked.body rest fits.1.1)

-- ---- what is read is spelled so

abbrev fine : {A : Type 0} → A → Result A RequestFault
fine x = Ok x

fine_is : {A : Type 0} (x y : A) → fine x ≡ fine y → x ≡ y
fine_is x y e = cc

-- what the bytes spell, and what stands after it
abbrev pub IsAsked : List ℕ → Asked × List ℕ → Type 0
IsAsked bytes found = Fits (request_layout found.0.operation) (asked_value found.0)
    × (bytes ≡ spelling (request_layout found.0.operation) (asked_value found.0) ++ found.1)

pub numbered_is : (z : ℤ) (o : Operation) → operation_numbered z ≡ Some o → z ≡ operation_number o
numbered_is (pos n) o e = grind (arith, nat_tests)
numbered_is (negsuc n) o e = grind (arith, nat_tests)

body_takes : (end : ℕ) (bytes mid : List ℕ) (header : Value request_header) (o : Operation)
    (read : Result (Value (body_layout o) × List ℕ) TakeError) (found : Asked × List ℕ)
    → Takes bytes (spelling request_header header) mid → Fits request_header header
    → header.1 ≡ operation_number o → reading (body_layout o) end mid ≡ read → with_body header.0 o read ≡ Ok found → IsAsked bytes found
body_takes end bytes mid header o (Ok b) found front fits number is e =
    let t = (reads (body_layout o) end).takes mid b front.rest_fits is in
    let number_fits : FitsSigned w32 (operation_number o) = subst (FitsSigned w32) number fits.1 in
    let whole : bytes ≡ spelling (request_layout o) (header.0, (operation_number o, b.0)) ++ b.1 =
    front.parts ∙ ap (λ (x : List ℕ). spelling request_header header ++ x) t.0.parts
    ∙ ap (λ (n : ℤ). spelling request_header (header.0, n) ++ (spelling (body_layout o) b.0 ++ b.1)) number ∙ simp append_assoc in
    let made : Asked × List ℕ = (record { xid = header.0; operation = o; body = b.0 }, b.1) in
    subst (IsAsked bytes) (fine_is made found e) ((fits.0, (number_fits, t.1)), whole)
body_takes end bytes mid header o (Err fault) found front fits number is e = absurd cc

numbered_takes : (end : ℕ) (bytes mid : List ℕ) (header : Value request_header) (known : Option Operation) (found : Asked × List ℕ)
    → Takes bytes (spelling request_header header) mid → Fits request_header header
    → operation_numbered header.1 ≡ known → behind_header end header known mid ≡ Ok found → IsAsked bytes found
numbered_takes end bytes mid header (Some o) found front fits is e =
    body_takes end bytes mid header o (reading (body_layout o) end mid) found front fits (numbered_is header.1 o is) refl e
numbered_takes end bytes mid header None found front fits is e = absurd cc

header_takes : (end : ℕ) (bytes : List ℕ) (read : Result (Value request_header × List ℕ) TakeError) (found : Asked × List ℕ)
    → IsBytes bytes → reading request_header end bytes ≡ read → with_header end read ≡ Ok found → IsAsked bytes found
header_takes end bytes (Ok h) found fits is e = let t = (reads request_header end).takes bytes h fits is in
    numbered_takes end bytes h.1 h.0 (operation_numbered h.0.1) found t.0 t.1 refl e
header_takes end bytes (Err fault) found fits is e = absurd cc

pub request_takes : (end : ℕ) (bytes : List ℕ) (found : Asked × List ℕ)
    → IsBytes bytes → request_at end bytes ≡ Ok found → IsAsked bytes found
unfolding request_at
request_takes end bytes found fits e = header_takes end bytes (reading request_header end bytes) found fits refl e

-- the numbers of a header are ints
pub header_fits : (end : ℕ) (bytes : List ℕ) (found : Value request_header × List ℕ)
    → IsBytes bytes → reading request_header end bytes ≡ Ok found → Fits request_header found.0
header_fits end bytes found fits e = ((reads request_header end).takes bytes found fits e).1

-- ---- one reading

-- a request is read in one way, and a call that fails, where reading does not, fails for memory
pub is_the_one : (read : Result (Asked × List ℕ) RequestFault) (a b : Asked) (x y : List ℕ) → read ≡ Ok (a, x)
    → read ≡ Ok (b, y) → (a ≡ b) × (x ≡ y)
is_the_one read a b x y first second =
    let same : (a, x) ≡ (b, y) = fine_is (a, x) (b, y) (sym first ∙ second) in
    (ap (λ (p : Asked × List ℕ). p.0) same, ap (λ (p : Asked × List ℕ). p.1) same)

pub is_memory : (read : Result (Asked × List ℕ) RequestFault) (found : Asked × List ℕ) (fault : RequestFault)
    → (fault ≢ Unread Memory → read ≡ Err fault) → read ≡ Ok found → fault ≡ Unread Memory
is_memory read found (Unknown n) fails given = let e = fails (λ h. cc) in absurd (cc (e, given))
is_memory read found (Unread (Short place)) fails given = let e = fails (λ h. cc) in absurd (cc (e, given))
is_memory read found (Unread (BadLength place)) fails given = let e = fails (λ h. cc) in absurd (cc (e, given))
is_memory read found (Unread (BadBool place)) fails given = let e = fails (λ h. cc) in absurd (cc (e, given))
is_memory read found (Unread (NotUtf8 place)) fails given = let e = fails (λ h. cc) in absurd (cc (e, given))
is_memory read found (Unread Memory) fails given = refl

-- ---- the same as reading a layout

-- a request that is read is the value of its operation's layout
pub as_layout : (end : ℕ) (bytes : List ℕ) (found : Asked × List ℕ) → IsBytes bytes → request_at end bytes ≡ Ok found
    → reading (request_layout found.0.operation) end bytes ≡ Ok (asked_value found.0, found.1)
as_layout end bytes found fits e =
    let t = request_takes end bytes found fits e in
    is_read_so (request_layout found.0.operation) end bytes (asked_value found.0) found.1 t.0 t.1

-- and where that layout has such a value, the request is read
pub from_layout : (end : ℕ) (bytes : List ℕ) (asked : Asked) (rest : List ℕ) → IsBytes bytes
    → reading (request_layout asked.operation) end bytes ≡ Ok (asked_value asked, rest) → request_at end bytes ≡ Ok (asked, rest)
from_layout end bytes asked rest fits e =
    let t = is_spelled (request_layout asked.operation) end bytes (asked_value asked) rest fits e in
    request_again end bytes asked rest t.0 t.1
