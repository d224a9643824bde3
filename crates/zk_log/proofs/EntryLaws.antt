-- An entry is read as it is spelled: its header, the fields of its operation, and the digest.
use Rattle.std.proofs.Common.{◌≡◌, ℕ, ℤ, pos, negsuc, arith, Bool, true, false, List, [], ◌∷◌}
use Rattle.std.proofs.Common.{◌++◌, length, Option, Some, None, Result, Ok, Err}
use Rattle.std.proofs.Common.{refl, sym, ap, subst, ◌∙◌, append-nil}
use Rattle.std.specs.Prelude.{◌≢◌, if◌then◌else◌, IfOk, IfErr, MatchResult}
use Rattle.std.specs.Result.{IsErrAnd}
use Rattle.std.proofs.lemmas.Result.{err_from_is_err_and}
use Rattle.std.proofs.lemmas.Bool.Decides.{nat_tests}
use Rattle.zk_jute.specs.declared.fault.TakeError.{TakeError}
use Rattle.zk_jute.specs.declared.fault.TakeError.TheVariants.{Short, BadLength, BadBool, NotUtf8, Memory}
use Rattle.zk_jute.specs.Layout.{Layout, Value}
use Rattle.zk_jute.specs.Spelling.{IsBytes, spelling, Fits}
use Rattle.zk_jute.specs.Reading.{reading, place_of, int_at, bytes_at}
use Rattle.zk_jute.specs.inner.Laws.{Takes, reads}
use Rattle.zk_log.specs.declared.kind.TxnKind.{TxnKind}
use Rattle.zk_log.specs.declared.kind.TxnKind.TheVariants as kind
use Rattle.zk_log.specs.declared.entry_fault.EntryFault.{EntryFault}
use Rattle.zk_log.specs.declared.entry_fault.EntryFault.TheVariants.{Unread, Unknown, Trailing}
use Rattle.zk_log.specs.Kinds.{kind_at, kind_number, fields, stands_alone}
use Rattle.zk_log.specs.Format.{entry_front, digest, Logged, front_of, digest_bytes, behind_front, entry_bytes, DigestFits, EntryFits}
use Rattle.zk_log.specs.Reading.{whole_digest, digest_at, made_entry, with_digest, with_body, number_of, with_kind, with_front, entry_at}

-- ---- a kind is that of its number

stands_kind : (b : Bool) (k : TxnKind) → (if b then Some kind.CloseSessionAlone else Some kind.CloseSession) ≡ Some k
    → negsuc 10 ≡ kind_number k
stands_kind true k e = grind (arith, nat_tests)
stands_kind false k e = grind (arith, nat_tests)

pub numbered_is : (z : ℤ) (behind : List ℕ) (k : TxnKind) → kind_at z behind ≡ Some k → z ≡ kind_number k
unfolding kind_at
numbered_is (pos n) behind k e = grind (arith, nat_tests)
numbered_is (negsuc n) behind k e = grind (arith, nat_tests, stands_kind (stands_alone behind) k)

-- ---- what the parts are, the whole is

pub is_read : (bytes mid rest : List ℕ) (front : Value entry_front) (k : TxnKind) (body : Value (fields k)) (told : Option (Value digest))
    → reading entry_front (length bytes) bytes ≡ Ok (front, mid) → kind_at (number_of front) mid ≡ Some k
    → reading (fields k) (length bytes) mid ≡ Ok (body, rest) → digest_at (length bytes) rest ≡ Ok told
    → entry_at bytes ≡ Ok (made_entry front k body told)
unfolding entry_at
is_read bytes mid rest front k body told whole known behind last =
    ap (with_front (length bytes)) whole ∙ ap (λ (found : Option TxnKind). with_kind (length bytes) front found mid) known
    ∙ ap (with_body (length bytes) front k) behind ∙ ap (with_digest front k body) last

pub front_fails : (bytes : List ℕ) (fault : TakeError) → (fault ≢ Memory → reading entry_front (length bytes) bytes ≡ Err fault)
    → Unread fault ≢ Unread Memory → entry_at bytes ≡ Err (Unread fault)
unfolding entry_at
front_fails bytes fault fails other = ap (with_front (length bytes)) (fails (λ (e : fault ≡ Memory). other (ap Unread e)))

pub is_unknown : (bytes mid : List ℕ) (front : Value entry_front) → reading entry_front (length bytes) bytes ≡ Ok (front, mid)
    → kind_at (number_of front) mid ≡ None → entry_at bytes ≡ Err (Unknown (number_of front))
unfolding entry_at
is_unknown bytes mid front whole unknown =
    ap (with_front (length bytes)) whole ∙ ap (λ (found : Option TxnKind). with_kind (length bytes) front found mid) unknown

pub body_fails : (bytes mid : List ℕ) (front : Value entry_front) (k : TxnKind) (fault : TakeError)
    → reading entry_front (length bytes) bytes ≡ Ok (front, mid) → kind_at (number_of front) mid ≡ Some k
    → (fault ≢ Memory → reading (fields k) (length bytes) mid ≡ Err fault) → Unread fault ≢ Unread Memory
    → entry_at bytes ≡ Err (Unread fault)
unfolding entry_at
body_fails bytes mid front k fault whole known fails other =
    ap (with_front (length bytes)) whole ∙ ap (λ (found : Option TxnKind). with_kind (length bytes) front found mid) known
    ∙ ap (with_body (length bytes) front k) (fails (λ (e : fault ≡ Memory). other (ap Unread e)))

pub digest_fails : (bytes mid rest : List ℕ) (front : Value entry_front) (k : TxnKind) (body : Value (fields k)) (fault : EntryFault)
    → reading entry_front (length bytes) bytes ≡ Ok (front, mid) → kind_at (number_of front) mid ≡ Some k
    → reading (fields k) (length bytes) mid ≡ Ok (body, rest)
    → (fault ≢ Unread Memory → digest_at (length bytes) rest ≡ Err fault) → fault ≢ Unread Memory
    → entry_at bytes ≡ Err fault
unfolding entry_at
digest_fails bytes mid rest front k body fault whole known behind fails other =
    ap (with_front (length bytes)) whole ∙ ap (λ (found : Option TxnKind). with_kind (length bytes) front found mid) known
    ∙ ap (with_body (length bytes) front k) behind ∙ ap (with_digest front k body) (fails other)

-- the numbers of a header fit
pub front_fits : (end : ℕ) (bytes : List ℕ) (found : Value entry_front × List ℕ)
    → IsBytes bytes → reading entry_front end bytes ≡ Ok found → Fits entry_front found.0
front_fits end bytes found fits e = ((reads entry_front end).takes bytes found fits e).1

-- ---- what is spelled so is read

empty_fails : (end : ℕ) (told : Value digest) → reading digest end [] ≡ Ok (told, []) → ⊥
unfolding int_at bytes_at
empty_fails end told e = cc

some_digest : (end : ℕ) (bytes : List ℕ) (told : Value digest) → reading digest end bytes ≡ Ok (told, [])
    → digest_at end bytes ≡ Ok (Some told)
unfolding digest_at
some_digest end [] told e = absurd (empty_fails end told e)
some_digest end (byte ∷ bytes) told e = ap (whole_digest end) e

digest_again : (end : ℕ) (told : Option (Value digest)) → DigestFits told → digest_at end (digest_bytes told) ≡ Ok told
unfolding digest_at
digest_again end None fits = refl
digest_again end (Some told) fits =
    some_digest end (spelling digest told) told (ap (reading digest end) (sym (append-nil (spelling digest told)))
    ∙ (reads digest end).again told [] fits)

pub entry_again : (bytes : List ℕ) (entry : Logged) → EntryFits entry → bytes ≡ entry_bytes entry → entry_at bytes ≡ Ok entry
entry_again bytes entry fits e =
    let end : ℕ = length bytes in
    let mid : List ℕ = behind_front entry in
    let whole : reading entry_front end bytes ≡ Ok (front_of entry, mid) =
    ap (reading entry_front end) e ∙ (reads entry_front end).again (front_of entry) mid fits.front in
    is_read bytes mid (digest_bytes entry.digest) (front_of entry) entry.kind entry.body entry.digest whole fits.kind
    ((reads (fields entry.kind) end).again entry.body (digest_bytes entry.digest) fits.body) (digest_again end entry.digest fits.digest)

-- ---- what is read is spelled so

abbrev fine : {A : Type 0} → A → Result A EntryFault
fine x = Ok x

pub fine_is : {A : Type 0} (x y : A) → fine x ≡ fine y → x ≡ y
fine_is x y e = cc

abbrev IsDigest : List ℕ → Option (Value digest) → Type 0
IsDigest bytes told = (bytes ≡ digest_bytes told) × DigestFits told

whole_takes : (end : ℕ) (bytes : List ℕ) (read : Result (Value digest × List ℕ) TakeError) (told : Option (Value digest)) → IsBytes bytes
    → reading digest end bytes ≡ read → whole_digest end read ≡ Ok told → IsDigest bytes told
whole_takes end bytes (Ok (d, [])) told fits is e =
    let t = (reads digest end).takes bytes (d, []) fits is in
    subst (IsDigest bytes) (fine_is (Some d) told e) (t.0.parts ∙ append-nil (spelling digest d), t.1)
whole_takes end bytes (Ok (d, b ∷ bs)) told fits is e = absurd cc
whole_takes end bytes (Err fault) told fits is e = absurd cc

digest_takes : (end : ℕ) (bytes : List ℕ) (told : Option (Value digest)) → IsBytes bytes → digest_at end bytes ≡ Ok told
    → IsDigest bytes told
unfolding digest_at
digest_takes end [] told fits e = subst (IsDigest []) (fine_is None told e) (refl, tt)
digest_takes end (byte ∷ bytes) told fits e = whole_takes end (byte ∷ bytes) (reading digest end (byte ∷ bytes)) told fits refl e

abbrev pub IsEntry : List ℕ → Logged → Type 0
IsEntry bytes entry = EntryFits entry × (bytes ≡ entry_bytes entry)

-- an entry of these parts
made_is : (bytes mid rest : List ℕ) (front : Value entry_front) (k : TxnKind) (body : Value (fields k)) (told : Option (Value digest))
    → Takes bytes (spelling entry_front front) mid → Fits entry_front front → kind_at (number_of front) mid ≡ Some k
    → Takes mid (spelling (fields k) body) rest → Fits (fields k) body → IsDigest rest told → IsEntry bytes (made_entry front k body told)
made_is bytes mid rest front k body told front_taken front_fits known taken fits is =
    let made : Logged = made_entry front k body told in
    let number : number_of front ≡ kind_number k = numbered_is (number_of front) mid k known in
    let same : front ≡ front_of made =
    ap (λ (n : ℤ). (front.0, (front.1.0, (front.1.1.0, (front.1.1.1.0, n))))) number in
    let mid_is : mid ≡ behind_front made = taken.parts ∙ ap (λ (x : List ℕ). spelling (fields k) body ++ x) is.0 in (
      record {
        front = subst (Fits entry_front) same front_fits;
        body = fits;
        digest = is.1;
        kind = ap (kind_at (kind_number k)) (sym mid_is) ∙ ap (λ (n : ℤ). kind_at n mid) (sym number) ∙ known;
      },
      front_taken.parts ∙ ap (λ (x : List ℕ). spelling entry_front front ++ x) mid_is
          ∙ ap (λ (f : Value entry_front). spelling entry_front f ++ behind_front made) same,
    )

with_digest_takes : (bytes mid rest : List ℕ) (end : ℕ) (front : Value entry_front) (k : TxnKind) (body : Value (fields k))
    (read : Result (Option (Value digest)) EntryFault) (entry : Logged)
    → Takes bytes (spelling entry_front front) mid → Fits entry_front front → kind_at (number_of front) mid ≡ Some k
    → Takes mid (spelling (fields k) body) rest → Fits (fields k) body → digest_at end rest ≡ read
    → with_digest front k body read ≡ Ok entry
    → IsEntry bytes entry
with_digest_takes bytes mid rest end front k body (Ok told) entry front_taken front_fits known taken fits is e =
    subst (IsEntry bytes) (fine_is (made_entry front k body told) entry e)
    (made_is bytes mid rest front k body told front_taken front_fits known taken fits (digest_takes end rest told taken.rest_fits is))
with_digest_takes bytes mid rest end front k body (Err fault) entry front_taken front_fits known taken fits is e = absurd cc

with_body_takes : (bytes mid : List ℕ) (end : ℕ) (front : Value entry_front) (k : TxnKind)
    (read : Result (Value (fields k) × List ℕ) TakeError) (entry : Logged)
    → Takes bytes (spelling entry_front front) mid → Fits entry_front front → kind_at (number_of front) mid ≡ Some k
    → reading (fields k) end mid ≡ read → with_body end front k read ≡ Ok entry → IsEntry bytes entry
with_body_takes bytes mid end front k (Ok b) entry front_taken front_fits known is e =
    let t = (reads (fields k) end).takes mid b front_taken.rest_fits is in
    with_digest_takes bytes mid b.1 end front k b.0 (digest_at end b.1) entry front_taken front_fits known t.0 t.1 refl e
with_body_takes bytes mid end front k (Err fault) entry front_taken front_fits known is e = absurd cc

with_kind_takes : (bytes mid : List ℕ) (end : ℕ) (front : Value entry_front) (known : Option TxnKind) (entry : Logged)
    → Takes bytes (spelling entry_front front) mid → Fits entry_front front → kind_at (number_of front) mid ≡ known
    → with_kind end front known mid ≡ Ok entry → IsEntry bytes entry
with_kind_takes bytes mid end front (Some k) entry front_taken front_fits is e =
    with_body_takes bytes mid end front k (reading (fields k) end mid) entry front_taken front_fits is refl e
with_kind_takes bytes mid end front None entry front_taken front_fits is e = absurd cc

with_front_takes : (bytes : List ℕ) (end : ℕ) (read : Result (Value entry_front × List ℕ) TakeError) (entry : Logged)
    → IsBytes bytes → reading entry_front end bytes ≡ read → with_front end read ≡ Ok entry → IsEntry bytes entry
with_front_takes bytes end (Ok f) entry fits is e =
    let t = (reads entry_front end).takes bytes f fits is in
    with_kind_takes bytes f.1 end f.0 (kind_at (number_of f.0) f.1) entry t.0 t.1 refl e
with_front_takes bytes end (Err fault) entry fits is e = absurd cc

pub entry_takes : (bytes : List ℕ) (entry : Logged) → IsBytes bytes → entry_at bytes ≡ Ok entry → IsEntry bytes entry
unfolding entry_at
entry_takes bytes entry fits e = with_front_takes bytes (length bytes) (reading entry_front (length bytes) bytes) entry fits refl e

-- ---- one reading

-- an entry is read in one way, and a call that fails, where reading does not, fails for memory
pub is_memory : (read : Result Logged EntryFault) (found : Logged) (fault : EntryFault)
    → (fault ≢ Unread Memory → read ≡ Err fault) → read ≡ Ok found → fault ≡ Unread Memory
is_memory read found (Unknown n) fails given = let e = fails (λ h. cc) in absurd (cc (e, given))
is_memory read found (Trailing n) fails given = let e = fails (λ h. cc) in absurd (cc (e, given))
is_memory read found (Unread (Short place)) fails given = let e = fails (λ h. cc) in absurd (cc (e, given))
is_memory read found (Unread (BadLength place)) fails given = let e = fails (λ h. cc) in absurd (cc (e, given))
is_memory read found (Unread (BadBool place)) fails given = let e = fails (λ h. cc) in absurd (cc (e, given))
is_memory read found (Unread (NotUtf8 place)) fails given = let e = fails (λ h. cc) in absurd (cc (e, given))
is_memory read found (Unread Memory) fails given = refl

-- ---- what a call gives

-- What a call returned, seen by view, is what reading gives, unless memory ran out.
abbrev pub GivesEntry : {T : Type 0} → (T → Logged) → List ℕ → Result T EntryFault → Type 0
GivesEntry view bytes result =
    MatchResult result (λ x. entry_at bytes ≡ Ok (view x)) (λ e. e ≢ Unread Memory → entry_at bytes ≡ Err e)

pub found_of : {T : Type 0} (view : T → Logged) (bytes : List ℕ) (result : Result T EntryFault) → IsBytes bytes
    → GivesEntry view bytes result → IfOk result (λ x. EntryFits (view x) × (bytes ≡ entry_bytes (view x)))
found_of view bytes (Ok x) fits gives = entry_takes bytes (view x) fits gives
found_of view bytes (Err e) fits gives = tt

pub only_of : {T : Type 0} (view : T → Logged) (bytes : List ℕ) (result : Result T EntryFault) (entry : Logged)
    → EntryFits entry → bytes ≡ entry_bytes entry → GivesEntry view bytes result
    → MatchResult result (λ x. view x ≡ entry) (λ e. e ≡ Unread Memory)
only_of view bytes (Ok x) entry fits e gives = fine_is (view x) entry (sym gives ∙ entry_again bytes entry fits e)
only_of view bytes (Err fault) entry fits e gives = is_memory (entry_at bytes) entry fault gives (entry_again bytes entry fits e)

abbrev bad : EntryFault → Result Logged EntryFault
bad fault = Err fault

abbrev pub some_kind : TxnKind → Option TxnKind
some_kind k = Some k

-- the same bytes, of a payload of the same length
pub same_reading : (layout : Layout) (a b : ℕ) (x y : List ℕ) (r : Result (Value layout × List ℕ) TakeError) → a ≡ b → x ≡ y
    → reading layout a x ≡ r → reading layout b y ≡ r
same_reading layout a b x y r e f h =
    subst (λ (n : ℕ). reading layout n y ≡ r) e (subst (λ (s : List ℕ). reading layout a s ≡ r) f h)

-- what is known of the kind of an entry
same_kind : (number : ℤ) (front : Value entry_front) (behind mid : List ℕ) (at : Option TxnKind) (found : Option TxnKind)
    → number ≡ number_of front → behind ≡ mid → at ≡ kind_at number behind → at ≡ found → kind_at (number_of front) mid ≡ found
same_kind number front behind mid at found e f h is =
    subst (λ (z : ℤ). kind_at z mid ≡ found) e (subst (λ (x : List ℕ). kind_at number x ≡ found) f (sym h ∙ is))

-- a fault that is handed on is that of the whole
handed : {T : Type 0} (view : T → Logged) (bytes : List ℕ) (result : Result T EntryFault) (fault : EntryFault)
    → IsErrAnd result (λ e. e ≡ fault) → (fault ≢ Unread Memory → entry_at bytes ≡ Err fault) → GivesEntry view bytes result
handed view bytes result fault is fails = let p = err_from_is_err_and result is in rw (p.1, p.2) fails

-- a header that cannot be read
pub front_fails_of : {T : Type 0} (view : T → Logged) (bytes start : List ℕ) (end : ℕ) (result : Result T EntryFault) (fault : TakeError)
    → IsErrAnd result (λ e. e ≡ Unread fault) → end ≡ length bytes → start ≡ bytes
    → (fault ≢ Memory → reading entry_front end start ≡ Err fault) → GivesEntry view bytes result
front_fails_of view bytes start end result fault is e f fails =
    handed view bytes result (Unread fault) is
    (front_fails bytes fault (λ h. same_reading entry_front end (length bytes) start bytes (Err fault) e f (fails h)))

-- a number that is no operation's
pub unknown_of : (bytes start mid behind : List ℕ) (end : ℕ) (front : Value entry_front) (number : ℤ) (at : Option TxnKind)
    → end ≡ length bytes → start ≡ bytes → reading entry_front end start ≡ Ok (front, mid) → number ≡ number_of front → behind ≡ mid
    → at ≡ kind_at number behind → at ≡ None → entry_at bytes ≡ Err (Unknown number)
unknown_of bytes start mid behind end front number at e f whole same there h is =
    is_unknown bytes mid front (same_reading entry_front end (length bytes) start bytes (Ok (front, mid)) e f whole)
    (same_kind number front behind mid at None same there h is)
    ∙ ap (λ (z : ℤ). bad (Unknown z)) (sym same)

-- fields that cannot be read
pub body_fails_of : {T : Type 0} (view : T → Logged) (bytes start mid behind : List ℕ) (end after : ℕ) (front : Value entry_front)
    (number : ℤ) (at : Option TxnKind) (k : TxnKind) (result : Result T EntryFault) (fault : TakeError)
    → IsErrAnd result (λ e. e ≡ Unread fault) → end ≡ length bytes → start ≡ bytes
    → reading entry_front end start ≡ Ok (front, mid) → number ≡ number_of front → behind ≡ mid → at ≡ kind_at number behind → at ≡ Some k
    → after ≡ end → (fault ≢ Memory → reading (fields k) after mid ≡ Err fault) → GivesEntry view bytes result
body_fails_of view bytes start mid behind end after front number at k result fault is e f whole same there h known g fails =
    handed view bytes result (Unread fault) is
    (body_fails bytes mid front k fault (same_reading entry_front end (length bytes) start bytes (Ok (front, mid)) e f whole)
    (same_kind number front behind mid at (Some k) same there h known)
    (λ m. same_reading (fields k) after (length bytes) mid mid (Err fault) (g ∙ e) refl (fails m)))

abbrev DigestGives : {D : Type 0} → (D → Option (Value digest)) → List ℕ → List ℕ → Result D EntryFault → Type 0
DigestGives view bytes rest told =
    MatchResult told (λ d. digest_at (length bytes) rest ≡ Ok (view d)) (λ e. e ≢ Unread Memory → digest_at (length bytes) rest ≡ Err e)

-- The digest makes the entry whole, or is the fault of it.
whole_by : {T D : Type 0} (view : T → Logged) (told_by : T → D) (told_view : D → Option (Value digest)) (bytes mid rest : List ℕ)
    (front : Value entry_front) (k : TxnKind) (body : Value (fields k)) (told : Result D EntryFault) (result : Result T EntryFault)
    → reading entry_front (length bytes) bytes ≡ Ok (front, mid) → kind_at (number_of front) mid ≡ Some k
    → reading (fields k) (length bytes) mid ≡ Ok (body, rest) → DigestGives told_view bytes rest told
    → IfOk result (λ x. (told ≡ Ok (told_by x)) × (view x ≡ made_entry front k body (told_view (told_by x))))
    → IfErr result (λ e. told ≡ Err e) → GivesEntry view bytes result
whole_by view told_by told_view bytes mid rest front k body told (Ok x) whole known behind last ok err =
    let at_end = subst (DigestGives told_view bytes rest) ok.0 last in
    is_read bytes mid rest front k body (told_view (told_by x)) whole known behind at_end ∙ ap fine (sym ok.1)
whole_by view told_by told_view bytes mid rest front k body told (Err e) whole known behind last ok err =
    digest_fails bytes mid rest front k body e whole known behind (subst (DigestGives told_view bytes rest) err last)

pub whole_of : {T D : Type 0} (view : T → Logged) (told_by : T → D) (told_view : D → Option (Value digest))
    (bytes start mid behind rest : List ℕ) (end after last : ℕ) (front : Value entry_front) (number : ℤ) (at : Option TxnKind)
    (kind k : TxnKind) (body : Value (fields k)) (told : Result D EntryFault) (result : Result T EntryFault)
    → end ≡ length bytes → start ≡ bytes → reading entry_front end start ≡ Ok (front, mid) → number ≡ number_of front → behind ≡ mid
    → at ≡ kind_at number behind → at ≡ Some kind → k ≡ kind → after ≡ end → reading (fields k) after mid ≡ Ok (body, rest) → last ≡ after
    → MatchResult told (λ d. digest_at last rest ≡ Ok (told_view d)) (λ e. e ≢ Unread Memory → digest_at last rest ≡ Err e)
    → IfOk result (λ x. (told ≡ Ok (told_by x)) × (view x ≡ made_entry front k body (told_view (told_by x))))
    → IfErr result (λ e. told ≡ Err e) → GivesEntry view bytes result
whole_of view told_by told_view bytes start mid behind rest end after last front number at kind k body told result e f whole same there h
    known is g fields_read l told_gives ok err =
    whole_by view told_by told_view bytes mid rest front k body told result
    (same_reading entry_front end (length bytes) start bytes (Ok (front, mid)) e f whole)
    (same_kind number front behind mid at (Some k) same there h (known ∙ ap (λ (x : TxnKind). some_kind x) (sym is)))
    (same_reading (fields k) after (length bytes) mid mid (Ok (body, rest)) (g ∙ e) refl fields_read)
    (subst (λ (n : ℕ). MatchResult told (λ d. digest_at n rest ≡ Ok (told_view d)) (λ x. x ≢ Unread Memory → digest_at n rest ≡ Err x))
    (l ∙ g ∙ e) told_gives) ok err
