-- What is read of a whole payload is spelled so, and what is spelled so is read.
use Rattle.std.proofs.Common.{◌≡◌, ℕ, Bool, List, [], ◌∷◌, ◌++◌, true, false, Option, Some, None, Result, Ok, refl, sym, ap, subst, ◌∙◌}
use Rattle.std.proofs.Common.{append_assoc}
use Rattle.zk_jute.specs.declared.fault.TakeError.{TakeError}
use Rattle.zk_jute.specs.Layout.{boolean, Value}
use Rattle.zk_jute.specs.Spelling.{IsBytes, spelling}
use Rattle.zk_jute.specs.Reading.{◌>>=◌, reading}
use Rattle.zk_jute.specs.inner.Laws.{reads, bind_ok, ok_is}
use Rattle.zk_records.specs.Layouts.{connect_response_front}
use Rattle.zk_records.specs.Response.{Response, flag_spelling, EndsPayload, IsPayload, flag_at, response_at}

record IsFlag (bytes : List ℕ) (flag : Option Bool) (ignored : List ℕ) : Type 0 where
  whole : bytes ≡ flag_spelling flag ++ ignored
  ends : EndsPayload flag ignored

flag_takes : (end : ℕ) (bytes : List ℕ) (found : Option Bool × List ℕ)
    → IsBytes bytes → flag_at end bytes ≡ Ok found → IsFlag bytes found.0 found.1
unfolding flag_at
flag_takes end [] found fits e =
    subst (λ (p : Option Bool × List ℕ). IsFlag [] p.0 p.1) (ok_is (None, []) found e) (record { whole = refl; ends = refl })
flag_takes end (byte ∷ bytes) found fits e =
    let a = bind_ok (reading boolean end (byte ∷ bytes)) (λ flag. Ok (Some flag.0, flag.1)) found e in
    let t = (reads boolean end).takes (byte ∷ bytes) a.0 fits a.1 in
    subst (λ (p : Option Bool × List ℕ). IsFlag (byte ∷ bytes) p.0 p.1) (ok_is (Some a.0.0, a.0.1) found a.2)
    (record { whole = t.0.parts; ends = tt })

flag_again : (end : ℕ) (flag : Option Bool) (ignored : List ℕ)
    → EndsPayload flag ignored → flag_at end (flag_spelling flag ++ ignored) ≡ Ok (flag, ignored)
unfolding flag_at
flag_again end None ignored ends = ap (flag_at end) ends ∙ ap (λ (bytes : List ℕ). Ok (None, bytes)) (sym ends)
flag_again end (Some false) ignored ends = ap (λ r. r >>= λ flag. Ok (Some flag.0, flag.1)) ((reads boolean end).again false ignored tt)
flag_again end (Some true) ignored ends = ap (λ r. r >>= λ flag. Ok (Some flag.0, flag.1)) ((reads boolean end).again true ignored tt)

pub response_takes : (end : ℕ) (bytes : List ℕ) (found : Response × List ℕ)
    → IsBytes bytes → response_at end bytes ≡ Ok found → IsPayload bytes found.0 found.1
unfolding response_at
response_takes end bytes found fits e =
    let a = bind_ok (reading connect_response_front end bytes)
    (λ front. flag_at end front.1 >>= λ flag. Ok (record { front = front.0; read_only = flag.0 }, flag.1)) found e in
    let b = bind_ok (flag_at end a.0.1) (λ flag. Ok (record { front = a.0.0; read_only = flag.0 }, flag.1)) found a.2 in
    let t = (reads connect_response_front end).takes bytes a.0 fits a.1 in
    let f = flag_takes end a.0.1 b.0 t.0.rest_fits b.1 in
    let whole : bytes ≡ (spelling connect_response_front a.0.0 ++ flag_spelling b.0.0) ++ b.0.1 =
    t.0.parts ∙ ap (λ (x : List ℕ). spelling connect_response_front a.0.0 ++ x) f.whole
    ∙ sym (append_assoc (spelling connect_response_front a.0.0) (flag_spelling b.0.0) b.0.1) in
    let made : Response × List ℕ = (record { front = a.0.0; read_only = b.0.0 }, b.0.1) in
    subst (λ (p : Response × List ℕ). IsPayload bytes p.0 p.1) (ok_is made found b.2) (record { fits = t.1; whole = whole; ends = f.ends })

pub response_again : (end : ℕ) (bytes : List ℕ) (r : Response) (ignored : List ℕ)
    → IsPayload bytes r ignored → response_at end bytes ≡ Ok (r, ignored)
unfolding response_at
response_again end bytes r ignored payload =
    let regrouped = payload.whole ∙ append_assoc (spelling connect_response_front r.front) (flag_spelling r.read_only) ignored in
    ap (response_at end) regrouped
    ∙ ap (λ (x : Result (Value connect_response_front × List ℕ) TakeError). x >>= λ front. flag_at end front.1
    >>= λ flag. Ok (record { front = front.0; read_only = flag.0 }, flag.1))
    ((reads connect_response_front end).again r.front (flag_spelling r.read_only ++ ignored) payload.fits)
    ∙ ap (λ (x : Result (Option Bool × List ℕ) TakeError). x >>= λ flag. Ok (record { front = r.front; read_only = flag.0 }, flag.1))
    (flag_again end r.read_only ignored payload.ends)

-- no payload spells two responses
pub one_response : (bytes : List ℕ) (a b : Response) (x y : List ℕ) → IsPayload bytes a x → IsPayload bytes b y → (a ≡ b) × (x ≡ y)
one_response bytes a b x y first second =
    let pairs : (a, x) ≡ (b, y) = ok_is (a, x) (b, y) (sym (response_again 0 bytes a x first) ∙ response_again 0 bytes b y second) in
    (ap (λ (p : Response × List ℕ). p.0) pairs, ap (λ (p : Response × List ℕ). p.1) pairs)
