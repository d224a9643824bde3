-- What is read of a reply is spelled so, and what is spelled so is read, whatever layout stands after the header.
use Rattle.std.proofs.Common.{◌≡◌, ℕ, zero, suc, ℤ, pos, negsuc, List, ◌++◌, Option, Some, None, Result, Ok, refl, sym, ap, subst, ◌∙◌}
use Rattle.std.proofs.Common.{append_assoc}
use Rattle.zk_jute.specs.declared.fault.TakeError.{TakeError}
use Rattle.zk_jute.specs.Layout.{Layout, Value}
use Rattle.zk_jute.specs.Spelling.{IsBytes, spelling}
use Rattle.zk_jute.specs.Reading.{◌>>=◌, reading}
use Rattle.zk_jute.specs.inner.Laws.{Reads, Takes, reads, bind_ok, ok_is}
use Rattle.zk_records.specs.Layouts.{reply_header}
use Rattle.zk_records.specs.Reply.{ReplyValue, result_spelling, reply_spelling, ResultFits, ReplyFits, result_at, reply_at}

result_takes : (layout : Layout) (err : ℤ) (end : ℕ) (bytes : List ℕ) (found : Option (Value layout) × List ℕ)
    → IsBytes bytes → result_at layout err end bytes ≡ Ok found
    → Takes bytes (result_spelling layout found.0) found.1 × ResultFits layout err found.0
unfolding result_at
result_takes layout (pos zero) end bytes found fits e =
    let a = bind_ok (reading layout end bytes) (λ value. Ok (Some value.0, value.1)) found e in
    let t = (reads layout end).takes bytes a.0 fits a.1 in
    subst (λ (p : Option (Value layout) × List ℕ). Takes bytes (result_spelling layout p.0) p.1 × ResultFits layout (pos zero) p.0)
    (ok_is (Some a.0.0, a.0.1) found a.2) t
result_takes layout (pos (suc n)) end bytes found fits e =
    subst (λ (p : Option (Value layout) × List ℕ). Takes bytes (result_spelling layout p.0) p.1 × ResultFits layout (pos (suc n)) p.0)
    (ok_is (None, bytes) found e) (record { parts = refl; rest_fits = fits }, tt)
result_takes layout (negsuc n) end bytes found fits e =
    subst (λ (p : Option (Value layout) × List ℕ). Takes bytes (result_spelling layout p.0) p.1 × ResultFits layout (negsuc n) p.0)
    (ok_is (None, bytes) found e) (record { parts = refl; rest_fits = fits }, tt)

result_again : (layout : Layout) (err : ℤ) (end : ℕ) (value : Option (Value layout)) (rest : List ℕ)
    → ResultFits layout err value → result_at layout err end (result_spelling layout value ++ rest) ≡ Ok (value, rest)
unfolding result_at
result_again layout (pos zero) end (Some value) rest good = ap
    (λ (r : Result (Value layout × List ℕ) TakeError). r >>= λ found. Ok (Some found.0, found.1)) ((reads layout end).again value rest good)
result_again layout (pos zero) end None rest good = absurd good
result_again layout (pos (suc n)) end (Some value) rest good = absurd good
result_again layout (pos (suc n)) end None rest good = refl
result_again layout (negsuc n) end (Some value) rest good = absurd good
result_again layout (negsuc n) end None rest good = refl

reply_takes : (layout : Layout) (end : ℕ) (bytes : List ℕ) (found : ReplyValue layout × List ℕ)
    → IsBytes bytes → reply_at layout end bytes ≡ Ok found
    → Takes bytes (reply_spelling layout found.0) found.1 × ReplyFits layout found.0
unfolding reply_at
reply_takes layout end bytes found fits e =
    let a = bind_ok (reading reply_header end bytes)
    (λ header. result_at layout header.0.1.1 end header.1 >>= λ result. Ok ((header.0, result.0), result.1)) found e in
    let b = bind_ok (result_at layout a.0.0.1.1 end a.0.1) (λ result. Ok ((a.0.0, result.0), result.1)) found a.2 in
    let t = (reads reply_header end).takes bytes a.0 fits a.1 in
    let r = result_takes layout a.0.0.1.1 end a.0.1 b.0 t.0.rest_fits b.1 in
    let parts : bytes ≡ (spelling reply_header a.0.0 ++ result_spelling layout b.0.0) ++ b.0.1 =
    t.0.parts ∙ ap (λ (x : List ℕ). spelling reply_header a.0.0 ++ x) r.0.parts
    ∙ sym (append_assoc (spelling reply_header a.0.0) (result_spelling layout b.0.0) b.0.1) in
    let made : ReplyValue layout × List ℕ = ((a.0.0, b.0.0), b.0.1) in
    subst (λ (p : ReplyValue layout × List ℕ). Takes bytes (reply_spelling layout p.0) p.1 × ReplyFits layout p.0) (ok_is made found b.2)
    (record { parts = parts; rest_fits = r.0.rest_fits }, (t.1, r.1))

reply_again : (layout : Layout) (end : ℕ) (r : ReplyValue layout) (rest : List ℕ)
    → ReplyFits layout r → reply_at layout end (reply_spelling layout r ++ rest) ≡ Ok (r, rest)
unfolding reply_at
reply_again layout end r rest good =
    ap (λ bytes. reading reply_header end bytes >>= λ header. result_at layout header.0.1.1 end header.1
    >>= λ result. Ok ((header.0, result.0), result.1)) (append_assoc (spelling reply_header r.0) (result_spelling layout r.1) rest)
    ∙ ap (λ (x : Result (Value reply_header × List ℕ) TakeError). x >>= λ header. result_at layout header.0.1.1 end header.1
    >>= λ result. Ok ((header.0, result.0), result.1)) ((reads reply_header end).again r.0 (result_spelling layout r.1 ++ rest) good.0)
    ∙ ap (λ (x : Result (Option (Value layout) × List ℕ) TakeError). x >>= λ result. Ok ((r.0, result.0), result.1))
    (result_again layout r.0.1.1 end r.1 rest good.1)

-- each reply is read as it is spelled
pub reply_reads : (layout : Layout) (end : ℕ) → Reads (reply_spelling layout) (ReplyFits layout) (reply_at layout end)
reply_reads layout end = record {
  takes = λ bytes found fits e. reply_takes layout end bytes found fits e;
  again = λ value rest good. reply_again layout end value rest good;
}
