-- A stream of frames is cut in one way: the first length tells where the first frame ends, and then the rest is a stream again.
use Rattle.std.proofs.Common.{◌≡◌, ℕ, ◌+◌, ◌^◌, ◌≤◌, ◌<◌, List, [], ◌∷◌, ◌++◌, drop, length, refl, sym, ap, subst, ◌∙◌, append-nil, arith}
use Rattle.std.specs.Prelude.{map}
use Rattle.std.specs.List.{flat_map}
use Rattle.std.proofs.lemmas.List.{append_assoc, length-append}
use Rattle.zk_frames.specs.Frame.{frame, joined, length_field}
use Rattle.zk_turns.proofs.Pieces.{same_field, length-frame, drop-frame}
use Rattle.zk_turns.specs.Turns.{Start, Item}
use Rattle.zk_turns.specs.View.{View}
use Rattle.zk_turns.specs.Rule.{Stands, IsOpen}
use Rattle.zk_turns.specs.Taken.{past_of}
use Rattle.zk_laws.specs.Served.{Sent, requests}
use Rattle.zk_laws.specs.Parsed.{AreTold, IsCutInto, stream_of, payloads_of}
use Rattle.zk_laws.proofs.Framed.{field_of, split_at}
use Rattle.zk_laws.proofs.Headlines.{sends_are}

-- what begins with a frame begins with that one alone
frame_first : (p q x y : List ℕ) → length p < 2 ^ 31 → length q < 2 ^ 31 → frame p ++ x ≡ frame q ++ y → (p ≡ q) × (x ≡ y)
frame_first p q x y lp lq e =
    let np = length-frame p in
    let nq = length-frame q in
    let field : length_field (frame p ++ x) ≡ length_field (frame q ++ y) = ap length_field e in
    let a = same_field (frame p) x (omega arith) in
    let b = same_field (frame q) y (omega arith) in
    let c = field_of p lp in
    let d = field_of q lq in
    let s = split_at (frame p) x (frame q) y e (omega arith) in
    (sym (drop-frame p) ∙ ap (λ l. drop 4 l) s.0 ∙ drop-frame q, s.1)

-- Frames that begin a stream of frames are its first ones.
begin_alike : (ps qs : List (List ℕ)) (rest : List ℕ)
    → AreTold ps → AreTold qs → joined ps ++ rest ≡ joined qs → (more : List (List ℕ)) × (qs ≡ ps ++ more) × (rest ≡ joined more)
begin_alike [] qs rest a b e = (qs, refl, e)
begin_alike (p ∷ ps) [] rest a b e =
    let n = length-frame p in
    let l : length ((frame p ++ joined ps) ++ rest) ≡ 0 = ap length e in
    absurd (omega arith)
begin_alike (p ∷ ps) (q ∷ qs) rest a b e =
    let r = frame_first p q (joined ps ++ rest) (joined qs) a.0 b.0 (sym (append_assoc (frame p) (joined ps) rest) ∙ e) in
    let t = begin_alike ps qs rest a.1 b.1 r.1 in
    (t.0, (λ i. sym r.0 i ∷ t.1 i), t.2)

-- less than a whole frame begins no stream of frames but the empty one
nothing_more : (more : List (List ℕ)) (rest : List ℕ) → AreTold more → (4 ≤ length rest → length rest < 4 + length_field rest)
    → rest ≡ joined more → more ≡ []
nothing_more [] rest a short e = refl
nothing_more (p ∷ more) rest a short e =
    let n = length-frame p in
    let l : length rest ≡ length (frame p ++ joined more) = ap length e in
    let m = length-append (frame p) (joined more) in
    let f : length_field rest ≡ length_field (frame p ++ joined more) = ap length_field e in
    let g = same_field (frame p) (joined more) (omega arith) in
    let h = field_of p a.0 in
    let s = short (omega arith) in
    absurd (omega arith)

told_after : (ps qs more : List (List ℕ)) → qs ≡ ps ++ more → AreTold qs → AreTold more
told_after [] qs more e a = subst AreTold e a
told_after (p ∷ ps) [] more e a = absurd cc
told_after (p ∷ ps) (q ∷ qs) more e a = let t : qs ≡ ps ++ more = cc in told_after ps qs more t a.1

stream_joined : (sent : List Sent) → flat_map (λ bytes. bytes) (map (λ s. frame s.payload) sent) ≡ joined (map (λ s. s.payload) sent)
stream_joined [] = refl
stream_joined (s ∷ sent) = ap (λ l. frame s.payload ++ l) (stream_joined sent)

stream_is : (start : Start) (items : List Item) (view : View)
    → Stands start items view → IsOpen view.standing.state → stream_of items ≡ joined (payloads_of start items)
stream_is start items view s up =
    ap (flat_map (λ bytes. bytes)) (sends_are start items view s up) ∙ stream_joined (requests start (past_of start items))

-- A server that cuts a beginning of the bytes sent finds the payloads of the first requests.
pub beginning_found : (start : Start) (items : List Item) (view : View) (found : List (List ℕ)) (rest : List ℕ)
    → Stands start items view → IsOpen view.standing.state
    → AreTold (payloads_of start items) → AreTold found → joined found ++ rest ≡ stream_of items
    → (more : List (List ℕ)) × (payloads_of start items ≡ found ++ more) × (rest ≡ joined more)
beginning_found start items view found rest s up a b e =
    begin_alike found (payloads_of start items) rest b a (e ∙ stream_is start items view s up)

-- And where it has them all it finds each of them, and nothing else.
pub all_found : (start : Start) (items : List Item) (view : View) (found : List (List ℕ)) (rest : List ℕ)
    → Stands start items view → IsOpen view.standing.state
    → AreTold (payloads_of start items) → IsCutInto found rest (stream_of items) → (found ≡ payloads_of start items) × (rest ≡ [])
all_found start items view found rest s up a c =
    let r = beginning_found start items view found rest s up a c.told (sym c.whole) in
    let m : r.0 ≡ [] = nothing_more r.0 rest (told_after found (payloads_of start items) r.0 r.1 a) c.short r.2 in
    (sym (append-nil found) ∙ ap (λ l. found ++ l) (sym m) ∙ sym r.1, r.2 ∙ ap joined m)
