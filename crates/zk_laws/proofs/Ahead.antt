-- The invariant: what a client will hold as it takes the messages in flight one by one.
use Rattle.std.proofs.Common.{ℕ, ◌≡◌, max, Bool, true, false, List, [], ◌∷◌, ◌++◌, refl, sym, ◌∙◌, subst, inl, inr, ◌⊎◌, arith, Option}
use Rattle.std.proofs.Common.{None, ap, if◌then◌else◌, map}
use Rattle.zk_nodes.specs.Path.{Text, text_of, path_of}
use Rattle.zk_nodes.specs.History.{History, tree_at, view}
use Rattle.zk_nodes.specs.declared.side.Side.{Side}
use Rattle.zk_laws.specs.Server.{Watches, Notice}
use Rattle.zk_turns.specs.Meaning.{Among}
use Rattle.zk_laws.specs.Messages.{Message, Replies, Notifies, Request}
use Rattle.zk_laws.proofs.Log.{Item, Took, zxid_in, last, good, kept_after, tells_of, Answer, Suits}
use Rattle.zk_laws.proofs.Steps.{is_behind}
use Rattle.zk_laws.proofs.Invariant.{IsRight, Ahead, IsSettled, IsSure}
use Rattle.zk_laws.proofs.Firing.{IsTold}

-- Taking and adding messages

pub ahead_right : (h : History) (side : Side) (path : Text) (ms : List Message) (log : List Item) (End : List Item → Type 0)
    → Ahead h side path ms log End → IsRight h side path log
ahead_right h side path [] log End a = a.0
ahead_right h side path (m ∷ ms) log End a = a.0

-- what the server sends is added at the end
pub ahead_more : (h : History) (side : Side) (path : Text) (ms new : List Message) (log : List Item) (End Next : List Item → Type 0)
    → Ahead h side path ms log End → ((l : List Item) → IsRight h side path l → End l → Ahead h side path new l Next)
    → Ahead h side path (ms ++ new) log Next
ahead_more h side path [] new log End Next a f = f log a.0 a.1
ahead_more h side path (m ∷ ms) new log End Next a f = (a.0, a.1, ahead_more h side path ms new (Took m ∷ log) End Next a.2 f)

pub ahead_map : (h : History) (side : Side) (path : Text) (ms : List Message) (log : List Item) (End Next : List Item → Type 0)
    → Ahead h side path ms log End → ((l : List Item) → End l → Next l) → Ahead h side path ms log Next
ahead_map h side path [] log End Next a f = (a.0, f log a.1)
ahead_map h side path (m ∷ ms) log End Next a f = (a.0, a.1, ahead_map h side path ms (Took m ∷ log) End Next a.2 f)

-- a log with the same last seen zxid, on which this path's answer is gone or the same
abbrev pub IsLess : Side → Text → List Item → List Item → Type 0
IsLess side path new old = (last new ≡ last old) × ((good side path new ≡ None) ⊎ (good side path new ≡ good side path old))

pub right_less : (h : History) (side : Side) (path : Text) (new old : List Item)
    → IsLess side path new old → IsRight h side path old → IsRight h side path new
right_less h side path new old less right answer e = go less.1
  where
    go : (good side path new ≡ None) ⊎ (good side path new ≡ good side path old)
        → Suits answer (view side (tree_at h (last new)) (path_of path)) × (text_of (path_of path) ≡ path)
    go (inl none) = absurd (cc (none, e))
    go (inr same) = let f = right answer (sym same ∙ e) in
        (subst (λ (z : ℕ). Suits answer (view side (tree_at h z) (path_of path))) (sym less.0) f.0, f.1)

pub max_zero : (n : ℕ) → max 0 n ≡ n
max_zero n = omega arith

-- the client's list once these notices are taken
abbrev pub told_log : List Notice → List Item → List Item
told_log [] log = log
told_log (n ∷ ns) log = told_log ns (Took (Notifies n) ∷ log)

good_notice : (side : Side) (path : Text) (n : Notice) (k : Option Answer)
    → (kept_after side path (Took (Notifies n)) k ≡ None) ⊎ (kept_after side path (Took (Notifies n)) k ≡ k)
good_notice side path n k = go (tells_of n side path)
  where
    go : (b : Bool) → ((if b then None else k) ≡ None) ⊎ ((if b then None else k) ≡ k)
    go true = inl refl
    go false = inr refl

pub less_trans : (side : Side) (path : Text) (a b c : List Item) → IsLess side path a b → IsLess side path b c → IsLess side path a c
less_trans side path a b c x y = (x.0 ∙ y.0, go x.1 y.1)
  where
    go : (good side path a ≡ None) ⊎ (good side path a ≡ good side path b) → (good side path b ≡ None)
        ⊎ (good side path b ≡ good side path c) → (good side path a ≡ None) ⊎ (good side path a ≡ good side path c)
    go (inl n) q = inl n
    go (inr e) (inl n) = inl (e ∙ n)
    go (inr e) (inr f) = inr (e ∙ f)

notice_less : (side : Side) (path : Text) (n : Notice) (log : List Item) → IsLess side path (Took (Notifies n) ∷ log) log
notice_less side path n log = (max_zero (last log), good_notice side path n (good side path log))

pub told_less : (side : Side) (path : Text) (ns : List Notice) (log : List Item) → IsLess side path (told_log ns log) log
told_less side path [] log = (refl, inr refl)
told_less side path (n ∷ ns) log = less_trans side path (told_log ns (Took (Notifies n) ∷ log)) (Took (Notifies n) ∷ log) log
    (told_less side path ns (Took (Notifies n) ∷ log)) (notice_less side path n log)

-- once None, None under notices
still_none : (side : Side) (path : Text) (ns : List Notice) (log : List Item)
    → good side path log ≡ None → good side path (told_log ns log) ≡ None
still_none side path ns log e = go (told_less side path ns log).1
  where
    go : (good side path (told_log ns log) ≡ None) ⊎ (good side path (told_log ns log) ≡ good side path log)
        → good side path (told_log ns log) ≡ None
    go (inl n) = n
    go (inr same) = same ∙ e

pub told_none : (side : Side) (path : Text) (ns : List Notice) (log : List Item)
    → IsTold ns side path → good side path (told_log ns log) ≡ None
told_none side path [] log t = absurd t.1
told_none side path (m ∷ ns) log t = go (λ more. told_none side path ns (Took (Notifies m) ∷ log) (t.0, more, t.2)) t.1
  where
    go : (Among t.0 ns → good side path (told_log (m ∷ ns) log) ≡ None)
        → (t.0 ≡ m) ⊎ Among t.0 ns → good side path (told_log (m ∷ ns) log) ≡ None
    go f (inl e) = let c : tells_of m side path ≡ true = subst (λ (n : Notice). tells_of n side path ≡ true) e t.2 in
        still_none side path ns (Took (Notifies m) ∷ log) (rw c refl)
    go f (inr more) = f more

pub notices_ahead : (h : History) (side : Side) (path : Text) (ns : List Notice) (rest : List Message) (log : List Item)
    (Next : List Item → Type 0)
    → IsRight h side path log → Ahead h side path rest (told_log ns log) Next → Ahead h side path (map Notifies ns ++ rest) log Next
notices_ahead h side path [] rest log Next right a = a
notices_ahead h side path (n ∷ ns) rest log Next right a = (
  right,
  refl,
  notices_ahead h side path ns rest (Took (Notifies n) ∷ log) Next
      (right_less h side path (Took (Notifies n) ∷ log) log (notice_less side path n log) right) a,
)

-- What is ahead depends on the last seen zxid and on what is good alone.
pub ahead_same : (h : History) (side : Side) (path : Text) (requests : List Request) (place : ℕ) (watches : Watches)
    (ms : List Message) (new old : List Item)
    → last new ≡ last old → good side path new ≡ good side path old
    → Ahead h side path ms old (IsSettled h side path requests place watches)
    → Ahead h side path ms new (IsSettled h side path requests place watches)
ahead_same h side path requests place watches [] new old l g a = (
  right_less h side path new old (l, inr g) a.0,
  (
    let low = a.1.0 in omega arith,
    subst (λ (z : ℕ). IsSure h side path requests place watches z (good side path new)) (sym l)
        (subst (λ (k : Option Answer). IsSure h side path requests place watches (last old) k) (sym g) a.1.1),
  ),
)
ahead_same h side path requests place watches (m ∷ ms) new old l g a = (
  right_less h side path new old (l, inr g) a.0,
  behind m a.1,
  ahead_same h side path requests place watches ms (Took m ∷ new) (Took m ∷ old) (ap (λ (z : ℕ). max (zxid_in (Took m)) z) l)
      (ap (λ (k : Option Answer). kept_after side path (Took m) k) g) a.2,
)
  where
    behind : (m : Message) → is_behind old m ≡ false → is_behind new m ≡ false
    behind (Replies q z r) b = rw l b
    behind _ b = refl
