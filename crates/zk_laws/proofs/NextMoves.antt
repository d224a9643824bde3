-- A server that goes on to the next transaction keeps what is ahead of the client right: each watch that is set is told about, or covers
-- the answer as it was.
use Rattle.std.proofs.Common.{ℕ, ◌≡◌, List, [], ◌++◌, refl, ap, sym, ◌∙◌, subst, inl}
use Rattle.std.proofs.Common.{inr, ◌⊎◌, arith, Option, Some, None, map, suc, append-nil}
use Rattle.zk_nodes.specs.Path.{Text, text_of, path_of}
use Rattle.zk_nodes.specs.History.{Tree, Transaction, apply_all, History, IsHistory, View}
use Rattle.zk_nodes.specs.History.{view}
use Rattle.zk_nodes.specs.declared.side.Side.{Side}
use Rattle.zk_laws.specs.Server.{Notice, Watches, fires_all, leaves_set_all, AreSent, tree_held}
use Rattle.zk_laws.specs.Messages.{Message, Notifies, Request}
use Rattle.zk_laws.proofs.Log.{Item, last, good}
use Rattle.zk_laws.proofs.Log.{Answer, Suits}
use Rattle.zk_laws.proofs.Invariant.{IsThere, IsRight, Ahead, IsAwaited, IsCovered, IsSure, IsSettled}
use Rattle.zk_laws.proofs.Firing.{IsTold, IsSpared, spared_all}
use Rattle.zk_laws.proofs.Stamps.{IsNextAt}
use Rattle.zk_laws.proofs.Basics.{sent_among}
use Rattle.zk_laws.proofs.Ahead.{ahead_more, right_less, told_log, told_less, told_none, notices_ahead}

pub sure_none : (h : History) (side : Side) (path : Text) (requests : List Request) (place : ℕ) (watches : Watches) (seen : ℕ)
    (k : Option Answer) → k ≡ None → IsSure h side path requests place watches seen k
sure_none h side path requests place watches seen None e = tt
sure_none h side path requests place watches seen (Some a) e = absurd cc

-- The server goes on to the next transaction.
module _ (h : History) (is : IsHistory h) (side : Side) (path : Text) (requests : List Request) (place : ℕ) (watches : Watches)
    (x : Transaction) (next : IsNextAt h place x) (sent : List Notice) (all : AreSent (fires_all x.changes watches) sent) where
  next_told : IsTold (fires_all x.changes watches) side path → IsTold sent side path
  next_told t = (t.0, sent_among (fires_all x.changes watches) sent t.0 all t.1, t.2)

  -- a covered answer is told about, or covered again
  next_covered : (named : text_of (path_of path) ≡ path) (a : Answer) → IsCovered h side (path_of path) place watches a
      → IsTold sent side path ⊎ IsCovered h side (path_of path) (suc place) (leaves_set_all x.changes watches) a
  next_covered named a c =
      go (spared_all side (path_of path) x.changes x.zxid x.time watches (tree_held h place) next.legal c.there c.watched)
    where
      go : IsTold (fires_all x.changes watches) side (text_of (path_of path)) ⊎ IsSpared side (path_of path)
          (leaves_set_all x.changes watches) (apply_all x.zxid x.time x.changes (tree_held h place)) (tree_held h place)
          → IsTold sent side path ⊎ IsCovered h side (path_of path) (suc place) (leaves_set_all x.changes watches) a
      go (inl t) = inl (next_told (subst (λ (p : Text). IsTold (fires_all x.changes watches) side p) named t))
      go (inr s) =
          let e : view side (tree_held h (suc place)) (path_of path) ≡ view side (tree_held h place) (path_of path) =
          ap (λ (t : Tree). view side t (path_of path)) next.tree ∙ s.1 in
          inr (record {
            watched = s.0;
            fits = subst (λ (v : View). Suits a v) (sym e) c.fits;
            there = subst (λ (v : View). IsThere side v) (sym e) c.there;
          })

  next_sure : (log : List Item) → IsRight h side path log → (k : Option Answer)
      → good side path log ≡ k → IsSure h side path requests place watches (last log) k
      → IsSure h side path requests (suc place) (leaves_set_all x.changes watches) (last (told_log sent log))
      (good side path (told_log sent log))
  next_sure log right k e sure = go (told_less side path sent log).1 k e sure
    where
      seen : last (told_log sent log) ≡ last log
      seen = (told_less side path sent log).0

      none : good side path (told_log sent log) ≡ None → IsSure h side path requests (suc place) (leaves_set_all x.changes watches)
          (last (told_log sent log)) (good side path (told_log sent log))
      none n = sure_none h side path requests (suc place) (leaves_set_all x.changes watches) (last (told_log sent log))
          (good side path (told_log sent log)) n

      go : (good side path (told_log sent log) ≡ None) ⊎ (good side path (told_log sent log) ≡ good side path log) → (k : Option Answer)
          → good side path log ≡ k
          → IsSure h side path requests place watches (last log) k
          → IsSure h side path requests (suc place) (leaves_set_all x.changes watches) (last (told_log sent log))
          (good side path (told_log sent log))
      go (inl n) k e sure = none n
      go (inr s) None e sure = none (s ∙ e)
      go (inr s) (Some a) e (inl c) = on (next_covered (right a e).1 a c)
        where
          on : IsTold sent side path ⊎ IsCovered h side (path_of path) (suc place) (leaves_set_all x.changes watches) a
              → IsSure h side path requests (suc place) (leaves_set_all x.changes watches) (last (told_log sent log))
              (good side path (told_log sent log))
          on (inl t) = none (told_none side path sent log t)
          on (inr d) = subst (λ (o : Option Answer).
              IsSure h side path requests (suc place) (leaves_set_all x.changes watches) (last (told_log sent log)) o) (sym (s ∙ e)) (inl d)
      go (inr s) (Some a) e (inr w) =
          subst (λ (o : Option Answer).
          IsSure h side path requests (suc place) (leaves_set_all x.changes watches) (last (told_log sent log)) o) (sym (s ∙ e))
          (inr (subst (λ (z : ℕ). IsAwaited side path a z requests) (sym seen) w))

  pub next_ahead : (ms : List Message) (log : List Item) → Ahead h side path ms log (IsSettled h side path requests place watches)
      → Ahead h side path (ms ++ map Notifies sent) log (IsSettled h side path requests (suc place) (leaves_set_all x.changes watches))
  next_ahead ms log a = ahead_more h side path ms (map Notifies sent) log (IsSettled h side path requests place watches)
      (IsSettled h side path requests (suc place) (leaves_set_all x.changes watches)) a (λ l right end.
      let less = told_less side path sent l in
      let e : map Notifies sent ++ [] ≡ map Notifies sent = append-nil (map Notifies sent) in
      let low = end.0 in let up = next.above in let at = next.zxid in let seen = less.0 in
      let end' : IsSettled h side path requests (suc place) (leaves_set_all x.changes watches) (told_log sent l) =
      (omega arith, next_sure l right (good side path l) refl end.1) in
      subst (λ (ms' : List Message).
      Ahead h side path ms' l (IsSettled h side path requests (suc place) (leaves_set_all x.changes watches))) e
      (notices_ahead h side path sent [] l (IsSettled h side path requests (suc place) (leaves_set_all x.changes watches)) right
      (right_less h side path (told_log sent l) l less right, end')))
