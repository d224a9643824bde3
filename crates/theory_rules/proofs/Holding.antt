-- What a server holds at its place: the zxid and the tree of the last transaction that it has taken.
use Rattle.std.proofs.Common.{ℕ, ◌≡◌, List, [], ◌∷◌, ◌++◌, length, take, refl, ap, ◌∙◌}
use Rattle.zk_nodes.specs.History.{Tree, Transaction, History, apply_all, after, newest}
use Rattle.zk_laws.specs.Server.{held, tree_held, zxid_held}

newest_last : (low : ℕ) (earlier : List Transaction) (last : Transaction) → newest low (earlier ++ last ∷ []) ≡ last.zxid
newest_last low [] last = refl
newest_last low (one ∷ more) last = newest_last one.zxid more last

after_last : (earlier : List Transaction) (last : Transaction) (tree : Tree)
    → after (earlier ++ last ∷ []) tree ≡ apply_all last.zxid last.time last.changes (after earlier tree)
after_last [] last tree = refl
after_last (one ∷ more) last tree = after_last more last (apply_all one.zxid one.time one.changes tree)

pub none_tree : (h : History) → tree_held h 0 ≡ h.first
none_tree h = refl

pub none_zxid : (h : History) → zxid_held h 0 ≡ 0
none_zxid h = refl

pub last_zxid : (h : History) (place : ℕ) (earlier : List Transaction) (last : Transaction)
    → held h place ≡ earlier ++ last ∷ [] → zxid_held h place ≡ last.zxid
last_zxid h place earlier last e = ap (λ (all : List Transaction). newest 0 all) e ∙ newest_last 0 earlier last

pub last_tree : (h : History) (place : ℕ) (earlier : List Transaction) (last : Transaction) → held h place ≡ earlier ++ last ∷ []
    → tree_held h place ≡ apply_all last.zxid last.time last.changes (after earlier h.first)
last_tree h place earlier last e = ap (λ (all : List Transaction). after all h.first) e ∙ after_last earlier last h.first

take_first : (first more : List Transaction) → take (length first) (first ++ more) ≡ first
take_first [] more = refl
take_first (one ∷ first) more = ap (λ (all : List Transaction). one ∷ all) (take_first first more)

pub first_held : (h : History) (first more : List Transaction) → h.transactions ≡ first ++ more → held h (length first) ≡ first
first_held h first more e = ap (λ (all : List Transaction). take (length first) all) e ∙ take_first first more
